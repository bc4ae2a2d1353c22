use Rattle.std.proofs.Common.{rules, arith}
use Rattle.engine_history.specs.Names.{globals_of}
use Rattle.engine_system.proofs.Images.{refused_scan}
use Rattle.engine_system.proofs.image.taken_image.Goals as goal

pub returns-in_err-image_of-clause-err : goal.returns-in_err-image_of-clause-err
returns-in_err-image_of-clause-err c =
    let due = refused_scan (globals_of c.args.plant.now) c.args.last c.args.events c.args.pairs.now c.args.moment c.in_err-image_of.field-0.0 (omega (arith, c.if-moment-gt-LAST_MOMENT.false)) (omega (arith, c.if-moment-last.false)) c.in_err-image_of.ensures.no_crew c.in_err-image_of.ensures.err in
    search rules
