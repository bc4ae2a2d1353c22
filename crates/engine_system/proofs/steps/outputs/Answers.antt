use Rattle.std.proofs.Common.{length, refl, rules, arith}
use Rattle.std.proofs.lemmas.Option.{slice_get_read}
use Rattle.std.proofs.lemmas.Grind.{common_steps}
use Rattle.engine_system.proofs.steps.outputs.Goals as goal

pub of_kind-value-requires : goal.of_kind-value-requires
of_kind-value-requires c =
    let globals = c.args.globals.now in
    let at = slice_get_read globals (length globals) c.loop-i.i c.index-globals-i.result refl c.loop-i-test.true c.index-globals-i.is in
    let fits = c.requires.ranges c.loop-i.i c.index-globals-i.result at in
    search (rules, fits)

pub returns : goal.returns
returns c = grind (arith, common_steps)

pub loop-i-preserved : goal.loop-i-preserved
loop-i-preserved c = grind (arith, common_steps)
