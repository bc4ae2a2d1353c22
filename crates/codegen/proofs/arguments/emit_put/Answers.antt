use Rattle.std.proofs.Common.{ap, sym}
use Rattle.codegen.specs.Codes.{put_code}
use Rattle.codegen.proofs.Emitting.{nothing, no_seat}
use Rattle.codegen.proofs.arguments.emit_put.Goals as goal

pub returns-in-None : goal.returns-in-None
returns-in-None c =
    let none = no_seat c.args.scope.now.seats.now c.args.instance (sym c.in-None.ensures.lookup.0) in
    nothing c.args.out.now.items _ (ap (λ o. put_code o c.args.scope.now.base c.args.place c.args.name) none)
