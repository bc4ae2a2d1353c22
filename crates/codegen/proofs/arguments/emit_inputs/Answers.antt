use Rattle.std.proofs.Common.{arith}
use Rattle.std.proofs.lemmas.Grind.{common_steps}
use Rattle.codegen.specs.Emission.{named}
use Rattle.codegen.proofs.Naming.{known_argument, known_input}
use Rattle.codegen.proofs.arguments.emit_inputs.Goals as goal

pub emit_expr-requires : goal.emit_expr-requires
emit_expr-requires c =
    let known = named c.args.scope.now in
    let names = known_argument known c.args.instance c.args.arguments.now c.loop-argument.argument-index c.argument-item.result c.loop-argument-test.true c.argument-item.is c.requires in
    (known_input known c.args.instance c.argument-item.result c.in-Input.name c.in-Input.expr c.in-Input.is names).1

pub emit_put-requires : goal.emit_put-requires
emit_put-requires c =
    let known = named c.args.scope.now in
    let names = known_argument known c.args.instance c.args.arguments.now c.loop-argument.argument-index c.argument-item.result c.loop-argument-test.true c.argument-item.is c.requires in
    (known_input known c.args.instance c.argument-item.result c.in-Input.name c.in-Input.expr c.in-Input.is names).0

pub returns : goal.returns
returns c = grind (arith, common_steps)
