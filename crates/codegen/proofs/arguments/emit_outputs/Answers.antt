use Rattle.std.proofs.Common.{arith}
use Rattle.std.proofs.lemmas.Grind.{common_steps}
use Rattle.codegen.specs.Emission.{named}
use Rattle.codegen.proofs.Naming.{known_argument, known_output}
use Rattle.codegen.proofs.arguments.emit_outputs.Goals as goal

pub output_instr-load-requires : goal.output_instr-load-requires
output_instr-load-requires c =
    let known = named c.args.scope.now in
    let names = known_argument known c.args.instance c.args.arguments.now c.loop-argument.argument-index c.argument-item.result c.loop-argument-test.true c.argument-item.is c.requires in
    (known_output known c.args.instance c.argument-item.result c.in-Output.name c.in-Output.variable c.in-Output.is names).0

pub slot_of-slot-requires : goal.slot_of-slot-requires
slot_of-slot-requires c =
    let known = named c.args.scope.now in
    let names = known_argument known c.args.instance c.args.arguments.now c.loop-argument.argument-index c.argument-item.result c.loop-argument-test.true c.argument-item.is c.requires in
    (known_output known c.args.instance c.argument-item.result c.in-Output.name c.in-Output.variable c.in-Output.is names).1

pub loop-argument-preserved : goal.loop-argument-preserved
loop-argument-preserved c = grind (arith, common_steps)

pub returns : goal.returns
returns c = grind (arith, common_steps)
