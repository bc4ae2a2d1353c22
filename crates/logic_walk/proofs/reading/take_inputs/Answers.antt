use Rattle.std.proofs.Common.{arith}
use Rattle.std.proofs.lemmas.Grind.{common_steps}
use Rattle.std.proofs.lemmas.Result.{err_from_is_err_and}
use Rattle.st_tree.specs.Meaning.{Done}
use Rattle.logic_walk.proofs.Choosing.{input_trapped}
use Rattle.logic_walk.proofs.reading.take_inputs.Goals as goal

pub returns-clause-run : goal.returns-clause-run
returns-clause-run c = grind (arith, common_steps)

pub returns-in_err-value-clause-run : goal.returns-in_err-value-clause-run
returns-in_err-value-clause-run c =
    let p = err_from_is_err_and c.from_residual.result c.from_residual.ensures.1 in
    rw (p.1, p.2)
    (input_trapped 0 c.args.globals (λ k at path cells. Done cells) c.args.seats.now c.args.base c.args.statement c.args.instance c.args.arguments.now c.loop-argument.argument-index c.argument-item.result c.in-Input.name c.in-Input.expr c.loop-argument.cells
    c.outcome.result _ _ c.loop-argument-test.true c.argument-item.is c.in-Input.is c.outcome.ensures c.in_err-value.ensures.err.0 c.in_err-value.ensures.err.1 c.loop-argument.invariant)
