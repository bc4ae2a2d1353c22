use Rattle.std.proofs.Common.{◌≡◌, ◌++◌, take}
use Rattle.serve_answers.specs.Answers.{out_lines}
use Rattle.serve_answers.proofs.answer.push_outs.Given as goal

abbrev pub invariant-loop-output : goal.invariant-loop-output
invariant-loop-output l = l.text.items ≡ l.fn.text.items ++ out_lines l.plant l.moment (take l.output-index l.outs)
