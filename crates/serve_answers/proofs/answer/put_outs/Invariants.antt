use Rattle.std.proofs.Common.{◌≡◌, ◌≤◌, ◌++◌, take, length}
use Rattle.serve_answers.specs.Answers.{out_lines}
use Rattle.serve_answers.proofs.answer.put_outs.Given as goal

abbrev pub invariant-loop-output : goal.invariant-loop-output
invariant-loop-output l = record {
  text : take l.end l.text.items ≡ l.fn.text.items ++ out_lines l.plant l.moment (take l.output-index l.outs);
  within : l.end ≤ length l.text.items;
}
