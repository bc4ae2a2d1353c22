use Rattle.std.proofs.Common.{◌≡◌, ◌≤◌, ◌++◌, take, length}
use Rattle.serve_answers.specs.Answers.{alarm_lines}
use Rattle.serve_answers.proofs.answer.put_alarms.Given as goal

abbrev pub invariant-loop-alarm : goal.invariant-loop-alarm
invariant-loop-alarm l = record {
  text : take l.end l.text.items ≡ l.fn.text.items ++ alarm_lines l.plant l.moment (take l.alarm-index l.changes);
  within : l.end ≤ length l.text.items;
}
