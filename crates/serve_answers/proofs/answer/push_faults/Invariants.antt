use Rattle.std.proofs.Common.{◌≡◌, ◌++◌, ℕ, take, decimal}
use Rattle.serve_answers.specs.Answers.{spots_of, fault_lines}
use Rattle.serve_answers.proofs.answer.push_faults.Given as goal

abbrev pub invariant-loop-place : goal.invariant-loop-place
invariant-loop-place l = (t : ℕ) → l.moment ≡ decimal t → l.text.items ≡ l.fn.text.items ++ fault_lines t (spots_of l.plant.source (take l.place-index l.faults))
