use Rattle.std.proofs.Common.{◌≤◌, ◌*◌, take}
use Rattle.std.specs.List.{flat_map}
use Rattle.serve_answers.specs.Listings.{HasListed, priority_lines}
use Rattle.serve_answers.proofs.listings.push_priorities.Given as goal

abbrev pub invariant-loop-priority : goal.invariant-loop-priority
invariant-loop-priority l = HasListed l.fn.text.items l.text.items l.lines (flat_map (priority_lines l.plant l.summary l.area) (take l.priority-index l.priorities)) × (l.lines ≤ 9 * l.priority-index)
