use Rattle.std.proofs.Common.{◌≤◌, take}
use Rattle.std.specs.List.{flat_map}
use Rattle.serve_answers.specs.Listings.{HasListed, code_lines}
use Rattle.serve_answers.proofs.listings.push_codes.Given as goal

abbrev pub invariant-loop-code : goal.invariant-loop-code
invariant-loop-code l = HasListed l.fn.text.items l.text.items l.lines (flat_map (code_lines l.plant l.summary l.area l.priority) (take l.code-index l.codes)) × (l.lines ≤ l.code-index)
