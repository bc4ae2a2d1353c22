use Rattle.std.proofs.Common.{◌≡◌, ◌++◌, take, ◌∷◌, map}
use Rattle.std.specs.List.{flat_map}
use Rattle.serve_lines.proofs.lines.add_words.Given as goal

abbrev pub invariant-loop-field : goal.invariant-loop-field
invariant-loop-field l = l.out.items ≡ l.fn.out.items ++ (l.name ++ flat_map (λ field. 32 ∷ field) (map (λ f. f.now) (take l.field-index l.fields)))
