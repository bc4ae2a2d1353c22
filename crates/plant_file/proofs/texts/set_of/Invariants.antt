use Rattle.std.proofs.Common.{◌≡◌, map, take}
use Rattle.plant_file.proofs.texts.set_of.Given as goal

abbrev pub invariant-loop-text : goal.invariant-loop-text
invariant-loop-text l = map (λ t. t.now) l.names.items ≡ take l.text-index l.texts
