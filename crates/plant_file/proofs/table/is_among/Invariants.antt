use Rattle.std.proofs.Common.{◌≡◌, drop, map}
use Rattle.std.specs.List.{list_any}
use Rattle.std.specs.Str.{bytes_eq}
use Rattle.plant_file.proofs.table.is_among.Given as goal

abbrev pub invariant-loop-known : goal.invariant-loop-known
invariant-loop-known l = list_any (bytes_eq l.key) (map (λ k. k.now) (drop l.known-index l.keys)) ≡ list_any (bytes_eq l.key) (map (λ k. k.now) l.keys)
