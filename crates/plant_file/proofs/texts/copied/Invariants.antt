use Rattle.std.proofs.Common.{◌≡◌, take, map, string_bytes}
use Rattle.plant_file.proofs.texts.copied.Given as goal

abbrev pub invariant-loop-text : goal.invariant-loop-text
invariant-loop-text l = l.copies.items ≡ map string_bytes (take l.text-index l.texts)
