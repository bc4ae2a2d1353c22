use Rattle.std.proofs.Common.{◌≡◌, drop, map, string_bytes}
use Rattle.std.specs.List.{list_all}
use Rattle.plant_types.specs.Words.{is_tag}
use Rattle.plant_file.proofs.reading.are_tags.Given as goal

abbrev pub invariant-loop-text : goal.invariant-loop-text
invariant-loop-text l = list_all is_tag (map string_bytes (drop l.text-index l.texts)) ≡ list_all is_tag (map string_bytes l.texts)
