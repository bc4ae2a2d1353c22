-- the names that are left are those of the sources that are left
use Rattle.std.proofs.Common.{◌≡◌, drop, map}
use Rattle.plant_config.specs.Files.{same_texts}
use Rattle.plant_config.proofs.files.have_names.Given as goal

abbrev pub invariant-loop-source : goal.invariant-loop-source
invariant-loop-source l = same_texts (map (λ s. s.0.now) (drop l.source-index l.sources)) l.rest ≡ same_texts (map (λ s. s.0.now) l.sources) l.names
