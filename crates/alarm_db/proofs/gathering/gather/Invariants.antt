-- of the records so far the first tells the version, each other has a field for each of its columns, and what they give is gathered
use Rattle.std.proofs.Common.{◌≡◌, ◌∷◌, ℕ, List, true}
use Rattle.std.specs.Prelude.{Some}
use Rattle.std.specs.List.{list_all}
use Rattle.alarm_db.specs.Databases.{is_even, version_of}
use Rattle.alarm_db.specs.Gathering.{HasGathered, HasRead}
use Rattle.alarm_db.proofs.gathering.gather.Given as goal

abbrev pub invariant-records : goal.invariant-records
invariant-records l = (header : List (List ℕ)) × (rows : List (List (List ℕ))) × (version_of header ≡ Some l.version) × (list_all (is_even l.version) rows ≡ true)
    × HasRead l.fn.text (header ∷ rows) l.reader × HasGathered l.version rows l.gathered
