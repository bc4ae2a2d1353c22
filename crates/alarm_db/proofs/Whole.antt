-- The first fault of a database, from what was found in turn: first of its records' form, then of its tags.
use Rattle.std.proofs.Common.{◌≡◌, ◌≤◌, ◌∷◌, ◌∙◌, ap, refl, arith, ℕ, Bool, true, false, List, [], length, map, Option, Some, None}
use Rattle.std.specs.Prelude.{All, nat_lt, not, if◌then◌else◌}
use Rattle.std.specs.List.{list_all}
use Rattle.std.specs.Option.{option_or}
use Rattle.std.proofs.lemmas.Bool.Decides.{nat_tests}
use Rattle.std.proofs.lemmas.List.{length-map}
use Rattle.alarm_db.specs.declared.fault.DbFault.{DbFault}
use Rattle.alarm_db.specs.declared.fault.DbFault.TheVariants as fault
use Rattle.alarm_db.specs.declared.column.Version.{Version}
use Rattle.alarm_db.specs.declared.row.DatabaseRow.{DatabaseRow}
use Rattle.alarm_db.specs.Rows.{row_of, IsDatabaseRow}
use Rattle.alarm_db.specs.Databases.{first_wrong, first_twice, is_even, records_fault, rows_fault, rows_in, tags_of, version_of, Refuses, IsDatabase}
use Rattle.alarm_db.specs.Gathering.{early_fault, forms_fault}
use Rattle.alarm_db.proofs.RowLaws.{rows_formed}
use Rattle.alarm_db.proofs.TwiceLaws.{rows_new}

-- a fault is passed on
carried : (a b : Option DbFault) (f : DbFault) → (a ≡ Some f → b ≡ Some f) → Refuses a f → Refuses b f
carried a b fault.Memory on h = tt
carried a b fault.Header on h = on h
carried a b fault.TooMany on h = on h
carried a b (fault.Field n c) on h = on h
carried a b (fault.Twice n) on h = on h

-- first the fields' number, then the number of rows, then their forms, then their tags
one_of : (b many : Bool) (wrong twice : Option DbFault)
    → (if b then Some fault.Header else if many then Some fault.TooMany else option_or wrong twice) ≡ option_or (if b then Some fault.Header else if many then Some fault.TooMany else wrong) twice
one_of true many wrong twice = refl
one_of false true wrong twice = refl
one_of false false wrong twice = refl

in_turn : (all : List (List (List ℕ))) → records_fault all ≡ option_or (early_fault all) (first_twice [] (tags_of (rows_in all)))
in_turn [] = refl
in_turn (header ∷ rows) = by_version (version_of header)
  where
    by_version : (o : Option Version) → elim o [ None ↦ Some fault.Header | Some v ↦ rows_fault rows v ]
        ≡ option_or (elim o [ None ↦ Some fault.Header | Some v ↦ if not (list_all (is_even v) rows) then Some fault.Header else forms_fault v rows ]) (first_twice [] (tags_of (elim o [ None ↦ [] | Some v ↦ map (row_of v) rows ])))
    by_version None = refl
    by_version (Some v) = one_of (not (list_all (is_even v) rows)) (nat_lt 20000 (length rows)) (first_wrong v 1 rows) (first_twice [] (tags_of (map (row_of v) rows)))

pub early_carried : (all : List (List (List ℕ))) (f : DbFault) → Refuses (early_fault all) f → Refuses (records_fault all) f
early_carried all f h = carried (early_fault all) (records_fault all) f (λ e. in_turn all ∙ ap (λ o. option_or o (first_twice [] (tags_of (rows_in all)))) e) h

pub twice_carried : (all : List (List (List ℕ))) (f : DbFault) → early_fault all ≡ None → Refuses (first_twice [] (tags_of (rows_in all))) f → Refuses (records_fault all) f
twice_carried all f none h = carried (first_twice [] (tags_of (rows_in all))) (records_fault all) f (λ e. in_turn all ∙ ap (λ o. option_or o (first_twice [] (tags_of (rows_in all)))) none ∙ e) h

pub no_fault : (all : List (List (List ℕ))) → early_fault all ≡ None → first_twice [] (tags_of (rows_in all)) ≡ None → records_fault all ≡ None
no_fault all none once = in_turn all ∙ ap (λ o. option_or o (first_twice [] (tags_of (rows_in all)))) none ∙ once

-- records without such a fault are few, and each has its form
parts : (b many : Bool) (wrong : Option DbFault) → (if b then Some fault.Header else if many then Some fault.TooMany else wrong) ≡ None → (many ≡ false) × (wrong ≡ None)
parts true many wrong h = absurd (cc h)
parts false true wrong h = absurd (cc h)
parts false false wrong h = (refl, h)

few_from : {X : Type 0} (rows : List X) → nat_lt 20000 (length rows) ≡ false → length rows ≤ 20000
few_from rows h = grind (arith, nat_tests)

-- what holds of the rows that a version makes of records holds of all rows without a fault
by_rows : (P : List DatabaseRow → Type 0) (all : List (List (List ℕ))) → early_fault all ≡ None
    → ((v : Version) (rows : List (List (List ℕ))) → nat_lt 20000 (length rows) ≡ false → first_wrong v 1 rows ≡ None → P (map (row_of v) rows)) → P (rows_in all)
by_rows P [] h each = absurd (cc h)
by_rows P (header ∷ rows) h each = by_version (version_of header) h
  where
    found : Option Version → Option DbFault
    found o = elim o [ None ↦ Some fault.Header | Some v ↦ if not (list_all (is_even v) rows) then Some fault.Header else forms_fault v rows ]

    by_version : (o : Option Version) → found o ≡ None
        → P (elim o [ None ↦ [] | Some v ↦ map (row_of v) rows ])
    by_version None h = absurd (cc h)
    by_version (Some v) h = let p = parts (not (list_all (is_even v) rows)) (nat_lt 20000 (length rows)) (first_wrong v 1 rows) h in each v rows p.0 p.1

pub few_rows : (all : List (List (List ℕ))) → early_fault all ≡ None → length (rows_in all) ≤ 20000
few_rows all h = by_rows (λ rows. length rows ≤ 20000) all h (λ v rows few right. rw (length-map rows (row_of v)) (few_from rows few))

pub are_database : (all : List (List (List ℕ))) → early_fault all ≡ None → first_twice [] (tags_of (rows_in all)) ≡ None → IsDatabase (rows_in all)
are_database all h once = record {
  few = few_rows all h;
  each = by_rows (All IsDatabaseRow) all h (λ v rows few right. rows_formed v 1 rows right);
  distinct = (rows_new [] (rows_in all) once).distinct;
}
