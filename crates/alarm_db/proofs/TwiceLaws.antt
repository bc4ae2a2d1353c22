-- Rows of which no two have one tag.
use Rattle.std.proofs.Common.{◌≡◌, ◌≢◌, ◌<◌, ◌+◌, ◌∷◌, ◌++◌, ◌||◌, ◌∙◌, sym, refl, arith, ℕ, zero, suc, Bool, true, false, List, [], length, Option, Some, None, get_or}
use Rattle.std.specs.Prelude.{if◌then◌else◌, AllPairs}
use Rattle.std.specs.List.{list_any}
use Rattle.std.specs.Str.{bytes_eq}
use Rattle.std.specs.Cmp.Lexicographic.{bytes_decides}
use Rattle.std.proofs.lemmas.List.Folds.{list_any-append}
use Rattle.alarm_db.specs.declared.fault.DbFault.{DbFault}
use Rattle.alarm_db.specs.declared.fault.DbFault.TheVariants as fault
use Rattle.alarm_db.specs.declared.row.DatabaseRow.{DatabaseRow}
use Rattle.alarm_db.specs.Databases.{first_twice, is_among, tags_of}

or_left : (a b : Bool) → (a || b) ≡ false → a ≡ false
or_left false b h = refl
or_left true b h = h

or_right : (a b : Bool) → (a || b) ≡ false → b ≡ false
or_right false b h = h
or_right true b h = absurd (cc h)

both : (b : Bool) → b ≡ false → b ≡ true → ⊥
both b f t = absurd (cc (sym f ∙ t))

-- no row's tag is among the earlier ones, nor is it another row's
pub record AreNew (earlier : List (List ℕ)) (rows : List DatabaseRow) : Type 0 where
  pub among : (j : ℕ) (d : DatabaseRow) → j < length rows → is_among earlier (get_or rows j d).tag ≡ false
  pub distinct : AllPairs (λ (a : DatabaseRow) (b : DatabaseRow). a.tag ≢ b.tag) rows

go_on : (b : Bool) (f : DbFault) (rest : Option DbFault) → (if b then Some f else rest) ≡ None → (b ≡ false) × (rest ≡ None)
go_on false f rest h = (refl, h)
go_on true f rest h = absurd (cc h)

-- not among some and one more
among_more : (earlier : List (List ℕ)) (tag t : List ℕ) → is_among (earlier ++ tag ∷ []) t ≡ false → (is_among earlier t ≡ false) × (tag ≢ t)
among_more earlier tag t h =
    let e = sym (list_any-append (bytes_eq t) earlier (tag ∷ [])) ∙ h in
    let last = or_left (bytes_eq t tag) false (or_right (is_among earlier t) (list_any (bytes_eq t) (tag ∷ [])) e) in
    (or_left (is_among earlier t) (list_any (bytes_eq t) (tag ∷ [])) e, λ same. both (bytes_eq t tag) last ((bytes_decides t tag).1 (sym same)))

first_among : (earlier : List (List ℕ)) (row : DatabaseRow) (rows : List DatabaseRow) → is_among earlier row.tag ≡ false → AreNew (earlier ++ row.tag ∷ []) rows
    → (j : ℕ) (d : DatabaseRow) → j < length (row ∷ rows) → is_among earlier (get_or (row ∷ rows) j d).tag ≡ false
first_among earlier row rows new rest zero d lt = new
first_among earlier row rows new rest (suc j) d lt = (among_more earlier row.tag (get_or rows j d).tag (rest.among j d (omega arith))).0

first_distinct : (earlier : List (List ℕ)) (row : DatabaseRow) (rows : List DatabaseRow) → AreNew (earlier ++ row.tag ∷ []) rows
    → (i j : ℕ) (d : DatabaseRow) → i < j → j < length (row ∷ rows) → (get_or (row ∷ rows) i d).tag ≢ (get_or (row ∷ rows) j d).tag
first_distinct earlier row rows rest zero zero d below lt = absurd (omega arith)
first_distinct earlier row rows rest (suc i) zero d below lt = absurd (omega arith)
first_distinct earlier row rows rest zero (suc j) d below lt = (among_more earlier row.tag (get_or rows j d).tag (rest.among j d (omega arith))).1
first_distinct earlier row rows rest (suc i) (suc j) d below lt = rest.distinct i j d (omega arith) (omega arith)

pub rows_new : (earlier : List (List ℕ)) (rows : List DatabaseRow) → first_twice earlier (tags_of rows) ≡ None → AreNew earlier rows
rows_new earlier [] h = record { among = λ j d lt. absurd (omega arith); distinct = λ i j d below lt. absurd (omega arith) }
rows_new earlier (row ∷ rows) h =
    let g = go_on (is_among earlier row.tag) (fault.Twice (length earlier + 1)) (first_twice (earlier ++ row.tag ∷ []) (tags_of rows)) h in
    let rest = rows_new (earlier ++ row.tag ∷ []) rows g.1 in
    record { among = first_among earlier row rows g.0 rest; distinct = first_distinct earlier row rows rest }
