-- What holds of the rows of a log holds with one row more; the rows of entries that are added one by one.
use Rattle.std.proofs.Common.{◌≡◌, ℕ, zero, suc, ◌+◌, ◌-◌, ◌<◌, ◌≤◌, List, [], ◌∷◌, ◌++◌, length, slice_get, slice_index_or, drop, map, Option, Some, None, arith, refl, ap, sym, ◌∙◌}
use Rattle.std.proofs.lemmas.List.{drop_more}
use Rattle.std.proofs.lemmas.Option.{slice_get_within}
use Rattle.journal_core.specs.declared.row.Row.{Row}
use Rattle.journal_core.specs.declared.row.Entry.{Entry}
use Rattle.journal_core.specs.Rows.{PlainLog, after_entry, after_entries, AreNumbered, AreInOrder, last_moment}

-- the number of a row, if there is one
abbrev number_in : Option Row → ℕ
number_in (Some row) = row.number
number_in None = 0

-- rows that are numbered from a number on stay so with one more
numbered_at : (rows : List Row) (row : Row) (from : ℕ) → ((k : ℕ) (r : Row) → slice_get rows k ≡ Some r → r.number ≡ from + k + 1) → row.number ≡ from + length rows + 1 →
    (k : ℕ) (r : Row) → slice_get (rows ++ row ∷ []) k ≡ Some r → r.number ≡ from + k + 1
numbered_at [] row from numbered is zero r e = let same : row.number ≡ r.number = ap number_in e in omega (arith, is, same)
numbered_at [] row from numbered is (suc k) r e = absurd (let h : suc k < 1 = slice_get_within (row ∷ []) (suc k) r e in omega (arith, h))
numbered_at (first ∷ rows) row from numbered is zero r e = numbered zero r e
numbered_at (first ∷ rows) row from numbered is (suc k) r e =
    let later : (j : ℕ) (s : Row) → slice_get rows j ≡ Some s → s.number ≡ from + 1 + j + 1 = λ j s f. omega (arith, numbered (suc j) s f) in
    omega (arith, numbered_at rows row (from + 1) later (omega (arith, is)) k r e)

pub numbered_more : (rows : List Row) (row : Row) → AreNumbered rows → row.number ≡ length rows + 1 → AreNumbered (rows ++ row ∷ [])
numbered_more rows row numbered is = λ k r e.
    omega (arith, numbered_at rows row 0 (λ j s f. omega (arith, numbered j s f)) (omega (arith, is)) k r e)

pub in_order_more : (rows : List Row) (row : Row) → AreInOrder rows → last_moment rows ≤ row.moment → AreInOrder (rows ++ row ∷ [])
in_order_more [] row order late = tt
in_order_more (first ∷ []) row order late = (late, tt)
in_order_more (first ∷ next ∷ rows) row order late = (order.0, in_order_more (next ∷ rows) row order.1 late)

-- the last of rows with one more is that one
last_of_more : (rows : List Row) (row : Row) → last_moment (rows ++ row ∷ []) ≡ row.moment
last_of_more [] row = refl
last_of_more (first ∷ []) row = refl
last_of_more (first ∷ next ∷ rows) row = last_of_more (next ∷ rows) row

-- what is left is added one step on, and there is room for it
pub added_more : {A : Type 0} (moment : ℕ) (new log : PlainLog) (f : A → Entry) (xs : List A) (i : ℕ) (x : A) → new ≡ after_entry moment log (f (slice_index_or xs i x)) → i < length xs →
    after_entries moment new (map f (drop (i + 1) xs)) ≡ after_entries moment log (map f (drop i xs))
added_more moment new log f xs i x is within =
    ap (λ l. after_entries moment l (map f (drop (i + 1) xs))) is ∙ sym (ap (λ ys. after_entries moment log (map f ys)) (drop_more xs i x within))

pub room_more : (moment : ℕ) (new log : PlainLog) (entry : Entry) (n i : ℕ) → new ≡ after_entry moment log entry → n ≤ log.room + i → n ≤ new.room + (i + 1)
room_more moment new log entry n i is room = let left : new.room ≡ log.room - 1 = ap (λ l. l.room) is in omega (arith, left, room)

pub last_more : (moment : ℕ) (new log : PlainLog) (entry : Entry) → new ≡ after_entry moment log entry → last_moment new.rows ≤ moment
last_more moment new log entry is =
    let last : last_moment new.rows ≡ moment = ap (λ l. last_moment l.rows) is ∙ last_of_more log.rows (record { number = length log.rows + 1; moment = moment; entry = entry }) in
    omega (arith, last)
