-- The rows that are kept stay what they are where one more is kept behind them.
use Rattle.std.proofs.Common.{map, ◌≡◌, ℕ, zero, suc, ◌+◌, ◌-◌, ◌<◌, ◌≤◌, List, [], ◌∷◌, ◌++◌, length, get_or, Some, arith, refl, ap, sym, subst, ◌∙◌}
use Rattle.std.proofs.lemmas.List.{get_or_append_left, get_or_at, get_or-map, length_push, length-map, map-append}
use Rattle.std.specs.Prelude.{slice_get}
use Rattle.journal_core.specs.declared.row.Entry.{Entry}
use Rattle.journal_core.specs.declared.row.Row.{Row}
use Rattle.journal_core.specs.declared.log.ApartRow.{ApartRow}
use Rattle.journal_core.specs.declared.packing.KeptRow.{KeptRow}
use Rattle.journal_core.specs.declared.packing.KeptRow.TheVariants as kept
use Rattle.journal_core.specs.declared.row.Entry.TheVariants as entry
use Rattle.alarm_machine.specs.Codes.{PlainChange}
use Rattle.journal_core.specs.Rows.{PlainLog, IsLog, last_moment}
use Rattle.journal_core.specs.Kept.{no_row, numbered, row_of, rows_of, rows_in, unpacked, HasPlace, HavePlaces, IsKept}
use Rattle.journal_core.proofs.RowLaws.{numbered_more, in_order_more}

length_at : (apart : List ApartRow) (n : ℕ) (rows : List KeptRow) → length (rows_of apart n rows) ≡ length rows
length_at apart n [] = refl
length_at apart n (row ∷ rows) = ap suc (length_at apart (n + 1) rows)

-- there are as many rows as are kept
rows_length : (apart : List ApartRow) (rows : List KeptRow) → length (rows_of apart 0 rows) ≡ length rows
rows_length apart rows = length_at apart 0 rows

-- one more word stands for one more row
words_more : (words : List ℕ) (word : ℕ) (row : KeptRow) → unpacked word ≡ row → map unpacked (words ++ word ∷ []) ≡ map unpacked words ++ row ∷ []
words_more words word row is = map-append unpacked words (word ∷ []) ∙ ap (λ (r : KeptRow). map unpacked words ++ r ∷ []) is

-- a word that was read stands for the row of its place
word_got : (words : List ℕ) (i word : ℕ) → i < length words → word ≡ get_or words i word → unpacked word ≡ get_or (map unpacked words) i (unpacked word)
word_got words i word inside is = ap unpacked is ∙ sym (get_or-map unpacked words i word (unpacked word) inside)

-- there are as many rows as words
pub words_length : (apart : List ApartRow) (words : List ℕ) → length (rows_in apart words) ≡ length words
words_length apart words = rows_length apart (map unpacked words) ∙ length-map words unpacked

-- a row stays where one more is kept apart
row_stays : (apart : List ApartRow) (more : ApartRow) (n : ℕ) (k : KeptRow) → HasPlace (length apart) k → row_of (apart ++ more ∷ []) n k ≡ row_of apart n k
row_stays apart more n (kept.Alarm change alarm moment) has = refl
row_stays apart more n (kept.Apart place) has = ap (numbered n) (get_or_append_left apart (more ∷ []) no_row place has)

rows_stay : (apart : List ApartRow) (more : ApartRow) (n : ℕ) (rows : List KeptRow) → HavePlaces (length apart) rows → rows_of (apart ++ more ∷ []) n rows ≡ rows_of apart n rows
rows_stay apart more n [] have = refl
rows_stay apart more n (row ∷ rows) have = rw (row_stays apart more (n + 1) row have.0, rows_stay apart more (n + 1) rows have.1) refl

more_at : (apart : List ApartRow) (n : ℕ) (rows : List KeptRow) (row : KeptRow) → rows_of apart n (rows ++ row ∷ []) ≡ rows_of apart n rows ++ row_of apart (n + length rows + 1) row ∷ []
more_at apart n [] row = ap (λ k. row_of apart (k + 1) row ∷ []) (omega arith)
more_at apart n (first ∷ rows) row =
    let same : n + 1 + length rows ≡ n + length (first ∷ rows) = omega arith in
    ap (λ rest. row_of apart (n + 1) first ∷ rest) (more_at apart (n + 1) rows row ∙ ap (λ k. rows_of apart (n + 1) rows ++ row_of apart (k + 1) row ∷ []) same)

-- one more row stands behind the others, with the next number
pub rows_more : (apart : List ApartRow) (rows : List KeptRow) (row : KeptRow) → rows_of apart 0 (rows ++ row ∷ []) ≡ rows_of apart 0 rows ++ row_of apart (length rows + 1) row ∷ []
rows_more apart rows row =
    let same : 0 + length rows ≡ length rows = omega arith in
    more_at apart 0 rows row ∙ ap (λ k. rows_of apart 0 rows ++ row_of apart (k + 1) row ∷ []) same

place_more : (n : ℕ) (k : KeptRow) → HasPlace n k → HasPlace (n + 1) k
place_more n (kept.Alarm change alarm moment) has = tt
place_more n (kept.Apart place) has = omega (arith, has)

places_more : (n : ℕ) (rows : List KeptRow) → HavePlaces n rows → HavePlaces (n + 1) rows
places_more n [] have = tt
places_more n (row ∷ rows) have = (place_more n row have.0, places_more n rows have.1)

-- each is found, also the one behind them
pub within_more : (n : ℕ) (rows : List KeptRow) (row : KeptRow) → HavePlaces n rows → HasPlace n row → HavePlaces n (rows ++ row ∷ [])
within_more n [] row have has = (has, tt)
within_more n (first ∷ rows) row have has = (have.0, within_more n rows row have.1 has)

-- a log as contracts see it
abbrev pub log_of : List Row → ℕ → PlainLog
log_of rows room = record { rows = rows; room = room }

-- rows with one more behind them, of this moment and this entry
abbrev pub with_entry : List Row → ℕ → Entry → List Row
with_entry rows moment entry = rows ++ record { number = length rows + 1; moment = moment; entry = entry } ∷ []

-- one more row, which stands in its word
pub change_seen : (apart : List ApartRow) (words : List ℕ) (moment alarm word : ℕ) (change : PlainChange) → unpacked word ≡ kept.Alarm change alarm moment →
    rows_in apart (words ++ word ∷ []) ≡ with_entry (rows_in apart words) moment (entry.Alarm alarm change)
change_seen apart words moment alarm word change is =
    let row : KeptRow = kept.Alarm change alarm moment in
    let rows : List KeptRow = map unpacked words in
    ap (rows_of apart 0) (words_more words word row is)
    ∙ rows_more apart rows row
    ∙ ap (λ n. rows_of apart 0 rows ++ row_of apart (n + 1) row ∷ []) (sym (rows_length apart rows))

-- a row apart, by its parts
abbrev pub apart_row : ℕ → Entry → ApartRow
apart_row moment e = record { moment = moment; entry = e }

-- one more row, which is kept apart
pub apart_seen : (apart : List ApartRow) (words : List ℕ) (moment place word : ℕ) (e : Entry) → unpacked word ≡ kept.Apart place → place ≡ length apart →
    HavePlaces (length apart) (map unpacked words) → rows_in (apart ++ apart_row moment e ∷ []) (words ++ word ∷ []) ≡ with_entry (rows_in apart words) moment e
apart_seen apart words moment place word e stands is have =
    let more = apart ++ apart_row moment e ∷ [] in
    let row : KeptRow = kept.Apart place in
    let rows : List KeptRow = map unpacked words in
    let got : get_or more place no_row ≡ apart_row moment e = get_or_at apart (apart_row moment e) [] no_row place (sym is) in
    ap (rows_of more 0) (words_more words word row stands)
    ∙ rows_more more rows row
    ∙ ap (λ rs. rs ++ row_of more (length rows + 1) row ∷ []) (rows_stay apart (apart_row moment e) 0 rows have)
    ∙ ap (λ n. rows_of apart 0 rows ++ row_of more (n + 1) row ∷ []) (sym (rows_length apart rows))
    ∙ ap (λ (x : ApartRow). rows_of apart 0 rows ++ numbered (length (rows_of apart 0 rows) + 1) x ∷ []) got

-- the rows of a log with one more are those of a log
more_is_log : (rows : List Row) (moment : ℕ) (e : Entry) → IsLog rows → last_moment rows ≤ moment → IsLog (with_entry rows moment e)
more_is_log rows moment e log late = record {
  numbered = numbered_more rows _ log.numbered refl;
  in_order = in_order_more rows _ log.in_order late;
}

pub change_kept : (words : List ℕ) (apart : List ApartRow) (room m n moment alarm word : ℕ) (change : PlainChange) → unpacked word ≡ kept.Alarm change alarm moment →
    IsKept words apart room m n → 0 < room → last_moment (rows_in apart words) ≤ moment → IsKept (words ++ word ∷ []) apart (room - 1) m n
change_kept words apart room m n moment alarm word change stands is some late =
    let row : KeptRow = kept.Alarm change alarm moment in
    let long = length_push words word in
    record {
      log = rw (change_seen apart words moment alarm word change stands) (more_is_log _ moment (entry.Alarm alarm change) is.log late);
      places = rw (words_more words word row stands) (within_more (length apart) (map unpacked words) row is.places tt);
      room_for_rows = omega (arith, long, is.room_for_rows, some);
      room_apart = omega (arith, is.room_apart, some);
    }

pub apart_kept : (words : List ℕ) (apart : List ApartRow) (room m n moment place word : ℕ) (e : Entry) → unpacked word ≡ kept.Apart place → place ≡ length apart →
    IsKept words apart room m n → 0 < room → last_moment (rows_in apart words) ≤ moment → IsKept (words ++ word ∷ []) (apart ++ apart_row moment e ∷ []) (room - 1) m n
apart_kept words apart room m n moment place word e stands at is some late =
    let row : KeptRow = kept.Apart place in
    let rows : List KeptRow = map unpacked words in
    let long = length_push words word in
    let longer : length (apart ++ apart_row moment e ∷ []) ≡ length apart + 1 = length_push apart (apart_row moment e) in
    record {
      log = rw (apart_seen apart words moment place word e stands at is.places) (more_is_log _ moment e is.log late);
      places = rw (longer, words_more words word row stands) (within_more (length apart + 1) rows row (places_more (length apart) rows is.places) (omega (arith, at)));
      room_for_rows = omega (arith, long, is.room_for_rows, some);
      room_apart = omega (arith, longer, is.room_apart, some);
    }

got_at : (apart : List ApartRow) (n : ℕ) (rows : List KeptRow) (i : ℕ) (d : KeptRow) → i < length rows → slice_get (rows_of apart n rows) i ≡ Some (row_of apart (n + i + 1) (get_or rows i d))
got_at apart n [] i d inside = absurd (omega (arith, inside))
got_at apart n (row ∷ rows) zero d inside = ap (λ k. Some (row_of apart (k + 1) row)) (omega arith)
got_at apart n (row ∷ rows) (suc i) d inside =
    let same : n + 1 + i ≡ n + suc i = omega arith in
    got_at apart (n + 1) rows i d (omega (arith, inside)) ∙ ap (λ k. Some (row_of apart (k + 1) (get_or rows i d))) same

-- the row of a place
row_got : (apart : List ApartRow) (rows : List KeptRow) (i : ℕ) (d : KeptRow) → i < length rows → slice_get (rows_of apart 0 rows) i ≡ Some (row_of apart (i + 1) (get_or rows i d))
row_got apart rows i d inside =
    let same : 0 + i ≡ i = omega arith in
    got_at apart 0 rows i d inside ∙ ap (λ k. Some (row_of apart (k + 1) (get_or rows i d))) same

-- the place that a row of a log has
place_at : (n : ℕ) (rows : List KeptRow) (i : ℕ) (d : KeptRow) → HavePlaces n rows → i < length rows → HasPlace n (get_or rows i d)
place_at n [] i d have inside = absurd (omega (arith, inside))
place_at n (row ∷ rows) zero d have inside = have.0
place_at n (row ∷ rows) (suc i) d have inside = place_at n rows i d have.1 (omega (arith, inside))

-- the row of a word that was read is found
pub place_is : (n : ℕ) (words : List ℕ) (i word : ℕ) → HavePlaces n (map unpacked words) → i < length words → word ≡ get_or words i word → HasPlace n (unpacked word)
place_is n words i word have inside is =
    let among : i < length (map unpacked words) = omega (arith, length-map words unpacked, inside) in
    subst (HasPlace n) (sym (word_got words i word inside is)) (place_at n (map unpacked words) i (unpacked word) have among)

-- and stands for the row of its number
pub row_is : (apart : List ApartRow) (words : List ℕ) (number word : ℕ) → 1 ≤ number → number - 1 < length words → word ≡ get_or words (number - 1) word →
    slice_get (rows_in apart words) (number - 1) ≡ Some (row_of apart number (unpacked word))
row_is apart words number word first inside is =
    let same : number - 1 + 1 ≡ number = omega (arith, first) in
    let among : number - 1 < length (map unpacked words) = omega (arith, length-map words unpacked, inside) in
    row_got apart (map unpacked words) (number - 1) (unpacked word) among
    ∙ ap (λ (r : KeptRow). Some (row_of apart (number - 1 + 1) r)) (sym (word_got words (number - 1) word inside is))
    ∙ ap (λ n. Some (row_of apart n (unpacked word))) same
