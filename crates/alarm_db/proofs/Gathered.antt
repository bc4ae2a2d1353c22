-- The rows of records, gathered one by one.
use Rattle.std.proofs.Common.{◌≡◌, ◌<◌, ◌≤◌, ◌+◌, ◌∷◌, ◌++◌, ◌&&◌, ◌∙◌, ap, sym, refl, arith, ℕ, Bool, Bor, true, false, List, [], length, map, Option, Some, None, inl, length-append}
use Rattle.std.specs.Prelude.{MatchBool, MatchResult, Result, Ok, Err, nat_lt, not, if◌then◌else◌}
use Rattle.std.specs.List.{list_all}
use Rattle.std.specs.Option.{is_some, option_map, option_or}
use Rattle.std.proofs.lemmas.Bool.Decides.{nat_tests}
use Rattle.std.proofs.lemmas.List.{map-append}
use Rattle.std.proofs.lemmas.List.Folds.{list_all-append}
use Rattle.csv.specs.Reading.{Reached, ReadRecord, default_config, strip_bom}
use Rattle.csv.specs.declared.parser.State.TheVariants as st
use Rattle.csv.proofs.ReadFacts.{rows-end, rows-more}
use Rattle.csv.specs.declared.reader.Reader.{Reader}
use Rattle.alarm_db.specs.declared.column.Column.{Column}
use Rattle.alarm_db.specs.declared.column.Version.{Version}
use Rattle.alarm_db.specs.declared.fault.DbFault.{DbFault}
use Rattle.alarm_db.specs.declared.fault.DbFault.TheVariants as fault
use Rattle.alarm_db.specs.declared.gathering.Gathered.{Gathered}
use Rattle.alarm_db.specs.Rows.{row_of, wrong_column}
use Rattle.alarm_db.specs.declared.row.DatabaseRow.{DatabaseRow}
use Rattle.alarm_db.specs.Databases.{first_wrong, is_even, records_of, rows_in, version_of, Refuses}
use Rattle.alarm_db.specs.Gathering.{early_fault, forms_fault, HasGathered, HasRead}
use Rattle.alarm_db.proofs.AllRecords.{are-records, begin-records}

or_none : {A : Type 0} (o : Option A) → option_or o None ≡ o
or_none None = refl
or_none (Some a) = refl

or_or : {A : Type 0} (a b c : Option A) → option_or a (option_or b c) ≡ option_or (option_or a b) c
or_or None b c = refl
or_or (Some a) b c = refl

-- the first fault of rows and one more
wrong_more : (v : Version) (n : ℕ) (rows : List (List (List ℕ))) (r : List (List ℕ))
    → first_wrong v n (rows ++ r ∷ []) ≡ option_or (first_wrong v n rows) (option_map (λ c. fault.Field (length rows + n) c) (wrong_column v r))
wrong_more v n [] r =
    let same : n ≡ length {A = List (List ℕ)} [] + n = omega arith in
    or_none (option_map (λ c. fault.Field n c) (wrong_column v r)) ∙ ap (λ k. option_map (λ c. fault.Field k c) (wrong_column v r)) same
wrong_more v n (row ∷ rows) r =
    let here = option_map (λ c. fault.Field n c) (wrong_column v row) in
    let same : length rows + (n + 1) ≡ length (row ∷ rows) + n = omega arith in
    ap (option_or here) (wrong_more v (n + 1) rows r ∙ ap (λ k. option_or (first_wrong v (n + 1) rows) (option_map (λ c. fault.Field k c) (wrong_column v r))) same)
    ∙ or_or here (first_wrong v (n + 1) rows) (option_map (λ c. fault.Field (length (row ∷ rows) + n) c) (wrong_column v r))

length_more : (rows : List (List (List ℕ))) (r : List (List ℕ)) → length (rows ++ r ∷ []) ≡ length rows + 1
length_more rows r = length-append rows (r ∷ [])

is_few : {X : Type 0} (rows : List X) → length rows ≤ 20000 → nat_lt 20000 (length rows) ≡ false
is_few rows few = grind (arith, nat_tests)

is_many : {X : Type 0} (rows : List X) → 20000 < length rows → nat_lt 20000 (length rows) ≡ true
is_many rows many = grind (arith, nat_tests)

forms_few : (v : Version) (rows : List (List (List ℕ))) → length rows ≤ 20000 → forms_fault v rows ≡ first_wrong v 1 rows
forms_few v rows few = ap (λ b. if b then Some fault.TooMany else first_wrong v 1 rows) (is_few rows few)

forms_many : (v : Version) (rows : List (List (List ℕ))) → 20000 < length rows → forms_fault v rows ≡ Some fault.TooMany
forms_many v rows many = ap (λ b. if b then Some fault.TooMany else first_wrong v 1 rows) (is_many rows many)

forms_more : (v : Version) (rows : List (List (List ℕ))) (r : List (List ℕ)) → length rows < 20000
    → forms_fault v (rows ++ r ∷ []) ≡ option_or (forms_fault v rows) (option_map (λ c. fault.Field (length rows + 1) c) (wrong_column v r))
forms_more v rows r few =
    let longer = length_more rows r in
    forms_few v (rows ++ r ∷ []) (omega arith) ∙ wrong_more v 1 rows r
    ∙ ap (λ o. option_or o (option_map (λ c. fault.Field (length rows + 1) c) (wrong_column v r))) (sym (forms_few v rows (omega arith)))

-- no row yet
pub none_gathered : (v : Version) (g : Gathered) → g.count ≡ 0 → g.fault ≡ None → g.rows.items ≡ [] → HasGathered v [] g
none_gathered v g count none empty = record {
  few = omega arith;
  count = λ lt. count;
  many = λ le. absurd (omega arith);
  fault_is = none;
  rows_are = λ e. empty;
}

-- one more than may be
pub one_too_many : (v : Version) (rows : List (List (List ℕ))) (r : List (List ℕ)) (g g2 : Gathered) → HasGathered v rows g → 20000 ≤ g.count → g2.count ≡ g.count → g2.fault ≡ Some fault.TooMany → HasGathered v (rows ++ r ∷ []) g2
one_too_many v rows r g g2 has full same many =
    let longer = length_more rows r in
    let long = has.many full in
    let few = has.few in
    record {
      few = omega arith;
      count = λ lt. absurd (omega arith);
      many = λ le. omega arith;
      fault_is = many ∙ sym (forms_many v (rows ++ r ∷ []) (omega arith));
      rows_are = λ e. absurd (cc (sym many ∙ e));
    }

some_of : (o : Option DbFault) → is_some o ≡ true → (f : DbFault) × (o ≡ Some f)
some_of None h = absurd (cc h)
some_of (Some f) h = (f, refl)

pub none_of : (o : Option DbFault) → is_some o ≡ false → o ≡ None
none_of None h = refl
none_of (Some f) h = absurd (cc h)

-- one more behind a fault
pub one_behind : (v : Version) (rows : List (List (List ℕ))) (r : List (List ℕ)) (g g2 : Gathered) → HasGathered v rows g → g.count < 20000 → g2.count ≡ g.count + 1 → is_some g.fault ≡ true → g2.fault ≡ g.fault → HasGathered v (rows ++ r ∷ []) g2
one_behind v rows r g g2 has room more is same =
    let faulty = (some_of g.fault is).1 in
    let longer = length_more rows r in
    let count = has.count room in
    record {
      few = omega arith;
      count = λ lt. omega arith;
      many = λ le. omega arith;
      fault_is = same ∙ faulty ∙ sym (forms_more v rows r (omega arith) ∙ ap (λ o. option_or o (option_map (λ c. fault.Field (length rows + 1) c) (wrong_column v r))) (sym has.fault_is ∙ faulty));
      rows_are = λ e. absurd (cc (sym (same ∙ faulty) ∙ e));
    }

-- one with a field of a wrong form, the first
pub one_wrong : (v : Version) (rows : List (List (List ℕ))) (r : List (List ℕ)) (g g2 : Gathered) (n : ℕ) (c : Column) → HasGathered v rows g → g.count < 20000 → g2.count ≡ g.count + 1 → g.fault ≡ None → wrong_column v r ≡ Some c → n ≡ g.count + 1
    → g2.fault ≡ Some (fault.Field n c) → HasGathered v (rows ++ r ∷ []) g2
one_wrong v rows r g g2 n c has room more none wrong number is =
    let longer = length_more rows r in
    let count = has.count room in
    let place : n ≡ length rows + 1 = omega arith in
    record {
      few = omega arith;
      count = λ lt. omega arith;
      many = λ le. omega arith;
      fault_is = is ∙ ap (λ k. Some (fault.Field k c)) place
          ∙ sym (forms_more v rows r (omega arith) ∙ ap (λ o. option_or o (option_map (λ c. fault.Field (length rows + 1) c) (wrong_column v r))) (sym has.fault_is ∙ none) ∙ ap (option_map (λ c. fault.Field (length rows + 1) c)) wrong);
      rows_are = λ e. absurd (cc (sym is ∙ e));
    }

-- one whose fields have their forms
pub one_right : (v : Version) (rows : List (List (List ℕ))) (r : List (List ℕ)) (g g2 : Gathered) → HasGathered v rows g → g.count < 20000 → g2.count ≡ g.count + 1 → g.fault ≡ None → wrong_column v r ≡ None → g2.fault ≡ g.fault
    → g2.rows.items ≡ g.rows.items ++ row_of v r ∷ [] → HasGathered v (rows ++ r ∷ []) g2
one_right v rows r g g2 has room more none right same added =
    let longer = length_more rows r in
    let count = has.count room in
    record {
      few = omega arith;
      count = λ lt. omega arith;
      many = λ le. omega arith;
      fault_is = same ∙ none ∙ sym (forms_more v rows r (omega arith) ∙ ap (λ o. option_or o (option_map (λ c. fault.Field (length rows + 1) c) (wrong_column v r))) (sym has.fault_is ∙ none) ∙ ap (option_map (λ c. fault.Field (length rows + 1) c)) right);
      rows_are = λ e. added ∙ ap (λ l. l ++ row_of v r ∷ []) (has.rows_are none) ∙ sym (map-append (row_of v) rows (r ∷ []));
    }

-- nothing is read yet
pub none_read : (text : List ℕ) → Reached default_config st.StartRecord (strip_bom text) [] st.StartRecord (strip_bom text)
unfolding Reached
none_read text = (refl, refl)

-- what one more read shows
pub one_read : (text : List ℕ) (records : List (List (List ℕ))) (f : List (List ℕ)) (a b : Reader (Bor (List ℕ))) (found : Bool) → HasRead text records a → ReadRecord (λ (s : Bor (List ℕ)). Some s.now) a b found f → b.first ≡ true
    → MatchBool found (HasRead text (records ++ f ∷ []) b) (records ≡ records_of text)
one_read text records f a b true has r first =
    let more = rows-more (λ (s : Bor (List ℕ)). Some s.now) a b f default_config st.StartRecord (strip_bom text) has.left records has.configured has.source has.reached r in
    record { untrimmed = r.3 ∙ has.untrimmed; ready = inl first; configured = r.2 ∙ has.configured; left = more.0; source = more.1; reached = more.2 }
one_read text records f a b false has r first =
    let end = rows-end (λ (s : Bor (List ℕ)). Some s.now) a b f default_config has.left has.configured has.source r in
    are-records default_config (strip_bom text) records (a.state, has.left, has.reached, end)

-- records whose first tells no version
pub unheaded : (text : List ℕ) (r : List (List ℕ)) (reader : Reader (Bor (List ℕ))) → HasRead text (r ∷ []) reader → version_of r ≡ None → early_fault (records_of text) ≡ Some fault.Header
unheaded text r reader has h =
    let all = begin-records default_config (strip_bom text) has.left reader.state (r ∷ []) has.reached in
    ap early_fault all.1 ∙ ap (λ o. elim o [ None ↦ Some fault.Header | Some v ↦ if not (list_all (is_even v) all.0) then Some fault.Header else forms_fault v all.0 ]) h

-- the first fault of records by the version that the first tells
early_by : (v : Version) (header : List (List ℕ)) (rows : List (List (List ℕ))) → version_of header ≡ Some v
    → early_fault (header ∷ rows) ≡ (if not (list_all (is_even v) rows) then Some fault.Header else forms_fault v rows)
early_by v header rows h = ap (λ o. elim o [ None ↦ Some fault.Header | Some v ↦ if not (list_all (is_even v) rows) then Some fault.Header else forms_fault v rows ]) h

all_false : (v : Version) (a b c : List (List (List ℕ))) → list_all (is_even v) b ≡ false → list_all (is_even v) ((a ++ b) ++ c) ≡ false
all_false v a b c h = list_all-append (is_even v) (a ++ b) c ∙ ap (λ x. x && list_all (is_even v) c) (list_all-append (is_even v) a b ∙ ap (λ x. list_all (is_even v) a && x) h ∙ and_false (list_all (is_even v) a))
  where
    and_false : (x : Bool) → (x && false) ≡ false
    and_false true = refl
    and_false false = refl

one_false : (v : Version) (r : List (List ℕ)) → is_even v r ≡ false → list_all (is_even v) (r ∷ []) ≡ false
one_false v r h = ap (λ x. x && true) h

-- records of which one doesn't have a field for each column
pub uneven : (v : Version) (text : List ℕ) (header : List (List ℕ)) (rows : List (List (List ℕ))) (r : List (List ℕ)) (reader : Reader (Bor (List ℕ))) → HasRead text ((header ∷ rows) ++ r ∷ []) reader
    → version_of header ≡ Some v → is_even v r ≡ false → early_fault (records_of text) ≡ Some fault.Header
uneven v text header rows r reader has is h =
    let all = begin-records default_config (strip_bom text) has.left reader.state ((header ∷ rows) ++ r ∷ []) has.reached in
    ap early_fault all.1 ∙ early_by v header ((rows ++ r ∷ []) ++ all.0) is
    ∙ ap (λ b. if not b then Some fault.Header else forms_fault v ((rows ++ r ∷ []) ++ all.0)) (all_false v rows (r ∷ []) all.0 (one_false v r h))

-- all records were read
pub ended : (v : Version) (text : List ℕ) (header : List (List ℕ)) (rows : List (List (List ℕ))) → (header ∷ rows) ≡ records_of text → version_of header ≡ Some v → list_all (is_even v) rows ≡ true
    → (early_fault (records_of text) ≡ forms_fault v rows) × (rows_in (records_of text) ≡ map (row_of v) rows)
ended v text header rows all is even =
    (ap early_fault (sym all) ∙ early_by v header rows is ∙ ap (λ b. if not b then Some fault.Header else forms_fault v rows) even, ap rows_in (sym all) ∙ ap (λ o. elim o [ None ↦ [] | Some v ↦ map (row_of v) rows ]) is)

refuses_first : (o : Option DbFault) (f : DbFault) → o ≡ Some f → Refuses o f
refuses_first o fault.Memory e = tt
refuses_first o fault.Header e = e
refuses_first o fault.TooMany e = e
refuses_first o (fault.Field n c) e = e
refuses_first o (fault.Twice n) e = e

-- what was gathered of all rows is what the text gives
pub told : {V : Type 0} (items : V → List DatabaseRow) (r : Result V DbFault) (v : Version) (all rows : List (List (List ℕ))) → (early_fault all ≡ forms_fault v rows) × (rows_in all ≡ map (row_of v) rows)
    → MatchResult r (λ x. (forms_fault v rows ≡ None) × (items x ≡ map (row_of v) rows)) (λ f. forms_fault v rows ≡ Some f) → MatchResult r (λ x. (early_fault all ≡ None) × (items x ≡ rows_in all)) (Refuses (early_fault all))
told items (Ok x) v all rows same h = (same.0 ∙ h.0, h.1 ∙ sym same.1)
told items (Err f) v all rows same h = refuses_first (early_fault all) f (same.0 ∙ h)

pub even_more : (v : Version) (rows : List (List (List ℕ))) (r : List (List ℕ)) → list_all (is_even v) rows ≡ true → is_even v r ≡ true → list_all (is_even v) (rows ++ r ∷ []) ≡ true
even_more v rows r even one = rw (list_all-append (is_even v) rows (r ∷ []), even, one) refl
