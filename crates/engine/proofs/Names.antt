-- The names of rows go on by those of each event.
use Rattle.std.proofs.Common.{◌≡◌, ℕ, zero, suc, ◌+◌, ◌-◌, ◌<◌, ◌≤◌, List, [], ◌∷◌, ◌++◌, length, length-append, replicate, All, refl, ap, sym, ◌∙◌, subst, append_assoc, append-nil, arith, inl, inr, Some}
use Rattle.std.specs.Prelude.{slice_get}
use Rattle.std.proofs.lemmas.List.Elements.{All-head, All-tail}
use Rattle.std.proofs.lemmas.Option.{same_Some, slice_get_cases, slice_get_within}
use Rattle.engine_system.specs.Plants.{PlainPlant}
use Rattle.journal_core.specs.declared.row.Entry.{Entry}
use Rattle.journal_core.specs.declared.row.Entry.TheVariants as entry
use Rattle.journal_core.specs.declared.row.Row.{Row}
use Rattle.journal_core.specs.Rows.{PlainLog, after_entry, after_entries}
use Rattle.engine_system.specs.Event.{Event}
use Rattle.engine_system.specs.System.{system}
use Rattle.journal_core.specs.Bodies.{row_text}
use Rattle.engine.specs.Journal.{AreNamed, IsJournal, IsLine, IsNamed, added_entries, journal_of, name_of, named_row, row_plants}
use Rattle.engine.specs.RowNames.{HaveNames}
use Rattle.engine.proofs.Journals.{as_many_plants, get_named, plants_next, row_at}
use Rattle.engine.proofs.NamedRows.{text_same}

-- an element of two lists
of_first : {A : Type 0} (xs ys : List A) (n : ℕ) → n < length xs → slice_get (xs ++ ys) n ≡ slice_get xs n
of_first [] ys n h = absurd (omega (arith, h))
of_first (x ∷ xs) ys zero h = refl
of_first (x ∷ xs) ys (suc n) h = of_first xs ys n (omega (arith, h))

one_of : {A : Type 0} (m n : ℕ) (x y : A) → slice_get (replicate m x) n ≡ Some y → x ≡ y
one_of zero n x y at = absurd (cc (at))
one_of (suc m) zero x y at = same_Some x y at
one_of (suc m) (suc n) x y at = one_of m n x y at

of_second : {A : Type 0} (xs : List A) (m n : ℕ) (x y : A) → length xs ≤ n → slice_get (xs ++ replicate m x) n ≡ Some y → x ≡ y
of_second [] m n x y h at = one_of m n x y at
of_second (z ∷ xs) m zero x y h at = absurd (omega (arith, h))
of_second (z ∷ xs) m (suc n) x y h at = of_second xs m n x y (omega (arith, h)) at

-- rows that are added stand behind those that are there
pub rows_more : (moment : ℕ) (log : PlainLog) (entries : List Entry) → (more : List Row) × ((after_entries moment log entries).rows ≡ log.rows ++ more)
rows_more moment log [] = ([], sym (append-nil log.rows))
rows_more moment log (entry ∷ entries) =
    let row : Row = record { number = length log.rows + 1; moment = moment; entry = entry } in
    let rest = rows_more moment (after_entry moment log entry) entries in
    (row ∷ rest.0, rest.1 ∙ append_assoc log.rows (row ∷ []) rest.0)

-- rows that are added have the present plant's names
pub names_more : (plants : List PlainPlant) (rows more : List Row) (names : List (List ℕ)) (present : PlainPlant) (m : ℕ) → length plants ≡ length rows → AreNamed (plants ++ replicate m present) (rows ++ more) → HaveNames plants rows names present
    → HaveNames (plants ++ replicate m present) (rows ++ more) names present
names_more plants rows more names present m many named have =
    let both = length-append rows more in
    let older : (n : ℕ) (plant : PlainPlant) → n < length plants → slice_get (plants ++ replicate m present) n ≡ Some plant → slice_get plants n ≡ Some plant =
    λ n plant within at. sym (of_first plants (replicate m present) n within) ∙ at
    in
    let old : (n : ℕ) (row : Row) → n < length rows → slice_get (rows ++ more) n ≡ Some row → slice_get rows n ≡ Some row = λ n row within at. sym (of_first rows more n within) ∙ at in
    record {
      few = omega (arith, have.few, both);
      kept = λ n plant row plant_at row_at within.
          have.kept n plant row (older n plant (omega (arith, within, have.few, many)) plant_at) (old n row (omega (arith, within, have.few)) row_at) within;
      others = λ n plant row plant_at row_at behind. elim (slice_get_cases plants n).1 [
        | inl there ↦ have.others n plant row (older n plant there.1 plant_at) (old n row (omega (arith, there.1, many)) row_at) behind
        | inr over ↦ ap (λ (p : PlainPlant). name_of p row.entry) (of_second plants m n present plant over.0 plant_at)
      ];
      named = λ n row row_at behind. elim (slice_get_cases rows n).1 [
        | inl there ↦ have.named n row (old n row there.1 row_at) behind
        | inr over ↦ let got = get_named (plants ++ replicate m present) (rows ++ more) n row named row_at in
            subst (λ (p : PlainPlant). IsNamed p row.entry) (sym (of_second plants m n present got.0 (omega (arith, over.0, many)) got.1)) got.3
      ];
    }

-- after one more event
pub event_names : (plant : PlainPlant) (history : List Event) (e : Event) (now : PlainPlant) (names : List (List ℕ)) (moment : ℕ) (log : PlainLog) (entries : List Entry) → (system plant history).plant ≡ now → IsJournal plant history log.rows
    → IsJournal plant (history ++ e ∷ []) (after_entries moment log entries).rows → HaveNames (row_plants plant history) log.rows names now → HaveNames (row_plants plant (history ++ e ∷ [])) (after_entries moment log entries).rows names now
event_names plant history e now names moment log entries own held then have =
    let plants = row_plants plant history in
    let m = length (added_entries (system plant history) e) in
    let next : row_plants plant (history ++ e ∷ []) ≡ plants ++ replicate m now = plants_next plant history e ∙ ap (λ (p : PlainPlant). plants ++ replicate m p) own in
    let more = rows_more moment log entries in
    let named : AreNamed (plants ++ replicate m now) (log.rows ++ more.0) =
    subst (λ (rows : List Row). AreNamed (plants ++ replicate m now) rows) more.1 (subst (λ (l : List PlainPlant). AreNamed l (after_entries moment log entries).rows) next then.named)
    in
    subst (λ (l : List PlainPlant). HaveNames l (after_entries moment log entries).rows names now) (sym next)
    (subst (λ (rows : List Row). HaveNames (plants ++ replicate m now) rows names now) (sym more.1)
    (names_more plants log.rows more.0 names now m (as_many_plants plants log.rows held.named) named have))

-- a reload, whose own row has no name, where all rows before it have names that are kept
pub names_reload : (plants : List PlainPlant) (rows : List Row) (number moment kept fresh : ℕ) (names : List (List ℕ)) (old new : PlainPlant) → length names ≡ length rows
    → HaveNames plants (rows ++ record { number = number; moment = moment; entry = entry.Reload kept fresh } ∷ []) names old → HaveNames plants (rows ++ record { number = number; moment = moment; entry = entry.Reload kept fresh } ∷ []) names new
names_reload plants rows number moment kept fresh names old new all have =
    let last : Row = record { number = number; moment = moment; entry = entry.Reload kept fresh } in
    let is_last : (n : ℕ) (row : Row) → slice_get (rows ++ last ∷ []) n ≡ Some row → length names ≤ n → last ≡ row = λ n row at behind. of_second rows 1 n last row (omega (arith, behind, all)) at in
    record {
      few = have.few;
      kept = have.kept;
      others = λ n plant row plant_at row_at behind.
          subst (λ (r : Row). name_of new r.entry ≡ name_of plant r.entry) (is_last n row row_at behind) refl;
      named = λ n row row_at behind. subst (λ (r : Row). IsNamed new r.entry) (is_last n row row_at behind) tt;
    }

pub names_none : (plant : PlainPlant) → HaveNames [] [] [] plant
names_none plant = record {
  few = omega arith;
  kept = λ n p row at. absurd (cc (at));
  others = λ n p row at. absurd (cc (at));
  named = λ n row at. absurd (cc (at));
}

-- one more name that is kept
pub name_kept : (plants : List PlainPlant) (rows : List Row) (names : List (List ℕ)) (name : List ℕ) (present : PlainPlant) (row : Row) → slice_get rows (length names) ≡ Some row → name ≡ name_of present row.entry → HaveNames plants rows names present
    → HaveNames plants rows (names ++ name ∷ []) present
name_kept plants rows names name present row at is have =
    let more = length-append names (name ∷ []) in
    let within = slice_get_within rows (length names) row at in
    record {
      few = omega (arith, more, within);
      kept = λ n plant other plant_at row_at before. elim (slice_get_cases names n).1 [
        | inl there ↦ of_first names (name ∷ []) n there.1 ∙ have.kept n plant other plant_at row_at there.1
        | inr over ↦ let here : length names ≡ n = omega (arith, over.0, before, more) in
            let same : row ≡ other = same_Some row other (sym at ∙ ap (slice_get rows) here ∙ row_at) in
            ap (slice_get (names ++ name ∷ [])) (sym here) ∙ at_end names name ∙ ap Some (is ∙ ap (λ (r : Row). name_of present r.entry) same ∙ have.others n plant other plant_at row_at over.0)
      ];
      others = λ n plant other plant_at row_at behind. have.others n plant other plant_at row_at (omega (arith, behind, more));
      named = λ n other row_at behind. have.named n other row_at (omega (arith, behind, more));
    }
  where
    at_end : {A : Type 0} (xs : List A) (y : A) → slice_get (xs ++ y ∷ []) (length xs) ≡ Some y
    at_end [] y = refl
    at_end (x ∷ xs) y = at_end xs y

-- the text of a row is its line in the journal: with a name that is kept
pub kept_line : (plant : PlainPlant) (history : List Event) (rows : List Row) (names : List (List ℕ)) (present : PlainPlant) (epoch number : ℕ) (row : Row) (name text : List ℕ) → IsJournal plant history rows → HaveNames (row_plants plant history) rows names present
    → slice_get rows (number - 1) ≡ Some row → slice_get names (number - 1) ≡ Some name → text ≡ row_text epoch row name → IsLine epoch (journal_of plant history) number text
kept_line plant history rows names present epoch number row name text held have at found is =
    let got = row_at plant history rows (number - 1) row held at in
    let named : name ≡ name_of got.0 row.entry = same_Some name (name_of got.0 row.entry) (sym found ∙ have.kept (number - 1) got.0 row got.1 at (slice_get_within names (number - 1) name found)) in
    record { row = named_row got.0 row; row_is = got.2; text_is = is ∙ ap (row_text epoch row) named ∙ text_same epoch got.0 row }

-- with that of the present plant
pub other_line : (plant : PlainPlant) (history : List Event) (rows : List Row) (names : List (List ℕ)) (present : PlainPlant) (epoch number : ℕ) (row : Row) (text : List ℕ) → IsJournal plant history rows → HaveNames (row_plants plant history) rows names present
    → slice_get rows (number - 1) ≡ Some row → length names ≤ number - 1 → text ≡ row_text epoch row (name_of present row.entry) → IsLine epoch (journal_of plant history) number text
other_line plant history rows names present epoch number row text held have at behind is =
    let got = row_at plant history rows (number - 1) row held at in
    record { row = named_row got.0 row; row_is = got.2; text_is = is ∙ ap (row_text epoch row) (have.others (number - 1) got.0 row got.1 at behind) ∙ text_same epoch got.0 row }

-- a row isn't later than all of them may be
pub row_until : (rows : List Row) (m last n : ℕ) (row : Row) → All (λ row. row.moment ≤ m) rows → m ≤ last → slice_get rows n ≡ Some row → row.moment ≤ last
row_until [] m last n row until late at = absurd (cc (at))
row_until (r ∷ rows) m last zero row until late at =
    let same : r ≡ row = same_Some r row at in
    let early : r.moment ≤ m = All-head (λ (x : Row). x.moment ≤ m) r rows until in
    subst (λ (x : Row). x.moment ≤ last) same (omega (arith, early, late))
row_until (r ∷ rows) m last (suc n) row until late at = row_until rows m last n row (All-tail (λ (x : Row). x.moment ≤ m) r rows until) late at
