-- A page of a journal, row by row.
use Rattle.std.proofs.Common.{◌≡◌, ◌∙◌, ap, sym, refl, subst, ℕ, suc, ◌+◌, ◌-◌, ◌≤◌, min, false, ◌&&◌, List, [], ◌∷◌, ◌++◌, length, map, Some, arith}
use Rattle.std.specs.Prelude.{nat_le, slice_get, filter}
use Rattle.std.proofs.lemmas.List.{map-append}
use Rattle.std.proofs.lemmas.Bool.Decides.{nat_tests}
use Rattle.engine.specs.Plants.{PlainPlant}
use Rattle.engine.specs.Event.{Event}
use Rattle.engine.specs.System.{System, opening_system, after_event}
use Rattle.engine.specs.Journal.{NamedEntry, NamedRow, named_text, rows_from, added_entries, added_rows, journal_from, journal_of, IsLine}
use Rattle.console_archive.specs.Pages.{is_on_page, IsPage}
use Rattle.console_archive.proofs.Numbered.{NumberedFrom, is_between, numbered_append, none_kept, same_kept, one_more, on_page}

abbrev pub number_of : NamedRow → ℕ
number_of row = row.number

-- ---- the journal is numbered from 1
length_rows : (n moment : ℕ) (entries : List NamedEntry) → length (rows_from n moment entries) ≡ length entries
length_rows n moment [] = refl
length_rows n moment (entry ∷ entries) = ap suc (length_rows (n + 1) moment entries)

numbered_rows : (n moment : ℕ) (entries : List NamedEntry) → NumberedFrom number_of n (rows_from n moment entries)
numbered_rows n moment [] = tt
numbered_rows n moment (entry ∷ entries) = (refl, numbered_rows (n + 1) moment entries)

numbered_from : (n : ℕ) (sys : System) (events : List Event) → NumberedFrom number_of n (journal_from n sys events)
numbered_from n sys [] = tt
numbered_from n sys (e ∷ events) =
    let entries = added_entries sys e in
    let rows = added_rows n sys e in
    let many : length entries ≡ length rows = sym (length_rows n (after_event sys e).moment entries) in
    let next = n + length entries in
    let same : next ≡ n + length rows = ap (λ k. n + k) many in
    let rest : NumberedFrom number_of next (journal_from next (after_event sys e) events) = numbered_from next (after_event sys e) events in
    numbered_append number_of n rows (journal_from next (after_event sys e) events) (numbered_rows n (after_event sys e).moment entries)
    (subst (λ k. NumberedFrom number_of k (journal_from next (after_event sys e) events)) same rest)

numbered_journal : (plant : PlainPlant) (history : List Event) → NumberedFrom number_of 1 (journal_of plant history)
unfolding journal_of
numbered_journal plant history = numbered_from 1 (opening_system plant) history

-- ---- so far
-- the texts of the rows from one number on up to another
abbrev pub AreTexts : PlainPlant → List Event → ℕ → ℕ → List (List ℕ) → Type 0
AreTexts plant history from last texts = texts ≡ map (named_text plant.epoch) (filter (is_between number_of from last) (journal_of plant history))

none_before : (from m : ℕ) → 1 ≤ m → (nat_le from m && nat_le m (from - 1)) ≡ false
none_before from m first = grind (arith, nat_tests)

pub page_none : (plant : PlainPlant) (history : List Event) (from : ℕ) → AreTexts plant history from (from - 1) []
page_none plant history from =
    let none : filter (is_between number_of from (from - 1)) (journal_of plant history) ≡ [] =
    none_kept number_of (is_between number_of from (from - 1)) 1 (journal_of plant history) (numbered_journal plant history) (λ row first. none_before from row.number first) in
    sym (ap (map (named_text plant.epoch)) none)

pub page_more : (plant : PlainPlant) (history : List Event) (from before : ℕ) (texts : List (List ℕ)) (text : List ℕ)
    → from - 1 ≤ before → AreTexts plant history from before texts → IsLine plant.epoch (journal_of plant history) (before + 1) text → AreTexts plant history from (before + 1) (texts ++ text ∷ [])
page_more plant history from before texts text start so_far line =
    let journal = journal_of plant history in
    let f = named_text plant.epoch in
    let kept = filter (is_between number_of from before) journal in
    let place : before + 1 - 1 ≡ before = omega arith in
    let there : slice_get journal before ≡ Some line.row = subst (λ k. slice_get journal k ≡ Some line.row) place line.row_is in
    let more : filter (is_between number_of from (before + 1)) journal ≡ kept ++ line.row ∷ [] =
    one_more number_of from 1 before before line.row journal (numbered_journal plant history) there (omega arith) (omega (arith, start)) in
    let both : texts ++ text ∷ [] ≡ map f kept ++ f line.row ∷ [] = λ i. so_far i ++ line.text_is i ∷ [] in
    both ∙ sym (map-append f kept (line.row ∷ [])) ∙ sym (ap (map f) more)

pub page_whole : (plant : PlainPlant) (history : List Event) (from n rows stop before : ℕ) (texts : List (List ℕ)) → rows ≡ length (journal_of plant history) → stop ≡ min rows (from + n - 1)
    → stop ≤ before → from - 1 ≤ before → (from - 1 ≤ stop → before ≤ stop) → AreTexts plant history from before texts → IsPage plant.epoch (journal_of plant history) from n texts
page_whole plant history from n rows stop before texts many is past start end so_far =
    let journal = journal_of plant history in
    let same : filter (is_between number_of from before) journal ≡ filter (is_on_page from n) journal =
    same_kept number_of (is_between number_of from before) (is_on_page from n) 1 journal (numbered_journal plant history)
    (λ row first last. on_page from n rows stop before row.number (omega (arith, last, many)) is first past start end) in
    so_far ∙ ap (map (named_text plant.epoch)) same
