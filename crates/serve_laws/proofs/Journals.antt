-- The journal goes on by the rows of later events. (engine proves it of one event for itself.)
use Rattle.std.proofs.Common.{◌≡◌, ℕ, suc, ◌+◌, List, [], ◌∷◌, ◌++◌, length, fold, refl, ap, sym, ◌∙◌, append_assoc, append-nil, length-append, arith}
use Rattle.std.proofs.lemmas.List.Sums.{fold-append}
use Rattle.engine_history.specs.declared.event.Event.{Event}
use Rattle.plant_config.specs.Plants.{PlainPlant}
use Rattle.engine_system.specs.System.{System, system, opening_system, after_event}
use Rattle.serve_session.specs.Journal.{NamedEntry, NamedRow, added_entries, rows_from, added_rows, journal_from, journal_of}
use Rattle.serve_laws.specs.Told.{rows_since}

length-rows_from : (n moment : ℕ) (entries : List NamedEntry) → length (rows_from n moment entries) ≡ length entries
length-rows_from n moment [] = refl
length-rows_from n moment (entry ∷ entries) = ap suc (length-rows_from (n + 1) moment entries)

journal_more : (n : ℕ) (sys : System) (past later : List Event)
    → journal_from n sys (past ++ later) ≡ journal_from n sys past ++ journal_from (n + length (journal_from n sys past)) (fold after_event sys past) later
journal_more n sys [] later = ap (λ m. journal_from m sys later) (let h : n ≡ n + 0 = omega arith in h)
journal_more n sys (e ∷ past) later =
    let rows = added_rows n sys e in
    let m = n + length (added_entries sys e) in
    let next = after_event sys e in
    let middle = journal_from m next past in
    let last = fold after_event next past in
    let long = length-rows_from n next.moment (added_entries sys e) in
    let both = length-append rows middle in
    let same : m + length middle ≡ n + length (rows ++ middle) = omega (arith, long, both) in
    ap (λ l. rows ++ l) (journal_more m next past later)
    ∙ ap (λ k. rows ++ (middle ++ journal_from k last later)) same
    ∙ sym (append_assoc rows middle (journal_from (n + length (rows ++ middle)) last later))

-- later events add their rows
pub journal_since : (plant : PlainPlant) (past later : List Event) → journal_of plant (past ++ later) ≡ journal_of plant past ++ rows_since plant past later
unfolding journal_of system
journal_since plant past later =
    let rows = journal_from 1 (opening_system plant) past in
    let now = fold after_event (opening_system plant) past in
    let same : 1 + length rows ≡ length rows + 1 = omega arith in
    journal_more 1 (opening_system plant) past later ∙ ap (λ n. rows ++ journal_from n now later) same

-- one more event adds its rows
pub journal_next : (plant : PlainPlant) (history : List Event) (e : Event) → journal_of plant (history ++ e ∷ []) ≡ journal_of plant history ++ added_rows (length (journal_of plant history) + 1) (system plant history) e
journal_next plant history e =
    journal_since plant history (e ∷ []) ∙ ap (λ (rows : List NamedRow). journal_of plant history ++ rows) (append-nil (added_rows (length (journal_of plant history) + 1) (system plant history) e))

-- one more after these
pub since_next : (plant : PlainPlant) (past later : List Event) (e : Event) → rows_since plant past (later ++ e ∷ [])
    ≡ rows_since plant past later ++ added_rows (length (journal_of plant past) + 1 + length (rows_since plant past later)) (system plant (past ++ later)) e
unfolding system
since_next plant past later e =
    let n = length (journal_of plant past) + 1 in
    let rows = rows_since plant past later in
    let m = n + length rows in
    let last = fold after_event (fold after_event (opening_system plant) past) later in
    journal_more n (fold after_event (opening_system plant) past) later (e ∷ [])
    ∙ ap (λ (l : List NamedRow). rows ++ l) (append-nil (added_rows m last e))
    ∙ ap (λ (s : System). rows ++ added_rows m s e) (sym (fold-append after_event (opening_system plant) past later))
