-- Each change in the rows since a state goes from the code that the rows before it tell.
use Rattle.std.proofs.Common.{◌≡◌, ℕ, suc, ◌+◌, ◌<◌, ◌≤◌, ◌∙◌, Bool, true, false, List, [], ◌∷◌, ◌++◌, length, refl, ap, sym, subst, arith, Some, None, if◌then◌else◌}
use Rattle.plant_types.specs.declared.values.Trap.{Trap}
use Rattle.st_tree.specs.Meaning.{Spot}
use Rattle.alarm_machine.specs.declared.states.Code.{Code}
use Rattle.alarm_machine.specs.Codes.{PlainChange, code_of, same_code}
use Rattle.alarm_machine.specs.Alarms.{PlainAlarm}
use Rattle.alarm_bank.specs.Moves.{changes_from}
use Rattle.engine_history.specs.declared.event.Event.{Event}
use Rattle.engine_history.specs.declared.event.Event.TheVariants as event
use Rattle.engine_history.specs.Reloads.{NoReload}
use Rattle.engine_history.proofs.Reloads.{stayed}
use Rattle.plant_config.specs.Plants.{PlainPlant, IsPlant}
use Rattle.plant_config.specs.Names.{tag_of}
use Rattle.engine_system.specs.System.{System, system, after_event, faults_of, changes_of}
use Rattle.engine_system.proofs.Systems.{system_alarms}
use Rattle.serve_session.specs.Journal.{NamedEntry, NamedRow, ChangeOf, fault_entries, change_entries, added_entries, rows_from, added_rows, journal_of}
use Rattle.serve_laws.proofs.Journals.{since_next}
use Rattle.serve_laws.specs.Told.{code_told, code_after, code_at, code_in, told_code, rows_since}
use Rattle.serve_laws.proofs.Tags.{AreApart, tags_apart}
use Rattle.serve_laws.proofs.Telling.{put, below, by_events, plant_since, codes_told}

-- an entry's change goes from the code that its alarm has by these codes of tags
abbrev Starts : (List ℕ → Code) → NamedEntry → Type 0
Starts codes (ChangeOf tag change) = change.from ≡ codes tag
Starts codes _ = Unit {0}

-- so does each of a list, where each leads on
abbrev Follow : (List ℕ → Code) → List NamedEntry → Type 0
Follow codes [] = Unit {0}
Follow codes (entry ∷ entries) = Starts codes entry × Follow (λ tag. code_told tag (codes tag) entry) entries

-- and each of a list of rows
abbrev RowsFollow : (List ℕ → Code) → List NamedRow → Type 0
RowsFollow codes [] = Unit {0}
RowsFollow codes (row ∷ rows) = Starts codes row.entry × RowsFollow (λ tag. code_told tag (codes tag) row.entry) rows

-- ---- one event

-- in a plant in which tags tell alarms apart
module _ (plant : PlainPlant) (apart : AreApart plant) where
  -- the change of one alarm, if there is one, and those of the alarms after it
  put_follows : (n : ℕ) (codes : List ℕ → Code) (x y : Code) (rest : List (ℕ × PlainChange)) (v : Bool) → n < length plant.alarms → x ≡ codes (tag_of plant n)
      → ((later : List ℕ → Code) → ((m : ℕ) → n < m → m < length plant.alarms → later (tag_of plant m) ≡ codes (tag_of plant m)) → Follow later (change_entries plant rest))
      → Follow codes (change_entries plant (put n rest (if v then None else Some (record { from = x; to = y }))))
  put_follows n codes x y rest true here is others = others codes (λ m h there. refl)
  put_follows n codes x y rest false here is others =
      let change : PlainChange = record { from = x; to = y } in (
        is,
        others (λ tag. code_told tag (codes tag) (ChangeOf (tag_of plant n) change))
            (λ m h there. ap (λ (w : Bool). if w then y else codes (tag_of plant m)) (apart n m here there ∙ below n m h)),
      )

  changes_follow : (n : ℕ) (codes : List ℕ → Code) (old new : List PlainAlarm) → n + length old ≤ length plant.alarms
      → ((j : ℕ) → j < length old → codes (tag_of plant (n + j)) ≡ code_at j old) → Follow codes (change_entries plant (changes_from n old new))
  changes_follow n codes [] new within are = tt
  changes_follow n codes (a ∷ old) [] within are = tt
  changes_follow n codes (a ∷ old) (b ∷ new) within are =
      let x = code_of a.state in
      let y = code_of b.state in
      let here : n + 0 ≡ n = omega arith in
      put_follows n codes x y (changes_from (n + 1) old new) (same_code x y) (omega (arith, within)) (sym (are 0 (omega arith)) ∙ ap (λ k. codes (tag_of plant k)) here)
      (λ later same. changes_follow (n + 1) later old new (omega (arith, within)) (λ j inside.
      let next : n + 1 + j ≡ n + suc j = omega arith in
      same (n + 1 + j) (omega arith) (omega (arith, within, inside)) ∙ ap (λ k. codes (tag_of plant k)) next ∙ are (suc j) (omega (arith, inside))))

faults_follow : (codes : List ℕ → Code) (faults : List (Spot × Trap)) (entries : List NamedEntry) → Follow codes entries → Follow codes (fault_entries faults ++ entries)
faults_follow codes [] entries p = p
faults_follow codes (f ∷ faults) entries p = (tt, faults_follow codes faults entries p)

event_follows : (codes : List ℕ → Code) (sys : System) (e : Event) → AreApart sys.plant → length sys.alarms ≡ length sys.plant.alarms
    → ((n : ℕ) → n < length sys.plant.alarms → codes (tag_of sys.plant n) ≡ code_at n sys.alarms) → Follow codes (added_entries sys e)
event_follows codes sys (event.Scan image t) apart many are =
    let e = event.Scan image t in
    faults_follow codes (faults_of sys e) (change_entries sys.plant (changes_of sys e))
    (changes_follow sys.plant apart 0 codes sys.alarms (after_event sys e).alarms (omega (arith, many))
    (λ j inside. let same : 0 + j ≡ j = omega arith in ap (λ k. codes (tag_of sys.plant k)) same ∙ are j (omega (arith, many, inside))))
event_follows codes sys (event.Order console order) apart many are = (
  tt,
  changes_follow sys.plant apart 0 codes sys.alarms (after_event sys (event.Order console order)).alarms (omega (arith, many))
      (λ j inside. let same : 0 + j ≡ j = omega arith in ap (λ k. codes (tag_of sys.plant k)) same ∙ are j (omega (arith, many, inside))),
)
event_follows codes sys (event.Reload new) apart many are = (tt, tt)

rows_follow : (codes : List ℕ → Code) (n moment : ℕ) (entries : List NamedEntry) → Follow codes entries → RowsFollow codes (rows_from n moment entries)
rows_follow codes n moment [] p = tt
rows_follow codes n moment (entry ∷ entries) p = (p.0, rows_follow (λ tag. code_told tag (codes tag) entry) (n + 1) moment entries p.1)

-- ---- all events

more_follow : (codes : List ℕ → Code) (xs ys : List NamedRow) → RowsFollow codes xs → RowsFollow (λ tag. code_after tag (codes tag) xs) ys → RowsFollow codes (xs ++ ys)
more_follow codes [] ys p q = q
more_follow codes (x ∷ xs) ys p q = (p.0, more_follow (λ tag. code_told tag (codes tag) x.entry) xs ys p.1 q)

-- the rows of later events without a reload follow from the codes of the state before them
abbrev Follows : PlainPlant → List Event → List Event → Type 0
Follows plant past later = NoReload later → RowsFollow (code_in (system plant past)) (rows_since plant past later)

-- codes are those of a state's alarms, by the tags of a plant
abbrev AreTold : (List ℕ → Code) → System → PlainPlant → Type 0
AreTold codes sys plant = AreApart plant × ((n : ℕ) → n < length plant.alarms → codes (tag_of plant n) ≡ code_at n sys.alarms)

follows_next : (plant : PlainPlant) (past : List Event) → AreApart (system plant past).plant → (later : List Event) (e : Event) → Follows plant past later → Follows plant past (later ++ e ∷ [])
follows_next plant past apart later e follows stays =
    let until = stayed later (e ∷ []) stays in
    let base = system plant past in
    let sys = system plant (past ++ later) in
    let rows = rows_since plant past later in
    let n = length (journal_of plant past) + 1 + length rows in
    let codes : List ℕ → Code = told_code base rows in
    let told : AreTold codes sys sys.plant =
    subst (AreTold codes sys) (sym (plant_since plant past later until)) (apart, λ k there. sym (codes_told plant past apart later until k there)) in
    subst (RowsFollow (code_in base)) (sym (since_next plant past later e))
    (more_follow (code_in base) rows (added_rows n sys e) (follows until)
    (rows_follow codes n (after_event sys e).moment (added_entries sys e) (event_follows codes sys e told.0 (system_alarms plant (past ++ later)) told.1)))

rows_since_follow : (plant : PlainPlant) (past : List Event) → AreApart (system plant past).plant → (later : List Event) → Follows plant past later
rows_since_follow plant past apart later = by_events (Follows plant past) (follows_next plant past apart) [] later (λ stays. tt)

-- a row among others
row_starts : (codes : List ℕ → Code) (before : List NamedRow) (row : NamedRow) (after : List NamedRow) → RowsFollow codes (before ++ row ∷ after) → Starts (λ tag. code_after tag (codes tag) before) row.entry
row_starts codes [] row after p = p.0
row_starts codes (b ∷ before) row after p = row_starts (λ tag. code_told tag (codes tag) b.entry) before row after p.1

pub change_starts : (plant : PlainPlant) (past later : List Event) (before : List NamedRow) (row : NamedRow) (after : List NamedRow) (tag : List ℕ) (change : PlainChange) → IsPlant (system plant past).plant → NoReload later
    → rows_since plant past later ≡ before ++ row ∷ after → row.entry ≡ ChangeOf tag change → change.from ≡ told_code (system plant past) before tag
change_starts plant past later before row after tag change plant_is stays is entry_is =
    let base = system plant past in
    subst (Starts (told_code base before)) entry_is
    (row_starts (code_in base) before row after (subst (RowsFollow (code_in base)) is (rows_since_follow plant past (tags_apart base.plant plant_is) later stays)))
