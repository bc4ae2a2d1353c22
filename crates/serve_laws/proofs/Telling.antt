-- The rows since a state tell the code of each alarm: event by event, change by change.
use Rattle.std.proofs.Common.{◌≡◌, ℕ, zero, suc, ◌+◌, ◌<◌, ◌≤◌, Bool, true, false, List, [], ◌∷◌, ◌++◌, length, map, fold, refl, ap, sym, ◌∙◌, subst, append_assoc, append-nil, arith, eqb, Option, Some, None, if◌then◌else◌}
use Rattle.std.specs.Prelude.{slice_get, slice_index_or}
use Rattle.std.specs.Option.{option_map_or}
use Rattle.std.specs.Str.{bytes_eq}
use Rattle.std.proofs.lemmas.Option.{slice_get_within}
use Rattle.std.proofs.lemmas.Bool.{eqb-true, eq-eqb}
use Rattle.std.proofs.lemmas.Bool.Decides.{nat_tests}
use Rattle.std.proofs.lemmas.List.Sums.{fold-append}
use Rattle.plant_types.specs.declared.values.Trap.{Trap}
use Rattle.st_tree.specs.Meaning.{Spot}
use Rattle.alarm_machine.specs.declared.states.Code.{Code}
use Rattle.alarm_machine.specs.declared.states.Code.TheVariants as code
use Rattle.alarm_machine.specs.Codes.{PlainChange, code_of, rank, same_code, change_between}
use Rattle.alarm_machine.specs.Alarms.{PlainAlarm}
use Rattle.alarm_bank.specs.Moves.{changes_from}
use Rattle.engine_history.specs.declared.event.Event.{Event}
use Rattle.engine_history.specs.declared.event.Event.TheVariants as event
use Rattle.engine_history.specs.Reloads.{NoReload}
use Rattle.engine_history.proofs.Reloads.{stayed, stays_after}
use Rattle.plant_config.specs.declared.rows.AlarmRow.{AlarmRow}
use Rattle.plant_config.specs.Plants.{PlainPlant, IsPlant}
use Rattle.plant_config.specs.Names.{alarm_number, tag_of}
use Rattle.engine_system.specs.System.{System, system, opening_system, opening_alarm, after_event, faults_of, changes_of}
use Rattle.engine_system.proofs.Systems.{event_keeps_plant, system_next, system_none, system_alarms}
use Rattle.serve_session.specs.Journal.{NamedEntry, NamedRow, fault_entries, change_entries, added_entries, rows_from, added_rows, journal_of}
use Rattle.serve_laws.proofs.Journals.{since_next}
use Rattle.serve_session.specs.Listings.{all_codes}
use Rattle.serve_laws.proofs.Tags.{AreApart, tags_apart, number_of_tag}
use Rattle.serve_laws.specs.Told.{code_told, code_after, code_at, code_in, told_code, rows_since}

-- ---- codes and numbers

ranked : (c : Code) → slice_index_or all_codes (rank c) code.Norm ≡ c
ranked code.Norm = refl
ranked code.Unack = refl
ranked code.Acked = refl
ranked code.Rtnun = refl
ranked code.Latun = refl
ranked code.Latak = refl
ranked code.Shelved = refl
ranked code.Suppr = refl
ranked code.Oos = refl

same_is : (a b : Code) → same_code a b ≡ true → a ≡ b
same_is a b e = sym (ranked a) ∙ ap (λ n. slice_index_or all_codes n code.Norm) (eqb-true (rank a) (rank b) e) ∙ ranked b

pub above : (m n : ℕ) → m < n → eqb n m ≡ false
above m n h = grind (arith, nat_tests)

pub below : (m n : ℕ) → m < n → eqb m n ≡ false
below m n h = grind (arith, nat_tests)

-- ---- the changes of one event

-- the changes from a number on, by that of the first alarm and those of the others
abbrev pub put : ℕ → List (ℕ × PlainChange) → Option PlainChange → List (ℕ × PlainChange)
put n rest o = elim o [ None ↦ rest | Some change ↦ (n, change) ∷ rest ]

-- a code after a change, if there is one, of the same alarm or another
abbrev by_change : Bool → Code → Option PlainChange → Code
by_change same c None = c
by_change same c (Some change) = if same then change.to else c

other_change : (same : Bool) (c : Code) (o : Option PlainChange) → same ≡ false → by_change same c o ≡ c
other_change same c None e = refl
other_change same c (Some change) e = ap (λ (v : Bool). if v then change.to else c) e

own_change : (same : Bool) (a b : Code) (v : Bool) → same ≡ true → same_code a b ≡ v → by_change same a (if v then None else Some (record { from = a; to = b })) ≡ b
own_change same a b true e is = same_is a b is
own_change same a b false e is = ap (λ (w : Bool). if w then b else a) e

-- in a plant in which tags tell alarms apart
module _ (plant : PlainPlant) (apart : AreApart plant) where
  put_tells : (tag : List ℕ) (n : ℕ) (c : Code) (rest : List (ℕ × PlainChange)) (o : Option PlainChange)
      → fold (code_told tag) c (change_entries plant (put n rest o)) ≡ fold (code_told tag) (by_change (bytes_eq (tag_of plant n) tag) c o) (change_entries plant rest)
  put_tells tag n c rest None = refl
  put_tells tag n c rest (Some change) = refl

  -- the first change tells of its alarm, and the others go on from there
  first_tells : (tag : List ℕ) (n : ℕ) (c d : Code) (rest : List (ℕ × PlainChange)) (o : Option PlainChange) → by_change (bytes_eq (tag_of plant n) tag) c o ≡ d
      → fold (code_told tag) c (change_entries plant (put n rest o)) ≡ fold (code_told tag) d (change_entries plant rest)
  first_tells tag n c d rest o is = put_tells tag n c rest o ∙ ap (λ x. fold (code_told tag) x (change_entries plant rest)) is

  -- the changes from a number on tell nothing of an alarm before it
  below_untold : (alarm n : ℕ) (c : Code) (old new : List PlainAlarm) → alarm < n → alarm < length plant.alarms → n + length old ≤ length plant.alarms
      → fold (code_told (tag_of plant alarm)) c (change_entries plant (changes_from n old new)) ≡ c
  below_untold alarm n c [] new h there within = refl
  below_untold alarm n c (a ∷ old) [] h there within = refl
  below_untold alarm n c (a ∷ old) (b ∷ new) h there within =
      let o = change_between (code_of a.state) (code_of b.state) in
      let here : n < length plant.alarms = omega (arith, within) in
      first_tells (tag_of plant alarm) n c c (changes_from (n + 1) old new) o (other_change _ c o (apart n alarm here there ∙ above alarm n h))
      ∙ below_untold alarm (n + 1) c old new (omega (arith, h)) there (omega (arith, within))

  -- the changes lead from the code before to the code after
  changes_tell : (alarm n j : ℕ) (old new : List PlainAlarm) → alarm ≡ n + j → length new ≡ length old → alarm < length plant.alarms → n + length old ≤ length plant.alarms
      → fold (code_told (tag_of plant alarm)) (code_at j old) (change_entries plant (changes_from n old new)) ≡ code_at j new
  changes_tell alarm n j [] [] is same there within = refl
  changes_tell alarm n j [] (b ∷ new) is same there within = absurd (omega (arith, same))
  changes_tell alarm n j (a ∷ old) [] is same there within = absurd (omega (arith, same))
  changes_tell alarm n zero (a ∷ old) (b ∷ new) is same there within =
      let x = code_of a.state in
      let y = code_of b.state in
      let own : n ≡ alarm = omega (arith, is) in
      let here : n < length plant.alarms = omega (arith, within) in
      first_tells (tag_of plant alarm) n x y (changes_from (n + 1) old new) (change_between x y) (own_change _ x y (same_code x y) (apart n alarm here there ∙ eq-eqb n alarm own) refl)
      ∙ below_untold alarm (n + 1) y old new (omega (arith, is)) there (omega (arith, within))
  changes_tell alarm n (suc j) (a ∷ old) (b ∷ new) is same there within =
      let o = change_between (code_of a.state) (code_of b.state) in
      let c = code_at j old in
      let later : n < alarm = omega (arith, is) in
      let here : n < length plant.alarms = omega (arith, within) in
      first_tells (tag_of plant alarm) n c c (changes_from (n + 1) old new) o (other_change _ c o (apart n alarm here there ∙ below n alarm later))
      ∙ changes_tell alarm (n + 1) j old new (omega (arith, is)) (omega (arith, same)) there (omega (arith, within))

-- ---- one event

faults_tell_none : (tag : List ℕ) (c : Code) (faults : List (Spot × Trap)) → fold (code_told tag) c (fault_entries faults) ≡ c
faults_tell_none tag c [] = refl
faults_tell_none tag c (f ∷ faults) = faults_tell_none tag c faults

-- the entries of an event that is no reload lead from the code before it to the code after it, of an alarm of the plant that the system has
event_tells : (alarm : ℕ) (sys : System) (e : Event) → NoReload (e ∷ []) → length (after_event sys e).alarms ≡ length sys.alarms → length sys.alarms ≡ length sys.plant.alarms
    → AreApart sys.plant → alarm < length sys.plant.alarms
    → fold (code_told (tag_of sys.plant alarm)) (code_at alarm sys.alarms) (added_entries sys e) ≡ code_at alarm (after_event sys e).alarms
event_tells alarm sys (event.Scan image t) stays same many apart there =
    let e = event.Scan image t in
    let tag = tag_of sys.plant alarm in
    let c = code_at alarm sys.alarms in
    let changes = change_entries sys.plant (changes_of sys e) in
    let own : alarm ≡ 0 + alarm = omega arith in
    fold-append (code_told tag) c (fault_entries (faults_of sys e)) changes
    ∙ ap (λ x. fold (code_told tag) x changes) (faults_tell_none tag c (faults_of sys e))
    ∙ changes_tell sys.plant apart alarm 0 alarm sys.alarms (after_event sys e).alarms own same there (omega (arith, many))
event_tells alarm sys (event.Order console order) stays same many apart there =
    let own : alarm ≡ 0 + alarm = omega arith in
    changes_tell sys.plant apart alarm 0 alarm sys.alarms (after_event sys (event.Order console order)).alarms own same there (omega (arith, many))
event_tells alarm sys (event.Reload new) stays same many apart there = absurd stays

-- rows tell what their entries tell
rows_tell : (tag : List ℕ) (n moment : ℕ) (c : Code) (entries : List NamedEntry) → code_after tag c (rows_from n moment entries) ≡ fold (code_told tag) c entries
rows_tell tag n moment c [] = refl
rows_tell tag n moment c (entry ∷ entries) = rows_tell tag (n + 1) moment (code_told tag c entry) entries

-- ---- all events

-- what each event keeps, all events keep
pub by_events : (P : List Event → Type 0) → ((history : List Event) (e : Event) → P history → P (history ++ e ∷ [])) → (done rest : List Event) → P done → P (done ++ rest)
by_events P keeps done [] p = subst P (sym (append-nil done)) p
by_events P keeps done (e ∷ rest) p = subst P (append_assoc done (e ∷ []) rest) (by_events P keeps (done ++ e ∷ []) rest (keeps done e p))

-- what follows a history without a reload keeps its plant
kept_plant : (s : System) (later : List Event) → NoReload later → (fold after_event s later).plant ≡ s.plant
kept_plant s [] stays = refl
kept_plant s (e ∷ later) stays = kept_plant (after_event s e) later (stays_after (e ∷ []) later stays) ∙ event_keeps_plant s e (stayed (e ∷ []) later stays)

pub plant_since : (plant : PlainPlant) (past later : List Event) → NoReload later → (system plant (past ++ later)).plant ≡ (system plant past).plant
unfolding system
plant_since plant past later stays =
    ap (λ (s : System). s.plant) (fold-append after_event (opening_system plant) past later) ∙ kept_plant (fold after_event (opening_system plant) past) later stays

-- an alarm for each row of its database
pub as_many : (plant : PlainPlant) (past later : List Event) → NoReload later → length (system plant (past ++ later)).alarms ≡ length (system plant past).plant.alarms
as_many plant past later stays = system_alarms plant (past ++ later) ∙ ap (λ (p : PlainPlant). length p.alarms) (plant_since plant past later stays)

-- the rows of later events without a reload tell the code of each alarm that is there
abbrev pub Tells : PlainPlant → List Event → List Event → Type 0
Tells plant past later = NoReload later → (alarm : ℕ) → alarm < length (system plant past).plant.alarms
    → code_at alarm (system plant (past ++ later)).alarms ≡ code_after (tag_of (system plant past).plant alarm) (code_at alarm (system plant past).alarms) (rows_since plant past later)

tells_none : (plant : PlainPlant) (past : List Event) → Tells plant past []
tells_none plant past stays alarm there = ap (λ (h : List Event). code_at alarm (system plant h).alarms) (append-nil past)

tells_next : (plant : PlainPlant) (past : List Event) → AreApart (system plant past).plant → (later : List Event) (e : Event) → Tells plant past later → Tells plant past (later ++ e ∷ [])
tells_next plant past apart later e told stays alarm there =
    let until = stayed later (e ∷ []) stays in
    let one = stays_after later (e ∷ []) stays in
    let base = system plant past in
    let sys = system plant (past ++ later) in
    let tag = tag_of base.plant alarm in
    let c = code_at alarm base.alarms in
    let rows = rows_since plant past later in
    let n = length (journal_of plant past) + 1 + length rows in
    let next : system plant (past ++ (later ++ e ∷ [])) ≡ after_event sys e = ap (system plant) (sym (append_assoc past later (e ∷ []))) ∙ system_next plant (past ++ later) e in
    let same : length (after_event sys e).alarms ≡ length sys.alarms =
    ap (λ (s : System). length s.alarms) (sym next) ∙ as_many plant past (later ++ e ∷ []) stays ∙ sym (as_many plant past later until) in
    let led : fold (code_told tag) (code_at alarm sys.alarms) (added_entries sys e) ≡ code_at alarm (after_event sys e).alarms =
    subst (λ (p : PlainPlant). AreApart p → alarm < length p.alarms → fold (code_told (tag_of p alarm)) (code_at alarm sys.alarms) (added_entries sys e) ≡ code_at alarm (after_event sys e).alarms)
    (plant_since plant past later until) (event_tells alarm sys e one same (system_alarms plant (past ++ later))) apart there in
    sym
    (ap (code_after tag c) (since_next plant past later e)
    ∙ fold-append (λ (x : Code) (row : NamedRow). code_told tag x row.entry) c rows (added_rows n sys e)
    ∙ ap (λ x. code_after tag x (added_rows n sys e)) (sym (told until alarm there))
    ∙ rows_tell tag n (after_event sys e).moment (code_at alarm sys.alarms) (added_entries sys e)
    ∙ led
    ∙ ap (λ (s : System). code_at alarm s.alarms) (sym next))

-- the code of an alarm that is there, by its tag
pub code_in-there : (sys : System) (alarm : ℕ) → AreApart sys.plant → alarm < length sys.plant.alarms → code_in sys (tag_of sys.plant alarm) ≡ code_at alarm sys.alarms
code_in-there sys alarm apart there = ap (λ (o : Option ℕ). option_map_or (λ n. code_at n sys.alarms) o code.Norm) (number_of_tag sys.plant alarm apart there)

pub codes_told : (plant : PlainPlant) (past : List Event) → AreApart (system plant past).plant → (later : List Event) → NoReload later → (alarm : ℕ) → alarm < length (system plant past).plant.alarms
    → code_at alarm (system plant (past ++ later)).alarms ≡ told_code (system plant past) (rows_since plant past later) (tag_of (system plant past).plant alarm)
codes_told plant past apart later stays alarm there =
    let base = system plant past in
    by_events (Tells plant past) (tells_next plant past apart) [] later (tells_none plant past) stays alarm there
    ∙ ap (λ c. code_after (tag_of base.plant alarm) c (rows_since plant past later)) (sym (code_in-there base alarm apart there))

-- the code of an alarm that is there
pub code_is : (plant : PlainPlant) (past later : List Event) (alarm : ℕ) (a : PlainAlarm) → IsPlant (system plant past).plant → NoReload later → slice_get (system plant (past ++ later)).alarms alarm ≡ Some a
    → code_of a.state ≡ told_code (system plant past) (rows_since plant past later) (tag_of (system plant past).plant alarm)
code_is plant past later alarm a plant_is stays is =
    let many = as_many plant past later stays in
    let within = slice_get_within (system plant (past ++ later)).alarms alarm a is in
    sym (ap (λ (o : Option PlainAlarm). option_map_or (λ (b : PlainAlarm). code_of b.state) o code.Norm) is)
    ∙ codes_told plant past (tags_apart (system plant past).plant plant_is) later stays alarm (omega (arith, many, within))

-- before the first event every alarm is NORM
opening_code : (rows : List AlarmRow) (alarm : ℕ) → code_at alarm (map opening_alarm rows) ≡ code.Norm
opening_code [] alarm = refl
opening_code (row ∷ rows) zero = refl
opening_code (row ∷ rows) (suc alarm) = opening_code rows alarm

norm_at : (rows : List AlarmRow) (o : Option ℕ) → option_map_or (λ n. code_at n (map opening_alarm rows)) o code.Norm ≡ code.Norm
norm_at rows None = refl
norm_at rows (Some n) = opening_code rows n

pub begins_norm : (plant : PlainPlant) (tag : List ℕ) → code_in (system plant []) tag ≡ code.Norm
begins_norm plant tag = ap (λ (s : System). code_in s tag) (system_none plant) ∙ norm_at plant.alarms (alarm_number plant tag)
