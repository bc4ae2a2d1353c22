-- What a reload that is taken found.
use Rattle.std.proofs.Common.{◌≡◌, ℕ, zero, suc, ◌+◌, ◌<◌, ◌≤◌, ◌≢◌, ◌==◌, Bool, true, false, ◌&&◌, not, if◌then◌else◌, List, [], ◌∷◌, ◌++◌, length, map, drop, refl, ap, sym, ◌∙◌, arith, eqb-true, eq-eqb, ne_eqb, append_assoc, append-nil, Some, Ok, Err}
use Rattle.std.specs.Prelude.{nat_le, Option, slice_get, slice_index_or}
use Rattle.std.specs.Option.{option_and_then, option_map}
use Rattle.std.proofs.lemmas.Option.{same_Some}
use Rattle.std.proofs.lemmas.List.{drop_more, drop_all}
use Rattle.std.proofs.lemmas.Bool.Decides.{nat_tests}
use Rattle.alarm_bank.specs.declared.rows.NewAlarm.{NewAlarm}
use Rattle.plant_file.specs.declared.console.ListedConsole.{ListedConsole}
use Rattle.engine_history.specs.AlarmRow.{AlarmRow}
use Rattle.engine_history.specs.Plants.{PlainPlant}
use Rattle.engine_history.specs.declared.event.Event.TheVariants as event
use Rattle.engine_system.specs.declared.event.TheConstants.{MOST_EVENTS}
use Rattle.engine_system.specs.declared.event.EngineFault.TheVariants as refusal
use Rattle.engine_system.specs.Reloads.{kept_number, new_of, numbers_of, same_numbers}
use Rattle.engine_system.specs.System.{taken_reload}

head_same : (a b : Bool) → (a && b) ≡ true → a ≡ true
head_same true b h = refl
head_same false b h = h

rest_same : (a b : Bool) → (a && b) ≡ true → b ≡ true
rest_same true b h = h
rest_same false b h = absurd (cc)

-- lists with the same numbers are the same
numbers_are : (ms ns : List ℕ) → same_numbers ms ns ≡ true → ns ≡ ms
numbers_are [] [] h = refl
numbers_are [] (n ∷ ns) h = absurd (cc)
numbers_are (m ∷ ms) [] h = absurd (cc)
numbers_are (m ∷ ms) (n ∷ ns) h =
    let first = sym (eqb-true m n (head_same (m == n) (same_numbers ms ns) h)) in
    let rest = numbers_are ms ns (rest_same (m == n) (same_numbers ms ns) h) in
    λ i. first i ∷ rest i

none_and : (b : Bool) → (b && false) ≡ false
none_and true = refl
none_and false = refl

-- lists of different lengths have different numbers
pub numbers_apart : (ms ns : List ℕ) → length ms ≢ length ns → same_numbers ms ns ≡ false
numbers_apart [] [] h = absurd (h refl)
numbers_apart [] (n ∷ ns) h = refl
numbers_apart (m ∷ ms) [] h = refl
numbers_apart (m ∷ ms) (n ∷ ns) h = ap (λ (b : Bool). (m == n) && b) (numbers_apart ms ns (λ e. h (ap suc e))) ∙ none_and (m == n)

-- from a number on, console by console
pub numbers_next : (old new : List ListedConsole) (n : ℕ) (d : ListedConsole) → n < length old → n < length new → (slice_index_or old n d).number ≡ (slice_index_or new n d).number
    → same_numbers (numbers_of (drop n old)) (numbers_of (drop n new)) ≡ same_numbers (numbers_of (drop (n + 1) old)) (numbers_of (drop (n + 1) new))
numbers_next old new n d h g same =
    (λ i. same_numbers (numbers_of (drop_more old n d h i)) (numbers_of (drop_more new n d g i)))
    ∙ ap (λ (b : Bool). b && same_numbers (numbers_of (drop (n + 1) old)) (numbers_of (drop (n + 1) new))) (eq-eqb (slice_index_or old n d).number (slice_index_or new n d).number same)

pub numbers_differ : (old new : List ListedConsole) (n : ℕ) (d : ListedConsole) → n < length old → n < length new → (slice_index_or old n d).number ≢ (slice_index_or new n d).number
    → same_numbers (numbers_of (drop n old)) (numbers_of (drop n new)) ≡ false
numbers_differ old new n d h g other =
    (λ i. same_numbers (numbers_of (drop_more old n d h i)) (numbers_of (drop_more new n d g i)))
    ∙ ap (λ (b : Bool). b && same_numbers (numbers_of (drop (n + 1) old)) (numbers_of (drop (n + 1) new))) (ne_eqb (slice_index_or old n d).number (slice_index_or new n d).number other)

pub numbers_end : (old new : List ListedConsole) (n : ℕ) → length old ≤ n → length new ≤ n → same_numbers (numbers_of (drop n old)) (numbers_of (drop n new)) ≡ true
numbers_end old new n h g = λ i. same_numbers (numbers_of (drop_all n old h i)) (numbers_of (drop_all n new g i))

-- what is made of the rows from a number on, row by row
made_tail : {X : Type 0} (f : AlarmRow → X) (rows : List AlarmRow) (n : ℕ) (x : X) → option_map f (slice_get rows n) ≡ Some x → map f (drop n rows) ≡ x ∷ map f (drop (n + 1) rows)
made_tail f [] n x at = absurd (cc (at))
made_tail f (row ∷ rows) zero x at = let is : f row ≡ x = same_Some (f row) x at in ap (λ y. y ∷ map f rows) is
made_tail f (row ∷ rows) (suc n) x at =
    let on : suc n + 1 ≡ suc (n + 1) = omega arith in
    made_tail f rows n x at ∙ ap (λ k. x ∷ map f (drop k (row ∷ rows))) (sym on)

pub made_next : {X : Type 0} (f : AlarmRow → X) (rows : List AlarmRow) (made : List X) (n : ℕ) (x : X) → option_map f (slice_get rows n) ≡ Some x
    → made ++ map f (drop n rows) ≡ (made ++ x ∷ []) ++ map f (drop (n + 1) rows)
made_next f rows made n x at = ap (λ l. made ++ l) (made_tail f rows n x at) ∙ sym (append_assoc made (x ∷ []) (map f (drop (n + 1) rows)))

pub made_end : {X : Type 0} (f : AlarmRow → X) (rows : List AlarmRow) (made : List X) (n : ℕ) → length rows ≤ n → made ++ map f (drop n rows) ≡ made
made_end f rows made n h = ap (λ (l : List AlarmRow). made ++ map f l) (drop_all n rows h) ∙ append-nil made

-- an alarm of a new plant, by its row and its number
pub new_made : (old : PlainPlant) (rows : List AlarmRow) (n : ℕ) (row : AlarmRow) (kept : Option ℕ) → slice_get rows n ≡ Some row → kept ≡ option_and_then (kept_number old) (slice_get rows n)
    → option_map (new_of old) (slice_get rows n) ≡ Some (record { site = record { area = row.area; priority = row.priority }; latching = row.latching; max_shelve_ms = row.max_shelve_ms; kept = kept })
new_made old rows n row kept at is =
    let made : Option ℕ → NewAlarm = λ k. record { site = record { area = row.area; priority = row.priority }; latching = row.latching; max_shelve_ms = row.max_shelve_ms; kept = k } in
    ap (option_map (new_of old)) at ∙ ap (λ (k : Option ℕ). Some (made k)) (sym (is ∙ ap (option_and_then (kept_number old)) at))

-- what a reload that is taken found: room in the history, and the consoles' numbers and the epoch as they were
pub record FoundReload (plant new : PlainPlant) (events : ℕ) : Type 0 where
  pub room : events < MOST_EVENTS
  pub numbers : numbers_of new.consoles ≡ numbers_of plant.consoles
  pub epoch : new.epoch ≡ plant.epoch

found : (plant new : PlainPlant) (n : ℕ) (numbers epoch full : Bool) → same_numbers (numbers_of plant.consoles) (numbers_of new.consoles) ≡ numbers → (plant.epoch == new.epoch) ≡ epoch → nat_le MOST_EVENTS n ≡ full
    → (if not numbers then Err refusal.ReloadConsoles else if not epoch then Err refusal.ReloadEpoch else if full then Err refusal.HistoryFull else Ok (event.Reload new)) ≡ Ok (event.Reload new) → FoundReload plant new n
found plant new n false epoch full are is much h = absurd (cc)
found plant new n true false full are is much h = absurd (cc)
found plant new n true true true are is much h = absurd (cc)
found plant new n true true false are is much h =
    record { room = grind (arith, nat_tests); numbers = numbers_are (numbers_of plant.consoles) (numbers_of new.consoles) are; epoch = sym (eqb-true plant.epoch new.epoch is) }

pub reload_found : (plant : PlainPlant) (n : ℕ) (new : PlainPlant) → taken_reload plant n new ≡ Ok (event.Reload new) → FoundReload plant new n
unfolding taken_reload
reload_found plant n new h =
    found plant new n (same_numbers (numbers_of plant.consoles) (numbers_of new.consoles)) (plant.epoch == new.epoch) (nat_le MOST_EVENTS n) refl refl refl h
