-- Histories whose events were each taken.
use Rattle.std.proofs.Common.{◌≡◌, ℕ, ◌<◌, ◌≤◌, Bool, true, false, List, [], ◌∷◌, ◌++◌, length, fold, refl, arith, ◌∙◌, Ok, Err, if◌then◌else◌}
use Rattle.std.specs.Prelude.{nat_le}
use Rattle.std.proofs.lemmas.Bool.Decides.{nat_tests}
use Rattle.alarm_machine.specs.declared.limits.TheConstants.{LAST_MOMENT}
use Rattle.engine_system.specs.Plants.{PlainPlant, IsPlant}
use Rattle.engine_system.specs.Names.{globals_of}
use Rattle.engine_system.specs.declared.event.TheConstants.{MOST_EVENTS}
use Rattle.engine_system.specs.Reloads.{numbers_of}
use Rattle.engine_system.specs.Event.{Event}
use Rattle.engine_system.specs.Event.TheVariants as event
use Rattle.alarm_orders.specs.declared.order.Order.{Order}
use Rattle.engine_system.specs.declared.event.EngineFault.{EngineFault}
use Rattle.engine_system.specs.declared.event.EngineFault.TheVariants as refusal
use Rattle.engine_system.specs.System.{System, system, opening_system, after_event, order_event}
use Rattle.engine.specs.Lawful.{IsTaken, AreTaken, IsLawfulHistory}
use Rattle.engine_system.proofs.Images.{taken_when}
use Rattle.engine_system.proofs.FoundReload.{reload_found}
use Rattle.engine_system.proofs.Systems.{system_events}

taken_next : (s : System) (history : List Event) (e : Event) → AreTaken s history → IsTaken (fold after_event s history) e → AreTaken s (history ++ e ∷ [])
taken_next s [] e lawful taken = (taken, tt)
taken_next s (d ∷ history) e lawful taken = (lawful.0, taken_next (after_event s d) history e lawful.1 taken)

-- one more event that was taken
pub lawful_next : (plant : PlainPlant) (history : List Event) (e : Event) → IsLawfulHistory plant history → IsTaken (system plant history) e → IsLawfulHistory plant (history ++ e ∷ [])
unfolding IsLawfulHistory system
lawful_next plant history e lawful taken = taken_next (opening_system plant) history e lawful taken

pub lawful_none : (plant : PlainPlant) → IsLawfulHistory plant []
unfolding IsLawfulHistory
lawful_none plant = tt

-- what the opening system has and each event that is taken keeps, the system of every lawful history has
module _ (P : System → Type 0) (keeps : (s : System) (e : Event) → IsTaken s e → P s → P (after_event s e)) where
  kept_from : (s : System) (history : List Event) → P s → AreTaken s history → P (fold after_event s history)
  kept_from s [] p lawful = p
  kept_from s (e ∷ history) p lawful = kept_from (after_event s e) history (keeps s e lawful.0 p) lawful.1

  pub lawful_keeps : (plant : PlainPlant) (history : List Event) → P (opening_system plant) → IsLawfulHistory plant history → P (system plant history)
  unfolding IsLawfulHistory system
  lawful_keeps plant history p lawful = kept_from (opening_system plant) history p lawful

-- an order that isn't refused finds room in the history
not_full : {A : Type 0} (n : ℕ) (b : Bool) (e : EngineFault) (a : A) → nat_le MOST_EVENTS n ≡ b → (if b then Err e else Ok a) ≡ Ok a → n < MOST_EVENTS
not_full n true e a is h = absurd (cc)
not_full n false e a is h = grind (arith, nat_tests)

order_room : (s : System) (console : ℕ) (order : Order) → order_event s console order ≡ Ok (event.Order console order) → s.events < MOST_EVENTS
unfolding order_event
order_room s console order h = not_full s.events (nat_le MOST_EVENTS s.events) refusal.HistoryFull (event.Order console order) refl h

-- so a lawful history is short, and its moments are
abbrev Short : System → Type 0
Short s = (s.events ≤ MOST_EVENTS) × (s.moment ≤ LAST_MOMENT)

short_next : (s : System) (e : Event) → IsTaken s e → Short s → Short (after_event s e)
short_next s (event.Scan image t) taken short = let when = taken_when (globals_of s.plant) s.moment s.events taken.0 t t image taken.1 in (omega (arith, when.room), when.in_range)
short_next s (event.Order console order) taken short = let room = order_room s console order taken in (omega (arith, room), short.1)
short_next s (event.Reload new) taken short = let found = reload_found s.plant s.events new taken.0 in (omega (arith, found.room), short.1)

pub lawful_short : (plant : PlainPlant) (history : List Event) → IsLawfulHistory plant history → (length history ≤ 1000000) × ((system plant history).moment ≤ 4000000000000)
lawful_short plant history lawful =
    let short = lawful_keeps Short short_next plant history (omega arith, omega arith) lawful in
    let events = system_events plant history in
    (omega (arith, events, short.0), short.1)

-- the numbers of a plant's consoles are these, and its epoch is this
abbrev pub HasNumbers : List ℕ → ℕ → PlainPlant → Type 0
HasNumbers numbers epoch plant = (numbers_of plant.consoles ≡ numbers) × (plant.epoch ≡ epoch)

numbers_stay : (numbers : List ℕ) (epoch : ℕ) (s : System) (e : Event) → IsTaken s e → HasNumbers numbers epoch s.plant → HasNumbers numbers epoch (after_event s e).plant
numbers_stay numbers epoch s (event.Scan image t) taken has = has
numbers_stay numbers epoch s (event.Order console order) taken has = has
numbers_stay numbers epoch s (event.Reload new) taken has = let found = reload_found s.plant s.events new taken.0 in (found.numbers ∙ has.0, found.epoch ∙ has.1)

-- the plant after a lawful history has the consoles' numbers and the epoch of the plant before it
pub lawful_numbers : (plant : PlainPlant) (history : List Event) → IsLawfulHistory plant history → HasNumbers (numbers_of plant.consoles) plant.epoch (system plant history).plant
lawful_numbers plant history lawful =
    let numbers = numbers_of plant.consoles in
    lawful_keeps (λ s. HasNumbers numbers plant.epoch s.plant) (numbers_stay numbers plant.epoch) plant history (refl, refl) lawful

-- after a lawful history the plant keeps the rules of plants
plant_stays : (s : System) (e : Event) → IsTaken s e → IsPlant s.plant → IsPlant (after_event s e).plant
plant_stays s (event.Scan image t) taken is = is
plant_stays s (event.Order console order) taken is = is
plant_stays s (event.Reload new) taken is = taken.1

pub lawful_plant : (plant : PlainPlant) (history : List Event) → IsPlant plant → IsLawfulHistory plant history → IsPlant (system plant history).plant
lawful_plant plant history is lawful = lawful_keeps (λ s. IsPlant s.plant) plant_stays plant history is lawful
