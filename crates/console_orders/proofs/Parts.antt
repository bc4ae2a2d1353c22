-- How a console's part of a history goes on.
use Rattle.std.proofs.Common.{◌≡◌, ℕ, ◌≢◌, Bool, List, [], ◌∷◌, ◌++◌, fold, ap, refl, sym, ◌∙◌, append_assoc, eq-eqb, ne_eqb, if◌then◌else◌}
use Rattle.std.proofs.lemmas.List.Sums.{fold-append}
use Rattle.console_link.specs.declared.answer.Answer.{Answer}
use Rattle.engine_system.specs.Event.{Event}
use Rattle.engine_system.specs.Event.TheVariants as event
use Rattle.alarm_orders.specs.declared.order.Order.{Order}
use Rattle.engine_system.specs.Plants.{PlainPlant}
use Rattle.engine_system.specs.declared.event.Reply.{Reply}
use Rattle.engine_system.specs.System.{System, system, after_event, opening_system}
use Rattle.console_orders.specs.Parts.{answer_to, answers_in, answers_from, answers_of, orders_in, events_by}

-- the system after more events
pub system_more : (plant : PlainPlant) (history events : List Event) → system plant (history ++ events) ≡ fold after_event (system plant history) events
unfolding system
system_more plant history events = fold-append after_event (opening_system plant) history events

-- the answers of events that come one after another
pub answers_more : (console : ℕ) (s : System) (es fs : List Event) → answers_from console s (es ++ fs) ≡ answers_from console s es ++ answers_from console (fold after_event s es) fs
answers_more console s [] fs = refl
answers_more console s (e ∷ es) fs =
    ap (λ (xs : List (Answer Order Reply)). answers_in console s e ++ xs) (answers_more console (after_event s e) es fs)
    ∙ sym (append_assoc (answers_in console s e) (answers_from console (after_event s e) es) (answers_from console (fold after_event (after_event s e) es) fs))

-- and of a history that goes on
pub part_more : (console : ℕ) (plant : PlainPlant) (history events : List Event) → answers_of console plant (history ++ events) ≡ answers_of console plant history ++ answers_from console (system plant history) events
unfolding answers_of system
part_more console plant history events = answers_more console (opening_system plant) history events

-- an order's console has one answer of it
pub one_answer : (console : ℕ) (s : System) (order : Order) → answers_in console s (event.Order console order) ≡ answer_to s console order ∷ []
one_answer console s order = ap (λ (b : Bool). if b then answer_to s console order ∷ [] else []) (eq-eqb console console refl)

-- another console has none
no_answer : (console other : ℕ) (s : System) (order : Order) → other ≢ console → answers_in console s (event.Order other order) ≡ []
no_answer console other s order apart = ap (λ (b : Bool). if b then answer_to s other order ∷ [] else []) (ne_eqb other console apart)

-- the orders of the answers to a console's orders are these orders
pub orders_answered : (console : ℕ) (s : System) (orders : List Order) → orders_in (answers_from console s (events_by console orders)) ≡ orders
orders_answered console s [] = refl
orders_answered console s (o ∷ os) =
    let next = after_event s (event.Order console o) in
    ap (λ (xs : List (Answer Order Reply)). orders_in (xs ++ answers_from console next (events_by console os))) (one_answer console s o)
    ∙ ap (λ (ps : List Order). o ∷ ps) (orders_answered console next os)

-- another console's orders have no answer for this one
pub others_unanswered : (console other : ℕ) (s : System) (orders : List Order) → other ≢ console → answers_from console s (events_by other orders) ≡ []
others_unanswered console other s [] apart = refl
others_unanswered console other s (o ∷ os) apart =
    let next = after_event s (event.Order other o) in
    ap (λ (xs : List (Answer Order Reply)). xs ++ answers_from console next (events_by other os)) (no_answer console other s o apart)
    ∙ others_unanswered console other next os apart
