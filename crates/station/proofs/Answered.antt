-- What a console was answered is among a history's entries.
use Rattle.std.proofs.Common.{◌≡◌, ℕ, ◌==◌, Bool, true, false, if◌then◌else◌, List, [], ◌∷◌, ◌++◌, length, map, Some, refl, sym, ◌∙◌, ap, inl, inr, eq-eqb, ne_eqb, eqb-true, arith}
use Rattle.std.proofs.lemmas.Bool.{cases_Bool, eqb-false}
use Rattle.std.proofs.lemmas.List.{map-append, length-map}
use mathlib.Core.List.{IsPrefix}
use Rattle.console_link.specs.declared.answer.Answer.{Answer}
use Rattle.console_recorder.specs.Event.{Event}
use Rattle.console_recorder.specs.Event.TheVariants as event
use Rattle.alarm_orders.specs.declared.order.Order.{Order}
use Rattle.console_recorder.specs.Plants.{PlainPlant}
use Rattle.console_recorder.specs.Reply.{Reply}
use Rattle.console_recorder.specs.System.{System, opening_system, after_event}
use Rattle.console_boards.specs.declared.entry.AnsweredOrder.{AnsweredOrder}
use Rattle.console_boards.specs.Counts.{answers_of as answers_shown}
use Rattle.console_boards.proofs.Counting.{counted, answers_begin}
use Rattle.console_boards.proofs.Prefixes.{prefix_of_both}
use Rattle.console_recorder.specs.Entries.{entries_from, entries_of}
use Rattle.console_operator.specs.Sights.{BoardStory, HasOrders}
use Rattle.console_recorder.specs.Parts.{answer_to, answers_from, answers_of}
use Rattle.station.specs.Stations.{board_answer, HasAnswers}

abbrev A : Type 0
A = Answer Order Reply

turned : (m n : ℕ) → (m == n) ≡ (n == m)
turned m n = elim (cases_Bool (m == n)) [
  | inl yes' ↦ yes' ∙ sym (eq-eqb n m (sym (eqb-true m n yes')))
  | inr no' ↦ no' ∙ sym (ne_eqb n m (λ e. eqb-false m n no' (sym e)))
]

-- by whether an order is this console's
one_shown : (mine : Bool) (a : A) (answers : List A) (rest : List AnsweredOrder) → map board_answer answers ≡ rest → map board_answer ((if mine then a ∷ [] else []) ++ answers) ≡ (if mine then board_answer a ∷ rest else rest)
one_shown true a answers rest h = ap (λ (l : List AnsweredOrder). board_answer a ∷ l) h
one_shown false a answers rest h = h

shown_from : (n : ℕ) (sys : System) (events : List Event) → map board_answer (answers_from n sys events) ≡ answers_shown n (entries_from sys events)
shown_from n sys [] = refl
shown_from n sys (event.Scan image t ∷ events) = shown_from n (after_event sys (event.Scan image t)) events
shown_from n sys (event.Order console order ∷ events) =
    let next = after_event sys (event.Order console order) in
    let rest = answers_shown n (entries_from next events) in
    let a = answer_to sys console order in
    one_shown (console == n) a (answers_from n next events) rest (shown_from n next events) ∙ ap (λ (b : Bool). if b then board_answer a ∷ rest else rest) (turned console n)
shown_from n sys (event.Reload new ∷ events) = shown_from n (after_event sys (event.Reload new)) events

-- the answers of a history are those of its entries
all_shown : (n : ℕ) (plant : PlainPlant) (history : List Event) → map board_answer (answers_of n plant history) ≡ answers_shown n (entries_of plant history)
unfolding answers_of entries_of
all_shown n plant history = shown_from n (opening_system plant) history

pub has_answers : (n : ℕ) (plant : PlainPlant) (history : List Event) (story : BoardStory) (taken : List A) → HasOrders n (length taken) (Some story) → IsPrefix story.1 (entries_of plant history)
    → IsPrefix taken (answers_of n plant history) → HasAnswers n story.1 taken
has_answers n plant history story taken has begins took =
    let board = story.1 in
    let all = answers_shown n (entries_of plant history) in
    let mine : IsPrefix (map board_answer taken) all =
    (map board_answer took.0, sym (map-append board_answer taken took.0) ∙ (ap (λ (l : List A). map board_answer l) took.1 ∙ all_shown n plant history)) in
    prefix_of_both (map board_answer taken) (answers_shown n board) all mine (answers_begin n board (entries_of plant history) begins) (omega (arith, length-map taken board_answer, counted n board, has.1))
