-- Orders that are taken one after another.
use Rattle.std.proofs.Common.{◌≡◌, ℕ, ◌+◌, Bool, true, false, List, [], ◌∷◌, ◌++◌, ◌≤◌, fold, length, MatchBool, ap, refl, sym, ◌∙◌, subst, arith, append_assoc, append-nil}
use mathlib.Core.List.{IsPrefix}
use Rattle.std.proofs.lemmas.List.{map-append}
use Rattle.console_link.specs.declared.answer.Answer.{Answer}
use Rattle.console_link.specs.declared.lane.Lane.{Lane}
use Rattle.console_link.specs.Seats.{orders_taken, answers_given, SameLane, LaneLooked}
use Rattle.engine_system.specs.Event.{Event}
use Rattle.engine_system.specs.Event.TheVariants as event
use Rattle.alarm_orders.specs.declared.order.Order.{Order}
use Rattle.engine_system.specs.Plants.{PlainPlant}
use Rattle.engine_system.specs.declared.event.Reply.{Reply}
use Rattle.engine_system.specs.System.{system, after_event, reply_to}
use Rattle.console_orders.specs.Parts.{answer_to, answers_in, answers_from, events_by}
use Rattle.console_orders.specs.Turns.{Took, TookPart, TookParts, UnlessRefused}
use Rattle.console_orders.proofs.Parts.{system_more, answers_more, one_answer}

abbrev L : Type 0
L = Lane Order Reply

pub same_lanes : (a b c : L) → SameLane a b → SameLane b c → SameLane a c
same_lanes a b c h k = (
  k.0 ∙ h.0,
  (
    ((k.1.0.0.0 ∙ h.1.0.0.0, k.1.0.0.1 ∙ h.1.0.0.1, k.1.0.0.2 ∙ h.1.0.0.2, k.1.0.0.3 ∙ h.1.0.0.3), k.1.0.1 ∙ h.1.0.1),
    ((k.1.1.0.0 ∙ h.1.1.0.0, k.1.1.0.1 ∙ h.1.1.0.1, k.1.1.0.2 ∙ h.1.1.0.2, k.1.1.0.3 ∙ h.1.1.0.3), k.1.1.1 ∙ h.1.1.1),
  ),
  k.2 ∙ h.2,
)

pub same_lane : (a : L) → SameLane a a
same_lane a = (refl, (((refl, refl, refl, refl), refl), ((refl, refl, refl, refl), refl)), refl)

-- a look takes nothing
pub took_looked : (plant : PlainPlant) (a b : L) (history : List Event) → LaneLooked a b → b.ended ≡ a.ended → Took plant a b history history []
took_looked plant a b history looked ended = record {
  lane = looked.0;
  ended = ended;
  taken = looked.1 ∙ sym (append-nil (orders_taken a));
  given = looked.2 ∙ sym (append-nil (answers_given a));
  events = sym (append-nil history);
}

pub took_none : (plant : PlainPlant) (a : L) (history : List Event) → Took plant a a history history []
took_none plant a history = record {
  lane = same_lane a;
  ended = refl;
  taken = sym (append-nil (orders_taken a));
  given = sym (append-nil (answers_given a));
  events = sym (append-nil history);
}

-- one order is taken, and its answer given
pub took_one : (plant : PlainPlant) (a b : L) (history : List Event) (order : Order) (answer : Answer Order Reply)
    → SameLane a b → b.ended ≡ a.ended → answer.order ≡ order → answer.reply ≡ reply_to (system plant history) a.number order
    → orders_taken b ≡ orders_taken a ++ answer.order ∷ [] → answers_given b ≡ answers_given a ++ answer ∷ []
    → Took plant a b history (history ++ event.Order a.number order ∷ []) (order ∷ [])
took_one plant a b history order answer same ended order_is reply_is taken given =
    let sys = system plant history in
    let whole : answer ≡ answer_to sys a.number order = λ k. record { order = order_is k; reply = reply_is k } in
    record {
      lane = same;
      ended = ended;
      taken = taken ∙ ap (λ (o : Order). orders_taken a ++ o ∷ []) order_is;
      given = given ∙ ap (λ (x : Answer Order Reply). answers_given a ++ x ∷ []) whole ∙ ap (λ (xs : List (Answer Order Reply)). answers_given a ++ xs) (sym (append-nil (answers_in a.number sys (event.Order a.number order)) ∙ one_answer a.number sys order));
      events = refl;
    }

-- more orders after these
pub took_more : (plant : PlainPlant) (a b c : L) (old middle new : List Event) (orders more : List Order)
    → Took plant a b old middle orders → Took plant b c middle new more → Took plant a c old new (orders ++ more)
took_more plant a b c old middle new orders more h k =
    let n = a.number in
    let first = events_by n orders in
    let second = events_by n more in
    let both : events_by n (orders ++ more) ≡ first ++ second = map-append (λ (o : Order). event.Order n o) orders more in
    let later : events_by b.number more ≡ second = ap (λ (m : ℕ). events_by m more) h.lane.0 in
    let after : system plant middle ≡ fold after_event (system plant old) first = ap (λ (es : List Event). system plant es) h.events ∙ system_more plant old first in
    let answers : answers_from b.number (system plant middle) (events_by b.number more) ≡ answers_from n (fold after_event (system plant old) first) second =
    (λ i. answers_from (h.lane.0 i) (after i) (later i)) in
    record {
      lane = same_lanes a b c h.lane k.lane;
      ended = k.ended ∙ h.ended;
      taken = k.taken ∙ (ap (λ (os : List Order). os ++ more) h.taken ∙ append_assoc (orders_taken a) orders more);
      given = k.given
          ∙ ((λ i. h.given i ++ answers i)
          ∙ (append_assoc (answers_given a) (answers_from n (system plant old) first) (answers_from n (fold after_event (system plant old) first) second)
          ∙ ap (λ (xs : List (Answer Order Reply)). answers_given a ++ xs) (sym (ap (λ (es : List Event). answers_from n (system plant old) es) both ∙ answers_more n (system plant old) first second))));
      events = k.events ∙ ((λ i. h.events i ++ later i) ∙ (append_assoc old first second ∙ ap (λ (es : List Event). old ++ es) (sym both)));
    }

abbrev head_or : Order → List Order → Order
head_or d [] = d
head_or d (y ∷ ys) = y

-- the order that is seen to wait first is the first of those that wait
pub first_waits : (o x : Order) (xs : List Order) → IsPrefix (o ∷ []) (x ∷ xs) → x ≡ o
first_waits o x xs h = sym (ap (head_or o) h.1)

-- no console is left
pub parts_none : (plant : PlainPlant) (ls : List L) (history : List Event) → length ls ≡ 0 → TookParts plant ls ls history history 0 false
parts_none plant [] history none = (refl, refl, refl)
parts_none plant (l ∷ ls) history none = absurd (omega (arith, none))

-- a console's part was stopped
pub parts_stopped : (plant : PlainPlant) (a b : L) (ls : List L) (old new : List Event) (taken : ℕ) → TookPart plant a b old new taken true → TookParts plant (a ∷ ls) (b ∷ ls) old new taken true
parts_stopped plant a b ls old new taken part = (new, taken, 0, true, part, omega arith, (refl, refl, refl, refl))

-- it wasn't, and the others come
pub parts_more : (plant : PlainPlant) (a b : L) (ls bs : List L) (old middle new : List Event) (here rest : ℕ) (stopped : Bool) → TookPart plant a b old middle here false
    → TookParts plant ls bs middle new rest stopped → TookParts plant (a ∷ ls) (b ∷ bs) old new (here + rest) stopped
parts_more plant a b ls bs old middle new here rest stopped part others = (middle, here, rest, false, part, refl, others)

-- a console's part ended the taking
pub parts_ended : (plant : PlainPlant) (whole : List L) (a b : L) (ls : List L) (old new : List Event) (taken : ℕ) (stopped : Bool) → whole ≡ a ∷ ls → stopped ≡ true
    → TookPart plant a b old new taken stopped → TookParts plant whole (b ∷ ls) old new taken stopped
parts_ended plant whole a b ls old new taken stopped is stop part =
    subst (λ (xs : List L). TookParts plant xs (b ∷ ls) old new taken stopped) (sym is)
    (subst (λ (s : Bool). TookParts plant (a ∷ ls) (b ∷ ls) old new taken s) (sym stop) (parts_stopped plant a b ls old new taken (subst (λ (s : Bool). TookPart plant a b old new taken s) stop part)))

-- what a test that holds chooses
pub chosen : (b : Bool) (P Q : Type 0) → b ≡ true → MatchBool b P Q → P
chosen b P Q is h = subst (λ (t : Bool). MatchBool t P Q) is h

-- the same parts, by equal plants, lanes and histories
pub parts_moved : (p q : PlainPlant) (ls ms bs : List L) (old before new : List Event) (taken : ℕ) (stopped : Bool) → p ≡ q → ls ≡ ms → old ≡ before
    → TookParts p ls bs old new taken stopped → TookParts q ms bs before new taken stopped
parts_moved p q ls ms bs old before new taken stopped plants lanes histories t =
    subst (λ (x : PlainPlant). TookParts x ms bs before new taken stopped) plants
    (subst (λ (xs : List L). TookParts p xs bs before new taken stopped) lanes (subst (λ (es : List Event). TookParts p ls bs es new taken stopped) histories t))

-- nothing was asked
pub refused_none : (all : Type 0) (count : ℕ) → UnlessRefused all all count count false
refused_none all count = record { counted = omega arith; goes_on = λ same. refl; shows = λ same has. has }

-- one thing and then another, where the first wasn't stopped
pub refused_on : (all middle all' : Type 0) (before between now : ℕ) (stopped : Bool) → UnlessRefused all middle before between false → UnlessRefused middle all' between now stopped → UnlessRefused all all' before now stopped
refused_on all middle all' before between now stopped h k =
    let low : before ≤ between = h.counted in
    let high : between ≤ now = k.counted in
    record {
      counted = omega arith;
      goes_on = λ same. k.goes_on (omega arith);
      shows = λ same has. k.shows (omega arith) (h.shows (omega arith) has);
    }
