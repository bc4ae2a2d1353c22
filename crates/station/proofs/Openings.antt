-- Rings that were made for the consoles of a plant.
use Rattle.std.proofs.Common.{◌≡◌, ◌≢◌, ℕ, ◌==◌, nat_eq, Bool, true, false, ◌||◌, List, [], ◌∷◌, ◌++◌, All, MatchBool, ap, refl, sym, ◌∙◌, subst, eq-eqb, ne_eqb, true≢false, inl, inr, Ok, Err, IfOk}
use Rattle.std.specs.List.{list_any}
use Rattle.std.specs.declared.result.Result.{Result}
use Rattle.std.proofs.lemmas.List.{map-append}
use Rattle.std.proofs.lemmas.List.Elements.{All-nil, All-cons, All-weaker, All-push}
use Rattle.std.proofs.lemmas.Bool.{cases_Bool}
use Rattle.logbook.specs.Pages.{Book}
use Rattle.console_link.specs.declared.console.ConsoleRings.{ConsoleRings}
use Rattle.console_link.specs.declared.lane.Lane.{Lane}
use Rattle.console_link.specs.Seats.{IsConsoleOf}
use Rattle.alarm_orders.specs.declared.order.Order.{Order}
use Rattle.console_operator.specs.Sights.{BoardStory}
use Rattle.plant_file.specs.declared.console.ListedConsole.{ListedConsole}
use Rattle.console_operator.specs.declared.console.Console.{Console}
use Rattle.plant_file.specs.Lists.{repeats}
use Rattle.console_recorder.specs.Plants.{PlainPlant, IsPlant}
use Rattle.console_recorder.specs.Reply.{Reply}
use Rattle.console_recorder.specs.Parts.{answers_of}
use Rattle.station.specs.Lanes.{numbers_in, HasNoTwin, ArePairs, AreOpened, IsConsoleIn, IsFresh, IsUnused, links_of, numbers_of, HasNotLooked, IsOfLog, AreConsolesOf}
use Rattle.station.specs.Stations.{AgreesWith}

abbrev L : Type 0
L = Lane Order Reply

abbrev C : Type 0
C = ConsoleRings Order Reply

abbrev O : Type 0
O = Console Order Reply

pub pairs_push : (cs : List C) (ls : List L) (c : C) (l : L) → ArePairs cs ls → IsConsoleOf c l → ArePairs (cs ++ c ∷ []) (ls ++ l ∷ [])
pairs_push [] [] c l h k = (k, tt)
pairs_push [] (x ∷ ls) c l h k = absurd h
pairs_push (d ∷ cs) [] c l h k = absurd h
pairs_push (d ∷ cs) (x ∷ ls) c l h k = (h.0, pairs_push cs ls c l h.1 k)

or_parts : (a b : Bool) → (a || b) ≡ false → (a ≡ false) × (b ≡ false)
or_parts true b h = absurd (true≢false h)
or_parts false b h = (refl, h)

-- a number that no lane has is no console's
no_console : (n : ℕ) (ls : List L) (c : C) → IsConsoleIn ls c → list_any (nat_eq n) (numbers_in ls) ≡ false → n ≢ c.number
no_console n [] c h none = absurd h
no_console n (l ∷ ls) c h none =
    let away = or_parts (nat_eq n l.number) (list_any (nat_eq n) (numbers_in ls)) none in
    elim (cases_Bool (l.number == c.number)) [
      | inl yes' ↦
          let own : IsConsoleOf c l = subst (λ (t : Bool). MatchBool (t) (IsConsoleOf c l) (IsConsoleIn ls c)) yes' h in
          λ (same : n ≡ c.number). absurd (true≢false (sym (eq-eqb n l.number (same ∙ sym own.0)) ∙ away.0))
      | inr no' ↦ no_console n ls c (subst (λ (t : Bool). MatchBool (t) (IsConsoleOf c l) (IsConsoleIn ls c)) no' h) away.1
    ]

-- a console of the others, where one more lane stands before
found_behind : (l : L) (ls : List L) (c : C) → list_any (nat_eq l.number) (numbers_in ls) ≡ false → IsConsoleIn ls c → IsConsoleIn (l ∷ ls) c
found_behind l ls c none h = subst (λ (b : Bool). MatchBool (b) (IsConsoleOf c l) (IsConsoleIn ls c)) (sym (ne_eqb l.number c.number (no_console l.number ls c h none))) h

found_first : (l : L) (ls : List L) (c : C) → IsConsoleOf c l → IsConsoleIn (l ∷ ls) c
found_first l ls c h = subst (λ (b : Bool). MatchBool (b) (IsConsoleOf c l) (IsConsoleIn ls c)) (sym (eq-eqb l.number c.number h.0)) h

-- each console is found by its number
pub all_found : (ls : List L) (cs : List C) → ArePairs cs ls → HasNoTwin (numbers_in ls) → All (IsConsoleIn ls) cs
all_found [] [] p once = All-nil (IsConsoleIn [])
all_found [] (c ∷ cs) p once = absurd p
all_found (l ∷ ls) [] p once = absurd p
all_found (l ∷ ls) (c ∷ cs) p once =
    let both = or_parts (list_any (nat_eq l.number) (numbers_in ls)) (repeats nat_eq (numbers_in ls)) once in
    All-cons (IsConsoleIn (l ∷ ls)) c cs (found_first l ls c p.0) (All-weaker (IsConsoleIn ls) (IsConsoleIn (l ∷ ls)) (λ (d : C). found_behind l ls d both.0) cs (all_found ls cs p.1 both.1))

-- lanes of which nothing was taken agree with the empty history
unused_agrees : (plant : PlainPlant) (l : L) → IsUnused l → AgreesWith plant [] l
unfolding answers_of
unused_agrees plant l h = record { taken = h.taken; given = h.given; is_open = h.is_open }

pub unused_agree : (plant : PlainPlant) (ls : List L) → All IsUnused ls → All (AgreesWith plant []) ls
unused_agree plant ls h = All-weaker IsUnused (AgreesWith plant []) (unused_agrees plant) ls h

-- one more console and its lane
pub opened_more : (numbers : List ℕ) (cs : List C) (ls : List L) (n : ℕ) (c : C) (l : L) → AreOpened numbers cs ls → IsConsoleOf c l → c.number ≡ n → l.number ≡ n → IsFresh c → IsUnused l
    → AreOpened (numbers ++ n ∷ []) (cs ++ c ∷ []) (ls ++ l ∷ [])
opened_more numbers cs ls n c l h pair c_number l_number fresh unused = record {
  console_numbers = map-append (λ (d : C). d.number) cs (c ∷ []) ∙ (λ i. h.console_numbers i ++ c_number i ∷ []);
  lane_numbers = map-append (λ (x : L). x.number) ls (l ∷ []) ∙ (λ i. h.lane_numbers i ++ l_number i ∷ []);
  pairs = pairs_push cs ls c l h.pairs pair;
  fresh = All-push IsFresh cs c h.fresh fresh;
  unused = All-push IsUnused ls l h.unused unused;
}

-- one more console that looks at a board, and its lane
pub operators_more : (numbers : List ℕ) (os : List O) (ls : List L) (n : ℕ) (o : O) (c : C) (l : L) → AreOpened numbers (links_of os) ls → o.link ≡ c → IsConsoleOf c l → c.number ≡ n → l.number ≡ n → IsFresh c → IsUnused l
    → AreOpened (numbers ++ n ∷ []) (links_of (os ++ o ∷ [])) (ls ++ l ∷ [])
operators_more numbers os ls n o c l h same pair c_number l_number fresh unused =
    let links : links_of (os ++ o ∷ []) ≡ links_of os ++ c ∷ [] = map-append (λ (x : O). x.link) os (o ∷ []) ∙ ap (λ (x : C). links_of os ++ x ∷ []) same in
    subst (λ (cs : List C). AreOpened (numbers ++ n ∷ []) cs (ls ++ l ∷ [])) (sym links) (opened_more numbers (links_of os) ls n c l h pair c_number l_number fresh unused)

-- consoles and lanes that were opened for a plant, and told of what a board shows
pub consoles_opened : {T E : Type 0} (r : Result T E) (os : T → List O) (ls : T → List L) (plant : PlainPlant) (listed : List ListedConsole) (story : BoardStory) (log : Book) → listed ≡ plant.consoles → IsPlant plant
    → IfOk r (λ x. AreOpened (numbers_of listed) (links_of (os x)) (ls x)) → IfOk r (λ x. All (HasNotLooked story) (os x)) → IfOk r (λ x. All (IsOfLog log) (ls x))
    → IfOk r (λ x. AreConsolesOf plant story log (os x) (ls x))
consoles_opened (Ok x) os ls plant listed story log same is h k m = record {
  opened = subst (λ (cs : List ListedConsole). AreOpened (numbers_of cs) (links_of (os x)) (ls x)) same h;
  looks = k;
  marked = m;
  is_plant = is;
}
consoles_opened (Err e) os ls plant listed story log same is h k m = tt
