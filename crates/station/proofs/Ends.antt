-- Consoles that end.
use Rattle.std.proofs.Common.{◌≡◌, ℕ, ◌==◌, nat_eq, Bool, true, false, ◌||◌, List, [], ◌∷◌, ◌++◌, All, MatchBool, Option, Some, None, ap, refl, sym, ◌∙◌, subst, eq-eqb, ne_eqb, eqb-true, true≢false, inl, inr, if◌then◌else◌, nat_le}
use Rattle.std.specs.List.{list_any}
use Rattle.std.proofs.lemmas.List.Elements.{All-nil, All-cons, All-head, All-tail}
use Rattle.std.proofs.lemmas.Bool.{cases_Bool, eqb-false}
use Rattle.rtrb.specs.Ring.{known_items}
use Rattle.logbook.specs.Pages.{Book}
use Rattle.console_link.specs.declared.answer.Answer.{Answer}
use Rattle.console_link.specs.declared.console.ConsoleRings.{ConsoleRings}
use Rattle.console_link.specs.declared.console.FinishedRings.{FinishedRings}
use Rattle.console_link.specs.declared.lane.Lane.{Lane}
use Rattle.console_link.specs.Seats.{SameConsole, SameLane, Ends, IsConsoleOf, IsEndOf, left_of, left_answers_of, seen_by, orders_taken, answers_given, all_taken}
use Rattle.console_recorder.specs.Event.{Event}
use Rattle.alarm_orders.specs.declared.order.Order.{Order}
use Rattle.plant_file.specs.Lists.{repeats}
use Rattle.console_recorder.specs.Plants.{PlainPlant}
use Rattle.console_recorder.specs.Reply.{Reply}
use Rattle.console_recorder.specs.Parts.{answers_of, orders_in}
use Rattle.console_recorder.specs.Turns.{TookParts}
use Rattle.console_boards.specs.Stories.{is_seen_lawful, seen_events, seen_list}
use Rattle.console_boards.specs.Replies.{after, allows}
use Rattle.console_recorder.specs.Entries.{history_story}
use Rattle.console_operator.specs.declared.console.Console.{Console}
use Rattle.console_operator.specs.declared.console.Finished.{Finished as Ended}
use Rattle.console_operator.specs.Sights.{BoardStory}
use Rattle.console_operator.specs.Consoles.{story_seen, story_told, EndsAs}
use Rattle.station.specs.Lanes.{HasSeen, numbers_in, HasNoTwin, IsConsoleIn, IsLinkEndIn, IsOfLog, KeepsConsoles, finished_of, left_in, left_answers_in, saw_within, is_within, has_seen_within}
use Rattle.station.specs.Stations.{AgreesWith, IsClosed}
use Rattle.station.specs.Closings.{Joined, EndedOne, IsEnded, AreEnded}
use Rattle.console_recorder.proofs.Takes.{same_lanes, same_lane}

abbrev L : Type 0
L = Lane Order Reply

abbrev C : Type 0
C = ConsoleRings Order Reply

abbrev F : Type 0
F = FinishedRings Order Reply

-- the same lane is the owner's end of the same console's rings
console_stays : (c : C) (a b : L) → SameLane a b → IsConsoleOf c a → IsConsoleOf c b
console_stays c a b s h = (
  s.0 ∙ h.0,
  (
    (s.1.0.0.0 ∙ h.1.0.0, s.1.0.0.1 ∙ h.1.0.1, s.1.0.0.2 ∙ h.1.0.2, s.1.0.0.3 ∙ h.1.0.3),
    (h.1.1.0 ∙ sym s.1.1.0.0, h.1.1.1 ∙ sym s.1.1.0.1, h.1.1.2 ∙ sym s.1.1.0.2, h.1.1.3 ∙ sym s.1.1.0.3),
  ),
  s.2 ∙ h.2,
)

end_stays : (f : F) (a b : L) → SameLane a b → IsEndOf f a → IsEndOf f b
end_stays f a b s h = (
  s.0 ∙ h.0,
  (
    (s.1.0.0.0 ∙ h.1.0.0, s.1.0.0.1 ∙ h.1.0.1, s.1.0.0.2 ∙ h.1.0.2, s.1.0.0.3 ∙ h.1.0.3),
    (h.1.1.0 ∙ sym s.1.1.0.0, h.1.1.1 ∙ sym s.1.1.0.1, h.1.1.2 ∙ sym s.1.1.0.2, h.1.1.3 ∙ sym s.1.1.0.3),
  ),
  s.2 ∙ h.2,
)

-- a console goes on, over the same rings
console_moves : (c d : C) (l : L) → SameConsole c d → IsConsoleOf c l → IsConsoleOf d l
console_moves c d l s h = (
  h.0 ∙ sym s.0,
  (
    (h.1.0.0 ∙ sym s.1.0.0.0, h.1.0.1 ∙ sym s.1.0.0.1, h.1.0.2 ∙ sym s.1.0.0.2, h.1.0.3 ∙ sym s.1.0.0.3),
    (s.1.1.0.0 ∙ h.1.1.0, s.1.1.0.1 ∙ h.1.1.1, s.1.1.0.2 ∙ h.1.1.2, s.1.1.0.3 ∙ h.1.1.3),
  ),
  h.2 ∙ sym s.2,
)

-- a console ends, over the same rings
console_ends : (c : C) (f : F) (l : L) → Ends c f → IsConsoleOf c l → IsEndOf f l
console_ends c f l e h = (
  h.0 ∙ sym e.0,
  (
    (h.1.0.0 ∙ sym e.1.0.0.0, h.1.0.1 ∙ sym e.1.0.0.1, h.1.0.2 ∙ sym e.1.0.0.2, h.1.0.3 ∙ sym e.1.0.0.3),
    (ap (λ x. x.end.words) e.1.1 ∙ h.1.1.0, ap (λ x. x.end.slots) e.1.1 ∙ h.1.1.1, ap (λ x. x.end.names) e.1.1 ∙ h.1.1.2, ap (λ x. x.end.heap) e.1.1 ∙ h.1.1.3),
  ),
  h.2 ∙ sym e.2,
)

pub console_goes_on : (ls : List L) (c d : C) → IsConsoleIn ls c → SameConsole c d → IsConsoleIn ls d
console_goes_on [] c d h s = h
console_goes_on (l ∷ ls) c d h s =
    subst (λ (n : ℕ). MatchBool (l.number == n) (IsConsoleOf d l) (IsConsoleIn ls d)) (sym s.0)
    (elim (l.number == c.number) as (λ t. (MatchBool (t) (IsConsoleOf c l) (IsConsoleIn ls c)) → (MatchBool (t) (IsConsoleOf d l) (IsConsoleIn ls d))) [
      | true ↦ λ k. console_moves c d l s k
      | false ↦ λ k. console_goes_on ls c d k s
    ] h)

pub console_has_ended : (ls : List L) (c : C) (f : F) → IsConsoleIn ls c → Ends c f → IsLinkEndIn ls f
console_has_ended [] c f h e = h
console_has_ended (l ∷ ls) c f h e =
    subst (λ (n : ℕ). MatchBool (l.number == n) (IsEndOf f l) (IsLinkEndIn ls f)) (sym e.0)
    (elim (l.number == c.number) as (λ t. (MatchBool (t) (IsConsoleOf c l) (IsConsoleIn ls c)) → (MatchBool (t) (IsEndOf f l) (IsLinkEndIn ls f))) [
      | true ↦ λ k. console_ends c f l e k
      | false ↦ λ k. console_has_ended ls c f k e
    ] h)

-- lanes that are the same, one by one
abbrev pub AreSame : List L → List L → Type 0
AreSame [] [] = Unit {0}
AreSame [] (b ∷ bs) = ⊥
AreSame (a ∷ ds) [] = ⊥
AreSame (a ∷ ds) (b ∷ bs) = SameLane a b × AreSame ds bs

same_all : (ds : List L) → AreSame ds ds
same_all [] = tt
same_all (a ∷ ds) = (same_lane a, same_all ds)

pub same_equal : (ds bs : List L) → bs ≡ ds → AreSame ds bs
same_equal ds bs e = subst (λ (ls : List L). AreSame ds ls) (sym e) (same_all ds)

pub same_parts : (plant : PlainPlant) (ds bs : List L) (old new : List Event) (taken : ℕ) (stopped : Bool) → TookParts plant ds bs old new taken stopped → AreSame ds bs
same_parts plant [] [] old new taken stopped t = tt
same_parts plant [] (b ∷ bs) old new taken stopped t = absurd t
same_parts plant (a ∷ ds) [] old new taken stopped t = absurd t
same_parts plant (a ∷ ds) (b ∷ bs) old new taken stopped t = (
  t.4.took.lane,
  elim t.3 as (λ e. MatchBool e ((bs ≡ ds) × (new ≡ t.0) × (t.2 ≡ 0) × (stopped ≡ true)) (TookParts plant ds bs t.0 new t.2 stopped) → AreSame ds bs) [
    | true ↦ λ on. same_equal ds bs on.0
    | false ↦ λ on. same_parts plant ds bs t.0 new t.2 stopped on
  ] t.6,
)

-- lanes that are the same have the same log
pub logs_on : (log : Book) (ds bs : List L) → AreSame ds bs → All (IsOfLog log) ds → All (IsOfLog log) bs
logs_on log [] [] s h = All-nil (IsOfLog log)
logs_on log [] (b ∷ bs) s h = absurd s
logs_on log (a ∷ ds) [] s h = absurd s
logs_on log (a ∷ ds) (b ∷ bs) s h = All-cons (IsOfLog log) b bs (s.0.2 ∙ All-head (IsOfLog log) a ds h) (logs_on log ds bs s.1 (All-tail (IsOfLog log) a ds h))

-- the rings of an ended console have the log of their lane
pub log_in : (log : Book) (ls : List L) (f : F) → All (IsOfLog log) ls → IsLinkEndIn ls f → f.log ≡ log
log_in log [] f h is = absurd is
log_in log (l ∷ ls) f h is =
    elim (l.number == f.number) as (λ t. MatchBool t (IsEndOf f l) (IsLinkEndIn ls f) → f.log ≡ log) [
      | true ↦ λ k. sym k.2 ∙ All-head (IsOfLog log) l ls h
      | false ↦ λ k. log_in log ls f (All-tail (IsOfLog log) l ls h) k
    ] is

consoles_stay : (ds bs : List L) (c : C) → AreSame ds bs → IsConsoleIn ds c → IsConsoleIn bs c
consoles_stay [] [] c s h = h
consoles_stay [] (b ∷ bs) c s h = absurd s
consoles_stay (a ∷ ds) [] c s h = absurd s
consoles_stay (a ∷ ds) (b ∷ bs) c s h =
    subst (λ (n : ℕ). MatchBool (n == c.number) (IsConsoleOf c b) (IsConsoleIn bs c)) (sym s.0.0)
    (elim (a.number == c.number) as (λ t. (MatchBool (t) (IsConsoleOf c a) (IsConsoleIn ds c)) → (MatchBool (t) (IsConsoleOf c b) (IsConsoleIn bs c))) [
      | true ↦ λ k. console_stays c a b s.0 k
      | false ↦ λ k. consoles_stay ds bs c s.1 k
    ] h)

pub ends_stay : (ds bs : List L) (f : F) → AreSame ds bs → IsLinkEndIn ds f → IsLinkEndIn bs f
ends_stay [] [] f s h = h
ends_stay [] (b ∷ bs) f s h = absurd s
ends_stay (a ∷ ds) [] f s h = absurd s
ends_stay (a ∷ ds) (b ∷ bs) f s h =
    subst (λ (n : ℕ). MatchBool (n == f.number) (IsEndOf f b) (IsLinkEndIn bs f)) (sym s.0.0)
    (elim (a.number == f.number) as (λ t. (MatchBool (t) (IsEndOf f a) (IsLinkEndIn ds f)) → (MatchBool (t) (IsEndOf f b) (IsLinkEndIn bs f))) [
      | true ↦ λ k. end_stays f a b s.0 k
      | false ↦ λ k. ends_stay ds bs f s.1 k
    ] h)

pub keeps : (ds bs : List L) → AreSame ds bs → KeepsConsoles ds bs
keeps ds bs s = record { consoles = λ (c : C) h. consoles_stay ds bs c s h; ended = λ (f : F) h. ends_stay ds bs f s h }

pub keeps_equal : (ds bs : List L) → bs ≡ ds → KeepsConsoles ds bs
keeps_equal ds bs e = keeps ds bs (same_equal ds bs e)

or_parts : (a b : Bool) → (a || b) ≡ false → (a ≡ false) × (b ≡ false)
or_parts true b h = absurd (true≢false h)
or_parts false b h = (refl, h)

ended_one : (o : Option F) (a b : L) → IsEnded o a b → SameLane a b
ended_one None a b e = subst (λ (l : L). SameLane a l) (sym e) (same_lane a)
ended_one (Some f) a b e = e.lane

-- lanes are the same after some were joined
ended_same : (fs : List F) (ds bs : List L) → AreEnded fs ds bs → AreSame ds bs
ended_same fs [] [] h = tt
ended_same fs [] (b ∷ bs) h = absurd h
ended_same fs (a ∷ ds) [] h = absurd h
ended_same fs (a ∷ ds) (b ∷ bs) h = (ended_one (finished_of a.number fs) a b h.0, ended_same fs ds bs h.1)

pub ended_keep : (fs : List F) (ds bs : List L) (f : F) → AreEnded fs ds bs → IsLinkEndIn ds f → IsLinkEndIn bs f
ended_keep fs ds bs f h k = ends_stay ds bs f (ended_same fs ds bs h) k

-- nothing was joined yet
pub ended_none : (ds : List L) → AreEnded [] ds ds
ended_none [] = tt
ended_none (a ∷ ds) = (refl, ended_none ds)

-- a lane that is joined anew
joined_anew : (f : F) (o : Option F) (a b c : L) → IsEnded o a b → Joined f b c → Joined f a c
joined_anew f None a b c e j = subst (λ (l : L). Joined f l c) e j
joined_anew f (Some g) a b c e j = record { lane = same_lanes a b c e.lane j.lane; taken = j.taken ∙ e.taken; given = j.given ∙ e.given; orders = j.orders; answers = j.answers; seen = j.seen }

-- a console in front that no lane of these has doesn't matter
ended_past : (f : F) (fs : List F) (ds bs : List L) → list_any (nat_eq f.number) (numbers_in ds) ≡ false → AreEnded fs ds bs → AreEnded (f ∷ fs) ds bs
ended_past f fs [] [] none h = tt
ended_past f fs [] (b ∷ bs) none h = absurd h
ended_past f fs (a ∷ ds) [] none h = absurd h
ended_past f fs (a ∷ ds) (b ∷ bs) none h =
    let both = or_parts (nat_eq f.number a.number) (list_any (nat_eq f.number) (numbers_in ds)) none in (
      subst (λ (t : Bool). IsEnded (if t then Some f else finished_of a.number fs) a b) (sym both.0) h.0,
      ended_past f fs ds bs both.1 h.1,
    )

-- one more console was joined with its lane
pub ended_more : (f : F) (fs : List F) (ds bs cs : List L) → HasNoTwin (numbers_in ds) → AreEnded fs ds bs → EndedOne f bs cs → AreEnded (f ∷ fs) ds cs
ended_more f fs [] [] cs once h e = absurd e
ended_more f fs [] (b ∷ bs) cs once h e = absurd h
ended_more f fs (a ∷ ds) [] cs once h e = absurd h
ended_more f fs (a ∷ ds) (b ∷ bs) [] once h e = absurd e
ended_more f fs (a ∷ ds) (b ∷ bs) (c ∷ cs) once h e =
    let both = or_parts (list_any (nat_eq a.number) (numbers_in ds)) (repeats nat_eq (numbers_in ds)) once in
    let same : b.number ≡ a.number = (ended_one (finished_of a.number fs) a b h.0).0 in
    let step : (MatchBool (a.number == f.number) (Joined f b c × (cs ≡ bs)) ((c ≡ b) × EndedOne f bs cs)) =
    subst (λ (n : ℕ). MatchBool (n == f.number) (Joined f b c × (cs ≡ bs)) ((c ≡ b) × EndedOne f bs cs)) same e in
    elim (cases_Bool (a.number == f.number)) [
      | inl yes' ↦
          let k : Joined f b c × (cs ≡ bs) = subst (λ (t : Bool). MatchBool (t) (Joined f b c × (cs ≡ bs)) ((c ≡ b) × EndedOne f bs cs)) yes' step in
          let n : f.number ≡ a.number = sym (eqb-true a.number f.number yes') in (
            subst (λ (t : Bool). IsEnded (if t then Some f else finished_of a.number fs) a c) (sym (eq-eqb f.number a.number n)) (joined_anew f (finished_of a.number fs) a b c h.0 k.0),
            subst (λ (ls : List L). AreEnded (f ∷ fs) ds ls) (sym k.1) (ended_past f fs ds bs (subst (λ (m : ℕ). list_any (nat_eq m) (numbers_in ds) ≡ false) (sym n) both.0) h.1),
          )
      | inr no' ↦
          let k : (c ≡ b) × EndedOne f bs cs = subst (λ (t : Bool). MatchBool (t) (Joined f b c × (cs ≡ bs)) ((c ≡ b) × EndedOne f bs cs)) no' step in
          let n : (f.number == a.number) ≡ false = ne_eqb f.number a.number (λ (e' : f.number ≡ a.number). eqb-false a.number f.number no' (sym e')) in (
            subst (λ (t : Bool). IsEnded (if t then Some f else finished_of a.number fs) a c) (sym n) (subst (λ (l : L). IsEnded (finished_of a.number fs) a l) (sym k.0) h.0),
            ended_more f fs ds bs cs both.1 h.1 k.1,
          )
    ]

abbrev or_this : F → Option F → F
or_this d None = d
or_this d (Some x) = x

-- an ended console that is found by its number is one of the list
found_in : (P : F → Type 0) (n : ℕ) (fs : List F) (f : F) → All P fs → finished_of n fs ≡ Some f → P f × (f.number ≡ n)
found_in P n [] f h e = absurd (cc)
found_in P n (g ∷ fs) f h e = elim (cases_Bool (g.number == n)) [
  | inl yes' ↦
      let k : Some g ≡ Some f = subst (λ (t : Bool). (if t then Some g else finished_of n fs) ≡ Some f) yes' e in
      let same : g ≡ f = ap (or_this g) k in
      (subst P same (All-head P g fs h), ap (λ (x : F). x.number) (sym same) ∙ eqb-true g.number n yes')
  | inr no' ↦ found_in P n fs f (All-tail P g fs h) (subst (λ (t : Bool). (if t then Some g else finished_of n fs) ≡ Some f) no' e)
]

-- nothing is left where no end was handed in
none_left : (plant : PlainPlant) (history : List Event) (fs : List F) (ds bs : List L) (n : ℕ) → finished_of n fs ≡ None → All (AgreesWith plant history) ds → AreEnded fs ds bs
    → (left_in n bs ≡ []) × (left_answers_in n bs ≡ [])
none_left plant history fs [] [] n e agree h = (refl, refl)
none_left plant history fs [] (b ∷ bs) n e agree h = absurd h
none_left plant history fs (a ∷ ds) [] n e agree h = absurd h
none_left plant history fs (a ∷ ds) (b ∷ bs) n e agree h =
    let same : b.number ≡ a.number = (ended_one (finished_of a.number fs) a b h.0).0 in
    elim (cases_Bool (b.number == n)) [
      | inl yes' ↦
          let m : a.number ≡ n = sym same ∙ eqb-true b.number n yes' in
          let kept : b ≡ a = subst (λ (o : Option F). IsEnded o a b) (ap (λ (k : ℕ). finished_of k fs) m ∙ e) h.0 in
          let is_open : a.ended ≡ None = (All-head (AgreesWith plant history) a ds agree).is_open in (
            ap (λ (t : Bool). if t then left_of b else left_in n bs) yes'
                ∙ (ap (λ (l : L). left_of l) kept ∙ ap (λ (o : Option F). elim o [ None ↦ [] | Some _ ↦ known_items a.orders ]) is_open),
            ap (λ (t : Bool). if t then left_answers_of b else left_answers_in n bs) yes'
                ∙ (ap (λ (l : L). left_answers_of l) kept ∙ ap (λ (o : Option F). elim o [ None ↦ [] | Some f ↦ known_items f.answers ]) is_open),
          )
      | inr no' ↦
          let on = none_left plant history fs ds bs n e (All-tail (AgreesWith plant history) a ds agree) h.1 in (
            ap (λ (t : Bool). if t then left_of b else left_in n bs) no' ∙ on.0,
            ap (λ (t : Bool). if t then left_answers_of b else left_answers_in n bs) no' ∙ on.1,
          )
    ]

-- where it was, all that the console submitted is in the history or left
some_closed : (plant : PlainPlant) (history : List Event) (fs : List F) (ds bs : List L) (n : ℕ) (f : F) → finished_of n fs ≡ Some f → f.number ≡ n → IsLinkEndIn ds f
    → All (AgreesWith plant history) ds → AreEnded fs ds bs → IsClosed (answers_of n plant history) (left_in n bs) (left_answers_in n bs) (Some f)
some_closed plant history fs [] [] n f e is ends agree h = absurd ends
some_closed plant history fs [] (b ∷ bs) n f e is ends agree h = absurd h
some_closed plant history fs (a ∷ ds) [] n f e is ends agree h = absurd h
some_closed plant history fs (a ∷ ds) (b ∷ bs) n f e is ends agree h =
    let same : b.number ≡ a.number = (ended_one (finished_of a.number fs) a b h.0).0 in
    let agrees : AgreesWith plant history a = All-head (AgreesWith plant history) a ds agree in
    elim (cases_Bool (b.number == n)) [
      | inl yes' ↦
          let m : a.number ≡ n = sym same ∙ eqb-true b.number n yes' in
          let part : answers_of a.number plant history ≡ answers_of n plant history = ap (λ (k : ℕ). answers_of k plant history) m in
          let j : Joined f a b = subst (λ (o : Option F). IsEnded o a b) (ap (λ (k : ℕ). finished_of k fs) m ∙ e) h.0 in
          let asked : orders_taken b ≡ orders_in (answers_of n plant history) = j.taken ∙ (agrees.taken ∙ ap (λ (xs : List (Answer Order Reply)). orders_in xs) part) in
          let given : answers_given b ≡ answers_of n plant history = j.given ∙ (agrees.given ∙ part) in
          let left : left_in n (b ∷ bs) ≡ left_of b = ap (λ (t : Bool). if t then left_of b else left_in n bs) yes' in
          let left_answers : left_answers_in n (b ∷ bs) ≡ left_answers_of b = ap (λ (t : Bool). if t then left_answers_of b else left_answers_in n bs) yes' in (
            (λ i. sym asked i ++ left i) ∙ j.orders,
            ap (λ (xs : List (Answer Order Reply)). all_taken f ++ xs) left_answers ∙ (j.answers ∙ given),
          )
      | inr no' ↦
          let away : (a.number == f.number) ≡ false = ne_eqb a.number f.number (λ (k : a.number ≡ f.number). eqb-false b.number n no' (same ∙ (k ∙ is))) in
          let on = some_closed plant history fs ds bs n f e is (subst (λ (t : Bool). MatchBool (t) (IsEndOf f a) (IsLinkEndIn ds f)) away ends) (All-tail (AgreesWith plant history) a ds agree) h.1 in (
            ap (λ (xs : List Order). orders_in (answers_of n plant history) ++ xs) (ap (λ (t : Bool). if t then left_of b else left_in n bs) no') ∙ on.0,
            ap (λ (xs : List (Answer Order Reply)). all_taken f ++ xs) (ap (λ (t : Bool). if t then left_answers_of b else left_answers_in n bs) no') ∙ on.1,
          )
    ]

-- what is known of each console once its lane was joined
pub closed : (plant : PlainPlant) (history : List Event) (fs : List F) (ds bs : List L) (n : ℕ) → All (AgreesWith plant history) ds → All (IsLinkEndIn ds) fs → AreEnded fs ds bs
    → IsClosed (answers_of n plant history) (left_in n bs) (left_answers_in n bs) (finished_of n fs)
closed plant history fs ds bs n agree ends h = by (finished_of n fs) refl
  where
    by : (o : Option F) → finished_of n fs ≡ o → IsClosed (answers_of n plant history) (left_in n bs) (left_answers_in n bs) o
    by None e = none_left plant history fs ds bs n e agree h
    by (Some f) e =
        let found = found_in (IsLinkEndIn ds) n fs f ends e in
        some_closed plant history fs ds bs n f e found.1 found.0 agree h

-- no end was handed in: then nothing is known of what it saw
none_within : (plant : PlainPlant) (history : List Event) (fs : List F) (ds bs : List L) (n events : ℕ) → finished_of n fs ≡ None → All (AgreesWith plant history) ds → AreEnded fs ds bs → is_within n events bs ≡ false
none_within plant history fs [] [] n events e agree h = refl
none_within plant history fs [] (b ∷ bs) n events e agree h = absurd h
none_within plant history fs (a ∷ ds) [] n events e agree h = absurd h
none_within plant history fs (a ∷ ds) (b ∷ bs) n events e agree h =
    let same : b.number ≡ a.number = (ended_one (finished_of a.number fs) a b h.0).0 in
    elim (cases_Bool (b.number == n)) [
      | inl yes' ↦
          let m : a.number ≡ n = sym same ∙ eqb-true b.number n yes' in
          let kept : b ≡ a = subst (λ (o : Option F). IsEnded o a b) (ap (λ (k : ℕ). finished_of k fs) m ∙ e) h.0 in
          ap (λ (t : Bool). if t then saw_within events (seen_by b) else is_within n events bs) yes'
          ∙ (ap (λ (l : L). saw_within events (seen_by l)) kept ∙ ap (λ (o : Option F). saw_within events (elim o [ None ↦ None | Some f ↦ Some f.seen ])) (All-head (AgreesWith plant history) a ds agree).is_open)
      | inr no' ↦
          ap (λ (t : Bool). if t then saw_within events (seen_by b) else is_within n events bs) no'
          ∙ none_within plant history fs ds bs n events e (All-tail (AgreesWith plant history) a ds agree) h.1
    ]

some_within : (fs : List F) (ds bs : List L) (n events : ℕ) (f : F) → finished_of n fs ≡ Some f → f.number ≡ n → IsLinkEndIn ds f → AreEnded fs ds bs → is_within n events bs ≡ nat_le f.seen events
some_within fs [] bs n events f e is ends h = absurd ends
some_within fs (a ∷ ds) [] n events f e is ends h = absurd h
some_within fs (a ∷ ds) (b ∷ bs) n events f e is ends h =
    let same : b.number ≡ a.number = (ended_one (finished_of a.number fs) a b h.0).0 in
    elim (cases_Bool (b.number == n)) [
      | inl yes' ↦
          let m : a.number ≡ n = sym same ∙ eqb-true b.number n yes' in
          let j : Joined f a b = subst (λ (o : Option F). IsEnded o a b) (ap (λ (k : ℕ). finished_of k fs) m ∙ e) h.0 in
          ap (λ (t : Bool). if t then saw_within events (seen_by b) else is_within n events bs) yes' ∙ ap (λ (o : Option ℕ). saw_within events o) j.seen
      | inr no' ↦
          let away : (a.number == f.number) ≡ false = ne_eqb a.number f.number (λ (k : a.number ≡ f.number). eqb-false b.number n no' (same ∙ (k ∙ is))) in
          ap (λ (t : Bool). if t then saw_within events (seen_by b) else is_within n events bs) no'
          ∙ some_within fs ds bs n events f e is (subst (λ (t : Bool). MatchBool t (IsEndOf f a) (IsLinkEndIn ds f)) away ends) h.1
    ]

-- what is known of how many events each console saw, once its lane was joined
pub closed_within : (plant : PlainPlant) (history : List Event) (fs : List F) (ds bs : List L) (n events : ℕ) → All (AgreesWith plant history) ds → All (IsLinkEndIn ds) fs → AreEnded fs ds bs
    → is_within n events bs ≡ has_seen_within events (finished_of n fs)
closed_within plant history fs ds bs n events agree ends h = by (finished_of n fs) refl
  where
    by : (o : Option F) → finished_of n fs ≡ o → is_within n events bs ≡ has_seen_within events o
    by None e = none_within plant history fs ds bs n events e agree h
    by (Some f) e = let found = found_in (IsLinkEndIn ds) n fs f ends e in some_within fs ds bs n events f e found.1 found.0 h

-- the console that ends is that of the first lane
pub end_first : (f : F) (a b : L) (ls : List L) → a.number ≡ f.number → Joined f a b → EndedOne f (a ∷ ls) (b ∷ ls)
end_first f a b ls is j = subst (λ (t : Bool). MatchBool t (Joined f a b × (ls ≡ ls)) ((b ≡ a) × EndedOne f ls ls)) (sym (eq-eqb a.number f.number is)) (j, refl)

-- or that of a later one
pub end_later : (f : F) (a : L) (ls bs : List L) → (a.number ≡ f.number → ⊥) → EndedOne f ls bs → EndedOne f (a ∷ ls) (a ∷ bs)
end_later f a ls bs away e = subst (λ (t : Bool). MatchBool t (Joined f a a × (bs ≡ ls)) ((a ≡ a) × EndedOne f ls bs)) (sym (ne_eqb a.number f.number away)) (refl, e)

pub in_first : (f : F) (a : L) (ls : List L) → a.number ≡ f.number → IsLinkEndIn (a ∷ ls) f → IsEndOf f a
in_first f a ls is h = subst (λ (t : Bool). MatchBool t (IsEndOf f a) (IsLinkEndIn ls f)) (eq-eqb a.number f.number is) h

pub in_later : (f : F) (a : L) (ls : List L) → (a.number ≡ f.number → ⊥) → IsLinkEndIn (a ∷ ls) f → IsLinkEndIn ls f
in_later f a ls away h = subst (λ (t : Bool). MatchBool t (IsEndOf f a) (IsLinkEndIn ls f)) (ne_eqb a.number f.number away) h

last_in : {X : Type 0} (P : X → Type 0) (fs : List X) (f : X) (es : List X) → All P ((fs ++ f ∷ []) ++ es) → P f
last_in P [] f es h = All-head P f es h
last_in P (g ∷ fs) f es h = last_in P fs f es (All-tail P g ((fs ++ f ∷ []) ++ es) h)

-- the last of a list of ended consoles
pub last_of : {X : Type 0} (P : X → Type 0) (fs : List X) (f : X) (es whole : List X) → whole ≡ (fs ++ f ∷ []) ++ es → All P whole → P f
last_of {X} P fs f es whole is h = last_in P fs f es (subst (λ (xs : List X). All P xs) is h)

-- what an ended console saw opens as the history before the first event, of which it was told
pub console_has_seen : (plant : PlainPlant) (c : Console Order Reply) (f : Ended Order Reply) (story : BoardStory) → story_told c ≡ Some (history_story plant []) → EndsAs c f → story_seen c ≡ Some story → HasSeen plant story f
console_has_seen plant c f story told ends seen = record {
  opening = ends.sound.0 (history_story plant []) story told seen;
  lawful = sym (ap (λ (s : Option BoardStory). is_seen_lawful after allows s) seen) ∙ ends.sound.1;
  events = ends.seen ∙ ap (λ (s : Option BoardStory). seen_events s) seen;
  marked = ends.mark.1 ∙ ap (λ (s : Option BoardStory). seen_list s) seen;
}
