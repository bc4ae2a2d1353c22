-- Lanes agree with a history that goes on.
use Rattle.std.proofs.Common.{◌≡◌, ◌≢◌, ℕ, ◌==◌, nat_eq, nat_lt, nat_le, Bool, true, false, ◌||◌, List, [], ◌∷◌, ◌++◌, All, MatchBool, Option, Some, None, Ok, Err, Result, ap, refl, sym, ◌∙◌, subst, append-nil, eq-eqb, true≢false, if◌then◌else◌}
use Rattle.std.specs.List.{list_any}
use Rattle.std.proofs.lemmas.List.{map-append}
use Rattle.std.proofs.lemmas.List.Elements.{All-nil, All-cons, All-head, All-tail, All-weaker}
use Rattle.plant_types.specs.Pairs.{PlainPair}
use Rattle.plant_types.specs.declared.values.Value.{Value}
use Rattle.plant_file.specs.Lists.{repeats}
use Rattle.console_link.specs.declared.answer.Answer.{Answer}
use Rattle.console_link.specs.declared.lane.Lane.{Lane}
use Rattle.console_recorder.specs.Event.{Event}
use Rattle.console_recorder.specs.Event.TheVariants as event
use Rattle.alarm_orders.specs.declared.order.Order.{Order}
use Rattle.alarm_machine.specs.declared.limits.TheConstants.{LAST_MOMENT}
use Rattle.console_recorder.specs.Plants.{PlainPlant}
use Rattle.console_recorder.specs.Names.{globals_of}
use Rattle.console_recorder.specs.event.TheConstants.{MOST_EVENTS}
use Rattle.console_recorder.specs.Reply.{Reply}
use Rattle.console_recorder.specs.EngineFault.{EngineFault}
use Rattle.console_recorder.specs.EngineFault.TheVariants as refusal
use Rattle.console_recorder.specs.Image.{image_of}
use Rattle.console_recorder.specs.System.{System, system, taken_scan, scan_event}
use Rattle.console_recorder.specs.Parts.{order_of_event, answer_to, answers_from, answers_of, orders_in, events_by}
use Rattle.console_recorder.specs.Turns.{Took, TookParts}
use Rattle.station.specs.Lanes.{numbers_in, HasNoTwin}
use Rattle.station.specs.Stations.{AgreesWith}
use Rattle.console_recorder.proofs.Parts.{part_more, orders_answered, others_unanswered}

abbrev L : Type 0
L = Lane Order Reply

-- the lane whose orders were taken
pub agree_own : (plant : PlainPlant) (old new : List Event) (a b : L) (orders : List Order) → AgreesWith plant old a → Took plant a b old new orders → AgreesWith plant new b
agree_own plant old new a b orders h t =
    let n = a.number in
    let answers = answers_from n (system plant old) (events_by n orders) in
    let whole : answers_of b.number plant new ≡ answers_of n plant old ++ answers = (λ i. answers_of (t.lane.0 i) plant (t.events i)) ∙ part_more n plant old (events_by n orders) in
    let asked : orders_in (answers_of b.number plant new) ≡ orders_in (answers_of n plant old) ++ orders =
    ap (λ (xs : List (Answer Order Reply)). orders_in xs) whole
    ∙ (map-append (λ (x : Answer Order Reply). x.order) (answers_of n plant old) answers
    ∙ ap (λ (os : List Order). orders_in (answers_of n plant old) ++ os) (orders_answered n (system plant old) orders)) in
    record {
      taken = t.taken ∙ (ap (λ (os : List Order). os ++ orders) h.taken ∙ sym asked);
      given = t.given ∙ (ap (λ (xs : List (Answer Order Reply)). xs ++ answers) h.given ∙ sym whole);
      is_open = t.ended ∙ h.is_open;
    }

-- a lane whose part of the history stays
agree_still : (plant : PlainPlant) (old new : List Event) (a : L) → answers_of a.number plant new ≡ answers_of a.number plant old → AgreesWith plant old a → AgreesWith plant new a
agree_still plant old new a same h = record {
  taken = h.taken ∙ ap (λ (xs : List (Answer Order Reply)). orders_in xs) (sym same);
  given = h.given ∙ sym same;
  is_open = h.is_open;
}

-- another console's orders
pub agree_other : (plant : PlainPlant) (old new : List Event) (a : L) (other : ℕ) (orders : List Order) → other ≢ a.number → new ≡ old ++ events_by other orders → AgreesWith plant old a → AgreesWith plant new a
agree_other plant old new a other orders apart events h =
    agree_still plant old new a
    (ap (λ (es : List Event). answers_of a.number plant es) events
    ∙ (part_more a.number plant old (events_by other orders)
    ∙ (ap (λ (xs : List (Answer Order Reply)). answers_of a.number plant old ++ xs) (others_unanswered a.number other (system plant old) orders apart)
    ∙ append-nil (answers_of a.number plant old))))
    h

-- the order that a result is
abbrev order_of : Result Event EngineFault → Option (ℕ × Order)
order_of (Ok e) = order_of_event e
order_of (Err e) = None

scan_gives : (late early full : Bool) (r : Result (List (ℕ × Value)) EngineFault) (t : ℕ) (e : Event)
    → (if late then Err refusal.MomentRange else if early then Err refusal.MomentBack else elim r [ Err fault ↦ Err fault | Ok image ↦ if full then Err refusal.HistoryFull else Ok (event.Scan image t) ]) ≡ Ok e
    → order_of_event e ≡ None
scan_gives true early full r t e h = absurd (cc)
scan_gives false true full r t e h = absurd (cc)
scan_gives false false full (Err fault) t e h = absurd (cc)
scan_gives false false true (Ok image) t e h = absurd (cc)
scan_gives false false false (Ok image) t e h = sym (ap order_of h)

-- what a scan is taken as is no order
pub scan_orders_nothing : (sys : System) (pairs : List PlainPair) (t : ℕ) (e : Event) → scan_event sys pairs t ≡ Ok e → order_of_event e ≡ None
unfolding taken_scan
scan_orders_nothing sys pairs t e h = scan_gives (nat_lt LAST_MOMENT t) (nat_lt t sys.moment) (nat_le MOST_EVENTS sys.events) (image_of (globals_of sys.plant) pairs) t e h

-- an event that is no order
pub agree_scan : (plant : PlainPlant) (old : List Event) (e : Event) (a : L) → order_of_event e ≡ None → AgreesWith plant old a → AgreesWith plant (old ++ e ∷ []) a
agree_scan plant old e a none h =
    let n = a.number in
    let sys = system plant old in
    agree_still plant old (old ++ e ∷ []) a
    (part_more n plant old (e ∷ [])
    ∙ (ap (λ (o : Option (ℕ × Order)). answers_of n plant old ++ (elim o [ None ↦ [] | Some x ↦ if x.0 == n then answer_to sys x.0 x.1 ∷ [] else [] ] ++ [])) none
    ∙ append-nil (answers_of n plant old)))
    h

pub agree_scans : (plant : PlainPlant) (old : List Event) (e : Event) (lanes : List L) → order_of_event e ≡ None → All (AgreesWith plant old) lanes → All (AgreesWith plant (old ++ e ∷ [])) lanes
agree_scans plant old e lanes none h = All-weaker (AgreesWith plant old) (AgreesWith plant (old ++ e ∷ [])) (λ (a : L). agree_scan plant old e a none) lanes h

or_parts : (a b : Bool) → (a || b) ≡ false → (a ≡ false) × (b ≡ false)
or_parts true b h = absurd (true≢false h)
or_parts false b h = (refl, h)

-- another number than each of these lanes has
apart_from : (n : ℕ) (c : L) (rest : Bool) → (nat_eq n c.number || rest) ≡ false → (c.number ≢ n) × (rest ≡ false)
apart_from n c rest none =
    let both = or_parts (nat_eq n c.number) rest none in
    (λ (e : c.number ≡ n). absurd (true≢false (sym (eq-eqb n c.number (sym e)) ∙ both.0)), both.1)

-- what other consoles were answered changes no lane's part
other_parts : (plant : PlainPlant) (ds bs : List L) (old new : List Event) (taken : ℕ) (stopped : Bool) (a : L) → TookParts plant ds bs old new taken stopped
    → list_any (nat_eq a.number) (numbers_in ds) ≡ false → AgreesWith plant old a → AgreesWith plant new a
other_parts plant [] [] old new taken stopped a t none h = subst (λ (es : List Event). AgreesWith plant es a) (sym t.0) h
other_parts plant [] (b ∷ bs) old new taken stopped a t none h = absurd t
other_parts plant (c ∷ cs) [] old new taken stopped a t none h = absurd t
other_parts plant (c ∷ cs) (b ∷ bs) old new taken stopped a t none h =
    let away = apart_from a.number c (list_any (nat_eq a.number) (numbers_in cs)) none in
    let next : AgreesWith plant t.0 a = agree_other plant old t.0 a c.number t.4.orders away.0 t.4.took.events h in
    elim t.3 as (λ e. MatchBool e ((bs ≡ cs) × (new ≡ t.0) × (t.2 ≡ 0) × (stopped ≡ true)) (TookParts plant cs bs t.0 new t.2 stopped) → AgreesWith plant new a) [
      | true ↦ λ on. subst (λ (es : List Event). AgreesWith plant es a) (sym on.1) next
      | false ↦ λ on. other_parts plant cs bs t.0 new t.2 stopped a on away.1 next
    ] t.6

-- one console's part changes no other lane's
others_agree : (plant : PlainPlant) (old new : List Event) (n : ℕ) (orders : List Order) (ds : List L) → new ≡ old ++ events_by n orders → list_any (nat_eq n) (numbers_in ds) ≡ false
    → All (AgreesWith plant old) ds → All (AgreesWith plant new) ds
others_agree plant old new n orders [] events none h = All-nil (AgreesWith plant new)
others_agree plant old new n orders (a ∷ ds) events none h =
    let away = apart_from n a (list_any (nat_eq n) (numbers_in ds)) none in
    All-cons (AgreesWith plant new) a ds (agree_other plant old new a n orders (λ (e : n ≡ a.number). away.0 (sym e)) events (All-head (AgreesWith plant old) a ds h)) (others_agree plant old new n orders ds events away.1 (All-tail (AgreesWith plant old) a ds h))

-- the parts of all consoles
pub agree_parts : (plant : PlainPlant) (ds bs : List L) (old new : List Event) (taken : ℕ) (stopped : Bool) → TookParts plant ds bs old new taken stopped
    → HasNoTwin (numbers_in ds) → All (AgreesWith plant old) ds → All (AgreesWith plant new) bs
agree_parts plant [] [] old new taken stopped t once h = All-nil (AgreesWith plant new)
agree_parts plant [] (b ∷ bs) old new taken stopped t once h = absurd t
agree_parts plant (a ∷ ds) [] old new taken stopped t once h = absurd t
agree_parts plant (a ∷ ds) (b ∷ bs) old new taken stopped t once h =
    let part = t.4 in
    let both = or_parts (list_any (nat_eq a.number) (numbers_in ds)) (repeats nat_eq (numbers_in ds)) once in
    let own : AgreesWith plant t.0 b = agree_own plant old t.0 a b part.orders (All-head (AgreesWith plant old) a ds h) part.took in
    let rest : All (AgreesWith plant t.0) ds = others_agree plant old t.0 a.number part.orders ds part.took.events both.0 (All-tail (AgreesWith plant old) a ds h) in
    let none : list_any (nat_eq b.number) (numbers_in ds) ≡ false = subst (λ (n : ℕ). list_any (nat_eq n) (numbers_in ds) ≡ false) (sym part.took.lane.0) both.0 in
    elim t.3 as (λ e. MatchBool e ((bs ≡ ds) × (new ≡ t.0) × (t.2 ≡ 0) × (stopped ≡ true)) (TookParts plant ds bs t.0 new t.2 stopped) → All (AgreesWith plant new) (b ∷ bs)) [
      | true ↦ λ on.
          subst (λ (es : List Event). All (AgreesWith plant es) (b ∷ bs)) (sym on.1)
          (All-cons (AgreesWith plant t.0) b bs own (subst (λ (ls : List L). All (AgreesWith plant t.0) ls) (sym on.0) rest))
      | false ↦ λ on.
          All-cons (AgreesWith plant new) b bs (other_parts plant ds bs t.0 new t.2 stopped b on none own) (agree_parts plant ds bs t.0 new t.2 stopped on both.1 rest)
    ] t.6

-- the lanes' numbers stay
pub same_numbers : (plant : PlainPlant) (ds bs : List L) (old new : List Event) (taken : ℕ) (stopped : Bool) → TookParts plant ds bs old new taken stopped → numbers_in bs ≡ numbers_in ds
same_numbers plant [] [] old new taken stopped t = refl
same_numbers plant [] (b ∷ bs) old new taken stopped t = absurd t
same_numbers plant (a ∷ ds) [] old new taken stopped t = absurd t
same_numbers plant (a ∷ ds) (b ∷ bs) old new taken stopped t =
    elim t.3 as (λ e. MatchBool e ((bs ≡ ds) × (new ≡ t.0) × (t.2 ≡ 0) × (stopped ≡ true)) (TookParts plant ds bs t.0 new t.2 stopped) → numbers_in (b ∷ bs) ≡ numbers_in (a ∷ ds)) [
      | true ↦ λ on. (λ i. t.4.took.lane.0 i ∷ numbers_in (on.0 i))
      | false ↦ λ on. (λ i. t.4.took.lane.0 i ∷ same_numbers plant ds bs t.0 new t.2 stopped on i)
    ] t.6
