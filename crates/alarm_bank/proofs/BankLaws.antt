-- What one alarm's step makes of the bank.
use Rattle.std.proofs.Common.{◌≡◌, ℕ, zero, suc, ◌+◌, ◌<◌, ◌≤◌, Bool, false, Option, Some, None, Ok, Err, List, [], ◌∷◌, ◌++◌, length, map, slice_get, slice_index, slice_index_or, ◌≢◌, All, inl, inr, slice_set, take, drop, ◌*◌, arith, refl, ap, sym, ◌∙◌, length-set}
use Rattle.std.specs.declared.result.Result.{Result}
use Rattle.std.specs.Option.{option_map}
use Rattle.std.proofs.lemmas.Bool.{cases_lt}
use Rattle.std.proofs.lemmas.List.{map-set, length-map, get_or-map, get_or_default, take_all, take_more, take_more_set, drop_more, drop_all, append-nil, append_assoc}
use Rattle.std.specs.List.{AllByRecursion}
use Rattle.std.proofs.lemmas.List.Elements.{All-set, All-get_or, All-from_recursion, recursion_from_All}
use Rattle.std.proofs.lemmas.Option.{slice_get-map, slice_get_within, get_or_from_slice_get, slice_get-get_or}
use Rattle.alarm_machine.specs.declared.states.AlarmState.{AlarmState}
use Rattle.alarm_machine.specs.declared.states.AlarmState.TheVariants as state
use Rattle.alarm_machine.specs.declared.states.Verb.{Verb}
use Rattle.alarm_bank.specs.Shelves.{IsLeastOf}
use Rattle.alarm_machine.specs.declared.states.OrderFault.{OrderFault}
use Rattle.alarm_machine.specs.Codes.{PlainChange, code_of}
use Rattle.alarm_machine.specs.Alarms.{PlainAlarm, new_alarm, after_scan, after_order, AnswersOrder, end_of, EndsInRange}
use Rattle.alarm_bank.specs.declared.event.BankEvent.TheVariants as event
use Rattle.alarm_bank.specs.declared.rows.Site.{Site}
use Rattle.alarm_counts.specs.declared.counted.Counted.{Counted}
use Rattle.alarm_counts.specs.Counts.{with_code, HasCell}
use Rattle.alarm_bank.specs.Banks.{PlainBank, IsSite, counted, scan_each, order_one, after_event, told, reply_of, end_or_never, IsBank, IsNextEnd, NoneShelved, IsSettled}

pub counted_length : (ps : List Site) (xs : List PlainAlarm) → length ps ≡ length xs → length (counted ps xs) ≡ length xs
counted_length [] xs e = e
counted_length (p ∷ ps) [] e = absurd (omega arith)
counted_length (p ∷ ps) (a ∷ xs) e = let r : length (counted ps xs) ≡ length xs = counted_length ps xs (omega arith) in omega arith

pub counted_set : (ps : List Site) (xs : List PlainAlarm) (at : ℕ) (a : PlainAlarm) → length ps ≡ length xs → at < length xs → counted ps (slice_set xs at a) ≡ with_code at (code_of a.state) (counted ps xs)
counted_set [] xs at a e h = absurd (omega arith)
counted_set (p ∷ ps) [] at a e h = absurd (omega arith)
counted_set (p ∷ ps) (x ∷ xs) zero a e h = refl
counted_set (p ∷ ps) (x ∷ xs) (suc at) a e h = ap (λ r. record { area = p.area; priority = p.priority; code = code_of x.state } ∷ r) (counted_set ps xs at a (omega arith) (omega arith))

-- an alarm is counted in its own area
pub counted_area : (ps : List Site) (xs : List PlainAlarm) (n : ℕ) → length ps ≡ length xs → option_map (λ (row : Counted). row.area) (slice_get (counted ps xs) n) ≡ option_map (λ (site : Site). site.area) (slice_get ps n)
counted_area [] xs n e = refl
counted_area (p ∷ ps) [] n e = absurd (omega arith)
counted_area (p ∷ ps) (x ∷ xs) zero e = refl
counted_area (p ∷ ps) (x ∷ xs) (suc n) e = counted_area ps xs n (omega arith)

-- each alarm of a site that is there has a count
cells_of : (areas : ℕ) (ps : List Site) (xs : List PlainAlarm) → AllByRecursion (IsSite areas) ps → AllByRecursion (HasCell (36 * areas)) (counted ps xs)
cells_of areas [] xs h = tt
cells_of areas (p ∷ ps) [] h = tt
cells_of areas (p ∷ ps) (a ∷ xs) h = (record { low = h.0.lowest; high = h.0.highest; area = omega (arith, h.0.area) }, cells_of areas ps xs h.1)

pub counted_cells : (areas : ℕ) (ps : List Site) (xs : List PlainAlarm) → All (IsSite areas) ps → All (HasCell (36 * areas)) (counted ps xs)
counted_cells areas ps xs h = All-from_recursion (HasCell (36 * areas)) (counted ps xs) (cells_of areas ps xs (recursion_from_All (IsSite areas) ps h))

-- one alarm more is counted
pub counted_next : (ps : List Site) (xs : List PlainAlarm) (rows : List Counted) (i : ℕ) (p : Site) (a : PlainAlarm) → length ps ≡ length xs → i < length xs
    → p ≡ slice_index_or ps i p → a ≡ slice_index_or xs i a
    → rows ++ counted (drop i ps) (drop i xs) ≡ counted ps xs
    → (rows ++ record { area = p.area; priority = p.priority; code = code_of a.state } ∷ []) ++ counted (drop (i + 1) ps) (drop (i + 1) xs) ≡ counted ps xs
counted_next ps xs rows i p a each h p_is a_is so_far =
    let first : drop i ps ≡ p ∷ drop (i + 1) ps = rw p_is (drop_more ps i p (omega arith)) in
    let first_too : drop i xs ≡ a ∷ drop (i + 1) xs = rw a_is (drop_more xs i a h) in
    append_assoc rows (record { area = p.area; priority = p.priority; code = code_of a.state } ∷ []) (counted (drop (i + 1) ps) (drop (i + 1) xs))
    ∙ ap (λ l. rows ++ l) (ap (λ l. counted l (a ∷ drop (i + 1) xs)) (sym first) ∙ ap (λ l. counted (drop i ps) l) (sym first_too)) ∙ so_far

pub counted_all : (ps : List Site) (xs : List PlainAlarm) (rows : List Counted) (i : ℕ) → length xs ≤ i → length ps ≡ length xs → rows ++ counted (drop i ps) (drop i xs) ≡ counted ps xs → rows ≡ counted ps xs
counted_all ps xs rows i le each so_far =
    let none : drop i ps ≡ [] = drop_all i ps (omega arith) in
    sym (append-nil rows) ∙ ap (λ l. rows ++ counted l (drop i xs)) (sym none) ∙ so_far

pub bank_put : (ps : List Site) (xs : List PlainAlarm) (moment : ℕ) (rows : List Counted) (ends : List ℕ) → IsBank ps xs moment rows ends → (at : ℕ) (a : PlainAlarm) → at < length xs → EndsInRange a.state → IsSettled a →
    IsBank ps (slice_set xs at a) moment (with_code at (code_of a.state) rows) (slice_set ends at (end_or_never (end_of a.state)))
bank_put ps xs moment rows ends b at a h r s = record {
  each = b.each ∙ sym (length-set xs at a);
  few = rw (length-set xs at a) b.few;
  in_range = b.in_range;
  rows_are = ap (with_code at (code_of a.state)) b.rows_are ∙ sym (counted_set ps xs at a b.each h);
  ends_are = ap (λ es. slice_set es at (end_or_never (end_of a.state))) b.ends_are ∙ sym (map-set (λ (x : PlainAlarm). end_or_never (end_of x.state)) xs at a);
  in_time = All-set (λ (x : PlainAlarm). EndsInRange x.state) xs at a r b.in_time;
  settled = All-set IsSettled xs at a s b.settled;
}

told_is : (r : Result PlainAlarm OrderFault) (old new : PlainAlarm) (res : Result (Option PlainChange) OrderFault) → AnswersOrder r old new res → res ≡ told old r
told_is (Ok a) old new res h = h.1
told_is (Err e) old new res h = h.1

pub replied : (w : PlainBank) (n : ℕ) (v : Verb) (a new : PlainAlarm) (res : Result (Option PlainChange) OrderFault) → slice_get w.alarms n ≡ Some a → AnswersOrder (after_order v w.moment a) a new res → res ≡ reply_of n v w
replied w n v a new res e h = rw (e, reply_of) (told_is (after_order v w.moment a) a new res h)

-- the number kept for an alarm that is there
pub kept_end : (xs : List PlainAlarm) (k : ℕ) (a : PlainAlarm) → slice_get xs k ≡ Some a → slice_index (map (λ (x : PlainAlarm). end_or_never (end_of x.state)) xs) k ≡ end_or_never (end_of a.state)
kept_end xs k a e = get_or_from_slice_get (map (λ (x : PlainAlarm). end_or_never (end_of x.state)) xs) k (end_or_never (end_of a.state)) 0 (slice_get-map (λ (x : PlainAlarm). end_or_never (end_of x.state)) xs k ∙ ap (option_map (λ (x : PlainAlarm). end_or_never (end_of x.state))) e)

in_list : (xs : List PlainAlarm) (k : ℕ) (a : PlainAlarm) → slice_get xs k ≡ Some a → k < length (map (λ (x : PlainAlarm). end_or_never (end_of x.state)) xs)
in_list xs k a e = rw length-map (slice_get_within xs k a e)

-- the number of an alarm tells whether it is shelved
no_alarm : PlainAlarm
no_alarm = new_alarm false 0

shelved_at : (o : Option ℕ) (r : ℕ) → r ≢ 18446744073709551615 → end_or_never o ≡ r → o ≡ Some r
shelved_at (Some e) r some is = ap (λ x. Some x) is
shelved_at None r some is = absurd (some (sym is))

never_at : (s : AlarmState) → EndsInRange s → 18446744073709551615 ≤ end_or_never (end_of s) → end_of s ≡ None
never_at (state.Shelved e) range h = absurd (omega (arith, range, h))
never_at state.Norm range h = refl
never_at state.Unack range h = refl
never_at state.Acked range h = refl
never_at state.Rtnun range h = refl
never_at state.Latun range h = refl
never_at state.Latak range h = refl
never_at state.Suppr range h = refl
never_at state.Oos range h = refl

pub next_some : (xs : List PlainAlarm) (r : ℕ) → All (λ a. EndsInRange a.state) xs → IsLeastOf 18446744073709551615 r (map (λ a. end_or_never (end_of a.state)) xs) → r ≢ 18446744073709551615 → IsNextEnd r xs
next_some xs r range l some =
    let t = l.there some in
    let within : t.0 < length xs = rw length-map at t.1 in
    let a : PlainAlarm = slice_index_or xs t.0 no_alarm in
    let got : slice_get xs t.0 ≡ Some a = slice_get-get_or xs t.0 no_alarm within in
    let is : end_or_never (end_of a.state) ≡ r = sym (kept_end xs t.0 a got) ∙ t.2 in
    record {
      there = (t.0, a, got, shelved_at (end_of a.state) r some is);
      least = λ k b f e shelved.
          let n : end_or_never (end_of b.state) ≡ f = ap end_or_never shelved in
          let low : r ≤ slice_index (map (λ (x : PlainAlarm). end_or_never (end_of x.state)) xs) k = l.below k (in_list xs k b e) in
          omega (arith, low, kept_end xs k b e, n);
    }

pub next_none : (xs : List PlainAlarm) (r : ℕ) → r ≡ 18446744073709551615 → All (λ a. EndsInRange a.state) xs → IsLeastOf 18446744073709551615 r (map (λ a. end_or_never (end_of a.state)) xs) → NoneShelved xs
next_none xs r never range l k a e =
    let low : r ≤ slice_index (map (λ (x : PlainAlarm). end_or_never (end_of x.state)) xs) k = l.below k (in_list xs k a e) in
    let below : 18446744073709551615 ≤ end_or_never (end_of a.state) = omega (arith, low, never, kept_end xs k a e) in
    let in_range : EndsInRange a.state = rw (← get_or_from_slice_get xs k a a e) (All-get_or (λ (x : PlainAlarm). EndsInRange x.state) xs k a (slice_get_within xs k a e) range) in
    never_at a.state in_range below

taken : (r : Result PlainAlarm OrderFault) (old new : PlainAlarm) (m : Option PlainChange) → AnswersOrder r old new (Ok m) → r ≡ Ok new
taken (Ok a) old new m h = ap (λ x. Ok x) (sym h.0)
taken (Err e) old new m h = cc (h.1)

refused : (r : Result PlainAlarm OrderFault) (old new : PlainAlarm) (f : OrderFault) → AnswersOrder r old new (Err f) → r ≡ Err f
refused (Ok a) old new f h = cc (h.1)
refused (Err e) old new f h = let k : e ≡ f = cc (h.1) in ap (λ x. Err x) k

pub order_none : (w : PlainBank) (n : ℕ) (v : Verb) → slice_get w.alarms n ≡ None → w ≡ after_event (event.Order n v) w
order_none w n v e = rw (e, order_one, after_event) refl

pub order_ok : (w : PlainBank) (n : ℕ) (v : Verb) (a new : PlainAlarm) (m : Option PlainChange) → slice_get w.alarms n ≡ Some a → AnswersOrder (after_order v w.moment a) a new (Ok m) →
    record w { alarms = slice_set w.alarms n new } ≡ after_event (event.Order n v) w
order_ok w n v a new m e h = rw (e, order_one, after_event) (rw (taken (after_order v w.moment a) a new m h, after_event) refl)

pub order_err : (w : PlainBank) (n : ℕ) (v : Verb) (a new : PlainAlarm) (f : OrderFault) → slice_get w.alarms n ≡ Some a → AnswersOrder (after_order v w.moment a) a new (Err f) →
    w ≡ after_event (event.Order n v) w
order_err w n v a new f e h = rw (e, order_one, after_event) (rw (refused (after_order v w.moment a) a new f h, after_event) refl)

-- a scan of each alarm, at one place
pub scan_each_length : (cs ss : List Bool) (t : ℕ) (xs : List PlainAlarm) → length cs ≡ length xs → length ss ≡ length xs → length (scan_each cs ss t xs) ≡ length xs
scan_each_length [] ss t xs c s = refl
scan_each_length (c ∷ cs) [] t xs cl sl = refl
scan_each_length (c ∷ cs) (s ∷ ss) t [] cl sl = refl
scan_each_length (c ∷ cs) (s ∷ ss) t (x ∷ xs) cl sl = let r : length (scan_each cs ss t xs) ≡ length xs = scan_each_length cs ss t xs (omega arith) (omega arith) in omega arith

pub scan_each_at : (cs ss : List Bool) (t : ℕ) (xs : List PlainAlarm) (k : ℕ) (d : PlainAlarm) → length cs ≡ length xs → length ss ≡ length xs → k < length xs →
    after_scan (slice_index_or cs k false) (slice_index_or ss k false) t (slice_index_or xs k d) ≡ slice_index_or (scan_each cs ss t xs) k d
scan_each_at cs ss t [] k d cl sl h = absurd (omega arith)
scan_each_at [] ss t (x ∷ xs) k d cl sl h = absurd (omega arith)
scan_each_at (c ∷ cs) [] t (x ∷ xs) k d cl sl h = absurd (omega arith)
scan_each_at (c ∷ cs) (s ∷ ss) t (x ∷ xs) zero d cl sl h = refl
scan_each_at (c ∷ cs) (s ∷ ss) t (x ∷ xs) (suc k) d cl sl h = scan_each_at cs ss t xs k d (omega arith) (omega arith) (omega arith)

-- the conditions and the suppressions of the alarms after a scan are those that it gave them
pub conditions_scanned : (cs ss : List Bool) (t : ℕ) (xs : List PlainAlarm) → length cs ≡ length xs → length ss ≡ length xs → map (λ (a : PlainAlarm). a.condition) (scan_each cs ss t xs) ≡ cs
conditions_scanned [] ss t [] cl sl = refl
conditions_scanned [] ss t (x ∷ xs) cl sl = absurd (omega (arith, cl))
conditions_scanned (c ∷ cs) ss t [] cl sl = absurd (omega (arith, cl))
conditions_scanned (c ∷ cs) [] t (x ∷ xs) cl sl = absurd (omega (arith, sl))
conditions_scanned (c ∷ cs) (s ∷ ss) t (x ∷ xs) cl sl = ap (λ l. c ∷ l) (conditions_scanned cs ss t xs (omega (arith, cl)) (omega (arith, sl)))

pub suppressions_scanned : (cs ss : List Bool) (t : ℕ) (xs : List PlainAlarm) → length cs ≡ length xs → length ss ≡ length xs → map (λ (a : PlainAlarm). a.suppressed) (scan_each cs ss t xs) ≡ ss
suppressions_scanned [] [] t [] cl sl = refl
suppressions_scanned [] (s ∷ ss) t [] cl sl = absurd (omega (arith, sl))
suppressions_scanned [] ss t (x ∷ xs) cl sl = absurd (omega (arith, cl))
suppressions_scanned (c ∷ cs) ss t [] cl sl = absurd (omega (arith, cl))
suppressions_scanned (c ∷ cs) [] t (x ∷ xs) cl sl = absurd (omega (arith, sl))
suppressions_scanned (c ∷ cs) (s ∷ ss) t (x ∷ xs) cl sl = ap (λ l. s ∷ l) (suppressions_scanned cs ss t xs (omega (arith, cl)) (omega (arith, sl)))

-- the ends of the alarms' shelves up to one place, and one more
pub ends_more : (alarms : List PlainAlarm) (ends : List ℕ) (i n : ℕ) (d : PlainAlarm) → i < length alarms → length ends ≡ length alarms
    → n ≡ end_or_never (end_of (slice_index_or alarms i d).state)
    → take i ends ≡ take i (map (λ (x : PlainAlarm). end_or_never (end_of x.state)) alarms)
    → take (i + 1) (slice_set ends i n) ≡ take (i + 1) (map (λ (x : PlainAlarm). end_or_never (end_of x.state)) alarms)
ends_more alarms ends i n d lt count is h =
    let within : i < length ends = omega arith in
    let within_too : i < length (map (λ (x : PlainAlarm). end_or_never (end_of x.state)) alarms) = rw length-map lt in
    take_more_set ends i n within ∙ ap (λ l. l ++ n ∷ []) h
    ∙ ap (λ y. take i (map (λ (x : PlainAlarm). end_or_never (end_of x.state)) alarms) ++ y ∷ []) (is ∙ sym (get_or-map (λ (x : PlainAlarm). end_or_never (end_of x.state)) alarms i d n lt))
    ∙ sym (take_more (map (λ (x : PlainAlarm). end_or_never (end_of x.state)) alarms) i n within_too)

-- all of them
pub ends_all : (alarms : List PlainAlarm) (ends : List ℕ) (i : ℕ) → length alarms ≤ i → length ends ≡ length alarms
    → take i ends ≡ take i (map (λ (x : PlainAlarm). end_or_never (end_of x.state)) alarms) → ends ≡ map (λ (x : PlainAlarm). end_or_never (end_of x.state)) alarms
ends_all alarms ends i le count h =
    let within : length ends ≤ i = omega arith in
    let within_too : length (map (λ (x : PlainAlarm). end_or_never (end_of x.state)) alarms) ≤ i = rw length-map le in
    sym (take_all i ends within) ∙ h ∙ take_all i (map (λ (x : PlainAlarm). end_or_never (end_of x.state)) alarms) within_too

-- the alarms up to one place are settled, and so is the one there
pub settled_more : (alarms : List PlainAlarm) (i : ℕ) (r : PlainAlarm) → i < length alarms → r ≡ slice_index_or alarms i r → IsSettled r
    → ((k : ℕ) (d : PlainAlarm) → k < i → IsSettled (slice_index_or alarms k d)) → (k : ℕ) (d : PlainAlarm) → k < i + 1 → IsSettled (slice_index_or alarms k d)
settled_more alarms i r lt is here below k d h =
    elim (cases_lt k i) [
      | inl less ↦ below k d less
      | inr last ↦
          let e : k ≡ i = omega arith in
          let same : r ≡ slice_index_or alarms k d = is ∙ get_or_default alarms i r d lt ∙ ap (λ j. slice_index_or alarms j d) (sym e) in
          rw (← same) here
    ]

-- the ends of shelves up to one place are in range, and so is the one there
pub time_more : (alarms : List PlainAlarm) (i : ℕ) (r : PlainAlarm) → i < length alarms → r ≡ slice_index_or alarms i r → EndsInRange r.state
    → ((k : ℕ) (d : PlainAlarm) → k < i → EndsInRange (slice_index_or alarms k d).state) → (k : ℕ) (d : PlainAlarm) → k < i + 1 → EndsInRange (slice_index_or alarms k d).state
time_more alarms i r lt is here below k d h =
    elim (cases_lt k i) [
      | inl less ↦ below k d less
      | inr last ↦
          let e : k ≡ i = omega arith in
          let same : r ≡ slice_index_or alarms k d = is ∙ get_or_default alarms i r d lt ∙ ap (λ j. slice_index_or alarms j d) (sym e) in
          rw (← same) here
    ]
