-- Delays from scan to scan.
use Rattle.std.proofs.Common.{◌≡◌, ◌≢◌, ℕ, zero, suc, ◌++◌, ◌+◌, ◌-◌, ◌<◌, ◌≤◌, ◌⊎◌, inl, inr, Bool, true, false, not, Option, Some, None, List, [], ◌∷◌, length, slice_get, slice_set, slice_index, slice_index_or, replicate, arith, refl, ap, sym, ◌∙◌, length-set, nat_lt, is_some, fold, map, take, drop, subst, ℤ, ◌^◌}
use Rattle.std.proofs.lemmas.Bool.{cases_lt}
use Rattle.std.proofs.lemmas.List.{length-replicate, set_at, get_or_at, length_push, append_assoc, append-nil, drop_all, drop_more, take_all}
use Rattle.std.proofs.lemmas.Bool.Decides.{nat_tests}
use Rattle.std.proofs.lemmas.Option.{slice_get-get_or, slice_get_within, get_or_from_slice_get, same_Some}
use Rattle.std_blocks.specs.Calls.{Call}
use Rattle.std_blocks.specs.States.{PlainTonState}
use Rattle.std_blocks.proofs.Steps.{ton_steps, ton_shows}
use Rattle.alarm_machine.specs.Alarms.{PlainAlarm, after_scan}
use Rattle.alarm_bank.specs.Banks.{scan_each}
use Rattle.alarm_machine.specs.declared.limits.TheConstants.{LAST_MOMENT}
use Rattle.alarm_bank.specs.Moves.{AreMoved, UnmarkedStay}
use Rattle.alarm_delays.specs.Delays.{PlainDelays, IsDelays, Wakes, ArePast, Follows, have_none, last_conditions, told_by, after_met, after_conditions, delayed, delayed_each, has_come, since_after, since_each, put_since, AreMet, ConditionsStay, RawStay, FollowsOn, scan_of, scans_each, since_of, counts}

pub past_on : (last t : ℕ) (since : List (Option ℕ)) → last ≤ t → ArePast last since → ArePast t since
past_on last t since h past n r at = let p = past n r at in omega (arith, h, p)

pub wakes_on : (last t : ℕ) (delays : List ℕ) (since : List (Option ℕ)) (due : List ℕ) → last ≤ t → Wakes last delays since due → Wakes t delays since due
wakes_on last t delays since due h wakes n delay r d s early = wakes n delay r d s (omega (arith, h, early))

pub delays_on : (delays : List ℕ) (since : List (Option ℕ)) (last t : ℕ) (due : List ℕ) (is_plain : Bool) → last ≤ t → t ≤ LAST_MOMENT → IsDelays delays since last due is_plain → IsDelays delays since t due is_plain
delays_on delays since last t due is_plain h range is = record {
  each = is.each;
  places = is.places;
  plain = is.plain;
  few = is.few;
  in_range = range;
  past = past_on last t since h is.past;
  wakes = wakes_on last t delays since due h is.wakes;
}

pub none_since : (count n r : ℕ) → slice_get (replicate {A = Option ℕ} count None) n ≡ Some (Some r) → ⊥
none_since zero n r e = cc e
none_since (suc count) zero r e = cc e
none_since (suc count) (suc n) r e = none_since count n r e

set_cases : (xs : List (Option ℕ)) (at n : ℕ) (v x : Option ℕ) → slice_get (slice_set xs at v) n ≡ Some x → ((n ≡ at) × (x ≡ v)) ⊎ ((n ≢ at) × (slice_get xs n ≡ Some x))
set_cases [] at n v x e = absurd (cc e)
set_cases (y ∷ xs) zero zero v x e = inl (refl, cc e)
set_cases (y ∷ xs) zero (suc n) v x e = inr (λ h. absurd (omega (arith, h)), e)
set_cases (y ∷ xs) (suc at) zero v x e = inr (λ h. absurd (omega (arith, h)), e)
set_cases (y ∷ xs) (suc at) (suc n) v x e = elim (set_cases xs at n v x e) [ inl p ↦ inl (ap suc p.0, p.1) | inr p ↦ inr (λ h. p.0 (omega (arith, h)), p.1) ]

index_same : (due : List ℕ) (at key : ℕ) → at < length due → slice_index (slice_set due at key) at ≡ key
index_same [] at key h = absurd (omega arith)
index_same (y ∷ due) zero key h = refl
index_same (y ∷ due) (suc at) key h = index_same due at key (omega arith)

index_other : (due : List ℕ) (at n key : ℕ) → n ≢ at → slice_index (slice_set due at key) n ≡ slice_index due n
index_other [] at n key h = refl
index_other (y ∷ due) zero zero key h = absurd (h refl)
index_other (y ∷ due) zero (suc n) key h = refl
index_other (y ∷ due) (suc at) zero key h = refl
index_other (y ∷ due) (suc at) (suc n) key h = index_other due at n key (λ e. h (ap suc e))

module _ (delays : List ℕ) (since : List (Option ℕ)) (last : ℕ) (due : List ℕ) (is_plain : Bool) (at : ℕ) (v : Option ℕ) (key : ℕ) (is : IsDelays delays since last due is_plain) (within : at < length delays)
    (past : (r : ℕ) → v ≡ Some r → r ≤ last) (wakes : (delay r : ℕ) → slice_get delays at ≡ Some delay → v ≡ Some r → last - r < delay → key ≤ r + delay) where
  put_past : ArePast last (slice_set since at v)
  put_past n r e = elim (set_cases since at n v (Some r) e) [ inl p ↦ past r (sym p.1) | inr p ↦ is.past n r p.1 ]

  put_wakes : Wakes last delays (slice_set since at v) (slice_set due at key)
  put_wakes n delay r d e early = elim (set_cases since at n v (Some r) e) [
    | inl p ↦ let same = p.0 in let k = wakes delay r (ap (slice_get delays) (sym same) ∙ d) (sym p.1) early in
        let index = ap (slice_index (slice_set due at key)) same ∙ index_same due at key (omega (arith, within, is.places)) in omega (arith, k, index)
    | inr p ↦ let k = is.wakes n delay r d p.1 early in let index = index_other due at n key p.0 in omega (arith, k, index)
  ]

  pub put_delays : IsDelays delays (slice_set since at v) last (slice_set due at key) is_plain
  put_delays = record {
    each = length-set since at v ∙ is.each;
    places = length-set due at key ∙ is.places;
    plain = is.plain;
    few = is.few;
    in_range = is.in_range;
    past = put_past;
    wakes = put_wakes;
  }

-- of an alarm that has no delay no moment is awaited
pub put_none : (delays : List ℕ) (since : List (Option ℕ)) (last : ℕ) (due : List ℕ) (is_plain : Bool) (at : ℕ) (v : Option ℕ) → IsDelays delays since last due is_plain → slice_get delays at ≡ Some 0
    → ((r : ℕ) → v ≡ Some r → r ≤ last) → IsDelays delays (slice_set since at v) last due is_plain
put_none delays since last due is_plain at v is none past = record {
  each = length-set since at v ∙ is.each;
  places = is.places;
  plain = is.plain;
  few = is.few;
  in_range = is.in_range;
  past = λ n r e. elim (set_cases since at n v (Some r) e) [ inl p ↦ past r (sym p.1) | inr p ↦ is.past n r p.1 ];
  wakes = λ n delay r d e early. elim (set_cases since at n v (Some r) e) [
    | inl p ↦ let zero_is : delay ≡ 0 = same_Some delay 0 (sym d ∙ ap (slice_get delays) p.0 ∙ none) in absurd (omega (arith, zero_is, early))
    | inr p ↦ is.wakes n delay r d p.1 early
  ];
}

-- ---- plants in which no alarm has a delay

pub none_zero : (d : ℕ) (ds : List ℕ) → d ≡ 0 → have_none (d ∷ ds) ≡ have_none ds
none_zero zero ds e = refl
none_zero (suc d) ds e = absurd (omega (arith, e))

pub none_but : (d : ℕ) (ds : List ℕ) → 0 < d → have_none (d ∷ ds) ≡ false
none_but zero ds e = absurd (omega (arith, e))
none_but (suc d) ds e = refl

pub none_at : (ds : List ℕ) (n : ℕ) → have_none ds ≡ true → n < length ds → slice_get ds n ≡ Some 0
none_at [] n none h = absurd (omega (arith, h))
none_at (suc d ∷ ds) n none h = absurd (cc none)
none_at (zero ∷ ds) zero none h = refl
none_at (zero ∷ ds) (suc n) none h = none_at ds n none (omega (arith, h))

-- since when a condition is met after a scan is no later than that
pub after_past : (c : Bool) (t : ℕ) (before : Option ℕ) (r : ℕ) → ((q : ℕ) → before ≡ Some q → q ≤ t) → since_after c t before ≡ Some r → r ≤ t
after_past false t before r past e = absurd (cc e)
after_past true t None r past e = let same : t ≡ r = cc e in omega (arith, same)
after_past true t (Some q) r past e = past r e

-- ---- conditions that are taken one after another, where no alarm has a delay

get_index : (xs : List (Option ℕ)) (n r : ℕ) → slice_index_or xs n None ≡ Some r → slice_get xs n ≡ Some (Some r)
get_index [] n r e = absurd (cc e)
get_index (x ∷ xs) zero r e = ap Some e
get_index (x ∷ xs) (suc n) r e = get_index xs n r e

past_put : (t : ℕ) (xs : List (Option ℕ)) (one : ℕ × Bool) → ArePast t xs → ArePast t (put_since t xs one)
past_put t xs one past n r e =
    let before = slice_index_or xs one.0 None in
    elim (set_cases xs one.0 n (since_after one.1 t before) (Some r) e) [ inl p ↦ after_past one.1 t before r (λ q is. past one.0 q (get_index xs one.0 q is)) (sym p.1) | inr p ↦ past n r p.1 ]

past_puts : (t : ℕ) (xs : List (Option ℕ)) (met : List (ℕ × Bool)) → ArePast t xs → ArePast t (fold (put_since t) xs met)
past_puts t xs [] past = past
past_puts t xs (one ∷ met) past = past_puts t (put_since t xs one) met (past_put t xs one past)

pub length_puts : (t : ℕ) (xs : List (Option ℕ)) (met : List (ℕ × Bool)) → length (fold (put_since t) xs met) ≡ length xs
length_puts t xs [] = refl
length_puts t xs (one ∷ met) = length_puts t (put_since t xs one) met ∙ length-set xs one.0 (since_after one.1 t (slice_index_or xs one.0 None))

pub puts_plain : (delays : List ℕ) (since : List (Option ℕ)) (last : ℕ) (due : List ℕ) (is_plain : Bool) (met : List (ℕ × Bool)) → IsDelays delays since last due is_plain → have_none delays ≡ true
    → IsDelays delays (fold (put_since last) since met) last due is_plain
puts_plain delays since last due is_plain met is none = record {
  each = length_puts last since met ∙ is.each;
  places = is.places;
  plain = is.plain;
  few = is.few;
  in_range = is.in_range;
  past = past_puts last since met is.past;
  wakes = λ n delay r d e early. let zero_is : delay ≡ 0 = same_Some delay 0 (sym d ∙ none_at delays n none (slice_get_within delays n delay d)) in absurd (omega (arith, zero_is, early));
}

-- a list in whose place another of its length was written is that one
pub written_back : (many : ℕ) (new old : List (Option ℕ)) → many ≡ length old → length new ≡ length old → take many (new ++ drop (length new) old) ≡ new
written_back many new old size same =
    ap (λ (l : List (Option ℕ)). take many (new ++ l)) (drop_all (length new) old (omega (arith, same))) ∙ ap (take many) (append-nil new) ∙ take_all many new (omega (arith, size, same))

-- ---- the conditions that count

pub each_within : (cs : List Bool) (t : ℕ) (ds : List ℕ) (rs : List (Option ℕ)) (n : ℕ) → n < length (delayed_each cs t ds rs) → (n < length cs) × (n < length ds) × (n < length rs)
each_within [] t ds rs n h = absurd (omega arith)
each_within (c ∷ cs) t [] rs n h = absurd (omega arith)
each_within (c ∷ cs) t (d ∷ ds) [] n h = absurd (omega arith)
each_within (c ∷ cs) t (d ∷ ds) (r ∷ rs) zero h = (omega arith, omega arith, omega arith)
each_within (c ∷ cs) t (d ∷ ds) (r ∷ rs) (suc n) h = let p = each_within cs t ds rs n (omega arith) in let p0 = p.0 in let p1 = p.1 in let p2 = p.2 in (omega (arith, p0), omega (arith, p1), omega (arith, p2))

pub each_length : (cs : List Bool) (t : ℕ) (ds : List ℕ) (rs : List (Option ℕ)) → length cs ≡ length ds → length rs ≡ length ds → length (delayed_each cs t ds rs) ≡ length ds
each_length [] t ds rs p q = p
each_length (c ∷ cs) t [] rs p q = absurd (omega arith)
each_length (c ∷ cs) t (d ∷ ds) [] p q = absurd (omega arith)
each_length (c ∷ cs) t (d ∷ ds) (r ∷ rs) p q = ap suc (each_length cs t ds rs (omega arith) (omega arith))

pub each_at : (cs : List Bool) (t : ℕ) (ds : List ℕ) (rs : List (Option ℕ)) (n : ℕ) (c : Bool) (d : ℕ) (r : Option ℕ) → slice_get cs n ≡ Some c → slice_get ds n ≡ Some d → slice_get rs n ≡ Some r
    → slice_get (delayed_each cs t ds rs) n ≡ Some (delayed c d t r)
each_at [] t ds rs n c d r ce de re = absurd (cc ce)
each_at (x ∷ cs) t [] rs n c d r ce de re = absurd (cc de)
each_at (x ∷ cs) t (y ∷ ds) [] n c d r ce de re = absurd (cc re)
each_at (x ∷ cs) t (y ∷ ds) (z ∷ rs) zero c d r ce de re =
    let c_is : x ≡ c = cc ce in let d_is : y ≡ d = cc de in let r_is : z ≡ r = cc re in
    (λ i. Some (delayed (c_is i) (d_is i) t (r_is i)))
each_at (x ∷ cs) t (y ∷ ds) (z ∷ rs) (suc n) c d r ce de re = each_at cs t ds rs n c d r ce de re

-- a condition that has been met since then counts from some moment on
not_yet : (delay t r : ℕ) → t - r < delay → has_come delay t (Some r) ≡ false
not_yet delay t r h = ap not (step (nat_lt (t - r) delay) h)
  where
    step : (v : Bool) → t - r < delay → nat_lt (t - r) delay ≡ true
    step v h = grind (arith, nat_tests)

come : (delay t r : ℕ) → delay ≤ t - r → has_come delay t (Some r) ≡ true
come delay t r h = ap not (step h)
  where
    step : delay ≤ t - r → nat_lt (t - r) delay ≡ false
    step h = grind (arith, nat_tests)

-- an alarm whose condition stays as it was, and doesn't come to count by time alone
stays : (delay last t : ℕ) (r : Option ℕ) → ((q : ℕ) → r ≡ Some q → q ≤ last) → last ≤ t → ((q : ℕ) → r ≡ Some q → last - q < delay → t < q + delay) → delayed (is_some r) delay t r ≡ has_come delay last r
stays delay last t None past h early = refl
stays delay last t (Some q) past h early =
    elim (cases_lt (last - q) delay) [
      | inl waits ↦ let e = early q refl waits in let p = past q refl in not_yet delay t q (omega (arith, e, p, h)) ∙ sym (not_yet delay last q waits)
      | inr came ↦ come delay t q (omega (arith, came, h)) ∙ sym (come delay last q (omega (arith, came)))
    ]

-- what awaits an alarm that isn't marked: its condition doesn't come to count by a moment
abbrev pub NoneComes : PlainDelays → List Bool → ℕ → Type 0
NoneComes d marks t = (n delay r : ℕ) → slice_get d.delays n ≡ Some delay → slice_get d.since n ≡ Some (Some r) → d.last - r < delay → slice_get marks n ≡ Some false → t < r + delay

-- that holds where the tree of moments has marked what it awaits
pub none_comes : (d : PlainDelays) (due : List ℕ) (is_plain : Bool) (marks : List Bool) (t : ℕ) → IsDelays d.delays d.since d.last due is_plain
    → ((n : ℕ) → n < length due → slice_index due n ≤ t → slice_get marks n ≡ Some false → ⊥) → NoneComes d marks t
none_comes d due is_plain marks t is marked n delay r d_at r_at waits clear =
    let wakes = is.wakes n delay r d_at r_at waits in
    let within = slice_get_within d.delays n delay d_at in
    elim (cases_lt t (slice_index due n)) [
      | inl sooner ↦ omega (arith, sooner, wakes)
      | inr due_now ↦ absurd (marked n (omega (arith, within, is.places)) (omega (arith, due_now)) clear)
    ]

-- and where no alarm has a delay
pub none_awaited : (d : PlainDelays) (marks : List Bool) (t : ℕ) → have_none d.delays ≡ true → NoneComes d marks t
none_awaited d marks t none n delay r d_at r_at waits clear =
    let zero_is : delay ≡ 0 = same_Some delay 0 (sym d_at ∙ none_at d.delays n none (slice_get_within d.delays n delay d_at)) in absurd (omega (arith, zero_is, waits))

pub unmarked_stay : (d : PlainDelays) (marks marks' cs ss : List Bool) (t : ℕ) (alarms : List PlainAlarm) → length d.since ≡ length d.delays → ArePast d.last d.since → d.last ≤ t → length alarms ≡ length d.delays
    → ((n : ℕ) → slice_get marks' n ≡ Some false → slice_get marks n ≡ Some false) → NoneComes d marks' t
    → RawStay marks cs ss d alarms → UnmarkedStay marks' (delayed_each cs t d.delays d.since) ss alarms
unmarked_stay d marks marks' cs ss t alarms many past later each kept comes raw n a unmarked at =
    let within = slice_get_within alarms n a at in
    let delay : ℕ = slice_index_or d.delays n 0 in
    let r : Option ℕ = slice_index_or d.since n None in
    let d_at : slice_get d.delays n ≡ Some delay = slice_get-get_or d.delays n 0 (omega (arith, within, each)) in
    let r_at : slice_get d.since n ≡ Some r = slice_get-get_or d.since n None (omega (arith, within, each, many)) in
    let was = kept n unmarked in
    let c_at = raw.conditions n r was r_at in
    let same = stays delay d.last t r (λ q e. past n q (r_at ∙ ap Some e)) later (λ q e waits. comes n delay q d_at (r_at ∙ ap Some e) waits unmarked) in
    (each_at cs t d.delays d.since n (is_some r) delay r c_at d_at r_at ∙ ap Some (same ∙ sym (raw.counted n was a delay r at d_at r_at)), raw.suppressions n a was at)

pub none_more : (n : ℕ) → replicate {A = Option ℕ} n None ++ None ∷ [] ≡ replicate {A = Option ℕ} (suc n) None
none_more zero = refl
none_more (suc n) = ap (λ (xs : List (Option ℕ)). None ∷ xs) (none_more n)

pub delays_none : (delays : List ℕ) (n m : ℕ) (is_plain : Bool) → n ≡ length delays → m ≡ length delays → length delays < 2 ^ 32 → is_plain ≡ have_none delays
    → IsDelays delays (replicate {A = Option ℕ} n None) 0 (replicate m 18446744073709551615) is_plain
delays_none delays n m is_plain n_is m_is few plain = record {
  each = length-replicate n None ∙ n_is;
  places = length-replicate m 18446744073709551615 ∙ m_is;
  plain = plain;
  few = few;
  in_range = omega arith;
  past = λ k r e. absurd (none_since n k r e);
  wakes = λ k delay r d e early. absurd (none_since n k r e);
}

-- ---- the conditions of some alarms

-- a condition that stays as it was changes nothing
stays_since : (t : ℕ) (r : Option ℕ) → since_after (is_some r) t r ≡ r
stays_since t None = refl
stays_since t (Some q) = refl

put_after : (t n : ℕ) (before : List (Option ℕ)) (cs : List Bool) (rs : List (Option ℕ)) (met : List (ℕ × Bool)) → length before ≡ n → AreMet n cs rs met → fold (put_since t) (before ++ rs) met ≡ before ++ since_each cs t rs
put_after t n before [] [] met e h = rw h refl
put_after t n before [] (r ∷ rs) met e h = absurd h
put_after t n before (c ∷ cs) [] met e h = absurd h
put_after t n before (c ∷ cs) (r ∷ rs) met e h =
    elim h [
      | inl rests ↦
          let step : fold (put_since t) ((before ++ r ∷ []) ++ rs) met ≡ (before ++ r ∷ []) ++ since_each cs t rs = put_after t (n + 1) (before ++ r ∷ []) cs rs met (length_push before r ∙ ap (λ k. k + 1) e) rests.1 in
          let same : since_after c t r ≡ r = ap (λ (b : Bool). since_after b t r) rests.0 ∙ stays_since t r in
          ap (λ l. fold (put_since t) l met) (sym (append_assoc before (r ∷ []) rs)) ∙ step ∙ append_assoc before (r ∷ []) (since_each cs t rs) ∙ ap (λ x. before ++ x ∷ since_each cs t rs) (sym same)
      | inr met' ↦
          let v = since_after c t r in
          let step : fold (put_since t) ((before ++ v ∷ []) ++ rs) met'.0 ≡ (before ++ v ∷ []) ++ since_each cs t rs = put_after t (n + 1) (before ++ v ∷ []) cs rs met'.0 (length_push before v ∙ ap (λ k. k + 1) e) met'.2 in
          let found : slice_index_or (before ++ r ∷ rs) n None ≡ r = get_or_at before r rs None n e in
          let first : put_since t (before ++ r ∷ rs) (n, c) ≡ before ++ v ∷ rs = ap (λ x. slice_set (before ++ r ∷ rs) n (since_after c t x)) found ∙ set_at before r rs v n e in
          rw met'.1 (ap (λ l. fold (put_since t) l met'.0) (first ∙ sym (append_assoc before (v ∷ []) rs)) ∙ step ∙ append_assoc before (v ∷ []) (since_each cs t rs))
    ]

pub put_all : (t : ℕ) (cs : List Bool) (rs : List (Option ℕ)) (met : List (ℕ × Bool)) → AreMet 0 cs rs met → fold (put_since t) rs met ≡ since_each cs t rs
put_all t cs rs met h = put_after t 0 [] cs rs met refl h

pub past_set : (since : List (Option ℕ)) (at : ℕ) (v : Option ℕ) → length since ≤ at → slice_set since at v ≡ since
past_set [] at v h = refl
past_set (r ∷ since) zero v h = absurd (omega arith)
past_set (r ∷ since) (suc at) v h = ap (λ (xs : List (Option ℕ)). r ∷ xs) (past_set since at v (omega arith))

pub same_delays : (d old : PlainDelays) (since : List (Option ℕ)) (t : ℕ) → d.delays ≡ old.delays → d.since ≡ since → d.last ≡ t → d ≡ record old { since = since; last = t }
same_delays d old since t a b e = λ i. record { delays = a i; since = b i; last = e i }

-- ---- what two lists tell of a scan

fold_on : (f : List (Option ℕ) → ℕ × Bool → List (Option ℕ)) (rs : List (Option ℕ)) (xs ys : List (ℕ × Bool)) → fold f (fold f rs xs) ys ≡ fold f rs (xs ++ ys)
fold_on f rs [] ys = refl
fold_on f rs (x ∷ xs) ys = fold_on f (f rs x) xs ys

-- delays that have taken what is met, where some alarm has a delay
pub met_taken : (d old : PlainDelays) (met : List (ℕ × Bool)) (t : ℕ) (moved : List (ℕ × PlainAlarm)) → have_none old.delays ≡ false → d.delays ≡ old.delays → d.since ≡ fold (put_since t) old.since met → d.last ≡ t
    → d ≡ after_met met t moved old
met_taken d old met t moved some a b e =
    let since : d.since ≡ fold (put_since t) old.since (told_by (have_none old.delays) met moved) = b ∙ ap (λ (p : Bool). fold (put_since t) old.since (told_by p met moved)) (sym some) in
    (λ i. record { delays = a i; since = since i; last = e i })

-- and where none has, and the alarms that move are taken next
pub moved_taken : (d old : PlainDelays) (met : List (ℕ × Bool)) (t : ℕ) (moved : List (ℕ × PlainAlarm)) → have_none old.delays ≡ true → d.delays ≡ old.delays → d.since ≡ fold (put_since t) old.since met → d.last ≡ t
    → record d { since = fold (put_since d.last) d.since (last_conditions moved) } ≡ after_met met t moved old
moved_taken d old met t moved none a b e =
    let since : fold (put_since d.last) d.since (last_conditions moved) ≡ fold (put_since t) old.since (told_by (have_none old.delays) met moved) =
    (λ i. fold (put_since (e i)) (b i) (last_conditions moved)) ∙ fold_on (put_since t) old.since met (last_conditions moved) ∙ ap (λ (p : Bool). fold (put_since t) old.since (told_by p met moved)) (sym none) in
    (λ i. record { delays = a i; since = since i; last = e i })

-- without a delay a condition counts at once
none_delayed : (c : Bool) (t : ℕ) (r : Option ℕ) → delayed c 0 t r ≡ c
none_delayed false t r = refl
none_delayed true t None = come 0 t t (omega arith)
none_delayed true t (Some q) = come 0 t q (omega arith)

pub none_counted : (cs : List Bool) (t : ℕ) (ds : List ℕ) (rs : List (Option ℕ)) → length cs ≡ length ds → length rs ≡ length ds → have_none ds ≡ true → delayed_each cs t ds rs ≡ cs
none_counted [] t ds rs p q none = refl
none_counted (c ∷ cs) t [] rs p q none = absurd (omega (arith, p))
none_counted (c ∷ cs) t (d ∷ ds) [] p q none = absurd (omega (arith, q))
none_counted (c ∷ cs) t (suc d ∷ ds) (r ∷ rs) p q none = absurd (cc none)
none_counted (c ∷ cs) t (zero ∷ ds) (r ∷ rs) p q none = (λ i. none_delayed c t r i ∷ none_counted cs t ds rs (omega (arith, p)) (omega (arith, q)) none i)

-- an alarm whose last condition a scan leaves has the condition by which its delay is known
abbrev pub AreKnown : List Bool → List PlainAlarm → List (Option ℕ) → Type 0
AreKnown cs alarms rs = (n : ℕ) (c : Bool) (a : PlainAlarm) (r : Option ℕ) → slice_get cs n ≡ Some c → slice_get alarms n ≡ Some a → slice_get rs n ≡ Some r → c ≡ a.condition → c ≡ is_some r

-- the alarms that a scan moves tell which conditions have changed, by the conditions that count
pub moves_met : (n : ℕ) (cs ss : List Bool) (t : ℕ) (alarms : List PlainAlarm) (rs : List (Option ℕ)) (moved : List (ℕ × PlainAlarm)) → length cs ≡ length alarms → length ss ≡ length alarms → length rs ≡ length alarms
    → AreKnown cs alarms rs → AreMoved n alarms (scan_each cs ss t alarms) moved → AreMet n cs rs (last_conditions moved)
moves_met n [] ss t [] [] moved p q l known h = ap last_conditions h
moves_met n [] ss t [] (r ∷ rs) moved p q l known h = absurd (omega (arith, l))
moves_met n [] ss t (a ∷ alarms) rs moved p q l known h = absurd (omega (arith, p))
moves_met n (c ∷ cs) ss t [] rs moved p q l known h = absurd (omega (arith, p))
moves_met n (c ∷ cs) [] t (a ∷ alarms) rs moved p q l known h = absurd (omega (arith, q))
moves_met n (c ∷ cs) (s ∷ ss) t (a ∷ alarms) [] moved p q l known h = absurd (omega (arith, l))
moves_met n (c ∷ cs) (s ∷ ss) t (a ∷ alarms) (r ∷ rs) moved p q l known h =
    let rest : AreKnown cs alarms rs = λ m x b y. known (suc m) x b y in
    elim h [
      | inl same ↦ inl (known 0 c a r refl refl refl (ap (λ (b : PlainAlarm). b.condition) same.0), moves_met (n + 1) cs ss t alarms rs moved (omega (arith, p)) (omega (arith, q)) (omega (arith, l)) rest same.1)
      | inr one ↦ inr (last_conditions one.1, ap last_conditions one.2, moves_met (n + 1) cs ss t alarms rs one.1 (omega (arith, p)) (omega (arith, q)) (omega (arith, l)) rest one.3)
    ]

-- what an alarm follows without a delay is the condition
follows_met : (delay t : ℕ) (r : Option ℕ) → delay ≡ 0 → has_come delay t r ≡ is_some r
follows_met (suc delay) t r e = absurd (omega (arith, e))
follows_met zero t None e = refl
follows_met zero t (Some q) e = come 0 t q (omega arith)

-- alarms that follow, and have no delay, are known
pub follow_known : (cs : List Bool) (alarms : List PlainAlarm) (d : PlainDelays) → length alarms ≡ length d.delays → have_none d.delays ≡ true → Follows d alarms → AreKnown cs alarms d.since
follow_known cs alarms d each none follow n c a r c_at a_at r_at same =
    let within = slice_get_within alarms n a a_at in
    let none_is = none_at d.delays n none (omega (arith, within, each)) in
    same ∙ follow n a 0 r a_at none_is r_at ∙ follows_met 0 d.last r refl

-- since when conditions are met after a scan knows its conditions
after_met_since : (c : Bool) (t : ℕ) (r : Option ℕ) → is_some (since_after c t r) ≡ c
after_met_since false t r = refl
after_met_since true t None = refl
after_met_since true t (Some q) = refl

pub since_known : (cs : List Bool) (alarms : List PlainAlarm) (t : ℕ) (rs : List (Option ℕ)) → AreKnown cs alarms (since_each cs t rs)
since_known [] alarms t rs n c a r c_at a_at r_at same = absurd (cc c_at)
since_known (x ∷ cs) alarms t [] n c a r c_at a_at r_at same = absurd (cc r_at)
since_known (x ∷ cs) [] t (y ∷ rs) n c a r c_at a_at r_at same = absurd (cc a_at)
since_known (x ∷ cs) (b ∷ alarms) t (y ∷ rs) zero c a r c_at a_at r_at same =
    let c_is : x ≡ c = same_Some x c c_at in let r_is : since_after x t y ≡ r = same_Some (since_after x t y) r r_at in
    sym c_is ∙ sym (after_met_since x t y) ∙ ap (λ (o : Option ℕ). is_some o) r_is
since_known (x ∷ cs) (b ∷ alarms) t (y ∷ rs) (suc n) c a r c_at a_at r_at same = since_known cs alarms t rs n c a r c_at a_at r_at same

-- a scan taken twice is taken once
again_since : (c : Bool) (t : ℕ) (r : Option ℕ) → since_after c t (since_after c t r) ≡ since_after c t r
again_since false t r = refl
again_since true t None = refl
again_since true t (Some q) = refl

again_each : (cs : List Bool) (t : ℕ) (rs : List (Option ℕ)) → since_each cs t (since_each cs t rs) ≡ since_each cs t rs
again_each [] t rs = refl
again_each (c ∷ cs) t [] = refl
again_each (c ∷ cs) t (r ∷ rs) = (λ i. again_since c t r i ∷ again_each cs t rs i)

since_length : (cs : List Bool) (t : ℕ) (rs : List (Option ℕ)) → length cs ≡ length rs → length (since_each cs t rs) ≡ length rs
since_length [] t [] e = refl
since_length [] t (r ∷ rs) e = absurd (omega (arith, e))
since_length (c ∷ cs) t [] e = absurd (omega (arith, e))
since_length (c ∷ cs) t (r ∷ rs) e = ap suc (since_length cs t rs (omega (arith, e)))

-- what both lists tell, where no alarm has a delay
both_told : (cs ss : List Bool) (t : ℕ) (alarms : List PlainAlarm) (rs : List (Option ℕ)) (met : List (ℕ × Bool)) (moved : List (ℕ × PlainAlarm)) → length cs ≡ length alarms → length ss ≡ length alarms → length rs ≡ length alarms
    → AreMet 0 cs rs met → AreMoved 0 alarms (scan_each cs ss t alarms) moved → fold (put_since t) rs (met ++ last_conditions moved) ≡ since_each cs t rs
both_told cs ss t alarms rs met moved p q l are moves =
    let many = since_length cs t rs (p ∙ sym l) in
    sym (fold_on (put_since t) rs met (last_conditions moved)) ∙ ap (λ (o : List (Option ℕ)). fold (put_since t) o (last_conditions moved)) (put_all t cs rs met are)
    ∙ put_all t cs (since_each cs t rs) (last_conditions moved) (moves_met 0 cs ss t alarms (since_each cs t rs) moved p q (many ∙ l) (since_known cs alarms t rs) moves) ∙ again_each cs t rs

-- what is listed tells the scan, whatever the delays
pub told_all : (cs ss : List Bool) (t : ℕ) (d : PlainDelays) (alarms : List PlainAlarm) (met : List (ℕ × Bool)) (moved : List (ℕ × PlainAlarm)) → length alarms ≡ length d.delays → length cs ≡ length d.delays → length ss ≡ length d.delays
    → length d.since ≡ length d.delays → AreMet 0 cs d.since met → AreMoved 0 alarms (scan_each (delayed_each cs t d.delays d.since) ss t alarms) moved → after_met met t moved d ≡ after_conditions cs t d
told_all cs ss t d alarms met moved each conds sups since are moves = ap (λ (l : List (Option ℕ)). record d { since = l; last = t }) (by_delays (have_none d.delays) refl)
  where
    by_delays : (plain : Bool) → have_none d.delays ≡ plain → fold (put_since t) d.since (told_by plain met moved) ≡ since_each cs t d.since
    by_delays false some = put_all t cs d.since met are
    by_delays true none =
        let counted = none_counted cs t d.delays d.since conds since none in
        both_told cs ss t alarms d.since met moved (conds ∙ sym each) (sups ∙ sym each) (since ∙ sym each) are (subst (λ (l : List Bool). AreMoved 0 alarms (scan_each l ss t alarms) moved) counted moves)

-- and so do the alarms that move, where none has a delay and all follow
pub told_plain : (cs ss : List Bool) (t : ℕ) (d : PlainDelays) (alarms : List PlainAlarm) (moved : List (ℕ × PlainAlarm)) → length alarms ≡ length d.delays → length cs ≡ length d.delays → length ss ≡ length d.delays
    → length d.since ≡ length d.delays → have_none d.delays ≡ true → Follows d alarms → AreMoved 0 alarms (scan_each cs ss t alarms) moved → after_met [] t moved d ≡ after_conditions cs t d
told_plain cs ss t d alarms moved each conds sups since none follow moves =
    ap (λ (p : Bool). record d { since = fold (put_since t) d.since (told_by p [] moved); last = t }) none
    ∙ ap (λ (l : List (Option ℕ)). record d { since = l; last = t }) (put_all t cs d.since (last_conditions moved) (moves_met 0 cs ss t alarms d.since moved (conds ∙ sym each) (sups ∙ sym each) (since ∙ sym each) (follow_known cs alarms d each none follow) moves))

-- ---- after a scan

-- what counts in a scan is what has come by its moment, by since when the condition is met then
counts_after : (c : Bool) (delay t : ℕ) (r : Option ℕ) → delayed c delay t r ≡ has_come delay t (since_after c t r)
counts_after false delay t r = refl
counts_after true delay t None = refl
counts_after true delay t (Some q) = refl

pub follows_at : (t : ℕ) (cs ss : List Bool) (ds : List ℕ) (rs : List (Option ℕ)) (xs : List PlainAlarm) (n : ℕ) (a : PlainAlarm) (delay : ℕ) (r : Option ℕ) → length cs ≡ length xs → length ss ≡ length xs
    → slice_get (scan_each (delayed_each cs t ds rs) ss t xs) n ≡ Some a → slice_get ds n ≡ Some delay → slice_get (since_each cs t rs) n ≡ Some r → a.condition ≡ has_come delay t r
follows_at t [] ss ds rs [] n a delay r p q ae de re = absurd (cc ae)
follows_at t [] ss ds rs (x ∷ xs) n a delay r p q ae de re = absurd (omega arith)
follows_at t (c ∷ cs) ss [] rs xs n a delay r p q ae de re = absurd (cc de)
follows_at t (c ∷ cs) ss (d ∷ ds) [] xs n a delay r p q ae de re = absurd (cc re)
follows_at t (c ∷ cs) [] (d ∷ ds) (y ∷ rs) [] n a delay r p q ae de re = absurd (omega arith)
follows_at t (c ∷ cs) [] (d ∷ ds) (y ∷ rs) (x ∷ xs) n a delay r p q ae de re = absurd (omega arith)
follows_at t (c ∷ cs) (s ∷ ss) (d ∷ ds) (y ∷ rs) [] n a delay r p q ae de re = absurd (omega arith)
follows_at t (c ∷ cs) (s ∷ ss) (d ∷ ds) (y ∷ rs) (x ∷ xs) zero a delay r p q ae de re =
    let a_is : after_scan (delayed c d t y) s t x ≡ a = cc ae in
    let d_is : d ≡ delay = cc de in
    let r_is : since_after c t y ≡ r = cc re in
    ap (λ (b : PlainAlarm). b.condition) (sym a_is) ∙ counts_after c d t y ∙ (λ i. has_come (d_is i) t (r_is i))
follows_at t (c ∷ cs) (s ∷ ss) (d ∷ ds) (y ∷ rs) (x ∷ xs) (suc n) a delay r p q ae de re = follows_at t cs ss ds rs xs n a delay r (omega arith) (omega arith) ae de re

-- after a scan the last condition of each alarm is the one that counted
pub follows_on : FollowsOn
follows_on d cs ss t alarms p q n a delay r ae de re = follows_at t cs ss d.delays d.since alarms n a delay r p q ae de re

-- what one scan more makes of one alarm's scans
after_scan_since : (c : Bool) (delay t : ℕ) (scans : List Call) → since_of (scan_of c delay t ∷ scans) ≡ since_after c t (since_of scans)
after_scan_since true delay t scans = ap (λ (s : PlainTonState). s.start) (sym (ton_steps (scan_of true delay t) scans))
after_scan_since false delay t scans = refl

after_scan_counts : (c : Bool) (delay t : ℕ) (scans : List Call) → counts (scan_of c delay t ∷ scans) ≡ delayed c delay t (since_of scans)
after_scan_counts c delay t scans = ap (λ (q : Bool × ℤ). q.0) (sym (ton_shows (scan_of c delay t) scans))

-- what is kept from scan to scan is what the lists of scans have
pub since_scans : (cs : List Bool) (t : ℕ) (ds : List ℕ) (scans : List (List Call)) → length cs ≡ length ds → length scans ≡ length ds → map since_of (scans_each cs t ds scans) ≡ since_each cs t (map since_of scans)
since_scans [] t ds scans p q = refl
since_scans (c ∷ cs) t [] scans p q = absurd (omega (arith, p))
since_scans (c ∷ cs) t (d ∷ ds) [] p q = absurd (omega (arith, q))
since_scans (c ∷ cs) t (d ∷ ds) (s ∷ scans) p q =
    (λ i. after_scan_since c d t s i ∷ since_scans cs t ds scans (omega (arith, p)) (omega (arith, q)) i)

pub counts_scans : (cs : List Bool) (t : ℕ) (ds : List ℕ) (scans : List (List Call)) → map counts (scans_each cs t ds scans) ≡ delayed_each cs t ds (map since_of scans)
counts_scans [] t ds scans = refl
counts_scans (c ∷ cs) t [] scans = refl
counts_scans (c ∷ cs) t (d ∷ ds) [] = refl
counts_scans (c ∷ cs) t (d ∷ ds) (s ∷ scans) = (λ i. after_scan_counts c d t s i ∷ counts_scans cs t ds scans i)

pub length_scans : (cs : List Bool) (t : ℕ) (ds : List ℕ) (scans : List (List Call)) → length cs ≡ length ds → length scans ≡ length ds → length (scans_each cs t ds scans) ≡ length ds
length_scans [] t ds scans p q = p
length_scans (c ∷ cs) t [] scans p q = absurd (omega (arith, p))
length_scans (c ∷ cs) t (d ∷ ds) [] p q = absurd (omega (arith, q))
length_scans (c ∷ cs) t (d ∷ ds) (s ∷ scans) p q = ap suc (length_scans cs t ds scans (omega (arith, p)) (omega (arith, q)))

-- ---- the marked alarms

-- what the list has of the alarms from one number on, when those up to another are passed over
pub passed_over : (gap at to : ℕ) (marks cs : List Bool) (since : List (Option ℕ)) (met : List (ℕ × Bool)) → to ≡ at + gap → length cs ≡ length since → to ≤ length since → ConditionsStay marks cs since
    → ((n : ℕ) → at ≤ n → n < to → slice_get marks n ≡ Some false) → AreMet to (drop to cs) (drop to since) met → AreMet at (drop at cs) (drop at since) met
passed_over zero at to marks cs since met is each within stay clear h =
    let same : to ≡ at = omega (arith, is) in
    subst (λ k. AreMet k (drop k cs) (drop k since) met) same h
passed_over (suc gap) at to marks cs since met is each within stay clear h =
    let rest = passed_over gap (at + 1) to marks cs since met (omega (arith, is)) each within stay (λ n low high. clear n (omega (arith, low)) high) h in
    let r : Option ℕ = slice_index_or since at None in
    let c : Bool = slice_index_or cs at false in
    let r_at : slice_get since at ≡ Some r = slice_get-get_or since at None (omega (arith, is, within)) in
    let c_at : slice_get cs at ≡ Some c = slice_get-get_or cs at false (omega (arith, is, within, each)) in
    let stays_is : Some c ≡ Some (is_some r) = sym c_at ∙ stay at r (clear at (omega arith) (omega (arith, is))) r_at in
    subst (λ l. AreMet at l (drop at since) met) (sym (drop_more cs at false (omega (arith, is, within, each))))
    (subst (λ l. AreMet at (c ∷ drop (at + 1) cs) l met) (sym (drop_more since at None (omega (arith, is, within)))) (inl (same_Some c (is_some r) stays_is, rest)))

-- and when the first of them is listed
pub listed_one : (at : ℕ) (c : Bool) (cs : List Bool) (since : List (Option ℕ)) (met : List (ℕ × Bool)) → length cs ≡ length since → at < length since → slice_get cs at ≡ Some c
    → AreMet (at + 1) (drop (at + 1) cs) (drop (at + 1) since) met → AreMet at (drop at cs) (drop at since) ((at, c) ∷ met)
listed_one at c cs since met each within c_at h =
    let c_is : slice_index_or cs at false ≡ c = get_or_from_slice_get cs at c false c_at in
    subst (λ l. AreMet at l (drop at since) ((at, c) ∷ met)) (sym (drop_more cs at false (omega (arith, within, each)) ∙ ap (λ x. x ∷ drop (at + 1) cs) c_is))
    (subst (λ l. AreMet at (c ∷ drop (at + 1) cs) l ((at, c) ∷ met)) (sym (drop_more since at None within)) (inr (met, refl, h)))

-- ---- conditions, of which those before a place tell what counts

pub get_counted : (i : ℕ) (cs : List Bool) (t : ℕ) (ds : List ℕ) (rs : List (Option ℕ)) → i < length cs → length cs ≡ length ds → length rs ≡ length ds
    → slice_index_or (delayed_each (take i cs) t ds rs ++ drop i cs) i false ≡ slice_index_or cs i false
get_counted i [] t ds rs within p q = absurd (omega (arith, within))
get_counted i (c ∷ cs) t [] rs within p q = absurd (omega (arith, p))
get_counted i (c ∷ cs) t (d ∷ ds) [] within p q = absurd (omega (arith, q))
get_counted zero (c ∷ cs) t (d ∷ ds) (r ∷ rs) within p q = refl
get_counted (suc i) (c ∷ cs) t (d ∷ ds) (r ∷ rs) within p q = get_counted i cs t ds rs (omega (arith, within)) (omega (arith, p)) (omega (arith, q))

pub set_counted : (i : ℕ) (cs : List Bool) (t : ℕ) (ds : List ℕ) (rs : List (Option ℕ)) (v : Bool) → i < length cs → length cs ≡ length ds → length rs ≡ length ds
    → ((d : ℕ) (r : Option ℕ) → slice_get ds i ≡ Some d → slice_get rs i ≡ Some r → v ≡ delayed (slice_index_or cs i false) d t r)
    → slice_set (delayed_each (take i cs) t ds rs ++ drop i cs) i v ≡ delayed_each (take (suc i) cs) t ds rs ++ drop (suc i) cs
set_counted i [] t ds rs v within p q is = absurd (omega (arith, within))
set_counted i (c ∷ cs) t [] rs v within p q is = absurd (omega (arith, p))
set_counted i (c ∷ cs) t (d ∷ ds) [] v within p q is = absurd (omega (arith, q))
set_counted zero (c ∷ cs) t (d ∷ ds) (r ∷ rs) v within p q is = ap (λ (x : Bool). x ∷ cs) (is d r refl refl)
set_counted (suc i) (c ∷ cs) t (d ∷ ds) (r ∷ rs) v within p q is = ap (λ (l : List Bool). delayed c d t r ∷ l) (set_counted i cs t ds rs v (omega (arith, within)) (omega (arith, p)) (omega (arith, q)) is)
