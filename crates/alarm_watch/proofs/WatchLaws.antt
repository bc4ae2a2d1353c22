-- Alarms follow their globals: a scan makes it so, and those of unchanged globals are then given their last conditions and suppressions again.
use Rattle.std.proofs.Common.{◌≡◌, ℕ, ◌<◌, ℤ, Bool, true, false, Option, Some, None, is_some, List, [], ◌∷◌, length, map, slice_get, slice_index_or, arith, refl, ap, sym, ◌∙◌}
use Rattle.std.specs.Option.{option_map}
use Rattle.std.proofs.lemmas.List.{length-map}
use Rattle.std.proofs.lemmas.Option.{slice_get-map, slice_get_within, slice_get-get_or, get_or_from_slice_get}
use Rattle.plant_types.specs.Values.{is_true}
use Rattle.alarm_machine.specs.Alarms.{PlainAlarm}
use Rattle.alarm_bank.proofs.BankLaws.{suppressions_scanned}
use Rattle.alarm_delays.specs.Delays.{PlainDelays, RawStay, after_conditions, delayed_each, since_each}
use Rattle.alarm_delays.proofs.DelayLaws.{each_length, follows_on}
use Rattle.alarm_watch.specs.declared.watched.Watch.{Watch}
use Rattle.alarm_watch.specs.Chains.{ChangesAreMarked, HasKey, condition_keys, suppress_keys}
use Rattle.alarm_watch.specs.Watched.{suppression, watched_conditions, watched_suppressions, alarms_watched, Follow}

no_watch : Watch
no_watch = record { condition = 0; suppress = None }

-- a suppression stays where its global does
suppression_stays : (before now : ℕ → ℤ) (o : Option ℕ) → ((g : ℕ) → o ≡ Some g → before g ≡ now g) → suppression before o ≡ suppression now o
suppression_stays before now None same = refl
suppression_stays before now (Some g) same = ap is_true (same g refl)

pub raw_stays : (watches : List Watch) (d : PlainDelays) (alarms : List PlainAlarm) (before now : ℕ → ℤ) (marks : List Bool) → length alarms ≡ length watches → Follow before watches d alarms
    → ChangesAreMarked (condition_keys watches) before now marks → ChangesAreMarked (suppress_keys watches) before now marks
    → RawStay marks (watched_conditions now watches) (watched_suppressions now watches) d alarms
raw_stays watches d alarms before now marks each follow conditions suppressions = record { conditions = condition_stays; suppressions = suppression_stays_at; counted = λ n unmarked. follow.counted n }
  where
    condition_stays : (n : ℕ) (r : Option ℕ) → slice_get marks n ≡ Some false → slice_get d.since n ≡ Some r → slice_get (watched_conditions now watches) n ≡ Some (is_some r)
    condition_stays n r unmarked there =
        let was : slice_get (watched_conditions before watches) n ≡ Some (is_some r) = ap (λ l. slice_get l n) (sym follow.conditions) ∙ slice_get-map (λ (x : Option ℕ). is_some x) d.since n ∙ ap (option_map (λ (x : Option ℕ). is_some x)) there in
        let within : n < length watches = let low = slice_get_within (watched_conditions before watches) n (is_some r) was in let many = length-map watches (λ (w : Watch). is_true (before w.condition)) in omega (arith, low, many) in
        let watch : Watch = slice_index_or watches n no_watch in
        let watched : slice_get watches n ≡ Some watch = slice_get-get_or watches n no_watch within in
        let key : HasKey (condition_keys watches) n watch.condition =
        get_or_from_slice_get (condition_keys watches) n (Some watch.condition) None (slice_get-map (λ (w : Watch). Some w.condition) watches n ∙ ap (option_map (λ (w : Watch). Some w.condition)) watched) in
        let seen : (f : Watch → Bool) → slice_get (map f watches) n ≡ Some (f watch) = λ f. slice_get-map f watches n ∙ ap (option_map f) watched in
        let same : is_true (now watch.condition) ≡ is_true (before watch.condition) = ap is_true (sym (conditions n watch.condition key unmarked)) in
        seen (λ (w : Watch). is_true (now w.condition)) ∙ ap Some same ∙ sym (seen (λ (w : Watch). is_true (before w.condition))) ∙ was

    suppression_stays_at : (n : ℕ) (a : PlainAlarm) → slice_get marks n ≡ Some false → slice_get alarms n ≡ Some a → slice_get (watched_suppressions now watches) n ≡ Some a.suppressed
    suppression_stays_at n a unmarked there =
        let within : n < length watches = let low = slice_get_within alarms n a there in omega (arith, low, each) in
        let watch : Watch = slice_index_or watches n no_watch in
        let watched : slice_get watches n ≡ Some watch = slice_get-get_or watches n no_watch within in
        let key : slice_index_or (suppress_keys watches) n None ≡ watch.suppress =
        get_or_from_slice_get (suppress_keys watches) n watch.suppress None (slice_get-map (λ (w : Watch). w.suppress) watches n ∙ ap (option_map (λ (w : Watch). w.suppress)) watched) in
        let at : slice_get (map (λ (x : PlainAlarm). x.suppressed) alarms) n ≡ Some a.suppressed = slice_get-map (λ (x : PlainAlarm). x.suppressed) alarms n ∙ ap (option_map (λ (x : PlainAlarm). x.suppressed)) there in
        let seen : (f : Watch → Bool) → slice_get (map f watches) n ≡ Some (f watch) = λ f. slice_get-map f watches n ∙ ap (option_map f) watched in
        let was : slice_get (watched_suppressions before watches) n ≡ Some a.suppressed = ap (λ l. slice_get l n) (sym follow.suppressions) ∙ at in
        let same : suppression now watch.suppress ≡ suppression before watch.suppress = sym (suppression_stays before now watch.suppress (λ g is. suppressions n g (key ∙ is) unmarked)) in
        seen (λ (w : Watch). suppression now w.suppress) ∙ ap Some same ∙ sym (seen (λ (w : Watch). suppression before w.suppress)) ∙ was

-- of marks that are all set nothing is asked
pub none_unmarked : (marks cs ss : List Bool) (d : PlainDelays) (alarms : List PlainAlarm) → ((n : ℕ) → slice_get marks n ≡ Some false → ⊥) → RawStay marks cs ss d alarms
none_unmarked marks cs ss d alarms none = record { conditions = λ n r unmarked there. absurd (none n unmarked); suppressions = λ n a unmarked there. absurd (none n unmarked); counted = λ n unmarked. absurd (none n unmarked) }

-- a mark that isn't set was not set before
pub stays_raw : (marks before cs ss : List Bool) (d : PlainDelays) (alarms : List PlainAlarm) → ((n : ℕ) → slice_get marks n ≡ Some false → slice_get before n ≡ Some false) → RawStay before cs ss d alarms → RawStay marks cs ss d alarms
stays_raw marks before cs ss d alarms kept raw = record { conditions = λ n r unmarked. raw.conditions n r (kept n unmarked); suppressions = λ n a unmarked. raw.suppressions n a (kept n unmarked); counted = λ n unmarked. raw.counted n (kept n unmarked) }

-- the conditions of each alarm, as they were met since then
since_met : (cs : List Bool) (t : ℕ) (rs : List (Option ℕ)) → length cs ≡ length rs → map (λ r. is_some r) (since_each cs t rs) ≡ cs
since_met [] t [] e = refl
since_met [] t (r ∷ rs) e = absurd (omega (arith, e))
since_met (c ∷ cs) t [] e = absurd (omega (arith, e))
since_met (false ∷ cs) t (r ∷ rs) e = ap (λ (l : List Bool). false ∷ l) (since_met cs t rs (omega (arith, e)))
since_met (true ∷ cs) t (r ∷ rs) e = ap (λ (l : List Bool). true ∷ l) (since_met cs t rs (omega (arith, e)))

-- after a scan the alarms follow the globals by which it was taken
pub follow_after : (now : ℕ → ℤ) (t : ℕ) (watches : List Watch) (d : PlainDelays) (alarms : List PlainAlarm) → length alarms ≡ length watches → length d.delays ≡ length watches → length d.since ≡ length watches
    → Follow now watches (after_conditions (watched_conditions now watches) t d) (alarms_watched now t watches d alarms)
follow_after now t watches d alarms each delays since =
    let conditions = length-map watches (λ (w : Watch). is_true (now w.condition)) in
    let suppressions = length-map watches (λ (w : Watch). suppression now w.suppress) in
    let counted = each_length (watched_conditions now watches) t d.delays d.since (omega (arith, conditions, delays)) (omega (arith, since, delays)) in
    record {
      conditions = since_met (watched_conditions now watches) t d.since (omega (arith, conditions, since));
      suppressions = suppressions_scanned (delayed_each (watched_conditions now watches) t d.delays d.since) (watched_suppressions now watches) t alarms (omega (arith, counted, delays, each)) (omega (arith, suppressions, each));
      counted = follows_on d (watched_conditions now watches) (watched_suppressions now watches) t alarms (omega (arith, conditions, each)) (omega (arith, suppressions, each));
    }
