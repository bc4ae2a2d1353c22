-- Delays of new alarms that keep the scans of old ones.
use Rattle.std.proofs.Common.{◌≡◌, ℕ, zero, suc, ◌++◌, ◌<◌, Option, Some, None, List, [], ◌∷◌, length, map, take, drop, slice_set, slice_index_or, replicate, arith, refl, ap, ◌∙◌}
use Rattle.std_blocks.specs.Calls.{Call}
use Rattle.alarm_delays.specs.Delays.{KeptAgree, PlainDelays, kept_since, kept_scans, since_of}

-- of these none is met
abbrev pub none_met : List (Option ℕ) → List (Option ℕ)
none_met kept = map (λ (k : Option ℕ). None) kept

pub none_yet : (kept : List (Option ℕ)) → replicate {A = Option ℕ} (length kept) None ≡ none_met kept
none_yet [] = refl
none_yet (k ∷ kept) = ap (λ (l : List (Option ℕ)). None ∷ l) (none_yet kept)

-- one more is kept
pub keep_more : (f : Option ℕ → Option ℕ) (kept : List (Option ℕ)) (at : ℕ) (d : Option ℕ) → at < length kept
    → slice_set (map f (take at kept) ++ none_met (drop at kept)) at (f (slice_index_or kept at d)) ≡ map f (take (suc at) kept) ++ none_met (drop (suc at) kept)
keep_more f [] at d h = absurd (omega (arith, h))
keep_more f (k ∷ kept) zero d h = refl
keep_more f (k ∷ kept) (suc at) d h = ap (λ (l : List (Option ℕ)). f k ∷ l) (keep_more f kept at d (omega (arith, h)))

-- since when the condition of an alarm of a number has been met, by its scans
index_since : (scans : List (List Call)) (n : ℕ) → since_of (slice_index_or scans n []) ≡ slice_index_or (map since_of scans) n None
index_since [] n = refl
index_since (s ∷ scans) zero = refl
index_since (s ∷ scans) (suc n) = index_since scans n

one_agrees : (scans : List (List Call)) (k : Option ℕ) → since_of (kept_scans scans k) ≡ kept_since (map since_of scans) k
one_agrees scans None = refl
one_agrees scans (Some n) = index_since scans n

pub kept_agree : KeptAgree
kept_agree scans [] = refl
kept_agree scans (k ∷ kept) = ap (λ (r : Option ℕ). r ∷ map since_of (map (kept_scans scans) kept)) (one_agrees scans k) ∙ ap (λ (l : List (Option ℕ)). kept_since (map since_of scans) k ∷ l) (kept_agree scans kept)

-- delays that have these parts
pub made_of : (d : PlainDelays) (delays : List ℕ) (since : List (Option ℕ)) (last : ℕ) → d.delays ≡ delays → d.since ≡ since → d.last ≡ last → d ≡ record { delays = delays; since = since; last = last }
made_of d delays since last e f g = λ i. record { delays = e i; since = f i; last = g i }
