-- A level can be run: one program after another is one way.
use Rattle.std.proofs.Common.{◌≡◌, ℕ, zero, suc, ◌+◌, ◌-◌, ◌<◌, ◌≤◌, ◌==◌, Bool, true, false, cond, not, ◌||◌, ◌&&◌, List, [], ◌∷◌, ◌++◌, length, refl, sym, ap, ◌∙◌, ⊎_elim, Option, Some, None, arith}
use Rattle.std.specs.Option.{is_some, option_map}
use Rattle.std.specs.List.{slice_get}
use Rattle.std.proofs.lemmas.Bool.{cases_Bool, cases_eq, cases_lt, cases_order, eq-eqb, ne_eqb}
use Rattle.level_runs.specs.Stores.{Programs, Agree, AreLocal, in_order}
use Rattle.level_runs.specs.Levels.{Midway, AreLevels, IsRun, TakesLevel, RunsLevels, no_level, next_level}
use Rattle.level_runs.proofs.Rising.{among, contains, count, at_least, found, Rises, count_cons}
use Rattle.level_runs.proofs.Turns.{Live, before, trap_of, before_ran, order_rises, order_fault, order_trap, inside, size_before, unwritten, first_value}

-- each flag, with its program's number
abbrev each_flag : (ℕ → Bool → Bool) → ℕ → List Bool → List Bool
each_flag f p [] = []
each_flag f p (flag ∷ flags) = f p flag ∷ each_flag f (suc p) flags

length_each : (f : ℕ → Bool → Bool) (p : ℕ) (flags : List Bool) → length (each_flag f p flags) ≡ length flags
length_each f p [] = refl
length_each f p (flag ∷ flags) = ap suc (length_each f (suc p) flags)

get_each : (f : ℕ → Bool → Bool) (p : ℕ) (flags : List Bool) (i : ℕ) → slice_get (each_flag f p flags) i ≡ option_map (f (p + i)) (slice_get flags i)
get_each f p [] i = refl
get_each f p (flag ∷ flags) zero = ap (λ q. Some (f q flag)) (omega arith)
get_each f p (flag ∷ flags) (suc i) = get_each f (suc p) flags i ∙ ap (λ q. option_map (f q) (slice_get flags i)) (omega arith)

get_each_first : (f : ℕ → Bool → Bool) (flags : List Bool) (i : ℕ) → slice_get (each_flag f 0 flags) i ≡ option_map (f i) (slice_get flags i)
get_each_first f flags i = get_each f 0 flags i ∙ ap (λ q. option_map (f q) (slice_get flags i)) (omega arith)

module _ {E : Type 0} where
  rising_once : (low : ℕ) (fs : List (ℕ × E)) (p : ℕ) → Rises low fs → count p fs ≤ 1
  rising_once low [] p up = omega arith
  rising_once low (f ∷ fs) p up = ⊎_elim
      (λ (e : f.0 ≡ p). let none : count p fs ≡ 0 = ⊎_elim (λ (z : count p fs < 1). omega arith) (λ (some : 1 ≤ count p fs). absurd (let g = found fs p some in let h : suc f.0 ≤ p = at_least (suc f.0) fs (p, g.0) up.1 g.1 in omega arith)) (cases_lt (count p fs) 1) in
      let one : cond {A = ℕ} (f.0 == p) 1 0 ≡ 1 = rw (eq-eqb f.0 p e) refl in omega (arith, count_cons p f fs))
      (λ ne. let none : cond {A = ℕ} (f.0 == p) 1 0 ≡ 0 = rw (ne_eqb f.0 p ne) refl in omega (arith, count_cons p f fs, rising_once (suc f.0) fs p up.1)) (cases_eq f.0 p)

module _ {S K V Z E : Type 0} (P : Programs S K V Z E) (k last : ℕ) (old : Midway S) (laws : AreLocal P (length old.faulted)) (plan : AreLevels P (length old.faulted) last) where
  -- all but the level's programs are skipped
  abbrev others : ℕ → Bool → Bool
  others p flag = flag || not (P.level p == k)

  abbrev masked : Midway S
  masked = record { store = old.store; faulted = each_flag others 0 old.faulted }

  same_length : length masked.faulted ≡ length old.faulted
  same_length = length_each others 0 old.faulted

  off_true : (flag : Option Bool) (o : Bool) → o ≡ true → option_map (λ b. b || o) flag ≡ Some false → ⊥
  off_true (Some true) o is e = cc
  off_true (Some false) o is e = cc
  off_true None o is e = cc

  off_false : (flag : Option Bool) (o : Bool) → option_map (λ b. b || o) flag ≡ Some false → (flag ≡ Some false) × (o ≡ false)
  off_false (Some true) o e = absurd (cc)
  off_false (Some false) true e = absurd (cc)
  off_false (Some false) false e = (refl, refl)
  off_false None o e = absurd (cc)

  run_of : (p : ℕ) → Live P masked p → IsRun P k old.faulted p
  run_of p live =
      let both = off_false (slice_get old.faulted p) (not (P.level p == k)) (sym (get_each_first others old.faulted p) ∙ live) in
      ⊎_elim (λ (level : P.level p ≡ k). record { in_level = level; unfaulted = both.0 })
      (λ ne. absurd (let off : (P.level p == k) ≡ false = ne_eqb (P.level p) k ne in let on : not (P.level p == k) ≡ true = rw off refl in cc)) (cases_eq (P.level p) k)

  live_of : (p : ℕ) → IsRun P k old.faulted p → Live P masked p
  live_of p runs = get_each_first others old.faulted p ∙ ap (option_map (others p)) runs.unfaulted ∙ ap (λ b. Some (not b)) (eq-eqb (P.level p) k runs.in_level)

  mask_laws : AreLocal P (length masked.faulted)
  mask_laws = rw same_length laws

  -- of two programs of a level none writes what the other names
  apart : (p q : ℕ) (x : K) → IsRun P k old.faulted p → IsRun P k old.faulted q → P.writes p x ≡ true → P.names q x ≡ true → p ≡ q
  apart p q x a b writes names =
      let la = a.in_level in let lb = b.in_level in
      ⊎_elim (λ e. e) (⊎_elim (λ lt. absurd (omega (arith, plan.written_first p q x lt (inside P old q b.unfaulted) writes names)))
      (λ gt. absurd (omega (arith, plan.named_first q p x gt (inside P old p a.unfaulted) names writes)))) (cases_order p q)

  finds : (p : ℕ) → Live P masked p → Agree P p old.store (before P masked p)
  finds p live x names = first_value P masked mask_laws x p (λ q lives lt. ⊎_elim (λ w. absurd (let e = apart q p x (run_of q lives) (run_of p live) w names in omega arith)) (λ off. off) (cases_Bool (P.writes q x)))

  same_trap : (p : ℕ) → Live P masked p → (P.run p old.store).trap ≡ trap_of P masked p
  same_trap p live = laws.traps_alike p old.store (before P masked p) (inside P old p (run_of p live).unfaulted) (sym (size_before P masked mask_laws p)) (finds p live)

  later : (x : K) (j d : ℕ) → ((q : ℕ) → Live P masked q → j ≤ q → P.writes q x ≡ false) → P.value (before P masked (j + d)) x ≡ P.value (before P masked j) x
  later x j zero none = ap (λ i. P.value (before P masked i) x) (omega arith)
  later x j (suc d) none = let next : j + suc d ≡ suc (j + d) = omega arith in ap (λ i. P.value (before P masked i) x) next ∙ unwritten P masked mask_laws (j + d) x (λ live. none (j + d) live (omega arith)) ∙ later x j d none

  abbrev new_flag : ℕ → Bool → Bool
  new_flag p flag = flag || ((P.level p == k) && is_some (P.run p old.store).trap)

  abbrev new : Midway S
  new = record { store = before P masked (length old.faulted); faulted = each_flag new_flag 0 old.faulted }

  abbrev faults : List (ℕ × E)
  faults = (in_order P.run 0 masked.faulted masked.store).faults

  from_start : (i : ℕ) → slice_get masked.faulted (0 + i) ≡ slice_get masked.faulted i
  from_start i = ap (slice_get masked.faulted) (omega arith)

  stays : (flag : Option Bool) (b : Bool) → (flag ≡ Some false → b ≡ false) → option_map (λ f. f || b) flag ≡ flag
  stays (Some true) b no_ = refl
  stays (Some false) b no_ = ap Some (no_ refl)
  stays None b no_ = refl

  one_way : TakesLevel P k old new faults
  one_way = record {
    size = size_before P masked mask_laws (length old.faulted);
    taken = λ p x runs writes.
        let live = live_of p runs in let lt = inside P old p runs.unfaulted in
        ap (λ i. P.value (before P masked i) x) (omega arith)
        ∙ later x (suc p) (length old.faulted - suc p) (λ q lives le. ⊎_elim (λ w. absurd (let e = apart q p x (run_of q lives) runs w (laws.named p x lt writes) in omega arith)) (λ off. off) (cases_Bool (P.writes q x)))
        ∙ ap (λ s. P.value s x) (before_ran P masked p live)
        ∙ sym (laws.leaves_alike p old.store (before P masked p) lt (sym (size_before P masked mask_laws p)) (finds p live) x (laws.named p x lt writes));
    kept = λ x none. sym (first_value P masked mask_laws x (length old.faulted) (λ q live lt. none q (run_of q live)));
    flagged = λ p runs. get_each_first new_flag old.faulted p ∙ ap (option_map (new_flag p)) runs.unfaulted ∙ ap (λ b. Some (b && is_some (P.run p old.store).trap)) (eq-eqb (P.level p) k runs.in_level);
    unflagged = λ p other. get_each_first new_flag old.faulted p ∙ stays (slice_get old.faulted p) ((P.level p == k) && is_some (P.run p old.store).trap)
        (λ live. ap (λ b. b && is_some (P.run p old.store).trap) (ne_eqb (P.level p) k (λ level. other (record { in_level = level; unfaulted = live }))));
    traps = λ p e. (
      λ h. let t = order_trap P masked 0 masked.faulted masked.store from_start refl (p, e) (among faults (p, e) h) in (run_of p t.0, same_trap p t.0 ∙ t.1),
      λ h. let live = live_of p h.0 in let q : 0 + p ≡ p = omega arith in
          contains faults (p, e) (rw q at (order_fault P masked 0 masked.faulted masked.store from_start refl p e live (ap (trap_of P masked) q ∙ sym (same_trap p live) ∙ h.1))),
    );
    once = λ p. rising_once 0 faults p (order_rises P masked 0 masked.faulted masked.store);
  }

module _ {S K V Z E : Type 0} (P : Programs S K V Z E) (last : ℕ) (start : Midway S) (laws : AreLocal P (length start.faulted)) (plan : AreLevels P (length start.faulted) last) where
  one_by_one : (k : ℕ) → (end : Midway S) × (faults : List (ℕ × E)) × RunsLevels P start k end faults × (length end.faulted ≡ length start.faulted)
  one_by_one zero = (start, [], no_level, refl)
  one_by_one (suc k) =
      let r = one_by_one k in let old = r.0 in let laws_here : AreLocal P (length old.faulted) = rw r.3 laws in let plan_here : AreLevels P (length old.faulted) last = rw r.3 plan in (
        new P (suc k) last old laws_here plan_here,
        r.1 ++ faults P (suc k) last old laws_here plan_here,
        next_level r.2 (one_way P (suc k) last old laws_here plan_here),
        length_each (new_flag P (suc k) last old laws_here plan_here) 0 old.faulted ∙ r.3,
      )

-- from any store the levels can be run
pub levels_can_be_run : {S K V Z E : Type 0} (P : Programs S K V Z E) (last : ℕ) (start : Midway S) → AreLocal P (length start.faulted) → AreLevels P (length start.faulted) last
    → (k : ℕ) → (end : Midway S) × (faults : List (ℕ × E)) × RunsLevels P start k end faults
levels_can_be_run P last start laws plan k = let r = one_by_one P last start laws plan k in (r.0, r.1, r.2)
