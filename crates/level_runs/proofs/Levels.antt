-- Level by level: what stands after the levels up to a number.
use Rattle.std.proofs.Common.{◌≡◌, ℕ, zero, suc, ◌+◌, ◌<◌, ◌≤◌, ◌==◌, true, false, cond, List, [], ◌++◌, length, refl, sym, ap, ◌∙◌, ⊎_elim, Some, arith}
use Rattle.std.specs.Option.{is_some}
use Rattle.std.specs.List.{slice_get, Contains}
use Rattle.std.specs.List.Sorted.{IsPermutation, IsNonDecreasingBy}
use Rattle.std.proofs.lemmas.Bool.{cases_Bool, cases_eq, cases_lt, cases_order, both_ways}
use Rattle.std.proofs.lemmas.List.Elements.{Contains-append_left, Contains-append_right, Contains-append_cases}
use Rattle.std.proofs.lemmas.List.Sorted.{Contains-permutation, IsPermutation-sym, sum_by-IsPermutation}
use Rattle.std.proofs.lemmas.List.Sums.{sum_by-append}
use Rattle.level_runs.specs.Stores.{Outcome, Programs, Agree, AreKnownBySlots, AreLocal, in_order}
use Rattle.level_runs.specs.Levels.{Midway, AreLevels, IsRun, TakesLevel, RunsLevels, no_level, next_level, IsAsInOrder, LevelsAreAsInOrder}
use Rattle.level_runs.proofs.Same.{same_get}
use Rattle.level_runs.proofs.Rising.{Among, among, contains, count, found, rises, one_list}
use Rattle.level_runs.proofs.Turns.{cases_flag, after_flag, flag_skipped, Live, before, trap_of, before_ran, order_store, order_flag, order_rises, order_fault, order_trap, inside, size_before, unwritten, first_value}

module _ {S K V Z E : Type 0} (P : Programs S K V Z E) (last : ℕ) (start : Midway S) (same : AreKnownBySlots P) (laws : AreLocal P (length start.faulted)) (plan : AreLevels P (length start.faulted) last) where
  -- of the programs that write a slot, those of the first levels are those before a turn
  record IsCut (k j : ℕ) (x : K) : Type 0 where
    low : (q : ℕ) → Live P start q → P.writes q x ≡ true → q < j → P.level q ≤ k
    high : (q : ℕ) → Live P start q → P.writes q x ≡ true → P.level q ≤ k → q < j

  -- the turn of a program of the next level is such a place, for all that it names
  cut_at : (k p : ℕ) (x : K) → Live P start p → P.level p ≡ suc k → P.names p x ≡ true → IsCut k p x
  cut_at k p x live level names = record {
    low = λ q lives writes lt. omega (arith, plan.written_first q p x lt (inside P start p live) writes names);
    high = λ q lives writes le. ⊎_elim (λ (e : q ≡ p). absurd (let same : P.level q ≡ P.level p = ap P.level e in omega arith))
        (⊎_elim (λ lt. lt) (λ (gt : p < q). absurd (omega (arith, plan.named_first p q x gt (inside P start q lives) names writes)))) (cases_order q p);
  }

  -- what stands after the levels up to k: a slot's value is that of program order at each such place
  record Stands (k : ℕ) (now : Midway S) (faults : List (ℕ × E)) : Type 0 where
    size : P.size now.store ≡ P.size start.store
    slots : (x : K) (j : ℕ) → IsCut k j x → P.value now.store x ≡ P.value (before P start j) x
    ended : (p : ℕ) → P.level p ≤ k → slice_get now.faulted p ≡ after_flag (slice_get start.faulted p) (trap_of P start p)
    waiting : (p : ℕ) → k < P.level p → slice_get now.faulted p ≡ slice_get start.faulted p
    trapped : (p : ℕ) (e : E) → Contains faults (p, e) → Live P start p × (P.level p ≤ k) × (trap_of P start p ≡ Some e)
    listed : (p : ℕ) (e : E) → Live P start p → P.level p ≤ k → trap_of P start p ≡ Some e → Contains faults (p, e)
    once : (p : ℕ) → count p faults ≤ 1

  -- before the first level
  no_low : (p : ℕ) → Live P start p → P.level p ≤ 0 → ⊥
  no_low p live le = omega (arith, plan.above_none p (inside P start p live))

  begins : Stands 0 start []
  begins = record {
    size = refl;
    slots = λ x j cut. first_value P start laws x j (λ q live lt. ⊎_elim (λ w. absurd (no_low q live (cut.low q live w lt))) (λ no. no) (cases_Bool (P.writes q x)));
    ended = λ p le. sym (flag_skipped (slice_get start.faulted p) (trap_of P start p) (λ live. no_low p live le));
    waiting = λ p lt. refl;
    trapped = λ p e h. absurd (among [] (p, e) h);
    listed = λ p e live le is. absurd (no_low p live le);
    once = λ p. omega arith;
  }

  module _ (k : ℕ) (old new : Midway S) (faults here : List (ℕ × E)) (I : Stands k old faults) (takes : TakesLevel P (suc k) old new here) where
    run_of : (p : ℕ) → Live P start p → P.level p ≡ suc k → IsRun P (suc k) old.faulted p
    run_of p live level = record { in_level = level; unfaulted = I.waiting p (omega arith) ∙ live }

    live_of : (p : ℕ) → IsRun P (suc k) old.faulted p → Live P start p
    live_of p runs = let level = runs.in_level in sym (I.waiting p (omega arith)) ∙ runs.unfaulted

    -- a program of the level finds on its slots what it finds in program order
    finds : (p : ℕ) → Live P start p → P.level p ≡ suc k → Agree P p old.store (before P start p)
    finds p live level x names = I.slots x p (cut_at k p x live level names)

    same_size : (p : ℕ) → P.size old.store ≡ P.size (before P start p)
    same_size p = I.size ∙ sym (size_before P start laws p)

    same_trap : (p : ℕ) → Live P start p → P.level p ≡ suc k → (P.run p old.store).trap ≡ trap_of P start p
    same_trap p live level = laws.traps_alike p old.store (before P start p) (inside P start p live) (same_size p) (finds p live level)

    -- a slot that no program of the level writes
    stays : (x : K) (j : ℕ) → IsCut (suc k) j x → ((q : ℕ) → Live P start q → P.level q ≡ suc k → P.writes q x ≡ true → ⊥) → P.value new.store x ≡ P.value (before P start j) x
    stays x j cut none =
        takes.kept x (λ q runs. ⊎_elim (λ w. absurd (none q (live_of q runs) runs.in_level w)) (λ no. no) (cases_Bool (P.writes q x)))
        ∙ I.slots x j (record {
          low = λ q live w lt. ⊎_elim (λ (e : P.level q ≡ suc k). absurd (none q live e w)) (λ ne. omega (arith, cut.low q live w lt)) (cases_eq (P.level q) (suc k));
          high = λ q live w le. cut.high q live w (omega arith);
        })

    -- the last program before the turn writes the slot, or it doesn't
    written : (x : K) (p : ℕ) → IsCut (suc k) (suc p) x → Live P start p → P.writes p x ≡ true → P.value new.store x ≡ P.value (before P start (suc p)) x
    written x p cut live w = ⊎_elim
        (λ (level : P.level p ≡ suc k). takes.taken p x (run_of p live level) w
        ∙ laws.leaves_alike p old.store (before P start p) (inside P start p live) (same_size p) (finds p live level) x (laws.named p x (inside P start p live) w)
        ∙ sym (ap (λ s. P.value s x) (before_ran P start p live)))
        (λ ne. stays x (suc p) cut (λ q lives level writes. ⊎_elim (λ (e : q ≡ p). ne (ap P.level (sym e) ∙ level))
        (⊎_elim (λ (lt : q < p). omega (arith, plan.written_first q p x lt (inside P start p live) writes (laws.named p x (inside P start p live) w), cut.low p live w (omega arith)))
        (λ (gt : p < q). omega (arith, cut.high q lives writes (omega arith)))) (cases_order q p)))
        (cases_eq (P.level p) (suc k))

    -- a turn that doesn't write the slot can be left out
    shorter : (x : K) (p : ℕ) → IsCut (suc k) (suc p) x → (Live P start p → P.writes p x ≡ false) → IsCut (suc k) p x
    shorter x p cut unless = record {
      low = λ q live w lt. cut.low q live w (omega arith);
      high = λ q live w le. ⊎_elim (λ (e : q ≡ p). absurd (both_ways (P.writes p x) (unless (rw e at live)) (rw e at w))) (λ ne. omega (arith, cut.high q live w le)) (cases_eq q p);
    }

    value_at : (x : K) (j : ℕ) → IsCut (suc k) j x → P.value new.store x ≡ P.value (before P start j) x
    value_at x zero cut = stays x zero cut (λ q live level w. omega (arith, cut.high q live w (omega arith)))
    value_at x (suc p) cut =
        let passes : (Live P start p → P.writes p x ≡ false) → P.value new.store x ≡ P.value (before P start (suc p)) x = λ unless. value_at x p (shorter x p cut unless) ∙ sym (unwritten P start laws p x unless) in
        ⊎_elim (λ live. ⊎_elim (written x p cut live) (λ off. passes (λ lives. off)) (cases_Bool (P.writes p x))) (λ skips. passes (λ live. absurd (skips live))) (cases_flag (slice_get start.faulted p))

    flag_now : (p : ℕ) → P.level p ≡ suc k → slice_get new.faulted p ≡ after_flag (slice_get start.faulted p) (trap_of P start p)
    flag_now p level = ⊎_elim
        (λ live. takes.flagged p (run_of p live level) ∙ ap (λ trap. Some (is_some trap)) (same_trap p live level) ∙ sym (ap (λ flag. after_flag flag (trap_of P start p)) live))
        (λ skips. takes.unflagged p (λ runs. skips (live_of p runs)) ∙ I.waiting p (omega arith) ∙ sym (flag_skipped (slice_get start.faulted p) (trap_of P start p) skips))
        (cases_flag (slice_get start.faulted p))

    other_flag : (p : ℕ) → (P.level p ≡ suc k → ⊥) → slice_get new.faulted p ≡ slice_get old.faulted p
    other_flag p other = takes.unflagged p (λ runs. other runs.in_level)

    here_traps : (p : ℕ) (e : E) → Contains here (p, e) → Live P start p × (P.level p ≡ suc k) × (trap_of P start p ≡ Some e)
    here_traps p e h = let t = (takes.traps p e).0 h in let live = live_of p t.0 in let level = (t.0).in_level in (live, level, sym (same_trap p live level) ∙ t.1)

    -- no program has a fault here and one in the levels before
    one_each : (p : ℕ) → count p (faults ++ here) ≤ 1
    one_each p = let both = sum_by-append (λ (f : ℕ × E). cond (f.0 == p) 1 0) faults here in
        ⊎_elim (λ (none : count p here < 1). omega (arith, both, I.once p))
        (λ (some_here : 1 ≤ count p here). ⊎_elim (λ (none : count p faults < 1). omega (arith, both, takes.once p))
        (λ (some_before : 1 ≤ count p faults). absurd (
        let f = found here p some_here in let g = found faults p some_before in
        let a = here_traps p f.0 (contains here (p, f.0) f.1) in let b = I.trapped p g.0 (contains faults (p, g.0) g.1) in omega (arith, a.1, b.1)))
        (cases_lt (count p faults) 1))
        (cases_lt (count p here) 1)

    steps : Stands (suc k) new (faults ++ here)
    steps = record {
      size = takes.size ∙ I.size;
      slots = value_at;
      ended = λ p le. ⊎_elim (flag_now p) (λ ne. other_flag p ne ∙ I.ended p (omega arith)) (cases_eq (P.level p) (suc k));
      waiting = λ p lt. other_flag p (λ e. omega arith) ∙ I.waiting p (omega arith);
      trapped = λ p e h. ⊎_elim
          (λ h. let t = I.trapped p e h in let le : P.level p ≤ suc k = omega (arith, t.1) in (t.0, le, t.2))
          (λ h. let t = here_traps p e h in let le : P.level p ≤ suc k = omega (arith, t.1) in (t.0, le, t.2))
          (Contains-append_cases faults here (p, e) h);
      listed = λ p e live le is. ⊎_elim
          (λ (level : P.level p ≡ suc k). Contains-append_right faults here (p, e) ((takes.traps p e).1 (run_of p live level, same_trap p live level ∙ is)))
          (λ ne. Contains-append_left faults here (p, e) (I.listed p e live (omega arith) is)) (cases_eq (P.level p) (suc k));
      once = one_each;
    }

  stands : (k : ℕ) (now : Midway S) (faults : List (ℕ × E)) → RunsLevels P start k now faults → Stands k now faults
  stands k now faults no_level = begins
  stands k now faults (next_level {k = m} {old = old} {new = new} {faults = first} {here = here} runs takes) = steps m old new first here (stands m old first runs) takes

  -- at the end
  abbrev order : Outcome S E
  order = in_order P.run 0 start.faulted start.store

  from_start : (i : ℕ) → slice_get start.faulted (0 + i) ≡ slice_get start.faulted i
  from_start i = ap (slice_get start.faulted) (omega arith)

  module _ (end : Midway S) (faults : List (ℕ × E)) (I : Stands last end faults) where
    end_store : end.store ≡ order.store
    end_store = same end.store (before P start (length start.faulted)) (I.size ∙ sym (size_before P start laws (length start.faulted)))
        (λ x. I.slots x (length start.faulted) (record { low = λ q live w lt. plan.at_most_last q lt; high = λ q live w le. inside P start q live }))
        ∙ ap (before P start) (omega arith) ∙ sym (order_store P start 0 start.faulted start.store from_start refl)

    end_flag : (p : ℕ) → slice_get end.faulted p ≡ after_flag (slice_get start.faulted p) (trap_of P start p)
    end_flag p = ⊎_elim (λ (le : P.level p < suc last). I.ended p (omega arith))
        (λ gt. I.waiting p (omega arith) ∙ sym (flag_skipped (slice_get start.faulted p) (trap_of P start p) (λ live. omega (arith, plan.at_most_last p (inside P start p live)))))
        (cases_lt (P.level p) (suc last))

    end_faulted : end.faulted ≡ order.faulted
    end_faulted = same_get end.faulted order.faulted (λ p. end_flag p ∙ ap (λ q. after_flag (slice_get start.faulted p) (trap_of P start q)) (omega arith) ∙ sym (order_flag P start 0 start.faulted start.store from_start refl p))

    trap_in : (p : ℕ) (e : E) → Contains faults (p, e) → Among order.faults (p, e)
    trap_in p e h = let t = I.trapped p e h in let q : 0 + p ≡ p = omega arith in
        rw q at (order_fault P start 0 start.faulted start.store from_start refl p e t.0 (ap (trap_of P start) q ∙ t.2))

    trap_out : (f : ℕ × E) → Among order.faults f → Contains faults f
    trap_out f h = let t = order_trap P start 0 start.faulted start.store from_start refl f h in
        I.listed f.0 f.1 t.0 (plan.at_most_last f.0 (inside P start f.0 t.0)) t.1

    end_sorted : (list : List (ℕ × E)) → IsPermutation faults list → IsNonDecreasingBy (λ (f : ℕ × E). f.0) list → list ≡ order.faults
    end_sorted list moved up = one_list 0 0 list order.faults
        (rises 0 list (λ f h. omega arith) up (λ p. omega (arith, I.once p, sum_by-IsPermutation (λ (f : ℕ × E). cond (f.0 == p) 1 0) faults list moved)))
        (order_rises P start 0 start.faulted start.store)
        (λ f h. trap_in f.0 f.1 (Contains-permutation list faults f (IsPermutation-sym faults list moved) (contains list f h)))
        (λ f h. among list f (Contains-permutation faults list f moved (trap_out f h)))

    as_in_order : IsAsInOrder order end faults
    as_in_order = record {
      store = end_store;
      faulted = end_faulted;
      traps = λ p e. (λ h. contains order.faults (p, e) (trap_in p e h), λ h. trap_out (p, e) (among order.faults (p, e) h));
      sorted = end_sorted;
    }

pub levels_are_as_in_order : {S K V Z E : Type 0} (P : Programs S K V Z E) (last : ℕ) (start : Midway S) → AreKnownBySlots P → LevelsAreAsInOrder P last start
levels_are_as_in_order P last start same end faults laws plan runs = as_in_order P last start same laws plan end faults (stands P last start same laws plan last end faults runs)
