-- Program order, turn by turn.
use Rattle.std.proofs.Common.{◌≡◌, ℕ, zero, suc, ◌+◌, ◌<◌, Bool, true, false, List, [], ◌∷◌, length, refl, sym, ap, ◌∙◌, ◌⊎◌, inl, inr, ⊎_elim, Option, Some, None, arith}
use Rattle.std.specs.Option.{is_some}
use Rattle.std.specs.List.{slice_get}
use Rattle.std.proofs.lemmas.Option.{slice_get_within}
use Rattle.level_runs.specs.Stores.{RanProgram, Outcome, Programs, AreLocal, with_fault, in_order}
use Rattle.level_runs.specs.Levels.{Midway}
use Rattle.level_runs.proofs.Rising.{Among, Rises, rises_lower}

-- a flag is that of a program which runs, or isn't
pub cases_flag : (flag : Option Bool) → (flag ≡ Some false) ⊎ (flag ≡ Some false → ⊥)
cases_flag (Some false) = inl refl
cases_flag (Some true) = inr (λ e. cc)
cases_flag None = inr (λ e. cc)

-- what a turn leaves, by the flag
abbrev pub after_turn : {S E : Type 0} → Option Bool → RanProgram S E → S → S
after_turn (Some false) ran s = ran.store
after_turn (Some true) ran s = s
after_turn None ran s = s

pub turn_skipped : {S E : Type 0} (flag : Option Bool) (ran : RanProgram S E) (s : S) → (flag ≡ Some false → ⊥) → after_turn flag ran s ≡ s
turn_skipped (Some false) ran s skips = absurd (skips refl)
turn_skipped (Some true) ran s skips = refl
turn_skipped None ran s skips = refl

-- a flag after the program's turn
abbrev pub after_flag : {E : Type 0} → Option Bool → Option E → Option Bool
after_flag (Some false) trap = Some (is_some trap)
after_flag (Some true) trap = Some true
after_flag None trap = None

pub flag_skipped : {E : Type 0} (flag : Option Bool) (trap : Option E) → (flag ≡ Some false → ⊥) → after_flag flag trap ≡ flag
flag_skipped (Some false) trap skips = absurd (skips refl)
flag_skipped (Some true) trap skips = refl
flag_skipped None trap skips = refl

module _ {S K V Z E : Type 0} (P : Programs S K V Z E) (start : Midway S) where
  -- a program runs, if its turn comes
  abbrev pub Live : ℕ → Type 0
  Live p = slice_get start.faulted p ≡ Some false

  -- the store when a program's turn comes
  abbrev pub before : ℕ → S
  before zero = start.store
  before (suc p) = after_turn (slice_get start.faulted p) (P.run p (before p)) (before p)

  -- how its turn ends
  abbrev pub trap_of : ℕ → Option E
  trap_of p = (P.run p (before p)).trap

  pub before_ran : (p : ℕ) → Live p → before (suc p) ≡ (P.run p (before p)).store
  before_ran p live = ap (λ flag. after_turn flag (P.run p (before p)) (before p)) live

  pub before_skipped : (p : ℕ) → (Live p → ⊥) → before (suc p) ≡ before p
  before_skipped p skips = turn_skipped (slice_get start.faulted p) (P.run p (before p)) (before p) skips

  -- the programs from a number on
  abbrev FlagsFrom : ℕ → List Bool → Type 0
  FlagsFrom p flags = (i : ℕ) → slice_get start.faulted (p + i) ≡ slice_get flags i

  flags_tail : (p : ℕ) (flag : Bool) (flags : List Bool) → FlagsFrom p (flag ∷ flags) → FlagsFrom (suc p) flags
  flags_tail p flag flags from i = ap (slice_get start.faulted) (omega arith) ∙ from (suc i)

  flags_head : (p : ℕ) (flag : Bool) (flags : List Bool) → FlagsFrom p (flag ∷ flags) → slice_get start.faulted p ≡ Some flag
  flags_head p flag flags from = ap (slice_get start.faulted) (omega arith) ∙ from 0

  abbrev Order : ℕ → List Bool → S → Outcome S E
  Order p flags s = in_order P.run p flags s

  turn_skips : (p : ℕ) (flags : List Bool) (s : S) → FlagsFrom p (true ∷ flags) → s ≡ before p → s ≡ before (suc p)
  turn_skips p flags s from is = is ∙ sym (before_skipped p (λ live. absurd (let h = flags_head p true flags from in cc)))

  turn_runs : (p : ℕ) (flags : List Bool) (s : S) → FlagsFrom p (false ∷ flags) → s ≡ before p → (P.run p s).store ≡ before (suc p)
  turn_runs p flags s from is = ap (λ t. (P.run p t).store) is ∙ sym (before_ran p (flags_head p false flags from))

  pub order_store : (p : ℕ) (flags : List Bool) (s : S) → FlagsFrom p flags → s ≡ before p → (Order p flags s).store ≡ before (p + length flags)
  order_store p [] s from is = is ∙ ap before (omega arith)
  order_store p (true ∷ flags) s from is = order_store (suc p) flags s (flags_tail p true flags from) (turn_skips p flags s from is) ∙ ap before (omega arith)
  order_store p (false ∷ flags) s from is = order_store (suc p) flags (P.run p s).store (flags_tail p false flags from) (turn_runs p flags s from is) ∙ ap before (omega arith)

  pub order_flag : (p : ℕ) (flags : List Bool) (s : S) → FlagsFrom p flags → s ≡ before p → (i : ℕ) → slice_get (Order p flags s).faulted i ≡ after_flag (slice_get flags i) (trap_of (p + i))
  order_flag p [] s from is i = refl
  order_flag p (true ∷ flags) s from is zero = refl
  order_flag p (true ∷ flags) s from is (suc i) = order_flag (suc p) flags s (flags_tail p true flags from) (turn_skips p flags s from is) i ∙ ap (λ q. after_flag (slice_get flags i) (trap_of q)) (omega arith)
  order_flag p (false ∷ flags) s from is zero = ap (λ t. Some (is_some (P.run p t).trap)) is ∙ ap (λ q. Some (is_some (trap_of q))) (omega arith)
  order_flag p (false ∷ flags) s from is (suc i) = order_flag (suc p) flags (P.run p s).store (flags_tail p false flags from) (turn_runs p flags s from is) i ∙ ap (λ q. after_flag (slice_get flags i) (trap_of q)) (omega arith)

  put_rises : (p : ℕ) (trap : Option E) (fs : List (ℕ × E)) → Rises (suc p) fs → Rises p (with_fault p trap fs)
  put_rises p None fs up = rises_lower p (suc p) fs (omega arith) up
  put_rises p (Some e) fs up = (omega arith, up)

  pub order_rises : (p : ℕ) (flags : List Bool) (s : S) → Rises p (Order p flags s).faults
  order_rises p [] s = tt
  order_rises p (true ∷ flags) s = put_rises p None (Order (suc p) flags s).faults (order_rises (suc p) flags s)
  order_rises p (false ∷ flags) s = put_rises p (P.run p s).trap (Order (suc p) flags (P.run p s).store).faults (order_rises (suc p) flags (P.run p s).store)

  put_first : (p : ℕ) (trap : Option E) (fs : List (ℕ × E)) (e : E) → trap ≡ Some e → Among (with_fault p trap fs) (p, e)
  put_first p None fs e is = absurd (cc)
  put_first p (Some d) fs e is = let same : d ≡ e = cc in inl (λ i. (p, same i))

  put_rest : (p : ℕ) (trap : Option E) (fs : List (ℕ × E)) (f : ℕ × E) → Among fs f → Among (with_fault p trap fs) f
  put_rest p None fs f h = h
  put_rest p (Some d) fs f h = inr h

  put_cases : (p : ℕ) (trap : Option E) (fs : List (ℕ × E)) (f : ℕ × E) → Among (with_fault p trap fs) f → ((p ≡ f.0) × (trap ≡ Some f.1)) ⊎ Among fs f
  put_cases p None fs f h = inr h
  put_cases p (Some d) fs f (inl e) = inl (ap (λ (g : ℕ × E). g.0) e, ap (λ (g : ℕ × E). Some g.1) e)
  put_cases p (Some d) fs f (inr h) = inr h

  -- the faults of program order are the traps of the programs that run
  pub order_fault : (p : ℕ) (flags : List Bool) (s : S) → FlagsFrom p flags → s ≡ before p → (i : ℕ) (e : E) → slice_get flags i ≡ Some false → trap_of (p + i) ≡ Some e → Among (Order p flags s).faults (p + i, e)
  order_fault p [] s from is i e live traps = absurd (cc)
  order_fault p (true ∷ flags) s from is zero e live traps = absurd (cc)
  order_fault p (true ∷ flags) s from is (suc i) e live traps = let q : suc p + i ≡ p + suc i = omega arith in
      rw (← q) (order_fault (suc p) flags s (flags_tail p true flags from) (turn_skips p flags s from is) i e live (ap trap_of q ∙ traps))
  order_fault p (false ∷ flags) s from is zero e live traps = let q : p + 0 ≡ p = omega arith in
      rw q (put_first p (P.run p s).trap (Order (suc p) flags (P.run p s).store).faults e (ap (λ t. (P.run p t).trap) is ∙ ap trap_of (sym q) ∙ traps))
  order_fault p (false ∷ flags) s from is (suc i) e live traps = let q : suc p + i ≡ p + suc i = omega arith in
      put_rest p (P.run p s).trap (Order (suc p) flags (P.run p s).store).faults (p + suc i, e) (rw (← q) (order_fault (suc p) flags (P.run p s).store (flags_tail p false flags from) (turn_runs p flags s from is) i e live (ap trap_of q ∙ traps)))

  pub order_trap : (p : ℕ) (flags : List Bool) (s : S) → FlagsFrom p flags → s ≡ before p → (f : ℕ × E) → Among (Order p flags s).faults f → Live f.0 × (trap_of f.0 ≡ Some f.1)
  order_trap p [] s from is f h = absurd h
  order_trap p (true ∷ flags) s from is f h = order_trap (suc p) flags s (flags_tail p true flags from) (turn_skips p flags s from is) f h
  order_trap p (false ∷ flags) s from is f h = ⊎_elim
      (λ (here : (p ≡ f.0) × ((P.run p s).trap ≡ Some f.1)). rw (← here.0) (flags_head p false flags from, ap (λ t. (P.run p t).trap) (sym is) ∙ here.1))
      (λ rest. order_trap (suc p) flags (P.run p s).store (flags_tail p false flags from) (turn_runs p flags s from is) f rest)
      (put_cases p (P.run p s).trap (Order (suc p) flags (P.run p s).store).faults f h)

  pub inside : (p : ℕ) → Live p → p < length start.faulted
  inside p live = slice_get_within start.faulted p false live

  module _ (laws : AreLocal P (length start.faulted)) where
    pub size_before : (p : ℕ) → P.size (before p) ≡ P.size start.store
    size_before zero = refl
    size_before (suc p) = ⊎_elim
        (λ live. ap P.size (before_ran p live) ∙ laws.keeps_size p (before p) (inside p live) ∙ size_before p)
        (λ skips. ap P.size (before_skipped p skips) ∙ size_before p) (cases_flag (slice_get start.faulted p))

    -- a turn in which a slot isn't written
    pub unwritten : (p : ℕ) (x : K) → (Live p → P.writes p x ≡ false) → P.value (before (suc p)) x ≡ P.value (before p) x
    unwritten p x stays = ⊎_elim
        (λ live. ap (λ s. P.value s x) (before_ran p live) ∙ laws.frame p (before p) x (inside p live) (stays live))
        (λ skips. ap (λ s. P.value s x) (before_skipped p skips)) (cases_flag (slice_get start.faulted p))

    pub first_value : (x : K) (j : ℕ) → ((q : ℕ) → Live q → q < j → P.writes q x ≡ false) → P.value start.store x ≡ P.value (before j) x
    first_value x zero none = refl
    first_value x (suc p) none = first_value x p (λ q live lt. none q live (omega arith)) ∙ sym (unwritten p x (λ live. none p live (omega arith)))
