-- Units are well formed or have a fault.
use Rattle.std.proofs.Common.{◌≡◌, ◌≢◌, ℕ, zero, suc, ◌<◌, ◌⊎◌, List, [], ◌∷◌, length, Option, Some, None, slice_get, refl, inl, inr, arith}
use Rattle.std.proofs.lemmas.Bool.{cases_Bool}
use Rattle.std.proofs.lemmas.Option.{slice_get_within}
use Rattle.st_names.specs.Units.{PlainUnit}
use Rattle.st_blocks.proofs.Decided.{holder_or_none, deep_or_none}
use Rattle.st_names.specs.Faults.{first_misnamed}
use Rattle.st_typing.specs.Blocks.{blocks_of, block_places}
use Rattle.st_typing.specs.Faults.{first_misfit, first_inconstant, some_long, too_many, some_wide, AreNamed, AreKinded, AreApart, AreConstant, AreShort, AreShallow, AreFew, AreTyped, IsTypeFault}
use Rattle.st_typing.specs.declared.fault.TypeFault.{TypeFault}
use Rattle.st_typing.specs.declared.fault.TypeFault.TheVariants as fault
use Rattle.st_typing.proofs.Places.{as_many_places}

option_cases : {A : Type 0} (o : Option A) → (o ≡ None) ⊎ ((x : A) × (o ≡ Some x))
option_cases None = inl refl
option_cases (Some x) = inr (x, refl)

some_at : {A : Type 0} (xs : List A) (i : ℕ) → i < length xs → (x : A) × (slice_get xs i ≡ Some x)
some_at [] i within = absurd (omega (arith, within))
some_at (x ∷ xs) zero within = (x, refl)
some_at (x ∷ xs) (suc i) within = some_at xs i (omega (arith, within))

module _ (units : List PlainUnit) where
  -- there is a fault that isn't Memory
  abbrev pub Fails : Type 0
  Fails = (f : TypeFault) × IsTypeFault units f × (f ≢ fault.Memory)

  then : {A B : Type 0} → A ⊎ Fails → (A → B ⊎ Fails) → B ⊎ Fails
  then (inl a) on = on a
  then (inr fails) on = inr fails

  named : AreNamed units ⊎ Fails
  named =
      elim (option_cases (first_misnamed units)) [
        | inl none ↦ inl (record { names = none })
        | inr found ↦ inr (fault.Name found.0, found.1, λ e. cc e)
      ]

  kinded : AreNamed units → AreKinded units ⊎ Fails
  kinded are =
      elim (option_cases (first_misfit units)) [
        | inl none ↦ inl (record { named = are; kinds = none })
        | inr found ↦ inr (fault.Kind found.0, (are, found.1), λ e. cc e)
      ]

  apart : AreKinded units → AreApart units ⊎ Fails
  apart are =
      elim (holder_or_none (blocks_of units)) [
        | inl none ↦ inl (record { kinded = are; apart = none })
        | inr found ↦
            let within = slice_get_within (blocks_of units) found.0 found.1.0.0 found.1.0.1 in
            let many = as_many_places 0 units in
            let place = some_at (block_places 0 units) found.0 (omega (arith, within, many)) in
            inr (fault.HoldsItself place.0, (are, (found.0, place.1, found.1)), λ e. cc e)
      ]

  constant : AreApart units → AreConstant units ⊎ Fails
  constant are =
      elim (option_cases (first_inconstant units)) [
        | inl none ↦ inl (record { are_apart = are; constants = none })
        | inr found ↦ inr (fault.Constant found.0, (are, found.1), λ e. cc e)
      ]

  short : AreConstant units → AreShort units ⊎ Fails
  short are =
      elim (cases_Bool (some_long units)) [
        | inl so ↦ inr (fault.Turns, (are, so), λ e. cc e)
        | inr not_so ↦ inl (record { constant = are; short = not_so })
      ]

  shallow : AreShort units → AreShallow units ⊎ Fails
  shallow are =
      elim (deep_or_none (blocks_of units)) [
        | inl none ↦ inl (record { are_short = are; shallow = none })
        | inr found ↦ inr (fault.BlockDepth, (are, found), λ e. cc e)
      ]

  few : AreShallow units → AreFew units ⊎ Fails
  few are =
      elim (cases_Bool (too_many units)) [
        | inl so ↦ inr (fault.Programs, (are, so), λ e. cc e)
        | inr not_so ↦ inl (record { are_shallow = are; few = not_so })
      ]

  small : AreFew units → AreTyped units ⊎ Fails
  small are =
      elim (cases_Bool (some_wide units)) [
        | inl so ↦ inr (fault.Elements, (are, so), λ e. cc e)
        | inr not_so ↦ inl (record { are_few = are; small = not_so })
      ]

  pub typed_or_not : AreTyped units ⊎ Fails
  typed_or_not = then (then (then (then (then (then (then named kinded) apart) constant) short) shallow) few) small
