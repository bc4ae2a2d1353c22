-- Units have one fault, and none where they are well formed.
use Rattle.std.proofs.Common.{◌≡◌, ◌≢◌, ◌∙◌, ap, sym, refl, ◌⊎◌, List, Option, Some, None, slice_get, inl, inr}
use Rattle.std.proofs.lemmas.Bool.{both_ways}
use Rattle.std.proofs.lemmas.Option.{same_Some}
use Rattle.st_names.specs.Units.{PlainUnit}
use Rattle.st_blocks.proofs.Decided as order
use Rattle.st_names.specs.declared.place.UnitPlace.{UnitPlace}
use Rattle.st_names.specs.Faults.{first_misnamed}
use Rattle.st_typing.specs.Blocks.{blocks_of, block_places}
use Rattle.st_typing.specs.Faults.{first_misfit, first_inconstant, some_long, too_many, some_wide, FirstToHoldItself, AreNamed, AreKinded, AreApart, AreConstant, AreShort, AreShallow, AreTyped, IsTypeFault}
use Rattle.st_typing.specs.declared.fault.TypeFault.{TypeFault}
use Rattle.st_typing.specs.declared.fault.TypeFault.TheVariants as fault
use Rattle.st_typing.proofs.Settled.{settled}

-- nothing is and isn't there
not_both : {A : Type 0} (o : Option A) (x : A) → o ≡ Some x → o ≡ None → ⊥
not_both o x e f = let g : Some x ≡ None = sym e ∙ f in absurd (cc g)

same_faults : {A : Type 0} (o : Option A) (fault_of : A → TypeFault) (f g : TypeFault) → ((x : A) × (f ≡ fault_of x) × (o ≡ Some x)) → ((y : A) × (g ≡ fault_of y) × (o ≡ Some y)) → f ≡ g
same_faults o fault_of f g a b = a.1 ∙ ap fault_of (same_Some a.0 b.0 (sym a.2 ∙ b.2)) ∙ sym b.1

module _ (units : List PlainUnit) where
  -- the faults of each stage, and those of it or a later one
  abbrev Name : TypeFault → Type 0
  Name f = (place : UnitPlace) × (f ≡ fault.Name place) × (first_misnamed units ≡ Some place)

  abbrev Kind : TypeFault → Type 0
  Kind f = AreNamed units × ((place : UnitPlace) × (f ≡ fault.Kind place) × (first_misfit units ≡ Some place))

  abbrev HoldsItself : TypeFault → Type 0
  HoldsItself f = AreKinded units × ((place : UnitPlace) × (f ≡ fault.HoldsItself place) × FirstToHoldItself units place)

  abbrev Constant : TypeFault → Type 0
  Constant f = AreApart units × ((place : UnitPlace) × (f ≡ fault.Constant place) × (first_inconstant units ≡ Some place))

  abbrev Turns : TypeFault → Type 0
  Turns f = (f ≡ fault.Turns) × IsTypeFault units fault.Turns

  abbrev BlockDepth : TypeFault → Type 0
  BlockDepth f = (f ≡ fault.BlockDepth) × IsTypeFault units fault.BlockDepth

  abbrev Programs : TypeFault → Type 0
  Programs f = (f ≡ fault.Programs) × IsTypeFault units fault.Programs

  abbrev Elements : TypeFault → Type 0
  Elements f = (f ≡ fault.Elements) × IsTypeFault units fault.Elements

  abbrev FromPrograms : TypeFault → Type 0
  FromPrograms f = Programs f ⊎ Elements f

  abbrev FromDepth : TypeFault → Type 0
  FromDepth f = BlockDepth f ⊎ FromPrograms f

  abbrev FromTurns : TypeFault → Type 0
  FromTurns f = Turns f ⊎ FromDepth f

  abbrev FromConstants : TypeFault → Type 0
  FromConstants f = Constant f ⊎ FromTurns f

  abbrev FromHolders : TypeFault → Type 0
  FromHolders f = HoldsItself f ⊎ FromConstants f

  abbrev FromKinds : TypeFault → Type 0
  FromKinds f = Kind f ⊎ FromHolders f

  -- what a later fault says of the stages before it
  are_shallow : (f : TypeFault) → FromPrograms f → AreShallow units
  are_shallow f (inl is) = is.1.0
  are_shallow f (inr is) = is.1.0.are_shallow

  are_short : (f : TypeFault) → FromDepth f → AreShort units
  are_short f (inl is) = is.1.0
  are_short f (inr is) = (are_shallow f is).are_short

  are_constant : (f : TypeFault) → FromTurns f → AreConstant units
  are_constant f (inl is) = is.1.0
  are_constant f (inr is) = (are_short f is).constant

  are_apart : (f : TypeFault) → FromConstants f → AreApart units
  are_apart f (inl is) = is.0
  are_apart f (inr is) = (are_constant f is).are_apart

  are_kinded : (f : TypeFault) → FromHolders f → AreKinded units
  are_kinded f (inl is) = is.0
  are_kinded f (inr is) = (are_apart f is).kinded

  are_named : (f : TypeFault) → FromKinds f → AreNamed units
  are_named f (inl is) = is.0
  are_named f (inr is) = (are_kinded f is).named

  one_holder : (f g : TypeFault) → HoldsItself f → HoldsItself g → f ≡ g
  one_holder f g a b =
      let first = a.1.2 in
      let second = b.1.2 in
      let same : first.0 ≡ second.0 = order.one_holder (blocks_of units) first.0 second.0 first.2 second.2 in
      let place = same_Some a.1.0 b.1.0 (sym first.1 ∙ ap (slice_get (block_places 0 units)) same ∙ second.1) in
      a.1.1 ∙ ap (λ place. fault.HoldsItself place) place ∙ sym b.1.1

  from_programs : (f g : TypeFault) → FromPrograms f → FromPrograms g → f ≡ g
  from_programs = settled (λ f g. f ≡ g) Programs Elements (λ f g a b. a.0 ∙ sym b.0) (λ f g a b. both_ways (too_many units) b.1.0.few a.1.1) (λ f g a b. a.0 ∙ sym b.0)

  from_depth : (f g : TypeFault) → FromDepth f → FromDepth g → f ≡ g
  from_depth = settled (λ f g. f ≡ g) BlockDepth FromPrograms (λ f g a b. a.0 ∙ sym b.0) (λ f g a b. (are_shallow g b).shallow a.1.1.0 a.1.1.1 a.1.1.2 a.1.1.3) from_programs

  from_turns : (f g : TypeFault) → FromTurns f → FromTurns g → f ≡ g
  from_turns = settled (λ f g. f ≡ g) Turns FromDepth (λ f g a b. a.0 ∙ sym b.0) (λ f g a b. both_ways (some_long units) (are_short g b).short a.1.1) from_depth

  from_constants : (f g : TypeFault) → FromConstants f → FromConstants g → f ≡ g
  from_constants =
      settled (λ f g. f ≡ g) Constant FromTurns (λ f g a b. same_faults (first_inconstant units) (λ place. fault.Constant place) f g a.1 b.1) (λ f g a b. not_both (first_inconstant units) a.1.0 a.1.2 (are_constant g b).constants)
      from_turns

  from_holders : (f g : TypeFault) → FromHolders f → FromHolders g → f ≡ g
  from_holders = settled (λ f g. f ≡ g) HoldsItself FromConstants one_holder (λ f g a b. let found = a.1.2.2.0 in (are_apart g b).apart a.1.2.0 found.0 found.1 found.2) from_constants

  from_kinds : (f g : TypeFault) → FromKinds f → FromKinds g → f ≡ g
  from_kinds =
      settled (λ f g. f ≡ g) Kind FromHolders (λ f g a b. same_faults (first_misfit units) (λ place. fault.Kind place) f g a.1 b.1) (λ f g a b. not_both (first_misfit units) a.1.0 a.1.2 (are_kinded g b).kinds) from_holders

  from_names : (f g : TypeFault) → Name f ⊎ FromKinds f → Name g ⊎ FromKinds g → f ≡ g
  from_names = settled (λ f g. f ≡ g) Name FromKinds (λ f g a b. same_faults (first_misnamed units) (λ place. fault.Name place) f g a b) (λ f g a b. not_both (first_misnamed units) a.0 a.2 (are_named g b).names) from_kinds

  staged : (f : TypeFault) → IsTypeFault units f → f ≢ fault.Memory → Name f ⊎ FromKinds f
  staged fault.Memory is other = absurd (other refl)
  staged (fault.Name place) is other = inl (place, refl, is)
  staged (fault.Kind place) is other = inr (inl (is.0, (place, refl, is.1)))
  staged (fault.HoldsItself place) is other = inr (inr (inl (is.0, (place, refl, is.1))))
  staged (fault.Constant place) is other = inr (inr (inr (inl (is.0, (place, refl, is.1)))))
  staged fault.Turns is other = inr (inr (inr (inr (inl (refl, is)))))
  staged fault.BlockDepth is other = inr (inr (inr (inr (inr (inl (refl, is))))))
  staged fault.Programs is other = inr (inr (inr (inr (inr (inr (inl (refl, is)))))))
  staged fault.Elements is other = inr (inr (inr (inr (inr (inr (inr (refl, is)))))))

  pub one_fault : (f g : TypeFault) → IsTypeFault units f → IsTypeFault units g → f ≢ fault.Memory → g ≢ fault.Memory → f ≡ g
  one_fault f g a b some other = from_names f g (staged f a some) (staged g b other)

  -- well-formed units have no fault
  pub apart : (f : TypeFault) → AreTyped units → IsTypeFault units f → f ≡ fault.Memory
  apart fault.Memory typed is = refl
  apart (fault.Name place) typed is = absurd (not_both _ place is typed.are_few.are_shallow.are_short.constant.are_apart.kinded.named.names)
  apart (fault.Kind place) typed is = absurd (not_both _ place is.1 typed.are_few.are_shallow.are_short.constant.are_apart.kinded.kinds)
  apart (fault.HoldsItself place) typed is =
      let found = is.1.2.0 in
      absurd (typed.are_few.are_shallow.are_short.constant.are_apart.apart is.1.0 found.0 found.1 found.2)
  apart (fault.Constant place) typed is = absurd (not_both _ place is.1 typed.are_few.are_shallow.are_short.constant.constants)
  apart fault.Turns typed is = absurd (both_ways (some_long units) typed.are_few.are_shallow.are_short.short is.1)
  apart fault.BlockDepth typed is = absurd (typed.are_few.are_shallow.shallow is.1.0 is.1.1 is.1.2 is.1.3)
  apart fault.Programs typed is = absurd (both_ways (too_many units) typed.are_few.few is.1)
  apart fault.Elements typed is = absurd (both_ways (some_wide units) typed.small is.1)
