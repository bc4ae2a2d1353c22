-- Block types that are marked one after another.
use Rattle.std.proofs.Common.{◌≡◌, ◌∙◌, ap, sym, subst, refl, ℕ, zero, suc, Bool, true, false, List, [], ◌∷◌, length, get_or, set, replicate, Some, slice_get, inl, inr}
use Rattle.std.specs.Prelude.{◌==◌, ◌&&◌}
use Rattle.std.specs.List.{list_all}
use Rattle.std.proofs.lemmas.Bool.{cases_Bool, and_parts, and_from}
use Rattle.logic_source.specs.declared.logic.BlockRef.{BlockRef}
use Rattle.logic_source.specs.declared.logic.BlockRef.TheVariants.{Ton, Tof, RTrig, Declared}
use Rattle.logic_carry.specs.declared.words.NamedInstance.{NamedInstance}
use Rattle.logic_carry.specs.declared.words.Shape.{Shape}
use Rattle.logic_carry.specs.Marks.{is_marked, holds_nothing, marked_one, AreMarked}
use Rattle.logic_carry.proofs.Placing.{same_or_not}

or_other : (marks : List Bool) (n m : ℕ) → (n ≡ m → ⊥) → get_or (set marks n true) m false ≡ get_or marks m false
or_other [] n m other = refl
or_other (x ∷ xs) zero zero other = absurd (other refl)
or_other (x ∷ xs) zero (suc m) other = refl
or_other (x ∷ xs) (suc n) zero other = refl
or_other (x ∷ xs) (suc n) (suc m) other = or_other xs n m (λ e. other (ap suc e))

or_more : (marks : List Bool) (n m : ℕ) → get_or marks m false ≡ true → get_or (set marks n true) m false ≡ true
or_more [] n m marked = marked
or_more (x ∷ xs) zero zero marked = refl
or_more (x ∷ xs) zero (suc m) marked = marked
or_more (x ∷ xs) (suc n) zero marked = marked
or_more (x ∷ xs) (suc n) (suc m) marked = or_more xs n m marked

module _ (marks : List Bool) (n : ℕ) where
  of_more : (of : BlockRef) → is_marked marks of ≡ true → is_marked (set marks n true) of ≡ true
  of_more Ton marked = marked
  of_more Tof marked = marked
  of_more RTrig marked = marked
  of_more (Declared m) marked = or_more marks n m marked

  all_more : (ps : List NamedInstance) → list_all (λ (p : NamedInstance). is_marked marks p.of) ps ≡ true → list_all (λ (p : NamedInstance). is_marked (set marks n true) p.of) ps ≡ true
  all_more [] all = refl
  all_more (p ∷ ps) all =
      let both = and_parts (is_marked marks p.of) (list_all (λ (x : NamedInstance). is_marked marks x.of) ps) all in
      and_from (is_marked (set marks n true) p.of) (list_all (λ (x : NamedInstance). is_marked (set marks n true) x.of) ps) (of_more p.of both.0) (all_more ps both.1)

  holds_more : (s : Shape) → holds_nothing marks s ≡ true → holds_nothing (set marks n true) s ≡ true
  holds_more s holds =
      let parts = list_all (λ (p : NamedInstance). is_marked marks p.of) s.parts.items in
      let more = list_all (λ (p : NamedInstance). is_marked (set marks n true) p.of) s.parts.items in
      let a = and_parts ((length s.own.items == 0) && (length s.rows.items == 0)) parts holds in
      and_from ((length s.own.items == 0) && (length s.rows.items == 0)) more a.0 (all_more s.parts.items a.1)

  one_marked : (shapes : List Shape) (s : Shape) → slice_get shapes n ≡ Some s → holds_nothing marks s ≡ true → AreMarked marks shapes → AreMarked (set marks n true) shapes
  one_marked shapes s here holds are = λ m other marked at. elim (same_or_not n m) [
    | inl same ↦
        let both : Some s ≡ Some other = sym here ∙ ap (slice_get shapes) same ∙ at in
        let one : s ≡ other = cc in
        holds_more other (subst (λ (x : Shape). holds_nothing marks x ≡ true) one holds)
    | inr apart ↦ holds_more other (are m other (sym (or_other marks n m apart) ∙ marked) at)
  ]

  pub marked_more : (shapes : List Shape) (s : Shape) → slice_get shapes n ≡ Some s → AreMarked marks shapes → AreMarked (marked_one marks n (holds_nothing marks s)) shapes
  marked_more shapes s here are = elim (cases_Bool (holds_nothing marks s)) [
    | inl yes' ↦ subst (λ (b : Bool). AreMarked (marked_one marks n b) shapes) (sym yes') (one_marked shapes s here yes' are)
    | inr no' ↦ subst (λ (b : Bool). AreMarked (marked_one marks n b) shapes) (sym no') are
  ]

-- none is marked at the beginning
not_set : (n m : ℕ) → get_or (replicate n false) m false ≡ false
not_set zero m = refl
not_set (suc n) zero = refl
not_set (suc n) (suc m) = not_set n m

pub none_marked : (n : ℕ) (shapes : List Shape) → AreMarked (replicate n false) shapes
none_marked n shapes m s marked at = (let none = not_set n m in let both : true ≡ false = sym marked ∙ none in absurd (cc))
