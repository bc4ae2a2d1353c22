-- Programs, by their numbers and names.
use Rattle.std.proofs.Common.{◌≡◌, ◌∙◌, ap, sym, arith, refl, ℕ, zero, suc, ◌<◌, Bool, List, [], ◌∷◌, length, map, get_or}
use Rattle.std.specs.Prelude.{not, position, slice_index_or}
use Rattle.std.specs.List.{prefix_len}
use Rattle.std.proofs.lemmas.List.{length-map}
use Rattle.plant_types.specs.Words.{same_word}
use Rattle.vm_logic.specs.Source.{PlainRoutine}
use Rattle.vm_logic.specs.declared.headings.Heading.{Heading}
use Rattle.vm_logic.specs.Headings.{PlainHeading, heading_of, view_heading}

prefix-map : {X Y : Type 0} (p : Y → Bool) (f : X → Y) (xs : List X) → prefix_len (λ x. p (f x)) xs ≡ prefix_len p (map f xs)
prefix-map p f [] = refl
prefix-map p f (x ∷ xs) = rw (prefix-map p f xs) refl

position-map : {X Y : Type 0} (p : Y → Bool) (f : X → Y) (xs : List X) → position (λ x. p (f x)) xs ≡ position p (map f xs)
position-map p f xs = rw (prefix-map (λ y. not (p y)) f xs, length-map xs f) refl

abbrev name_of : PlainRoutine → List ℕ
name_of p = p.name

-- the first program of a name
pub numbered : (sources : List PlainRoutine) (programs : List Heading) (name : List ℕ) → map view_heading programs ≡ map heading_of sources → position (λ (p : Heading). same_word p.name name) programs ≡ position (λ (w : List ℕ). same_word w name) (map name_of sources)
numbered sources programs name same =
    position-map (λ (p : PlainHeading). same_word p.name name) view_heading programs ∙ ap (λ l. position (λ (p : PlainHeading). same_word p.name name) l) same
    ∙ sym (position-map (λ (p : PlainHeading). same_word p.name name) heading_of sources) ∙ position-map (λ (w : List ℕ). same_word w name) name_of sources

-- the name of the program of a number
pub name_at : (programs : List Heading) (sources : List PlainRoutine) (n : ℕ) (p : Heading) → map view_heading programs ≡ map heading_of sources → n < length (map name_of sources) → p ≡ get_or programs n p → p.name ≡ slice_index_or (map name_of sources) n []
name_at programs [] n p same within is = absurd (omega (arith, within))
name_at [] (q ∷ qs) n p same within is = absurd (cc)
name_at (x ∷ xs) (q ∷ qs) zero p same within is = let head : view_heading x ≡ heading_of q = cc in ap (λ (h : Heading). h.name) is ∙ ap (λ (h : PlainHeading). h.name) head
name_at (x ∷ xs) (q ∷ qs) (suc n) p same within is = let rest : map view_heading xs ≡ map heading_of qs = cc in name_at xs qs n p rest (omega (arith, within)) is
