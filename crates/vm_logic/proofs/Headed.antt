-- Programs by their headings.
use Rattle.std.proofs.Common.{◌≡◌, ◌∙◌, ap, sym, arith, ℕ, zero, suc, ◌<◌, List, [], ◌∷◌, length, map, get_or}
use Rattle.std.proofs.lemmas.List.{length-map}
use Rattle.logic_source.specs.Source.{PlainRoutine}
use Rattle.vm_logic.specs.declared.headings.Heading.{Heading}
use Rattle.vm_logic.specs.Headings.{PlainHeading, heading_of, view_heading}

pub as_many : (headings : List Heading) (programs : List PlainRoutine) → map view_heading headings ≡ map heading_of programs → length headings ≡ length programs
as_many headings programs same = sym (length-map headings view_heading) ∙ ap (λ (l : List PlainHeading). length l) same ∙ length-map programs heading_of

-- the program of a number has the name of its heading
pub name_headed : (headings : List Heading) (programs : List PlainRoutine) → map view_heading headings ≡ map heading_of programs → (n : ℕ) (h : Heading) (default : PlainRoutine) → n < length programs → h ≡ get_or headings n h → (get_or programs n default).name ≡ h.name
name_headed headings [] same n h default within is = absurd (omega (arith, within))
name_headed [] (p ∷ ps) same n h default within is = absurd (cc)
name_headed (x ∷ xs) (p ∷ ps) same zero h default within is =
    let head : view_heading x ≡ heading_of p = cc in
    sym (ap (λ (r : Heading). r.name) is ∙ ap (λ (r : PlainHeading). r.name) head)
name_headed (x ∷ xs) (p ∷ ps) same (suc n) h default within is =
    let rest : map view_heading xs ≡ map heading_of ps = cc in
    name_headed xs ps rest n h default (omega (arith, within)) is
