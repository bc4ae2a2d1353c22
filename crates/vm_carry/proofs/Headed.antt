-- Routines by their headings.
use Rattle.std.proofs.Common.{◌≡◌, ◌∙◌, ap, sym, refl, ℕ, zero, suc, List, [], ◌∷◌, map, length, Some, slice_get}
use Rattle.std.proofs.lemmas.List.{length-map}
use Rattle.logic_source.specs.Source.{PlainRoutine}
use Rattle.vm_logic.specs.declared.headings.Heading.{Heading}
use Rattle.vm_logic.specs.Headings.{PlainHeading, heading_of, view_heading}

-- the routine of a heading's number
pub headed_at : (hs : List Heading) (rs : List PlainRoutine) (n : ℕ) (h : Heading) → map view_heading hs ≡ map heading_of rs → slice_get hs n ≡ Some h → (r : PlainRoutine) × (slice_get rs n ≡ Some r) × (view_heading h ≡ heading_of r)
headed_at [] rs n h same at = absurd (cc)
headed_at (x ∷ hs) [] n h same at = absurd (cc)
headed_at (x ∷ hs) (r ∷ rs) zero h same at =
    let head : view_heading x ≡ heading_of r = cc in
    let one : x ≡ h = cc in
    (r, refl, ap view_heading (sym one) ∙ head)
headed_at (x ∷ hs) (r ∷ rs) (suc n) h same at = let rest : map view_heading hs ≡ map heading_of rs = cc in headed_at hs rs n h rest at

pub headed_count : (hs : List Heading) (rs : List PlainRoutine) → map view_heading hs ≡ map heading_of rs → length hs ≡ length rs
headed_count hs rs same = sym (length-map hs view_heading) ∙ ap (λ (l : List PlainHeading). length l) same ∙ length-map rs heading_of
