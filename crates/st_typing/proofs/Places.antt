-- There are as many places of function blocks as there are function blocks.
use Rattle.std.proofs.Common.{◌≡◌, ℕ, suc, List, [], ◌∷◌, length, refl, inl, inr}
use Rattle.std.proofs.lemmas.Bool.{cases_Bool}
use Rattle.std.proofs.lemmas.List.{length-append}
use Rattle.st_names.specs.Units.{PlainPou, PlainUnit}
use Rattle.st_names.specs.Shared.{is_block}
use Rattle.st_typing.specs.Blocks.{blocks_among, blocks_of, places_among, block_places}

among : (source n : ℕ) (ps : List PlainPou) → length (places_among source n ps) ≡ length (blocks_among ps)
among source n [] = refl
among source n (p ∷ ps) =
    elim (cases_Bool (is_block p.kind)) [
      | inl so ↦ rw (so, among source (suc n) ps) refl
      | inr not_so ↦ rw (not_so, among source (suc n) ps) refl
    ]

pub as_many_places : (source : ℕ) (us : List PlainUnit) → length (block_places source us) ≡ length (blocks_of us)
as_many_places source [] = refl
as_many_places source (u ∷ us) =
    rw (length-append (places_among source 0 u.pous) (block_places (suc source) us), length-append (blocks_among u.pous) (blocks_of us), among source 0 u.pous, as_many_places (suc source) us) refl
