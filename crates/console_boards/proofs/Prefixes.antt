-- Of two beginnings of one list, the shorter begins the longer.
use Rattle.std.proofs.Common.{◌≡◌, ◌≤◌, List, [], ◌∷◌, ◌++◌, length, drop, slice_index_or, refl, sym, ◌∙◌, ap, arith}
use mathlib.Core.List.{IsPrefix}
use Rattle.console_boards.specs.Stories.{Begins}

pub prefix_of_both : {E : Type 0} (xs ys zs : List E) → IsPrefix xs zs → IsPrefix ys zs → length xs ≤ length ys → IsPrefix xs ys
prefix_of_both [] ys zs h k few = (ys, refl)
prefix_of_both (x ∷ xs) [] zs h k few = absurd (omega arith)
prefix_of_both {E} (x ∷ xs) (y ∷ ys) [] h k few = let e : length (x ∷ (xs ++ h.0)) ≡ 0 = ap (λ (l : List E). length l) h.1 in absurd (omega arith)
prefix_of_both {E} (x ∷ xs) (y ∷ ys) (z ∷ zs) h k few =
    let first : x ≡ z = ap (λ (l : List E). slice_index_or l 0 x) h.1 in
    let other : y ≡ z = ap (λ (l : List E). slice_index_or l 0 y) k.1 in
    let rest = prefix_of_both xs ys zs (h.0, ap (λ (l : List E). drop 1 l) h.1) (k.0, ap (λ (l : List E). drop 1 l) k.1) (omega arith) in (
      rest.0,
      ap (λ (a : E). a ∷ (xs ++ rest.0)) (first ∙ sym other) ∙ ap (λ (l : List E). y ∷ l) rest.1,
    )

-- a beginning, as an equality and as a list with a rest
pub begins_prefix : {E : Type 0} (xs ys : List E) → Begins xs ys → IsPrefix xs ys
begins_prefix [] ys h = (ys, refl)
begins_prefix (x ∷ xs) [] h = absurd (cc (h))
begins_prefix {E} (x ∷ xs) (y ∷ ys) h =
    let first : y ≡ x = ap (λ (l : List E). slice_index_or l 0 x) h in
    let rest = begins_prefix xs ys (ap (λ (l : List E). drop 1 l) h) in
    (rest.0, ap (λ (a : E). a ∷ (xs ++ rest.0)) (sym first) ∙ ap (λ (l : List E). y ∷ l) rest.1)

pub begins_more : {E : Type 0} (xs ys zs : List E) → Begins xs ys → Begins xs (ys ++ zs)
begins_more [] ys zs h = refl
begins_more (x ∷ xs) [] zs h = absurd (cc (h))
begins_more {E} (x ∷ xs) (y ∷ ys) zs h =
    let first : y ≡ x = ap (λ (l : List E). slice_index_or l 0 x) h in
    ap (λ (l : List E). y ∷ l) (begins_more xs ys zs (ap (λ (l : List E). drop 1 l) h)) ∙ ap (λ (a : E). a ∷ xs) first

pub begins_self : {E : Type 0} (xs : List E) → Begins xs xs
begins_self [] = refl
begins_self {E} (x ∷ xs) = ap (λ (l : List E). x ∷ l) (begins_self xs)
