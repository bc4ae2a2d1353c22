-- One batch more of jobs that are run batch by batch.
use Rattle.std.proofs.Common.{◌≡◌, ℕ, List, ◌++◌, map, take, drop, ap, sym, ◌∙◌}
use Rattle.std.proofs.lemmas.List.{map-append, append_assoc, take-append-drop}

pub batch_more : {X Y Z : Type 0} (f : X → Z) (g : Y → Z) (runs batch all : List X) (n : ℕ) (left taken rest jobs : List Y)
    → all ≡ runs ++ batch → map f batch ≡ map g taken → taken ≡ take n left → rest ≡ drop n left → map f runs ++ map g left ≡ map g jobs → map f all ++ map g rest ≡ map g jobs
batch_more {X} {Y} {Z} f g runs batch all n left taken rest jobs a b t r h =
    let both : map g taken ++ map g rest ≡ map g left = ap (λ (ys : List Y). map g ys ++ map g rest) t ∙ ap (λ (ys : List Y). map g (take n left) ++ map g ys) r ∙ sym (map-append g (take n left) (drop n left)) ∙ ap (λ (ys : List Y). map g ys) (take-append-drop n left) in
    ap (λ (xs : List X). map f xs ++ map g rest) a ∙ ap (λ (zs : List Z). zs ++ map g rest) (map-append f runs batch)
    ∙ append_assoc (map f runs) (map f batch) (map g rest) ∙ ap (λ (zs : List Z). map f runs ++ (zs ++ map g rest)) b ∙ ap (λ (zs : List Z). map f runs ++ zs) both ∙ h
