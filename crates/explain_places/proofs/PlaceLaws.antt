-- The bytes before a place.
use Rattle.std.proofs.Common.{◌≡◌, ◌∙◌, ℕ, ◌-◌, List, length, take, drop, min, ap, arith, length-drop}
use Rattle.std.proofs.lemmas.List.{take_all, take_min}

-- of a text without its first bytes, the bytes before one of them, which is at most the end
pub before_is : (text : List ℕ) (at s m n d : ℕ) → s ≡ m → d ≡ at - s → n ≡ min d (length (take (length text - s) (drop s text)))
    → take n (take (length text - s) (drop s text)) ≡ take (at - m) (drop m text)
before_is text at s m n d same less is =
    let whole : take (length text - s) (drop s text) ≡ drop s text = take_all (length text - s) (drop s text) (omega (arith, length-drop s text)) in
    let number = is ∙ (ap (λ xs. min d (length xs)) whole ∙ ap (λ e. min e (length (drop s text))) less) in
    ap (take n) whole ∙ (ap (λ k. take k (drop s text)) number ∙ (take_min (at - s) (drop s text) ∙ ap (λ k. take (at - k) (drop k text)) same))
