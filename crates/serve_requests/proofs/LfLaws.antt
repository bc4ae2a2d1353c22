-- The first LF among bytes.
use Rattle.std.proofs.Common.{◌≡◌, ℕ, suc, Bool, true, false, List, [], ◌∷◌, ◌++◌, ap, refl, sym, ◌∙◌, arith, length, take, drop, get_or, eqb, ◌<◌, ◌≤◌, ◌+◌}
use Rattle.std.proofs.lemmas.List.{take-append-drop, drop_more, drop-drop, get_or-take, length-take}
use Rattle.std.proofs.lemmas.Bool.Decides.{nat_tests}
use Rattle.memchr.specs.Find.{Nowhere, Passes, is_byte}
use Rattle.serve_requests.specs.Requests.{is_lf, has_lf}

other : (v : Bool) → (v ≡ true → ⊥) → v ≡ false
other true n = absurd (n refl)
other false n = refl

-- no byte is LF
no_lf_at : (xs : List ℕ) → ((k : ℕ) → k < length xs → eqb (get_or xs k 0) 10 ≡ true → ⊥) → has_lf xs ≡ false
no_lf_at [] n = refl
no_lf_at (b ∷ bs) n =
    let first : is_lf b ≡ false = other (is_lf b) (n 0 (omega arith)) in
    let others : has_lf bs ≡ false = no_lf_at bs (λ k h. n (suc k) (omega arith)) in
    rw (first, others) refl

pub nowhere_lf : (xs : List ℕ) → Nowhere (Passes (is_byte 10) xs) 0 (length xs) → has_lf xs ≡ false
nowhere_lf xs n = no_lf_at xs (λ k h. n k (omega arith) h)

pub before_lf : (xs : List ℕ) (i : ℕ) → i ≤ length xs → Nowhere (Passes (is_byte 10) xs) 0 i → has_lf (take i xs) ≡ false
before_lf xs i within n =
    no_lf_at (take i xs) (λ k h e.
    let below : k < i = omega (arith, length-take i xs) in
    n k (omega arith) below (ap (λ (b : ℕ). eqb b 10) (sym (get_or-take i xs k 0 below)) ∙ e))

is_ten : (b : ℕ) → eqb b 10 ≡ true → b ≡ 10
is_ten b e = grind (arith, nat_tests)

pub cut_lf : (xs : List ℕ) (i : ℕ) → i < length xs → Passes (is_byte 10) xs i → xs ≡ take i xs ++ 10 ∷ drop 1 (drop i xs)
cut_lf xs i h e =
    sym (take-append-drop i xs) ∙ ap (λ (r : List ℕ). take i xs ++ r) (drop_more xs i 0 h)
    ∙ ap (λ (b : ℕ). take i xs ++ (b ∷ drop (i + 1) xs)) (is_ten _ e) ∙ ap (λ (r : List ℕ). take i xs ++ (10 ∷ r)) (sym (drop-drop 1 i xs))
