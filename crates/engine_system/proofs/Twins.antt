-- Inputs that are named twice, found by a flag for each global.
use Rattle.std.proofs.Common.{◌≡◌, ℕ, ◌+◌, ◌<◌, Bool, true, false, ◌||◌, eqb, List, [], ◌∷◌, All, length, drop, get_or, refl, sym, ap, ◌∙◌, subst, arith, add-one}
use Rattle.std.specs.Prelude.{replicate, slice_set}
use Rattle.std.specs.List.{list_any}
use Rattle.std.proofs.Math.Seq.{drop-cons}
use Rattle.std.proofs.lemmas.Grind.{common_steps}
use Rattle.std.proofs.lemmas.List.Elements.{All-get_or}
use Rattle.std.proofs.lemmas.Bool.Decides.{nat_tests}
use Rattle.engine_system.specs.declared.image.Input.{Input}
use Rattle.engine_system.specs.Image.{has_twin}

-- the flag of an input is set
abbrev pub marked : List Bool → Input → Bool
marked seen p = get_or seen p.number false

flag-replicate : (n k : ℕ) → get_or (replicate n false) k false ≡ false
flag-replicate n k = grind (arith, common_steps)

pub none_marked : (n : ℕ) (ps : List Input) → list_any (marked (replicate n false)) ps ≡ false
none_marked n [] = refl
none_marked n (p ∷ ps) = ap (λ b. b || list_any (marked (replicate n false)) ps) (flag-replicate n p.number) ∙ none_marked n ps

flag-set : (seen : List Bool) (m k : ℕ) → m < length seen → get_or (slice_set seen m true) k false ≡ (eqb k m || get_or seen k false)
flag-set seen m k h = grind (arith, nat_tests, common_steps)

or_swap : (a b c d : Bool) → ((a || b) || (c || d)) ≡ ((a || c) || (b || d))
or_swap true b c d = refl
or_swap false true true d = refl
or_swap false true false d = refl
or_swap false false c d = refl

-- one more flag marks the inputs of its number too
pub marked_more : (seen : List Bool) (m : ℕ) (ps : List Input) → m < length seen
    → list_any (marked (slice_set seen m true)) ps ≡ (list_any (λ q. eqb q.number m) ps || list_any (marked seen) ps)
marked_more seen m [] h = refl
marked_more seen m (p ∷ ps) h =
    ap (λ b. b || list_any (marked (slice_set seen m true)) ps) (flag-set seen m p.number h)
    ∙ ap (λ b. (eqb p.number m || marked seen p) || b) (marked_more seen m ps h)
    ∙ or_swap (eqb p.number m) (marked seen p) (list_any (λ q. eqb q.number m) ps) (list_any (marked seen) ps)

or_third : (a b c : Bool) → (a || (b || c)) ≡ ((b || a) || c)
or_third true true c = refl
or_third true false c = refl
or_third false true c = refl
or_third false false c = refl

-- an input whose flag isn't set is passed: its flag then finds its twins
pub twins_step : (n : ℕ) (seen : List Bool) (ps : List Input) (i : ℕ) (d : Input) → length seen ≡ n → All (λ p. p.number < n) ps → i < length ps → marked seen (get_or ps i d) ≡ false
    → (list_any (marked seen) (drop i ps) || has_twin (drop i ps))
    ≡ (list_any (marked (slice_set seen (get_or ps i d).number true)) (drop (i + 1) ps) || has_twin (drop (i + 1) ps))
twins_step n seen ps i d flags within h free =
    let p = get_or ps i d in
    let below = All-get_or (λ (q : Input). q.number < n) ps i d h within in
    let there : p.number < length seen = omega (arith, below) in
    let rest = drop (i + 1) ps in
    let cut : drop i ps ≡ p ∷ rest = drop-cons ps i d h ∙ ap (λ k. p ∷ drop k ps) (sym (add-one i)) in
    ap (λ l. list_any (marked seen) l || has_twin l) cut
    ∙ ap (λ b. (b || list_any (marked seen) rest) || has_twin (p ∷ rest)) free
    ∙ or_third (list_any (marked seen) rest) (list_any (λ q. eqb q.number p.number) rest) (has_twin rest)
    ∙ ap (λ b. b || has_twin rest) (sym (marked_more seen p.number rest there))

-- a flag that was read and isn't set
pub read_unset : (seen : List Bool) (n : ℕ) (b : Bool) → b ≡ get_or seen n b → b ≡ false → get_or seen n false ≡ false
read_unset seen n b read unset = let P : Bool → Type 0 = λ x. x ≡ get_or seen n x in sym (subst P unset read)
