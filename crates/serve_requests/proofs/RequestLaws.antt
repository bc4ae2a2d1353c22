-- The requests of an input that goes on.
use Rattle.std.proofs.Common.{◌≡◌, ℕ, Bool, true, false, cond, List, [], ◌∷◌, ◌++◌, ap, refl, sym, ◌∙◌, ◌||◌, append_assoc, append-nil, arith, length, take, get_or, eqb, ◌<◌, ◌-◌}
use Rattle.std.proofs.lemmas.List.{take_more}
use Rattle.std.proofs.lemmas.Grind.{common_steps}
use Rattle.std.proofs.lemmas.Bool.Decides.{nat_tests}
use Rattle.serve_requests.specs.Requests.{Request, is_lf, has_lf, line_in, after_lf, without_cr, request_in, last_request, is_whole, ended_from, begun_from, requests_of}

pub or_left : (a b : Bool) → (a || b) ≡ false → a ≡ false
or_left true b e = e
or_left false b e = refl

pub or_right : (a b : Bool) → (a || b) ≡ false → b ≡ false
or_right true b e = cc
or_right false b e = e

ended_cases : (v : Bool) (r : Request) (next bs ys : List ℕ) → ended_from [] (bs ++ ys) ≡ ended_from [] bs ++ ended_from (begun_from [] bs) ys
    → ended_from next (bs ++ ys) ≡ ended_from next bs ++ ended_from (begun_from next bs) ys
    → cond v (r ∷ ended_from [] (bs ++ ys)) (ended_from next (bs ++ ys)) ≡ cond v (r ∷ ended_from [] bs) (ended_from next bs) ++ ended_from (cond v (begun_from [] bs) (begun_from next bs)) ys
ended_cases true r next bs ys p q = ap (λ (rs : List Request). r ∷ rs) p
ended_cases false r next bs ys p q = q

-- bytes go on: the requests that end then are those that ended before, and those that end after them
pub ended_from-more : (begun xs ys : List ℕ) → ended_from begun (xs ++ ys) ≡ ended_from begun xs ++ ended_from (begun_from begun xs) ys
ended_from-more begun [] ys = refl
ended_from-more begun (b ∷ bs) ys = ended_cases (is_whole (begun ++ b ∷ [])) (request_in (begun ++ b ∷ [])) (begun ++ b ∷ []) bs ys (ended_from-more [] bs ys) (ended_from-more (begun ++ b ∷ []) bs ys)

begun_cases : (v : Bool) (next bs ys : List ℕ) → begun_from [] (bs ++ ys) ≡ begun_from (begun_from [] bs) ys → begun_from next (bs ++ ys) ≡ begun_from (begun_from next bs) ys
    → cond v (begun_from [] (bs ++ ys)) (begun_from next (bs ++ ys)) ≡ begun_from (cond v (begun_from [] bs) (begun_from next bs)) ys
begun_cases true next bs ys p q = p
begun_cases false next bs ys p q = q

pub begun_from-more : (begun xs ys : List ℕ) → begun_from begun (xs ++ ys) ≡ begun_from (begun_from begun xs) ys
begun_from-more begun [] ys = refl
begun_from-more begun (b ∷ bs) ys = begun_cases (is_whole (begun ++ b ∷ [])) (begun ++ b ∷ []) bs ys (begun_from-more [] bs ys) (begun_from-more (begun ++ b ∷ []) bs ys)

-- an input may be cut where a request has ended
pub cut : (past more : List ℕ) → begun_from [] past ≡ [] → requests_of (past ++ more) ≡ requests_of past ++ requests_of more
cut past more none =
    let ended = ended_from [] past in
    let whole : ended ++ last_request (begun_from [] past) ≡ ended = ap (λ (bs : List ℕ). ended ++ last_request bs) none ∙ append-nil ended in
    (λ i. ended_from-more [] past more i ++ last_request (begun_from-more [] past more i))
    ∙ ap (λ (bs : List ℕ). (ended ++ ended_from bs more) ++ last_request (begun_from bs more)) none
    ∙ append_assoc ended (ended_from [] more) (last_request (begun_from [] more))
    ∙ ap (λ (rs : List Request). rs ++ requests_of more) (sym whole)

-- ---- the first LF

pub has_lf-more : (xs ys : List ℕ) → has_lf (xs ++ ys) ≡ (has_lf xs || has_lf ys)
has_lf-more [] ys = refl
has_lf-more (b ∷ bs) ys = step (is_lf b) (has_lf (bs ++ ys)) (has_lf bs) (has_lf ys) (has_lf-more bs ys)
  where
    step : (v a b c : Bool) → a ≡ (b || c) → (v || a) ≡ ((v || b) || c)
    step true a b c e = refl
    step false a b c e = e

pub line_in-none : (xs ys : List ℕ) → has_lf xs ≡ false → line_in (xs ++ 10 ∷ ys) ≡ xs
line_in-none [] ys h = refl
line_in-none (b ∷ bs) ys h = rw (or_left (is_lf b) (has_lf bs) h) (ap (λ (xs : List ℕ). b ∷ xs) (line_in-none bs ys (or_right (is_lf b) (has_lf bs) h)))

pub after_lf-none : (xs ys : List ℕ) → has_lf xs ≡ false → after_lf (xs ++ 10 ∷ ys) ≡ ys
after_lf-none [] ys h = refl
after_lf-none (b ∷ bs) ys h = rw (or_left (is_lf b) (has_lf bs) h) (after_lf-none bs ys (or_right (is_lf b) (has_lf bs) h))

line_in-cases : (v : Bool) (b : ℕ) (xs ys : List ℕ) → (v ≡ false → xs ≡ ys) → cond v [] (b ∷ xs) ≡ cond v [] (b ∷ ys)
line_in-cases true b xs ys p = refl
line_in-cases false b xs ys p = ap (λ (zs : List ℕ). b ∷ zs) (p refl)

or_rest : (a b : Bool) → (a || b) ≡ true → a ≡ false → b ≡ true
or_rest true b e n = absurd (cc)
or_rest false b e n = e

pub line_in-more : (xs ys : List ℕ) → has_lf xs ≡ true → line_in (xs ++ ys) ≡ line_in xs
line_in-more [] ys h = absurd (cc)
line_in-more (b ∷ bs) ys h = line_in-cases (is_lf b) b (line_in (bs ++ ys)) (line_in bs) (λ n. line_in-more bs ys (or_rest (is_lf b) (has_lf bs) h n))

after_lf-cases : (v : Bool) (bs ys xs zs : List ℕ) → (v ≡ false → xs ≡ zs ++ ys) → cond v (bs ++ ys) xs ≡ cond v bs zs ++ ys
after_lf-cases true bs ys xs zs p = refl
after_lf-cases false bs ys xs zs p = p refl

pub after_lf-more : (xs ys : List ℕ) → has_lf xs ≡ true → after_lf (xs ++ ys) ≡ after_lf xs ++ ys
after_lf-more [] ys h = absurd (cc)
after_lf-more (b ∷ bs) ys h = after_lf-cases (is_lf b) bs ys (after_lf (bs ++ ys)) (after_lf bs) (λ n. after_lf-more bs ys (or_rest (is_lf b) (has_lf bs) h n))

-- ---- the CR at the end of a line

cons_cond : (v : Bool) (c : ℕ) (xs ys : List ℕ) → c ∷ cond v xs ys ≡ cond v (c ∷ xs) (c ∷ ys)
cons_cond true c xs ys = refl
cons_cond false c xs ys = refl

without_cr-append : (xs : List ℕ) (b : ℕ) → without_cr (xs ++ b ∷ []) ≡ cond (eqb b 13) xs (xs ++ b ∷ [])
without_cr-append [] b = refl
without_cr-append (c ∷ []) b = cons_cond (eqb b 13) c [] (b ∷ [])
without_cr-append (c ∷ d ∷ xs) b = ap (λ ys. c ∷ ys) (without_cr-append (d ∷ xs) b) ∙ cons_cond (eqb b 13) c (d ∷ xs) ((d ∷ xs) ++ b ∷ [])

last_split : (xs : List ℕ) → 0 < length xs → take (length xs - 1) xs ++ get_or xs (length xs - 1) 0 ∷ [] ≡ xs
last_split xs h = let e = take_more xs (length xs - 1) 0 (omega arith) in grind (arith, common_steps, e)

-- a line that ends in CR, and one that doesn't
pub without_cr-cr : (xs : List ℕ) → 0 < length xs → get_or xs (length xs - 1) 0 ≡ 13 → take (length xs - 1) xs ≡ without_cr xs
without_cr-cr xs h e =
    sym (ap without_cr (sym (last_split xs h)) ∙ without_cr-append (take (length xs - 1) xs) (get_or xs (length xs - 1) 0) ∙ rw e refl)

pub without_cr-other : (xs : List ℕ) → (0 < length xs → get_or xs (length xs - 1) 0 ≡ 13 → ⊥) → xs ≡ without_cr xs
without_cr-other [] n = refl
without_cr-other (x ∷ xs) n =
    let ys : List ℕ = x ∷ xs in
    let there : 0 < length ys = omega arith in
    let test : eqb (get_or ys (length ys - 1) 0) 13 ≡ false = not_return (get_or ys (length ys - 1) 0) (n there) in
    sym (ap without_cr (sym (last_split ys there)) ∙ without_cr-append (take (length ys - 1) ys) (get_or ys (length ys - 1) 0) ∙ rw test (last_split ys there))
  where
    not_return : (b : ℕ) → (b ≡ 13 → ⊥) → eqb b 13 ≡ false
    not_return b h = grind (arith, nat_tests)
