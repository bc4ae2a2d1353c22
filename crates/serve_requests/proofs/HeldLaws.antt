-- What is held of a line asks for the same as all of it.
use Rattle.std.proofs.Common.{◌≡◌, ℕ, zero, suc, ◌<◌, ◌≤◌, ◌+◌, ◌-◌, ltb, Bool, true, false, List, [], ◌∷◌, ◌++◌, ap, refl, sym, ◌∙◌, arith, append_assoc, length, subst, take, eqb, Ok, Err, cond}
use Rattle.std.specs.Prelude.{OnOk, is_ok}
use Rattle.std.specs.declared.result.Result.{Result}
use Rattle.std.proofs.lemmas.List.{take_all, take-take, length-take}
use Rattle.std.proofs.lemmas.Bool.{ltb-true, ltb-false}
use Rattle.std.proofs.lemmas.Bool.Decides.{nat_tests}
use Rattle.serve_lines.specs.Commands.{command_of}
use Rattle.serve_lines.specs.Reloads.{reload_sizes, reload_size}
use Rattle.serve_lines.proofs.ShortLaws.{command_of-short, reload_sizes-short, reload_size-short}
use Rattle.serve_requests.specs.Requests.{Request, is_lf, has_lf, without_cr, request_in, request_of, last_request, ended_from, begun_from}
use Rattle.serve_requests.specs.Missing.{AreMissing}
use Rattle.serve_requests.specs.Splitting.{IsHeld, AsksAlike, AskAlike}
use Rattle.serve_requests.proofs.RequestLaws.{or_left, or_right, line_in-none, after_lf-none}
use Rattle.serve_requests.proofs.SizeLaws.{reload_size-long}
use Rattle.serve_requests.proofs.Beginnings.{Begins, Ends, lf_there, lf_stays, no_lf-more, line_ends, line_asks, in_line, in_body, body_ends, some_missing}

-- ---- more bytes of a line

pub hold_all : (n : ℕ) (held bytes : List ℕ) → length bytes ≤ n → held ++ bytes ≡ held ++ take n bytes
hold_all n held bytes h = ap (λ (xs : List ℕ). held ++ xs) (sym (take_all n bytes h))

hold_part : (n room : ℕ) (held bytes : List ℕ) → length held + room ≡ n → held ++ take room bytes ≡ take n (held ++ bytes)
hold_part n room [] bytes e = ap (λ (k : ℕ). take k bytes) (omega arith)
hold_part zero room (b ∷ held) bytes e = absurd (omega arith)
hold_part (suc n) room (b ∷ held) bytes e = ap (λ (xs : List ℕ). b ∷ xs) (hold_part n room held bytes (omega arith))

take-more : (n : ℕ) (begun bytes : List ℕ) → take n (take n begun ++ bytes) ≡ take n (begun ++ bytes)
take-more zero begun bytes = refl
take-more (suc n) [] bytes = refl
take-more (suc n) (b ∷ begun) bytes = ap (λ (xs : List ℕ). b ∷ xs) (take-more n begun bytes)

held-more : (begun held bytes : List ℕ) → held ≡ take 1048578 begun → take 1048578 (held ++ bytes) ≡ take 1048578 (begun ++ bytes)
held-more begun held bytes k = ap (λ (xs : List ℕ). take 1048578 (xs ++ bytes)) k ∙ take-more 1048578 begun bytes

no_lf-take : (n : ℕ) (xs : List ℕ) → has_lf xs ≡ false → has_lf (take n xs) ≡ false
no_lf-take zero xs e = refl
no_lf-take (suc n) [] e = refl
no_lf-take (suc n) (b ∷ bs) e = rw (or_left (is_lf b) (has_lf bs) e) (no_lf-take n bs (or_right (is_lf b) (has_lf bs) e))

-- what `hold` adds has no LF where its bytes have none
pub no_lf-held : (room : ℕ) (held bytes : List ℕ) → has_lf held ≡ false → has_lf bytes ≡ false → has_lf (held ++ take room bytes) ≡ false
no_lf-held room held bytes p q = no_lf-more held (take room bytes) p (no_lf-take room bytes q)

-- ---- what is held, in a line and after its LF

-- in a line its first bytes are held
in_a_line : (begun held : List ℕ) → IsHeld begun held → has_lf held ≡ false → (has_lf begun ≡ false) × (held ≡ take 1048578 begun)
in_a_line begun held k n = cases (has_lf begun) refl k
  where
    cases : (v : Bool) → has_lf begun ≡ v → held ≡ cond v begun (take 1048578 begun) → (has_lf begun ≡ false) × (held ≡ take 1048578 begun)
    cases true e same = absurd (let x : ◌≡◌ {A = Bool} false true = sym n ∙ ap has_lf same ∙ e in cc)
    cases false e same = (e, same)

-- after its LF all bytes are
in_a_body : (begun held : List ℕ) → IsHeld begun held → has_lf held ≡ true → held ≡ begun
in_a_body begun held k n = cases (has_lf begun) refl k
  where
    cases : (v : Bool) → has_lf begun ≡ v → held ≡ cond v begun (take 1048578 begun) → held ≡ begun
    cases true e same = same
    cases false e same = absurd (let x : ◌≡◌ {A = Bool} true false = sym n ∙ ap has_lf same ∙ no_lf-take 1048578 begun e in cc)

held_by : (v : Bool) (begun held : List ℕ) → has_lf begun ≡ v → held ≡ cond v begun (take 1048578 begun) → IsHeld begun held
held_by v begun held e same = same ∙ ap (λ (w : Bool). cond w begun (take 1048578 begun)) (sym e)

held_short : (begun held : List ℕ) → held ≡ take 1048578 begun → length held ≤ 1048578
held_short begun held k = omega (arith, ap length k, length-take 1048578 begun)

-- what `hold` leaves of a line that goes on
on_line : (begun held bytes held' : List ℕ) → held ≡ take 1048578 begun → held' ≡ held ++ take (1048578 - length held) bytes → held' ≡ take 1048578 (begun ++ bytes)
on_line begun held bytes held' k e =
    let short = held_short begun held k in
    e ∙ hold_part 1048578 (1048578 - length held) held bytes (omega (arith, short)) ∙ held-more begun held bytes k

-- ---- the request that ends, and what is held then

holds-begins : (begun xs held : List ℕ) → Begins begun xs → IsHeld (begun ++ xs) held → IsHeld (begun_from begun xs) held
holds-begins begun xs held begins k = subst (λ (bs : List ℕ). IsHeld bs held) (sym begins.begun_is) k

-- bytes with which no request ends
pub record Goes (begun xs held : List ℕ) : Type 0 where
  pub given : AskAlike [] (ended_from begun xs)
  pub holds : IsHeld (begun_from begun xs) held

goes : (begun xs held : List ℕ) → Begins begun xs → IsHeld (begun ++ xs) held → Goes begun xs held
goes begun xs held begins k = record {
  given = subst (λ (rs : List Request). AskAlike [] rs) (sym begins.ended) tt;
  holds = holds-begins begun xs held begins k;
}

-- bytes with which one ends, which is given
pub record Gives (begun xs : List ℕ) (given_is : Request) (held : List ℕ) : Type 0 where
  pub given : AskAlike (given_is ∷ []) (ended_from begun xs)
  pub holds : IsHeld (begun_from begun xs) held

gives : (begun xs : List ℕ) (r : Request) (held : List ℕ) → Ends begun xs → AsksAlike r (request_in (begun ++ xs)) → held ≡ [] → Gives begun xs r held
gives begun xs r held ends same nothing = record {
  given = subst (λ (rs : List Request). AskAlike (r ∷ []) rs) (sym ends.ended) (same, tt);
  holds = subst (λ (bs : List ℕ). IsHeld bs held) (sym ends.begun_is) nothing;
}

-- a line goes on
pub held_on : (begun held bytes held' : List ℕ) → IsHeld begun held → has_lf held ≡ false → has_lf bytes ≡ false → held' ≡ held ++ take (1048578 - length held) bytes → Goes begun bytes held'
held_on begun held bytes held' k p q e =
    let line = in_a_line begun held k p in
    goes begun bytes held' (in_line begun bytes line.0 q) (held_by false (begun ++ bytes) held' (no_lf-more begun bytes line.0 q) (on_line begun held bytes held' line.1 e))

-- ---- what requests ask for

alike_same : (a b : Request) → a ≡ b → AsksAlike a b
alike_same a b e = record { command = ap (λ (r : Request). command_of r.line) e; sizes = ap (λ (r : Request). reload_sizes r.line) e; body = ap (λ (r : Request). r.body) e }

-- lines of the same first bytes
alike_lines : (a b : List ℕ) → take 1048577 a ≡ take 1048577 b → AsksAlike (record { line = a; body = [] }) (record { line = b; body = [] })
alike_lines a b e = record {
  command = sym (command_of-short a) ∙ ap command_of e ∙ command_of-short b;
  sizes = sym (reload_sizes-short a) ∙ ap reload_sizes e ∙ reload_sizes-short b;
  body = refl;
}

request_in-none : (line body : List ℕ) → has_lf line ≡ false → request_in (line ++ 10 ∷ body) ≡ record { line = without_cr line; body = body }
request_in-none line body p = λ i. record { line = without_cr (line_in-none line body p i); body = after_lf-none line body p i }

request_of-lf : (xs : List ℕ) → has_lf xs ≡ true → request_of xs ≡ request_in xs
request_of-lf xs e = ap (λ (v : Bool). cond v (request_in xs) (record { line = xs; body = [] })) e

request_of-none : (xs : List ℕ) → has_lf xs ≡ false → request_of xs ≡ record { line = xs; body = [] }
request_of-none xs e = ap (λ (v : Bool). cond v (request_in xs) (record { line = xs; body = [] })) e

-- the parts of a request that are shown
pub request_parts : (xs line body : List ℕ) → xs ≡ line ++ 10 ∷ body → has_lf line ≡ false → request_of xs ≡ record { line = without_cr line; body = body }
request_parts xs line body e p = ap request_of e ∙ request_of-lf (line ++ 10 ∷ body) (lf_there line body) ∙ request_in-none line body p

pub request_bare : (xs : List ℕ) → has_lf xs ≡ false → request_of xs ≡ record { line = xs; body = [] }
request_bare xs p = request_of-none xs p

-- ---- a line of which more was read than is held

without_cr-short : (n : ℕ) (xs : List ℕ) → take (suc n) (without_cr (take (suc (suc n)) xs)) ≡ take (suc n) (without_cr xs)
without_cr-short n [] = refl
without_cr-short n (b ∷ []) = refl
without_cr-short zero (b ∷ c ∷ bs) = refl
without_cr-short (suc n) (b ∷ c ∷ bs) = ap (λ (ys : List ℕ). b ∷ ys) (without_cr-short n (c ∷ bs))

-- the first bytes of a line
same_start : (line held : List ℕ) → held ≡ take 1048578 line → take 1048577 (without_cr held) ≡ take 1048577 (without_cr line)
same_start line held k = ap (λ (xs : List ℕ). take 1048577 (without_cr xs)) k ∙ without_cr-short 1048576 line

held_size : (line held : List ℕ) → held ≡ take 1048578 line → reload_size (without_cr line) ≡ reload_size (without_cr held)
held_size line held k = sym (reload_size-short (without_cr line)) ∙ ap reload_size (sym (same_start line held k)) ∙ reload_size-short (without_cr held)

-- ---- a line that bytes come after is held whole

without_cr-length : (xs : List ℕ) → length xs ≤ length (without_cr xs) + 1
without_cr-length [] = omega arith
without_cr-length (b ∷ []) = step (eqb b 13)
  where
    step : (v : Bool) → 1 ≤ length (cond v [] (b ∷ [])) + 1
    step true = omega arith
    step false = omega arith
without_cr-length (b ∷ c ∷ bs) = let others = without_cr-length (c ∷ bs) in omega (arith, others)

fits : (line : List ℕ) → 0 < reload_size (without_cr line) → length line ≤ 1048577
fits line some = cases (ltb 1048576 (length (without_cr line))) refl
  where
    cases : (v : Bool) → ltb 1048576 (length (without_cr line)) ≡ v → length line ≤ 1048577
    cases true e = absurd (let none = reload_size-long (without_cr line) (ltb-true 1048576 (length (without_cr line)) e) in omega (arith, none, some))
    cases false e =
        let short = ltb-false 1048576 (length (without_cr line)) e in
        let long = without_cr-length line in
        omega (arith, short, long)

-- ---- a line with its LF, and what is held of it

-- the request of a line alone
line_request : (begun line : List ℕ) → has_lf (begun ++ line) ≡ false → request_in (begun ++ (line ++ 10 ∷ [])) ≡ record { line = without_cr (begun ++ line); body = [] }
line_request begun line p = ap request_in (sym (append_assoc begun line (10 ∷ []))) ∙ request_in-none (begun ++ line) [] p

module _ (begun held line held' : List ℕ) (k : IsHeld begun held) (p : has_lf held ≡ false) (q : has_lf line ≡ false) (e : held' ≡ held ++ take (1048578 - length held) line) where
  line_is : held' ≡ take 1048578 (begun ++ line)
  line_is = on_line begun held line held' (in_a_line begun held k p).1 e

  no_lf : has_lf begun ≡ false
  no_lf = (in_a_line begun held k p).0

  -- it asks for the same as what is held of it
  line_asks_alike : AsksAlike (request_of (held' ++ 10 ∷ [])) (request_in (begun ++ (line ++ 10 ∷ [])))
  line_asks_alike =
      let given = request_parts (held' ++ 10 ∷ []) held' [] refl (ap has_lf e ∙ no_lf-held (1048578 - length held) held line p q) in
      subst (λ (r : Request). AsksAlike r (request_in (begun ++ (line ++ 10 ∷ [])))) (sym given)
      (subst (λ (r : Request). AsksAlike (record { line = without_cr held'; body = [] }) r) (sym (line_request begun line (no_lf-more begun line no_lf q)))
      (alike_lines (without_cr held') (without_cr (begun ++ line)) (same_start (begun ++ line) held' line_is)))

  -- no bytes come after it: its request ends
  pub whole_line : (held'' : List ℕ) → held'' ≡ [] → reload_size (without_cr held') ≡ 0 → Gives begun (line ++ 10 ∷ []) (request_of (held' ++ 10 ∷ [])) held''
  whole_line held'' nothing none =
      gives begun (line ++ 10 ∷ []) (request_of (held' ++ 10 ∷ [])) held'' (line_ends begun line no_lf q (held_size (begun ++ line) held' line_is ∙ none)) line_asks_alike nothing

  -- some come after it: it is held, and its request has begun
  pub part_line : 0 < reload_size (without_cr held') → Goes begun (line ++ 10 ∷ []) (held' ++ 10 ∷ [])
  part_line some =
      let same = held_size (begun ++ line) held' line_is in
      let more : 0 < reload_size (without_cr (begun ++ line)) = omega (arith, same, some) in
      let short = fits (begun ++ line) more in
      let whole : take 1048578 (begun ++ line) ≡ begun ++ line = take_all 1048578 (begun ++ line) (omega (arith, short)) in
      goes begun (line ++ 10 ∷ []) (held' ++ 10 ∷ []) (line_asks begun line no_lf q more)
      (held_by true (begun ++ (line ++ 10 ∷ [])) (held' ++ 10 ∷ []) (ap has_lf (sym (append_assoc begun line (10 ∷ []))) ∙ lf_there (begun ++ line) [])
      (ap (λ (xs : List ℕ). xs ++ 10 ∷ []) (line_is ∙ whole) ∙ append_assoc begun line (10 ∷ [])))

-- ---- bytes of a body

module _ (begun held xs : List ℕ) (n : ℕ) (k : IsHeld begun held) (m : AreMissing held n) (some : 0 < length xs) where
  -- all that are missing: the request ends
  pub whole_body : (held' : List ℕ) → held' ≡ [] → n ≡ length xs → Gives begun xs (request_of (held ++ xs)) held'
  whole_body held' nothing e =
      let now = some_missing held n (omega arith) m in
      let same = in_a_body begun held k now.0 in
      let asked = request_of-lf (held ++ xs) (lf_stays held xs now.0) ∙ ap (λ (ys : List ℕ). request_in (ys ++ xs)) same in
      gives begun xs (request_of (held ++ xs)) held' (subst (λ (ys : List ℕ). Ends ys xs) same (body_ends held xs now.0 some (omega (arith, now.1, e)))) (alike_same (request_of (held ++ xs)) (request_in (begun ++ xs)) asked) nothing

  -- fewer
  pub part_body : length xs < n → Goes begun xs (held ++ xs)
  part_body h =
      let now = some_missing held n (omega arith) m in
      let same = in_a_body begun held k now.0 in
      goes begun xs (held ++ xs) (subst (λ (ys : List ℕ). Begins ys xs) same (in_body held xs now.0 (omega (arith, now.1, h))))
      (held_by true (begun ++ xs) (held ++ xs) (ap (λ (ys : List ℕ). has_lf (ys ++ xs)) (sym same) ∙ lf_stays held xs now.0) (ap (λ (ys : List ℕ). ys ++ xs) same))

-- ---- where nothing is held

none_taken : (n : ℕ) (begun : List ℕ) → [] ≡ take (suc n) begun → begun ≡ []
none_taken n [] e = refl
none_taken n (b ∷ bs) e = cc

-- nothing has begun a request then
none_held : (begun held : List ℕ) → IsHeld begun held → held ≡ [] → begun ≡ []
none_held begun held k e = none_taken 1048577 begun (sym e ∙ (in_a_line begun held k (ap has_lf e)).1)

-- a line in one piece
pub bare_line : (begun held line : List ℕ) → IsHeld begun held → held ≡ [] → has_lf line ≡ false → reload_size (without_cr line) ≡ 0 → Gives begun (line ++ 10 ∷ []) (record { line = without_cr line; body = [] }) held
bare_line begun held line k nothing q none =
    let first = none_held begun held k nothing in
    let ends = line_ends begun line (ap has_lf first) q (ap (λ (xs : List ℕ). reload_size (without_cr (xs ++ line))) first ∙ none) in
    let asked : record { line = without_cr line; body = [] } ≡ request_in (begun ++ (line ++ 10 ∷ [])) =
    sym (ap (λ (xs : List ℕ). request_in (xs ++ (line ++ 10 ∷ []))) first ∙ request_in-none line [] q) in
    gives begun (line ++ 10 ∷ []) (record { line = without_cr line; body = [] }) held ends (alike_same (record { line = without_cr line; body = [] }) (request_in (begun ++ (line ++ 10 ∷ []))) asked) nothing

-- ---- the end of the input

-- in a body: what has come of it belongs to the last request
pub last_body : (begun : List ℕ) → has_lf begun ≡ true → request_in begun ∷ [] ≡ last_request begun
last_body [] e = absurd (cc)
last_body (b ∷ bs) e = ap (λ (r : Request). r ∷ []) (sym (request_of-lf (b ∷ bs) e))

asks_held : (begun held : List ℕ) → IsHeld begun held → AsksAlike (request_of held) (request_of begun)
asks_held begun held k = cases (has_lf begun) refl k
  where
    cases : (v : Bool) → has_lf begun ≡ v → held ≡ cond v begun (take 1048578 begun) → AsksAlike (request_of held) (request_of begun)
    cases true e same = alike_same (request_of held) (request_of begun) (ap request_of same)
    cases false e same =
        let alike = alike_lines held begun (ap (λ (xs : List ℕ). take 1048577 xs) same ∙ take-take 1048577 1048578 begun (omega arith)) in
        subst (λ (r : Request). AsksAlike r (request_of begun)) (sym (request_of-none held (ap has_lf same ∙ no_lf-take 1048578 begun e)))
        (subst (λ (r : Request). AsksAlike (record { line = held; body = [] }) r) (sym (request_of-none begun e)) alike)

-- what is held is the last request
pub last_held : (begun held : List ℕ) → IsHeld begun held → (held ≡ [] → ⊥) → AskAlike (request_of held ∷ []) (last_request begun)
last_held [] held k some = absurd (some k)
last_held (b ∷ bs) held k some = (asks_held (b ∷ bs) held k, tt)

pub none_last : (begun held : List ℕ) → IsHeld begun held → held ≡ [] → AskAlike [] (last_request begun)
none_last begun held k nothing = subst (λ (xs : List ℕ). AskAlike [] (last_request xs)) (sym (none_held begun held k nothing)) tt

-- ---- what a push leaves, and what an empty buffer says

pub held_ok : {T E : Type 0} (r : Result T E) (items old added new : List ℕ) → items ≡ cond (is_ok r) (old ++ added) old → old ++ added ≡ new → OnOk r (items ≡ new)
held_ok (Ok x) items old added new e f = e ∙ f
held_ok (Err x) items old added new e f = tt

nonzero : (n : ℕ) → eqb (suc n) 0 ≡ true → ⊥
nonzero n e = grind (arith, nat_tests)

pub empty_list : (n : ℕ) (xs : List ℕ) → n ≡ length xs → eqb n 0 ≡ true → xs ≡ []
empty_list n [] e h = refl
empty_list n (b ∷ bs) e h = absurd (nonzero (length bs) (ap (λ (k : ℕ). eqb k 0) (sym e) ∙ h))

pub full_list : (n : ℕ) (xs : List ℕ) → n ≡ length xs → eqb n 0 ≡ false → xs ≡ [] → ⊥
full_list n xs e h nothing = absurd (let x : ◌≡◌ {A = Bool} true false = ap (λ (ys : List ℕ). eqb (length ys) 0) (sym nothing) ∙ ap (λ (k : ℕ). eqb k 0) (sym e) ∙ h in cc)
