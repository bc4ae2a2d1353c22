-- Where an input without bodies ends at the end of a line, no request has begun.
use Rattle.std.proofs.Common.{◌≡◌, ℕ, zero, suc, ◌<◌, Bool, true, false, ◌&&◌, cond, List, [], ◌∷◌, ◌++◌, refl, ap, sym, ◌∙◌, subst, arith, eqb}
use Rattle.std.specs.List.{list_all}
use Rattle.std.proofs.lemmas.Bool.Decides.{nat_tests}
use Rattle.serve_lines.specs.Reloads.{reload_size}
use Rattle.serve_requests.specs.Requests.{Request, is_lf, has_lf, line_in, without_cr, is_whole, request_in, last_request, ended_from, begun_from, begun_request}
use Rattle.serve_requests.proofs.RequestLaws.{line_in-none, line_in-more}
use Rattle.serve_requests.proofs.Beginnings.{no_lf, not_whole, lf_there, lf_stays, lf_whole}
use Rattle.serve_requests.proofs.HeldLaws.{last_body}
use Rattle.serve_laws.specs.Records.{ends_at_line, has_no_body}

-- a request without a body
abbrev bare : Request → Bool
bare request = eqb (reload_size request.line) 0

-- what a byte leaves begun, and all requests then, by whether it ended one
abbrev left : Bool → List ℕ → List ℕ → List ℕ
left v next bs = cond v (begun_from [] bs) (begun_from next bs)

abbrev all_by : Bool → List ℕ → List ℕ → List Request
all_by v next bs = cond v (request_in next ∷ ended_from [] bs) (ended_from next bs) ++ last_request (left v next bs)

and_left : (a b : Bool) → (a && b) ≡ true → a ≡ true
and_left true b e = refl
and_left false b e = e

and_right : (a b : Bool) → (a && b) ≡ true → b ≡ true
and_right true b e = e
and_right false b e = absurd (cc)

some_zero : (n : ℕ) → 0 < n → eqb n 0 ≡ true → ⊥
some_zero n h e = grind (arith, nat_tests)

is_ten : (b : ℕ) → is_lf b ≡ true → b ≡ 10
is_ten b e = grind (arith, nat_tests)

-- a request with a body is not bare
first : (request : Request) (others : List Request) → 0 < reload_size request.line → list_all bare (request ∷ others) ≡ true → ⊥
first request others some all = some_zero (reload_size request.line) some (and_left (bare request) (list_all bare others) all)

-- a line that tells of bytes after it is among the requests, wherever they end
module _ (next bs : List ℕ) (some : 0 < reload_size (without_cr (line_in next))) where
  either_way : (v : Bool) → (list_all bare (ended_from next bs ++ last_request (begun_from next bs)) ≡ true → ⊥) → list_all bare (all_by v next bs) ≡ true → ⊥
  either_way true later all = first (request_in next) (ended_from [] bs ++ last_request (begun_from [] bs)) some all
  either_way false later all = later all

with_body : (begun bs : List ℕ) → has_lf begun ≡ true → 0 < reload_size (without_cr (line_in begun)) → list_all bare (ended_from begun bs ++ last_request (begun_from begun bs)) ≡ true → ⊥
with_body begun [] p some all = first (request_in begun) [] some (subst (λ (rs : List Request). list_all bare rs ≡ true) (sym (last_body begun p)) all)
with_body begun (b ∷ bs) p some all =
    let next : List ℕ = begun ++ b ∷ [] in
    let same : line_in next ≡ line_in begun = line_in-more begun (b ∷ []) p in
    let more : 0 < reload_size (without_cr (line_in next)) = subst (λ (line : List ℕ). 0 < reload_size (without_cr line)) (sym same) some in
    either_way next bs more (is_whole next) (with_body next bs (lf_stays begun (b ∷ []) p) more) all

-- an LF where no other one was
at_lf : (begun bs : List ℕ) → has_lf begun ≡ false → (list_all bare (ended_from [] bs ++ last_request (begun_from [] bs)) ≡ true → begun_from [] bs ≡ [])
    → list_all bare (all_by (is_whole (begun ++ 10 ∷ [])) (begun ++ 10 ∷ []) bs) ≡ true → left (is_whole (begun ++ 10 ∷ [])) (begun ++ 10 ∷ []) bs ≡ []
at_lf begun bs p later all = by_size (reload_size (without_cr begun)) refl
  where
    by_size : (n : ℕ) → reload_size (without_cr begun) ≡ n → left (is_whole (begun ++ 10 ∷ [])) (begun ++ 10 ∷ []) bs ≡ []
    by_size zero e =
        let whole = lf_whole begun p e in
        let now : list_all bare (all_by true (begun ++ 10 ∷ []) bs) ≡ true = subst (λ (v : Bool). list_all bare (all_by v (begun ++ 10 ∷ []) bs) ≡ true) whole all in
        ap (λ (v : Bool). left v (begun ++ 10 ∷ []) bs) whole
        ∙ later (and_right (bare (request_in (begun ++ 10 ∷ []))) (list_all bare (ended_from [] bs ++ last_request (begun_from [] bs))) now)
    by_size (suc n) e =
        let same : reload_size (without_cr (line_in (begun ++ 10 ∷ []))) ≡ reload_size (without_cr begun) = ap (λ (line : List ℕ). reload_size (without_cr line)) (line_in-none begun [] p) in
        let some : 0 < reload_size (without_cr (line_in (begun ++ 10 ∷ []))) = omega (arith, same, e) in
        absurd (either_way (begun ++ 10 ∷ []) bs some (is_whole (begun ++ 10 ∷ [])) (with_body (begun ++ 10 ∷ []) bs (lf_there begun []) some) all)

-- any byte
at_byte : (begun : List ℕ) (b : ℕ) (bs : List ℕ) → has_lf begun ≡ false → (list_all bare (ended_from [] bs ++ last_request (begun_from [] bs)) ≡ true → begun_from [] bs ≡ [])
    → (is_lf b ≡ false → list_all bare (ended_from (begun ++ b ∷ []) bs ++ last_request (begun_from (begun ++ b ∷ []) bs)) ≡ true → begun_from (begun ++ b ∷ []) bs ≡ [])
    → list_all bare (all_by (is_whole (begun ++ b ∷ [])) (begun ++ b ∷ []) bs) ≡ true → left (is_whole (begun ++ b ∷ [])) (begun ++ b ∷ []) bs ≡ []
at_byte begun b bs p ended goes_on all = cases (is_lf b) refl
  where
    cases : (v : Bool) → is_lf b ≡ v → left (is_whole (begun ++ b ∷ [])) (begun ++ b ∷ []) bs ≡ []
    cases true e =
        subst (λ (x : ℕ). list_all bare (all_by (is_whole (begun ++ x ∷ [])) (begun ++ x ∷ []) bs) ≡ true → left (is_whole (begun ++ x ∷ [])) (begun ++ x ∷ []) bs ≡ []) (sym (is_ten b e)) (at_lf begun bs p ended) all
    cases false e =
        let none = not_whole begun b p e in
        ap (λ (v : Bool). left v (begun ++ b ∷ []) bs) none ∙ goes_on e (subst (λ (v : Bool). list_all bare (all_by v (begun ++ b ∷ []) bs) ≡ true) none all)

none_begun : (begun : List ℕ) (b : ℕ) (bs : List ℕ) → has_lf begun ≡ false → ends_at_line (b ∷ bs) ≡ true → list_all bare (ended_from begun (b ∷ bs) ++ last_request (begun_from begun (b ∷ bs))) ≡ true
    → begun_from begun (b ∷ bs) ≡ []
none_begun begun b [] p e all = at_byte begun b [] p (λ none. refl) (λ other none. absurd (let x : ◌≡◌ {A = Bool} true false = sym e ∙ other in cc)) all
none_begun begun b (c ∷ bs) p e all = at_byte begun b (c ∷ bs) p (λ bares. none_begun [] c bs refl e bares) (λ other bares. none_begun (begun ++ b ∷ []) c bs (no_lf begun b p other) e bares) all

pub lines_end : (past : List ℕ) → ends_at_line past ≡ true → has_no_body past ≡ true → begun_request past ≡ []
lines_end [] e none = refl
lines_end (b ∷ bs) e none = none_begun [] b bs refl e none
