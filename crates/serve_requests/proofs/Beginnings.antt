-- What bytes do to a request that has begun.
use Rattle.std.proofs.Common.{◌≡◌, ℕ, zero, suc, Bool, true, false, cond, List, [], ◌∷◌, ◌++◌, ap, refl, sym, ◌∙◌, subst, ◌||◌, ◌&&◌, append_assoc, append-nil, arith, length, eqb, ◌<◌, ◌+◌}
use Rattle.std.proofs.lemmas.List.{length-append}
use Rattle.std.proofs.lemmas.Bool.Decides.{nat_tests}
use Rattle.serve_lines.specs.Reloads.{reload_size}
use Rattle.serve_requests.specs.Laws.{RequestsEnd, RequestsEndInLf}
use Rattle.serve_requests.specs.Requests.{is_lf, has_lf, line_in, after_lf, without_cr, request_in, last_request, is_whole, ended_from, begun_from, requests_of}
use Rattle.serve_requests.specs.Missing.{AreMissing}
use Rattle.serve_requests.proofs.RequestLaws.{or_left, or_right, has_lf-more, line_in-none, after_lf-none, line_in-more, after_lf-more, ended_from-more, begun_from-more}

-- bytes after which a request is begun and none has ended
pub record Begins (begun xs : List ℕ) : Type 0 where
  pub ended : ended_from begun xs ≡ []
  pub begun_is : begun_from begun xs ≡ begun ++ xs

-- bytes with which a request ends
pub record Ends (begun xs : List ℕ) : Type 0 where
  pub ended : ended_from begun xs ≡ request_in (begun ++ xs) ∷ []
  pub begun_is : begun_from begun xs ≡ []

begins-none : (begun : List ℕ) → Begins begun []
begins-none begun = record { ended = refl; begun_is = sym (append-nil begun) }

begins-next : (begun : List ℕ) (b : ℕ) (bs : List ℕ) → is_whole (begun ++ b ∷ []) ≡ false → Begins (begun ++ b ∷ []) bs → Begins begun (b ∷ bs)
begins-next begun b bs other next = record {
  ended = ap (λ (v : Bool). cond v (request_in (begun ++ b ∷ []) ∷ ended_from [] bs) (ended_from (begun ++ b ∷ []) bs)) other ∙ next.ended;
  begun_is = ap (λ (v : Bool). cond v (begun_from [] bs) (begun_from (begun ++ b ∷ []) bs)) other ∙ next.begun_is ∙ append_assoc begun (b ∷ []) bs;
}

ends-next : (begun : List ℕ) (b : ℕ) (bs : List ℕ) → is_whole (begun ++ b ∷ []) ≡ false → Ends (begun ++ b ∷ []) bs → Ends begun (b ∷ bs)
ends-next begun b bs other next = record {
  ended = ap (λ (v : Bool). cond v (request_in (begun ++ b ∷ []) ∷ ended_from [] bs) (ended_from (begun ++ b ∷ []) bs)) other ∙ next.ended ∙ ap (λ (xs : List ℕ). request_in xs ∷ []) (append_assoc begun (b ∷ []) bs);
  begun_is = ap (λ (v : Bool). cond v (begun_from [] bs) (begun_from (begun ++ b ∷ []) bs)) other ∙ next.begun_is;
}

ends-now : (begun : List ℕ) (b : ℕ) → is_whole (begun ++ b ∷ []) ≡ true → Ends begun (b ∷ [])
ends-now begun b same = record {
  ended = ap (λ (v : Bool). cond v (request_in (begun ++ b ∷ []) ∷ []) []) same;
  begun_is = ap (λ (v : Bool). cond v [] (begun ++ b ∷ [])) same;
}

pub no_lf : (xs : List ℕ) (b : ℕ) → has_lf xs ≡ false → is_lf b ≡ false → has_lf (xs ++ b ∷ []) ≡ false
no_lf xs b p q = has_lf-more xs (b ∷ []) ∙ rw (p, q) refl

and_no : (a b : Bool) → a ≡ false → (a && b) ≡ false
and_no a b e = rw e refl

-- without LF no request is whole
pub not_whole : (begun : List ℕ) (b : ℕ) → has_lf begun ≡ false → is_lf b ≡ false → is_whole (begun ++ b ∷ []) ≡ false
not_whole begun b p q = and_no (has_lf (begun ++ b ∷ [])) (eqb (length (after_lf (begun ++ b ∷ []))) (reload_size (without_cr (line_in (begun ++ b ∷ []))))) (no_lf begun b p q)

-- a line goes on
pub in_line : (begun xs : List ℕ) → has_lf begun ≡ false → has_lf xs ≡ false → Begins begun xs
in_line begun [] p q = begins-none begun
in_line begun (b ∷ bs) p q =
    let other = or_left (is_lf b) (has_lf bs) q in
    begins-next begun b bs (not_whole begun b p other) (in_line (begun ++ b ∷ []) bs (no_lf begun b p other) (or_right (is_lf b) (has_lf bs) q))

-- ---- the bytes after a line

-- how many bytes have come after the line of a request, and how many it asks for
abbrev came : List ℕ → ℕ
came begun = length (after_lf begun)

abbrev asks : List ℕ → ℕ
asks begun = reload_size (without_cr (line_in begun))

whole_is : (begun : List ℕ) → has_lf begun ≡ true → is_whole begun ≡ eqb (came begun) (asks begun)
whole_is begun p = ap (λ (v : Bool). v && eqb (came begun) (asks begun)) p

pub lf_stays : (begun xs : List ℕ) → has_lf begun ≡ true → has_lf (begun ++ xs) ≡ true
lf_stays begun xs p = has_lf-more begun xs ∙ rw p refl

came-more : (begun xs : List ℕ) → has_lf begun ≡ true → came (begun ++ xs) ≡ came begun + length xs
came-more begun xs p = ap length (after_lf-more begun xs p) ∙ length-append (after_lf begun) xs

asks-more : (begun xs : List ℕ) → has_lf begun ≡ true → asks (begun ++ xs) ≡ asks begun
asks-more begun xs p = ap (λ (line : List ℕ). reload_size (without_cr line)) (line_in-more begun xs p)

unequal : (a b : ℕ) → a < b → eqb a b ≡ false
unequal a b h = grind (arith, nat_tests)

equal : (a b : ℕ) → a ≡ b → eqb a b ≡ true
equal a b h = grind (arith, nat_tests)

not_yet : (begun : List ℕ) (b : ℕ) → has_lf begun ≡ true → came begun + 1 < asks begun → is_whole (begun ++ b ∷ []) ≡ false
not_yet begun b p h =
    let c = came-more begun (b ∷ []) p in
    let a = asks-more begun (b ∷ []) p in
    whole_is (begun ++ b ∷ []) (lf_stays begun (b ∷ []) p) ∙ unequal _ _ (omega (arith, c, a))

now : (begun : List ℕ) (b : ℕ) → has_lf begun ≡ true → came begun + 1 ≡ asks begun → is_whole (begun ++ b ∷ []) ≡ true
now begun b p h =
    let c = came-more begun (b ∷ []) p in
    let a = asks-more begun (b ∷ []) p in
    whole_is (begun ++ b ∷ []) (lf_stays begun (b ∷ []) p) ∙ equal _ _ (omega (arith, c, a))

-- fewer bytes than are missing
pub in_body : (begun xs : List ℕ) → has_lf begun ≡ true → length (after_lf begun) + length xs < reload_size (without_cr (line_in begun)) → Begins begun xs
in_body begun [] p h = begins-none begun
in_body begun (b ∷ bs) p h =
    let c = came-more begun (b ∷ []) p in
    let a = asks-more begun (b ∷ []) p in
    begins-next begun b bs (not_yet begun b p (omega arith)) (in_body (begun ++ b ∷ []) bs (lf_stays begun (b ∷ []) p) (omega (arith, c, a)))

-- as many bytes as are missing
pub body_ends : (begun xs : List ℕ) → has_lf begun ≡ true → 0 < length xs → length (after_lf begun) + length xs ≡ reload_size (without_cr (line_in begun)) → Ends begun xs
body_ends begun [] p n h = absurd (omega arith)
body_ends begun (b ∷ []) p n h = ends-now begun b (now begun b p h)
body_ends begun (b ∷ d ∷ bs) p n h =
    let c = came-more begun (b ∷ []) p in
    let a = asks-more begun (b ∷ []) p in
    ends-next begun b (d ∷ bs) (not_yet begun b p (omega arith)) (body_ends (begun ++ b ∷ []) (d ∷ bs) (lf_stays begun (b ∷ []) p) (omega arith) (omega (arith, c, a)))

-- ---- the LF of a line

pub lf_there : (xs ys : List ℕ) → has_lf (xs ++ 10 ∷ ys) ≡ true
lf_there [] ys = refl
lf_there (b ∷ bs) ys = step (is_lf b) (has_lf (bs ++ 10 ∷ ys)) (lf_there bs ys)
  where
    step : (v a : Bool) → a ≡ true → (v || a) ≡ true
    step true a e = refl
    step false a e = e

-- the LF of a line that asks for nothing more ends its request
pub lf_whole : (line : List ℕ) → has_lf line ≡ false → reload_size (without_cr line) ≡ 0 → is_whole (line ++ 10 ∷ []) ≡ true
lf_whole line p e =
    whole_is (line ++ 10 ∷ []) (lf_there line []) ∙ equal _ _ (ap length (after_lf-none line [] p) ∙ sym (ap (λ (l : List ℕ). reload_size (without_cr l)) (line_in-none line [] p) ∙ e))

lf_ends : (line : List ℕ) → has_lf line ≡ false → reload_size (without_cr line) ≡ 0 → Ends line (10 ∷ [])
lf_ends line p e = ends-now line 10 (lf_whole line p e)

-- the LF of a line that asks for more leaves the request begun
lf_asks : (line : List ℕ) → has_lf line ≡ false → 0 < reload_size (without_cr line) → Begins line (10 ∷ [])
lf_asks line p h =
    let c : came (line ++ 10 ∷ []) ≡ 0 = ap length (after_lf-none line [] p) in
    let a : asks (line ++ 10 ∷ []) ≡ reload_size (without_cr line) = ap (λ (l : List ℕ). reload_size (without_cr l)) (line_in-none line [] p) in
    begins-next line 10 [] (whole_is (line ++ 10 ∷ []) (lf_there line []) ∙ unequal _ _ (omega (arith, c, a))) (begins-none (line ++ 10 ∷ []))

-- bytes that begin a request and then bytes that do something to it
pub then_ends : (begun xs ys : List ℕ) → Begins begun xs → Ends (begun ++ xs) ys → Ends begun (xs ++ ys)
then_ends begun xs ys p q = record {
  ended = ended_from-more begun xs ys ∙ rw (p.ended, p.begun_is) (q.ended) ∙ ap (λ (zs : List ℕ). request_in zs ∷ []) (append_assoc begun xs ys);
  begun_is = begun_from-more begun xs ys ∙ ap (λ (zs : List ℕ). begun_from zs ys) p.begun_is ∙ q.begun_is;
}

pub then_begins : (begun xs ys : List ℕ) → Begins begun xs → Begins (begun ++ xs) ys → Begins begun (xs ++ ys)
then_begins begun xs ys p q = record {
  ended = ended_from-more begun xs ys ∙ rw (p.ended, p.begun_is) (q.ended);
  begun_is = begun_from-more begun xs ys ∙ ap (λ (zs : List ℕ). begun_from zs ys) p.begun_is ∙ q.begun_is ∙ append_assoc begun xs ys;
}

pub no_lf-more : (xs ys : List ℕ) → has_lf xs ≡ false → has_lf ys ≡ false → has_lf (xs ++ ys) ≡ false
no_lf-more xs ys p q = has_lf-more xs ys ∙ rw (p, q) refl

pub line_ends : (begun line : List ℕ) → has_lf begun ≡ false → has_lf line ≡ false → reload_size (without_cr (begun ++ line)) ≡ 0 → Ends begun (line ++ 10 ∷ [])
line_ends begun line p q e = then_ends begun line (10 ∷ []) (in_line begun line p q) (lf_ends (begun ++ line) (no_lf-more begun line p q) e)

pub line_asks : (begun line : List ℕ) → has_lf begun ≡ false → has_lf line ≡ false → 0 < reload_size (without_cr (begun ++ line)) → Begins begun (line ++ 10 ∷ [])
line_asks begun line p q h = then_begins begun line (10 ∷ []) (in_line begun line p q) (lf_asks (begun ++ line) (no_lf-more begun line p q) h)

-- ---- the requests of an input, one by one

ended_whole : (xs rest : List ℕ) → Ends [] xs → requests_of (xs ++ rest) ≡ request_in xs ∷ requests_of rest
ended_whole xs rest p =
    (λ i. ended_from-more [] xs rest i ++ last_request (begun_from-more [] xs rest i)) ∙ rw (p.ended, p.begun_is) refl

with_body : (line body : List ℕ) → has_lf line ≡ false → length body ≡ reload_size (without_cr line) → Ends [] (line ++ 10 ∷ body)
with_body line [] p e = line_ends [] line refl p (sym e)
with_body line (b ∷ bs) p e =
    let c : came (line ++ 10 ∷ []) ≡ 0 = ap length (after_lf-none line [] p) in
    let a : asks (line ++ 10 ∷ []) ≡ reload_size (without_cr line) = ap (λ (l : List ℕ). reload_size (without_cr l)) (line_in-none line [] p) in
    let whole = then_ends [] (line ++ 10 ∷ []) (b ∷ bs) (line_asks [] line refl p (omega (arith, e))) (body_ends (line ++ 10 ∷ []) (b ∷ bs) (lf_there line []) (omega arith) (omega (arith, c, a, e))) in
    subst (λ (xs : List ℕ). Ends [] xs) (append_assoc line (10 ∷ []) (b ∷ bs)) whole

pub requests_end : RequestsEnd
requests_end line body rest p e =
    ap (λ (xs : List ℕ). requests_of xs) (sym (append_assoc line (10 ∷ body) rest)) ∙ ended_whole (line ++ 10 ∷ body) rest (with_body line body p e)
    ∙ (λ i. record { line = without_cr (line_in-none line body p i); body = after_lf-none line body p i } ∷ requests_of rest)

-- a line without a body, and bytes without LF
pub requests_end_in_lf : RequestsEndInLf
requests_end_in_lf line rest p = (
  λ none. requests_end line [] rest p (sym none),
  (λ i. (in_line [] line refl p).ended i ++ last_request ((in_line [] line refl p).begun_is i)),
)

-- ---- how many bytes are missing

-- before the LF none is known to be missing
pub none_missing : (begun : List ℕ) (n : ℕ) → n ≡ 0 → AreMissing begun n → has_lf begun ≡ false
none_missing begun zero e p = p
none_missing begun (suc n) e p = absurd (omega arith)

pub some_missing : (begun : List ℕ) (n : ℕ) → 0 < n → AreMissing begun n → (has_lf begun ≡ true) × (length (after_lf begun) + n ≡ reload_size (without_cr (line_in begun)))
some_missing begun zero e p = absurd (omega arith)
some_missing begun (suc n) e p = p

-- so after its LF some are, and in a line none is
pub some_left : (begun : List ℕ) (n : ℕ) → has_lf begun ≡ true → AreMissing begun n → 0 < n
some_left begun zero e p = absurd (let x : ◌≡◌ {A = Bool} true false = sym e ∙ p in cc)
some_left begun (suc n) e p = omega arith

pub none_left : (begun : List ℕ) (n : ℕ) → has_lf begun ≡ false → AreMissing begun n → n ≡ 0
none_left begun zero e p = refl
none_left begun (suc n) e p = absurd (let x : ◌≡◌ {A = Bool} true false = sym p.0 ∙ e in cc)

pub none_known : (begun : List ℕ) (n : ℕ) → n ≡ 0 → has_lf begun ≡ false → AreMissing begun n
none_known begun zero e p = p
none_known begun (suc n) e p = absurd (omega arith)

are_missing : (begun : List ℕ) (n : ℕ) → 0 < n → has_lf begun ≡ true → length (after_lf begun) + n ≡ reload_size (without_cr (line_in begun)) → AreMissing begun n
are_missing begun zero e p q = absurd (omega arith)
are_missing begun (suc n) e p q = (p, q)

-- right after the LF of a line its whole body is
pub missing_all : (line : List ℕ) (n : ℕ) → has_lf line ≡ false → 0 < n → reload_size (without_cr line) ≡ n → AreMissing (line ++ 10 ∷ []) n
missing_all line n p some e =
    let c : came (line ++ 10 ∷ []) ≡ 0 = ap length (after_lf-none line [] p) in
    let a : asks (line ++ 10 ∷ []) ≡ n = ap (λ (l : List ℕ). reload_size (without_cr l)) (line_in-none line [] p) ∙ e in
    are_missing (line ++ 10 ∷ []) n some (lf_there line []) (omega (arith, c, a))

-- after some of them fewer are
pub missing_fewer : (held xs : List ℕ) (n m : ℕ) → AreMissing held n → 0 < m → m + length xs ≡ n → AreMissing (held ++ xs) m
missing_fewer held xs n m p some e =
    let q = some_missing held n (omega arith) p in
    let c = came-more held xs q.0 in
    let a = asks-more held xs q.0 in
    are_missing (held ++ xs) m some (lf_stays held xs q.0) (omega (arith, c, a, q.1))

pub cut_line : (xs line rest : List ℕ) → xs ≡ line ++ 10 ∷ rest → has_lf line ≡ false → line ≡ line_in xs
cut_line xs line rest e p = sym (line_in-none line rest p) ∙ ap line_in (sym e)
