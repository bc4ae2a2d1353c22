-- Texts in one, by the places at which they end: one of them, and one more.
use Rattle.std.proofs.Common.{◌≡◌, ℕ, zero, suc, ◌+◌, ◌-◌, ◌<◌, ◌≤◌, inl, inr, Some, List, [], ◌∷◌, ◌++◌, length, take, drop, slice_get, slice_index, arith, refl, ap, sym, subst, ◌∙◌}
use Rattle.std.proofs.lemmas.Bool.{cases_lt}
use Rattle.std.proofs.lemmas.List.{length-append, get_or_append_left, get_or-append-add, take-append-le, drop-append-le, length-drop, length-take-le}
use Rattle.std.proofs.Math.Seq.{take-length, drop-append_seam}
use Rattle.std.proofs.lemmas.Str.{IsCharBoundary-start, IsCharBoundary-end}
use Rattle.std.specs.Str.{IsUtf8, IsCharBoundary}
use Rattle.base_words.specs.Texts.{texts_in, start_of, AreEnds, place_at, places_of}

-- a text begins where the one before it ends
pub start_is : (start : ℕ) (ends : List ℕ) (n : ℕ) → n < length ends → start_of start ends (suc n) ≡ slice_index ends n
start_is start [] n less = absurd (omega (arith, less))
start_is start (end ∷ ends) zero less = refl
start_is start (end ∷ ends) (suc n) less = start_is end ends n (omega (arith, less))

-- one of them
pub text_at : (start : ℕ) (ends text : List ℕ) (n : ℕ) → AreEnds start ends text → n < length ends → slice_get (texts_in start ends text) n ≡ Some (take (slice_index ends n - start_of start ends n) (drop (start_of start ends n) text))
text_at start [] text n are less = absurd (omega (arith, less))
text_at start (end ∷ ends) text zero are less = refl
text_at start (end ∷ ends) text (suc n) are less = text_at end ends text n are.1.1 (omega (arith, less))

pub in_order : (start : ℕ) (ends text : List ℕ) (n : ℕ) → AreEnds start ends text → n < length ends → start_of start ends n ≤ slice_index ends n
in_order start [] text n are less = absurd (omega (arith, less))
in_order start (end ∷ ends) text zero are less = are.0
in_order start (end ∷ ends) text (suc n) are less = in_order end ends text n are.1.1 (omega (arith, less))

pub end_between : (start : ℕ) (ends text : List ℕ) (n : ℕ) → AreEnds start ends text → n < length ends → IsCharBoundary text (slice_index ends n)
end_between start [] text n are less = absurd (omega (arith, less))
end_between start (end ∷ ends) text zero are less = are.1.0
end_between start (end ∷ ends) text (suc n) are less = end_between end ends text n are.1.1 (omega (arith, less))

pub start_between : (ends text : List ℕ) (n : ℕ) → AreEnds 0 ends text → n < length ends → 0 < start_of 0 ends n → IsCharBoundary text (start_of 0 ends n)
start_between ends text zero are less some = absurd (omega (arith, some))
start_between ends text (suc n) are less some = subst (IsCharBoundary text) (sym (start_is 0 ends n (omega (arith, less)))) (end_between 0 ends text n are (omega (arith, less)))

pub count_is : (start : ℕ) (ends text : List ℕ) → length (texts_in start ends text) ≡ length ends
count_is start [] text = refl
count_is start (end ∷ ends) text = ap suc (count_is end ends text)

-- a number of the texts is one of the ends
pub within : (start : ℕ) (ends text : List ℕ) (now : List (List ℕ)) (n : ℕ) → texts_in start ends text ≡ now → n < length now → n < length ends
within start ends text now n is less = subst (λ m. n < m) (ap length (sym is) ∙ count_is start ends text) less

-- where a text may be cut it may be cut with one more behind it
still_between : (text more : List ℕ) (at : ℕ) → IsUtf8 more → IsCharBoundary text at → IsCharBoundary (text ++ more) at
still_between text more at utf8 between =
    let long = length-append text more in
    let within = between.0 in (
      omega (arith, long, within),
      elim (cases_lt at (length text)) [
        | inl less ↦ (let same : slice_index (text ++ more) at ≡ slice_index text at = get_or_append_left text more 0 at less in λ inside high. subst (λ b. 192 ≤ b) (sym same) (between.1 less (subst (λ b. 128 ≤ b) same high)))
        | inr past ↦ (let is : at ≡ length text + 0 = omega (arith, past, within) in
            let same : slice_index (text ++ more) at ≡ slice_index more 0 = ap (slice_index (text ++ more)) is ∙ get_or-append-add text more 0 0 in
            λ inside high. subst (λ b. 192 ≤ b) (sym same) ((IsCharBoundary-start more utf8).1 (omega (arith, inside, long, is)) (subst (λ b. 128 ≤ b) same high)))
      ],
    )

-- the ends of texts and one more
pub ends_more : (start : ℕ) (ends text more : List ℕ) → IsUtf8 more → AreEnds start ends text → AreEnds start (ends ++ (length text + length more) ∷ []) (text ++ more)
ends_more start [] text more utf8 are =
    let long = length-append text more in
    (omega (arith, are), (subst (IsCharBoundary (text ++ more)) long (IsCharBoundary-end (text ++ more)), sym long))
ends_more start (end ∷ ends) text more utf8 are = (are.0, (still_between text more end utf8 are.1.0, ends_more end ends text more utf8 are.1.1))

-- texts and one more
pub texts_more : (start : ℕ) (ends text more : List ℕ) → AreEnds start ends text → texts_in start (ends ++ (length text + length more) ∷ []) (text ++ more) ≡ texts_in start ends text ++ more ∷ []
texts_more start [] text more are =
    let rest : drop start (text ++ more) ≡ more = ap (λ n. drop n (text ++ more)) are ∙ drop-append_seam text more in
    let long : length text + length more - start ≡ length more = omega (arith, are) in
    let one : take (length text + length more - start) (drop start (text ++ more)) ≡ more = ap (take (length text + length more - start)) rest ∙ ap (λ n. take n more) long ∙ take-length more in
    ap (λ t. t ∷ []) one
texts_more start (end ∷ ends) text more are =
    let within = are.1.0.0 in
    let low = are.0 in
    let rest : drop start (text ++ more) ≡ drop start text ++ more = drop-append-le start text more (omega (arith, low, within)) in
    let long = length-drop start text in
    let one : take (end - start) (drop start (text ++ more)) ≡ take (end - start) (drop start text) = ap (take (end - start)) rest ∙ take-append-le (end - start) (drop start text) more (omega (arith, low, within, long)) in
    ap (λ t. t ∷ texts_in end (ends ++ (length text + length more) ∷ []) (text ++ more)) one ∙ ap (λ ts. take (end - start) (drop start text) ∷ ts) (texts_more end ends text more are.1.1)

-- a text ends where it begins and its length after that
one_long : (start end : ℕ) (text : List ℕ) → start ≤ end → end ≤ length text → start + length (take (end - start) (drop start text)) ≡ end
one_long start end text low within =
    let rest = length-drop start text in
    let long : length (take (end - start) (drop start text)) ≡ end - start = length-take-le (end - start) (drop start text) (omega (arith, low, within, rest)) in
    omega (arith, long, low)

-- the place of one of them
pub place_is : (start : ℕ) (ends text : List ℕ) (n : ℕ) → AreEnds start ends text → n < length ends → place_at (places_of start (texts_in start ends text)) n ≡ record { start = start_of start ends n; end = slice_index ends n }
place_is start [] text n are less = absurd (omega (arith, less))
place_is start (end ∷ ends) text zero are less = ap (λ e. record { start = start; end = e }) (one_long start end text are.0 are.1.0.0)
place_is start (end ∷ ends) text (suc n) are less = ap (λ s. place_at (places_of s (texts_in end ends text)) n) (one_long start end text are.0 are.1.0.0) ∙ place_is end ends text n are.1.1 (omega (arith, less))

-- the places of texts and one more
pub places_more : (start : ℕ) (ends text more : List ℕ) → AreEnds start ends text
    → places_of start (texts_in start ends text ++ more ∷ []) ≡ places_of start (texts_in start ends text) ++ record { start = length text; end = length text + length more } ∷ []
places_more start [] text more are = ap (λ s. record { start = s; end = s + length more } ∷ []) are
places_more start (end ∷ ends) text more are =
    let long = one_long start end text are.0 are.1.0.0 in
    ap (λ ps. record { start = start; end = start + length (take (end - start) (drop start text)) } ∷ ps)
    (subst (λ s. places_of s (texts_in end ends text ++ more ∷ []) ≡ places_of s (texts_in end ends text) ++ record { start = length text; end = length text + length more } ∷ []) (sym long) (places_more end ends text more are.1.1))
