-- The first word of a line, and what follows it.
use Rattle.std.proofs.Common.{◌≡◌, ℕ, Bool, true, false, List, [], ◌∷◌, ◌++◌, ap, refl, sym, ◌∙◌, arith, length, take, drop, get_or, ◌<◌, ◌≤◌, ◌+◌, eqb, subst}
use Rattle.std.proofs.lemmas.List.{take_more, drop_more, drop_all, take-append-drop}
use Rattle.std.proofs.lemmas.Bool.Decides.{nat_tests}
use Rattle.serve_lines.specs.Words.{is_gap, at_gap, words_of}
use Rattle.serve_lines.specs.Cuts.{split_word}
use Rattle.std.specs.Str.{bytes_eq}
use Rattle.std.specs.Cmp.Lexicographic.{pointwise}

-- no byte separates words
abbrev pub Solid : List ℕ → Type 0
Solid [] = Unit {0}
Solid (b ∷ bs) = (is_gap b ≡ false) × Solid bs

solid-append : (w : List ℕ) (b : ℕ) → Solid w → is_gap b ≡ false → Solid (w ++ b ∷ [])
solid-append [] b h e = (e, tt)
solid-append (c ∷ w) b h e = (h.0, solid-append w b h.1 e)

pub solid-more : (line : List ℕ) (i : ℕ) → i < length line → Solid (take i line) → is_gap (get_or line i 0) ≡ false → Solid (take (i + 1) line)
solid-more line i h s e = subst Solid (sym (take_more line i 0 h)) (solid-append (take i line) (get_or line i 0) s e)

-- bytes within a word, and then a gap or the end
split-solid : (w rest : List ℕ) → Solid w → at_gap rest ≡ true → split_word (w ++ rest) ≡ (w, rest)
split-solid [] [] h e = refl
split-solid [] (b ∷ rest) h e = rw e refl
split-solid (b ∷ w) rest h e = rw (h.0, split-solid w rest h.1 e) refl

split-cut : (line : List ℕ) (i : ℕ) → Solid (take i line) → at_gap (drop i line) ≡ true → split_word line ≡ (take i line, drop i line)
split-cut line i h e = ap split_word (sym (take-append-drop i line)) ∙ split-solid (take i line) (drop i line) h e

-- a gap is at i, and none before it
pub split-gap : (line : List ℕ) (i : ℕ) → i < length line → Solid (take i line) → is_gap (get_or line i 0) ≡ true → split_word line ≡ (take i line, drop i line)
split-gap line i h s e = split-cut line i s (ap at_gap (drop_more line i 0 h) ∙ e)

-- no gap is there
pub split-end : (line : List ℕ) (i : ℕ) → i ≤ length line → length line ≤ i → Solid (take i line) → split_word line ≡ (take (length line) line, drop (length line) line)
split-end line i k h s =
    let e : i ≡ length line = omega arith in
    split-cut line (length line) (subst (λ (j : ℕ). Solid (take j line)) e s) (rw (drop_all (length line) line (omega arith)) refl)

step : (b : ℕ) (bs : List ℕ) (g : Bool) → at_gap bs ≡ g → is_gap b ≡ false → (at_gap bs ≡ false → words_of bs ≡ (split_word bs).0 ∷ words_of (split_word bs).1)
    → words_of (b ∷ bs) ≡ (split_word (b ∷ bs)).0 ∷ words_of (split_word (b ∷ bs)).1
step b bs true e h ih = let s : split_word bs ≡ ([], bs) = split-solid [] bs tt e in rw (h, e, s) refl
step b bs false e h ih = rw (h, e, ih e) refl

-- the words of a line that begins with one
pub words-split : (line : List ℕ) → at_gap line ≡ false → words_of line ≡ (split_word line).0 ∷ words_of (split_word line).1
words-split [] h = cc
words-split (b ∷ bs) h = step b bs (at_gap bs) refl h (words-split bs)

-- the same of a line that was split
pub words-first : (line w rest : List ℕ) → at_gap line ≡ false → split_word line ≡ (w, rest) → words_of line ≡ w ∷ words_of rest
words-first line w rest h e = words-split line h ∙ ap (λ (p : List ℕ × List ℕ). p.0 ∷ words_of p.1) e

-- that word isn't empty
pub some-first : (line w rest : List ℕ) → at_gap line ≡ false → split_word line ≡ (w, rest) → 0 < length w
some-first [] w rest h e = cc
some-first (b ∷ bs) w rest h e =
    let f : split_word (b ∷ bs) ≡ (b ∷ (split_word bs).0, (split_word bs).1) = rw h refl in
    let k : b ∷ (split_word bs).0 ≡ w = ap (λ (p : List ℕ × List ℕ). p.0) (sym f ∙ e) in
    rw (sym k) (omega arith)

-- a gap at the start changes no word
pub words-gap : (b : ℕ) (bs : List ℕ) → is_gap b ≡ true → words_of (b ∷ bs) ≡ words_of bs
words-gap b bs e = rw e refl

-- some bytes are there
pub some_bytes : (line : List ℕ) → eqb (length line) 0 ≡ false → 0 < length line
some_bytes line h = grind (arith, nat_tests)

-- ---- a word and a name

either_way : (a b : ℕ) → eqb b a ≡ eqb a b
either_way a b = grind (arith, nat_tests)

-- a word as long as a name is that name just where it begins with it
pub as_long : (word name : List ℕ) → length word ≡ length name → pointwise eqb name (take (length name) word) ≡ bytes_eq word name
as_long [] [] e = refl
as_long [] (b ∷ name) e = absurd (omega (arith, e))
as_long (a ∷ word) [] e = absurd (omega (arith, e))
as_long (a ∷ word) (b ∷ name) e = rw (either_way a b, as_long word name (omega (arith, e))) refl
