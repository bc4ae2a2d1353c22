-- The pairs of a line, one by one.
use Rattle.std.proofs.Common.{◌≡◌, ℕ, false, Option, Some, None, List, [], ◌∷◌, ◌++◌, ap, refl, sym}
use Rattle.std.proofs.lemmas.List.{append_assoc}
use Rattle.std.specs.Option.{option_map}
use Rattle.plant_types.specs.Pairs.{PlainPair}
use Rattle.serve_lines.specs.Given.{pair_of, pairs_of}
use Rattle.serve_lines.specs.Words.{at_gap, words_of}
use Rattle.serve_lines.proofs.WordLaws.{words-split}
use Rattle.serve_lines.specs.Cuts.{split_word}

-- pairs after others
abbrev pub after_pairs : List PlainPair → Option (List PlainPair) → Option (List PlainPair)
after_pairs first others = option_map (λ ps. first ++ ps) others

joined : (first : List PlainPair) (p : PlainPair) (others : Option (List PlainPair)) → after_pairs first (option_map (λ ps. p ∷ ps) others) ≡ after_pairs (first ++ p ∷ []) others
joined first p None = refl
joined first p (Some ps) = ap (λ (l : List PlainPair). Some l) (sym (append_assoc first (p ∷ []) ps))

-- the first word is a pair
pub pair-next : (line after : List ℕ) (first : List PlainPair) (p : PlainPair) → at_gap line ≡ false → pair_of (split_word line).0 ≡ Some p → after ≡ (split_word line).1
    → after_pairs first (pairs_of (words_of line)) ≡ after_pairs (first ++ p ∷ []) (pairs_of (words_of after))
pair-next line after first p h e a =
    rw (words-split line h, e, a) (joined first p (pairs_of (words_of (split_word line).1)))

-- it is none
pub pair-bad : (line : List ℕ) (first : List PlainPair) → at_gap line ≡ false → pair_of (split_word line).0 ≡ None → after_pairs first (pairs_of (words_of line)) ≡ None
pair-bad line first h e = rw (words-split line h, e) refl
