-- Tables of words and of paths that grow, and the numbers in them.
use Rattle.std.proofs.Common.{◌≡◌, ◌∙◌, ap, sym, subst, refl, arith, ℕ, ◌<◌, List, [], ◌∷◌, get_or, Option, Some, None}
use Rattle.std.specs.Prelude.{position}
use Rattle.std.specs.Str.{bytes_eq}
use Rattle.std.specs.Cmp.Lexicographic.{bytes_decides}
use Rattle.std.proofs.lemmas.List.Quantifiers.{position-Some}
use Rattle.plant_types.specs.Words.{folded, same_word}
use Rattle.base_words.specs.Names.{find_name}
use Rattle.plant_types.specs.Values.{Path}
use Rattle.plant_types.specs.declared.values.Bounds.{Bounds}
use Rattle.logic_carry.specs.Paths.{Grows, Respects, TellsWords, path_key, element_word, AreNumbered, HasWord, IsAt, IsPlace}

pub grows_on : {K : Type 0} (a b c : K → Option ℕ) → Grows a b → Grows b c → Grows a c
grows_on a b c first next k n is = next k n (first k n is)

pub grows_none : {K : Type 0} (a : K → Option ℕ) → Grows a a
grows_none a k n is = is

pub word_later : (words later : List ℕ → Option ℕ) → Grows words later → (word : ℕ) (name : List ℕ) → HasWord words word name → HasWord later word name
word_later words later grows word name has = record { spelled = has.spelled; same = has.same; found = grows has.spelled word has.found; small = has.small }

-- a path keeps its number in later tables
pub at_later : (words words' : List ℕ → Option ℕ) (numbers numbers' : ℕ → Option ℕ) → Grows words words' → Grows numbers numbers' → (n : ℕ) (p : Path) → IsAt words numbers n p → IsAt words' numbers' n p
at_later words words' numbers numbers' ws ns n [] at = at
at_later words words' numbers numbers' ws ns n (a ∷ p) at =
    (at.0, at.1, word_later words words' ws at.1 a at.2, ns (path_key at.0 at.1) n at.3, at_later words words' numbers numbers' ws ns at.0 p at.4)

-- so does a value
pub place_later : (words : List ℕ → Option ℕ) (numbers numbers' : ℕ → Option ℕ) → Grows numbers numbers' → (n : ℕ) (p : Path) (bounds : Option Bounds) → IsPlace words numbers n p bounds → IsPlace words numbers' n p bounds
place_later words numbers numbers' grows n p None at = at_later words words numbers numbers' (grows_none words) grows n p at
place_later words numbers numbers' grows n p (Some b) at = record {
  index = at.index;
  shift = at.shift;
  shift_is = at.shift_is;
  array = at.array;
  path_is = at.path_is;
  parent = at.parent;
  array_at = at_later words words numbers numbers' (grows_none words) grows at.parent at.array at.array_at;
  found = grows (path_key at.parent (element_word at.shift)) n at.found;
  small = at.small;
}

-- a path has one number
pub one_number : (words : List ℕ → Option ℕ) (numbers : ℕ → Option ℕ) → Respects words → (n m : ℕ) (p : Path) → IsAt words numbers n p → IsAt words numbers m p → n ≡ m
one_number words numbers respects n m [] a b = a ∙ sym b
one_number words numbers respects n m (name ∷ p) a b =
    let parents : a.0 ≡ b.0 = one_number words numbers respects a.0 b.0 p a.4 b.4 in
    let x = a.2 in
    let y = b.2 in
    let found : Some a.1 ≡ Some b.1 = sym x.found ∙ respects x.spelled y.spelled (x.same ∙ sym y.same) ∙ y.found in
    let word : a.1 ≡ b.1 = cc in
    let at : Some n ≡ Some m = sym a.3 ∙ (λ i. numbers (path_key (parents i) (word i))) ∙ b.3 in
    cc

pub key_parts : (a v b w : ℕ) → v < 18446744073709551616 → w < 18446744073709551616 → path_key a v ≡ path_key b w → (a ≡ b) × (v ≡ w)
key_parts a v b w less less' same = (omega (arith, less, less', same), omega (arith, less, less', same))

-- a number is that of one path
pub one_path : (words : List ℕ → Option ℕ) (numbers : ℕ → Option ℕ) (count : ℕ) → TellsWords words → AreNumbered numbers count → (n : ℕ) (p q : Path) → IsAt words numbers n p → IsAt words numbers n q → p ≡ q
one_path words numbers count tells are n [] [] a b = refl
one_path words numbers count tells are n [] (y ∷ q) a b = let one = are.from_one (path_key b.0 b.1) n b.3 in let none : n ≡ 0 = a in absurd (omega (arith, one, none))
one_path words numbers count tells are n (x ∷ p) [] a b = let one = are.from_one (path_key a.0 a.1) n a.3 in let none : n ≡ 0 = b in absurd (omega (arith, one, none))
one_path words numbers count tells are n (x ∷ p) (y ∷ q) a b =
    let v = a.2 in
    let w = b.2 in
    let parts = key_parts a.0 a.1 b.0 b.1 (omega (arith, v.small)) (omega (arith, w.small)) (are.once (path_key a.0 a.1) (path_key b.0 b.1) n a.3 b.3) in
    let rest : p ≡ q = one_path words numbers count tells are a.0 p q a.4 (subst (λ m. IsAt words numbers m q) (sym parts.0) b.4) in
    let name : x ≡ y = sym v.same ∙ tells v.spelled w.spelled a.1 v.found (w.found ∙ ap Some (sym parts.1)) ∙ w.same in
    (λ i. name i ∷ rest i)

-- a list of names is a table of words
pub names_respect : (names : List (List ℕ)) → Respects (find_name names)
names_respect names a b same = ap (λ word. position (λ x. bytes_eq word (folded x)) names) same

pub names_tell : (names : List (List ℕ)) → TellsWords (find_name names)
names_tell names a b n at at' =
    let first = position-Some (same_word a) names n [] at in
    let second = position-Some (same_word b) names n [] at' in
    let here : folded a ≡ folded (get_or names n []) = (bytes_decides (folded a) (folded (get_or names n []))).0 first.1 in
    let there : folded b ≡ folded (get_or names n []) = (bytes_decides (folded b) (folded (get_or names n []))).0 second.1 in
    here ∙ sym there
