-- Block types by name and by number.
use Rattle.std.proofs.Common.{◌≡◌, ◌∙◌, ap, sym, refl, ℕ, zero, suc, ◌+◌, ◌<◌, ◌≤◌, ◌⊎◌, Bool, true, false, if◌then◌else◌, List, [], ◌∷◌, ◌++◌, map, take, length, get_or, arith, Option, Some, None, option_map, slice_get, inl, inr, nat_eq, eq-eqb}
use Rattle.std.specs.Prelude.{unwrap_or}
use Rattle.std.specs.List.{All}
use Rattle.std.specs.Str.{bytes_eq}
use Rattle.std.specs.Cmp.Lexicographic.{bytes_decides}
use Rattle.std.proofs.lemmas.Bool.{cases_Bool}
use Rattle.std.proofs.lemmas.Bool.Decides.{nat_tests}
use Rattle.std.proofs.lemmas.List.{take_more, length-take-le}
use Rattle.std.proofs.lemmas.List.Elements.{All-nil, All-cons}
use Rattle.std.proofs.lemmas.Option.{same_Some, slice_get_within}
use Rattle.plant_types.specs.Words.{folded, same_word}
use Rattle.st_blocks.specs.Chains.{Among}
use Rattle.st_blocks.specs.Graphs.{Graph, next_of, InRange}
use Rattle.st_blocks.specs.Blocks.{PlainBlock, first_of, declared_in}
use Rattle.st_blocks.specs.Names.{found_or, number, is_numbered, is_first, numbers_at, row_at, IsGraph}
use Rattle.st_blocks.proofs.Lists.{moved_among}
use Rattle.st_blocks.proofs.Moved.{from_mapped}
use Rattle.st_blocks.proofs.Rows.{map_twice, row_then, row_else, row_behind}

-- the first block type of a name, by whether the next one has it
first_here : (b : PlainBlock) (bs : List PlainBlock) (w : List ℕ) → bytes_eq w (folded b.name) ≡ true → first_of (b ∷ bs) w ≡ Some 0
first_here b bs w here = rw here refl

first_on : (b : PlainBlock) (bs : List PlainBlock) (w : List ℕ) → bytes_eq w (folded b.name) ≡ false → first_of (b ∷ bs) w ≡ option_map suc (first_of bs w)
first_on b bs w on = rw on refl

declared_here : (b : PlainBlock) (bs : List PlainBlock) (w : List ℕ) → bytes_eq w (folded b.name) ≡ true → declared_in (b ∷ bs) w ≡ map folded b.instances
declared_here b bs w here = rw here refl

declared_on : (b : PlainBlock) (bs : List PlainBlock) (w : List ℕ) → bytes_eq w (folded b.name) ≡ false → declared_in (b ∷ bs) w ≡ declared_in bs w
declared_on b bs w on = rw on refl

-- one more block type
found_suc : (o : Option ℕ) (e : Bool) (n : ℕ) → option_map suc (found_or o (if e then Some n else None)) ≡ found_or (option_map suc o) (if e then Some (suc n) else None)
found_suc None true n = refl
found_suc None false n = refl
found_suc (Some a) e n = refl

first_last : (block : PlainBlock) (w : List ℕ) → first_of (block ∷ []) w ≡ (if bytes_eq w (folded block.name) then Some 0 else None)
first_last block w =
    elim (cases_Bool (bytes_eq w (folded block.name))) [
      | inl here ↦ rw here refl
      | inr on ↦ rw on refl
    ]

first_more : (blocks : List PlainBlock) (block : PlainBlock) (w : List ℕ) → first_of (blocks ++ block ∷ []) w ≡ found_or (first_of blocks w) (if bytes_eq w (folded block.name) then Some (length blocks) else None)
first_more [] block w = first_last block w
first_more (b ∷ bs) block w =
    elim (cases_Bool (bytes_eq w (folded b.name))) [
      | inl here ↦ first_here b (bs ++ block ∷ []) w here ∙ ap (λ o. found_or o (if bytes_eq w (folded block.name) then Some (suc (length bs)) else None)) (sym (first_here b bs w here))
      | inr on ↦
          first_on b (bs ++ block ∷ []) w on ∙ ap (option_map suc) (first_more bs block w) ∙ found_suc (first_of bs w) (bytes_eq w (folded block.name)) (length bs)
          ∙ ap (λ o. found_or o (if bytes_eq w (folded block.name) then Some (suc (length bs)) else None)) (sym (first_on b bs w on))
    ]

pub names_more : (blocks : List PlainBlock) (i : ℕ) (block : PlainBlock) (find find' : List ℕ → Option ℕ) → i < length blocks → block ≡ get_or blocks i block → ((w : List ℕ) → find w ≡ first_of (take i blocks) (folded w))
    → ((w : List ℕ) → find' w ≡ found_or (find w) (if same_word w block.name then Some i else None)) → (w : List ℕ) → find' w ≡ first_of (take (i + 1) blocks) (folded w)
names_more blocks i block find find' within is were made w =
    let long : length (take i blocks) ≡ i = length-take-le i blocks (omega (arith, within)) in
    made w ∙ (λ j. found_or (were w j) (if same_word w block.name then Some (sym long j) else None)) ∙ sym (first_more (take i blocks) block (folded w))
    ∙ ap (λ bs. first_of bs (folded w)) (ap (λ b. take i blocks ++ b ∷ []) is ∙ sym (take_more blocks i block within))

-- what a look-up finds
option_cases : (o : Option ℕ) → (o ≡ None) ⊎ ((i : ℕ) × (o ≡ Some i))
option_cases None = inl refl
option_cases (Some i) = inr (i, refl)

mapped_suc : (o : Option ℕ) (i : ℕ) → option_map suc o ≡ Some i → (j : ℕ) × (i ≡ suc j) × (o ≡ Some j)
mapped_suc None i is = absurd (cc)
mapped_suc (Some j) i is = (j, sym (same_Some (suc j) i is), refl)

mapped_none : (o : Option ℕ) → option_map suc o ≡ None → o ≡ None
mapped_none None is = refl
mapped_none (Some j) is = absurd (cc)

pub found : (blocks : List PlainBlock) (w : List ℕ) (i : ℕ) → first_of blocks w ≡ Some i → (block : PlainBlock) × (slice_get blocks i ≡ Some block) × (w ≡ folded block.name) × (declared_in blocks w ≡ map folded block.instances)
found [] w i is = absurd (cc)
found (b ∷ bs) w i is =
    elim (cases_Bool (bytes_eq w (folded b.name))) [
      | inl here ↦
          let at : i ≡ 0 = sym (same_Some 0 i (sym (first_here b bs w here) ∙ is)) in
          (b, ap (slice_get (b ∷ bs)) at, (bytes_decides w (folded b.name)).0 here, declared_here b bs w here)
      | inr on ↦
          let m = mapped_suc (first_of bs w) i (sym (first_on b bs w on) ∙ is) in
          let f = found bs w m.0 m.2 in
          (f.0, ap (slice_get (b ∷ bs)) m.1 ∙ f.1, f.2, declared_on b bs w on ∙ f.3)
    ]

pub missing : (blocks : List PlainBlock) (w : List ℕ) → first_of blocks w ≡ None → declared_in blocks w ≡ []
missing [] w none = refl
missing (b ∷ bs) w none =
    elim (cases_Bool (bytes_eq w (folded b.name))) [
      | inl here ↦ let at = sym (first_here b bs w here) ∙ none in absurd (cc)
      | inr on ↦ declared_on b bs w on ∙ missing bs w (mapped_none (first_of bs w) (sym (first_on b bs w on) ∙ none))
    ]

-- a block type's name is found, at its number or before
pub named : (blocks : List PlainBlock) (i : ℕ) (block : PlainBlock) → slice_get blocks i ≡ Some block → (j : ℕ) × (j ≤ i) × (first_of blocks (folded block.name) ≡ Some j)
named [] i block is = absurd (cc)
named (b ∷ bs) zero block is =
    (0, omega arith, first_here b bs (folded block.name) ((bytes_decides (folded block.name) (folded b.name)).1 (ap (λ (x : PlainBlock). folded x.name) (sym (same_Some b block is)))))
named (b ∷ bs) (suc i) block is =
    elim (cases_Bool (bytes_eq (folded block.name) (folded b.name))) [
      | inl here ↦ (0, omega arith, first_here b bs (folded block.name) here)
      | inr on ↦
          let n = named bs i block is in
          (suc n.0, omega (arith, n.1), first_on b bs (folded block.name) on ∙ ap (option_map suc) n.2)
    ]

pub first_within : (blocks : List PlainBlock) (w : List ℕ) (i : ℕ) → first_of blocks w ≡ Some i → i < length blocks
first_within blocks w i is = let f = found blocks w i is in slice_get_within blocks i f.0 f.1

-- numbers of names
pub number_some : (blocks : List PlainBlock) (w : List ℕ) (i : ℕ) → first_of blocks w ≡ Some i → number blocks w ≡ i
number_some blocks w i is = ap (λ o. unwrap_or o (length blocks)) is

number_none : (blocks : List PlainBlock) (w : List ℕ) → first_of blocks w ≡ None → number blocks w ≡ length blocks
number_none blocks w none = ap (λ o. unwrap_or o (length blocks)) none

number_within : (blocks : List PlainBlock) (w : List ℕ) → number blocks w ≤ length blocks
number_within blocks w =
    elim (option_cases (first_of blocks w)) [
      | inl none ↦ let n = number_none blocks w none in omega (arith, n)
      | inr some ↦
          let n = number_some blocks w some.0 some.1 in
          let below = first_within blocks w some.0 some.1 in
          omega (arith, n, below)
    ]

pub number_first : (blocks : List PlainBlock) (w : List ℕ) → number blocks w < length blocks → first_of blocks w ≡ Some (number blocks w)
number_first blocks w below =
    elim (option_cases (first_of blocks w)) [
      | inl none ↦ let n = number_none blocks w none in absurd (omega (arith, n, below))
      | inr some ↦ some.1 ∙ ap (λ (i : ℕ). Some i) (sym (number_some blocks w some.0 some.1))
    ]

same_block : (blocks : List PlainBlock) (i j : ℕ) (a b : PlainBlock) → slice_get blocks i ≡ Some a → slice_get blocks j ≡ Some b → i ≡ j → a ≡ b
same_block blocks i j a b at at' is = same_Some a b (sym at ∙ ap (slice_get blocks) is ∙ at')

-- words of one number that is a block type's are one
pub one_word : (blocks : List PlainBlock) (u w : List ℕ) → number blocks u ≡ number blocks w → number blocks w < length blocks → u ≡ w
one_word blocks u w same below =
    let f = found blocks u (number blocks u) (number_first blocks u (omega (arith, same, below))) in
    let g = found blocks w (number blocks w) (number_first blocks w below) in
    f.2 ∙ ap (λ (x : PlainBlock). folded x.name) (same_block blocks (number blocks u) (number blocks w) f.0 g.0 f.1 g.1 same) ∙ sym g.2

-- the first of its name
eqb_is : (a b : ℕ) → nat_eq a b ≡ true → a ≡ b
eqb_is a b is = grind (arith, nat_tests, is)

pub first_at : (blocks : List PlainBlock) (w : List ℕ) (i : ℕ) → first_of blocks w ≡ Some i → is_first blocks i ≡ true
first_at blocks w i is =
    let f = found blocks w i is in
    ap (is_numbered blocks i) f.1 ∙ eq-eqb (number blocks (folded f.0.name)) i (ap (number blocks) (sym f.2) ∙ number_some blocks w i is)

first_by : (blocks : List PlainBlock) (i : ℕ) (o : Option PlainBlock) → slice_get blocks i ≡ o → is_numbered blocks i o ≡ true → (block : PlainBlock) × (slice_get blocks i ≡ Some block) × (first_of blocks (folded block.name) ≡ Some i)
first_by blocks i None at is = absurd (cc)
first_by blocks i (Some block) at is =
    let n = named blocks i block at in
    (block, at, n.2 ∙ ap (λ (a : ℕ). Some a) (sym (number_some blocks (folded block.name) n.0 n.2) ∙ eqb_is (number blocks (folded block.name)) i is))

pub first_is : (blocks : List PlainBlock) (i : ℕ) → is_first blocks i ≡ true → (block : PlainBlock) × (slice_get blocks i ≡ Some block) × (first_of blocks (folded block.name) ≡ Some i)
first_is blocks i is = first_by blocks i (slice_get blocks i) refl is

-- rows
from_none : (xs : List ℕ) (b : ℕ) → xs ≡ [] → Among xs b → ⊥
from_none [] b none here = here
from_none (x ∷ xs) b none here = absurd (cc)

pub all_from : (xs : List ℕ) (n : ℕ) → ((w : ℕ) → Among xs w → w < n) → All (λ w. w < n) xs
all_from [] n each = All-nil (λ w. w < n)
all_from (x ∷ xs) n each = All-cons (λ w. w < n) x xs (each x (inl refl)) (all_from xs n (λ w here. each w (inr here)))

all_rows : (graph : Graph) (n : ℕ) → ((a w : ℕ) → Among (next_of graph a) w → w < n) → InRange graph n
all_rows [] n each = All-nil (λ row. All (λ w. w < n) row.items)
all_rows (row ∷ rows) n each = All-cons (λ x. All (λ w. w < n) x.items) row rows (all_from row.items n (each 0)) (all_rows rows n (λ a. each (suc a)))

pub graph_as : (blocks : List PlainBlock) (g h : Graph) → g ≡ h → IsGraph blocks h → IsGraph blocks g
graph_as blocks g h is p = rw is p

-- the rows of block types
module _ (blocks : List PlainBlock) where
  first_row : (a : ℕ) (block : PlainBlock) → is_first blocks a ≡ true → slice_get blocks a ≡ Some block → row_at blocks a ≡ map (λ word. number blocks (folded word)) block.instances
  first_row a block first at = row_then blocks a first ∙ ap (numbers_at blocks) at

  -- a number leads to the numbers of what its name declares
  pub row_kept : (w : List ℕ) → row_at blocks (number blocks w) ≡ map (number blocks) (declared_in blocks w)
  row_kept w =
      elim (option_cases (first_of blocks w)) [
        | inl none ↦ ap (row_at blocks) (number_none blocks w none) ∙ row_behind blocks (length blocks) (omega arith) ∙ ap (map (number blocks)) (sym (missing blocks w none))
        | inr some ↦
            let f = found blocks w some.0 some.1 in
            ap (row_at blocks) (number_some blocks w some.0 some.1) ∙ first_row some.0 f.0 (first_at blocks w some.0 some.1) f.1 ∙ map_twice (number blocks) folded f.0.instances ∙ ap (map (number blocks)) (sym f.3)
      ]

  -- what leads anywhere is the first block type of its name
  row_of_first : (a w : ℕ) → Among (row_at blocks a) w → (block : PlainBlock) × (slice_get blocks a ≡ Some block) × (first_of blocks (folded block.name) ≡ Some a)
  row_of_first a w here =
      elim (cases_Bool (is_first blocks a)) [
        | inl so ↦ first_is blocks a so
        | inr not_so ↦ absurd (from_none (row_at blocks a) w (row_else blocks a not_so) here)
      ]

  pub row_least : (a w : ℕ) → Among (row_at blocks a) w → w ≤ length blocks
  row_least a w here =
      let b = row_of_first a w here in
      let row = first_row a b.0 (first_at blocks (folded b.0.name) a b.2) b.1 in
      let m = from_mapped (λ word. number blocks (folded word)) b.0.instances w (moved_among (row_at blocks a) _ w row here) in
      let n = number_within blocks (folded m.0) in
      omega (arith, n, m.2)

module _ (blocks : List PlainBlock) (graph : Graph) (is : IsGraph blocks graph) where
  pub next_first : (a : ℕ) (block : PlainBlock) → is_first blocks a ≡ true → slice_get blocks a ≡ Some block → next_of graph a ≡ map (λ word. number blocks (folded word)) block.instances
  next_first a block first at = is.row a ∙ first_row blocks a block first at

  pub kept : (w : List ℕ) → next_of graph (number blocks w) ≡ map (number blocks) (declared_in blocks w)
  kept w = is.row (number blocks w) ∙ row_kept blocks w

  pub row_first : (a w : ℕ) → Among (next_of graph a) w → (block : PlainBlock) × (slice_get blocks a ≡ Some block) × (first_of blocks (folded block.name) ≡ Some a)
  row_first a w here = row_of_first blocks a w (moved_among (next_of graph a) (row_at blocks a) w (is.row a) here)

  pub row_within : (a w : ℕ) → Among (next_of graph a) w → w < length graph
  row_within a w here =
      let n = row_least blocks a w (moved_among (next_of graph a) (row_at blocks a) w (is.row a) here) in
      let long = is.long in
      omega (arith, n, long)

  pub in_range : InRange graph (length graph)
  in_range = all_rows graph (length graph) row_within

  pub number_below : (w : List ℕ) → number blocks w < length graph
  number_below w = let n = number_within blocks w in let long = is.long in omega (arith, n, long)
