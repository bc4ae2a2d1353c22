-- Rows of the graph, one after another.
use Rattle.std.proofs.Common.{◌≡◌, ◌∙◌, ap, sym, refl, ℕ, zero, suc, ◌+◌, ◌<◌, ◌≤◌, ◌⊎◌, nat_lt, true, false, if◌then◌else◌, List, [], ◌∷◌, ◌++◌, map, length, get_or, length-append, arith, Option, Some, None, slice_get, inl, inr, Vec, Global}
use Rattle.std.proofs.Math.Nat.{eq-or-lt_of_le}
use Rattle.std.proofs.lemmas.Bool.{cases_Bool, ltb-true, ltb-false}
use Rattle.plant_types.specs.Words.{folded}
use Rattle.st_blocks.specs.Graphs.{Graph, items_or, next_of}
use Rattle.st_blocks.specs.Blocks.{PlainBlock}
use Rattle.st_blocks.specs.Names.{number, is_numbered, is_first, numbers_at, row_at, IsGraph}
use Rattle.st_blocks.proofs.Lists.{get_within, le_of_lt_more}

next_left : (graph more : Graph) (i : ℕ) → i < length graph → next_of (graph ++ more) i ≡ next_of graph i
next_left graph more i within = ap items_or (get_within graph more i within)

next_last : (graph : Graph) (row : Vec ℕ Global) → next_of (graph ++ row ∷ []) (length graph) ≡ row.items
next_last [] row = refl
next_last (r ∷ rs) row = next_last rs row

pub next_behind : (graph : Graph) (a : ℕ) → length graph ≤ a → next_of graph a ≡ []
next_behind [] a behind = refl
next_behind (row ∷ rows) zero behind = absurd (omega (arith, behind))
next_behind (row ∷ rows) (suc a) behind = next_behind rows a (omega (arith, behind))

get_behind : {V : Type 0} (xs : List V) (i : ℕ) → length xs ≤ i → slice_get xs i ≡ None
get_behind [] i over = refl
get_behind (x ∷ xs) zero over = absurd (omega (arith, over))
get_behind (x ∷ xs) (suc i) over = get_behind xs i (omega (arith, over))

pub lt_or_le : (a n : ℕ) → (a < n) ⊎ (n ≤ a)
lt_or_le a n =
    elim (cases_Bool (nat_lt a n)) [
      | inl so ↦ inl (ltb-true a n so)
      | inr not_so ↦ inr (ltb-false a n not_so)
    ]

pub map_twice : {X Y Z : Type 0} (f : Y → Z) (g : X → Y) (xs : List X) → map (λ x. f (g x)) xs ≡ map f (map g xs)
map_twice f g [] = refl
map_twice f g (x ∷ xs) = ap (λ l. f (g x) ∷ l) (map_twice f g xs)

-- what an index finds
pub got_at : {V : Type 0} (xs : List V) (i : ℕ) (x : V) → i < length xs → x ≡ get_or xs i x → Some x ≡ slice_get xs i
got_at [] i x within is = absurd (omega (arith, within))
got_at (y ∷ ys) zero x within is = ap (λ z. Some z) is
got_at (y ∷ ys) (suc i) x within is = got_at ys i x (omega (arith, within)) is

pub row_is : (graph : Graph) (a : ℕ) (row : Vec ℕ Global) → a < length graph → row ≡ get_or graph a row → next_of graph a ≡ row.items
row_is [] a row within is = absurd (omega (arith, within))
row_is (r ∷ rs) zero row within is = ap (λ (x : Vec ℕ Global). x.items) (sym is)
row_is (r ∷ rs) (suc a) row within is = row_is rs a row (omega (arith, within)) is

-- the numbers of a block type's words, which the code has as references
pub words_at : {W : Type 0} (blocks : List PlainBlock) (words : List W) (f : W → List ℕ) (o : Option PlainBlock) (block : PlainBlock) (row : List ℕ)
    → row ≡ map (λ w. number blocks (folded (f w))) words → map f words ≡ block.instances → Some block ≡ o → row ≡ numbers_at blocks o
words_at blocks words f o block row is are at = is ∙ map_twice (λ w. number blocks (folded w)) f words ∙ ap (map (λ w. number blocks (folded w))) are ∙ ap (numbers_at blocks) at

-- the row of a block type, by whether it is the first of its name
pub row_then : (blocks : List PlainBlock) (a : ℕ) → is_first blocks a ≡ true → row_at blocks a ≡ numbers_at blocks (slice_get blocks a)
row_then blocks a so = λ i. if so i then numbers_at blocks (slice_get blocks a) else []

pub row_else : (blocks : List PlainBlock) (a : ℕ) → is_first blocks a ≡ false → row_at blocks a ≡ []
row_else blocks a not_so = λ i. if not_so i then numbers_at blocks (slice_get blocks a) else []

pub row_behind : (blocks : List PlainBlock) (a : ℕ) → length blocks ≤ a → row_at blocks a ≡ []
row_behind blocks a over = row_else blocks a (ap (is_numbered blocks a) (get_behind blocks a over))

-- one more row
pub rows_long : (a : ℕ) (graph longer : Graph) (row : Vec ℕ Global) → length graph ≡ a → longer ≡ graph ++ row ∷ [] → length longer ≡ a + 1
rows_long a graph longer row long pushed = let l = ap length pushed ∙ length-append graph (row ∷ []) in omega (arith, l, long)

pub rows_more : (blocks : List PlainBlock) (a : ℕ) (graph longer : Graph) (row : Vec ℕ Global) → length graph ≡ a → ((i : ℕ) → i < a → next_of graph i ≡ row_at blocks i) → longer ≡ graph ++ row ∷ [] → row.items ≡ row_at blocks a
    → (i : ℕ) → i < a + 1 → next_of longer i ≡ row_at blocks i
rows_more blocks a graph longer row long were pushed made i below =
    elim (eq-or-lt_of_le (le_of_lt_more i a below)) [
      | inl is ↦ ap (λ (g : Graph). next_of g i) pushed ∙ ap (next_of (graph ++ row ∷ [])) (is ∙ sym long) ∙ next_last graph row ∙ made ∙ ap (row_at blocks) (sym is)
      | inr less ↦ ap (λ (g : Graph). next_of g i) pushed ∙ next_left graph (row ∷ []) i (omega (arith, long, less)) ∙ were i less
    ]

-- the last row, of the standard blocks
pub rows_end : (blocks : List PlainBlock) (a : ℕ) (graph longer : Graph) (row : Vec ℕ Global) → length graph ≡ a → ((i : ℕ) → i < a → next_of graph i ≡ row_at blocks i) → a ≡ length blocks → longer ≡ graph ++ row ∷ [] → row.items ≡ []
    → IsGraph blocks longer
rows_end blocks a graph longer row long were whole pushed none =
    let l = rows_long a graph longer row long pushed in
    record {
      long = omega (arith, l, whole);
      row = λ i.
          elim (lt_or_le i (a + 1)) [
            | inl below ↦ rows_more blocks a graph longer row long were pushed (none ∙ sym (row_behind blocks a (omega (arith, whole)))) i below
            | inr over ↦ next_behind longer i (omega (arith, l, over)) ∙ sym (row_behind blocks i (omega (arith, whole, over)))
          ];
    }
