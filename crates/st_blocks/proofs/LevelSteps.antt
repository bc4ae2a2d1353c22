-- Chains step by step, and the order that they give.
use Rattle.std.proofs.Common.{◌≡◌, ◌∙◌, ap, sym, refl, ℕ, zero, suc, ◌+◌, ◌<◌, ◌≤◌, ◌⊎◌, Bool, true, false, not, ◌&&◌, ◌||◌, add-one, List, [], ◌∷◌, ◌++◌, length, get_or, map, take, drop, arith, Option, Some, None, slice_get, inl, inr, Vec, Global, replicate, append_assoc, if◌then◌else◌}
use Rattle.std.specs.List.{list_any}
use Rattle.std.proofs.lemmas.Bool.{cases_Bool, both_ways, or_parts}
use Rattle.std.proofs.lemmas.List.{map_push, take_more, length-replicate, get_or-replicate}
use Rattle.std.proofs.Math.Nat.{eq-or-lt_of_le}
use Rattle.std.proofs.lemmas.Option.{same_Some}
use Rattle.st_blocks.specs.Chains.{Among, Leads, HoldsItself, has_chain}
use Rattle.st_blocks.specs.Blocks.{Once}
use Rattle.st_blocks.specs.Graphs.{Graph, next_of, InRange, IsNumberOrder, IsDeep, IsShallow, IsSound, LevelsOrder}
use Rattle.st_blocks.specs.Ranks.{ranked}
use Rattle.st_blocks.proofs.Lists.{among_left, among_at, among_any, any_among, place_of, none_among, le_of_lt_more}
use Rattle.st_blocks.proofs.Searching.{next_within}

pub mapped_more : {X Y : Type 0} (f : X → Y) (xs : List X) (i : ℕ) (x : X) (ys zs : List Y) (y : Y) → i < length xs → x ≡ get_or xs i x → ys ≡ map f (take i xs) → zs ≡ ys ++ y ∷ [] → y ≡ f x → zs ≡ map f (take (i + 1) xs)
mapped_more f xs i x ys zs y within is are pushed made =
    pushed ∙ ap (λ l. l ++ y ∷ []) are ∙ ap (λ e. map f (take i xs) ++ e ∷ []) (made ∙ ap f is) ∙ sym (map_push f (take i xs) (get_or xs i x)) ∙ ap (map f) (sym (take_more xs i x within))

-- what holds itself has chains of every length
pub endless : {V : Type 0} (next : V → List V) (k : ℕ) (a b : V) (path : List V) → Leads next a path b → HoldsItself next b → has_chain next k a ≡ true
endless next zero a b path l holds = refl
endless next (suc k) a b [] l holds = any_among (has_chain next k) (next a) b l (endless next k b b holds.0 holds.1 holds)
endless next (suc k) a b (c ∷ path) l holds = any_among (has_chain next k) (next a) c l.0 (endless next k c b path l.1 holds)

pub shallow_apart : {V : Type 0} (next : V → List V) (k : ℕ) (a : V) → has_chain next k a ≡ false → HoldsItself next a → ⊥
shallow_apart next k a none holds = both_ways (has_chain next k a) none (endless next k a a holds.0 holds.1 holds)

-- the marks are those of the numbers that have a chain of so many steps
pub record IsLevel (graph : Graph) (k : ℕ) (chains : List Bool) : Type 0 where
  pub long : length chains ≡ length graph
  pub each : (a : ℕ) → a < length graph → get_or chains a false ≡ has_chain (next_of graph) k a

any_same : {V : Type 0} (p q : V → Bool) (xs : List V) → ((x : V) → Among xs x → p x ≡ q x) → list_any p xs ≡ list_any q xs
any_same p q [] same = refl
any_same p q (x ∷ xs) same = λ i. same x (inl refl) i || any_same p q xs (λ y here. same y (inr here)) i

mapped_long : (f : List ℕ → Bool) (graph : Graph) → length (map (λ (row : Vec ℕ Global). f row.items) graph) ≡ length graph
mapped_long f [] = refl
mapped_long f (row ∷ rows) = ap suc (mapped_long f rows)

mapped_at : (f : List ℕ → Bool) (graph : Graph) (a : ℕ) → a < length graph → get_or (map (λ (row : Vec ℕ Global). f row.items) graph) a false ≡ f (next_of graph a)
mapped_at f [] a within = absurd (omega (arith, within))
mapped_at f (row ∷ rows) zero within = refl
mapped_at f (row ∷ rows) (suc a) within = mapped_at f rows a (omega (arith, within))

pub level_start : (graph : Graph) → IsLevel graph 0 (replicate (length graph) true)
level_start graph = record { long = length-replicate (length graph) true; each = λ a within. get_or-replicate (length graph) a true false within }

pub level_more : (graph : Graph) (k : ℕ) (chains more : List Bool) → InRange graph (length graph) → IsLevel graph k chains
    → more ≡ map (λ (row : Vec ℕ Global). list_any (λ w. get_or chains w false) row.items) graph → IsLevel graph (k + 1) more
level_more graph k chains more range level are =
    let f : List ℕ → Bool = λ row. list_any (λ w. get_or chains w false) row in
    record {
      long = ap length are ∙ mapped_long f graph;
      each = λ a within. ap (λ ms. get_or ms a false) are ∙ mapped_at f graph a within ∙ any_same (λ w. get_or chains w false) (has_chain (next_of graph) k) (next_of graph a) (λ w here. level.each w (next_within graph (length graph) range a w here)) ∙ ap (λ j. has_chain (next_of graph) j a) (sym (add-one k));
    }

-- those without a chain of so many steps, each after those to which it leads
pub record IsPart (graph : Graph) (k : ℕ) (order : List ℕ) : Type 0 where
  pub whole : (a : ℕ) → a < length graph → has_chain (next_of graph) k a ≡ false → Among order a
  pub only : (a : ℕ) → Among order a → has_chain (next_of graph) k a ≡ false
  pub once : Once order
  pub after : (i a b : ℕ) → slice_get order i ≡ Some a → Among (next_of graph a) b → Among (take i order) b

ranked_is : (chains more : List Bool) (from a : ℕ) → Among (ranked from chains more) a → (j : ℕ) × (a ≡ from + j) × (j < length more) × (get_or more j false ≡ false)
ranked_is [] more from a here = elim here [ ]
ranked_is (c ∷ chains) [] from a here = elim here [ ]
ranked_is (true ∷ chains) (false ∷ more) from a (inl is) = (0, omega (arith, is), omega arith, refl)
ranked_is (true ∷ chains) (false ∷ more) from a (inr later) =
    let r = ranked_is chains more (suc from) a later in
    (suc r.0, omega (arith, r.1), omega (arith, r.2), r.3)
ranked_is (true ∷ chains) (true ∷ more) from a here =
    let r = ranked_is chains more (suc from) a here in
    (suc r.0, omega (arith, r.1), omega (arith, r.2), r.3)
ranked_is (false ∷ chains) (m ∷ more) from a here =
    let r = ranked_is chains more (suc from) a here in
    (suc r.0, omega (arith, r.1), omega (arith, r.2), r.3)

moved_to : (xs : List ℕ) (a b : ℕ) → a ≡ b → Among xs a → Among xs b
moved_to xs a b is here = rw (sym is) here

is_ranked : (chains more : List Bool) (from j : ℕ) → j < length more → get_or chains j false ≡ true → get_or more j false ≡ false → Among (ranked from chains more) (from + j)
is_ranked [] more from j within long short = absurd (cc)
is_ranked (c ∷ chains) [] from j within long short = absurd (omega (arith, within))
is_ranked (true ∷ chains) (false ∷ more) from zero within long short = inl (omega arith)
is_ranked (true ∷ chains) (true ∷ more) from zero within long short = absurd (cc)
is_ranked (false ∷ chains) (m ∷ more) from zero within long short = absurd (cc)
is_ranked (true ∷ chains) (false ∷ more) from (suc j) within long short = inr (moved_to (ranked (suc from) chains more) (suc from + j) (from + suc j) (omega arith) (is_ranked chains more (suc from) j (omega (arith, within)) long short))
is_ranked (true ∷ chains) (true ∷ more) from (suc j) within long short = moved_to (ranked (suc from) chains more) (suc from + j) (from + suc j) (omega arith) (is_ranked chains more (suc from) j (omega (arith, within)) long short)
is_ranked (false ∷ chains) (m ∷ more) from (suc j) within long short = moved_to (ranked (suc from) chains more) (suc from + j) (from + suc j) (omega arith) (is_ranked chains more (suc from) j (omega (arith, within)) long short)

-- where an element of two lists stands
get_cases : {V : Type 0} (xs ys : List V) (i : ℕ) (v : V) → slice_get (xs ++ ys) i ≡ Some v → (i < length xs × (slice_get xs i ≡ Some v)) ⊎ (length xs ≤ i × Among ys v)
get_cases [] ys i v is = inr (omega arith, among_at ys i v is)
get_cases (x ∷ xs) ys zero v is = inl (omega arith, is)
get_cases (x ∷ xs) ys (suc i) v is =
    elim (get_cases xs ys i v is) [
      | inl there ↦ inl (omega (arith, there.0), there.1)
      | inr there ↦ inr (omega (arith, there.0), there.1)
    ]

take_left : {V : Type 0} (xs ys : List V) (i : ℕ) (v : V) → Among (take i xs) v → Among (take i (xs ++ ys)) v
take_left [] ys zero v here = here
take_left [] ys (suc i) v here = elim here [ ]
take_left (x ∷ xs) ys zero v here = here
take_left (x ∷ xs) ys (suc i) v (inl is) = inl is
take_left (x ∷ xs) ys (suc i) v (inr later) = inr (take_left xs ys i v later)

take_whole : {V : Type 0} (xs ys : List V) (i : ℕ) (v : V) → length xs ≤ i → Among xs v → Among (take i (xs ++ ys)) v
take_whole [] ys i v over here = elim here [ ]
take_whole (x ∷ xs) ys zero v over here = absurd (omega (arith, over))
take_whole (x ∷ xs) ys (suc i) v over (inl is) = inl is
take_whole (x ∷ xs) ys (suc i) v over (inr later) = inr (take_whole xs ys i v (omega (arith, over)) later)

among_right : {V : Type 0} (xs ys : List V) (v : V) → Among ys v → Among (xs ++ ys) v
among_right [] ys v here = here
among_right (x ∷ xs) ys v here = inr (among_right xs ys v here)

-- a chain of more steps is one of fewer
all_none : {V : Type 0} (p : V → Bool) (xs : List V) → ((x : V) → Among xs x → p x ≡ false) → list_any p xs ≡ false
all_none p [] none = refl
all_none p (x ∷ xs) none = λ i. none x (inl refl) i || all_none p xs (λ y here. none y (inr here)) i

less_chain : {V : Type 0} (next : V → List V) (k : ℕ) (a : V) → has_chain next k a ≡ false → has_chain next (suc k) a ≡ false
less_chain next zero a none = absurd (cc)
less_chain next (suc k) a none = all_none (has_chain next (suc k)) (next a) (λ b here. less_chain next k b (none_among (has_chain next k) (next a) b none here))

-- those of one level are listed once, and were not listed before
ranked_had : (chains more : List Bool) (from a : ℕ) → Among (ranked from chains more) a → (j : ℕ) × (a ≡ from + j) × (j < length chains) × (get_or chains j false ≡ true)
ranked_had [] more from a here = elim here [ ]
ranked_had (c ∷ chains) [] from a here = elim here [ ]
ranked_had (true ∷ chains) (false ∷ more) from a (inl is) = (0, omega (arith, is), omega arith, refl)
ranked_had (true ∷ chains) (false ∷ more) from a (inr later) =
    let r = ranked_had chains more (suc from) a later in
    (suc r.0, omega (arith, r.1), omega (arith, r.2), r.3)
ranked_had (true ∷ chains) (true ∷ more) from a here =
    let r = ranked_had chains more (suc from) a here in
    (suc r.0, omega (arith, r.1), omega (arith, r.2), r.3)
ranked_had (false ∷ chains) (m ∷ more) from a here =
    let r = ranked_had chains more (suc from) a here in
    (suc r.0, omega (arith, r.1), omega (arith, r.2), r.3)

once_ranked : (chains more : List Bool) (from : ℕ) → Once (ranked from chains more)
once_ranked [] more from = tt
once_ranked (c ∷ chains) [] from = tt
once_ranked (true ∷ chains) (false ∷ more) from = (λ here. let r = ranked_had chains more (suc from) from here in absurd (omega (arith, r.1)), once_ranked chains more (suc from))
once_ranked (true ∷ chains) (true ∷ more) from = once_ranked chains more (suc from)
once_ranked (false ∷ chains) (m ∷ more) from = once_ranked chains more (suc from)

among_cases : {V : Type 0} (xs ys : List V) (v : V) → Among (xs ++ ys) v → Among xs v ⊎ Among ys v
among_cases [] ys v here = inr here
among_cases (x ∷ xs) ys v (inl is) = inl (inl is)
among_cases (x ∷ xs) ys v (inr later) =
    elim (among_cases xs ys v later) [
      | inl left ↦ inl (inr left)
      | inr right ↦ inr right
    ]

once_joined : (xs ys : List ℕ) → Once xs → Once ys → ((a : ℕ) → Among xs a → Among ys a → ⊥) → Once (xs ++ ys)
once_joined [] ys p q apart = q
once_joined (x ∷ xs) ys p q apart = (
  λ here.
      elim (among_cases xs ys x here) [
        | inl left ↦ p.0 left
        | inr right ↦ apart x (inl refl) right
      ],
  once_joined xs ys p.1 q (λ a left right. apart a (inr left) right),
)

pub part_start : (graph : Graph) → IsPart graph 0 []
part_start graph = record { whole = λ a within none. absurd (cc); only = λ a here. elim here [ ]; once = tt; after = λ i a b is here. absurd (cc) }

pub part_more : (graph : Graph) (k : ℕ) (chains more : List Bool) (order longer : List ℕ) → InRange graph (length graph) → IsLevel graph k chains → IsLevel graph (k + 1) more
    → IsPart graph k order → longer ≡ order ++ ranked 0 chains more → IsPart graph (k + 1) longer
part_more graph k chains more order longer range level level' part are = rw are (record {
  whole = λ a within none.
      elim (cases_Bool (has_chain (next_of graph) k a)) [
        | inl one ↦ among_right order (ranked 0 chains more) a (moved_to (ranked 0 chains more) (0 + a) a (omega arith) (is_ranked chains more 0 a (omega (arith, level'.long, within)) (level.each a within ∙ one) (level'.each a within ∙ none)))
        | inr none' ↦ among_left order (ranked 0 chains more) a (part.whole a within none')
      ];
  only = λ a here.
      elim (among_cases order (ranked 0 chains more) a here) [
        | inl left ↦ ap (λ j. has_chain (next_of graph) j a) (add-one k) ∙ less_chain (next_of graph) k a (part.only a left)
        | inr right ↦
            let r = ranked_is chains more 0 a right in
            let a_is : a ≡ r.0 = omega (arith, r.1) in
            sym (level'.each a (omega (arith, a_is, r.2, level'.long))) ∙ ap (λ j. get_or more j false) a_is ∙ r.3
      ];
  once = once_joined order (ranked 0 chains more) part.once (once_ranked chains more 0) (λ a left right.
      let r = ranked_had chains more 0 a right in
      let a_is : a ≡ r.0 = omega (arith, r.1) in
      both_ways (has_chain (next_of graph) k a) (part.only a left) (sym (level.each a (omega (arith, a_is, r.2, level.long))) ∙ ap (λ j. get_or chains j false) a_is ∙ r.3));
  after = λ i a b is here.
      elim (get_cases order (ranked 0 chains more) i a is) [
        | inl there ↦ take_left order (ranked 0 chains more) i b (part.after i a b there.1 here)
        | inr there ↦
            let r = ranked_is chains more 0 a there.1 in
            let a_is : a ≡ r.0 = omega (arith, r.1) in
            let within : a < length graph = omega (arith, a_is, r.2, level'.long) in
            let short : has_chain (next_of graph) (k + 1) a ≡ false = sym (level'.each a within) ∙ ap (λ j. get_or more j false) a_is ∙ r.3 in
            let short' : list_any (has_chain (next_of graph) k) (next_of graph a) ≡ false = ap (λ j. has_chain (next_of graph) j a) (sym (add-one k)) ∙ short in
            take_whole order (ranked 0 chains more) i b there.0 (part.whole b (next_within graph (length graph) range a b here) (none_among (has_chain (next_of graph) k) (next_of graph a) b short' here))
      ];
})

abbrev chosen : Bool → Bool → ℕ → List ℕ
chosen c m a = if c && not m then a ∷ [] else []

drop_at : {X : Type 0} (xs : List X) (i : ℕ) (d : X) → i < length xs → drop i xs ≡ get_or xs i d ∷ drop (suc i) xs
drop_at [] i d within = absurd (omega (arith, within))
drop_at (x ∷ xs) zero d within = refl
drop_at (x ∷ xs) (suc i) d within = drop_at xs i d (omega (arith, within))

ranked_more : (chains more : List Bool) (a : ℕ) → a < length chains → length chains ≡ length more
    → ranked a (drop a chains) (drop a more) ≡ chosen (get_or chains a false) (get_or more a false) a ++ ranked (a + 1) (drop (a + 1) chains) (drop (a + 1) more)
ranked_more chains more a within same =
    (λ i. ranked a (drop_at chains a false within i) (drop_at more a false (omega (arith, within, same)) i))
    ∙ (λ i. chosen (get_or chains a false) (get_or more a false) a ++ ranked (sym (add-one a) i) (drop (sym (add-one a) i) chains) (drop (sym (add-one a) i) more))

pub ranked_on : (after' order longer : List ℕ) (a : ℕ) (chains more : List Bool) → a < length chains → length chains ≡ length more
    → order ++ ranked a (drop a chains) (drop a more) ≡ after' → longer ≡ order ++ (if get_or chains a false && not (get_or more a false) then a ∷ [] else []) → longer ++ ranked (a + 1) (drop (a + 1) chains) (drop (a + 1) more) ≡ after'
ranked_on after' order longer a chains more within same were pushed =
    let rest = ranked (a + 1) (drop (a + 1) chains) (drop (a + 1) more) in
    ap (λ l. l ++ rest) pushed ∙ append_assoc order (chosen (get_or chains a false) (get_or more a false) a) rest ∙ ap (λ l. order ++ l) (sym (ranked_more chains more a within same)) ∙ were

-- the first that holds itself, one further
pub none_more : (graph : Graph) (a : ℕ) → ((b : ℕ) → b < a → HoldsItself (next_of graph) b → ⊥) → (HoldsItself (next_of graph) a → ⊥) → (b : ℕ) → b < a + 1 → HoldsItself (next_of graph) b → ⊥
none_more graph a before here b below holds =
    elim (eq-or-lt_of_le (le_of_lt_more b a below)) [
      | inl is ↦ here (rw (sym is) holds)
      | inr less ↦ before b less holds
    ]

get_or_from_get : {X : Type 0} (xs : List X) (i : ℕ) (x d : X) → slice_get xs i ≡ Some x → get_or xs i d ≡ x
get_or_from_get [] i x d is = absurd (cc)
get_or_from_get (y ∷ ys) zero x d is = same_Some y x is
get_or_from_get (y ∷ ys) (suc i) x d is = get_or_from_get ys i x d is

pub deep_from_mark : (graph : Graph) (k : ℕ) (chains : List Bool) → IsLevel graph k chains → list_any (λ mark. mark) chains ≡ true → IsDeep graph k
deep_from_mark graph k chains level any =
    let m = among_any (λ mark. mark) chains any in
    let p = place_of chains m.0 m.1 in
    let within : p.0 < length graph = omega (arith, p.1, level.long) in
    (p.0, within, sym (level.each p.0 within) ∙ get_or_from_get chains p.0 m.0 false p.2 ∙ m.2)

no_mark : (chains : List Bool) → list_any (λ mark. mark) chains ≡ false → (a : ℕ) → get_or chains a false ≡ false
no_mark [] none a = refl
no_mark (c ∷ chains) none zero = (or_parts c (list_any (λ mark. mark) chains) none).0
no_mark (c ∷ chains) none (suc a) = no_mark chains (or_parts c (list_any (λ mark. mark) chains) none).1 a

pub shallow_from_none : (graph : Graph) (k : ℕ) (chains : List Bool) → IsLevel graph k chains → list_any (λ mark. mark) chains ≡ false → IsShallow graph k
shallow_from_none graph k chains level none a within = sym (level.each a within) ∙ no_mark chains none a

pub order_from_none : (graph : Graph) (k : ℕ) (chains : List Bool) (order : List ℕ) → IsLevel graph k chains → IsPart graph k order → list_any (λ mark. mark) chains ≡ false → IsNumberOrder graph order
order_from_none graph k chains order level part none = record { whole = λ a within. part.whole a within (shallow_from_none graph k chains level none a within); once = part.once; after = part.after }

pub judged : (graph : Graph) (order : List ℕ) → IsNumberOrder graph order → IsShallow graph 16 → IsSound graph order
judged graph order ordered shallow = record { apart = λ b within. shallow_apart (next_of graph) 16 b (shallow b within); shallow = shallow; ordered = ordered }

pub judged_at : (graph : Graph) (o : Option (Vec ℕ Global)) (order : Vec ℕ Global) → LevelsOrder graph 16 o → o ≡ Some order → IsSound graph order.items
judged_at graph None order p is = absurd (cc)
judged_at graph (Some v) order p is = rw (sym (same_Some v order is)) (judged graph v.items p.0 p.1)

pub deep_at : (graph : Graph) (j k : ℕ) (chains : List Bool) → IsLevel graph j chains → j ≡ k → list_any (λ mark. mark) chains ≡ true → IsDeep graph k
deep_at graph j k chains level is any = rw (sym is) (deep_from_mark graph j chains level any)
