-- Rules that give the same up to a last number, where what they ask for is the same up to it.
use Rattle.std.proofs.Common.{◌≡◌, ap, refl, ℕ, ◌+◌, ◌*◌, min, List, [], ◌∷◌, Option, Some, None, inl, inr, arith}
use Rattle.std.specs.List.{sum_by}
use Rattle.std.proofs.lemmas.List.Sums.{sum_by-cons}
use Rattle.st_tree.specs.Plain.{PlainExpr, PlainStmt, empty, assign, store, call, if_else, case_of, for_to, PlainBody, done, next, Branches, no_branch, branch, Choices, no_choice, choice}
use Rattle.st_tree.specs.Costs.{expr_cost, tests_cost, labels_cost, arguments_cost, weight, weight_all, branches_weight, choices_weight}
use Rattle.st_blocks.specs.Chains.{Among}
use Rattle.logic_source.specs.declared.logic.BlockRef.{BlockRef}
use Rattle.logic_source.specs.declared.logic.BlockRef.TheVariants as block
use Rattle.logic_source.specs.declared.logic.Instance.{Instance}
use Rattle.logic_source.specs.Source.{PlainRoutine, own_cells}
use Rattle.logic_source.specs.Names.{instance_named}
use Rattle.logic_source.specs.Blocks.{Declares, AsksDeclared}
use Rattle.logic_limits.specs.declared.measures.Measure.{Measure}
use Rattle.logic_limits.specs.declared.measures.Measure.TheVariants as measure
use Rattle.logic_limits.specs.Counts.{instance_slots, routine_slots, instance_weight, called_weight}
use Rattle.logic_limits.specs.Measures.{joined, turns_by, routine_weight}
use Rattle.logic_limits.proofs.Capping.{sums, products, joins}
use Rattle.logic_limits.proofs.Naming.{named_among}

-- two numbers are the same up to a last one
abbrev pub Same : ℕ → ℕ → ℕ → Type 0
Same last a b = min a last ≡ min b last

-- a rule gives the same up to a last number, where it does for the block types that a routine declares
abbrev pub Keeps : ℕ → ((ℕ → ℕ) → PlainRoutine → ℕ) → Type 0
Keeps last rule = (f g : ℕ → ℕ) (r : PlainRoutine) → ((n : ℕ) → Declares r n → Same last (f n) (g n)) → Same last (rule f r) (rule g r)

-- a rule that keeps all last numbers asks only for block types that the routine declares
pub asks_declared : (rule : (ℕ → ℕ) → PlainRoutine → ℕ) → ((last : ℕ) → Keeps last rule) → AsksDeclared rule
asks_declared rule keeps f g r same =
    let e : Same (rule f r + rule g r) (rule f r) (rule g r) = keeps (rule f r + rule g r) f g r (λ n declares. ap (λ k. min k (rule f r + rule g r)) (same n declares)) in
    omega arith

module _ (join : ℕ → ℕ → ℕ) (last : ℕ) (joins : (a b c d : ℕ) → Same last a b → Same last c d → Same last (join a c) (join b d)) {V : Type 0} (turns : PlainExpr V → PlainExpr V → Option (PlainExpr V) → ℕ) (f g : V → ℕ)
    (same : (v : V) → Same last (f v) (g v)) where
  mutual
    stmt_alike : (s : PlainStmt V) → Same last (weight join turns f s) (weight join turns g s)
    stmt_alike (empty number) = refl
    stmt_alike (assign number v e) = refl
    stmt_alike (store number v bounds index value) = refl
    stmt_alike (call number instance arguments) = sums last (1 + arguments_cost arguments) (1 + arguments_cost arguments) (f instance) (g instance) refl (same instance)
    stmt_alike (if_else number branches last_body) =
        sums last (1 + tests_cost branches) (1 + tests_cost branches) (join (branches_weight join turns f branches) (weight_all join turns f last_body)) (join (branches_weight join turns g branches) (weight_all join turns g last_body)) refl
        (joins (branches_weight join turns f branches) (branches_weight join turns g branches) (weight_all join turns f last_body) (weight_all join turns g last_body) (branches_alike branches) (body_alike last_body))
    stmt_alike (case_of number e choices last_body) =
        sums last (1 + expr_cost e + labels_cost choices) (1 + expr_cost e + labels_cost choices) (join (choices_weight join turns f choices) (weight_all join turns f last_body)) (join (choices_weight join turns g choices) (weight_all join turns g last_body))
        refl (joins (choices_weight join turns f choices) (choices_weight join turns g choices) (weight_all join turns f last_body) (weight_all join turns g last_body) (choices_alike choices) (body_alike last_body))
    stmt_alike (for_to number v from to by body) =
        sums last 2 2 (turns from to by * (3 + weight_all join turns f body)) (turns from to by * (3 + weight_all join turns g body)) refl
        (products last (turns from to by) (turns from to by) (3 + weight_all join turns f body) (3 + weight_all join turns g body) refl (sums last 3 3 (weight_all join turns f body) (weight_all join turns g body) refl (body_alike body)))

    pub body_alike : (body : PlainBody V) → Same last (weight_all join turns f body) (weight_all join turns g body)
    body_alike done = refl
    body_alike (next s rest) = sums last (weight join turns f s) (weight join turns g s) (weight_all join turns f rest) (weight_all join turns g rest) (stmt_alike s) (body_alike rest)

    branches_alike : (branches : Branches V) → Same last (branches_weight join turns f branches) (branches_weight join turns g branches)
    branches_alike no_branch = refl
    branches_alike (branch test body rest) = joins (weight_all join turns f body) (weight_all join turns g body) (branches_weight join turns f rest) (branches_weight join turns g rest) (body_alike body) (branches_alike rest)

    choices_alike : (choices : Choices V) → Same last (choices_weight join turns f choices) (choices_weight join turns g choices)
    choices_alike no_choice = refl
    choices_alike (choice labels body rest) = joins (weight_all join turns f body) (weight_all join turns g body) (choices_weight join turns f rest) (choices_weight join turns g rest) (body_alike body) (choices_alike rest)

-- an instance
slots_alike : (last : ℕ) (f g : ℕ → ℕ) (of : BlockRef) → ((n : ℕ) → of ≡ block.Declared n → Same last (f n) (g n)) → Same last (instance_slots f of) (instance_slots g of)
slots_alike last f g block.Ton same = refl
slots_alike last f g block.Tof same = refl
slots_alike last f g block.RTrig same = refl
slots_alike last f g (block.Declared n) same = same n refl

weight_alike : (last : ℕ) (f g : ℕ → ℕ) (of : BlockRef) → ((n : ℕ) → of ≡ block.Declared n → Same last (f n) (g n)) → Same last (instance_weight f of) (instance_weight g of)
weight_alike last f g block.Ton same = refl
weight_alike last f g block.Tof same = refl
weight_alike last f g block.RTrig same = refl
weight_alike last f g (block.Declared n) same = same n refl

all_alike : (last : ℕ) (f g : Instance → ℕ) (is : List Instance) → ((i : Instance) → Among is i → Same last (f i) (g i)) → Same last (sum_by f is) (sum_by g is)
all_alike last f g [] same = refl
all_alike last f g (i ∷ is) same =
    rw (sum_by-cons f i is, sum_by-cons g i is) (sums last (f i) (g i) (sum_by f is) (sum_by g is) (same i (inl refl)) (all_alike last f g is (λ j there. same j (inr there))))

-- slots
pub slots_keep : (last : ℕ) → Keeps last routine_slots
slots_keep last f g r same =
    sums last (own_cells r) (own_cells r) (sum_by (λ (i : Instance). instance_slots f i.of) r.instances) (sum_by (λ (i : Instance). instance_slots g i.of) r.instances) refl
    (all_alike last (λ i. instance_slots f i.of) (λ i. instance_slots g i.of) r.instances (λ i there. slots_alike last f g i.of (λ n is. same n (i, there, is))))

-- what a call of a name weighs
named_alike : (last : ℕ) (f g : ℕ → ℕ) (r : PlainRoutine) → ((n : ℕ) → Declares r n → Same last (f n) (g n)) → (name : List ℕ) (o : Option Instance) → instance_named r name ≡ o → Same last (called_weight f r name) (called_weight g r name)
named_alike last f g r same name None is = rw is refl
named_alike last f g r same name (Some i) is = rw is (weight_alike last f g i.of (λ n of. same n (i, named_among r name i is, of)))

-- size and cost
pub weights_keep : (m : Measure) (last : ℕ) → Keeps last (routine_weight m)
weights_keep measure.Size last f g r same =
    body_alike (λ a b. a + b) last (joins measure.Size last) (λ from to by. 1) (called_weight f r) (called_weight g r) (λ name. named_alike last f g r same name (instance_named r name) refl) r.body
weights_keep measure.Cost last f g r same =
    body_alike (joined measure.Cost) last (joins measure.Cost last) (turns_by measure.Cost) (called_weight f r) (called_weight g r) (λ name. named_alike last f g r same name (instance_named r name) refl) r.body
