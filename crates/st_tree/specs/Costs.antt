-- What a body costs, and how large it is, by cases on the plain tree: what the limits on a source's size and on a scan's steps count.
use Rattle.std.specs.Prelude.{ℕ, ◌+◌, ◌*◌, max, List, [], ◌∷◌, length, Option}
use Rattle.st_tree.specs.Plain.{PlainExpr, literal, read, output_of, element, unary, binary, PlainArgument, input, output}
use Rattle.st_tree.specs.Plain.{PlainStmt, empty, assign, store, call, if_else, case_of, for_to, PlainBody, done, next, Branches, no_branch, branch, Choices, no_choice, choice}

-- an expression costs the number of its literals, reads and operators; an element costs 2 and its index
abbrev pub expr_cost : {V : Type 0} → PlainExpr V → ℕ
expr_cost (literal n) = 1
expr_cost (read v) = 1
expr_cost (output_of instance name) = 1
expr_cost (element v bounds index) = 2 + expr_cost index
expr_cost (unary op a) = 1 + expr_cost a
expr_cost (binary op a b) = 1 + expr_cost a + expr_cost b

-- the tests of an IF cost what their expressions do
abbrev pub tests_cost : {V : Type 0} → Branches V → ℕ
tests_cost no_branch = 0
tests_cost (branch test body rest) = expr_cost test + tests_cost rest

-- each label of a CASE costs 1, a range too
abbrev pub labels_cost : {V : Type 0} → Choices V → ℕ
labels_cost no_choice = 0
labels_cost (choice labels body rest) = length labels + labels_cost rest

-- an input that is given costs 1 and its expression, an output 1
abbrev pub arguments_cost : {V : Type 0} → List (PlainArgument V) → ℕ
arguments_cost [] = 0
arguments_cost (input name e ∷ rest) = 1 + expr_cost e + arguments_cost rest
arguments_cost (output name v ∷ rest) = 1 + arguments_cost rest

-- one rule for both: how branches are joined, how many turns a FOR counts, and what the body of an instance that is called weighs
module _ {V : Type 0} (join : ℕ → ℕ → ℕ) (turns : PlainExpr V → PlainExpr V → Option (PlainExpr V) → ℕ) (called : V → ℕ) where
  abbrev mutual
    -- the weight of a statement: bounds and steps weigh nothing
    pub weight : PlainStmt V → ℕ
    weight (empty number) = 1
    weight (assign number v e) = 1 + expr_cost e
    weight (store number v bounds index value) = 2 + expr_cost index + expr_cost value
    weight (call number instance arguments) = 1 + arguments_cost arguments + called instance
    weight (if_else number branches last) = 1 + tests_cost branches + join (branches_weight branches) (weight_all last)
    weight (case_of number e choices last) = 1 + expr_cost e + labels_cost choices + join (choices_weight choices) (weight_all last)
    weight (for_to number v from to by body) = 2 + turns from to by * (3 + weight_all body)

    -- a body weighs the sum of its statements
    pub weight_all : PlainBody V → ℕ
    weight_all done = 0
    weight_all (next s rest) = weight s + weight_all rest

    pub branches_weight : Branches V → ℕ
    branches_weight no_branch = 0
    branches_weight (branch test body rest) = join (weight_all body) (branches_weight rest)

    pub choices_weight : Choices V → ℕ
    choices_weight no_choice = 0
    choices_weight (choice labels body rest) = join (weight_all body) (choices_weight rest)

-- what a body costs: of several branches the greatest counts, and a FOR with each of its turns
abbrev pub body_cost : {V : Type 0} → (PlainExpr V → PlainExpr V → Option (PlainExpr V) → ℕ) → (V → ℕ) → PlainBody V → ℕ
body_cost turns called body = weight_all max turns called body

-- how large a body is: all branches count, and a FOR as one of one turn
abbrev pub body_size : {V : Type 0} → (V → ℕ) → PlainBody V → ℕ
body_size called body = weight_all (λ a b. a + b) (λ from to by. 1) called body
