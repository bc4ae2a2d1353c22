-- A code of plain trees over names, by which they may stand in the values of types with a model: a tree of numbers, with the number of its form first.
use Rattle.std.specs.Prelude.{◌≡◌, ℕ, zero, suc, ℤ, pos, negsuc, true, false, Option, Some, None, List, [], ◌∷◌, get_or, refl}
use Rattle.std.specs.Coded.{Coded, code_by}
use Rattle.std.proofs.Common.{ap}
use base.Stored.{Gv, gnil, gnum, gcons, num}
use Rattle.plant_types.specs.declared.values.Bounds.{Bounds}
use Rattle.plant_types.specs.declared.values.Value.{Value}
use Rattle.plant_types.specs.declared.values.Value.TheVariants as value
use Rattle.st_tree.specs.declared.tree.Literal.{Literal}
use Rattle.st_tree.specs.declared.tree.Literal.TheVariants as literals
use Rattle.st_tree.specs.declared.tree.Label.{Label}
use Rattle.st_tree.specs.declared.tree.Unary.{Unary}
use Rattle.st_tree.specs.declared.tree.Unary.TheVariants.{Not, Negate, NegateTime}
use Rattle.st_tree.specs.declared.tree.Binary.{Binary}
use Rattle.st_tree.specs.declared.tree.Binary.TheVariants.{And, Xor, Or, Equal, Unequal, Less, Greater, AtMost, AtLeast, Add, AddTime, Subtract, SubtractTime, Multiply, Divide, Mod}
use Rattle.st_tree.specs.Plain.{PlainExpr, literal, read, output_of, element, unary, binary, PlainArgument, input, output}
use Rattle.st_tree.specs.Plain.{PlainStmt, empty, assign, store, call, if_else, case_of, for_to, PlainBody, done, next, Branches, no_branch, branch, Choices, no_choice, choice}

abbrev gv_code : Coded Gv
gv_code = record { code = λ g. g; inj = λ x y p. p }

-- what is no code stands for some tree, no matter which

abbrev unaries : List Unary
unaries = Not ∷ Negate ∷ NegateTime ∷ []

abbrev unary_in : Unary → Gv
unary_in Not = gnum 0
unary_in Negate = gnum 1
unary_in NegateTime = gnum 2

abbrev unary_out : Gv → Unary
unary_out g = get_or unaries (num g) Not

pub unary_back : (op : Unary) → unary_out (unary_in op) ≡ op
unary_back Not = refl
unary_back Negate = refl
unary_back NegateTime = refl

abbrev binaries : List Binary
binaries = And ∷ Xor ∷ Or ∷ Equal ∷ Unequal ∷ Less ∷ Greater ∷ AtMost ∷ AtLeast ∷ Add ∷ AddTime ∷ Subtract ∷ SubtractTime ∷ Multiply ∷ Divide ∷ Mod ∷ []

abbrev binary_in : Binary → Gv
binary_in And = gnum 0
binary_in Xor = gnum 1
binary_in Or = gnum 2
binary_in Equal = gnum 3
binary_in Unequal = gnum 4
binary_in Less = gnum 5
binary_in Greater = gnum 6
binary_in AtMost = gnum 7
binary_in AtLeast = gnum 8
binary_in Add = gnum 9
binary_in AddTime = gnum 10
binary_in Subtract = gnum 11
binary_in SubtractTime = gnum 12
binary_in Multiply = gnum 13
binary_in Divide = gnum 14
binary_in Mod = gnum 15

abbrev binary_out : Gv → Binary
binary_out g = get_or binaries (num g) And

pub binary_back : (op : Binary) → binary_out (binary_in op) ≡ op
binary_back And = refl
binary_back Xor = refl
binary_back Or = refl
binary_back Equal = refl
binary_back Unequal = refl
binary_back Less = refl
binary_back Greater = refl
binary_back AtMost = refl
binary_back AtLeast = refl
binary_back Add = refl
binary_back AddTime = refl
binary_back Subtract = refl
binary_back SubtractTime = refl
binary_back Multiply = refl
binary_back Divide = refl
binary_back Mod = refl

abbrev whole_in : ℤ → Gv
whole_in (pos n) = gcons gnil (gnum n)
whole_in (negsuc n) = gcons (gnum 0) (gnum n)

abbrev whole_out : Gv → ℤ
whole_out gnil = pos 0
whole_out (gnum n) = pos 0
whole_out (gcons gnil b) = pos (num b)
whole_out (gcons a b) = negsuc (num b)

pub whole_back : (n : ℤ) → whole_out (whole_in n) ≡ n
whole_back (pos n) = refl
whole_back (negsuc n) = refl

module _ {A : Type 0} (a_in : A → Gv) (a_out : Gv → A) where
  abbrev list_in : List A → Gv
  list_in [] = gnil
  list_in (a ∷ rest) = gcons (a_in a) (list_in rest)

  abbrev list_out : Gv → List A
  list_out (gcons a rest) = a_out a ∷ list_out rest
  list_out _ = []

  pub list_back : ((a : A) → a_out (a_in a) ≡ a) → (xs : List A) → list_out (list_in xs) ≡ xs
  list_back back [] = refl
  list_back back (a ∷ rest) = λ i. back a i ∷ list_back back rest i

abbrev name_in : List ℕ → Gv
name_in name = list_in gnum num name

abbrev name_out : Gv → List ℕ
name_out g = list_out gnum num g

pub name_back : (name : List ℕ) → name_out (name_in name) ≡ name
name_back name = list_back gnum num (λ n. refl) name

abbrev label_in : Label → Gv
label_in label = gcons (whole_in label.low) (whole_in label.high)

abbrev label_out : Gv → Label
label_out (gcons a b) = record { low = whole_out a; high = whole_out b }
label_out _ = record { low = pos 0; high = pos 0 }

pub label_back : (label : Label) → label_out (label_in label) ≡ label
label_back label = λ i. record { low = whole_back label.low i; high = whole_back label.high i }

abbrev bounds_in : Bounds → Gv
bounds_in bounds = gcons (whole_in bounds.low) (whole_in bounds.high)

abbrev bounds_out : Gv → Bounds
bounds_out (gcons a b) = record { low = whole_out a; high = whole_out b }
bounds_out _ = record { low = pos 0; high = pos 0 }

pub bounds_back : (bounds : Bounds) → bounds_out (bounds_in bounds) ≡ bounds
bounds_back bounds = λ i. record { low = whole_back bounds.low i; high = whole_back bounds.high i }

abbrev value_in : Value → Gv
value_in (value.Bool false) = gnil
value_in (value.Bool true) = gnum 0
value_in (value.Dint n) = gcons gnil (whole_in n)
value_in (value.Time n) = gcons (gnum 0) (whole_in n)

abbrev value_out : Gv → Value
value_out gnil = value.Bool false
value_out (gnum n) = value.Bool true
value_out (gcons gnil n) = value.Dint (whole_out n)
value_out (gcons a n) = value.Time (whole_out n)

pub value_back : (v : Value) → value_out (value_in v) ≡ v
value_back (value.Bool false) = refl
value_back (value.Bool true) = refl
value_back (value.Dint n) = ap value.Dint (whole_back n)
value_back (value.Time n) = ap value.Time (whole_back n)

abbrev literal_in : Literal → Gv
literal_in (literals.Integer n) = gcons gnil (whole_in n)
literal_in (literals.Value v) = gcons (gnum 0) (value_in v)

abbrev literal_out : Gv → Literal
literal_out (gcons gnil n) = literals.Integer (whole_out n)
literal_out (gcons a v) = literals.Value (value_out v)
literal_out _ = literals.Integer (pos 0)

pub literal_back : (n : Literal) → literal_out (literal_in n) ≡ n
literal_back (literals.Integer n) = ap literals.Integer (whole_back n)
literal_back (literals.Value v) = ap literals.Value (value_back v)

abbrev expr_in : PlainExpr (List ℕ) → Gv
expr_in (literal n) = gcons (gnum 0) (literal_in n)
expr_in (read v) = gcons (gnum 1) (name_in v)
expr_in (output_of instance name) = gcons (gnum 2) (gcons (name_in instance) (name_in name))
expr_in (unary op a) = gcons (gnum 3) (gcons (unary_in op) (expr_in a))
expr_in (binary op a b) = gcons (gnum 4) (gcons (binary_in op) (gcons (expr_in a) (expr_in b)))
expr_in (element v bounds index) = gcons (gnum 5) (gcons (name_in v) (gcons (bounds_in bounds) (expr_in index)))

abbrev expr_out : Gv → PlainExpr (List ℕ)
expr_out (gcons (gnum zero) n) = literal (literal_out n)
expr_out (gcons (gnum (suc zero)) v) = read (name_out v)
expr_out (gcons (gnum (suc (suc zero))) (gcons instance name)) = output_of (name_out instance) (name_out name)
expr_out (gcons (gnum (suc (suc (suc zero)))) (gcons op a)) = unary (unary_out op) (expr_out a)
expr_out (gcons (gnum (suc (suc (suc (suc zero))))) (gcons op (gcons a b))) = binary (binary_out op) (expr_out a) (expr_out b)
expr_out (gcons (gnum (suc (suc (suc (suc (suc n)))))) (gcons v (gcons bounds index))) = element (name_out v) (bounds_out bounds) (expr_out index)
expr_out _ = read []

pub expr_back : (e : PlainExpr (List ℕ)) → expr_out (expr_in e) ≡ e
expr_back (literal n) = ap literal (literal_back n)
expr_back (read v) = ap read (name_back v)
expr_back (output_of instance name) = λ i. output_of (name_back instance i) (name_back name i)
expr_back (unary op a) = λ i. unary (unary_back op i) (expr_back a i)
expr_back (binary op a b) = λ i. binary (binary_back op i) (expr_back a i) (expr_back b i)
expr_back (element v bounds index) = λ i. element (name_back v i) (bounds_back bounds i) (expr_back index i)

abbrev option_in : Option (PlainExpr (List ℕ)) → Gv
option_in None = gnil
option_in (Some e) = gcons gnil (expr_in e)

abbrev option_out : Gv → Option (PlainExpr (List ℕ))
option_out (gcons a e) = Some (expr_out e)
option_out _ = None

pub option_back : (o : Option (PlainExpr (List ℕ))) → option_out (option_in o) ≡ o
option_back None = refl
option_back (Some e) = ap Some (expr_back e)

abbrev argument_in : PlainArgument (List ℕ) → Gv
argument_in (input name e) = gcons gnil (gcons (name_in name) (expr_in e))
argument_in (output name v) = gcons (gnum 0) (gcons (name_in name) (name_in v))

abbrev argument_out : Gv → PlainArgument (List ℕ)
argument_out (gcons gnil (gcons name e)) = input (name_out name) (expr_out e)
argument_out (gcons a (gcons name v)) = output (name_out name) (name_out v)
argument_out _ = output [] []

pub argument_back : (a : PlainArgument (List ℕ)) → argument_out (argument_in a) ≡ a
argument_back (input name e) = λ i. input (name_back name i) (expr_back e i)
argument_back (output name v) = λ i. output (name_back name i) (name_back v i)

abbrev labels_in : List Label → Gv
labels_in labels = list_in label_in label_out labels

abbrev labels_out : Gv → List Label
labels_out g = list_out label_in label_out g

abbrev arguments_in : List (PlainArgument (List ℕ)) → Gv
arguments_in arguments = list_in argument_in argument_out arguments

abbrev arguments_out : Gv → List (PlainArgument (List ℕ))
arguments_out g = list_out argument_in argument_out g

abbrev mutual
  stmt_in : PlainStmt (List ℕ) → Gv
  stmt_in (empty n) = gcons (gnum 0) (gnum n)
  stmt_in (assign n v e) = gcons (gnum 1) (gcons (gnum n) (gcons (name_in v) (expr_in e)))
  stmt_in (store n v bounds index value) = gcons (gnum 6) (gcons (gnum n) (gcons (name_in v) (gcons (bounds_in bounds) (gcons (expr_in index) (expr_in value)))))
  stmt_in (call n v arguments) = gcons (gnum 2) (gcons (gnum n) (gcons (name_in v) (arguments_in arguments)))
  stmt_in (if_else n branches last) = gcons (gnum 3) (gcons (gnum n) (gcons (branches_in branches) (body_in last)))
  stmt_in (case_of n e choices last) = gcons (gnum 4) (gcons (gnum n) (gcons (expr_in e) (gcons (choices_in choices) (body_in last))))
  stmt_in (for_to n v from to by body) = gcons (gnum 5) (gcons (gnum n) (gcons (name_in v) (gcons (expr_in from) (gcons (expr_in to) (gcons (option_in by) (body_in body))))))

  body_in : PlainBody (List ℕ) → Gv
  body_in done = gnil
  body_in (next s rest) = gcons (stmt_in s) (body_in rest)

  branches_in : Branches (List ℕ) → Gv
  branches_in no_branch = gnil
  branches_in (branch test body rest) = gcons (expr_in test) (gcons (body_in body) (branches_in rest))

  choices_in : Choices (List ℕ) → Gv
  choices_in no_choice = gnil
  choices_in (choice labels body rest) = gcons (labels_in labels) (gcons (body_in body) (choices_in rest))

abbrev mutual
  stmt_out : Gv → PlainStmt (List ℕ)
  stmt_out (gcons (gnum zero) n) = empty (num n)
  stmt_out (gcons (gnum (suc zero)) (gcons n (gcons v e))) = assign (num n) (name_out v) (expr_out e)
  stmt_out (gcons (gnum (suc (suc zero))) (gcons n (gcons v arguments))) = call (num n) (name_out v) (arguments_out arguments)
  stmt_out (gcons (gnum (suc (suc (suc zero)))) (gcons n (gcons branches last))) = if_else (num n) (branches_out branches) (body_out last)
  stmt_out (gcons (gnum (suc (suc (suc (suc zero))))) (gcons n (gcons e (gcons choices last)))) = case_of (num n) (expr_out e) (choices_out choices) (body_out last)
  stmt_out (gcons (gnum (suc (suc (suc (suc (suc zero)))))) (gcons n (gcons v (gcons from (gcons to (gcons by body)))))) =
      for_to (num n) (name_out v) (expr_out from) (expr_out to) (option_out by) (body_out body)
  stmt_out (gcons (gnum (suc (suc (suc (suc (suc (suc form))))))) (gcons n (gcons v (gcons bounds (gcons index value))))) = store (num n) (name_out v) (bounds_out bounds) (expr_out index) (expr_out value)
  stmt_out _ = empty 0

  body_out : Gv → PlainBody (List ℕ)
  body_out (gcons s rest) = next (stmt_out s) (body_out rest)
  body_out _ = done

  branches_out : Gv → Branches (List ℕ)
  branches_out (gcons test (gcons body rest)) = branch (expr_out test) (body_out body) (branches_out rest)
  branches_out _ = no_branch

  choices_out : Gv → Choices (List ℕ)
  choices_out (gcons labels (gcons body rest)) = choice (labels_out labels) (body_out body) (choices_out rest)
  choices_out _ = no_choice

mutual
  pub stmt_back : (s : PlainStmt (List ℕ)) → stmt_out (stmt_in s) ≡ s
  stmt_back (empty n) = refl
  stmt_back (assign n v e) = λ i. assign n (name_back v i) (expr_back e i)
  stmt_back (store n v bounds index value) = λ i. store n (name_back v i) (bounds_back bounds i) (expr_back index i) (expr_back value i)
  stmt_back (call n v arguments) = λ i. call n (name_back v i) (list_back argument_in argument_out argument_back arguments i)
  stmt_back (if_else n branches last) = λ i. if_else n (branches_back branches i) (body_back last i)
  stmt_back (case_of n e choices last) = λ i. case_of n (expr_back e i) (choices_back choices i) (body_back last i)
  stmt_back (for_to n v from to by body) = λ i. for_to n (name_back v i) (expr_back from i) (expr_back to i) (option_back by i) (body_back body i)

  pub body_back : (body : PlainBody (List ℕ)) → body_out (body_in body) ≡ body
  body_back done = refl
  body_back (next s rest) = λ i. next (stmt_back s i) (body_back rest i)

  pub branches_back : (branches : Branches (List ℕ)) → branches_out (branches_in branches) ≡ branches
  branches_back no_branch = refl
  branches_back (branch test body rest) = λ i. branch (expr_back test i) (body_back body i) (branches_back rest i)

  pub choices_back : (choices : Choices (List ℕ)) → choices_out (choices_in choices) ≡ choices
  choices_back no_choice = refl
  choices_back (choice labels body rest) = λ i. choice (list_back label_in label_out label_back labels i) (body_back body i) (choices_back rest i)

-- a plain expression over names is kept as a tree of numbers
abbrev pub expr_code : Coded (PlainExpr (List ℕ))
expr_code = code_by Gv gv_code expr_in expr_out expr_back

-- a plain body over names is kept as a tree of numbers
abbrev pub body_code : Coded (PlainBody (List ℕ))
body_code = code_by Gv gv_code body_in body_out body_back
