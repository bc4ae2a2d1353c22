-- The kinds of expressions, by the kinds of the variables and of instances' outputs.
use Rattle.std.specs.Prelude.{◌≡◌, Bool, true, false, ◌&&◌, ◌||◌, if◌then◌else◌, Option, Some, None, option_and_then, option_map, pos, map}
use Rattle.std.specs.Ordering.{int_eq}
use Rattle.plant_types.specs.declared.values.Bounds.{Bounds}
use Rattle.plant_types.specs.declared.values.Kind.{Kind}
use Rattle.plant_types.specs.declared.values.Kind.TheVariants as kind
use Rattle.plant_types.specs.Values.{kind_of, is_in_range, worth}
use Rattle.st_tree.specs.declared.tree.Literal.{Literal}
use Rattle.st_tree.specs.declared.tree.Literal.TheVariants.{Integer, Value}
use Rattle.st_tree.specs.declared.tree.Unary.{Unary}
use Rattle.st_tree.specs.declared.tree.Unary.TheVariants.{Not, Negate, NegateTime}
use Rattle.st_tree.specs.declared.tree.Binary.{Binary}
use Rattle.st_tree.specs.declared.tree.Binary.TheVariants.{And, Xor, Or, Equal, Unequal, Less, Greater, AtMost, AtLeast, Add, AddTime, Subtract, SubtractTime, Multiply, Divide, Mod}
use Rattle.st_tree.specs.Plain.{PlainExpr, literal, read, output_of, element, unary, binary, PlainArgument, input, output}
use Rattle.st_tree.specs.Plain.{PlainStmt, empty, assign, store, call, if_else, case_of, for_to, PlainBody, done, next, Branches, no_branch, branch, Choices, no_choice, choice}
use Rattle.st_tree.specs.Numbers.{numbered}

abbrev pub same_kind : Kind → Kind → Bool
same_kind kind.Bool kind.Bool = true
same_kind kind.Dint kind.Dint = true
same_kind kind.Time kind.Time = true
same_kind _ _ = false

-- the kind of a literal: an integer is a DINT
abbrev pub literal_kind : Literal → Kind
literal_kind (Integer n) = kind.Dint
literal_kind (Value v) = kind_of v

-- a literal is in the range of its kind
abbrev pub literal_in_range : Literal → Bool
literal_in_range (Integer n) = is_in_range kind.Dint n
literal_in_range (Value v) = is_in_range (kind_of v) (worth v)

-- of two BOOLs
abbrev pub of_truths : Kind → Kind → Option Kind
of_truths kind.Bool kind.Bool = Some kind.Bool
of_truths _ _ = None

-- of two DINTs
abbrev pub of_numbers : Kind → Kind → Option Kind
of_numbers kind.Dint kind.Dint = Some kind.Dint
of_numbers _ _ = None

-- of two TIMEs
abbrev pub of_times : Kind → Kind → Option Kind
of_times kind.Time kind.Time = Some kind.Time
of_times _ _ = None

-- of two DINTs or two TIMEs
abbrev pub of_sums : Kind → Kind → Option Kind
of_sums kind.Dint kind.Dint = Some kind.Dint
of_sums kind.Time kind.Time = Some kind.Time
of_sums _ _ = None

-- the order of two DINTs or two TIMEs
abbrev pub of_order : Kind → Kind → Option Kind
of_order kind.Dint kind.Dint = Some kind.Bool
of_order kind.Time kind.Time = Some kind.Bool
of_order _ _ = None

-- the kind of an operator's result, by the kind of its operand, if it takes it
abbrev pub unary_kind : Unary → Kind → Option Kind
unary_kind Not kind.Bool = Some kind.Bool
unary_kind Negate kind.Dint = Some kind.Dint
unary_kind Negate kind.Time = Some kind.Time
unary_kind NegateTime kind.Time = Some kind.Time
unary_kind _ _ = None

-- the kind of an operator's result, by the kinds of its operands, if it takes them
abbrev pub binary_kind : Binary → Kind → Kind → Option Kind
binary_kind And a b = of_truths a b
binary_kind Xor a b = of_truths a b
binary_kind Or a b = of_truths a b
binary_kind Equal a b = if same_kind a b then Some kind.Bool else None
binary_kind Unequal a b = if same_kind a b then Some kind.Bool else None
binary_kind Less a b = of_order a b
binary_kind Greater a b = of_order a b
binary_kind AtMost a b = of_order a b
binary_kind AtLeast a b = of_order a b
binary_kind Add a b = of_sums a b
binary_kind AddTime a b = of_times a b
binary_kind Subtract a b = of_sums a b
binary_kind SubtractTime a b = of_times a b
binary_kind Multiply a b = of_numbers a b
binary_kind Divide a b = of_numbers a b
binary_kind Mod a b = of_numbers a b

abbrev pub is_kind : Kind → Option Kind → Bool
is_kind k None = false
is_kind k (Some found) = same_kind k found

-- the kinds of the variables, of instances' outputs and of the elements of arrays, by their bounds, of those that there are
pub record Sorts (V : Type 0) : Type 0 where
  pub variable : V → Option Kind
  pub output : V → V → Option Kind
  pub element : V → Bounds → Option Kind

-- the kind of an expression; none if a literal is outside the range of its kind, if an operator does not take its operands, if an index isn't a DINT, or if a variable, an element or an output has no kind
abbrev pub kind_of_expr : {V : Type 0} → Sorts V → PlainExpr V → Option Kind
kind_of_expr sorts (literal n) = if literal_in_range n then Some (literal_kind n) else None
kind_of_expr sorts (read v) = sorts.variable v
kind_of_expr sorts (output_of instance name) = sorts.output instance name
kind_of_expr sorts (element v bounds index) = if is_kind kind.Dint (kind_of_expr sorts index) then sorts.element v bounds else None
kind_of_expr sorts (unary op a) = option_and_then (unary_kind op) (kind_of_expr sorts a)
kind_of_expr sorts (binary op a b) = option_and_then (λ k. option_and_then (binary_kind op k) (kind_of_expr sorts b)) (kind_of_expr sorts a)

-- just the integer 0 or 1, which may be assigned to a BOOL
abbrev pub literal_is_bit : Literal → Bool
literal_is_bit (Integer n) = int_eq n (pos 0) || int_eq n (pos 1)
literal_is_bit (Value v) = false

abbrev pub is_bit : {V : Type 0} → PlainExpr V → Bool
is_bit (literal n) = literal_is_bit n
is_bit _ = false

-- whether an expression may be the whole of what is assigned to a variable of a kind: it is of the kind, or a bit for a BOOL
abbrev pub fits_kind : {V : Type 0} → Sorts V → Kind → PlainExpr V → Bool
fits_kind sorts k e = is_kind k (kind_of_expr sorts e) || (same_kind k kind.Bool && is_bit e)

-- the kind of an operator's result, by the kind of its (left) operand, which it takes
abbrev pub unary_result : Unary → Kind → Kind
unary_result Not k = kind.Bool
unary_result Negate k = k
unary_result NegateTime k = kind.Time

abbrev pub binary_result : Binary → Kind → Kind
binary_result Add k = k
binary_result AddTime k = kind.Time
binary_result Subtract k = k
binary_result SubtractTime k = kind.Time
binary_result Multiply k = kind.Dint
binary_result Divide k = kind.Dint
binary_result Mod k = kind.Dint
binary_result _ k = kind.Bool

-- the kinds of variables, of instances' outputs and of arrays' elements, and the bounds of arrays, where all names are there
pub record KindsOf (V : Type 0) : Type 0 where
  pub variable : V → Kind
  pub output : V → V → Kind
  pub element : V → Kind
  pub bounds : V → Bounds

-- kinds are those that there are
pub record AreSorts {V : Type 0} (sorts : Sorts V) (kinds : KindsOf V) : Type 0 where
  pub variable_is : (v : V) (k : Kind) → sorts.variable v ≡ Some k → kinds.variable v ≡ k
  pub output_is : (instance name : V) (k : Kind) → sorts.output instance name ≡ Some k → kinds.output instance name ≡ k
  pub element_is : (v : V) (bounds : Bounds) (k : Kind) → sorts.element v bounds ≡ Some k → kinds.element v ≡ k

-- the kind of an expression whose operators take their operands
abbrev pub kind_in : {V : Type 0} → KindsOf V → PlainExpr V → Kind
kind_in kinds (literal n) = literal_kind n
kind_in kinds (read v) = kinds.variable v
kind_in kinds (output_of instance name) = kinds.output instance name
kind_in kinds (element v bounds index) = kinds.element v
kind_in kinds (unary op a) = unary_result op (kind_in kinds a)
kind_in kinds (binary op a b) = binary_result op (kind_in kinds a)

-- the operator for a (left) operand of a kind
abbrev pub resolved_unary : Unary → Kind → Unary
resolved_unary Negate kind.Time = NegateTime
resolved_unary op _ = op

abbrev pub resolved_binary : Binary → Kind → Binary
resolved_binary Add kind.Time = AddTime
resolved_binary Subtract kind.Time = SubtractTime
resolved_binary op _ = op

module _ {V : Type 0} (kinds : KindsOf V) where
  -- an expression with each operator resolved, and the bounds of each array that it names
  abbrev pub resolved_expr : PlainExpr V → PlainExpr V
  resolved_expr (literal n) = literal n
  resolved_expr (read v) = read v
  resolved_expr (output_of instance name) = output_of instance name
  resolved_expr (element v bounds index) = element v (kinds.bounds v) (resolved_expr index)
  resolved_expr (unary op a) = unary (resolved_unary op (kind_in kinds a)) (resolved_expr a)
  resolved_expr (binary op a b) = binary (resolved_binary op (kind_in kinds a)) (resolved_expr a) (resolved_expr b)

  abbrev pub resolved_argument : PlainArgument V → PlainArgument V
  resolved_argument (input name e) = input name (resolved_expr e)
  resolved_argument (output name v) = output name v

  abbrev mutual
    pub resolved_stmt : PlainStmt V → PlainStmt V
    resolved_stmt (empty number) = empty number
    resolved_stmt (assign number v e) = assign number v (resolved_expr e)
    resolved_stmt (store number v bounds index value) = store number v (kinds.bounds v) (resolved_expr index) (resolved_expr value)
    resolved_stmt (call number instance arguments) = call number instance (map resolved_argument arguments)
    resolved_stmt (if_else number branches last) = if_else number (resolved_branches branches) (resolved_body last)
    resolved_stmt (case_of number e choices last) = case_of number (resolved_expr e) (resolved_choices choices) (resolved_body last)
    resolved_stmt (for_to number v from to by body) = for_to number v (resolved_expr from) (resolved_expr to) (option_map resolved_expr by) (resolved_body body)

    -- a body with each operator resolved, and the bounds of each array that it names
    pub resolved_body : PlainBody V → PlainBody V
    resolved_body done = done
    resolved_body (next s rest) = next (resolved_stmt s) (resolved_body rest)

    pub resolved_branches : Branches V → Branches V
    resolved_branches no_branch = no_branch
    resolved_branches (branch test body rest) = branch (resolved_expr test) (resolved_body body) (resolved_branches rest)

    pub resolved_choices : Choices V → Choices V
    resolved_choices no_choice = no_choice
    resolved_choices (choice labels body rest) = choice labels (resolved_body body) (resolved_choices rest)

  -- the body that is meant by a body as it is written: its statements are numbered from 1, each operator is resolved, and each array has its bounds
  abbrev pub meant : PlainBody V → PlainBody V
  meant body = resolved_body (numbered 1 body)
