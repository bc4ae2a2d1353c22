-- Bodies with other names in the places of their own: a variable's, an instance's, and those of an instance's inputs and outputs.
use Rattle.std.specs.Prelude.{Bool, true, ◌&&◌, Option, Some, None, map}
use Rattle.std.specs.List.{list_all}
use Rattle.plant_types.specs.declared.values.Bounds.{Bounds}
use Rattle.st_tree.specs.Plain.{PlainExpr, literal, read, output_of, element, unary, binary, PlainArgument, input, output}
use Rattle.st_tree.specs.Plain.{PlainStmt, empty, assign, store, call, if_else, case_of, for_to, PlainBody, done, next, Branches, no_branch, branch, Choices, no_choice, choice}

-- what stands in the place of each name
pub record Mapping (V W : Type 0) : Type 0 where
  pub variable : V → W
  pub array : V → W
  pub instance : V → W
  -- the name of an instance's input and that of an instance's output
  pub input_name : (instance name : V) → W
  pub output_name : (instance name : V) → W
  -- what stands in the place of an operator with its operands, once these are mapped
  pub node : PlainExpr W → PlainExpr W

module _ {V W : Type 0} (mapping : Mapping V W) where
  abbrev pub mapped_expr : PlainExpr V → PlainExpr W
  mapped_expr (literal n) = literal n
  mapped_expr (read v) = read (mapping.variable v)
  mapped_expr (output_of instance name) = output_of (mapping.instance instance) (mapping.output_name instance name)
  mapped_expr (element v bounds index) = element (mapping.array v) bounds (mapped_expr index)
  mapped_expr (unary op a) = mapping.node (unary op (mapped_expr a))
  mapped_expr (binary op a b) = mapping.node (binary op (mapped_expr a) (mapped_expr b))

  -- an expression that may be left out
  abbrev pub mapped_option : Option (PlainExpr V) → Option (PlainExpr W)
  mapped_option None = None
  mapped_option (Some e) = Some (mapped_expr e)

  -- an argument of a call of an instance
  abbrev pub mapped_argument : V → PlainArgument V → PlainArgument W
  mapped_argument instance (input name e) = input (mapping.input_name instance name) (mapped_expr e)
  mapped_argument instance (output name v) = output (mapping.output_name instance name) (mapping.variable v)

  -- statements keep their numbers, and the choices of a CASE their labels
  abbrev mutual
    pub mapped_stmt : PlainStmt V → PlainStmt W
    mapped_stmt (empty number) = empty number
    mapped_stmt (assign number v e) = assign number (mapping.variable v) (mapped_expr e)
    mapped_stmt (store number v bounds index value) = store number (mapping.array v) bounds (mapped_expr index) (mapped_expr value)
    mapped_stmt (call number instance arguments) = call number (mapping.instance instance) (map (mapped_argument instance) arguments)
    mapped_stmt (if_else number branches last) = if_else number (mapped_branches branches) (mapped_body last)
    mapped_stmt (case_of number e choices last) = case_of number (mapped_expr e) (mapped_choices choices) (mapped_body last)
    mapped_stmt (for_to number v from to by body) = for_to number (mapping.variable v) (mapped_expr from) (mapped_expr to) (mapped_option by) (mapped_body body)

    pub mapped_body : PlainBody V → PlainBody W
    mapped_body done = done
    mapped_body (next s rest) = next (mapped_stmt s) (mapped_body rest)

    pub mapped_branches : Branches V → Branches W
    mapped_branches no_branch = no_branch
    mapped_branches (branch test body rest) = branch (mapped_expr test) (mapped_body body) (mapped_branches rest)

    pub mapped_choices : Choices V → Choices W
    mapped_choices no_choice = no_choice
    mapped_choices (choice labels body rest) = choice labels (mapped_body body) (mapped_choices rest)

-- the mapping that changes nothing
abbrev pub identity : {V : Type 0} → Mapping V V
identity = record { variable = λ v. v; array = λ v. v; instance = λ v. v; input_name = λ instance name. name; output_name = λ instance name. name; node = λ e. e }

-- the mapping that puts one name in the place of each, whatever it is the name of
abbrev pub renaming : {V W : Type 0} → (V → W) → Mapping V W
renaming f = record { variable = f; array = f; instance = f; input_name = λ instance name. f name; output_name = λ instance name. f name; node = λ e. e }

-- which names are known: those of variables, of arrays with bounds, of instances, and of the inputs and outputs of an instance
pub record Known (V : Type 0) : Type 0 where
  pub has_variable : V → Bool
  pub has_array : V → Bounds → Bool
  pub has_instance : V → Bool
  pub has_input : (instance name : V) → Bool
  pub has_output : (instance name : V) → Bool

-- each name is known
abbrev pub all_known : {V : Type 0} → Known V
all_known = record { has_variable = λ v. true; has_array = λ v bounds. true; has_instance = λ v. true; has_input = λ instance name. true; has_output = λ instance name. true }

-- each name that is used is known
module _ {V : Type 0} (known : Known V) where
  abbrev pub expr_known : PlainExpr V → Bool
  expr_known (literal n) = true
  expr_known (read v) = known.has_variable v
  expr_known (output_of instance name) = known.has_output instance name
  expr_known (element v bounds index) = known.has_array v bounds && expr_known index
  expr_known (unary op a) = expr_known a
  expr_known (binary op a b) = expr_known a && expr_known b

  abbrev pub option_known : Option (PlainExpr V) → Bool
  option_known None = true
  option_known (Some e) = expr_known e

  abbrev pub argument_known : V → PlainArgument V → Bool
  argument_known instance (input name e) = known.has_input instance name && expr_known e
  argument_known instance (output name v) = known.has_output instance name && known.has_variable v

  abbrev mutual
    pub stmt_known : PlainStmt V → Bool
    stmt_known (empty number) = true
    stmt_known (assign number v e) = known.has_variable v && expr_known e
    stmt_known (store number v bounds index value) = known.has_array v bounds && (expr_known index && expr_known value)
    stmt_known (call number instance arguments) = known.has_instance instance && list_all (argument_known instance) arguments
    stmt_known (if_else number branches last) = branches_known branches && body_known last
    stmt_known (case_of number e choices last) = expr_known e && (choices_known choices && body_known last)
    stmt_known (for_to number v from to by body) = known.has_variable v && (expr_known from && (expr_known to && (option_known by && body_known body)))

    pub body_known : PlainBody V → Bool
    body_known done = true
    body_known (next s rest) = stmt_known s && body_known rest

    pub branches_known : Branches V → Bool
    branches_known no_branch = true
    branches_known (branch test body rest) = expr_known test && (body_known body && branches_known rest)

    pub choices_known : Choices V → Bool
    choices_known no_choice = true
    choices_known (choice labels body rest) = body_known body && choices_known rest
