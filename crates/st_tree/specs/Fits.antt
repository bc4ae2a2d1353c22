-- Whether each expression of a body has the kind that its place needs, by what is declared of the body's variables and instances.
use Rattle.std.specs.Prelude.{Bool, true, false, ◌&&◌, Option, Some, None}
use Rattle.std.specs.List.{list_all}
use Rattle.plant_types.specs.declared.values.Bounds.{Bounds}
use Rattle.plant_types.specs.declared.values.Kind.{Kind}
use Rattle.plant_types.specs.declared.values.Kind.TheVariants as kind
use Rattle.st_tree.specs.Plain.{PlainExpr, output_of, PlainArgument, input, output}
use Rattle.st_tree.specs.Plain.{PlainStmt, empty, assign, store, call, if_else, case_of, for_to, PlainBody, done, next, Branches, no_branch, branch, Choices, no_choice, choice}
use Rattle.st_tree.specs.Kinds.{Sorts, kind_of_expr, is_kind, fits_kind}

-- what is declared of the variables and instances of a body
pub record Context (V : Type 0) : Type 0 where
  -- a variable's kind, if there is such a variable, and whether it may be assigned
  pub variable_kind : V → Option Kind
  pub may_assign : V → Bool
  -- whether a name is that of an instance, and the kinds of its inputs and of its outputs, by their names
  pub is_instance : V → Bool
  pub input_kind : V → V → Option Kind
  pub output_kind : V → V → Option Kind
  -- the kind of an array's elements, if there is such an array with these bounds
  pub element_kind : V → Bounds → Option Kind

module _ {V : Type 0} (context : Context V) where
  -- the kinds that an expression knows of
  abbrev pub sorts_of : Sorts V
  sorts_of = record { variable = context.variable_kind; output = context.output_kind; element = context.element_kind }

  -- an expression is of a kind
  abbrev pub is_of : Kind → PlainExpr V → Bool
  is_of k e = is_kind k (kind_of_expr sorts_of e)

  -- an expression is of a kind, if there is one
  abbrev pub option_is_of : Kind → Option (PlainExpr V) → Bool
  option_is_of k None = true
  option_is_of k (Some e) = is_of k e

  -- an expression may be assigned where this kind is declared: it is of the kind, or the integer 0 or 1 for a BOOL
  abbrev pub fits_option : Option Kind → PlainExpr V → Bool
  fits_option None e = false
  fits_option (Some k) e = fits_kind sorts_of k e

  -- an expression may be assigned to a variable
  abbrev pub takes : V → PlainExpr V → Bool
  takes v e = context.may_assign v && fits_option (context.variable_kind v) e

  -- an argument of a call fits: an input takes what is assigned to it, and a variable takes the output
  abbrev pub argument_fits : V → PlainArgument V → Bool
  argument_fits instance (input name e) = fits_option (context.input_kind instance name) e
  argument_fits instance (output name v) = takes v (output_of instance name)

  -- each right side, argument, test, selector, bound and step has the kind that it must have, and only instances are called
  abbrev mutual
    pub stmt_fits : PlainStmt V → Bool
    stmt_fits (empty number) = true
    stmt_fits (assign number v e) = takes v e
    stmt_fits (store number v bounds index value) = is_of kind.Dint index && fits_option (context.element_kind v bounds) value
    stmt_fits (call number instance arguments) = context.is_instance instance && list_all (argument_fits instance) arguments
    stmt_fits (if_else number branches last) = branches_fit branches && all_fit last
    stmt_fits (case_of number e choices last) = is_of kind.Dint e && (choices_fit choices && all_fit last)
    stmt_fits (for_to number v from to by body) = is_of kind.Dint from && (is_of kind.Dint to && (option_is_of kind.Dint by && all_fit body))

    pub all_fit : PlainBody V → Bool
    all_fit done = true
    all_fit (next s rest) = stmt_fits s && all_fit rest

    pub branches_fit : Branches V → Bool
    branches_fit no_branch = true
    branches_fit (branch test body rest) = is_of kind.Bool test && (all_fit body && branches_fit rest)

    pub choices_fit : Choices V → Bool
    choices_fit no_choice = true
    choices_fit (choice labels body rest) = all_fit body && choices_fit rest

  -- a variable may be the control variable of a FOR, as far as kinds go: it is a DINT that may be assigned
  abbrev pub may_control : V → Bool
  may_control v = context.may_assign v && is_kind kind.Dint (context.variable_kind v)

  -- each control variable is such a one
  abbrev mutual
    pub stmt_controls_fit : PlainStmt V → Bool
    stmt_controls_fit (empty number) = true
    stmt_controls_fit (assign number v e) = true
    stmt_controls_fit (store number v bounds index value) = true
    stmt_controls_fit (call number instance arguments) = true
    stmt_controls_fit (if_else number branches last) = branches_controls_fit branches && controls_fit last
    stmt_controls_fit (case_of number e choices last) = choices_controls_fit choices && controls_fit last
    stmt_controls_fit (for_to number v from to by body) = may_control v && controls_fit body

    pub controls_fit : PlainBody V → Bool
    controls_fit done = true
    controls_fit (next s rest) = stmt_controls_fit s && controls_fit rest

    pub branches_controls_fit : Branches V → Bool
    branches_controls_fit no_branch = true
    branches_controls_fit (branch test body rest) = controls_fit body && branches_controls_fit rest

    pub choices_controls_fit : Choices V → Bool
    choices_controls_fit no_choice = true
    choices_controls_fit (choice labels body rest) = controls_fit body && choices_controls_fit rest
