-- Units with an initial value, a bound or a step that isn't constant or traps, with a control variable that isn't allowed, or with an array whose low bound is above its high one; and FORs of too many turns.
use Rattle.std.specs.Prelude.{ℕ, pos, Bool, true, false, not, ◌&&◌, ◌||◌, nat_lt, int_lt, List, [], ◌∷◌, length, Option, Some, None, Result, Ok, Err}
use Rattle.std.specs.List.{list_all}
use Rattle.std.specs.Option.{option_map_or}
use Rattle.std.specs.Ordering.{int_eq}
use Rattle.plant_types.specs.Words.{same_word}
use Rattle.plant_types.specs.declared.values.Bounds.{Bounds}
use Rattle.plant_types.specs.declared.values.Kind.TheVariants as kind
use Rattle.plant_types.specs.declared.values.Trap.{Trap}
use Rattle.st_tree.specs.Plain.{PlainExpr, PlainArgument, input, output, PlainStmt, empty, assign, store, call, if_else, case_of, for_to, PlainBody}
use Rattle.st_names.specs.Every.{every}
use Rattle.st_tree.specs.Operators.{Outcome}
use Rattle.st_tree.specs.Controls.{control_values, span_of}
use Rattle.st_tree.specs.declared.controls.Span.{Span}
use Rattle.st_tree.specs.Constants.{constant_of}
use Rattle.st_tree.specs.Kinds.{KindsOf, resolved_expr}
use Rattle.st_names.specs.Sort.{Sort}
use Rattle.st_names.specs.Sort.TheVariants as sort
use Rattle.st_names.specs.Units.{PlainSection, PlainPou}
use Rattle.st_names.specs.DeclaredNames.{PlainDeclared, declared_in}
use Rattle.st_names.specs.Scopes.{is_control}

-- an expression is constant and doesn't trap
abbrev pub has_value : Option Outcome → Bool
has_value None = false
has_value (Some (Ok n)) = true
has_value (Some (Err trap)) = false

-- a step is constant, doesn't trap and isn't 0
abbrev pub is_step : Option Outcome → Bool
is_step None = false
is_step (Some (Ok n)) = not (int_eq n (pos 0))
is_step (Some (Err trap)) = false

-- an output of a call is given to a variable
abbrev pub outputs_assign : List ℕ → List (PlainArgument (List ℕ)) → Bool
outputs_assign v [] = false
outputs_assign v (input name e ∷ rest) = outputs_assign v rest
outputs_assign v (output name u ∷ rest) = same_word v u || outputs_assign v rest

-- a statement assigns a variable itself, as the control variable of a FOR too; an element is no variable
abbrev pub stmt_assigns : List ℕ → PlainStmt (List ℕ) → Bool
stmt_assigns v (empty number) = false
stmt_assigns v (assign number u e) = same_word v u
stmt_assigns v (store number u bounds index value) = false
stmt_assigns v (call number instance arguments) = outputs_assign v arguments
stmt_assigns v (if_else number branches last) = false
stmt_assigns v (case_of number e choices last) = false
stmt_assigns v (for_to number u from to by body) = same_word v u

-- no statement of a body assigns a variable
abbrev pub never_assigns : List ℕ → PlainBody (List ℕ) → Bool
never_assigns v body = every (λ s. not (stmt_assigns v s)) body

-- the number of turns of a span; 0 if it has a trap in its place
abbrev pub turns_in : Result Span Trap → ℕ
turns_in (Ok span) = length (control_values span)
turns_in (Err trap) = 0

-- the number of turns of a FOR with constant bounds and step; 0 for any other
abbrev pub turns_of : Option Outcome → Option Outcome → Option Outcome → ℕ
turns_of (Some from) (Some to) (Some step) = turns_in (span_of from to step)
turns_of _ _ _ = 0

-- a constant expression reads no variable and no element, so that no kind of these chooses an operator
abbrev pub no_kinds : KindsOf (List ℕ)
no_kinds = record { variable = λ name. kind.Bool; output = λ instance name. kind.Bool; element = λ name. kind.Bool; bounds = λ name. record { low = pos 0; high = pos 0 } }

-- the outcome of a constant expression, each operator being that of its operands' kind; none if it reads a variable
abbrev pub meant_constant : PlainExpr (List ℕ) → Option Outcome
meant_constant e = constant_of (resolved_expr no_kinds e)

-- the outcome of a constant step, which is 1 if none is written
abbrev pub constant_step : Option (PlainExpr (List ℕ)) → Option Outcome
constant_step e = option_map_or meant_constant e (Some (Ok (pos 1)))

-- the number of turns of a FOR, by its bounds and step as they are written
abbrev pub for_turns : (from to : PlainExpr (List ℕ)) → Option (PlainExpr (List ℕ)) → ℕ
for_turns from to by = turns_of (meant_constant from) (meant_constant to) (constant_step by)

-- bounds are constant and don't trap, and neither does a step, which isn't 0
abbrev pub bounds_allowed : (from to : PlainExpr (List ℕ)) → Option (PlainExpr (List ℕ)) → Bool
bounds_allowed from to by = has_value (meant_constant from) && (has_value (meant_constant to) && is_step (constant_step by))

-- a FOR's control variable is allowed, its bounds and step are constant and allowed, and nothing inside it assigns its control variable
abbrev pub stmt_allowed : List PlainDeclared → PlainStmt (List ℕ) → Bool
stmt_allowed own (for_to number v from to by body) =
    is_control own v && (bounds_allowed from to by && never_assigns v body)
stmt_allowed own _ = true

-- a FOR has at most 10,000 turns
abbrev pub stmt_short : PlainStmt (List ℕ) → Bool
stmt_short (for_to number v from to by body) = not (nat_lt 10000 (for_turns from to by))
stmt_short _ = true

-- an initial value, where one is written, is constant and doesn't trap
abbrev pub is_initial : Option (PlainExpr (List ℕ)) → Bool
is_initial e = option_map_or (λ e. has_value (meant_constant e)) e true

abbrev pub initial_constant : PlainDeclared → Bool
initial_constant d = is_initial d.initial

-- the low bound isn't above the high one
abbrev pub in_order : Bounds → Bool
in_order bounds = not (int_lt bounds.high bounds.low)

abbrev pub sort_in_order : Sort → Bool
sort_in_order (sort.Kind k) = true
sort_in_order (sort.Block word) = true
sort_in_order (sort.Array bounds k) = in_order bounds

-- a declaration's initial value, where one is written, is constant and doesn't trap, and the low bound of an array isn't above its high one
abbrev pub declared_constant : PlainDeclared → Bool
declared_constant d = initial_constant d && sort_in_order d.sort

-- a global's initial value isn't constant or traps, or the low bound of a global array is above its high one
abbrev pub globals_inconstant : List PlainSection → Bool
globals_inconstant sections = not (list_all declared_constant (declared_in sections))

-- an initial value of a block or program isn't constant or traps, the low bound of an array of it is above its high one, or a FOR of it isn't allowed
abbrev pub pou_inconstant : PlainPou → Bool
pou_inconstant p = not (list_all declared_constant (declared_in p.sections) && every (stmt_allowed (declared_in p.sections)) p.body)

-- a FOR of a block or program has too many turns
abbrev pub pou_long : PlainPou → Bool
pou_long p = not (every stmt_short p.body)
