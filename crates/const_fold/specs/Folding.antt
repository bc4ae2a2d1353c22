-- Constant folding: an operator whose operands are literals becomes a literal, from the inside out.
use Rattle.std.specs.Prelude.{Option, Some, None, option_map, option_and_then, Ok}
use Rattle.plant_types.specs.declared.values.Given.TheVariants.{Whole}
use Rattle.plant_types.specs.declared.values.Kind.{Kind}
use Rattle.plant_types.specs.Values.{fitted}
use Rattle.st_tree.specs.declared.tree.Literal.{Literal}
use Rattle.st_tree.specs.declared.tree.Literal.TheVariants.{Value}
use Rattle.st_tree.specs.declared.tree.Unary.{Unary}
use Rattle.st_tree.specs.declared.tree.Binary.{Binary}
use Rattle.st_tree.specs.Kinds.{literal_kind, unary_kind, binary_kind}
use Rattle.st_tree.specs.Mapping.{Mapping, mapped_expr, mapped_option, mapped_stmt, mapped_body}
use Rattle.st_tree.specs.Meaning.{literal_worth}
use Rattle.st_tree.specs.Operators.{Outcome, eval_unary, eval_binary}
use Rattle.st_tree.specs.Plain.{PlainExpr, literal, unary, binary, PlainStmt, PlainBody}

-- the literal that an expression is, if it is one
abbrev pub literal_in : {V : Type 0} → PlainExpr V → Option Literal
literal_in (literal n) = Some n
literal_in _ = None

-- the literal of a kind for a result in the kind's range; none for a trap
abbrev pub literal_of : Option Kind → Outcome → Option Literal
literal_of (Some k) (Ok n) = option_map Value (fitted k (Whole n))
literal_of _ _ = None

-- the literal for an operator on a literal, of the kind of its result
abbrev pub unary_literal : Unary → Literal → Option Literal
unary_literal op a = literal_of (unary_kind op (literal_kind a)) (eval_unary op (literal_worth a))

-- the literal for an operator on two literals, of the kind of its result
abbrev pub binary_literal : Binary → Literal → Literal → Option Literal
binary_literal op a b = literal_of (binary_kind op (literal_kind a) (literal_kind b)) (eval_binary op (literal_worth a) (literal_worth b))

-- the literal for an operator whose operands are all literals
abbrev pub node_literal : {V : Type 0} → PlainExpr V → Option Literal
node_literal (unary op a) = option_and_then (unary_literal op) (literal_in a)
node_literal (binary op a b) = option_and_then (λ x. option_and_then (binary_literal op x) (literal_in b)) (literal_in a)
node_literal _ = None

abbrev pub literal_or : {V : Type 0} → PlainExpr V → Option Literal → PlainExpr V
literal_or e None = e
literal_or e (Some n) = literal n

-- an operator whose operands are all literals becomes its literal, if there is one; any other expression stays
abbrev pub folded_node : {V : Type 0} → PlainExpr V → PlainExpr V
folded_node e = literal_or e (node_literal e)

-- each name stays, and operators are folded once their operands are
abbrev pub folding : {V : Type 0} → Mapping V V
folding = record { variable = λ v. v; array = λ v. v; instance = λ v. v; input_name = λ instance name. name; output_name = λ instance name. name; node = folded_node }

-- an expression, one that may be left out, a statement and a body with their constants folded
abbrev pub folded_expr : {V : Type 0} → PlainExpr V → PlainExpr V
folded_expr e = mapped_expr folding e

abbrev pub folded_option : {V : Type 0} → Option (PlainExpr V) → Option (PlainExpr V)
folded_option e = mapped_option folding e

abbrev pub folded_stmt : {V : Type 0} → PlainStmt V → PlainStmt V
folded_stmt s = mapped_stmt folding s

abbrev pub folded_body : {V : Type 0} → PlainBody V → PlainBody V
folded_body body = mapped_body folding body
