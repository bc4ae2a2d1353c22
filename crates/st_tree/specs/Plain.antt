-- Plain expressions and statements: those of the code, without where they are in memory.
use Rattle.std.specs.Prelude.{ℕ, List, Option}
use Rattle.plant_types.specs.declared.values.Bounds.{Bounds}
use Rattle.st_tree.specs.declared.tree.Literal.{Literal}
use Rattle.st_tree.specs.declared.tree.Unary.{Unary}
use Rattle.st_tree.specs.declared.tree.Binary.{Binary}
use Rattle.st_tree.specs.declared.tree.Label.{Label}

-- an expression over variables of the type V: a literal, a variable's value, an output of an instance, an element of an array by its index, an operator with its operands
pub data PlainExpr (V : Type 0) : Type 0 where
  literal : Literal → PlainExpr V
  read : V → PlainExpr V
  output_of : (instance name : V) → PlainExpr V
  element : V → Bounds → PlainExpr V → PlainExpr V
  unary : Unary → PlainExpr V → PlainExpr V
  binary : Binary → PlainExpr V → PlainExpr V → PlainExpr V

-- an argument of a call: an input with what is assigned to it, or an output with the variable that takes it
pub data PlainArgument (V : Type 0) : Type 0 where
  input : V → PlainExpr V → PlainArgument V
  output : (name variable : V) → PlainArgument V

-- a statement with its number; a body, which is a list of statements; the branches of an IF; the choices of a CASE
mutual
  pub data PlainStmt (V : Type 0) : Type 0 where
    empty : ℕ → PlainStmt V
    assign : ℕ → V → PlainExpr V → PlainStmt V
    -- to an element of an array, by its index
    store : ℕ → V → Bounds → (index value : PlainExpr V) → PlainStmt V
    call : ℕ → V → List (PlainArgument V) → PlainStmt V
    -- IF
    if_else : ℕ → Branches V → PlainBody V → PlainStmt V
    -- CASE
    case_of : ℕ → PlainExpr V → Choices V → PlainBody V → PlainStmt V
    -- FOR
    for_to : ℕ → V → (from to : PlainExpr V) → (by : Option (PlainExpr V)) → PlainBody V → PlainStmt V

  pub data PlainBody (V : Type 0) : Type 0 where
    done : PlainBody V
    next : PlainStmt V → PlainBody V → PlainBody V

  pub data Branches (V : Type 0) : Type 0 where
    no_branch : Branches V
    branch : PlainExpr V → PlainBody V → Branches V → Branches V

  pub data Choices (V : Type 0) : Type 0 where
    no_choice : Choices V
    choice : List Label → PlainBody V → Choices V → Choices V
