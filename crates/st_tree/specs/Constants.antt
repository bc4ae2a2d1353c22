-- Expressions that read no variable.
use Rattle.std.specs.Prelude.{Option, Some, None, option_map, option_and_then, Ok}
use Rattle.st_tree.specs.Plain.{PlainExpr, literal, read, output_of, element, unary, binary}
use Rattle.st_tree.specs.Operators.{Outcome, eval_unary, eval_binary}
use Rattle.st_tree.specs.Meaning.{literal_worth, then_one, then_two}

-- the outcome of a constant expression; none for one that reads a variable, an element or an output
abbrev pub constant_of : {V : Type 0} → PlainExpr V → Option Outcome
constant_of (literal n) = Some (Ok (literal_worth n))
constant_of (read v) = None
constant_of (output_of instance name) = None
constant_of (element v bounds index) = None
constant_of (unary op a) = option_map (λ x. then_one x (eval_unary op)) (constant_of a)
constant_of (binary op a b) = option_and_then (λ x. option_map (λ y. then_two x y (eval_binary op)) (constant_of b)) (constant_of a)
