-- The outcome of a constant expression is its value, whatever its variables and outputs hold.
use Rattle.std.proofs.Common.{◌≡◌, refl, ap}
use Rattle.std.specs.Prelude.{Option, Some, None, option_map, option_and_then}
use Rattle.st_tree.specs.declared.tree.Unary.{Unary}
use Rattle.st_tree.specs.declared.tree.Binary.{Binary}
use Rattle.st_tree.specs.Plain.{PlainExpr, literal, read, output_of, element, unary, binary}
use Rattle.st_tree.specs.Operators.{Outcome, eval_unary, eval_binary}
use Rattle.st_tree.specs.Meaning.{ValuesOf, value_of, then_one, then_two}
use Rattle.st_tree.specs.Constants.{constant_of}

unary_constant : (op : Unary) (o : Option Outcome) (a r : Outcome) → ((x : Outcome) → o ≡ Some x → a ≡ x) → option_map (λ x. then_one x (eval_unary op)) o ≡ Some r → then_one a (eval_unary op) ≡ r
unary_constant op None a r same is = absurd (cc)
unary_constant op (Some x) a r same is = let e = ap (λ y. then_one y (eval_unary op)) (same x refl) in cc

binary_constant : (op : Binary) (o p : Option Outcome) (a b r : Outcome) → ((x : Outcome) → o ≡ Some x → a ≡ x) → ((x : Outcome) → p ≡ Some x → b ≡ x) → option_and_then (λ x. option_map (λ y. then_two x y (eval_binary op)) p) o ≡ Some r → then_two a b (eval_binary op) ≡ r
binary_constant op None p a b r same too is = absurd (cc)
binary_constant op (Some x) None a b r same too is = absurd (cc)
binary_constant op (Some x) (Some y) a b r same too is =
    let e : then_two a b (eval_binary op) ≡ then_two x y (eval_binary op) = λ i. then_two (same x refl i) (too y refl i) (eval_binary op) in cc

module _ {V : Type 0} (values : ValuesOf V) where
  pub constant_of_is_value_of : (e : PlainExpr V) (r : Outcome) → constant_of e ≡ Some r → value_of values e ≡ r
  constant_of_is_value_of (literal n) r is = cc
  constant_of_is_value_of (read v) r is = absurd (cc)
  constant_of_is_value_of (output_of instance name) r is = absurd (cc)
  constant_of_is_value_of (element v bounds index) r is = absurd (cc)
  constant_of_is_value_of (unary op a) r is = unary_constant op (constant_of a) (value_of values a) r (λ x e. constant_of_is_value_of a x e) is
  constant_of_is_value_of (binary op a b) r is = binary_constant op (constant_of a) (constant_of b) (value_of values a) (value_of values b) r (λ x e. constant_of_is_value_of a x e) (λ x e. constant_of_is_value_of b x e) is
