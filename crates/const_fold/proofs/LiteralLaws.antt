-- The literals that stand for operators on literals, and what a folded operator is.
use Rattle.std.proofs.Common.{◌≡◌, refl, subst, ℤ, pos, negsuc, Bool, true, false, arith}
use Rattle.std.specs.Prelude.{Option, Some, None, option_map, Ok, Err, not, if◌then◌else◌}
use Rattle.std.specs.Ordering.{int_eq}
use Rattle.std.proofs.lemmas.Int.{ints}
use Rattle.plant_types.specs.declared.values.Given.TheVariants.{Whole}
use Rattle.plant_types.specs.declared.values.Kind.{Kind}
use Rattle.plant_types.specs.declared.values.Kind.TheVariants as kind
use Rattle.plant_types.specs.declared.values.Value.{Value}
use Rattle.plant_types.specs.declared.values.Value.TheVariants as value
use Rattle.plant_types.specs.Values.{is_outside, is_in_range, fitted}
use Rattle.st_tree.specs.declared.tree.Literal.{Literal}
use Rattle.st_tree.specs.declared.tree.Literal.TheVariants as literals
use Rattle.st_tree.specs.declared.tree.Unary.{Unary}
use Rattle.st_tree.specs.declared.tree.Binary.{Binary}
use Rattle.st_tree.specs.Kinds.{literal_kind, literal_in_range, unary_kind, binary_kind}
use Rattle.st_tree.specs.Meaning.{literal_worth}
use Rattle.st_tree.specs.Operators.{Outcome, eval_unary, eval_binary}
use Rattle.st_tree.specs.Plain.{PlainExpr, literal, read, output_of, element, unary, binary}
use Rattle.const_fold.specs.Folding.{literal_of, unary_literal, binary_literal, literal_or, folded_node}

-- a literal is of a kind, of a number and in range
pub record Stands (k : Kind) (n : ℤ) (l : Literal) : Type 0 where
  pub kind : literal_kind l ≡ k
  pub worth : literal_worth l ≡ n
  pub in_range : literal_in_range l ≡ true

bool_stands : (n : ℤ) (zero one : Bool) (v : Value) → int_eq n (pos 0) ≡ zero → int_eq n (pos 1) ≡ one → (if zero then Some (value.Bool false) else if one then Some (value.Bool true) else None) ≡ Some v
    → Stands kind.Bool n (literals.Value v)
bool_stands n true one v zero_is one_is is =
    subst (λ x. Stands kind.Bool n (literals.Value x)) (let e : value.Bool false ≡ v = cc in e) (record { kind = refl; worth = grind (arith, ints, zero_is); in_range = refl })
bool_stands n false true v zero_is one_is is =
    subst (λ x. Stands kind.Bool n (literals.Value x)) (let e : value.Bool true ≡ v = cc in e) (record { kind = refl; worth = grind (arith, ints, one_is); in_range = refl })
bool_stands n false false v zero_is one_is is = absurd (cc)

dint_stands : (n : ℤ) (outside : Bool) (v : Value) → is_in_range kind.Dint n ≡ not outside → (if outside then None else Some (value.Dint n)) ≡ Some v → Stands kind.Dint n (literals.Value v)
dint_stands n true v range is = absurd (cc)
dint_stands n false v range is =
    subst (λ x. Stands kind.Dint n (literals.Value x)) (let e : value.Dint n ≡ v = cc in e) (record { kind = refl; worth = refl; in_range = range })

time_stands : (n : ℤ) (outside : Bool) (v : Value) → is_in_range kind.Time n ≡ not outside → (if outside then None else Some (value.Time n)) ≡ Some v → Stands kind.Time n (literals.Value v)
time_stands n true v range is = absurd (cc)
time_stands n false v range is =
    subst (λ x. Stands kind.Time n (literals.Value x)) (let e : value.Time n ≡ v = cc in e) (record { kind = refl; worth = refl; in_range = range })

-- the value that fits a kind, as a literal
pub fitted_stands : (k : Kind) (n : ℤ) (v : Value) → fitted k (Whole n) ≡ Some v → Stands k n (literals.Value v)
fitted_stands kind.Bool n v is = bool_stands n (int_eq n (pos 0)) (int_eq n (pos 1)) v refl refl is
fitted_stands kind.Dint n v is = dint_stands n (is_outside (negsuc 2147483647) (pos 2147483647) n) v refl is
fitted_stands kind.Time n v is = time_stands n (is_outside (negsuc 9223372036854775807) (pos 9223372036854775807) n) v refl is

-- a literal is that of a kind for a result
pub record IsFor (o : Option Kind) (r : Outcome) (l : Literal) : Type 0 where
  pub kind : Kind
  pub number : ℤ
  pub of_kind : o ≡ Some kind
  pub result : r ≡ Ok number
  pub stands : Stands kind number l

value_is_for : (k : Kind) (n : ℤ) (found : Option Value) (l : Literal) → fitted k (Whole n) ≡ found → option_map literals.Value found ≡ Some l → IsFor (Some k) (Ok n) l
value_is_for k n None l found is = absurd (cc)
value_is_for k n (Some v) l found is =
    let e : literals.Value v ≡ l = cc in
    record { kind = k; number = n; of_kind = refl; result = refl; stands = subst (Stands k n) e (fitted_stands k n v found) }

pub is_for : (o : Option Kind) (r : Outcome) (l : Literal) → literal_of o r ≡ Some l → IsFor o r l
is_for None r l is = absurd (cc)
is_for (Some k) (Err trap) l is = absurd (cc)
is_for (Some k) (Ok n) l is = value_is_for k n (fitted k (Whole n)) l refl is

-- a folded operator is the operator itself, or a literal in the place of an operator on literals
module _ {V : Type 0} (Holds : PlainExpr V → PlainExpr V → Type 0) (same : (e : PlainExpr V) → Holds e e)
    (of_unary : (op : Unary) (a l : Literal) → IsFor (unary_kind op (literal_kind a)) (eval_unary op (literal_worth a)) l → Holds (unary op (literal a)) (literal l))
    (of_binary : (op : Binary) (a b l : Literal) → IsFor (binary_kind op (literal_kind a) (literal_kind b)) (eval_binary op (literal_worth a) (literal_worth b)) l → Holds (binary op (literal a) (literal b)) (literal l)) where
  unary_by : (op : Unary) (a : Literal) (o : Option Literal) → unary_literal op a ≡ o → Holds (unary op (literal a)) (literal_or (unary op (literal a)) o)
  unary_by op a None is = same (unary op (literal a))
  unary_by op a (Some l) is = of_unary op a l (is_for (unary_kind op (literal_kind a)) (eval_unary op (literal_worth a)) l is)

  binary_by : (op : Binary) (a b : Literal) (o : Option Literal) → binary_literal op a b ≡ o → Holds (binary op (literal a) (literal b)) (literal_or (binary op (literal a) (literal b)) o)
  binary_by op a b None is = same (binary op (literal a) (literal b))
  binary_by op a b (Some l) is = of_binary op a b l (is_for (binary_kind op (literal_kind a) (literal_kind b)) (eval_binary op (literal_worth a) (literal_worth b)) l is)

  pub node_holds : (e : PlainExpr V) → Holds e (folded_node e)
  node_holds (literal n) = same (literal n)
  node_holds (read v) = same (read v)
  node_holds (output_of instance name) = same (output_of instance name)
  node_holds (element v bounds index) = same (element v bounds index)
  node_holds (unary op (literal a)) = unary_by op a (unary_literal op a) refl
  node_holds (unary op a) = same (unary op a)
  node_holds (binary op (literal a) (literal b)) = binary_by op a b (binary_literal op a b) refl
  node_holds (binary op (literal a) b) = same (binary op (literal a) b)
  node_holds (binary op a b) = same (binary op a b)
