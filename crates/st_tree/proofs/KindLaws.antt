-- Where kind_of_expr finds a kind, kind_in gives the same one.
use Rattle.std.proofs.Common.{◌≡◌, refl, ap, ◌∙◌, Bool, true, false}
use Rattle.std.specs.Prelude.{Option, Some, None, option_and_then, if◌then◌else◌}
use Rattle.plant_types.specs.declared.values.Kind.{Kind}
use Rattle.plant_types.specs.declared.values.Kind.TheVariants as kind
use Rattle.st_tree.specs.declared.tree.Unary.{Unary}
use Rattle.st_tree.specs.declared.tree.Unary.TheVariants.{Not, Negate, NegateTime}
use Rattle.st_tree.specs.declared.tree.Binary.{Binary}
use Rattle.st_tree.specs.declared.tree.Binary.TheVariants.{And, Xor, Or, Equal, Unequal, Less, Greater, AtMost, AtLeast, Add, AddTime, Subtract, SubtractTime, Multiply, Divide, Mod}
use Rattle.st_tree.specs.Plain.{PlainExpr, literal, read, output_of, element, unary, binary}
use Rattle.st_tree.specs.Kinds.{literal_in_range, literal_kind, same_kind, unary_kind, binary_kind, unary_result, binary_result, Sorts, KindsOf, AreSorts, is_kind, kind_of_expr, kind_in, of_truths, of_numbers, of_times, of_sums, of_order}

unary_result_is : (op : Unary) (a r : Kind) → unary_kind op a ≡ Some r → unary_result op a ≡ r
unary_result_is Not kind.Bool r is = cc
unary_result_is Not kind.Dint r is = absurd (cc)
unary_result_is Not kind.Time r is = absurd (cc)
unary_result_is Negate kind.Bool r is = absurd (cc)
unary_result_is Negate kind.Dint r is = cc
unary_result_is Negate kind.Time r is = cc
unary_result_is NegateTime kind.Bool r is = absurd (cc)
unary_result_is NegateTime kind.Dint r is = absurd (cc)
unary_result_is NegateTime kind.Time r is = cc

truths : (a b r : Kind) → of_truths a b ≡ Some r → kind.Bool ≡ r
truths kind.Bool kind.Bool r is = cc
truths kind.Bool kind.Dint r is = absurd (cc)
truths kind.Bool kind.Time r is = absurd (cc)
truths kind.Dint b r is = absurd (cc)
truths kind.Time b r is = absurd (cc)

numbers : (a b r : Kind) → of_numbers a b ≡ Some r → kind.Dint ≡ r
numbers kind.Dint kind.Dint r is = cc
numbers kind.Dint kind.Bool r is = absurd (cc)
numbers kind.Dint kind.Time r is = absurd (cc)
numbers kind.Bool b r is = absurd (cc)
numbers kind.Time b r is = absurd (cc)

times : (a b r : Kind) → of_times a b ≡ Some r → kind.Time ≡ r
times kind.Time kind.Time r is = cc
times kind.Time kind.Bool r is = absurd (cc)
times kind.Time kind.Dint r is = absurd (cc)
times kind.Bool b r is = absurd (cc)
times kind.Dint b r is = absurd (cc)

sums : (a b r : Kind) → of_sums a b ≡ Some r → a ≡ r
sums kind.Dint kind.Dint r is = cc
sums kind.Dint kind.Bool r is = absurd (cc)
sums kind.Dint kind.Time r is = absurd (cc)
sums kind.Time kind.Time r is = cc
sums kind.Time kind.Bool r is = absurd (cc)
sums kind.Time kind.Dint r is = absurd (cc)
sums kind.Bool b r is = absurd (cc)

orders : (a b r : Kind) → of_order a b ≡ Some r → kind.Bool ≡ r
orders kind.Dint kind.Dint r is = cc
orders kind.Dint kind.Bool r is = absurd (cc)
orders kind.Dint kind.Time r is = absurd (cc)
orders kind.Time kind.Time r is = cc
orders kind.Time kind.Bool r is = absurd (cc)
orders kind.Time kind.Dint r is = absurd (cc)
orders kind.Bool b r is = absurd (cc)

equals : (same : Bool) (r : Kind) → (if same then Some kind.Bool else None) ≡ Some r → kind.Bool ≡ r
equals true r is = cc
equals false r is = absurd (cc)

binary_result_is : (op : Binary) (a b r : Kind) → binary_kind op a b ≡ Some r → binary_result op a ≡ r
binary_result_is And a b r is = truths a b r is
binary_result_is Xor a b r is = truths a b r is
binary_result_is Or a b r is = truths a b r is
binary_result_is Equal a b r is = equals (same_kind a b) r is
binary_result_is Unequal a b r is = equals (same_kind a b) r is
binary_result_is Less a b r is = orders a b r is
binary_result_is Greater a b r is = orders a b r is
binary_result_is AtMost a b r is = orders a b r is
binary_result_is AtLeast a b r is = orders a b r is
binary_result_is Add a b r is = sums a b r is
binary_result_is AddTime a b r is = times a b r is
binary_result_is Subtract a b r is = sums a b r is
binary_result_is SubtractTime a b r is = times a b r is
binary_result_is Multiply a b r is = numbers a b r is
binary_result_is Divide a b r is = numbers a b r is
binary_result_is Mod a b r is = numbers a b r is

literal_kind_is : (within : Bool) (k r : Kind) → (if within then Some k else None) ≡ Some r → k ≡ r
literal_kind_is true k r is = cc
literal_kind_is false k r is = absurd (cc)

element_kind_is : (is_index : Bool) (o : Option Kind) (r : Kind) → (if is_index then o else None) ≡ Some r → o ≡ Some r
element_kind_is true o r is = is
element_kind_is false o r is = absurd (cc)

module _ {V : Type 0} (sorts : Sorts V) (kinds : KindsOf V) (agrees : AreSorts sorts kinds) where
  unary_of_kind : (op : Unary) (o : Option Kind) (a r : Kind) → ((k : Kind) → o ≡ Some k → a ≡ k) → option_and_then (unary_kind op) o ≡ Some r → unary_result op a ≡ r
  unary_of_kind op None a r same is = absurd (cc)
  unary_of_kind op (Some k) a r same is = ap (unary_result op) (same k refl) ∙ unary_result_is op k r is

  binary_of_kind : (op : Binary) (o p : Option Kind) (a r : Kind) → ((k : Kind) → o ≡ Some k → a ≡ k) → option_and_then (λ k. option_and_then (binary_kind op k) p) o ≡ Some r → binary_result op a ≡ r
  binary_of_kind op None p a r same is = absurd (cc)
  binary_of_kind op (Some k) None a r same is = absurd (cc)
  binary_of_kind op (Some k) (Some l) a r same is = ap (binary_result op) (same k refl) ∙ binary_result_is op k l r is

  pub kind_of_expr_is_kind_in : (e : PlainExpr V) (r : Kind) → kind_of_expr sorts e ≡ Some r → kind_in kinds e ≡ r
  kind_of_expr_is_kind_in (literal n) r is = literal_kind_is (literal_in_range n) (literal_kind n) r is
  kind_of_expr_is_kind_in (read v) r is = agrees.variable_is v r is
  kind_of_expr_is_kind_in (output_of instance name) r is = agrees.output_is instance name r is
  kind_of_expr_is_kind_in (element v bounds index) r is = agrees.element_is v bounds r (element_kind_is (is_kind kind.Dint (kind_of_expr sorts index)) (sorts.element v bounds) r is)
  kind_of_expr_is_kind_in (unary op a) r is = unary_of_kind op (kind_of_expr sorts a) (kind_in kinds a) r (λ k e. kind_of_expr_is_kind_in a k e) is
  kind_of_expr_is_kind_in (binary op a b) r is = binary_of_kind op (kind_of_expr sorts a) (kind_of_expr sorts b) (kind_in kinds a) r (λ k e. kind_of_expr_is_kind_in a k e) is
