-- A constant expression that has a kind and doesn't trap becomes a literal.
use Rattle.std.proofs.Common.{◌≡◌, ◌∙◌, refl, ap, sym, subst, ℤ, pos, negsuc, Bool, true, false, arith}
use Rattle.std.specs.Prelude.{Option, Some, None, option_map, option_and_then, Ok, Err, not, if◌then◌else◌}
use Rattle.std.specs.Ordering.{int_eq}
use Rattle.std.proofs.lemmas.Int.{ints}
use Rattle.plant_types.specs.declared.values.Given.TheVariants.{Whole}
use Rattle.plant_types.specs.declared.values.Kind.{Kind}
use Rattle.plant_types.specs.declared.values.Kind.TheVariants as kind
use Rattle.plant_types.specs.declared.values.Value.TheVariants as value
use Rattle.plant_types.specs.Values.{is_outside, is_in_range, value_of_kind, fitted}
use Rattle.st_tree.specs.declared.tree.Literal.{Literal}
use Rattle.st_tree.specs.declared.tree.Literal.TheVariants as literals
use Rattle.st_tree.specs.declared.tree.Unary.{Unary}
use Rattle.st_tree.specs.declared.tree.Binary.{Binary}
use Rattle.st_tree.specs.Constants.{constant_of}
use Rattle.st_tree.specs.Kinds.{literal_kind, literal_in_range, unary_kind, binary_kind, Sorts, kind_of_expr}
use Rattle.st_tree.specs.Meaning.{literal_worth, then_one, then_two}
use Rattle.st_tree.specs.Operators.{Outcome, eval_unary, eval_binary}
use Rattle.st_tree.specs.Plain.{PlainExpr, literal, read, output_of, element, unary, binary}
use Rattle.st_tree.proofs.RangeLaws.{literal_in, unary_in_range, binary_in_range}
use Rattle.const_fold.specs.Folding.{literal_of, unary_literal, binary_literal, literal_or, folded_node, folded_expr}
use Rattle.const_fold.specs.Laws.{IsLiteral}
use Rattle.const_fold.proofs.LiteralLaws.{fitted_stands}

bool_back : (n : ℤ) (zero one : Bool) → int_eq n (pos 0) ≡ zero → int_eq n (pos 1) ≡ one → is_in_range kind.Bool n ≡ true
    → (if zero then Some (value.Bool false) else if one then Some (value.Bool true) else None) ≡ Some (value.Bool (not zero))
bool_back n true one zero_is one_is range = refl
bool_back n false true zero_is one_is range = refl
bool_back n false false zero_is one_is range = absurd (grind (arith, ints, zero_is, one_is, range))

ranged_back : {A : Type 0} (outside : Bool) (a : A) → not outside ≡ true → (if outside then None else Some a) ≡ Some a
ranged_back true a range = absurd (cc)
ranged_back false a range = refl

-- a number in range fits its kind
fitted_back : (k : Kind) (n : ℤ) → is_in_range k n ≡ true → fitted k (Whole n) ≡ Some (value_of_kind k n)
fitted_back kind.Bool n range = bool_back n (int_eq n (pos 0)) (int_eq n (pos 1)) refl refl range
fitted_back kind.Dint n range = ranged_back (is_outside (negsuc 2147483647) (pos 2147483647) n) (value.Dint n) range
fitted_back kind.Time n range = ranged_back (is_outside (negsuc 9223372036854775807) (pos 9223372036854775807) n) (value.Time n) range

module _ {V : Type 0} where
  made : (e : PlainExpr V) (k : Kind) (n : ℤ) (o : Option Literal) → is_in_range k n ≡ true → o ≡ literal_of (Some k) (Ok n) → IsLiteral k n (literal_or e o)
  made e k n o range is =
      let v = value_of_kind k n in
      let found : fitted k (Whole n) ≡ Some v = fitted_back k n range in
      let stands = fitted_stands k n v found in
      let there : o ≡ Some (literals.Value v) = is ∙ ap (option_map literals.Value) found in
      record { value = literals.Value v; is = ap (literal_or e) there; kind = stands.kind; worth = stands.worth; in_range = stands.in_range }

  unary_made : (op : Unary) (a : PlainExpr V) (j k : Kind) (m n : ℤ) → IsLiteral j m a → unary_kind op j ≡ Some k → eval_unary op m ≡ Ok n → IsLiteral k n (folded_node (unary op a))
  unary_made op a j k m n l of gives =
      subst (λ x. IsLiteral k n (folded_node (unary op x))) (sym l.is)
      (made (unary op (literal l.value)) k n (unary_literal op l.value) (unary_in_range op j k m n of gives)
      (λ i. literal_of ((ap (unary_kind op) l.kind ∙ of) i) ((ap (eval_unary op) l.worth ∙ gives) i)))

  binary_made : (op : Binary) (a b : PlainExpr V) (j i k : Kind) (x y n : ℤ) → IsLiteral j x a → IsLiteral i y b → binary_kind op j i ≡ Some k → eval_binary op x y ≡ Ok n → IsLiteral k n (folded_node (binary op a b))
  binary_made op a b j i k x y n l r of gives =
      let kinds : binary_kind op (literal_kind l.value) (literal_kind r.value) ≡ Some k = (λ t. binary_kind op (l.kind t) (r.kind t)) ∙ of in
      let results : eval_binary op (literal_worth l.value) (literal_worth r.value) ≡ Ok n = (λ t. eval_binary op (l.worth t) (r.worth t)) ∙ gives in
      let whole : IsLiteral k n (folded_node (binary op (literal l.value) (literal r.value))) =
      made (binary op (literal l.value) (literal r.value)) k n (binary_literal op l.value r.value) (binary_in_range op j i k x y n of (literal_in l.value j x l.in_range l.kind l.worth) gives) (λ t. literal_of (kinds t) (results t)) in
      subst (λ p. IsLiteral k n (folded_node (binary op p b))) (sym l.is) (subst (λ q. IsLiteral k n (folded_node (binary op (literal l.value) q))) (sym r.is) whole)

  literal_made : (b : Bool) (l : Literal) (k : Kind) (n : ℤ) → literal_in_range l ≡ b → (if b then Some (literal_kind l) else None) ≡ Some k → literal_worth l ≡ n → IsLiteral {V = V} k n (literal l)
  literal_made true l k n within of worth = record { value = l; is = refl; kind = cc; worth = worth; in_range = within }
  literal_made false l k n within of worth = absurd (cc)

  -- what an expression becomes, by its kind and its constant outcome
  abbrev Makes : Option Kind → Option Outcome → PlainExpr V → Type 0
  Makes p o e = (k : Kind) (n : ℤ) → p ≡ Some k → o ≡ Some (Ok n) → IsLiteral k n e

  unary_makes : (op : Unary) (a : PlainExpr V) (p : Option Kind) (o : Option Outcome) → Makes p o a → Makes (option_and_then (unary_kind op) p) (option_map (λ x. then_one x (eval_unary op)) o) (folded_node (unary op a))
  unary_makes op a None o inner k n of gives = absurd (cc)
  unary_makes op a (Some j) None inner k n of gives = absurd (cc)
  unary_makes op a (Some j) (Some (Err trap)) inner k n of gives = absurd (cc)
  unary_makes op a (Some j) (Some (Ok m)) inner k n of gives = unary_made op a j k m n (inner j m refl refl) of (cc)

  binary_makes : (op : Binary) (a b : PlainExpr V) (p q : Option Kind) (o u : Option Outcome) → Makes p o a → Makes q u b
      → Makes (option_and_then (λ j. option_and_then (binary_kind op j) q) p) (option_and_then (λ x. option_map (λ y. then_two x y (eval_binary op)) u) o) (folded_node (binary op a b))
  binary_makes op a b None q o u left right k n of gives = absurd (cc)
  binary_makes op a b (Some j) None o u left right k n of gives = absurd (cc)
  binary_makes op a b (Some j) (Some i) None u left right k n of gives = absurd (cc)
  binary_makes op a b (Some j) (Some i) (Some x) None left right k n of gives = absurd (cc)
  binary_makes op a b (Some j) (Some i) (Some (Err trap)) (Some y) left right k n of gives = absurd (cc)
  binary_makes op a b (Some j) (Some i) (Some (Ok x)) (Some (Err trap)) left right k n of gives = absurd (cc)
  binary_makes op a b (Some j) (Some i) (Some (Ok x)) (Some (Ok y)) left right k n of gives = binary_made op a b j i k x y n (left j x refl refl) (right i y refl refl) of (cc)

  module _ (sorts : Sorts V) where
    pub literals_made : (e : PlainExpr V) (k : Kind) (n : ℤ) → kind_of_expr sorts e ≡ Some k → constant_of e ≡ Some (Ok n) → IsLiteral k n (folded_expr e)
    literals_made (literal l) k n of gives = literal_made (literal_in_range l) l k n refl of (cc)
    literals_made (read v) k n of gives = absurd (cc)
    literals_made (output_of instance name) k n of gives = absurd (cc)
    literals_made (element v bounds index) k n of gives = absurd (cc)
    literals_made (unary op a) k n of gives = unary_makes op (folded_expr a) (kind_of_expr sorts a) (constant_of a) (literals_made a) k n of gives
    literals_made (binary op a b) k n of gives =
        binary_makes op (folded_expr a) (folded_expr b) (kind_of_expr sorts a) (kind_of_expr sorts b) (constant_of a) (constant_of b) (literals_made a) (literals_made b) k n of gives
