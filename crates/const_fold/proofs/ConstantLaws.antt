-- Folding keeps constants and kinds, and a constant that doesn't trap becomes a literal.
use Rattle.std.proofs.Common.{◌≡◌, ◌∙◌, refl, ap, sym, Bool, true, false}
use Rattle.std.specs.Prelude.{Option, Some, None, option_map, option_and_then, Ok, if◌then◌else◌}
use Rattle.plant_types.specs.declared.values.Kind.{Kind}
use Rattle.plant_types.specs.declared.values.Kind.TheVariants as kind
use Rattle.st_tree.specs.declared.tree.Literal.{Literal}
use Rattle.st_tree.specs.declared.tree.Unary.{Unary}
use Rattle.st_tree.specs.declared.tree.Binary.{Binary}
use Rattle.st_tree.specs.Constants.{constant_of}
use Rattle.st_tree.specs.Kinds.{literal_kind, literal_in_range, unary_kind, binary_kind, Sorts, is_kind, kind_of_expr}
use Rattle.st_tree.specs.Meaning.{then_one, then_two}
use Rattle.st_tree.specs.Operators.{Outcome, eval_unary, eval_binary}
use Rattle.st_tree.specs.Plain.{PlainExpr, literal, read, output_of, element, unary, binary}
use Rattle.const_fold.specs.Folding.{folded_node, folded_expr}
use Rattle.const_fold.proofs.LiteralLaws.{IsFor, node_holds}

module _ {V : Type 0} where
  node_constant : (e : PlainExpr V) → constant_of (folded_node e) ≡ constant_of e
  node_constant e =
      node_holds (λ e f. constant_of f ≡ constant_of e) (λ e. refl)
      (λ op a l is. ap Some (ap Ok is.stands.worth ∙ sym is.result)) (λ op a b l is. ap Some (ap Ok is.stands.worth ∙ sym is.result)) e

  pub constant_kept : (e : PlainExpr V) → constant_of (folded_expr e) ≡ constant_of e
  constant_kept (literal n) = refl
  constant_kept (read v) = refl
  constant_kept (output_of instance name) = refl
  constant_kept (element v bounds index) = refl
  constant_kept (unary op a) = node_constant (unary op (folded_expr a)) ∙ ap (option_map (λ x. then_one x (eval_unary op))) (constant_kept a)
  constant_kept (binary op a b) =
      node_constant (binary op (folded_expr a) (folded_expr b))
      ∙ (λ i. option_and_then (λ x. option_map (λ y. then_two x y (eval_binary op)) (constant_kept b i)) (constant_kept a i))

module _ {V : Type 0} (sorts : Sorts V) where
  -- a literal in range has its kind
  literal_kept : (l : Literal) (j k : Kind) → literal_in_range l ≡ true → literal_kind l ≡ j → j ≡ k → kind_of_expr sorts (literal l) ≡ Some k
  literal_kept l j k within of is = ap (λ b. if b then Some (literal_kind l) else None) within ∙ ap Some (of ∙ is)

  unary_node : (within : Bool) (op : Unary) (a k : Kind) (r : Outcome) (l : Literal) → IsFor (unary_kind op a) r l → option_and_then (unary_kind op) (if within then Some a else None) ≡ Some k
      → kind_of_expr sorts (literal l) ≡ Some k
  unary_node true op a k r l for is = let e : for.kind ≡ k = let of = for.of_kind in cc in literal_kept l for.kind k for.stands.in_range for.stands.kind e
  unary_node false op a k r l for is = absurd (cc)

  binary_node : (within also : Bool) (op : Binary) (a b k : Kind) (r : Outcome) (l : Literal) → IsFor (binary_kind op a b) r l
      → option_and_then (λ j. option_and_then (binary_kind op j) (if also then Some b else None)) (if within then Some a else None) ≡ Some k → kind_of_expr sorts (literal l) ≡ Some k
  binary_node true true op a b k r l for is = let e : for.kind ≡ k = let of = for.of_kind in cc in literal_kept l for.kind k for.stands.in_range for.stands.kind e
  binary_node true false op a b k r l for is = absurd (cc)
  binary_node false also op a b k r l for is = absurd (cc)

  node_kind : (e : PlainExpr V) (k : Kind) → kind_of_expr sorts e ≡ Some k → kind_of_expr sorts (folded_node e) ≡ Some k
  node_kind e =
      node_holds (λ e f. (k : Kind) → kind_of_expr sorts e ≡ Some k → kind_of_expr sorts f ≡ Some k) (λ e k is. is)
      (λ op a l for k is. unary_node (literal_in_range a) op (literal_kind a) k _ l for is)
      (λ op a b l for k is. binary_node (literal_in_range a) (literal_in_range b) op (literal_kind a) (literal_kind b) k _ l for is) e

  unary_kept : (op : Unary) (o p : Option Kind) (k : Kind) → ((j : Kind) → o ≡ Some j → p ≡ Some j) → option_and_then (unary_kind op) o ≡ Some k → option_and_then (unary_kind op) p ≡ Some k
  unary_kept op None p k same is = absurd (cc)
  unary_kept op (Some j) p k same is = ap (option_and_then (unary_kind op)) (same j refl) ∙ is

  binary_kept : (op : Binary) (o p q r : Option Kind) (k : Kind) → ((j : Kind) → o ≡ Some j → p ≡ Some j) → ((j : Kind) → q ≡ Some j → r ≡ Some j)
      → option_and_then (λ j. option_and_then (binary_kind op j) q) o ≡ Some k → option_and_then (λ j. option_and_then (binary_kind op j) r) p ≡ Some k
  binary_kept op None p q r k same also is = absurd (cc)
  binary_kept op (Some i) p None r k same also is = absurd (cc)
  binary_kept op (Some i) p (Some j) r k same also is = (λ t. option_and_then (λ x. option_and_then (binary_kind op x) (also j refl t)) (same i refl t)) ∙ is

  element_kept : (o p : Option Kind) (element_kind : Option Kind) (k : Kind) → ((j : Kind) → o ≡ Some j → p ≡ Some j) → (if is_kind kind.Dint o then element_kind else None) ≡ Some k
      → (if is_kind kind.Dint p then element_kind else None) ≡ Some k
  element_kept None p element_kind k same is = absurd (cc)
  element_kept (Some j) p element_kind k same is = ap (λ r. if is_kind kind.Dint r then element_kind else None) (same j refl) ∙ is

  pub kind_kept : (e : PlainExpr V) (k : Kind) → kind_of_expr sorts e ≡ Some k → kind_of_expr sorts (folded_expr e) ≡ Some k
  kind_kept (literal n) k is = is
  kind_kept (read v) k is = is
  kind_kept (output_of instance name) k is = is
  kind_kept (element v bounds index) k is =
      element_kept (kind_of_expr sorts index) (kind_of_expr sorts (folded_expr index)) (sorts.element v bounds) k (kind_kept index) is
  kind_kept (unary op a) k is =
      node_kind (unary op (folded_expr a)) k (unary_kept op (kind_of_expr sorts a) (kind_of_expr sorts (folded_expr a)) k (kind_kept a) is)
  kind_kept (binary op a b) k is =
      node_kind (binary op (folded_expr a) (folded_expr b)) k
      (binary_kept op (kind_of_expr sorts a) (kind_of_expr sorts (folded_expr a)) (kind_of_expr sorts b) (kind_of_expr sorts (folded_expr b)) k
      (kind_kept a) (kind_kept b) is)
