-- Folding keeps the rules of statements.
use Rattle.std.proofs.Common.{◌≡◌, ◌∙◌, refl, ap, Bool, true, false, List, [], ◌∷◌, map}
use Rattle.std.specs.Prelude.{◌&&◌, ◌||◌, Option, Some, None}
use Rattle.std.specs.List.{list_all}
use Rattle.std.proofs.lemmas.Bool.{and_parts}
use Rattle.plant_types.specs.declared.values.Kind.{Kind}
use Rattle.plant_types.specs.declared.values.Kind.TheVariants as kind
use Rattle.st_tree.specs.declared.tree.Label.{Label}
use Rattle.st_tree.specs.Plain.{PlainExpr, literal, read, output_of, element, unary, binary, PlainArgument, input, output}
use Rattle.st_tree.specs.Plain.{PlainStmt, empty, assign, store, call, if_else, case_of, for_to, PlainBody, done, next, Branches, no_branch, branch, Choices, no_choice, choice}
use Rattle.st_tree.specs.Every.{every, every_inside, every_branch, every_choice}
use Rattle.st_tree.specs.Fits.{Context, sorts_of, is_of, option_is_of, fits_option, argument_fits, stmt_fits, all_fit, branches_fit, choices_fit, may_control, stmt_controls_fit, controls_fit, branches_controls_fit, choices_controls_fit}
use Rattle.st_tree.specs.Kinds.{kind_of_expr, is_kind, same_kind, is_bit}
use Rattle.st_tree.specs.Mapping.{mapped_argument, mapped_branches, mapped_choices}
use Rattle.const_fold.specs.Folding.{folding, folded_expr, folded_option, folded_stmt, folded_body}
use Rattle.const_fold.specs.Laws.{all_labels, has_labels}
use Rattle.const_fold.proofs.ConstantLaws.{kind_kept}

both : (a b c d : Bool) → (a ≡ true → c ≡ true) → (b ≡ true → d ≡ true) → (a && b) ≡ true → (c && d) ≡ true
both a b c d first second is = let parts = and_parts a b is in λ i. first parts.0 i && second parts.1 i

either : (a b c d : Bool) → (a ≡ true → c ≡ true) → (b ≡ true → d ≡ true) → (a || b) ≡ true → (c || d) ≡ true
either true b c d first second is = ap (λ x. x || d) (first refl)
either false b true d first second is = refl
either false b false d first second is = second is

bit_kept : {V : Type 0} (e : PlainExpr V) → is_bit e ≡ true → is_bit (folded_expr e) ≡ true
bit_kept (literal n) is = is
bit_kept (read v) is = is
bit_kept (output_of instance name) is = is
bit_kept (element v bounds index) is = absurd (cc)
bit_kept (unary op a) is = absurd (cc)
bit_kept (binary op a b) is = absurd (cc)

module _ {V : Type 0} (context : Context V) where
  of_kind : (k : Kind) (e : PlainExpr V) (o : Option Kind) → kind_of_expr (sorts_of context) e ≡ o → is_kind k o ≡ true → is_of context k (folded_expr e) ≡ true
  of_kind k e None found is = absurd (cc)
  of_kind k e (Some j) found is = ap (is_kind k) (kind_kept (sorts_of context) e j found) ∙ is

  of_kept : (k : Kind) (e : PlainExpr V) → is_of context k e ≡ true → is_of context k (folded_expr e) ≡ true
  of_kept k e is = of_kind k e (kind_of_expr (sorts_of context) e) refl is

  option_kept : (k : Kind) (e : Option (PlainExpr V)) → option_is_of context k e ≡ true → option_is_of context k (folded_option e) ≡ true
  option_kept k None is = is
  option_kept k (Some e) is = of_kept k e is

  assigned_kept : (o : Option Kind) (e : PlainExpr V) → fits_option context o e ≡ true → fits_option context o (folded_expr e) ≡ true
  assigned_kept None e is = absurd (cc)
  assigned_kept (Some k) e is =
      either (is_of context k e) (same_kind k kind.Bool && is_bit e) (is_of context k (folded_expr e)) (same_kind k kind.Bool && is_bit (folded_expr e)) (of_kept k e)
      (both (same_kind k kind.Bool) (is_bit e) (same_kind k kind.Bool) (is_bit (folded_expr e)) (λ h. h) (bit_kept e)) is

  argument_kept : (instance : V) (a : PlainArgument V) → argument_fits context instance a ≡ true → argument_fits context instance (mapped_argument folding instance a) ≡ true
  argument_kept instance (input name e) is = assigned_kept (context.input_kind instance name) e is
  argument_kept instance (output name v) is = is

  arguments_kept : (instance : V) (arguments : List (PlainArgument V)) → list_all (argument_fits context instance) arguments ≡ true → list_all (argument_fits context instance) (map (mapped_argument folding instance) arguments) ≡ true
  arguments_kept instance [] is = is
  arguments_kept instance (a ∷ rest) is =
      both (argument_fits context instance a) (list_all (argument_fits context instance) rest) (argument_fits context instance (mapped_argument folding instance a))
      (list_all (argument_fits context instance) (map (mapped_argument folding instance) rest)) (argument_kept instance a) (arguments_kept instance rest) is

  mutual
    stmt_kept : (s : PlainStmt V) → stmt_fits context s ≡ true → stmt_fits context (folded_stmt s) ≡ true
    stmt_kept (empty number) is = is
    stmt_kept (assign number v e) is =
        both (context.may_assign v) (fits_option context (context.variable_kind v) e) (context.may_assign v) (fits_option context (context.variable_kind v) (folded_expr e)) (λ h. h) (assigned_kept (context.variable_kind v) e) is
    stmt_kept (store number v bounds index value) is =
        both (is_of context kind.Dint index) (fits_option context (context.element_kind v bounds) value) (is_of context kind.Dint (folded_expr index)) (fits_option context (context.element_kind v bounds) (folded_expr value))
        (of_kept kind.Dint index) (assigned_kept (context.element_kind v bounds) value) is
    stmt_kept (call number instance arguments) is =
        both (context.is_instance instance) (list_all (argument_fits context instance) arguments) (context.is_instance instance) (list_all (argument_fits context instance) (map (mapped_argument folding instance) arguments))
        (λ h. h) (arguments_kept instance arguments) is
    stmt_kept (if_else number branches last) is =
        both (branches_fit context branches) (all_fit context last) (branches_fit context (mapped_branches folding branches)) (all_fit context (folded_body last)) (branches_kept branches) (body_kept last) is
    stmt_kept (case_of number e choices last) is =
        both (is_of context kind.Dint e) (choices_fit context choices && all_fit context last) (is_of context kind.Dint (folded_expr e)) (choices_fit context (mapped_choices folding choices) && all_fit context (folded_body last))
        (of_kept kind.Dint e) (both (choices_fit context choices) (all_fit context last) (choices_fit context (mapped_choices folding choices)) (all_fit context (folded_body last)) (choices_kept choices) (body_kept last)) is
    stmt_kept (for_to number v from to by body) is =
        both (is_of context kind.Dint from) (is_of context kind.Dint to && (option_is_of context kind.Dint by && all_fit context body))
        (is_of context kind.Dint (folded_expr from)) (is_of context kind.Dint (folded_expr to) && (option_is_of context kind.Dint (folded_option by) && all_fit context (folded_body body))) (of_kept kind.Dint from)
        (both (is_of context kind.Dint to) (option_is_of context kind.Dint by && all_fit context body) (is_of context kind.Dint (folded_expr to)) (option_is_of context kind.Dint (folded_option by) && all_fit context (folded_body body)) (of_kept kind.Dint to)
        (both (option_is_of context kind.Dint by) (all_fit context body) (option_is_of context kind.Dint (folded_option by)) (all_fit context (folded_body body)) (option_kept kind.Dint by) (body_kept body))) is

    pub body_kept : (body : PlainBody V) → all_fit context body ≡ true → all_fit context (folded_body body) ≡ true
    body_kept done is = is
    body_kept (next s rest) is = both (stmt_fits context s) (all_fit context rest) (stmt_fits context (folded_stmt s)) (all_fit context (folded_body rest)) (stmt_kept s) (body_kept rest) is

    branches_kept : (branches : Branches V) → branches_fit context branches ≡ true → branches_fit context (mapped_branches folding branches) ≡ true
    branches_kept no_branch is = is
    branches_kept (branch test body rest) is =
        both (is_of context kind.Bool test) (all_fit context body && branches_fit context rest) (is_of context kind.Bool (folded_expr test)) (all_fit context (folded_body body) && branches_fit context (mapped_branches folding rest))
        (of_kept kind.Bool test) (both (all_fit context body) (branches_fit context rest) (all_fit context (folded_body body)) (branches_fit context (mapped_branches folding rest)) (body_kept body) (branches_kept rest)) is

    choices_kept : (choices : Choices V) → choices_fit context choices ≡ true → choices_fit context (mapped_choices folding choices) ≡ true
    choices_kept no_choice is = is
    choices_kept (choice labels body rest) is =
        both (all_fit context body) (choices_fit context rest) (all_fit context (folded_body body)) (choices_fit context (mapped_choices folding rest)) (body_kept body) (choices_kept rest) is

  mutual
    stmt_controls : (s : PlainStmt V) → stmt_controls_fit context (folded_stmt s) ≡ stmt_controls_fit context s
    stmt_controls (empty number) = refl
    stmt_controls (assign number v e) = refl
    stmt_controls (store number v bounds index value) = refl
    stmt_controls (call number instance arguments) = refl
    stmt_controls (if_else number branches last) = λ i. branches_controls branches i && body_controls last i
    stmt_controls (case_of number e choices last) = λ i. choices_controls choices i && body_controls last i
    stmt_controls (for_to number v from to by body) = ap (λ b. may_control context v && b) (body_controls body)

    pub body_controls : (body : PlainBody V) → controls_fit context (folded_body body) ≡ controls_fit context body
    body_controls done = refl
    body_controls (next s rest) = λ i. stmt_controls s i && body_controls rest i

    branches_controls : (branches : Branches V) → branches_controls_fit context (mapped_branches folding branches) ≡ branches_controls_fit context branches
    branches_controls no_branch = refl
    branches_controls (branch test body rest) = λ i. body_controls body i && branches_controls rest i

    choices_controls : (choices : Choices V) → choices_controls_fit context (mapped_choices folding choices) ≡ choices_controls_fit context choices
    choices_controls no_choice = refl
    choices_controls (choice labels body rest) = λ i. body_controls body i && choices_controls rest i

module _ {V : Type 0} (rule : PlainStmt V → Bool) (keeps : (s : PlainStmt V) → rule (folded_stmt s) ≡ rule s) where
  mutual
    inside_rules : (s : PlainStmt V) → every_inside rule (folded_stmt s) ≡ every_inside rule s
    inside_rules (empty number) = refl
    inside_rules (assign number v e) = refl
    inside_rules (store number v bounds index value) = refl
    inside_rules (call number instance arguments) = refl
    inside_rules (if_else number branches last) = λ i. branches_rules branches i && body_rules last i
    inside_rules (case_of number e choices last) = λ i. choices_rules choices i && body_rules last i
    inside_rules (for_to number v from to by body) = body_rules body

    pub body_rules : (body : PlainBody V) → every rule (folded_body body) ≡ every rule body
    body_rules done = refl
    body_rules (next s rest) = λ i. keeps s i && (inside_rules s i && body_rules rest i)

    branches_rules : (branches : Branches V) → every_branch rule (mapped_branches folding branches) ≡ every_branch rule branches
    branches_rules no_branch = refl
    branches_rules (branch test body rest) = λ i. body_rules body i && branches_rules rest i

    choices_rules : (choices : Choices V) → every_choice rule (mapped_choices folding choices) ≡ every_choice rule choices
    choices_rules no_choice = refl
    choices_rules (choice labels body rest) = λ i. body_rules body i && choices_rules rest i

module _ {V : Type 0} (test : List Label → Bool) where
  all_labels_stay : (choices : Choices V) → all_labels test (mapped_choices folding choices) ≡ all_labels test choices
  all_labels_stay no_choice = refl
  all_labels_stay (choice labels body rest) = ap (λ b. test labels && b) (all_labels_stay rest)

  pub labels_stay : (s : PlainStmt V) → has_labels test (folded_stmt s) ≡ has_labels test s
  labels_stay (empty number) = refl
  labels_stay (assign number v e) = refl
  labels_stay (store number v bounds index value) = refl
  labels_stay (call number instance arguments) = refl
  labels_stay (if_else number branches last) = refl
  labels_stay (case_of number e choices last) = all_labels_stay choices
  labels_stay (for_to number v from to by body) = refl
