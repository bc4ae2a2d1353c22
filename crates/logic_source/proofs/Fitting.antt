-- A body that fits does so when it is meant, where the kinds by which it is meant are those of its context.
use Rattle.std.proofs.Common.{◌≡◌, ◌∙◌, ap, sym, refl, ℕ, ℤ, ◌+◌, Bool, true, List, [], ◌∷◌}
use Rattle.std.specs.Prelude.{◌&&◌, ◌||◌, if◌then◌else◌, map, Option, Some, None, option_and_then, option_map}
use Rattle.std.specs.List.{list_all}
use Rattle.std.specs.Ordering.{int_eq}
use Rattle.std.proofs.lemmas.Bool.{and_parts, or_right}
use Rattle.std.proofs.lemmas.Bool.Decides.{Decides-int_eq}
use Rattle.plant_types.specs.declared.values.Bounds.{Bounds}
use Rattle.plant_types.specs.declared.values.Kind.{Kind}
use Rattle.plant_types.specs.declared.values.Kind.TheVariants as kind
use Rattle.st_tree.specs.declared.tree.Unary.{Unary}
use Rattle.st_tree.specs.declared.tree.Unary.TheVariants.{Not, Negate, NegateTime}
use Rattle.st_tree.specs.declared.tree.Binary.{Binary}
use Rattle.st_tree.specs.declared.tree.Binary.TheVariants.{And, Xor, Or, Equal, Unequal, Less, Greater, AtMost, AtLeast, Add, AddTime, Subtract, SubtractTime, Multiply, Divide, Mod}
use Rattle.st_tree.specs.Plain.{PlainExpr, literal, read, output_of, element, unary, binary, PlainArgument, input, output}
use Rattle.st_tree.specs.Plain.{PlainStmt, empty, assign, store, call, if_else, case_of, for_to, PlainBody, done, next, Branches, no_branch, branch, Choices, no_choice, choice}
use Rattle.st_tree.specs.Every.{every, every_inside, every_branch, every_choice}
use Rattle.st_tree.specs.Numbers.{count_stmt, count_body, count_branches, count_choices, numbered_stmt, numbered, numbered_branches, numbered_choices}
use Rattle.st_tree.specs.Kinds.{KindsOf, AreSorts, kind_of_expr, kind_in, is_kind, same_kind, is_bit, unary_kind, binary_kind, resolved_unary, resolved_binary, resolved_expr, resolved_argument, resolved_stmt, resolved_body, resolved_branches, resolved_choices, meant}
use Rattle.st_tree.specs.Fits.{Context, sorts_of, is_of, option_is_of, fits_option, takes, argument_fits, stmt_fits, all_fit, branches_fit, choices_fit, may_control, stmt_controls_fit, controls_fit, branches_controls_fit, choices_controls_fit}
use Rattle.st_tree.proofs.KindLaws.{kind_of_expr_is_kind_in}
use Rattle.logic_source.specs.Names.{same_bounds}

-- the context in which each variable may be assigned
abbrev pub assigning : {V : Type 0} → Context V → Context V
assigning context = record {
  variable_kind = context.variable_kind;
  may_assign = λ v. true;
  is_instance = context.is_instance;
  input_kind = context.input_kind;
  output_kind = context.output_kind;
  element_kind = context.element_kind;
}

-- the same, where each array has its declared bounds alone
abbrev pub freely : {V : Type 0} → Context V → KindsOf V → Context V
freely context kinds = record {
  variable_kind = context.variable_kind;
  may_assign = λ v. true;
  is_instance = context.is_instance;
  input_kind = context.input_kind;
  output_kind = context.output_kind;
  element_kind = λ v bounds. if same_bounds bounds (kinds.bounds v) then context.element_kind v bounds else None;
}

same_number : (n : ℤ) → int_eq n n ≡ true
same_number n = (Decides-int_eq n n).1 refl

pub bounds_same : (bounds : Bounds) → same_bounds bounds bounds ≡ true
bounds_same bounds = λ i. same_number bounds.low i && same_number bounds.high i

pub bounds_are : (a b : Bounds) → same_bounds a b ≡ true → a ≡ b
bounds_are a b same =
    let parts = and_parts (int_eq a.low b.low) (int_eq a.high b.high) same in
    let low : a.low ≡ b.low = (Decides-int_eq a.low b.low).0 parts.0 in
    let high : a.high ≡ b.high = (Decides-int_eq a.high b.high).0 parts.1 in
    λ i. record { low = low i; high = high i }

-- ---- an operator that is chosen has the kind of the one that is written
unary_chosen : (op : Unary) (a : Kind) → unary_kind (resolved_unary op a) a ≡ unary_kind op a
unary_chosen Not a = refl
unary_chosen Negate kind.Bool = refl
unary_chosen Negate kind.Dint = refl
unary_chosen Negate kind.Time = refl
unary_chosen NegateTime a = refl

binary_chosen : (op : Binary) (a b : Kind) → binary_kind (resolved_binary op a) a b ≡ binary_kind op a b
binary_chosen And a b = refl
binary_chosen Xor a b = refl
binary_chosen Or a b = refl
binary_chosen Equal a b = refl
binary_chosen Unequal a b = refl
binary_chosen Less a b = refl
binary_chosen Greater a b = refl
binary_chosen AtMost a b = refl
binary_chosen AtLeast a b = refl
binary_chosen Add kind.Bool b = refl
binary_chosen Add kind.Dint b = refl
binary_chosen Add kind.Time kind.Bool = refl
binary_chosen Add kind.Time kind.Dint = refl
binary_chosen Add kind.Time kind.Time = refl
binary_chosen AddTime a b = refl
binary_chosen Subtract kind.Bool b = refl
binary_chosen Subtract kind.Dint b = refl
binary_chosen Subtract kind.Time kind.Bool = refl
binary_chosen Subtract kind.Time kind.Dint = refl
binary_chosen Subtract kind.Time kind.Time = refl
binary_chosen SubtractTime a b = refl
binary_chosen Multiply a b = refl
binary_chosen Divide a b = refl
binary_chosen Mod a b = refl

unary_kept : (op : Unary) (o p : Option Kind) (a r : Kind) → ((k : Kind) → o ≡ Some k → p ≡ Some k) → ((k : Kind) → o ≡ Some k → a ≡ k) → option_and_then (unary_kind op) o ≡ Some r → option_and_then (unary_kind (resolved_unary op a)) p ≡ Some r
unary_kept op None p a r kept same is = absurd (cc)
unary_kept op (Some k) p a r kept same is = (λ i. option_and_then (unary_kind (resolved_unary op (same k refl i))) (kept k refl i)) ∙ unary_chosen op k ∙ is

binary_kept : (op : Binary) (o p x y : Option Kind) (a r : Kind) → ((k : Kind) → o ≡ Some k → x ≡ Some k) → ((k : Kind) → p ≡ Some k → y ≡ Some k) → ((k : Kind) → o ≡ Some k → a ≡ k)
    → option_and_then (λ k. option_and_then (binary_kind op k) p) o ≡ Some r → option_and_then (λ k. option_and_then (binary_kind (resolved_binary op a) k) y) x ≡ Some r
binary_kept op None p x y a r kept too same is = absurd (cc)
binary_kept op (Some k) None x y a r kept too same is = absurd (cc)
binary_kept op (Some k) (Some l) x y a r kept too same is =
    (λ i. option_and_then (λ m. option_and_then (binary_kind (resolved_binary op (same k refl i)) m) (too l refl i)) (kept k refl i)) ∙ binary_chosen op k l ∙ is

-- ---- what is of a kind is of it where the kinds are kept
is_kept : (k : Kind) (o p : Option Kind) → ((r : Kind) → o ≡ Some r → p ≡ Some r) → is_kind k o ≡ true → is_kind k p ≡ true
is_kept k None p kept is = absurd (cc)
is_kept k (Some r) p kept is = ap (is_kind k) (kept r refl) ∙ is

suits_kept : (k : Kind) (o p : Option Kind) (bit other : Bool) → ((r : Kind) → o ≡ Some r → p ≡ Some r) → bit ≡ other → (is_kind k o || bit) ≡ true → (is_kind k p || other) ≡ true
suits_kept k None p bit other kept same is = or_right (is_kind k p) other (sym same ∙ is)
suits_kept k (Some r) p bit other kept same is = (λ i. is_kind k (kept r refl i) || sym same i) ∙ is

-- an element has its kind within the bounds that are declared
element_kept : (o p e f : Option Kind) (r : Kind) → ((k : Kind) → o ≡ Some k → p ≡ Some k) → ((k : Kind) → e ≡ Some k → f ≡ Some k) → (if is_kind kind.Dint o then e else None) ≡ Some r → (if is_kind kind.Dint p then f else None) ≡ Some r
element_kept None p e f r kept bounded is = absurd (cc)
element_kept (Some kind.Bool) p e f r kept bounded is = absurd (cc)
element_kept (Some kind.Dint) p e f r kept bounded is = ap (λ o. if is_kind kind.Dint o then f else None) (kept kind.Dint refl) ∙ bounded r is
element_kept (Some kind.Time) p e f r kept bounded is = absurd (cc)

module _ {V : Type 0} (context : Context V) (kinds : KindsOf V) (agrees : AreSorts (sorts_of context) kinds)
    (bounded : (v : V) (bounds : Bounds) (k : Kind) → context.element_kind v bounds ≡ Some k → context.element_kind v (kinds.bounds v) ≡ Some k) where
  bit_kept : (e : PlainExpr V) → is_bit e ≡ is_bit (resolved_expr kinds e)
  bit_kept (literal n) = refl
  bit_kept (read v) = refl
  bit_kept (output_of instance name) = refl
  bit_kept (element v bounds index) = refl
  bit_kept (unary op a) = refl
  bit_kept (binary op a b) = refl

  abbrev of_expr : PlainExpr V → Option Kind
  of_expr e = kind_of_expr (sorts_of context) e

  abbrev free : Context V
  free = freely context kinds

  abbrev of_free : PlainExpr V → Option Kind
  of_free e = kind_of_expr (sorts_of free) e

  -- an element has its kind within the declared bounds
  bounded_free : (v : V) (bounds : Bounds) (k : Kind) → context.element_kind v bounds ≡ Some k → free.element_kind v (kinds.bounds v) ≡ Some k
  bounded_free v bounds k is = ap (λ b. if b then context.element_kind v (kinds.bounds v) else None) (bounds_same (kinds.bounds v)) ∙ bounded v bounds k is

  abbrev chosen : PlainExpr V → PlainExpr V
  chosen e = resolved_expr kinds e

  kind_is : (e : PlainExpr V) (k : Kind) → of_expr e ≡ Some k → kind_in kinds e ≡ k
  kind_is e k is = kind_of_expr_is_kind_in (sorts_of context) kinds agrees e k is

  -- the kind of an expression is that of the one that is meant
  kind_kept : (e : PlainExpr V) (k : Kind) → of_expr e ≡ Some k → of_free (chosen e) ≡ Some k
  kind_kept (literal n) r is = is
  kind_kept (read v) r is = is
  kind_kept (output_of instance name) r is = is
  kind_kept (element v bounds index) r is =
      element_kept (of_expr index) (of_free (chosen index)) (context.element_kind v bounds) (free.element_kind v (kinds.bounds v)) r (λ k e. kind_kept index k e) (bounded_free v bounds) is
  kind_kept (unary op a) r is = unary_kept op (of_expr a) (of_free (chosen a)) (kind_in kinds a) r (λ k e. kind_kept a k e) (λ k e. kind_is a k e) is
  kind_kept (binary op a b) r is = binary_kept op (of_expr a) (of_expr b) (of_free (chosen a)) (of_free (chosen b)) (kind_in kinds a) r (λ k e. kind_kept a k e) (λ k e. kind_kept b k e) (λ k e. kind_is a k e) is

  of_kept : (k : Kind) (e : PlainExpr V) → is_of context k e ≡ true → is_of free k (chosen e) ≡ true
  of_kept k e is = is_kept k (of_expr e) (of_free (chosen e)) (kind_kept e) is

  option_of_kept : (k : Kind) (o : Option (PlainExpr V)) → option_is_of context k o ≡ true → option_is_of free k (option_map chosen o) ≡ true
  option_of_kept k None is = refl
  option_of_kept k (Some e) is = of_kept k e is

  -- what may be assigned where a kind is declared may be so when it is meant
  pub fits_kept : (o : Option Kind) (e : PlainExpr V) → fits_option context o e ≡ true → fits_option free o (chosen e) ≡ true
  fits_kept None e is = absurd (cc)
  fits_kept (Some k) e is =
      suits_kept k (of_expr e) (of_free (chosen e)) (same_kind k kind.Bool && is_bit e) (same_kind k kind.Bool && is_bit (chosen e)) (kind_kept e) (ap (λ bit. same_kind k kind.Bool && bit) (bit_kept e)) is

  stored_by : (o : Option Kind) (v : V) (bounds : Bounds) (e : PlainExpr V) → context.element_kind v bounds ≡ o → fits_option context o e ≡ true → fits_option free (free.element_kind v (kinds.bounds v)) (chosen e) ≡ true
  stored_by None v bounds e is fits = absurd (cc)
  stored_by (Some k) v bounds e is fits = ap (λ o. fits_option free o (chosen e)) (bounded_free v bounds k is) ∙ fits_kept (Some k) e fits

  takes_kept : (v : V) (e : PlainExpr V) → takes context v e ≡ true → takes free v (chosen e) ≡ true
  takes_kept v e h = fits_kept (context.variable_kind v) e (and_parts (context.may_assign v) (fits_option context (context.variable_kind v) e) h).1

  output_fits : (o : Option Kind) (instance name : V) → fits_option context o (output_of instance name) ≡ true → fits_option free o (output_of instance name) ≡ true
  output_fits None instance name h = h
  output_fits (Some k) instance name h = h

  output_takes : (v instance name : V) → takes context v (output_of instance name) ≡ true → takes free v (output_of instance name) ≡ true
  output_takes v instance name h = output_fits (context.variable_kind v) instance name (and_parts (context.may_assign v) (fits_option context (context.variable_kind v) (output_of instance name)) h).1

  arguments_kept : (instance : V) (arguments : List (PlainArgument V)) → list_all (argument_fits context instance) arguments ≡ true → list_all (argument_fits free instance) (map (resolved_argument kinds) arguments) ≡ true
  arguments_kept instance [] h = refl
  arguments_kept instance (input name e ∷ rest) h =
      let p = and_parts (fits_option context (context.input_kind instance name) e) (list_all (argument_fits context instance) rest) h in
      λ i. fits_kept (context.input_kind instance name) e p.0 i && arguments_kept instance rest p.1 i
  arguments_kept instance (output name v ∷ rest) h =
      let p = and_parts (takes context v (output_of instance name)) (list_all (argument_fits context instance) rest) h in
      λ i. output_takes v instance name p.0 i && arguments_kept instance rest p.1 i

  mutual
    stmt_kept : (n : ℕ) (s : PlainStmt V) → stmt_fits context s ≡ true → stmt_fits free (resolved_stmt kinds (numbered_stmt n s)) ≡ true
    stmt_kept n (empty number) h = refl
    stmt_kept n (assign number v e) h = takes_kept v e h
    stmt_kept n (store number v bounds index value) h =
        let p = and_parts (is_of context kind.Dint index) (fits_option context (context.element_kind v bounds) value) h in
        λ i. of_kept kind.Dint index p.0 i && stored_by (context.element_kind v bounds) v bounds value refl p.1 i
    stmt_kept n (call number instance arguments) h =
        let p = and_parts (context.is_instance instance) (list_all (argument_fits context instance) arguments) h in
        λ i. p.0 i && arguments_kept instance arguments p.1 i
    stmt_kept n (if_else number branches last) h =
        let p = and_parts (branches_fit context branches) (all_fit context last) h in
        λ i. branches_kept (n + 1) branches p.0 i && body_kept (n + 1 + count_branches branches) last p.1 i
    stmt_kept n (case_of number e choices last) h =
        let p = and_parts (is_of context kind.Dint e) (choices_fit context choices && all_fit context last) h in
        let q = and_parts (choices_fit context choices) (all_fit context last) p.1 in
        λ i. of_kept kind.Dint e p.0 i && (choices_kept (n + 1) choices q.0 i && body_kept (n + 1 + count_choices choices) last q.1 i)
    stmt_kept n (for_to number v from to by body) h =
        let p = and_parts (is_of context kind.Dint from) (is_of context kind.Dint to && (option_is_of context kind.Dint by && all_fit context body)) h in
        let q = and_parts (is_of context kind.Dint to) (option_is_of context kind.Dint by && all_fit context body) p.1 in
        let r = and_parts (option_is_of context kind.Dint by) (all_fit context body) q.1 in
        λ i. of_kept kind.Dint from p.0 i && (of_kept kind.Dint to q.0 i && (option_of_kept kind.Dint by r.0 i && body_kept (n + 1) body r.1 i))

    body_kept : (n : ℕ) (body : PlainBody V) → all_fit context body ≡ true → all_fit free (resolved_body kinds (numbered n body)) ≡ true
    body_kept n done h = refl
    body_kept n (next s rest) h =
        let p = and_parts (stmt_fits context s) (all_fit context rest) h in
        λ i. stmt_kept n s p.0 i && body_kept (n + count_stmt s) rest p.1 i

    branches_kept : (n : ℕ) (branches : Branches V) → branches_fit context branches ≡ true → branches_fit free (resolved_branches kinds (numbered_branches n branches)) ≡ true
    branches_kept n no_branch h = refl
    branches_kept n (branch e body rest) h =
        let p = and_parts (is_of context kind.Bool e) (all_fit context body && branches_fit context rest) h in
        let q = and_parts (all_fit context body) (branches_fit context rest) p.1 in
        λ i. of_kept kind.Bool e p.0 i && (body_kept n body q.0 i && branches_kept (n + count_body body) rest q.1 i)

    choices_kept : (n : ℕ) (choices : Choices V) → choices_fit context choices ≡ true → choices_fit free (resolved_choices kinds (numbered_choices n choices)) ≡ true
    choices_kept n no_choice h = refl
    choices_kept n (choice labels body rest) h =
        let p = and_parts (all_fit context body) (choices_fit context rest) h in
        λ i. body_kept n body p.0 i && choices_kept (n + count_body body) rest p.1 i

  -- a body that fits does so when it is meant, where each variable may be assigned, and arrays have their declared bounds alone
  pub meant_fits : (body : PlainBody V) → all_fit context body ≡ true → all_fit free (meant kinds body) ≡ true
  meant_fits body h = body_kept 1 body h

-- ---- control variables that a rule of statements allows may be such in the body that is meant
module _ {V : Type 0} (context : Context V) (kinds : KindsOf V) (rule : PlainStmt V → Bool)
    (controls : (number : ℕ) (v : V) (from to : PlainExpr V) (by : Option (PlainExpr V)) (body : PlainBody V) → rule (for_to number v from to by body) ≡ true → may_control context v ≡ true) where
  mutual
    stmt_controls : (n : ℕ) (s : PlainStmt V) → rule s ≡ true → every_inside rule s ≡ true → stmt_controls_fit context (resolved_stmt kinds (numbered_stmt n s)) ≡ true
    stmt_controls n (empty number) h inside = refl
    stmt_controls n (assign number v e) h inside = refl
    stmt_controls n (store number v bounds index value) h inside = refl
    stmt_controls n (call number instance arguments) h inside = refl
    stmt_controls n (if_else number branches last) h inside =
        let p = and_parts (every_branch rule branches) (every rule last) inside in
        λ i. branches_control (n + 1) branches p.0 i && body_controls (n + 1 + count_branches branches) last p.1 i
    stmt_controls n (case_of number e choices last) h inside =
        let p = and_parts (every_choice rule choices) (every rule last) inside in
        λ i. choices_control (n + 1) choices p.0 i && body_controls (n + 1 + count_choices choices) last p.1 i
    stmt_controls n (for_to number v from to by body) h inside = λ i. controls number v from to by body h i && body_controls (n + 1) body inside i

    body_controls : (n : ℕ) (body : PlainBody V) → every rule body ≡ true → controls_fit context (resolved_body kinds (numbered n body)) ≡ true
    body_controls n done h = refl
    body_controls n (next s rest) h =
        let p = and_parts (rule s) (every_inside rule s && every rule rest) h in
        let q = and_parts (every_inside rule s) (every rule rest) p.1 in
        λ i. stmt_controls n s p.0 q.0 i && body_controls (n + count_stmt s) rest q.1 i

    branches_control : (n : ℕ) (branches : Branches V) → every_branch rule branches ≡ true → branches_controls_fit context (resolved_branches kinds (numbered_branches n branches)) ≡ true
    branches_control n no_branch h = refl
    branches_control n (branch e body rest) h =
        let p = and_parts (every rule body) (every_branch rule rest) h in
        λ i. body_controls n body p.0 i && branches_control (n + count_body body) rest p.1 i

    choices_control : (n : ℕ) (choices : Choices V) → every_choice rule choices ≡ true → choices_controls_fit context (resolved_choices kinds (numbered_choices n choices)) ≡ true
    choices_control n no_choice h = refl
    choices_control n (choice labels body rest) h =
        let p = and_parts (every rule body) (every_choice rule rest) h in
        λ i. body_controls n body p.0 i && choices_control (n + count_body body) rest p.1 i

  pub meant_controls : (body : PlainBody V) → every rule body ≡ true → controls_fit context (meant kinds body) ≡ true
  meant_controls body h = body_controls 1 body h
