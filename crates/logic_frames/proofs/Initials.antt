-- The variables that initial values are assigned to have numbers, and the initial values name nothing.
use Rattle.std.proofs.Common.{◌≡◌, ◌∙◌, ap, sym, refl, ℕ, Bool, true, false, if◌then◌else◌, List, [], ◌∷◌, ◌++◌, Option, Some, None, inl, inr}
use Rattle.std.specs.Prelude.{◌&&◌, is_none, flat_map, option_map}
use Rattle.std.specs.List.{list_all}
use Rattle.std.specs.Str.{bytes_eq}
use Rattle.std.specs.Cmp.Lexicographic.{bytes_decides}
use Rattle.std.proofs.lemmas.Bool.{and_parts, and_from, or_left}
use Rattle.plant_types.specs.Words.{folded, same_word}
use Rattle.plant_types.specs.declared.values.Kind.{Kind}
use Rattle.st_blocks.specs.Chains.{Among}
use Rattle.st_tree.specs.Plain.{PlainExpr, literal, read, output_of, element, unary, binary, PlainStmt}
use Rattle.st_tree.specs.Operators.{Outcome}
use Rattle.st_tree.specs.Kinds.{is_kind}
use Rattle.st_tree.specs.Mapping.{Known, expr_known, body_known}
use Rattle.logic_source.specs.SectionKind.{SectionKind}
use Rattle.logic_source.specs.SectionKind.TheVariants as sections
use Rattle.logic_source.specs.Sort.{Sort}
use Rattle.logic_source.specs.Sort.TheVariants as sort
use Rattle.logic_source.specs.StParserUnits.{PlainUnit}
use Rattle.logic_source.specs.DeclaredNames.{PlainDeclared}
use Rattle.logic_source.specs.Scopes as scopes
use Rattle.logic_source.specs.Scopes.{is_external}
use Rattle.logic_source.specs.Kinds.{instance_fits, array_stands, initial_fits, sort_fits, declared_fits}
use Rattle.logic_source.specs.Constants.{meant_constant, has_value, is_initial, initial_constant, sort_in_order, declared_constant}
use Rattle.logic_source.specs.declared.logic.Variable.{Variable}
use Rattle.logic_source.specs.declared.logic.Local.{Local}
use Rattle.logic_source.specs.Units.{global_of, local_of, start_by, start_of, listed, starts_in}
use Rattle.logic_source.specs.Names.{global_words, own_words}
use Rattle.logic_frames.proofs.Fitting.{and_then_some}
use Rattle.logic_frames.proofs.Typed.{any_later, has, local_here}

mapped_some : {A B : Type 0} (f : A → B) (o : Option A) (b : B) → option_map f o ≡ Some b → (a : A) × (o ≡ Some a)
mapped_some f None b is = absurd (cc)
mapped_some f (Some a) b is = (a, refl)

module _ (known : Known (List ℕ)) where
  -- a constant expression names nothing
  constant_known : (e : PlainExpr (List ℕ)) (o : Outcome) → meant_constant e ≡ Some o → expr_known known e ≡ true
  constant_known (literal n) o is = refl
  constant_known (read v) o is = absurd (cc)
  constant_known (output_of instance name) o is = absurd (cc)
  constant_known (element v bounds index) o is = absurd (cc)
  constant_known (unary op a) o is = let part = mapped_some _ (meant_constant a) o is in constant_known a part.0 part.1
  constant_known (binary op a b) o is =
      let first = and_then_some _ (meant_constant a) o is in
      let second = mapped_some _ (meant_constant b) o first.2 in
      and_from (expr_known known a) (expr_known known b) (constant_known a first.0 first.1) (constant_known b second.0 second.1)

  value_known : (e : PlainExpr (List ℕ)) (o : Option Outcome) → meant_constant e ≡ o → has_value o ≡ true → expr_known known e ≡ true
  value_known e None is there = absurd (cc)
  value_known e (Some o) is there = constant_known e o is

  -- a declared variable that has an initial value is known
  abbrev IsKnown : PlainDeclared → Type 0
  IsKnown d = (e : PlainExpr (List ℕ)) → d.initial ≡ Some e → known.has_variable d.name ≡ true

  start_more : (name : List ℕ) (o : Option (PlainExpr (List ℕ))) (rest : List (PlainStmt (List ℕ))) → ((e : PlainExpr (List ℕ)) → o ≡ Some e → known.has_variable name ≡ true) → is_initial o ≡ true
      → body_known known (listed rest) ≡ true → body_known known (listed (start_by name o ++ rest)) ≡ true
  start_more name None rest there constant after = after
  start_more name (Some e) rest there constant after =
      and_from (known.has_variable name && expr_known known e) (body_known known (listed rest)) (and_from (known.has_variable name) (expr_known known e) (there e refl) (value_known e (meant_constant e) refl constant)) after

  -- what is constant has a constant initial value
  pub initials_constant : (ds : List PlainDeclared) → list_all declared_constant ds ≡ true → list_all initial_constant ds ≡ true
  initials_constant [] all = refl
  initials_constant (d ∷ ds) all =
      let parts = and_parts (declared_constant d) (list_all declared_constant ds) all in
      and_from (initial_constant d) (list_all initial_constant ds) (and_parts (initial_constant d) (sort_in_order d.sort) parts.0).0 (initials_constant ds parts.1)

  -- each name in the initial values of declared variables is known
  pub starts_known : (ds : List PlainDeclared) → list_all initial_constant ds ≡ true → ((d : PlainDeclared) → Among ds d → IsKnown d) → body_known known (starts_in ds) ≡ true
  starts_known [] constant there = refl
  starts_known (d ∷ ds) constant there =
      let parts = and_parts (initial_constant d) (list_all initial_constant ds) constant in
      start_more d.name d.initial (flat_map start_of ds) (there d (inl refl)) parts.0 (starts_known ds parts.1 (λ x among. there x (inr among)))

-- what holds of each is so of one of them
pub passes_among : {A : Type 0} (test : A → Bool) (xs : List A) (x : A) → list_all test xs ≡ true → Among xs x → test x ≡ true
passes_among test [] x all here = elim here [ ]
passes_among test (y ∷ ys) x all (inl is) = ap test (sym is) ∙ (and_parts (test y) (list_all test ys) all).0
passes_among test (y ∷ ys) x all (inr later) = passes_among test ys x (and_parts (test y) (list_all test ys) all).1 later

no_initial_instance : (section : SectionKind) (o : Option (PlainExpr (List ℕ))) (e : PlainExpr (List ℕ)) → o ≡ Some e → instance_fits section o ≡ false
no_initial_instance sections.Local o e is = ap is_none is
no_initial_instance sections.External o e is = refl
no_initial_instance sections.Input o e is = refl
no_initial_instance sections.Output o e is = refl
no_initial_instance sections.Global o e is = refl

-- what has an initial value and fits is a variable of its own routine
module _ (units : List PlainUnit) (own : List PlainDeclared) (d : PlainDeclared) (e : PlainExpr (List ℕ)) (is : d.initial ≡ Some e) where
  initial_kind : (s : Sort) → sort_fits units own d s ≡ true → (k : Kind) × (s ≡ sort.Kind k)
  initial_kind (sort.Kind k) fit = (k, refl)
  initial_kind (sort.Array bounds k) fit =
      let none = (and_parts (is_none d.initial) (array_stands units d.name bounds k d.section) fit).0 in
      let some : is_none d.initial ≡ false = ap is_none is in
      absurd (cc)
  initial_kind (sort.Block word) fit = let none = no_initial_instance d.section d.initial e is in absurd (cc)

  inside_by : (b : Bool) (k : Kind) → (if b then is_none d.initial && is_kind k (scopes.global_kind units d.name) else initial_fits units own (Some k) d.initial) ≡ true → b ≡ false
  inside_by false k fit = refl
  inside_by true k fit =
      let none : is_none d.initial ≡ true = (and_parts (is_none d.initial) (is_kind k (scopes.global_kind units d.name)) fit).0 in
      let some : is_none d.initial ≡ false = ap is_none is in
      absurd (cc)

  pub initial_variable : declared_fits units own d ≡ true → (k : Kind) × (d.sort ≡ sort.Kind k) × (is_external d.section ≡ false)
  initial_variable fit =
      let kind = initial_kind d.sort fit in
      (kind.0, kind.1, inside_by (is_external d.section) kind.0 (ap (sort_fits units own d) (sym kind.1) ∙ fit))

same_itself : (name : List ℕ) → same_word name name ≡ true
same_itself name = (bytes_decides (folded name) (folded name)).1 refl

-- a variable that is declared is one of a routine's own
pub own_among : (ds : List PlainDeclared) (d : PlainDeclared) (k : Kind) → Among ds d → is_external d.section ≡ false → d.sort ≡ sort.Kind k → has d.name (own_words (flat_map local_of ds)) ≡ true
own_among [] d k here own kind = elim here [ ]
own_among (x ∷ xs) d k (inl is) own kind =
    ap (λ (y : PlainDeclared). has d.name (own_words (local_of y ++ flat_map local_of xs))) is ∙ local_here d.name d k (flat_map local_of xs) (same_itself d.name) own kind
own_among (x ∷ xs) d k (inr later) own kind = any_later (bytes_eq (folded d.name)) (λ (l : Local). folded l.name) (local_of x) (flat_map local_of xs) (own_among xs d k later own kind)

global_first : (name : List ℕ) (d : PlainDeclared) (k : Kind) (rest : List Variable) → same_word name d.name ≡ true → d.sort ≡ sort.Kind k → has name (global_words (global_of d ++ rest)) ≡ true
global_first name d k rest same kind = rw kind (or_left (same_word name d.name) (has name (global_words rest)) same)

-- and so is one of the globals
pub global_among : (ds : List PlainDeclared) (d : PlainDeclared) (k : Kind) → Among ds d → d.sort ≡ sort.Kind k → has d.name (global_words (flat_map global_of ds)) ≡ true
global_among [] d k here kind = elim here [ ]
global_among (x ∷ xs) d k (inl is) kind =
    ap (λ (y : PlainDeclared). has d.name (global_words (global_of y ++ flat_map global_of xs))) is ∙ global_first d.name d k (flat_map global_of xs) (same_itself d.name) kind
global_among (x ∷ xs) d k (inr later) kind = any_later (bytes_eq (folded d.name)) (λ (g : Variable). folded g.name) (global_of x) (flat_map global_of xs) (global_among xs d k later kind)
