-- Two runs that do the same in worlds of two types, and the laws of a mapping by which a mapped body does what the body does.
use Rattle.std.specs.Prelude.{◌≡◌, ℤ, Bool, true, Some}
use Rattle.plant_types.specs.declared.values.Bounds.{Bounds}
use Rattle.plant_types.specs.declared.values.Kind.{Kind}
use Rattle.plant_types.specs.Values.{is_in_range, has_index}
use Rattle.st_tree.specs.Plain.{PlainExpr, PlainBody}
use Rattle.st_tree.specs.Fits.{Context, all_fit, controls_fit}
use Rattle.st_tree.specs.Meaning.{Space, Ran, Done, Trapped, outcome}
use Rattle.st_tree.specs.Mapping.{Mapping, Known, body_known}
use Rattle.st_tree.specs.Ranges.{IsInvariant}

-- both runs end, or both trap by the same statement of the same path with the same trap; and the worlds that they leave match
abbrev pub Agree : {A B : Type 0} → (A → B → Type 0) → Ran A → Ran B → Type 0
Agree Matches (Done a) (Done b) = Matches a b
Agree Matches (Done a) (Trapped b spot trap) = ⊥
Agree Matches (Trapped a spot trap) (Done b) = ⊥
Agree Matches (Trapped a spot trap) (Trapped b other_spot other_trap) = Matches a b × ((spot ≡ other_spot) × (trap ≡ other_trap))

-- from worlds that match, two bodies do the same
abbrev pub Same : {A B : Type 0} → (A → B → Type 0) → (A → Ran A) → (B → Ran B) → Type 0
Same {A} {B} Matches f g = (a : A) (b : B) → Matches a b → Agree Matches (f a) (g b)

-- in worlds that match, two expressions have the same outcome
abbrev pub SameOutcome : {V W A B : Type 0} → (A → B → Type 0) → Space V A → Space W B → PlainExpr V → PlainExpr W → Type 0
SameOutcome {V} {W} {A} {B} Matches from to e f = (a : A) (b : B) → Matches a b → outcome from a e ≡ outcome to b f

-- a mapping keeps what the names that are known mean: in worlds that match, what is mapped has the same value, which is in the range of its kind; worlds go on matching
-- after a value in the range of its kind is assigned to a variable that may be assigned, to an element within the bounds, or to an input, and after a call; and what stands in the place of an operator
-- with its operands has its outcome
pub record IsLawful {V W A B : Type 0} (context : Context V) (known : Known V) (mapping : Mapping V W) (from : Space V A) (to : Space W B) (Matches : A → B → Type 0) : Type 0 where
  pub path_is : from.path ≡ to.path
  pub variable_is : (v : V) (a : A) (b : B) → known.has_variable v ≡ true → Matches a b → from.get a v ≡ to.get b (mapping.variable v)
  pub variable_in_range : (v : V) (k : Kind) (a : A) (b : B) → Matches a b → context.variable_kind v ≡ Some k → is_in_range k (from.get a v) ≡ true
  pub put_matches : (v : V) (k : Kind) (n : ℤ) (a : A) (b : B) → known.has_variable v ≡ true → context.may_assign v ≡ true → context.variable_kind v ≡ Some k → is_in_range k n ≡ true → Matches a b
      → Matches (from.put a v n) (to.put b (mapping.variable v) n)
  pub element_is : (v : V) (bounds : Bounds) (i : ℤ) (a : A) (b : B) → known.has_array v bounds ≡ true → has_index bounds i ≡ true → Matches a b → from.get_at a v bounds i ≡ to.get_at b (mapping.array v) bounds i
  pub element_in_range : (v : V) (bounds : Bounds) (i : ℤ) (k : Kind) (a : A) (b : B) → Matches a b → context.element_kind v bounds ≡ Some k → has_index bounds i ≡ true → is_in_range k (from.get_at a v bounds i) ≡ true
  pub put_at_matches : (v : V) (bounds : Bounds) (i : ℤ) (k : Kind) (n : ℤ) (a : A) (b : B) → known.has_array v bounds ≡ true → context.element_kind v bounds ≡ Some k → has_index bounds i ≡ true → is_in_range k n ≡ true → Matches a b
      → Matches (from.put_at a v bounds i n) (to.put_at b (mapping.array v) bounds i n)
  pub output_is : (instance name : V) (a : A) (b : B) → known.has_output instance name ≡ true → Matches a b
      → from.get_output a instance name ≡ to.get_output b (mapping.instance instance) (mapping.output_name instance name)
  pub output_in_range : (instance name : V) (k : Kind) (a : A) (b : B) → Matches a b → context.output_kind instance name ≡ Some k → is_in_range k (from.get_output a instance name) ≡ true
  pub put_input_matches : (instance name : V) (k : Kind) (n : ℤ) (a : A) (b : B) → known.has_input instance name ≡ true → context.is_instance instance ≡ true → context.input_kind instance name ≡ Some k → is_in_range k n ≡ true → Matches a b
      → Matches (from.put_input a instance name n) (to.put_input b (mapping.instance instance) (mapping.input_name instance name) n)
  pub enter_agrees : (instance : V) (a : A) (b : B) → known.has_instance instance ≡ true → context.is_instance instance ≡ true → Matches a b → Agree Matches (from.enter a instance) (to.enter b (mapping.instance instance))
  pub node_is : (e : PlainExpr W) (a : A) (b : B) → Matches a b → outcome to b (mapping.node e) ≡ outcome to b e

-- a body that a lawful mapping keeps: each of its names is known, each of its expressions has the kind that its place needs, and each control variable is a DINT that may be assigned
pub record IsKeptBody {V : Type 0} (context : Context V) (known : Known V) (body : PlainBody V) : Type 0 where
  pub names : body_known known body ≡ true
  pub kinds : all_fit context body ≡ true
  pub controls : controls_fit context body ≡ true

-- where names mean what other names mean that stand in their places
abbrev pub renamed_space : {V W A : Type 0} → (V → W) → Space W A → Space V A
renamed_space f space = record {
  path = space.path;
  get = λ w v. space.get w (f v);
  put = λ w v n. space.put w (f v) n;
  get_at = λ w v bounds i. space.get_at w (f v) bounds i;
  put_at = λ w v bounds i n. space.put_at w (f v) bounds i n;
  get_output = λ w instance name. space.get_output w (f instance) (f name);
  put_input = λ w instance name n. space.put_input w (f instance) (f name) n;
  enter = λ w instance. space.enter w (f instance);
}

-- what is declared of names that mean what other names mean
abbrev pub renamed_context : {V W : Type 0} → (V → W) → Context W → Context V
renamed_context f context = record {
  variable_kind = λ v. context.variable_kind (f v);
  may_assign = λ v. context.may_assign (f v);
  is_instance = λ v. context.is_instance (f v);
  input_kind = λ instance name. context.input_kind (f instance) (f name);
  output_kind = λ instance name. context.output_kind (f instance) (f name);
  element_kind = λ v bounds. context.element_kind (f v) bounds;
}

-- what names mean, what is declared of them, and a test that all worlds pass which runs leave, and which gives the values in them their ranges
pub record RangedSpace (V W : Type 0) : Type 0 where
  pub space : Space V W
  pub context : Context V
  pub holds : W → Bool
  pub kept : IsInvariant context space (λ w. holds w ≡ true)
