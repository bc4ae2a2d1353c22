-- Values that stay in the ranges of their kinds while a body runs.
use Rattle.std.specs.Prelude.{◌≡◌, ℤ, true, Some}
use Rattle.plant_types.specs.declared.values.Bounds.{Bounds}
use Rattle.plant_types.specs.declared.values.Kind.{Kind}
use Rattle.plant_types.specs.Values.{is_in_range, has_index}
use Rattle.st_tree.specs.Kinds.{Sorts}
use Rattle.st_tree.specs.Meaning.{Space, ValuesOf, Ran, Done, Trapped}
use Rattle.st_tree.specs.Fits.{Context}

-- a fact holds of the world that a run leaves, be it after a trap
abbrev pub Leaves : {W : Type 0} → (W → Type 0) → Ran W → Type 0
Leaves Holds (Done w) = Holds w
Leaves Holds (Trapped w spot trap) = Holds w

-- the values that are read are in the ranges of their kinds
pub record AreInRange {V : Type 0} (sorts : Sorts V) (values : ValuesOf V) : Type 0 where
  pub variable_in : (v : V) (k : Kind) → sorts.variable v ≡ Some k → is_in_range k (values.variable v) ≡ true
  pub output_in : (instance name : V) (k : Kind) → sorts.output instance name ≡ Some k → is_in_range k (values.output instance name) ≡ true
  pub element_in : (v : V) (bounds : Bounds) (i : ℤ) (k : Kind) → sorts.element v bounds ≡ Some k → has_index bounds i ≡ true → is_in_range k (values.element v bounds i) ≡ true

-- a fact of worlds that gives the values in them their ranges, and that each step of a body keeps: an assignment, also to an element, and an input of a call,
-- where the value is in the range of the kind, and what an instance does when it is called
pub record IsInvariant {V W : Type 0} (context : Context V) (space : Space V W) (Holds : W → Type 0) : Type 0 where
  pub variable_in_range : (w : W) (v : V) (k : Kind) → Holds w → context.variable_kind v ≡ Some k → is_in_range k (space.get w v) ≡ true
  pub output_in_range : (w : W) (instance name : V) (k : Kind) → Holds w → context.output_kind instance name ≡ Some k → is_in_range k (space.get_output w instance name) ≡ true
  pub element_in_range : (w : W) (v : V) (bounds : Bounds) (i : ℤ) (k : Kind) → Holds w → context.element_kind v bounds ≡ Some k → has_index bounds i ≡ true → is_in_range k (space.get_at w v bounds i) ≡ true
  pub put_keeps : (w : W) (v : V) (k : Kind) (n : ℤ) → Holds w → context.may_assign v ≡ true → context.variable_kind v ≡ Some k → is_in_range k n ≡ true → Holds (space.put w v n)
  pub put_at_keeps : (w : W) (v : V) (bounds : Bounds) (i : ℤ) (k : Kind) (n : ℤ) → Holds w → context.element_kind v bounds ≡ Some k → has_index bounds i ≡ true → is_in_range k n ≡ true → Holds (space.put_at w v bounds i n)
  pub put_input_keeps : (w : W) (instance name : V) (k : Kind) (n : ℤ) → Holds w → context.is_instance instance ≡ true → context.input_kind instance name ≡ Some k → is_in_range k n ≡ true
      → Holds (space.put_input w instance name n)
  pub enter_keeps : (w : W) (instance : V) → Holds w → context.is_instance instance ≡ true → Leaves Holds (space.enter w instance)
