-- Which values and standard blocks go over, by the numbers of their paths.
use Rattle.std.specs.Prelude.{◌≡◌, ◌<◌, ℕ, Bool, true, false, ◌&&◌, if◌then◌else◌, List, length, get_or, Option, Some, None, option_and_then, slice_get}
use Rattle.st_tree.specs.Kinds.{same_kind}
use Rattle.logic_source.specs.Carried.{same_array, same_standard}
use Rattle.logic_carry.specs.declared.lists.ValueAt.{ValueAt}
use Rattle.logic_carry.specs.declared.lists.StandardAt.{StandardAt}

-- two listed values are of one kind, and if they are elements, their arrays have the same bounds
abbrev pub same_listed : ValueAt → ValueAt → Bool
same_listed a b = same_kind a.kind b.kind && same_array a.bounds b.bounds

-- a value keeps the old value of a number, which has its path and is declared as it is; none if no old value is so
abbrev pub KeepsValue : List ValueAt → ValueAt → Option ℕ → Type 0
KeepsValue old v (Some k) = (o : ValueAt) × (slice_get old k ≡ Some o) × (o.path ≡ v.path) × (same_listed o v ≡ true)
KeepsValue old v None = (k : ℕ) (o : ValueAt) → slice_get old k ≡ Some o → o.path ≡ v.path → same_listed o v ≡ false

-- the same of a standard block and its calls
abbrev pub KeepsCalls : List StandardAt → StandardAt → Option ℕ → Type 0
KeepsCalls old s (Some k) = (o : StandardAt) × (slice_get old k ≡ Some o) × (o.path ≡ s.path) × (same_standard o.of s.of ≡ true)
KeepsCalls old s None = (k : ℕ) (o : StandardAt) → slice_get old k ≡ Some o → o.path ≡ s.path → same_standard o.of s.of ≡ false

abbrev pub value_path : ValueAt → ℕ
value_path v = v.path

abbrev pub standard_path : StandardAt → ℕ
standard_path s = s.path

-- where paths stand in a list, of which so many have been looked at: what is told stands there, and each of those that were looked at is told of
pub record ArePlaces (paths : List ℕ) (count : ℕ) (places : List (Option ℕ)) : Type 0 where
  pub stands : (path k : ℕ) → slice_get places path ≡ Some (Some k) → slice_get paths k ≡ Some path
  pub told : (k path : ℕ) → k < count → slice_get paths k ≡ Some path → path < length places → (j : ℕ) × (slice_get places path ≡ Some (Some j))

-- no path stands twice in a list
abbrev pub AreOnce : List ℕ → Type 0
AreOnce paths = (j k path : ℕ) → slice_get paths j ≡ Some path → slice_get paths k ≡ Some path → j ≡ k

-- a list has these places, and each path stands in it once
pub record ArePlaced (paths : List ℕ) (places : List (Option ℕ)) : Type 0 where
  pub are : ArePlaces paths (length paths) places
  pub once : AreOnce paths

-- the paths of values have places among so many
abbrev pub AreWithin : List ℕ → ℕ → Type 0
AreWithin paths count = (k path : ℕ) → slice_get paths k ≡ Some path → path < count

-- the number of an old value, if it goes over to a value
abbrev pub judged_value : ValueAt → ℕ → Option ValueAt → Option ℕ
judged_value v n None = None
judged_value v n (Some o) = if same_listed o v then Some n else None

-- the number of the old value that goes over to a value, by the places of the old ones
abbrev pub kept_value : List ValueAt → List (Option ℕ) → ValueAt → Option ℕ
kept_value old places v = option_and_then (λ n. judged_value v n (slice_get old n)) (get_or places v.path None)

-- the same of standard blocks and their calls
abbrev pub judged_call : StandardAt → ℕ → Option StandardAt → Option ℕ
judged_call s n None = None
judged_call s n (Some o) = if same_standard o.of s.of then Some n else None

abbrev pub kept_call : List StandardAt → List (Option ℕ) → StandardAt → Option ℕ
kept_call old places s = option_and_then (λ n. judged_call s n (slice_get old n)) (get_or places s.path None)

-- what stands at a place after what goes over was carried to it: the old one of a number, or else what stood there
abbrev pub carried_one : {A : Type 0} → List A → A → Option ℕ → A
carried_one before here None = here
carried_one before here (Some k) = get_or before k here

-- the first so many after what goes over was carried to them, by the numbers of the old ones
pub record AreCarried {A : Type 0} (before here : List A) (kept : List (Option ℕ)) (count : ℕ) (after : List A) : Type 0 where
  pub long : length after ≡ count
  pub each : (m : ℕ) (x : A) → m < count → slice_get here m ≡ Some x → slice_get after m ≡ Some (carried_one before x (get_or kept m None))
