-- What a name that has a number is, in the routine at a base.
use Rattle.std.proofs.Common.{◌≡◌, ap, sym, refl, arith, ℕ, ◌+◌, ◌-◌, ◌<◌, true, false, List, length, take, Option, Some, None, slice_get}
use Rattle.std.specs.Prelude.{is_some, nat_lt, option_map, option_and_then, unwrap_or}
use Rattle.std.specs.Str.{bytes_eq}
use Rattle.std.proofs.lemmas.Bool.Decides.{nat_tests}
use Rattle.std.proofs.lemmas.List.{length-map}
use Rattle.std.proofs.lemmas.List.Quantifiers.{position-Some}
use Rattle.plant_types.specs.Words.{folded}
use Rattle.logic_source.specs.declared.logic.Variable.{Variable}
use Rattle.logic_source.specs.declared.logic.Instance.{Instance}
use Rattle.logic_source.specs.declared.logic.BlockRef.{BlockRef}
use Rattle.logic_source.specs.Source.{PlainRoutine, Source, row_cells, global_cells}
use Rattle.logic_source.specs.Names.{global_words, own_words, row_words, find_word, instance_named, block_named}
use Rattle.logic_source.specs.Seats.{own_or_global, value_number, row_number}
use Rattle.logic_source.proofs.Seats.{row_of_number, row_ends}
use Rattle.logic_source.proofs.Members.{instance_of_number}
use Rattle.logic_walk.specs.declared.frame.Base.{Base}
use Rattle.logic_walk.specs.Walks.{slot_of}
use Rattle.logic_frames.specs.Numbers.{variable_number, array_number, instance_number}

module _ (globals : ℕ) (base : Base) where
  -- the number of a variable in the cells, by its number in a body
  slot_by : (own other : Option ℕ) → ((j : ℕ) → other ≡ Some j → j < globals) → is_some (own_or_global globals own other) ≡ true
      → own_or_global base.values own other ≡ Some (slot_of globals base (unwrap_or (own_or_global globals own other) 0))
  slot_by (Some i) other within there =
      let past : nat_lt (globals + i) globals ≡ false = grind (arith, nat_tests) in
      let same : globals + i - globals ≡ i = omega arith in
      rw past (ap (λ n. Some (base.values + n)) (sym same))
  slot_by None (Some j) within there =
      let below = within j refl in
      let is : nat_lt j globals ≡ true = grind (arith, nat_tests) in
      rw is refl
  slot_by None None within there = absurd (cc)

global_within : (globals : List Variable) (name : List ℕ) (j : ℕ) → find_word (global_words globals) name ≡ Some j → j < length globals
global_within globals name j found =
    let below = (position-Some (bytes_eq (folded name)) (global_words globals) j name found).0 in
    let many = length-map globals (λ (global : Variable). folded global.name) in
    omega (arith, below, many)

-- a variable that has a number in a body has one in the cells
pub slot_is : (source : Source) (r : PlainRoutine) (base : Base) (name : List ℕ) → is_some (variable_number source r name) ≡ true
    → value_number source.globals r base.values name ≡ Some (slot_of (global_cells source) base (unwrap_or (variable_number source r name) 0))
slot_is source r base name there =
    slot_by (global_cells source) base (find_word (own_words r.locals) name) (find_word (global_words source.globals) name) (λ j found. let less = global_within source.globals name j found in omega (arith, less)) there

module _ (source : Source) (r : PlainRoutine) (base : Base) (name : List ℕ) where
  abbrev globals : ℕ
  globals = global_cells source

  abbrev place : ℕ → Option ℕ → Option ℕ → Option ℕ
  place from own other = own_or_global (from + length r.locals) (option_map (λ k. row_cells (take k r.rows)) own) (option_map (λ n. length source.globals + n) (option_map (λ k. row_cells (take k source.rows)) other))

  row_slot_by : (own other : Option ℕ) → ((k : ℕ) → other ≡ Some k → row_cells (take k source.rows) < row_cells source.rows) → is_some (place globals own other) ≡ true → place base.values own other ≡ Some (slot_of globals base (unwrap_or (place globals own other) 0))
  row_slot_by (Some k) other within there =
      let n = globals + length r.locals + row_cells (take k r.rows) in
      let past : nat_lt n globals ≡ false = grind (arith, nat_tests) in
      let same : base.values + length r.locals + row_cells (take k r.rows) ≡ base.values + (n - globals) = omega arith in
      rw past (ap Some same)
  row_slot_by None (Some k) within there =
      let less = within k refl in
      let n = length source.globals + row_cells (take k source.rows) in
      let is : nat_lt n globals ≡ true = grind (arith, nat_tests) in
      rw is refl
  row_slot_by None None within there = absurd (cc)

  global_row_below : (k : ℕ) → find_word (row_words source.rows) name ≡ Some k → row_cells (take k source.rows) < row_cells source.rows
  global_row_below k found = let row = row_of_number source.rows name k found in let ends = row_ends source.rows k row.0 row.1 in omega (arith, ends)

  -- an array that has a number in a body has one in the cells
  pub row_slot_is : is_some (array_number source r name) ≡ true → row_number source r base.values name ≡ Some (slot_of (global_cells source) base (unwrap_or (array_number source r name) 0))
  row_slot_is there = row_slot_by (find_word (row_words r.rows) name) (find_word (row_words source.rows) name) global_row_below there

-- the instance that a name finds
pub record Found (r : PlainRoutine) (name : List ℕ) (k : ℕ) (i : Instance) : Type 0 where
  pub number : instance_number r name ≡ Some k
  pub at : slice_get r.instances k ≡ Some i
  pub named : instance_named r name ≡ Some i
  pub word : folded i.name ≡ folded name

found_at : (r : PlainRoutine) (name : List ℕ) (k : ℕ) → instance_number r name ≡ Some k → (i : Instance) × Found r name k i
found_at r name k number =
    let it = instance_of_number r name k number in
    (it.0, record { number = number; at = it.1; named = it.2; word = it.3 })

found_by : (r : PlainRoutine) (name : List ℕ) (o : Option ℕ) → instance_number r name ≡ o → is_some o ≡ true → (k : ℕ) × (i : Instance) × Found r name k i
found_by r name None number there = absurd (cc)
found_by r name (Some k) number there = let it = found_at r name k number in (k, it.0, it.1)

-- a name that has the number of an instance finds it
pub found : (r : PlainRoutine) (name : List ℕ) → is_some (instance_number r name) ≡ true → (k : ℕ) × (i : Instance) × Found r name k i
found r name there = found_by r name (instance_number r name) refl there

-- the name of a member that has a number is one of an instance
member_by : {A : Type 0} (f : BlockRef → Option A) (r : PlainRoutine) (name : List ℕ) (o : Option ℕ) → instance_number r name ≡ o → is_some (option_and_then f (option_map (λ (i : Instance). i.of) (option_and_then (slice_get r.instances) o))) ≡ true → is_some o ≡ true
member_by f r name None number there = absurd (cc)
member_by f r name (Some k) number there = refl

pub of_member : {A : Type 0} (f : BlockRef → Option A) (r : PlainRoutine) (name : List ℕ) → is_some (option_and_then f (block_named r name)) ≡ true → is_some (instance_number r name) ≡ true
of_member f r name there = member_by f r name (instance_number r name) refl there

-- what is found is of a block
pub block_found : (r : PlainRoutine) (name : List ℕ) (k : ℕ) (i : Instance) → Found r name k i → block_named r name ≡ Some i.of
block_found r name k i f = ap (option_map (λ (x : Instance). x.of)) f.named

-- a number that is there
pub there_is : (o : Option ℕ) → is_some o ≡ true → o ≡ Some (unwrap_or o 0)
there_is None there = absurd (cc)
there_is (Some n) there = refl
