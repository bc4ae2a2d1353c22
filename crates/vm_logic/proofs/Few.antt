-- A source that keeps the limit on slots has few values and few clocks.
use Rattle.std.proofs.Common.{ℕ, zero, suc, ◌+◌, ◌≤◌, List, [], ◌∷◌, length, length-append, Option, Some, None, arith}
use Rattle.std.specs.Prelude.{slice_get}
use Rattle.std.specs.List.{sum_by}
use Rattle.std.specs.Option.{option_map_or}
use Rattle.std.proofs.lemmas.List.Sums.{sum_by-cons}
use Rattle.plant_types.specs.Words.{folded}
use Rattle.logic_source.specs.declared.logic.Instance.{Instance}
use Rattle.logic_source.specs.declared.logic.BlockRef.{BlockRef}
use Rattle.logic_source.specs.declared.logic.BlockRef.TheVariants.{Ton, Tof, RTrig, Declared}
use Rattle.logic_source.specs.Source.{PlainRoutine, Source, global_cells}
use Rattle.logic_source.specs.Blocks.{levels}
use Rattle.plant_types.specs.Values.{Path}
use Rattle.logic_source.specs.Layout.{ClockAt, block_values, instance_values, own_values, values_rule, routine_values, block_clocks, instance_clocks, clocks_rule, routine_clocks, program_clocks, cell_paths, all_clocks}
use Rattle.logic_source.specs.Seats.{program_values_before, program_values_base}
use Rattle.logic_source.proofs.Seats.{own_count}
use Rattle.logic_limits.specs.Counts.{instance_slots, routine_slots, type_slots}
use Rattle.logic_limits.specs.Limits.{KeepsSlots}
use Rattle.vm_logic.proofs.Bases.{values_end}

-- a routine has no more values than slots, if the block types of its instances haven't
module _ (f : ℕ → Path → List Path) (g : ℕ → ℕ) (less : (n : ℕ) (path : Path) → length (f n path) ≤ g n) where
  block_values_few : (b : BlockRef) (path : Path) → length (block_values f b path) ≤ instance_slots g b
  block_values_few Ton path = omega arith
  block_values_few Tof path = omega arith
  block_values_few RTrig path = omega arith
  block_values_few (Declared n) path = less n path

  instance_values_few : (is : List Instance) (path : Path) → length (instance_values f is path) ≤ sum_by (λ (i : Instance). instance_slots g i.of) is
  instance_values_few [] path = omega arith
  instance_values_few (i ∷ is) path =
      let first = block_values f i.of (folded i.name ∷ path) in
      let own = block_values_few i.of (folded i.name ∷ path) in
      let rest = instance_values_few is path in
      let many = length-append first (instance_values f is path) in
      let sum = sum_by-cons (λ (j : Instance). instance_slots g j.of) i is in
      omega (arith, own, rest, many, sum)

  values_few : (r : PlainRoutine) (path : Path) → length (values_rule f r path) ≤ routine_slots g r
  values_few r path =
      let own = own_count r path in
      let rest = instance_values_few r.instances path in
      let many = length-append (own_values r path) (instance_values f r.instances path) in
      omega (arith, own, rest, many)

-- the same of clocks
module _ (f : ℕ → Path → List ClockAt) (g : ℕ → ℕ) (less : (n : ℕ) (path : Path) → length (f n path) ≤ g n) where
  block_clocks_few : (b : BlockRef) (path : Path) → length (block_clocks f b path) ≤ instance_slots g b
  block_clocks_few Ton path = omega arith
  block_clocks_few Tof path = omega arith
  block_clocks_few RTrig path = omega arith
  block_clocks_few (Declared n) path = less n path

  instance_clocks_few : (is : List Instance) (path : Path) → length (instance_clocks f is path) ≤ sum_by (λ (i : Instance). instance_slots g i.of) is
  instance_clocks_few [] path = omega arith
  instance_clocks_few (i ∷ is) path =
      let first = block_clocks f i.of (folded i.name ∷ path) in
      let own = block_clocks_few i.of (folded i.name ∷ path) in
      let rest = instance_clocks_few is path in
      let many = length-append first (instance_clocks f is path) in
      let sum = sum_by-cons (λ (j : Instance). instance_slots g j.of) i is in
      omega (arith, own, rest, many, sum)

  clocks_few : (r : PlainRoutine) (path : Path) → length (clocks_rule f r path) ≤ routine_slots g r
  clocks_few r path = let rest = instance_clocks_few r.instances path in omega (arith, rest)

module _ (blocks : List PlainRoutine) where
  values_by : (d : ℕ) (o : Option PlainRoutine) → ((n : ℕ) (path : Path) → length (levels (λ (p : Path). []) values_rule blocks d n path) ≤ levels 0 routine_slots blocks d n)
      → (path : Path) → length (option_map_or (values_rule (levels (λ (p : Path). []) values_rule blocks d)) o (λ (p : Path). []) path) ≤ option_map_or (routine_slots (levels 0 routine_slots blocks d)) o 0
  values_by d None before path = omega arith
  values_by d (Some r) before path = values_few (levels (λ (p : Path). []) values_rule blocks d) (levels 0 routine_slots blocks d) before r path

  values_at : (d n : ℕ) (path : Path) → length (levels (λ (p : Path). []) values_rule blocks d n path) ≤ levels 0 routine_slots blocks d n
  values_at zero n path = omega arith
  values_at (suc d) n path = values_by d (slice_get blocks n) (values_at d) path

  clocks_by : (d : ℕ) (o : Option PlainRoutine) → ((n : ℕ) (path : Path) → length (levels (λ (p : Path). []) clocks_rule blocks d n path) ≤ levels 0 routine_slots blocks d n)
      → (path : Path) → length (option_map_or (clocks_rule (levels (λ (p : Path). []) clocks_rule blocks d)) o (λ (p : Path). []) path) ≤ option_map_or (routine_slots (levels 0 routine_slots blocks d)) o 0
  clocks_by d None before path = omega arith
  clocks_by d (Some r) before path = clocks_few (levels (λ (p : Path). []) clocks_rule blocks d) (levels 0 routine_slots blocks d) before r path

  clocks_at : (d n : ℕ) (path : Path) → length (levels (λ (p : Path). []) clocks_rule blocks d n path) ≤ levels 0 routine_slots blocks d n
  clocks_at zero n path = omega arith
  clocks_at (suc d) n path = clocks_by d (slice_get blocks n) (clocks_at d) path

  -- a routine has no more values and no more standard blocks than slots
  pub routine_values_few : (r : PlainRoutine) (path : Path) → length (values_rule (routine_values blocks) r path) ≤ routine_slots (type_slots blocks) r
  routine_values_few r path = values_few (routine_values blocks) (type_slots blocks) (values_at (length blocks)) r path

  pub routine_clocks_few : (r : PlainRoutine) (path : Path) → length (clocks_rule (routine_clocks blocks) r path) ≤ routine_slots (type_slots blocks) r
  routine_clocks_few r path = clocks_few (routine_clocks blocks) (type_slots blocks) (clocks_at (length blocks)) r path

  values_before : (ps : List PlainRoutine) (k : ℕ) → program_values_before blocks ps k ≤ sum_by (routine_slots (type_slots blocks)) ps
  values_before [] k = omega arith
  values_before (p ∷ ps) zero = omega arith
  values_before (p ∷ ps) (suc k) =
      let own = values_few (routine_values blocks) (type_slots blocks) (values_at (length blocks)) p [] in
      let rest = values_before ps k in
      let sum = sum_by-cons (routine_slots (type_slots blocks)) p ps in
      omega (arith, own, rest, sum)

  clocks_of : (ps : List PlainRoutine) → length (program_clocks blocks ps) ≤ sum_by (routine_slots (type_slots blocks)) ps
  clocks_of [] = omega arith
  clocks_of (p ∷ ps) =
      let own = clocks_few (routine_clocks blocks) (type_slots blocks) (clocks_at (length blocks)) p (folded p.name ∷ []) in
      let rest = clocks_of ps in
      let many = length-append (clocks_rule (routine_clocks blocks) p (folded p.name ∷ [])) (program_clocks blocks ps) in
      let sum = sum_by-cons (routine_slots (type_slots blocks)) p ps in
      omega (arith, own, rest, many, sum)

-- where the values of a program begin, and behind the last one
pub bases_few : (source : Source) → KeepsSlots source → (k : ℕ) → program_values_base source k ≤ 65536
bases_few source keeps k =
    let slots : global_cells source + sum_by (routine_slots (type_slots source.blocks)) source.programs ≤ 65536 = keeps in
    let before = values_before source.blocks source.programs k in
    omega (arith, slots, before)

pub cells_few : (source : Source) → KeepsSlots source → (length (cell_paths source) ≤ 65536) × (length (all_clocks source) ≤ 65536)
cells_few source keeps =
    let slots : global_cells source + sum_by (routine_slots (type_slots source.blocks)) source.programs ≤ 65536 = keeps in
    let values = bases_few source keeps (length source.programs) in
    let end = values_end source in
    let clocks = clocks_of source.blocks source.programs in
    (omega (arith, values, end), omega (arith, slots, clocks))
