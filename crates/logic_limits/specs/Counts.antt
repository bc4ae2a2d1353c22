-- What a source counts: slots, size and cost, by its block types.
use Rattle.std.specs.Prelude.{ℕ, ◌+◌, List, map}
use Rattle.std.specs.List.{sum_by}
use Rattle.std.specs.Option.{option_map_or}
use Rattle.st_tree.specs.Costs.{body_cost, body_size}
use Rattle.logic_source.specs.Constants.{for_turns}
use Rattle.logic_source.specs.declared.logic.BlockRef.{BlockRef}
use Rattle.logic_source.specs.declared.logic.BlockRef.TheVariants as block
use Rattle.logic_source.specs.declared.logic.Instance.{Instance}
use Rattle.logic_source.specs.Source.{PlainRoutine, Source, own_cells, global_cells}
use Rattle.logic_source.specs.Blocks.{by_type}
use Rattle.logic_source.specs.Names.{block_named}

-- the slots of an instance, by those of the declared block types: a TON and a TOF are their inputs IN and PT and the block, an R_TRIG is its input CLK and the block
abbrev pub instance_slots : (ℕ → ℕ) → BlockRef → ℕ
instance_slots slots block.Ton = 3
instance_slots slots block.Tof = 3
instance_slots slots block.RTrig = 2
instance_slots slots (block.Declared n) = slots n

-- a routine has its own variables and the elements of its own arrays as slots, and those of each of its instances
abbrev pub routine_slots : (ℕ → ℕ) → PlainRoutine → ℕ
routine_slots slots r = own_cells r + sum_by (λ (i : Instance). instance_slots slots i.of) r.instances

-- what the body of an instance weighs, by the weights of the declared block types: a standard block 1
abbrev pub instance_weight : (ℕ → ℕ) → BlockRef → ℕ
instance_weight weights block.Ton = 1
instance_weight weights block.Tof = 1
instance_weight weights block.RTrig = 1
instance_weight weights (block.Declared n) = weights n

-- what the body of a routine's instance of a name weighs
abbrev pub called_weight : (ℕ → ℕ) → PlainRoutine → List ℕ → ℕ
called_weight weights r name = option_map_or (instance_weight weights) (block_named r name) 0

-- how large a routine is
abbrev pub routine_size : (ℕ → ℕ) → PlainRoutine → ℕ
routine_size sizes r = body_size (called_weight sizes r) r.body

-- what a routine costs
abbrev pub routine_cost : (ℕ → ℕ) → PlainRoutine → ℕ
routine_cost costs r = body_cost for_turns (called_weight costs r) r.body

-- the slots, the size and the cost of the declared block type of a number
abbrev pub type_slots : List PlainRoutine → ℕ → ℕ
type_slots blocks n = by_type 0 routine_slots blocks n

abbrev pub type_size : List PlainRoutine → ℕ → ℕ
type_size blocks n = by_type 0 routine_size blocks n

abbrev pub type_cost : List PlainRoutine → ℕ → ℕ
type_cost blocks n = by_type 0 routine_cost blocks n

-- the slots of a source: its globals, the elements of its global arrays, and those of its programs
abbrev pub slot_count : Source → ℕ
slot_count source = global_cells source + sum_by (routine_slots (type_slots source.blocks)) source.programs

-- how large the programs of a source are together
abbrev pub plant_size : Source → ℕ
plant_size source = sum_by (routine_size (type_size source.blocks)) source.programs

-- what each program of a source costs, in order
abbrev pub program_costs : Source → List ℕ
program_costs source = map (routine_cost (type_cost source.blocks)) source.programs
