-- What the code counts: slots, size and cost, each up to one above its limit, over a table of the block types' counts.
use Rattle.std.specs.Prelude.{◌≡◌, ℕ, ◌+◌, max, min, List, length, Option, Some, None, slice_get}
use Rattle.std.specs.Option.{option_map_or, option_and_then}
use Rattle.st_tree.specs.Plain.{PlainExpr}
use Rattle.logic_source.specs.Constants.{for_turns}
use Rattle.base_words.specs.Names.{find_name}
use Rattle.logic_source.specs.declared.logic.BlockRef.{BlockRef}
use Rattle.logic_source.specs.Source.{PlainRoutine}
use Rattle.logic_source.specs.Names.{block_named}
use Rattle.logic_limits.specs.declared.measures.Counts.{Counts}
use Rattle.logic_limits.specs.declared.measures.Measure.{Measure}
use Rattle.logic_limits.specs.declared.measures.Measure.TheVariants as measure
use Rattle.logic_limits.specs.Counts.{instance_weight, routine_slots, routine_size, routine_cost, type_slots, type_size, type_cost}
use Rattle.logic_limits.specs.Limits.{capped}

-- where a weight stops
abbrev pub last_of : Measure → ℕ
last_of measure.Size = 1000001
last_of measure.Cost = 2000001

-- what two branches weigh
abbrev pub joined : Measure → ℕ → ℕ → ℕ
joined measure.Size a b = a + b
joined measure.Cost a b = max a b

-- how many turns of a FOR count
abbrev pub turns_by : Measure → (from to : PlainExpr (List ℕ)) → Option (PlainExpr (List ℕ)) → ℕ
turns_by measure.Size from to by = 1
turns_by measure.Cost from to by = for_turns from to by

-- the weight among counts
abbrev pub weight_in : Measure → Counts → ℕ
weight_in measure.Size counts = counts.size
weight_in measure.Cost counts = counts.cost

-- the slots and the weight of a block type by a table; 0 past its end
abbrev pub slots_at : List Counts → ℕ → ℕ
slots_at table n = option_map_or (λ (counts : Counts). counts.slots) (slice_get table n) 0

abbrev pub weight_at : Measure → List Counts → ℕ → ℕ
weight_at m table n = option_map_or (weight_in m) (slice_get table n) 0

-- a first answer, or else another
abbrev pub or_else : {A : Type 0} → Option A → Option A → Option A
or_else None other = other
or_else (Some a) other = Some a

-- the block of a name, where names and their blocks stand in two lists
abbrev pub block_of : List (List ℕ) → List BlockRef → List ℕ → Option BlockRef
block_of names blocks name = option_and_then (slice_get blocks) (find_name names name)

-- names and their blocks are those of a routine's instances, the first of each name
pub record AreNamed (r : PlainRoutine) (names : List (List ℕ)) (blocks : List BlockRef) : Type 0 where
  pub long : length names ≡ length blocks
  pub found : (name : List ℕ) → block_of names blocks name ≡ block_named r name

-- what a call of a name weighs by a table
abbrev pub weight_of_name : Measure → List Counts → List (List ℕ) → List BlockRef → List ℕ → ℕ
weight_of_name m table names blocks name = option_map_or (instance_weight (weight_at m table)) (block_of names blocks name) 0

-- what a routine weighs, by the weights of the block types
abbrev pub routine_weight : Measure → (ℕ → ℕ) → PlainRoutine → ℕ
routine_weight measure.Size = routine_size
routine_weight measure.Cost = routine_cost

-- the counts of a routine by a table
abbrev pub counts_by : List Counts → PlainRoutine → Counts
counts_by table r =
    record {
      slots = min (routine_slots (slots_at table) r) 65537;
      size = min (routine_size (weight_at measure.Size table) r) 1000001;
      cost = min (routine_cost (weight_at measure.Cost table) r) 2000001;
    }

-- the counts of a routine of a source with these block types
abbrev pub routine_counts : List PlainRoutine → PlainRoutine → Counts
routine_counts blocks r =
    record {
      slots = capped 65536 (routine_slots (type_slots blocks) r);
      size = capped 1000000 (routine_size (type_size blocks) r);
      cost = capped 2000000 (routine_cost (type_cost blocks) r);
    }

-- a table has the counts of each block type
pub record AreCounted (blocks : List PlainRoutine) (table : List Counts) : Type 0 where
  pub long : length table ≡ length blocks
  pub each : (n : ℕ) (r : PlainRoutine) → slice_get blocks n ≡ Some r → slice_get table n ≡ Some (routine_counts blocks r)
