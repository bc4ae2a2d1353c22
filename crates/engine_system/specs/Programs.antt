-- What a scan's programs make of the world, by the source.
use Rattle.std.specs.Prelude.{ℕ, ℤ, pos, Bool, false, List, map, fold, slice_get}
use Rattle.std.specs.Option.{option_map_or}
use Rattle.plant_types.specs.declared.values.Value.{Value}
use Rattle.plant_types.specs.Values.{worth}
use Rattle.logic_source.specs.declared.logic.Variable.{Variable}
use Rattle.logic_source.specs.Worlds.{World, assign, path_of}
use Rattle.level_scans.specs.Scans.{Scanned, programs_from}
use Rattle.engine_history.specs.Plants.{PlainPlant}
use Rattle.engine_history.specs.Names.{globals_of}

-- before the first event none of the programs is faulted
abbrev pub opening_faulted : List (List ℕ) → List Bool
opening_faulted programs = map (λ (program : List ℕ). false) programs

-- the value of a global by its number, in a world
abbrev pub global_in : List Variable → World → ℕ → ℤ
global_in globals w n = option_map_or (λ global. w.values (path_of global.name)) (slice_get globals n) (pos 0)

-- an input gets its value
abbrev pub with_input : List Variable → World → ℕ × Value → World
with_input globals w input = option_map_or (λ global. assign w (path_of global.name) (worth input.1)) (slice_get globals input.0) w

-- the named inputs are set, the others keep their values
abbrev pub with_inputs : List Variable → List (ℕ × Value) → World → World
with_inputs globals image w = fold (with_input globals) w image

-- a scan with an image at moment t: the inputs are set, then the programs run
unfoldable pub world_after : PlainPlant → List (ℕ × Value) → ℕ → List Bool → World → Scanned
world_after plant image t flags w = programs_from plant.source t 0 flags (with_inputs (globals_of plant) image w)
