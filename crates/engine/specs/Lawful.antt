-- Lawful histories, and the outputs that are shown after them.
use Rattle.std.specs.Prelude.{◌≡◌, ℕ, true, List, [], ◌∷◌, Ok, Some, slice_get}
use Rattle.plant_types.specs.Pairs.{PlainPair}
use Rattle.plant_types.specs.Values.{kind_of, worth}
use Rattle.plant_types.specs.declared.values.Value.{Value}
use Rattle.logic_source.specs.declared.logic.Variable.{Variable}
use Rattle.logic_source.specs.Worlds.{path_of}
use Rattle.logic_source.specs.Ranges.{AllInRange}
use Rattle.engine_system.specs.Plants.{PlainPlant, IsPlant}
use Rattle.engine_system.specs.Names.{globals_of}
use Rattle.engine_system.specs.Event.{Event}
use Rattle.engine_system.specs.Event.TheVariants as event
use Rattle.engine_system.specs.System.{System, opening_system, after_event, scan_event, order_event, reload_event, is_output}

-- an event was taken in a state: a scan is the one that some pairs give at its moment, an order is one that isn't refused there, and so is a reload, whose plant keeps the rules of plants
abbrev pub IsTaken : System → Event → Type 0
IsTaken sys (event.Scan image t) = (pairs : List PlainPair) × (scan_event sys pairs t ≡ Ok (event.Scan image t))
IsTaken sys (event.Order console order) = order_event sys console order ≡ Ok (event.Order console order)
IsTaken sys (event.Reload new) = (reload_event sys new ≡ Ok (event.Reload new)) × IsPlant new

-- from a state on, each event was taken in the state that those before it left
abbrev pub AreTaken : System → List Event → Type 0
AreTaken sys [] = Unit {0}
AreTaken sys (e ∷ events) = IsTaken sys e × AreTaken (after_event sys e) events

-- a lawful history: each event was taken, the first one before any event
unfoldable pub IsLawfulHistory : PlainPlant → List Event → Type 0
IsLawfulHistory plant history = AreTaken (opening_system plant) history

-- the value of each variable is in the range of its kind
abbrev pub HasValuesInRange : System → Type 0
HasValuesInRange sys = AllInRange sys.plant.source sys.world

-- an output is the value of an output global: of that global's kind, and worth the number that the world has for it
pub record IsOutputValue (sys : System) (output : ℕ × Value) : Type 0 where
  pub global : Variable
  pub global_is : slice_get (globals_of sys.plant) output.0 ≡ Some global
  pub is_output : is_output global.region ≡ true
  pub kind_is : kind_of output.1 ≡ global.kind
  pub worth_is : worth output.1 ≡ sys.world.values (path_of global.name)
