-- The image of a scan: inputs by number, with values of their kinds. All names are looked up before any value is judged.
use Rattle.std.specs.Prelude.{◌≡◌, ℕ, ◌==◌, Bool, true, false, ◌||◌, List, [], ◌∷◌, if◌then◌else◌, Option, Some, None, Result, Ok, Err, slice_get}
use Rattle.std.specs.List.{list_any}
use Rattle.std.specs.Option.{option_map, option_and_then}
use Rattle.plant_types.specs.Pairs.{PlainPair}
use Rattle.plant_types.specs.Values.{fitted, is_in_range, worth}
use Rattle.plant_types.specs.declared.values.Value.{Value}
use Rattle.st_names.specs.Scopes.{is_input}
use Rattle.logic_source.specs.declared.logic.Variable.{Variable}
use Rattle.logic_source.specs.Names.{find_global}
use Rattle.crew.specs.declared.fault.CrewFault.TheVariants as crew_fault
use Rattle.engine_system.specs.declared.event.EngineFault.{EngineFault}
use Rattle.engine_system.specs.declared.event.EngineFault.TheVariants as refusal
use Rattle.engine_system.specs.declared.image.Input.{Input}

-- what a pair gives a global, if that is an input
abbrev pub input_at : ℕ → PlainPair → Variable → Option Input
input_at n pair global = if is_input global.region then Some (record { number = n; kind = global.kind; given = pair.given }) else None

-- the input that a pair names, letter case ignored, with what is given for it
abbrev pub input_of : List Variable → PlainPair → Option Input
input_of globals pair = option_and_then (λ n. option_and_then (input_at n pair) (slice_get globals n)) (find_global globals pair.name)

-- the inputs that pairs name, if each names one
abbrev pub inputs_of : List Variable → List PlainPair → Option (List Input)
inputs_of globals [] = Some []
inputs_of globals (p ∷ ps) = option_and_then (λ input. option_map (λ rest. input ∷ rest) (inputs_of globals ps)) (input_of globals p)

-- whether an input is named twice
abbrev pub has_twin : List Input → Bool
has_twin [] = false
has_twin (p ∷ ps) = list_any (λ q. q.number == p.number) ps || has_twin ps

-- the values of inputs by number, if each fits its input's kind
abbrev pub values_of : List Input → Option (List (ℕ × Value))
values_of [] = Some []
values_of (p ∷ ps) = option_and_then (λ v. option_map (λ rest. (p.number, v) ∷ rest) (values_of ps)) (fitted p.kind p.given)

-- the image that pairs give, or the refusal: E3 for a name that is no input or comes twice, then E4 for a value that doesn't fit
unfoldable pub image_of : List Variable → List PlainPair → Result (List (ℕ × Value)) EngineFault
image_of globals pairs = elim (inputs_of globals pairs) [
  | None ↦ Err refusal.ImageName
  | Some inputs ↦ if has_twin inputs then Err refusal.ImageName else elim (values_of inputs) [ None ↦ Err refusal.ImageKind | Some values ↦ Ok values ]
]

-- an image gives a value to a global, in the range of that global's kind
abbrev pub FitsGlobal : List Variable → ℕ × Value → Type 0
FitsGlobal globals input = (global : Variable) × (slice_get globals input.0 ≡ Some global) × (is_in_range global.kind (worth input.1) ≡ true)

-- a refusal is the one that is due; allocation may fail at any time, and a crew, but for memory, where the event would be taken
abbrev pub IsDue : {A : Type 0} → EngineFault → Result A EngineFault → Type 0
IsDue refusal.Memory due = Unit {0}
IsDue refusal.MomentBack due = due ≡ Err refusal.MomentBack
IsDue refusal.MomentRange due = due ≡ Err refusal.MomentRange
IsDue refusal.ImageName due = due ≡ Err refusal.ImageName
IsDue refusal.ImageKind due = due ≡ Err refusal.ImageKind
IsDue (refusal.Crew crew_fault.Memory) due = ⊥
IsDue {A} (refusal.Crew _) due = (a : A) × (due ≡ Ok a)
IsDue refusal.HistoryFull due = due ≡ Err refusal.HistoryFull
IsDue refusal.ReloadConsoles due = due ≡ Err refusal.ReloadConsoles
IsDue refusal.ReloadEpoch due = due ≡ Err refusal.ReloadEpoch
