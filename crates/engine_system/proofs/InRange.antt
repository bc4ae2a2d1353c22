-- An image that is taken, and the programs of a scan, keep each value in the range of its variable's kind.
use Rattle.std.proofs.Common.{◌≡◌, ℕ, ◌+◌, ℤ, pos, negsuc, Bool, true, false, List, [], ◌∷◌, length, All, fold, refl, sym, subst, Option, Some, None, Ok}
use Rattle.std.specs.Prelude.{slice_get, not, if◌then◌else◌}
use Rattle.std.specs.Ordering.{int_eq}
use Rattle.std.specs.Option.{option_map, option_map_or, option_and_then}
use Rattle.std.proofs.lemmas.Option.{option_and_then_some, slice_get_within}
use Rattle.std.proofs.lemmas.List.Elements.{All-nil, All-cons, All-head, All-tail, All-weaker}
use Rattle.plant_types.specs.Pairs.{PlainPair}
use Rattle.plant_types.specs.declared.values.Kind.{Kind}
use Rattle.plant_types.specs.declared.values.Kind.TheVariants as kind
use Rattle.plant_types.specs.declared.values.Given.{Given}
use Rattle.plant_types.specs.declared.values.Given.TheVariants as given
use Rattle.plant_types.specs.declared.values.Value.{Value}
use Rattle.plant_types.specs.declared.values.Value.TheVariants as value
use Rattle.plant_types.specs.declared.values.Trap.{Trap}
use Rattle.plant_types.specs.Values.{worth, fitted, is_outside, is_in_range}
use Rattle.plant_types.specs.declared.values.Place.{Place}
use Rattle.st_tree.specs.Meaning.{Ran, Done, Trapped}
use Rattle.st_tree.specs.Ranges.{Leaves}
use Rattle.st_names.specs.Scopes.{is_input}
use Rattle.logic_source.specs.declared.logic.Variable.{Variable}
use Rattle.logic_source.specs.Source.{Source}
use Rattle.logic_source.specs.Names.{find_global}
use Rattle.logic_source.specs.Worlds.{World, assign, opening, path_of, run_program}
use Rattle.logic_source.specs.Ranges.{AllInRange}
use Rattle.logic_source.specs.Carried.{carried}
use Rattle.logic_source.proofs.Carrying.{carried_in_range}
use Rattle.logic_cells.specs.Cells.{PlainCells}
use Rattle.level_scans.specs.Stands.{StandFor}
use Rattle.level_scans.specs.Sound.{IsSound}
use Rattle.level_scans.specs.VmLogicRuns.{HasCells}
use Rattle.level_scans.proofs.Small.{sound_named}
use Rattle.level_scans.proofs.Standing.{are_there}
use Rattle.level_scans.proofs.Ranges.{run_program_keeps, assigned_global_keeps, opening_in_range}
use Rattle.engine_history.specs.Plants.{PlainPlant}
use Rattle.engine_history.specs.Names.{globals_of}
use Rattle.engine_history.specs.declared.event.Event.TheVariants as event
use Rattle.engine_system.specs.declared.image.Input.{Input}
use Rattle.engine_system.specs.Image.{input_at, input_of, inputs_of, values_of, FitsGlobal}
use Rattle.level_scans.specs.Scans.{Scanned, after_run, programs_from}
use Rattle.engine_system.specs.Programs.{with_input, with_inputs, world_after}
use Rattle.engine_system.specs.System.{taken_scan}
use Rattle.level_scans.specs.Runs.{ProgramsRan}
use Rattle.engine_system.specs.Steps.{with_cell, StandInRange}
use Rattle.engine_system.proofs.CellWorlds.{inputs_stand}
use Rattle.engine_system.proofs.Images.{has_number, same_some, mapped_some, chosen_input, taken_image}

-- a number in the range of a kind
abbrev In : Kind → ℤ → Type 0
In k n = is_in_range k n ≡ true

truth_in : (b : Bool) → In kind.Bool (worth (value.Bool b))
truth_in true = refl
truth_in false = refl

bit_in : (b c : Bool) (v : Value) → (if b then Some (value.Bool false) else if c then Some (value.Bool true) else None) ≡ Some v → In kind.Bool (worth v)
bit_in true c v is = subst (λ v. In kind.Bool (worth v)) (let e : value.Bool false ≡ v = cc in e) refl
bit_in false true v is = subst (λ v. In kind.Bool (worth v)) (let e : value.Bool true ≡ v = cc in e) refl
bit_in false false v is = absurd (cc)

dint_in : (b : Bool) (n : ℤ) (v : Value) → not b ≡ is_in_range kind.Dint n → (if b then None else Some (value.Dint n)) ≡ Some v → In kind.Dint (worth v)
dint_in true n v at is = absurd (cc)
dint_in false n v at is = subst (λ v. In kind.Dint (worth v)) (let e : value.Dint n ≡ v = cc in e) (sym at)

time_in : (b : Bool) (n : ℤ) (v : Value) → not b ≡ is_in_range kind.Time n → (if b then None else Some (value.Time n)) ≡ Some v → In kind.Time (worth v)
time_in true n v at is = absurd (cc)
time_in false n v at is = subst (λ v. In kind.Time (worth v)) (let e : value.Time n ≡ v = cc in e) (sym at)

-- a value that was given for a kind is in its range
fitted_in : (k : Kind) (g : Given) (v : Value) → fitted k g ≡ Some v → In k (worth v)
fitted_in kind.Bool (given.Truth b) v is = subst (λ v. In kind.Bool (worth v)) (let e : value.Bool b ≡ v = cc in e) (truth_in b)
fitted_in kind.Bool (given.Whole n) v is = bit_in (int_eq n (pos 0)) (int_eq n (pos 1)) v is
fitted_in kind.Dint (given.Truth b) v is = absurd (cc)
fitted_in kind.Dint (given.Whole n) v is = dint_in (is_outside (negsuc 2147483647) (pos 2147483647) n) n v refl is
fitted_in kind.Time (given.Truth b) v is = absurd (cc)
fitted_in kind.Time (given.Whole n) v is = time_in (is_outside (negsuc 9223372036854775807) (pos 9223372036854775807) n) n v refl is

-- an input is a global, and has its kind
abbrev HasKind : List Variable → Input → Type 0
HasKind globals p = (global : Variable) × (slice_get globals p.number ≡ Some global) × (global.kind ≡ p.kind)

input_kind : (globals : List Variable) (pair : PlainPair) (p : Input) → input_of globals pair ≡ Some p → HasKind globals p
input_kind globals pair p h =
    option_and_then_some (λ n. option_and_then (input_at n pair) (slice_get globals n)) (find_global globals pair.name) p h
    (λ n found at. option_and_then_some (input_at n pair) (slice_get globals n) p at
    (λ g there is. subst (HasKind globals) (chosen_input (is_input g.region) (record { number = n; kind = g.kind; given = pair.given }) p is) (g, there, refl)))

input_kinds : (globals : List Variable) (pairs : List PlainPair) (inputs : List Input) → inputs_of globals pairs ≡ Some inputs → All (HasKind globals) inputs
input_kinds globals [] inputs h = subst (All (HasKind globals)) (same_some [] inputs h) (All-nil (HasKind globals))
input_kinds globals (pair ∷ pairs) inputs h =
    let P = HasKind globals in
    option_and_then_some (λ input. option_map (λ rest. input ∷ rest) (inputs_of globals pairs)) (input_of globals pair) inputs h
    (λ input at is. mapped_some (λ rest. input ∷ rest) (inputs_of globals pairs) inputs is
    (λ rest others made. subst (All P) made (All-cons P input rest (input_kind globals pair input at) (input_kinds globals pairs rest others))))

fits_at : (globals : List Variable) (p : Input) (v : Value) → HasKind globals p → fitted p.kind p.given ≡ Some v → FitsGlobal globals (p.number, v)
fits_at globals p v has at = (has.0, has.1, subst (λ k. In k (worth v)) (sym has.2) (fitted_in p.kind p.given v at))

values_fit : (globals : List Variable) (inputs : List Input) (values : List (ℕ × Value)) → All (HasKind globals) inputs → values_of inputs ≡ Some values → All (FitsGlobal globals) values
values_fit globals [] values kinds h = subst (All (FitsGlobal globals)) (same_some [] values h) (All-nil (FitsGlobal globals))
values_fit globals (p ∷ ps) values kinds h =
    let P = FitsGlobal globals in
    option_and_then_some (λ v. option_map (λ rest. (p.number, v) ∷ rest) (values_of ps)) (fitted p.kind p.given) values h
    (λ v at is. mapped_some (λ rest. (p.number, v) ∷ rest) (values_of ps) values is
    (λ rest others made. subst (All P) made (All-cons P (p.number, v) rest (fits_at globals p v (All-head (HasKind globals) p ps kinds) at) (values_fit globals ps rest (All-tail (HasKind globals) p ps kinds) others))))

-- the image of a scan that is taken fits the globals
pub taken_fits : (globals : List Variable) (last events : ℕ) (pairs : List PlainPair) (t u : ℕ) (image : List (ℕ × Value)) → taken_scan globals last events pairs t ≡ Ok (event.Scan image u) → All (FitsGlobal globals) image
taken_fits globals last events pairs t u image h =
    let is = taken_image globals last events pairs t u image h in
    values_fit globals is.inputs image (input_kinds globals pairs is.inputs is.inputs_are) is.values_are

-- inputs that fit keep the ranges
input_in : (source : Source) (w : World) (input : ℕ × Value) → IsSound source → FitsGlobal source.globals input → AllInRange source w → AllInRange source (with_input source.globals w input)
input_in source w input sound fits holds =
    let set_to : Option Variable → World = λ o. option_map_or (λ global. assign w (path_of global.name) (worth input.1)) o w in
    subst (λ o. AllInRange source (set_to o)) (sym fits.1) (assigned_global_keeps source w input.0 fits.0 (worth input.1) sound fits.1 fits.2 holds)

inputs_in : (source : Source) (image : List (ℕ × Value)) (w : World) → IsSound source → All (FitsGlobal source.globals) image → AllInRange source w → AllInRange source (with_inputs source.globals image w)
inputs_in source [] w sound fits holds = holds
inputs_in source (input ∷ image) w sound fits holds =
    let P = FitsGlobal source.globals in
    inputs_in source image (with_input source.globals w input) sound (All-tail P input image fits) (input_in source w input sound (All-head P input image fits) holds)

-- so do programs
after_in : (source : Source) (r : Ran World) (others : World → Scanned) → Leaves (AllInRange source) r → ((u : World) → AllInRange source u → AllInRange source (others u).world) → AllInRange source (after_run r others).world
after_in source (Done w) others left rest = rest w left
after_in source (Trapped w spot trap) others left rest = rest w left

programs_in : (source : Source) (t n : ℕ) (flags : List Bool) (w : World) → IsSound source → AllInRange source w → AllInRange source (programs_from source t n flags w).world
programs_in source t n [] w sound holds = holds
programs_in source t n (true ∷ flags) w sound holds = programs_in source t (n + 1) flags w sound holds
programs_in source t n (false ∷ flags) w sound holds =
    after_in source (run_program source n t w) (programs_from source t (n + 1) flags) (run_program_keeps source n t w sound holds) (λ u h. programs_in source t (n + 1) flags u sound h)

-- cells in which inputs got their values are still as many as the source has
pub inputs_have_cells : (source : Source) (old : PlainCells) (image : List (ℕ × Value)) → IsSound source → All (FitsGlobal source.globals) image → StandInRange source old → HasCells source (fold with_cell old image)
inputs_have_cells source old image sound fits held =
    let within = All-weaker (FitsGlobal source.globals) (has_number (length source.globals)) (λ input fit. slice_get_within source.globals input.0 fit.0 fit.1) image fits in
    are_there source (fold with_cell old image) (with_inputs source.globals image held.world) (inputs_stand source image old held.world sound within held.stands)

-- a scan over cells that stand for a world in range leaves such cells
pub scan_stands : (source : Source) (old new : PlainCells) (image : List (ℕ × Value)) (t : ℕ) (flags faulted : List Bool) (faults : List (Place × Trap)) → IsSound source → All (FitsGlobal source.globals) image → StandInRange source old
    → ((w : World) → StandFor source (fold with_cell old image) w → ProgramsRan source (programs_from source t 0 flags w) new faulted faults) → StandInRange source new
scan_stands source old new image t flags faulted faults sound fits held ran =
    let within = All-weaker (FitsGlobal source.globals) (has_number (length source.globals)) (λ input fit. slice_get_within source.globals input.0 fit.0 fit.1) image fits in
    let w = with_inputs source.globals image held.world in
    record {
      world = (programs_from source t 0 flags w).world;
      stands = (ran w (inputs_stand source image old held.world sound within held.stands)).world_stands;
      in_range = programs_in source t 0 flags w sound (inputs_in source image held.world sound fits held.in_range);
    }

-- so does a scan
pub scan_in : (plant : PlainPlant) (image : List (ℕ × Value)) (t : ℕ) (flags : List Bool) (w : World) → IsSound plant.source → All (FitsGlobal plant.source.globals) image → AllInRange plant.source w → AllInRange plant.source (world_after plant image t flags w).world
unfolding world_after
scan_in plant image t flags w sound fits holds = programs_in plant.source t 0 flags (with_inputs (globals_of plant) image w) sound (inputs_in plant.source image w sound fits holds)

-- what goes over to the source of a new plant is in range
pub reload_in : (old new : PlainPlant) (w : World) → IsSound new.source → AllInRange old.source w → AllInRange new.source (carried old.source new.source w)
reload_in old new w sound holds = carried_in_range old.source new.source w (sound_named new.source sound) holds (opening_in_range new.source sound)

-- the cells before the first event stand for a world in range
pub opening_stands : (source : Source) (cells : PlainCells) → IsSound source → StandFor source cells (opening source) → StandInRange source cells
opening_stands source cells sound stands = record { world = opening source; stands = stands; in_range = opening_in_range source sound }
