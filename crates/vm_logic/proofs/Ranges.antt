-- Values stay in the ranges of their kinds.
use Rattle.std.proofs.Common.{◌≡◌, sym, subst, ℕ, ℤ, Some, slice_get, true}
use Rattle.plant_types.specs.Values.{is_in_range}
use Rattle.st_tree.specs.Ranges.{Leaves}
use Rattle.logic_source.specs.declared.logic.Variable.{Variable}
use Rattle.logic_source.specs.Source.{Source}
use Rattle.logic_source.specs.Units.{source_in}
use Rattle.logic_source.specs.Blocks.{AreBelow}
use Rattle.logic_source.specs.Worlds.{World, opening, path_of, run_program}
use Rattle.logic_source.specs.Worlds as worlds
use Rattle.logic_source.specs.Ranges.{AllInRange}
use Rattle.logic_source.proofs.KindPaths.{global_in, global_put}
use Rattle.logic_source.proofs.Ranging as runs
use Rattle.logic_source.proofs.Beginning as begins
use Rattle.logic_frames.proofs.Known.{typed_globals}
use Rattle.vm_logic.specs.Sound.{IsSound}
use Rattle.vm_logic.proofs.Small.{sound_named}

-- the block types of a sound source's units are in its order
their_order : (source : Source) (sound : IsSound source) → AreBelow (source_in sound.units).blocks sound.order
their_order source sound = subst (λ (s : Source). AreBelow s.blocks sound.order) sound.are_theirs sound.below

pub opening_in_range : (source : Source) → IsSound source → AllInRange source (opening source)
opening_in_range source sound =
    subst (λ (s : Source). AllInRange s (opening s)) (sym sound.are_theirs) (begins.opening_in_range sound.units sound.typed sound.order (their_order source sound) (typed_globals sound.units sound.typed))

pub run_program_keeps : (source : Source) (n moment : ℕ) (w : World) → IsSound source → AllInRange source w → Leaves (AllInRange source) (run_program source n moment w)
run_program_keeps source n moment w sound =
    subst (λ (s : Source). AllInRange s w → Leaves (AllInRange s) (run_program s n moment w)) (sym sound.are_theirs)
    (runs.program_keeps sound.units sound.typed sound.order (their_order source sound) (typed_globals sound.units sound.typed) moment n w)

pub assigned_global_keeps : (source : Source) (w : World) (i : ℕ) (g : Variable) (n : ℤ) → IsSound source → slice_get source.globals i ≡ Some g → is_in_range g.kind n ≡ true → AllInRange source w → AllInRange source (worlds.assign w (path_of g.name) n)
assigned_global_keeps source w i g n sound at fits holds = global_put source (sound_named source sound) w i g n at fits holds

pub global_in_range : (source : Source) (w : World) (i : ℕ) (g : Variable) → AllInRange source w → slice_get source.globals i ≡ Some g → is_in_range g.kind (w.values (path_of g.name)) ≡ true
global_in_range source w i g holds at = global_in source w holds i g at
