-- What the cells of a source hold, by the numbers and names of its globals.
use Rattle.std.proofs.Common.{◌≡◌, ◌∙◌, ap, refl, ℕ, ℤ, zero, suc, List, [], ◌∷◌, ◌++◌, length, Some, slice_get}
use Rattle.std.specs.Prelude.{option_map}
use Rattle.std.proofs.lemmas.List.{length-map}
use Rattle.std.proofs.lemmas.Option.{slice_get-map}
use Rattle.plant_types.specs.Words.{folded}
use Rattle.logic_source.specs.declared.logic.Variable.{Variable}
use Rattle.logic_source.specs.Source.{Source}
use Rattle.logic_source.specs.Names.{global_words, find_global}
use Rattle.logic_source.specs.Worlds.{World, assign, path_of}
use Rattle.logic_source.specs.Layout.{row_values, variable_values, global_values, program_values, cell_paths, all_clocks}
use Rattle.logic_source.proofs.Seats.{word_at}
use Rattle.logic_cells.specs.declared.clock.Clock.{Clock}
use Rattle.logic_cells.specs.Cells.{PlainCells, value_at, assigned}
use Rattle.logic_frames.specs.Stands.{clock_in, StandFor}
use Rattle.logic_frames.proofs.Cells.{value_held, value_put}
use Rattle.vm_logic.specs.Sound.{IsSound}
use Rattle.vm_logic.specs.Runs.{HasCells}
use Rattle.vm_logic.proofs.Small.{sound_named}

pub as_many : (source : Source) (cells : PlainCells) (w : World) → StandFor source cells w → length cells.values ≡ length (cell_paths source)
as_many source cells w stands = ap length stands.values_are ∙ length-map (cell_paths source) w.values

pub are_there : (source : Source) (cells : PlainCells) (w : World) → StandFor source cells w → HasCells source cells
are_there source cells w stands = record {
  values = as_many source cells w stands;
  clocks = ap (λ (l : List Clock). length l) stands.clocks_are ∙ length-map (all_clocks source) (clock_in w);
}

at_front : {A : Type 0} (xs ys : List A) (i : ℕ) (a : A) → slice_get xs i ≡ Some a → slice_get (xs ++ ys) i ≡ Some a
at_front [] ys i a at = absurd (cc)
at_front (x ∷ xs) ys zero a at = at
at_front (x ∷ xs) ys (suc i) a at = at_front xs ys i a at

-- the path of a global's number
pub global_at : (source : Source) (i : ℕ) (g : Variable) → slice_get source.globals i ≡ Some g → slice_get (cell_paths source) i ≡ Some (path_of g.name)
global_at source i g at =
    at_front (global_values source) (program_values source.blocks source.programs) i (path_of g.name)
    (at_front (variable_values source.globals) (row_values source.rows []) i (path_of g.name)
    (slice_get-map (λ word. word ∷ []) (global_words source.globals) i
    ∙ ap (option_map (λ word. word ∷ [])) (slice_get-map (λ (v : Variable). folded v.name) source.globals i ∙ ap (option_map (λ (v : Variable). folded v.name)) at)))

pub cell_holds : (source : Source) (cells : PlainCells) (w : World) (i : ℕ) (g : Variable) → slice_get source.globals i ≡ Some g → StandFor source cells w → value_at cells i ≡ w.values (path_of g.name)
cell_holds source cells w i g at stands = value_held source cells w stands i (path_of g.name) (global_at source i g at)

pub cell_written : (source : Source) (cells : PlainCells) (w : World) (i : ℕ) (g : Variable) (n : ℤ) → IsSound source → slice_get source.globals i ≡ Some g → StandFor source cells w → StandFor source (assigned cells i n) (assign w (path_of g.name) n)
cell_written source cells w i g n sound at stands = value_put source cells w stands (sound_named source sound) i (path_of g.name) n (global_at source i g at)

named_at : (globals : List Variable) (name : List ℕ) (i : ℕ) → slice_get (global_words globals) i ≡ Some (folded name) → (g : Variable) × (slice_get globals i ≡ Some g) × (path_of g.name ≡ path_of name)
named_at [] name i at = absurd (cc)
named_at (g ∷ gs) name zero at = (g, refl, (let same : folded g.name ≡ folded name = cc in ap (λ (x : List ℕ). x ∷ []) same))
named_at (g ∷ gs) name (suc i) at = named_at gs name i at

pub global_found : (globals : List Variable) (name : List ℕ) (i : ℕ) → find_global globals name ≡ Some i → (g : Variable) × (slice_get globals i ≡ Some g) × (path_of g.name ≡ path_of name)
global_found globals name i is = named_at globals name i (word_at (global_words globals) name i is)
