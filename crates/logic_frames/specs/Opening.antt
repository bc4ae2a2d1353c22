-- The cells before the first scan.
use Rattle.std.specs.Prelude.{ℕ, zero, suc, ◌+◌, List, [], ◌∷◌, length, map}
use Rattle.logic_source.specs.Source.{Source, global_cells}
use Rattle.logic_source.specs.Layout.{ClockAt, cell_paths, all_clocks}
use Rattle.logic_cells.specs.Cells.{PlainCells, zero_cells}
use Rattle.logic_walk.specs.declared.frame.Frame.{Frame}
use Rattle.logic_walk.specs.Starts.{frame_begun}
use Rattle.logic_frames.specs.Frames.{program_base}
use Rattle.logic_frames.specs.Stands.{standard_of}

-- the cells of a source in which each value is FALSE or 0, and no standard block was called
abbrev pub cells_of : Source → PlainCells
cells_of source = zero_cells (length (cell_paths source)) (map (λ (c : ClockAt). standard_of c.of) (all_clocks source))

-- the cells after the initial values of so many programs, from the one of a number on, by the frames of a source
abbrev pub programs_started : Source → List ℕ → List Frame → (many n : ℕ) → PlainCells → PlainCells
programs_started source order frames zero n cells = cells
programs_started source order frames (suc many) n cells =
    programs_started source order frames many (n + 1) (frame_begun (global_cells source) frames (length frames) (length order + n) (program_base source n) cells)

-- the cells before the first scan: no standard block was called, and the initial values are assigned, the globals' by a frame of their own, and then each program's in turn
abbrev pub opening_cells : Source → List ℕ → Frame → List Frame → PlainCells
opening_cells source order start frames =
    programs_started source order frames (length source.programs) 0 (frame_begun (global_cells source) (start ∷ []) 1 0 (record { values = 0; clocks = 0 }) (cells_of source))
