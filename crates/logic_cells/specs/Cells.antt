-- Cells: the values of variables, and the clocks of standard blocks' instances.
use Rattle.std.specs.Prelude.{ℕ, ℤ, pos, List, [], Option, Some, None, map, slice_get, slice_set, slice_index_or, replicate}
use Rattle.std_blocks.specs.Calls.{Call}
use Rattle.logic_cells.specs.declared.clock.Standard.{Standard}
use Rattle.logic_cells.specs.declared.clock.Standard.TheVariants as standard
use Rattle.logic_cells.specs.declared.clock.Clock.{Clock}
use Rattle.logic_cells.specs.Clocks.{clock_of, clock_step}

pub record PlainCells : Type 0 where
  pub values : List ℤ
  pub clocks : List Clock

-- cells of FALSE and 0, and clocks before their first calls
abbrev pub zero_cells : ℕ → List Standard → PlainCells
zero_cells many standards = record { values = replicate many (pos 0); clocks = map (λ standard. clock_of standard []) standards }

-- the value of a number; 0 if there is none
abbrev pub value_at : PlainCells → ℕ → ℤ
value_at cells slot = slice_index_or cells.values slot (pos 0)

-- the clock of a number; one before its first call if there is none
abbrev pub clock_at : PlainCells → ℕ → Clock
clock_at cells number = slice_index_or cells.clocks number (clock_of standard.Ton [])

-- the values of slots among all cells, and the clocks of numbers
abbrev pub picked : List ℕ → List ℕ → PlainCells → PlainCells
picked slots numbers cells = record { values = map (value_at cells) slots; clocks = map (clock_at cells) numbers }

-- the cells after the value of a number was assigned, if there is one
abbrev pub assigned : PlainCells → ℕ → ℤ → PlainCells
assigned cells slot n = record { values = slice_set cells.values slot n; clocks = cells.clocks }

abbrev pub stepped_at : List Clock → ℕ → Call → Option Clock → List Clock
stepped_at clocks slot c None = clocks
stepped_at clocks slot c (Some clock) = slice_set clocks slot (clock_step c clock)

-- the cells after the clock of a number was called, if there is one
abbrev pub clocked : PlainCells → ℕ → Call → PlainCells
clocked cells slot c = record { values = cells.values; clocks = stepped_at cells.clocks slot c (slice_get cells.clocks slot) }
