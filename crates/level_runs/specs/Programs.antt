-- Programs of compiled code over cells, by what their instructions name.
use Rattle.std.specs.Prelude.{ℕ, ◌==◌, ◌||◌, ◌⊎◌, ℤ, Bool, List, [], Option, Some, None, length, slice_get, slice_index, slice_index_or}
use Rattle.std.proofs.Common.{inl, inr}
use Rattle.std.specs.List.{list_any}
use Rattle.plant_types.specs.declared.values.Trap.{Trap}
use Rattle.st_tree.specs.Meaning.{Done, Trapped, Spot}
use Rattle.logic_cells.specs.Cells.{PlainCells}
use Rattle.plant_types.specs.Values.{Path}
use Rattle.logic_cells.specs.declared.clock.Clock.{Clock}
use Rattle.acc_vm.specs.Machine.{Run, Over, Unfinished, Stuck}
use Rattle.acc_vm.specs.Codes.{PlainCode, run_of}
use Rattle.acc_vm.specs.declared.instr.Instr.{Instr}
use Rattle.vm_slices.specs.Slots.{slots_read, slots_written, clocks_of}
use Rattle.level_runs.specs.Stores as programs

-- what a run leaves, and its trap if it trapped; one that never ends, which sound code has from no cells with all that it names, is no run
abbrev pub as_ran : PlainCells → Run → programs.RanProgram PlainCells (Spot × Trap)
as_ran cells (Over (Done after) left) = record { store = after; trap = None }
as_ran cells (Over (Trapped after spot trap) left) = record { store = after; trap = Some (spot, trap) }
as_ran cells Unfinished = record { store = cells; trap = None }
as_ran cells Stuck = record { store = cells; trap = None }

-- a place in cells: that of a value or of a clock, by its number
pub data Slot : Type 0 where
  Value : ℕ → Slot
  Clocked : ℕ → Slot

-- what stands there
abbrev pub cell_at : PlainCells → Slot → Option ℤ ⊎ Option Clock
cell_at cells (Value s) = inl (slice_get cells.values s)
cell_at cells (Clocked k) = inr (slice_get cells.clocks k)

-- whether an instruction of a code has a number among those that a rule tells of it
abbrev pub some_has : (Instr → List ℕ) → List Instr → ℕ → Bool
some_has numbers code n = list_any (λ i. list_any (λ m. m == n) (numbers i)) code

-- whether code writes a slot: a value that an instruction writes, a clock that one names
abbrev pub writes_slot : List Instr → Slot → Bool
writes_slot code (Value s) = some_has slots_written code s
writes_slot code (Clocked k) = some_has clocks_of code k

-- whether code names a slot: it reads or writes it
abbrev pub names_slot : List Instr → Slot → Bool
names_slot code (Value s) = some_has slots_read code s || some_has slots_written code s
names_slot code (Clocked k) = some_has clocks_of code k

abbrev pub no_code : PlainCode
no_code = record { instrs = []; places = []; paths = 0; values = 0; clocks = 0; stack = 0; cost = 0 }

-- the code of a program; none if there is no such program
abbrev pub code_at : List PlainCode → ℕ → PlainCode
code_at codes p = slice_index_or codes p no_code

-- the programs of codes, in their levels, at a moment and with the names of each program's paths
abbrev pub programs_at : ℕ → (ℕ → List Path) → List PlainCode → List ℕ → programs.Programs PlainCells Slot (Option ℤ ⊎ Option Clock) (ℕ × ℕ) (Spot × Trap)
programs_at moment paths codes levels = record {
  size = λ cells. (length cells.values, length cells.clocks);
  value = cell_at;
  names = λ p. names_slot (code_at codes p).instrs;
  writes = λ p. writes_slot (code_at codes p).instrs;
  run = λ p cells. as_ran cells (run_of moment (paths p) (code_at codes p) cells);
  level = slice_index levels;
}
