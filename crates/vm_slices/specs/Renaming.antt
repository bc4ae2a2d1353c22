-- Code whose slots and clocks have other numbers.
use Rattle.std.specs.Prelude.{◌≡◌, ◌<◌, ◌+◌, ◌++◌, ℕ, List, map, Some, slice_get}
use Rattle.std.specs.List.{AllByRecursion}
use Rattle.plant_types.specs.Values.{row_length}
use Rattle.logic_cells.specs.Cells.{PlainCells}
use Rattle.acc_vm.specs.declared.instr.Instr.{Instr}
use Rattle.acc_vm.specs.Operands.{PlainOperands, operands, bounds_of, renamed}
use Rattle.acc_vm.specs.Codes.{PlainCode}
use Rattle.vm_slices.specs.Slots.{Names, NamesClock}

-- code by other numbers, of so many slots and clocks; its places, its stack and its cost are the same
abbrev pub renamed_code : (f g : ℕ → ℕ) (values clocks : ℕ) → PlainCode → PlainCode
renamed_code f g values clocks code =
    record { instrs = map (renamed f g) code.instrs; places = code.places; paths = code.paths; values = values; clocks = clocks; stack = code.stack; cost = code.cost }

-- other numbers keep so many from a first one on in one piece
abbrev pub KeepsRow : (ℕ → ℕ) → ℕ → ℕ → Type 0
KeepsRow f first count = (k : ℕ) → k < count → f (first + k) ≡ f first + k

-- they keep the rows of an instruction
abbrev pub KeepsRows : (ℕ → ℕ) → PlainOperands → Type 0
KeepsRows f o = AllByRecursion (λ first. KeepsRow f first (row_length (bounds_of o))) (o.rows_read ++ o.rows_written)

-- other numbers tell apart what a code names, and keep its rows
pub record TellsApart (f g : ℕ → ℕ) (code : List Instr) : Type 0 where
  pub values : (s r : ℕ) → Names code s → Names code r → f s ≡ f r → s ≡ r
  pub clocks : (k l : ℕ) → NamesClock code k → NamesClock code l → g k ≡ g l → k ≡ l
  pub rows : (pc : ℕ) (i : Instr) → slice_get code pc ≡ Some i → KeepsRows f (operands i)

-- cells have under other numbers what others have of all that a code names, or lack it as they do
pub record StandsFor (f g : ℕ → ℕ) (code : List Instr) (cells small : PlainCells) : Type 0 where
  pub values : (s : ℕ) → Names code s → slice_get small.values (f s) ≡ slice_get cells.values s
  pub clocks : (k : ℕ) → NamesClock code k → slice_get small.clocks (g k) ≡ slice_get cells.clocks k

-- other numbers of what a code names are below so many
pub record HasRoom (f g : ℕ → ℕ) (many_values many_clocks : ℕ) (code : List Instr) : Type 0 where
  pub values : (s : ℕ) → Names code s → f s < many_values
  pub clocks : (k : ℕ) → NamesClock code k → g k < many_clocks
