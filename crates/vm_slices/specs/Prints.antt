-- Instructions and places as numbers.
use Rattle.std.specs.Prelude.{◌≡◌, ℕ, ◌-◌, ℤ, List, [], ◌∷◌, ◌++◌, map, Option, ◌&&◌, not, min, nat_eq, nat_lt, if◌then◌else◌}
use Rattle.std.specs.List.{flat_map}
use Rattle.plant_types.specs.declared.values.Place.{Place}
use Rattle.st_tree.specs.declared.tree.Unary.{Unary}
use Rattle.st_tree.specs.declared.tree.Unary.TheVariants as unary
use Rattle.st_tree.specs.declared.tree.Binary.{Binary}
use Rattle.st_tree.specs.declared.tree.Binary.TheVariants as binary
use Rattle.acc_vm.specs.declared.instr.Instr.{Instr}
use Rattle.acc_vm.specs.declared.instr.Named.{Named}
use Rattle.acc_vm.specs.declared.instr.Operation.{Operation}
use Rattle.acc_vm.specs.declared.instr.Row.{Row}
use Rattle.acc_vm.specs.Operands.{operands, listed}
use Rattle.acc_vm.specs.Codes.{PlainCode}
use Rattle.vm_slices.specs.declared.prints.Counts.{Counts}
use Rattle.vm_slices.specs.declared.prints.Prints.{Prints}
use Rattle.vm_slices.specs.declared.prints.PlacePrints.{PlacePrints}

-- a number for each operator with one operand
abbrev pub unary_number : Unary → ℕ
unary_number unary.Not = 0
unary_number unary.Negate = 1
unary_number unary.NegateTime = 2

-- and for each with two
abbrev pub binary_number : Binary → ℕ
binary_number binary.And = 0
binary_number binary.Xor = 1
binary_number binary.Or = 2
binary_number binary.Equal = 3
binary_number binary.Unequal = 4
binary_number binary.Less = 5
binary_number binary.Greater = 6
binary_number binary.AtMost = 7
binary_number binary.AtLeast = 8
binary_number binary.Add = 9
binary_number binary.AddTime = 10
binary_number binary.Subtract = 11
binary_number binary.SubtractTime = 12
binary_number binary.Multiply = 13
binary_number binary.Divide = 14
binary_number binary.Mod = 15

-- an instruction as numbers by their sizes: its own number and those of its operators; those of slots, first slots of rows, clocks and instructions that it names; and literals,
-- which tell the bounds of an array too
abbrev pub kinds_of : Instr → List ℕ
kinds_of i = (operands i).opcode ∷ (map unary_number (operands i).unary ++ map binary_number (operands i).binary)

abbrev pub numbers_of : Instr → List ℕ
numbers_of i = (operands i).reads ++ ((operands i).writes ++ ((operands i).rows_read ++ ((operands i).rows_written ++ ((operands i).clocks ++ (operands i).targets))))

abbrev pub literals_of : Instr → List ℤ
literals_of i = (operands i).literals

-- lists with such numbers behind them, by what the machine's code tells of an instruction
abbrev pub with_kinds : List ℕ → Operation → List ℕ
with_kinds kinds o = (((kinds ++ o.opcode ∷ []) ++ map unary_number (listed o.unary)) ++ map binary_number (listed o.binary.0)) ++ map binary_number (listed o.binary.1)

abbrev pub firsts : List Row → List ℕ
firsts rows = map (λ (r : Row). r.first) rows

abbrev pub with_numbers : List ℕ → Named → Option ℕ → List ℕ
with_numbers numbers n target =
    ((((((numbers ++ listed n.reads.0) ++ listed n.reads.1) ++ listed n.write) ++ firsts (listed n.row_read)) ++ firsts (listed n.row_written)) ++ listed n.clock) ++ listed target

abbrev pub with_literals : List ℤ → Operation → List ℤ
with_literals literals o = ((literals ++ listed o.literals.0) ++ listed o.literals.1) ++ listed o.literals.2

-- the step from a place to the next one: how many statements of the same body that lies further on, or 255 where it lies elsewhere or far
abbrev pub step_of : Place → Place → ℕ
step_of last place = if nat_eq last.path place.path && not (nat_lt place.statement last.statement) then min (place.statement - last.statement) 255 else 255

-- the numbers of a place that are told: both, where its step doesn't tell it
abbrev pub told_of : ℕ → Place → List ℕ
told_of step place = if nat_eq step 255 then place.path ∷ place.statement ∷ [] else []

-- the steps through places behind a place, and the numbers of places that are told
abbrev pub steps_of : Place → List Place → List ℕ
steps_of last [] = []
steps_of last (place ∷ places) = step_of last place ∷ steps_of place places

abbrev pub told_places : Place → List Place → List ℕ
told_places last [] = []
told_places last (place ∷ places) = told_of (step_of last place) place ++ told_places place places

-- the place at which steps begin
abbrev pub opening : Place
opening = record { path = 0; statement = 0 }

-- lists of numbers are those of a code's places
pub record ArePlacesOf (places : List Place) (prints : PlacePrints) : Type 0 where
  pub steps_are : prints.steps.items ≡ steps_of opening places
  pub told_are : prints.told.items ≡ told_places opening places

-- lists of numbers are those of a code's instructions, one behind another, and those of its places
pub record ArePrintsOf (instrs : List Instr) (places : List Place) (prints : Prints) : Type 0 where
  pub kinds_are : prints.kinds.items ≡ flat_map kinds_of instrs
  pub numbers_are : prints.numbers.items ≡ flat_map numbers_of instrs
  pub literals_are : prints.literals.items ≡ flat_map literals_of instrs
  pub places_are : ArePlacesOf places prints.places

-- lists of numbers are the same
pub record HaveSameItems (a b : Prints) : Type 0 where
  pub kinds : a.kinds.items ≡ b.kinds.items
  pub numbers : a.numbers.items ≡ b.numbers.items
  pub literals : a.literals.items ≡ b.literals.items
  pub steps : a.places.steps.items ≡ b.places.steps.items
  pub told : a.places.told.items ≡ b.places.told.items

-- the numbers of a code
abbrev pub counts_of : PlainCode → Counts
counts_of code = record { paths = code.paths; values = code.values; clocks = code.clocks; stack = code.stack; cost = code.cost }
