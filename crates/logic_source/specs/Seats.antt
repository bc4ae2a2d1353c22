-- Where the values and the standard blocks of instances stand in the lists of all, by number.
use Rattle.std.specs.Prelude.{◌≡◌, ℕ, zero, suc, ◌+◌, Bool, true, false, if◌then◌else◌, List, [], ◌∷◌, length, take, Option, Some, None, option_map, option_and_then, slice_get, codes}
use Rattle.plant_types.specs.Words.{same_word}
use Rattle.logic_source.specs.declared.logic.Variable.{Variable}
use Rattle.logic_source.specs.declared.logic.Row.{Row}
use Rattle.logic_source.specs.declared.logic.Instance.{Instance}
use Rattle.logic_source.specs.declared.logic.BlockRef.{BlockRef}
use Rattle.logic_source.specs.declared.logic.BlockRef.TheVariants.{Ton, Tof, RTrig, Declared}
use Rattle.logic_source.specs.Source.{PlainRoutine, Source, row_cells, own_cells, global_cells}
use Rattle.logic_source.specs.Names.{global_words, own_words, row_words, find_word}
use Rattle.logic_source.specs.Layout.{block_values, values_rule, routine_values, block_clocks, clocks_rule, routine_clocks}

-- a list stands in another one from a number on
abbrev pub StandsFrom : {A : Type 0} → List A → ℕ → List A → Type 0
StandsFrom {A} all base part = (i : ℕ) (a : A) → slice_get part i ≡ Some a → slice_get all (base + i) ≡ Some a

-- how many values and how many standard blocks an instance has
abbrev pub value_count : List PlainRoutine → BlockRef → ℕ
value_count blocks b = length (block_values (routine_values blocks) b [])

abbrev pub clock_count : List PlainRoutine → BlockRef → ℕ
clock_count blocks b = length (block_clocks (routine_clocks blocks) b [])

-- how many values the first so many instances have together
abbrev pub values_before : List PlainRoutine → List Instance → ℕ → ℕ
values_before blocks [] k = 0
values_before blocks (i ∷ is) zero = 0
values_before blocks (i ∷ is) (suc k) = value_count blocks i.of + values_before blocks is k

abbrev pub clocks_before : List PlainRoutine → List Instance → ℕ → ℕ
clocks_before blocks [] k = 0
clocks_before blocks (i ∷ is) zero = 0
clocks_before blocks (i ∷ is) (suc k) = clock_count blocks i.of + clocks_before blocks is k

-- the number of the first value of a routine's instance, counted from the routine's first: after its own variables and arrays, and the instances before it
abbrev pub value_offset : List PlainRoutine → PlainRoutine → ℕ → ℕ
value_offset blocks r k = own_cells r + values_before blocks r.instances k

-- the same of its first standard block
abbrev pub clock_offset : List PlainRoutine → PlainRoutine → ℕ → ℕ
clock_offset blocks r k = clocks_before blocks r.instances k

-- how many values the first so many programs have together
abbrev pub program_values_before : List PlainRoutine → List PlainRoutine → ℕ → ℕ
program_values_before blocks [] k = 0
program_values_before blocks (p ∷ ps) zero = 0
program_values_before blocks (p ∷ ps) (suc k) = length (values_rule (routine_values blocks) p []) + program_values_before blocks ps k

abbrev pub program_clocks_before : List PlainRoutine → List PlainRoutine → ℕ → ℕ
program_clocks_before blocks [] k = 0
program_clocks_before blocks (p ∷ ps) zero = 0
program_clocks_before blocks (p ∷ ps) (suc k) = length (clocks_rule (routine_clocks blocks) p []) + program_clocks_before blocks ps k

-- the number of the first value of a program: after the globals and the programs before it
abbrev pub program_values_base : Source → ℕ → ℕ
program_values_base source k = global_cells source + program_values_before source.blocks source.programs k

-- the number of its first standard block
abbrev pub program_clocks_base : Source → ℕ → ℕ
program_clocks_base source k = program_clocks_before source.blocks source.programs k

-- a number counted from another one, or else another number
abbrev pub own_or_global : ℕ → Option ℕ → Option ℕ → Option ℕ
own_or_global base (Some i) other = Some (base + i)
own_or_global base None other = other

-- the number of the value of a name in a routine whose first value has a number: a variable of its own hides a global
abbrev pub value_number : List Variable → PlainRoutine → (base : ℕ) → List ℕ → Option ℕ
value_number globals r base name = own_or_global base (find_word (own_words r.locals) name) (find_word (global_words globals) name)

-- the number of the first element of the array of a name, counted from the first element of all these arrays
abbrev pub row_first : List Row → List ℕ → Option ℕ
row_first rows name = option_map (λ k. row_cells (take k rows)) (find_word (row_words rows) name)

-- the number of the first element of the array of a name in a routine whose first value has a number: arrays come behind the variables, and one of its own hides a global one
abbrev pub row_number : Source → PlainRoutine → (base : ℕ) → List ℕ → Option ℕ
row_number source r base name = own_or_global (base + length r.locals) (row_first r.rows name) (option_map (λ n. length source.globals + n) (row_first source.rows name))

-- the numbers of a timer's inputs
abbrev pub timer_number : List ℕ → Option ℕ
timer_number name = if same_word name (codes "IN") then Some 0 else if same_word name (codes "PT") then Some 1 else None

-- the number, from an instance's first value, of an input of a standard block, or of the block type's own variable of a name: an input or an output
abbrev pub member_number : List PlainRoutine → BlockRef → List ℕ → Option ℕ
member_number blocks Ton name = timer_number name
member_number blocks Tof name = timer_number name
member_number blocks RTrig name = if same_word name (codes "CLK") then Some 0 else None
member_number blocks (Declared n) name = option_and_then (λ (b : PlainRoutine). find_word (own_words b.locals) name) (slice_get blocks n)

-- an instance is of a standard block
abbrev pub is_of_standard : BlockRef → Bool
is_of_standard (Declared n) = false
is_of_standard _ = true
