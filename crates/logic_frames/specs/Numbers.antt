-- The numbers that stand for names in a routine's body, and which names are known.
use Rattle.std.specs.Prelude.{◌≡◌, ℕ, true, false, if◌then◌else◌, List, Option, Some, None, is_some, option_and_then, unwrap_or, codes}
use Rattle.std.specs.List.{All}
use Rattle.plant_types.specs.Words.{same_word}
use Rattle.plant_types.specs.declared.values.Bounds.{Bounds}
use Rattle.plant_types.specs.declared.values.Kind.{Kind}
use Rattle.st_tree.specs.Fits.{Context}
use Rattle.st_tree.specs.Mapping.{Mapping, Known, body_known}
use Rattle.logic_source.specs.declared.logic.BlockRef.{BlockRef}
use Rattle.logic_source.specs.declared.logic.BlockRef.TheVariants.{Ton, Tof, RTrig, Declared}
use Rattle.logic_source.specs.Source.{PlainRoutine, Source, global_cells}
use Rattle.logic_source.specs.Names.{find_word, instance_words, block_named}
use Rattle.logic_source.specs.Worlds.{globals_routine}
use Rattle.logic_source.specs.Seats.{value_number, row_number, member_number}

-- the number of a variable: a global's is its place among these, and those of the routine's own variables follow the cells of the globals
abbrev pub variable_number : Source → PlainRoutine → List ℕ → Option ℕ
variable_number source r name = value_number source.globals r (global_cells source) name

-- the number of an instance: its place among the routine's
abbrev pub instance_number : PlainRoutine → List ℕ → Option ℕ
instance_number r name = find_word (instance_words r.instances) name

-- the number of an input of the routine's instance of a name
abbrev pub input_number : Source → PlainRoutine → (instance name : List ℕ) → Option ℕ
input_number source r instance name = option_and_then (λ b. member_number source.blocks b name) (block_named r instance)

-- the number of a timer's output
abbrev pub timer_shows : List ℕ → Option ℕ
timer_shows name = if same_word name (codes "ET") then Some 1 else if same_word name (codes "Q") then Some 0 else None

-- the number of an output of what an instance is of: Q or ET of a standard block, or the block type's own variable
abbrev pub shown_number : Source → BlockRef → List ℕ → Option ℕ
shown_number source Ton name = timer_shows name
shown_number source Tof name = timer_shows name
shown_number source RTrig name = if same_word name (codes "Q") then Some 0 else None
shown_number source (Declared n) name = member_number source.blocks (Declared n) name

-- the number of an output of the routine's instance of a name
abbrev pub output_number : Source → PlainRoutine → (instance name : List ℕ) → Option ℕ
output_number source r instance name = option_and_then (λ b. shown_number source b name) (block_named r instance)

-- the number of an array, that of its first element: the global arrays follow the global variables, and the routine's own arrays its own variables
abbrev pub array_number : Source → PlainRoutine → List ℕ → Option ℕ
array_number source r name = row_number source r (global_cells source) name

-- numbers for the names in a routine; 0 for a name that isn't known
abbrev pub numbers : Source → PlainRoutine → Mapping (List ℕ) ℕ
numbers source r = record {
  variable = λ name. unwrap_or (variable_number source r name) 0;
  array = λ name. unwrap_or (array_number source r name) 0;
  instance = λ name. unwrap_or (instance_number r name) 0;
  input_name = λ instance name. unwrap_or (input_number source r instance name) 0;
  output_name = λ instance name. unwrap_or (output_number source r instance name) 0;
  node = λ e. e;
}

-- the names that have a number
abbrev pub numbered_in : Source → PlainRoutine → Known (List ℕ)
numbered_in source r = record {
  has_variable = λ name. is_some (variable_number source r name);
  has_array = λ name bounds. is_some (array_number source r name);
  has_instance = λ name. is_some (instance_number r name);
  has_input = λ instance name. is_some (input_number source r instance name);
  has_output = λ instance name. is_some (output_number source r instance name);
}

-- the same of variables alone, which are all that initial values name
abbrev pub variables_in : Source → PlainRoutine → Known (List ℕ)
variables_in source r = record {
  has_variable = λ name. is_some (variable_number source r name);
  has_array = λ name bounds. false;
  has_instance = λ name. false;
  has_input = λ instance name. false;
  has_output = λ instance name. false;
}

-- what is declared of a body's names is known: each variable, each array, each instance, and each input and output of an instance
pub record KnowsNames {V : Type 0} (context : Context V) (known : Known V) : Type 0 where
  pub variables : (v : V) (k : Kind) → context.variable_kind v ≡ Some k → known.has_variable v ≡ true
  pub assigned : (v : V) → context.may_assign v ≡ true → known.has_variable v ≡ true
  pub arrays : (v : V) (bounds : Bounds) (k : Kind) → context.element_kind v bounds ≡ Some k → known.has_array v bounds ≡ true
  pub instances : (v : V) → context.is_instance v ≡ true → known.has_instance v ≡ true
  pub inputs : (instance name : V) (k : Kind) → context.input_kind instance name ≡ Some k → known.has_input instance name ≡ true
  pub outputs : (instance name : V) (k : Kind) → context.output_kind instance name ≡ Some k → known.has_output instance name ≡ true

-- each name in a routine's body, and in its initial values, has a number
pub record HasItsNames (source : Source) (r : PlainRoutine) : Type 0 where
  pub in_body : body_known (numbered_in source r) r.body ≡ true
  pub in_starts : body_known (variables_in source r) r.starts ≡ true

-- each name in the routines of a source, and in the initial values of its globals, has a number
pub record HasAllNames (source : Source) : Type 0 where
  pub in_globals : body_known (variables_in source (globals_routine source)) source.starts ≡ true
  pub in_programs : All (HasItsNames source) source.programs
  pub in_blocks : All (HasItsNames source) source.blocks
