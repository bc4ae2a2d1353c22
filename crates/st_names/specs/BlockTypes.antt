-- Block types, their inputs and their outputs.
use Rattle.std.specs.Prelude.{ℕ, Bool, true, false, if◌then◌else◌, List, [], ◌∷◌, map, filter, Option, Some, option_map, codes}
use Rattle.plant_types.specs.Words.{same_word}
use Rattle.plant_types.specs.declared.values.Kind.{Kind}
use Rattle.plant_types.specs.declared.values.Kind.TheVariants as kind
use Rattle.st_parser.specs.declared.unit.SectionKind.{SectionKind}
use Rattle.st_parser.specs.declared.unit.SectionKind.TheVariants as section
use Rattle.st_parser.specs.Units.{PlainPou, PlainUnit}
use Rattle.st_names.specs.First.{first_that}
use Rattle.st_names.specs.DeclaredNames.{PlainDeclared, declared_in, first_declared, sort_kind}
use Rattle.st_names.specs.Shared.{block_named}

-- a block type: a standard one (IEC 61131-3), or one that a source declares
pub data BlockType : Type 0 where
  ton : BlockType
  tof : BlockType
  r_trig : BlockType
  declared_block : PlainPou → BlockType

-- the block type of a word
abbrev pub block_type : List PlainUnit → List ℕ → Option BlockType
block_type units word =
    if same_word word (codes "TON") then Some ton
    else if same_word word (codes "TOF") then Some tof
    else if same_word word (codes "R_TRIG") then Some r_trig
    else option_map declared_block (block_named units word)

-- an input or output of a block type: its name and its kind, which an instance or an array in its place has none of
pub record Member : Type 0 where
  pub name : List ℕ
  pub kind : Option Kind

abbrev pub is_input_section : SectionKind → Bool
is_input_section section.Input = true
is_input_section _ = false

abbrev pub is_output_section : SectionKind → Bool
is_output_section section.Output = true
is_output_section _ = false

abbrev pub member_of : PlainDeclared → Member
member_of d = record { name = d.name; kind = sort_kind d.sort }

-- the members of a block: the names that it declares first in sections that pass a test, in order of text
abbrev pub members_in : (SectionKind → Bool) → PlainPou → List Member
members_in test p = map member_of (filter (λ d. test d.section) (first_declared [] (declared_in p.sections)))

-- the inputs of a timer: IN and PT
abbrev pub timer_inputs : List Member
timer_inputs = record { name = codes "IN"; kind = Some kind.Bool } ∷ record { name = codes "PT"; kind = Some kind.Time } ∷ []

-- the outputs of a timer: Q and ET
abbrev pub timer_outputs : List Member
timer_outputs = record { name = codes "Q"; kind = Some kind.Bool } ∷ record { name = codes "ET"; kind = Some kind.Time } ∷ []

-- the inputs of a block type
abbrev pub inputs_of : BlockType → List Member
inputs_of ton = timer_inputs
inputs_of tof = timer_inputs
inputs_of r_trig = record { name = codes "CLK"; kind = Some kind.Bool } ∷ []
inputs_of (declared_block p) = members_in is_input_section p

-- the outputs of a block type
abbrev pub outputs_of : BlockType → List Member
outputs_of ton = timer_outputs
outputs_of tof = timer_outputs
outputs_of r_trig = record { name = codes "Q"; kind = Some kind.Bool } ∷ []
outputs_of (declared_block p) = members_in is_output_section p

-- the first member of a name, letter case ignored
abbrev pub find_member : List Member → List ℕ → Option Member
find_member members name = first_that (λ m. same_word m.name name) members
