-- Worked examples of names, each computed by hand from its rule.
use Rattle.std.proofs.Common.{◌≡◌, ℕ, List, [], ◌∷◌, Some, None, refl}
use Rattle.std.specs.Prelude.{codes}
use Rattle.plant_types.specs.declared.values.Kind.TheVariants as kind
use Rattle.st_parser.specs.declared.unit.PouKind.TheVariants as pou
use Rattle.st_parser.specs.declared.unit.SectionKind.{SectionKind}
use Rattle.st_parser.specs.declared.unit.SectionKind.TheVariants as section
use Rattle.st_parser.specs.declared.unit.Sort.TheVariants as sort
use Rattle.st_tree.specs.Plain.{done}
use Rattle.st_parser.specs.Units.{PlainSection, PlainPou}
use Rattle.st_names.specs.BlockTypes.{Member, declared_block, inputs_of, outputs_of}

abbrev a_in : SectionKind → List ℕ → PlainSection
a_in s name = record { kind = s; declarations = record { names = name ∷ []; region = None; sort = sort.Kind kind.Bool; initial = None } ∷ [] }

abbrev block : List PlainSection → PlainPou
block sections = record { kind = pou.Block; name = codes "F"; sections = sections; body = done }

abbrev a : Member
a = record { name = codes "a"; kind = Some kind.Bool }

-- VAR_INPUT a, then VAR_OUTPUT A: an input and no output
pub input_first : inputs_of (declared_block (block (a_in section.Input (codes "a") ∷ a_in section.Output (codes "A") ∷ []))) ≡ a ∷ []
input_first = refl

pub no_output : outputs_of (declared_block (block (a_in section.Input (codes "a") ∷ a_in section.Output (codes "A") ∷ []))) ≡ []
no_output = refl

-- VAR a, then VAR_INPUT A: no input
pub local_first : inputs_of (declared_block (block (a_in section.Local (codes "a") ∷ a_in section.Input (codes "A") ∷ []))) ≡ []
local_first = refl
