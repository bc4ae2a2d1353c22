-- How the code keeps what names stand for: the first declaration of each.
use Rattle.std.specs.Prelude.{ℕ, if◌then◌else◌, List, [], ◌∷◌, map, Option, Some, None, option_and_then}
use Rattle.plant_types.specs.declared.values.Kind.{Kind}
use Rattle.st_parser.specs.declared.unit.SectionKind.{SectionKind}
use Rattle.st_parser.specs.declared.unit.SectionKind.TheVariants as section
use Rattle.st_parser.specs.declared.unit.Sort.{Sort}
use Rattle.st_parser.specs.declared.unit.Sort.TheVariants as sort
use Rattle.st_parser.specs.Units.{PlainPou, PlainUnit}
use Rattle.st_names.specs.DeclaredNames.{PlainDeclared}
use Rattle.st_names.specs.Shared.{Shared, global, pou, shared_name, shared_in, is_block}
use Rattle.st_names.specs.BlockTypes.{Member, member_of, members_in, is_input_section, is_output_section}
use Rattle.st_names.specs.Tables.{with_entry, with_entries}
use Rattle.st_names.specs.declared.named.Members.{Members}
use Rattle.st_names.specs.declared.named.Named.{Named}
use Rattle.st_names.specs.declared.named.Named.TheVariants as named

abbrev pub member_entry : Member → List ℕ × Option Kind
member_entry m = (m.name, m.kind)

-- the inputs and outputs of a block
abbrev pub members_of : PlainPou → Members
members_of p = record { inputs = with_entries [] (map member_entry (members_in is_input_section p)); outputs = with_entries [] (map member_entry (members_in is_output_section p)) }

abbrev pub named_of : Shared → Named
named_of (global d) = named.Global d
named_of (pou p) = if is_block p.kind then named.Block (members_of p) else named.Program

abbrev pub shared_entry : Shared → List ℕ × Named
shared_entry s = (shared_name s, named_of s)

-- the first declaration of each name that sources share
abbrev pub shared_entries : List PlainUnit → List (List ℕ × Named)
shared_entries units = with_entries [] (map shared_entry (shared_in units))

abbrev pub own_entry : PlainDeclared → List ℕ × PlainDeclared
own_entry d = (d.name, d)

-- the first declaration of each name of a body
abbrev pub own_entries : List PlainDeclared → List (List ℕ × PlainDeclared)
own_entries ds = with_entries [] (map own_entry ds)

-- inputs and outputs, and what is declared, if it is one of these
abbrev pub with_member_of : SectionKind → Members → List ℕ × Option Kind → Members
with_member_of section.Input m e = record { inputs = with_entry m.inputs e; outputs = m.outputs }
with_member_of section.Output m e = record { inputs = m.inputs; outputs = with_entry m.outputs e }
with_member_of section.Global m e = m
with_member_of section.Local m e = m
with_member_of section.External m e = m

abbrev pub with_member : Members → PlainDeclared → Members
with_member m d = with_member_of d.section m (member_entry (member_of d))

abbrev pub with_members : Members → List PlainDeclared → Members
with_members m [] = m
with_members m (d ∷ ds) = with_members (with_member m d) ds

-- the block type's word of what is declared; a variable and an array have none
abbrev pub sort_word : Sort → Option (List ℕ)
sort_word (sort.Kind kind) = None
sort_word (sort.Block word) = Some word
sort_word (sort.Array bounds kind) = None

abbrev pub word_of : Option PlainDeclared → Option (List ℕ)
word_of d = option_and_then (λ e. sort_word e.sort) d
