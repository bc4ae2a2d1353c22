-- Units with something of another kind than it must have.
use Rattle.std.specs.Prelude.{ℕ, Bool, true, false, not, ◌&&◌, if◌then◌else◌, List, [], Option, Some, None, is_some, is_none}
use Rattle.std.specs.List.{list_all}
use Rattle.std.specs.Ordering.{int_eq}
use Rattle.std.specs.Option.{option_map_or}
use Rattle.plant_types.specs.declared.values.Bounds.{Bounds}
use Rattle.plant_types.specs.declared.values.Kind.{Kind}
use Rattle.plant_types.specs.declared.values.Kind.TheVariants as kind
use Rattle.st_tree.specs.Plain.{PlainExpr, PlainStmt, empty, assign, store, call, if_else, case_of, for_to}
use Rattle.st_tree.specs.Kinds.{same_kind, is_kind}
use Rattle.st_tree.specs.Fits.{Context, is_of, option_is_of, fits_option, takes, argument_fits, all_fit}
use Rattle.st_names.specs.SectionKind.{SectionKind}
use Rattle.st_names.specs.SectionKind.TheVariants as section
use Rattle.st_names.specs.Sort.{Sort}
use Rattle.st_names.specs.Sort.TheVariants as sort
use Rattle.st_names.specs.Units.{PlainSection, PlainPou, PlainUnit}
use Rattle.st_names.specs.Every.{tests_of}
use Rattle.st_names.specs.DeclaredNames.{PlainDeclared, declared_in}
use Rattle.st_names.specs.Scopes.{variable_kind, element_kind, instance_type, input_kind, output_kind, global_kind, global_array, is_assignable, is_external}

-- what a body's names are declared as; the bounds that a tree has for an array don't count, since a parser knows no declarations
abbrev pub context_of : List PlainUnit → List PlainDeclared → Context (List ℕ)
context_of units own = record {
  variable_kind = variable_kind units own;
  may_assign = is_assignable units own;
  is_instance = λ name. is_some (instance_type units own name);
  input_kind = input_kind units own;
  output_kind = output_kind units own;
  element_kind = λ name bounds. element_kind units own name;
}

module _ (context : Context (List ℕ)) where
  -- a statement's own parts fit, whatever the statements inside it do
  abbrev pub parts_fit : PlainStmt (List ℕ) → Bool
  parts_fit (empty number) = true
  parts_fit (assign number v e) = takes context v e
  parts_fit (store number v bounds index value) = is_of context kind.Dint index && fits_option context (context.element_kind v bounds) value
  parts_fit (call number instance arguments) = context.is_instance instance && list_all (argument_fits context instance) arguments
  parts_fit (if_else number branches last) = list_all (is_of context kind.Bool) (tests_of branches)
  parts_fit (case_of number e choices last) = is_of context kind.Dint e
  parts_fit (for_to number v from to by body) = is_of context kind.Dint from && (is_of context kind.Dint to && option_is_of context kind.Dint by)

-- an initial value may be assigned to its variable, where one is written
abbrev pub initial_fits : List PlainUnit → List PlainDeclared → Option Kind → Option (PlainExpr (List ℕ)) → Bool
initial_fits units own k e = option_map_or (fits_option (context_of units own) k) e true

-- an instance may be declared in VAR alone, and has no initial value
abbrev pub instance_fits : SectionKind → Option (PlainExpr (List ℕ)) → Bool
instance_fits section.Local e = is_none e
instance_fits _ e = false

abbrev pub is_global_section : SectionKind → Bool
is_global_section section.Global = true
is_global_section _ = false

-- a variable's initial value may be assigned to it; a VAR_EXTERNAL has none, and the kind of its global
abbrev pub variable_fits : List PlainUnit → List PlainDeclared → PlainDeclared → Kind → Bool
variable_fits units own d k =
    if is_external d.section then is_none d.initial && is_kind k (global_kind units d.name)
    else initial_fits units own (Some k) d.initial

-- there is an array, and it has these bounds and elements of this kind
abbrev pub is_array : Bounds → Kind → Option (Bounds × Kind) → Bool
is_array bounds k None = false
is_array bounds k (Some found) = int_eq bounds.low found.0.low && (int_eq bounds.high found.0.high && same_kind k found.1)

-- an array of a name stands in VAR or VAR_GLOBAL, or in VAR_EXTERNAL where the global of the name is an array of the same bounds and kind
abbrev pub array_stands : List PlainUnit → List ℕ → Bounds → Kind → SectionKind → Bool
array_stands units name bounds k section.Global = true
array_stands units name bounds k section.Local = true
array_stands units name bounds k section.Input = false
array_stands units name bounds k section.Output = false
array_stands units name bounds k section.External = is_array bounds k (global_array units name)

-- an array stands where it may, and has no initial value
abbrev pub array_fits : List PlainUnit → PlainDeclared → Bounds → Kind → Bool
array_fits units d bounds k = is_none d.initial && array_stands units d.name bounds k d.section

abbrev pub sort_fits : List PlainUnit → List PlainDeclared → PlainDeclared → Sort → Bool
sort_fits units own d (sort.Kind k) = variable_fits units own d k
sort_fits units own d (sort.Block word) = instance_fits d.section d.initial
sort_fits units own d (sort.Array bounds k) = array_fits units d bounds k

-- a declaration fits: an instance stands in VAR and has no initial value, and a variable and an array fit
abbrev pub declared_fits : List PlainUnit → List PlainDeclared → PlainDeclared → Bool
declared_fits units own d = sort_fits units own d d.sort

-- a section is a VAR_GLOBAL
abbrev pub is_global : PlainSection → Bool
is_global s = is_global_section s.kind

-- a declaration of globals doesn't fit; each stands in VAR_GLOBAL, so that no global is an instance
abbrev pub globals_misfit : List PlainUnit → List PlainSection → Bool
globals_misfit units sections = not (list_all is_global sections && list_all (declared_fits units []) (declared_in sections))

-- a declaration or a statement of a block or program doesn't fit
abbrev pub pou_misfit : List PlainUnit → PlainPou → Bool
pou_misfit units p =
    let own = declared_in p.sections in
    not (list_all (declared_fits units own) own && all_fit (context_of units own) p.body)
