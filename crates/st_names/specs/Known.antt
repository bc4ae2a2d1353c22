-- Units that use a name that isn't there, or declare one of their own twice.
use Rattle.std.specs.Prelude.{ℕ, Bool, true, not, ◌&&◌, ◌||◌, List, [], ◌∷◌, Option, Some, None, is_some}
use Rattle.std.specs.List.{list_all}
use Rattle.std.specs.Option.{option_map_or}
use Rattle.plant_types.specs.Words.{folded}
use Rattle.st_tree.specs.Plain.{PlainExpr, literal, read, output_of, element, unary, binary, PlainArgument, input, output}
use Rattle.st_tree.specs.Plain.{PlainStmt, empty, assign, store, call, if_else, case_of, for_to, PlainBody}
use Rattle.st_names.specs.Every.{every, tests_of}
use Rattle.st_parser.specs.declared.unit.Sort.{Sort}
use Rattle.st_parser.specs.declared.unit.Sort.TheVariants as sort
use Rattle.st_parser.specs.Units.{PlainSection, PlainPou, PlainUnit}
use Rattle.st_names.specs.DeclaredNames.{PlainDeclared, declared_in, declared_words}
use Rattle.st_names.specs.Shared.{global_named}
use Rattle.st_names.specs.BlockTypes.{BlockType, block_type, inputs_of, outputs_of, find_member}
use Rattle.st_names.specs.Scopes.{named, instance_type, output_named, is_external}
use Rattle.st_names.specs.Taken.{repeats}

-- the inputs that a call gives, in small letters
abbrev pub given_inputs : List (PlainArgument (List ℕ)) → List (List ℕ)
given_inputs [] = []
given_inputs (input name e ∷ rest) = folded name ∷ given_inputs rest
given_inputs (output name v ∷ rest) = given_inputs rest

-- the outputs that a call takes, in small letters
abbrev pub taken_outputs : List (PlainArgument (List ℕ)) → List (List ℕ)
taken_outputs [] = []
taken_outputs (input name e ∷ rest) = taken_outputs rest
taken_outputs (output name v ∷ rest) = folded name ∷ taken_outputs rest

-- an argument is an input or an output of a block type
abbrev pub is_member : BlockType → PlainArgument (List ℕ) → Bool
is_member t (input name e) = is_some (find_member (inputs_of t) name)
is_member t (output name v) = is_some (find_member (outputs_of t) name)

-- the arguments of a call are members of its block type, each given once; of what is no instance they are not judged
abbrev pub are_members : Option BlockType → List (PlainArgument (List ℕ)) → Bool
are_members None arguments = true
are_members (Some t) arguments = list_all (is_member t) arguments && not (repeats (given_inputs arguments)) && not (repeats (taken_outputs arguments))

-- a kind is there, and so is the block type of a word that is one's name
abbrev pub sort_known : List PlainUnit → Sort → Bool
sort_known units (sort.Kind kind) = true
sort_known units (sort.Block word) = is_some (block_type units word)
sort_known units (sort.Array bounds kind) = true

module _ (units : List PlainUnit) (own : List PlainDeclared) where
  -- a name is that of a variable, an array or an instance
  abbrev pub is_named : List ℕ → Bool
  is_named name = is_some (named units own name)

  -- each name that an expression reads is there, that of an element's array too; an output is one of its instance
  abbrev pub expr_known : PlainExpr (List ℕ) → Bool
  expr_known (literal n) = true
  expr_known (read v) = is_named v
  expr_known (output_of instance name) = is_some (output_named units own instance name)
  expr_known (element v bounds index) = is_named v && expr_known index
  expr_known (unary op a) = expr_known a
  expr_known (binary op a b) = expr_known a && expr_known b

  abbrev pub option_known : Option (PlainExpr (List ℕ)) → Bool
  option_known e = option_map_or expr_known e true

  -- the expression of an argument has known names, and the variable that takes an output is there
  abbrev pub argument_known : PlainArgument (List ℕ) → Bool
  argument_known (input name e) = expr_known e
  argument_known (output name v) = is_named v

  -- the names of a statement's own are there: those of its expressions, its variable or array, its instance and its arguments
  abbrev pub stmt_known : PlainStmt (List ℕ) → Bool
  stmt_known (empty number) = true
  stmt_known (assign number v e) = is_named v && expr_known e
  stmt_known (store number v bounds index value) = is_named v && expr_known index && expr_known value
  stmt_known (call number instance arguments) =
      is_named instance && list_all argument_known arguments && are_members (instance_type units own instance) arguments
  stmt_known (if_else number branches last) = list_all expr_known (tests_of branches)
  stmt_known (case_of number e choices last) = expr_known e
  stmt_known (for_to number v from to by body) = is_named v && expr_known from && expr_known to && option_known by

  -- the names of a body are there
  abbrev pub body_known : PlainBody (List ℕ) → Bool
  body_known body = every stmt_known body

  -- a declaration's block type is there, its initial value has known names, and a VAR_EXTERNAL is a global
  abbrev pub declared_known : PlainDeclared → Bool
  declared_known d = sort_known units d.sort && option_known d.initial && (not (is_external d.section) || is_some (global_named units d.name))

-- a declaration of globals names what isn't there; an initial value may only name globals
abbrev pub globals_misnamed : List PlainUnit → List PlainSection → Bool
globals_misnamed units sections = not (list_all (declared_known units []) (declared_in sections))

-- a block or program declares a name twice, names what isn't there, or gives an input or takes an output of a call twice
abbrev pub pou_misnamed : List PlainUnit → PlainPou → Bool
pou_misnamed units p =
    let own = declared_in p.sections in
    repeats (declared_words own) || not (list_all (declared_known units own) own && body_known units own p.body)
