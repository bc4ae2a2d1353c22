-- How the code asks whether names are there, given once and not taken.
use Rattle.std.specs.Prelude.{◌≡◌, ℕ, Bool, true, false, ◌&&◌, ◌||◌, List, [], ◌∷◌, ◌++◌, Option, Some, None, is_some}
use Rattle.std.specs.List.{list_all}
use Rattle.st_tree.specs.Plain.{PlainExpr, PlainArgument, input, output}
use Rattle.st_parser.specs.Units.{PlainUnit}
use Rattle.st_names.specs.declared.place.UnitPlace.{UnitPlace}
use Rattle.st_names.specs.DeclaredNames.{PlainDeclared}
use Rattle.st_names.specs.Scopes.{instance_type, input_named, output_named}
use Rattle.st_names.specs.Taken.{is_among}
use Rattle.st_names.specs.Known.{is_named, expr_known, option_known, argument_known, are_members}

-- a word is in a list of earlier ones, or in the list twice
abbrev pub repeats_after : List (List ℕ) → List (List ℕ) → Bool
repeats_after earlier [] = false
repeats_after earlier (word ∷ words) = is_among earlier word || repeats_after (earlier ++ word ∷ []) words

-- whether a name was taken; if none was, the names that are there
abbrev pub Added : (found is : Bool) → (names all : List (List ℕ)) → Type 0
Added true is names all = is ≡ true
Added false is names all = (is ≡ false) × (names ≡ all)

-- where a name was taken; if none was, the names that are there
abbrev pub AddedPous : (place is : Option UnitPlace) → (names all : List (List ℕ)) → Type 0
AddedPous (Some place) is names all = is ≡ Some place
AddedPous None is names all = (is ≡ None) × (names ≡ all)

module _ (units : List PlainUnit) (own : List PlainDeclared) where
  -- an argument is an input or an output of an instance
  abbrev pub is_member_of : List ℕ → PlainArgument (List ℕ) → Bool
  is_member_of instance (input name e) = is_some (input_named units own instance name)
  is_member_of instance (output name v) = is_some (output_named units own instance name)

  -- the names of a call are there
  abbrev pub call_known : List ℕ → List (PlainArgument (List ℕ)) → Bool
  call_known instance arguments =
      is_named units own instance && list_all (argument_known units own) arguments && are_members (instance_type units own instance) arguments

  -- the names in the head of a FOR are there
  abbrev pub bounds_known : List ℕ → (from to : PlainExpr (List ℕ)) → Option (PlainExpr (List ℕ)) → Bool
  bounds_known v from to by = is_named units own v && expr_known units own from && expr_known units own to && option_known units own by
