-- What a scope answers of a call's arguments.
use Rattle.std.proofs.Common.{◌≡◌, sym, refl, ap, ℕ, true, false, List, [], ◌∷◌, Option, Some, None, not}
use Rattle.std.specs.Prelude.{◌&&◌, is_some}
use Rattle.std.specs.List.{list_all}
use Rattle.st_tree.specs.Plain.{PlainArgument, input, output}
use Rattle.st_parser.specs.Units.{PlainUnit}
use Rattle.st_names.specs.DeclaredNames.{PlainDeclared}
use Rattle.st_names.specs.BlockTypes.{BlockType, inputs_of, outputs_of, find_member}
use Rattle.st_names.specs.Scopes.{instance_type}
use Rattle.st_names.specs.Taken.{repeats}
use Rattle.st_names.specs.Known.{is_member, are_members, given_inputs, taken_outputs}
use Rattle.st_names.specs.Asked.{is_member_of}
use Rattle.std.specs.Prelude.{option_and_then}

module _ (units : List PlainUnit) (own : List PlainDeclared) (instance : List ℕ) where
  each_member : (t : BlockType) (arguments : List (PlainArgument (List ℕ))) → instance_type units own instance ≡ Some t → list_all (is_member_of units own instance) arguments ≡ list_all (is_member t) arguments
  each_member t [] is = refl
  each_member t (input name e ∷ rest) is = λ i. is_some (option_and_then (λ u. find_member (inputs_of u) name) (is i)) && each_member t rest is i
  each_member t (output name v ∷ rest) is = λ i. is_some (option_and_then (λ u. find_member (outputs_of u) name) (is i)) && each_member t rest is i

  -- the arguments of what is no instance are not judged
  pub no_instance : (arguments : List (PlainArgument (List ℕ))) → is_some (instance_type units own instance) ≡ false → are_members (instance_type units own instance) arguments ≡ true
  no_instance arguments none = go (instance_type units own instance) none
    where
      go : (o : Option BlockType) → is_some o ≡ false → are_members o arguments ≡ true
      go None e = refl
      go (Some t) e = absurd (cc)

  -- those of an instance are members of its block type, each given once
  pub of_instance : (arguments : List (PlainArgument (List ℕ))) → is_some (instance_type units own instance) ≡ true
      → are_members (instance_type units own instance) arguments ≡ (list_all (is_member_of units own instance) arguments && not (repeats (given_inputs arguments)) && not (repeats (taken_outputs arguments)))
  of_instance arguments there = go (instance_type units own instance) refl there
    where
      go : (o : Option BlockType) → instance_type units own instance ≡ o → is_some o ≡ true
          → are_members o arguments ≡ (list_all (is_member_of units own instance) arguments && not (repeats (given_inputs arguments)) && not (repeats (taken_outputs arguments)))
      go None is e = absurd (cc)
      go (Some t) is e = ap (λ b. b && not (repeats (given_inputs arguments)) && not (repeats (taken_outputs arguments))) (sym (each_member t arguments is))
