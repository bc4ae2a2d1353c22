-- What laws of folding speak of.
use Rattle.std.specs.Prelude.{◌≡◌, ℕ, ℤ, Bool, true, ◌&&◌, Option, option_map, List}
use Rattle.plant_types.specs.declared.values.Kind.{Kind}
use Rattle.st_tree.specs.declared.tree.Label.{Label}
use Rattle.st_tree.specs.declared.tree.Literal.{Literal}
use Rattle.st_tree.specs.Constants.{constant_of}
use Rattle.st_tree.specs.Kinds.{literal_kind, literal_in_range}
use Rattle.st_tree.specs.Meaning.{literal_worth}
use Rattle.st_tree.specs.Plain.{PlainExpr, literal, PlainStmt, case_of, Choices, no_choice, choice}

-- an expression is a literal of this kind and of this number, which is in the kind's range
pub record IsLiteral {V : Type 0} (k : Kind) (n : ℤ) (e : PlainExpr V) : Type 0 where
  pub value : Literal
  pub is : e ≡ literal value
  pub kind : literal_kind value ≡ k
  pub worth : literal_worth value ≡ n
  pub in_range : literal_in_range value ≡ true

-- turns are counted by bounds and a step as constants: they are as many for others that are the same constants
abbrev pub GoesByConstants : {V : Type 0} → (PlainExpr V → PlainExpr V → Option (PlainExpr V) → ℕ) → Type 0
GoesByConstants {V} turns = (from to also_from also_to : PlainExpr V) (by also_by : Option (PlainExpr V))
    → constant_of from ≡ constant_of also_from → constant_of to ≡ constant_of also_to → option_map constant_of by ≡ option_map constant_of also_by
    → turns from to by ≡ turns also_from also_to also_by

-- the labels of each choice of a CASE pass a test
abbrev pub all_labels : {V : Type 0} → (List Label → Bool) → Choices V → Bool
all_labels test no_choice = true
all_labels test (choice labels body rest) = test labels && all_labels test rest

abbrev pub has_labels : {V : Type 0} → (List Label → Bool) → PlainStmt V → Bool
has_labels test (case_of number e choices last) = all_labels test choices
has_labels test _ = true
