-- What the code weighs a body by.
use Rattle.std.specs.Prelude.{ℕ, List}
use Rattle.st_tree.specs.Plain.{PlainStmt, PlainBody, Branches, Choices}
use Rattle.st_tree.specs.Costs as costs
use Rattle.logic_limits.specs.declared.weighing.Scale.{Scale}
use Rattle.logic_limits.specs.Measures.{joined, turns_by, weight_of_name}

-- what a call of a name weighs on a scale
abbrev pub on_call : Scale → List ℕ → ℕ
on_call scale = weight_of_name scale.measure scale.table.now scale.instances.now.names scale.instances.now.blocks.items

abbrev pub stmt_weight : Scale → PlainStmt (List ℕ) → ℕ
stmt_weight scale = costs.weight (joined scale.measure) (turns_by scale.measure) (on_call scale)

abbrev pub body_weight : Scale → PlainBody (List ℕ) → ℕ
body_weight scale = costs.weight_all (joined scale.measure) (turns_by scale.measure) (on_call scale)

abbrev pub branches_weight : Scale → Branches (List ℕ) → ℕ
branches_weight scale = costs.branches_weight (joined scale.measure) (turns_by scale.measure) (on_call scale)

abbrev pub choices_weight : Scale → Choices (List ℕ) → ℕ
choices_weight scale = costs.choices_weight (joined scale.measure) (turns_by scale.measure) (on_call scale)
