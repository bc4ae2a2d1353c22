use Rattle.const_fold.specs.Laws.{has_labels}
use Rattle.const_fold.proofs.RuleLaws.{body_kept, body_controls, body_rules, labels_stay}
use Rattle.const_fold.proofs.laws.folded_body_keeps_rules.Goals as goal

pub returns-clause-kinds : goal.returns-clause-kinds
returns-clause-kinds g c = body_kept

pub returns-clause-controls : goal.returns-clause-controls
returns-clause-controls g c = body_controls

pub returns-clause-rules : goal.returns-clause-rules
returns-clause-rules g c = body_rules

pub returns-clause-labels : goal.returns-clause-labels
returns-clause-labels g c = λ test. body_rules (has_labels test) (labels_stay test)
