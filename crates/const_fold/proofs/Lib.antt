mod LiteralLaws
mod OutcomeLaws
mod ConstantLaws
mod MadeLaws
mod NameLaws
mod RuleLaws
mod WeightLaws
mod FoldExamples
