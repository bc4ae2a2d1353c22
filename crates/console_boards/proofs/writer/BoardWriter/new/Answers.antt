use Rattle.std.proofs.Common.{List, fold, ◌∙◌, ap, arith}
use Rattle.std.proofs.lemmas.Grind.{common_steps}
use Rattle.console_boards.specs.declared.entry.Operation.{Operation}
use Rattle.console_boards.specs.Marks.{operated}
use Rattle.console_boards.proofs.Laying.{state_of, turns_same}
use Rattle.console_boards.proofs.writer.BoardWriter.new.Goals as goal

pub publish_as-writer-requires : goal.publish_as-writer-requires
publish_as-writer-requires g c next is =
    let w = c.in_ok-writer.writer in
    let now = w.desk.shown.value in
    turns_same _ _ now next (is ∙ ap (λ (ops : List Operation). fold operated (state_of now) ops) c.in_ok-writer.ensures.1)

pub returns : goal.returns
returns c = grind (arith, common_steps)

pub new-requires-clause-alike : goal.new-requires-clause-alike
new-requires-clause-alike c = grind (arith, common_steps)

pub new-requires-clause-rule : goal.new-requires-clause-rule
new-requires-clause-rule c = grind (arith, common_steps)

pub invariant_of-second : goal.invariant_of-second
invariant_of-second c = grind (arith, common_steps)

pub same-log : goal.same-log
same-log c = grind (arith, common_steps)

pub invariant_of-first : goal.invariant_of-first
invariant_of-first c = grind (arith, common_steps)
