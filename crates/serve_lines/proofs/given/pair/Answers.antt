use Rattle.std.proofs.Common.{sym, ◌∙◌, arith}
use Rattle.std.proofs.lemmas.Grind.{common_steps}
use Rattle.serve_lines.proofs.CutLaws.{is_cut, pair-none, no_pair, no_value, a_pair, after_pair}
use Rattle.serve_lines.proofs.given.pair.Goals as goal

pub returns-in_err-name-clause-pair : goal.returns-in_err-name-clause-pair
returns-in_err-name-clause-pair c = rw c.from_residual.ensures (pair-none c.args.line.now c.in_err-name.ensures.cut)

pub begins_name-requires : goal.begins_name-requires
begins_name-requires c = (is_cut c.args.line.now c.in_ok-name.name.now c.in_ok-name.rest.now c.in_ok-name.ensures.cut).names

pub returns-then-not-begins_name-clause-pair : goal.returns-then-not-begins_name-clause-pair
returns-then-not-begins_name-clause-pair c = no_pair c.args.line.now c.in_ok-name.name.now c.in_ok-name.rest.now c.in_ok-name.ensures.cut (sym c.begins_name.ensures ∙ c.if-not-begins_name.true)

pub returns-in_err-given-clause-pair : goal.returns-in_err-given-clause-pair
returns-in_err-given-clause-pair c =
    rw c.from_residual-in_err-given.ensures
    (no_value c.args.line.now c.in_ok-name.name.now c.in_ok-name.rest.now c.split_word.result.0.now c.split_word.result.1.now c.in_ok-name.ensures.cut (sym c.begins_name.ensures ∙ c.if-not-begins_name.false) c.split_word.ensures.split (sym c.given.ensures ∙ c.in_err-given.was))

pub returns-clause-pair : goal.returns-clause-pair
returns-clause-pair c =
    a_pair c.args.line.now c.in_ok-name.name.now c.in_ok-name.rest.now c.split_word.result.0.now c.split_word.result.1.now c.in_ok-given.given c.in_ok-name.ensures.cut (sym c.begins_name.ensures ∙ c.if-not-begins_name.false) c.split_word.ensures.split (sym c.given.ensures ∙ c.in_ok-given.was)

pub returns-clause-after : goal.returns-clause-after
returns-clause-after c = sym (after_pair c.args.line.now c.in_ok-name.name.now c.in_ok-name.rest.now c.split_word.result.0.now c.split_word.result.1.now c.in_ok-name.ensures.cut c.split_word.ensures.split)

pub returns-in_err-given-clause-name : goal.returns-in_err-given-clause-name
returns-in_err-given-clause-name c = grind (arith, common_steps)

pub returns-clause-shorter : goal.returns-clause-shorter
returns-clause-shorter c = grind (arith, common_steps)

pub returns-in_err-given-clause-shorter : goal.returns-in_err-given-clause-shorter
returns-in_err-given-clause-shorter c = grind (arith, common_steps)

pub returns-in_err-given-clause-after : goal.returns-in_err-given-clause-after
returns-in_err-given-clause-after c = grind (arith, common_steps)
