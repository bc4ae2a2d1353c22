-- One statement, one branch more, and none more.
use Rattle.std.proofs.Common.{◌≡◌, ◌+◌, ◌-◌, ◌∙◌, ap, sym, arith, rules, length, map, true, false, ◌∷◌, [], ◌++◌, Some}
use Rattle.st_lexer.specs.declared.token.Keyword.TheVariants as k
use Rattle.st_tree.specs.View.{view_stmt, view_branch, view_choice}
use Rattle.plant_types.specs.Options.{◌>>=◌}
use Rattle.st_expressions.specs.Reading.{with_first, all_at, is_keyword, after_keyword}
use Rattle.st_parser.specs.ReadingStatements.{as_body, is_statement, item_at, is_label, branch_at, choice_at, sequence_at}
use Rattle.st_expressions.proofs.Many.{many_goes, many_ends}
use Rattle.st_parser.proofs.stmt.+stmt.Goals as goal

pub body-returns-then-not-is_statement : goal.body-returns-then-not-is_statement
body-returns-then-not-is_statement t c =
    let count = length c.args.reader.now in
    let stop : is_statement c.loop-turn.reader ≡ false = search rules in
    ap as_body (sym c.loop-turn.invariant ∙ many_ends is_statement (item_at c.args.depth) (map view_stmt c.loop-turn.body.items) (count - c.loop-turn._turn) c.loop-turn.reader stop)

pub body-loop-turn-preserved : goal.body-loop-turn-preserved
body-loop-turn-preserved t c =
    let count = length c.args.reader.now in
    let turn = c.loop-turn._turn in
    let ts = c.loop-turn.reader in
    let some : is_statement ts ≡ true = search rules in
    many_goes view_stmt is_statement (item_at c.args.depth) c.loop-turn.body.items c.push.new.self.items c.in_ok-item.field-0 (count - turn) (count - (turn + 1)) ts c.item.new.reader c.in_ok-push.ensures.items (omega arith) some c.in_ok-item.ensures ∙ c.loop-turn.invariant

pub more_branches-returns-then-not-is_keyword : goal.more_branches-returns-then-not-is_keyword
more_branches-returns-then-not-is_keyword t c =
    let count = length c.args.reader.now in
    let one_at = after_keyword k.Elsif (branch_at (sequence_at c.args.deeper)) in
    let stop : is_keyword k.Elsif c.loop-turn.reader ≡ false = search rules in
    let first = ap (map view_branch) (c.in_ok-push.ensures.items ∙ ap (λ l. l ++ c.args.first ∷ []) c.new-branches.ensures.items) in
    ap (λ l. with_first l (all_at (is_keyword k.Elsif) one_at c.args.reader.now)) (sym first) ∙ sym c.loop-turn.invariant ∙ many_ends (is_keyword k.Elsif) one_at (map view_branch c.loop-turn.branches.items) (count - c.loop-turn._turn) c.loop-turn.reader stop

pub more_branches-loop-turn-preserved : goal.more_branches-loop-turn-preserved
more_branches-loop-turn-preserved t c =
    let count = length c.args.reader.now in
    let turn = c.loop-turn._turn in
    let ts = c.loop-turn.reader in
    let one_at = branch_at (sequence_at c.args.deeper) in
    let some : is_keyword k.Elsif ts ≡ true = search rules in
    let one : after_keyword k.Elsif one_at ts ≡ Some (view_branch c.in_ok-tested.field-0, c.tested.new.reader) = ap (λ o. o >>= one_at) c.in_ok-keyword.ensures ∙ c.in_ok-tested.ensures in
    many_goes view_branch (is_keyword k.Elsif) (after_keyword k.Elsif one_at) c.loop-turn.branches.items c.push-in-loop-turn.new.self.items c.in_ok-tested.field-0 (count - turn) (count - (turn + 1)) ts c.tested.new.reader c.in_ok-push-2.ensures.items (omega arith) some one ∙ c.loop-turn.invariant

pub more_choices-returns-then-not-is_label : goal.more_choices-returns-then-not-is_label
more_choices-returns-then-not-is_label t c =
    let count = length c.args.reader.now in
    let one_at = choice_at (sequence_at c.args.deeper) in
    let stop : is_label c.loop-turn.reader ≡ false = search rules in
    let first = ap (map view_choice) (c.in_ok-push.ensures.items ∙ ap (λ l. l ++ c.args.first ∷ []) c.new-choices.ensures.items) in
    ap (λ l. with_first l (all_at is_label one_at c.args.reader.now)) (sym first) ∙ sym c.loop-turn.invariant ∙ many_ends is_label one_at (map view_choice c.loop-turn.choices.items) (count - c.loop-turn._turn) c.loop-turn.reader stop

pub more_choices-loop-turn-preserved : goal.more_choices-loop-turn-preserved
more_choices-loop-turn-preserved t c =
    let count = length c.args.reader.now in
    let turn = c.loop-turn._turn in
    let ts = c.loop-turn.reader in
    let one_at = choice_at (sequence_at c.args.deeper) in
    let some : is_label ts ≡ true = search rules in
    many_goes view_choice is_label one_at c.loop-turn.choices.items c.push-in-loop-turn.new.self.items c.in_ok-labelled.field-0 (count - turn) (count - (turn + 1)) ts c.labelled.new.reader c.in_ok-push-2.ensures.items (omega arith) some c.in_ok-labelled.ensures ∙ c.loop-turn.invariant
