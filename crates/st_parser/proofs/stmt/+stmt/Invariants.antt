use Rattle.std.proofs.Common.{◌≡◌, ◌+◌, ◌-◌, ◌*◌, length, map}
use Rattle.st_lexer.specs.declared.token.Keyword.TheVariants as k
use Rattle.st_tree.specs.View.{view_stmt, view_branch, view_choice}
use Rattle.st_expressions.specs.Reading.{with_first, many, is_keyword, after_keyword}
use Rattle.st_parser.specs.ReadingStatements.{is_statement, item_at, branch_at, choice_at, is_label, sequence_at}
use Rattle.st_parser.proofs.stmt.+stmt.Given as goal

abbrev pub decreases-body : goal.decreases-body
decreases-body l = 16 * l.depth + 15

abbrev pub decreases-item : goal.decreases-item
decreases-item l = 16 * l.depth + 14

abbrev pub decreases-statement : goal.decreases-statement
decreases-statement l = 16 * l.deeper + 28

abbrev pub decreases-if_statement : goal.decreases-if_statement
decreases-if_statement l = 16 * l.deeper + 26

abbrev pub decreases-branches : goal.decreases-branches
decreases-branches l = 16 * l.deeper + 24

abbrev pub decreases-more_branches : goal.decreases-more_branches
decreases-more_branches l = 16 * l.deeper + 22

abbrev pub decreases-tested : goal.decreases-tested
decreases-tested l = 16 * l.deeper + 20

abbrev pub decreases-otherwise : goal.decreases-otherwise
decreases-otherwise l = 16 * l.deeper + 18

abbrev pub decreases-case_statement : goal.decreases-case_statement
decreases-case_statement l = 16 * l.deeper + 26

abbrev pub decreases-choices : goal.decreases-choices
decreases-choices l = 16 * l.deeper + 24

abbrev pub decreases-more_choices : goal.decreases-more_choices
decreases-more_choices l = 16 * l.deeper + 22

abbrev pub decreases-labelled : goal.decreases-labelled
decreases-labelled l = 16 * l.deeper + 20

abbrev pub decreases-for_statement : goal.decreases-for_statement
decreases-for_statement l = 16 * l.deeper + 26

abbrev pub invariant-body-loop-turn : goal.invariant-body-loop-turn
invariant-body-loop-turn l = with_first (map view_stmt l.body.items) (many is_statement (item_at l.depth) (length l.initial.reader - l._turn) l.reader) ≡ many is_statement (item_at l.depth) (length l.initial.reader) l.initial.reader

abbrev pub invariant-more_branches-loop-turn : goal.invariant-more_branches-loop-turn
invariant-more_branches-loop-turn l =
    let one = after_keyword k.Elsif (branch_at (sequence_at l.deeper)) in
    with_first (map view_branch l.branches.items) (many (is_keyword k.Elsif) one (length l.initial.reader - l._turn) l.reader) ≡ with_first (map view_branch l.initial.branches.items) (many (is_keyword k.Elsif) one (length l.initial.reader) l.initial.reader)

abbrev pub invariant-more_choices-loop-turn : goal.invariant-more_choices-loop-turn
invariant-more_choices-loop-turn l =
    let one = choice_at (sequence_at l.deeper) in
    with_first (map view_choice l.choices.items) (many is_label one (length l.initial.reader - l._turn) l.reader) ≡ with_first (map view_choice l.initial.choices.items) (many is_label one (length l.initial.reader) l.initial.reader)
