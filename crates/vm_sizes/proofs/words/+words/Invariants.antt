use Rattle.std.proofs.Common.{◌≡◌, ◌≤◌, max, drop}
use Rattle.st_tree.specs.View.{view_body, view_branches, view_choices}
use Rattle.vm_sizes.specs.Sizes as sizes
use Rattle.vm_sizes.specs.Counts.{capped, words_at}
use Rattle.vm_sizes.proofs.words.+words.Given as goal

-- what is counted, and what is left to count, is all, as far as words are counted
abbrev pub invariant-body_words-loop-stmt : goal.invariant-body_words-loop-stmt
invariant-body_words-loop-stmt l =
    (capped (max l.total (sizes.body_words l.seats (words_at l.table) (view_body (drop l.stmt-index l.body)))) ≡ capped (sizes.body_words l.seats (words_at l.table) (view_body l.body))) × (l.total ≤ 18446744073709551615)

abbrev pub invariant-branches_words-loop-branch : goal.invariant-branches_words-loop-branch
invariant-branches_words-loop-branch l =
    (capped (max l.total (sizes.branches_words l.seats (words_at l.table) (view_branches (drop l.branch-index l.branches)))) ≡ capped (sizes.branches_words l.seats (words_at l.table) (view_branches l.branches))) × (l.total ≤ 18446744073709551615)

abbrev pub invariant-choices_words-loop-choice : goal.invariant-choices_words-loop-choice
invariant-choices_words-loop-choice l =
    (capped (max l.total (sizes.choices_words l.seats (words_at l.table) (view_choices (drop l.choice-index l.choices)))) ≡ capped (sizes.choices_words l.seats (words_at l.table) (view_choices l.choices))) × (l.total ≤ 18446744073709551615)
