-- A rule for each statement of a body, those inside others too.
use Rattle.std.specs.Prelude.{Bool, true, ◌&&◌, List, [], ◌∷◌}
use Rattle.st_tree.specs.Plain.{PlainExpr, PlainStmt, empty, assign, store, call, if_else, case_of, for_to, PlainBody, done, next, Branches, no_branch, branch, Choices, no_choice, choice}

-- the tests of an IF
abbrev pub tests_of : {V : Type 0} → Branches V → List (PlainExpr V)
tests_of no_branch = []
tests_of (branch test body rest) = test ∷ tests_of rest

module _ {V : Type 0} (rule : PlainStmt V → Bool) where
  abbrev mutual
    -- the rule holds of each statement of a body, and of each that is inside one of them
    pub every : PlainBody V → Bool
    every done = true
    every (next s rest) = rule s && (every_inside s && every rest)

    -- the rule holds of each statement inside a statement
    pub every_inside : PlainStmt V → Bool
    every_inside (empty number) = true
    every_inside (assign number v e) = true
    every_inside (store number v bounds index value) = true
    every_inside (call number instance arguments) = true
    every_inside (if_else number branches last) = every_branch branches && every last
    every_inside (case_of number e choices last) = every_choice choices && every last
    every_inside (for_to number v from to by body) = every body

    pub every_branch : Branches V → Bool
    every_branch no_branch = true
    every_branch (branch test body rest) = every body && every_branch rest

    pub every_choice : Choices V → Bool
    every_choice no_choice = true
    every_choice (choice labels body rest) = every body && every_choice rest
