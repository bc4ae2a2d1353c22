-- The numbers of statements, in the order of their first tokens: a statement before those inside it.
use Rattle.std.specs.Prelude.{ℕ, ◌+◌}
use Rattle.st_tree.specs.Plain.{PlainStmt, empty, assign, store, call, if_else, case_of, for_to, PlainBody, done, next, Branches, no_branch, branch, Choices, no_choice, choice}

abbrev mutual
  -- how many statements a statement is, with those inside it
  pub count_stmt : {V : Type 0} → PlainStmt V → ℕ
  count_stmt (empty number) = 1
  count_stmt (assign number v e) = 1
  count_stmt (store number v bounds index value) = 1
  count_stmt (call number instance arguments) = 1
  count_stmt (if_else number branches last) = 1 + count_branches branches + count_body last
  count_stmt (case_of number e choices last) = 1 + count_choices choices + count_body last
  count_stmt (for_to number v from to by body) = 1 + count_body body

  pub count_body : {V : Type 0} → PlainBody V → ℕ
  count_body done = 0
  count_body (next s rest) = count_stmt s + count_body rest

  pub count_branches : {V : Type 0} → Branches V → ℕ
  count_branches no_branch = 0
  count_branches (branch test body rest) = count_body body + count_branches rest

  pub count_choices : {V : Type 0} → Choices V → ℕ
  count_choices no_choice = 0
  count_choices (choice labels body rest) = count_body body + count_choices rest

abbrev mutual
  -- a statement and those inside it, numbered from a number on
  pub numbered_stmt : {V : Type 0} → ℕ → PlainStmt V → PlainStmt V
  numbered_stmt n (empty number) = empty n
  numbered_stmt n (assign number v e) = assign n v e
  numbered_stmt n (store number v bounds index value) = store n v bounds index value
  numbered_stmt n (call number instance arguments) = call n instance arguments
  numbered_stmt n (if_else number branches last) = if_else n (numbered_branches (n + 1) branches) (numbered (n + 1 + count_branches branches) last)
  numbered_stmt n (case_of number e choices last) = case_of n e (numbered_choices (n + 1) choices) (numbered (n + 1 + count_choices choices) last)
  numbered_stmt n (for_to number v from to by body) = for_to n v from to by (numbered (n + 1) body)

  -- a body whose statements are numbered from a number on
  pub numbered : {V : Type 0} → ℕ → PlainBody V → PlainBody V
  numbered n done = done
  numbered n (next s rest) = next (numbered_stmt n s) (numbered (n + count_stmt s) rest)

  pub numbered_branches : {V : Type 0} → ℕ → Branches V → Branches V
  numbered_branches n no_branch = no_branch
  numbered_branches n (branch test body rest) = branch test (numbered n body) (numbered_branches (n + count_body body) rest)

  pub numbered_choices : {V : Type 0} → ℕ → Choices V → Choices V
  numbered_choices n no_choice = no_choice
  numbered_choices n (choice labels body rest) = choice labels (numbered n body) (numbered_choices (n + count_body body) rest)
