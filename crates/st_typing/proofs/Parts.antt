-- A body fits if the own parts of each of its statements do.
use Rattle.std.proofs.Common.{◌≡◌, ◌∙◌, ℕ, Bool, true, false, ◌&&◌, List, refl}
use Rattle.std.specs.List.{list_all}
use Rattle.plant_types.specs.declared.values.Kind.TheVariants as kind
use Rattle.st_tree.specs.Plain.{PlainStmt, empty, assign, store, call, if_else, case_of, for_to, PlainBody, done, next, Branches, no_branch, branch, Choices, no_choice, choice}
use Rattle.st_tree.specs.Fits.{Context, is_of, stmt_fits, all_fit, branches_fit, choices_fit}
use Rattle.st_names.specs.Every.{every, every_inside, every_branch, every_choice, tests_of}
use Rattle.st_typing.specs.Kinds.{parts_fit}

and_true : (a : Bool) → (a && true) ≡ a
and_true true = refl
and_true false = refl

regrouped : (a b c : Bool) → (a && (b && c)) ≡ ((a && b) && c)
regrouped true b c = refl
regrouped false b c = refl

three_and : (a b c d : Bool) → ((a && (b && c)) && d) ≡ (a && (b && (c && d)))
three_and true true c d = refl
three_and true false c d = refl
three_and false b c d = refl

crossed : (a b c d : Bool) → ((a && b) && (c && d)) ≡ (a && (c && (b && d)))
crossed true true c d = refl
crossed true false true d = refl
crossed true false false d = refl
crossed false b c d = refl

mutual
  pub stmt_parts : (context : Context (List ℕ)) (s : PlainStmt (List ℕ)) → (parts_fit context s && every_inside (parts_fit context) s) ≡ stmt_fits context s
  stmt_parts context (empty number) = refl
  stmt_parts context (assign number v e) = and_true (parts_fit context (assign number v e))
  stmt_parts context (store number v bounds index value) = and_true (parts_fit context (store number v bounds index value))
  stmt_parts context (call number instance arguments) = and_true (parts_fit context (call number instance arguments))
  stmt_parts context (if_else number branches last) =
      rw (regrouped (list_all (is_of context kind.Bool) (tests_of branches)) (every_branch (parts_fit context) branches) (every (parts_fit context) last), branch_parts context branches, body_parts context last) refl
  stmt_parts context (case_of number e choices last) = rw (choice_parts context choices, body_parts context last) refl
  stmt_parts context (for_to number v from to by body) =
      three_and (is_of context kind.Dint from) (is_of context kind.Dint to) _ (every (parts_fit context) body) ∙ rw (body_parts context body) refl

  pub body_parts : (context : Context (List ℕ)) (body : PlainBody (List ℕ)) → every (parts_fit context) body ≡ all_fit context body
  body_parts context done = refl
  body_parts context (next s rest) =
      rw (regrouped (parts_fit context s) (every_inside (parts_fit context) s) (every (parts_fit context) rest), stmt_parts context s, body_parts context rest) refl

  pub branch_parts : (context : Context (List ℕ)) (bs : Branches (List ℕ)) → (list_all (is_of context kind.Bool) (tests_of bs) && every_branch (parts_fit context) bs) ≡ branches_fit context bs
  branch_parts context no_branch = refl
  branch_parts context (branch test body rest) =
      rw (crossed (is_of context kind.Bool test) (list_all (is_of context kind.Bool) (tests_of rest)) (every (parts_fit context) body) (every_branch (parts_fit context) rest), body_parts context body, branch_parts context rest) refl

  pub choice_parts : (context : Context (List ℕ)) (cs : Choices (List ℕ)) → every_choice (parts_fit context) cs ≡ choices_fit context cs
  choice_parts context no_choice = refl
  choice_parts context (choice labels body rest) = rw (body_parts context body, choice_parts context rest) refl
