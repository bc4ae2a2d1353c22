-- A body, branches and choices that grow at their end.
use Rattle.std.proofs.Common.{◌≡◌, ◌∙◌, ap, sym, refl, ℕ, ◌+◌, ◌<◌, ◌≤◌, List, [], ◌∷◌, ◌++◌, drop, length, get_or, map, arith}
use Rattle.std.proofs.lemmas.List.{drop_more, drop_all}
use Rattle.st_tree.specs.declared.tree.Stmt.{Stmt}
use Rattle.st_tree.specs.declared.tree.Branch.{Branch}
use Rattle.st_tree.specs.declared.tree.Choice.{Choice}
use Rattle.st_tree.specs.declared.tree.Label.{Label}
use Rattle.st_tree.specs.Plain.{PlainExpr, PlainStmt, empty, assign, store, call, if_else, case_of, for_to, PlainBody, done, next, Branches, no_branch, branch, Choices, no_choice, choice}
use Rattle.st_tree.specs.Numbers.{count_stmt, count_body, count_branches, count_choices}
use Rattle.st_tree.specs.View.{view_stmt, view_body, view_branch, view_branches, view_choice, view_choices}
use Rattle.logic_frames.specs.declared.scope.RoutineNames.{RoutineNames}
use Rattle.logic_frames.specs.Scoped.{flat_expr, flat_stmt, flat_body, flat_branches, flat_choices}

abbrev pub joined : {V : Type 0} → PlainBody V → PlainBody V → PlainBody V
joined done b = b
joined (next s rest) b = next s (joined rest b)

abbrev pub joined_branches : {V : Type 0} → Branches V → Branches V → Branches V
joined_branches no_branch b = b
joined_branches (branch test body rest) b = branch test body (joined_branches rest b)

abbrev pub joined_choices : {V : Type 0} → Choices V → Choices V → Choices V
joined_choices no_choice b = b
joined_choices (choice labels body rest) b = choice labels body (joined_choices rest b)

pub joined_none : {V : Type 0} (b : PlainBody V) → joined b done ≡ b
joined_none done = refl
joined_none (next s rest) = ap (next s) (joined_none rest)

pub joined_no_branch : {V : Type 0} (b : Branches V) → joined_branches b no_branch ≡ b
joined_no_branch no_branch = refl
joined_no_branch (branch test body rest) = ap (branch test body) (joined_no_branch rest)

pub joined_no_choice : {V : Type 0} (b : Choices V) → joined_choices b no_choice ≡ b
joined_no_choice no_choice = refl
joined_no_choice (choice labels body rest) = ap (choice labels body) (joined_no_choice rest)

push_body : {V : Type 0} (xs : List (Stmt V)) (x : Stmt V) (b : PlainBody V) → joined (view_body (xs ++ x ∷ [])) b ≡ joined (view_body xs) (next (view_stmt x) b)
push_body [] x b = refl
push_body (y ∷ ys) x b = ap (next (view_stmt y)) (push_body ys x b)

push_branches : {V : Type 0} (xs : List (Branch V)) (x : Branch V) (b : Branches V) → joined_branches (view_branches (xs ++ x ∷ [])) b ≡ joined_branches (view_branches xs) (branch (view_branch x).0 (view_branch x).1 b)
push_branches [] x b = refl
push_branches (y ∷ ys) x b = ap (branch (view_branch y).0 (view_branch y).1) (push_branches ys x b)

push_choices : {V : Type 0} (xs : List (Choice V)) (x : Choice V) (b : Choices V) → joined_choices (view_choices (xs ++ x ∷ [])) b ≡ joined_choices (view_choices xs) (choice (view_choice x).0 (view_choice x).1 b)
push_choices [] x b = refl
push_choices (y ∷ ys) x b = ap (choice (view_choice y).0 (view_choice y).1) (push_choices ys x b)

-- a statement is one at least
pub one_at_least : {V : Type 0} (s : PlainStmt V) → 1 ≤ count_stmt s
one_at_least (empty number) = omega arith
one_at_least (assign number v e) = omega arith
one_at_least (store number v bounds index value) = omega arith
one_at_least (call number instance arguments) = omega arith
one_at_least (if_else number branches last) = omega arith
one_at_least (case_of number e choices last) = omega arith
one_at_least (for_to number v from to by body) = omega arith

module _ (scope : RoutineNames) where
  -- what was resolved, and what is still to be resolved from a number on, are the whole; so are their counts
  pub record Body (whole : PlainBody ℕ) (all : ℕ) (body : List (Stmt (List ℕ))) (i : ℕ) (number : ℕ) (resolved : List (Stmt ℕ)) : Type 0 where
    pub are : joined (view_body resolved) (flat_body scope number (view_body (drop i body))) ≡ whole
    pub tally : number + count_body (view_body (drop i body)) ≡ all

  pub body_more : (whole : PlainBody ℕ) (all : ℕ) (body : List (Stmt (List ℕ))) (i : ℕ) (s : Stmt (List ℕ)) (number later : ℕ) (resolved more : List (Stmt ℕ)) (r : Stmt ℕ) → i < length body → s ≡ get_or body i s → Body whole all body i number resolved
      → view_stmt r ≡ flat_stmt scope number (view_stmt s) → later ≡ number + count_stmt (view_stmt s) → more ≡ resolved ++ r ∷ [] → Body whole all body (i + 1) later more
  body_more whole all body i s number later resolved more r within is before same counted pushed =
      let rest = drop (i + 1) body in
      let split : drop i body ≡ s ∷ rest = drop_more body i s within ∙ ap (λ (x : Stmt (List ℕ)). x ∷ rest) (sym is) in
      let sum : number + (count_stmt (view_stmt s) + count_body (view_body rest)) ≡ all = ap (λ l. number + count_body (view_body l)) (sym split) ∙ before.tally in
      record {
        are = ap (λ l. joined (view_body l) (flat_body scope later (view_body rest))) pushed ∙ push_body resolved r (flat_body scope later (view_body rest))
            ∙ (λ k. joined (view_body resolved) (next (same k) (flat_body scope (counted k) (view_body rest))))
            ∙ ap (λ l. joined (view_body resolved) (flat_body scope number (view_body l))) (sym split) ∙ before.are;
        tally = omega arith;
      }

  -- the number behind the next statement is no greater than that behind all
  pub body_next : (whole : PlainBody ℕ) (all : ℕ) (body : List (Stmt (List ℕ))) (i : ℕ) (s : Stmt (List ℕ)) (number : ℕ) (resolved : List (Stmt ℕ)) → i < length body → s ≡ get_or body i s → Body whole all body i number resolved → number + count_stmt (view_stmt s) ≤ all
  body_next whole all body i s number resolved within is before =
      let rest = drop (i + 1) body in
      let split : drop i body ≡ s ∷ rest = drop_more body i s within ∙ ap (λ (x : Stmt (List ℕ)). x ∷ rest) (sym is) in
      let sum : number + (count_stmt (view_stmt s) + count_body (view_body rest)) ≡ all = ap (λ l. number + count_body (view_body l)) (sym split) ∙ before.tally in
      omega (arith, sum)

  pub body_whole : (whole : PlainBody ℕ) (all : ℕ) (body : List (Stmt (List ℕ))) (i : ℕ) (number : ℕ) (resolved : List (Stmt ℕ)) → length body ≤ i → Body whole all body i number resolved → (view_body resolved ≡ whole) × (number ≡ all)
  body_whole whole all body i number resolved past before =
      let none = drop_all i body past in
      let sum : number + 0 ≡ all = ap (λ l. number + count_body (view_body l)) (sym none) ∙ before.tally in
      (sym (joined_none (view_body resolved)) ∙ ap (λ l. joined (view_body resolved) (flat_body scope number (view_body l))) (sym none) ∙ before.are, omega arith)

  pub record BranchesAre (whole : Branches ℕ) (all : ℕ) (branches : List (Branch (List ℕ))) (i : ℕ) (number : ℕ) (resolved : List (Branch ℕ)) : Type 0 where
    pub are : joined_branches (view_branches resolved) (flat_branches scope number (view_branches (drop i branches))) ≡ whole
    pub tally : number + count_branches (view_branches (drop i branches)) ≡ all

  pub branches_more : (whole : Branches ℕ) (all : ℕ) (branches : List (Branch (List ℕ))) (i : ℕ) (b : Branch (List ℕ)) (number later : ℕ) (resolved more : List (Branch ℕ)) (r : Branch ℕ) (test : PlainExpr (List ℕ)) (body : PlainBody (List ℕ)) → i < length branches → b ≡ get_or branches i b
      → BranchesAre whole all branches i number resolved → view_branch b ≡ (test, body) → view_branch r ≡ (flat_expr scope test, flat_body scope number body) → later ≡ number + count_body body → more ≡ resolved ++ r ∷ [] → BranchesAre whole all branches (i + 1) later more
  branches_more whole all branches i b number later resolved more r test body within is before seen same counted pushed =
      let rest = drop (i + 1) branches in
      let split : drop i branches ≡ b ∷ rest = drop_more branches i b within ∙ ap (λ (x : Branch (List ℕ)). x ∷ rest) (sym is) in
      let parts : view_branches (drop i branches) ≡ branch test body (view_branches rest) = ap view_branches split ∙ ap (λ (p : PlainExpr (List ℕ) × PlainBody (List ℕ)). branch p.0 p.1 (view_branches rest)) seen in
      let sum : number + (count_body body + count_branches (view_branches rest)) ≡ all = ap (λ l. number + count_branches l) (sym parts) ∙ before.tally in
      record {
        are = ap (λ l. joined_branches (view_branches l) (flat_branches scope later (view_branches rest))) pushed ∙ push_branches resolved r (flat_branches scope later (view_branches rest))
            ∙ (λ k. joined_branches (view_branches resolved) (branch (same k).0 (same k).1 (flat_branches scope (counted k) (view_branches rest))))
            ∙ ap (λ l. joined_branches (view_branches resolved) (flat_branches scope number l)) (sym parts) ∙ before.are;
        tally = omega arith;
      }

  pub branches_next : (whole : Branches ℕ) (all : ℕ) (branches : List (Branch (List ℕ))) (i : ℕ) (b : Branch (List ℕ)) (number : ℕ) (resolved : List (Branch ℕ)) (test : PlainExpr (List ℕ)) (body : PlainBody (List ℕ)) → i < length branches → b ≡ get_or branches i b
      → BranchesAre whole all branches i number resolved → view_branch b ≡ (test, body) → number + count_body body ≤ all
  branches_next whole all branches i b number resolved test body within is before seen =
      let rest = drop (i + 1) branches in
      let split : drop i branches ≡ b ∷ rest = drop_more branches i b within ∙ ap (λ (x : Branch (List ℕ)). x ∷ rest) (sym is) in
      let parts : view_branches (drop i branches) ≡ branch test body (view_branches rest) = ap view_branches split ∙ ap (λ (p : PlainExpr (List ℕ) × PlainBody (List ℕ)). branch p.0 p.1 (view_branches rest)) seen in
      let sum : number + (count_body body + count_branches (view_branches rest)) ≡ all = ap (λ l. number + count_branches l) (sym parts) ∙ before.tally in
      omega (arith, sum)

  pub branches_whole : (whole : Branches ℕ) (all : ℕ) (branches : List (Branch (List ℕ))) (i : ℕ) (number : ℕ) (resolved : List (Branch ℕ)) → length branches ≤ i → BranchesAre whole all branches i number resolved → (view_branches resolved ≡ whole) × (number ≡ all)
  branches_whole whole all branches i number resolved past before =
      let none = drop_all i branches past in
      let sum : number + 0 ≡ all = ap (λ l. number + count_branches (view_branches l)) (sym none) ∙ before.tally in
      (sym (joined_no_branch (view_branches resolved)) ∙ ap (λ l. joined_branches (view_branches resolved) (flat_branches scope number (view_branches l))) (sym none) ∙ before.are, omega arith)

  pub record ChoicesAre (whole : Choices ℕ) (all : ℕ) (choices : List (Choice (List ℕ))) (i : ℕ) (number : ℕ) (resolved : List (Choice ℕ)) : Type 0 where
    pub are : joined_choices (view_choices resolved) (flat_choices scope number (view_choices (drop i choices))) ≡ whole
    pub tally : number + count_choices (view_choices (drop i choices)) ≡ all

  pub choices_more : (whole : Choices ℕ) (all : ℕ) (choices : List (Choice (List ℕ))) (i : ℕ) (b : Choice (List ℕ)) (number later : ℕ) (resolved more : List (Choice ℕ)) (r : Choice ℕ) (labels : List Label) (body : PlainBody (List ℕ)) → i < length choices → b ≡ get_or choices i b
      → ChoicesAre whole all choices i number resolved → view_choice b ≡ (labels, body) → view_choice r ≡ (labels, flat_body scope number body) → later ≡ number + count_body body → more ≡ resolved ++ r ∷ [] → ChoicesAre whole all choices (i + 1) later more
  choices_more whole all choices i b number later resolved more r labels body within is before seen same counted pushed =
      let rest = drop (i + 1) choices in
      let split : drop i choices ≡ b ∷ rest = drop_more choices i b within ∙ ap (λ (x : Choice (List ℕ)). x ∷ rest) (sym is) in
      let parts : view_choices (drop i choices) ≡ choice labels body (view_choices rest) = ap view_choices split ∙ ap (λ (p : List Label × PlainBody (List ℕ)). choice p.0 p.1 (view_choices rest)) seen in
      let sum : number + (count_body body + count_choices (view_choices rest)) ≡ all = ap (λ l. number + count_choices l) (sym parts) ∙ before.tally in
      record {
        are = ap (λ l. joined_choices (view_choices l) (flat_choices scope later (view_choices rest))) pushed ∙ push_choices resolved r (flat_choices scope later (view_choices rest))
            ∙ (λ k. joined_choices (view_choices resolved) (choice (same k).0 (same k).1 (flat_choices scope (counted k) (view_choices rest))))
            ∙ ap (λ l. joined_choices (view_choices resolved) (flat_choices scope number l)) (sym parts) ∙ before.are;
        tally = omega arith;
      }

  pub choices_next : (whole : Choices ℕ) (all : ℕ) (choices : List (Choice (List ℕ))) (i : ℕ) (b : Choice (List ℕ)) (number : ℕ) (resolved : List (Choice ℕ)) (labels : List Label) (body : PlainBody (List ℕ)) → i < length choices → b ≡ get_or choices i b
      → ChoicesAre whole all choices i number resolved → view_choice b ≡ (labels, body) → number + count_body body ≤ all
  choices_next whole all choices i b number resolved labels body within is before seen =
      let rest = drop (i + 1) choices in
      let split : drop i choices ≡ b ∷ rest = drop_more choices i b within ∙ ap (λ (x : Choice (List ℕ)). x ∷ rest) (sym is) in
      let parts : view_choices (drop i choices) ≡ choice labels body (view_choices rest) = ap view_choices split ∙ ap (λ (p : List Label × PlainBody (List ℕ)). choice p.0 p.1 (view_choices rest)) seen in
      let sum : number + (count_body body + count_choices (view_choices rest)) ≡ all = ap (λ l. number + count_choices l) (sym parts) ∙ before.tally in
      omega (arith, sum)

  pub choices_whole : (whole : Choices ℕ) (all : ℕ) (choices : List (Choice (List ℕ))) (i : ℕ) (number : ℕ) (resolved : List (Choice ℕ)) → length choices ≤ i → ChoicesAre whole all choices i number resolved → (view_choices resolved ≡ whole) × (number ≡ all)
  choices_whole whole all choices i number resolved past before =
      let none = drop_all i choices past in
      let sum : number + 0 ≡ all = ap (λ l. number + count_choices (view_choices l)) (sym none) ∙ before.tally in
      (sym (joined_no_choice (view_choices resolved)) ∙ ap (λ l. joined_choices (view_choices resolved) (flat_choices scope number (view_choices l))) (sym none) ∙ before.are, omega arith)

-- one list made of another in two steps
pub fused : {A B C : Type 0} (g : B → C) (f : A → B) (xs : List A) → map (λ a. g (f a)) xs ≡ map g (map f xs)
fused g f [] = refl
fused g f (x ∷ xs) = ap (λ l. g (f x) ∷ l) (fused g f xs)
