-- Costs of worked examples.
use Rattle.std.proofs.Common.{◌≡◌, ℕ, pos, [], ◌∷◌, None, refl}
use Rattle.st_tree.specs.declared.tree.Literal.TheVariants.{Integer}
use Rattle.st_tree.specs.declared.tree.Binary.TheVariants.{Add}
use Rattle.st_tree.specs.Plain.{literal, read, binary, input, output}
use Rattle.st_tree.specs.Plain.{empty, assign, call, if_else, case_of, for_to, PlainBody, done, next, branch, no_branch, choice, no_choice}
use Rattle.st_tree.specs.Costs.{body_cost, body_size}

-- n := n + 1
abbrev count_on : PlainBody ℕ
count_on = next (assign 0 1 (binary Add (read 1) (literal (Integer (pos 1))))) done

-- FOR .. DO body END_FOR
abbrev loop : PlainBody ℕ → PlainBody ℕ
loop body = next (for_to 0 2 (literal (Integer (pos 1))) (literal (Integer (pos 9))) None body) done

-- no instance is called
abbrev nothing : ℕ → ℕ
nothing instance = 0

-- 2, and 10,000 times 3 and 1 and 3
ten_thousand_turns : body_cost (λ from to by. 10000) nothing (loop count_on) ≡ 70002
ten_thousand_turns = refl

-- its size is that of one turn: 2 and 3 and 4
one_turn_of_size : body_size nothing (loop count_on) ≡ 9
one_turn_of_size = refl

-- a FOR without turns costs 2
no_turn : body_cost (λ from to by. 0) nothing (loop count_on) ≡ 2
no_turn = refl

-- IF a THEN n := n + 1; n := n + 1; ELSE ; END_IF: 1, the test 1, and the greatest branch 8; its size has the ELSE too
abbrev branches : PlainBody ℕ
branches = next (if_else 0 (branch (read 0) (next (assign 0 1 (binary Add (read 1) (literal (Integer (pos 1))))) count_on) no_branch) (next (empty 0) done)) done

greatest_branch : body_cost (λ from to by. 1) nothing branches ≡ 10
greatest_branch = refl

all_branches : body_size nothing branches ≡ 11
all_branches = refl

-- CASE n OF 1, 3..5: n := n + 1; 7: ; END_CASE: 1, the selector 1, three labels, and the greatest branch 4
abbrev labels : PlainBody ℕ
labels = next (case_of 0 (read 1) (choice (record { low = pos 1; high = pos 1 } ∷ record { low = pos 3; high = pos 5 } ∷ []) count_on (choice (record { low = pos 7; high = pos 7 } ∷ []) (next (empty 0) done) no_choice)) done) done

each_label : body_cost (λ from to by. 1) nothing labels ≡ 9
each_label = refl

-- f(x := n + 1, y => n), where the block's body costs 5: 1, an input 1 and 3, an output 1, and 5
called : body_cost {V = ℕ} (λ from to by. 1) (λ instance. 5) (next (call 0 3 (input 4 (binary Add (read 1) (literal (Integer (pos 1)))) ∷ output 5 1 ∷ [])) done) ≡ 11
called = refl
