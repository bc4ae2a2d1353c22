-- A body weighs no more where the instances that it calls weigh no more.
use Rattle.std.proofs.Common.{ℕ, ◌+◌, ◌*◌, ◌≤◌, max, List, arith}
use Rattle.std.specs.Prelude.{Option, Some, None, slice_get}
use Rattle.std.specs.Option.{option_map_or}
use Rattle.std.proofs.lemmas.Nat.{mul-le}
use Rattle.st_tree.specs.Plain.{PlainExpr}
use Rattle.st_tree.specs.Plain.{PlainStmt, empty, assign, store, call, if_else, case_of, for_to, PlainBody, done, next, Branches, no_branch, branch, Choices, no_choice, choice}
use Rattle.st_tree.specs.Costs.{weight, weight_all, branches_weight, choices_weight}
use Rattle.logic_walk.specs.declared.frame.SeatOf.{SeatOf}
use Rattle.logic_walk.specs.declared.frame.SeatOf.TheVariants as seat_of
use Rattle.logic_walk.specs.declared.frame.Seat.{Seat}
use Rattle.codegen.specs.Sizes.{seat_cost, called_cost}

-- whatever joins branches, if it gives no more for no more
module _ (join : ℕ → ℕ → ℕ) (rises : (a b c d : ℕ) → a ≤ c → b ≤ d → join a b ≤ join c d) (turns : PlainExpr ℕ → PlainExpr ℕ → Option (PlainExpr ℕ) → ℕ) (f g : ℕ → ℕ) (less : (n : ℕ) → f n ≤ g n) where
  mutual
    stmt_less : (s : PlainStmt ℕ) → weight join turns f s ≤ weight join turns g s
    stmt_less (empty number) = omega arith
    stmt_less (assign number v e) = omega arith
    stmt_less (store number v bounds index value) = omega arith
    stmt_less (call number instance arguments) = let h = less instance in omega arith
    stmt_less (if_else number branches last) = let h = rises (branches_weight join turns f branches) (weight_all join turns f last) (branches_weight join turns g branches) (weight_all join turns g last) (branches_less branches) (body_less last) in omega arith
    stmt_less (case_of number e choices last) = let h = rises (choices_weight join turns f choices) (weight_all join turns f last) (choices_weight join turns g choices) (weight_all join turns g last) (choices_less choices) (body_less last) in omega arith
    stmt_less (for_to number v from to by body) =
        let n = turns from to by in
        let h = body_less body in
        let product : n * (3 + weight_all join turns f body) ≤ n * (3 + weight_all join turns g body) = mul-le n (3 + weight_all join turns f body) n (3 + weight_all join turns g body) (omega arith) (omega arith) in
        omega arith

    pub body_less : (body : PlainBody ℕ) → weight_all join turns f body ≤ weight_all join turns g body
    body_less done = omega arith
    body_less (next s rest) = let h = stmt_less s in let k = body_less rest in omega arith

    branches_less : (branches : Branches ℕ) → branches_weight join turns f branches ≤ branches_weight join turns g branches
    branches_less no_branch = omega arith
    branches_less (branch test body rest) = rises (weight_all join turns f body) (branches_weight join turns f rest) (weight_all join turns g body) (branches_weight join turns g rest) (body_less body) (branches_less rest)

    choices_less : (choices : Choices ℕ) → choices_weight join turns f choices ≤ choices_weight join turns g choices
    choices_less no_choice = omega arith
    choices_less (choice labels body rest) = rises (weight_all join turns f body) (choices_weight join turns f rest) (weight_all join turns g body) (choices_weight join turns g rest) (body_less body) (choices_less rest)

-- the greater of two numbers, and their sum
pub greater_rises : (a b c d : ℕ) → a ≤ c → b ≤ d → max a b ≤ max c d
greater_rises a b c d h k = omega arith

pub sum_rises : (a b c d : ℕ) → a ≤ c → b ≤ d → a + b ≤ c + d
sum_rises a b c d h k = omega arith

module _ (f g : ℕ → ℕ) (less : (n : ℕ) → f n ≤ g n) where
  seat_less : (of : SeatOf) → seat_cost f of ≤ seat_cost g of
  seat_less (seat_of.Standard of) = omega arith
  seat_less (seat_of.Frame k) = less k

  seated_less : (seat : Option Seat) → option_map_or (λ (s : Seat). seat_cost f s.of) seat 0 ≤ option_map_or (λ (s : Seat). seat_cost g s.of) seat 0
  seated_less None = omega arith
  seated_less (Some seat) = seat_less seat.of

  pub called_less : (seats : List Seat) (instance : ℕ) → called_cost f seats instance ≤ called_cost g seats instance
  called_less seats instance = seated_less (slice_get seats instance)
