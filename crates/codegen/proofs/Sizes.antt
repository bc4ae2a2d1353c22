-- Code is no longer than three times the size of its frame.
use Rattle.std.proofs.Common.{◌≡◌, ℕ, zero, suc, ◌+◌, ◌*◌, ◌<◌, ◌≤◌, Bool, true, false, List, [], ◌∷◌, length, Option, Some, None, refl, arith, inl, inr, if◌then◌else◌}
use Rattle.std.specs.Prelude.{slice_get}
use Rattle.std.specs.Option.{option_map_or}
use Rattle.std.proofs.lemmas.Bool.{cases_lt}
use Rattle.st_tree.specs.declared.tree.Label.{Label}
use Rattle.st_tree.specs.Plain.{PlainExpr, literal, read, output_of, element, unary, binary, PlainArgument, input, output}
use Rattle.st_tree.specs.Plain.{PlainStmt, empty, assign, store, call, if_else, case_of, for_to, PlainBody, done, next, Branches, no_branch, branch, Choices, no_choice, choice}
use Rattle.st_tree.specs.View.{view_body}
use Rattle.st_tree.specs.Costs.{expr_cost, tests_cost, labels_cost, arguments_cost, weight, weight_all, branches_weight, choices_weight}
use Rattle.logic_walk.specs.declared.frame.SeatOf.{SeatOf}
use Rattle.logic_walk.specs.declared.frame.SeatOf.TheVariants as seat_of
use Rattle.logic_walk.specs.declared.frame.Seat.{Seat}
use Rattle.logic_walk.specs.declared.frame.Frame.{Frame}
use Rattle.logic_walk.proofs.Firsts.{first_past}
use Rattle.vm_sizes.specs.Sizes.{expr_lines, binary_lines, put_lines, inputs_lines, outputs_lines, for_lines, choice_lines, entered, entered_by, seat_cost, called_cost, frame_turns, stmt_lines, body_lines, branches_lines, choices_lines, frame_lines, frame_size, routine_lines}
use Rattle.codegen.proofs.Parts.{lines_is, size_is}
use Rattle.codegen.proofs.Frames.{first_none}

binary_few : (b : PlainExpr ℕ) (m n c d : ℕ) → m + 1 ≤ 2 * c → n + 1 ≤ 2 * d → 1 ≤ d → binary_lines b m n + 1 ≤ 2 * (1 + c + d)
binary_few (literal x) m n c d h g k = omega arith
binary_few (read v) m n c d h g k = omega arith
binary_few (output_of instance name) m n c d h g k = omega arith
binary_few (element v bounds index) m n c d h g k = omega arith
binary_few (unary op a) m n c d h g k = omega arith
binary_few (binary op a b) m n c d h g k = omega arith

some : (e : PlainExpr ℕ) → 1 ≤ expr_cost e
some (literal n) = omega arith
some (read v) = omega arith
some (output_of instance name) = omega arith
some (element v bounds index) = omega arith
some (unary op a) = omega arith
some (binary op a b) = omega arith

expr_few : (e : PlainExpr ℕ) → expr_lines e + 1 ≤ 2 * expr_cost e
expr_few (literal n) = omega arith
expr_few (read v) = omega arith
expr_few (output_of instance name) = omega arith
expr_few (element v bounds index) = let h = expr_few index in omega arith
expr_few (unary op a) = let h = expr_few a in omega arith
expr_few (binary op a b) = binary_few b (expr_lines a) (expr_lines b) (expr_cost a) (expr_cost b) (expr_few a) (expr_few b) (some b)

put_few : (seat : Option Seat) → put_lines seat ≤ 1
put_few None = omega arith
put_few (Some seat) = omega arith

arguments_few : (seat : Option Seat) (arguments : List (PlainArgument ℕ)) → inputs_lines seat arguments + outputs_lines arguments ≤ 3 * arguments_cost arguments
arguments_few seat [] = omega arith
arguments_few seat (input name e ∷ rest) = let h = arguments_few seat rest in let g = expr_few e in let k = put_few seat in omega arith
arguments_few seat (output name v ∷ rest) = let h = arguments_few seat rest in omega arith

for_few : (turns n c : ℕ) → n ≤ 3 * c → for_lines turns n ≤ 3 * (2 + 1 * (3 + c))
for_few zero n c h = omega arith
for_few (suc t) n c h = omega arith

choice_few : (labels : List Label) (b r c d : ℕ) → b ≤ 3 * c → r ≤ 3 * d → choice_lines labels b r ≤ 3 * (length labels + c + d)
choice_few [] b r c d h g = omega arith
choice_few (label ∷ labels) b r c d h g = omega arith

module _ (lines sizes : ℕ → ℕ) (few : (k : ℕ) → lines k ≤ 3 * sizes k) where
  marked_few : (b : Bool) (m n : ℕ) → m ≤ 3 * n → (if b then m else 0) ≤ 3 * n
  marked_few true m n h = h
  marked_few false m n h = omega arith

  entered_few : (of : SeatOf) (b : Bool) → entered_by 2 lines of b ≤ 3 * seat_cost sizes of
  entered_few (seat_of.Standard of) b = omega arith
  entered_few (seat_of.Frame k) b = marked_few b (lines k) (sizes k) (few k)

  enter_few : (seat : Option Seat) → entered 2 lines seat ≤ 3 * option_map_or (λ (s : Seat). seat_cost sizes s.of) seat 0
  enter_few None = omega arith
  enter_few (Some seat) = entered_few seat.of seat.is_called

  module _ (seats : List Seat) where
    abbrev one : PlainExpr ℕ → PlainExpr ℕ → Option (PlainExpr ℕ) → ℕ
    one from to by = 1

    abbrev add : ℕ → ℕ → ℕ
    add a b = a + b

    mutual
      stmt_few : (s : PlainStmt ℕ) → stmt_lines seats lines s ≤ 3 * weight add one (called_cost sizes seats) s
      stmt_few (empty number) = omega arith
      stmt_few (assign number v e) = let h = expr_few e in omega arith
      stmt_few (store number v bounds index value) = let h = expr_few index in let g = expr_few value in omega arith
      stmt_few (call number instance arguments) = let h = arguments_few (slice_get seats instance) arguments in let g = enter_few (slice_get seats instance) in omega arith
      stmt_few (if_else number branches last) = let h = branches_few branches (body_lines seats lines last) (weight_all add one (called_cost sizes seats) last) (body_few last) in omega arith
      stmt_few (case_of number e choices last) = let h = choices_few choices (body_lines seats lines last) (weight_all add one (called_cost sizes seats) last) (body_few last) in let g = expr_few e in omega arith
      stmt_few (for_to number v from to by body) = for_few (frame_turns from to by) (body_lines seats lines body) (weight_all add one (called_cost sizes seats) body) (body_few body)

      pub body_few : (body : PlainBody ℕ) → body_lines seats lines body ≤ 3 * weight_all add one (called_cost sizes seats) body
      body_few done = omega arith
      body_few (next s rest) = let h = stmt_few s in let g = body_few rest in omega arith

      branches_few : (branches : Branches ℕ) (l n : ℕ) → l ≤ 3 * n → branches_lines seats lines branches l ≤ 3 * (tests_cost branches + (branches_weight add one (called_cost sizes seats) branches + n))
      branches_few no_branch l n h = omega arith
      branches_few (branch test body rest) l n h = let g = branches_few rest l n h in let k = body_few body in let e = expr_few test in let o = some test in omega arith

      choices_few : (choices : Choices ℕ) (l n : ℕ) → l ≤ 3 * n → choices_lines seats lines choices l ≤ 3 * (labels_cost choices + (choices_weight add one (called_cost sizes seats) choices + n))
      choices_few no_choice l n h = omega arith
      choices_few (choice labels body rest) l n h =
          let g = choices_few rest l n h in
          let c = weight_all add one (called_cost sizes seats) body in
          let d = labels_cost rest + (choices_weight add one (called_cost sizes seats) rest + n) in
          let k = choice_few labels (body_lines seats lines body) (choices_lines seats lines rest l) c d (body_few body) g in
          omega arith

module _ (frames : List Frame) where
  lines_none : (limit k : ℕ) → slice_get frames k ≡ None → frame_lines frames limit k ≡ 0
  unfolding frame_lines
  lines_none limit k at = first_none 0 routine_lines frames limit k at

  lines_past : (limit k : ℕ) → limit ≤ k → frame_lines frames limit k ≡ 0
  unfolding frame_lines
  lines_past limit k h = first_past 0 routine_lines frames limit k h

  few_by : (limit k : ℕ) (at : Option Frame) → slice_get frames k ≡ at → k < limit → ((j : ℕ) → frame_lines frames k j ≤ 3 * frame_size frames k j) → frame_lines frames limit k ≤ 3 * frame_size frames limit k
  few_by limit k None at h inner = let e = lines_none limit k at in omega arith
  few_by limit k (Some frame) at h inner =
      let e = lines_is frames limit k frame h at in
      let f = size_is frames limit k frame h at in
      let g = body_few (frame_lines frames k) (frame_size frames k) inner frame.seats.items (view_body frame.body.items) in
      omega arith

  few_up : (n limit k : ℕ) → limit ≤ n → frame_lines frames limit k ≤ 3 * frame_size frames limit k
  few_up zero limit k le = let e = lines_past limit k (omega arith) in omega arith
  few_up (suc n) limit k le =
      elim (cases_lt k limit) [
        | inl less ↦ few_by limit k (slice_get frames k) refl less (λ j. few_up n k j (omega arith))
        | inr past ↦ (let e = lines_past limit k past in omega arith)
      ]

  pub lines_few : (limit k : ℕ) → frame_lines frames limit k ≤ 3 * frame_size frames limit k
  lines_few limit k = few_up limit limit k (omega arith)
