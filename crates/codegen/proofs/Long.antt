-- How long a frame is by a table of counts.
use Rattle.std.proofs.Common.{◌≡◌, ◌∙◌, ap, sym, ℕ, ◌+◌, ◌<◌, true, List, Some, Option, drop, length, get_or, arith}
use Rattle.std.specs.Prelude.{slice_get}
use Rattle.st_tree.specs.declared.tree.Branch.{Branch}
use Rattle.st_tree.specs.declared.tree.Choice.{Choice}
use Rattle.st_tree.specs.View.{view_expr, view_body, view_branches, view_choices}
use Rattle.st_tree.proofs.Views.{view_branch_is, view_choice_is}
use Rattle.logic_walk.specs.declared.frame.Seat.{Seat}
use Rattle.logic_walk.specs.declared.frame.SeatOf.TheVariants as seat_of
use Rattle.logic_walk.specs.declared.frame.Frame.{Frame}
use Rattle.vm_sizes.specs.declared.counts.Count.{Count}
use Rattle.vm_sizes.specs.Sizes.{expr_lines, choice_lines, entered_by, body_lines, frame_lines}
use Rattle.vm_sizes.specs.Counts.{lines_at}
use Rattle.codegen.specs.declared.scope.PlacedRoutine.{PlacedRoutine}
use Rattle.vm_sizes.proofs.Few.{branch_at, choice_at, labelled}
use Rattle.codegen.specs.Emission.{enter_long, body_long, branches_long, choices_long}
use Rattle.codegen.proofs.Parts.{lines_is}

-- a frame is as long as its body, by the table
pub frame_long : (frames : List Frame) (limit k : ℕ) (frame : Frame) → k < limit → slice_get frames k ≡ Some frame → (front : List Count) → ((j : ℕ) → frame_lines frames k j ≡ lines_at front j)
    → body_lines frame.seats.items (lines_at front) (view_body frame.body.items) ≡ frame_lines frames limit k
frame_long frames limit k frame less at front same =
    ap (λ (lines : ℕ → ℕ). body_lines frame.seats.items lines (view_body frame.body.items)) (λ i j. sym (same j) i) ∙ sym (lines_is frames limit k frame less at)

-- an instance that is called is as long as its frame, by the table
pub entered_long : (s : PlacedRoutine) (instance : ℕ) (seat : Seat) → slice_get s.seats.now instance ≡ Some seat → (k : ℕ) → seat.of ≡ seat_of.Frame k → seat.is_called ≡ true → enter_long s (slice_get s.seats.now instance) ≡ lines_at s.table.now k
entered_long s instance seat at k of on = ap (λ (o : Option Seat). enter_long s o) at ∙ (λ i. entered_by 2 (lines_at s.table.now) (of i) (on i))

-- where branches from one on end below 2^32, so does the first one of them
pub branch_fits : (s : PlacedRoutine) (branches : List (Branch ℕ)) (i at end n : ℕ) (b : Branch ℕ) → i < length branches → b ≡ get_or branches i b → at + branches_long s (view_branches (drop i branches)) n ≡ end → end < 4294967296
    → at + expr_lines (view_expr b.test) + 1 + body_long s (view_body b.body.items) + 1 < 4294967296
branch_fits s branches i at end n b within is ends few =
    let first = branch_at s.seats.now (lines_at s.table.now) branches i n b within is in
    let test = ap (λ p. expr_lines p.0) (view_branch_is b) in
    let body = ap (λ p. body_long s p.1) (view_branch_is b) in
    omega (arith, first, test, body, ends, few)

-- the same of choices, where the first one has a label
pub choice_fits : (s : PlacedRoutine) (choices : List (Choice ℕ)) (i at end n : ℕ) (c : Choice ℕ) → i < length choices → c ≡ get_or choices i c → 0 < length c.labels.items → at + choices_long s (view_choices (drop i choices)) n ≡ end
    → end < 4294967296 → at + length c.labels.items + 1 + body_long s (view_body c.body.items) + 1 < 4294967296
choice_fits s choices i at end n c within is some ends few =
    let rest = choices_long s (view_choices (drop (i + 1) choices)) n in
    let first = choice_at s.seats.now (lines_at s.table.now) choices i n c within is in
    let own = ap (λ p. choice_lines p.0 (body_long s p.1) rest) (view_choice_is c) in
    let long = labelled c.labels.items (body_long s (view_body c.body.items)) rest some in
    omega (arith, first, own, long, ends, few)
