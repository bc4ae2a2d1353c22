-- Bodies need the same words of stack up to a last number, where what they call does.
use Rattle.std.proofs.Common.{refl, ℕ, max, List, Bool, true, false, Option, Some, None}
use Rattle.std.specs.Prelude.{slice_get}
use Rattle.st_tree.specs.Plain.{PlainStmt, empty, assign, store, call, if_else, case_of, for_to, PlainBody, done, next, Branches, no_branch, branch, Choices, no_choice, choice}
use Rattle.st_tree.specs.View.{view_body}
use Rattle.logic_walk.specs.declared.frame.SeatOf.{SeatOf}
use Rattle.logic_walk.specs.declared.frame.SeatOf.TheVariants as seat_of
use Rattle.logic_walk.specs.declared.frame.Seat.{Seat}
use Rattle.logic_walk.specs.declared.frame.Frame.{Frame}
use Rattle.vm_sizes.specs.Sizes.{expr_words, inputs_words, entered, entered_by, frame_turns, stmt_words, body_words, branches_words, choices_words, routine_words}
use Rattle.vm_sizes.proofs.Stopping.{Same, greatest, turned}

module _ (last : ℕ) (f g : ℕ → ℕ) (same : (k : ℕ) → Same last (f k) (g k)) where
  entered_alike : (of : SeatOf) (b : Bool) → Same last (entered_by 0 f of b) (entered_by 0 g of b)
  entered_alike (seat_of.Standard of) b = refl
  entered_alike (seat_of.Frame k) true = same k
  entered_alike (seat_of.Frame k) false = refl

  found_alike : (o : Option Seat) → Same last (entered 0 f o) (entered 0 g o)
  found_alike None = refl
  found_alike (Some seat) = entered_alike seat.of seat.is_called

  module _ (seats : List Seat) where
    mutual
      stmt_alike : (s : PlainStmt ℕ) → Same last (stmt_words seats f s) (stmt_words seats g s)
      stmt_alike (empty number) = refl
      stmt_alike (assign number v e) = refl
      stmt_alike (store number v bounds index value) = refl
      stmt_alike (call number instance arguments) =
          greatest last (inputs_words arguments) (inputs_words arguments) (entered 0 f (slice_get seats instance)) (entered 0 g (slice_get seats instance)) refl (found_alike (slice_get seats instance))
      stmt_alike (if_else number branches last_body) =
          greatest last (branches_words seats f branches) (branches_words seats g branches) (body_words seats f last_body) (body_words seats g last_body) (branches_alike branches) (body_alike last_body)
      stmt_alike (case_of number e choices last_body) =
          greatest last (expr_words e) (expr_words e) (max (choices_words seats f choices) (body_words seats f last_body)) (max (choices_words seats g choices) (body_words seats g last_body)) refl
          (greatest last (choices_words seats f choices) (choices_words seats g choices) (body_words seats f last_body) (body_words seats g last_body) (choices_alike choices) (body_alike last_body))
      stmt_alike (for_to number v from to by body) = turned last (frame_turns from to by) (body_words seats f body) (body_words seats g body) (body_alike body)

      pub body_alike : (body : PlainBody ℕ) → Same last (body_words seats f body) (body_words seats g body)
      body_alike done = refl
      body_alike (next s rest) = greatest last (stmt_words seats f s) (stmt_words seats g s) (body_words seats f rest) (body_words seats g rest) (stmt_alike s) (body_alike rest)

      branches_alike : (branches : Branches ℕ) → Same last (branches_words seats f branches) (branches_words seats g branches)
      branches_alike no_branch = refl
      branches_alike (branch test body rest) =
          greatest last (expr_words test) (expr_words test) (max (body_words seats f body) (branches_words seats f rest)) (max (body_words seats g body) (branches_words seats g rest)) refl
          (greatest last (body_words seats f body) (body_words seats g body) (branches_words seats f rest) (branches_words seats g rest) (body_alike body) (branches_alike rest))

      choices_alike : (choices : Choices ℕ) → Same last (choices_words seats f choices) (choices_words seats g choices)
      choices_alike no_choice = refl
      choices_alike (choice labels body rest) = greatest last (body_words seats f body) (body_words seats g body) (choices_words seats f rest) (choices_words seats g rest) (body_alike body) (choices_alike rest)

  -- a routine needs the same up to a last number, where the frames before it do
  pub routine_alike : (frame : Frame) → Same last (routine_words f frame) (routine_words g frame)
  routine_alike frame = body_alike frame.seats.items (view_body frame.body.items)
