-- What the initial values of a frame leave, by what its own and those of its instances do.
use Rattle.std.proofs.Common.{◌≡◌, ◌∙◌, ap, sym, refl, ℕ, ◌<◌, ◌≤◌, List, Some}
use Rattle.std.specs.Prelude.{slice_get, Result, Ok, Err}
use Rattle.st_tree.specs.declared.tree.Stmt.{Stmt}
use Rattle.st_tree.specs.View.{view_body}
use Rattle.st_tree.specs.Meaning.{run_all}
use Rattle.logic_cells.specs.declared.stop.Stop.{Stop}
use Rattle.logic_cells.specs.Cells.{PlainCells}
use Rattle.plant_types.specs.Values.{Path}
use Rattle.logic_cells.specs.Runs.{ended}
use Rattle.logic_walk.specs.declared.frame.Seat.{Seat}
use Rattle.logic_walk.specs.declared.frame.Base.{Base}
use Rattle.logic_walk.specs.declared.frame.Frame.{Frame}
use Rattle.logic_walk.specs.Starts.{left_by, start_space, seats_begun, frame_begun}
use Rattle.logic_walk.proofs.Firsts.{first_is, first_past}

module _ (globals : ℕ) (frames : List Frame) (limit k : ℕ) (base : Base) (cells : PlainCells) where
  pub begun_is : (frame : Frame) → k < limit → slice_get frames k ≡ Some frame
      → frame_begun globals frames limit k base cells ≡ seats_begun (frame_begun globals frames k) frame.seats.items base (left_by (run_all (start_space globals base) (view_body frame.starts.items) cells))
  unfolding frame_begun
  begun_is frame h at =
      ap (λ (f : Base → PlainCells → PlainCells). f base cells)
      (first_is (λ b c. c) (λ inner f b c. seats_begun inner f.seats.items b (left_by (run_all (start_space globals b) (view_body f.starts.items) c))) frames limit k frame h at)

  pub begun_past : limit ≤ k → frame_begun globals frames limit k base cells ≡ cells
  unfolding frame_begun
  begun_past h =
      ap (λ (f : Base → PlainCells → PlainCells). f base cells) (first_past (λ b c. c) (λ inner f b c. seats_begun inner f.seats.items b (left_by (run_all (start_space globals b) (view_body f.starts.items) c))) frames limit k h)

  left_is : (paths : List Path) (r : Result (Unit {0}) Stop) (c : PlainCells) → left_by (ended paths r c) ≡ c
  left_is paths (Ok u) c = refl
  left_is paths (Err stop) c = refl

  pub begun_by : (frame : Frame) (paths : List Path) (starts : List (Stmt ℕ)) (seats : List Seat) (r : Result (Unit {0}) Stop) (middle later : PlainCells) → k < limit → slice_get frames k ≡ Some frame → starts ≡ frame.starts.items → seats ≡ frame.seats.items
      → ended paths r middle ≡ run_all (start_space globals base) (view_body starts) cells → later ≡ seats_begun (frame_begun globals frames k) seats base middle → later ≡ frame_begun globals frames limit k base cells
  begun_by frame paths starts seats r middle later h at same also ran begun =
      let own : middle ≡ left_by (run_all (start_space globals base) (view_body frame.starts.items) cells) =
      sym (left_is paths r middle) ∙ ap left_by ran ∙ ap (λ b. left_by (run_all (start_space globals base) (view_body b) cells)) same in
      begun ∙ (λ i. seats_begun (frame_begun globals frames k) (also i) base (own i)) ∙ sym (begun_is frame h at)
