-- What folding keeps of frames.
use Rattle.std.proofs.Common.{◌≡◌, refl, ℕ, ◌≤◌}
use Rattle.st_tree.specs.Plain.{PlainBody}
use Rattle.st_tree.specs.View.{view_body}
use Rattle.st_tree.specs.Costs.{body_cost, body_size}
use Rattle.st_tree.specs.Mapping.{Known, body_known}
use Rattle.st_tree.specs.Meaning.{Space, run_all}
use Rattle.logic_cells.specs.Cells.{PlainCells}
use Rattle.logic_walk.specs.declared.frame.Frame.{Frame}
use Rattle.logic_walk.specs.Plain.{PlainFrame, view_frame}
use Rattle.codegen.specs.Sizes.{frame_turns}
use Rattle.const_fold.specs.Folding.{folded_body}
use Rattle.vm_programs.specs.Folded.{folded_frame}
use Rattle.vm_programs.proofs.Bodies.{KeepsConstants, body_steady}
use Rattle.vm_programs.proofs.Kept.{IsKept}

-- the plain frame of a frame, folded
abbrev pub folded_view : Frame → PlainFrame
folded_view f = folded_frame (view_frame f)

-- a folded body does what the body does
abbrev pub DoesSame : Type 0
DoesSame = (space : Space ℕ PlainCells) (body : PlainBody ℕ) (w : PlainCells) → run_all space (folded_body body) w ≡ run_all space body w

-- a folded body costs no more than the body
abbrev pub CostsLess : Type 0
CostsLess = (called : ℕ → ℕ) (body : PlainBody ℕ) → body_cost frame_turns called (folded_body body) ≤ body_cost frame_turns called body

-- a folded body is no larger than the body
abbrev pub IsNoLarger : Type 0
IsNoLarger = (called : ℕ → ℕ) (body : PlainBody ℕ) → body_size called (folded_body body) ≤ body_size called body

-- a folded body has the names of the body
abbrev pub KeepsNames : Type 0
KeepsNames = (known : Known ℕ) (body : PlainBody ℕ) → body_known known (folded_body body) ≡ body_known known body

pub folding_keeps : DoesSame → KeepsConstants → CostsLess → IsNoLarger → KeepsNames → IsKept folded_view
folding_keeps same constants less smaller names = record {
  seats = λ f. refl;
  runs = λ space f w. same space (view_body f.body.items) w;
  steady = λ f h. body_steady constants (view_body f.body.items) h;
  costs = λ called f. less called (view_body f.body.items);
  sizes = λ called f. smaller called (view_body f.body.items);
  names = λ known f. names known (view_body f.body.items);
}
