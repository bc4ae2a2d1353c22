-- How deep the bodies of the first frames of a table are together.
use Rattle.std.proofs.Common.{◌≡◌, ◌∙◌, ap, sym, subst, arith, ℕ, zero, suc, ◌+◌, ◌*◌, ◌<◌, ◌≤◌, List, Option, Some, None, inl, inr, length, get_or}
use Rattle.std.proofs.lemmas.Option.{slice_get-get_or}
use Rattle.std.specs.Prelude.{slice_get}
use Rattle.std.proofs.Math.Nat.{eq-or-lt_of_le}
use denote.Param.Weighed.{most}
use Rattle.st_tree.specs.declared.tree.Stmt.{Stmt, size-Stmt}
use Rattle.logic_walk.specs.declared.frame.Frame.{Frame}

abbrev pub depth : Option Frame → ℕ
depth None = 0
depth (Some frame) = 4 * most (size-Stmt ℕ) frame.body.items

abbrev pub total : List Frame → ℕ → ℕ
total frames zero = 0
total frames (suc n) = total frames n + (6 + depth (slice_get frames n))

reflexive : (n : ℕ) → n ≤ n
reflexive n = omega arith

grows : (a b c d : ℕ) → a + b ≤ c → a + b ≤ c + d
grows a b c d h = omega arith

below : (k n : ℕ) → k < suc n → k ≤ n
below k n h = omega arith

pub total_at : (frames : List Frame) (limit k : ℕ) → k < limit → total frames k + (6 + depth (slice_get frames k)) ≤ total frames limit
total_at frames zero k h = absurd (omega arith)
total_at frames (suc n) k h =
    elim (eq-or-lt_of_le (below k n h)) [
      | inl same ↦ subst (λ j. total frames j + (6 + depth (slice_get frames j)) ≤ total frames n + (6 + depth (slice_get frames n))) (sym same) (reflexive (total frames n + (6 + depth (slice_get frames n))))
      | inr less ↦ grows (total frames k) (6 + depth (slice_get frames k)) (total frames n) (6 + depth (slice_get frames n)) (total_at frames n k less)
    ]

pub frame_at : (frames : List Frame) (k : ℕ) (frame : Frame) → k < length frames → frame ≡ get_or frames k frame → slice_get frames k ≡ Some frame
frame_at frames k frame inside is = slice_get-get_or frames k frame inside ∙ ap Some (sym is)

-- a frame's body weighs less than all first frames
pub frame_less : (frames : List Frame) (limit k : ℕ) (frame : Frame) (body : List (Stmt ℕ)) → k < limit → k < length frames → frame ≡ get_or frames k frame → body ≡ frame.body.items
    → total frames k + (5 + 4 * most (size-Stmt ℕ) body) < total frames limit
frame_less frames limit k frame body less inside is same =
    let r = total_at frames limit k less in
    let e : depth (slice_get frames k) ≡ 4 * most (size-Stmt ℕ) body = ap depth (frame_at frames k frame inside is) ∙ ap (λ b. 4 * most (size-Stmt ℕ) b) (sym same) in
    omega arith
