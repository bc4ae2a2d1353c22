-- A program whose frame is folded behind those of the block types has the code that it has among all programs.
use Rattle.std.proofs.Common.{◌≡◌, ◌∙◌, ap, sym, ℕ, zero, suc, ◌+◌, ◌≤◌, ◌++◌, List, [], ◌∷◌, length, take, drop, Some, arith}
use Rattle.std.specs.Prelude.{slice_get}
use Rattle.std.proofs.lemmas.List.{map-append}
use Rattle.logic_walk.specs.declared.frame.Base.{Base}
use Rattle.logic_walk.specs.declared.frame.Frame.{Frame}
use Rattle.logic_walk.specs.Frames.{AreInTurn}
use Rattle.logic_walk.specs.Plain.{view_frame}
use Rattle.codegen.specs.Sizes.{frame_cost}
use Rattle.codegen.specs.Counts.{HasFewLines}
use Rattle.acc_vm.specs.Codes.{PlainCode}
use Rattle.codegen.specs.Codes.{code_of, AreSteady}
use Rattle.codegen.specs.Within.{fits, NamesFit}
use Rattle.vm_programs.specs.Codes.{AreOfFirst, program_table, IsCodeOf, IsMade, AreSmall}
use Rattle.vm_programs.proofs.Tables.{AreSeen}
use Rattle.vm_programs.proofs.Kept.{IsKept, in_turn_kept, steady_kept, there_kept, few_lines, all_costs, code_kept}
use Rattle.vm_programs.proofs.Keeping.{folded_view}
use Rattle.vm_programs.proofs.Own.{in_turn_own, steady_own, is_there_own, cost_own, small_own, code_own}

-- the element at a place, and what comes behind it
pub next_of : {A : Type 0} (xs : List A) (k : ℕ) (x : A) (rest : List A) → drop k xs ≡ x ∷ rest → (slice_get xs k ≡ Some x) × (drop (suc k) xs ≡ rest)
next_of [] zero x rest e = absurd (cc)
next_of [] (suc k) x rest e = absurd (cc)
next_of (y ∷ ys) zero x rest e = (let same : y ≡ x = cc in ap Some same, let tail : ys ≡ rest = cc in tail)
next_of (y ∷ ys) (suc k) x rest e = next_of ys k x rest e

module _ (kept : IsKept folded_view) (frames : List Frame) (first n : ℕ) (program : Frame) (folded : List Frame) (last : Frame) (enough : first ≤ length frames) (there : slice_get frames (first + n) ≡ Some program)
    (uses : AreOfFirst first program.seats.items) (before : AreSeen folded_view (take first frames) folded) (is : view_frame last ≡ folded_view program) where
  abbrev table : List Frame
  table = program_table frames first program

  seen : AreSeen folded_view table (folded ++ last ∷ [])
  seen = map-append view_frame folded (last ∷ []) ∙ (λ i. before i ++ is i ∷ []) ∙ sym (map-append folded_view (take first frames) (program ∷ []))

  pub in_turn : AreInTurn frames → AreInTurn (folded ++ last ∷ [])
  in_turn h = in_turn_kept folded_view kept table (folded ++ last ∷ []) seen (in_turn_own frames first n program enough there uses h)

  pub steady : AreSteady frames → AreSteady (folded ++ last ∷ [])
  steady h = steady_kept folded_view kept table (folded ++ last ∷ []) seen (steady_own frames first n program enough there uses h)

  pub named : (globals : ℕ) (base : Base) → NamesFit globals frames (first + n) base → NamesFit globals (folded ++ last ∷ []) first base
  named globals base h = there_kept folded_view kept table (folded ++ last ∷ []) seen fits fits globals first base (is_there_own frames first n program enough there uses fits fits globals base h)

  pub few : AreSmall frames → HasFewLines (folded ++ last ∷ [])
  few h = few_lines folded_view kept table (folded ++ last ∷ []) seen (small_own frames first n program enough there uses h)

  pub cost_kept : (cost : ℕ) → frame_cost frames (length frames) (first + n) ≤ cost → frame_cost (folded ++ last ∷ []) (length (folded ++ last ∷ [])) first ≤ cost
  cost_kept cost h =
      let less = all_costs folded_view kept table (folded ++ last ∷ []) seen first in
      let same = cost_own frames first n program enough there uses in
      omega (arith, less, same, h)

  pub code_is : (globals : ℕ) (base : Base) (cost : ℕ) (code : PlainCode) → IsCodeOf (folded ++ last ∷ []) globals first base cost code → IsCodeOf frames globals (first + n) base cost code
  code_is globals base cost code h =
      code_own frames first n program enough there uses globals base cost code (code_kept folded_view kept table (folded ++ last ∷ []) seen globals first base cost code h)

  pub made_is : (globals : ℕ) (base : Base) (cost : ℕ) (code : PlainCode) → code ≡ code_of globals (folded ++ last ∷ []) first base cost → IsMade frames globals first n base cost code
  made_is globals base cost code h = record { program = program; there = there; folded = folded ++ last ∷ []; are_folded = seen; is = h }
