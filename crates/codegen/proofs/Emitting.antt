-- What is emitted is the code.
use Rattle.std.proofs.Common.{◌≡◌, ◌∙◌, ap, sym, refl, arith, ℕ, ℤ, zero, suc, pos, ◌+◌, ◌-◌, ◌<◌, ◌≤◌, List, [], ◌∷◌, ◌++◌, Option, Some, None, inl, inr, length, get_or, take, drop, drop-cons, append_assoc, length-take-le}
use Rattle.std.specs.Prelude.{slice_get, nat_lt, Bool, true, false, if◌then◌else◌}
use Rattle.std.specs.Option.{option_map_or}
use borrow.Author.Tests.{ltb-true}
use Rattle.std.proofs.lemmas.Bool.{cases_lt, ltb-false}
use Rattle.std.proofs.lemmas.List.{append-nil}
use Rattle.std.proofs.lemmas.Option.{slice_get_past, slice_get_cases, slice_get_read}
use Rattle.std.proofs.Math.ListN.{drop_of_length-le}
use Rattle.plant_types.specs.declared.values.Place.{Place}
use Rattle.st_tree.specs.declared.controls.Span.{Span}
use Rattle.st_tree.specs.declared.tree.Label.{Label}
use Rattle.st_tree.specs.declared.tree.Branch.{Branch}
use Rattle.st_tree.specs.declared.tree.Choice.{Choice}
use Rattle.st_tree.specs.declared.tree.Expr.{Expr}
use Rattle.st_tree.specs.declared.tree.Stmt.{Stmt, Assign, fold-roll-Stmt}
use Rattle.st_tree.specs.declared.tree.Stmt.TheOpen.{Stmt-F}
use Rattle.st_tree.specs.declared.tree.Stmt.TheVariants.{rolls-Assign}
use Rattle.st_tree.specs.Plain.{PlainExpr, PlainStmt, assign, PlainBody, done, next, Branches, no_branch, branch, Choices, no_choice, choice}
use Rattle.st_tree.specs.Controls.{control_values}
use Rattle.st_tree.specs.View.{view_step, view_branch_step, view_choice_step, view_expr, view_stmt, view_body, view_branch, view_branches, view_choice, view_choices}
use Rattle.logic_cells.specs.declared.clock.Standard.{Standard}
use Rattle.logic_walk.specs.declared.frame.Seat.{Seat}
use Rattle.logic_walk.specs.declared.frame.Base.{Base}
use Rattle.logic_walk.specs.declared.frame.Frame.{Frame}
use Rattle.logic_walk.specs.declared.frame.SeatOf.{SeatOf}
use Rattle.logic_walk.specs.declared.frame.SeatOf.TheVariants as seat_of
use Rattle.logic_walk.specs.Walks.{base_of, member_slot}
use Rattle.acc_vm.specs.declared.instr.Instr.TheVariants as instr
use Rattle.vm_sizes.specs.declared.counts.Count.{Count}
use Rattle.vm_sizes.specs.Sizes.{expr_lines, body_lines, frame_lines}
use Rattle.vm_sizes.specs.Counts.{lines_at}
use Rattle.codegen.specs.declared.scope.PlacedRoutine.{PlacedRoutine}
use Rattle.codegen.specs.Codes as codes
use Rattle.codegen.specs.Codes.{Line, Coder, Part, frame_part, routine_part, labels_code, loop_code, for_code, pt_instr}
use Rattle.codegen.specs.Emission.{AreLines, coders, expr_code, enter_code, body_code, branches_code, choices_code, branches_long, choices_long}
use Rattle.codegen.proofs.Parts.{part_is, part_past, part_lines, lines_is}

-- nothing more
pub nothing : {A : Type 0} (xs ys : List A) → ys ≡ [] → xs ≡ xs ++ ys
nothing xs ys none = sym (ap (λ z. xs ++ z) none ∙ append-nil xs)

-- two stretches, one after the other
pub one_after : {A : Type 0} (old mid first second : List A) → mid ≡ old ++ first → mid ++ second ≡ old ++ (first ++ second)
one_after old mid first second is = ap (λ z. z ++ second) is ∙ append_assoc old first second

pub four_after : (old one two three test body : List Line) (j k : Line) → one ≡ old ++ test → two ≡ one ++ j ∷ [] → three ≡ two ++ body → three ++ k ∷ [] ≡ old ++ (test ++ (j ∷ (body ++ k ∷ [])))
four_after old one two three test body j k first second third =
    one_after two three body (k ∷ []) third ∙ one_after one two (j ∷ []) (body ++ k ∷ []) second ∙ one_after old one test (j ∷ (body ++ k ∷ [])) first

pub seat_at : (seats : List Seat) (instance : ℕ) (seat : Seat) → nat_lt instance (length seats) ≡ true → seat ≡ get_or seats instance seat → slice_get seats instance ≡ Some seat
seat_at seats instance seat within is = slice_get_read seats (length seats) instance seat refl (ltb-true instance (length seats) within) is

pub no_seat : (seats : List Seat) (instance : ℕ) → nat_lt instance (length seats) ≡ false → slice_get seats instance ≡ None
no_seat seats instance past = slice_get_past seats instance (ltb-false instance (length seats) past)

-- the first items of a list
taken : {A : Type 0} (xs : List A) (k j : ℕ) → j < k → slice_get (take k xs) j ≡ slice_get xs j
taken xs zero j h = absurd (omega arith)
taken [] (suc k) j h = refl
taken (x ∷ xs) (suc k) zero h = refl
taken (x ∷ xs) (suc k) (suc j) h = taken xs k j (omega arith)

module _ (frames : List Frame) (limit k : ℕ) (table : List Count) (less : k < limit) (laid : AreLines frames limit table) where
  -- a frame has the same lines among more first ones
  same_lines : (j : ℕ) → j < k → frame_lines frames k j ≡ frame_lines frames limit j
  same_lines j h =
      elim ((slice_get_cases frames j).1) [
        | inl found ↦ (
            let there : slice_get frames j ≡ Some found.0 = found.2 in
            lines_is frames k j found.0 h there ∙ sym (lines_is frames limit j found.0 (omega arith) there))
        | inr past ↦ (let far = past.0 in let within = laid.within in absurd (omega arith))
      ]

  within_front : length (take k table) ≡ k
  within_front = let long = laid.long in length-take-le k table (omega arith)

  pub front_lines : (j : ℕ) → frame_lines frames k j ≡ lines_at (take k table) j
  front_lines j =
      elim (cases_lt j k) [
        | inl h ↦ same_lines j h ∙ laid.lines j ∙ ap (λ (o : Option Count). option_map_or (λ (c : Count). c.lines) o 0) (sym (taken table k j h))
        | inr past ↦ (
            let long = within_front in
            sym (part_lines 0 frames k j) ∙ ap (λ (p : Part). p.lines) (part_past 0 frames k j past) ∙ ap (λ (o : Option Count). option_map_or (λ (c : Count). c.lines) o 0) (sym (slice_get_past (take k table) j (omega arith))))
      ]

  -- a table tells the lines of the frames before one, too
  pub laid_before : AreLines frames k (take k table)
  laid_before = let within = laid.within in record { within = omega arith; long = within_front; lines = front_lines }

  -- the code of a frame is that of its body, by the table
  pub frame_coded : (globals : ℕ) (frame : Frame) (base : Base) (path pc : ℕ) → slice_get frames k ≡ Some frame
      → codes.body_code globals frame.seats.items (lines_at (take k table)) (coders globals frames k) base path (view_body frame.body.items) pc ≡ coders globals frames limit k base path pc
  frame_coded globals frame base path pc there =
      ap (λ (lines : ℕ → ℕ). codes.body_code globals frame.seats.items lines (coders globals frames k) base path (view_body frame.body.items) pc) (λ i j. (sym (front_lines j) ∙ sym (part_lines globals frames k j)) i)
      ∙ sym (ap (λ (p : Part). p.code base path pc) (part_is globals frames limit k frame less there))

pub frame_uncoded : (frames : List Frame) (limit k globals : ℕ) (base : Base) (path pc : ℕ) → limit ≤ k → coders globals frames limit k base path pc ≡ []
frame_uncoded frames limit k globals base path pc past = ap (λ (p : Part). p.code base path pc) (part_past globals frames limit k past)

regroup : (mid test body rest : List Line) (j k : Line) → (mid ++ (test ++ (j ∷ (body ++ k ∷ [])))) ++ rest ≡ mid ++ (test ++ (j ∷ (body ++ (k ∷ rest))))
regroup mid test body rest j k = simp append_assoc

-- the rest of a body, of branches, and of choices
pub stmts_at : (body : List (Stmt ℕ)) (i : ℕ) (x : Stmt ℕ) → i < length body → x ≡ get_or body i x → view_body (drop i body) ≡ next (view_stmt x) (view_body (drop (i + 1) body))
stmts_at body i x within is =
    ap view_body (drop-cons body i x within)
    ∙ ap (λ y. next (view_stmt y) (view_body (drop (suc i) body))) (sym is)
    ∙ ap (λ n. next (view_stmt x) (view_body (drop n body))) (let e : suc i ≡ i + 1 = omega arith in e)

pub no_stmts : (body : List (Stmt ℕ)) (i : ℕ) → length body ≤ i → view_body (drop i body) ≡ done
no_stmts body i past = ap view_body (drop_of_length-le body past)

pub branches_at : (branches : List (Branch ℕ)) (i : ℕ) (b : Branch ℕ) → i < length branches → b ≡ get_or branches i b
    → view_branches (drop i branches) ≡ branch (view_branch b).0 (view_branch b).1 (view_branches (drop (i + 1) branches))
branches_at branches i b within is =
    ap view_branches (drop-cons branches i b within)
    ∙ ap (λ x. branch (view_branch x).0 (view_branch x).1 (view_branches (drop (suc i) branches))) (sym is)
    ∙ ap (λ n. branch (view_branch b).0 (view_branch b).1 (view_branches (drop n branches))) (let e : suc i ≡ i + 1 = omega arith in e)

pub choices_at : (choices : List (Choice ℕ)) (i : ℕ) (c : Choice ℕ) → i < length choices → c ≡ get_or choices i c
    → view_choices (drop i choices) ≡ choice (view_choice c).0 (view_choice c).1 (view_choices (drop (i + 1) choices))
choices_at choices i c within is =
    ap view_choices (drop-cons choices i c within)
    ∙ ap (λ x. choice (view_choice x).0 (view_choice x).1 (view_choices (drop (suc i) choices))) (sym is)
    ∙ ap (λ n. choice (view_choice c).0 (view_choice c).1 (view_choices (drop n choices))) (let e : suc i ≡ i + 1 = omega arith in e)

pub no_branches : (branches : List (Branch ℕ)) (i : ℕ) → length branches ≤ i → view_branches (drop i branches) ≡ no_branch
no_branches branches i past = ap view_branches (drop_of_length-le branches past)

pub no_choices : (choices : List (Choice ℕ)) (i : ℕ) → length choices ≤ i → view_choices (drop i choices) ≡ no_choice
no_choices choices i past = ap view_choices (drop_of_length-le choices past)

module _ (s : PlacedRoutine) (place : Place) (last : ℕ → List Line) (n at body_at next end : ℕ) (mid new : List Line) where
  abbrev lines_of : PlainBody ℕ → ℕ
  lines_of body = body_lines s.seats.now (lines_at s.table.now) body

  -- one more branch
  pub branch_on : (start : List Line) (test : PlainExpr ℕ) (body : PlainBody ℕ) (rest : Branches ℕ) → body_at ≡ at + expr_lines test + 1 → next ≡ body_at + lines_of body + 1
      → at + branches_long s (branch test body rest) n ≡ end → mid ++ branches_code s place (branch test body rest) last n at ≡ start
      → new ≡ mid ++ (expr_code s place test ++ ((instr.JumpUnless next, place) ∷ (body_code s body body_at ++ (instr.Jump end, place) ∷ [])))
      → (next + branches_long s rest n ≡ end) × (new ++ branches_code s place rest last n next ≡ start)
  branch_on start test body rest body_is next_is ends before is =
      let far : next + branches_long s rest n ≡ end = omega arith in
      let next_at : next ≡ at + expr_lines test + 1 + lines_of body + 1 = omega arith in
      let end_at : end ≡ at + expr_lines test + 1 + lines_of body + 1 + branches_long s rest n = omega arith in (
        far,
        ap (λ z. z ++ branches_code s place rest last n next) is ∙ regroup mid (expr_code s place test) (body_code s body body_at) (branches_code s place rest last n next) (instr.JumpUnless next, place) (instr.Jump end, place)
            ∙ (λ i. mid ++ (expr_code s place test ++ ((instr.JumpUnless (next_at i), place) ∷ (body_code s body (body_is i) ++ ((instr.Jump (end_at i), place) ∷ branches_code s place rest last n (next_at i))))))
            ∙ before,
      )

  -- one more choice, with a label
  pub choice_on : (start : List Line) (labels : List Label) (body : PlainBody ℕ) (rest : Choices ℕ) → 0 < length labels → body_at ≡ at + length labels + 1 → next ≡ body_at + lines_of body + 1
      → at + choices_long s (choice labels body rest) n ≡ end → mid ++ choices_code s place (choice labels body rest) last n at ≡ start
      → new ≡ mid ++ (labels_code place labels body_at ++ ((instr.Jump next, place) ∷ (body_code s body body_at ++ (instr.Jump end, place) ∷ [])))
      → (next + choices_long s rest n ≡ end) × (new ++ choices_code s place rest last n next ≡ start)
  choice_on start [] body rest some body_is next_is ends before is = absurd (omega arith)
  choice_on start (l ∷ ls) body rest some body_is next_is ends before is =
      let far : next + choices_long s rest n ≡ end = omega arith in
      let next_at : next ≡ at + length (l ∷ ls) + 1 + lines_of body + 1 = omega arith in
      let end_at : end ≡ at + length (l ∷ ls) + 1 + lines_of body + 1 + choices_long s rest n = omega arith in (
        far,
        ap (λ z. z ++ choices_code s place rest last n next) is ∙ regroup mid (labels_code place (l ∷ ls) body_at) (body_code s body body_at) (choices_code s place rest last n next) (instr.Jump next, place) (instr.Jump end, place)
            ∙ (λ i. mid ++ (labels_code place (l ∷ ls) (body_is i) ++ ((instr.Jump (next_at i), place) ∷ (body_code s body (body_is i) ++ ((instr.Jump (end_at i), place) ∷ choices_code s place rest last n (next_at i))))))
            ∙ before,
      )

-- a choice without a label
pub choice_passed : (s : PlacedRoutine) (place : Place) (last : ℕ → List Line) (n at end : ℕ) (mid start : List Line) (labels : List Label) (body : PlainBody ℕ) (rest : Choices ℕ) → length labels ≡ 0
    → at + choices_long s (choice labels body rest) n ≡ end → mid ++ choices_code s place (choice labels body rest) last n at ≡ start
    → (at + choices_long s rest n ≡ end) × (mid ++ choices_code s place rest last n at ≡ start)
choice_passed s place last n at end mid start [] body rest none ends before = (ends, before)
choice_passed s place last n at end mid start (l ∷ ls) body rest none ends before = absurd (omega arith)

nothing_if : (b : Bool) (c : List Line) → c ≡ [] → (if b then c else []) ≡ []
nothing_if true c none = none
nothing_if false c none = refl

-- what an instance is of
module _ (s : PlacedRoutine) (place : Place) (instance : ℕ) (seat : Seat) (pc : ℕ) (at : slice_get s.seats.now instance ≡ Some seat) where
  abbrev enter_by : SeatOf → List Line
  enter_by of = codes.enter_by s.globals s.seats.now (lines_at s.table.now) (coders s.globals s.frames.now s.limit) s.base s.path place of seat pc

  abbrev called_if : ℕ → Bool → List Line
  called_if k b = if b then coders s.globals s.frames.now s.limit k (base_of s.base seat) (s.path + seat.paths) pc else []

  pub entered_none : (k : ℕ) → seat.of ≡ seat_of.Frame k → seat.is_called ≡ false → enter_code s place (slice_get s.seats.now instance) pc ≡ []
  entered_none k of off = ap (λ o. enter_code s place o pc) at ∙ ap enter_by of ∙ ap (called_if k) off

  -- a frame that isn't before the routine's own has no code
  pub entered_past : (k : ℕ) → seat.of ≡ seat_of.Frame k → s.limit ≤ k → enter_code s place (slice_get s.seats.now instance) pc ≡ []
  entered_past k of past =
      ap (λ o. enter_code s place o pc) at ∙ ap enter_by of
      ∙ nothing_if seat.is_called (coders s.globals s.frames.now s.limit k (base_of s.base seat) (s.path + seat.paths) pc) (frame_uncoded s.frames.now s.limit k s.globals (base_of s.base seat) (s.path + seat.paths) pc past)

  pub entered_frame : (k : ℕ) (base : Base) (path : ℕ) → seat.of ≡ seat_of.Frame k → seat.is_called ≡ true → base ≡ base_of s.base seat → path ≡ s.path + seat.paths
      → coders s.globals s.frames.now s.limit k base path pc ≡ enter_code s place (slice_get s.seats.now instance) pc
  entered_frame k base path of on base_is path_is =
      (λ i. coders s.globals s.frames.now s.limit k (base_is i) (path_is i) pc) ∙ sym (ap (λ o. enter_code s place o pc) at ∙ ap enter_by of ∙ ap (called_if k) on)

  pub entered_standard : (of : Standard) → seat.of ≡ seat_of.Standard of
      → (pt_instr of s.base seat, place) ∷ ((instr.Enter (s.base.clocks + seat.clocks) (member_slot s.base seat 0), place) ∷ []) ≡ enter_code s place (slice_get s.seats.now instance) pc
  entered_standard of is = sym (ap (λ o. enter_code s place o pc) at ∙ ap enter_by is)

-- a CASE
pub case_done : (s : PlacedRoutine) (place : Place) (e : PlainExpr ℕ) (choices : Choices ℕ) (last : PlainBody ℕ) (pc first at end : ℕ) (old mid after : List Line) → mid ≡ old ++ expr_code s place e → first ≡ pc + expr_lines e
    → first + choices_long s choices (body_lines s.seats.now (lines_at s.table.now) last) ≡ end
    → ((l : ℕ → List Line) (n : ℕ) → first + choices_long s choices n ≡ end → after ++ l at ≡ mid ++ choices_code s place choices l n first)
    → after ++ body_code s last at ≡ old ++ (expr_code s place e ++ choices_code s place choices (body_code s last) (body_lines s.seats.now (lines_at s.table.now) last) (pc + expr_lines e))
case_done s place e choices last pc first at end old mid after mid_is first_is ends emitted =
    let n = body_lines s.seats.now (lines_at s.table.now) last in
    emitted (body_code s last) n ends ∙ one_after old mid (expr_code s place e) (choices_code s place choices (body_code s last) n first) mid_is
    ∙ ap (λ f. old ++ (expr_code s place e ++ choices_code s place choices (body_code s last) n f)) first_is

-- a FOR of some turns
loop_by : (place : Place) (slot : ℕ) (span : Span) (n turns first : ℕ) (left : ℤ) (body : ℕ → List Line) (pc : ℕ) (old begun inside : List Line) → turns ≡ n → (turns ≡ 0 → ⊥) → left ≡ pos (turns - 1) → first ≡ pc + 1
    → begun ≡ old ++ (instr.Begin slot span.from left, place) ∷ [] → inside ≡ begun ++ body first → inside ++ (instr.Turn slot span.step first, place) ∷ [] ≡ old ++ loop_code place slot span n body pc
loop_by place slot span zero turns first left body pc old begun inside counted some left_is first_is begun_is inside_is = absurd (some counted)
loop_by place slot span (suc n) turns first left body pc old begun inside counted some left_is first_is begun_is inside_is =
    let fewer : turns - 1 ≡ n = omega (arith, counted) in
    let left_at : left ≡ pos n = left_is ∙ ap pos fewer in
    let begin : Line = (instr.Begin slot span.from left, place) in
    let whole : inside ≡ old ++ (begin ∷ body first) = inside_is ∙ one_after old begun (begin ∷ []) (body first) begun_is in
    one_after old inside (begin ∷ body first) ((instr.Turn slot span.step first, place) ∷ []) whole
    ∙ (λ i. old ++ ((instr.Begin slot span.from (left_at i), place) ∷ (body (first_is i) ++ (instr.Turn slot span.step (first_is i), place) ∷ [])))

pub loop_done : (place : Place) (slot : ℕ) (span : Span) (turns first : ℕ) (left : ℤ) (body : ℕ → List Line) (pc : ℕ) (old begun inside : List Line) → turns ≡ length (control_values span) → (turns ≡ 0 → ⊥) → left ≡ pos (turns - 1)
    → first ≡ pc + 1 → begun ≡ old ++ (instr.Begin slot span.from left, place) ∷ [] → inside ≡ begun ++ body first → inside ++ (instr.Turn slot span.step first, place) ∷ [] ≡ old ++ for_code place slot (Some span) body pc
loop_done place slot span turns first left body pc old begun inside counted some left_is first_is begun_is inside_is =
    loop_by place slot span (length (control_values span)) turns first left body pc old begun inside counted some left_is first_is begun_is inside_is

pub view_assigned : (number : ℕ) (v : ℕ) (e : Expr ℕ) → view_stmt (Assign number v e) ≡ assign number v (view_expr e)
view_assigned number v e =
    ap view_stmt (sym (rolls-Assign number v e))
    ∙ fold-roll-Stmt ℕ (PlainStmt ℕ) (PlainExpr ℕ × PlainBody ℕ) (List Label × PlainBody ℕ) view_step view_branch_step view_choice_step (Stmt-F.Assign number v e)
