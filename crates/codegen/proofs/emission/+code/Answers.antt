use Rattle.std.proofs.Common.{◌≡◌, ◌∙◌, ap, sym, refl, subst, arith, ℕ, ◌+◌, ◌<◌, ◌++◌, ◌∷◌, List, [], length, take, drop, Bool, true, rules, to_z, of_z, w64}
use Rattle.std.specs.Prelude.{slice_get, map, IfOk}
use Rattle.std.specs.List.{list_all}
use denote.Param.Weighed.{most, at_most}
use Rattle.st_tree.specs.declared.tree.Stmt.{size-Stmt}
use Rattle.st_tree.specs.declared.tree.Branch.{size-Branch, size_is-Branch}
use Rattle.st_tree.specs.declared.tree.Choice.{size-Choice, size_is-Choice}
use Rattle.st_tree.specs.declared.tree.Label.{Label}
use Rattle.st_tree.specs.Plain.{PlainExpr, PlainBody}
use Rattle.st_tree.specs.Mapping.{expr_known, argument_known, body_known, branches_known, choices_known}
use Rattle.st_tree.specs.Controls.{control_values}
use Rattle.st_tree.specs.View.{view_expr, view_argument, view_stmt, view_body, view_branch, view_branches, view_choice, view_choices}
use Rattle.st_tree.proofs.Depth.{size-If, size-Case, size-For}
use Rattle.st_tree.proofs.Views.{view_stmt-Store, view_stmt-Call, view_stmt-If, view_stmt-Case, view_stmt-For, view_branch_is, view_choice_is}
use Rattle.plant_types.specs.Values.{Path}
use Rattle.logic_walk.specs.declared.frame.Base.{Base}
use Rattle.logic_walk.specs.declared.frame.Frame.{Frame}
use Rattle.logic_walk.specs.Frames.{InTurn, frame_paths, routine_paths}
use Rattle.logic_walk.proofs.Firsts.{paths_is}
use Rattle.logic_walk.proofs.Ranks.{frame_at, frame_less}
use Rattle.logic_walk.specs.Walks.{slot_of}
use Rattle.acc_vm.specs.declared.instr.Instr.TheVariants as instr
use Rattle.vm_sizes.specs.Sizes.{expr_lines, for_lines, turns_of, body_lines}
use Rattle.vm_sizes.specs.Counts.{lines_at}
use Rattle.codegen.specs.Codes as codes
use Rattle.codegen.specs.Codes.{Line, place_of, IsSteady, SteadyBody, SteadyBranches, SteadyChoices}
use Rattle.codegen.specs.Emission as code
use Rattle.codegen.specs.Emission.{coders, named, call_long, stmt_long, body_long, branches_long, choices_long}
use Rattle.codegen.specs.Within.{there, frame_there, fits}
use Rattle.codegen.proofs.Within.{reached_is}
use Rattle.codegen.proofs.Emitting.{nothing, one_after, four_after, stmts_at, no_stmts, front_lines, seat_at, no_seat, laid_before, frame_coded, branches_at, choices_at, no_branches, no_choices, branch_on, choice_on, choice_passed, entered_none, entered_past, entered_frame, entered_standard, case_done, loop_done, view_assigned}
use Rattle.codegen.proofs.Numbered.{numbers_below}
use Rattle.vm_sizes.proofs.Few.{body_at, turning, behind_branches, behind_choices, long_call, long_if, long_case, long_for}
use Rattle.codegen.proofs.Long.{frame_long, entered_long, branch_fits, choice_fits}
use Rattle.codegen.proofs.Steady.{steady_at, steady_branch, steady_choice, steady_if, steady_case, steady_for, turns_few}
use Rattle.codegen.proofs.Naming.{known_at, known_branch, known_choice, known_assign, known_store, known_call, known_if, known_case, known_for, known_standard, known_frame}
use Rattle.codegen.proofs.emission.+code.Goals as goal
use Rattle.codegen.proofs.emission.+code.Goals.{emit_enter-then-not-seat-via-then-not-seat, emit_enter-then-not-seat-via-else-not-seat+then-k-scope, emit_choices-then-labels-gt0+in_ok-emit_choice, emit_choices-else-labels-gt0}

pub emit_branches-loop-branch-preserved : goal.emit_branches-loop-branch-preserved
emit_branches-loop-branch-preserved t c = λ last n ends.
    let s = c.args.scope.now in
    let b = c.branch-item.result in
    let at = c.loop-branch.at in
    let within : c.loop-branch.branch-index < length c.args.branches.now = omega arith in
    let is = branches_at c.args.branches.now c.loop-branch.branch-index b within c.branch-item.is in
    let kept = c.loop-branch.invariant last n ends in
    let tested : c.expr_lines.result ≡ expr_lines (view_branch b).0 = c.expr_lines.ensures ∙ ap (λ p. expr_lines p.0) (sym (view_branch_is b)) in
    let inside : c.body_lines.result ≡ body_lines s.seats.now (lines_at s.table.now) (view_branch b).1 =
    c.body_lines.ensures ∙ ap (λ x. body_lines s.seats.now (lines_at s.table.now) (view_body x)) c.deref.ensures.value ∙ ap (λ p. body_lines s.seats.now (lines_at s.table.now) p.1) (sym (view_branch_is b)) in
    branch_on s c.args.place last n at (at + c.expr_lines.result + 1) (at + c.expr_lines.result + 1 + c.body_lines.result + 1) c.args.end c.loop-branch.out.items c.emit_branch.new.out.items _
    (view_branch b).0 (view_branch b).1 (view_branches (drop (c.loop-branch.branch-index + 1) c.args.branches.now))
    (omega (arith, tested)) (omega (arith, inside))
    (sym (ap (λ z. at + branches_long s z n) is) ∙ kept.0) (sym (ap (λ z. c.loop-branch.out.items ++ code.branches_code s c.args.place z last n at) is) ∙ kept.1)
    c.in_ok-emit_branch.ensures

pub emit_branches-returns : goal.emit_branches-returns
emit_branches-returns t c = λ last n ends.
    let s = c.args.scope.now in
    let none = no_branches c.args.branches.now c.loop-branch.branch-index (omega arith) in
    let kept = c.loop-branch.invariant last n ends in
    (sym (ap (λ z. c.loop-branch.at + branches_long s z n) none) ∙ kept.0, sym (ap (λ z. c.loop-branch.out.items ++ code.branches_code s c.args.place z last n c.loop-branch.at) none) ∙ kept.1)

pub emit_choices-loop-choice-preserved : goal.emit_choices-loop-choice-preserved
emit_choices-loop-choice-preserved t c =
    λ last n ends.
    let s = c.args.scope.now in
    let x = c.choice-item.result in
    let within : c.loop-choice.choice-index < length c.args.choices.now = omega arith in
    let is = choices_at c.args.choices.now c.loop-choice.choice-index x within c.choice-item.is in
    let kept = c.loop-choice.invariant last n ends in
    let at = c.loop-choice.at in
    let rest = view_choices (drop (c.loop-choice.choice-index + 1) c.args.choices.now) in
    let far = sym (ap (λ z. c.loop-choice.at + choices_long s z n) is) ∙ kept.0 in
    let before = sym (ap (λ z. c.loop-choice.out.items ++ code.choices_code s c.args.place z last n c.loop-choice.at) is) ∙ kept.1 in
    let many : length (view_choice x).0 ≡ length x.labels.items = ap (λ p. length p.0) (view_choice_is x) in
    elim c.if-labels-gt0.branch [
      | emit_choices-then-labels-gt0+in_ok-emit_choice w ↦ (
          let inside : w.body_lines.result ≡ body_lines s.seats.now (lines_at s.table.now) (view_choice x).1 =
          w.body_lines.ensures ∙ ap (λ b. body_lines s.seats.now (lines_at s.table.now) (view_body b)) w.deref.ensures.value ∙ ap (λ p. body_lines s.seats.now (lines_at s.table.now) p.1) (sym (view_choice_is x)) in
          rw (w.at-is, w.out-is)
          (choice_on s c.args.place last n at (at + c.len-labels.result + 1) (at + c.len-labels.result + 1 + w.body_lines.result + 1) c.args.end c.loop-choice.out.items w.emit_choice.new.out.items _ (view_choice x).0 (view_choice x).1 rest
          (omega arith) (omega (arith, many, c.len-labels.ensures)) (omega (arith, inside)) far before w.in_ok-emit_choice.ensures))
      | emit_choices-else-labels-gt0 w ↦ (
          rw (w.at-is, w.out-is) (choice_passed s c.args.place last n c.loop-choice.at c.args.end c.loop-choice.out.items _ (view_choice x).0 (view_choice x).1 rest (omega arith) far before))
    ]

pub emit_choices-returns : goal.emit_choices-returns
emit_choices-returns t c = λ last n ends.
    let s = c.args.scope.now in
    let none = no_choices c.args.choices.now c.loop-choice.choice-index (omega arith) in
    let kept = c.loop-choice.invariant last n ends in
    (sym (ap (λ z. c.loop-choice.at + choices_long s z n) none) ∙ kept.0, sym (ap (λ z. c.loop-choice.out.items ++ code.choices_code s c.args.place z last n c.loop-choice.at) none) ∙ kept.1)

pub emit_enter-returns-then-not-seat : goal.emit_enter-returns-then-not-seat
emit_enter-returns-then-not-seat t c =
    let s = c.args.scope.now in
    let seat = c.in-Some.seat.now in
    let at = seat_at s.seats.now c.args.instance seat (sym c.in-Some.ensures.lookup.0) c.in-Some.ensures.lookup.1 in
    elim c.then-not-seat.branch [
      | emit_enter-then-not-seat-via-then-not-seat w ↦ nothing c.args.out.now.items _ (entered_none s c.args.place c.args.instance seat c.args.pc at c.in-Frame.k c.in-Frame.is w.if-not-seat.true)
      | emit_enter-then-not-seat-via-else-not-seat+then-k-scope w ↦ nothing c.args.out.now.items _ (entered_past s c.args.place c.args.instance seat c.args.pc at c.in-Frame.k c.in-Frame.is (omega (arith, w.if-k-scope.true)))
    ]

pub emit_enter-returns-in-Standard : goal.emit_enter-returns-in-Standard
emit_enter-returns-in-Standard t c =
    let at = seat_at c.args.scope.now.seats.now c.args.instance c.in-Some.seat.now (sym c.in-Some.ensures.lookup.0) c.in-Some.ensures.lookup.1 in
    subst (λ z. IfOk c.emit_standard.result (λ x. c.emit_standard.new.out.items ≡ c.args.out.now.items ++ z)) (entered_standard c.args.scope.now c.args.place c.args.instance c.in-Some.seat.now c.args.pc at c.in-Standard.of c.in-Standard.is) c.emit_standard.ensures

pub emit_enter-overflow_add-placed : goal.emit_enter-overflow_add-placed
emit_enter-overflow_add-placed t c =
    let s = c.args.scope.now in
    let seat = c.in-Some.seat.now in
    let at = seat_at s.seats.now c.args.instance seat (sym c.in-Some.ensures.lookup.0) c.in-Some.ensures.lookup.1 in
    let less : c.in-Frame.k < s.limit = omega (arith, c.if-k-scope.false) in
    let below = numbers_below s.frames.now s.limit c.in-Frame.k c.args.instance s.seats.now seat less c.requires.laid.lines.within c.requires.laid.own at c.in-Frame.is c.if-not-seat.false in
    omega (arith, below.0, below.1, c.requires.laid.paths)

pub emit_enter-emit_frame-requires : goal.emit_enter-emit_frame-requires
emit_enter-emit_frame-requires t c =
    let s = c.args.scope.now in
    let seat = c.in-Some.seat.now in
    let at = seat_at s.seats.now c.args.instance seat (sym c.in-Some.ensures.lookup.0) c.in-Some.ensures.lookup.1 in
    let less : c.in-Frame.k < s.limit = omega (arith, c.if-k-scope.false) in
    let below = numbers_below s.frames.now s.limit c.in-Frame.k c.args.instance s.seats.now seat less c.requires.laid.lines.within c.requires.laid.own at c.in-Frame.is c.if-not-seat.false in
    let entered = entered_long s c.args.instance seat at c.in-Frame.k c.in-Frame.is c.if-not-seat.false in
    let counted = c.requires.laid.lines.lines c.in-Frame.k in
    let names = known_frame s c.args.instance seat at c.requires.named c.in-Frame.k c.base_of.result c.in-Frame.is c.if-not-seat.false c.base_of.ensures.is in (
      omega arith,
      (
        record {
          there = less;
          lines = c.requires.laid.lines;
          bases = c.base_of.ensures.room s.limit c.requires.laid.bases;
          paths = omega (arith, below.1, c.requires.laid.paths);
          in_turn = c.requires.laid.in_turn;
          steady = c.requires.laid.steady;
          named = names;
        },
        omega (arith, entered, counted, c.requires.long),
      ),
    )

pub emit_enter-returns-else-k-scope : goal.emit_enter-returns-else-k-scope
emit_enter-returns-else-k-scope t c =
    let s = c.args.scope.now in
    let seat = c.in-Some.seat.now in
    let at = seat_at s.seats.now c.args.instance seat (sym c.in-Some.ensures.lookup.0) c.in-Some.ensures.lookup.1 in
    let is = entered_frame s c.args.place c.args.instance seat c.args.pc at c.in-Frame.k c.base_of.result (s.path + seat.paths) c.in-Frame.is c.if-not-seat.false c.base_of.ensures.is refl in
    subst (λ z. IfOk c.emit_frame.result (λ x. c.emit_frame.new.out.items ≡ c.args.out.now.items ++ z)) is c.emit_frame.ensures

pub emit_enter-returns-in-None : goal.emit_enter-returns-in-None
emit_enter-returns-in-None t c =
    let none = no_seat c.args.scope.now.seats.now c.args.instance (sym c.in-None.ensures.lookup.0) in
    nothing c.args.out.now.items _ (ap (λ o. code.enter_code c.args.scope.now c.args.place o c.args.pc) none)

pub emit_frame-emit_body-requires : goal.emit_frame-emit_body-requires
emit_frame-emit_body-requires t c =
    let p = c.args.placed.now in
    let frame = c.index-placed-placed.result in
    let is = c.index-placed-placed.is in
    let seats : c.deref.result.now ≡ frame.seats.items = c.deref.ensures.value ∙ ap (λ (f : Frame). f.seats.items) (sym is) in
    let body : c.deref-2.result.now ≡ frame.body.items = c.deref-2.ensures.value ∙ ap (λ (f : Frame). f.body.items) (sym is) in
    let frames = p.frames.now in
    let inside : p.number < length frames = let w = c.requires.placed.lines.within in let h = c.requires.placed.there in omega arith in
    let less = frame_less frames p.limit p.number frame c.deref-2.result.now c.requires.placed.there inside is body in
    let at = frame_at frames p.number frame inside is in
    let all = ap (λ (l : List Path). length l) (paths_is frames p.limit p.number frame c.requires.placed.there at) in
    let own = ap (λ s. length (routine_paths (frame_paths frames p.number) s)) seats in
    let front = take p.number p.table.now in
    let long =
    (λ i. body_lines (seats i) (lines_at front) (view_body (body i)))
    ∙ frame_long frames p.limit p.number frame c.requires.placed.there at front (front_lines frames p.limit p.number p.table.now c.requires.placed.there c.requires.placed.lines) in
    let inner = frame_there fits fits p.globals frames p.number in
    let names =
    (λ i. body_known (there fits fits p.globals inner (seats i) p.base) (view_body (body i)))
    ∙ ap (λ (f : Base → Bool). f p.base) (sym (reached_is fits fits p.globals frames p.limit p.number frame c.requires.placed.there at)) ∙ c.requires.placed.named in (
      omega (arith, less),
      (
        record {
          lines = laid_before frames p.limit p.number p.table.now c.requires.placed.there c.requires.placed.lines;
          bases = (omega (arith, c.requires.placed.there, c.requires.placed.bases.0), omega (arith, c.requires.placed.there, c.requires.placed.bases.1));
          paths = omega (arith, all, own, c.requires.placed.paths);
          own = subst (InTurn (frame_paths frames p.number)) (sym seats) (c.requires.placed.in_turn p.number frame at);
          in_turn = c.requires.placed.in_turn;
          steady = c.requires.placed.steady;
        },
        (subst (λ x. SteadyBody (view_body x)) (sym body) (c.requires.placed.steady p.number frame at), (names, omega (arith, long, c.requires.long))),
      ),
    )

pub emit_frame-returns : goal.emit_frame-returns
emit_frame-returns t c =
    let p = c.args.placed.now in
    let frame = c.index-placed-placed.result in
    let is = c.index-placed-placed.is in
    let seats : c.deref.result.now ≡ frame.seats.items = c.deref.ensures.value ∙ ap (λ (f : Frame). f.seats.items) (sym is) in
    let body : c.deref-2.result.now ≡ frame.body.items = c.deref-2.ensures.value ∙ ap (λ (f : Frame). f.body.items) (sym is) in
    let inside : p.number < length p.frames.now = let w = c.requires.placed.lines.within in let h = c.requires.placed.there in omega arith in
    let at = frame_at p.frames.now p.number frame inside is in
    let coded = frame_coded p.frames.now p.limit p.number p.table.now c.requires.placed.there c.requires.placed.lines p.globals frame p.base p.path c.args.pc at in
    let same =
    (λ i. codes.body_code p.globals (seats i) (lines_at (take p.number p.table.now)) (coders p.globals p.frames.now p.number) p.base p.path (view_body (body i)) c.args.pc) ∙ coded in
    subst (λ z. IfOk c.emit_body.result (λ x. c.emit_body.new.out.items ≡ c.args.out.now.items ++ z)) same c.emit_body.ensures

pub emit_stmt-emit_branches-requires : goal.emit_stmt-emit_branches-requires
emit_stmt-emit_branches-requires t c =
    let s = c.args.scope.now in
    let size = ap (size-Stmt ℕ) c.in-If.is ∙ size-If c.in-If.statement c.in-If.branches c.in-If.last in
    let same = ap (most (size-Branch ℕ)) c.deref-in-If-3.ensures.value in
    let steady = steady_if c.args.stmt.now c.in-If.statement c.in-If.branches c.in-If.last c.in-If.is c.requires.steady in
    let names = known_if (named s) c.args.stmt.now c.in-If.statement c.in-If.branches c.in-If.last c.in-If.is c.requires.named in
    let told = c.branches_lines.ensures ∙ ap (λ x. branches_long s (view_branches x) c.body_lines-otherwise.result) (c.deref-in-If-2.ensures.value ∙ sym c.deref-in-If-3.ensures.value) in (
      omega (arith, size, same),
      (
        c.requires.laid,
        (
          subst (λ x. SteadyBranches (view_branches x)) (sym c.deref-in-If-3.ensures.value) steady.0,
          (subst (λ x. branches_known (named s) (view_branches x) ≡ true) (sym c.deref-in-If-3.ensures.value) names.0, (c.body_lines-otherwise.result, ap (λ m. c.args.pc + m) (sym told))),
        ),
      ),
    )

pub emit_stmt-emit_body-requires : goal.emit_stmt-emit_body-requires
emit_stmt-emit_body-requires t c =
    let s = c.args.scope.now in
    let size = ap (size-Stmt ℕ) c.in-If.is ∙ size-If c.in-If.statement c.in-If.branches c.in-If.last in
    let same = ap (most (size-Stmt ℕ)) c.deref-in-If-4.ensures.value in
    let steady = steady_if c.args.stmt.now c.in-If.statement c.in-If.branches c.in-If.last c.in-If.is c.requires.steady in
    let names = known_if (named s) c.args.stmt.now c.in-If.statement c.in-If.branches c.in-If.last c.in-If.is c.requires.named in
    let told = c.branches_lines.ensures ∙ ap (λ x. branches_long s (view_branches x) c.body_lines-otherwise.result) (c.deref-in-If-2.ensures.value ∙ sym c.deref-in-If-3.ensures.value) in
    let ends = (c.in_ok-at-in-If.ensures (λ p. []) c.body_lines-otherwise.result (ap (λ m. c.args.pc + m) (sym told))).0 in
    let otherwise = c.body_lines-otherwise.ensures ∙ ap (λ x. body_long s (view_body x)) c.deref-in-If.ensures.value in
    let last = ap (λ x. body_long s (view_body x)) c.deref-in-If-4.ensures.value in
    let lines = c.branches_lines.ensures ∙ (λ i. branches_long s (view_branches (c.deref-in-If-2.ensures.value i)) (otherwise i)) in
    let whole = long_if s.seats.now (lines_at s.table.now) c.args.stmt.now c.in-If.statement c.in-If.branches c.in-If.last c.in-If.is in (
      omega (arith, size, same),
      (
        c.requires.laid,
        (
          subst (λ x. SteadyBody (view_body x)) (sym c.deref-in-If-4.ensures.value) steady.1,
          (subst (λ x. body_known (named s) (view_body x) ≡ true) (sym c.deref-in-If-4.ensures.value) names.1, omega (arith, ends, otherwise, last, lines, whole, c.requires.long)),
        ),
      ),
    )

pub emit_stmt-emit_choices-requires : goal.emit_stmt-emit_choices-requires
emit_stmt-emit_choices-requires t c =
    let s = c.args.scope.now in
    let size = ap (size-Stmt ℕ) c.in-Case.is ∙ size-Case c.in-Case.statement c.in-Case.selector c.in-Case.choices c.in-Case.last in
    let same = ap (most (size-Choice ℕ)) c.deref-in-Case-3.ensures.value in
    let steady = steady_case c.args.stmt.now c.in-Case.statement c.in-Case.selector c.in-Case.choices c.in-Case.last c.in-Case.is c.requires.steady in
    let names = known_case (named s) c.args.stmt.now c.in-Case.statement c.in-Case.selector c.in-Case.choices c.in-Case.last c.in-Case.is c.requires.named in
    let told = c.choices_lines.ensures ∙ ap (λ x. choices_long s (view_choices x) c.body_lines-otherwise-in-Case.result) (c.deref-in-Case-2.ensures.value ∙ sym c.deref-in-Case-3.ensures.value) in (
      omega (arith, size, same),
      (
        c.requires.laid,
        (
          subst (λ x. SteadyChoices (view_choices x)) (sym c.deref-in-Case-3.ensures.value) steady.0,
          (subst (λ x. choices_known (named s) (view_choices x) ≡ true) (sym c.deref-in-Case-3.ensures.value) names.1, (c.body_lines-otherwise-in-Case.result, ap (λ m. c.args.pc + c.expr_lines.result + m) (sym told))),
        ),
      ),
    )

pub emit_stmt-emit_body-requires-in-Case : goal.emit_stmt-emit_body-requires-in-Case
emit_stmt-emit_body-requires-in-Case t c =
    let s = c.args.scope.now in
    let size = ap (size-Stmt ℕ) c.in-Case.is ∙ size-Case c.in-Case.statement c.in-Case.selector c.in-Case.choices c.in-Case.last in
    let same = ap (most (size-Stmt ℕ)) c.deref-in-Case-4.ensures.value in
    let steady = steady_case c.args.stmt.now c.in-Case.statement c.in-Case.selector c.in-Case.choices c.in-Case.last c.in-Case.is c.requires.steady in
    let names = known_case (named s) c.args.stmt.now c.in-Case.statement c.in-Case.selector c.in-Case.choices c.in-Case.last c.in-Case.is c.requires.named in
    let told = c.choices_lines.ensures ∙ ap (λ x. choices_long s (view_choices x) c.body_lines-otherwise-in-Case.result) (c.deref-in-Case-2.ensures.value ∙ sym c.deref-in-Case-3.ensures.value) in
    let ends = (c.in_ok-at-in-Case.ensures (λ p. []) c.body_lines-otherwise-in-Case.result (ap (λ m. c.args.pc + c.expr_lines.result + m) (sym told))).0 in
    let otherwise = c.body_lines-otherwise-in-Case.ensures ∙ ap (λ x. body_long s (view_body x)) c.deref-in-Case.ensures.value in
    let last = ap (λ x. body_long s (view_body x)) c.deref-in-Case-4.ensures.value in
    let lines = c.choices_lines.ensures ∙ (λ i. choices_long s (view_choices (c.deref-in-Case-2.ensures.value i)) (otherwise i)) in
    let whole = long_case s.seats.now (lines_at s.table.now) c.args.stmt.now c.in-Case.statement c.in-Case.selector c.in-Case.choices c.in-Case.last c.in-Case.is in (
      omega (arith, size, same),
      (
        c.requires.laid,
        (
          subst (λ x. SteadyBody (view_body x)) (sym c.deref-in-Case-4.ensures.value) steady.1,
          (subst (λ x. body_known (named s) (view_body x) ≡ true) (sym c.deref-in-Case-4.ensures.value) names.2, omega (arith, ends, otherwise, last, lines, whole, c.expr_lines.ensures, c.requires.long)),
        ),
      ),
    )

pub emit_stmt-body_lines-otherwise-requires : goal.emit_stmt-body_lines-otherwise-requires
emit_stmt-body_lines-otherwise-requires t c =
    let s = c.args.scope.now in
    let last = ap (λ x. body_long s (view_body x)) c.deref-in-If.ensures.value in
    let few = behind_branches s.seats.now (lines_at s.table.now) (view_branches c.in-If.branches.items) (body_long s (view_body c.in-If.last.items)) in
    let whole = long_if s.seats.now (lines_at s.table.now) c.args.stmt.now c.in-If.statement c.in-If.branches c.in-If.last c.in-If.is in
    omega (arith, last, few, whole, c.requires.long)

pub emit_stmt-body_lines-otherwise-requires-in-Case : goal.emit_stmt-body_lines-otherwise-requires-in-Case
emit_stmt-body_lines-otherwise-requires-in-Case t c =
    let s = c.args.scope.now in
    let last = ap (λ x. body_long s (view_body x)) c.deref-in-Case.ensures.value in
    let few = behind_choices s.seats.now (lines_at s.table.now) (view_choices c.in-Case.choices.items) (body_long s (view_body c.in-Case.last.items)) in
    let whole = long_case s.seats.now (lines_at s.table.now) c.args.stmt.now c.in-Case.statement c.in-Case.selector c.in-Case.choices c.in-Case.last c.in-Case.is in
    omega (arith, last, few, whole, c.requires.long)

pub emit_stmt-emit_loop-requires : goal.emit_stmt-emit_loop-requires
emit_stmt-emit_loop-requires t c =
    let s = c.args.scope.now in
    let size = ap (size-Stmt ℕ) c.in-For.is ∙ size-For c.in-For.number c.in-For.variable c.in-For.from c.in-For.to c.in-For.by c.in-For.body in
    let same = ap (most (size-Stmt ℕ)) c.deref-in-Some.ensures.value in
    let steady = steady_for c.args.stmt.now c.in-For.number c.in-For.variable c.in-For.from c.in-For.to c.in-For.by c.in-For.body c.in-For.is c.requires.steady in
    let names = known_for (named s) c.args.stmt.now c.in-For.number c.in-For.variable c.in-For.from c.in-For.to c.in-For.by c.in-For.body c.in-For.is c.requires.named in
    let span = sym c.constant_span.ensures ∙ c.in-Some.is in
    let inside = sym c.deref-in-Some.ensures.value in
    let whole = long_for s.seats.now (lines_at s.table.now) c.args.stmt.now c.in-For.number c.in-For.variable c.in-For.from c.in-For.to c.in-For.by c.in-For.body c.in-For.is
    ∙ (λ i. for_lines (turns_of (span i)) (body_long s (view_body (inside i)))) in (
      omega (arith, size, same),
      (
        c.requires.laid,
        (
          subst IsSteady span steady.0,
          (subst (λ x. SteadyBody (view_body x)) inside steady.1, (subst (λ x. body_known (named s) (view_body x) ≡ true) inside names.1, omega (arith, whole, c.requires.long))),
        ),
      ),
    )

pub emit_body-emit_stmt-requires : goal.emit_body-emit_stmt-requires
emit_body-emit_stmt-requires t c =
    let deep = at_most (size-Stmt ℕ) c.args.body.now c.loop-stmt.stmt-index c.stmt-item.result c.loop-stmt-test.true in
    let same = ap (size-Stmt ℕ) c.stmt-item.is in
    let steady = steady_at c.args.body.now c.loop-stmt.stmt-index c.stmt-item.result c.loop-stmt-test.true c.stmt-item.is c.requires.steady in
    let names = known_at (named c.args.scope.now) c.args.body.now c.loop-stmt.stmt-index c.stmt-item.result c.loop-stmt-test.true c.stmt-item.is c.requires.named in
    let s = c.args.scope.now in
    let rest = body_at s.seats.now (lines_at s.table.now) c.args.body.now c.loop-stmt.stmt-index c.stmt-item.result c.loop-stmt-test.true c.stmt-item.is in
    let kept = c.loop-stmt.invariant.1 in
    (omega arith, (c.requires.laid, (steady, (names, omega (arith, rest, kept, c.requires.long)))))

pub emit_branches-emit_branch-requires : goal.emit_branches-emit_branch-requires
emit_branches-emit_branch-requires t c =
    let s = c.args.scope.now in
    let b = c.branch-item.result in
    let deep = at_most (size-Branch ℕ) c.args.branches.now c.loop-branch.branch-index b c.loop-branch-test.true in
    let same = ap (size-Branch ℕ) c.branch-item.is in
    let steady = steady_branch c.args.branches.now c.loop-branch.branch-index b c.loop-branch-test.true c.branch-item.is c.requires.steady in
    let names = known_branch (named s) c.args.branches.now c.loop-branch.branch-index b c.loop-branch-test.true c.branch-item.is c.requires.named in
    let kept = c.loop-branch.invariant (λ p. []) c.requires.long.0 c.requires.long.1 in
    let fits = branch_fits s c.args.branches.now c.loop-branch.branch-index c.loop-branch.at c.args.end c.requires.long.0 b c.loop-branch-test.true c.branch-item.is kept.0 c.ranges.end.fits in
    let inside = ap (λ p. body_long s p.1) (view_branch_is b) in
    (omega arith, (c.requires.laid, (steady, (names.0, (names.1, omega (arith, fits, inside, c.expr_lines.ensures))))))

pub emit_branches-expr_lines-requires : goal.emit_branches-expr_lines-requires
emit_branches-expr_lines-requires t c =
    let kept = c.loop-branch.invariant (λ p. []) c.requires.long.0 c.requires.long.1 in
    let fits = branch_fits c.args.scope.now c.args.branches.now c.loop-branch.branch-index c.loop-branch.at c.args.end c.requires.long.0 c.branch-item.result c.loop-branch-test.true c.branch-item.is kept.0 c.ranges.end.fits in
    omega (arith, fits)

pub emit_branches-overflow_add-body : goal.emit_branches-overflow_add-body
emit_branches-overflow_add-body t c =
    let kept = c.loop-branch.invariant (λ p. []) c.requires.long.0 c.requires.long.1 in
    let fits = branch_fits c.args.scope.now c.args.branches.now c.loop-branch.branch-index c.loop-branch.at c.args.end c.requires.long.0 c.branch-item.result c.loop-branch-test.true c.branch-item.is kept.0 c.ranges.end.fits in
    omega (arith, fits, c.expr_lines.ensures)

pub emit_branches-overflow_add-body-in-loop-branch : goal.emit_branches-overflow_add-body-in-loop-branch
emit_branches-overflow_add-body-in-loop-branch t c =
    let kept = c.loop-branch.invariant (λ p. []) c.requires.long.0 c.requires.long.1 in
    let fits = branch_fits c.args.scope.now c.args.branches.now c.loop-branch.branch-index c.loop-branch.at c.args.end c.requires.long.0 c.branch-item.result c.loop-branch-test.true c.branch-item.is kept.0 c.ranges.end.fits in
    omega (arith, fits, c.expr_lines.ensures)

pub emit_branches-body_lines-requires : goal.emit_branches-body_lines-requires
emit_branches-body_lines-requires t c =
    let kept = c.loop-branch.invariant (λ p. []) c.requires.long.0 c.requires.long.1 in
    let fits = branch_fits c.args.scope.now c.args.branches.now c.loop-branch.branch-index c.loop-branch.at c.args.end c.requires.long.0 c.branch-item.result c.loop-branch-test.true c.branch-item.is kept.0 c.ranges.end.fits in
    let same = ap (λ x. body_long c.args.scope.now (view_body x)) c.deref.ensures.value in
    omega (arith, fits, same)

pub emit_branches-overflow_add-next : goal.emit_branches-overflow_add-next
emit_branches-overflow_add-next t c =
    let kept = c.loop-branch.invariant (λ p. []) c.requires.long.0 c.requires.long.1 in
    let fits = branch_fits c.args.scope.now c.args.branches.now c.loop-branch.branch-index c.loop-branch.at c.args.end c.requires.long.0 c.branch-item.result c.loop-branch-test.true c.branch-item.is kept.0 c.ranges.end.fits in
    let same = ap (λ x. body_long c.args.scope.now (view_body x)) c.deref.ensures.value in
    omega (arith, fits, same, c.expr_lines.ensures, c.body_lines.ensures)

pub emit_branches-overflow_add-next-in-loop-branch : goal.emit_branches-overflow_add-next-in-loop-branch
emit_branches-overflow_add-next-in-loop-branch t c =
    let kept = c.loop-branch.invariant (λ p. []) c.requires.long.0 c.requires.long.1 in
    let fits = branch_fits c.args.scope.now c.args.branches.now c.loop-branch.branch-index c.loop-branch.at c.args.end c.requires.long.0 c.branch-item.result c.loop-branch-test.true c.branch-item.is kept.0 c.ranges.end.fits in
    let same = ap (λ x. body_long c.args.scope.now (view_body x)) c.deref.ensures.value in
    omega (arith, fits, same, c.expr_lines.ensures, c.body_lines.ensures)

pub emit_branch-emit_body-requires : goal.emit_branch-emit_body-requires
emit_branch-emit_body-requires t c =
    let whole = size_is-Branch ℕ c.args.branch.now in
    let part = ap (most (size-Stmt ℕ)) c.deref.ensures.value in
    let steady = subst (λ (p : PlainExpr ℕ × PlainBody ℕ). SteadyBody p.1) (view_branch_is c.args.branch.now) c.requires.steady in
    let known = named c.args.scope.now in
    let names = subst (λ (p : PlainExpr ℕ × PlainBody ℕ). body_known known p.1 ≡ true) (view_branch_is c.args.branch.now) c.requires.named in
    let own = ap (λ p. body_long c.args.scope.now p.1) (view_branch_is c.args.branch.now) in
    let same = ap (λ x. body_long c.args.scope.now (view_body x)) c.deref.ensures.value in
    (omega arith, (c.requires.laid, (subst (λ x. SteadyBody (view_body x)) (sym c.deref.ensures.value) steady, (subst (λ x. body_known known (view_body x) ≡ true) (sym c.deref.ensures.value) names, omega (arith, own, same, c.requires.long)))))

pub emit_choices-emit_choice-requires : goal.emit_choices-emit_choice-requires
emit_choices-emit_choice-requires t c =
    let s = c.args.scope.now in
    let deep = at_most (size-Choice ℕ) c.args.choices.now c.loop-choice.choice-index c.choice-item.result c.loop-choice-test.true in
    let size = ap (size-Choice ℕ) c.choice-item.is in
    let steady = steady_choice c.args.choices.now c.loop-choice.choice-index c.choice-item.result c.loop-choice-test.true c.choice-item.is c.requires.steady in
    let names = known_choice (named s) c.args.choices.now c.loop-choice.choice-index c.choice-item.result c.loop-choice-test.true c.choice-item.is c.requires.named in
    let kept = c.loop-choice.invariant (λ p. []) c.requires.long.0 c.requires.long.1 in
    let some : 0 < length c.choice-item.result.labels.items = omega (arith, c.len-labels.ensures, c.if-labels-gt0.true) in
    let fits = choice_fits c.args.scope.now c.args.choices.now c.loop-choice.choice-index c.loop-choice.at c.args.end c.requires.long.0 c.choice-item.result c.loop-choice-test.true c.choice-item.is some kept.0 c.ranges.end.fits in
    let inside = ap (λ p. body_long s p.1) (view_choice_is c.choice-item.result) in
    (omega arith, (c.requires.laid, (steady, (names, omega (arith, fits, inside, c.len-labels.ensures)))))

pub emit_choices-overflow_cast-body : goal.emit_choices-overflow_cast-body
emit_choices-overflow_cast-body t c =
    let kept = c.loop-choice.invariant (λ p. []) c.requires.long.0 c.requires.long.1 in
    let some : 0 < length c.choice-item.result.labels.items = omega (arith, c.len-labels.ensures, c.if-labels-gt0.true) in
    let fits = choice_fits c.args.scope.now c.args.choices.now c.loop-choice.choice-index c.loop-choice.at c.args.end c.requires.long.0 c.choice-item.result c.loop-choice-test.true c.choice-item.is some kept.0 c.ranges.end.fits in
    omega (arith, fits, c.len-labels.ensures)

pub emit_choices-overflow_add-body : goal.emit_choices-overflow_add-body
emit_choices-overflow_add-body t c =
    let kept = c.loop-choice.invariant (λ p. []) c.requires.long.0 c.requires.long.1 in
    let some : 0 < length c.choice-item.result.labels.items = omega (arith, c.len-labels.ensures, c.if-labels-gt0.true) in
    let fits = choice_fits c.args.scope.now c.args.choices.now c.loop-choice.choice-index c.loop-choice.at c.args.end c.requires.long.0 c.choice-item.result c.loop-choice-test.true c.choice-item.is some kept.0 c.ranges.end.fits in
    omega (arith, fits, c.len-labels.ensures)

pub emit_choices-overflow_add-body-then-labels-gt0 : goal.emit_choices-overflow_add-body-then-labels-gt0
emit_choices-overflow_add-body-then-labels-gt0 t c =
    let kept = c.loop-choice.invariant (λ p. []) c.requires.long.0 c.requires.long.1 in
    let some : 0 < length c.choice-item.result.labels.items = omega (arith, c.len-labels.ensures, c.if-labels-gt0.true) in
    let fits = choice_fits c.args.scope.now c.args.choices.now c.loop-choice.choice-index c.loop-choice.at c.args.end c.requires.long.0 c.choice-item.result c.loop-choice-test.true c.choice-item.is some kept.0 c.ranges.end.fits in
    omega (arith, fits, c.len-labels.ensures)

pub emit_choices-body_lines-requires : goal.emit_choices-body_lines-requires
emit_choices-body_lines-requires t c =
    let kept = c.loop-choice.invariant (λ p. []) c.requires.long.0 c.requires.long.1 in
    let some : 0 < length c.choice-item.result.labels.items = omega (arith, c.len-labels.ensures, c.if-labels-gt0.true) in
    let fits = choice_fits c.args.scope.now c.args.choices.now c.loop-choice.choice-index c.loop-choice.at c.args.end c.requires.long.0 c.choice-item.result c.loop-choice-test.true c.choice-item.is some kept.0 c.ranges.end.fits in
    let same = ap (λ x. body_long c.args.scope.now (view_body x)) c.deref.ensures.value in
    omega (arith, fits, same)

pub emit_choices-overflow_add-next : goal.emit_choices-overflow_add-next
emit_choices-overflow_add-next t c =
    let kept = c.loop-choice.invariant (λ p. []) c.requires.long.0 c.requires.long.1 in
    let some : 0 < length c.choice-item.result.labels.items = omega (arith, c.len-labels.ensures, c.if-labels-gt0.true) in
    let fits = choice_fits c.args.scope.now c.args.choices.now c.loop-choice.choice-index c.loop-choice.at c.args.end c.requires.long.0 c.choice-item.result c.loop-choice-test.true c.choice-item.is some kept.0 c.ranges.end.fits in
    let same = ap (λ x. body_long c.args.scope.now (view_body x)) c.deref.ensures.value in
    omega (arith, fits, same, c.len-labels.ensures, c.body_lines.ensures)

pub emit_choices-overflow_add-next-then-labels-gt0 : goal.emit_choices-overflow_add-next-then-labels-gt0
emit_choices-overflow_add-next-then-labels-gt0 t c =
    let kept = c.loop-choice.invariant (λ p. []) c.requires.long.0 c.requires.long.1 in
    let some : 0 < length c.choice-item.result.labels.items = omega (arith, c.len-labels.ensures, c.if-labels-gt0.true) in
    let fits = choice_fits c.args.scope.now c.args.choices.now c.loop-choice.choice-index c.loop-choice.at c.args.end c.requires.long.0 c.choice-item.result c.loop-choice-test.true c.choice-item.is some kept.0 c.ranges.end.fits in
    let same = ap (λ x. body_long c.args.scope.now (view_body x)) c.deref.ensures.value in
    omega (arith, fits, same, c.len-labels.ensures, c.body_lines.ensures)

pub emit_choice-emit_body-requires : goal.emit_choice-emit_body-requires
emit_choice-emit_body-requires t c =
    let whole = size_is-Choice ℕ c.args.choice.now in
    let part = ap (most (size-Stmt ℕ)) c.deref-2.ensures.value in
    let steady = subst (λ (p : List Label × PlainBody ℕ). SteadyBody p.1) (view_choice_is c.args.choice.now) c.requires.steady in
    let known = named c.args.scope.now in
    let names = subst (λ (p : List Label × PlainBody ℕ). body_known known p.1 ≡ true) (view_choice_is c.args.choice.now) c.requires.named in
    let own = ap (λ p. body_long c.args.scope.now p.1) (view_choice_is c.args.choice.now) in
    let same = ap (λ x. body_long c.args.scope.now (view_body x)) c.deref-2.ensures.value in
    (omega arith, (c.requires.laid, (subst (λ x. SteadyBody (view_body x)) (sym c.deref-2.ensures.value) steady, (subst (λ x. body_known known (view_body x) ≡ true) (sym c.deref-2.ensures.value) names, omega (arith, own, same, c.requires.long)))))

pub emit_loop-left_of-left-requires : goal.emit_loop-left_of-left-requires
emit_loop-left_of-left-requires t c = let few = turns_few c.args.span c.requires.dints in omega (arith, few, c.count_turns-turns.ensures)

pub emit_loop-returns : goal.emit_loop-returns
emit_loop-returns t c =
    let inside = code.body_code c.args.scope.now (view_body c.args.body.now) in
    let from : to_z w64 (of_z w64 c.args.span.from) ≡ c.args.span.from = search rules in
    let left : to_z w64 (of_z w64 c.left_of-left.result) ≡ c.left_of-left.result = search rules in
    let step : to_z w64 (of_z w64 c.args.span.step) ≡ c.args.span.step = search rules in
    let begun = c.in_ok-emit.ensures ∙ (λ i. c.args.out.now.items ++ (instr.Begin c.args.slot (from i) (left i), c.args.place) ∷ []) in
    let is =
    loop_done c.args.place c.args.slot c.args.span c.count_turns-turns.result (c.args.pc + 1) c.left_of-left.result inside c.args.pc c.args.out.now.items c.emit.new.out.items c.emit_body.new.out.items
    c.count_turns-turns.ensures c.if-turns-eq0.false c.left_of-left.ensures refl begun c.in_ok-emit_body.ensures in
    subst (λ z. IfOk c.emit-2.result (λ x. c.emit-2.new.out.items ≡ z)) (ap (λ n. c.emit_body.new.out.items ++ (instr.Turn c.args.slot n (c.args.pc + 1), c.args.place) ∷ []) step ∙ is) c.emit-2.ensures

pub emit_stmt-returns-in_ok-emit_expr-in-Assign : goal.emit_stmt-returns-in_ok-emit_expr-in-Assign
emit_stmt-returns-in_ok-emit_expr-in-Assign t c =
    let s = c.args.scope.now in
    let place = place_of s.path c.in-Assign.statement in
    let viewed = ap view_stmt c.in-Assign.is ∙ view_assigned c.in-Assign.statement c.in-Assign.variable c.in-Assign.expr in
    let line : c.slot_of-slot.result ≡ slot_of s.globals s.base c.in-Assign.variable = c.slot_of-slot.ensures in
    let is = one_after c.args.out.now.items c.emit_expr.new.out.items (code.expr_code s place (view_expr c.in-Assign.expr)) ((instr.Store c.slot_of-slot.result, place) ∷ []) c.in_ok-emit_expr-in-Assign.ensures
    ∙ ap (λ n. c.args.out.now.items ++ (code.expr_code s place (view_expr c.in-Assign.expr) ++ (instr.Store n, place) ∷ [])) line ∙ ap (λ p. c.args.out.now.items ++ code.stmt_code s p c.args.pc) (sym viewed) in
    subst (λ z. IfOk c.emit.result (λ x. c.emit.new.out.items ≡ z)) is c.emit.ensures

pub emit_stmt-returns-in_ok-at-in-Case : goal.emit_stmt-returns-in_ok-at-in-Case
emit_stmt-returns-in_ok-at-in-Case t c =
    let s = c.args.scope.now in
    let place = place_of s.path c.in-Case.statement in
    let viewed = ap view_stmt c.in-Case.is ∙ view_stmt-Case c.in-Case.statement c.in-Case.selector c.in-Case.choices c.in-Case.last in
    let e = view_expr c.in-Case.selector in
    let choices = view_choices c.in-Case.choices.items in
    let last = view_body c.in-Case.last.items in
    let from = c.args.pc + c.expr_lines.result in
    let end = from + c.choices_lines.result in
    let first : from ≡ c.args.pc + expr_lines e = ap (λ m. c.args.pc + m) c.expr_lines.ensures in
    let otherwise = c.body_lines-otherwise-in-Case.ensures ∙ ap (λ b. body_lines s.seats.now (lines_at s.table.now) (view_body b)) c.deref-in-Case.ensures.value in
    let lines = c.choices_lines.ensures ∙ (λ i. choices_long s (view_choices (c.deref-in-Case-2.ensures.value i)) (otherwise i)) in
    let emitted = subst (λ xs. (l : ℕ → List Line) (n : ℕ) → from + choices_long s (view_choices xs) n ≡ end
    → c.emit_choices.new.out.items ++ l c.in_ok-at-in-Case.at ≡ c.emit_expr-in-Case.new.out.items ++ code.choices_code s place (view_choices xs) l n from) c.deref-in-Case-3.ensures.value (λ l n h. (c.in_ok-at-in-Case.ensures l n h).1) in
    let is =
    ap (λ b. c.emit_choices.new.out.items ++ code.body_code s (view_body b) c.in_ok-at-in-Case.at) c.deref-in-Case-4.ensures.value
    ∙ case_done s place e choices last c.args.pc from c.in_ok-at-in-Case.at end c.args.out.now.items c.emit_expr-in-Case.new.out.items c.emit_choices.new.out.items
    c.in_ok-emit_expr-in-Case.ensures first (ap (λ m. from + m) (sym lines)) emitted
    ∙ ap (λ p. c.args.out.now.items ++ code.stmt_code s p c.args.pc) (sym viewed) in
    subst (λ z. IfOk c.emit_body-in-Case.result (λ x. c.emit_body-in-Case.new.out.items ≡ z)) is c.emit_body-in-Case.ensures

pub emit_stmt-slot_of-slot-requires : goal.emit_stmt-slot_of-slot-requires
emit_stmt-slot_of-slot-requires t c = (known_assign (named c.args.scope.now) c.args.stmt.now c.in-Assign.statement c.in-Assign.variable c.in-Assign.expr c.in-Assign.is c.requires.named).0

pub emit_stmt-emit_expr-requires : goal.emit_stmt-emit_expr-requires
emit_stmt-emit_expr-requires t c = (known_assign (named c.args.scope.now) c.args.stmt.now c.in-Assign.statement c.in-Assign.variable c.in-Assign.expr c.in-Assign.is c.requires.named).1

pub emit_stmt-emit_store-requires-clause-row : goal.emit_stmt-emit_store-requires-clause-row
emit_stmt-emit_store-requires-clause-row t c =
    (known_store (named c.args.scope.now) c.args.stmt.now c.in-Store.number c.in-Store.array c.in-Store.bounds c.in-Store.index c.in-Store.value c.in-Store.is c.requires.named).0

pub emit_stmt-emit_store-requires-clause-index : goal.emit_stmt-emit_store-requires-clause-index
emit_stmt-emit_store-requires-clause-index t c =
    (known_store (named c.args.scope.now) c.args.stmt.now c.in-Store.number c.in-Store.array c.in-Store.bounds c.in-Store.index c.in-Store.value c.in-Store.is c.requires.named).1

pub emit_stmt-emit_store-requires-clause-value : goal.emit_stmt-emit_store-requires-clause-value
emit_stmt-emit_store-requires-clause-value t c =
    (known_store (named c.args.scope.now) c.args.stmt.now c.in-Store.number c.in-Store.array c.in-Store.bounds c.in-Store.index c.in-Store.value c.in-Store.is c.requires.named).2

pub emit_stmt-returns-in-Store : goal.emit_stmt-returns-in-Store
emit_stmt-returns-in-Store t c =
    let viewed = ap view_stmt c.in-Store.is ∙ view_stmt-Store c.in-Store.number c.in-Store.array c.in-Store.bounds c.in-Store.index c.in-Store.value in
    subst (λ z. IfOk c.emit_store.result (λ x. c.emit_store.new.out.items ≡ c.args.out.now.items ++ z)) (ap (λ p. code.stmt_code c.args.scope.now p c.args.pc) (sym viewed)) c.emit_store.ensures

pub emit_stmt-emit_call-requires : goal.emit_stmt-emit_call-requires
emit_stmt-emit_call-requires t c =
    let s = c.args.scope.now in
    let seat = slice_get s.seats.now c.in-Call.instance in
    let names = known_call (named s) c.args.stmt.now c.in-Call.statement c.in-Call.instance c.in-Call.arguments c.in-Call.is c.requires.named in
    let same = ap (λ x. call_long s seat (map view_argument x)) c.deref.ensures.value in
    let whole = long_call s.seats.now (lines_at s.table.now) c.args.stmt.now c.in-Call.statement c.in-Call.instance c.in-Call.arguments c.in-Call.is in (
      omega arith,
      (
        c.requires.laid,
        (names.0, (subst (λ x. list_all (argument_known (named s) c.in-Call.instance) (map view_argument x) ≡ true) (sym c.deref.ensures.value) names.1, omega (arith, same, whole, c.requires.long))),
      ),
    )

pub emit_stmt-returns-in-Call : goal.emit_stmt-returns-in-Call
emit_stmt-returns-in-Call t c =
    let s = c.args.scope.now in
    let place = place_of s.path c.in-Call.statement in
    let seat = slice_get s.seats.now c.in-Call.instance in
    let viewed = ap view_stmt c.in-Call.is ∙ view_stmt-Call c.in-Call.statement c.in-Call.instance c.in-Call.arguments in
    let is = ap (λ x. code.call_code s place seat (map view_argument x) c.args.pc) c.deref.ensures.value ∙ ap (λ p. code.stmt_code s p c.args.pc) (sym viewed) in
    subst (λ z. IfOk c.emit_call.result (λ x. c.emit_call.new.out.items ≡ c.args.out.now.items ++ z)) is c.emit_call.ensures

pub emit_stmt-branches_lines-requires : goal.emit_stmt-branches_lines-requires
emit_stmt-branches_lines-requires t c =
    let s = c.args.scope.now in
    let otherwise = c.body_lines-otherwise.ensures ∙ ap (λ x. body_long s (view_body x)) c.deref-in-If.ensures.value in
    let same : branches_long s (view_branches c.deref-in-If-2.result.now) c.body_lines-otherwise.result ≡ branches_long s (view_branches c.in-If.branches.items) (body_long s (view_body c.in-If.last.items)) =
    λ i. branches_long s (view_branches (c.deref-in-If-2.ensures.value i)) (otherwise i) in
    let whole = long_if s.seats.now (lines_at s.table.now) c.args.stmt.now c.in-If.statement c.in-If.branches c.in-If.last c.in-If.is in
    omega (arith, same, whole, c.requires.long)

pub emit_stmt-overflow_add-end : goal.emit_stmt-overflow_add-end
emit_stmt-overflow_add-end t c =
    let s = c.args.scope.now in
    let otherwise = c.body_lines-otherwise.ensures ∙ ap (λ x. body_long s (view_body x)) c.deref-in-If.ensures.value in
    let lines = c.branches_lines.ensures ∙ (λ i. branches_long s (view_branches (c.deref-in-If-2.ensures.value i)) (otherwise i)) in
    let whole = long_if s.seats.now (lines_at s.table.now) c.args.stmt.now c.in-If.statement c.in-If.branches c.in-If.last c.in-If.is in
    omega (arith, lines, whole, c.requires.long)

pub emit_stmt-returns-in_ok-at-in-If : goal.emit_stmt-returns-in_ok-at-in-If
emit_stmt-returns-in_ok-at-in-If t c =
    let s = c.args.scope.now in
    let place = place_of s.path c.in-If.statement in
    let viewed = ap view_stmt c.in-If.is ∙ view_stmt-If c.in-If.statement c.in-If.branches c.in-If.last in
    let last = view_body c.in-If.last.items in
    let n = body_long s last in
    let otherwise = c.body_lines-otherwise.ensures ∙ ap (λ x. body_long s (view_body x)) c.deref-in-If.ensures.value in
    let lines = c.branches_lines.ensures ∙ (λ i. branches_long s (view_branches (c.deref-in-If-2.ensures.value i)) (otherwise i)) in
    let ends = ap (λ m. c.args.pc + m) (ap (λ x. branches_long s (view_branches x) n) c.deref-in-If-3.ensures.value ∙ sym lines) in
    let is =
    ap (λ b. c.emit_branches.new.out.items ++ code.body_code s (view_body b) c.in_ok-at-in-If.at) c.deref-in-If-4.ensures.value
    ∙ (c.in_ok-at-in-If.ensures (code.body_code s last) n ends).1
    ∙ ap (λ x. c.args.out.now.items ++ code.branches_code s place (view_branches x) (code.body_code s last) n c.args.pc) c.deref-in-If-3.ensures.value
    ∙ ap (λ p. c.args.out.now.items ++ code.stmt_code s p c.args.pc) (sym viewed) in
    subst (λ z. IfOk c.emit_body.result (λ x. c.emit_body.new.out.items ≡ z)) is c.emit_body.ensures

pub emit_stmt-emit_expr-requires-in-Case : goal.emit_stmt-emit_expr-requires-in-Case
emit_stmt-emit_expr-requires-in-Case t c = (known_case (named c.args.scope.now) c.args.stmt.now c.in-Case.statement c.in-Case.selector c.in-Case.choices c.in-Case.last c.in-Case.is c.requires.named).0

pub emit_stmt-expr_lines-requires : goal.emit_stmt-expr_lines-requires
emit_stmt-expr_lines-requires t c =
    let whole = long_case c.args.scope.now.seats.now (lines_at c.args.scope.now.table.now) c.args.stmt.now c.in-Case.statement c.in-Case.selector c.in-Case.choices c.in-Case.last c.in-Case.is in
    omega (arith, whole, c.requires.long)

pub emit_stmt-overflow_add-first : goal.emit_stmt-overflow_add-first
emit_stmt-overflow_add-first t c =
    let whole = long_case c.args.scope.now.seats.now (lines_at c.args.scope.now.table.now) c.args.stmt.now c.in-Case.statement c.in-Case.selector c.in-Case.choices c.in-Case.last c.in-Case.is in
    omega (arith, whole, c.expr_lines.ensures, c.requires.long)

pub emit_stmt-choices_lines-requires : goal.emit_stmt-choices_lines-requires
emit_stmt-choices_lines-requires t c =
    let s = c.args.scope.now in
    let otherwise = c.body_lines-otherwise-in-Case.ensures ∙ ap (λ x. body_long s (view_body x)) c.deref-in-Case.ensures.value in
    let same : choices_long s (view_choices c.deref-in-Case-2.result.now) c.body_lines-otherwise-in-Case.result ≡ choices_long s (view_choices c.in-Case.choices.items) (body_long s (view_body c.in-Case.last.items)) =
    λ i. choices_long s (view_choices (c.deref-in-Case-2.ensures.value i)) (otherwise i) in
    let whole = long_case s.seats.now (lines_at s.table.now) c.args.stmt.now c.in-Case.statement c.in-Case.selector c.in-Case.choices c.in-Case.last c.in-Case.is in
    omega (arith, same, whole, c.requires.long)

pub emit_stmt-overflow_add-end-in-Case : goal.emit_stmt-overflow_add-end-in-Case
emit_stmt-overflow_add-end-in-Case t c =
    let s = c.args.scope.now in
    let otherwise = c.body_lines-otherwise-in-Case.ensures ∙ ap (λ x. body_long s (view_body x)) c.deref-in-Case.ensures.value in
    let lines = c.choices_lines.ensures ∙ (λ i. choices_long s (view_choices (c.deref-in-Case-2.ensures.value i)) (otherwise i)) in
    let whole = long_case s.seats.now (lines_at s.table.now) c.args.stmt.now c.in-Case.statement c.in-Case.selector c.in-Case.choices c.in-Case.last c.in-Case.is in
    omega (arith, lines, whole, c.expr_lines.ensures, c.requires.long)

pub emit_stmt-slot_of-slot-requires-in-For : goal.emit_stmt-slot_of-slot-requires-in-For
emit_stmt-slot_of-slot-requires-in-For t c =
    (known_for (named c.args.scope.now) c.args.stmt.now c.in-For.number c.in-For.variable c.in-For.from c.in-For.to c.in-For.by c.in-For.body c.in-For.is c.requires.named).0

pub emit_stmt-returns-in-Some : goal.emit_stmt-returns-in-Some
emit_stmt-returns-in-Some t c =
    let s = c.args.scope.now in
    let place = place_of s.path c.in-For.number in
    let viewed = ap view_stmt c.in-For.is ∙ view_stmt-For c.in-For.number c.in-For.variable c.in-For.from c.in-For.to c.in-For.by c.in-For.body in
    let slot : c.slot_of-slot-in-For.result ≡ slot_of s.globals s.base c.in-For.variable = c.slot_of-slot-in-For.ensures in
    let span = sym c.in-Some.is ∙ c.constant_span.ensures in
    let is = (λ i. codes.for_code place (slot i) (span i) (code.body_code s (view_body (c.deref-in-Some.ensures.value i))) c.args.pc) ∙ ap (λ p. code.stmt_code s p c.args.pc) (sym viewed) in
    subst (λ z. IfOk c.emit_loop.result (λ x. c.emit_loop.new.out.items ≡ c.args.out.now.items ++ z)) is c.emit_loop.ensures

pub emit_body-stmt_lines-at-requires : goal.emit_body-stmt_lines-at-requires
emit_body-stmt_lines-at-requires t c =
    let s = c.args.scope.now in
    let rest = body_at s.seats.now (lines_at s.table.now) c.args.body.now c.loop-stmt.stmt-index c.stmt-item.result c.loop-stmt-test.true c.stmt-item.is in
    omega (arith, rest, c.loop-stmt.invariant.1, c.requires.long)

pub emit_body-overflow_add-at : goal.emit_body-overflow_add-at
emit_body-overflow_add-at t c =
    let s = c.args.scope.now in
    let rest = body_at s.seats.now (lines_at s.table.now) c.args.body.now c.loop-stmt.stmt-index c.stmt-item.result c.loop-stmt-test.true c.stmt-item.is in
    omega (arith, rest, c.loop-stmt.invariant.1, c.stmt_lines-at.ensures, c.requires.long)

pub emit_body-loop-stmt-preserved : goal.emit_body-loop-stmt-preserved
emit_body-loop-stmt-preserved t c =
    let s = c.args.scope.now in
    let x = view_stmt c.stmt-item.result in
    let left = view_body (drop (c.loop-stmt.stmt-index + 1) c.args.body.now) in
    let at = c.loop-stmt.at in
    let is = stmts_at c.args.body.now c.loop-stmt.stmt-index c.stmt-item.result c.loop-stmt-test.true c.stmt-item.is in
    let rest = body_at s.seats.now (lines_at s.table.now) c.args.body.now c.loop-stmt.stmt-index c.stmt-item.result c.loop-stmt-test.true c.stmt-item.is in
    let kept = c.loop-stmt.invariant in (
      ap (λ n. c.emit_stmt.new.out.items ++ code.body_code s left (at + n)) c.stmt_lines-at.ensures
          ∙ one_after c.loop-stmt.out.items c.emit_stmt.new.out.items (code.stmt_code s x at) (code.body_code s left (at + stmt_long s x)) c.in_ok-emit_stmt.ensures
          ∙ ap (λ z. c.loop-stmt.out.items ++ code.body_code s z at) (sym is)
          ∙ kept.0,
      omega (arith, rest, kept.1, c.stmt_lines-at.ensures),
    )

pub emit_body-returns : goal.emit_body-returns
emit_body-returns t c =
    let s = c.args.scope.now in
    let none = no_stmts c.args.body.now c.loop-stmt.stmt-index (omega arith) in
    nothing c.loop-stmt.out.items (code.body_code s (view_body (drop c.loop-stmt.stmt-index c.args.body.now)) c.loop-stmt.at) (ap (λ z. code.body_code s z c.loop-stmt.at) none) ∙ c.loop-stmt.invariant.0

pub emit_branch-emit_expr-requires : goal.emit_branch-emit_expr-requires
emit_branch-emit_expr-requires t c = subst (λ (p : PlainExpr ℕ × PlainBody ℕ). expr_known (named c.args.scope.now) p.0 ≡ true) (view_branch_is c.args.branch.now) c.requires.test

pub emit_branch-returns : goal.emit_branch-returns
emit_branch-returns t c =
    let s = c.args.scope.now in
    let old = c.args.out.now.items in
    let test = code.expr_code s c.args.place (view_expr c.args.branch.now.test) in
    let j : Line = (instr.JumpUnless c.args.next, c.args.place) in
    let k : Line = (instr.Jump c.args.end, c.args.place) in
    let is =
    four_after old c.emit_expr.new.out.items c.emit.new.out.items c.emit_body.new.out.items test (code.body_code s (view_body c.deref.result.now) c.args.body) j k c.in_ok-emit_expr.ensures c.in_ok-emit.ensures c.in_ok-emit_body.ensures
    ∙ ap (λ x. old ++ (test ++ (j ∷ (code.body_code s (view_body x) c.args.body ++ k ∷ [])))) c.deref.ensures.value
    ∙ ap (λ (p : PlainExpr ℕ × PlainBody ℕ). old ++ (code.expr_code s c.args.place p.0 ++ (j ∷ (code.body_code s p.1 c.args.body ++ k ∷ [])))) (sym (view_branch_is c.args.branch.now)) in
    subst (λ z. IfOk c.emit-2.result (λ x. c.emit-2.new.out.items ≡ z)) is c.emit-2.ensures

pub emit_choice-returns : goal.emit_choice-returns
emit_choice-returns t c =
    let s = c.args.scope.now in
    let old = c.args.out.now.items in
    let j : Line = (instr.Jump c.args.next, c.args.place) in
    let k : Line = (instr.Jump c.args.end, c.args.place) in
    let is =
    four_after old c.emit_labels.new.out.items c.emit.new.out.items c.emit_body.new.out.items (codes.labels_code c.args.place c.deref.result.now c.args.body) (code.body_code s (view_body c.deref-2.result.now) c.args.body) j k c.in_ok-emit_labels.ensures c.in_ok-emit.ensures c.in_ok-emit_body.ensures
    ∙ (λ i. old ++ (codes.labels_code c.args.place (c.deref.ensures.value i) c.args.body ++ (j ∷ (code.body_code s (view_body (c.deref-2.ensures.value i)) c.args.body ++ k ∷ []))))
    ∙ ap (λ (p : List Label × PlainBody ℕ). old ++ (codes.labels_code c.args.place p.0 c.args.body ++ (j ∷ (code.body_code s p.1 c.args.body ++ k ∷ [])))) (sym (view_choice_is c.args.choice.now)) in
    subst (λ z. IfOk c.emit-2.result (λ x. c.emit-2.new.out.items ≡ z)) is c.emit-2.ensures

pub emit_call-returns : goal.emit_call-returns
emit_call-returns t c =
    let s = c.args.scope.now in
    let old = c.args.out.now.items in
    let seat = slice_get s.seats.now c.args.instance in
    let arguments = map view_argument c.args.arguments.now in
    let inputs = code.inputs_code s c.args.place seat arguments in
    let outputs = code.outputs_code s c.args.place seat arguments in
    let entered = code.enter_code s c.args.place seat (c.args.pc + c.inputs_lines.result) in
    let is =
    one_after c.emit_inputs.new.out.items c.emit_enter.new.out.items entered outputs c.in_ok-emit_enter.ensures ∙ one_after old c.emit_inputs.new.out.items inputs (entered ++ outputs) c.in_ok-emit_inputs.ensures
    ∙ ap (λ n. old ++ (inputs ++ (code.enter_code s c.args.place seat (c.args.pc + n) ++ outputs))) c.inputs_lines.ensures in
    subst (λ z. IfOk c.emit_outputs.result (λ x. c.emit_outputs.new.out.items ≡ z)) is c.emit_outputs.ensures

pub emit_enter-emit_standard-requires-clause-pt : goal.emit_enter-emit_standard-requires-clause-pt
emit_enter-emit_standard-requires-clause-pt t c =
    let at = seat_at c.args.scope.now.seats.now c.args.instance c.in-Some.seat.now (sym c.in-Some.ensures.lookup.0) c.in-Some.ensures.lookup.1 in
    (known_standard c.args.scope.now c.args.instance c.in-Some.seat.now at c.requires.named c.in-Standard.of c.in-Standard.is).2

pub emit_enter-emit_standard-requires-clause-clock : goal.emit_enter-emit_standard-requires-clause-clock
emit_enter-emit_standard-requires-clause-clock t c =
    let at = seat_at c.args.scope.now.seats.now c.args.instance c.in-Some.seat.now (sym c.in-Some.ensures.lookup.0) c.in-Some.ensures.lookup.1 in
    (known_standard c.args.scope.now c.args.instance c.in-Some.seat.now at c.requires.named c.in-Standard.of c.in-Standard.is).0

pub emit_enter-emit_standard-requires-clause-input : goal.emit_enter-emit_standard-requires-clause-input
emit_enter-emit_standard-requires-clause-input t c =
    let at = seat_at c.args.scope.now.seats.now c.args.instance c.in-Some.seat.now (sym c.in-Some.ensures.lookup.0) c.in-Some.ensures.lookup.1 in
    (known_standard c.args.scope.now c.args.instance c.in-Some.seat.now at c.requires.named c.in-Standard.of c.in-Standard.is).1

pub emit_loop-emit_body-requires : goal.emit_loop-emit_body-requires
emit_loop-emit_body-requires t c =
    let some : 0 < length (control_values c.args.span) = omega (arith, c.count_turns-turns.ensures, c.if-turns-eq0.false) in
    let whole = turning (length (control_values c.args.span)) (body_long c.args.scope.now (view_body c.args.body.now)) some in
    (omega arith, (c.requires.laid, (c.requires.steady, (c.requires.named, omega (arith, whole, c.requires.long)))))
