-- Frames that are seen as others, whose bodies do the same, run as these do, are numbered as they are, and have their codes.
use Rattle.std.proofs.Common.{◌≡◌, ◌∙◌, ap, sym, subst, Bool, true, ℕ, ◌+◌, ◌≤◌, max, ◌++◌, List, [], length, map, arith}
use Rattle.st_tree.specs.View.{view_body}
use Rattle.st_tree.specs.Costs.{body_cost, body_size}
use Rattle.st_tree.specs.Mapping.{Known, body_known}
use Rattle.st_tree.specs.Meaning.{Space, Done, run_all}
use Rattle.logic_cells.specs.Cells.{PlainCells}
use Rattle.plant_types.specs.Values.{Path}
use Rattle.logic_walk.specs.declared.frame.Base.{Base}
use Rattle.logic_walk.specs.declared.frame.Frame.{Frame}
use Rattle.logic_walk.specs.declared.frame.Seat.{Seat}
use Rattle.logic_walk.specs.Frames.{routine_paths, frame_paths, InTurn, AreInTurn}
use Rattle.logic_walk.specs.Plain.{PlainFrame, view_frame}
use Rattle.logic_walk.specs.Walks.{frame_space, run_frame}
use Rattle.codegen.specs.Sizes.{called_cost, frame_turns, routine_cost, frame_cost, routine_size, frame_size}
use Rattle.codegen.specs.Counts.{HasFewLines}
use Rattle.acc_vm.specs.Machine.{Over}
use Rattle.acc_vm.specs.Codes.{PlainCode, run_of}
use Rattle.codegen.specs.Codes.{SteadyBody, AreSteady, paths_at, RunsFrame}
use Rattle.codegen.specs.Within.{there, routine_there, frame_there, IsThere}
use Rattle.codegen.proofs.Sizes.{lines_few}
use Rattle.vm_programs.specs.Codes.{IsCodeOf, AreSmall}
use Rattle.vm_programs.proofs.Tables.{AreSeen, first_holds, first_alike, at_place, found, same_length}
use Rattle.vm_programs.proofs.Costs.{body_less, greater_rises, sum_rises, called_less}

-- what a view keeps of each frame: its instances, what its body does, that it is steady, that it costs no more and isn't larger, and its names
pub record IsKept (view : Frame → PlainFrame) : Type 0 where
  pub seats : (f : Frame) → (view f).seats ≡ f.seats.items
  pub runs : (space : Space ℕ PlainCells) (f : Frame) (w : PlainCells) → run_all space (view f).body w ≡ run_all space (view_body f.body.items) w
  pub steady : (f : Frame) → SteadyBody (view_body f.body.items) → SteadyBody (view f).body
  pub costs : (called : ℕ → ℕ) (f : Frame) → body_cost frame_turns called (view f).body ≤ body_cost frame_turns called (view_body f.body.items)
  pub sizes : (called : ℕ → ℕ) (f : Frame) → body_size called (view f).body ≤ body_size called (view_body f.body.items)
  pub names : (known : Known ℕ) (f : Frame) → body_known known (view f).body ≡ body_known known (view_body f.body.items)

module _ (view : Frame → PlainFrame) (kept : IsKept view) (fs gs : List Frame) (seen : AreSeen view fs gs) where
  same_seats : (f g : Frame) → view_frame g ≡ view f → g.seats.items ≡ f.seats.items
  same_seats f g e = ap (λ (p : PlainFrame). p.seats) e ∙ kept.seats f

  paths_same : (limit k : ℕ) → frame_paths gs limit k ≡ frame_paths fs limit k
  unfolding frame_paths
  paths_same = first_alike view [] (λ paths f. routine_paths paths f.seats.items) (λ inner f g e. ap (λ (s : List Seat). routine_paths inner s) (same_seats f g e)) fs gs (at_place view fs gs seen)

  all_paths : (first : ℕ) → frame_paths gs (length gs) first ≡ frame_paths fs (length fs) first
  all_paths first = ap (λ n. frame_paths gs n first) (same_length view fs gs seen) ∙ paths_same (length fs) first

  pub in_turn_kept : AreInTurn fs → AreInTurn gs
  in_turn_kept before k g at =
      let f = found view fs gs seen k g at in
      subst (λ (s : List Seat). InTurn (frame_paths gs k) s) (sym (same_seats f.0 g f.2)) (subst (λ p. InTurn p f.0.seats.items) (λ i m. sym (paths_same k m) i) (before k f.0 f.1))

  pub steady_kept : AreSteady fs → AreSteady gs
  steady_kept before k g at =
      let f = found view fs gs seen k g at in
      subst SteadyBody (sym (ap (λ (p : PlainFrame). p.body) f.2)) (kept.steady f.0 (before k f.0 f.1))

  module _ (t globals : ℕ) where
    runs_same : (limit k : ℕ) → run_frame t globals gs limit k ≡ run_frame t globals fs limit k
    unfolding run_frame
    runs_same =
        first_alike view (λ b p c. Done c) (λ inner f b p c. run_all (frame_space t globals inner f.seats.items b p) (view_body f.body.items) c)
        (λ inner f g e i b p c. ((λ j. run_all (frame_space t globals inner (same_seats f g e j) b p) (e j).body c) ∙ kept.runs (frame_space t globals inner f.seats.items b p) f c) i)
        fs gs (at_place view fs gs seen)

    all_runs : (first : ℕ) → run_frame t globals gs (length gs) first ≡ run_frame t globals fs (length fs) first
    all_runs first = ap (λ n. run_frame t globals gs n first) (same_length view fs gs seen) ∙ runs_same (length fs) first

  runs_kept : (globals first : ℕ) (base : Base) (code : PlainCode) → RunsFrame gs globals first base code → RunsFrame fs globals first base code
  runs_kept globals first base code runs t path cells =
      let run = runs t path cells in
      let names : paths_at fs first path ≡ paths_at gs first path = λ i. map (λ way. way ++ path) (sym (all_paths first) i) in
      (run.0, ap (λ (l : List Path). run_of t l code cells) names ∙ run.1 ∙ (λ i. Over (all_runs t globals first i base path cells) run.0))

  module _ (has_value has_clock : ℕ → Bool) (globals : ℕ) where
    there_same : (limit k : ℕ) → frame_there has_value has_clock globals gs limit k ≡ frame_there has_value has_clock globals fs limit k
    there_same =
        first_alike view (λ base. true) (routine_there has_value has_clock globals)
        (λ inner f g e i base. ((λ j. body_known (there has_value has_clock globals inner (same_seats f g e j) base) (e j).body) ∙ kept.names (there has_value has_clock globals inner f.seats.items base) f) i)
        fs gs (at_place view fs gs seen)

    pub there_kept : (first : ℕ) (base : Base) → IsThere has_value has_clock globals fs first base → IsThere has_value has_clock globals gs first base
    there_kept first base h = ap (λ n. frame_there has_value has_clock globals gs n first base) (same_length view fs gs seen) ∙ (λ i. there_same (length fs) first i base) ∙ h

  routine_less : (inner outer : ℕ → ℕ) → ((k : ℕ) → inner k ≤ outer k) → (f g : Frame) → view_frame g ≡ view f → routine_cost inner g ≤ routine_cost outer f
  routine_less inner outer before f g e =
      let is : routine_cost inner g ≡ body_cost frame_turns (called_cost inner f.seats.items) (view f).body = λ i. body_cost frame_turns (called_cost inner (same_seats f g e i)) (e i).body in
      let own = kept.costs (called_cost inner f.seats.items) f in
      let more : body_cost frame_turns (called_cost inner f.seats.items) (view_body f.body.items) ≤ body_cost frame_turns (called_cost outer f.seats.items) (view_body f.body.items) =
      body_less max greater_rises frame_turns (called_cost inner f.seats.items) (called_cost outer f.seats.items) (called_less inner outer before f.seats.items) (view_body f.body.items)
      in
      omega (arith, is, own, more)

  cost_less : (limit k : ℕ) → frame_cost gs limit k ≤ frame_cost fs limit k
  unfolding frame_cost
  cost_less = first_holds view (λ (m n : ℕ). m ≤ n) 0 0 routine_cost routine_cost (omega arith) routine_less fs gs (at_place view fs gs seen)

  pub all_costs : (first : ℕ) → frame_cost gs (length gs) first ≤ frame_cost fs (length fs) first
  all_costs first = subst (λ n. frame_cost gs n first ≤ frame_cost fs (length fs) first) (sym (same_length view fs gs seen)) (cost_less (length fs) first)

  routine_smaller : (inner outer : ℕ → ℕ) → ((k : ℕ) → inner k ≤ outer k) → (f g : Frame) → view_frame g ≡ view f → routine_size inner g ≤ routine_size outer f
  routine_smaller inner outer before f g e =
      let is : routine_size inner g ≡ body_size (called_cost inner f.seats.items) (view f).body = λ i. body_size (called_cost inner (same_seats f g e i)) (e i).body in
      let own = kept.sizes (called_cost inner f.seats.items) f in
      let more : body_size (called_cost inner f.seats.items) (view_body f.body.items) ≤ body_size (called_cost outer f.seats.items) (view_body f.body.items) =
      body_less (λ a b. a + b) sum_rises (λ from to by. 1) (called_cost inner f.seats.items) (called_cost outer f.seats.items) (called_less inner outer before f.seats.items) (view_body f.body.items)
      in
      omega (arith, is, own, more)

  size_less : (limit k : ℕ) → frame_size gs limit k ≤ frame_size fs limit k
  unfolding frame_size
  size_less = first_holds view (λ (m n : ℕ). m ≤ n) 0 0 routine_size routine_size (omega arith) routine_smaller fs gs (at_place view fs gs seen)

  -- of small frames each has few lines
  pub few_lines : AreSmall fs → HasFewLines gs
  few_lines small k =
      let long = lines_few gs (length gs) k in
      let size = subst (λ n. frame_size gs n k ≤ frame_size fs (length fs) k) (sym (same_length view fs gs seen)) (size_less (length fs) k) in
      let most = small k in
      omega (arith, long, size, most)

  -- the code of a frame that is seen as another is that of the other
  pub code_kept : (globals first : ℕ) (base : Base) (cost : ℕ) (code : PlainCode) → IsCodeOf gs globals first base cost code → IsCodeOf fs globals first base cost code
  code_kept globals first base cost code is = record {
    runs = runs_kept globals first base code is.runs;
    paths = is.paths ∙ ap (λ (l : List Path). length l) (all_paths first);
    within = λ has_value has_clock h. is.within has_value has_clock (there_kept has_value has_clock globals first base h);
    tells = is.tells;
  }
