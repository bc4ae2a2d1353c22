-- Steps of the walk.
use Rattle.std.proofs.Common.{◌≡◌, ◌∙◌, ap, sym, subst, refl, ℕ, ℤ, ◌+◌, ◌<◌, List, [], ◌∷◌, length, get_or, Bool, true, false}
use Rattle.std.proofs.lemmas.Bool.{ltb-true}
use Rattle.std.proofs.lemmas.Option.{slice_get_read}
use Rattle.std.specs.Prelude.{slice_get, nat_lt, slice_index_or, if◌then◌else◌, Option, Some, Ok, Err, Result, IfErr}
use Rattle.plant_types.specs.Values.{is_true, Path}
use Rattle.plant_types.specs.declared.values.Trap.{Trap}
use Rattle.std_blocks.specs.Calls as calls
use Rattle.st_tree.specs.declared.tree.Stmt.{Stmt}
use Rattle.st_tree.specs.declared.controls.Span.{Span}
use Rattle.st_tree.specs.View.{view_body}
use Rattle.st_tree.specs.Controls.{control_values, span_of}
use Rattle.st_tree.specs.Plain.{PlainExpr, PlainArgument, input, output, PlainStmt, call, for_to, PlainBody}
use Rattle.st_tree.specs.Meaning.{Space, Ran, Done, Trapped, then_run, with_value, run, run_all, turns, take_inputs, give_outputs, outcome, step_of, statement_spot}
use Rattle.logic_cells.specs.declared.clock.Standard.{Standard}
use Rattle.logic_cells.specs.declared.stop.Stop.{Stop}
use Rattle.logic_cells.specs.Cells.{PlainCells, value_at, clocked}
use Rattle.logic_cells.specs.Runs.{ended}
use Rattle.logic_walk.specs.declared.frame.Base.{Base}
use Rattle.logic_walk.specs.declared.frame.Frame.{Frame}
use Rattle.logic_walk.specs.declared.frame.SeatOf.TheVariants as seat_of
use Rattle.logic_walk.specs.declared.frame.Seat.{Seat}
use Rattle.logic_walk.specs.Frames.{InTurn, frame_paths}
use Rattle.logic_walk.specs.Walks.{member_slot, base_of, pt_of, called_by, called, frame_space, under, placed, run_within, still, space_within, paths_within}
use Rattle.logic_walk.proofs.Firsts.{paths_is, within_is}
use Rattle.logic_walk.proofs.Numbers.{number_below}

-- the seat that a look-up by number gives
pub seat_at : (seats : List Seat) (instance : ℕ) (seat : Seat) → nat_lt instance (length seats) ≡ true → seat ≡ get_or seats instance seat → slice_get seats instance ≡ Some seat
seat_at seats instance seat within is = slice_get_read seats (length seats) instance seat refl (ltb-true instance (length seats) within) is

-- the path number 0 is that of the routine itself
own_path : (paths : List Path) (n : ℕ) → n ≡ 0 → slice_index_or ([] ∷ paths) n [] ≡ []
own_path paths n is = ap (λ i. slice_index_or ([] ∷ paths) i []) is

own_ended : (paths : List Path) (stop : Stop) (c : PlainCells) → stop.place.path ≡ 0 → ended ([] ∷ paths) (Err stop) c ≡ ended ([] ∷ []) (Err stop) c
own_ended paths stop c is = ap (λ path. Trapped c (record { path = path; statement = stop.place.statement }) stop.trap) (own_path paths stop.place.path is ∙ sym (own_path [] stop.place.path is))

module _ (t globals : ℕ) (inner : ℕ → Base → Path → PlainCells → Ran PlainCells) (seats : List Seat) (base : Base) where
  abbrev s : Space ℕ PlainCells
  s = frame_space t globals inner seats base []

  valued : (number : ℕ) (o : Result ℤ Trap) (c : PlainCells) (f g : ℤ → Ran PlainCells) → ((n : ℤ) → f n ≡ g n) → with_value c (record { path = []; statement = number }) o f ≡ with_value c (record { path = []; statement = number }) o g
  valued number (Ok n) c f g same = same n
  valued number (Err trap) c f g same = refl

  pub inputs_still : (number instance : ℕ) (arguments : List (PlainArgument ℕ)) (c : PlainCells) → take_inputs s number instance arguments c ≡ take_inputs (still globals seats base) number instance arguments c
  inputs_still number instance [] c = refl
  inputs_still number instance (input name e ∷ rest) c =
      valued number (outcome (still globals seats base) c e) c (λ n. take_inputs s number instance rest (s.put_input c instance name n)) (λ n. take_inputs (still globals seats base) number instance rest (s.put_input c instance name n))
      (λ n. inputs_still number instance rest (s.put_input c instance name n))
  inputs_still number instance (output name v ∷ rest) c = inputs_still number instance rest c

  pub outputs_still : (instance : ℕ) (arguments : List (PlainArgument ℕ)) (c : PlainCells) → give_outputs s instance arguments c ≡ give_outputs (still globals seats base) instance arguments c
  outputs_still instance [] c = refl
  outputs_still instance (input name e ∷ rest) c = outputs_still instance rest c
  outputs_still instance (output name v ∷ rest) c = outputs_still instance rest (s.put c v (s.get_output c instance name))

  abbrev after_inputs : ℕ → List (PlainArgument ℕ) → Ran PlainCells → Ran PlainCells
  after_inputs instance arguments r = then_run (then_run r (λ u. called t inner (slice_get seats instance) base [] u)) (λ u. Done (give_outputs s instance arguments u))

  -- a call whose inputs trap
  pub call_trapped : (paths : List Path) (number instance : ℕ) (arguments : List (PlainArgument ℕ)) (w c : PlainCells) (stop : Stop) → stop.place.path ≡ 0 → ended ([] ∷ []) (Err stop) c ≡ take_inputs (still globals seats base) number instance arguments w
      → ended ([] ∷ paths) (Err stop) c ≡ run s (call number instance arguments) w
  call_trapped paths number instance arguments w c stop own e = own_ended paths stop c own ∙ ap (after_inputs instance arguments) (e ∙ sym (inputs_still number instance arguments w))

  -- a call that traps inside
  pub call_stopped : (paths : List Path) (number instance : ℕ) (arguments : List (PlainArgument ℕ)) (w c d : PlainCells) (stop : Stop) → Done c ≡ take_inputs (still globals seats base) number instance arguments w
      → ended paths (Err stop) d ≡ called t inner (slice_get seats instance) base [] c → ended paths (Err stop) d ≡ run s (call number instance arguments) w
  call_stopped paths number instance arguments w c d stop e f =
      ap (λ r. then_run r (λ u. Done (give_outputs s instance arguments u))) f ∙ ap (after_inputs instance arguments) (e ∙ sym (inputs_still number instance arguments w))

  pub call_done : (number instance : ℕ) (arguments : List (PlainArgument ℕ)) (w c d z : PlainCells) → Done c ≡ take_inputs (still globals seats base) number instance arguments w → Done d ≡ called t inner (slice_get seats instance) base [] c
      → z ≡ give_outputs (still globals seats base) instance arguments d → Done z ≡ run s (call number instance arguments) w
  call_done number instance arguments w c d z e f g =
      ap Done (g ∙ sym (outputs_still instance arguments d)) ∙ ap (λ r. then_run r (λ u. Done (give_outputs s instance arguments u))) f ∙ ap (after_inputs instance arguments) (e ∙ sym (inputs_still number instance arguments w))

  -- a call of a standard block's instance
  pub standard_called : (instance : ℕ) (seat : Seat) (standard : Standard) (c z : PlainCells) → slice_get seats instance ≡ Some seat → seat.of ≡ seat_of.Standard standard
      → z ≡ clocked c (base.clocks + seat.clocks) (calls.call (is_true (value_at c (member_slot base seat 0))) (pt_of standard base seat c) t) → Done z ≡ called t inner (slice_get seats instance) base [] c
  standard_called instance seat standard c z at is e =
      ap Done e ∙ sym (ap (λ o. called t inner o base [] c) at ∙ ap (λ o. called_by t inner o base seat [] c) is)

  -- a call of an instance of a frame, by its mark
  marked_called : (instance : ℕ) (seat : Seat) (k : ℕ) (b : Bool) (c : PlainCells) → slice_get seats instance ≡ Some seat → seat.of ≡ seat_of.Frame k → seat.is_called ≡ b
      → called t inner (slice_get seats instance) base [] c ≡ (if b then inner k (base_of base seat) (seat.name ∷ []) c else Done c)
  marked_called instance seat k b c at is marked =
      ap (λ o. called t inner o base [] c) at ∙ ap (λ o. called_by t inner o base seat [] c) is ∙ ap (λ x. if x then inner k (base_of base seat) (seat.name ∷ []) c else Done c) marked

  pub frame_called : (instance : ℕ) (seat : Seat) (k : ℕ) (c : PlainCells) → slice_get seats instance ≡ Some seat → seat.of ≡ seat_of.Frame k → seat.is_called ≡ true
      → called t inner (slice_get seats instance) base [] c ≡ inner k (base_of base seat) (seat.name ∷ []) c
  frame_called instance seat k c at is marked = marked_called instance seat k true c at is marked

  pub frame_passed : (instance : ℕ) (seat : Seat) (k : ℕ) (c : PlainCells) → slice_get seats instance ≡ Some seat → seat.of ≡ seat_of.Frame k → seat.is_called ≡ false
      → Done c ≡ called t inner (slice_get seats instance) base [] c
  frame_passed instance seat k c at is marked = sym (marked_called instance seat k false c at is marked)

module _ (t globals limit : ℕ) (frames : List Frame) (seats : List Seat) (base : Base) where
  abbrev inner : ℕ → Base → Path → PlainCells → Ran PlainCells
  inner = placed (run_within t globals frames limit)

  pub inside_done : (instance : ℕ) (seat : Seat) (k : ℕ) (c z : PlainCells) → slice_get seats instance ≡ Some seat → seat.of ≡ seat_of.Frame k → seat.is_called ≡ true
      → Done z ≡ run_within t globals frames limit k (base_of base seat) c → Done z ≡ called t inner (slice_get seats instance) base [] c
  inside_done instance seat k c z at is marked e = ap (under (seat.name ∷ [])) e ∙ sym (frame_called t globals inner seats base instance seat k c at is marked)

  pub inside_trapped : (instance : ℕ) (seat : Seat) (k : ℕ) (c z : PlainCells) (stop : Stop) → slice_get seats instance ≡ Some seat → seat.of ≡ seat_of.Frame k → seat.is_called ≡ true → InTurn (frame_paths frames limit) seats → stop.place.path < length (frame_paths frames limit k)
      → ended (frame_paths frames limit k) (Err stop) z ≡ run_within t globals frames limit k (base_of base seat) c
      → ended (paths_within frames limit seats) (Err (record { place = record { path = seat.paths + stop.place.path; statement = stop.place.statement }; trap = stop.trap })) z ≡ called t inner (slice_get seats instance) base [] c
  inside_trapped instance seat k c z stop at is marked turn h e =
      let n = number_below (frame_paths frames limit) seats instance seat k stop.place.path turn at is marked h in
      ap (λ path. Trapped z (record { path = path; statement = stop.place.statement }) stop.trap) n.path_is
      ∙ ap (under (seat.name ∷ [])) e
      ∙ sym (frame_called t globals inner seats base instance seat k c at is marked)

-- what a FOR did whose bounds and step have values
module _ (s : Space ℕ PlainCells) where
  pub for_done : (stmt : PlainStmt ℕ) (number v : ℕ) (from to : PlainExpr ℕ) (by : Option (PlainExpr ℕ)) (body : PlainBody ℕ) (o : Result Span Trap) (span : Span) (q : Ran PlainCells) (c : PlainCells)
      → stmt ≡ for_to number v from to by body → o ≡ span_of (outcome s c from) (outcome s c to) (step_of s c by) → o ≡ Ok span → q ≡ turns (λ w n. s.put w v n) (run_all s body) (control_values span) c → q ≡ run s stmt c
  for_done stmt number v from to by body o span q c is bounds ok e =
      e ∙ sym (ap (λ z. with_value c (statement_spot s number) z (λ x. turns (λ w n. s.put w v n) (run_all s body) (control_values x) c)) (sym bounds ∙ ok)) ∙ ap (λ z. run s z c) (sym is)

-- what the frame of a number did, by what its body did
module _ (t globals limit k : ℕ) (frames : List Frame) (base : Base) (frame : Frame) (seats : List Seat) (body : List (Stmt ℕ)) where
  pub frame_paths_are : k < limit → slice_get frames k ≡ Some frame → seats ≡ frame.seats.items → paths_within frames k seats ≡ frame_paths frames limit k
  frame_paths_are h at same = ap (paths_within frames k) same ∙ sym (paths_is frames limit k frame h at)

  pub frame_ran : (r : Result (Unit {0}) Stop) (c z : PlainCells) → k < limit → slice_get frames k ≡ Some frame → seats ≡ frame.seats.items → body ≡ frame.body.items
      → ended (paths_within frames k seats) r z ≡ run_all (space_within t globals frames k seats base) (view_body body) c → ended (frame_paths frames limit k) r z ≡ run_within t globals frames limit k base c
  frame_ran r c z h at same also e =
      ap (λ paths. ended paths r z) (sym (frame_paths_are h at same))
      ∙ e
      ∙ (λ i. run_all (space_within t globals frames k (same i) base) (view_body (also i)) c)
      ∙ sym (within_is frames limit k t globals base c frame h at)

  pub frame_path : (r : Result (Unit {0}) Stop) → k < limit → slice_get frames k ≡ Some frame → seats ≡ frame.seats.items → IfErr r (λ stop. stop.place.path < length (paths_within frames k seats)) → IfErr r (λ stop. stop.place.path < length (frame_paths frames limit k))
  frame_path r h at same e = subst (λ (paths : List Path). IfErr r (λ stop. stop.place.path < length paths)) (frame_paths_are h at same) e
