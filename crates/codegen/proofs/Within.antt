-- Code names what its frame names.
use Rattle.std.proofs.Common.{◌≡◌, ◌∙◌, ℕ, zero, suc, ◌+◌, ◌<◌, ◌≤◌, Bool, true, false, List, [], ◌∷◌, ◌++◌, length, Option, Some, None, refl, sym, ap, subst, arith, inl, inr, if◌then◌else◌}
use Rattle.std.specs.Prelude.{slice_get, ◌&&◌}
use Rattle.std.specs.List.{AllByRecursion, list_all}
use Rattle.std.proofs.lemmas.Bool.{cases_lt, and_parts}
use Rattle.std.proofs.lemmas.List.Elements.{All-from_recursion, All-contains}
use Rattle.std.proofs.lemmas.Option.{none-some, same_Some}
use Rattle.plant_types.specs.declared.values.Bounds.{Bounds}
use Rattle.plant_types.specs.declared.values.Place.{Place}
use Rattle.st_tree.specs.declared.tree.Binary.{Binary}
use Rattle.st_tree.specs.declared.tree.Label.{Label}
use Rattle.st_tree.specs.declared.controls.Span.{Span}
use Rattle.st_tree.specs.Plain.{PlainExpr, literal, read, output_of, element, unary, binary, PlainArgument, input, output, PlainStmt, empty, assign, store, call, if_else, case_of, for_to, PlainBody, done, next, Branches, no_branch, branch, Choices, no_choice, choice}
use Rattle.st_tree.specs.Mapping.{Known, expr_known, option_known, argument_known, stmt_known, body_known, branches_known, choices_known}
use Rattle.st_tree.specs.View.{view_body}
use Rattle.st_tree.specs.Controls.{control_values}
use Rattle.logic_cells.specs.declared.clock.Standard.{Standard}
use Rattle.logic_cells.specs.declared.clock.Standard.TheVariants as standard
use Rattle.logic_walk.specs.declared.frame.SeatOf.{SeatOf}
use Rattle.logic_walk.specs.declared.frame.SeatOf.TheVariants as seat_of
use Rattle.logic_walk.specs.declared.frame.Seat.{Seat}
use Rattle.logic_walk.specs.declared.frame.Base.{Base}
use Rattle.logic_walk.specs.declared.frame.Frame.{Frame}
use Rattle.logic_walk.specs.Walks.{slot_of, member_slot, base_of}
use Rattle.logic_walk.proofs.Firsts.{first_is}
use Rattle.acc_vm.specs.declared.instr.Instr.{Instr}
use Rattle.acc_vm.specs.declared.instr.Instr.TheVariants as instr
use Rattle.acc_vm.specs.Operands.{row_slots}
use Rattle.acc_vm.specs.Codes.{values_past, clocks_past, values_named, clocks_named}
use Rattle.acc_vm.proofs.Table.{past_below, past_append}
use Rattle.vm_slices.specs.Slots.{slots_read, slots_written, clocks_of, SomeHas, Names, NamesClock}
use Rattle.vm_sizes.specs.Sizes.{constant_span, expr_lines, inputs_lines, stmt_lines, body_lines, branches_lines, choices_lines}
use Rattle.codegen.specs.Pairs.{both as both_in_one, paired, is_same_place, joined, joined_of}
use Rattle.std.specs.Option.{option_or, unwrap_or}
use Rattle.codegen.specs.Codes.{Line, Coder, Part, place_of, output_by, output_instr, binary_code, put_code, pt_instr, branch_code, labels_code, choice_code, loop_code, for_code, expr_code, inputs_code, outputs_code, enter_by, enter_code, stmt_code, body_code, branches_code, choices_code, frame_part, program_lines, code_of}
use Rattle.codegen.specs.Within.{has_row, has_input, has_shown, has_output, has_pt, has_called, has_instance, there, routine_there, frame_there, IsThere, NamesAsFrame}
use Rattle.codegen.proofs.Parts.{none, part_is, part_past}
use Rattle.codegen.proofs.Frames.{part_none}

module _ (has_value has_clock : ℕ → Bool) where
  -- what an instruction names is there
  abbrev IsIn : Instr → Type 0
  IsIn i = AllByRecursion (λ s. has_value s ≡ true) (slots_read i ++ slots_written i) × AllByRecursion (λ k. has_clock k ≡ true) (clocks_of i)

  -- what each line names is
  abbrev pub Within : List Line → Type 0
  Within ls = AllByRecursion (λ (l : Line). IsIn l.0) ls

  both : (c d : List Line) → Within c → Within d → Within (c ++ d)
  both [] d h g = g
  both (l ∷ c) d h g = (h.0, both c d h.1 g)

  nothing : Unit {0} × Unit {0}
  nothing = (tt, tt)

  slot : (n : ℕ) → has_value n ≡ true → ((has_value n ≡ true) × Unit {0}) × Unit {0}
  slot n h = ((h, tt), tt)

  row_all : (xs : List ℕ) → list_all has_value xs ≡ true → AllByRecursion (λ s. has_value s ≡ true) xs
  row_all [] h = tt
  row_all (x ∷ xs) h = let p = and_parts (has_value x) (list_all has_value xs) h in (p.0, row_all xs p.1)

  row_front : (xs : List ℕ) → list_all has_value xs ≡ true → AllByRecursion (λ s. has_value s ≡ true) (xs ++ [])
  row_front [] h = tt
  row_front (x ∷ xs) h = let p = and_parts (has_value x) (list_all has_value xs) h in (p.0, row_front xs p.1)

  -- an instruction that reads an element, and one that assigns it
  read_row : (first : ℕ) (bounds : Bounds) → has_row has_value first bounds ≡ true → IsIn (instr.LoadAt first bounds)
  read_row first bounds h = (row_front (row_slots bounds (first ∷ [])) h, tt)

  written_row : (first : ℕ) (bounds : Bounds) → has_row has_value first bounds ≡ true → IsIn (instr.StoreAt first bounds)
  written_row first bounds h = (row_all (row_slots bounds (first ∷ [])) h, tt)

  clock : (n : ℕ) → has_clock n ≡ true → Unit {0} × ((has_clock n ≡ true) × Unit {0})
  clock n h = (tt, (h, tt))

  clock_and_slot : (n m : ℕ) → has_clock n ≡ true → has_value m ≡ true → ((has_value m ≡ true) × Unit {0}) × ((has_clock n ≡ true) × Unit {0})
  clock_and_slot n m h g = ((g, tt), (h, tt))

  pt_in : (of : Standard) (base : Base) (seat : Seat) → has_pt has_value has_clock of base seat ≡ true → IsIn (pt_instr of base seat)
  pt_in standard.Ton base seat h = slot _ h
  pt_in standard.Tof base seat h = slot _ h
  pt_in standard.RTrig base seat h = nothing

  shown_in : (of : SeatOf) (base : Base) (seat : Seat) (name : ℕ) → has_shown has_value has_clock of base seat name ≡ true → IsIn (output_by of base seat name)
  shown_in (seat_of.Standard of) base seat zero h = clock _ h
  shown_in (seat_of.Standard of) base seat (suc n) h = clock _ h
  shown_in (seat_of.Frame k) base seat name h = slot _ h

  output_in : (seat : Option Seat) (base : Base) (name : ℕ) → has_output has_value has_clock seat base name ≡ true → IsIn (output_instr seat base name)
  output_in None base name h = nothing
  output_in (Some seat) base name h = shown_in seat.of base seat name h

  module _ (place : Place) where
    labels_in : (labels : List Label) (to : ℕ) → Within (labels_code place labels to)
    labels_in [] to = tt
    labels_in (label ∷ labels) to = (nothing, labels_in labels to)

    put_in : (seat : Option Seat) (base : Base) (name : ℕ) → has_input has_value has_clock seat base name ≡ true → Within (put_code seat base place name)
    put_in None base name h = tt
    put_in (Some seat) base name h = (slot _ h, tt)

    branch_in : (test : List Line) (t : ℕ) (body : ℕ → List Line) (b : ℕ) (rest : ℕ → List Line) (r pc : ℕ) → Within test → ((p : ℕ) → Within (body p)) → ((p : ℕ) → Within (rest p)) → Within (branch_code place test t body b rest r pc)
    branch_in test t body b rest r pc x y z = both test _ x (nothing, both (body (pc + t + 1)) _ (y (pc + t + 1)) (nothing, z (pc + t + 1 + b + 1)))

    choice_in : (labels : List Label) (body : ℕ → List Line) (b : ℕ) (rest : ℕ → List Line) (r pc : ℕ) → ((p : ℕ) → Within (body p)) → ((p : ℕ) → Within (rest p)) → Within (choice_code place labels body b rest r pc)
    choice_in [] body b rest r pc y z = z pc
    choice_in (label ∷ labels) body b rest r pc y z =
        let p = pc + length (label ∷ labels) + 1 in
        both (labels_code place (label ∷ labels) p) _ (labels_in (label ∷ labels) p) (nothing, both (body p) _ (y p) (nothing, z (p + b + 1)))

    loop_in : (n : ℕ) (span : Span) (turns : ℕ) (body : ℕ → List Line) (pc : ℕ) → has_value n ≡ true → ((p : ℕ) → Within (body p)) → Within (loop_code place n span turns body pc)
    loop_in n span zero body pc h y = tt
    loop_in n span (suc m) body pc h y = (slot n h, both (body (pc + 1)) _ (y (pc + 1)) (slot n h, tt))

    for_in : (n : ℕ) (span : Option Span) (body : ℕ → List Line) (pc : ℕ) → has_value n ≡ true → ((p : ℕ) → Within (body p)) → Within (for_code place n span body pc)
    for_in n None body pc h y = tt
    for_in n (Some span) body pc h y = loop_in n span (length (control_values span)) body pc h y

  -- in a routine, where what the frames before it name is there
  module _ (globals : ℕ) (seats : List Seat) (lines : ℕ → ℕ) (inner : ℕ → Coder) (base : Base) (path : ℕ) (reach : ℕ → Base → Bool) (under : (k : ℕ) (at : Base) (way pc : ℕ) → reach k at ≡ true → Within (inner k at way pc)) where
    abbrev known : Known ℕ
    known = there has_value has_clock globals reach seats base

    binary_in : (place : Place) (op : Binary) (b : PlainExpr ℕ) (c d : List Line) → expr_known known b ≡ true → Within c → Within d → Within (binary_code globals base place op b c d)
    binary_in place op (literal n) c d h x y = both c _ x (nothing, tt)
    binary_in place op (read v) c d h x y = both c _ x (slot _ h, tt)
    binary_in place op (output_of instance name) c d h x y = both c _ x (nothing, both d _ y (nothing, tt))
    binary_in place op (element v bounds index) c d h x y = both c _ x (nothing, both d _ y (nothing, tt))
    binary_in place op (unary other a) c d h x y = both c _ x (nothing, both d _ y (nothing, tt))
    binary_in place op (binary other a b) c d h x y = both c _ x (nothing, both d _ y (nothing, tt))

    expr_in : (place : Place) (e : PlainExpr ℕ) → expr_known known e ≡ true → Within (expr_code globals seats lines inner base path place e)
    expr_in place (literal n) h = (nothing, tt)
    expr_in place (read v) h = (slot _ h, tt)
    expr_in place (output_of instance name) h = (output_in (slice_get seats instance) base name h, tt)
    expr_in place (element v bounds index) h =
        let p = and_parts (known.has_array v bounds) (expr_known known index) h in
        both (expr_code globals seats lines inner base path place index) _ (expr_in place index p.1) (read_row (slot_of globals base v) bounds p.0, tt)
    expr_in place (unary op a) h = both (expr_code globals seats lines inner base path place a) _ (expr_in place a h) (nothing, tt)
    expr_in place (binary op a b) h =
        let p = and_parts (expr_known known a) (expr_known known b) h in
        binary_in place op b _ _ p.1 (expr_in place a p.0) (expr_in place b p.1)

    inputs_in : (place : Place) (instance : ℕ) (arguments : List (PlainArgument ℕ)) → list_all (argument_known known instance) arguments ≡ true → Within (inputs_code globals seats lines inner base path place (slice_get seats instance) arguments)
    inputs_in place instance [] h = tt
    inputs_in place instance (input name e ∷ rest) h =
        let seat = slice_get seats instance in
        let p = and_parts (known.has_input instance name && expr_known known e) (list_all (argument_known known instance) rest) h in
        let q = and_parts (known.has_input instance name) (expr_known known e) p.0 in
        both (expr_code globals seats lines inner base path place e) _ (expr_in place e q.1) (both (put_code seat base place name) _ (put_in place seat base name q.0) (inputs_in place instance rest p.1))
    inputs_in place instance (output name v ∷ rest) h =
        inputs_in place instance rest (and_parts (known.has_output instance name && known.has_variable v) (list_all (argument_known known instance) rest) h).1

    outputs_in : (place : Place) (instance : ℕ) (arguments : List (PlainArgument ℕ)) → list_all (argument_known known instance) arguments ≡ true → Within (outputs_code globals seats lines inner base path place (slice_get seats instance) arguments)
    outputs_in place instance [] h = tt
    outputs_in place instance (input name e ∷ rest) h =
        outputs_in place instance rest (and_parts (known.has_input instance name && expr_known known e) (list_all (argument_known known instance) rest) h).1
    outputs_in place instance (output name v ∷ rest) h =
        let p = and_parts (known.has_output instance name && known.has_variable v) (list_all (argument_known known instance) rest) h in
        let q = and_parts (known.has_output instance name) (known.has_variable v) p.0 in
        (output_in (slice_get seats instance) base name q.0, (slot _ q.1, outputs_in place instance rest p.1))

    called_in : (b : Bool) (reached : Bool) (c : List Line) → (if b then reached else true) ≡ true → (reached ≡ true → Within c) → Within (if b then c else [])
    called_in true reached c h g = g h
    called_in false reached c h g = tt

    entered_in : (place : Place) (of : SeatOf) (seat : Seat) (pc : ℕ) → has_called has_value has_clock reach of base seat ≡ true → Within (enter_by globals seats lines inner base path place of seat pc)
    entered_in place (seat_of.Standard of) seat pc h =
        let p = and_parts (has_clock (base.clocks + seat.clocks)) (has_value (member_slot base seat 0) && has_pt has_value has_clock of base seat) h in
        let q = and_parts (has_value (member_slot base seat 0)) (has_pt has_value has_clock of base seat) p.1 in
        (pt_in of base seat q.1, (clock_and_slot _ _ p.0 q.0, tt))
    entered_in place (seat_of.Frame k) seat pc h = called_in seat.is_called (reach k (base_of base seat)) _ h (under k (base_of base seat) (path + seat.paths) pc)

    enter_in : (place : Place) (seat : Option Seat) (pc : ℕ) → has_instance has_value has_clock reach seat base ≡ true → Within (enter_code globals seats lines inner base path place seat pc)
    enter_in place None pc h = tt
    enter_in place (Some seat) pc h = entered_in place seat.of seat pc h

    mutual
      stmt_in : (s : PlainStmt ℕ) (pc : ℕ) → stmt_known known s ≡ true → Within (stmt_code globals seats lines inner base path s pc)
      stmt_in (empty number) pc h = tt
      stmt_in (assign number v e) pc h =
          let p = and_parts (known.has_variable v) (expr_known known e) h in
          both (expr_code globals seats lines inner base path (place_of path number) e) _ (expr_in (place_of path number) e p.1) (slot _ p.0, tt)
      stmt_in (store number v bounds index value) pc h =
          let place = place_of path number in
          let p = and_parts (known.has_array v bounds) (expr_known known index && expr_known known value) h in
          let q = and_parts (expr_known known index) (expr_known known value) p.1 in
          both (expr_code globals seats lines inner base path place index) _ (expr_in place index q.0)
          (nothing, both (expr_code globals seats lines inner base path place value) _ (expr_in place value q.1) (written_row (slot_of globals base v) bounds p.0, tt))
      stmt_in (call number instance arguments) pc h =
          let p = and_parts (known.has_instance instance) (list_all (argument_known known instance) arguments) h in
          let place = place_of path number in
          let seat = slice_get seats instance in
          let q = pc + inputs_lines seat arguments in
          both (inputs_code globals seats lines inner base path place seat arguments) _ (inputs_in place instance arguments p.1)
          (both (enter_code globals seats lines inner base path place seat q) _ (enter_in place seat q p.0) (outputs_in place instance arguments p.1))
      stmt_in (if_else number branches last) pc h =
          let p = and_parts (branches_known known branches) (body_known known last) h in
          branches_in (place_of path number) branches (body_code globals seats lines inner base path last) (body_lines seats lines last) p.0 (λ q. body_in last q p.1) pc
      stmt_in (case_of number e choices last) pc h =
          let p = and_parts (expr_known known e) (choices_known known choices && body_known known last) h in
          let q = and_parts (choices_known known choices) (body_known known last) p.1 in
          both (expr_code globals seats lines inner base path (place_of path number) e) _ (expr_in (place_of path number) e p.0)
          (choices_in (place_of path number) choices (body_code globals seats lines inner base path last) (body_lines seats lines last) q.0 (λ n. body_in last n q.1) (pc + expr_lines e))
      stmt_in (for_to number v from to by body) pc h =
          let p = and_parts (known.has_variable v) (expr_known known from && (expr_known known to && (option_known known by && body_known known body))) h in
          let q = and_parts (expr_known known from) (expr_known known to && (option_known known by && body_known known body)) p.1 in
          let r = and_parts (expr_known known to) (option_known known by && body_known known body) q.1 in
          let s = and_parts (option_known known by) (body_known known body) r.1 in
          for_in (place_of path number) _ (constant_span from to by) (body_code globals seats lines inner base path body) pc p.0 (λ n. body_in body n s.1)

      body_in : (body : PlainBody ℕ) (pc : ℕ) → body_known known body ≡ true → Within (body_code globals seats lines inner base path body pc)
      body_in done pc h = tt
      body_in (next s rest) pc h =
          let p = and_parts (stmt_known known s) (body_known known rest) h in
          both (stmt_code globals seats lines inner base path s pc) _ (stmt_in s pc p.0) (body_in rest (pc + stmt_lines seats lines s) p.1)

      branches_in : (place : Place) (branches : Branches ℕ) (last : ℕ → List Line) (n : ℕ) → branches_known known branches ≡ true → ((p : ℕ) → Within (last p)) → (pc : ℕ) → Within (branches_code globals seats lines inner base path place branches last n pc)
      branches_in place no_branch last n h g pc = g pc
      branches_in place (branch test body rest) last n h g pc =
          let p = and_parts (expr_known known test) (body_known known body && branches_known known rest) h in
          let q = and_parts (body_known known body) (branches_known known rest) p.1 in
          branch_in place (expr_code globals seats lines inner base path place test) (expr_lines test) (body_code globals seats lines inner base path body) (body_lines seats lines body)
          (branches_code globals seats lines inner base path place rest last n) (branches_lines seats lines rest n) pc (expr_in place test p.0) (λ m. body_in body m q.0) (branches_in place rest last n q.1 g)

      choices_in : (place : Place) (choices : Choices ℕ) (last : ℕ → List Line) (n : ℕ) → choices_known known choices ≡ true → ((p : ℕ) → Within (last p)) → (pc : ℕ) → Within (choices_code globals seats lines inner base path place choices last n pc)
      choices_in place no_choice last n h g pc = g pc
      choices_in place (choice labels body rest) last n h g pc =
          let p = and_parts (body_known known body) (choices_known known rest) h in
          choice_in place labels (body_code globals seats lines inner base path body) (body_lines seats lines body) (choices_code globals seats lines inner base path place rest last n) (choices_lines seats lines rest n) pc
          (λ m. body_in body m p.0) (choices_in place rest last n p.1 g)

  module _ (globals : ℕ) (frames : List Frame) where
    abbrev reached : (limit k : ℕ) → Base → Bool
    reached limit k = frame_there has_value has_clock globals frames limit k

    abbrev FrameIn : (limit k : ℕ) → Type 0
    FrameIn limit k = (base : Base) (path pc : ℕ) → reached limit k base ≡ true → Within ((frame_part globals frames limit k).code base path pc)

    nothing_in : (limit k : ℕ) → frame_part globals frames limit k ≡ none → FrameIn limit k
    nothing_in limit k e base path pc h = subst (λ (p : Part). Within (p.code base path pc)) (sym e) tt

    pub reached_is : (limit k : ℕ) (frame : Frame) → k < limit → slice_get frames k ≡ Some frame → reached limit k ≡ routine_there has_value has_clock globals (reached k) frame
    reached_is limit k frame less at = first_is (λ base. true) (routine_there has_value has_clock globals) frames limit k frame less at

    frame_by : (limit k : ℕ) (at : Option Frame) → slice_get frames k ≡ at → k < limit → ((j : ℕ) → FrameIn k j) → FrameIn limit k
    frame_by limit k None at less inner = nothing_in limit k (part_none globals frames limit k at)
    frame_by limit k (Some frame) at less inner = λ base path pc h.
        subst (λ (p : Part). Within (p.code base path pc)) (sym (part_is globals frames limit k frame less at))
        (body_in globals frame.seats.items (λ j. (frame_part globals frames k j).lines) (λ j. (frame_part globals frames k j).code) base path (reached k) (λ j way to at. inner j way to at)
        (view_body frame.body.items) pc (ap (λ (f : Base → Bool). f base) (sym (reached_is limit k frame less at)) ∙ h))

    frame_up : (n limit k : ℕ) → limit ≤ n → FrameIn limit k
    frame_up zero limit k le = nothing_in limit k (part_past globals frames limit k (omega arith))
    frame_up (suc n) limit k le =
        elim (cases_lt k limit) [
          | inl less ↦ frame_by limit k (slice_get frames k) refl less (λ j. frame_up n k j (omega arith))
          | inr past ↦ nothing_in limit k (part_past globals frames limit k past)
        ]

    pub frame_in : (limit k : ℕ) → FrameIn limit k
    frame_in limit k = frame_up limit limit k (omega arith)

    pub program_in : (first : ℕ) (base : Base) → IsThere has_value has_clock globals frames first base → Within (program_lines globals frames first base)
    program_in first base h = both ((frame_part globals frames (length frames) first).code base 0 0) _ (frame_in (length frames) first base 0 0 h) (nothing, tt)

  -- an instruction that does what two do names what they name
  both_in : (i j : Instr) → IsIn i → IsIn j → IsIn (unwrap_or (both_in_one i j) i)
  both_in (instr.Load one) (instr.BinarySlot op other) h g = ((h.0.0, g.0), tt)
  both_in (instr.Load one) (instr.BinaryLiteral op y) h g = h
  both_in (instr.Load one) (instr.Unary op) h g = h
  both_in (instr.Load one) (instr.BinarySlotStore op other to) h g = ((h.0.0, g.0), tt)
  both_in (instr.Load one) (instr.BinaryLiteralStore op y to) h g = ((h.0.0, g.0), tt)
  both_in (instr.Load one) (instr.BinarySlotJump op other to) h g = ((h.0.0, g.0), tt)
  both_in (instr.Load one) (instr.BinaryLiteralJump op y to) h g = h
  both_in instr.Push (instr.Load one) h g = g
  both_in instr.Push (instr.LoadUnary op one) h g = g
  both_in (instr.BinarySlot op other) (instr.Store to) h g = ((h.0.0, g.0), tt)
  both_in (instr.BinarySlot op other) (instr.JumpUnless to) h g = h
  both_in (instr.BinaryLiteral op y) (instr.Store to) h g = g
  both_in (instr.Binary op) (instr.JumpUnless to) h g = h
  both_in (instr.Load one) (instr.LoadAt first bounds) h g = ((h.0.0, g.0), tt)
  both_in (instr.Load one) (instr.Locate bounds) h g = h
  both_in (instr.Load one) (instr.StoreAt first bounds) h g = ((h.0.0, g.0), tt)
  both_in (instr.BinaryLiteral op y) (instr.StoreAt first bounds) h g = g
  both_in i j h g = h

  chosen_in : (one other : Option Instr) (i : Instr) → IsIn (unwrap_or one i) → IsIn (unwrap_or other i) → IsIn (unwrap_or (option_or one other) i)
  chosen_in None other i h g = g
  chosen_in (Some r) other i h g = h

  pair_in : (b : Bool) (i behind later : Instr) → IsIn i → IsIn behind → IsIn later → IsIn (if b then paired i behind later else i)
  pair_in false i behind later h g k = h
  pair_in true i behind later h g k = chosen_in (both_in_one i later) (both_in_one i behind) i (both_in i later h k) (both_in i behind h g)

  -- what each instruction of joined lines names is there
  joined_in : (ls : List Line) → Within ls → AllByRecursion IsIn (joined_of ls)
  joined_in [] h = tt
  joined_in (l ∷ []) h = (h.0, tt)
  joined_in (l ∷ (m ∷ ls)) h =
      let rest = joined_in (m ∷ ls) h.1 in
      (pair_in (is_same_place l.1 m.1) l.0 m.0 (joined m (slice_get ls 0) (slice_get (joined_of ls) 0)) h.0 h.1.0 rest.0, rest)

-- an item of a list whose items all have a property has it
at_each : {A : Type 0} (P : A → Type 0) (xs : List A) (n : ℕ) (x : A) → AllByRecursion P xs → slice_get xs n ≡ Some x → P x
at_each P [] n x h at = absurd (none-some x at)
at_each P (y ∷ xs) zero x h at = subst P (same_Some y x at) h.0
at_each P (y ∷ xs) (suc n) x h at = at_each P xs n x h.1 at

-- the items of the two halves of a list have it
halves : (P : ℕ → Type 0) (xs ys : List ℕ) → AllByRecursion P (xs ++ ys) → AllByRecursion P xs × AllByRecursion P ys
halves P [] ys h = (tt, h)
halves P (x ∷ xs) ys h = let rest = halves P xs ys h.1 in ((h.0, rest.0), rest.1)

-- they have a weaker one
weaker : (P Q : ℕ → Type 0) → ((n : ℕ) → P n → Q n) → (xs : List ℕ) → AllByRecursion P xs → AllByRecursion Q xs
weaker P Q so [] h = tt
weaker P Q so (x ∷ xs) h = (so x h.0, weaker P Q so xs h.1)

-- a number that an instruction of a code has has the property that all numbers of its instructions have
some_in : (P : ℕ → Type 0) (numbers : Instr → List ℕ) (code : List Instr) → ((pc : ℕ) (i : Instr) → slice_get code pc ≡ Some i → AllByRecursion P (numbers i)) → (n : ℕ) → SomeHas numbers code n → P n
some_in P numbers code h n some = All-contains P (numbers some.1) n (All-from_recursion P (numbers some.1) (h some.0 some.1 some.2)) some.3

-- the number after the last slot that an instruction names
slots_end : (i : Instr) (n : ℕ) → AllByRecursion (λ s. s < n) (slots_read i ++ slots_written i) → values_past i ≤ n
slots_end i n h =
    let all = past_below (slots_read i ++ slots_written i) n h in
    let both = past_append (slots_read i) (slots_written i) in
    omega (arith, all, both)

clocks_end : (i : Instr) (n : ℕ) → AllByRecursion (λ k. k < n) (clocks_of i) → clocks_past i ≤ n
clocks_end i n h = past_below (clocks_of i) n h

module _ (has_value has_clock : ℕ → Bool) where
  -- where all values that are there are before a number, so are those that code names
  values_before : (n : ℕ) → ((s : ℕ) → has_value s ≡ true → s < n) → (code : List Instr) → AllByRecursion (IsIn has_value has_clock) code → values_named code ≤ n
  values_before n before [] h = omega arith
  values_before n before (i ∷ code) h =
      let first = slots_end i n (weaker (λ s. has_value s ≡ true) (λ s. s < n) before (slots_read i ++ slots_written i) h.0.0) in
      let rest = values_before n before code h.1 in
      omega (arith, first, rest)

  clocks_before : (n : ℕ) → ((k : ℕ) → has_clock k ≡ true → k < n) → (code : List Instr) → AllByRecursion (IsIn has_value has_clock) code → clocks_named code ≤ n
  clocks_before n before [] h = omega arith
  clocks_before n before (i ∷ code) h =
      let first = clocks_end i n (weaker (λ k. has_clock k ≡ true) (λ k. k < n) before (clocks_of i) h.0.1) in
      let rest = clocks_before n before code h.1 in
      omega (arith, first, rest)

  module _ (code : List Instr) (all : AllByRecursion (IsIn has_value has_clock) code) where
    abbrev IsThereValue : ℕ → Type 0
    IsThereValue s = has_value s ≡ true

    own : (pc : ℕ) (i : Instr) → slice_get code pc ≡ Some i → AllByRecursion IsThereValue (slots_read i) × AllByRecursion IsThereValue (slots_written i)
    own pc i at = halves IsThereValue (slots_read i) (slots_written i) (at_each (IsIn has_value has_clock) code pc i all at).0

    named_there : (s : ℕ) → Names code s → has_value s ≡ true
    named_there s named = elim named.some [
      | inl some ↦ some_in IsThereValue slots_read code (λ pc i at. (own pc i at).0) s some
      | inr some ↦ some_in IsThereValue slots_written code (λ pc i at. (own pc i at).1) s some
    ]

    clock_there : (k : ℕ) → NamesClock code k → has_clock k ≡ true
    clock_there k named = some_in (λ k. has_clock k ≡ true) clocks_of code (λ pc i at. (at_each (IsIn has_value has_clock) code pc i all at).1) k named.some

-- the code of a program names what its frame names
pub code_names_as_frame : (frames : List Frame) (globals first : ℕ) (base : Base) (cost : ℕ) → NamesAsFrame frames globals first base (code_of globals frames first base cost)
code_names_as_frame frames globals first base cost has_value has_clock h =
    let code = joined_of (program_lines globals frames first base) in
    let all = joined_in has_value has_clock (program_lines globals frames first base) (program_in has_value has_clock globals frames first base h) in
    record {
      values = named_there has_value has_clock code all;
      clocks = clock_there has_value has_clock code all;
      values_end = λ n before. values_before has_value has_clock n before code all;
      clocks_end = λ n before. clocks_before has_value has_clock n before code all;
    }
