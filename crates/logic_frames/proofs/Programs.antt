-- The frames of programs, behind those of the block types.
use Rattle.std.proofs.Common.{◌≡◌, ◌∙◌, ap, sym, subst, ℕ, ◌+◌, ◌<◌, Bool, true, false, List, [], ◌∷◌, ◌++◌, length, Some, inl, inr, arith}
use Rattle.std.specs.Prelude.{◌||◌, ◌==◌, not, slice_get, nat_lt}
use Rattle.std.specs.List.{list_any}
use Rattle.std.proofs.lemmas.Bool.{cases_Bool}
use Rattle.std.proofs.lemmas.Bool.Decides.{nat_tests}
use Rattle.std.proofs.lemmas.List.{length-append, take_all}
use Rattle.std.proofs.lemmas.Option.{slice_get_within}
use Rattle.st_tree.specs.View.{view_body}
use Rattle.st_tree.specs.Mapping.{mapped_body}
use Rattle.st_blocks.specs.Chains.{Among}
use Rattle.logic_source.specs.Source.{PlainRoutine, Source}
use Rattle.logic_source.specs.Blocks.{Declares, DeclaresThere, AreBelow}
use Rattle.logic_source.specs.Names.{meant_in}
use Rattle.logic_source.specs.Worlds.{globals_routine}
use Rattle.logic_walk.specs.declared.frame.Seat.{Seat}
use Rattle.logic_walk.specs.declared.frame.Frame.{Frame}
use Rattle.logic_walk.specs.Frames.{frame_paths, InTurn}
use Rattle.logic_walk.specs.Starts.{seat_has_starts, frame_has_starts}
use Rattle.logic_walk.specs.Standards.{seats_standards, frame_standards}
use Rattle.logic_walk.proofs.Growing.{marked_more, counted_more}
use Rattle.logic_seats.specs.declared.seats.Extent.{Extent}
use Rattle.logic_seats.specs.declared.seats.Callee.{Callee}
use Rattle.logic_frames.specs.Reached.{Reaches, flagged, AreReached}
use Rattle.logic_frames.specs.Frames.{AreSeats, IsFrame, framed, IsBlank, IsFrames, IsStart}
use Rattle.logic_frames.specs.Numbers.{numbers}
use Rattle.logic_frames.specs.Built.{IsKnown, IsMade, AreBuilt, AreBegun}
use Rattle.logic_frames.proofs.Flags.{declared_asks}
use Rattle.logic_frames.proofs.Tables.{front, at_end, in_turn_more, known_more, made_is_frame, made_in_turn, made_marked, made_counted}

pub begun_none : (source : Source) (order : List ℕ) (used run : List Bool) (frames : List Frame) (table : List Callee) → AreBelow source.blocks order → AreBuilt source order used run (length order) frames table → AreBegun source order used run 0 frames table
begun_none source order used run frames table below built = record {
  many = (let many = built.many in omega (arith, many));
  known = λ n less on. built.known n (subst (λ l. Among l n) (sym (take_all (length order) order (omega arith))) (below.whole n less)) on;
  of_blocks = built.of_blocks;
  of_others = built.of_others;
  of_programs = λ j p f less. absurd (omega (arith, less));
  in_turn = built.in_turn;
  marked = built.marked;
  counted = built.counted;
}

module _ (source : Source) (order : List ℕ) (used run : List Bool) (are_used : AreReached false source used) (k : ℕ) (p : PlainRoutine) (frames frames' : List Frame) (table : List Callee) (frame : Frame) (end : Extent) (begun : AreBegun source order used run k frames table) (at : slice_get source.programs k ≡ Some p) (types : DeclaresThere source.blocks p)
    (made : IsMade source table p frame end) (pushed : frames' ≡ frames ++ frame ∷ []) where
  knows : (n : ℕ) → Declares p n → IsKnown source.blocks order frames table n
  knows n declares = begun.known n (types n declares) (are_used.by_programs k n p at (declared_asks p n declares))

  of_blocks_on : (j n : ℕ) (r : PlainRoutine) (f : Frame) → slice_get order j ≡ Some n → slice_get source.blocks n ≡ Some r → slice_get (frames ++ frame ∷ []) j ≡ Some f → flagged used n ≡ true → IsFrame source order (framed (flagged run n) r) f
  of_blocks_on j n r f listed there found on =
      let many = begun.many in
      let within = slice_get_within order j n listed in
      let less : j < length frames = omega (arith, many, within) in
      begun.of_blocks j n r f listed there (sym (front frames (frame ∷ []) j less) ∙ found) on

  of_others_on : (j n : ℕ) (f : Frame) → slice_get order j ≡ Some n → slice_get (frames ++ frame ∷ []) j ≡ Some f → flagged used n ≡ false → IsBlank f
  of_others_on j n f listed found off =
      let many = begun.many in
      let within = slice_get_within order j n listed in
      let less : j < length frames = omega (arith, many, within) in
      begun.of_others j n f listed (sym (front frames (frame ∷ []) j less) ∙ found) off

  of_programs_on : (j : ℕ) (q : PlainRoutine) (f : Frame) → j < k + 1 → slice_get source.programs j ≡ Some q → slice_get (frames ++ frame ∷ []) (length order + j) ≡ Some f → IsFrame source order q f
  of_programs_on j q f less there found =
      let many = begun.many in
      elim (cases_Bool (nat_lt j k)) [
        | inl before ↦ (
            let small : j < k = grind (arith, nat_tests) in
            let inside : length order + j < length frames = omega (arith, many, small) in
            begun.of_programs j q f small there (sym (front frames (frame ∷ []) (length order + j) inside) ∙ found))
        | inr past ↦ (
            let last : j ≡ k = grind (arith, nat_tests, less) in
            let end_is : length order + j ≡ length frames = omega (arith, many, last) in
            let same_frame : Some frame ≡ Some f = sym (at_end frames frame) ∙ ap (slice_get (frames ++ frame ∷ [])) (sym end_is) ∙ found in
            let same_program : Some p ≡ Some q = sym at ∙ ap (slice_get source.programs) (sym last) ∙ there in
            let f_is : frame ≡ f = cc in
            let q_is : p ≡ q = cc in
            subst (λ x. IsFrame source order x f) q_is (subst (IsFrame source order p) f_is (made_is_frame source order frames table p frame end made knows)))
      ]

  pub begun_more : AreBegun source order used run (k + 1) frames' table
  begun_more =
      let whole : AreBegun source order used run (k + 1) (frames ++ frame ∷ []) table = record {
        many = (let many = begun.many in let sum = length-append frames (frame ∷ []) in omega (arith, many, sum));
        known = λ n less on. known_more source.blocks order frames frame table n (begun.known n less on);
        of_blocks = of_blocks_on;
        of_others = of_others_on;
        of_programs = of_programs_on;
        in_turn = in_turn_more frames frame begun.in_turn (made_in_turn source order frames table p frame end made knows);
        marked = marked_more frames frame begun.marked (made_marked source order frames table p frame end made knows);
        counted = counted_more frames frame begun.counted (made_counted source order frames table p frame end made knows);
      } in
      subst (λ fs. AreBegun source order used run (k + 1) fs table) (sym pushed) whole

pub begun_all : (source : Source) (order : List ℕ) (used run : List Bool) (frames : List Frame) (table : List Callee) → AreReached false source used → AreReached true source run → ((n : ℕ) → flagged run n ≡ true → Reaches true source n) → AreBegun source order used run (length source.programs) frames table
    → IsFrames source order frames
begun_all source order used run frames table are_used are_run run_alone begun = record {
  used = used;
  run = run;
  are_used = are_used;
  are_run = are_run;
  run_alone = run_alone;
  whole = begun.many;
  of_blocks = λ k n r f. begun.of_blocks k n r f;
  of_others = λ k n f. begun.of_others k n f;
  of_programs = λ k p f at there. begun.of_programs k p f (slice_get_within source.programs k p at) at there;
  in_turn = begun.in_turn;
  marked = begun.marked;
  counted = begun.counted;
}

-- the frame of the globals' initial values
pub start_made : (source : Source) (start : Frame) → start.seats.items ≡ [] → view_body start.starts.items ≡ mapped_body (numbers source (globals_routine source)) (meant_in source (globals_routine source) source.starts) → start.body.items ≡ []
    → start.has_starts ≡ (not (length start.starts.items == 0) || false) → start.clocks ≡ 0 → IsStart source start
start_made source start none starts still marks counts = record {
  is_frame = λ order. record {
    seats_are = subst (AreSeats source.blocks (globals_routine source) order 0 0 []) (sym none) tt;
    starts_are = starts;
    body_is = ap view_body still;
  };
  in_turn = in_turn_more [] start (λ k f at. absurd (cc)) (subst (InTurn (frame_paths [] 0)) (sym none) (record { numbered = tt; few = omega arith }));
  marked = marked_more [] start (λ k f at. absurd (cc))
      (marks ∙ (λ i. not (length start.starts.items == 0) || list_any (λ (s : Seat). seat_has_starts (frame_has_starts [] 0) s.of) (sym none i)));
  counted = counted_more [] start (λ k f at. absurd (cc)) (counts ∙ ap (λ l. length (seats_standards (frame_standards [] 0) l)) (sym none));
}
