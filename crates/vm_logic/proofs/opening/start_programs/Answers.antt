use Rattle.std.proofs.Common.{◌≡◌, ◌<◌, ◌≤◌, ◌-◌, ◌∙◌, ap, length, get_or, arith}
use Rattle.std.proofs.lemmas.List.{length-map}
use Rattle.std.proofs.lemmas.Grind.{common_steps}
use Rattle.logic_source.specs.Source.{view_routine, source_of}
use Rattle.logic_frames.specs.Opening.{programs_started}
use Rattle.vm_logic.proofs.Bases.{values_begin}
use Rattle.vm_logic.proofs.Started.{started_more, started_all}
use Rattle.vm_logic.proofs.opening.start_programs.Goals as goal

pub loop-program-init : goal.loop-program-init
loop-program-init c =
    let source = source_of c.args.logic.now in
    let all : length source.programs - 0 ≡ length source.programs = omega arith in
    record { place_is = omega arith; left_is = ap (λ n. programs_started source c.args.order.now c.args.frames.now n 0 c.args.cells.now) all }

pub loop-program-preserved : goal.loop-program-preserved
loop-program-preserved c =
    let source = source_of c.args.logic.now in
    let frames = c.args.frames.now in
    let order = c.args.order.now in
    let i = c.loop-program.program in
    let ok = c.args.logic.now.programs.ok in
    let long = length-map c.args.logic.now.programs.items view_routine in
    let test = c.loop-program-test.true in
    let end = c.len-program-end.ensures in
    let less : i < length source.programs = omega (arith, ok.0, long, test, end) in
    let most : i ≤ length source.programs = omega (arith, less) in
    let globals_are = c.requires.values.each 0 (omega arith) ∙ values_begin source in
    let place = c.loop-program.invariant.place_is in
    record {
      place_is = omega (arith, place);
      left_is = started_more source order frames (length source.programs) i (get_or c.args.values.now 0 0) c.loop-program.place (get_or c.args.values.now i 0) (get_or c.args.clocks.now i 0) c.loop-program.cells c.start_frame.new.cells
          (programs_started source order frames (length source.programs) 0 c.args.cells.now) less globals_are place (c.requires.values.each i most) (c.requires.clocks.each i most) c.start_frame.ensures c.loop-program.invariant.left_is;
    }

pub returns : goal.returns
returns c =
    let source = source_of c.args.logic.now in
    let i = c.loop-program.program in
    let ok = c.args.logic.now.programs.ok in
    let long = length-map c.args.logic.now.programs.items view_routine in
    let test = c.loop-program-test.false in
    let end = c.len-program-end.ensures in
    let none : length source.programs - i ≡ 0 = omega (arith, ok.0, long, test, end) in
    started_all source c.args.order.now c.args.frames.now (length source.programs) i c.loop-program.cells (programs_started source c.args.order.now c.args.frames.now (length source.programs) 0 c.args.cells.now) none c.loop-program.invariant.left_is

pub offset_bounds-values-program : goal.offset_bounds-values-program
offset_bounds-values-program c = grind (arith, common_steps)

pub bounds-clocks-program : goal.bounds-clocks-program
bounds-clocks-program c = grind (arith, common_steps)

pub offset_bounds-clocks-program : goal.offset_bounds-clocks-program
offset_bounds-clocks-program c = grind (arith, common_steps)

pub bounds-values-program : goal.bounds-values-program
bounds-values-program c = grind (arith, common_steps)
