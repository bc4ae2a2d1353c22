use Rattle.std.proofs.Common.{◌≡◌, ◌∙◌, ap, sym, subst, length, get_or, arith}
use Rattle.std.proofs.lemmas.List.{length-map, get_or_default}
use Rattle.std.proofs.lemmas.Grind.{common_steps}
use Rattle.logic_source.specs.Source.{view_routine, source_of, global_cells}
use Rattle.logic_source.specs.Layout.{cell_paths}
use Rattle.logic_source.specs.Worlds.{opening}
use Rattle.logic_cells.specs.Cells.{PlainCells}
use Rattle.logic_frames.specs.Numbers.{HasAllNames}
use Rattle.logic_frames.specs.Stands.{StandFor}
use Rattle.logic_frames.specs.Opening.{programs_started, opening_cells}
use Rattle.vm_logic.proofs.Bases.{values_begin, values_end}
use Rattle.vm_logic.proofs.Small.{sound_named, sound_types}
use Rattle.vm_logic.proofs.Started.{opened}
use Rattle.vm_logic.proofs.framed.opened.Goals as goal

pub returns : goal.returns
returns c =
    let logic = c.args.logic.now in
    let made = c.args.made.now in
    let source = source_of logic in
    let are = c.requires.laid in
    let frames = made.frames.items in
    let order = c.args.order.now in
    let first = c.requires.start in
    let names : HasAllNames source = subst HasAllNames (sym are.sound.are_theirs) (c.typed_names_are_known.ensures are.sound.units are.sound.typed) in
    let stands : StandFor source (opening_cells source order first.start frames) (opening source) =
    c.frames_begin.ensures source order first.start frames (first.is_start.is_frame order) are.are_frames are.below (sound_types source are.sound) (sound_named source are.sound) names
    in
    let many = length-map logic.programs.items view_routine in
    let ok = logic.programs.ok in
    let len = c.len.ensures in
    let count : c.len.result ≡ length source.programs = omega (arith, many, ok.0, len) in
    let long = are.values_begin.long in
    let all : c.index-all.result.now ≡ length (cell_paths source) =
    c.index-all.ensures ∙ get_or_default made.values.items c.len.result c.index-all.result.now 0 (omega (arith, count, long)) ∙ ap (λ n. get_or made.values.items n 0) count
    ∙ are.values_begin.each (length source.programs) (omega arith) ∙ values_end source
    in
    let globals_are : c.index.result.now ≡ global_cells source =
    c.index.ensures ∙ get_or_default made.values.items 0 c.index.result.now 0 (omega (arith, long)) ∙ are.values_begin.each 0 (omega arith) ∙ values_begin source
    in
    let last : c.start_programs.new.cells ≡ programs_started source order frames (length source.programs) 0 c.start_frame.new.cells =
    c.start_programs.ensures ∙ (λ i. programs_started source order (c.deref-3.ensures.value i) (length source.programs) 0 c.start_frame.new.cells)
    in
    let is = opened source order frames first.start c.deref-2.result.now c.index.result.now c.index-all.result.now c.deref.result.now c.in_ok-cells.cells c.start_frame.new.cells c.start_programs.new.cells (c.deref-2.ensures.value ∙ first.table_is) globals_are all (c.deref.ensures.value ∙ c.requires.standards)
    c.in_ok-cells.ensures c.start_frame.ensures last
    in
    subst (λ (cells : PlainCells). StandFor source cells (opening source)) (sym is) stands

pub index-all-requires : goal.index-all-requires
index-all-requires c = grind (arith, common_steps)
