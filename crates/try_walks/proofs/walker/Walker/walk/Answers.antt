use Rattle.std.proofs.Common.{◌≡◌, ◌∙◌, ◌<◌, ◌≤◌, ◌+◌, sym, subst, length, arith}
use Rattle.std.proofs.lemmas.List.{get_or_default}
use Rattle.logic_source.specs.Source.{Source, source_of, global_cells}
use Rattle.logic_source.specs.Worlds.{run_program}
use Rattle.logic_source.specs.Seats.{program_values_base, program_clocks_base}
use Rattle.logic_frames.specs.Numbers.{HasAllNames}
use Rattle.logic_frames.specs.Stands.{StandFor}
use Rattle.vm_logic.specs.Bases.{program_paths_base}
use Rattle.vm_logic.proofs.Bases.{values_begin}
use Rattle.vm_logic.specs.Runs.{Agree, IsWithin, ran}
use Rattle.vm_logic.proofs.Small.{sound_named, sound_types}
use Rattle.vm_logic.proofs.Walks.{the_program, is_there, fits_in, within_is, ran_is}
use Rattle.try_walks.proofs.walker.Walker.walk.Goals as goal

pub returns-clause-ran : goal.returns-clause-ran
returns-clause-ran c w stands =
    let inside = c.self.inside in
    let source = source_of inside.logic in
    let are = c.self.invariant in
    let frames = inside.frames.items in
    let order = inside.order.items in
    let n = c.args.program in
    let there : n < length source.programs = subst (λ (s : Source). n < length s.programs) (sym c.self.view_is) c.requires.there in
    let most : n ≤ length source.programs = omega (arith, there) in
    let p = the_program source n in
    let types = sound_types source are.sound in
    let have_paths = c.frames_have_paths.ensures source order frames are.are_frames are.below types n p (is_there source n there) in
    let order_ok = inside.order.ok in
    let order_len = c.len.ensures in
    let place_is : c.len.result + n ≡ length order + n = omega (arith, order_ok.0, order_len) in
    let values_long = are.values_begin.long in
    let clocks_long = are.clocks_begin.long in
    let paths_long = are.paths_begin.long in
    let globals_are : c.index.result.now ≡ global_cells source = c.index.ensures ∙ get_or_default inside.values.items 0 c.index.result.now 0 (omega (arith, values_long)) ∙ are.values_begin.each 0 (omega arith) ∙ values_begin source in
    let values_are : c.index-2.result.now ≡ program_values_base source n = c.index-2.ensures ∙ get_or_default inside.values.items n c.index-2.result.now 0 (omega (arith, there, values_long)) ∙ are.values_begin.each n most in
    let clocks_are : c.index-3.result.now ≡ program_clocks_base source n = c.index-3.ensures ∙ get_or_default inside.clocks.items n c.index-3.result.now 0 (omega (arith, there, clocks_long)) ∙ are.clocks_begin.each n most in
    let base_is : c.index-4.result.now ≡ program_paths_base source n = c.index-4.ensures ∙ get_or_default inside.paths.items n c.index-4.result.now 0 (omega (arith, there, paths_long)) ∙ are.paths_begin.each n most in
    let names : HasAllNames source = subst HasAllNames (sym are.sound.are_theirs) (c.typed_names_are_known.ensures are.sound.units are.sound.typed) in
    let here : StandFor source c.args.cells.now w = subst (λ (s : Source). StandFor s c.args.cells.now w) (sym c.self.view_is) stands in
    let agree = c.frames_agree.ensures source order frames are.are_frames are.below types (sound_named source are.sound) names c.args.moment n p (is_there source n there) w c.args.cells.now here in
    let whole = ran_is source order frames n there have_paths c.deref.result.now (c.len.result + n) c.deref.ensures.value place_is c.walk_frame-ended.result c.walk_frame-ended.ensures.path c.args.moment c.index.result.now c.index-2.result.now c.index-3.result.now c.index-4.result.now
    c.args.cells.now c.walk_frame-ended.new.cells (run_program source n c.args.moment w) globals_are values_are clocks_are base_is c.walk_frame-ended.ensures.ran agree
    in
    subst (λ (s : Source). Agree s (run_program s n c.args.moment w) (ran s c.walked.result c.walk_frame-ended.new.cells)) c.self.view_is
    (subst (λ r. Agree source (run_program source n c.args.moment w) (ran source r c.walk_frame-ended.new.cells)) (sym c.walked.ensures) whole)

pub returns-clause-within : goal.returns-clause-within
returns-clause-within c =
    let inside = c.self.inside in
    let source = source_of inside.logic in
    let are = c.self.invariant in
    let frames = inside.frames.items in
    let order = inside.order.items in
    let n = c.args.program in
    let there : n < length source.programs = subst (λ (s : Source). n < length s.programs) (sym c.self.view_is) c.requires.there in
    let most : n ≤ length source.programs = omega (arith, there) in
    let have_paths = c.frames_have_paths.ensures source order frames are.are_frames are.below (sound_types source are.sound) n (the_program source n) (is_there source n there) in
    let order_ok = inside.order.ok in
    let order_len = c.len.ensures in
    let place_is : c.len.result + n ≡ length order + n = omega (arith, order_ok.0, order_len) in
    let paths_long = are.paths_begin.long in
    let base_is : c.index-4.result.now ≡ program_paths_base source n = c.index-4.ensures ∙ get_or_default inside.paths.items n c.index-4.result.now 0 (omega (arith, there, paths_long)) ∙ are.paths_begin.each n most in
    let whole = within_is source order frames n there have_paths c.deref.result.now (c.len.result + n) c.deref.ensures.value place_is c.walk_frame-ended.result c.walk_frame-ended.ensures.path c.index-4.result.now base_is in
    subst (λ (s : Source). IsWithin s c.walked.result) c.self.view_is (subst (IsWithin source) (sym c.walked.ensures) whole)

pub walked-requires : goal.walked-requires
walked-requires c =
    let inside = c.self.inside in
    let source = source_of inside.logic in
    let are = c.self.invariant in
    let frames = inside.frames.items in
    let order = inside.order.items in
    let n = c.args.program in
    let there : n < length source.programs = subst (λ (s : Source). n < length s.programs) (sym c.self.view_is) c.requires.there in
    let most : n ≤ length source.programs = omega (arith, there) in
    let have_paths = c.frames_have_paths.ensures source order frames are.are_frames are.below (sound_types source are.sound) n (the_program source n) (is_there source n there) in
    let order_ok = inside.order.ok in
    let order_len = c.len.ensures in
    let place_is : c.len.result + n ≡ length order + n = omega (arith, order_ok.0, order_len) in
    let paths_long = are.paths_begin.long in
    let base_is : c.index-4.result.now ≡ program_paths_base source n = c.index-4.ensures ∙ get_or_default inside.paths.items n c.index-4.result.now 0 (omega (arith, there, paths_long)) ∙ are.paths_begin.each n most in
    fits_in source order frames n there have_paths c.deref.result.now (c.len.result + n) c.deref.ensures.value place_is c.walk_frame-ended.result c.walk_frame-ended.ensures.path c.index-4.result.now 4294967296 base_is are.paths_fit
