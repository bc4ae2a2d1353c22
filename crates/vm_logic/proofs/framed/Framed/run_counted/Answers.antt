use Rattle.std.proofs.Common.{◌*◌, ◌-◌, [], ◌≡◌, ◌∙◌, ◌<◌, ◌≤◌, ◌+◌, sym, subst, refl, length, get_or, Some, arith}
use Rattle.std.specs.Prelude.{slice_get}
use Rattle.std.proofs.lemmas.List.{get_or_default}
use Rattle.std.proofs.lemmas.Option.{slice_get_read}
use Rattle.logic_source.specs.Source.{Source, source_of, global_cells}
use Rattle.logic_source.specs.Worlds.{run_program}
use Rattle.logic_source.specs.Seats.{program_values_base, program_clocks_base}
use Rattle.logic_cells.specs.Runs.{ended}
use Rattle.logic_frames.specs.Numbers.{HasAllNames}
use Rattle.logic_frames.specs.Frames.{program_base}
use Rattle.logic_frames.specs.Stands.{StandFor}
use Rattle.vm_programs.specs.Codes.{base_in, IsMade}
use Rattle.vm_logic.specs.Bases.{program_paths_base}
use Rattle.vm_logic.specs.Runs.{Agree, HasCells, IsWithin, TakesInstructions, ran}
use Rattle.vm_logic.proofs.Small.{sound_named, sound_types}
use Rattle.vm_logic.proofs.Walks.{the_program, is_there, fits_in, within_is, ran_is}
use Rattle.logic_limits.specs.Counts.{program_costs}
use Rattle.vm_logic.proofs.Coded.{path_inside, ends_as_frame, shape_kept}
use Rattle.vm_logic.proofs.OwnCells.{code_there}
use Rattle.vm_logic.proofs.framed.Framed.run_counted.Goals as goal

pub run_code_counted-ended-requires-clause-values : goal.run_code_counted-ended-requires-clause-values
run_code_counted-ended-requires-clause-values c =
    let inside = c.self.inside in
    let source = source_of inside.logic in
    let are = c.self.invariant.0.laid in
    let n = c.args.program in
    let there : n < length source.programs = subst (λ (s : Source). n < length s.programs) (sym c.self.view_is) c.requires.there in
    let long = c.self.invariant.0.codes_are.long in
    let rows = are.values_begin.long in
    let code = c.index-compiled.result.now in
    let at : slice_get inside.codes.items n ≡ Some code = slice_get_read inside.codes.items (length inside.codes.items) n code refl (omega (arith, there, long, rows)) c.index-compiled.ensures in
    let is = c.self.invariant.0.codes_are.each n code at in
    let has : HasCells source c.args.cells.now = subst (λ (s : Source). HasCells s c.args.cells.now) (sym c.self.view_is) c.requires.cells in
    let names : HasAllNames source = subst HasAllNames (sym are.sound.are_theirs) (c.typed_names_are_known.ensures are.sound.units are.sound.typed) in
    let own = (code_there source inside.order.items are.below inside.frames are.are_frames (sound_types source are.sound) names inside.values.items inside.clocks.items are.values_begin are.clocks_begin n there (get_or (program_costs source) n 0) code is).0 in
    let all = has.values in
    omega (arith, own, all)

pub run_code_counted-ended-requires-clause-clocks : goal.run_code_counted-ended-requires-clause-clocks
run_code_counted-ended-requires-clause-clocks c =
    let inside = c.self.inside in
    let source = source_of inside.logic in
    let are = c.self.invariant.0.laid in
    let n = c.args.program in
    let there : n < length source.programs = subst (λ (s : Source). n < length s.programs) (sym c.self.view_is) c.requires.there in
    let long = c.self.invariant.0.codes_are.long in
    let rows = are.values_begin.long in
    let code = c.index-compiled.result.now in
    let at : slice_get inside.codes.items n ≡ Some code = slice_get_read inside.codes.items (length inside.codes.items) n code refl (omega (arith, there, long, rows)) c.index-compiled.ensures in
    let is = c.self.invariant.0.codes_are.each n code at in
    let has : HasCells source c.args.cells.now = subst (λ (s : Source). HasCells s c.args.cells.now) (sym c.self.view_is) c.requires.cells in
    let names : HasAllNames source = subst HasAllNames (sym are.sound.are_theirs) (c.typed_names_are_known.ensures are.sound.units are.sound.typed) in
    let own = (code_there source inside.order.items are.below inside.frames are.are_frames (sound_types source are.sound) names inside.values.items inside.clocks.items are.values_begin are.clocks_begin n there (get_or (program_costs source) n 0) code is).1 in
    let all = has.clocks in
    omega (arith, own, all)

pub returns-clause-ran : goal.returns-clause-ran
returns-clause-ran c w stands =
    let inside = c.self.inside in
    let source = source_of inside.logic in
    let are = c.self.invariant.0.laid in
    let frames = inside.frames in
    let order = inside.order.items in
    let n = c.args.program in
    let there : n < length source.programs = subst (λ (s : Source). n < length s.programs) (sym c.self.view_is) c.requires.there in
    let most : n ≤ length source.programs = omega (arith, there) in
    let long = c.self.invariant.0.codes_are.long in
    let rows = are.values_begin.long in
    let code = c.index-compiled.result.now in
    let at : slice_get inside.codes.items n ≡ Some code = slice_get_read inside.codes.items (length inside.codes.items) n code refl (omega (arith, there, long, rows)) c.index-compiled.ensures in
    let is = c.self.invariant.0.codes_are.each n code at in
    let ended = c.run_code_counted-ended.result.0 in
    let new = c.run_code_counted-ended.new.cells in
    let types = sound_types source are.sound in
    let p = the_program source n in
    let have_paths = c.frames_have_paths.ensures source order frames are.are_frames are.below types n p (is_there source n there) in
    let paths_long = are.paths_begin.long in
    let base_is : c.index.result.now ≡ program_paths_base source n = c.index.ensures ∙ get_or_default inside.paths.items n c.index.result.now 0 (omega (arith, there, paths_long)) ∙ are.paths_begin.each n most in
    let values_are : get_or inside.values.items n 0 ≡ program_values_base source n = are.values_begin.each n most in
    let clocks_are : get_or inside.clocks.items n 0 ≡ program_clocks_base source n = are.clocks_begin.each n most in
    let names : HasAllNames source = subst HasAllNames (sym are.sound.are_theirs) (c.typed_names_are_known.ensures are.sound.units are.sound.typed) in
    let here : StandFor source c.args.cells.now w = subst (λ (s : Source). StandFor s c.args.cells.now w) (sym c.self.view_is) stands in
    let agree = c.frames_agree.ensures source order frames are.are_frames are.below types (sound_named source are.sound) names c.args.moment n p (is_there source n there) w c.args.cells.now here in
    let placed = path_inside frames (global_cells source) (length order + n) (base_in inside.values.items inside.clocks.items n) (get_or (program_costs source) n 0) code is ended c.run_code_counted-ended.ensures.path in
    let as_frame = ends_as_frame frames (global_cells source) (length order + n) (base_in inside.values.items inside.clocks.items n) (get_or (program_costs source) n 0) code is ended c.run_code_counted-ended.ensures.path c.args.moment c.args.cells.now new
    (λ l. (_, c.run_code_counted-ended.ensures.ran l)) in
    let whole = ran_is source order frames n there have_paths frames (length order + n) refl refl ended placed c.args.moment (global_cells source) (get_or inside.values.items n 0) (get_or inside.clocks.items n 0) c.index.result.now
    c.args.cells.now new (run_program source n c.args.moment w) refl values_are clocks_are base_is as_frame agree
    in
    subst (λ (s : Source). Agree s (run_program s n c.args.moment w) (ran s c.walked.result new)) c.self.view_is
    (subst (λ r. Agree source (run_program source n c.args.moment w) (ran source r new)) (sym c.walked.ensures) whole)

pub returns-clause-within : goal.returns-clause-within
returns-clause-within c =
    let inside = c.self.inside in
    let source = source_of inside.logic in
    let are = c.self.invariant.0.laid in
    let frames = inside.frames in
    let order = inside.order.items in
    let n = c.args.program in
    let there : n < length source.programs = subst (λ (s : Source). n < length s.programs) (sym c.self.view_is) c.requires.there in
    let most : n ≤ length source.programs = omega (arith, there) in
    let long = c.self.invariant.0.codes_are.long in
    let rows = are.values_begin.long in
    let code = c.index-compiled.result.now in
    let at : slice_get inside.codes.items n ≡ Some code = slice_get_read inside.codes.items (length inside.codes.items) n code refl (omega (arith, there, long, rows)) c.index-compiled.ensures in
    let is = c.self.invariant.0.codes_are.each n code at in
    let have_paths = c.frames_have_paths.ensures source order frames are.are_frames are.below (sound_types source are.sound) n (the_program source n) (is_there source n there) in
    let paths_long = are.paths_begin.long in
    let base_is : c.index.result.now ≡ program_paths_base source n = c.index.ensures ∙ get_or_default inside.paths.items n c.index.result.now 0 (omega (arith, there, paths_long)) ∙ are.paths_begin.each n most in
    let placed = path_inside frames (global_cells source) (length order + n) (base_in inside.values.items inside.clocks.items n) (get_or (program_costs source) n 0) code is c.run_code_counted-ended.result.0 c.run_code_counted-ended.ensures.path in
    let whole = within_is source order frames n there have_paths frames (length order + n) refl refl c.run_code_counted-ended.result.0 placed c.index.result.now base_is in
    subst (λ (s : Source). IsWithin s c.walked.result) c.self.view_is (subst (IsWithin source) (sym c.walked.ensures) whole)

pub returns-clause-shape : goal.returns-clause-shape
returns-clause-shape c = shape_kept c.args.self.now c.args.cells.now c.run_code_counted-ended.new.cells c.run_code_counted-ended.ensures.shape c.requires.cells

pub walked-requires : goal.walked-requires
walked-requires c =
    let inside = c.self.inside in
    let source = source_of inside.logic in
    let are = c.self.invariant.0.laid in
    let frames = inside.frames in
    let order = inside.order.items in
    let n = c.args.program in
    let there : n < length source.programs = subst (λ (s : Source). n < length s.programs) (sym c.self.view_is) c.requires.there in
    let most : n ≤ length source.programs = omega (arith, there) in
    let long = c.self.invariant.0.codes_are.long in
    let rows = are.values_begin.long in
    let code = c.index-compiled.result.now in
    let at : slice_get inside.codes.items n ≡ Some code = slice_get_read inside.codes.items (length inside.codes.items) n code refl (omega (arith, there, long, rows)) c.index-compiled.ensures in
    let is = c.self.invariant.0.codes_are.each n code at in
    let have_paths = c.frames_have_paths.ensures source order frames are.are_frames are.below (sound_types source are.sound) n (the_program source n) (is_there source n there) in
    let paths_long = are.paths_begin.long in
    let base_is : c.index.result.now ≡ program_paths_base source n = c.index.ensures ∙ get_or_default inside.paths.items n c.index.result.now 0 (omega (arith, there, paths_long)) ∙ are.paths_begin.each n most in
    let placed = path_inside frames (global_cells source) (length order + n) (base_in inside.values.items inside.clocks.items n) (get_or (program_costs source) n 0) code is c.run_code_counted-ended.result.0 c.run_code_counted-ended.ensures.path in
    fits_in source order frames n there have_paths frames (length order + n) refl refl c.run_code_counted-ended.result.0 placed c.index.result.now 4294967296 base_is are.paths_fit

pub returns-clause-cost : goal.returns-clause-cost
returns-clause-cost c =
    let inside = c.self.inside in
    let source = source_of inside.logic in
    let are = c.self.invariant.0.laid in
    let frames = inside.frames in
    let order = inside.order.items in
    let n = c.args.program in
    let there : n < length source.programs = subst (λ (s : Source). n < length s.programs) (sym c.self.view_is) c.requires.there in
    let long = c.self.invariant.0.codes_are.long in
    let rows = are.values_begin.long in
    let code = c.index-compiled.result.now in
    let at : slice_get inside.codes.items n ≡ Some code = slice_get_read inside.codes.items (length inside.codes.items) n code refl (omega (arith, there, long, rows)) c.index-compiled.ensures in
    let own = (c.self.invariant.0.codes_are.each n code at).tells in
    let done = c.run_code_counted-ended.ensures.count in
    let all : c.run_code_counted-ended.result.1 ≤ 4 * get_or (program_costs source) n 0 + 4 = omega (arith, own, done) in
    subst (λ (s : Source). c.run_code_counted-ended.result.1 ≤ 4 * get_or (program_costs s) n 0 + 4) c.self.view_is all

pub returns-clause-count : goal.returns-clause-count
returns-clause-count c =
    let inside = c.self.inside in
    let source = source_of inside.logic in
    let are = c.self.invariant.0.laid in
    let n = c.args.program in
    let there : n < length source.programs = subst (λ (s : Source). n < length s.programs) (sym c.self.view_is) c.requires.there in
    let most : n ≤ length source.programs = omega (arith, there) in
    let long = c.self.invariant.0.codes_are.long in
    let rows = are.values_begin.long in
    let code = c.index-compiled.result.now in
    let at : slice_get inside.codes.items n ≡ Some code = slice_get_read inside.codes.items (length inside.codes.items) n code refl (omega (arith, there, long, rows)) c.index-compiled.ensures in
    let values_are = are.values_begin.each n most in
    let clocks_are = are.clocks_begin.each n most in
    let base_is : base_in inside.values.items inside.clocks.items n ≡ program_base source n = λ i. record { values = values_are i; clocks = clocks_are i } in
    let done = c.run_code_counted-ended.ensures.count in
    let counted : TakesInstructions source n c.args.moment c.args.cells.now c.run_code_counted-ended.result.1 = record {
      order = inside.order.items;
      frames = inside.frames;
      are_frames = are.are_frames;
      code = code;
      made = subst (λ base. IsMade inside.frames (global_cells source) (length inside.order.items) n base (get_or (program_costs source) n 0) code) base_is (c.self.invariant.0.codes_are.made n code at);
      result = ended [] c.run_code_counted-ended.result.0 c.run_code_counted-ended.new.cells;
      left = 4 * code.cost + 4 - c.run_code_counted-ended.result.1;
      runs = c.run_code_counted-ended.ensures.ran [];
      count_is = omega (arith, done);
    } in
    subst (λ (s : Source). TakesInstructions s n c.args.moment c.args.cells.now c.run_code_counted-ended.result.1) c.self.view_is counted
