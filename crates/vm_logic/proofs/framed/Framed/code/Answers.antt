use Rattle.std.proofs.Common.{◌≡◌, ◌<◌, ◌+◌, sym, subst, refl, length, get_or, Some, arith}
use Rattle.std.specs.Prelude.{slice_get}
use Rattle.std.proofs.lemmas.Option.{slice_get_read}
use Rattle.logic_source.specs.Source.{Source, source_of, global_cells}
use Rattle.logic_frames.specs.Numbers.{HasAllNames}
use Rattle.logic_frames.specs.Frames.{program_base}
use Rattle.vm_programs.specs.Codes.{base_in, IsCodeOf}
use Rattle.logic_limits.specs.Counts.{program_costs}
use Rattle.vm_logic.specs.Runs.{IsProgramCode}
use Rattle.vm_logic.proofs.Small.{sound_named, sound_types}
use Rattle.vm_logic.proofs.Few.{cells_few}
use Rattle.vm_logic.proofs.Walks.{the_program, is_there}
use Rattle.vm_logic.proofs.OwnCells.{code_within, names_own}
use Rattle.vm_logic.proofs.OwnCodes.{as_many_paths, ends_as_program}
use Rattle.vm_logic.proofs.framed.Framed.code.Goals as goal

pub returns : goal.returns
returns c =
    let inside = c.self.inside in
    let source = source_of inside.logic in
    let are = c.self.invariant.0.laid in
    let frames = inside.frames in
    let order = inside.order.items in
    let n = c.args.program in
    let there : n < length source.programs = subst (λ (s : Source). n < length s.programs) (sym c.self.view_is) c.requires in
    let long = c.self.invariant.0.codes_are.long in
    let rows = are.values_begin.long in
    let code = c.index-code.result.now in
    let at : slice_get inside.codes.items n ≡ Some code = slice_get_read inside.codes.items (length inside.codes.items) n code refl (omega (arith, there, long, rows)) c.index-code.ensures in
    let made = c.self.invariant.0.codes_are.each n code at in
    let values_are = are.values_begin.each n (omega (arith, there)) in
    let clocks_are = are.clocks_begin.each n (omega (arith, there)) in
    let base_is : base_in inside.values.items inside.clocks.items n ≡ program_base source n = λ i. record { values = values_are i; clocks = clocks_are i } in
    let cost = get_or (program_costs source) n 0 in
    let is : IsCodeOf frames (global_cells source) (length order + n) (program_base source n) cost code = subst (λ base. IsCodeOf frames (global_cells source) (length order + n) base cost code) base_is made in
    let p = the_program source n in
    let found = is_there source n there in
    let types = sound_types source are.sound in
    let names : HasAllNames source = subst HasAllNames (sym are.sound.are_theirs) (c.typed_names_are_known.ensures are.sound.units are.sound.typed) in
    let have_paths = c.frames_have_paths.ensures source order frames are.are_frames are.below types n p found in
    let within = code_within source order are.below frames are.are_frames types names n p found cost code is in
    let few = cells_few source are.sound.limits.slots in
    let whole : IsProgramCode source n code = record {
      sound = c.instrs-instrs.ensures.sound;
      values = λ cells has. let all = has.values in let enough = within.0 in omega (arith, enough, all);
      clocks = λ cells has. let all = has.clocks in let enough = within.1 in omega (arith, enough, all);
      few_values = omega (arith, within.0, few.0);
      few_clocks = omega (arith, within.1, few.1);
      own = names_own source order are.below frames are.are_frames types names n p found cost code is;
      cost = is.tells;
      paths = as_many_paths source order frames n p found have_paths cost code is;
      ends = λ t cells w stands. ends_as_program source order frames n p found have_paths cost code is t cells w (c.frames_agree.ensures source order frames are.are_frames are.below types (sound_named source are.sound) names t n p found w cells stands);
    } in
    subst (λ (s : Source). IsProgramCode s n code) c.self.view_is whole
