use Rattle.std.proofs.Common.{refl, ap, ◌∙◌}
use Rattle.level_scans.proofs.ByLevels.{stored, can_split}
use Rattle.try_twins.proofs.levels.new_store.Goals as goal

pub returns-clause-can : goal.returns-clause-can
returns-clause-can c = λ level.
    let source = c.args.framed.now in
    let l = c.args.levelled.now in
    let cells = c.args.state.now.cells in
    let flags = c.args.state.now.faulted.items in
    let start_is = c.in_ok-store.ensures ∙ ap (λ f. stored cells f c.args.moment) c.as_slice.ensures.value in
    can_split source (record { values = c.programs_share_no_cell.ensures.values source; clocks = c.programs_share_no_cell.ensures.clocks source }) l c.requires.levels cells flags c.args.moment c.requires.cells c.requires.flags (c.sound_source_is_small.ensures.programs source c.programs-programs.ensures.sound)
    l.parts l.levels c.in_ok-store.store refl refl start_is level
