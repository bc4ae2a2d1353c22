use Rattle.std.proofs.Common.{◌≡◌, List, sym, subst, rules}
use Rattle.std.specs.Arc.{arc_value}
use Rattle.vm_slices.specs.Parts.{PlainPart}
use Rattle.level_jobs.specs.Splits.{ArePartsOf}
use Rattle.level_jobs.proofs.Planned.{parts_are}
use Rattle.level_scans.proofs.ByLevels.{stored, can_split, of_programs, levels_ran}
use Rattle.level_scans.proofs.by_crew.run_in_levels.Goals as goal

pub run_levels-requires-clause-programs : goal.run_levels-requires-clause-programs
run_levels-requires-clause-programs g c = λ level.
    let source = c.args.given.now.framed.now in
    let cells = c.args.changed.now.cells.now in
    let start_is : c.lend.new.self ≡ stored cells c.args.changed.now.faulted.now.items c.args.given.now.moment = search rules in
    can_split source (record { values = c.programs_share_no_cell.ensures.values source; clocks = c.programs_share_no_cell.ensures.clocks source }) c.args.given.now.levelled.now c.requires.levels cells c.args.changed.now.faulted.now.items c.args.given.now.moment c.requires.cells c.requires.flags
    (c.sound_source_is_small.ensures.programs source c.programs-programs.ensures.sound) (arc_value c.parts-parts.result.now) c.levels.result.now c.lend.new.self c.parts-parts.ensures c.levels.ensures start_is level

pub returns-in-Ok-clause-ran : goal.returns-in-Ok-clause-ran
returns-in-Ok-clause-ran g c = λ w stands.
    let source = c.args.given.now.framed.now in
    let l = c.args.given.now.levelled.now in
    let cells = c.args.changed.now.cells.now in
    let is = c.requires.levels in
    let parts = arc_value c.parts-parts.result.now in
    let faults = c.in-Ok.faults.items in
    let start_is : c.lend.new.self ≡ stored cells c.args.changed.now.faulted.now.items c.args.given.now.moment = search rules in
    let there : ArePartsOf is.codes parts = subst (λ (p : List PlainPart). ArePartsOf is.codes p) (sym c.parts-parts.ensures) (parts_are is.codes l.parts is.parts) in
    let of = of_programs source is.codes is.are faults (c.in-Ok.ensures.paths is.codes there) in
    rw (c.into_parts-left.ensures.cells, c.into_parts-left.ensures.faulted, c.take_back.ensures)
    (levels_ran source (record { values = c.programs_share_no_cell.ensures.values source; clocks = c.programs_share_no_cell.ensures.clocks source }) c.args.given.now.moment l is (c.place_is_in_source.ensures.spot source) cells c.args.changed.now.faulted.now.items c.requires.flags parts c.levels.result.now c.lend.new.self c.run_levels.new.store faults
    c.parts-parts.ensures c.levels.ensures start_is c.in-Ok.ensures.in_order of w stands)

pub returns-in-Ok-clause-told : goal.returns-in-Ok-clause-told
returns-in-Ok-clause-told g c =
    let is = c.requires.levels in
    let there : ArePartsOf is.codes (arc_value c.parts-parts.result.now) = subst (λ (p : List PlainPart). ArePartsOf is.codes p) (sym c.parts-parts.ensures) (parts_are is.codes c.args.given.now.levelled.now.parts is.parts) in
    of_programs c.args.given.now.framed.now is.codes is.are c.in-Ok.faults.items (c.in-Ok.ensures.paths is.codes there)
