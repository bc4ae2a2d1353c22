use Rattle.std.proofs.Common.{◌≡◌, ◌∙◌, ap, sym, subst, refl, length, arith}
use Rattle.std.proofs.lemmas.List.{length-map, get_or_default}
use Rattle.logic_source.specs.Source.{source_of, global_cells}
use Rattle.logic_limits.specs.Counts.{routine_cost, type_cost, program_costs}
use Rattle.logic_frames.specs.Numbers.{HasAllNames}
use Rattle.vm_programs.specs.Codes.{AllNamesFit, CostNoMore}
use Rattle.vm_logic.proofs.Bases.{values_begin}
use Rattle.vm_logic.proofs.Coded.{sound_steady, names_same, codes_same}
use Rattle.vm_logic.proofs.Small.{sound_types}
use Rattle.vm_logic.proofs.Apart.{programs_use_first}
use Rattle.vm_logic.proofs.Costs.{costs_listed}
use Rattle.vm_logic.proofs.Sizes.{frames_small}
use Rattle.vm_logic.proofs.OwnCells.{all_names_fit}
use Rattle.vm_logic.proofs.framed.codes_in.Goals as goal

pub codes_of-requires-clause-steady : goal.codes_of-requires-clause-steady
codes_of-requires-clause-steady c =
    let laid = c.requires.laid in
    sound_steady (source_of c.args.logic.now) c.args.order.now c.args.frames.items laid.sound laid.below laid.are_frames

pub codes_of-requires-clause-named : goal.codes_of-requires-clause-named
codes_of-requires-clause-named c =
    let source = source_of c.args.logic.now in
    let laid = c.requires.laid in
    let frames = c.args.frames.items in
    let order = c.args.order.now in
    let values = c.args.laid.now.values.items in
    let clocks = c.args.laid.now.clocks.items in
    let names : HasAllNames source = subst HasAllNames (sym laid.sound.are_theirs) (c.typed_names_are_known.ensures laid.sound.units laid.sound.typed) in
    let many = length-map source.programs (routine_cost (type_cost source.blocks)) in
    let fit : AllNamesFit frames (global_cells source) (length order) values clocks (program_costs source) =
    all_names_fit source order laid.below frames laid.are_frames (sound_types source laid.sound) names laid.sound.limits.slots values clocks (program_costs source) laid.values_begin laid.clocks_begin many in
    let long = c.requires.laid.values_begin.long in
    let globals_are : c.index.result.now ≡ global_cells source =
    c.index.ensures ∙ get_or_default c.args.laid.now.values.items 0 c.index.result.now 0 (omega (arith, long)) ∙ c.requires.laid.values_begin.each 0 (omega arith) ∙ values_begin source
    in
    names_same frames frames (global_cells source) c.index.result.now (length order) values c.deref.result.now clocks c.deref-2.result.now (program_costs source) c.args.costs.now
    refl (sym globals_are) (sym c.deref.ensures.value) (sym c.deref-2.ensures.value) (sym c.requires.costs) fit

pub codes_of-requires-clause-small : goal.codes_of-requires-clause-small
codes_of-requires-clause-small c =
    let source = source_of c.args.logic.now in
    let laid = c.requires.laid in
    let order = c.args.order.now in
    let names : HasAllNames source = subst HasAllNames (sym laid.sound.are_theirs) (c.typed_names_are_known.ensures laid.sound.units laid.sound.typed) in
    frames_small source order c.args.frames.items laid.are_frames laid.below (sound_types source laid.sound) names (c.block_type_counts.ensures.size source.blocks order) laid.sound (c.block_type_counts.ensures.slots source.blocks order laid.below)

pub codes_of-requires-clause-costs : goal.codes_of-requires-clause-costs
codes_of-requires-clause-costs c =
    let source = source_of c.args.logic.now in
    let told = ap length c.requires.costs in
    let many = length-map source.programs (routine_cost (type_cost source.blocks)) in
    let rows = ap length c.deref.ensures.value in
    let long = c.requires.laid.values_begin.long in
    omega (arith, told, many, rows, long)

pub codes_of-requires-clause-enough : goal.codes_of-requires-clause-enough
codes_of-requires-clause-enough c =
    let source = source_of c.args.logic.now in
    let laid = c.requires.laid in
    let frames = c.args.frames.items in
    let order = c.args.order.now in
    let names : HasAllNames source = subst HasAllNames (sym laid.sound.are_theirs) (c.typed_names_are_known.ensures laid.sound.units laid.sound.typed) in
    let enough : CostNoMore frames (length order) (program_costs source) = costs_listed source order frames laid.are_frames laid.below (sound_types source laid.sound) names (c.block_type_counts.ensures.cost source.blocks order) in
    subst (CostNoMore frames (length order)) (sym c.requires.costs) enough

pub codes_of-requires-clause-apart : goal.codes_of-requires-clause-apart
codes_of-requires-clause-apart c =
    let source = source_of c.args.logic.now in
    let laid = c.requires.laid in
    programs_use_first source c.args.order.now c.args.frames.items laid.are_frames laid.below (sound_types source laid.sound)

pub returns : goal.returns
returns c =
    let source = source_of c.args.logic.now in
    let frames = c.args.frames.items in
    let order = c.args.order.now in
    let long = c.requires.laid.values_begin.long in
    let globals_are : c.index.result.now ≡ global_cells source =
    c.index.ensures ∙ get_or_default c.args.laid.now.values.items 0 c.index.result.now 0 (omega (arith, long)) ∙ c.requires.laid.values_begin.each 0 (omega arith) ∙ values_begin source
    in
    codes_same frames frames c.index.result.now (global_cells source) (length order) (length order) c.deref.result.now c.args.laid.now.values.items c.deref-2.result.now c.args.laid.now.clocks.items c.args.costs.now (program_costs source) c.in_ok-codes.codes.items
    refl globals_are refl c.deref.ensures.value c.deref-2.ensures.value c.requires.costs c.in_ok-codes.ensures
