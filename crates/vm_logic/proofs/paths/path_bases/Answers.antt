use Rattle.std.proofs.Common.{◌≡◌, ◌∙◌, ◌<◌, ◌≤◌, ◌+◌, ◌++◌, ◌∷◌, [], ap, sym, subst, length, get_or, rules, arith}
use Rattle.std.proofs.lemmas.List.{length-map, get_or_default}
use Rattle.logic_source.specs.Source.{view_routine, source_of}
use Rattle.logic_source.specs.Paths.{paths_rule, type_paths}
use Rattle.logic_walk.specs.Frames.{frame_paths}
use Rattle.vm_logic.specs.Bases.{stopped_paths, program_paths_base, AreBases}
use Rattle.vm_logic.proofs.Bases.{bases_none, bases_more, paths_begin, paths_next}
use Rattle.vm_logic.proofs.Counted.{routine_at}
use Rattle.vm_logic.proofs.FewPaths.{paths_few}
use Rattle.vm_logic.proofs.Small.{sound_types}
use Rattle.vm_logic.proofs.paths.path_bases.Goals as goal

pub loop-program-init : goal.loop-program-init
loop-program-init c =
    let source = source_of c.args.logic.now in
    record {
      place_is = omega arith;
      at_is = sym (paths_begin source);
      so_far = bases_none (program_paths_base source) c.push.new.self.items 0 (c.in_ok-push.ensures.items ∙ ap (λ l. l ++ 0 ∷ []) c.new-row.ensures.items) (sym (paths_begin source));
    }

pub loop-program-preserved : goal.loop-program-preserved
loop-program-preserved c =
    let logic = c.args.logic.now in
    let source = source_of logic in
    let order = c.args.order.now in
    let frames = c.args.frames.now in
    let k = c.loop-program._program-index in
    let routine = c._program-item.result in
    let p = view_routine routine in
    let before = c.loop-program.invariant in
    let items = c.deref-program-items.ensures.value in
    let less = c.loop-program-test.true in
    let within : k < length logic.programs.items = let e = ap length items in omega (arith, e, less) in
    let at = routine_at logic.programs.items k routine within (c._program-item.is ∙ ap (λ l. get_or l k routine) items) in
    let counts = c.in_ok-counts.counts.items in
    let counted = c.in_ok-counts.ensures in
    let have = c.frames_have_paths.ensures source order frames c.requires.frames c.requires.below (sound_types source c.requires.sound) k p at in
    let place = before.place_is in
    let whole = c.requires.frames.whole in
    let all = length-map logic.programs.items view_routine in
    let long = counted.long in
    let count : c.index.result.now ≡ stopped_paths (length (paths_rule (type_paths source.blocks) p)) =
    c.index.ensures ∙ get_or_default counts c.loop-program.place c.index.result.now 0 (omega (arith, place, whole, all, long, within)) ∙ counted.each c.loop-program.place
    ∙ ap (λ n. stopped_paths (length (frame_paths frames (length frames) n))) place ∙ ap (λ l. stopped_paths (length l)) have
    in
    let next = paths_next source k p at in
    let were = before.at_is in
    let sum = c.add-at.ensures in
    let few = paths_few source c.requires.sound (k + 1) (omega (arith, within, all)) in
    let now : c.add-at.result ≡ program_paths_base source (k + 1) = omega (arith, sum, count, next, were, few) in
    record {
      place_is = omega (arith, place);
      at_is = now;
      so_far = bases_more (program_paths_base source) k c.loop-program.row.items c.push-in-loop-program.new.self.items c.add-at.result before.so_far now c.in_ok-push-2.ensures.items;
    }

pub returns-clause-bases : goal.returns-clause-bases
returns-clause-bases c =
    let logic = c.args.logic.now in
    let source = source_of logic in
    let items = ap length c.deref-program-items.ensures.value in
    let long = length-map logic.programs.items view_routine in
    let past = c.loop-program-test.false in
    let end = c.loop-program.auto._program-index-end in
    let whole : c.loop-program._program-index ≡ length source.programs = omega (arith, items, past, end, long) in
    subst (λ n. AreBases (program_paths_base source) n c.loop-program.row.items) whole c.loop-program.invariant.so_far

pub returns-clause-fit : goal.returns-clause-fit
returns-clause-fit c = let source = source_of c.args.logic.now in paths_few source c.requires.sound (length source.programs) (omega arith)

pub index-requires : goal.index-requires
index-requires c =
    let logic = c.args.logic.now in
    let items = ap length c.deref-program-items.ensures.value in
    let less = c.loop-program-test.true in
    let place = c.loop-program.invariant.place_is in
    let whole = c.requires.frames.whole in
    let all = length-map logic.programs.items view_routine in
    let long = c.in_ok-counts.ensures.long in
    let within : c.loop-program.place < length c.in_ok-counts.counts.items = omega (arith, items, less, place, whole, all, long) in
    search rules

pub overflow_add-place : goal.overflow_add-place
overflow_add-place c =
    let logic = c.args.logic.now in
    let items = ap length c.deref-program-items.ensures.value in
    let less = c.loop-program-test.true in
    let place = c.loop-program.invariant.place_is in
    let whole = c.requires.frames.whole in
    let all = length-map logic.programs.items view_routine in
    let within : c.loop-program.place + 1 ≤ length c.args.frames.now = omega (arith, items, less, place, whole, all) in
    search rules
