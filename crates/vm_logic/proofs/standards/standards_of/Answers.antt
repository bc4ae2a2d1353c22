use Rattle.std.proofs.Common.{◌≡◌, ◌∙◌, ◌<◌, ◌≤◌, ◌+◌, ◌++◌, ◌∷◌, [], ap, sym, subst, length, get_or, rules, arith}
use Rattle.std.proofs.lemmas.List.{length-map, length-append}
use Rattle.plant_types.specs.Words.{folded}
use Rattle.logic_source.specs.Source.{view_routine, source_of}
use Rattle.logic_source.specs.Seats.{program_clocks_base}
use Rattle.logic_source.specs.Layout.{ClockAt, clocks_rule, routine_clocks}
use Rattle.logic_source.proofs.Seats.{clocks_length, routine_clocks_length}
use Rattle.logic_walk.specs.Standards.{frame_standards}
use Rattle.logic_frames.specs.Stands.{standard_of}
use Rattle.vm_logic.specs.Bases.{AreBases}
use Rattle.vm_logic.proofs.Bases.{bases_none, bases_more, clocks_begin, clocks_next}
use Rattle.vm_logic.proofs.Counted.{routine_at}
use Rattle.vm_logic.proofs.Placed.{standards_in, standards_of, standards_more, standards_all}
use Rattle.vm_logic.proofs.standards.standards_of.Goals as goal

pub loop-program-init : goal.loop-program-init
loop-program-init c =
    let source = source_of c.args.logic.now in
    record {
      place_is = omega arith;
      list_is = ap (λ l. l ++ standards_in source.blocks source.programs) c.new-list.ensures.items;
      many = ap length c.new-list.ensures.items ∙ sym (clocks_begin source);
      so_far = bases_none (program_clocks_base source) c.push.new.self.items 0 (c.in_ok-push.ensures.items ∙ ap (λ l. l ++ 0 ∷ []) c.new-bases.ensures.items) (sym (clocks_begin source));
    }

pub loop-program-preserved : goal.loop-program-preserved
loop-program-preserved c =
    let logic = c.args.logic.now in
    let source = source_of logic in
    let order = c.args.order.now in
    let frames = c.args.frames.now in
    let k = c.loop-program._program-index in
    let routine = c._program-item.result in
    let p = view_routine routine in
    let before = c.loop-program.invariant in
    let items = c.deref-program-items.ensures.value in
    let less = c.loop-program-test.true in
    let within : k < length logic.programs.items = let e = ap length items in omega (arith, e, less) in
    let at = routine_at logic.programs.items k routine within (c._program-item.is ∙ ap (λ l. get_or l k routine) items) in
    let have = c.frames_have_standards.ensures source order frames c.requires.frames c.requires.below c.requires.types k p at in
    let list = c.loop-program.list.items in
    let list' = c.push_standards.new.standards.items in
    let pushed = c.in_ok-push_standards.ensures ∙ ap (λ n. list ++ frame_standards frames (length frames) n) before.place_is ∙ ap (λ l. list ++ l) have in
    let clocks = clocks_rule (routine_clocks source.blocks) p (folded p.name ∷ []) in
    let many : length list' ≡ program_clocks_base source (k + 1) =
    let long = ap length pushed in
    let sum = length-append list (standards_of source.blocks p) in
    let mapped = length-map clocks (λ (x : ClockAt). standard_of x.of) in
    let same = clocks_length (routine_clocks source.blocks) (routine_clocks_length source.blocks) p.instances (folded p.name ∷ []) [] in
    let next = clocks_next source k p at in
    let were = before.many in
    omega (arith, long, sum, mapped, same, next, were)
    in
    let place = before.place_is in
    let len = c.len.ensures in
    let ok = c.push_standards.new.standards.ok in
    let count : c.len.result ≡ program_clocks_base source (k + 1) = omega (arith, len, ok.0, many) in
    record {
      place_is = omega (arith, place);
      list_is = standards_more source k p list list' at before.list_is pushed;
      many = many;
      so_far = bases_more (program_clocks_base source) k c.loop-program.bases.items c.push-in-loop-program.new.self.items c.len.result before.so_far count c.in_ok-push-2.ensures.items;
    }

pub returns-clause-list : goal.returns-clause-list
returns-clause-list c =
    let logic = c.args.logic.now in
    let items = ap length c.deref-program-items.ensures.value in
    let long = length-map logic.programs.items view_routine in
    let past = c.loop-program-test.false in
    standards_all (source_of logic) c.loop-program._program-index c.loop-program.list.items (omega (arith, items, long, past)) c.loop-program.invariant.list_is

pub returns-clause-bases : goal.returns-clause-bases
returns-clause-bases c =
    let logic = c.args.logic.now in
    let source = source_of logic in
    let items = ap length c.deref-program-items.ensures.value in
    let long = length-map logic.programs.items view_routine in
    let past = c.loop-program-test.false in
    let end = c.loop-program.auto._program-index-end in
    let whole : c.loop-program._program-index ≡ length source.programs = omega (arith, items, past, end, long) in
    subst (λ n. AreBases (program_clocks_base source) n c.loop-program.bases.items) whole c.loop-program.invariant.so_far

pub overflow_add-place : goal.overflow_add-place
overflow_add-place c =
    let logic = c.args.logic.now in
    let items = ap length c.deref-program-items.ensures.value in
    let less = c.loop-program-test.true in
    let place = c.loop-program.invariant.place_is in
    let whole = c.requires.frames.whole in
    let all = length-map logic.programs.items view_routine in
    let within : c.loop-program.place + 1 ≤ length c.args.frames.now = omega (arith, items, less, place, whole, all) in
    search rules
