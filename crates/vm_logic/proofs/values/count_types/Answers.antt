use Rattle.std.proofs.Common.{◌∙◌, ap, refl, ◌<◌, length, map, get_or, set, rules, arith}
use Rattle.std.proofs.lemmas.List.{length-map, length-set}
use Rattle.std.proofs.lemmas.Grind.{common_steps}
use Rattle.logic_source.specs.Source.{view_routine}
use Rattle.vm_logic.specs.Bases.{stopped, value_count, numbers_in}
use Rattle.vm_logic.proofs.Counted.{within, routine_at, counted_more, counted_all}
use Rattle.vm_logic.proofs.values.count_types.Goals as goal

pub offset_bounds-blocks-number : goal.offset_bounds-blocks-number
offset_bounds-blocks-number c =
    let blocks = c.args.blocks.now in
    let a = get_or c.args.order.now c.loop-number.number-index 0 in
    let long = length-map blocks view_routine in
    let listed = within (map view_routine blocks) c.args.order.now c.requires c.loop-number.number-index a c.loop-number-test.true refl in
    let less : a < length blocks = omega (arith, listed, long) in
    search rules

pub bounds-blocks-number : goal.bounds-blocks-number
bounds-blocks-number c =
    let blocks = c.args.blocks.now in
    let a = get_or c.args.order.now c.loop-number.number-index 0 in
    let long = length-map blocks view_routine in
    let listed = within (map view_routine blocks) c.args.order.now c.requires c.loop-number.number-index a c.loop-number-test.true refl in
    omega (arith, listed, long)

pub index_mut-requires : goal.index_mut-requires
index_mut-requires c =
    let blocks = c.args.blocks.now in
    let a = get_or c.args.order.now c.loop-number.number-index 0 in
    let listed = within (map view_routine blocks) c.args.order.now c.requires c.loop-number.number-index a c.loop-number-test.true refl in
    let long = c.loop-number.invariant.long in
    let less : a < length c.loop-number.counts.items = omega (arith, listed, long) in
    search rules

pub loop-number-preserved : goal.loop-number-preserved
loop-number-preserved c =
    let blocks = c.args.blocks.now in
    let plain = map view_routine blocks in
    let order = c.args.order.now in
    let k = c.loop-number.number-index in
    let a = get_or order k 0 in
    let counts = c.loop-number.counts.items in
    let count = c.value_count-count.result in
    let routine = c.index-blocks-number.result in
    let listed = within plain order c.requires k a c.loop-number-test.true refl in
    let long = length-map blocks view_routine in
    let less : a < length blocks = omega (arith, listed, long) in
    let count_is = c.value_count-count.ensures ∙ ap (λ l. stopped (value_count (numbers_in l) (view_routine routine))) c.deref.ensures.value in
    record {
      long = length-set counts a count ∙ c.loop-number.invariant.long;
      known = counted_more plain order c.requires counts (set counts a count) k a (view_routine routine) count c.loop-number.invariant.long c.loop-number-test.true refl (routine_at blocks a routine less c.index-blocks-number.is) count_is refl c.loop-number.invariant.known;
    }

pub returns : goal.returns
returns c = counted_all (map view_routine c.args.blocks.now) c.args.order.now c.requires c.loop-number.counts.items c.loop-number.number-index c.loop-number.invariant.long c.loop-number-test.false c.loop-number.invariant.known

pub loop-number-init : goal.loop-number-init
loop-number-init c = grind (arith, common_steps)
