use Rattle.std.proofs.Common.{◌∙◌, ap, map, sym, arith}
use Rattle.logic_source.specs.Source.{source_of}
use Rattle.logic_limits.specs.declared.measures.Counts.{Counts}
use Rattle.logic_limits.specs.Counts.{program_costs}
use Rattle.logic_limits.proofs.Totals.{slots_are, size_is, costly_is, one_past, none_past, costs_stop, costs_kept}
use Rattle.logic_limits.proofs.judging.limits.Goals as goal

pub returns-then-slots-ge-LAST_SLOTS-clause-kept : goal.returns-then-slots-ge-LAST_SLOTS-clause-kept
returns-then-slots-ge-LAST_SLOTS-clause-kept c =
    let slots = slots_are (source_of c.args.logic.now) c.deref.result.now c.in_ok-programs.programs.items c.all_slots-slots.result c.deref.ensures.value c.in_ok-programs.ensures c.all_slots-slots.ensures in
    let past = c.if-slots-ge-LAST_SLOTS.true in
    omega arith

pub returns-then-size-ge-LAST_SIZE-clause-kept : goal.returns-then-size-ge-LAST_SIZE-clause-kept
returns-then-size-ge-LAST_SIZE-clause-kept c =
    let source = source_of c.args.logic.now in
    let programs = c.in_ok-programs.programs.items in
    let slots = slots_are source c.deref.result.now programs c.all_slots-slots.result c.deref.ensures.value c.in_ok-programs.ensures c.all_slots-slots.ensures in
    let few = c.if-slots-ge-LAST_SLOTS.false in
    let size = size_is source c.deref-2.result.now programs c.all_size-size.result c.deref-2.ensures.value c.in_ok-programs.ensures c.all_size-size.ensures in
    let past = c.if-size-ge-LAST_SIZE.true in (
      omega arith,
      omega arith,
    )

pub returns-then-some_costly-clause-kept : goal.returns-then-some_costly-clause-kept
returns-then-some_costly-clause-kept c =
    let source = source_of c.args.logic.now in
    let programs = c.in_ok-programs.programs.items in
    let slots = slots_are source c.deref.result.now programs c.all_slots-slots.result c.deref.ensures.value c.in_ok-programs.ensures c.all_slots-slots.ensures in
    let few = c.if-slots-ge-LAST_SLOTS.false in
    let size = size_is source c.deref-2.result.now programs c.all_size-size.result c.deref-2.ensures.value c.in_ok-programs.ensures c.all_size-size.ensures in
    let small = c.if-size-ge-LAST_SIZE.false in
    let costly = costly_is source c.deref-3.result.now programs c.some_costly.result c.deref-3.ensures.value c.in_ok-programs.ensures c.some_costly.ensures in (
      omega arith,
      omega arith,
      one_past 2000000 (program_costs source) (sym costly ∙ c.if-some_costly.true),
    )

pub returns-clause-kept : goal.returns-clause-kept
returns-clause-kept c =
    let source = source_of c.args.logic.now in
    let programs = c.in_ok-programs.programs.items in
    let slots = slots_are source c.deref.result.now programs c.all_slots-slots.result c.deref.ensures.value c.in_ok-programs.ensures c.all_slots-slots.ensures in
    let few = c.if-slots-ge-LAST_SLOTS.false in
    let size = size_is source c.deref-2.result.now programs c.all_size-size.result c.deref-2.ensures.value c.in_ok-programs.ensures c.all_size-size.ensures in
    let small = c.if-size-ge-LAST_SIZE.false in
    let costly = costly_is source c.deref-3.result.now programs c.some_costly.result c.deref-3.ensures.value c.in_ok-programs.ensures c.some_costly.ensures in
    record {
      slots = omega arith;
      size = omega arith;
      cost = none_past 2000000 (program_costs source) (sym costly ∙ c.if-some_costly.false);
    }

pub returns-clause-costs : goal.returns-clause-costs
returns-clause-costs c =
    let source = source_of c.args.logic.now in
    let programs = c.in_ok-programs.programs.items in
    let costly = costly_is source c.deref-3.result.now programs c.some_costly.result c.deref-3.ensures.value c.in_ok-programs.ensures c.some_costly.ensures in
    let keeps = none_past 2000000 (program_costs source) (sym costly ∙ c.if-some_costly.false) in
    c.in_ok-costs.ensures ∙ ap (map (λ (p : Counts). p.cost)) c.deref-4.ensures.value ∙ costs_stop source programs c.in_ok-programs.ensures ∙ costs_kept source keeps
