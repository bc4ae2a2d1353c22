use Rattle.std.proofs.Common.{◌≡◌, ◌+◌, max, length, arith, ap, sym, ◌∙◌}
use Rattle.std.proofs.lemmas.List.{with_items_is}
use Rattle.level_plan.specs.Accesses.{PlainAccess, Reads, Writes, access_at}
use Rattle.level_plan.specs.Tables.{IsTopBefore, IsRaised}
use Rattle.level_plan.proofs.Greatest.{last_of_push}
use Rattle.level_plan.proofs.Steps.{access_is, within_at, top_low, top_as, raised_as, planned_more, planned_all}
use Rattle.level_plan.proofs.planning.plan.Goals as goal

pub top_before-level-requires-clause-writers : goal.top_before-level-requires-clause-writers
top_before-level-requires-clause-writers c =
    within_at c.args.programs.now c.loop-access.access-index c.args.globals (length c.deref.result.now) c.access-item.result c.requires.within c.loop-access-test.true c.access-item.is (ap length c.deref.ensures.value ∙ c.loop-access.invariant.writers)

pub top_before-level-requires-clause-readers : goal.top_before-level-requires-clause-readers
top_before-level-requires-clause-readers c =
    within_at c.args.programs.now c.loop-access.access-index c.args.globals (length c.deref-in-loop-access.result.now) c.access-item.result c.requires.within c.loop-access-test.true c.access-item.is (ap length c.deref-in-loop-access.ensures.value ∙ c.loop-access.invariant.readers)

pub overflow_add-level : goal.overflow_add-level
overflow_add-level c =
    let programs = c.args.programs.now in
    let index = c.loop-access.access-index in
    let access = access_is programs index c.access-item.result c.loop-access-test.true c.access-item.is in
    let is_top : IsTopBefore c.loop-access.writers.items c.loop-access.readers.items (access_at programs index) c.top_before-level.result =
    top_as c.deref.result.now c.loop-access.writers.items c.deref-in-loop-access.result.now c.loop-access.readers.items c.access-item.result (access_at programs index) c.top_before-level.result c.deref.ensures.value c.deref-in-loop-access.ensures.value (sym access) c.top_before-level.ensures in
    let low = top_low programs c.loop-access.levels.items c.loop-access.writers.items c.loop-access.readers.items index c.top_before-level.result c.loop-access.invariant.planned is_top in
    let few = c.requires.few in
    let within = c.loop-access-test.true in
    omega (arith, low, few, within)

pub raise-requires : goal.raise-requires
raise-requires c =
    let stays = within_at c.args.programs.now c.loop-access.access-index c.args.globals (length c.deref_mut.result.now) c.access-item.result c.requires.within c.loop-access-test.true c.access-item.is (ap length c.deref_mut.ensures.value ∙ c.loop-access.invariant.writers) in
    rw (c.deref-in-loop-access-2.ensures.value, ap (λ (a : PlainAccess). a.writes) c.access.view_is) stays.writes

pub raise-requires-in-loop-access : goal.raise-requires-in-loop-access
raise-requires-in-loop-access c =
    let stays = within_at c.args.programs.now c.loop-access.access-index c.args.globals (length c.deref_mut-in-loop-access.result.now) c.access-item.result c.requires.within c.loop-access-test.true c.access-item.is (ap length c.deref_mut-in-loop-access.ensures.value ∙ c.loop-access.invariant.readers) in
    rw (c.deref-in-loop-access-3.ensures.value, ap (λ (a : PlainAccess). a.reads) c.access.view_is) stays.reads

pub loop-access-preserved : goal.loop-access-preserved
loop-access-preserved c =
    let programs = c.args.programs.now in
    let index = c.loop-access.access-index in
    let writers = c.loop-access.writers.items in
    let readers = c.loop-access.readers.items in
    let top = c.top_before-level.result in
    let access = access_is programs index c.access-item.result c.loop-access-test.true c.access-item.is in
    let is_top : IsTopBefore writers readers (access_at programs index) top =
    top_as c.deref.result.now writers c.deref-in-loop-access.result.now readers c.access-item.result (access_at programs index) top c.deref.ensures.value c.deref-in-loop-access.ensures.value (sym access) c.top_before-level.ensures in
    let written = c.raise.new.levels in
    let read = c.raise-in-loop-access.new.levels in
    let written_long : length written ≡ c.loop-access.writers.len = omega (arith, c.raise.auto.levels, c.deref_mut.ensures.len) in
    let read_long : length read ≡ c.loop-access.readers.len = omega (arith, c.raise-in-loop-access.auto.levels, c.deref_mut-in-loop-access.ensures.len) in
    let raised_writers : IsRaised (Writes (access_at programs index)) (top + 1) writers written =
    raised_as c.deref-in-loop-access-2.result.now (access_at programs index).writes c.deref_mut.result.now writers written (top + 1) (c.deref-in-loop-access-2.ensures.value ∙ ap (λ (a : PlainAccess). a.writes) (c.access.view_is ∙ sym access)) c.deref_mut.ensures.value c.raise.ensures in
    let raised_readers : IsRaised (Reads (access_at programs index)) (top + 1) readers read =
    raised_as c.deref-in-loop-access-3.result.now (access_at programs index).reads c.deref_mut-in-loop-access.result.now readers read (top + 1) (c.deref-in-loop-access-3.ensures.value ∙ ap (λ (a : PlainAccess). a.reads) (c.access.view_is ∙ sym access)) c.deref_mut-in-loop-access.ensures.value c.raise-in-loop-access.ensures in
    rw (with_items_is c.loop-access.writers written written_long, with_items_is c.loop-access.readers read read_long, c.in_ok-push.ensures.items) (record {
      writers = omega (arith, written_long, c.loop-access.invariant.writers, c.loop-access.writers.ok.0);
      readers = omega (arith, read_long, c.loop-access.invariant.readers, c.loop-access.readers.ok.0);
      planned = planned_more programs c.loop-access.levels.items writers readers written read index top c.loop-access.invariant.planned is_top raised_writers raised_readers;
      last = c.max-last.ensures ∙ ap (λ n. max n (top + 1)) c.loop-access.invariant.last ∙ sym (last_of_push c.loop-access.levels.items (top + 1));
    })

pub returns : goal.returns
returns c =
    let all : c.loop-access.access-index ≡ length c.args.programs.now = omega (arith, c.loop-access-test.false, c.loop-access.auto.access-index-end) in
    planned_all c.args.programs.now c.new.result c.loop-access.writers.items c.loop-access.readers.items c.loop-access.access-index all (rw c.new.ensures c.loop-access.invariant.planned)
