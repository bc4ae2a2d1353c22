use Rattle.std.proofs.Common.{length, arith, Result, Ok, Err, IfOk}
use Rattle.std.specs.Arc.{arc_value}
use Rattle.std.proofs.lemmas.Grind.{common_steps}
use Rattle.slice_store.specs.Splits.{AreJobsBefore}
use Rattle.slice_store.proofs.Splitting.{jobs_are, jobs_numbered}
use Rattle.slice_store.proofs.store.Store.begin.Goals as goal

if_ok : {T E : Type 0} (P Q : T → Type 0) (r : Result T E) → ((x : T) → P x → Q x) → IfOk r P → IfOk r Q
if_ok P Q (Ok x) then h = then x h
if_ok P Q (Err e) then h = tt

pub begin_level-begun-requires : goal.begin_level-begun-requires
begin_level-begun-requires c = rw c.take_back-reserve.ensures c.requires

pub returns-clause-jobs : goal.returns-clause-jobs
returns-clause-jobs c = rw (← c.take_back-reserve.ensures) c.begin_level-begun.ensures

pub returns-clause-of_cells : goal.returns-clause-of_cells
returns-clause-of_cells c =
    let parts = arc_value c.args.parts.now in
    let begun : IfOk c.begin_level-begun.result (λ jobs. AreJobsBefore parts c.args.levels.now c.args.level c.args.self.now (length parts) jobs.items) = rw (← c.take_back-reserve.ensures) c.begin_level-begun.ensures in
    if_ok _ _ c.begin_level-begun.result (λ jobs are. jobs_are parts c.args.levels.now c.args.level c.args.self.now jobs.items are c.requires) begun

pub returns-clause-numbered : goal.returns-clause-numbered
returns-clause-numbered c =
    let parts = arc_value c.args.parts.now in
    let store = c.args.self.now in
    let begun : IfOk c.begin_level-begun.result (λ jobs. AreJobsBefore parts c.args.levels.now c.args.level store (length parts) jobs.items) = rw (← c.take_back-reserve.ensures) c.begin_level-begun.ensures in
    if_ok _ _ c.begin_level-begun.result
    (λ jobs are. jobs_numbered store.cells (length store.faulted) store.moment jobs.items (jobs_are parts c.args.levels.now c.args.level store jobs.items are c.requires)) begun

pub returns-clause-same : goal.returns-clause-same
returns-clause-same c = grind (arith, common_steps)
