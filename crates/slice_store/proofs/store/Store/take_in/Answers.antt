use Rattle.std.proofs.Common.{sym, subst, arith}
use Rattle.std.proofs.lemmas.Grind.{common_steps}
use Rattle.slice_store.specs.Level.{Stored, AreRunsFrom}
use Rattle.slice_store.proofs.Taking.{jobs_of_runs}
use Rattle.slice_store.proofs.store.Store.take_in.Goals as goal

pub take_all-requires : goal.take_all-requires
take_all-requires c =
    let runs : AreRunsFrom _ c.args.runs.items = subst (λ (s : Stored). AreRunsFrom s c.args.runs.items) (sym c.self.view_is) c.requires.runs in
    rw (c.as_mut_slice.ensures.value, c.as_mut_slice-2.ensures.value, c.as_mut_slice-3.ensures.value, c.deref.ensures.value) (c.self.inside.moment, jobs_of_runs _ _ _ runs.jobs c.args.runs.items runs.begin runs.each_once)

pub returns-clause-taken : goal.returns-clause-taken
returns-clause-taken c = grind (arith, common_steps)

pub returns-clause-moment : goal.returns-clause-moment
returns-clause-moment c = grind (arith, common_steps)
