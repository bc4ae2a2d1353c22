use Rattle.std.proofs.Common.{◌≡◌, Result, Ok, Err, MatchResult, IfErr, sym, true, arith}
use Rattle.std.specs.Result.{is_ok}
use Rattle.std.proofs.lemmas.Grind.{common_steps}
use Rattle.crew.specs.Runs.{IsEachOnce}
use Rattle.slice_store.proofs.Taking.{jobs_of_runs, ready_empty}
use Rattle.slice_store.proofs.store.Store.gather.Goals as goal

at_err : {T E : Type 0} (P : T → Type 0) (Q : E → Type 0) (r : Result T E) → MatchResult r P Q → IfErr r Q
at_err P Q (Ok x) h = tt
at_err P Q (Err e) h = h

at_ok : {T E : Type 0} (A : Type 0) (Q : E → Type 0) (r : Result T E) → is_ok r ≡ true → MatchResult r (λ _. A) Q → A
at_ok A Q (Ok x) e h = h
at_ok A Q (Err x) e h = cc

pub take_all-requires : goal.take_all-requires
take_all-requires c =
    let each : IsEachOnce c.self.inside.out.items c.args.runs.items =
    at_ok _ _ c.match_up-fits.result (sym c.if-is_ok.ensures.value) (rw (c.deref.ensures.value, c.deref-2.ensures.value) at c.match_up-fits.ensures) in
    rw (c.as_mut_slice-then-is_ok.ensures.value, c.as_mut_slice-then-is_ok-2.ensures.value, c.as_mut_slice-then-is_ok-3.ensures.value, c.deref-then-is_ok.ensures.value) (c.self.inside.moment, jobs_of_runs _ _ _ c.self.inside.out.items c.args.runs.items c.self.invariant.jobs each)

pub invariant_of-self : goal.invariant_of-self
invariant_of-self c = rw (c.keep_lists.ensures.out, c.keep_lists.ensures.ticks) (ready_empty _ _ _)

pub returns-clause-misfit : goal.returns-clause-misfit
returns-clause-misfit c =
    rw (← c.self.view_is) (at_err _ _ c.match_up-fits.result (rw (c.deref.ensures.value, c.deref-2.ensures.value) at c.match_up-fits.ensures))

pub returns-clause-fits : goal.returns-clause-fits
returns-clause-fits c = grind (arith, common_steps)

pub match_up-fits-requires-clause-distinct : goal.match_up-fits-requires-clause-distinct
match_up-fits-requires-clause-distinct c = grind (arith, common_steps)
