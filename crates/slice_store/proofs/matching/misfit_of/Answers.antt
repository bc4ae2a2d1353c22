use Rattle.std.proofs.Common.{List, refl, ⊎_elim}
use Rattle.crew.specs.Ticks.{HasStranger, HasDouble}
use Rattle.slice_store.specs.Starts.{Begun}
use Rattle.slice_store.proofs.Ticks.{of_runs}
use Rattle.slice_store.proofs.matching.misfit_of.Goals as goal

pub returns-then-all_known : goal.returns-then-all_known
returns-then-all_known c =
    let none : HasStranger c.args.out.now c.args.runs.now → ⊥ = of_runs (λ (xs : List Begun). HasStranger c.args.out.now xs → ⊥) c.args.runs.now (c.if-all_known.ensures.known refl) in
    (none, ⊎_elim (λ (a : HasStranger c.args.out.now c.args.runs.now). absurd (none a)) (λ (b : HasDouble c.args.runs.now). b) c.requires)

pub returns : goal.returns
returns c = of_runs (λ (xs : List Begun). HasStranger c.args.out.now xs) c.args.runs.now (c.if-all_known.ensures.stranger refl)
