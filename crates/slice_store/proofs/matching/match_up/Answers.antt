use Rattle.std.proofs.Common.{◌⊎◌, List, refl}
use Rattle.crew.specs.Runs.{IsEachOnce}
use Rattle.crew.specs.Ticks.{HasStranger, HasDouble, LacksOne, IsTicked}
use Rattle.crew.proofs.Ticking.{no_stranger, no_double}
use Rattle.slice_store.specs.Starts.{Begun}
use Rattle.slice_store.proofs.Ticks.{of_runs}
use Rattle.slice_store.proofs.matching.match_up.Goals as goal

pub misfit_of-requires : goal.misfit_of-requires
misfit_of-requires c =
    of_runs (λ (xs : List Begun). HasStranger c.args.out.now xs ⊎ HasDouble xs) c.args.runs.now (c.if-not-tick_off.ensures.misfit refl)

pub returns-then-not-all_there : goal.returns-then-not-all_there
returns-then-not-all_there c =
    let out = c.args.out.now in
    let runs = c.args.runs.now in
    let t : IsTicked out c.tick_off.new.ticks runs = of_runs (λ (xs : List Begun). IsTicked out c.tick_off.new.ticks xs) runs (c.if-not-tick_off.ensures.ticked refl) in
    let lacking : LacksOne out runs = of_runs (λ (xs : List Begun). LacksOne out xs) runs (c.if-not-all_there.ensures.one refl) in (
      no_stranger out runs t.known,
      no_double runs t.once,
      lacking,
    )

pub returns : goal.returns
returns c = of_runs (λ (xs : List Begun). IsEachOnce c.args.out.now xs) c.args.runs.now (c.if-not-all_there.ensures.all refl)
