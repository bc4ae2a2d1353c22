use Rattle.std.proofs.Common.{◌++◌, ◌∙◌, map, refl, ap}
use Rattle.crew.proofs.Same.{same_once}
use Rattle.standing_crew.proofs.standing.Standing.run_alone.Goals as goal

pub returns-then-run_all : goal.returns-then-run_all
returns-then-run_all g c =
    let f = g.J.Work.ended_from in
    let e = c.if-run_all.ensures refl ∙ ap (λ xs. map f xs ++ map g.J.Work.start_of c.args.jobs.items) c.new-runs.ensures.items in
    record { each = same_once g.J.Work.number_of _ _ c.requires e; memory = tt }
