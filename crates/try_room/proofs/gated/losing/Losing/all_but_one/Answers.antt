use Rattle.std.proofs.Common.{◌∙◌, map, ap, sym, subst}
use Rattle.crew.specs.Runs.{IsDistinct}
use Rattle.crew.proofs.Same.{distinct}
use Rattle.try_room.proofs.gated.losing.Losing.all_but_one.Goals as goal

pub assemble-requires : goal.assemble-requires
assemble-requires g c =
    let starts = map g.J.Work.start_of c.args.jobs.items in
    subst (λ xs. IsDistinct xs) (sym (c.as_slice-in-Ok-run.ensures.value ∙ c.in-Ok.ensures ∙ ap (λ xs. map g.J.Work.start_of xs) c.as_slice.ensures.value)) (distinct g.J.Work.number_of starts c.requires)
