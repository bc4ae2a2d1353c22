use Rattle.std.proofs.Common.{◌++◌, IfOk, IfErr, map, sym, subst, arith}
use Rattle.std.proofs.lemmas.Grind.{common_steps}
use Rattle.crew.specs.Runs.{IsDistinct, IsEachOnce}
use Rattle.crew.proofs.Same.{distinct}
use Rattle.standing_crew.specs.Standings.{IsRunFault}
use Rattle.standing_crew.proofs.RunFaults.{shared_fault}
use Rattle.standing_crew.proofs.Gathering.{parted}
use Rattle.standing_crew.proofs.standing.Standing.round.Goals as goal

pub run_shared-requires : goal.run_shared-requires
run_shared-requires g c =
    let all = parted g.J.Work.start_of c.args.jobs.items c.split_off.new.self.items c.in-Ok.jobs.items c.kept-many.result.0 c.in-Ok.ensures.items c.in-Ok.ensures.tail in
    subst (λ xs. IsDistinct xs) (sym all) (distinct g.J.Work.number_of (map g.J.Work.start_of c.args.jobs.items) c.requires)

pub returns-clause-each : goal.returns-clause-each
returns-clause-each g c =
    let all = parted g.J.Work.start_of c.args.jobs.items c.split_off.new.self.items c.in-Ok.jobs.items c.kept-many.result.0 c.in-Ok.ensures.items c.in-Ok.ensures.tail in
    subst (λ xs. IfOk c.run_shared.result (λ runs. IsEachOnce xs (map g.J.Work.ended_from runs.items))) all c.run_shared.ensures.each

pub returns-clause-lost : goal.returns-clause-lost
returns-clause-lost g c = grind (arith, common_steps)

pub returns-in_default-clause-lost : goal.returns-in_default-clause-lost
returns-in_default-clause-lost g c = grind (arith, common_steps)

pub run_alone-requires : goal.run_alone-requires
run_alone-requires g c = grind (arith, common_steps)

pub returns-then-self-lt2-clause-lost : goal.returns-then-self-lt2-clause-lost
returns-then-self-lt2-clause-lost g c = grind (arith, common_steps)

pub returns-in_default-clause-stands : goal.returns-in_default-clause-stands
returns-in_default-clause-stands g c = grind (arith, common_steps)

pub returns-clause-why : goal.returns-clause-why
returns-clause-why g c =
    let of = g.J.Work.ended_from in
    let old = c.args.self.now in
    let new = c.run_shared.new.self in
    let starts = map g.J.Work.start_of c.split_off.new.self.items ++ map g.J.Work.start_of c.in-Ok.jobs.items in
    let all = parted g.J.Work.start_of c.args.jobs.items c.split_off.new.self.items c.in-Ok.jobs.items c.kept-many.result.0 c.in-Ok.ensures.items c.in-Ok.ensures.tail in
    subst (λ xs. IfErr c.run_shared.result (λ fault. IsRunFault of xs old new fault)) all (shared_fault of starts old new c.run_shared.result c.run_shared.ensures.why)
