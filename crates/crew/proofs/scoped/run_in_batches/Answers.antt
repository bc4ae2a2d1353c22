use Rattle.std.proofs.Common.{arith, rules, ◌≡◌, ◌++◌, take, drop}
use Rattle.std.proofs.lemmas.Grind.{common_steps}
use Rattle.crew.proofs.Batches.{batch_more}
use Rattle.crew.proofs.scoped.run_in_batches.Goals as goal

pub loop-left-preserved : goal.loop-left-preserved
loop-left-preserved g c =
    let all : c.append.new.self.items ≡ c.loop-left.runs.items ++ c.in_ok-batch.batch.items = search rules in
    let taken : c.split_off.new.self.items ≡ take c.args.workers c.loop-left.left.items = search rules in
    let rest : c.in_ok-rest.rest.items ≡ drop c.args.workers c.loop-left.left.items = search rules in
    batch_more g.J.Work.ended_from g.J.Work.start_of c.loop-left.runs.items c.in_ok-batch.batch.items c.append.new.self.items c.args.workers c.loop-left.left.items c.split_off.new.self.items c.in_ok-rest.rest.items c.args.jobs.items all c.in_ok-batch.ensures taken rest c.loop-left.invariant

pub returns : goal.returns
returns g c = grind (arith, common_steps)

pub loop-left-init : goal.loop-left-init
loop-left-init g c = grind (arith, common_steps)
