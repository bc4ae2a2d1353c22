use Rattle.std.proofs.Common.{◌≡◌, suc, length, ap, subst, arith}
use Rattle.std.specs.Prelude.{Contains}
use Rattle.std.specs.Arc.{arc_value}
use Rattle.slice_store.specs.Starts.{Begun}
use Rattle.level_jobs.specs.Spotted.{Tell}
use Rattle.level_jobs.proofs.Paths.{their_paths}
use Rattle.level_jobs.proofs.running.run_level.Goals as goal

pub faults_of-requires : goal.faults_of-requires
faults_of-requires g c = λ s has.
    let there = subst (λ xs. Contains xs s) c.as_slice.ensures.value has in
    let x = c.in-Ok.ensures.jobs.each s (c.in_ok-runs.ensures.each.no_stranger s there) in
    let e : s.number ≡ suc x.program = ap (λ (s : Begun). s.number) x.starts in
    omega (arith, e)

pub returns-clause-paths : goal.returns-clause-paths
returns-clause-paths g c = λ codes are.
    let tell : Tell c.in_ok-runs.runs.items c.in-Ok-faults_of.faults.items = subst (λ xs. Tell xs c.in-Ok-faults_of.faults.items) c.as_slice.ensures.value c.in-Ok-faults_of.ensures in
    their_paths codes (arc_value c.args.parts.now) c.args.levels.now c.args.level c.args.store.now (length (arc_value c.args.parts.now)) c.in-Ok.jobs.items c.in_ok-runs.runs.items are c.in-Ok.ensures.jobs c.in_ok-runs.ensures.each
    c.in-Ok-faults_of.faults.items tell.of_runs

pub take_in-requires-clause-runs : goal.take_in-requires-clause-runs
take_in-requires-clause-runs g c = rw c.begin.ensures.same (record { jobs = c.in-Ok.jobs.items; begin = c.in-Ok.ensures.of_cells; each_once = c.in_ok-runs.ensures.each })
