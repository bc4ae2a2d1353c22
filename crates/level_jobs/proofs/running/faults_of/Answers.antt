use Rattle.std.proofs.Common.{◌≡◌, ◌-◌, ◌++◌, ◌∷◌, [], take, Ok, Err, sym, subst, arith}
use Rattle.std.proofs.lemmas.List.{take_more}
use Rattle.slice_store.specs.Starts.{Begun, Gives}
use Rattle.level_jobs.specs.Spotted.{Tell}
use Rattle.level_jobs.specs.declared.fault.ProgramFault.{ProgramFault}
use Rattle.level_jobs.proofs.Telling.{tell_end, tell_stop, one_before}
use Rattle.level_jobs.proofs.running.faults_of.Goals as goal
use Rattle.level_jobs.proofs.running.faults_of.Goals.{in-Ok, in-Err+in_ok-push-in-Err}

pub overflow_sub-program : goal.overflow_sub-program
overflow_sub-program c =
    let n = c.requires c.done-item.result (c.loop-done.done-index, c.loop-done-test.true, sym c.done-item.is) in
    let e = c.number-program.ensures in
    omega arith

pub loop-done-preserved : goal.loop-done-preserved
loop-done-preserved c =
    let runs = c.args.runs.now in
    let n = c.loop-done.done-index in
    let s = c.done-item.result in
    let P : Begun → Type 0 = λ t. Tell (take n runs ++ t ∷ []) c.match-ran.faults.items in
    let more : P s = elim c.match-ran.branch [
      | in-Ok w ↦
          let gives : Gives s (Ok tt) w.in-Ok.ensures.0 = w.in-Ok.ensures.1 in
          let items : c.loop-done.faults.items ≡ c.match-ran.faults.items = cc (w.faults-is) in
          subst (Tell (take n runs ++ s ∷ [])) items (tell_end (take n runs) c.loop-done.faults.items s tt w.in-Ok.ensures.0 c.loop-done.invariant gives)
      | in-Err+in_ok-push-in-Err w ↦
          let fault : ProgramFault = record { program = w.number-program.result - 1; stop = w.in-Err.stop } in
          let above = c.requires s (n, c.loop-done-test.true, sym c.done-item.is) in
          let program = one_before s.number w.number-program.result w.number-program.ensures above in
          let gives : Gives s (Err w.in-Err.stop) w.in-Err.ensures.0 = w.in-Err.ensures.1 in
          let items : c.loop-done.faults.items ++ fault ∷ [] ≡ c.match-ran.faults.items = cc (w.in_ok-push-in-Err.ensures.items) in
          subst (Tell (take n runs ++ s ∷ [])) items
          (tell_stop (take n runs) c.loop-done.faults.items s w.in-Err.stop w.in-Err.ensures.0 fault c.loop-done.invariant gives (λ i. record { program = program i; stop = w.in-Err.stop }))
    ] in
    rw (take_more runs n s c.loop-done-test.true) (subst P c.done-item.is more)
