use Rattle.std.proofs.Common.{◌≡◌, ◌+◌, ◌++◌, [], ◌∷◌, Option, ℕ, Some, None, take, arith, ap, ◌∙◌}
use Rattle.std.proofs.lemmas.List.{take_more, length-take}
use Rattle.alarm_watch.proofs.ChainLaws.{chains_with, chains_without}
use Rattle.alarm_watch.proofs.chains.chains_of.Goals as goal
use Rattle.alarm_watch.proofs.chains.chains_of.Goals.{in-Some+in_ok-before-in-Some, in-None}

pub loop-at-preserved : goal.loop-at-preserved
loop-at-preserved c =
    let within = c.loop-at-test.true in
    let keys = c.args.keys.now in
    let many = length-take c.loop-at.at keys in
    elim c.match-keys-at.branch [
      | in-Some+in_ok-before-in-Some w ↦
          let front : take (c.loop-at.at + 1) keys ≡ take c.loop-at.at keys ++ Some w.in-Some.global ∷ [] = take_more keys c.loop-at.at None within ∙ ap (λ (k : Option ℕ). take c.loop-at.at keys ++ k ∷ []) w.in-Some.is in
          rw (front, c.in_ok-push.ensures.items, w.first-is, w.before-is) (chains_with (take c.loop-at.at keys) c.loop-at.first.items w.put_first.new.first.items c.loop-at.next.items w.in-Some.global (c.loop-at.at + 1) w.in_ok-before-in-Some.before (omega (arith, many, within)) w.in_ok-before-in-Some.ensures.found w.in_ok-before-in-Some.ensures.put c.loop-at.invariant)
      | in-None w ↦
          let front : take (c.loop-at.at + 1) keys ≡ take c.loop-at.at keys ++ None ∷ [] = take_more keys c.loop-at.at None within ∙ ap (λ (k : Option ℕ). take c.loop-at.at keys ++ k ∷ []) w.in-None.is in
          rw (front, c.in_ok-push.ensures.items, w.first-is) (chains_without (take c.loop-at.at keys) c.loop-at.first.items c.loop-at.next.items c.match-keys-at.before w.before-is c.loop-at.invariant)
    ]
