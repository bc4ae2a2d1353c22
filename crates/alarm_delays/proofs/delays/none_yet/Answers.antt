use Rattle.std.proofs.Common.{◌≡◌, ℕ, suc, ◌+◌, ◌++◌, ◌∷◌, [], List, Option, None, replicate, arith, ap, ◌∙◌}
use Rattle.alarm_delays.proofs.DelayLaws.{none_more}
use Rattle.alarm_delays.proofs.delays.none_yet.Goals as goal

pub loop-at-preserved : goal.loop-at-preserved
loop-at-preserved c =
    let next : suc c.loop-at.at ≡ c.loop-at.at + 1 = omega arith in
    c.in_ok-push.ensures.items ∙ ap (λ (x : Option ℕ). c.loop-at.since.items ++ x ∷ []) c.never.ensures ∙ ap (λ (xs : List (Option ℕ)). xs ++ None ∷ []) c.loop-at.invariant ∙ none_more c.loop-at.at ∙ ap (λ k. replicate {A = Option ℕ} k None) next
