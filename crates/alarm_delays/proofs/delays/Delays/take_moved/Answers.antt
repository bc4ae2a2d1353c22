use Rattle.std.proofs.Common.{◌≡◌, ◌++◌, ℕ, Option, List, true, length, fold, take, drop, arith, ap, subst, sym, ◌∙◌}
use Rattle.alarm_delays.specs.Delays.{PlainDelays, IsDelays, have_none, last_conditions, put_since}
use Rattle.alarm_delays.proofs.DelayLaws.{length_puts, puts_plain, written_back}
use Rattle.alarm_delays.proofs.delays.Delays.take_moved.Goals as goal

pub invariant_of-self : goal.invariant_of-self
invariant_of-self c =
    let d = c.self.inside in
    let new = c.put_last.new.since in
    let met = last_conditions c.args.moved.now in
    let none : have_none d.delays.items ≡ true = ap (λ (x : PlainDelays). have_none x.delays) c.self.view_is ∙ c.requires in
    let puts : new ≡ fold (put_since d.last) d.since.items met = c.put_last.ensures ∙ ap (λ (l : List (Option ℕ)). fold (put_since d.last) l met) c.deref_mut.ensures.value in
    let many : length new ≡ length d.since.items = ap length puts ∙ length_puts d.last d.since.items met in
    let all : take d.since.len (new ++ drop (length new) d.since.items) ≡ new = written_back d.since.len new d.since.items (omega (arith, d.since.ok.0)) many in
    subst (λ (l : List (Option ℕ)). IsDelays d.delays.items l d.last d.due d.is_plain) (sym (all ∙ puts)) (puts_plain d.delays.items d.since.items d.last d.due d.is_plain met c.self.invariant none)
