use Rattle.std.proofs.Common.{◌≡◌, arith, ap, sym, ◌∙◌}
use Rattle.std.proofs.lemmas.Grind.{common_steps}
use Rattle.std.proofs.lemmas.List.{drop_all}
use Rattle.alarm_bank.specs.Banks.{PlainBank}
use Rattle.alarm_bank.specs.Moves.{put_all}
use Rattle.alarm_bank.proofs.MoveLaws.{put_moved, same_bank}
use Rattle.alarm_bank.proofs.bank.Bank.apply.Goals as goal

pub returns-clause-scanned : goal.returns-clause-scanned
returns-clause-scanned c new are =
    let none = drop_all c.loop-number.number-index c.args.moved.now (omega arith) in
    let all : c.loop-number.self.alarms ≡ new = ap (put_all c.loop-number.self.alarms) (sym none) ∙ c.loop-number.invariant.put ∙ put_moved c.args.self.now.alarms new c.args.moved.now are in
    let inside : c.self.inside.alarms.items ≡ new = ap (λ (b : PlainBank). b.alarms) c.self.view_is ∙ all in
    same_bank _ _ _ _ _ (ap (λ (b : PlainBank). b.sites) c.self.view_is ∙ c.loop-number.invariant.sites) inside

pub loop-number-preserved : goal.loop-number-preserved
loop-number-preserved c = grind (arith, common_steps)

pub returns-clause-put : goal.returns-clause-put
returns-clause-put c = grind (arith, common_steps)
