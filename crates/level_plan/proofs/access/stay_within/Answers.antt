use Rattle.std.proofs.Common.{take, refl, sym, subst}
use Rattle.std.proofs.lemmas.Bool.{both_ways, false≢true}
use Rattle.std.proofs.lemmas.List.{take_all}
use Rattle.std.proofs.lemmas.List.Elements.{All-more, All-same}
use Rattle.level_plan.specs.Accesses.{PlainAccess, StaysWithin}
use Rattle.level_plan.proofs.Steps.{within_at}
use Rattle.level_plan.proofs.access.stay_within.Goals as goal

pub returns-then-not-stays_within : goal.returns-then-not-stays_within
returns-then-not-stays_within c = (
  λ stay. absurd (false≢true stay),
  λ all. absurd (both_ways c.stays_within.result c.if-not-stays_within.true (c.stays_within.ensures.1 (within_at c.args.programs.now c.loop-access.access-index c.args.globals c.args.globals c.access-item.result all c.loop-access-test.true c.access-item.is refl))),
)

pub loop-access-preserved : goal.loop-access-preserved
loop-access-preserved c =
    let P : PlainAccess → Type 0 = λ access. StaysWithin c.args.globals access in
    All-more P c.args.programs.now c.loop-access.access-index c.access-item.result c.loop-access-test.true c.loop-access.invariant (subst P c.access-item.is (c.stays_within.ensures.0 c.if-not-stays_within.false))

pub returns : goal.returns
returns c =
    let P : PlainAccess → Type 0 = λ access. StaysWithin c.args.globals access in
    let each = All-same P c.args.programs.now (take c.loop-access.access-index c.args.programs.now) (sym (take_all c.loop-access.access-index c.args.programs.now c.loop-access-test.false)) c.loop-access.invariant in
    (λ stay. record { each = each }, λ all. refl)
