use Rattle.std.proofs.Common.{◌≡◌, ℕ, List, length, subst, arith}
use Rattle.std.proofs.lemmas.Result.{IfOk-weaker}
use Rattle.acc_vm.specs.Codes.{PlainCode}
use Rattle.level_plan.specs.Accesses.{PlainAccess}
use Rattle.level_plan.specs.Plans.{IsPlan}
use Rattle.level_runs.specs.Accesses.{ArePartsOf}
use Rattle.level_runs.specs.Plans.{IsPlanOf}
use Rattle.level_runs.proofs.Globals.{AreRead, read_more, read_all}
use Rattle.level_runs.proofs.planning.plan_of.Goals as goal

pub loop-part-preserved : goal.loop-part-preserved
loop-part-preserved c =
    rw (c.in_ok-push.ensures.items)
    (read_more c.args.globals c.args.parts.now c.loop-part.part-index c.loop-part.accesses.items c.part-item.result c.in_ok-access_of.field-0 c.loop-part.invariant c.loop-part-test.true c.part-item.is
    c.in_ok-access_of.ensures.within c.in_ok-access_of.ensures.tells)

pub returns : goal.returns
returns c =
    let globals = c.args.globals in
    let parts = c.args.parts.now in
    let accesses = c.loop-part.accesses.items in
    let all : c.loop-part.part-index ≡ length parts = omega (arith, c.loop-part-test.false, c.loop-part.auto.part-index-end) in
    let are : AreRead globals parts (length parts) accesses = subst (λ (n : ℕ). AreRead globals parts n accesses) all c.loop-part.invariant in
    IfOk-weaker c.plan.result (λ levels. IsPlan c.as_slice.result.now levels) (λ levels. (codes : List PlainCode) → ArePartsOf codes parts → IsPlanOf globals codes levels)
    (λ levels plan codes of. record { accesses = accesses; are = read_all globals parts accesses codes are of; within = are.within; plan = subst (λ (xs : List PlainAccess). IsPlan xs levels) c.as_slice.ensures.value plan }) c.plan.ensures
