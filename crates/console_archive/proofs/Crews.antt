-- The caller alone is no crew that fails.
use Rattle.std.proofs.Common.{◌≡◌, ℕ, Bool, true, false, if◌then◌else◌, nat_le, refl, arith}
use Rattle.std.specs.Prelude.{Result, Ok, Err, IfErr}
use Rattle.crew.specs.declared.fault.CrewFault.TheVariants as crew_fault
use Rattle.engine.specs.EngineFault.{EngineFault}
use Rattle.engine.specs.EngineFault.TheVariants as refusal
use Rattle.engine.specs.Faults.{faults_by, faults_with, IsNoCrews}
use Rattle.engine.specs.Image.{IsDue}
use Rattle.engine.specs.System.{System, order_event}
use Rattle.engine.specs.event.TheConstants.{MOST_EVENTS}
use Rattle.engine.specs.Event.{Event}
use Rattle.engine.specs.Event.TheVariants as event
use Rattle.alarm_orders.specs.declared.order.Order.{Order}
use Rattle.console_archive.specs.Refusals.{IsOrderFault}

-- a refusal that isn't counted from 0 is never counted
never_counted : (e : EngineFault) → faults_with 0 e ≡ 0 → (n : ℕ) → faults_with n e ≡ n
never_counted refusal.Memory h n = refl
never_counted refusal.MomentBack h n = refl
never_counted refusal.MomentRange h n = refl
never_counted refusal.ImageName h n = refl
never_counted refusal.ImageKind h n = refl
never_counted (refusal.Crew crew_fault.Memory) h n = refl
never_counted (refusal.Crew crew_fault.NoThread) h n = absurd (omega (arith, h))
never_counted (refusal.Crew crew_fault.Lost) h n = absurd (omega (arith, h))
never_counted (refusal.Crew crew_fault.Misfit) h n = absurd (omega (arith, h))
never_counted refusal.HistoryFull h n = refl
never_counted refusal.ReloadConsoles h n = refl
never_counted refusal.ReloadEpoch h n = refl

pub no_crews : {T : Type 0} (result : Result T EngineFault) → 0 ≡ faults_by 0 result → IsNoCrews result
no_crews (Ok x) h = λ n. refl
no_crews (Err e) h = never_counted e (let k : faults_with 0 e ≡ 0 = cc in k)

-- of an order, which is taken or finds the history full
order_due : (full : Bool) (ev : Event) (e : EngineFault) → IsDue e (if full then Err refusal.HistoryFull else Ok ev) → faults_with 0 e ≡ 0 → IsOrderFault e
order_due full ev refusal.Memory due none = tt
order_due true ev refusal.MomentBack due none = absurd (cc (due))
order_due false ev refusal.MomentBack due none = absurd (cc (due))
order_due true ev refusal.MomentRange due none = absurd (cc (due))
order_due false ev refusal.MomentRange due none = absurd (cc (due))
order_due true ev refusal.ImageName due none = absurd (cc (due))
order_due false ev refusal.ImageName due none = absurd (cc (due))
order_due true ev refusal.ImageKind due none = absurd (cc (due))
order_due false ev refusal.ImageKind due none = absurd (cc (due))
order_due full ev (refusal.Crew crew_fault.Memory) due none = due
order_due full ev (refusal.Crew crew_fault.NoThread) due none = absurd (omega (arith, none))
order_due full ev (refusal.Crew crew_fault.Lost) due none = absurd (omega (arith, none))
order_due full ev (refusal.Crew crew_fault.Misfit) due none = absurd (omega (arith, none))
order_due full ev refusal.HistoryFull due none = tt
order_due true ev refusal.ReloadConsoles due none = absurd (cc (due))
order_due false ev refusal.ReloadConsoles due none = absurd (cc (due))
order_due true ev refusal.ReloadEpoch due none = absurd (cc (due))
order_due false ev refusal.ReloadEpoch due none = absurd (cc (due))

-- why an order is refused, by no crew
pub order_fault : {T : Type 0} (sys : System) (console : ℕ) (order : Order) (result : Result T EngineFault) → IfErr result (λ e. IsDue e (order_event sys console order)) → IsNoCrews result → IfErr result (λ e. IsOrderFault e)
unfolding order_event
order_fault sys console order (Ok x) due none = tt
order_fault sys console order (Err e) due none = order_due (nat_le MOST_EVENTS sys.events) (event.Order console order) e due (none 0)
