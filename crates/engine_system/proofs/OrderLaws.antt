-- What an alarm's answer to an order says of the table.
use Rattle.std.proofs.Common.{◌≡◌, Option, Ok, Err, ap}
use Rattle.std.specs.declared.result.Result.{Result}
use Rattle.alarm_machine.specs.declared.states.OrderFault.{OrderFault}
use Rattle.alarm_machine.specs.Codes.{PlainChange}
use Rattle.alarm_machine.specs.Alarms.{PlainAlarm, AnswersOrder}

-- an order that is taken leaves what the table has
pub after_order_ok : (due : Result PlainAlarm OrderFault) (old new : PlainAlarm) (change : Option PlainChange) → AnswersOrder due old new (Ok change) → Ok new ≡ due
after_order_ok (Ok a) old new change h = ap Ok h.0
after_order_ok (Err e) old new change h = absurd (let e = h.1 in cc)

-- a refusal is the table's
pub after_order_err : (due : Result PlainAlarm OrderFault) (old new : PlainAlarm) (e : OrderFault) → AnswersOrder due old new (Err e) → Err e ≡ due
after_order_err (Ok a) old new e h = absurd (let e = h.1 in cc)
after_order_err (Err f) old new e h = let same = h.1 in cc
