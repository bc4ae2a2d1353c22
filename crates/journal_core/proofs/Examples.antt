-- Worked examples, each worked out by hand.
use Rattle.std.proofs.Common.{◌≡◌, [], ◌∷◌, Some, None, codes, refl}
use Rattle.std.specs.Fmt.{digits}
use Rattle.plant_types.specs.declared.values.Trap.TheVariants as trap
use Rattle.alarm_machine.specs.declared.states.Code.TheVariants as code
use Rattle.alarm_machine.specs.declared.states.Verb.TheVariants as verb
use Rattle.alarm_machine.specs.declared.states.OrderFault.TheVariants as fault
use Rattle.base_stamps.specs.Civil.{date_of}
use Rattle.journal_core.specs.declared.row.Entry.TheVariants as entry
use Rattle.journal_core.specs.Rows.{after_entries}
use Rattle.journal_core.specs.declared.packing.KeptRow.TheVariants as kept
use Rattle.journal_core.specs.Kept.{unpacked}
use Rattle.journal_core.specs.Bodies.{alarm_body, order_body, row_text}

pub change_of_code : alarm_body (codes "T1") (record { from = code.Norm; to = code.Unack }) ≡ codes "ALARM T1 NORM UNACK"
change_of_code = refl

-- the time of a shelving stands before the reply
pub shelving : order_body 1 (verb.Shelve 5000) (codes "T1") None ≡ codes "ORDER 1 shelve T1 5000 OK"
unfolding digits
shelving = refl

-- also of one that is refused because its target is unknown
pub shelving_of_nothing : order_body 12 (verb.Shelve 60) (codes "?") (Some fault.UnknownTarget) ≡ codes "ORDER 12 shelve ? 60 O1"
unfolding digits
shelving_of_nothing = refl

pub return_to_service : order_body 2 verb.PutBack (codes "T2") (Some fault.WrongState) ≡ codes "ORDER 2 return T2 O3"
unfolding digits
return_to_service = refl

-- 789 days of 86400 seconds after 1970 begins 1972-02-29
pub whole_row : row_text 68169600 (record { number = 2; moment = 10; entry = entry.Fault (record { path = 0; statement = 1 }) trap.DivZero }) (codes "p") ≡
    codes "2 1972-02-29T00:00:00.010Z FAULT p 1 DIVZERO"
unfolding date_of digits
whole_row = refl

-- two rows after one: the numbers go on
pub numbers_go_on : after_entries 7 (record { rows = (record { number = 1; moment = 0; entry = entry.Order 1 verb.Ack (Some 0) None }) ∷ []; room = 3 })
    (entry.Order 1 verb.Reset (Some 4) (Some fault.WrongState) ∷ entry.Order 1 verb.Restart None (Some fault.UnknownTarget) ∷ []) ≡
    record {
      rows = (record { number = 1; moment = 0; entry = entry.Order 1 verb.Ack (Some 0) None }) ∷
          (record { number = 2; moment = 7; entry = entry.Order 1 verb.Reset (Some 4) (Some fault.WrongState) }) ∷
          (record { number = 3; moment = 7; entry = entry.Order 1 verb.Restart None (Some fault.UnknownTarget) }) ∷ [];
      room = 1;
    }
numbers_go_on = refl

-- (2 * 20000 + 4) * 81 + 1
pub one_word : unpacked 3240325 ≡ kept.Alarm (record { from = code.Norm; to = code.Unack }) 4 2
one_word = refl

-- the last moment and the last alarm, from OOS to SUPPR: (4000000000000 * 20000 + 19999) * 81 + 8 * 9 + 7
pub last_word : unpacked 6480000000001619998 ≡ kept.Alarm (record { from = code.Oos; to = code.Suppr }) 19999 4000000000000
last_word = refl

-- 2 ^ 63 + 3
pub a_place : unpacked 9223372036854775811 ≡ kept.Apart 3
a_place = refl
