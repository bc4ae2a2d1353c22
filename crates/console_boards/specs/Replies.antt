-- What an entry does to the alarms that a board shows, and whether it may come next.
use Rattle.std.specs.Prelude.{◌≢◌, ℕ, ◌==◌, Bool, true, false, ◌&&◌, ◌||◌, if◌then◌else◌, Option, Some, None, Result, Ok, Err, slice_get}
use Rattle.alarm_machine.specs.Orders.{is_restart}
use Rattle.alarm_machine.specs.declared.states.Verb.TheVariants as verb
use Rattle.alarm_machine.specs.declared.states.OrderFault.{OrderFault}
use Rattle.alarm_machine.specs.declared.states.OrderFault.TheVariants as fault
use Rattle.alarm_machine.specs.declared.states.AlarmState.{AlarmState}
use Rattle.alarm_machine.specs.Codes.{PlainChange, same_code}
use Rattle.alarm_bank.specs.declared.event.BankEvent.{BankEvent}
use Rattle.alarm_bank.specs.declared.event.BankEvent.TheVariants as event
use Rattle.alarm_bank.specs.Banks.{PlainBank, after_event, reply_of}
use Rattle.alarm_bank.specs.Reloads.{PlainAnnunciator, annunciator_after, reload_fits, reloaded_in}
use Rattle.console_boards.specs.declared.entry.AnsweredOrder.{AnsweredOrder}
use Rattle.console_boards.specs.declared.entry.BoardEntry.{BoardEntry}
use Rattle.console_boards.specs.declared.entry.BoardEntry.TheVariants as entry
use Rattle.console_boards.specs.declared.picture.Picture.{Picture}

-- the number of a refusal
abbrev pub fault_number : OrderFault → ℕ
fault_number fault.UnknownTarget = 1
fault_number fault.NotYourArea = 2
fault_number fault.WrongState = 3
fault_number fault.ShelveTime = 4
fault_number fault.NotFaulted = 5
fault_number fault.OldPlant = 6

-- whether two changes of a code are the same
abbrev pub same_change : Option PlainChange → Option PlainChange → Bool
same_change None None = true
same_change None (Some d) = false
same_change (Some c) None = false
same_change (Some c) (Some d) = same_code c.from d.from && same_code c.to d.to

-- whether two replies are the same
abbrev pub same_reply : Result (Option PlainChange) OrderFault → Result (Option PlainChange) OrderFault → Bool
same_reply (Ok c) (Ok d) = same_change c d
same_reply (Ok c) (Err f) = false
same_reply (Err e) (Ok d) = false
same_reply (Err e) (Err f) = fault_number e == fault_number f

-- whether a reply refuses the order before any alarm is asked: no such target, not the console's, or for an older plant
abbrev pub is_outside : Result (Option PlainChange) OrderFault → Bool
is_outside (Err fault.UnknownTarget) = true
is_outside (Err fault.NotYourArea) = true
is_outside (Err fault.OldPlant) = true
is_outside _ = false

-- the alarms after an order with its reply: one that is refused before any alarm is asked changes nothing
abbrev pub after_answer : PlainBank → AnsweredOrder → PlainBank
after_answer b a = if is_outside a.reply then b else elim a.order.target [ None ↦ b | Some n ↦ after_event (event.Order n a.order.verb) b ]

-- whether an order may have this reply: an alarm's reply is the one that the table gives now
abbrev pub may_answer : PlainBank → AnsweredOrder → Bool
may_answer b a = is_restart a.order.verb || (is_outside a.reply || elim a.order.target [ None ↦ false | Some n ↦ same_reply a.reply (reply_of n a.order.verb b) ])

-- an order that is no restart, and isn't replied O1, O2 or O6: an alarm was asked
abbrev pub IsAsked : AnsweredOrder → Type 0
IsAsked a = (a.order.verb ≢ verb.Restart) × ((a.reply ≢ Err fault.UnknownTarget) × (a.reply ≢ Err fault.NotYourArea) × (a.reply ≢ Err fault.OldPlant))

-- whether an event is a scan
abbrev pub is_scan : BankEvent → Bool
is_scan (event.Scan t cs ss) = true
is_scan (event.Order n v) = false
is_scan (event.Reload news) = false

-- the alarms in their places after an entry
abbrev pub panel_after_entry : PlainAnnunciator → BoardEntry → PlainAnnunciator
panel_after_entry p (entry.Scan ev) = annunciator_after ev p
panel_after_entry p (entry.Order n a) = record p { bank = after_answer p.bank a }
panel_after_entry p (entry.Reload news) = reloaded_in news p

-- whether an entry may come after these alarms: a reload has to fit their places
abbrev pub panel_allows_entry : PlainAnnunciator → BoardEntry → Bool
panel_allows_entry p (entry.Scan ev) = is_scan ev
panel_allows_entry p (entry.Order n a) = may_answer p.bank a
panel_allows_entry p (entry.Reload news) = reload_fits news p

-- the picture after an entry: the consoles that are counted stay the same
abbrev pub after : Picture → BoardEntry → Picture
after p e = record p { panel = panel_after_entry p.panel e }

-- whether an entry may come next
abbrev pub allows : Picture → BoardEntry → Bool
allows p e = panel_allows_entry p.panel e

-- the state of the alarm of a number, if it is there
abbrev pub state_at : ℕ → Picture → Option AlarmState
state_at n p = elim (slice_get p.panel.bank.alarms n) [ None ↦ None | Some a ↦ Some a.state ]
