-- Which orders of a journal are counted, and what its rows tell of a console's orders.
use Rattle.std.specs.Prelude.{ℕ, ◌+◌, ◌==◌, Bool, true, false, ◌&&◌, List, Option, Some, None, is_some, if◌then◌else◌}
use Rattle.std.specs.List.{filter_map}
use Rattle.alarm_machine.specs.declared.states.OrderFault.{OrderFault}
use Rattle.alarm_machine.specs.declared.states.OrderFault.TheVariants as fault
use Rattle.alarm_machine.specs.declared.states.Verb.{Verb}
use Rattle.alarm_machine.specs.declared.states.Verb.TheVariants as verb
use Rattle.journal_core.specs.declared.row.Entry.{Entry}
use Rattle.journal_core.specs.declared.row.Entry.TheVariants as entry
use Rattle.journal_core.specs.declared.row.Row.{Row}
use Rattle.try_desks.specs.declared.counts.Orders.{Orders}
use Rattle.try_desks.specs.declared.counts.Orders.TheVariants as orders
use Rattle.try_desks.specs.declared.notes.Note.{Note}
use Rattle.try_desks.specs.declared.notes.Telling.{Telling}

-- the place of a verb among verbs, whatever the time of a shelving
abbrev pub rank_of : Verb → ℕ
rank_of verb.Ack = 0
rank_of verb.Reset = 1
rank_of (verb.Shelve time) = 2
rank_of verb.Unshelve = 3
rank_of verb.Remove = 4
rank_of verb.PutBack = 5
rank_of verb.Restart = 6

-- whether an order is among those that are counted
abbrev pub is_among : Orders → ℕ → Verb → Option OrderFault → Bool
is_among orders.All console verb refused = true
is_among (orders.With counted) console verb refused = rank_of verb == rank_of counted
is_among (orders.By number) console verb refused = console == number
is_among (orders.RefusedBy number) console verb refused = (console == number) && is_some refused

-- whether an entry is an order that is counted
abbrev pub is_counted : Orders → Entry → Bool
is_counted which (entry.Fault place trap) = false
is_counted which (entry.Alarm alarm change) = false
is_counted which (entry.Order console verb target refused) = is_among which console verb refused
is_counted which (entry.Reload kept fresh) = false

-- the time of a shelving, and 0 of all else
abbrev pub time_of : Verb → ℕ
time_of verb.Ack = 0
time_of verb.Reset = 0
time_of (verb.Shelve time) = time
time_of verb.Unshelve = 0
time_of verb.Remove = 0
time_of verb.PutBack = 0
time_of verb.Restart = 0

-- one more than the number of a target, and 0 where there is none
abbrev pub target_of : Option ℕ → ℕ
target_of None = 0
target_of (Some number) = number + 1

-- the number of a refusal, and 0 of an order that was done
abbrev pub refusal_of : Option OrderFault → ℕ
refusal_of None = 0
refusal_of (Some fault.UnknownTarget) = 1
refusal_of (Some fault.NotYourArea) = 2
refusal_of (Some fault.WrongState) = 3
refusal_of (Some fault.ShelveTime) = 4
refusal_of (Some fault.NotFaulted) = 5
refusal_of (Some fault.OldPlant) = 6

-- what is told of an order and its refusal
abbrev pub telling_of : Verb → Option ℕ → Option OrderFault → Telling
telling_of verb target refused = record { verb = rank_of verb; time = time_of verb; target = target_of target; refusal = refusal_of refused }

-- what an entry tells of an order, if it is one of this console
abbrev pub telling_in : ℕ → Entry → Option Telling
telling_in console (entry.Fault place trap) = None
telling_in console (entry.Alarm alarm change) = None
telling_in console (entry.Order number verb target refused) = if number == console then Some (telling_of verb target refused) else None
telling_in console (entry.Reload kept fresh) = None

-- and what rows tell of this console's orders, one after another
abbrev pub tellings : ℕ → List Row → List Telling
tellings console rows = filter_map (λ (row : Row). telling_in console row.entry) rows

-- what a note tells of its order
abbrev pub told : Note → Telling
told note = telling_of note.order.verb note.order.target note.refused
