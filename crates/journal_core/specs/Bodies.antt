-- The text of a row: its number, its stamp and its body, with one definition for each kind of body.
use Rattle.std.specs.Prelude.{ℕ, List, [], ◌++◌, Option, codes}
use Rattle.std.specs.Fmt.{decimal}
use Rattle.plant_types.specs.declared.values.Trap.{Trap}
use Rattle.plant_types.specs.Values.{trap_text}
use Rattle.alarm_machine.specs.Codes.{PlainChange, code_text}
use Rattle.alarm_machine.specs.Orders.{verb_text, reply_text}
use Rattle.alarm_machine.specs.declared.states.Verb.{Verb}
use Rattle.alarm_machine.specs.declared.states.Verb.TheVariants as verb
use Rattle.alarm_machine.specs.declared.states.OrderFault.{OrderFault}
use Rattle.base_stamps.specs.Stamps.{stamp}
use Rattle.journal_core.specs.declared.row.Entry.{Entry}
use Rattle.journal_core.specs.declared.row.Entry.TheVariants as entry
use Rattle.journal_core.specs.declared.row.Row.{Row}

-- the body for a fault, at a statement of the body with this path: `FAULT PATH STATEMENT KIND`
abbrev pub fault_body : List ℕ → ℕ → Trap → List ℕ
fault_body path statement kind = codes "FAULT " ++ path ++ codes " " ++ decimal statement ++ codes " " ++ trap_text kind

-- the body for an alarm whose code changed: `ALARM TAG FROM TO`
abbrev pub alarm_body : List ℕ → PlainChange → List ℕ
alarm_body tag change = codes "ALARM " ++ tag ++ codes " " ++ code_text change.from ++ codes " " ++ code_text change.to

-- the time of a shelving in milliseconds, with a space after it; other orders have none
abbrev pub shelf_text : Verb → List ℕ
shelf_text (verb.Shelve time) = decimal time ++ codes " "
shelf_text _ = []

-- the body for an order: `ORDER CONSOLE COMMAND TARGET REPLY`, for a shelving with its time before REPLY
abbrev pub order_body : ℕ → Verb → List ℕ → Option OrderFault → List ℕ
order_body console order target refused =
    codes "ORDER " ++ decimal console ++ codes " " ++ verb_text order ++ codes " " ++ target ++ codes " " ++ shelf_text order ++ reply_text refused

-- the body for a reload: `RELOAD KEPT k NEW n`, how many alarms kept their states and how many are new
abbrev pub reload_body : ℕ → ℕ → List ℕ
reload_body kept fresh = codes "RELOAD KEPT " ++ decimal kept ++ codes " NEW " ++ decimal fresh

-- the body of a row: the name is that of its path, its alarm or its order's target; a reload's has none
abbrev pub body_text : Entry → List ℕ → List ℕ
body_text (entry.Fault place kind) name = fault_body name place.statement kind
body_text (entry.Alarm number change) name = alarm_body name change
body_text (entry.Order console order target refused) name = order_body console order name refused
body_text (entry.Reload kept fresh) name = reload_body kept fresh

-- the text of a row of the journal of a plant with this epoch: `NUMBER STAMP BODY`
abbrev pub row_text : ℕ → Row → List ℕ → List ℕ
row_text epoch row name = decimal row.number ++ codes " " ++ stamp epoch row.moment ++ codes " " ++ body_text row.entry name
