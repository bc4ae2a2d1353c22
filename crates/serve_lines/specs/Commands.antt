-- The command of a line. Each command is a case of `command_in`, and has a definition of the words after its name.
use Rattle.std.specs.Prelude.{ℕ, ◌==◌, ◌∷◌, [], List, Bool, false, if◌then◌else◌, length, nat_lt, Option, Some, None, codes}
use Rattle.std.specs.Str.{bytes_eq}
use Rattle.plant_types.specs.Pairs.{PlainPair}
use Rattle.alarm_machine.specs.declared.states.Verb.{Verb}
use Rattle.alarm_machine.specs.declared.states.Verb.TheVariants as verb
use Rattle.serve_lines.specs.declared.command.Command.{Command}
use Rattle.serve_lines.specs.declared.command.Command.TheVariants as command
use Rattle.serve_lines.specs.Words.{words_of}
use Rattle.serve_lines.specs.Numbers.{number_of}
use Rattle.serve_lines.specs.Given.{pairs_of}

-- a command: nothing, no command (L1), a scan at a moment with pairs of name and value, an order from a console for a target, the list of alarms, the journal
pub data PlainCommand : Type 0 where
  Nothing : PlainCommand
  Unknown : PlainCommand
  Scan : ℕ → List PlainPair → PlainCommand
  Order : Verb → ℕ → List ℕ → PlainCommand
  Listing : PlainCommand
  Journal : PlainCommand

-- a command of the code without pointers
abbrev pub plain_command : Command → PlainCommand
plain_command command.Nothing = Nothing
plain_command command.Unknown = Unknown
plain_command (command.Scan moment pairs) = Scan moment pairs.now
plain_command (command.Order v console target) = Order v console target.now
plain_command command.List = Listing
plain_command command.Journal = Journal

-- the command of the words after scan: MOMENT NAME=VALUE ..
unfoldable pub scan_of : List (List ℕ) → PlainCommand
scan_of [] = Unknown
scan_of (m ∷ ws) = elim (number_of 19 m) [
  | None ↦ Unknown
  | Some moment ↦ elim (pairs_of ws) [ None ↦ Unknown | Some pairs ↦ Scan moment pairs ]
]

-- the command of the words after an order's name: CONSOLE TARGET, the target being any word
unfoldable pub order_of : Verb → List (List ℕ) → PlainCommand
order_of v [] = Unknown
order_of v (c ∷ []) = Unknown
order_of v (c ∷ target ∷ []) = elim (number_of 9 c) [ None ↦ Unknown | Some console ↦ Order v console target ]
order_of v (c ∷ target ∷ w ∷ ws) = Unknown

-- the command of the words after shelve: CONSOLE TAG MS, for so many milliseconds
unfoldable pub shelve_of : List (List ℕ) → PlainCommand
shelve_of [] = Unknown
shelve_of (c ∷ []) = Unknown
shelve_of (c ∷ tag ∷ []) = Unknown
shelve_of (c ∷ tag ∷ ms ∷ []) = elim (number_of 9 c) [
  | None ↦ Unknown
  | Some console ↦ elim (number_of 19 ms) [ None ↦ Unknown | Some time ↦ Order (verb.Shelve time) console tag ]
]
shelve_of (c ∷ tag ∷ ms ∷ w ∷ ws) = Unknown

-- a command whose name stands alone: with a further word it is none
unfoldable pub alone : PlainCommand → List (List ℕ) → PlainCommand
alone command [] = command
alone command (w ∷ ws) = Unknown

-- the order that a word names, in small letters, where nothing but a console and a target comes after it; so none for shelve
unfoldable pub verb_named : List ℕ → Option Verb
verb_named w =
    if bytes_eq w (codes "ack") then Some verb.Ack
    else if bytes_eq w (codes "reset") then Some verb.Reset
    else if bytes_eq w (codes "unshelve") then Some verb.Unshelve
    else if bytes_eq w (codes "remove") then Some verb.Remove
    else if bytes_eq w (codes "return") then Some verb.PutBack
    else if bytes_eq w (codes "restart") then Some verb.Restart
    else None

-- the command of a line's words: the first is its name, in small letters
unfoldable pub command_in : List (List ℕ) → PlainCommand
command_in [] = Nothing
command_in (w ∷ ws) =
    if bytes_eq w (codes "scan") then scan_of ws
    else if bytes_eq w (codes "shelve") then shelve_of ws
    else if bytes_eq w (codes "list") then alone Listing ws
    else if bytes_eq w (codes "journal") then alone Journal ws
    else elim (verb_named w) [ None ↦ Unknown | Some v ↦ order_of v ws ]

-- whether the first word begins with #
abbrev pub is_remark : List (List ℕ) → Bool
is_remark [] = false
is_remark ([] ∷ ws) = false
is_remark ((b ∷ bs) ∷ ws) = b == 35

-- the command of a line: a line of more than 1,048,576 bytes is no command, and a remark asks for nothing
unfoldable pub command_of : List ℕ → PlainCommand
command_of line = if nat_lt 1048576 (length line) then Unknown
    else if is_remark (words_of line) then Nothing else command_in (words_of line)
