-- A law of commands.
use Rattle.std.specs.Prelude.{◌≡◌, ℕ, ◌∷◌, List}
use Rattle.alarm_machine.specs.Orders.{verb_text}
use Rattle.alarm_machine.specs.declared.states.Verb.{Verb}
use Rattle.alarm_machine.specs.declared.states.Verb.TheVariants as verb
use Rattle.serve_lines.specs.Commands.{PlainCommand, order_of, shelve_of, command_in}

-- the command of the words after an order's word: of a shelving a time is among them
abbrev pub after_verb : Verb → List (List ℕ) → PlainCommand
after_verb (verb.Shelve d) ws = shelve_of ws
after_verb v ws = order_of v ws

-- the word with which an order is printed is its command
abbrev pub PrintedWordsAreCommands : Type 0
PrintedWordsAreCommands = (v : Verb) (ws : List (List ℕ)) → command_in (verb_text v ∷ ws) ≡ after_verb v ws
