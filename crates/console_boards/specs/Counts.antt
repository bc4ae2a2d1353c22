-- How many entries of a list are orders of a console, and how many are reloads.
use Rattle.std.specs.Prelude.{ℕ, ◌+◌, ◌==◌, Bool, List, [], ◌∷◌, map, Option, Some, None, if◌then◌else◌}
use Rattle.std.specs.List.{list_any}
use Rattle.console_boards.specs.declared.entry.AnsweredOrder.{AnsweredOrder}
use Rattle.console_boards.specs.declared.entry.BoardEntry.{BoardEntry}
use Rattle.console_boards.specs.declared.entry.BoardEntry.TheVariants as entry
use Rattle.console_boards.specs.declared.tally.Tally.{Tally}

-- 1 for an order of this console, else 0
abbrev pub counts_as : ℕ → BoardEntry → ℕ
counts_as console (entry.Scan s) = 0
counts_as console (entry.Order n a) = if console == n then 1 else 0
counts_as console (entry.Reload news) = 0

-- how many of the entries are orders of this console
abbrev pub count_of : ℕ → List BoardEntry → ℕ
count_of console [] = 0
count_of console (e ∷ es) = counts_as console e + count_of console es

-- the orders of this console with their replies, in order
abbrev pub answers_of : ℕ → List BoardEntry → List AnsweredOrder
answers_of console [] = []
answers_of console (entry.Scan s ∷ es) = answers_of console es
answers_of console (entry.Order n a ∷ es) = if console == n then a ∷ answers_of console es else answers_of console es
answers_of console (entry.Reload news ∷ es) = answers_of console es

-- a tally after one more order of this console
abbrev pub counted : ℕ → Tally → Tally
counted console t = record { console = t.console; orders = (if t.console == console then 1 else 0) + t.orders }

-- a tally after one more entry
abbrev pub tallied : BoardEntry → Tally → Tally
tallied (entry.Scan s) t = t
tallied (entry.Order n a) t = counted n t
tallied (entry.Reload news) t = t

-- 1 for a reload, else 0
abbrev pub reloads_as : BoardEntry → ℕ
reloads_as (entry.Scan s) = 0
reloads_as (entry.Order n a) = 0
reloads_as (entry.Reload news) = 1

-- how many of the entries are reloads
abbrev pub reloads_in : List BoardEntry → ℕ
reloads_in [] = 0
reloads_in (e ∷ es) = reloads_as e + reloads_in es

-- the numbers of the consoles that have a tally
abbrev pub consoles_in : List Tally → List ℕ
consoles_in ts = map (λ (t : Tally). t.console) ts

-- whether a console is among those that are counted
abbrev pub is_counted : ℕ → List ℕ → Bool
is_counted console consoles = list_any (λ n. n == console) consoles

-- how many of the entries are orders of this console, where it is counted
abbrev pub orders_counted : ℕ → List ℕ → List BoardEntry → Option ℕ
orders_counted console consoles es = if is_counted console consoles then Some (count_of console es) else None
