-- What the words of a command line choose, and what is answered where they choose nothing.
use Rattle.std.specs.Prelude.{ℕ, ◌≡◌, ◌≢◌, ◌⊎◌, ⊤, ◌^◌, List, [], Option, Some, None, Result, Ok, Err, codes, length, nat_lt, nat_le, ◌≤◌, ◌∷◌, ◌&&◌, Bool, if◌then◌else◌}
use Rattle.std.specs.Prelude.{option_map, option_and_then}
use Rattle.std.specs.Str.{all_ascii_digits, bytes_eq}
use Rattle.std.specs.Str.Parse.{digits_value, without_leading_plus}
use Rattle.clap.specs.Words.{IsAmong, Kinds, Row, fault_of, first_of, one_of, subcommand_of}
use Rattle.clap.specs.declared.error.kind.ErrorKind.{ErrorKind}
use Rattle.clap.specs.declared.error.kind.ErrorKind.TheVariants as kind
use Rattle.serve_arguments.specs.declared.choice.Choice.{Choice}
use Rattle.serve_arguments.specs.declared.choice.Choice.TheVariants as choice
use Rattle.serve_arguments.specs.declared.choice.UsageFault.{UsageFault}
use Rattle.serve_arguments.specs.declared.choice.UsageFault.TheVariants as fault
use Rattle.serve_arguments.specs.Line.{alarmd}
use Rattle.serve_arguments.specs.declared.line.TheConstants.{MOST_WORKERS}

-- one decimal digit or more, perhaps with a plus before them, and a number below 2^32
abbrev pub is_worker_count : List ℕ → Bool
is_worker_count text = let digits = without_leading_plus text in
    nat_lt 0 (length digits) && (all_ascii_digits digits && nat_lt (digits_value 10 digits) (2 ^ 32))

-- the number that a text writes; none where it is no such number
abbrev pub worker_count : List ℕ → Option ℕ
worker_count text = if is_worker_count text then Some (digits_value 10 (without_leading_plus text)) else None

-- a number of workers that the program can have: from 1 to the greatest
abbrev pub allowed : ℕ → Option ℕ
allowed n = if nat_lt 0 n && nat_le n MOST_WORKERS then Some n else None

-- PLANT among the values of a subcommand
abbrev pub plant_path : List Row → Option (List ℕ)
plant_path rows = first_of (codes "plant") rows

-- N among them, as a number
abbrev pub workers_in : List Row → Option ℕ
workers_in rows = option_and_then worker_count (one_of (codes "workers") rows)

-- to check the plant whose file is PLANT
abbrev pub check_choice : List Row → Option Choice
check_choice rows = option_map choice.Check (plant_path rows)

-- to serve the plant whose file is PLANT, with N workers
abbrev pub run_choice : List Row → Option Choice
run_choice rows = option_and_then (λ path. option_map (choice.Run path) (option_and_then allowed (workers_in rows))) (plant_path rows)

-- the choice of a subcommand's name and values; nothing without a subcommand, and where a value isn't there
abbrev pub choice_in : Option (List ℕ × List Row) → Option Choice
choice_in None = None
choice_in (Some (name, rows)) = if bytes_eq name (codes "check") then check_choice rows else if bytes_eq name (codes "run") then run_choice rows else None

-- the choice of the words after the program's name; without words it is the example
abbrev pub choice_of : List (List ℕ) → Option Choice
choice_of [] = Some choice.Example
choice_of (w ∷ ws) = choice_in (subcommand_of alarmd (w ∷ ws))

-- the kinds of fault that `clap` finds in the words; without words it isn't asked
abbrev pub faults_in : List (List ℕ) → Kinds
faults_in [] = []
faults_in (w ∷ ws) = fault_of alarmd (w ∷ ws)

-- a plant is served by a number of workers that the program can have
abbrev pub HasWorkers : Choice → Type 0
HasWorkers (choice.Run path n) = (1 ≤ n) × (n ≤ MOST_WORKERS)
HasWorkers _ = ⊤

-- a kind of error that calls for no text of its own: neither for help nor for the version
abbrev pub IsNoCall : ErrorKind → Type 0
IsNoCall k = (k ≢ kind.DisplayHelp) × (k ≢ kind.DisplayVersion)

-- the fault of a kind of error
abbrev pub IsFaultOf : ErrorKind → UsageFault → Type 0
IsFaultOf k fault.Memory = k ≡ kind.OutOfMemory
IsFaultOf k (fault.Help text) = k ≡ kind.DisplayHelp
IsFaultOf k (fault.Version text) = k ≡ kind.DisplayVersion
IsFaultOf k (fault.Usage text) = (k ≢ kind.OutOfMemory) × IsNoCall k

-- the words are no command line: `clap` finds a fault that is no call for help or for the version, or a value isn't there
abbrev pub IsMisused : List (List ℕ) → Type 0
IsMisused words = ((k : ErrorKind) × IsNoCall k × IsAmong k (faults_in words)) ⊎ ((faults_in words ≡ []) × (choice_of words ≡ None))

-- what may be answered to the words, by the kinds of fault that `clap` finds in them: their choice where it finds none, help or the version where it was asked for,
-- and else usage.
-- After the word help it may be both, since its function leaves open whether a subcommand follows. Memory may run out in any case
abbrev pub IsAnswer : List (List ℕ) → Result Choice UsageFault → Type 0
IsAnswer words (Ok chosen) = (faults_in words ≡ []) × (choice_of words ≡ Some chosen)
IsAnswer words (Err fault.Memory) = ⊤
IsAnswer words (Err (fault.Help text)) = IsAmong kind.DisplayHelp (faults_in words)
IsAnswer words (Err (fault.Version text)) = IsAmong kind.DisplayVersion (faults_in words)
IsAnswer words (Err (fault.Usage text)) = IsMisused words
