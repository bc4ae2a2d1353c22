-- What a scan moves: the alarms that it leaves otherwise than they were, and the changes of their codes.
use Rattle.std.specs.Prelude.{◌≡◌, ◌≢◌, ℕ, ◌+◌, ◌<◌, ◌⊎◌, Bool, false, Option, Some, None, Result, Ok, Err, List, [], ◌∷◌, ◌++◌, drop, fold, slice_get, slice_set}
use Rattle.alarm_machine.specs.declared.states.OrderFault.{OrderFault}
use Rattle.alarm_machine.specs.Codes.{PlainChange, code_of, change_between}
use Rattle.alarm_machine.specs.Alarms.{PlainAlarm, after_scan, end_of}
use Rattle.alarm_bank.specs.declared.moves.Moves.{Moves}
use Rattle.alarm_bank.specs.Banks.{scan_each}

-- the alarms that aren't what they were, from a number on, in order, each with what it is now; those that rest are passed over
abbrev pub AreMoved : ℕ → List PlainAlarm → List PlainAlarm → List (ℕ × PlainAlarm) → Type 0
AreMoved n [] [] moved = moved ≡ []
AreMoved n [] (b ∷ new) moved = ⊥
AreMoved n (a ∷ old) [] moved = ⊥
AreMoved n (a ∷ old) (b ∷ new) moved =
    ((b ≡ a) × AreMoved (n + 1) old new moved)
    ⊎ ((b ≢ a) × (rest : List (ℕ × PlainAlarm)) × (moved ≡ (n, b) ∷ rest) × AreMoved (n + 1) old new rest)

-- what a scan with condition c, suppression s and moment t makes of an alarm, if it doesn't rest
abbrev pub IsMove : Bool → Bool → ℕ → PlainAlarm → Option PlainAlarm → Type 0
IsMove c s t a None = after_scan c s t a ≡ a
IsMove c s t a (Some b) = (b ≡ after_scan c s t a) × (after_scan c s t a ≢ a)

-- the same of the alarm of a number, by the conditions and suppressions of all
abbrev pub IsMoveAt : ℕ → List Bool → List Bool → ℕ → List PlainAlarm → Option PlainAlarm → Type 0
IsMoveAt n cs ss t alarms moved = (c s : Bool) (a : PlainAlarm) → slice_get cs n ≡ Some c → slice_get ss n ≡ Some s → slice_get alarms n ≡ Some a → IsMove c s t a moved

-- an alarm that isn't marked has in a scan the condition and the suppression that it had in the last one
abbrev pub UnmarkedStay : List Bool → List Bool → List Bool → List PlainAlarm → Type 0
UnmarkedStay marks cs ss alarms = (n : ℕ) (a : PlainAlarm) → slice_get marks n ≡ Some false → slice_get alarms n ≡ Some a → (slice_get cs n ≡ Some a.condition) × (slice_get ss n ≡ Some a.suppressed)

-- no shelf ends by moment t
abbrev pub NoShelfEnds : ℕ → List PlainAlarm → Type 0
NoShelfEnds t alarms = (n : ℕ) (a : PlainAlarm) (e : ℕ) → slice_get alarms n ≡ Some a → end_of a.state ≡ Some e → t < e

-- an alarm is put in the place of its number
abbrev pub put : List PlainAlarm → ℕ × PlainAlarm → List PlainAlarm
put alarms one = slice_set alarms one.0 one.1

-- alarms are put in the places of their numbers
abbrev pub put_all : List PlainAlarm → List (ℕ × PlainAlarm) → List PlainAlarm
put_all alarms moved = fold put alarms moved

-- the alarms whose code changed, from a number on, in the order of the database
abbrev pub changes_from : ℕ → List PlainAlarm → List PlainAlarm → List (ℕ × PlainChange)
changes_from n [] new = []
changes_from n (a ∷ old) [] = []
changes_from n (a ∷ old) (b ∷ new) = elim (change_between (code_of a.state) (code_of b.state)) [
  | None ↦ changes_from (n + 1) old new
  | Some change ↦ (n, change) ∷ changes_from (n + 1) old new
]

-- the change of the code from one alarm, if it is there, to another
abbrev pub change_from : Option PlainAlarm → PlainAlarm → Option PlainChange
change_from None new = None
change_from (Some old) new = change_between (code_of old.state) (code_of new.state)

-- the changes of codes that alarms make which are put in the places of their numbers
abbrev pub changes_by : List PlainAlarm → List (ℕ × PlainAlarm) → List (ℕ × PlainChange)
changes_by alarms [] = []
changes_by alarms (one ∷ moved) = elim (change_from (slice_get alarms one.0) one.1) [
  | None ↦ changes_by alarms moved
  | Some change ↦ (one.0, change) ∷ changes_by alarms moved
]

-- what is listed of the alarm of a number: nothing if it rests
abbrev pub listed : ℕ → Option PlainAlarm → List (ℕ × PlainAlarm)
listed n None = []
listed n (Some alarm) = (n, alarm) ∷ []

-- what a scan makes of the alarm of a number is added to lists: the alarm unless it rests, and the change of its code, if there is one
abbrev pub AddsMove : ℕ → List Bool → List Bool → ℕ → List PlainAlarm → List (ℕ × PlainAlarm) → List (ℕ × PlainAlarm) → List (ℕ × PlainChange) → List (ℕ × PlainChange) → Type 0
AddsMove n cs ss t alarms moved moved' changes changes' =
    (move : Option PlainAlarm) × IsMoveAt n cs ss t alarms move × (moved' ≡ moved ++ listed n move) × (changes' ≡ changes ++ changes_by alarms (listed n move))

-- the alarms that a scan moves which makes new alarms of old ones, and the changes of their codes
abbrev pub AreMovesOf : List PlainAlarm → List PlainAlarm → List (ℕ × PlainAlarm) → List (ℕ × PlainChange) → Type 0
AreMovesOf old new moved changes = record {
  moved : AreMoved 0 old new moved;
  changes : changes ≡ changes_from 0 old new;
}

-- what a scan of alarms lists: those that it moves, and the changes of their codes
abbrev pub AreScanMoves : List Bool → List Bool → ℕ → List PlainAlarm → Moves → Type 0
AreScanMoves cs ss t alarms moves = AreMovesOf alarms (scan_each cs ss t alarms) moves.moved.items moves.changes.items

-- the alarms before a place that a scan moves: behind them come those from there on
abbrev pub MovesOn : ℕ → List Bool → List Bool → ℕ → List PlainAlarm → List (ℕ × PlainAlarm) → Type 0
MovesOn i cs ss t xs moved =
    (rest : List (ℕ × PlainAlarm)) → AreMoved i (drop i xs) (scan_each (drop i cs) (drop i ss) t (drop i xs)) rest → AreMoved 0 xs (scan_each cs ss t xs) (moved ++ rest)

-- what a scan lists of the alarms before a place
abbrev pub AreMovesBefore : ℕ → List Bool → List Bool → ℕ → List PlainAlarm → Moves → Type 0
AreMovesBefore i cs ss t alarms moves = record {
  moved : MovesOn i cs ss t alarms moves.moved.items;
  changes : moves.changes.items ≡ changes_by alarms moves.moved.items;
}

-- the change that an order of the alarm of a number makes which is answered so: none if it is refused, or changes no code
abbrev pub told_change : ℕ → Result (Option PlainChange) OrderFault → List (ℕ × PlainChange)
told_change n (Ok None) = []
told_change n (Ok (Some change)) = (n, change) ∷ []
told_change n (Err fault) = []
