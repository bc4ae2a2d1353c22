-- Worked examples: each alarm steps by globals of its own.
use Rattle.std.proofs.Common.{◌≡◌, ℕ, ℤ, pos, List, [], ◌∷◌, map, None, Some, slice_index_or, refl}
use Rattle.std.specs.Prelude.{Option, false}
use Rattle.alarm_machine.specs.Codes.{PlainChange}
use Rattle.alarm_machine.specs.declared.states.Code.{Code}
use Rattle.alarm_machine.specs.declared.states.Code.TheVariants.{Norm, Unack, Suppr}
use Rattle.engine_history.specs.AlarmRow.{AlarmRow}
use Rattle.alarm_bank.specs.Moves.{changes_from}
use Rattle.engine_system.specs.System.{no_scans, opening_alarm, alarms_after, scans_after}

-- an alarm on a global, suppressed by another or by none
abbrev row : ℕ → Option ℕ → AlarmRow
row condition suppress = record { tag = []; area = 0; priority = 1; condition = condition; suppress = suppress; latching = false; max_shelve_ms = 0; on_delay_ms = 0; text = [] }

-- one on the first global, one on the second and suppressed by the third, one on the second
abbrev rows : List AlarmRow
rows = row 0 None ∷ row 1 (Some 2) ∷ row 1 None ∷ []

-- a change of an alarm that was normal
abbrev to : Code → PlainChange
to code = record { from = Norm; to = code }

-- their changes in the first scan, after which the three globals have these values
abbrev pub changes : ℤ → ℤ → ℤ → List (ℕ × PlainChange)
changes a b c =
    let now : ℕ → ℤ = λ n. slice_index_or (a ∷ b ∷ c ∷ []) n (pos 0) in
    changes_from 0 (map opening_alarm rows) (alarms_after now 5 rows (scans_after now 5 rows (map no_scans rows)) (map opening_alarm rows))

no_condition : changes (pos 0) (pos 0) (pos 0) ≡ []
no_condition = refl

first_condition : changes (pos 1) (pos 0) (pos 0) ≡ (0, to Unack) ∷ []
first_condition = refl

one_condition_of_two_alarms : changes (pos 0) (pos 1) (pos 0) ≡ (1, to Unack) ∷ (2, to Unack) ∷ []
one_condition_of_two_alarms = refl

one_of_two_suppressed : changes (pos 0) (pos 1) (pos 1) ≡ (1, to Suppr) ∷ (2, to Unack) ∷ []
one_of_two_suppressed = refl

suppressed_without_condition : changes (pos 1) (pos 0) (pos 1) ≡ (0, to Unack) ∷ (1, to Suppr) ∷ []
suppressed_without_condition = refl
