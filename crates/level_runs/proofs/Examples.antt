-- Program order on a small store.
use Rattle.std.proofs.Common.{◌≡◌, ℕ, suc, zero, true, false, List, [], ◌∷◌, refl, Some, None, slice_index, slice_set}
use Rattle.level_runs.specs.Stores.{RanProgram, in_order}

-- program 0 puts 7 into slot 0, program 1 copies slot 0 into slot 1 and then traps, and any other clears slot 0
abbrev does : ℕ → List ℕ → RanProgram (List ℕ) ℕ
does zero s = record { store = slice_set s 0 7; trap = None }
does (suc zero) s = record { store = slice_set s 1 (slice_index s 0); trap = Some 9 }
does (suc (suc p)) s = record { store = slice_set s 0 0; trap = None }

-- program 2 is faulted from the start; program 1 keeps what it wrote before its trap
one_after_another : in_order does 0 (false ∷ false ∷ true ∷ []) (1 ∷ 2 ∷ []) ≡ record { store = 7 ∷ 7 ∷ []; faulted = false ∷ true ∷ true ∷ []; faults = (1, 9) ∷ [] }
one_after_another = refl
