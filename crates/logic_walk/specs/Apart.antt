-- Instances whose values lie apart.
use Rattle.std.specs.Prelude.{ℕ, ◌+◌, ◌≤◌, ◌⊎◌}
use Rattle.logic_walk.specs.declared.frame.Seat.{Seat}

-- the values of two instances of a routine lie apart, so many of the one and so many of the other
abbrev pub LieApart : (a b : Seat) (m n : ℕ) → Type 0
LieApart a b m n = (a.values + m ≤ b.values) ⊎ (b.values + n ≤ a.values)
