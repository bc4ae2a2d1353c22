-- Instances whose values lie apart.
use Rattle.std.proofs.Common.{◌≡◌, arith, ℕ, ℤ, pos, ◌+◌, ◌<◌, ◌≤◌, inl, inr}
use Rattle.std.proofs.lemmas.List.{get_or-set_other}
use Rattle.logic_cells.specs.Cells.{PlainCells, value_at, assigned}
use Rattle.logic_walk.specs.declared.frame.Base.{Base}
use Rattle.logic_walk.specs.declared.frame.Seat.{Seat}
use Rattle.logic_walk.specs.Walks.{member_slot}
use Rattle.logic_walk.specs.Apart.{LieApart}

below : (x a b m i j : ℕ) → a + m ≤ b → i < m → x + b + j ≡ x + a + i → ⊥
below x a b m i j h within same = omega arith

above : (x a b n i j : ℕ) → b + n ≤ a → j < n → x + b + j ≡ x + a + i → ⊥
above x a b n i j h within same = omega arith

pub member_kept : (base : Base) (cells : PlainCells) (a b : Seat) (m n i j : ℕ) (x : ℤ) → LieApart a b m n → i < m → j < n → value_at (assigned cells (member_slot base a i) x) (member_slot base b j) ≡ value_at cells (member_slot base b j)
member_kept base cells a b m n i j x (inl h) first second = get_or-set_other cells.values (member_slot base a i) (member_slot base b j) x (pos 0) (below base.values a.values b.values m i j h first)
member_kept base cells a b m n i j x (inr h) first second = get_or-set_other cells.values (member_slot base a i) (member_slot base b j) x (pos 0) (above base.values a.values b.values n i j h second)
