-- The limits of a source, and counts that stop one above their limit.
use Rattle.std.specs.Prelude.{ℕ, ◌+◌, ◌<◌, ◌≤◌, min}
use Rattle.std.specs.List.{All, Any}
use Rattle.logic_source.specs.Source.{Source}
use Rattle.logic_limits.specs.declared.fault.LimitFault.{LimitFault}
use Rattle.logic_limits.specs.declared.fault.LimitFault.TheVariants as fault
use Rattle.logic_limits.specs.Counts.{slot_count, plant_size, program_costs}

-- a count that stops one above its limit
abbrev pub capped : (limit n : ℕ) → ℕ
capped limit n = min n (limit + 1)

-- a source has at most 65,536 slots
abbrev pub KeepsSlots : Source → Type 0
KeepsSlots source = slot_count source ≤ 65536

-- its programs together are at most 1,000,000 in size
abbrev pub KeepsSize : Source → Type 0
KeepsSize source = plant_size source ≤ 1000000

-- each of its programs costs at most 2,000,000
abbrev pub KeepsCost : Source → Type 0
KeepsCost source = All (λ cost. cost ≤ 2000000) (program_costs source)

-- a source keeps the limits
pub record KeepsLimits (source : Source) : Type 0 where
  pub slots : KeepsSlots source
  pub size : KeepsSize source
  pub cost : KeepsCost source

-- the first limit that a source is past
abbrev pub IsLimitFault : Source → LimitFault → Type 0
IsLimitFault source fault.Memory = Unit {0}
IsLimitFault source fault.Slots = 65536 < slot_count source
IsLimitFault source fault.Size = KeepsSlots source × (1000000 < plant_size source)
IsLimitFault source fault.Cost = KeepsSlots source × KeepsSize source × Any (λ cost. 2000000 < cost) (program_costs source)
