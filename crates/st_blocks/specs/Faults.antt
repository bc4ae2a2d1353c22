-- Why block types can't be put in order.
use Rattle.std.specs.Prelude.{◌≡◌, ℕ, ◌<◌, List, Some, slice_get}
use Rattle.st_blocks.specs.Blocks.{PlainBlock, BlockHoldsItself, TooDeep, NoneHoldsItself}
use Rattle.st_blocks.specs.declared.faults.NestingFault.{NestingFault}
use Rattle.st_blocks.specs.declared.faults.NestingFault.TheVariants as fault

-- the first block type that holds itself, or else one that is too deep
abbrev pub IsNestingFault : List PlainBlock → NestingFault → Type 0
IsNestingFault blocks fault.Memory = Unit {0}
IsNestingFault blocks (fault.HoldsItself i) = ((block : PlainBlock) × (slice_get blocks i ≡ Some block) × BlockHoldsItself blocks block) × ((j : ℕ) (block : PlainBlock) → j < i → slice_get blocks j ≡ Some block → BlockHoldsItself blocks block → ⊥)
IsNestingFault blocks fault.TooDeep = NoneHoldsItself blocks × ((i : ℕ) × (block : PlainBlock) × (slice_get blocks i ≡ Some block) × TooDeep blocks block)
