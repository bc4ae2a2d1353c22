use Rattle.std.proofs.Common.{◌≡◌, map, take, []}
use Rattle.logic_cells.specs.Clocks.{clock_of}
use Rattle.logic_cells.proofs.clock.new_clocks.Given as goal

-- a clock for each standard block that was gone over
abbrev pub invariant-loop-standard : goal.invariant-loop-standard
invariant-loop-standard l = l.clocks.items ≡ map (λ standard. clock_of standard []) (take l.standard-index l.standards)
