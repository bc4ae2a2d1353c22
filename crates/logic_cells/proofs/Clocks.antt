-- A clock that stands for calls stands for one more after a call.
use Rattle.std.proofs.Common.{◌≡◌, pos, List, ◌∷◌}
use Rattle.std_blocks.specs.Calls.{Call}
use Rattle.std_blocks.proofs.Steps.{ton_steps, ton_shows, tof_steps, tof_shows, trig_steps, trig_shows}
use Rattle.logic_cells.specs.declared.clock.Standard.{Standard}
use Rattle.logic_cells.specs.declared.clock.Standard.TheVariants as standard
use Rattle.logic_cells.specs.declared.clock.Timer.TheVariants as timer
use Rattle.logic_cells.specs.Clocks.{showing, clks, clock_of, clock_step}

pub clock_steps : (of : Standard) (c : Call) (calls : List Call) → clock_step c (clock_of of calls) ≡ clock_of of (c ∷ calls)
clock_steps standard.Ton c calls = λ i. showing (timer.Ton (ton_steps c calls i)) (ton_shows c calls i)
clock_steps standard.Tof c calls = λ i. showing (timer.Tof (tof_steps c calls i)) (tof_shows c calls i)
clock_steps standard.RTrig c calls = λ i. showing (timer.Trig (trig_steps c.input (clks calls) i)) (trig_shows c.input (clks calls) i, pos 0)
