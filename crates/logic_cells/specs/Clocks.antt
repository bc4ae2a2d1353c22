-- What the instance of a standard block keeps of its calls: its state, and what its outputs show.
use Rattle.std.specs.Prelude.{ℕ, zero, suc, ℤ, pos, Bool, List, map, Option, Some, None}
use Rattle.plant_types.specs.Values.{truth}
use Rattle.std_blocks.specs.Calls.{Call}
use Rattle.std_blocks.specs.Timers.{ton, tof}
use Rattle.std_blocks.specs.Edges.{r_trig, trig_state, trig_step, trig_shown}
use Rattle.std_blocks.specs.States.{ton_state, ton_step, ton_shown, tof_state, tof_step, tof_shown}
use Rattle.logic_cells.specs.declared.clock.Standard.{Standard}
use Rattle.logic_cells.specs.declared.clock.Standard.TheVariants as standard
use Rattle.logic_cells.specs.declared.clock.Timer.{Timer}
use Rattle.logic_cells.specs.declared.clock.Timer.TheVariants as timer
use Rattle.logic_cells.specs.declared.clock.Clock.{Clock}

-- the clock of a state that shows Q and ET
abbrev pub showing : Timer → Bool × ℤ → Clock
showing state outputs = record { timer = state; q = outputs.0; et = outputs.1 }

-- CLK of each call, of an R_TRIG
abbrev pub clks : List Call → List Bool
clks calls = map (λ (c : Call). c.input) calls

-- the clock of an instance after all its calls, the latest one first
abbrev pub clock_of : Standard → List Call → Clock
clock_of standard.Ton calls = showing (timer.Ton (ton_state calls)) (ton calls)
clock_of standard.Tof calls = showing (timer.Tof (tof_state calls)) (tof calls)
clock_of standard.RTrig calls = showing (timer.Trig (trig_state (clks calls))) (r_trig (clks calls), pos 0)

-- the clock that a call leaves, by the state before it
abbrev pub stepped : Call → Timer → Clock
stepped c (timer.Ton state) = showing (timer.Ton (ton_step c state)) (ton_shown c state)
stepped c (timer.Tof state) = showing (timer.Tof (tof_step c state)) (tof_shown c state)
stepped c (timer.Trig state) = showing (timer.Trig (trig_step c.input state)) (trig_shown c.input state, pos 0)

abbrev pub clock_step : Call → Clock → Clock
clock_step c clock = stepped c clock.timer

-- what a clock shows: Q at the output 0, and ET at any other; 0 where there is no clock
abbrev pub shown_by : Option Clock → ℕ → ℤ
shown_by None name = pos 0
shown_by (Some clock) zero = truth clock.q
shown_by (Some clock) (suc n) = clock.et
