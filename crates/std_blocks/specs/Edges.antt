-- R_TRIG, as a function of CLK in all its calls, the latest one first (IEC 61131-3).
use Rattle.std.specs.Prelude.{Bool, false, not, ◌&&◌, List, [], ◌∷◌}

-- Q is TRUE where the last CLK is TRUE, and that of the call before it is FALSE or isn't there
abbrev pub r_trig : List Bool → Bool
r_trig [] = false
r_trig (clk ∷ []) = clk
r_trig (clk ∷ before ∷ clks) = clk && not before

-- CLK of the last call, FALSE before the first
pub record PlainTrigState : Type 0 where
  pub last : Bool

abbrev pub last_clk : List Bool → Bool
last_clk [] = false
last_clk (clk ∷ clks) = clk

abbrev pub trig_state : List Bool → PlainTrigState
trig_state clks = record { last = last_clk clks }

-- the state after a call is its CLK
abbrev pub trig_step : Bool → PlainTrigState → PlainTrigState
trig_step clk state = record { last = clk }

-- Q that a call gives, by the state before it
abbrev pub trig_shown : Bool → PlainTrigState → Bool
trig_shown clk state = clk && not state.last
