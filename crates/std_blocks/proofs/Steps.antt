-- A step of a state that stands for calls leads to the state that stands for the calls with one more, and shows what the definition gives.
use Rattle.std.proofs.Common.{◌≡◌, pos, true, false, [], ◌∷◌, List, Bool, Some, None, refl}
use Rattle.std.specs.Prelude.{not, ◌&&◌, ◌||◌, if◌then◌else◌}
use Rattle.std_blocks.specs.Calls.{Call, run_on, run_off, was_on}
use Rattle.std_blocks.specs.Timers.{after_run_on, after_run_off, ton, tof}
use Rattle.std_blocks.specs.declared.tof.Fall.TheVariants as fall
use Rattle.std_blocks.specs.States.{began, fall_of, on_shown, off_shown, fallen, moment_or, ton_state, ton_step, ton_shown, tof_state, tof_step, tof_shown}
use Rattle.std_blocks.specs.Edges.{r_trig, trig_state, trig_step, trig_shown}

-- the run that a call with IN TRUE ends began where the run before it did
began_on : (c : Call) (run : List Call) → Some (moment_or c.moment (began run)) ≡ began (c ∷ run)
began_on c [] = refl
began_on c (d ∷ run) = refl

ton_run : (c : Call) (calls : List Call) (input : Bool) → (if input then Some (moment_or c.moment (began (run_on calls))) else None) ≡ began (if input then c ∷ run_on calls else [])
ton_run c calls true = began_on c (run_on calls)
ton_run c calls false = refl

pub ton_steps : (c : Call) (calls : List Call) → ton_step c (ton_state calls) ≡ ton_state (c ∷ calls)
ton_steps c calls = λ i. record { start = ton_run c calls c.input i }

on_shows : (c : Call) (run : List Call) → on_shown c (Some (moment_or c.moment (began run))) ≡ after_run_on (c ∷ run)
on_shows c [] = refl
on_shows c (d ∷ run) = refl

ton_end : (c : Call) (calls : List Call) (input : Bool) → on_shown c (if input then Some (moment_or c.moment (began (run_on calls))) else None) ≡ after_run_on (if input then c ∷ run_on calls else [])
ton_end c calls true = on_shows c (run_on calls)
ton_end c calls false = refl

pub ton_shows : (c : Call) (calls : List Call) → ton_shown c (ton_state calls) ≡ ton (c ∷ calls)
ton_shows c calls = ton_end c calls c.input

fallen_off : (c : Call) (was : Bool) (run : List Call) → fallen c.moment (fall_of was (began run)) ≡ fall_of was (began (c ∷ run))
fallen_off c false run = refl
fallen_off c true [] = refl
fallen_off c true (d ∷ run) = refl

off_shows : (c : Call) (was : Bool) (run : List Call) → off_shown c (fallen c.moment (fall_of was (began run))) ≡ (if was then after_run_off (c ∷ run) else (false, pos 0))
off_shows c false run = refl
off_shows c true [] = refl
off_shows c true (d ∷ run) = refl

tof_fall : (c : Call) (calls : List Call) (input : Bool)
    → (if input then fall.On else fallen c.moment (fall_of (was_on calls) (began (run_off calls)))) ≡ fall_of (input || was_on calls) (began (if input then [] else c ∷ run_off calls))
tof_fall c calls true = refl
tof_fall c calls false = fallen_off c (was_on calls) (run_off calls)

pub tof_steps : (c : Call) (calls : List Call) → tof_step c (tof_state calls) ≡ tof_state (c ∷ calls)
tof_steps c calls = λ i. record { fall = tof_fall c calls c.input i }

tof_end : (c : Call) (calls : List Call) (input : Bool)
    → off_shown c (if input then fall.On else fallen c.moment (fall_of (was_on calls) (began (run_off calls)))) ≡ (if input || was_on calls then after_run_off (if input then [] else c ∷ run_off calls) else (false, pos 0))
tof_end c calls true = refl
tof_end c calls false = off_shows c (was_on calls) (run_off calls)

pub tof_shows : (c : Call) (calls : List Call) → tof_shown c (tof_state calls) ≡ tof (c ∷ calls)
tof_shows c calls = tof_end c calls c.input

pub trig_steps : (clk : Bool) (clks : List Bool) → trig_step clk (trig_state clks) ≡ trig_state (clk ∷ clks)
trig_steps clk clks = refl

first_edge : (clk : Bool) → clk && not false ≡ clk
first_edge true = refl
first_edge false = refl

pub trig_shows : (clk : Bool) (clks : List Bool) → trig_shown clk (trig_state clks) ≡ r_trig (clk ∷ clks)
trig_shows clk [] = first_edge clk
trig_shows clk (before ∷ clks) = refl
