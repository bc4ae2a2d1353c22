-- Worked examples of the standard blocks, each computed by hand from its rule. The latest call comes first.
use Rattle.std.proofs.Common.{◌≡◌, pos, negsuc, true, false, [], ◌∷◌, refl}
use Rattle.std_blocks.specs.Calls.{call}
use Rattle.std_blocks.specs.Timers.{ton, tof}
use Rattle.std_blocks.specs.Edges.{r_trig}

-- PT is 2 s and IN is TRUE from 0 on: a millisecond before its end Q is FALSE, and at its end TRUE
pub on_delay_before : ton (call true (pos 2000) 1999 ∷ call true (pos 2000) 0 ∷ []) ≡ (false, pos 1999)
on_delay_before = refl

pub on_delay_after : ton (call true (pos 2000) 2000 ∷ call true (pos 2000) 1999 ∷ call true (pos 2000) 0 ∷ []) ≡ (true, pos 2000)
on_delay_after = refl

-- IN is TRUE at 0, FALSE at 5 and TRUE from 8 on: with PT 10 ms the time counts from 8
pub on_delay_anew : ton (call true (pos 10) 17 ∷ call true (pos 10) 8 ∷ call false (pos 10) 5 ∷ call true (pos 10) 0 ∷ []) ≡ (false, pos 9)
on_delay_anew = refl

pub on_delay_anew_after : ton (call true (pos 10) 18 ∷ call true (pos 10) 17 ∷ call true (pos 10) 8 ∷ call false (pos 10) 5 ∷ call true (pos 10) 0 ∷ []) ≡ (true, pos 10)
on_delay_anew_after = refl

-- PT 0, and a PT below 0, which counts as 0: Q is TRUE at once
pub on_delay_none : ton (call true (pos 0) 7 ∷ []) ≡ (true, pos 0)
on_delay_none = refl

pub on_delay_negative : ton (call true (negsuc 4) 7 ∷ []) ≡ (true, pos 0)
on_delay_negative = refl

-- PT is 1 s, IN is TRUE at 0 and FALSE from 5 on: Q stays TRUE until 1004
pub off_delay_before : tof (call false (pos 1000) 1004 ∷ call false (pos 1000) 5 ∷ call true (pos 1000) 0 ∷ []) ≡ (true, pos 999)
off_delay_before = refl

pub off_delay_after : tof (call false (pos 1000) 1005 ∷ call false (pos 1000) 5 ∷ call true (pos 1000) 0 ∷ []) ≡ (false, pos 1000)
off_delay_after = refl

-- IN was never TRUE
pub off_delay_never : tof (call false (pos 1000) 3 ∷ call false (pos 1000) 0 ∷ []) ≡ (false, pos 0)
off_delay_never = refl

-- CLK rises in the first call, and then stays TRUE
pub edge_first : r_trig (true ∷ []) ≡ true
edge_first = refl

pub edge_stays : r_trig (true ∷ true ∷ []) ≡ false
edge_stays = refl

pub edge_again : r_trig (true ∷ false ∷ true ∷ []) ≡ true
edge_again = refl
