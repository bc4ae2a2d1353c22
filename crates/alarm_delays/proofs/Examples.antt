-- Worked examples: whether a condition counts after some scans. The latest scan comes first.
use Rattle.std.proofs.Common.{◌≡◌, true, false, [], ◌∷◌, Some, refl}
use Rattle.alarm_delays.specs.Delays.{counts, scan_of, since_of}

without_a_delay_at_once : counts (scan_of true 0 5 ∷ []) ≡ true
without_a_delay_at_once = refl

not_in_the_first_scan : counts (scan_of true 1 5 ∷ []) ≡ false
not_in_the_first_scan = refl

a_millisecond_early : counts (scan_of true 100 99 ∷ scan_of true 100 0 ∷ []) ≡ false
a_millisecond_early = refl

as_long_as_the_delay : counts (scan_of true 100 100 ∷ scan_of true 100 99 ∷ scan_of true 100 0 ∷ []) ≡ true
as_long_as_the_delay = refl

after_a_break_anew : counts (scan_of true 100 150 ∷ scan_of true 100 102 ∷ scan_of false 100 101 ∷ scan_of true 100 0 ∷ []) ≡ false
after_a_break_anew = refl

since_the_break : since_of (scan_of true 100 150 ∷ scan_of true 100 102 ∷ scan_of false 100 101 ∷ scan_of true 100 0 ∷ []) ≡ Some 102
since_the_break = refl

gone_at_once : counts (scan_of false 100 300 ∷ scan_of true 100 200 ∷ scan_of true 100 0 ∷ []) ≡ false
gone_at_once = refl

a_gap_is_time_that_has_passed : counts (scan_of true 60000 3600000 ∷ scan_of true 60000 0 ∷ []) ≡ true
a_gap_is_time_that_has_passed = refl
