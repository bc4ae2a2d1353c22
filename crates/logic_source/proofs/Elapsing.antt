-- ET is a TIME in range where PT of each call is.
use Rattle.std.proofs.Common.{refl, ℕ, ◌≤◌, ℤ, pos, negsuc, Bool, true, false, if◌then◌else◌, List, [], ◌∷◌, arith}
use Rattle.std.specs.Prelude.{min}
use Rattle.std.specs.List.{All, AllByRecursion}
use Rattle.std.proofs.lemmas.Int.{ints}
use Rattle.std.proofs.lemmas.List.Elements.{recursion_from_All}
use Rattle.plant_types.specs.declared.values.Kind.TheVariants as kind
use Rattle.std_blocks.specs.Calls.{Call, preset, run_on, run_off, was_on, elapsed}
use Rattle.std_blocks.specs.Timers.{after_run_on, ton, after_run_off, tof}
use Rattle.st_tree.proofs.RangeLaws.{InRange}

abbrev IsTimed : Call → Type 0
IsTimed c = InRange kind.Time c.pt

-- what isn't above PT is in range where PT is
below_preset : (n : ℕ) (pt : ℤ) → n ≤ preset pt → InRange kind.Time pt → InRange kind.Time (pos n)
below_preset n (pos m) below fits = grind (arith, ints, below, fits)
below_preset n (negsuc m) below fits = grind (arith, ints, below)

least : (n m : ℕ) → min n m ≤ m
least n m = omega arith

shown : (n : ℕ) (pt : ℤ) → InRange kind.Time pt → InRange kind.Time (pos (min n (preset pt)))
shown n pt fits = below_preset (min n (preset pt)) pt (least n (preset pt)) fits

on_timed : (calls : List Call) → AllByRecursion IsTimed calls → AllByRecursion IsTimed (run_on calls)
on_timed [] all = tt
on_timed (c ∷ calls) all = by_input c.input (on_timed calls all.1)
  where
    by_input : (b : Bool) → AllByRecursion IsTimed (run_on calls) → AllByRecursion IsTimed (if b then c ∷ run_on calls else [])
    by_input true rest = (all.0, rest)
    by_input false rest = tt

off_timed : (calls : List Call) → AllByRecursion IsTimed calls → AllByRecursion IsTimed (run_off calls)
off_timed [] all = tt
off_timed (c ∷ calls) all = by_input c.input (off_timed calls all.1)
  where
    by_input : (b : Bool) → AllByRecursion IsTimed (run_off calls) → AllByRecursion IsTimed (if b then [] else c ∷ run_off calls)
    by_input true rest = tt
    by_input false rest = (all.0, rest)

after_on : (calls : List Call) → AllByRecursion IsTimed calls → InRange kind.Time (after_run_on calls).1
after_on [] all = refl
after_on (c ∷ calls) all = shown (elapsed c calls) c.pt all.0

after_off : (calls : List Call) → AllByRecursion IsTimed calls → InRange kind.Time (after_run_off calls).1
after_off [] all = refl
after_off (c ∷ calls) all = shown (elapsed c calls) c.pt all.0

pub ton_timed : (calls : List Call) → All IsTimed calls → InRange kind.Time (ton calls).1
ton_timed calls all = after_on (run_on calls) (on_timed calls (recursion_from_All IsTimed calls all))

pub tof_timed : (calls : List Call) → All IsTimed calls → InRange kind.Time (tof calls).1
tof_timed calls all = by_on (was_on calls) (after_off (run_off calls) (off_timed calls (recursion_from_All IsTimed calls all)))
  where
    by_on : (b : Bool) → InRange kind.Time (after_run_off (run_off calls)).1 → InRange kind.Time (if b then after_run_off (run_off calls) else (false, pos 0)).1
    by_on true fits = fits
    by_on false fits = refl
