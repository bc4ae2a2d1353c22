-- New alarms that fit.
use Rattle.std.proofs.Common.{◌≡◌, ℕ, ◌≤◌, Bool, true, false, ◌&&◌, List, [], ◌∷◌, All, arith, ap}
use Rattle.std.specs.Prelude.{nat_le}
use Rattle.std.specs.List.{AllByRecursion}
use Rattle.std.proofs.lemmas.Bool.{and_parts}
use Rattle.std.proofs.lemmas.Bool.Decides.{nat_tests}
use Rattle.std.proofs.lemmas.List.Elements.{All-from_recursion}
use Rattle.alarm_machine.specs.declared.limits.TheConstants.{LONGEST_SHELVE_MS}
use Rattle.alarm_bank.specs.declared.rows.NewAlarm.{NewAlarm}
use Rattle.alarm_bank.specs.Reloads.{IsShelvable, is_there, fits_in, all_fit}

within : (a b : ℕ) → nat_le a b ≡ true → a ≤ b
within a b h = grind (arith, nat_tests)

each_shelvable : (count : ℕ) (news : List NewAlarm) → all_fit count news ≡ true → AllByRecursion IsShelvable news
each_shelvable count [] h = tt
each_shelvable count (new ∷ news) h =
    let both = and_parts (fits_in count new) (all_fit count news) h in
    let own = and_parts (nat_le new.max_shelve_ms LONGEST_SHELVE_MS) (is_there count new.kept) both.0 in
    (within new.max_shelve_ms LONGEST_SHELVE_MS own.0, each_shelvable count news both.1)

-- the longest shelving of each new alarm that fits is in range
pub all_shelvable : (count : ℕ) (news : List NewAlarm) → all_fit count news ≡ true → All IsShelvable news
all_shelvable count news h = All-from_recursion IsShelvable news (each_shelvable count news h)

-- a first new alarm that doesn't fit: not all fit
pub first_unfit : (count : ℕ) (new : NewAlarm) (news : List NewAlarm) → fits_in count new ≡ false → all_fit count (new ∷ news) ≡ false
first_unfit count new news h = ap (λ (b : Bool). b && all_fit count news) h

-- one that fits: all fit if the others do
pub first_fits : (count : ℕ) (new : NewAlarm) (news : List NewAlarm) → fits_in count new ≡ true → all_fit count (new ∷ news) ≡ all_fit count news
first_fits count new news h = ap (λ (b : Bool). b && all_fit count news) h
