-- Values of variables, their kinds and their ranges.
use Rattle.std.specs.Prelude.{Bool, true, false, not, ◌||◌, if◌then◌else◌, Option, Some, None, Result, Ok, Err, ℕ, ◌+◌, List, ℤ, pos, negsuc, ◌-ℤ◌, nat_abs, int_lt, codes}
use Rattle.std.specs.Ordering.{int_eq}
use Rattle.plant_types.specs.declared.values.Bounds.{Bounds}
use Rattle.plant_types.specs.declared.values.Given.{Given}
use Rattle.plant_types.specs.declared.values.Given.TheVariants as given
use Rattle.plant_types.specs.declared.values.Kind.{Kind}
use Rattle.plant_types.specs.declared.values.Kind.TheVariants as kind
use Rattle.plant_types.specs.declared.values.Trap.{Trap}
use Rattle.plant_types.specs.declared.values.Trap.TheVariants as trap
use Rattle.plant_types.specs.declared.values.Value.{Value}
use Rattle.plant_types.specs.declared.values.Value.TheVariants as value

-- a path: the names of instances, the innermost first
abbrev pub Path : Type 0
Path = List (List ℕ)

-- the kind of a value
abbrev pub kind_of : Value → Kind
kind_of (value.Bool b) = kind.Bool
kind_of (value.Dint n) = kind.Dint
kind_of (value.Time n) = kind.Time

-- a truth value as a whole number: FALSE is 0, TRUE is 1
abbrev pub truth : Bool → ℤ
truth b = if b then pos 1 else pos 0

-- whether a whole number stands for TRUE: any number but 0 does
abbrev pub is_true : ℤ → Bool
is_true n = not (int_eq n (pos 0))

-- a value as a whole number: a BOOL is 0 or 1, a TIME its milliseconds
abbrev pub worth : Value → ℤ
worth (value.Bool b) = truth b
worth (value.Dint n) = n
worth (value.Time n) = n

-- the value of a kind for a whole number of its range
abbrev pub value_of_kind : Kind → ℤ → Value
value_of_kind kind.Bool n = value.Bool (is_true n)
value_of_kind kind.Dint n = value.Dint n
value_of_kind kind.Time n = value.Time n

-- whether a number is below a range or above it
abbrev pub is_outside : ℤ → ℤ → ℤ → Bool
is_outside low high n = int_lt n low || int_lt high n

-- whether a number is in a kind's range: 0 or 1, 32 bits, 64 bits
abbrev pub is_in_range : Kind → ℤ → Bool
is_in_range kind.Bool n = not (is_outside (pos 0) (pos 1) n)
is_in_range kind.Dint n = not (is_outside (negsuc 2147483647) (pos 2147483647) n)
is_in_range kind.Time n = not (is_outside (negsuc 9223372036854775807) (pos 9223372036854775807) n)

-- the value that was given for a variable of a kind: a truth value or 0 or 1 for a BOOL, a number of the range for the others; else none
abbrev pub fitted : Kind → Given → Option Value
fitted kind.Bool (given.Truth b) = Some (value.Bool b)
fitted kind.Bool (given.Whole n) = if int_eq n (pos 0) then Some (value.Bool false) else if int_eq n (pos 1) then Some (value.Bool true) else None
fitted kind.Dint (given.Truth b) = None
fitted kind.Dint (given.Whole n) = if is_outside (negsuc 2147483647) (pos 2147483647) n then None else Some (value.Dint n)
fitted kind.Time (given.Truth b) = None
fitted kind.Time (given.Whole n) = if is_outside (negsuc 9223372036854775807) (pos 9223372036854775807) n then None else Some (value.Time n)

-- the word for why a program stopped
abbrev pub trap_text : Trap → List ℕ
trap_text trap.Overflow = codes "OVERFLOW"
trap_text trap.DivZero = codes "DIVZERO"
trap_text trap.Index = codes "INDEX"

-- whether an array with these bounds has an element of an index: from the low bound to the high one
abbrev pub has_index : Bounds → ℤ → Bool
has_index bounds index = not (is_outside bounds.low bounds.high index)

-- an index that is tested: itself, or the trap where the array has no such element
abbrev pub indexed : Bounds → ℤ → Result ℤ Trap
indexed bounds index = if has_index bounds index then Ok index else Err trap.Index

-- how many elements an array of these bounds has, where the low one isn't above the high one
abbrev pub row_length : Bounds → ℕ
row_length bounds = nat_abs (bounds.high -ℤ bounds.low) + 1

-- the number of an array's element, by that of its first one and an index within the bounds
abbrev pub row_place : ℕ → Bounds → ℤ → ℕ
row_place first bounds index = first + nat_abs (index -ℤ bounds.low)
