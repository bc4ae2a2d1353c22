-- The results of operators, in whole numbers without a range: FALSE is 0 and TRUE is 1.
use Rattle.std.specs.Prelude.{ℤ, pos, ◌+ℤ◌, ◌-ℤ◌, ◌*ℤ◌, neg_ℤ, int_div, int_lt, Bool, not, ◌&&◌, ◌||◌, if◌then◌else◌, Result, Ok, Err}
use Rattle.std.specs.Ordering.{int_eq}
use Rattle.plant_types.specs.declared.values.Kind.{Kind}
use Rattle.plant_types.specs.declared.values.Kind.TheVariants as kind
use Rattle.plant_types.specs.declared.values.Trap.{Trap}
use Rattle.plant_types.specs.declared.values.Trap.TheVariants.{Overflow, DivZero}
use Rattle.plant_types.specs.Values.{truth, is_true, is_in_range}
use Rattle.st_tree.specs.declared.tree.Unary.{Unary}
use Rattle.st_tree.specs.declared.tree.Unary.TheVariants.{Not, Negate, NegateTime}
use Rattle.st_tree.specs.declared.tree.Binary.{Binary}
use Rattle.st_tree.specs.declared.tree.Binary.TheVariants.{And, Xor, Or, Equal, Unequal, Less, Greater, AtMost, AtLeast, Add, AddTime, Subtract, SubtractTime, Multiply, Divide, Mod}

-- the outcome of an expression: a value, or a trap
abbrev pub Outcome : Type 0
Outcome = Result ℤ Trap

-- a result of a kind: one out of the kind's range is a trap
abbrev pub ranged : Kind → ℤ → Outcome
ranged kind n = if is_in_range kind n then Ok n else Err Overflow

-- a DINT
abbrev pub dint : ℤ → Outcome
dint n = ranged kind.Dint n

-- a TIME
abbrev pub time : ℤ → Outcome
time n = ranged kind.Time n

-- a truth, the outcome of every comparison
abbrev pub verdict : Bool → Outcome
verdict b = Ok (truth b)

-- exactly one of two is true
abbrev pub exactly_one : Bool → Bool → Bool
exactly_one a b = (a || b) && not (a && b)

-- a quotient is truncated toward zero; there is none by 0
abbrev pub quotient : ℤ → ℤ → Outcome
quotient x y = if int_eq y (pos 0) then Err DivZero else dint (int_div x y)

-- a remainder, which is 0 by 0
abbrev pub remainder : ℤ → ℤ → ℤ
remainder x y = if int_eq y (pos 0) then pos 0 else x -ℤ (int_div x y *ℤ y)

-- the result of an operator, by its operand's value
abbrev pub eval_unary : Unary → ℤ → Outcome
eval_unary Not x = verdict (not (is_true x))
eval_unary Negate x = dint (neg_ℤ x)
eval_unary NegateTime x = time (neg_ℤ x)

-- the result of an operator, by its operands' values
abbrev pub eval_binary : Binary → ℤ → ℤ → Outcome
eval_binary And x y = verdict (is_true x && is_true y)
eval_binary Xor x y = verdict (exactly_one (is_true x) (is_true y))
eval_binary Or x y = verdict (is_true x || is_true y)
eval_binary Equal x y = verdict (int_eq x y)
eval_binary Unequal x y = verdict (not (int_eq x y))
eval_binary Less x y = verdict (int_lt x y)
eval_binary Greater x y = verdict (int_lt y x)
eval_binary AtMost x y = verdict (not (int_lt y x))
eval_binary AtLeast x y = verdict (not (int_lt x y))
eval_binary Add x y = dint (x +ℤ y)
eval_binary AddTime x y = time (x +ℤ y)
eval_binary Subtract x y = dint (x -ℤ y)
eval_binary SubtractTime x y = time (x -ℤ y)
eval_binary Multiply x y = dint (x *ℤ y)
eval_binary Divide x y = quotient x y
eval_binary Mod x y = Ok (remainder x y)
