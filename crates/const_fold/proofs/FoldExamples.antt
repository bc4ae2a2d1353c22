-- Right sides, and what folding makes of them, worked out by hand.
use Rattle.std.specs.Prelude.{◌≡◌, ℕ, ℤ, pos, negsuc, Bool, true, false, refl}
use Rattle.plant_types.specs.declared.values.Value.TheVariants as value
use Rattle.st_tree.specs.declared.tree.Literal.TheVariants.{Integer, Value}
use Rattle.st_tree.specs.declared.tree.Unary.TheVariants.{Not, Negate}
use Rattle.st_tree.specs.declared.tree.Binary.TheVariants.{And, Less, Add, AddTime, Subtract, Multiply, Divide, Mod}
use Rattle.st_tree.specs.Plain.{PlainExpr, literal, read, element, unary, binary, assign, done, next}
use Rattle.const_fold.specs.Folding.{folded_expr, folded_body}

-- an integer as it is written, a number that has a sign or is a result, a duration, a truth, and the variable y
abbrev integer : ℕ → PlainExpr ℕ
integer n = literal (Integer (pos n))

abbrev dint : ℤ → PlainExpr ℕ
dint n = literal (Value (value.Dint n))

abbrev time : ℕ → PlainExpr ℕ
time n = literal (Value (value.Time (pos n)))

abbrev truth : Bool → PlainExpr ℕ
truth b = literal (Value (value.Bool b))

abbrev y : PlainExpr ℕ
y = read 0

-- 2 + 3 * 4 is 14
inside_out : folded_expr (binary Add (integer 2) (binary Multiply (integer 3) (integer 4))) ≡ dint (pos 14)
inside_out = refl

-- 5 MOD 0 is 0, and -7 / 2 is -3
by_zero : folded_expr (binary Mod (integer 5) (integer 0)) ≡ dint (pos 0)
by_zero = refl

toward_zero : folded_expr (binary Divide (dint (negsuc 6)) (integer 2)) ≡ dint (negsuc 2)
toward_zero = refl

-- -(3) is -3
negated : folded_expr (unary Negate (dint (pos 3))) ≡ dint (negsuc 2)
negated = refl

-- 1 / 0, 2147483647 + 1 and 0 * (1 / y) stay
divided : folded_expr (binary Divide (integer 1) (integer 0)) ≡ binary Divide (integer 1) (integer 0)
divided = refl

too_large : folded_expr (binary Add (integer 2147483647) (integer 1)) ≡ binary Add (integer 2147483647) (integer 1)
too_large = refl

may_trap : folded_expr (binary Multiply (integer 0) (binary Divide (integer 1) y)) ≡ binary Multiply (integer 0) (binary Divide (integer 1) y)
may_trap = refl

-- y + (2 - 2) is y + 0; in (1 / 0) + (2 - 2) the right operand alone is folded
beside : folded_expr (binary Add y (binary Subtract (integer 2) (integer 2))) ≡ binary Add y (dint (pos 0))
beside = refl

beside_trap : folded_expr (binary Add (binary Divide (integer 1) (integer 0)) (binary Subtract (integer 2) (integer 2))) ≡ binary Add (binary Divide (integer 1) (integer 0)) (dint (pos 0))
beside_trap = refl

-- a result has the operator's kind: T#1s + T#2s is T#3s, NOT (2 < 1) is TRUE
times : folded_expr (binary AddTime (time 1000) (time 2000)) ≡ time 3000
times = refl

truths : folded_expr (unary Not (binary Less (integer 2) (integer 1))) ≡ truth true
truths = refl

-- FALSE AND y stays, for y is no literal
kept_truth : folded_expr (binary And (truth false) y) ≡ binary And (truth false) y
kept_truth = refl

-- w[1 + 1] is w[2], and w[5] of an array with the bounds 0..3 stays, as it traps
folded_index : folded_expr (element 1 (record { low = pos 0; high = pos 3 }) (binary Add (integer 1) (integer 1))) ≡ element 1 (record { low = pos 0; high = pos 3 }) (dint (pos 2))
folded_index = refl

-- y := 2 + 3 * 4;
statement : folded_body (next (assign 1 0 (binary Add (integer 2) (binary Multiply (integer 3) (integer 4)))) done) ≡ next (assign 1 0 (dint (pos 14))) done
statement = refl
