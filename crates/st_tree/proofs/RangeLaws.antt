-- The value of an expression is in the range of its kind.
use Rattle.std.proofs.Common.{◌≡◌, refl, subst, suc, ℤ, pos, negsuc, ◌-ℤ◌, ◌*ℤ◌, ◌+ℤ◌, neg_ℤ, Bool, true, false, arith}
use Rattle.std.specs.Prelude.{Option, Some, None, option_and_then, if◌then◌else◌, Ok, Err, not, ◌&&◌, ◌||◌, int_lt, int_div}
use Rattle.std.specs.Ordering.{int_eq}
use Rattle.std.proofs.lemmas.Int.{ints}
use Rattle.std.proofs.Math.Nat.{div-mul-le_self}
use Rattle.plant_types.specs.declared.values.Bounds.{Bounds}
use Rattle.plant_types.specs.declared.values.Kind.{Kind}
use Rattle.plant_types.specs.declared.values.Kind.TheVariants as kind
use Rattle.plant_types.specs.declared.values.Trap.TheVariants.{Overflow, DivZero, Index}
use Rattle.plant_types.specs.Values.{kind_of, truth, is_true, is_in_range, worth, has_index, indexed}
use Rattle.st_tree.specs.declared.tree.Literal.{Literal}
use Rattle.st_tree.specs.declared.tree.Literal.TheVariants.{Integer, Value}
use Rattle.st_tree.specs.declared.tree.Unary.{Unary}
use Rattle.st_tree.specs.declared.tree.Unary.TheVariants.{Not, Negate, NegateTime}
use Rattle.st_tree.specs.declared.tree.Binary.{Binary}
use Rattle.st_tree.specs.declared.tree.Binary.TheVariants.{And, Xor, Or, Equal, Unequal, Less, Greater, AtMost, AtLeast, Add, AddTime, Subtract, SubtractTime, Multiply, Divide, Mod}
use Rattle.st_tree.specs.Plain.{PlainExpr, literal, read, output_of, element, unary, binary}
use Rattle.st_tree.specs.Operators.{Outcome, exactly_one, ranged, dint, verdict, remainder, eval_unary, eval_binary}
use Rattle.st_tree.specs.Meaning.{literal_worth, then_one, then_two, ValuesOf, value_of}
use Rattle.st_tree.specs.Kinds.{literal_in_range, same_kind, literal_kind, unary_kind, binary_kind, Sorts, is_kind, kind_of_expr, of_truths, of_numbers, of_times, of_sums, of_order}
use Rattle.st_tree.specs.Ranges.{AreInRange}

-- a number is in the range of a kind
abbrev pub InRange : Kind → ℤ → Type 0
InRange k n = is_in_range k n ≡ true

-- a truth is in the range of a BOOL
pub truth_in : (b : Bool) → InRange kind.Bool (truth b)
truth_in true = refl
truth_in false = refl

verdict_in : (b : Bool) (n : ℤ) → verdict b ≡ Ok n → InRange kind.Bool n
verdict_in b n is = subst (InRange kind.Bool) (let e : truth b ≡ n = cc in e) (truth_in b)

ranged_by : (k : Kind) (m n : ℤ) (b : Bool) → is_in_range k m ≡ b → (if b then Ok m else Err Overflow) ≡ Ok n → InRange k n
ranged_by k m n true fits is = subst (InRange k) (let e : m ≡ n = cc in e) fits
ranged_by k m n false fits is = absurd (cc)

pub ranged_in : (k : Kind) (m n : ℤ) → ranged k m ≡ Ok n → InRange k n
ranged_in k m n is = ranged_by k m n (is_in_range k m) refl is

-- a DINT's number is in the range of a TIME too
pub dint_time : (n : ℤ) → InRange kind.Dint n → InRange kind.Time n
dint_time n h = grind (arith, ints, h)

quotient_by : (b : Bool) (m n : ℤ) → (if b then Err DivZero else dint m) ≡ Ok n → InRange kind.Dint n
quotient_by true m n is = absurd (cc)
quotient_by false m n is = ranged_in kind.Dint m n is

-- a remainder lies between 0 and the left operand
rem_in : (x y : ℤ) → InRange kind.Dint x → InRange kind.Dint (x -ℤ (int_div x y *ℤ y))
rem_in (pos a) (pos b) h = let l = div-mul-le_self a b in grind (arith, ints, h, l)
rem_in (pos a) (negsuc b) h = let l = div-mul-le_self a (suc b) in grind (arith, ints, h, l)
rem_in (negsuc a) (pos b) h = let l = div-mul-le_self (suc a) b in grind (arith, ints, h, l)
rem_in (negsuc a) (negsuc b) h = let l = div-mul-le_self (suc a) (suc b) in grind (arith, ints, h, l)

remainder_by : (b : Bool) (x y : ℤ) → InRange kind.Dint x → InRange kind.Dint (if b then pos 0 else x -ℤ (int_div x y *ℤ y))
remainder_by true x y h = refl
remainder_by false x y h = rem_in x y h

remainder_in : (x y n : ℤ) → InRange kind.Dint x → eval_binary Mod x y ≡ Ok n → InRange kind.Dint n
remainder_in x y n h is = subst (InRange kind.Dint) (let e : remainder x y ≡ n = cc in e) (remainder_by (int_eq y (pos 0)) x y h)

pub unary_in_range : (op : Unary) (k r : Kind) (x n : ℤ) → unary_kind op k ≡ Some r → eval_unary op x ≡ Ok n → InRange r n
unary_in_range Not kind.Bool r x n is gives = subst (λ r. InRange r n) (let e : kind.Bool ≡ r = cc in e) (verdict_in (not (is_true x)) n gives)
unary_in_range Not kind.Dint r x n is gives = absurd (cc)
unary_in_range Not kind.Time r x n is gives = absurd (cc)
unary_in_range Negate kind.Bool r x n is gives = absurd (cc)
unary_in_range Negate kind.Dint r x n is gives = subst (λ r. InRange r n) (let e : kind.Dint ≡ r = cc in e) (ranged_in kind.Dint (neg_ℤ x) n gives)
unary_in_range Negate kind.Time r x n is gives = subst (λ r. InRange r n) (let e : kind.Time ≡ r = cc in e) (dint_time n (ranged_in kind.Dint (neg_ℤ x) n gives))
unary_in_range NegateTime kind.Bool r x n is gives = absurd (cc)
unary_in_range NegateTime kind.Dint r x n is gives = absurd (cc)
unary_in_range NegateTime kind.Time r x n is gives = subst (λ r. InRange r n) (let e : kind.Time ≡ r = cc in e) (ranged_in kind.Time (neg_ℤ x) n gives)

-- moves a fact to the kind that is kind_of_expr
to : (k r : Kind) (n : ℤ) → k ≡ r → InRange k n → InRange r n
to k r n e h = subst (λ k. InRange k n) e h

truths_in : (a b r : Kind) (n : ℤ) → of_truths a b ≡ Some r → InRange kind.Bool n → InRange r n
truths_in kind.Bool kind.Bool r n is h = to kind.Bool r n (cc) h
truths_in kind.Bool kind.Dint r n is h = absurd (cc)
truths_in kind.Bool kind.Time r n is h = absurd (cc)
truths_in kind.Dint b r n is h = absurd (cc)
truths_in kind.Time b r n is h = absurd (cc)

numbers_in : (a b r : Kind) (n : ℤ) → of_numbers a b ≡ Some r → InRange kind.Dint n → InRange r n
numbers_in kind.Dint kind.Dint r n is h = to kind.Dint r n (cc) h
numbers_in kind.Dint kind.Bool r n is h = absurd (cc)
numbers_in kind.Dint kind.Time r n is h = absurd (cc)
numbers_in kind.Bool b r n is h = absurd (cc)
numbers_in kind.Time b r n is h = absurd (cc)

-- the remainder's operand is a DINT
left_dint : (a b r : Kind) (x : ℤ) → of_numbers a b ≡ Some r → InRange a x → InRange kind.Dint x
left_dint kind.Dint b r x is h = h
left_dint kind.Bool b r x is h = absurd (cc)
left_dint kind.Time b r x is h = absurd (cc)

times_in : (a b r : Kind) (n : ℤ) → of_times a b ≡ Some r → InRange kind.Time n → InRange r n
times_in kind.Time kind.Time r n is h = to kind.Time r n (cc) h
times_in kind.Time kind.Bool r n is h = absurd (cc)
times_in kind.Time kind.Dint r n is h = absurd (cc)
times_in kind.Bool b r n is h = absurd (cc)
times_in kind.Dint b r n is h = absurd (cc)

sums_in : (a b r : Kind) (n : ℤ) → of_sums a b ≡ Some r → InRange kind.Dint n → InRange r n
sums_in kind.Dint kind.Dint r n is h = to kind.Dint r n (cc) h
sums_in kind.Dint kind.Bool r n is h = absurd (cc)
sums_in kind.Dint kind.Time r n is h = absurd (cc)
sums_in kind.Time kind.Time r n is h = to kind.Time r n (cc) (dint_time n h)
sums_in kind.Time kind.Bool r n is h = absurd (cc)
sums_in kind.Time kind.Dint r n is h = absurd (cc)
sums_in kind.Bool b r n is h = absurd (cc)

orders_in : (a b r : Kind) (n : ℤ) → of_order a b ≡ Some r → InRange kind.Bool n → InRange r n
orders_in kind.Dint kind.Dint r n is h = to kind.Bool r n (cc) h
orders_in kind.Dint kind.Bool r n is h = absurd (cc)
orders_in kind.Dint kind.Time r n is h = absurd (cc)
orders_in kind.Time kind.Time r n is h = to kind.Bool r n (cc) h
orders_in kind.Time kind.Bool r n is h = absurd (cc)
orders_in kind.Time kind.Dint r n is h = absurd (cc)
orders_in kind.Bool b r n is h = absurd (cc)

equals_in : (same : Bool) (r : Kind) (n : ℤ) → (if same then Some kind.Bool else None) ≡ Some r → InRange kind.Bool n → InRange r n
equals_in true r n is h = to kind.Bool r n (cc) h
equals_in false r n is h = absurd (cc)

pub binary_in_range : (op : Binary) (a b r : Kind) (x y n : ℤ) → binary_kind op a b ≡ Some r → InRange a x → eval_binary op x y ≡ Ok n → InRange r n
binary_in_range And a b r x y n is h gives = truths_in a b r n is (verdict_in (is_true x && is_true y) n gives)
binary_in_range Xor a b r x y n is h gives = truths_in a b r n is (verdict_in (exactly_one (is_true x) (is_true y)) n gives)
binary_in_range Or a b r x y n is h gives = truths_in a b r n is (verdict_in (is_true x || is_true y) n gives)
binary_in_range Equal a b r x y n is h gives = equals_in (same_kind a b) r n is (verdict_in (int_eq x y) n gives)
binary_in_range Unequal a b r x y n is h gives = equals_in (same_kind a b) r n is (verdict_in (not (int_eq x y)) n gives)
binary_in_range Less a b r x y n is h gives = orders_in a b r n is (verdict_in (int_lt x y) n gives)
binary_in_range Greater a b r x y n is h gives = orders_in a b r n is (verdict_in (int_lt y x) n gives)
binary_in_range AtMost a b r x y n is h gives = orders_in a b r n is (verdict_in (not (int_lt y x)) n gives)
binary_in_range AtLeast a b r x y n is h gives = orders_in a b r n is (verdict_in (not (int_lt x y)) n gives)
binary_in_range Add a b r x y n is h gives = sums_in a b r n is (ranged_in kind.Dint (x +ℤ y) n gives)
binary_in_range AddTime a b r x y n is h gives = times_in a b r n is (ranged_in kind.Time (x +ℤ y) n gives)
binary_in_range Subtract a b r x y n is h gives = sums_in a b r n is (ranged_in kind.Dint (x -ℤ y) n gives)
binary_in_range SubtractTime a b r x y n is h gives = times_in a b r n is (ranged_in kind.Time (x -ℤ y) n gives)
binary_in_range Multiply a b r x y n is h gives = numbers_in a b r n is (ranged_in kind.Dint (x *ℤ y) n gives)
binary_in_range Divide a b r x y n is h gives = numbers_in a b r n is (quotient_by (int_eq y (pos 0)) (int_div x y) n gives)
binary_in_range Mod a b r x y n is h gives = numbers_in a b r n is (remainder_in x y n (left_dint a b r x is h) gives)

pub literal_in : (l : Literal) (k : Kind) (n : ℤ) → literal_in_range l ≡ true → literal_kind l ≡ k → literal_worth l ≡ n → InRange k n
literal_in (Integer m) k n fits is gives = subst (InRange k) gives (to kind.Dint k m is fits)
literal_in (Value v) k n fits is gives = subst (InRange k) gives (to (kind_of v) k (worth v) is fits)

-- an element whose index is within the bounds
index_case : (b : Bool) (bounds : Bounds) (m : ℤ) (k : Kind) (n : ℤ) (value : ℤ → ℤ) → has_index bounds m ≡ b → (has_index bounds m ≡ true → InRange k (value m))
    → then_one (if b then Ok m else Err Index) (λ i. Ok (value i)) ≡ Ok n → InRange k n
index_case true bounds m k n value is each gives = subst (InRange k) (let e : value m ≡ n = cc in e) (each is)
index_case false bounds m k n value is each gives = absurd (cc)

module _ {V : Type 0} (sorts : Sorts V) (values : ValuesOf V) (within : AreInRange sorts values) where
  unary_case : (op : Unary) (p : Option Kind) (o : Outcome) (k : Kind) (n : ℤ) → option_and_then (unary_kind op) p ≡ Some k → then_one o (eval_unary op) ≡ Ok n → InRange k n
  unary_case op None o k n is gives = absurd (cc)
  unary_case op (Some a) (Err trap) k n is gives = absurd (cc)
  unary_case op (Some a) (Ok x) k n is gives = unary_in_range op a k x n is gives

  binary_case : (op : Binary) (p q : Option Kind) (o u : Outcome) (k : Kind) (n : ℤ) → ((a : Kind) (x : ℤ) → p ≡ Some a → o ≡ Ok x → InRange a x)
      → option_and_then (λ a. option_and_then (binary_kind op a) q) p ≡ Some k → then_two o u (eval_binary op) ≡ Ok n → InRange k n
  binary_case op None q o u k n left is gives = absurd (cc)
  binary_case op (Some a) None o u k n left is gives = absurd (cc)
  binary_case op (Some a) (Some b) (Err trap) u k n left is gives = absurd (cc)
  binary_case op (Some a) (Some b) (Ok x) (Err trap) k n left is gives = absurd (cc)
  binary_case op (Some a) (Some b) (Ok x) (Ok y) k n left is gives = binary_in_range op a b k x y n is (left a x refl refl) gives

  literal_case : (b : Bool) (l : Literal) (k : Kind) (n : ℤ) → literal_in_range l ≡ b → (if b then Some (literal_kind l) else None) ≡ Some k → literal_worth l ≡ n → InRange k n
  literal_case true l k n fits is gives = literal_in l k n fits (cc) gives
  literal_case false l k n fits is gives = absurd (cc)

  element_case : (b : Bool) (p : Option Kind) (bounds : Bounds) (o : Outcome) (k : Kind) (n : ℤ) (value : ℤ → ℤ) → ((i : ℤ) → p ≡ Some k → has_index bounds i ≡ true → InRange k (value i))
      → (if b then p else None) ≡ Some k → then_one (then_one o (indexed bounds)) (λ i. Ok (value i)) ≡ Ok n → InRange k n
  element_case false p bounds o k n value each is gives = absurd (cc)
  element_case true p bounds (Err trap) k n value each is gives = absurd (cc)
  element_case true p bounds (Ok m) k n value each is gives = index_case (has_index bounds m) bounds m k n value refl (λ w. each m is w) gives

  pub value_in_range : (e : PlainExpr V) (k : Kind) (n : ℤ) → kind_of_expr sorts e ≡ Some k → value_of values e ≡ Ok n → InRange k n
  value_in_range (literal l) k n is gives = literal_case (literal_in_range l) l k n refl is (cc)
  value_in_range (read v) k n is gives = subst (InRange k) (cc) (within.variable_in v k is)
  value_in_range (output_of instance name) k n is gives = subst (InRange k) (cc) (within.output_in instance name k is)
  value_in_range (element v bounds index) k n is gives =
      element_case (is_kind kind.Dint (kind_of_expr sorts index)) (sorts.element v bounds) bounds (value_of values index) k n (values.element v bounds) (λ i e. within.element_in v bounds i k e) is gives
  value_in_range (unary op a) k n is gives = unary_case op (kind_of_expr sorts a) (value_of values a) k n is gives
  value_in_range (binary op a b) k n is gives =
      binary_case op (kind_of_expr sorts a) (kind_of_expr sorts b) (value_of values a) (value_of values b) k n (λ j x i g. value_in_range a j x i g) is gives
