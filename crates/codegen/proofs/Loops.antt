-- The turns of a FOR.
use Rattle.std.proofs.Common.{◌≡◌, ℕ, ℤ, zero, suc, pos, negsuc, ◌+◌, ◌*◌, ◌≤◌, ◌≤ℤ◌, ◌+ℤ◌, ◌-ℤ◌, Bool, true, false, not, ◌||◌, List, [], ◌∷◌, length, Option, Some, None, refl, sym, ap, ◌∙◌, arith, if◌then◌else◌}
use Rattle.std.specs.Prelude.{int_lt, nat_abs, Ok, Err, Result, option_map, option_and_then}
use Rattle.std.proofs.lemmas.Bool.{lt-ltb}
use Rattle.std.proofs.lemmas.Int.{ints}
use Rattle.std.proofs.Math.Nat.{suc-mul}
use Rattle.plant_types.specs.Values.{is_in_range}
use Rattle.plant_types.specs.declared.values.Kind.TheVariants as kind
use Rattle.plant_types.specs.declared.values.Trap.{Trap}
use Rattle.st_tree.specs.declared.controls.Span.{Span}
use Rattle.st_tree.specs.Plain.{PlainExpr, literal, read, output_of, element, unary, binary}
use Rattle.st_tree.specs.Operators.{Outcome, eval_unary, eval_binary}
use Rattle.st_tree.specs.Meaning.{Space, then_one, then_two, outcome, step_of}
use Rattle.st_tree.specs.Controls.{values_from, control_values, count_in, span_of}
use Rattle.st_tree.specs.Constants.{constant_of}
use Rattle.logic_cells.specs.Cells.{PlainCells, assigned}
use Rattle.acc_vm.specs.Machine.{Stuck, Next, turn}
use Rattle.vm_sizes.specs.Sizes.{number_of, constant_number, step_number, span_from, constant_span}

-- the end of a turn that isn't the last
pub next_turn : (on : Next) (pc slot : ℕ) (stride : ℤ) (to : ℕ) (acc x : ℤ) (left rest : ℕ) (stack : List ℤ) (w : PlainCells) → left ≡ suc rest → is_in_range kind.Time (x +ℤ stride) ≡ true
    → turn on pc slot stride to acc x (pos left) stack w ≡ on to acc ((x +ℤ stride) ∷ pos rest ∷ stack) (assigned w slot (x +ℤ stride))
next_turn on pc slot stride to acc x left rest stack w e fits =
    let more : int_lt (pos 0) (pos left) ≡ true = lt-ltb 0 left (omega arith) in
    let fewer : (pos left -ℤ pos 1) ≡ pos rest = omega (arith, ints) in
    let go = on to acc ((x +ℤ stride) ∷ (pos left -ℤ pos 1) ∷ stack) (assigned w slot (x +ℤ stride)) in
    ap (λ b. if b then (if is_in_range kind.Time (x +ℤ stride) then go else Stuck) else on (pc + 1) acc stack w) more
    ∙ ap (λ b. if b then go else Stuck) fits
    ∙ ap (λ z. on to acc ((x +ℤ stride) ∷ z ∷ stack) (assigned w slot (x +ℤ stride))) fewer

no_lt : (a b : ℤ) → b ≤ℤ a → int_lt a b ≡ false
no_lt a b h = grind (arith, ints)

pub from_range : (x : ℤ) → is_in_range kind.Dint x ≡ true → (negsuc 2147483647 ≤ℤ x) × (x ≤ℤ pos 2147483647)
from_range x h = (grind (arith, ints), grind (arith, ints))

-- a DINT is in the range of a TIME
pub dint_in_time : (x : ℤ) → is_in_range kind.Dint x ≡ true → is_in_range kind.Time x ≡ true
dint_in_time x h =
    let within = from_range x h in
    let low = within.0 in
    let high = within.1 in
    let a : negsuc 9223372036854775807 ≤ℤ x = omega (arith, ints) in
    let b : x ≤ℤ pos 9223372036854775807 = omega (arith, ints) in
    λ i. not (no_lt x (negsuc 9223372036854775807) a i || no_lt (pos 9223372036854775807) x b i)

pub bound : (c n : ℕ) → c * (4 * n + 1) ≤ 4 * (c * (3 + n))
bound zero n = omega arith
bound (suc c) n = let h = bound c n in let a = suc-mul c (4 * n + 1) in let b = suc-mul c (3 + n) in omega arith

pub length_from : (n : ℕ) (x stride : ℤ) → length (values_from n x stride) ≡ n
length_from zero x stride = refl
length_from (suc n) x stride = ap suc (length_from n (x +ℤ stride) stride)

again : (n : ℕ) (x stride : ℤ) → values_from n x stride ≡ values_from (length (values_from n x stride)) x stride
again n x stride = ap (λ k. values_from k x stride) (sym (length_from n x stride))

picked : (a b : Bool) (m n : ℕ) (x stride : ℤ) → (if a then values_from m x stride else if b then values_from n x stride else []) ≡ values_from (length (if a then values_from m x stride else if b then values_from n x stride else [])) x stride
picked true b m n x stride = again m x stride
picked false true m n x stride = again n x stride
picked false false m n x stride = refl

-- the control values are so many from the first one on
pub values_are : (span : Span) → control_values span ≡ values_from (length (control_values span)) span.from span.step
values_are span = picked (int_lt (pos 0) span.step) (int_lt span.step (pos 0)) (count_in (span.to -ℤ span.from) (nat_abs span.step)) (count_in (span.from -ℤ span.to) (nat_abs span.step)) span.from span.step

-- what is known of an expression that is constant
abbrev Known : Option Outcome → Outcome → Type 0
Known None o = Unit {0}
Known (Some x) o = o ≡ x

known_one : (c : Option Outcome) (o : Outcome) (f : ℤ → Outcome) → Known c o → Known (option_map (λ x. then_one x f) c) (then_one o f)
known_one None o f h = tt
known_one (Some x) o f h = ap (λ z. then_one z f) h

known_two : (c d : Option Outcome) (o p : Outcome) (f : ℤ → ℤ → Outcome) → Known c o → Known d p → Known (option_and_then (λ x. option_map (λ y. then_two x y f) d) c) (then_two o p f)
known_two None d o p f h g = tt
known_two (Some x) None o p f h g = tt
known_two (Some x) (Some y) o p f h g = λ i. then_two (h i) (g i) f

abbrev KnownNumber : Option ℤ → Outcome → Type 0
KnownNumber None o = Unit {0}
KnownNumber (Some n) o = o ≡ Ok n

known_number : (c : Option Outcome) (o : Outcome) → Known c o → KnownNumber (number_of c) o
known_number None o h = tt
known_number (Some (Ok n)) o h = h
known_number (Some (Err t)) o h = tt

abbrev pub KnownSpan : Option Span → Result Span Trap → Type 0
KnownSpan None r = Unit {0}
KnownSpan (Some span) r = r ≡ Ok span

known_from : (a b c : Option ℤ) (x y z : Outcome) → KnownNumber a x → KnownNumber b y → KnownNumber c z → KnownSpan (span_from a b c) (span_of x y z)
known_from (Some a) (Some b) (Some c) x y z e f g = λ i. span_of (e i) (f i) (g i)
known_from (Some a) (Some b) None x y z e f g = tt
known_from (Some a) None c x y z e f g = tt
known_from None b c x y z e f g = tt

module _ (space : Space ℕ PlainCells) (w : PlainCells) where
  known : (e : PlainExpr ℕ) → Known (constant_of e) (outcome space w e)
  known (literal n) = refl
  known (read v) = tt
  known (output_of instance name) = tt
  known (element v bounds index) = tt
  known (unary op a) = known_one (constant_of a) (outcome space w a) (eval_unary op) (known a)
  known (binary op a b) = known_two (constant_of a) (constant_of b) (outcome space w a) (outcome space w b) (eval_binary op) (known a) (known b)

  known_step : (by : Option (PlainExpr ℕ)) → KnownNumber (step_number by) (step_of space w by)
  known_step None = refl
  known_step (Some e) = known_number (constant_of e) (outcome space w e) (known e)

  -- a FOR of constant bounds and step has the span of these in every world
  pub known_span : (from to : PlainExpr ℕ) (by : Option (PlainExpr ℕ)) → KnownSpan (constant_span from to by) (span_of (outcome space w from) (outcome space w to) (step_of space w by))
  known_span from to by =
      known_from (constant_number from) (constant_number to) (step_number by) (outcome space w from) (outcome space w to) (step_of space w by)
      (known_number (constant_of from) (outcome space w from) (known from)) (known_number (constant_of to) (outcome space w to) (known to)) (known_step by)
