-- The value of an expression that fits where a kind is declared is in the range of this kind.
use Rattle.std.proofs.Common.{◌≡◌, refl, ap, subst, sym, ℤ, pos, Bool, true, false, arith}
use Rattle.std.specs.Prelude.{Option, Some, None, Ok, Err, if◌then◌else◌, ◌&&◌, ◌||◌}
use Rattle.std.specs.Ordering.{int_eq}
use Rattle.std.proofs.lemmas.Int.{ints}
use Rattle.plant_types.specs.declared.values.Bounds.{Bounds}
use Rattle.plant_types.specs.declared.values.Kind.{Kind}
use Rattle.plant_types.specs.declared.values.Kind.TheVariants as kind
use Rattle.plant_types.specs.declared.values.Trap.TheVariants.{Index}
use Rattle.plant_types.specs.Values.{has_index, indexed}
use Rattle.st_tree.specs.declared.tree.Literal.TheVariants.{Integer, Value}
use Rattle.st_tree.specs.declared.controls.Span.{Span}
use Rattle.st_tree.specs.Plain.{PlainExpr, literal, read, output_of, element, unary, binary}
use Rattle.st_tree.specs.Operators.{Outcome}
use Rattle.st_tree.specs.Controls.{span_of}
use Rattle.st_tree.specs.Kinds.{same_kind, kind_of_expr, is_kind, is_bit}
use Rattle.st_tree.specs.Fits.{Context, sorts_of, is_of, fits_option}
use Rattle.st_tree.specs.Meaning.{then_one, ValuesOf, value_of}
use Rattle.st_tree.specs.Ranges.{AreInRange}
use Rattle.st_tree.proofs.RangeLaws.{InRange, value_in_range}

same_is : (k l : Kind) → same_kind k l ≡ true → k ≡ l
same_is kind.Bool kind.Bool is = refl
same_is kind.Dint kind.Dint is = refl
same_is kind.Time kind.Time is = refl
same_is kind.Bool kind.Dint is = absurd (cc)
same_is kind.Bool kind.Time is = absurd (cc)
same_is kind.Dint kind.Bool is = absurd (cc)
same_is kind.Dint kind.Time is = absurd (cc)
same_is kind.Time kind.Bool is = absurd (cc)
same_is kind.Time kind.Dint is = absurd (cc)

pub kind_is : (k : Kind) (o : Option Kind) → is_kind k o ≡ true → o ≡ Some k
kind_is k None is = absurd (cc)
kind_is k (Some l) is = ap Some (sym (same_is k l is))

-- the bounds of a span are the outcomes of which it was made
pub span_ends : (a b c : Outcome) (span : Span) → span_of a b c ≡ Ok span → (a ≡ Ok span.from) × (b ≡ Ok span.to)
span_ends (Ok from) (Ok to) (Ok step) span is = let e : record { from = from; to = to; step = step } ≡ span = cc in ((λ i. Ok (e i).from), (λ i. Ok (e i).to))
span_ends (Ok from) (Ok to) (Err trap) span is = absurd (cc)
span_ends (Ok from) (Err trap) c span is = absurd (cc)
span_ends (Err trap) b c span is = absurd (cc)

-- an index that is tested is within the bounds
indexed_by : (b : Bool) (n i : ℤ) → (if b then Ok n else Err Index) ≡ Ok i → (b ≡ true) × (n ≡ i)
indexed_by true n i is = (refl, cc)
indexed_by false n i is = absurd (cc)

pub index_within : (bounds : Bounds) (o : Outcome) (i : ℤ) → then_one o (indexed bounds) ≡ Ok i → has_index bounds i ≡ true
index_within bounds (Ok n) i is = let p = indexed_by (has_index bounds n) n i is in subst (λ k. has_index bounds k ≡ true) p.1 p.0
index_within bounds (Err trap) i is = absurd (cc)

bit_in_range : (m : ℤ) → (int_eq m (pos 0) || int_eq m (pos 1)) ≡ true → InRange kind.Bool m
bit_in_range m is = grind (arith, ints, is)

module _ {V : Type 0} (context : Context V) (values : ValuesOf V) (within : AreInRange (sorts_of context) values) where
  -- the value of an expression of a kind
  pub value_in : (e : PlainExpr V) (k : Kind) (n : ℤ) → is_of context k e ≡ true → value_of values e ≡ Ok n → InRange k n
  value_in e k n is gives =
      value_in_range (sorts_of context) values within e k n (kind_is k (kind_of_expr (sorts_of context) e) is) gives

  bit_in : (k : Kind) (e : PlainExpr V) (n : ℤ) → (same_kind k kind.Bool && is_bit e) ≡ true → value_of values e ≡ Ok n → InRange k n
  bit_in kind.Bool (literal (Integer m)) n is gives = subst (InRange kind.Bool) (let e : m ≡ n = cc in e) (bit_in_range m is)
  bit_in kind.Bool (literal (Value v)) n is gives = absurd (cc)
  bit_in kind.Bool (read v) n is gives = absurd (cc)
  bit_in kind.Bool (output_of instance name) n is gives = absurd (cc)
  bit_in kind.Bool (element v bounds index) n is gives = absurd (cc)
  bit_in kind.Bool (unary op a) n is gives = absurd (cc)
  bit_in kind.Bool (binary op a b) n is gives = absurd (cc)
  bit_in kind.Dint e n is gives = absurd (cc)
  bit_in kind.Time e n is gives = absurd (cc)

  fitted_by : (b : Bool) (k : Kind) (e : PlainExpr V) (n : ℤ) → is_of context k e ≡ b → (b || (same_kind k kind.Bool && is_bit e)) ≡ true → value_of values e ≡ Ok n → InRange k n
  fitted_by true k e n kind fits gives = value_in e k n kind gives
  fitted_by false k e n kind fits gives = bit_in k e n fits gives

  -- the value of an expression that may be assigned where this kind is declared
  pub fitted_in : (o : Option Kind) (e : PlainExpr V) (n : ℤ) → fits_option context o e ≡ true → value_of values e ≡ Ok n → (k : Kind) × (o ≡ Some k) × InRange k n
  fitted_in None e n fits gives = absurd (cc)
  fitted_in (Some k) e n fits gives = (k, refl, fitted_by (is_of context k e) k e n refl fits gives)
