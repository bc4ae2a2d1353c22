-- Sums and greatest numbers of counts that stop are those of the true counts, up to where they stop.
use Rattle.std.proofs.Common.{◌≡◌, ◌≤◌, ℕ, zero, suc, ◌+◌, min, max, arith}
use Rattle.st_tree.specs.Plain.{PlainExpr, literal, read, output_of, element, unary, binary}
use Rattle.vm_sizes.specs.Sizes.{binary_words, for_words}
use Rattle.vm_sizes.specs.Counts.{capped}

-- two numbers are the same up to a last one
abbrev pub Same : ℕ → ℕ → ℕ → Type 0
Same last a b = min a last ≡ min b last

-- the greatest
pub greatest : (last a b c d : ℕ) → Same last a b → Same last c d → Same last (max a c) (max b d)
greatest last a b c d first second = omega arith

-- an operator whose operands' words stop
pub binary_stops : (e : PlainExpr ℕ) (left right : ℕ) → capped (binary_words e (capped left) (capped right)) ≡ capped (binary_words e left right)
binary_stops (literal n) left right = omega arith
binary_stops (read v) left right = omega arith
binary_stops (output_of instance name) left right = omega arith
binary_stops (element v bounds index) left right = omega arith
binary_stops (unary op a) left right = omega arith
binary_stops (binary op a b) left right = omega arith

-- a FOR
pub turned : (last turns body other : ℕ) → Same last body other → Same last (for_words turns body) (for_words turns other)
turned last zero body other same = omega arith
turned last (suc n) body other same = omega arith

-- a FOR whose body's words stop
pub for_stops : (turns body : ℕ) → capped (for_words turns (capped body)) ≡ capped (for_words turns body)
for_stops turns body = turned 18446744073709551615 turns (capped body) body (omega arith)

-- a greatest number once one more, or two more, are counted
pub one_more : (last total rest whole a x z : ℕ) → x ≡ min a last → z ≡ max total x → min (max total (max a rest)) last ≡ min whole last → min (max z rest) last ≡ min whole last
one_more last total rest whole a x z e f before = omega arith

pub two_more : (last total rest whole a b x y z : ℕ) → x ≡ min a last → y ≡ min b last → z ≡ max total (max x y) → min (max total (max a (max b rest))) last ≡ min whole last → min (max z rest) last ≡ min whole last
two_more last total rest whole a b x y z e f g before = omega arith

pub still_within : (last total a x z : ℕ) → x ≡ min a last → z ≡ max total x → total ≤ last → z ≤ last
still_within last total a x z e f within = omega arith

pub both_within : (last total a b x y z : ℕ) → x ≡ min a last → y ≡ min b last → z ≡ max total (max x y) → total ≤ last → z ≤ last
both_within last total a b x y z e f g within = omega arith
