-- Sums, products and greatest numbers of numbers that stop are those of the true numbers, up to where they stop.
use Rattle.std.proofs.Common.{◌≡◌, ◌∙◌, sym, refl, ℕ, ◌+◌, ◌*◌, ◌<◌, ◌≤◌, min, max, arith, inl, inr}
use Rattle.std.proofs.Math.Nat.{le-mul_of_pos_right, mul_comm}
use Rattle.std.proofs.lemmas.Bool.{cases_lt}
use Rattle.logic_limits.specs.declared.measures.Measure.{Measure}
use Rattle.logic_limits.specs.declared.measures.Measure.TheVariants as measure
use Rattle.logic_limits.specs.Measures.{joined}

-- the sum
pub sums : (last a b c d : ℕ) → min a last ≡ min b last → min c last ≡ min d last → min (a + c) last ≡ min (b + d) last
sums last a b c d first second = omega arith

-- the greatest
pub greatest : (last a b c d : ℕ) → min a last ≡ min b last → min c last ≡ min d last → min (max a c) last ≡ min (max b d) last
greatest last a b c d first second = omega arith

-- a product with a number that is past the last one, and one that isn't 0
past : (last a c : ℕ) → last ≤ a → 0 < c → min (a * c) last ≡ last
past last a c beyond some = let more : a ≤ a * c = le-mul_of_pos_right a some in omega arith

-- a product whose first number is past the last one
past_first : (last a b c d : ℕ) → 0 < last → last ≤ a → last ≤ b → min c last ≡ min d last → min (a * c) last ≡ min (b * d) last
past_first last a b c d some beyond beyond' second =
    elim (cases_lt 0 c) [
      | inl more ↦ past last a c beyond more ∙ sym (past last b d beyond' (omega arith))
      | inr none ↦ (
          let zero_c : c ≡ 0 = omega arith in
          let zero_d : d ≡ 0 = omega arith in
          rw (zero_c, zero_d) (omega arith))
    ]

-- the product
pub products : (last a b c d : ℕ) → min a last ≡ min b last → min c last ≡ min d last → min (a * c) last ≡ min (b * d) last
products last a b c d first second =
    elim (cases_lt 0 last) [
      | inr none ↦ omega arith
      | inl some ↦ elim (cases_lt a last) [
        | inr beyond ↦ past_first last a b c d some beyond (omega arith) second
        | inl below ↦ (
            let same : b ≡ a = omega arith in
            elim (cases_lt c last) [
              | inr beyond ↦ rw (mul_comm a c, mul_comm b d) (past_first last c d a b some beyond (omega arith) first)
              | inl below' ↦ (let same' : d ≡ c = omega arith in rw (same, same'))
            ])
      ]
    ]

-- a FOR
pub repeated : (last turns body : ℕ) → min (2 + min turns last * (3 + min body last)) last ≡ min (2 + turns * (3 + body)) last
repeated last turns body =
    let turn : min (3 + min body last) last ≡ min (3 + body) last = omega arith in
    sums last 2 2 (min turns last * (3 + min body last)) (turns * (3 + body)) refl (products last (min turns last) turns (3 + min body last) (3 + body) (omega arith) turn)

-- a product with a number that stops
pub product_on : (last a b : ℕ) → min (a * min b last) last ≡ min (a * b) last
product_on last a b = products last a a (min b last) b refl (omega arith)

-- two branches
pub joins : (m : Measure) (last a b c d : ℕ) → min a last ≡ min b last → min c last ≡ min d last → min (joined m a c) last ≡ min (joined m b d) last
joins measure.Size last a b c d first second = sums last a b c d first second
joins measure.Cost last a b c d first second = greatest last a b c d first second

-- two branches that stop
pub joined_on : (m : Measure) (last a b : ℕ) → min (joined m (min a last) (min b last)) last ≡ min (joined m a b) last
joined_on m last a b = joins m last (min a last) a (min b last) b (omega arith) (omega arith)

-- what stands around two branches
pub around : (m : Measure) (stop last a b c outer inside otherwise joint result : ℕ) → last ≡ stop → outer ≡ min a last → inside ≡ min b stop → otherwise ≡ min c stop → joint ≡ min (joined m inside otherwise) stop → result ≡ min (outer + joint) last
    → result ≡ min (a + joined m b c) stop
around m stop last a b c outer inside otherwise joint result same outer_is inside_is otherwise_is joint_is is =
    let joint_true : joint ≡ min (joined m b c) stop = joint_is ∙ (λ i. min (joined m (inside_is i) (otherwise_is i)) stop) ∙ joined_on m stop b c in
    omega arith
