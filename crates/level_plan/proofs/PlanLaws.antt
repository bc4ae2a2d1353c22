-- What follows from the rule of levels, for each plan.
use Rattle.std.proofs.Common.{◌≡◌, ℕ, zero, suc, ◌+◌, ◌<◌, ◌≤◌, List, length, slice_index, arith, sym, ◌∙◌, subst, inl, inr}
use Rattle.std.proofs.lemmas.List.{get_or_past}
use Rattle.std.proofs.lemmas.Grind.{same_number_lists}
use Rattle.std.proofs.lemmas.Bool.{cases_lt, cases_order}
use Rattle.level_plan.specs.Accesses.{PlainAccess, no_access, access_at, Touches}
use Rattle.level_plan.specs.Conflicts.{ConflictsBefore}
use Rattle.level_plan.specs.Levellings.{AreFromOneTo, AreApart, AreInOrder, AreTight, AreAsLow, IsLevelling}
use Rattle.level_plan.specs.Plans.{FollowsRule, IsPlan, last_of}
use Rattle.level_plan.proofs.Greatest.{last_of_bounds, last_of_least}
use Rattle.level_plan.proofs.Extents.{have_none}

-- what reads or writes something is a program of the list
access_within : (programs : List PlainAccess) (p global : ℕ) → Touches (access_at programs p) global → p < length programs
access_within programs p global touches =
    elim (cases_lt p (length programs)) [
      | inl within ↦ within
      | inr past ↦
          let none : Touches no_access global = subst (λ (a : PlainAccess). Touches a global) (get_or_past programs p no_access past) touches in
          elim none [ inl has ↦ absurd (have_none global has) | inr has ↦ absurd (have_none global has) ]
    ]

pub conflict_within : (programs : List PlainAccess) (q p : ℕ) → ConflictsBefore programs q p → p < length programs
conflict_within programs q p before =
    let global = before.conflict.0 in
    elim before.conflict.1 [ inl w ↦ access_within programs p global w.1 | inr w ↦ access_within programs p global (inr w.1) ]

-- levels are from 1 on
pub from_one : (programs : List PlainAccess) (level : ℕ → ℕ) (p : ℕ) → FollowsRule programs level p → 1 ≤ level p
from_one programs level p (inl first) = omega (arith, first.one)
from_one programs level p (inr (q, above)) = omega (arith, above.one_more)

-- the earlier of two programs that conflict stands lower
pub lower : (programs : List PlainAccess) (level : ℕ → ℕ) (p q : ℕ) → FollowsRule programs level p → ConflictsBefore programs q p → level q < level p
lower programs level p q (inl first) before = absurd (first.alone q before)
lower programs level p q (inr (r, above)) before = omega (arith, above.greatest q before, above.one_more)

pub in_order : (programs : List PlainAccess) (levels : List ℕ) → IsPlan programs levels → AreInOrder programs (slice_index levels)
in_order programs levels plan p q before = lower programs (slice_index levels) p q (plan.rule p (conflict_within programs q p before)) before

pub from_one_to_last : (programs : List PlainAccess) (levels : List ℕ) → IsPlan programs levels → AreFromOneTo (last_of levels) programs (slice_index levels)
from_one_to_last programs levels plan p within = (from_one programs (slice_index levels) p (plan.rule p within), last_of_bounds levels p (omega (arith, within, plan.one_each)))

pub apart : (programs : List PlainAccess) (levels : List ℕ) → IsPlan programs levels → AreApart programs (slice_index levels)
apart programs levels plan p q global other same writes touches =
    elim (cases_order p q) [
      | inl is ↦ other is
      | inr (inl less) ↦ omega (arith, same, in_order programs levels plan q p (record { earlier = less; conflict = (global, inl (writes, touches)) }))
      | inr (inr more) ↦ omega (arith, same, in_order programs levels plan p q (record { earlier = more; conflict = (global, inr (touches, writes)) }))
    ]

-- a program that follows the rule stands in level 1, or just above an earlier one with which it conflicts
tight_at : (programs : List PlainAccess) (level : ℕ → ℕ) (p : ℕ) → FollowsRule programs level p → 1 < level p → (q : ℕ) × ConflictsBefore programs q p × (level q + 1 ≡ level p)
tight_at programs level p (inl first) more = absurd (omega (arith, more, first.one))
tight_at programs level p (inr (q, above)) more = (q, above.before, sym above.one_more)

pub tight : (programs : List PlainAccess) (levels : List ℕ) → IsPlan programs levels → AreTight programs (slice_index levels)
tight programs levels plan p within more = tight_at programs (slice_index levels) p (plan.rule p within) more

-- no levels in that order are lower, as far as a number
lowest_below : (programs : List PlainAccess) (levels : List ℕ) (level : ℕ → ℕ) → IsPlan programs levels → IsLevelling programs level → (n p : ℕ) → p < n → p < length programs → slice_index levels p ≤ level p
lowest_below programs levels level plan levelling zero p below within = absurd (omega (arith, below))
lowest_below programs levels level plan levelling (suc n) p below within =
    elim (plan.rule p within) [
      | inl first ↦ omega (arith, first.one, levelling.from_one p within)
      | inr (q, above) ↦
          let earlier = above.before.earlier in
          let low = lowest_below programs levels level plan levelling n q (omega (arith, below, earlier)) (omega (arith, within, earlier)) in
          omega (arith, low, above.one_more, levelling.in_order p q above.before)
    ]

pub lowest : (programs : List PlainAccess) (levels : List ℕ) (level : ℕ → ℕ) → IsPlan programs levels → IsLevelling programs level → AreAsLow programs (slice_index levels) level
lowest programs levels level plan levelling p within = lowest_below programs levels level plan levelling (suc p) p (omega arith) within

pub fewest : (programs : List PlainAccess) (levels : List ℕ) (level : ℕ → ℕ) (last : ℕ) → IsPlan programs levels → IsLevelling programs level → AreFromOneTo last programs level → last_of levels ≤ last
fewest programs levels level last plan levelling most =
    last_of_least levels last (λ p within. let inside : p < length programs = omega (arith, within, plan.one_each) in omega (arith, lowest programs levels level plan levelling p inside, (most p inside).1))

-- a plan is itself a levelling
is_levelling : (programs : List PlainAccess) (levels : List ℕ) → IsPlan programs levels → IsLevelling programs (slice_index levels)
is_levelling programs levels plan = record {
  from_one = λ p within. from_one programs (slice_index levels) p (plan.rule p within);
  in_order = in_order programs levels plan;
}

pub one_plan : (programs : List PlainAccess) (levels others : List ℕ) → IsPlan programs levels → IsPlan programs others → levels ≡ others
one_plan programs levels others plan other =
    same_number_lists levels others (plan.one_each ∙ sym other.one_each) (λ p within.
    let inside : p < length programs = omega (arith, within, plan.one_each) in
    omega (arith, lowest programs levels (slice_index others) plan (is_levelling programs others other) p inside, lowest programs others (slice_index levels) other (is_levelling programs levels plan) p inside))
