-- A source keeps the limits on slots, size and cost, or there is one that it is past first.
use Rattle.std.proofs.Common.{◌≡◌, ◌≢◌, subst, refl, ◌⊎◌, ℕ, zero, suc, ◌<◌, ◌≤◌, nat_lt, List, [], ◌∷◌, All, inl, inr, arith}
use Rattle.std.specs.List.{Any}
use Rattle.std.proofs.lemmas.Bool.{cases_Bool}
use Rattle.std.proofs.lemmas.Bool.Decides.{nat_tests}
use Rattle.std.proofs.lemmas.List.Elements.{All-nil, All-cons}
use Rattle.vm_logic.specs.Source.{Source}
use Rattle.vm_logic.specs.Counts.{slot_count, plant_size, program_costs}
use Rattle.vm_logic.specs.Limits.{KeepsLimits, IsLimitFault}
use Rattle.vm_logic.specs.LimitFault.{LimitFault}
use Rattle.vm_logic.specs.LimitFault.TheVariants as limit_fault

kept_or_past_one : (bound n : ℕ) → (n ≤ bound) ⊎ (bound < n)
kept_or_past_one bound n =
    elim (cases_Bool (nat_lt bound n)) [
      | inl so ↦ inr (grind (arith, nat_tests, so))
      | inr not_so ↦ inl (grind (arith, nat_tests, not_so))
    ]

-- no number is past a bound, or one is
abbrev NonePast : ℕ → List ℕ → Type 0
NonePast bound ns = All (λ n. n ≤ bound) ns

abbrev OnePast : ℕ → List ℕ → Type 0
OnePast bound ns = Any (λ n. bound < n) ns

past_later : (bound n : ℕ) (ns : List ℕ) → OnePast bound ns → OnePast bound (n ∷ ns)
past_later bound n ns one = (suc one.0, one.1, let within = one.2 in omega (arith, within), one.3, one.4)

none_or_one : (bound : ℕ) (ns : List ℕ) → NonePast bound ns ⊎ OnePast bound ns
none_or_one bound [] = inl (All-nil (λ n. n ≤ bound))
none_or_one bound (n ∷ ns) =
    elim (kept_or_past_one bound n) [
      | inl kept ↦
          elim (none_or_one bound ns) [
            | inl none ↦ inl (All-cons (λ n. n ≤ bound) n ns kept none)
            | inr one ↦ inr (past_later bound n ns one)
          ]
      | inr past ↦ inr (zero, n, omega arith, refl, past)
    ]

not_none_and_one : (bound : ℕ) (ns : List ℕ) → NonePast bound ns → OnePast bound ns → ⊥
not_none_and_one bound ns none one =
    let kept : one.1 ≤ bound = subst (λ n. n ≤ bound) one.3 (none one.0 one.1 one.2) in
    let past = one.4 in
    omega (arith, kept, past)

module _ (source : Source) where
  abbrev pub IsPast : Type 0
  IsPast = (found : LimitFault) × (found ≢ limit_fault.Memory) × IsLimitFault source found

  by_cost : slot_count source ≤ 65536 → plant_size source ≤ 1000000 → KeepsLimits source ⊎ IsPast
  by_cost slots size =
      elim (none_or_one 2000000 (program_costs source)) [
        | inl none ↦ inl (record { slots = slots; size = size; cost = none })
        | inr one ↦ inr (limit_fault.Cost, (λ e. cc e), (slots, size, one))
      ]

  by_size : slot_count source ≤ 65536 → KeepsLimits source ⊎ IsPast
  by_size slots =
      elim (kept_or_past_one 1000000 (plant_size source)) [
        | inl kept ↦ by_cost slots kept
        | inr past ↦ inr (limit_fault.Size, (λ e. cc e), (slots, past))
      ]

  pub kept_or_past : KeepsLimits source ⊎ IsPast
  kept_or_past =
      elim (kept_or_past_one 65536 (slot_count source)) [
        | inl kept ↦ by_size kept
        | inr past ↦ inr (limit_fault.Slots, (λ e. cc e), past)
      ]

  -- what keeps the limits is past none
  pub not_past : (found : LimitFault) → KeepsLimits source → IsLimitFault source found → found ≡ limit_fault.Memory
  not_past limit_fault.Memory keeps past = refl
  not_past limit_fault.Slots keeps past = let kept = keeps.slots in absurd (omega (arith, kept, past))
  not_past limit_fault.Size keeps past = let kept = keeps.size in let more = past.1 in absurd (omega (arith, kept, more))
  not_past limit_fault.Cost keeps past = absurd (not_none_and_one 2000000 (program_costs source) keeps.cost past.2)

  slots_and_size : slot_count source ≤ 65536 → 65536 < slot_count source → ⊥
  slots_and_size kept past = omega (arith, kept, past)

  size_and_cost : plant_size source ≤ 1000000 → 1000000 < plant_size source → ⊥
  size_and_cost kept past = omega (arith, kept, past)

  -- a source is past one limit first
  pub one_limit : (a b : LimitFault) → a ≢ limit_fault.Memory → b ≢ limit_fault.Memory → IsLimitFault source a → IsLimitFault source b → a ≡ b
  one_limit limit_fault.Memory b some other x y = absurd (some refl)
  one_limit limit_fault.Slots limit_fault.Memory some other x y = absurd (other refl)
  one_limit limit_fault.Slots limit_fault.Slots some other x y = refl
  one_limit limit_fault.Slots limit_fault.Size some other x y = absurd (slots_and_size y.0 x)
  one_limit limit_fault.Slots limit_fault.Cost some other x y = absurd (slots_and_size y.0 x)
  one_limit limit_fault.Size limit_fault.Memory some other x y = absurd (other refl)
  one_limit limit_fault.Size limit_fault.Slots some other x y = absurd (slots_and_size x.0 y)
  one_limit limit_fault.Size limit_fault.Size some other x y = refl
  one_limit limit_fault.Size limit_fault.Cost some other x y = absurd (size_and_cost y.1 x.1)
  one_limit limit_fault.Cost limit_fault.Memory some other x y = absurd (other refl)
  one_limit limit_fault.Cost limit_fault.Slots some other x y = absurd (slots_and_size x.0 y)
  one_limit limit_fault.Cost limit_fault.Size some other x y = absurd (size_and_cost x.1 y.1)
  one_limit limit_fault.Cost limit_fault.Cost some other x y = refl
