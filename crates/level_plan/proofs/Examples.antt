-- Wrong levels that the rule refuses: what a plan would give that compares too little, or too much.
use Rattle.std.proofs.Common.{◌≡◌, ℕ, zero, suc, ◌<◌, ◌≤◌, List, [], ◌∷◌, arith, refl, sym, subst, inl, inr, lit<}
use Rattle.level_plan.specs.declared.access.Extent.{Extent}
use Rattle.level_plan.specs.Accesses.{PlainAccess, Covers, HaveGlobal, Touches}
use Rattle.level_plan.specs.Conflicts.{ConflictsBefore}
use Rattle.level_plan.specs.Plans.{IsPlan}
use Rattle.level_plan.proofs.PlanLaws.{in_order, tight}

abbrev global_at : ℕ → Extent
global_at global = record { first = global; count = 1 }

abbrev uses : List Extent → List Extent → PlainAccess
uses reads writes = record { reads = reads; writes = writes }

first_has : (global : ℕ) (extents : List Extent) → HaveGlobal (global_at global ∷ extents) global
first_has global extents = (0, global_at global, omega arith, refl, record { from_first = omega arith; before_end = omega arith })

-- the second reads what the first writes
abbrev reader_after_writer : List PlainAccess
reader_after_writer = uses [] (global_at 0 ∷ []) ∷ uses (global_at 0 ∷ []) [] ∷ []

writes_with_writes_only : IsPlan reader_after_writer (1 ∷ 1 ∷ []) → ⊥
writes_with_writes_only plan = omega (arith, in_order reader_after_writer (1 ∷ 1 ∷ []) plan 1 0 (record { earlier = lit< tt; conflict = (0, inl (first_has 0 [], inl (first_has 0 []))) }))

-- the second writes what the first reads
abbrev writer_after_reader : List PlainAccess
writer_after_reader = uses (global_at 0 ∷ []) [] ∷ uses [] (global_at 0 ∷ []) ∷ []

reads_forgotten : IsPlan writer_after_reader (1 ∷ 1 ∷ []) → ⊥
reads_forgotten plan = omega (arith, in_order writer_after_reader (1 ∷ 1 ∷ []) plan 1 0 (record { earlier = lit< tt; conflict = (0, inr (inl (first_has 0 []), first_has 0 [])) }))

-- the second reads the last of three globals that the first writes
abbrev reader_of_the_last : List PlainAccess
reader_of_the_last = uses [] (record { first = 4; count = 3 } ∷ []) ∷ uses (global_at 6 ∷ []) [] ∷ []

first_global_only : IsPlan reader_of_the_last (1 ∷ 1 ∷ []) → ⊥
first_global_only plan =
    let three : Extent = record { first = 4; count = 3 } in
    omega (
      arith,
      in_order reader_of_the_last (1 ∷ 1 ∷ []) plan 1 0 (record {
        earlier = lit< tt;
        conflict = (6, inl ((0, three, omega arith, refl, record { from_first = omega arith; before_end = omega arith }), inl (first_has 6 [])));
      }),
    )

-- two that write apart
abbrev two : List PlainAccess
two = uses [] (global_at 0 ∷ []) ∷ uses [] (global_at 1 ∷ []) ∷ []

only : (x global : ℕ) → HaveGlobal (global_at x ∷ []) global → x ≡ global
only x global (zero, extent, within, is, covers) = covered x global extent is covers
  where
    covered : (x global : ℕ) (extent : Extent) → global_at x ≡ extent → Covers extent global → x ≡ global
    covered x global extent is covers = let moved : Covers (global_at x) global = subst (λ e. Covers e global) (sym is) covers in omega (arith, moved.from_first, moved.before_end)
only x global (suc k, extent, within, is, covers) = absurd (omega (arith, within))

none : (global : ℕ) → HaveGlobal [] global → ⊥
none global has = omega (arith, has.2)

touches_only : (x global : ℕ) → Touches (uses [] (global_at x ∷ [])) global → x ≡ global
touches_only x global (inl reads) = absurd (none global reads)
touches_only x global (inr writes) = only x global writes

apart : (q : ℕ) → ConflictsBefore two q 1 → ⊥
apart zero before = elim before.conflict.1 [
  | inl w ↦ let zero_is = only 0 before.conflict.0 w.0 in let one_is = touches_only 1 before.conflict.0 w.1 in omega (arith, zero_is, one_is)
  | inr w ↦ let zero_is = touches_only 0 before.conflict.0 w.0 in let one_is = only 1 before.conflict.0 w.1 in omega (arith, zero_is, one_is)
]
apart (suc q) before = omega (arith, before.earlier)

each_of_its_own : IsPlan two (1 ∷ 2 ∷ []) → ⊥
each_of_its_own plan = let below = tight two (1 ∷ 2 ∷ []) plan 1 (lit< tt) (lit< tt) in apart below.0 below.1
