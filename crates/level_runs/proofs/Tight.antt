-- The plan of codes is the least of their levellings.
use Rattle.std.proofs.Common.{◌<◌, ◌≤◌, ℕ, List, length, arith, inl, inr, subst}
use Rattle.std.specs.Prelude.{All, slice_index}
use Rattle.acc_vm.specs.Codes.{PlainCode}
use Rattle.level_plan.specs.declared.access.Extent.{Extent}
use Rattle.level_plan.specs.Accesses.{PlainAccess, EndsWithin, HaveGlobal, StayWithin, Writes, access_at, no_access}
use Rattle.level_plan.specs.Conflicts.{Conflicts, ConflictsBefore}
use Rattle.level_plan.specs.Levellings.{IsLevelling}
use Rattle.level_plan.specs.Plans.{IsPlan, last_of}
use Rattle.level_plan.proofs.PlanLaws as laws
use Rattle.level_runs.specs.Accesses.{AreAccessesOf}
use Rattle.level_runs.specs.Programs.{code_at}
use Rattle.level_runs.specs.Conflicts.{CodesConflict, CodeConflictsBefore, AreTightFor, IsLevellingOf, AreAsLowFor, EndBy}

-- a global of extents that end within a number is below that
below : (globals : ℕ) (extents : List Extent) (g : ℕ) → All (λ extent. EndsWithin globals extent) extents → HaveGlobal extents g → g < globals
below globals extents g ends (k, extent, within, is, covers) =
    let end : EndsWithin globals extent = subst (λ e. EndsWithin globals e) is (ends k extent within) in
    omega (arith, covers.before_end, end)

module _ (globals : ℕ) (codes : List PlainCode) (accesses : List PlainAccess) (levels : List ℕ) (tell : AreAccessesOf globals codes accesses) (stay : StayWithin globals accesses) (plan : IsPlan accesses levels) where
  written_below : (p g : ℕ) → p < length codes → Writes (access_at accesses p) g → g < globals
  written_below p g lt writes = below globals (access_at accesses p).writes g (stay.each p no_access (omega (arith, lt, tell.one_each))).writes writes

  -- where accesses conflict, so do their codes
  conflict_of : (q p : ℕ) → q < length codes → p < length codes → Conflicts (access_at accesses q) (access_at accesses p) → CodesConflict globals (code_at codes q) (code_at codes p)
  conflict_of q p one other (g, inl meet) =
      let shared = written_below q g one meet.0 in
      record { global = g; shared = shared; meet = inl (((tell.each q one).written g shared).0 meet.0, ((tell.each p other).named g shared).0 meet.1) }
  conflict_of q p one other (g, inr meet) =
      let shared = written_below p g other meet.1 in
      record { global = g; shared = shared; meet = inr (((tell.each q one).named g shared).0 meet.0, ((tell.each p other).written g shared).0 meet.1) }

  conflict_before : (q p : ℕ) → ConflictsBefore accesses q p → CodeConflictsBefore globals codes q p
  conflict_before q p before =
      let inside : p < length codes = omega (arith, laws.conflict_within accesses q p before, tell.one_each) in
      record { earlier = before.earlier; conflict = conflict_of q p (omega (arith, before.earlier, inside)) inside before.conflict }

  pub tight : AreTightFor globals codes (slice_index levels)
  tight p inside above =
      let (q, before, next) = laws.tight accesses levels plan p (omega (arith, inside, tell.one_each)) above in
      (q, conflict_before q p before, next)

  levelling : (level : ℕ → ℕ) → IsLevellingOf globals codes level → IsLevelling accesses level
  levelling level is = record {
    from_one = λ p inside. is.from_one p (omega (arith, inside, tell.one_each));
    in_order = λ p q before. is.in_order p q (conflict_before q p before);
  }

  pub lowest : (level : ℕ → ℕ) → IsLevellingOf globals codes level → AreAsLowFor codes (slice_index levels) level
  lowest level is p inside = laws.lowest accesses levels level plan (levelling level is) p (omega (arith, inside, tell.one_each))

  pub fewest : (level : ℕ → ℕ) (last : ℕ) → IsLevellingOf globals codes level → EndBy last codes level → last_of levels ≤ last
  fewest level last is most =
      laws.fewest accesses levels level last plan (levelling level is)
      (λ p inside. let within : p < length codes = omega (arith, inside, tell.one_each) in (is.from_one p within, most p within))
