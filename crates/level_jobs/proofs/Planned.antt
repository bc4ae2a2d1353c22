-- The levels of the plan can be split.
use Rattle.std.proofs.Common.{◌≡◌, ◌<◌, ◌^◌, ℕ, List, [], length, Some, sym, ◌∙◌, subst, arith, inl, inr}
use Rattle.std.specs.Prelude.{slice_get, slice_index}
use Rattle.std.proofs.lemmas.Bool.{cases_lt}
use Rattle.std.proofs.lemmas.Option.{slice_get-get_or, slice_get_within, get_or_from_slice_get}
use Rattle.logic_cells.specs.Cells.{PlainCells}
use Rattle.acc_vm.specs.Codes.{PlainCode}
use Rattle.vm_slices.specs.Slots.{Names, Writes, NamesClock}
use Rattle.vm_slices.specs.Parts.{PlainPart, IsPartOf}
use Rattle.level_runs.specs.Accesses as accesses
use Rattle.level_runs.specs.Accesses.{HaveOwnCells}
use Rattle.level_runs.specs.Plans.{IsPlanOf}
use Rattle.level_runs.specs.Programs.{Value, no_code, code_at}
use Rattle.level_runs.proofs.Named.{writes_value, names_value}
use Rattle.level_runs.proofs.Planned.{planned_levels}
use Rattle.slice_store.specs.Splits.{CanSplit, ArePartsOf}
use Rattle.slice_store.proofs.Parting.{can_split}
use Rattle.level_jobs.specs.Gathers.{FitCells}

module _ (globals : ℕ) (codes : List PlainCode) (levels : List ℕ) (is : IsPlanOf globals codes levels) (own : HaveOwnCells globals codes) where
  code_is : (p : ℕ) (a : PlainCode) → slice_get codes p ≡ Some a → a ≡ code_at codes p
  code_is p a at = sym (get_or_from_slice_get codes p a no_code at)

  apart : (p q : ℕ) (a b : PlainCode) (slot : ℕ) → slice_get codes p ≡ Some a → slice_get codes q ≡ Some b → slice_index levels p ≡ slice_index levels q
      → Writes a.instrs slot → Names b.instrs slot → p ≡ q
  apart p q a b slot at there same writes names =
      let plan = planned_levels globals codes is.accesses levels is.are own is.plan 0 (λ p. []) in
      let written = writes_value (code_at codes p).instrs slot (subst (λ (c : PlainCode). Writes c.instrs slot) (code_is p a at) writes) in
      let named = names_value (code_at codes q).instrs slot (subst (λ (c : PlainCode). Names c.instrs slot) (code_is q b there) names) in
      elim (cases_lt p q) [
        | inl low ↦ absurd (let below = plan.written_first p q (Value slot) low (slice_get_within codes q b there) written named in omega (arith, below, same))
        | inr high ↦ elim (cases_lt q p) [
          | inl low ↦ absurd (let below = plan.named_first q p (Value slot) low (slice_get_within codes p a at) named written in omega (arith, below, same))
          | inr level ↦ omega (arith, high, level)
        ]
      ]

  pub planned_can_split : (parts : List PlainPart) (cells : PlainCells) (flags : ℕ) → ArePartsOf codes parts → FitCells codes cells → length levels ≡ length parts → flags ≡ length parts → length parts < 2 ^ 32
      → (level : ℕ) → CanSplit parts levels level cells flags
  planned_can_split parts cells flags are fit levelled flagged few level = can_split codes parts levels level cells flags are (record {
    sound = fit.sound;
    values = fit.values;
    clocks = fit.clocks;
    apart = λ p q a b slot at there l m writes names. apart p q a b slot at there (l ∙ sym m) writes names;
    clocks_apart = λ p q a b k at there names other. own.clocks p q k (slice_get_within codes p a at) (slice_get_within codes q b there)
        (subst (λ (c : PlainCode). NamesClock c.instrs k) (code_is p a at) names) (subst (λ (c : PlainCode). NamesClock c.instrs k) (code_is q b there) other);
  }) levelled flagged few

pub parts_are : (codes : List PlainCode) (parts : List PlainPart) → accesses.ArePartsOf codes parts → ArePartsOf codes parts
parts_are codes parts are = record {
  each = λ p part at.
      let within = slice_get_within parts p part at in
      let below : p < length codes = omega (arith, within, are.one_each) in
      (code_at codes p, slice_get-get_or codes p no_code below, subst (IsPartOf (code_at codes p)) (get_or_from_slice_get parts p part part at) (are.each p part below));
}
