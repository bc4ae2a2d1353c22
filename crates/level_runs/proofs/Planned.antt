-- The plan of codes gives levels.
use Rattle.std.proofs.Common.{◌≡◌, ◌<◌, ℕ, true, List, length, arith, subst, sym, inl, inr, ⊎_elim}
use Rattle.std.specs.Prelude.{slice_index}
use Rattle.std.proofs.lemmas.Bool.{cases_lt}
use Rattle.st_tree.specs.Meaning.{Spot}
use Rattle.plant_types.specs.declared.values.Trap.{Trap}
use Rattle.logic_cells.specs.Cells.{PlainCells}
use Rattle.plant_types.specs.Values.{Path}
use Rattle.acc_vm.specs.Codes.{PlainCode}
use Rattle.level_runs.specs.Levels.{AreLevels, Midway, RunsLevels, IsAsInOrder}
use Rattle.level_runs.specs.Stores.{in_order}
use Rattle.level_runs.proofs.Levels.{levels_are_as_in_order}
use Rattle.level_plan.specs.Accesses.{PlainAccess}
use Rattle.level_plan.specs.Plans.{IsPlan, last_of}
use Rattle.level_plan.proofs.PlanLaws as laws
use Rattle.level_runs.specs.Accesses.{AreAccessesOf, HaveOwnCells}
use Rattle.level_runs.specs.Programs.{Slot, Value, Clocked, names_slot, writes_slot, code_at, programs_at}
use Rattle.level_runs.proofs.Named.{value_written, value_named, clock_named}
use Rattle.level_runs.proofs.Local.{local, known}

module _ (globals : ℕ) (codes : List PlainCode) (accesses : List PlainAccess) (levels : List ℕ) (tell : AreAccessesOf globals codes accesses) (own : HaveOwnCells globals codes) (plan : IsPlan accesses levels) where
  -- a later program that names what an earlier one writes
  written_first : (p q : ℕ) (x : Slot) → p < q → q < length codes → writes_slot (code_at codes p).instrs x ≡ true → names_slot (code_at codes q).instrs x ≡ true → slice_index levels p < slice_index levels q
  written_first p q (Value s) lt within writes names =
      let first : p < length codes = omega (arith, lt, within) in
      let written = value_written (code_at codes p).instrs s writes in
      let named = value_named (code_at codes q).instrs s names in
      ⊎_elim
      (λ below. laws.in_order accesses levels plan q p (record { earlier = lt; conflict = (s, inl ((((tell.each p first).written s below).1 written), (((tell.each q within).named s below).1 named))) }))
      (λ above. absurd (let one = own.values p q s first within (omega (arith, above)) (record { some = inr written.some }) named in omega (arith, one, lt)))
      (cases_lt s globals)
  written_first p q (Clocked k) lt within writes names =
      let first : p < length codes = omega (arith, lt, within) in
      let one = own.clocks p q k first within (clock_named (code_at codes p).instrs k writes) (clock_named (code_at codes q).instrs k names) in
      omega (arith, one, lt)

  -- a later program that writes what an earlier one names
  named_first : (p q : ℕ) (x : Slot) → p < q → q < length codes → names_slot (code_at codes p).instrs x ≡ true → writes_slot (code_at codes q).instrs x ≡ true → slice_index levels p < slice_index levels q
  named_first p q (Value s) lt within names writes =
      let first : p < length codes = omega (arith, lt, within) in
      let named = value_named (code_at codes p).instrs s names in
      let written = value_written (code_at codes q).instrs s writes in
      ⊎_elim
      (λ below. laws.in_order accesses levels plan q p (record { earlier = lt; conflict = (s, inr ((((tell.each p first).named s below).1 named), (((tell.each q within).written s below).1 written))) }))
      (λ above. absurd (let one = own.values p q s first within (omega (arith, above)) named (record { some = inr written.some }) in omega (arith, one, lt)))
      (cases_lt s globals)
  named_first p q (Clocked k) lt within names writes =
      let first : p < length codes = omega (arith, lt, within) in
      let one = own.clocks p q k first within (clock_named (code_at codes p).instrs k names) (clock_named (code_at codes q).instrs k writes) in
      omega (arith, one, lt)

  pub planned_levels : (moment : ℕ) (paths : ℕ → List Path) → AreLevels (programs_at moment paths codes levels) (length codes) (last_of levels)
  planned_levels moment paths =
      let each = laws.from_one_to_last accesses levels plan in
      record {
        above_none = λ p lt. (each p (omega (arith, lt, tell.one_each))).0;
        at_most_last = λ p lt. (each p (omega (arith, lt, tell.one_each))).1;
        written_first = written_first;
        named_first = named_first;
      }

  pub as_in_order : (moment : ℕ) (paths : ℕ → List Path) (start end : Midway PlainCells) (faults : List (ℕ × (Spot × Trap))) → length start.faulted ≡ length codes
      → RunsLevels (programs_at moment paths codes levels) start (last_of levels) end faults
      → IsAsInOrder (in_order (programs_at moment paths codes levels).run 0 start.faulted start.store) end faults
  as_in_order moment paths start end faults many runs =
      levels_are_as_in_order (programs_at moment paths codes levels) (last_of levels) start (known moment paths codes levels) end faults (local moment paths codes levels (length start.faulted))
      (subst (λ (n : ℕ). AreLevels (programs_at moment paths codes levels) n (last_of levels)) (sym many) (planned_levels moment paths)) runs
