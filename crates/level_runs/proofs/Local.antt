-- Programs of compiled code are local.
use Rattle.std.proofs.Common.{◌≡◌, ℕ, ℤ, pos, true, false, List, [], ◌∷◌, ◌++◌, map, refl, sym, ap, subst, inl, inr, ◌⊎◌}
use Rattle.std.specs.Prelude.{Option, Some, slice_get}
use Rattle.std.specs.List.{AllByRecursion}
use Rattle.std.proofs.lemmas.Bool.{both_ways, or_right}
use Rattle.plant_types.specs.Values.{row_length, Path}
use Rattle.st_tree.specs.Meaning.{Ran, Done, Trapped}
use Rattle.logic_cells.specs.Cells.{PlainCells}
use Rattle.logic_cells.specs.declared.clock.Clock.{Clock}
use Rattle.acc_vm.specs.Machine.{Run, Over, Unfinished, Stuck}
use Rattle.acc_vm.specs.Codes.{PlainCode, SameShape, fuel_of, run_of}
use Rattle.acc_vm.specs.declared.instr.Instr.{Instr}
use Rattle.acc_vm.specs.declared.instr.Instr.TheVariants as instr
use Rattle.vm_slices.specs.Slots.{slots_read, slots_written}
use Rattle.acc_vm.specs.Operands.{operands, bounds_of, renamed}
use Rattle.vm_slices.specs.Renaming.{KeepsRow, StandsFor}
use Rattle.vm_slices.specs.Alike.{EndAlike, GoAlike, IsKept, Leaves}
use Rattle.vm_slices.specs.Laws.{BothAfter}
use Rattle.vm_slices.proofs.Runs.{renamed_runs, keeps}
use Rattle.level_runs.specs.Stores.{AreKnownBySlots, AreLocal}
use Rattle.level_runs.proofs.Same.{same_get}
use Rattle.level_runs.specs.Programs.{Slot, Value, Clocked, as_ran, cell_at, some_has, names_slot, writes_slot, code_at, programs_at}
use Rattle.level_runs.proofs.Named.{value_named, names_value, writes_value, clock_named, names_clock}

from_left : (a b : Option ℤ) → ◌≡◌ {A = Option ℤ ⊎ Option Clock} (inl a) (inl b) → a ≡ b
from_left a b e = cc

from_right : (a b : Option Clock) → ◌≡◌ {A = Option ℤ ⊎ Option Clock} (inr a) (inr b) → a ≡ b
from_right a b e = cc

-- each number stays
abbrev same : ℕ → ℕ
same n = n

same_instr : (i : Instr) → renamed same same i ≡ i
same_instr instr.End = refl
same_instr i = refl

same_code : (code : List Instr) → map (renamed same same) code ≡ code
same_code [] = refl
same_code (i ∷ code) = λ k. same_instr i k ∷ same_code code k

-- what a run leaves keeps what it keeps
kept_itself : (code : List Instr) (cells : PlainCells) → IsKept code cells cells
kept_itself code cells = record { values = λ s not. refl; clocks = λ k not. refl; shape = record { values = refl; clocks = refl } }

kept_by : (code : List Instr) (cells : PlainCells) (r : Run) → Leaves (IsKept code cells) r → IsKept code cells (as_ran cells r).store
kept_by code cells (Over (Done w) left) kept = kept
kept_by code cells (Over (Trapped w spot trap) left) kept = kept
kept_by code cells Unfinished kept = kept_itself code cells
kept_by code cells Stuck kept = kept_itself code cells

-- runs that go alike leave cells that are related, and trap alike
ends_so : (R : PlainCells → PlainCells → Type 0) (s t : PlainCells) (a b : Ran PlainCells) (left rest : ℕ) → EndAlike R a b → R (as_ran s (Over a left)).store (as_ran t (Over b rest)).store
ends_so R s t (Done w) (Done v) left rest e = e
ends_so R s t (Trapped w spot trap) (Trapped v other reason) left rest e = e.0
ends_so R s t (Done w) (Trapped v other reason) left rest e = absurd e
ends_so R s t (Trapped w spot trap) (Done v) left rest e = absurd e

traps_so : (R : PlainCells → PlainCells → Type 0) (s t : PlainCells) (a b : Ran PlainCells) (left rest : ℕ) → EndAlike R a b → (as_ran s (Over a left)).trap ≡ (as_ran t (Over b rest)).trap
traps_so R s t (Done w) (Done v) left rest e = refl
traps_so R s t (Trapped w spot trap) (Trapped v other reason) left rest e = λ i. Some ((e.1) i, (e.2) i)
traps_so R s t (Done w) (Trapped v other reason) left rest e = absurd e
traps_so R s t (Trapped w spot trap) (Done v) left rest e = absurd e

leaves_so : (R : PlainCells → PlainCells → Type 0) (s t : PlainCells) (a b : Run) → R s t → GoAlike R a b → R (as_ran s a).store (as_ran t b).store
leaves_so R s t (Over r left) (Over q rest) first e = ends_so R s t r q left rest e.0
leaves_so R s t Unfinished Unfinished first e = first
leaves_so R s t Stuck Stuck first e = first
leaves_so R s t (Over r left) Unfinished first e = absurd e
leaves_so R s t (Over r left) Stuck first e = absurd e
leaves_so R s t Unfinished (Over q rest) first e = absurd e
leaves_so R s t Unfinished Stuck first e = absurd e
leaves_so R s t Stuck (Over q rest) first e = absurd e
leaves_so R s t Stuck Unfinished first e = absurd e

stops_so : (R : PlainCells → PlainCells → Type 0) (s t : PlainCells) (a b : Run) → GoAlike R a b → (as_ran s a).trap ≡ (as_ran t b).trap
stops_so R s t (Over r left) (Over q rest) e = traps_so R s t r q left rest e.0
stops_so R s t Unfinished Unfinished e = refl
stops_so R s t Stuck Stuck e = refl
stops_so R s t (Over r left) Unfinished e = absurd e
stops_so R s t (Over r left) Stuck e = absurd e
stops_so R s t Unfinished (Over q rest) e = absurd e
stops_so R s t Unfinished Stuck e = absurd e
stops_so R s t Stuck (Over q rest) e = absurd e
stops_so R s t Stuck Unfinished e = absurd e

-- cells agree on all that code names
abbrev Agreeing : List Instr → PlainCells → PlainCells → Type 0
Agreeing code s t = (x : Slot) → names_slot code x ≡ true → cell_at s x ≡ cell_at t x

stand : (code : List Instr) (s t : PlainCells) → Agreeing code s t → StandsFor same same code s t
stand code s t agree = record {
  values = λ x named. sym (from_left (slice_get s.values x) (slice_get t.values x) (agree (Value x) (names_value code x named)));
  clocks = λ k named. sym (from_right (slice_get s.clocks k) (slice_get t.clocks k) (agree (Clocked k) (names_clock code k named)));
}

agreed : (code : List Instr) (s t : PlainCells) → StandsFor same same code s t → Agreeing code s t
agreed code s t stands (Value x) named = ap inl (sym (stands.values x (value_named code x named)))
agreed code s t stands (Clocked k) named = ap inr (sym (stands.clocks k (clock_named code k named)))

-- what isn't written is kept
framed : (code : List Instr) (s t : PlainCells) (x : Slot) → IsKept code s t → writes_slot code x ≡ false → cell_at t x ≡ cell_at s x
framed code s t (Value x) kept off = ap inl (kept.values x (λ writes. both_ways (writes_slot code (Value x)) off (writes_value code x writes)))
framed code s t (Clocked k) kept off = ap inr (kept.clocks k (λ named. both_ways (writes_slot code (Clocked k)) off (names_clock code k named)))

named_too : (code : List Instr) (x : Slot) → writes_slot code x ≡ true → names_slot code x ≡ true
named_too code (Value s) writes = or_right (some_has slots_read code s) (some_has slots_written code s) writes
named_too code (Clocked k) writes = writes

-- the same numbers keep each row
keeps_itself : (count : ℕ) (firsts : List ℕ) → AllByRecursion (λ first. KeepsRow same first count) firsts
keeps_itself count [] = tt
keeps_itself count (first ∷ firsts) = ((λ k less. refl), keeps_itself count firsts)

module _ (moment : ℕ) (names : List Path) (code : PlainCode) where
  pub run_kept : (s : PlainCells) → IsKept code.instrs s (as_ran s (run_of moment names code s)).store
  run_kept s = kept_by code.instrs s (run_of moment names code s) (keeps moment code.stack names code.instrs code.places (fuel_of code) 0 (pos 0) [] s)

  pub run_shape : (s : PlainCells) → SameShape (as_ran s (run_of moment names code s)).store s
  run_shape s = (run_kept s).shape

  runs_alike : (s t : PlainCells) → Agreeing code.instrs s t → GoAlike (BothAfter same same code.instrs s t) (run_of moment names code s) (run_of moment names code t)
  runs_alike s t agree =
      let moved = renamed_runs moment code.stack names code.instrs code.places same same (fuel_of code) 0 (pos 0) [] s t (record { values = λ x y a b e. e; clocks = λ k l a b e. e; rows = λ pc i at. keeps_itself (row_length (bounds_of (operands i))) ((operands i).rows_read ++ (operands i).rows_written) }) (stand code.instrs s t agree) in
      subst (λ (xs : List Instr). GoAlike (BothAfter same same code.instrs s t) (run_of moment names code s) (run_of moment names (record code { instrs = xs }) t)) (same_code code.instrs) moved

  first : (s t : PlainCells) → Agreeing code.instrs s t → BothAfter same same code.instrs s t s t
  first s t agree = record { stands = stand code.instrs s t agree; kept = kept_itself code.instrs s; shape = record { values = refl; clocks = refl } }

  pub run_leaves_alike : (s t : PlainCells) → Agreeing code.instrs s t → Agreeing code.instrs (as_ran s (run_of moment names code s)).store (as_ran t (run_of moment names code t)).store
  run_leaves_alike s t agree =
      let both = leaves_so (BothAfter same same code.instrs s t) s t (run_of moment names code s) (run_of moment names code t) (first s t agree) (runs_alike s t agree) in
      agreed code.instrs (as_ran s (run_of moment names code s)).store (as_ran t (run_of moment names code t)).store both.stands

  pub run_traps_alike : (s t : PlainCells) → Agreeing code.instrs s t → (as_ran s (run_of moment names code s)).trap ≡ (as_ran t (run_of moment names code t)).trap
  run_traps_alike s t agree = stops_so (BothAfter same same code.instrs s t) s t (run_of moment names code s) (run_of moment names code t) (runs_alike s t agree)

module _ (moment : ℕ) (paths : ℕ → List Path) (codes : List PlainCode) (levels : List ℕ) where
  pub local : (n : ℕ) → AreLocal (programs_at moment paths codes levels) n
  local n = record {
    named = λ p x lt writes. named_too (code_at codes p).instrs x writes;
    frame = λ p s x lt off. framed (code_at codes p).instrs s (as_ran s (run_of moment (paths p) (code_at codes p) s)).store x (run_kept moment (paths p) (code_at codes p) s) off;
    keeps_size = λ p s lt i. ((run_shape moment (paths p) (code_at codes p) s).values i, (run_shape moment (paths p) (code_at codes p) s).clocks i);
    traps_alike = λ p s t lt size agree. run_traps_alike moment (paths p) (code_at codes p) s t agree;
    leaves_alike = λ p s t lt size agree. run_leaves_alike moment (paths p) (code_at codes p) s t agree;
  }

  pub known : AreKnownBySlots (programs_at moment paths codes levels)
  known s t sizes cells =
      let v : s.values ≡ t.values = same_get s.values t.values (λ n. from_left (slice_get s.values n) (slice_get t.values n) (cells (Value n))) in
      let c : s.clocks ≡ t.clocks = same_get s.clocks t.clocks (λ n. from_right (slice_get s.clocks n) (slice_get t.clocks n) (cells (Clocked n))) in
      λ i. record { values = v i; clocks = c i }
