-- Whether code names and writes slots: by tests, and by definition.
use Rattle.std.proofs.Common.{◌≡◌, ℕ, ◌==◌, true, List, length, refl, sym, subst, inl, inr, ⊎_elim}
use Rattle.std.specs.Prelude.{Contains}
use Rattle.std.specs.List.{list_any}
use Rattle.std.proofs.lemmas.Bool.{eq-eqb, eqb-true, or_cases, or_left, or_right}
use Rattle.std.proofs.lemmas.List.Folds.{Any-from_list_any, list_any-from_Any}
use Rattle.std.proofs.lemmas.Option.{slice_get_read, slice_get_within, get_or_from_slice_get}
use Rattle.acc_vm.specs.declared.instr.Instr.{Instr}
use Rattle.vm_slices.specs.Slots.{slots_read, slots_written, clocks_of, SomeHas, Names, Writes, NamesClock}
use Rattle.level_runs.specs.Programs.{Value, Clocked, some_has, names_slot, writes_slot}

some_from : (numbers : Instr → List ℕ) (code : List Instr) (n : ℕ) → some_has numbers code n ≡ true → SomeHas numbers code n
some_from numbers code n holds =
    let at = Any-from_list_any (λ i. list_any (λ m. m == n) (numbers i)) code holds in
    let inner = Any-from_list_any (λ m. m == n) (numbers at.1) at.4 in
    let has : Contains (numbers at.1) inner.1 = (inner.0, inner.2, inner.3) in
    (at.0, at.1, slice_get_read code (length code) at.0 at.1 refl at.2 (sym at.3), subst (λ m. Contains (numbers at.1) m) (eqb-true inner.1 n inner.4) has)

some_to : (numbers : Instr → List ℕ) (code : List Instr) (n : ℕ) → SomeHas numbers code n → some_has numbers code n ≡ true
some_to numbers code n (pc, i, at, has) =
    let inner = list_any-from_Any (λ m. m == n) (numbers i) (has.0, n, has.1, has.2, eq-eqb n n refl) in
    list_any-from_Any (λ i. list_any (λ m. m == n) (numbers i)) code (pc, i, slice_get_within code pc i at, get_or_from_slice_get code pc i i at, inner)

pub value_written : (code : List Instr) (s : ℕ) → writes_slot code (Value s) ≡ true → Writes code s
value_written code s holds = record { some = some_from slots_written code s holds }

pub writes_value : (code : List Instr) (s : ℕ) → Writes code s → writes_slot code (Value s) ≡ true
writes_value code s writes = some_to slots_written code s writes.some

pub value_named : (code : List Instr) (s : ℕ) → names_slot code (Value s) ≡ true → Names code s
value_named code s holds = record {
  some = ⊎_elim (λ read. inl (some_from slots_read code s read)) (λ written. inr (some_from slots_written code s written)) (or_cases (some_has slots_read code s) (some_has slots_written code s) holds);
}

pub names_value : (code : List Instr) (s : ℕ) → Names code s → names_slot code (Value s) ≡ true
names_value code s named = ⊎_elim
    (λ read. or_left (some_has slots_read code s) (some_has slots_written code s) (some_to slots_read code s read))
    (λ written. or_right (some_has slots_read code s) (some_has slots_written code s) (some_to slots_written code s written)) named.some

pub clock_named : (code : List Instr) (k : ℕ) → names_slot code (Clocked k) ≡ true → NamesClock code k
clock_named code k holds = record { some = some_from clocks_of code k holds }

pub names_clock : (code : List Instr) (k : ℕ) → NamesClock code k → names_slot code (Clocked k) ≡ true
names_clock code k named = some_to clocks_of code k named.some
