-- Cells under other numbers stand for cells, whatever a code does to them.
use Rattle.std.proofs.Common.{◌≡◌, ◌++◌, ℕ, ℤ, pos, List, Option, Some, None, refl, ap, sym, ◌∙◌, subst, length, inl, inr}
use Rattle.std.specs.Prelude.{slice_get, unwrap_or, Contains}
use Rattle.std.specs.List.{AllByRecursion}
use Rattle.std.proofs.lemmas.List.{length-set}
use Rattle.std.proofs.lemmas.List.Elements.{recursion_from_All, Contains-get_or}
use Rattle.std.proofs.lemmas.Option.{unwrap_or-slice_get}
use Rattle.std_blocks.specs.Calls.{Call}
use Rattle.logic_cells.specs.declared.clock.Clock.{Clock}
use Rattle.logic_cells.specs.Clocks.{clock_step}
use Rattle.logic_cells.specs.Cells.{PlainCells, value_at, assigned, clocked, stepped_at}
use Rattle.acc_vm.specs.declared.instr.Instr.{Instr}
use Rattle.acc_vm.specs.Codes.{SameShape}
use Rattle.acc_vm.specs.Operands.{PlainOperands, bounds_of}
use Rattle.plant_types.specs.Values.{row_length}
use Rattle.vm_slices.specs.Slots.{slots_read, slots_written, clocks_of, Writes, Names, NamesClock}
use Rattle.vm_slices.specs.Renaming.{KeepsRow, KeepsRows, TellsApart, StandsFor}
use Rattle.vm_slices.specs.Alike.{IsKept}
use Rattle.vm_slices.proofs.Items.{get_other, still_stand}
use Rattle.vm_slices.proofs.Steps.{itself, Reads, Assigns, Shows, Suits}

pub each : (P : ℕ → Type 0) (xs : List ℕ) → ((x : ℕ) → Contains xs x → P x) → AllByRecursion P xs
each P xs h = recursion_from_All P xs (λ k d within. h _ (Contains-get_or xs k d within))

-- numbers that stand for themselves keep all rows
pub kept_by_itself : (o : PlainOperands) → KeepsRows itself o
kept_by_itself o = each (λ first. KeepsRow itself first (row_length (bounds_of o))) (o.rows_read ++ o.rows_written) (λ first has. λ k lt. refl)

length_stepped : (clocks : List Clock) (k : ℕ) (c : Call) (o : Option Clock) → length (stepped_at clocks k c o) ≡ length clocks
length_stepped clocks k c None = refl
length_stepped clocks k c (Some clock) = length-set clocks k (clock_step c clock)

other_stepped : (clocks : List Clock) (k l : ℕ) (c : Call) (o : Option Clock) → (l ≡ k → ⊥) → slice_get (stepped_at clocks k c o) l ≡ slice_get clocks l
other_stepped clocks k l c None ne = refl
other_stepped clocks k l c (Some clock) ne = get_other clocks k l (clock_step c clock) ne

module _ (f g : ℕ → ℕ) (code : List Instr) (apart : TellsApart f g code) (before first : PlainCells) where
  pub record Stands (w v : PlainCells) : Type 0 where
    pub stands : StandsFor f g code w v
    pub kept : IsKept code before w
    pub shape : SameShape v first

  same_value : (w v : PlainCells) (s : ℕ) → Names code s → Stands w v → value_at w s ≡ value_at v (f s)
  same_value w v s named h = sym (unwrap_or-slice_get w.values s (pos 0)) ∙ ap (λ o. unwrap_or o (pos 0)) (sym (h.stands.values s named)) ∙ unwrap_or-slice_get v.values (f s) (pos 0)

  still_assigned : (w v : PlainCells) (s : ℕ) (n : ℤ) → Names code s → Writes code s → Stands w v → Stands (assigned w s n) (assigned v (f s) n)
  still_assigned w v s n named written h = record {
    stands = record {
      values = still_stand (Names code) f apart.values w.values v.values s n named h.stands.values;
      clocks = h.stands.clocks;
    };
    kept = record {
      values = λ r not. get_other w.values s r n (λ e. not (subst (Writes code) (sym e) written)) ∙ h.kept.values r not;
      clocks = h.kept.clocks;
      shape = record { values = length-set w.values s n ∙ h.kept.shape.values; clocks = h.kept.shape.clocks };
    };
    shape = record { values = length-set v.values (f s) n ∙ h.shape.values; clocks = h.shape.clocks };
  }

  still_stepped : (w v : PlainCells) (k : ℕ) (c : Call) (o : Option Clock) → NamesClock code k → Stands w v
      → (l : ℕ) → NamesClock code l → slice_get (stepped_at v.clocks (g k) c o) (g l) ≡ slice_get (stepped_at w.clocks k c o) l
  still_stepped w v k c None named h = h.stands.clocks
  still_stepped w v k c (Some clock) named h = still_stand (NamesClock code) g apart.clocks w.clocks v.clocks k (clock_step c clock) named h.stands.clocks

  still_called : (w v : PlainCells) (k : ℕ) (c : Call) → NamesClock code k → Stands w v → Stands (clocked w k c) (clocked v (g k) c)
  still_called w v k c named h = record {
    stands = record {
      values = h.stands.values;
      clocks = λ l there. ap (λ o. slice_get (stepped_at v.clocks (g k) c o) (g l)) (h.stands.clocks k named) ∙ still_stepped w v k c (slice_get w.clocks k) named h l there;
    };
    kept = record {
      values = h.kept.values;
      clocks = λ l not. other_stepped w.clocks k l c (slice_get w.clocks k) (λ e. not (subst (NamesClock code) (sym e) named)) ∙ h.kept.clocks l not;
      shape = record { values = h.kept.shape.values; clocks = length_stepped w.clocks k c (slice_get w.clocks k) ∙ h.kept.shape.clocks };
    };
    shape = record { values = h.shape.values; clocks = length_stepped v.clocks (g k) c (slice_get v.clocks (g k)) ∙ h.shape.clocks };
  }

  pub suit : (pc : ℕ) (i : Instr) → slice_get code pc ≡ Some i → Suits Stands f g i
  suit pc i at = record {
    reads = each (Reads Stands f g) (slots_read i) (λ s has. record { is = λ w v h. same_value w v s (record { some = inl (pc, i, at, has) }) h });
    writes = each (Assigns Stands f g) (slots_written i)
        (λ s has. record { is = λ w v n h. still_assigned w v s n (record { some = inr (pc, i, at, has) }) (record { some = (pc, i, at, has) }) h });
    clocks = each (Shows Stands f g) (clocks_of i)
        (λ k has. let named : NamesClock code k = record { some = (pc, i, at, has) } in record {
          is = λ w v h. sym (h.stands.clocks k named);
          calls = λ w v c d e h. subst (λ d. Stands (clocked w k c) (clocked v (g k) d)) e (still_called w v k c named h);
        });
    rows = apart.rows pc i at;
  }
