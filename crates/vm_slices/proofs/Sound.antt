-- Sound code is sound by other numbers.
use Rattle.std.proofs.Common.{◌≡◌, ◌<◌, ◌≤◌, ℕ, pos, max, List, [], map, length, get_or, Option, Some, None, refl, ap, sym, ◌∙◌, subst, arith, inl, inr}
use Rattle.std.specs.Prelude.{slice_get, option_map}
use Rattle.std.specs.List.{AllByRecursion, range_with_len}
use Rattle.plant_types.specs.Values.{row_length}
use Rattle.std.proofs.lemmas.List.{length-map}
use Rattle.std.proofs.lemmas.List.Elements.{All-from_recursion, All-contains}
use Rattle.std.proofs.lemmas.List.FromFn.{length-map-range_with_len, get_or-map-range_with_len}
use Rattle.std.proofs.lemmas.Option.{slice_get-map, slice_get-get_or, same_Some, none-some}
use Rattle.st_tree.specs.Meaning.{Ran, Done, Trapped}
use Rattle.logic_cells.specs.declared.clock.Standard.TheVariants as standard
use Rattle.logic_cells.specs.Clocks.{clock_of}
use Rattle.logic_cells.specs.Cells.{PlainCells, value_at}
use Rattle.acc_vm.specs.declared.instr.Instr.{Instr}
use Rattle.acc_vm.proofs.Table.{renamed_is, below_past, past_map}
use Rattle.acc_vm.specs.Machine.{Run, Over, Unfinished, Stuck}
use Rattle.acc_vm.specs.Codes.{PlainCode, IsSound, IsOver, IsWithin, LeavesShape, SameShape, fuel_of, run_of, values_past, clocks_past}
use Rattle.vm_slices.specs.Slots.{slots_read, slots_written, clocks_of, SomeHas, Names, NamesClock}
use Rattle.acc_vm.specs.Operands.{PlainOperands, operands, bounds_of, row_slots, all_read, all_written, renamed_operands, renamed, past_all}
use Rattle.vm_slices.specs.Renaming.{renamed_code, KeepsRow, KeepsRows, TellsApart, StandsFor, HasRoom}
use Rattle.vm_slices.specs.Alike.{EndAlike, GoAlike}
use Rattle.vm_slices.specs.Laws.{BothAfter}
use Rattle.vm_slices.proofs.Steps.{in_front, behind}
use Rattle.vm_slices.proofs.Standing.{each}
use Rattle.vm_slices.proofs.RowLaws.{moved_slots}
use Rattle.vm_slices.proofs.Runs.{renamed_runs}

-- what an instruction names is below the number after the last slot
pub read_past : (i : Instr) (n : ℕ) → values_past i ≤ n → AllByRecursion (λ s. s < n) (slots_read i)
read_past i n h = below_past (slots_read i) n (omega (arith, h))

pub written_past : (i : Instr) (n : ℕ) → values_past i ≤ n → AllByRecursion (λ s. s < n) (slots_written i)
written_past i n h = below_past (slots_written i) n (omega (arith, h))

-- so are those besides rows
pub read_alone_past : (i : Instr) (n : ℕ) → values_past i ≤ n → AllByRecursion (λ s. s < n) (operands i).reads
read_alone_past i n h = in_front (λ s. s < n) (operands i).reads (row_slots (bounds_of (operands i)) (operands i).rows_read) (read_past i n h)

pub written_alone_past : (i : Instr) (n : ℕ) → values_past i ≤ n → AllByRecursion (λ s. s < n) (operands i).writes
written_alone_past i n h = in_front (λ s. s < n) (operands i).writes (row_slots (bounds_of (operands i)) (operands i).rows_written) (written_past i n h)

pub clock_past : (i : Instr) (n : ℕ) → clocks_past i ≤ n → AllByRecursion (λ k. k < n) (clocks_of i)
clock_past i n h = below_past (operands i).clocks n h

values_again : (f g : ℕ → ℕ) (i : Instr) (n : ℕ) → KeepsRows f (operands i) → AllByRecursion (λ s. f s < n) (slots_read i) → AllByRecursion (λ s. f s < n) (slots_written i) → values_past (renamed f g i) ≤ n
values_again f g i n rows h k =
    let o = operands i in
    let bounds = bounds_of o in
    let keeps : ℕ → Type 0 = λ first. KeepsRow f first (row_length bounds) in
    let read_is : all_read (renamed_operands f g o) ≡ map f (all_read o) = moved_slots f bounds o.reads o.rows_read (in_front keeps o.rows_read o.rows_written rows) in
    let written_is : all_written (renamed_operands f g o) ≡ map f (all_written o) = moved_slots f bounds o.writes o.rows_written (behind keeps o.rows_read o.rows_written rows) in
    let reads = past_map f (all_read o) n h in
    let writes = past_map f (all_written o) n k in
    let one : past_all (all_read (renamed_operands f g o)) ≤ n = subst (λ l. past_all l ≤ n) (sym read_is) reads in
    let other : past_all (all_written (renamed_operands f g o)) ≤ n = subst (λ l. past_all l ≤ n) (sym written_is) writes in
    subst (λ (o : PlainOperands). max (past_all (all_read o)) (past_all (all_written o)) ≤ n) (sym (renamed_is f g i)) (omega (arith, one, other))

clocks_again : (f g : ℕ → ℕ) (i : Instr) (n : ℕ) → AllByRecursion (λ k. g k < n) (clocks_of i) → clocks_past (renamed f g i) ≤ n
clocks_again f g i n h = subst (λ (o : PlainOperands). past_all o.clocks ≤ n) (sym (renamed_is f g i)) (past_map g (operands i).clocks n h)

-- what stands at a place by other numbers is what stood there
pub was : {A B : Type 0} (h : A → B) (o : Option A) (y : B) → option_map h o ≡ Some y → (x : A) × (o ≡ Some x) × (h x ≡ y)
was h None y e = absurd (none-some y e)
was h (Some x) y e = (x, refl, same_Some (h x) y e)

ran_alike : (R : PlainCells → PlainCells → Type 0) (first small : PlainCells) → ((w v : PlainCells) → R w v → SameShape v small) → (r q : Ran PlainCells) → EndAlike R r q → LeavesShape small q
ran_alike R first small h (Done w) (Done v) e = h w v e
ran_alike R first small h (Trapped w spot trap) (Trapped v other reason) e = h w v e.0
ran_alike R first small h (Done w) (Trapped v other reason) e = absurd e
ran_alike R first small h (Trapped w spot trap) (Done v) e = absurd e

over_alike : (R : PlainCells → PlainCells → Type 0) (first small : PlainCells) → ((w v : PlainCells) → R w v → SameShape v small) → (a b : Run) → GoAlike R a b → IsOver first a → IsOver small b
over_alike R first small h (Over r left) (Over q rest) e over = ran_alike R first small h r q e.0
over_alike R first small h (Over r left) Unfinished e over = absurd e
over_alike R first small h (Over r left) Stuck e over = absurd e
over_alike R first small h Unfinished b e over = absurd over
over_alike R first small h Stuck b e over = absurd over

pub below : (numbers : Instr → List ℕ) (n : ℕ) (code : List Instr) → ((pc : ℕ) (i : Instr) → slice_get code pc ≡ Some i → AllByRecursion (λ s. s < n) (numbers i)) → (s : ℕ) → SomeHas numbers code s → s < n
below numbers n code h s some = All-contains (λ s. s < n) (numbers some.1) s (All-from_recursion (λ s. s < n) (numbers some.1) (h some.0 some.1 some.2)) some.3

module _ (f g : ℕ → ℕ) (values clocks : ℕ) (code : PlainCode) (sound : IsSound code) (apart : TellsApart f g code.instrs) (room : HasRoom f g values clocks code.instrs) where
  named_below : (s : ℕ) → Names code.instrs s → s < code.values
  named_below s named = elim named.some [
    | inl some ↦ below slots_read code.values code.instrs (λ pc i at. read_past i code.values (sound.within pc i at).0) s some
    | inr some ↦ below slots_written code.values code.instrs (λ pc i at. written_past i code.values (sound.within pc i at).0) s some
  ]

  clock_below : (k : ℕ) → NamesClock code.instrs k → k < code.clocks
  clock_below k named = below clocks_of code.clocks code.instrs (λ pc i at. clock_past i code.clocks (sound.within pc i at).1) k named.some

  -- cells for which given ones stand
  whole : PlainCells → PlainCells
  whole small = record {
    values = map (λ s. value_at small (f s)) (range_with_len 0 code.values);
    clocks = map (λ k. get_or small.clocks (g k) (clock_of standard.Ton [])) (range_with_len 0 code.clocks);
  }

  same_item : {A : Type 0} (xs : List A) (d : A) (h : ℕ → ℕ) (n s : ℕ) → s < n → h s < length xs → slice_get xs (h s) ≡ slice_get (map (λ s. get_or xs (h s) d) (range_with_len 0 n)) s
  same_item xs d h n s within has =
      let long : length (map (λ s. get_or xs (h s) d) (range_with_len 0 n)) ≡ n = length-map-range_with_len (λ s. get_or xs (h s) d) 0 n in
      slice_get-get_or xs (h s) d has
      ∙ ap Some (sym (get_or-map-range_with_len (λ s. get_or xs (h s) d) 0 n s s d within (omega arith)))
      ∙ sym (slice_get-get_or (map (λ s. get_or xs (h s) d) (range_with_len 0 n)) s d (omega arith))

  stand : (small : PlainCells) → values ≤ length small.values → clocks ≤ length small.clocks → StandsFor f g code.instrs (whole small) small
  unfolding whole
  stand small many more = record {
    values = λ s named. let has = room.values s named in same_item small.values (pos 0) f code.values s (named_below s named) (omega arith);
    clocks = λ k named. let has = room.clocks k named in same_item small.clocks (clock_of standard.Ton []) g code.clocks k (clock_below k named) (omega arith);
  }

  long_values : (small : PlainCells) → code.values ≤ length (whole small).values
  unfolding whole
  long_values small = let e = length-map-range_with_len (λ s. value_at small (f s)) 0 code.values in omega arith

  long_clocks : (small : PlainCells) → code.clocks ≤ length (whole small).clocks
  unfolding whole
  long_clocks small = let e = length-map-range_with_len (λ k. get_or small.clocks (g k) (clock_of standard.Ton [])) 0 code.clocks in omega arith

  within : (pc : ℕ) (i : Instr) → slice_get (map (renamed f g) code.instrs) pc ≡ Some i → IsWithin values clocks i
  within pc i at =
      let old = was (renamed f g) (slice_get code.instrs pc) i (sym (slice_get-map (renamed f g) code.instrs pc) ∙ at) in
      let j = old.0 in
      let stood : slice_get code.instrs pc ≡ Some j = old.1 in
      subst (IsWithin values clocks) old.2 (
        values_again f g j values (apart.rows pc j stood) (each (λ s. f s < values) (slots_read j) (λ s has. room.values s (record { some = inl (pc, j, stood, has) })))
            (each (λ s. f s < values) (slots_written j) (λ s has. room.values s (record { some = inr (pc, j, stood, has) }))),
        clocks_again f g j clocks (each (λ k. g k < clocks) (clocks_of j) (λ k has. room.clocks k (record { some = (pc, j, stood, has) }))),
      )

  pub sound_again : IsSound (renamed_code f g values clocks code)
  sound_again = record {
    within = within;
    placed = sound.placed ∙ sym (length-map code.instrs (renamed f g));
    named = sound.named;
    ends = λ t names small many more.
        over_alike (BothAfter f g code.instrs (whole small) small) (whole small) small (λ w v h. h.shape) (run_of t names code (whole small)) (run_of t names (renamed_code f g values clocks code) small)
        (renamed_runs t code.stack names code.instrs code.places f g (fuel_of code) 0 (pos 0) [] (whole small) small apart (stand small many more))
        (sound.ends t names (whole small) (long_values small) (long_clocks small));
  }
