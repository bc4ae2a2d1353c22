-- What is loaded into a part's cells, and what its code leaves there.
use Rattle.std.proofs.Common.{◌≡◌, ◌<◌, ℕ, pos, List, [], map, length, get_or, Some, ap, sym, ◌∙◌, subst}
use Rattle.std.specs.Prelude.{slice_get, option_map}
use Rattle.std.proofs.lemmas.Option.{slice_get-map, slice_get-get_or, same_Some}
use Rattle.logic_cells.specs.declared.clock.Standard.TheVariants as standard
use Rattle.logic_cells.specs.Clocks.{clock_of}
use Rattle.logic_cells.specs.Cells.{PlainCells}
use Rattle.plant_types.specs.Values.{Path}
use Rattle.acc_vm.specs.declared.instr.Instr.{Instr}
use Rattle.acc_vm.specs.Codes.{PlainCode, fuel_of, run_of}
use Rattle.vm_slices.specs.Slots.{Names, Writes, NamesClock}
use Rattle.vm_slices.specs.Renaming.{renamed_code, StandsFor, TellsApart}
use Rattle.vm_slices.specs.Alike.{IsKept, GoAlike}
use Rattle.vm_slices.specs.Laws.{BothAfter}
use Rattle.vm_slices.specs.Parts.{PlainPart, IsPartOf, HasPart, PartAfter, loaded}
use Rattle.vm_slices.proofs.RowLaws.{rows_kept}
use Rattle.vm_slices.proofs.Runs.{weaker, renamed_runs}

-- cells stand for others as long as a run of another code writes nothing that the code names
pub stands_still : (f g : ℕ → ℕ) (code other : List Instr) (cells after small : PlainCells) → ((s : ℕ) → Names code s → Writes other s → ⊥) → ((k : ℕ) → NamesClock code k → NamesClock other k → ⊥)
    → IsKept other cells after → StandsFor f g code cells small → StandsFor f g code after small
stands_still f g code other cells after small values clocks kept stands = record {
  values = λ s named. stands.values s named ∙ sym (kept.values s (values s named));
  clocks = λ k named. stands.clocks k named ∙ sym (kept.clocks k (clocks k named));
}

-- the item of a list that was picked by a number
picked : {A : Type 0} (xs : List A) (d : A) (numbers : List ℕ) (i s : ℕ) → slice_get numbers i ≡ Some s → s < length xs → slice_get (map (λ s. get_or xs s d) numbers) i ≡ slice_get xs s
picked xs d numbers i s at within =
    slice_get-map (λ s. get_or xs s d) numbers i ∙ ap (option_map (λ s. get_or xs s d)) at ∙ sym (slice_get-get_or xs s d within)

module _ (whole : PlainCode) (part : PlainPart) (is : IsPartOf whole part) where
  pub tells_apart : TellsApart is.slot_place is.clock_place whole.instrs
  tells_apart = record {
    values = λ s r a b e. same_Some s r (sym (is.slots s a) ∙ ap (slice_get part.slots) e ∙ is.slots r b);
    clocks = λ k l a b e. same_Some k l (sym (is.clocks k a) ∙ ap (slice_get part.clocks) e ∙ is.clocks l b);
    rows = rows_kept whole.instrs part.slots is.rise is.slot_place is.slots;
  }

  -- the part's cells stand for all cells once they are loaded
  pub loaded_stands : (cells : PlainCells) → HasPart part cells → StandsFor is.slot_place is.clock_place whole.instrs cells (loaded part cells)
  loaded_stands cells has = record {
    values = λ s named. let at = is.slots s named in picked cells.values (pos 0) part.slots (is.slot_place s) s at (has.slots (is.slot_place s) s at);
    clocks = λ k named. let at = is.clocks k named in picked cells.clocks (clock_of standard.Ton []) part.clocks (is.clock_place k) k at (has.clocks (is.clock_place k) k at);
  }

  -- what stands for all cells has in each place of the part what they have
  pub stands_after : (cells after small : PlainCells) → BothAfter is.slot_place is.clock_place whole.instrs cells (loaded part cells) after small → PartAfter whole part cells after small
  stands_after cells after small both = record {
    values = λ i s at. let only = is.only_slots i s at in ap (slice_get small.values) (sym only.1) ∙ both.stands.values s only.0;
    clocks = λ i k at. let only = is.only_clocks i k at in ap (slice_get small.clocks) (sym only.1) ∙ both.stands.clocks k only.0;
    kept = both.kept;
    shape = both.shape;
  }

  -- a run of the part's code goes as that of the code
  pub part_runs : (t : ℕ) (names : List Path) (cells : PlainCells) → HasPart part cells → GoAlike (PartAfter whole part cells) (run_of t names whole cells) (run_of t names part.code (loaded part cells))
  part_runs t names cells has =
      let small = loaded part cells in
      let moved = renamed_code is.slot_place is.clock_place (length part.slots) (length part.clocks) whole in
      let go : GoAlike (BothAfter is.slot_place is.clock_place whole.instrs cells small) (run_of t names whole cells) (run_of t names moved small)
      = renamed_runs t whole.stack names whole.instrs whole.places is.slot_place is.clock_place (fuel_of whole) 0 (pos 0) [] cells small tells_apart (loaded_stands cells has) in
      subst (λ c. GoAlike (PartAfter whole part cells) (run_of t names whole cells) (run_of t names c small)) (sym is.is)
      (weaker (BothAfter is.slot_place is.clock_place whole.instrs cells small) (PartAfter whole part cells) (stands_after cells) (run_of t names whole cells) (run_of t names moved small) go)
