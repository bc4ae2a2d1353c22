-- What cells that stand for a world hold, and how they go on standing for one.
use Rattle.std.proofs.Common.{◌≡◌, ◌∙◌, ap, sym, subst, refl, ℕ, ℤ, zero, suc, pos, true, false, List, [], ◌∷◌, map, Some, slice_get, inl, inr}
use Rattle.std.specs.Prelude.{option_map, slice_set}
use Rattle.std.proofs.lemmas.Bool.{cases_Bool, both_ways}
use Rattle.std.proofs.lemmas.Option.{slice_get-map, get_or_from_slice_get}
use Rattle.std_blocks.specs.Calls.{Call}
use Rattle.logic_source.specs.Source.{Source}
use Rattle.plant_types.specs.Values.{Path}
use Rattle.logic_source.specs.Worlds.{World, same_path, assign, with_call}
use Rattle.logic_source.specs.Layout.{ClockAt, cell_paths, all_clocks, clock_paths, Stands, Absent, NoneTwice, IsDistinctlyNamed}
use Rattle.logic_source.proofs.Paths.{path_is, path_same}
use Rattle.logic_source.proofs.Layouts.{clocks_once}
use Rattle.logic_source.proofs.Seats.{value_read, value_written}
use Rattle.logic_cells.specs.Clocks.{clock_of}
use Rattle.logic_cells.specs.Cells.{PlainCells, value_at, assigned, clocked, stepped_at}
use Rattle.logic_cells.proofs.Clocks.{clock_steps}
use Rattle.logic_frames.specs.Stands.{standard_of, clock_in, StandFor}

-- a path that no path of a list is isn't the one of a number
absent_at : (p q : Path) (ps : List Path) (n : ℕ) → Absent p ps → slice_get ps n ≡ Some q → same_path p q ≡ false
absent_at p q [] n none at = absurd (cc)
absent_at p q (x ∷ ps) zero none at = let same : x ≡ q = cc in subst (λ z. same_path p z ≡ false) same none.0
absent_at p q (x ∷ ps) (suc n) none at = absent_at p q ps n none.1 at

other_path : (p q : Path) → same_path p q ≡ false → same_path q p ≡ false
other_path p q isnt =
    elim (cases_Bool (same_path q p)) [
      | inl is ↦ absurd (both_ways (same_path p q) isnt (subst (λ z. same_path p z ≡ true) (sym (path_is q p is)) (path_same p)))
      | inr isnt' ↦ isnt'
    ]

module _ (w : World) (call : Call) where
  -- the clocks at other paths stay
  clocks_kept : (x : Path) (cs : List ClockAt) → Absent x (map (λ (c : ClockAt). c.path) cs) → map (clock_in (with_call w x call)) cs ≡ map (clock_in w) cs
  clocks_kept x [] none = refl
  clocks_kept x (c ∷ cs) none = rw none.0 (ap (λ l. clock_in w c ∷ l) (clocks_kept x cs none.1))

  clock_first : (c : ClockAt) (cs : List ClockAt) → Absent c.path (map (λ (d : ClockAt). d.path) cs)
      → clock_of (standard_of c.of) (call ∷ w.calls c.path) ∷ map (clock_in w) cs ≡ map (clock_in (with_call w c.path call)) (c ∷ cs)
  clock_first c cs none = rw (path_same c.path) (ap (λ l. clock_of (standard_of c.of) (call ∷ w.calls c.path) ∷ l) (sym (clocks_kept c.path cs none)))

  clocks_written : (cs : List ClockAt) (n : ℕ) (c : ClockAt) → NoneTwice (map (λ (d : ClockAt). d.path) cs) → slice_get cs n ≡ Some c
      → slice_set (map (clock_in w) cs) n (clock_of (standard_of c.of) (call ∷ w.calls c.path)) ≡ map (clock_in (with_call w c.path call)) cs
  clocks_written [] n c once at = absurd (cc)
  clocks_written (d ∷ cs) zero c once at =
      let same : d ≡ c = cc in
      subst (λ (x : ClockAt). clock_of (standard_of x.of) (call ∷ w.calls x.path) ∷ map (clock_in w) cs ≡ map (clock_in (with_call w x.path call)) (d ∷ cs)) same (clock_first d cs once.0)
  clocks_written (d ∷ cs) (suc n) c once at =
      let path : slice_get (map (λ (x : ClockAt). x.path) cs) n ≡ Some c.path = slice_get-map (λ (x : ClockAt). x.path) cs n ∙ ap (option_map (λ (x : ClockAt). x.path)) at in
      let other : same_path c.path d.path ≡ false = other_path d.path c.path (absent_at d.path c.path (map (λ (x : ClockAt). x.path) cs) n once.0 path) in
      rw other (ap (λ l. clock_in w d ∷ l) (clocks_written cs n c once.1 at))

module _ (source : Source) (cells : PlainCells) (w : World) (stands : StandFor source cells w) where
  plain_stands : Stands source cells.values (map w.calls (clock_paths source)) w
  plain_stands = record { values_are = stands.values_are; calls_are = refl }

  -- the value of a path's number
  pub value_held : (n : ℕ) (p : Path) → slice_get (cell_paths source) n ≡ Some p → value_at cells n ≡ w.values p
  value_held n p at = get_or_from_slice_get cells.values n (w.values p) (pos 0) (value_read source cells.values (map w.calls (clock_paths source)) w plain_stands n p at)

  -- a value that is assigned
  pub value_put : IsDistinctlyNamed source → (n : ℕ) (p : Path) (x : ℤ) → slice_get (cell_paths source) n ≡ Some p → StandFor source (assigned cells n x) (assign w p x)
  value_put named n p x at = record {
    values_are = (value_written source cells.values (map w.calls (clock_paths source)) w plain_stands n p named x at).values_are;
    clocks_are = stands.clocks_are;
  }

  -- the clock of a standard block's number
  pub clock_held : (n : ℕ) (c : ClockAt) → slice_get (all_clocks source) n ≡ Some c → slice_get cells.clocks n ≡ Some (clock_in w c)
  clock_held n c at = ap (λ l. slice_get l n) stands.clocks_are ∙ slice_get-map (clock_in w) (all_clocks source) n ∙ ap (option_map (clock_in w)) at

  -- a standard block that is called
  pub clock_put : IsDistinctlyNamed source → (n : ℕ) (c : ClockAt) (call : Call) → slice_get (all_clocks source) n ≡ Some c → StandFor source (clocked cells n call) (with_call w c.path call)
  clock_put named n c call at = record {
    values_are = stands.values_are;
    clocks_are =
        ap (stepped_at cells.clocks n call) (clock_held n c at)
        ∙ (λ i. slice_set (stands.clocks_are i) n (clock_steps (standard_of c.of) call (w.calls c.path) i))
        ∙ clocks_written w call (all_clocks source) n c (clocks_once source named) at;
  }
