-- How much a frame has, by a table that tells how much the block types of its instances have.
use Rattle.std.proofs.Common.{◌≡◌, ◌≢◌, ◌∙◌, ap, sym, subst, refl, ℕ, suc, ◌+◌, ◌<◌, ◌^◌, Bool, true, false, List, [], ◌∷◌, ◌++◌, take, length, get_or, set, Some, inl, inr, arith}
use Rattle.std.specs.Prelude.{slice_get, nat_eq, if◌then◌else◌}
use Rattle.std.specs.List.{All}
use Rattle.std.specs.Option.{option_map_or}
use Rattle.std.proofs.lemmas.Bool.{cases_Bool}
use Rattle.std.proofs.lemmas.Bool.Decides.{nat_tests}
use Rattle.std.proofs.lemmas.List.{length-map, length-append, take_more}
use Rattle.std.proofs.lemmas.Option.{slice_get_within, slice_get-get_or}
use Rattle.plant_types.specs.Words.{folded}
use Rattle.st_tree.specs.Numbers.{count_body}
use Rattle.st_blocks.specs.Chains.{Among}
use Rattle.logic_source.specs.declared.logic.Instance.{Instance}
use Rattle.logic_source.specs.declared.logic.BlockRef.{BlockRef}
use Rattle.logic_source.specs.declared.logic.BlockRef.TheVariants.{Ton, Tof, RTrig, Declared}
use Rattle.logic_source.specs.Source.{PlainRoutine, Source, own_cells}
use Rattle.logic_source.specs.Blocks.{Declares, DeclaresThere, HasItsTypes, AreBelow}
use Rattle.logic_source.specs.Paths.{is_called, block_paths, instance_paths, paths_rule, type_paths}
use Rattle.plant_types.specs.Values.{Path}
use Rattle.logic_source.specs.Layout.{own_values, block_values, instance_values, values_rule, routine_values, block_clocks, instance_clocks, clocks_rule, routine_clocks}
use Rattle.logic_source.specs.Seats.{value_count, clock_count}
use Rattle.logic_source.proofs.Layouts.{all_at}
use Rattle.logic_source.proofs.Levels.{by_its_rule}
use Rattle.logic_source.proofs.Seats.{own_count, block_length, routine_length, block_clocks_length, routine_clocks_length}
use Rattle.logic_seats.specs.declared.seats.Extent.{Extent}
use Rattle.logic_seats.specs.declared.seats.Callee.{Callee}
use Rattle.logic_seats.specs.Seats.{Fits, extent, plus, extent_called, extent_by, ends_by}
use Rattle.logic_frames.specs.declared.names.Variables.{Variables}
use Rattle.logic_frames.specs.Reached.{flagged, AreReached, reached}
use Rattle.logic_frames.specs.Frames.{framed}
use Rattle.logic_frames.specs.Small.{HasFewCells, HasFewSteps, IsSmall}
use Rattle.logic_frames.specs.Built.{first_of, AreOf, IsMeasured, IsSized, IsFitting}
use Rattle.logic_frames.proofs.Flags.{declared_asks, get_or_is, are_reached}
use Rattle.logic_frames.proofs.Least.{flagged_reached}
use Rattle.logic_frames.proofs.Listed.{paths_ask}
use Rattle.logic_frames.proofs.Tables.{set_here, set_there, among_last}

-- what an instance adds to its routine
module _ (blocks : List PlainRoutine) (run : List Bool) (table : List Callee) where
  abbrev Knows : Bool → BlockRef → Type 0
  Knows called b = (n : ℕ) → b ≡ Declared n → IsSized blocks run table n × (called ≡ true → flagged run n ≡ true)

  record Adds (called : Bool) (name : List ℕ) (b : BlockRef) : Type 0 where
    values_is : (extent_called called (extent_by table b)).values ≡ value_count blocks b
    clocks_is : (extent_called called (extent_by table b)).clocks ≡ clock_count blocks b
    paths_is : (extent_called called (extent_by table b)).paths ≡ length (if called then block_paths (type_paths blocks) name b else [])

  added : (called : Bool) (name : List ℕ) (b : BlockRef) → Knows called b → Adds called name b
  added true name Ton knows = record { values_is = refl; clocks_is = refl; paths_is = refl }
  added true name Tof knows = record { values_is = refl; clocks_is = refl; paths_is = refl }
  added true name RTrig knows = record { values_is = refl; clocks_is = refl; paths_is = refl }
  added true name (Declared n) knows =
      let it = knows n refl in
      let k = it.0 in
      record {
        values_is = ap (λ o. (option_map_or (λ (p : Callee). p.extent) o (extent 0 0 0)).values) k.at ∙ k.values_is;
        clocks_is = ap (λ o. (option_map_or (λ (p : Callee). p.extent) o (extent 0 0 0)).clocks) k.at ∙ k.clocks_is;
        paths_is = ap (λ o. (option_map_or (λ (p : Callee). p.extent) o (extent 0 0 0)).paths) k.at ∙ k.paths_is (it.1 refl) ∙ sym (length-map (type_paths blocks n) (λ path. path ++ name ∷ []));
      }
  added false name Ton knows = record { values_is = refl; clocks_is = refl; paths_is = refl }
  added false name Tof knows = record { values_is = refl; clocks_is = refl; paths_is = refl }
  added false name RTrig knows = record { values_is = refl; clocks_is = refl; paths_is = refl }
  added false name (Declared n) knows =
      let k = (knows n refl).0 in
      record {
        values_is = ap (λ o. (option_map_or (λ (p : Callee). p.extent) o (extent 0 0 0)).values) k.at ∙ k.values_is;
        clocks_is = ap (λ o. (option_map_or (λ (p : Callee). p.extent) o (extent 0 0 0)).clocks) k.at ∙ k.clocks_is;
        paths_is = refl;
      }

  -- what the instances of a routine have, and where the last of them ends
  module _ (r : PlainRoutine) where
    abbrev next : Extent → Instance → Extent
    next at i = plus at (extent_called (is_called r i.name) (extent_by table i.of))

    record EndsAt (at : Extent) (is : List Instance) : Type 0 where
      values_is : (ends_by table (is_called r) at is).values ≡ at.values + length (instance_values (routine_values blocks) is [])
      clocks_is : (ends_by table (is_called r) at is).clocks ≡ at.clocks + length (instance_clocks (routine_clocks blocks) is [])
      paths_is : (ends_by table (is_called r) at is).paths ≡ at.paths + length (instance_paths (type_paths blocks) r is)

    ends_at : (at : Extent) (is : List Instance) → ((i : Instance) → Among is i → Knows (is_called r i.name) i.of) → EndsAt at is
    ends_at at [] knows = record { values_is = omega arith; clocks_is = omega arith; paths_is = omega arith }
    ends_at at (i ∷ is) knows =
        let here = added (is_called r i.name) i.name i.of (knows i (inl refl)) in
        let later = ends_at (next at i) is (λ j there. knows j (inr there)) in
        let values = block_length (routine_values blocks) (routine_length blocks) i.of (folded i.name ∷ []) [] in
        let clocks = block_clocks_length (routine_clocks blocks) (routine_clocks_length blocks) i.of (folded i.name ∷ []) [] in
        let one = here.values_is in
        let one' = here.clocks_is in
        let one'' = here.paths_is in
        let rest = later.values_is in
        let rest' = later.clocks_is in
        let rest'' = later.paths_is in
        let sum = length-append (block_values (routine_values blocks) i.of (folded i.name ∷ [])) (instance_values (routine_values blocks) is []) in
        let sum' = length-append (block_clocks (routine_clocks blocks) i.of (folded i.name ∷ [])) (instance_clocks (routine_clocks blocks) is []) in
        let sum'' = length-append (if is_called r i.name then block_paths (type_paths blocks) i.name i.of else []) (instance_paths (type_paths blocks) r is) in
        record { values_is = omega (arith, one, rest, values, sum); clocks_is = omega (arith, one', rest', clocks, sum'); paths_is = omega (arith, one'', rest'', sum'') }

    record HasSizes (end : Extent) : Type 0 where
      values_is : end.values ≡ length (values_rule (routine_values blocks) r [])
      clocks_is : end.clocks ≡ length (clocks_rule (routine_clocks blocks) r [])
      paths_is : end.paths ≡ length (paths_rule (type_paths blocks) r)

    sizes : ((i : Instance) → Among r.instances i → Knows (is_called r i.name) i.of) → HasSizes (ends_by table (is_called r) (first_of r) r.instances)
    sizes knows =
        let ends = ends_at (first_of r) r.instances knows in
        let values = ends.values_is in
        let clocks = ends.clocks_is in
        let paths = ends.paths_is in
        let own = own_count r [] in
        let sum = length-append (own_values r []) (instance_values (routine_values blocks) r.instances []) in
        let one : length (paths_rule (type_paths blocks) r) ≡ suc (length (instance_paths (type_paths blocks) r r.instances)) = refl in
        record { values_is = omega (arith, values, own, sum); clocks_is = omega (arith, clocks); paths_is = omega (arith, paths, one) }

    all_fits : (knows : (i : Instance) → Among r.instances i → Knows (is_called r i.name) i.of) → HasFewCells blocks r → HasFewSteps blocks r → IsFitting table r
    all_fits knows cells steps =
        let are = sizes knows in
        let values = are.values_is in
        let clocks = are.clocks_is in
        let paths = are.paths_is in
        let few = cells.values in
        let few' = cells.clocks in
        let few'' = steps.paths in
        let all = length-append (own_values r []) (instance_values (routine_values blocks) r.instances []) in
        let own = own_count r [] in
        record {
          own = omega (arith, few, all, own);
          seats = record { values = omega (arith, values, few); clocks = omega (arith, clocks, few'); paths = omega (arith, paths, few'') };
          starts = cells.starts;
          statements = steps.statements;
        }

-- a routine whose body is left out runs nothing
no_paths : (inner : ℕ → List Path) (r : PlainRoutine) (is : List Instance) → instance_paths inner (framed false r) is ≡ []
no_paths inner r [] = refl
no_paths inner r (i ∷ is) = no_paths inner r is

few_steps : (blocks : List PlainRoutine) (run : Bool) (r : PlainRoutine) → (run ≡ true → HasFewSteps blocks r) → HasFewSteps blocks (framed run r)
few_steps blocks true r few = few refl
few_steps blocks false r few = record {
  paths = (let none : length (instance_paths (type_paths blocks) (framed false r) r.instances) ≡ 0 = ap length (no_paths (type_paths blocks) r r.instances) in
      let one : length (paths_rule (type_paths blocks) (framed false r)) ≡ suc (length (instance_paths (type_paths blocks) (framed false r) r.instances)) = refl in omega (arith, none, one));
  statements = omega arith;
}

few_cells : (blocks : List PlainRoutine) (run : Bool) (r : PlainRoutine) → HasFewCells blocks r → HasFewCells blocks (framed run r)
few_cells blocks true r few = few
few_cells blocks false r few = record { values = few.values; clocks = few.clocks; starts = few.starts }

-- what a routine shows of its instances, with or without its body
framed_knows : (blocks : List PlainRoutine) (run : List Bool) (table : List Callee) (b : Bool) (r : PlainRoutine)
    → ((i : Instance) (n : ℕ) → Among r.instances i → i.of ≡ Declared n → IsSized blocks run table n × (b ≡ true → is_called r i.name ≡ true → flagged run n ≡ true))
    → (i : Instance) → Among (framed b r).instances i → Knows blocks run table (is_called (framed b r) i.name) i.of
framed_knows blocks run table true r known i there n of_is = let it = known i n there of_is in (it.0, it.1 refl)
framed_knows blocks run table false r known i there n of_is = ((known i n there of_is).0, λ called. absurd (cc))

-- the numbers of a frame, whether the frame has the body or not
pub seats_fit : (table : List Callee) (b : Bool) (r : PlainRoutine) → Fits (ends_by table (is_called (framed b r)) (first_of (framed b r)) (framed b r).instances) → Fits (ends_by table (is_called (framed b r)) (first_of r) r.instances)
seats_fit table true r fits = fits
seats_fit table false r fits = fits

pub starts_fit : (table : List Callee) (b : Bool) (r : PlainRoutine) → IsFitting table (framed b r) → 1 + count_body r.starts < 2 ^ 32
starts_fit table true r fits = fits.starts
starts_fit table false r fits = fits.starts

pub own_fit : (table : List Callee) (b : Bool) (r : PlainRoutine) → IsFitting table (framed b r) → own_cells r < 2 ^ 32
own_fit table true r fits = fits.own
own_fit table false r fits = fits.own

-- a table that knows the first so many block types of an order, of those that programs reach
module _ (blocks : List PlainRoutine) (order : List ℕ) (used run : List Bool) where
  abbrev pub AreSized : ℕ → List Callee → Type 0
  AreSized k table = (n : ℕ) → Among (take k order) n → flagged used n ≡ true → IsSized blocks run table n

  pub none_sized : (table : List Callee) → AreSized 0 table
  none_sized table n here on = absurd (nowhere order n here)
    where
      nowhere : (xs : List ℕ) (n : ℕ) → Among (take 0 xs) n → ⊥
      nowhere [] n here = elim here [ ]
      nowhere (x ∷ xs) n here = elim here [ ]

  -- one more block type of the order, which the table knows if programs reach it
  pub sized_more : (k a : ℕ) (table : List Callee) (callee : Callee) → AreSized k table → slice_get order k ≡ Some a → (flagged used a ≡ true → IsSized blocks run (set table a callee) a) → AreSized (k + 1) (set table a callee)
  sized_more k a table callee sized at fresh n here on =
      let inside = slice_get_within order k a at in
      let more : take (k + 1) order ≡ take k order ++ a ∷ [] = take_more order k a inside ∙ ap (λ x. take k order ++ x ∷ []) (get_or_is order k a at) in
      elim (cases_Bool (nat_eq n a)) [
        | inl same ↦ (
            let equal : a ≡ n = grind (arith, nat_tests) in
            subst (IsSized blocks run (set table a callee)) equal (fresh (ap (flagged used) equal ∙ on)))
        | inr other ↦ (
            let apart : n ≢ a = grind (arith, nat_tests) in
            let before : Among (take k order) n = elim (among_last (take k order) a n (subst (λ l. Among l n) more here)) [
              | inl there ↦ there
              | inr last ↦ absurd (apart (sym last))
            ] in
            let old = sized n before on in
            record { callee = old.callee; at = set_there table a n callee old.callee apart old.at; values_is = old.values_is; clocks_is = old.clocks_is; paths_is = old.paths_is })
      ]

-- the next block type of an order, which programs reach
module _ (source : Source) (globals : Variables) (members : List Variables) (order : List ℕ) (used run : List Bool) (given : IsMeasured source globals members used run) (below : AreBelow source.blocks order) (k a : ℕ) (r : PlainRoutine) (table : List Callee)
    (sized : AreSized source.blocks order used run k table) (at : slice_get order k ≡ Some a) (is : slice_get source.blocks a ≡ Some r) (types : (n : ℕ) → Declares r n → n < length source.blocks) (on : flagged used a ≡ true) where
  abbrev shown : PlainRoutine
  shown = framed (flagged run a) r

  knows : (i : Instance) → Among shown.instances i → Knows source.blocks run table (is_called shown i.name) i.of
  knows =
      framed_knows source.blocks run table (flagged run a) r
      (λ i n there of_is.
      let declares : Declares r n = (i, there, of_is) in (
        sized n (below.after k a n r at is declares (types n declares)) (given.are_used.by_blocks a n r is on (declared_asks r n declares)),
        λ runs called. given.are_run.by_blocks a n r is runs (i, there, of_is, λ _. called),
      ))

  -- the numbers of its frame fit
  pub frame_fits : IsFitting table shown
  frame_fits = all_fits source.blocks run table shown knows (few_cells source.blocks (flagged run a) r (given.few_used a r is on)) (few_steps source.blocks (flagged run a) r (given.few_run a r is))

  -- and a table knows it that has what the frame has
  pub fresh : (callee : Callee) → a < length table → callee.extent ≡ ends_by table (is_called shown) (first_of shown) shown.instances
      → routine_values source.blocks a ≡ values_rule (routine_values source.blocks) r → routine_clocks source.blocks a ≡ clocks_rule (routine_clocks source.blocks) r → IsSized source.blocks run (set table a callee) a
  fresh callee inside end_is has_values has_clocks =
      let are = sizes source.blocks run table shown knows in
      record {
        callee = callee;
        at = set_here table a callee inside;
        values_is = ap (λ (e : Extent). e.values) end_is ∙ are.values_is ∙ shown_values (flagged run a) ∙ ap (λ f. length (f [])) (sym has_values);
        clocks_is = ap (λ (e : Extent). e.clocks) end_is ∙ are.clocks_is ∙ shown_clocks (flagged run a) ∙ ap (λ f. length (f [])) (sym has_clocks);
        paths_is = λ runs. ap (λ (e : Extent). e.paths) end_is ∙ are.paths_is ∙ ap (λ b. length (paths_rule (type_paths source.blocks) (framed b r))) runs ∙ ap length (sym (by_its_rule [] paths_rule source.blocks order below paths_ask a r is));
      }
    where
      shown_values : (b : Bool) → length (values_rule (routine_values source.blocks) (framed b r) []) ≡ length (values_rule (routine_values source.blocks) r [])
      shown_values true = refl
      shown_values false = refl

      shown_clocks : (b : Bool) → length (clocks_rule (routine_clocks source.blocks) (framed b r) []) ≡ length (clocks_rule (routine_clocks source.blocks) r [])
      shown_clocks true = refl
      shown_clocks false = refl

-- the frame of a program
pub program_fits : (source : Source) (used run : List Bool) (table : List Callee) (k : ℕ) (p : PlainRoutine) → slice_get source.programs k ≡ Some p → ((n : ℕ) → Declares p n → n < length source.blocks) → AreReached false source used → AreReached true source run
    → ((n : ℕ) → n < length source.blocks → flagged used n ≡ true → IsSized source.blocks run table n) → HasFewCells source.blocks p → HasFewSteps source.blocks p → IsFitting table p
program_fits source used run table k p at types are_used are_run sized cells steps =
    all_fits source.blocks run table p
    (λ i there n of_is.
    let declares : Declares p n = (i, there, of_is) in (
      sized n (types n declares) (are_used.by_programs k n p at (declared_asks p n declares)),
      λ called. are_run.by_programs k n p at (i, there, of_is, λ _. called),
    ))
    cells steps

-- the flags of what programs reach, in a small source
pub all_measured : (source : Source) (order : List ℕ) (globals : Variables) (members : List Variables) (used run : List Bool) → AreBelow source.blocks order → HasItsTypes source → AreOf source globals members → IsSmall source
    → used ≡ reached false source.programs source.blocks order → run ≡ reached true source.programs source.blocks order → IsMeasured source globals members used run
all_measured source order globals members used run below types of small used_is run_is = record {
  of = of;
  are_used = subst (AreReached false source) (sym used_is) (are_reached false source order below types);
  are_run = subst (AreReached true source) (sym run_is) (are_reached true source order below types);
  few_used = λ n r at on. small.used n r at (flagged_reached false source order n (subst (λ l. flagged l n ≡ true) used_is on));
  few_run = λ n r at on. small.run n r at (flagged_reached true source order n (subst (λ l. flagged l n ≡ true) run_is on));
}

pub programs_fit : (source : Source) (globals : Variables) (members : List Variables) (used run : List Bool) (table : List Callee) → IsMeasured source globals members used run → HasItsTypes source → IsSmall source
    → ((n : ℕ) → n < length source.blocks → flagged used n ≡ true → IsSized source.blocks run table n) → All (IsFitting table) source.programs
programs_fit source globals members used run table given types small sized = λ k d less.
    let p = get_or source.programs k d in
    let at : slice_get source.programs k ≡ Some p = slice_get-get_or source.programs k d less in
    program_fits source used run table k p at (all_at (DeclaresThere source.blocks) source.programs k p types.in_programs at) given.are_used given.are_run sized (small.program_cells k p at) (small.program_steps k p at)
