-- The programs of a scan, one after another over cells, are those of the source in the world that the cells stand for.
use Rattle.std.proofs.Common.{◌≡◌, ℕ, ◌+◌, ◌<◌, ◌≤◌, Bool, true, false, List, [], ◌∷◌, ◌++◌, length, take, drop, get_or, map, Some, None, refl, sym, ap, ◌∙◌, subst, arith, add-one, suc}
use Rattle.std.specs.Prelude.{slice_set}
use Rattle.std.proofs.Math.Seq.{drop-cons}
use Rattle.std.proofs.lemmas.List.{take_more, take_all, drop_all, append-nil, append_assoc, take-set, drop-set-lt, get_or-set_same, length-set, map-append}
use Rattle.plant_types.specs.declared.values.Trap.{Trap}
use Rattle.plant_types.specs.declared.values.Place.{Place}
use Rattle.st_tree.specs.Meaning.{Ran, Done, Trapped, Spot}
use Rattle.logic_source.specs.Source.{Source}
use Rattle.logic_source.specs.Worlds.{World, run_program}
use Rattle.logic_cells.specs.Cells.{PlainCells}
use Rattle.vm_carry.specs.Stands.{StandFor}
use Rattle.vm_carry.specs.Runs.{place_spot, Agree}
use Rattle.level_scans.specs.Scans.{Scanned, with_flag, with_fault, after_run, programs_from}
use Rattle.level_scans.specs.Runs.{ProgramsRan, run_by, ended_by}

-- a fault with the names to its place
abbrev pub located : Source → Place × Trap → Spot × Trap
located source f = (place_spot source f.0, f.1)

-- what some programs left and met, and what the others do
abbrev pub joined : List Bool → List (Spot × Trap) → Scanned → Scanned
joined flags faults rest = record { world = rest.world; faulted = flags ++ rest.faulted; faults = faults ++ rest.faults }

joined-with_flag : (a : List Bool) (fs : List (Spot × Trap)) (b : Bool) (r : Scanned) → joined a fs (with_flag b r) ≡ joined (a ++ b ∷ []) fs r
joined-with_flag a fs b r = ap (λ (l : List Bool). record { world = r.world; faulted = l; faults = fs ++ r.faults }) (sym (append_assoc a (b ∷ []) r.faulted))

joined-with_fault : (a : List Bool) (fs : List (Spot × Trap)) (spot : Spot) (trap : Trap) (r : Scanned) → joined a fs (with_fault spot trap r) ≡ joined a (fs ++ (spot, trap) ∷ []) r
joined-with_fault a fs spot trap r = ap (λ (l : List (Spot × Trap)). record { world = r.world; faulted = a ++ r.faulted; faults = l }) (sym (append_assoc fs ((spot, trap) ∷ []) r.faults))

-- the programs below a number have run, and the cells stand for a world in which the others have to
pub record Reached (source : Source) (t : ℕ) (whole : Scanned) (i : ℕ) (cells : PlainCells) (flags : List Bool) (faults : List (Place × Trap)) : Type 0 where
  pub world : World
  pub stands : StandFor source cells world
  pub so_far : whole ≡ joined (take i flags) (map (located source) faults) (programs_from source t i (drop i flags) world)

pub reached_none : (source : Source) (t : ℕ) (flags : List Bool) (cells : PlainCells) (w : World) → StandFor source cells w → Reached source t (programs_from source t 0 flags w) 0 cells flags []
reached_none source t flags cells w stands = record { world = w; stands = stands; so_far = refl }

pub reached_all : (source : Source) (t : ℕ) (whole : Scanned) (i : ℕ) (cells : PlainCells) (flags : List Bool) (faults : List (Place × Trap)) → length flags ≤ i → Reached source t whole i cells flags faults → ProgramsRan source whole cells flags faults
reached_all source t whole i cells flags faults over r =
    let rest : programs_from source t i (drop i flags) r.world ≡ record { world = r.world; faulted = []; faults = [] } = ap (λ l. programs_from source t i l r.world) (drop_all i flags over) in
    let is : whole ≡ joined (take i flags) (map (located source) faults) (record { world = r.world; faulted = []; faults = [] }) = r.so_far ∙ ap (joined (take i flags) (map (located source) faults)) rest in
    record {
      world_stands = subst (λ (s : Scanned). StandFor source cells s.world) (sym is) r.stands;
      faulted_is = sym (ap (λ (s : Scanned). s.faulted) is ∙ append-nil (take i flags) ∙ take_all i flags over);
      faults_are = sym (ap (λ (s : Scanned). s.faults) is ∙ append-nil (map (located source) faults));
    }

-- the flags from a number on
flags_from : (flags : List Bool) (i : ℕ) (b : Bool) → i < length flags → get_or flags i b ≡ b → drop i flags ≡ b ∷ drop (i + 1) flags
flags_from flags i b h is = drop-cons flags i b h ∙ ap (λ x. x ∷ drop (suc i) flags) is ∙ ap (λ k. b ∷ drop k flags) (sym (add-one i))

-- a run that run_ended, and the world in which the others go on
record RunEnded (source : Source) (ran : Ran World) (cells : PlainCells) (others : World → Scanned) : Type 0 where
  pub world : World
  pub stands : StandFor source cells world
  pub is : after_run ran others ≡ with_flag false (others world)

run_ended : (source : Source) (ran : Ran World) (cells : PlainCells) (others : World → Scanned) → Agree source ran (Done cells) → RunEnded source ran cells others
run_ended source (Done w) cells others agree = record { world = w; stands = agree; is = refl }
run_ended source (Trapped w spot trap) cells others agree = absurd agree

-- a run that trapped
record RunTrapped (source : Source) (ran : Ran World) (cells : PlainCells) (spot : Spot) (trap : Trap) (others : World → Scanned) : Type 0 where
  pub world : World
  pub stands : StandFor source cells world
  pub is : after_run ran others ≡ with_flag true (with_fault spot trap (others world))

run_trapped : (source : Source) (ran : Ran World) (cells : PlainCells) (spot : Spot) (trap : Trap) (others : World → Scanned) → Agree source ran (Trapped cells spot trap) → RunTrapped source ran cells spot trap others
run_trapped source (Done w) cells spot trap others agree = absurd agree
run_trapped source (Trapped w s k) cells spot trap others agree = record {
  world = w;
  stands = agree.0;
  is = ap (λ x. with_flag true (with_fault x k (others w))) agree.1 ∙ ap (λ x. with_flag true (with_fault spot x (others w))) agree.2;
}

-- a faulted program was skipped
reached_skip : (source : Source) (t : ℕ) (whole : Scanned) (i : ℕ) (cells after : PlainCells) (flags : List Bool) (faults : List (Place × Trap)) → i < length flags → get_or flags i true ≡ true
    → ((w : World) → StandFor source cells w → StandFor source after w)
    → Reached source t whole i cells flags faults → Reached source t whole (i + 1) after flags faults
reached_skip source t whole i cells after flags faults h set walks r =
    record {
      world = r.world;
      stands = walks r.world r.stands;
      so_far = r.so_far
          ∙ ap (λ l. joined (take i flags) (map (located source) faults) (programs_from source t i l r.world)) (flags_from flags i true h set)
          ∙ joined-with_flag (take i flags) (map (located source) faults) true (programs_from source t (i + 1) (drop (i + 1) flags) r.world)
          ∙ ap (λ b. joined (take i flags ++ b ∷ []) (map (located source) faults) (programs_from source t (i + 1) (drop (i + 1) flags) r.world)) (sym set)
          ∙ ap (λ l. joined l (map (located source) faults) (programs_from source t (i + 1) (drop (i + 1) flags) r.world)) (sym (take_more flags i true h));
    }

-- a program ran to its end
reached_done : (source : Source) (t : ℕ) (whole : Scanned) (i : ℕ) (cells after : PlainCells) (flags : List Bool) (faults : List (Place × Trap)) → i < length flags → get_or flags i false ≡ false
    → ((w : World) → StandFor source cells w → Agree source (run_program source i t w) (Done after))
    → Reached source t whole i cells flags faults → Reached source t whole (i + 1) after flags faults
reached_done source t whole i cells after flags faults h unset walks r =
    let others : World → Scanned = programs_from source t (i + 1) (drop (i + 1) flags) in
    let e = run_ended source (run_program source i t r.world) after others (walks r.world r.stands) in
    record {
      world = e.world;
      stands = e.stands;
      so_far = r.so_far
          ∙ ap (λ l. joined (take i flags) (map (located source) faults) (programs_from source t i l r.world)) (flags_from flags i false h unset)
          ∙ ap (joined (take i flags) (map (located source) faults)) e.is
          ∙ joined-with_flag (take i flags) (map (located source) faults) false (others e.world)
          ∙ ap (λ b. joined (take i flags ++ b ∷ []) (map (located source) faults) (others e.world)) (sym unset)
          ∙ ap (λ l. joined l (map (located source) faults) (others e.world)) (sym (take_more flags i false h));
    }

-- a program had no fault
pub reached_next : (source : Source) (t : ℕ) (whole : Scanned) (i : ℕ) (cells after : PlainCells) (flags : List Bool) (faults : List (Place × Trap)) (flag : Bool) → i < length flags → get_or flags i flag ≡ flag
    → ((w : World) → StandFor source cells w → Agree source (run_by flag source i t w) (ended_by source None after))
    → Reached source t whole i cells flags faults → Reached source t whole (i + 1) after flags faults
reached_next source t whole i cells after flags faults true h set walks r = reached_skip source t whole i cells after flags faults h set walks r
reached_next source t whole i cells after flags faults false h unset walks r = reached_done source t whole i cells after flags faults h unset walks r

-- a program trapped: it is faulted from then on, and the fault is reported
trapped : (source : Source) (t : ℕ) (whole : Scanned) (i : ℕ) (cells after : PlainCells) (flags : List Bool) (faults : List (Place × Trap)) (place : Place) (trap : Trap) → i < length flags → get_or flags i false ≡ false
    → ((w : World) → StandFor source cells w → Agree source (run_program source i t w) (Trapped after (place_spot source place) trap))
    → Reached source t whole i cells flags faults → Reached source t whole (i + 1) after (slice_set flags i true) (faults ++ (place, trap) ∷ [])
trapped source t whole i cells after flags faults place trap h unset walks r =
    let others : World → Scanned = programs_from source t (i + 1) (drop (i + 1) flags) in
    let s = run_trapped source (run_program source i t r.world) after (place_spot source place) trap others (walks r.world r.stands) in
    let reported = map (located source) faults in
    let within : i < length (slice_set flags i true) = omega (arith, length-set {A = Bool}) in
    let front : take (i + 1) (slice_set flags i true) ≡ take i flags ++ true ∷ [] =
    take_more (slice_set flags i true) i true within ∙ ap (λ l. l ++ get_or (slice_set flags i true) i true ∷ []) (take-set flags i true) ∙ ap (λ b. take i flags ++ b ∷ []) (get_or-set_same flags i true true h) in
    let back : drop (i + 1) (slice_set flags i true) ≡ drop (i + 1) flags = drop-set-lt (i + 1) flags i true (omega arith) in
    record {
      world = s.world;
      stands = s.stands;
      so_far = r.so_far
          ∙ ap (λ l. joined (take i flags) reported (programs_from source t i l r.world)) (flags_from flags i false h unset)
          ∙ ap (joined (take i flags) reported) s.is
          ∙ joined-with_flag (take i flags) reported true (with_fault (place_spot source place) trap (others s.world))
          ∙ joined-with_fault (take i flags ++ true ∷ []) reported (place_spot source place) trap (others s.world)
          ∙ ap (λ l. joined (take i flags ++ true ∷ []) l (others s.world)) (sym (map-append (located source) faults ((place, trap) ∷ [])))
          ∙ ap (λ l. joined l (map (located source) (faults ++ (place, trap) ∷ [])) (others s.world)) (sym front)
          ∙ ap (λ l. joined (take (i + 1) (slice_set flags i true)) (map (located source) (faults ++ (place, trap) ∷ [])) (programs_from source t (i + 1) l s.world)) (sym back);
    }

-- a program trapped: it wasn't faulted before
pub reached_trap : (source : Source) (t : ℕ) (whole : Scanned) (i : ℕ) (cells after : PlainCells) (flags : List Bool) (faults : List (Place × Trap)) (flag : Bool) (fault : Place × Trap) → i < length flags → get_or flags i flag ≡ flag
    → ((w : World) → StandFor source cells w → Agree source (run_by flag source i t w) (ended_by source (Some fault) after))
    → Reached source t whole i cells flags faults → Reached source t whole (i + 1) after (slice_set flags i true) (faults ++ fault ∷ [])
reached_trap source t whole i cells after flags faults true fault h set walks r = absurd (walks r.world r.stands)
reached_trap source t whole i cells after flags faults false fault h unset walks r = trapped source t whole i cells after flags faults fault.0 fault.1 h unset walks r
