-- Cells that were carried stand for the world that goes over.
use Rattle.std.proofs.Common.{◌≡◌, ◌∙◌, ap, sym, refl, arith, ℕ, ℤ, zero, suc, ◌<◌, true, Bool, List, [], ◌∷◌, length, map, get_or, slice_get, Option, Some, None}
use Rattle.std.specs.Prelude.{if◌then◌else◌}
use Rattle.std.proofs.lemmas.List.{length-map}
use Rattle.std.proofs.lemmas.Option.{get_or_from_slice_get}
use Rattle.logic_source.specs.Source.{Source}
use Rattle.plant_types.specs.Values.{Path}
use Rattle.logic_source.specs.Worlds.{World, opening}
use Rattle.logic_source.specs.declared.logic.BlockRef.{BlockRef}
use Rattle.logic_source.specs.declared.logic.BlockRef.TheVariants.{Ton, Tof, RTrig, Declared}
use Rattle.logic_source.specs.Layout.{ClockAt, IsDistinctlyNamed, cell_paths, all_clocks}
use Rattle.logic_source.specs.Ranges.{KindAt, all_kinds}
use Rattle.logic_source.specs.Carried.{same_standard, carried}
use Rattle.logic_source.proofs.KindPaths.{path, paths_all}
use Rattle.logic_cells.specs.declared.clock.Clock.{Clock}
use Rattle.logic_cells.specs.Clocks.{clock_of}
use Rattle.logic_frames.specs.Stands.{standard_of, clock_in}
use Rattle.logic_carry.specs.declared.lists.ValueAt.{ValueAt}
use Rattle.logic_carry.specs.declared.lists.StandardAt.{StandardAt}
use Rattle.logic_carry.specs.Paths.{AreNumbered, Respects, TellsWords}
use Rattle.logic_carry.specs.Lists.{AreValues, AreStandards}
use Rattle.logic_carry.specs.Keeping.{KeepsValue, KeepsCalls, ArePlaces, value_path, standard_path, kept_value, kept_call, carried_one, AreCarried}
use Rattle.logic_carry.proofs.Placing.{mapped_at, value_kept, call_kept}
use Rattle.logic_carry.proofs.Keeping.{Listing, among_at, value_there, keeps_some, keeps_none}
use Rattle.logic_carry.proofs.Once.{Standing, standard_there, place_most, standing_most, values_once, standards_once}
use Rattle.logic_carry.proofs.Calls.{calls_some, calls_none}

-- two lists with the same at each place are one
pub same_lists : {A : Type 0} (xs ys : List A) → length xs ≡ length ys → ((m : ℕ) → m < length ys → slice_get xs m ≡ slice_get ys m) → xs ≡ ys
same_lists [] [] long each = refl
same_lists [] (y ∷ ys) long each = absurd (omega (arith, long))
same_lists (x ∷ xs) [] long each = absurd (omega (arith, long))
same_lists (x ∷ xs) (y ∷ ys) long each =
    let first : Some x ≡ Some y = each 0 (omega arith) in
    let head : x ≡ y = cc in
    let rest = same_lists xs ys (omega (arith, long)) (λ m less. each (suc m) (omega (arith, less))) in
    λ i. head i ∷ rest i

-- what stands within a list
pub stands_there : {A : Type 0} (xs : List A) (m : ℕ) → m < length xs → (x : A) × (slice_get xs m ≡ Some x)
stands_there [] m less = absurd (omega (arith, less))
stands_there (x ∷ xs) zero less = (x, refl)
stands_there (x ∷ xs) (suc m) less = stands_there xs m (omega (arith, less))

-- one standard block
one_standard : (a b : BlockRef) → same_standard a b ≡ true → standard_of a ≡ standard_of b
one_standard Ton Ton is = refl
one_standard Tof Tof is = refl
one_standard RTrig RTrig is = refl
one_standard Ton Tof is = absurd (cc)
one_standard Ton RTrig is = absurd (cc)
one_standard Ton (Declared n) is = absurd (cc)
one_standard Tof Ton is = absurd (cc)
one_standard Tof RTrig is = absurd (cc)
one_standard Tof (Declared n) is = absurd (cc)
one_standard RTrig Ton is = absurd (cc)
one_standard RTrig Tof is = absurd (cc)
one_standard RTrig (Declared n) is = absurd (cc)
one_standard (Declared n) Ton is = absurd (cc)
one_standard (Declared n) Tof is = absurd (cc)
one_standard (Declared n) RTrig is = absurd (cc)
one_standard (Declared n) (Declared m) is = absurd (cc)

module _ (words : List ℕ → Option ℕ) (numbers : ℕ → Option ℕ) (count : ℕ) (respects : Respects words) (tells : TellsWords words) (are : AreNumbered numbers count) (old new : Source) (named : IsDistinctlyNamed old) (named' : IsDistinctlyNamed new) (w : World) where
  module _ (vs ws : List ValueAt) (vs_are : AreValues words numbers vs (all_kinds old)) (ws_are : AreValues words numbers ws (all_kinds new)) where
    -- what stands for a value in a world
    value_of : (source : Source) (f : Path → ℤ) (m : ℕ) (k : KindAt) → slice_get (all_kinds source) m ≡ Some k → slice_get (map f (cell_paths source)) m ≡ Some (f k.path)
    value_of source f m k at = mapped_at f (cell_paths source) m k.path (ap (λ ps. slice_get ps m) (sym (paths_all source)) ∙ mapped_at path (all_kinds source) m k at)

    by_kept : (m : ℕ) (k : KindAt) (v : ValueAt) → slice_get (all_kinds new) m ≡ Some k → Listing words numbers v k → (o : Option ℕ) → KeepsValue vs v o
        → carried_one (map w.values (cell_paths old)) ((opening new).values k.path) o ≡ (carried old new w).values k.path
    by_kept m k v at is None keeps =
        let anew = keeps_none words numbers count respects tells are old new named named' vs vs_are v k is (among_at (all_kinds new) m k at) keeps in
        ap (λ (b : Bool). if b then w.values k.path else (opening new).values k.path) (sym anew)
    by_kept m k v at is (Some j) keeps =
        let some = keeps_some words numbers count respects tells are old new named named' vs vs_are v k is (among_at (all_kinds new) m k at) j keeps in
        get_or_from_slice_get (map w.values (cell_paths old)) j (w.values some.0.path) ((opening new).values k.path) (value_of old w.values j some.0 some.1)
        ∙ ap w.values some.2 ∙ ap (λ (b : Bool). if b then w.values k.path else (opening new).values k.path) (sym some.3)

    pub values_carried : (places : List (Option ℕ)) (after : List ℤ) → ArePlaces (map value_path vs) (length vs) places → count < length places
        → AreCarried (map w.values (cell_paths old)) (map (opening new).values (cell_paths new)) (map (kept_value vs places) ws) (length (map (opening new).values (cell_paths new))) after → after ≡ map (carried old new w).values (cell_paths new)
    values_carried places after placed small carries =
        let f = (carried old new w).values in
        let paths = cell_paths new in
        let here = map (opening new).values paths in
        let once = values_once words numbers count tells are old named vs vs_are in
        let as_many : length here ≡ length paths = length-map paths (opening new).values in
        let count_is : length (all_kinds new) ≡ length paths = sym (length-map (all_kinds new) path) ∙ ap length (paths_all new) in
        let many : length (map f paths) ≡ length paths = length-map paths f in
        same_lists after (map f paths) (carries.long ∙ as_many ∙ sym many) (λ m less.
        let k = stands_there (all_kinds new) m (omega (arith, less, many, count_is)) in
        let v = value_there words numbers ws (all_kinds new) m k.0 ws_are k.1 in
        let most = place_most words numbers count are v.0.path k.0.path k.0.bounds v.2.at in
        let keeps = value_kept vs places v.0 placed once (omega (arith, most, small)) in
        let here_is : slice_get here m ≡ Some ((opening new).values k.0.path) = value_of new (opening new).values m k.0 k.1 in
        let number : get_or (map (kept_value vs places) ws) m None ≡ kept_value vs places v.0 = get_or_from_slice_get (map (kept_value vs places) ws) m (kept_value vs places v.0) None (mapped_at (kept_value vs places) ws m v.0 v.1) in
        carries.each m ((opening new).values k.0.path) (omega (arith, less, many, as_many)) here_is
        ∙ ap (λ (o : Option ℕ). Some (carried_one (map w.values (cell_paths old)) ((opening new).values k.0.path) o)) number
        ∙ ap Some (by_kept m k.0 v.0 k.1 v.2 (kept_value vs places v.0) keeps)
        ∙ sym (value_of new f m k.0 k.1))

  module _ (ss ts : List StandardAt) (ss_are : AreStandards words numbers ss (all_clocks old)) (ts_are : AreStandards words numbers ts (all_clocks new)) where
    by_calls : (m : ℕ) (c : ClockAt) (t : StandardAt) → slice_get (all_clocks new) m ≡ Some c → Standing words numbers t c → (o : Option ℕ) → KeepsCalls ss t o
        → carried_one (map (clock_in w) (all_clocks old)) (clock_in (opening new) c) o ≡ clock_in (carried old new w) c
    by_calls m c t at is None keeps =
        let anew = calls_none words numbers count respects tells are old new named named' ss ss_are t c is m at keeps in
        ap (λ (b : Bool). clock_of (standard_of c.of) (if b then w.calls c.path else (opening new).calls c.path)) (sym anew)
    by_calls m c t at is (Some j) keeps =
        let some = calls_some words numbers count respects tells are old new named named' ss ss_are t c is m at j keeps in
        get_or_from_slice_get (map (clock_in w) (all_clocks old)) j (clock_in w some.0) (clock_in (opening new) c) (mapped_at (clock_in w) (all_clocks old) j some.0 some.1)
        ∙ (λ i. clock_of (one_standard some.0.of c.of some.3 i) (w.calls (some.2 i)))
        ∙ ap (λ (b : Bool). clock_of (standard_of c.of) (if b then w.calls c.path else (opening new).calls c.path)) (sym some.4)

    pub clocks_carried : (places : List (Option ℕ)) (after : List Clock) → ArePlaces (map standard_path ss) (length ss) places → count < length places
        → AreCarried (map (clock_in w) (all_clocks old)) (map (clock_in (opening new)) (all_clocks new)) (map (kept_call ss places) ts) (length (map (clock_in (opening new)) (all_clocks new))) after → after ≡ map (clock_in (carried old new w)) (all_clocks new)
    clocks_carried places after placed small carries =
        let clocks = all_clocks new in
        let here = map (clock_in (opening new)) clocks in
        let once = standards_once words numbers count tells are old named ss ss_are in
        let as_many : length here ≡ length clocks = length-map clocks (clock_in (opening new)) in
        let many : length (map (clock_in (carried old new w)) clocks) ≡ length clocks = length-map clocks (clock_in (carried old new w)) in
        same_lists after (map (clock_in (carried old new w)) clocks) (carries.long ∙ as_many ∙ sym many) (λ m less.
        let c = stands_there clocks m (omega (arith, less, many)) in
        let t = standard_there words numbers ts clocks m c.0 ts_are c.1 in
        let most = standing_most words numbers count are t.0 c.0 t.2 in
        let keeps = call_kept ss places t.0 placed once (omega (arith, most, small)) in
        let here_is : slice_get here m ≡ Some (clock_in (opening new) c.0) = mapped_at (clock_in (opening new)) clocks m c.0 c.1 in
        let number : get_or (map (kept_call ss places) ts) m None ≡ kept_call ss places t.0 = get_or_from_slice_get (map (kept_call ss places) ts) m (kept_call ss places t.0) None (mapped_at (kept_call ss places) ts m t.0 t.1) in
        carries.each m (clock_in (opening new) c.0) (omega (arith, less, many, as_many)) here_is
        ∙ ap (λ (o : Option ℕ). Some (carried_one (map (clock_in w) (all_clocks old)) (clock_in (opening new) c.0) o)) number
        ∙ ap Some (by_calls m c.0 t.0 c.1 t.2 (kept_call ss places t.0) keeps)
        ∙ sym (mapped_at (clock_in (carried old new w)) clocks m c.0 c.1))
