-- A program's code names, beside the globals, only the program's own values and clocks, and no two programs have one of these in common.
use Rattle.std.proofs.Common.{◌≡◌, ◌∙◌, ap, sym, subst, ℕ, zero, suc, ◌+◌, ◌-◌, ◌<◌, ◌≤◌, Bool, true, false, List, [], ◌∷◌, length, length-append, ◌⊎◌, inl, inr, Some, slice_get, arith}
use Rattle.std.specs.Prelude.{◌&&◌, ◌||◌, nat_lt}
use borrow.Author.Tests.{ltb-true}
use Rattle.std.proofs.lemmas.Bool.{cases_lt, lt-ltb, and_parts, or_cases, or_left, or_right}
use Rattle.std.proofs.lemmas.List.{length-map}
use Rattle.std.proofs.lemmas.Option.{slice_get_within, same_Some}
use Rattle.plant_types.specs.Words.{folded}
use Rattle.logic_source.specs.declared.logic.Variable.{Variable}
use Rattle.logic_source.specs.declared.logic.BlockRef.{BlockRef}
use Rattle.logic_source.specs.declared.logic.BlockRef.TheVariants.{Declared}
use Rattle.logic_source.specs.Source.{PlainRoutine, Source, global_cells}
use Rattle.logic_source.specs.Names.{global_words}
use Rattle.logic_source.specs.Blocks.{AreBelow, HasItsTypes}
use Rattle.plant_types.specs.Values.{Path}
use Rattle.logic_source.specs.Layout.{ClockAt, values_rule, routine_values, clocks_rule, routine_clocks, global_values, program_values, cell_paths, all_clocks}
use Rattle.logic_source.specs.Seats.{StandsFrom, program_values_before, program_clocks_before, program_values_base, program_clocks_base, is_of_standard}
use Rattle.logic_source.proofs.Seats.{global_count, values_length, routine_length, clocks_length, routine_clocks_length, program_stands, program_clocks_stand}
use Rattle.logic_limits.specs.Limits.{KeepsSlots}
use Rattle.logic_walk.specs.declared.frame.Base.{Base}
use Rattle.logic_walk.specs.declared.frame.Frame.{Frame}
use Rattle.logic_frames.specs.Numbers.{HasAllNames}
use Rattle.logic_frames.specs.Frames.{IsFrames, program_base}
use Rattle.acc_vm.specs.Codes.{PlainCode}
use Rattle.vm_programs.specs.Slots.{Names, NamesClock}
use Rattle.vm_programs.specs.Within.{IsThere, fits, NamesFit, NamesOnly}
use Rattle.vm_programs.specs.Codes.{IsCodeOf, base_in, AllNamesFit}
use Rattle.vm_logic.specs.Bases.{AreBases, IsOwnValue, IsOwnClock}
use Rattle.vm_logic.specs.Runs.{NamesOwn, IsProgramCode}
use Rattle.vm_logic.proofs.Bases.{values_next, clocks_next}
use Rattle.vm_logic.proofs.Costs.{element}
use Rattle.vm_logic.proofs.Few.{cells_few}
use Rattle.vm_logic.proofs.Known.{both}
use Rattle.vm_logic.proofs.Within.{program_there}

-- a list behind so many other items
abbrev behind : {A : Type 0} → A → ℕ → List A → List A
behind d zero xs = xs
behind d (suc n) xs = d ∷ behind d n xs

behind_stands : {A : Type 0} (d : A) (n : ℕ) (xs : List A) → StandsFrom (behind d n xs) n xs
behind_stands d zero xs i a at = let same : 0 + i ≡ i = omega arith in ap (slice_get xs) same ∙ at
behind_stands d (suc n) xs i a at = let same : suc n + i ≡ suc (n + i) = omega arith in ap (slice_get (d ∷ behind d n xs)) same ∙ behind_stands d n xs i a at

-- what isn't one of the others is one of the list
behind_at : {A : Type 0} (d : A) (n : ℕ) (xs : List A) (k : ℕ) (a : A) → (d ≡ a → ⊥) → slice_get (behind d n xs) k ≡ Some a → (n ≤ k) × (k < n + length xs)
behind_at d zero xs k a ne at = let within = slice_get_within xs k a at in (omega arith, omega (arith, within))
behind_at d (suc n) xs zero a ne at = absurd (ne (same_Some d a at))
behind_at d (suc n) xs (suc k) a ne at = let rest = behind_at d n xs k a ne at in (omega (arith, rest.0), omega (arith, rest.1))

-- whether a number is below one, or from a second one on below a third
abbrev has_own : (below from to s : ℕ) → Bool
has_own below from to s = nat_lt s below || (nat_lt from (suc s) && nat_lt s to)

own_has : (below from to s : ℕ) → (from ≤ s) × (s < to) → has_own below from to s ≡ true
own_has below from to s h =
    or_right (nat_lt s below) (nat_lt from (suc s) && nat_lt s to) (both (nat_lt from (suc s)) (nat_lt s to) (lt-ltb from (suc s) (omega (arith, h.0))) (lt-ltb s to h.1))

has_parts : (below from to s : ℕ) → has_own below from to s ≡ true → (s < below) ⊎ ((from ≤ s) × (s < to))
has_parts below from to s h =
    elim (or_cases (nat_lt s below) (nat_lt from (suc s) && nat_lt s to) h) [
      | inl low ↦ inl (ltb-true s below low)
      | inr own ↦ (
          let p = and_parts (nat_lt from (suc s)) (nat_lt s to) own in
          let from_on = ltb-true from (suc s) p.0 in
          inr (omega (arith, from_on), ltb-true s to p.1))
    ]

-- no value is at the empty path, and none of the standard blocks is of a declared block type
no_word : (word : List ℕ) (p : Path) → ◌≡◌ {A = Path} [] (word ∷ p) → ⊥
no_word word p e = absurd (cc)

abbrev no_clock : ClockAt
no_clock = record { of = Declared 0; path = [] }

not_standard : (b : BlockRef) (p : Path) → is_of_standard b ≡ true → ◌≡◌ {A = ClockAt} no_clock (record { of = b; path = p }) → ⊥
not_standard b p standard e = let is : false ≡ true = ap (λ (c : ClockAt). is_of_standard c.of) e ∙ standard in absurd (cc)

-- each number of a list that stands in another is a number of this one
stands_within : {A : Type 0} (all : List A) (base : ℕ) (xs : List A) (s : ℕ) → StandsFrom all base xs → (base ≤ s) × (s < base + length xs) → s < length all
stands_within all base xs s stands h =
    let it = element xs (s - base) (omega (arith, h.0, h.1)) in
    let within = slice_get_within all (base + (s - base)) it.0 (stands (s - base) it.0 it.1) in
    omega (arith, within, h.0)

globals_within : (source : Source) (j : ℕ) → j < global_cells source → j < length (cell_paths source)
globals_within source j less =
    let values = global_count source in
    let all = length-append (global_values source) (program_values source.blocks source.programs) in
    omega (arith, less, values, all)

module _ (source : Source) (order : List ℕ) (below : AreBelow source.blocks order) (frames : List Frame) (are : IsFrames source order frames) (types : HasItsTypes source) (names : HasAllNames source)
    (n : ℕ) (p : PlainRoutine) (at : slice_get source.programs n ≡ Some p) where
  abbrev own_values : List Path
  own_values = values_rule (routine_values source.blocks) p (folded p.name ∷ [])

  abbrev own_clocks : List ClockAt
  own_clocks = clocks_rule (routine_clocks source.blocks) p (folded p.name ∷ [])

  abbrev has_value : ℕ → Bool
  has_value = has_own (global_cells source) (program_values_base source n) (program_values_base source (n + 1))

  abbrev has_clock : ℕ → Bool
  has_clock = has_own 0 (program_clocks_base source n) (program_clocks_base source (n + 1))

  many_values : program_values_base source (n + 1) ≡ program_values_base source n + length own_values
  many_values = values_next source n p at ∙ ap (λ m. program_values_base source n + m) (values_length (routine_values source.blocks) (routine_length source.blocks) p [] (folded p.name ∷ []))

  many_clocks : program_clocks_base source (n + 1) ≡ program_clocks_base source n + length own_clocks
  many_clocks = clocks_next source n p at ∙ ap (λ m. program_clocks_base source n + m) (clocks_length (routine_clocks source.blocks) (routine_clocks_length source.blocks) p.instances [] (folded p.name ∷ []))

  value_there : (k : ℕ) (word : List ℕ) (q : Path) → slice_get (behind [] (program_values_base source n) own_values) k ≡ Some (word ∷ q) → has_value k ≡ true
  value_there k word q here =
      let within = behind_at [] (program_values_base source n) own_values k (word ∷ q) (no_word word q) here in
      own_has (global_cells source) (program_values_base source n) (program_values_base source (n + 1)) k (within.0, omega (arith, within.1, many_values))

  clock_there : (k : ℕ) (b : BlockRef) (q : Path) → is_of_standard b ≡ true → slice_get (behind no_clock (program_clocks_base source n) own_clocks) k ≡ Some (record { of = b; path = q }) → has_clock k ≡ true
  clock_there k b q standard here =
      let within = behind_at no_clock (program_clocks_base source n) own_clocks k (record { of = b; path = q }) (not_standard b q standard) here in
      own_has 0 (program_clocks_base source n) (program_clocks_base source (n + 1)) k (within.0, omega (arith, within.1, many_clocks))

  global_there : (j : ℕ) → j < global_cells source → has_value j ≡ true
  global_there j less = or_left (nat_lt j (global_cells source)) (nat_lt (program_values_base source n) (suc j) && nat_lt j (program_values_base source (n + 1))) (lt-ltb j (global_cells source) less)

  -- what the program's frame names is there, where the globals are, and its own values and clocks
  own_there : IsThere has_value has_clock (global_cells source) frames (length order + n) (program_base source n)
  own_there =
      program_there source order below (behind [] (program_values_base source n) own_values) (behind no_clock (program_clocks_base source n) own_clocks) has_value has_clock value_there clock_there global_there
      frames are types names n p at (folded p.name ∷ []) (program_base source n) (behind_stands [] (program_values_base source n) own_values) (behind_stands no_clock (program_clocks_base source n) own_clocks)

  -- where the source keeps the limit on slots, all that it names are numbers of 32 bits
  pub names_fit : KeepsSlots source → NamesFit (global_cells source) frames (length order + n) (program_base source n)
  names_fit keeps =
      let few = cells_few source keeps in
      let value_fits : (k : ℕ) (word : List ℕ) (q : Path) → slice_get (behind [] (program_values_base source n) own_values) k ≡ Some (word ∷ q) → fits k ≡ true =
      λ k word q here.
      let within = stands_within (cell_paths source) (program_values_base source n) own_values k (program_stands source n p at) (behind_at [] (program_values_base source n) own_values k (word ∷ q) (no_word word q) here) in
      lt-ltb k 4294967296 (omega (arith, within, few.0))
      in
      let clock_fits : (k : ℕ) (b : BlockRef) (q : Path) → is_of_standard b ≡ true → slice_get (behind no_clock (program_clocks_base source n) own_clocks) k ≡ Some (record { of = b; path = q }) → fits k ≡ true =
      λ k b q standard here.
      let within = stands_within (all_clocks source) (program_clocks_base source n) own_clocks k (program_clocks_stand source n p at)
      (behind_at no_clock (program_clocks_base source n) own_clocks k (record { of = b; path = q }) (not_standard b q standard) here) in
      lt-ltb k 4294967296 (omega (arith, within, few.1))
      in
      let global_fits : (j : ℕ) → j < global_cells source → fits j ≡ true = λ j less. let within = globals_within source j less in lt-ltb j 4294967296 (omega (arith, within, few.0)) in
      program_there source order below (behind [] (program_values_base source n) own_values) (behind no_clock (program_clocks_base source n) own_clocks) fits fits value_fits clock_fits global_fits
      frames are types names n p at (folded p.name ∷ []) (program_base source n) (behind_stands [] (program_values_base source n) own_values) (behind_stands no_clock (program_clocks_base source n) own_clocks)

  module _ (cost : ℕ) (code : PlainCode) (is : IsCodeOf frames (global_cells source) (length order + n) (program_base source n) cost code) where
    names_only : NamesOnly has_value has_clock code
    names_only = is.within has_value has_clock own_there

    -- beside the globals the program's code names only what is the program's own
    pub names_own : NamesOwn source n code.instrs
    names_own = record {
      values = λ s named above. elim (has_parts (global_cells source) (program_values_base source n) (program_values_base source (n + 1)) s (names_only.values s named)) [
        | inl low ↦ absurd (omega (arith, low, above))
        | inr own ↦ own
      ];
      clocks = λ k named. elim (has_parts 0 (program_clocks_base source n) (program_clocks_base source (n + 1)) k (names_only.clocks k named)) [
        | inl low ↦ absurd (omega (arith, low))
        | inr own ↦ own
      ];
    }

    -- cells of the source have what it names
    pub code_within : (code.values ≤ length (cell_paths source)) × (code.clocks ≤ length (all_clocks source))
    code_within = (
      names_only.values_end (length (cell_paths source)) (λ s has. elim (has_parts (global_cells source) (program_values_base source n) (program_values_base source (n + 1)) s has) [
        | inl low ↦ globals_within source s low
        | inr own ↦ stands_within (cell_paths source) (program_values_base source n) own_values s (program_stands source n p at) (own.0, omega (arith, own.1, many_values))
      ]),
      names_only.clocks_end (length (all_clocks source)) (λ k has. elim (has_parts 0 (program_clocks_base source n) (program_clocks_base source (n + 1)) k has) [
        | inl low ↦ absurd (omega (arith, low))
        | inr own ↦ stands_within (all_clocks source) (program_clocks_base source n) own_clocks k (program_clocks_stand source n p at) (own.0, omega (arith, own.1, many_clocks))
      ]),
    )

-- by the rows of where programs begin, cells of the source have what a program's code names
pub code_there : (source : Source) (order : List ℕ) → AreBelow source.blocks order → (frames : List Frame) → IsFrames source order frames → HasItsTypes source → HasAllNames source
    → (values stood : List ℕ) → AreBases (program_values_base source) (length source.programs) values → AreBases (program_clocks_base source) (length source.programs) stood
    → (n : ℕ) → n < length source.programs → (cost : ℕ) (code : PlainCode) → IsCodeOf frames (global_cells source) (length order + n) (base_in values stood n) cost code
    → (code.values ≤ length (cell_paths source)) × (code.clocks ≤ length (all_clocks source))
code_there source order below frames are types names values stood values_begin clocks_begin n less cost code is =
    let p = element source.programs n less in
    let values_are = values_begin.each n (omega (arith, less)) in
    let clocks_are = clocks_begin.each n (omega (arith, less)) in
    code_within source order below frames are types names n p.0 p.1 cost code
    (subst (λ (base : Base). IsCodeOf frames (global_cells source) (length order + n) base cost code) (λ i. record { values = values_are i; clocks = clocks_are i }) is)

-- by the rows, all that programs name are numbers of 32 bits
pub all_names_fit : (source : Source) (order : List ℕ) → AreBelow source.blocks order → (frames : List Frame) → IsFrames source order frames → HasItsTypes source → HasAllNames source → KeepsSlots source
    → (values stood costs : List ℕ) → AreBases (program_values_base source) (length source.programs) values → AreBases (program_clocks_base source) (length source.programs) stood → length costs ≡ length source.programs
    → AllNamesFit frames (global_cells source) (length order) values stood costs
all_names_fit source order below frames are types names keeps values stood costs values_begin clocks_begin many n less =
    let p = element source.programs n (omega (arith, less, many)) in
    let values_are = values_begin.each n (omega (arith, less, many)) in
    let clocks_are = clocks_begin.each n (omega (arith, less, many)) in
    let base_is : program_base source n ≡ base_in values stood n = λ i. record { values = sym values_are i; clocks = sym clocks_are i } in
    subst (NamesFit (global_cells source) frames (length order + n)) base_is (names_fit source order below frames are types names n p.0 p.1 keeps)

-- programs lie one behind another
values_rise : (blocks ps : List PlainRoutine) (j k : ℕ) → j ≤ k → program_values_before blocks ps j ≤ program_values_before blocks ps k
values_rise blocks [] j k h = omega arith
values_rise blocks (p ∷ ps) zero k h = omega arith
values_rise blocks (p ∷ ps) (suc j) zero h = absurd (omega arith)
values_rise blocks (p ∷ ps) (suc j) (suc k) h = let rest = values_rise blocks ps j k (omega (arith, h)) in omega (arith, rest)

clocks_rise : (blocks ps : List PlainRoutine) (j k : ℕ) → j ≤ k → program_clocks_before blocks ps j ≤ program_clocks_before blocks ps k
clocks_rise blocks [] j k h = omega arith
clocks_rise blocks (p ∷ ps) zero k h = omega arith
clocks_rise blocks (p ∷ ps) (suc j) zero h = absurd (omega arith)
clocks_rise blocks (p ∷ ps) (suc j) (suc k) h = let rest = clocks_rise blocks ps j k (omega (arith, h)) in omega (arith, rest)

-- where stretches lie one behind another, a number lies in one alone
one_stretch : (base : ℕ → ℕ) → ((j k : ℕ) → j ≤ k → base j ≤ base k) → (p q s : ℕ) → (base p ≤ s) × (s < base (p + 1)) → (base q ≤ s) × (s < base (q + 1)) → p ≡ q
one_stretch base rise p q s one other =
    elim (cases_lt p q) [
      | inl before ↦ (let far = rise (p + 1) q (omega (arith, before)) in absurd (omega (arith, far, one.1, other.0)))
      | inr from ↦ (
          elim (cases_lt q p) [
            | inl after ↦ (let far = rise (q + 1) p (omega (arith, after)) in absurd (omega (arith, far, other.1, one.0)))
            | inr to ↦ omega (arith, from, to)
          ])
    ]

one_owner : (source : Source) (p q s : ℕ) → IsOwnValue source p s → IsOwnValue source q s → p ≡ q
one_owner source p q s one other =
    one_stretch (program_values_base source) (λ j k h. let rest = values_rise source.blocks source.programs j k h in omega (arith, rest)) p q s one other

one_clock_owner : (source : Source) (p q k : ℕ) → IsOwnClock source p k → IsOwnClock source q k → p ≡ q
one_clock_owner source p q k one other = one_stretch (program_clocks_base source) (λ i j h. clocks_rise source.blocks source.programs i j h) p q k one other

-- no two programs name the same value beside the globals, and no two the same clock
pub no_shared_value : (source : Source) (p q s : ℕ) (a b : PlainCode) → IsProgramCode source p a → IsProgramCode source q b → global_cells source ≤ s → Names a.instrs s → Names b.instrs s → p ≡ q
no_shared_value source p q s a b one other above named also = one_owner source p q s (one.own.values s named above) (other.own.values s also above)

pub no_shared_clock : (source : Source) (p q k : ℕ) (a b : PlainCode) → IsProgramCode source p a → IsProgramCode source q b → NamesClock a.instrs k → NamesClock b.instrs k → p ≡ q
no_shared_clock source p q k a b one other named also = one_clock_owner source p q k (one.own.clocks k named) (other.own.clocks k also)
