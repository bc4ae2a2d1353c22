-- Sound sources are small, and their globals are found by name.
use Rattle.std.proofs.Common.{◌≡◌, ◌∙◌, ◌≤◌, ◌<◌, ◌+◌, ap, sym, subst, refl, ℕ, zero, suc, Bool, true, false, List, [], ◌∷◌, Some, None, slice_get, length, length-append, get_or, inl, inr, cond, nat_lt, arith}
use Rattle.std.specs.Prelude.{not, if◌then◌else◌}
use Rattle.std.specs.List.{list_any, position, position_or_len, sum_by}
use Rattle.std.specs.Str.{bytes_eq}
use Rattle.std.specs.Cmp.Lexicographic.{bytes_decides}
use Rattle.std.proofs.lemmas.Bool.{or_parts, cases_Bool, both_ways, lt-ltb, ltb-false}
use Rattle.std.proofs.lemmas.List.{length-map, get_or-map}
use Rattle.std.proofs.lemmas.List.Elements.{filter-append}
use Rattle.std.proofs.lemmas.List.Folds.{list_any_at}
use Rattle.std.proofs.lemmas.List.Sums.{position_or_len_is}
use Rattle.std.proofs.lemmas.Option.{slice_get_within, get_or_from_slice_get}
use Rattle.plant_types.specs.Words.{folded}
use Rattle.logic_source.specs.StParserUnits.{PlainPou, PlainUnit}
use Rattle.logic_source.specs.Shared.{is_block}
use Rattle.logic_source.specs.Taken.{is_among, repeats}
use Rattle.logic_source.proofs.Entries.{turned}
use Rattle.logic_source.specs.Faults as faults
use Rattle.logic_source.specs.declared.logic.Variable.{Variable}
use Rattle.logic_source.specs.Source.{Source, global_cells}
use Rattle.logic_source.specs.Pous.{pous_of, program_pous, block_names}
use Rattle.logic_source.specs.Units.{routine_of, source_in}
use Rattle.logic_source.specs.Names.{global_words, find_global}
use Rattle.logic_source.specs.Blocks.{HasItsTypes}
use Rattle.logic_source.specs.Layout.{IsDistinctlyNamed}
use Rattle.logic_source.proofs.Distinct.{typed_distinct}
use Rattle.logic_source.proofs.Knowns.{typed_types}
use Rattle.logic_limits.specs.Counts.{routine_slots, type_slots}
use Rattle.vm_logic.specs.Sound.{IsSound}

-- the declared names of a sound source are distinct
pub sound_named : (source : Source) → IsSound source → IsDistinctlyNamed source
sound_named source sound = subst IsDistinctlyNamed (sym sound.are_theirs) (typed_distinct sound.units sound.typed)

-- it has the block types of all its instances
pub sound_types : (source : Source) → IsSound source → HasItsTypes source
sound_types source sound = subst HasItsTypes (sym sound.are_theirs) (typed_types sound.units sound.typed)

pub few_globals : (source : Source) → IsSound source → length source.globals ≤ 65536
few_globals source sound =
    let slots : global_cells source + sum_by (routine_slots (type_slots source.blocks)) source.programs ≤ 65536 = sound.limits.slots in
    omega (arith, slots)

pub few_global_cells : (source : Source) → IsSound source → global_cells source ≤ 65536
few_global_cells source sound =
    let slots : global_cells source + sum_by (routine_slots (type_slots source.blocks)) source.programs ≤ 65536 = sound.limits.slots in
    omega (arith, slots)

count_is : (b : Bool) (p : PlainPou) (n : ℕ) (rest : List PlainPou) → n ≡ length rest → (if b then n else 1 + n) ≡ length (cond (not b) (p ∷ rest) rest)
count_is true p n rest e = e
count_is false p n rest e = omega (arith, e)

counted_among : (ps : List PlainPou) → faults.programs_among ps ≡ length (program_pous ps)
counted_among [] = refl
counted_among (p ∷ ps) = count_is (is_block p.kind) p (faults.programs_among ps) (program_pous ps) (counted_among ps)

-- the programs that are counted are those of the source
programs_counted : (units : List PlainUnit) → faults.program_count units ≡ length (program_pous (pous_of units))
programs_counted [] = refl
programs_counted (unit ∷ units) =
    (λ i. counted_among unit.pous i + programs_counted units i)
    ∙ sym (ap length (filter-append (λ (p : PlainPou). not (is_block p.kind)) unit.pous (pous_of units)) ∙ length-append (program_pous unit.pous) (program_pous (pous_of units)))

few_in : (units : List PlainUnit) → faults.too_many units ≡ false → length (source_in units).programs ≤ 512
few_in units e =
    let within = ltb-false 512 (faults.program_count units) e in
    let many = length-map (program_pous (pous_of units)) (routine_of (block_names units)) in
    let counted = programs_counted units in
    omega (arith, within, many, counted)

pub few_programs : (source : Source) → IsSound source → length source.programs ≤ 512
few_programs source sound = subst (λ (s : Source). length s.programs ≤ 512) (sym sound.are_theirs) (few_in sound.units sound.typed.are_few.few)

apart : (words : List (List ℕ)) (k i : ℕ) (d : List ℕ) → repeats words ≡ false → k < i → i < length words → bytes_eq (get_or words k d) (get_or words i d) ≡ false
apart [] k i d once before within = absurd (omega arith)
apart (w ∷ ws) k zero d once before within = absurd (omega arith)
apart (w ∷ ws) zero (suc i) d once before within =
    elim (cases_Bool (bytes_eq w (get_or ws i d))) [
      | inl is ↦ absurd (both_ways (list_any (bytes_eq w) ws) (or_parts (is_among ws w) (repeats ws) once).0 (list_any_at (bytes_eq w) ws i d (omega arith) is))
      | inr isnt ↦ isnt
    ]
apart (w ∷ ws) (suc k) (suc i) d once before within = apart ws k i d (or_parts (is_among ws w) (repeats ws) once).1 (omega arith) (omega arith)

abbrev word : Variable → List ℕ
word g = folded g.name

-- a word that stands in a list of words in which none stands twice is found where it stands
pub word_found : (words : List (List ℕ)) (i : ℕ) (x : List ℕ) → repeats words ≡ false → i < length words → get_or words i x ≡ x → position (bytes_eq x) words ≡ Some i
word_found words i x once within here =
    let is : bytes_eq x (get_or words i x) ≡ true = (bytes_decides x (get_or words i x)).1 (sym here) in
    let earlier : (k : ℕ) → k < i → bytes_eq x (get_or words k x) ≡ false =
    λ k before. turned x (get_or words k x) ∙ subst (λ y. bytes_eq (get_or words k x) y ≡ false) here (apart words k i x once before within)
    in
    let first : position_or_len (bytes_eq x) words ≡ i = position_or_len_is (bytes_eq x) words i x (omega (arith, within)) earlier (λ _. is) in
    subst (λ n. cond (nat_lt n (length words)) (Some n) None ≡ Some i) (sym first) (rw (lt-ltb i (length words) within) refl)

pub found_again : (source : Source) (i : ℕ) (g : Variable) → IsSound source → slice_get source.globals i ≡ Some g → find_global source.globals g.name ≡ Some i
found_again source i g sound at =
    let words = global_words source.globals in
    let x = folded g.name in
    let inside = slice_get_within source.globals i g at in
    let within : i < length words = subst (λ n. i < n) (sym (length-map source.globals word)) inside in
    let here : get_or words i x ≡ x = get_or-map word source.globals i g x inside ∙ ap word (get_or_from_slice_get source.globals i g g at) in
    word_found words i x (sound_named source sound).globals_apart within here
