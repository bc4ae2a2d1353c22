-- The names that all units share are apart where no name is taken, and so are those that one unit declares.
use Rattle.std.proofs.Common.{◌≡◌, ◌∙◌, ap, sym, refl, ℕ, suc, Bool, true, false, cond, List, [], ◌∷◌, ◌++◌, append_assoc, append-nil, map, Option, Some, None}
use Rattle.std.proofs.lemmas.Bool.{or_parts, or_from}
use Rattle.std.proofs.lemmas.List.{map-append}
use Rattle.std.proofs.lemmas.List.Elements.{filter-append, filter_map-append}
use Rattle.std.specs.Prelude.{if◌then◌else◌, filter_map}
use Rattle.std.specs.List.{list_any, cons_option}
use Rattle.plant_types.specs.Words.{folded}
use Rattle.st_typing.specs.Units.{PlainPou, PlainUnit}
use Rattle.st_typing.specs.UnitPlace.{UnitPlace}
use Rattle.st_typing.specs.DeclaredNames.{PlainDeclared, declared_in, declared_words}
use Rattle.st_typing.specs.Shared.{Shared, global, pou, shared_name, shared_in, is_block}
use Rattle.st_typing.specs.Taken as taken
use Rattle.st_typing.specs.Taken.{is_standard, is_among, repeats, is_taken, or_place, first_taken, pou_words}
use Rattle.st_typing.specs.Scanned.{one_taken, first_taken_pou, first_taken_of, first_taken_after}
use Rattle.st_typing.specs.Asked.{repeats_after}
use Rattle.st_typing.specs.Known.{globals_misnamed, pou_misnamed}
use Rattle.st_typing.specs.StNamesFaults.{first_unit, is_earlier, earlier, first_misnamed}
use Rattle.st_typing.proofs.Scanned.{first_after}
use Rattle.st_typing.proofs.Twice.{repeats_first}
use Rattle.st_typing.specs.Faults.{AreTyped}
use Rattle.logic_source.specs.Pous.{pous_of, block_pous, pou_word}
use Rattle.logic_source.proofs.Picked.{picked_apart}

pub none_if : {A : Type 0} (b : Bool) (a : A) (o : Option A) → (if b then Some a else o) ≡ None → (b ≡ false) × (o ≡ None)
none_if true a o e = absurd (cc)
none_if false a o e = (refl, e)

pub none_or : (a b : Option UnitPlace) → or_place a b ≡ None → (a ≡ None) × (b ≡ None)
none_or (Some a) b e = absurd (cc)
none_or None b e = (refl, e)

none_earlier : (a b : Option UnitPlace) → earlier a b ≡ None → (a ≡ None) × (b ≡ None)
none_earlier None b e = (refl, e)
none_earlier (Some a) None e = absurd (cc)
none_earlier (Some a) (Some b) e = absurd (let parts = none_if (is_earlier b a) b (Some a) e in cc)

-- what holds where no unit is at fault: no name is taken, and no unit is misnamed
pub none_misnamed : (units : List PlainUnit) → first_misnamed units ≡ None → (first_taken_after 0 [] units ≡ None) × (first_unit (globals_misnamed units) (pou_misnamed units) 0 units ≡ None)
none_misnamed units e =
    let parts = none_earlier (first_taken units) (first_unit (globals_misnamed units) (pou_misnamed units) 0 units) e in
    (first_after units ∙ parts.0, parts.1)

-- no word of a list is taken where none of its two parts is
free_append : (before xs ys : List (List ℕ)) → one_taken before xs ≡ false → one_taken (before ++ xs) ys ≡ false → one_taken before (xs ++ ys) ≡ false
free_append before [] ys first second = ap (λ w. one_taken w ys) (sym (append-nil before)) ∙ second
free_append before (x ∷ xs) ys first second =
    let parts = or_parts (is_taken before x) (one_taken (before ++ x ∷ []) xs) first in
    let along : one_taken ((before ++ x ∷ []) ++ xs) ys ≡ false = ap (λ w. one_taken w ys) (append_assoc before (x ∷ []) xs) ∙ second in
    or_from (is_taken before x) (one_taken (before ++ x ∷ []) (xs ++ ys)) parts.0 (free_append (before ++ x ∷ []) xs ys parts.1 along)

free_pous : (source n : ℕ) (before : List (List ℕ)) (ps : List PlainPou) → first_taken_pou source n before ps ≡ None → one_taken before (map (λ p. folded p.name) ps) ≡ false
free_pous source n before [] e = refl
free_pous source n before (p ∷ ps) e =
    let parts = none_if (is_taken before (folded p.name)) (record { source = source; pou = Some n }) (first_taken_pou source (suc n) (before ++ folded p.name ∷ []) ps) e in
    or_from (is_taken before (folded p.name)) (one_taken (before ++ folded p.name ∷ []) (map (λ p. folded p.name) ps)) parts.0 (free_pous source (suc n) (before ++ folded p.name ∷ []) ps parts.1)

free_unit : (source : ℕ) (before : List (List ℕ)) (unit : PlainUnit) → first_taken_of source before unit ≡ None → one_taken before (taken.global_words unit ++ pou_words unit) ≡ false
free_unit source before unit e =
    let words = taken.global_words unit in
    let parts = none_if (one_taken before words) (record { source = source; pou = None }) (first_taken_pou source 0 (before ++ words) unit.pous) e in
    free_append before words (pou_words unit) parts.0 (free_pous source 0 (before ++ words) unit.pous parts.1)

-- the word of what is shared: its name in small letters
abbrev pub shared_word : Shared → List ℕ
shared_word s = folded (shared_name s)

words_of_globals : (ds : List PlainDeclared) → map shared_word (map global ds) ≡ declared_words ds
words_of_globals [] = refl
words_of_globals (d ∷ ds) = ap (λ ws. folded d.name ∷ ws) (words_of_globals ds)

words_of_pous : (ps : List PlainPou) → map shared_word (map pou ps) ≡ map (λ p. folded p.name) ps
words_of_pous [] = refl
words_of_pous (p ∷ ps) = ap (λ ws. folded p.name ∷ ws) (words_of_pous ps)

words_of : (unit : PlainUnit) (units : List PlainUnit) → map shared_word (shared_in (unit ∷ units)) ≡ (taken.global_words unit ++ pou_words unit) ++ map shared_word (shared_in units)
words_of unit units =
    let globals = map global (declared_in unit.globals) in
    let pous = map pou unit.pous in
    map-append shared_word (globals ++ pous) (shared_in units)
    ∙ ap (λ ws. ws ++ map shared_word (shared_in units)) (map-append shared_word globals pous ∙ (λ i. words_of_globals (declared_in unit.globals) i ++ words_of_pous unit.pous i))

free_units : (source : ℕ) (before : List (List ℕ)) (units : List PlainUnit) → first_taken_after source before units ≡ None → one_taken before (map shared_word (shared_in units)) ≡ false
free_units source before [] e = refl
free_units source before (unit ∷ units) e =
    let globals = taken.global_words unit in
    let pous = pou_words unit in
    let rest = map shared_word (shared_in units) in
    let parts = none_or (first_taken_of source before unit) (first_taken_after (suc source) (before ++ globals ++ pous) units) e in
    let later : one_taken (before ++ (globals ++ pous)) rest ≡ false = ap (λ w. one_taken w rest) (sym (append_assoc before globals pous)) ∙ free_units (suc source) (before ++ globals ++ pous) units parts.1 in
    ap (one_taken before) (words_of unit units) ∙ free_append before (globals ++ pous) rest (free_unit source before unit parts.0) later

free_standard : (before words : List (List ℕ)) → one_taken before words ≡ false → list_any is_standard words ≡ false
free_standard before [] e = refl
free_standard before (w ∷ ws) e =
    let parts = or_parts (is_taken before w) (one_taken (before ++ w ∷ []) ws) e in
    or_from (is_standard w) (list_any is_standard ws) (or_parts (is_standard w) (is_among before w) parts.0).0 (free_standard (before ++ w ∷ []) ws parts.1)

free_apart : (before words : List (List ℕ)) → one_taken before words ≡ false → repeats_after before words ≡ false
free_apart before [] e = refl
free_apart before (w ∷ ws) e =
    let parts = or_parts (is_taken before w) (one_taken (before ++ w ∷ []) ws) e in
    or_from (is_among before w) (repeats_after (before ++ w ∷ []) ws) (or_parts (is_standard w) (is_among before w) parts.0).1 (free_apart (before ++ w ∷ []) ws parts.1)

-- the words that all units share are apart
pub words_apart : (units : List PlainUnit) → first_misnamed units ≡ None → repeats (map shared_word (shared_in units)) ≡ false
words_apart units e =
    let words = map shared_word (shared_in units) in
    sym (repeats_first words) ∙ free_apart [] words (free_units 0 [] units (none_misnamed units e).0)

-- and none of them is that of a standard block
pub none_standard : (units : List PlainUnit) → first_misnamed units ≡ None → list_any is_standard (map shared_word (shared_in units)) ≡ false
none_standard units e = free_standard [] (map shared_word (shared_in units)) (free_units 0 [] units (none_misnamed units e).0)

-- the block that is shared
abbrev pub pick_block : Shared → Option PlainPou
pick_block (global d) = None
pick_block (pou p) = if is_block p.kind then Some p else None

no_blocks : (ds : List PlainDeclared) → filter_map pick_block (map global ds) ≡ []
no_blocks [] = refl
no_blocks (d ∷ ds) = no_blocks ds

block_is : (b : Bool) (p : PlainPou) (rest : List PlainPou) → cond b (p ∷ rest) rest ≡ cons_option (if b then Some p else None) rest
block_is true p rest = refl
block_is false p rest = refl

of_pous : (ps : List PlainPou) → block_pous ps ≡ filter_map pick_block (map pou ps)
of_pous [] = refl
of_pous (p ∷ ps) = block_is (is_block p.kind) p (block_pous ps) ∙ ap (cons_option (pick_block (pou p))) (of_pous ps)

-- the blocks are picked out of what is shared
pub blocks_picked : (units : List PlainUnit) → block_pous (pous_of units) ≡ filter_map pick_block (shared_in units)
blocks_picked [] = refl
blocks_picked (unit ∷ units) =
    let globals = map global (declared_in unit.globals) in
    let pous = map pou unit.pous in
    filter-append (λ p. is_block p.kind) unit.pous (pous_of units)
    ∙ (λ i. of_pous unit.pous i ++ blocks_picked units i)
    ∙ ap (λ ps. ps ++ filter_map pick_block (shared_in units)) (sym (filter_map-append pick_block globals pous ∙ ap (λ ps. ps ++ filter_map pick_block pous) (no_blocks (declared_in unit.globals))))
    ∙ sym (filter_map-append pick_block (globals ++ pous) (shared_in units))

block_at : (b : Bool) (p q : PlainPou) → (if b then Some p else None) ≡ Some q → pou_word q ≡ pou_word p
block_at true p q e = let is : p ≡ q = cc in ap pou_word (sym is)
block_at false p q e = absurd (cc)

block_named : (s : Shared) (q : PlainPou) → pick_block s ≡ Some q → pou_word q ≡ shared_word s
block_named (global d) q e = absurd (cc)
block_named (pou p) q e = block_at (is_block p.kind) p q e

-- no two blocks have one name
pub blocks_apart : (units : List PlainUnit) → first_misnamed units ≡ None → repeats (map pou_word (block_pous (pous_of units))) ≡ false
blocks_apart units e =
    ap (λ ps. repeats (map pou_word ps)) (blocks_picked units) ∙ picked_apart shared_word pou_word pick_block block_named (shared_in units) (words_apart units e)

-- no two blocks of well-formed units have one name
pub typed_blocks_apart : (units : List PlainUnit) → AreTyped units → repeats (map pou_word (block_pous (pous_of units))) ≡ false
typed_blocks_apart units typed = blocks_apart units typed.are_few.are_shallow.are_short.constant.are_apart.kinded.named.names
