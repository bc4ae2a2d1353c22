-- Words that stand in a list twice.
use Rattle.std.proofs.Common.{◌≡◌, ◌∙◌, ap, sym, refl, ℕ, Bool, true, false, List, [], ◌∷◌, ◌++◌, map, not, Option, Some, None}
use Rattle.std.proofs.lemmas.List.{map_push}
use Rattle.std.specs.Prelude.{◌||◌, if◌then◌else◌}
use Rattle.std.specs.List.{list_any}
use Rattle.std.specs.Str.{bytes_eq}
use Rattle.std.proofs.lemmas.List.Folds.{list_any-append}
use Rattle.std.proofs.lemmas.Str.Ascii.{lowercase-lowercase}
use Rattle.plant_types.specs.Words.{folded, same_word}
use Rattle.base_words.specs.Names as names
use Rattle.st_names.specs.Taken.{is_among, repeats, is_standard, global_words, pou_words}
use Rattle.st_names.specs.Scanned.{one_taken, first_taken_pou, first_taken_of}
use Rattle.st_names.specs.Asked.{repeats_after, Added, AddedPous}
use Rattle.st_names.specs.declared.place.UnitPlace.{UnitPlace}
use Rattle.st_parser.specs.Units.{PlainUnit}
use Rattle.st_names.proofs.Entries.{turned}

-- a name is among names where its word is among their words
pub among_folded : (known : List (List ℕ)) (name : List ℕ) → names.is_among known name ≡ is_among (map folded known) (folded name)
among_folded [] name = refl
among_folded (n ∷ ns) name = ap (λ b. same_word name n || b) (among_folded ns name)

abbrev meets : List (List ℕ) → List (List ℕ) → Bool
meets earlier words = list_any (is_among earlier) words

nothing : (b : Bool) → (b || false) ≡ b
nothing true = refl
nothing false = refl

among_push : (earlier : List (List ℕ)) (w x : List ℕ) → is_among (earlier ++ w ∷ []) x ≡ (is_among earlier x || bytes_eq w x)
among_push earlier w x = list_any-append (bytes_eq x) earlier (w ∷ []) ∙ ap (λ b. is_among earlier x || b) (nothing (bytes_eq x w) ∙ turned x w)

four : (a b c d : Bool) → ((a || b) || (c || d)) ≡ ((a || c) || (b || d))
four true b c d = refl
four false true true d = refl
four false true false d = refl
four false false true d = refl
four false false false d = refl

meets_push : (earlier : List (List ℕ)) (w : List ℕ) (words : List (List ℕ)) → meets (earlier ++ w ∷ []) words ≡ (meets earlier words || is_among words w)
meets_push earlier w [] = refl
meets_push earlier w (x ∷ xs) = (λ i. among_push earlier w x i || meets_push earlier w xs i) ∙ four (is_among earlier x) (bytes_eq w x) (meets earlier xs) (is_among xs w)

shift : (a b c d : Bool) → (a || ((b || c) || d)) ≡ ((a || b) || (c || d))
shift true b c d = refl
shift false true c d = refl
shift false false c d = refl

repeats_or : (earlier words : List (List ℕ)) → repeats_after earlier words ≡ (meets earlier words || repeats words)
repeats_or earlier [] = refl
repeats_or earlier (w ∷ ws) =
    ap (λ b. is_among earlier w || b) (repeats_or (earlier ++ w ∷ []) ws ∙ ap (λ b. b || repeats ws) (meets_push earlier w ws))
    ∙ shift (is_among earlier w) (meets earlier ws) (is_among ws w) (repeats ws)

none_meets : (words : List (List ℕ)) → meets [] words ≡ false
none_meets [] = refl
none_meets (w ∷ ws) = none_meets ws

pub repeats_first : (words : List (List ℕ)) → repeats_after [] words ≡ repeats words
repeats_first words = repeats_or [] words ∙ ap (λ b. b || repeats words) (none_meets words)

folded_twice : (name : List ℕ) → folded (folded name) ≡ folded name
folded_twice [] = refl
folded_twice (b ∷ bs) = λ i. lowercase-lowercase b i ∷ folded_twice bs i

-- a name in small letters is that of a standard block where the name is
pub standard_folded : (name : List ℕ) → is_standard (folded name) ≡ is_standard name
standard_folded name = rw (folded_twice name) refl

there : (b : Bool) → true ≡ not b → b ≡ false
there true e = absurd (cc)
there false e = refl

not_there : (b : Bool) → false ≡ not b → b ≡ true
not_there true e = refl
not_there false e = absurd (cc)

-- a name that was added, or was there already
pub added_name : (known more : List (List ℕ)) (name : List ℕ) (added : Bool) → added ≡ not (names.is_among known name) → more ≡ (if added then known ++ name ∷ [] else known)
    → Added (not added) (is_among (map folded known) (folded name)) (map folded more) (map folded known ++ folded name ∷ [])
added_name known more name true is now = (sym (among_folded known name) ∙ there (names.is_among known name) is, ap (map folded) now ∙ map_push folded known name)
added_name known more name false is now = sym (among_folded known name) ∙ not_there (names.is_among known name) is

-- a source whose globals are not taken
pub of_source : (source : ℕ) (earlier with_globals more : List (List ℕ)) (unit : PlainUnit) (place : Option UnitPlace) → (one_taken earlier (global_words unit) ≡ false) × (with_globals ≡ earlier ++ global_words unit)
    → AddedPous place (first_taken_pou source 0 with_globals unit.pous) more (with_globals ++ pou_words unit)
    → AddedPous place (first_taken_of source earlier unit) more (earlier ++ global_words unit ++ pou_words unit)
of_source source earlier with_globals more unit place free pous = go place pous
  where
    is : first_taken_of source earlier unit ≡ first_taken_pou source 0 with_globals unit.pous
    is = rw free.0 (ap (λ e. first_taken_pou source 0 e unit.pous) (sym free.1))

    go : (place : Option UnitPlace) → AddedPous place (first_taken_pou source 0 with_globals unit.pous) more (with_globals ++ pou_words unit) → AddedPous place (first_taken_of source earlier unit) more (earlier ++ global_words unit ++ pou_words unit)
    go (Some p) at = is ∙ at
    go None none = (is ∙ none.0, none.1 ∙ ap (λ w. w ++ pou_words unit) free.1)
