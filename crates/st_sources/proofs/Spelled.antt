-- Texts whose units are found one after another.
use Rattle.std.proofs.Common.{◌≡◌, ◌<◌, ◌+◌, ℕ, zero, suc, List, [], ◌∷◌, ◌++◌, Some, Result, Ok, Err, map, length, take, get_or, refl, sym, subst, arith}
use Rattle.std.proofs.lemmas.List.{map-append}
use Rattle.std.specs.Prelude.{MatchResult, slice_get}
use Rattle.st_lexer.specs.declared.token.Token.{Token}
use Rattle.st_lexer.specs.Lexes.{Lexes}
use Rattle.st_parser.specs.declared.unit.Unit.{Unit as Tree}
use Rattle.st_parser.specs.Declarations.{SpellsUnit}
use Rattle.st_expressions.specs.Lexemes.{lexemes}
use Rattle.st_parser.specs.Units.{PlainUnit, view_unit}
use Rattle.st_sources.specs.declared.fault.SourceFault.{SourceFault}
use Rattle.st_sources.specs.declared.fault.SourceFault.TheVariants as fault
use Rattle.st_sources.specs.Sources.{HasUnit, HaveUnits, IsTextFault, IsSourceFault}

-- the unit that a text's tokens spell
pub with_tokens : (text : List ℕ) (source : ℕ) (tokens slice : List Token) (r : Result Tree SourceFault) → slice ≡ tokens → Lexes text tokens → MatchResult r (λ unit. SpellsUnit (lexemes text slice) (view_unit unit)) (IsTextFault source text) → MatchResult r (λ unit. HasUnit text (view_unit unit)) (IsTextFault source text)
with_tokens text source tokens slice (Ok unit) same lexed h = record { tokens = tokens; lexed = lexed; spelled = subst (λ (ts : List Token). SpellsUnit (lexemes text ts) (view_unit unit)) same h }
with_tokens text source tokens slice (Err f) same lexed h = h

some_is : {A : Type 0} (x y : A) → Some x ≡ Some y → x ≡ y
some_is x y e = cc

-- one more text with a unit
pub one_more : (texts : List (List ℕ)) (n : ℕ) (units : List PlainUnit) (text : List ℕ) (unit : PlainUnit) → HaveUnits (take n texts) units → slice_get texts n ≡ Some text → HasUnit text unit → HaveUnits (take (suc n) texts) (units ++ unit ∷ [])
one_more [] n units text unit before at has = absurd cc
one_more (t ∷ texts) zero [] text unit before at has = (subst (λ t. HasUnit t unit) (sym (some_is t text at)) has, tt)
one_more (t ∷ texts) zero (u ∷ units) text unit before at has = absurd before
one_more (t ∷ texts) (suc n) [] text unit before at has = absurd before
one_more (t ∷ texts) (suc n) (u ∷ units) text unit before at has = (before.0, one_more texts n units text unit before.1 at has)

-- the first text without a unit
pub first_stops : (texts : List (List ℕ)) (number : ℕ) (text : List ℕ) (units : List PlainUnit) (f : SourceFault) → HaveUnits (take number texts) units → slice_get texts number ≡ Some text → IsTextFault number text f → IsSourceFault texts f
first_stops texts number text units fault.Memory before at h = tt
first_stops texts number text units (fault.Spelling n line column) before at h =
    record { text = text; reached = record { units = units; before = subst (λ k. HaveUnits (take k texts) units) (sym h.0) before; text_is = subst (λ k. slice_get texts k ≡ Some text) (sym h.0) at }; is_fault = (refl, h.1) }
first_stops texts number text units (fault.Grammar n line column) before at h =
    record { text = text; reached = record { units = units; before = subst (λ k. HaveUnits (take k texts) units) (sym h.0) before; text_is = subst (λ k. slice_get texts k ≡ Some text) (sym h.0) at }; is_fault = (refl, h.1) }

-- what a list's items become, at a number
pub became : {A B : Type 0} (f : A → B) (xs : List A) (n : ℕ) (other : A) → n < length xs → slice_get (map f xs) n ≡ Some (f (get_or xs n other))
became f [] n other within = absurd (omega (arith, within))
became f (x ∷ xs) zero other within = refl
became f (x ∷ xs) (suc n) other within = became f xs n other (omega (arith, within))

-- as many texts have units as there are units
pub one_each : (texts : List (List ℕ)) (units : List PlainUnit) → HaveUnits texts units → length texts ≡ length units
one_each [] [] h = refl
one_each [] (u ∷ units) h = absurd h
one_each (t ∷ texts) [] h = absurd h
one_each (t ∷ texts) (u ∷ units) h = let e = one_each texts units h.1 in omega (arith, e)

-- one more unit is found
pub found_more : (texts : List (List ℕ)) (n : ℕ) (trees : List Tree) (text : List ℕ) (tree : Tree) → HaveUnits (take n texts) (map view_unit trees) → slice_get texts n ≡ Some text → HasUnit text (view_unit tree) → HaveUnits (take (n + 1) texts) (map view_unit (trees ++ tree ∷ []))
found_more texts n trees text tree before at has = let next : n + 1 ≡ suc n = omega arith in rw (next, map-append) (one_more texts n (map view_unit trees) text (view_unit tree) before at has)

-- the text of a number is the first without a unit
pub stops_at : (texts : List (List ℕ)) (count number : ℕ) (text : List ℕ) (units : List PlainUnit) (f : SourceFault) → count ≡ number → HaveUnits (take number texts) units → slice_get texts number ≡ Some text → IsTextFault count text f → IsSourceFault texts f
stops_at texts count number text units f same before at h = first_stops texts number text units f before at (subst (λ k. IsTextFault k text f) same h)
