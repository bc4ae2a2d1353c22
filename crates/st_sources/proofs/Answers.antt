-- Texts have one answer.
use Rattle.std.proofs.Common.{◌≡◌, ◌<◌, ℕ, zero, suc, List, [], ◌∷◌, Some, take, refl, sym, ap, ◌∙◌, subst, arith}
use Rattle.std.specs.Prelude.{slice_get}
use Rattle.st_lexer.specs.declared.token.Token.{Token}
use Rattle.st_lexer.specs.Lexes.{Stops}
use Rattle.st_lexer.proofs.Cutting.{one_list, one_place, never_both}
use Rattle.st_expressions.specs.Lexemes.{lexemes}
use Rattle.st_parser.specs.Units.{PlainUnit}
use Rattle.st_parser.specs.Declarations.{SpellsUnit}
use Rattle.st_parser.proofs.FoundUnits.{one_unit}
use Rattle.st_sources.specs.declared.fault.SourceFault.{SourceFault}
use Rattle.st_sources.specs.declared.fault.SourceFault.TheVariants as fault
use Rattle.st_sources.specs.Sources.{HasUnit, HaveUnits, Unspelled, IsReached, IsSourceFault, SameFault}

same_text : {A : Type 0} (x y : A) → Some x ≡ Some y → x ≡ y
same_text x y e = cc

-- a text spells one unit
same_unit : (text : List ℕ) (a b : PlainUnit) → HasUnit text a → HasUnit text b → a ≡ b
same_unit text a b x y = one_unit _ a b (subst (λ (tokens : List Token). SpellsUnit (lexemes text tokens) a) (one_list text _ _ x.lexed y.lexed) x.spelled) y.spelled

-- texts have one list of units
pub one_list_of_units : (texts : List (List ℕ)) (a b : List PlainUnit) → HaveUnits texts a → HaveUnits texts b → a ≡ b
one_list_of_units [] [] [] x y = refl
one_list_of_units [] [] (v ∷ b) x y = absurd y
one_list_of_units [] (u ∷ a) b x y = absurd x
one_list_of_units (text ∷ texts) [] b x y = absurd x
one_list_of_units (text ∷ texts) (u ∷ a) [] x y = absurd y
one_list_of_units (text ∷ texts) (u ∷ a) (v ∷ b) x y = rw (same_unit text u v x.0 y.0, one_list_of_units texts a b x.1 y.1) refl

-- a text has a unit or a fault
unit_or_stop : (text : List ℕ) (unit : PlainUnit) (line column : ℕ) → HasUnit text unit → Stops text line column → ⊥
unit_or_stop text unit line column a b = never_both text _ _ _ a.lexed b

unit_or_not : (text : List ℕ) (unit : PlainUnit) (line column : ℕ) → HasUnit text unit → Unspelled text line column → ⊥
unit_or_not text unit line column a b = b.no_unit unit (subst (λ (tokens : List Token). SpellsUnit (lexemes text tokens) unit) (one_list text _ _ a.lexed b.lexed) a.spelled)

-- the text of a number has a unit where all have
unit_at : (texts : List (List ℕ)) (units : List PlainUnit) (n : ℕ) (text : List ℕ) → HaveUnits texts units → slice_get texts n ≡ Some text → (unit : PlainUnit) × HasUnit text unit
unit_at [] units n text h at = absurd cc
unit_at (t ∷ texts) [] n text h at = absurd h
unit_at (t ∷ texts) (u ∷ units) zero text h at = (u, subst (λ x. HasUnit x u) (same_text t text at) h.0)
unit_at (t ∷ texts) (u ∷ units) (suc n) text h at = unit_at texts units n text h.1 at

pub apart : (texts : List (List ℕ)) (units : List PlainUnit) (f : SourceFault) → HaveUnits texts units → IsSourceFault texts f → f ≡ fault.Memory
apart texts units fault.Memory h found = refl
apart texts units (fault.Spelling n line column) h found =
    let there = unit_at texts units n found.text h found.reached.text_is in
    absurd (unit_or_stop found.text there.0 line column there.1 found.is_fault.1)
apart texts units (fault.Grammar n line column) h found =
    let there = unit_at texts units n found.text h found.reached.text_is in
    absurd (unit_or_not found.text there.0 line column there.1 found.is_fault.1)

-- an item before a number is among the first of that number
taken_at : (texts : List (List ℕ)) (m n : ℕ) → m < n → slice_get (take n texts) m ≡ slice_get texts m
taken_at [] m zero less = refl
taken_at [] m (suc n) less = refl
taken_at (t ∷ texts) m zero less = absurd (omega (arith, less))
taken_at (t ∷ texts) zero (suc n) less = refl
taken_at (t ∷ texts) (suc m) (suc n) less = taken_at texts m n (omega (arith, less))

-- a text before the first fault has none
earlier_has : (texts : List (List ℕ)) (m n : ℕ) (text other : List ℕ) → m < n → IsReached texts m text → IsReached texts n other → (unit : PlainUnit) × HasUnit text unit
earlier_has texts m n text other less a b = unit_at (take n texts) b.units m text b.before (taken_at texts m n less ∙ a.text_is)

-- a fault of a text, without its number
data Fault (text : List ℕ) : Type 0 where
  stops : (line column : ℕ) → Stops text line column → Fault text
  unspelled : (line column : ℕ) → Unspelled text line column → Fault text

no_unit : (text : List ℕ) (unit : PlainUnit) → HasUnit text unit → Fault text → ⊥
no_unit text unit h (stops line column f) = unit_or_stop text unit line column h f
no_unit text unit h (unspelled line column f) = unit_or_not text unit line column h f

not_before : (texts : List (List ℕ)) (m n : ℕ) (text other : List ℕ) → IsReached texts m text → IsReached texts n other → Fault text → m < n → ⊥
not_before texts m n text other a b f less = let there = earlier_has texts m n text other less a b in no_unit text there.0 there.1 f

same_number : (m n : ℕ) → (m < n → ⊥) → (n < m → ⊥) → m ≡ n
same_number zero zero a b = refl
same_number zero (suc n) a b = absurd (a (omega arith))
same_number (suc m) zero a b = absurd (b (omega arith))
same_number (suc m) (suc n) a b = ap suc (same_number m n (λ l. a (omega (arith, l))) (λ l. b (omega (arith, l))))

one_number : (texts : List (List ℕ)) (m n : ℕ) (text other : List ℕ) → IsReached texts m text → IsReached texts n other → Fault text → Fault other → m ≡ n
one_number texts m n text other a b f g = same_number m n (not_before texts m n text other a b f) (not_before texts n m other text b a g)

one_text : (texts : List (List ℕ)) (m n : ℕ) (text other : List ℕ) → IsReached texts m text → IsReached texts n other → m ≡ n → text ≡ other
one_text texts m n text other a b same = same_text text other (sym a.text_is ∙ (ap (slice_get texts) same ∙ b.text_is))

-- texts have one fault
pub same_fault : (texts : List (List ℕ)) (f g : SourceFault) → IsSourceFault texts f → IsSourceFault texts g → SameFault f g
same_fault texts fault.Memory g a b = tt
same_fault texts (fault.Spelling m l c) fault.Memory a b = tt
same_fault texts (fault.Spelling m l c) (fault.Spelling n k d) a b =
    let number = one_number texts m n a.text b.text a.reached b.reached (stops l c a.is_fault.1) (stops k d b.is_fault.1) in
    let text = one_text texts m n a.text b.text a.reached b.reached number in
    let place = one_place b.text l c k d (subst (λ t. Stops t l c) text a.is_fault.1) b.is_fault.1 in
    (number, place.0, place.1)
same_fault texts (fault.Spelling m l c) (fault.Grammar n k d) a b =
    let number = one_number texts m n a.text b.text a.reached b.reached (stops l c a.is_fault.1) (unspelled k d b.is_fault.1) in
    let text = one_text texts m n a.text b.text a.reached b.reached number in
    absurd (never_both b.text _ _ _ b.is_fault.1.lexed (subst (λ t. Stops t l c) text a.is_fault.1))
same_fault texts (fault.Grammar m l c) fault.Memory a b = tt
same_fault texts (fault.Grammar m l c) (fault.Spelling n k d) a b =
    let number = one_number texts m n a.text b.text a.reached b.reached (unspelled l c a.is_fault.1) (stops k d b.is_fault.1) in
    let text = one_text texts m n a.text b.text a.reached b.reached number in
    absurd (never_both a.text _ _ _ a.is_fault.1.lexed (subst (λ t. Stops t k d) (sym text) b.is_fault.1))
same_fault texts (fault.Grammar m l c) (fault.Grammar n k d) a b = one_number texts m n a.text b.text a.reached b.reached (unspelled l c a.is_fault.1) (unspelled k d b.is_fault.1)
