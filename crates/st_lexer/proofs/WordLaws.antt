-- Words, keywords and what is tied together.
use Rattle.std.proofs.Common.{◌≡◌, ℕ, suc, ◌+◌, ◌==◌, Bool, true, false, List, [], ◌∷◌, ◌++◌, length, drop, Option, Some, None, refl, sym, ap, ◌∙◌, subst, arith, inl, inr, find}
use Rattle.std.specs.List.{list_all, prefix_len}
use Rattle.std.specs.Str.{bytes_eq}
use Rattle.std.proofs.lemmas.Bool.{and_parts, and_from, or_left, cases_Bool, not-true, false_from_ne_true}
use Rattle.std.proofs.lemmas.Option.{same_Some, none-some}
use Rattle.plant_types.specs.Words.{is_letter, is_name_byte, is_name, folded, same_word}
use Rattle.st_lexer.specs.declared.token.Keyword.{Keyword}
use Rattle.st_lexer.specs.declared.token.Keyword.TheVariants as k
use Rattle.st_lexer.specs.declared.token.TokenKind.{TokenKind}
use Rattle.st_lexer.specs.declared.token.TokenKind.TheVariants as t
use Rattle.st_lexer.specs.declared.tables.TheConstants.{KEYWORDS}
use Rattle.st_lexer.specs.Bytes.{is_tied, stands_apart}
use Rattle.st_lexer.specs.Tables.{spelling}
use Rattle.st_lexer.specs.Spellings.{IsWord, SpellsToken}
use Rattle.st_lexer.specs.Reading.{keyword_of, keyword_or_word, word_or_literal}
use Rattle.st_lexer.proofs.Classes.{same_folded, keyword_is_name}

-- ---- what is tied together
pub one_and : (n : ℕ) → 1 + n ≡ suc n
one_and n = omega arith

pub tied_over : (bs rest : List ℕ) → list_all is_tied bs ≡ true → prefix_len is_tied (bs ++ rest) ≡ length bs + prefix_len is_tied rest
tied_over [] rest h = omega arith
tied_over (b ∷ bs) rest h =
    let parts = and_parts (is_tied b) (list_all is_tied bs) h in
    let more = tied_over bs rest parts.1 in
    rw parts.0 (omega arith)

pub apart_none : (rest : List ℕ) → stands_apart rest ≡ true → prefix_len is_tied rest ≡ 0
apart_none [] h = refl
apart_none (b ∷ bs) h = rw (not-true (is_tied b) h) refl

pub tied_apart : (text : List ℕ) → stands_apart (drop (prefix_len is_tied text) text) ≡ true
tied_apart [] = refl
tied_apart (b ∷ bs) = elim (cases_Bool (is_tied b)) as (λ _. stands_apart (drop (prefix_len is_tied (b ∷ bs)) (b ∷ bs)) ≡ true) [
  | inl yes' ↦ rw yes' (rw (one_and (prefix_len is_tied bs)) (tied_apart bs))
  | inr no' ↦ rw no' (rw no' refl)
]

pub name_byte_tied : (b : ℕ) → is_name_byte b ≡ true → is_tied b ≡ true
unfolding is_tied
name_byte_tied b h = or_left (is_name_byte b) (b == 35) h

name_bytes_tied : (bs : List ℕ) → list_all is_name_byte bs ≡ true → list_all is_tied bs ≡ true
name_bytes_tied [] h = refl
name_bytes_tied (b ∷ bs) h =
    let parts = and_parts (is_name_byte b) (list_all is_name_byte bs) h in
    and_from (is_tied b) (list_all is_tied bs) (name_byte_tied b parts.0) (name_bytes_tied bs parts.1)

pub name_tied : (bs : List ℕ) → is_name bs ≡ true → list_all is_tied bs ≡ true
name_tied [] h = refl
name_tied (b ∷ bs) h =
    let parts = and_parts (is_letter b) (list_all is_name_byte bs) h in
    and_from (is_tied b) (list_all is_tied bs) (name_byte_tied b (or_left (is_letter b) _ parts.0)) (name_bytes_tied bs parts.1)

-- ---- keywords
find_passes : {X : Type 0} (p : X → Bool) (xs : List X) (x : X) → find p xs ≡ Some x → p x ≡ true
find_passes p [] x h = absurd (none-some x h)
find_passes p (y ∷ xs) x h = elim (cases_Bool (p y)) [
  | inl yes' ↦ (let same : Some y ≡ Some x = sym (rw yes' refl) ∙ h in subst (λ z. p z ≡ true) (same_Some y x same) yes')
  | inr no' ↦ find_passes p xs x (sym (rw no' refl) ∙ h)
]

keyword_self : (k : Keyword) → find (λ j. bytes_eq (folded (spelling k)) (folded (spelling j))) KEYWORDS ≡ Some k
keyword_self k.And = refl
keyword_self k.Array = refl
keyword_self k.At = refl
keyword_self k.Bool = refl
keyword_self k.By = refl
keyword_self k.Case = refl
keyword_self k.Dint = refl
keyword_self k.Do = refl
keyword_self k.Else = refl
keyword_self k.Elsif = refl
keyword_self k.EndCase = refl
keyword_self k.EndFor = refl
keyword_self k.EndFunctionBlock = refl
keyword_self k.EndIf = refl
keyword_self k.EndProgram = refl
keyword_self k.EndVar = refl
keyword_self k.False = refl
keyword_self k.For = refl
keyword_self k.FunctionBlock = refl
keyword_self k.If = refl
keyword_self k.Mod = refl
keyword_self k.Not = refl
keyword_self k.Of = refl
keyword_self k.Or = refl
keyword_self k.Program = refl
keyword_self k.Then = refl
keyword_self k.Time = refl
keyword_self k.To = refl
keyword_self k.True = refl
keyword_self k.Var = refl
keyword_self k.VarExternal = refl
keyword_self k.VarGlobal = refl
keyword_self k.VarInput = refl
keyword_self k.VarOutput = refl
keyword_self k.Xor = refl

-- the keyword that a word is, is found
pub keyword_found : (bs : List ℕ) (k : Keyword) → same_word bs (spelling k) ≡ true → keyword_of bs ≡ Some k
keyword_found bs k h = ap (λ word. find (λ j. bytes_eq word (folded (spelling j))) KEYWORDS) (same_folded bs (spelling k) h) ∙ keyword_self k

-- what is found is the word
keyword_is : (bs : List ℕ) (k : Keyword) → keyword_of bs ≡ Some k → same_word bs (spelling k) ≡ true
keyword_is bs k h = find_passes (λ j. same_word bs (spelling j)) KEYWORDS k h

none_free : (bs : List ℕ) → keyword_of bs ≡ None → (k : Keyword) → same_word bs (spelling k) ≡ false
none_free bs none k = false_from_ne_true (same_word bs (spelling k)) (λ yes'. none-some k (sym none ∙ keyword_found bs k yes'))

sound_by : (bs : List ℕ) (kind : TokenKind) (o : Option Keyword) → is_name bs ≡ true → keyword_of bs ≡ o → keyword_or_word o ≡ kind → SpellsToken kind bs
sound_by bs kind None form is same = subst (λ z. SpellsToken z bs) same record { form = form; free = none_free bs is }
sound_by bs kind (Some k) form is same = subst (λ z. SpellsToken z bs) same (keyword_is bs k is)

pub word_sound : (bs : List ℕ) (kind : TokenKind) → is_name bs ≡ true → keyword_or_word (keyword_of bs) ≡ kind → SpellsToken kind bs
word_sound bs kind form same = sound_by bs kind (keyword_of bs) form refl same

free_none : (bs : List ℕ) (o : Option Keyword) → keyword_of bs ≡ o → ((k : Keyword) → same_word bs (spelling k) ≡ false) → keyword_or_word o ≡ t.Word
free_none bs None is free = refl
free_none bs (Some k) is free = absurd (let e : false ≡ true = sym (free k) ∙ keyword_is bs k is in cc)

pub lettered_word : (bs : List ℕ) → IsWord bs → word_or_literal bs ≡ Some t.Word
unfolding word_or_literal
lettered_word bs h = rw h.form (ap Some (free_none bs (keyword_of bs) refl h.free))

pub lettered_keyword : (bs : List ℕ) (k : Keyword) → same_word bs (spelling k) ≡ true → word_or_literal bs ≡ Some (t.Keyword k)
unfolding word_or_literal
lettered_keyword bs k h = rw (keyword_is_name bs k h) (ap (λ o. Some (keyword_or_word o)) (keyword_found bs k h))
