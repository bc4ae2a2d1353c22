-- What begins with a letter: words, keywords and typed literals.
use Rattle.std.proofs.Common.{◌≡◌, ℕ, ◌≤◌, ℤ, Bool, true, false, cond, List, [], ◌∷◌, ◌++◌, length, drop, Option, Some, refl, sym, ap, ◌∙◌, subst, arith, inl, inr, codes}
use Rattle.std.specs.Option.{option_map}
use Rattle.std.proofs.lemmas.Bool.{cases_Bool, cond-true, cond-false}
use Rattle.std.proofs.lemmas.Option.{same_Some}
use Rattle.plant_types.specs.Words.{is_name}
use Rattle.st_lexer.specs.declared.bytes.First.TheVariants as f
use Rattle.st_lexer.specs.declared.token.TokenKind.{TokenKind}
use Rattle.st_lexer.specs.declared.token.TokenKind.TheVariants as t
use Rattle.st_lexer.specs.Bytes.{is_tied, stands_apart}
use Rattle.st_lexer.specs.Literals.{begins_word, is_truth, IsDint}
use Rattle.st_lexer.specs.Durations.{IsDuration, short, long}
use Rattle.st_lexer.specs.Spellings.{SpellsToken}
use Rattle.st_lexer.specs.ReadingLiterals.{parse_dint, parse_truth, parse_time, lettered_len, parse_literal}
use Rattle.st_lexer.specs.Reading.{keyword_of, keyword_or_word, word_or_literal}
use Rattle.st_lexer.proofs.Classes.{class_of_token, keyword_is_name, truth_first, map_some}
use Rattle.st_lexer.proofs.WordLaws.{tied_over, apart_none, name_tied, word_sound, lettered_word, lettered_keyword}
use Rattle.st_lexer.proofs.LiteralLaws.{word_no_front, front_no_name, truth_no_name, short_no_dint, long_no_dint, long_no_short, plain_len, dint_goes, truth_goes, truth_some, no_word, lettered_end, dint_sound, dint_complete, truth_sound, truth_complete}
use Rattle.st_lexer.proofs.DurationLaws.{duration_pass}
use Rattle.st_lexer.proofs.DurationValues.{timed_sound, timed_complete}

-- ---- the literal by its first word
abbrev as_dint : List ℕ → Option TokenKind
as_dint bs = option_map (λ v. t.Dint v) (parse_dint (drop 5 bs))

abbrev as_short : List ℕ → Option TokenKind
as_short bs = option_map (λ v. t.Duration v) (parse_time (drop 2 bs))

abbrev as_long : List ℕ → Option TokenKind
as_long bs = option_map (λ v. t.Duration v) (parse_time (drop 5 bs))

abbrev as_truth : List ℕ → Option TokenKind
as_truth bs = option_map (λ v. t.Truth v) (parse_truth bs)

abbrev third : List ℕ → Option TokenKind
third bs = cond (begins_word (codes "TIME#") bs) (as_long bs) (as_truth bs)

abbrev second : List ℕ → Option TokenKind
second bs = cond (begins_word (codes "T#") bs) (as_short bs) (third bs)

literal_dint : (bs : List ℕ) → begins_word (codes "DINT#") bs ≡ true → parse_literal bs ≡ as_dint bs
unfolding parse_literal
literal_dint bs h = cond-true (begins_word (codes "DINT#") bs) (as_dint bs) (second bs) h

literal_short : (bs : List ℕ) → begins_word (codes "T#") bs ≡ true → parse_literal bs ≡ as_short bs
unfolding parse_literal
literal_short bs h = cond-false (begins_word (codes "DINT#") bs) (as_dint bs) (second bs) (short_no_dint bs h) ∙ cond-true (begins_word (codes "T#") bs) (as_short bs) (third bs) h

literal_long : (bs : List ℕ) → begins_word (codes "TIME#") bs ≡ true → parse_literal bs ≡ as_long bs
unfolding parse_literal
literal_long bs h = cond-false (begins_word (codes "DINT#") bs) (as_dint bs) (second bs) (long_no_dint bs h) ∙ cond-false (begins_word (codes "T#") bs) (as_short bs) (third bs) (long_no_short bs h) ∙ cond-true (begins_word (codes "TIME#") bs) (as_long bs) (as_truth bs) h

literal_plain : (bs : List ℕ) → begins_word (codes "DINT#") bs ≡ false → begins_word (codes "T#") bs ≡ false → begins_word (codes "TIME#") bs ≡ false → parse_literal bs ≡ as_truth bs
unfolding parse_literal
literal_plain bs d s l = cond-false (begins_word (codes "DINT#") bs) (as_dint bs) (second bs) d ∙ cond-false (begins_word (codes "T#") bs) (as_short bs) (third bs) s ∙ cond-false (begins_word (codes "TIME#") bs) (as_long bs) (as_truth bs) l

literal_sound : (bs : List ℕ) (kind : TokenKind) → parse_literal bs ≡ Some kind → SpellsToken kind bs
literal_sound bs kind h = elim (cases_Bool (begins_word (codes "DINT#") bs)) [
  | inl d ↦
      let found = map_some (λ v. t.Dint v) (parse_dint (drop 5 bs)) kind (sym (literal_dint bs d) ∙ h) in
      let s = dint_sound (drop 5 bs) found.0 found.1 in
      subst (λ z. SpellsToken z bs) found.2 record { prefix = d; is_signed = s.0; range = s.1 }
  | inr no_d ↦ elim (cases_Bool (begins_word (codes "T#") bs)) [
    | inl s ↦
        let found = map_some (λ v. t.Duration v) (parse_time (drop 2 bs)) kind (sym (literal_short bs s) ∙ h) in
        let timed = timed_sound (drop 2 bs) found.0 found.1 in
        subst (λ z. SpellsToken z bs) found.2 (short s timed.0 timed.1)
    | inr no_s ↦ elim (cases_Bool (begins_word (codes "TIME#") bs)) [
      | inl l ↦
          let found = map_some (λ v. t.Duration v) (parse_time (drop 5 bs)) kind (sym (literal_long bs l) ∙ h) in
          let timed = timed_sound (drop 5 bs) found.0 found.1 in
          subst (λ z. SpellsToken z bs) found.2 (long l timed.0 timed.1)
      | inr no_l ↦
          let found = map_some (λ v. t.Truth v) (parse_truth bs) kind (sym (literal_plain bs no_d no_s no_l) ∙ h) in
          subst (λ z. SpellsToken z bs) found.2 (truth_sound bs found.0 found.1)
    ]
  ]
]

-- ---- a word or a literal
named : (bs : List ℕ) → is_name bs ≡ true → word_or_literal bs ≡ Some (keyword_or_word (keyword_of bs))
unfolding word_or_literal
named bs h = cond-true (is_name bs) (Some (keyword_or_word (keyword_of bs))) (parse_literal bs) h

unnamed : (bs : List ℕ) → is_name bs ≡ false → word_or_literal bs ≡ parse_literal bs
unfolding word_or_literal
unnamed bs h = cond-false (is_name bs) (Some (keyword_or_word (keyword_of bs))) (parse_literal bs) h

pub letter_sound : (bs : List ℕ) (kind : TokenKind) → word_or_literal bs ≡ Some kind → SpellsToken kind bs
letter_sound bs kind h = elim (cases_Bool (is_name bs)) [
  | inl word ↦ word_sound bs kind word (same_Some (keyword_or_word (keyword_of bs)) kind (sym (named bs word) ∙ h))
  | inr other ↦ literal_sound bs kind (sym (unnamed bs other) ∙ h)
]

dint_found : (bs : List ℕ) (v : ℤ) → IsDint bs v → word_or_literal bs ≡ Some (t.Dint v)
unfolding is_tied
dint_found bs v h = unnamed bs (front_no_name (codes "DINT#") bs h.prefix refl refl) ∙ literal_dint bs h.prefix ∙ ap (λ o. option_map (λ z. t.Dint z) o) (dint_complete (drop 5 bs) v h.is_signed h.range)

duration_found : (bs : List ℕ) (v : ℤ) → IsDuration bs v → word_or_literal bs ≡ Some (t.Duration v)
unfolding is_tied
duration_found bs v (short begins timed fits) = unnamed bs (front_no_name (codes "T#") bs begins refl refl) ∙ literal_short bs begins ∙ ap (λ o. option_map (λ z. t.Duration z) o) (timed_complete (drop 2 bs) v timed fits)
duration_found bs v (long begins timed fits) = unnamed bs (front_no_name (codes "TIME#") bs begins refl refl) ∙ literal_long bs begins ∙ ap (λ o. option_map (λ z. t.Duration z) o) (timed_complete (drop 5 bs) v timed fits)

truth_found : (bs : List ℕ) (value : Bool) → is_truth value bs ≡ true → word_or_literal bs ≡ Some (t.Truth value)
truth_found [] value h = absurd (truth_some value h)
truth_found (x ∷ xs) value h =
    let none = no_word x xs (truth_first value x xs h) in
    unnamed (x ∷ xs) (truth_no_name value (x ∷ xs) h) ∙ literal_plain (x ∷ xs) none.no_dint none.no_short none.no_long ∙ ap (λ o. option_map (λ z. t.Truth z) o) (truth_complete (x ∷ xs) value h)

pub letter_complete : (bs : List ℕ) (kind : TokenKind) → class_of_token kind ≡ f.Letter → SpellsToken kind bs → word_or_literal bs ≡ Some kind
letter_complete bs t.Word e h = lettered_word bs h
letter_complete bs (t.Keyword k) e h = lettered_keyword bs k h
letter_complete bs (t.Dint value) e h = dint_found bs value h
letter_complete bs (t.Truth value) e h = truth_found bs value h
letter_complete bs (t.Duration value) e h = duration_found bs value h
letter_complete bs (t.Integer n) e h = absurd (cc)
letter_complete bs (t.Address region) e h = absurd (cc)
letter_complete bs (t.Symbol symbol) e h = absurd (cc)

-- ---- how far it goes
name_reach : (bs rest : List ℕ) → is_name bs ≡ true → length bs ≤ lettered_len (bs ++ rest)
name_reach bs rest h = let over = tied_over bs rest (name_tied bs h) in let least = (lettered_end (bs ++ rest)).least in omega arith

pub letter_reach : (kind : TokenKind) (bs rest : List ℕ) → class_of_token kind ≡ f.Letter → SpellsToken kind bs → length bs ≤ lettered_len (bs ++ rest)
letter_reach t.Word bs rest e h = name_reach bs rest h.form
letter_reach (t.Keyword k) bs rest e h = name_reach bs rest (keyword_is_name bs k h)
letter_reach (t.Dint value) bs rest e h = let g = dint_goes bs rest value h in omega arith
letter_reach (t.Truth value) bs rest e h = let g = truth_goes value bs rest h in omega arith
letter_reach (t.Duration value) bs rest e h = let g = duration_pass bs rest value h in let is = g.is in omega arith
letter_reach (t.Integer n) bs rest e h = absurd (cc)
letter_reach (t.Address region) bs rest e h = absurd (cc)
letter_reach (t.Symbol symbol) bs rest e h = absurd (cc)

name_exact : (bs rest : List ℕ) → is_name bs ≡ true → stands_apart rest ≡ true → lettered_len (bs ++ rest) ≡ length bs
unfolding is_tied
name_exact bs rest h apart =
    let over = tied_over bs rest (name_tied bs h) in
    let none = apart_none rest apart in
    let plain = plain_len (bs ++ rest) (word_no_front (codes "DINT#") bs rest h apart refl refl) (word_no_front (codes "T#") bs rest h apart refl refl) (word_no_front (codes "TIME#") bs rest h apart refl refl) in
    omega arith

pub letter_exact : (kind : TokenKind) (bs rest : List ℕ) → class_of_token kind ≡ f.Letter → SpellsToken kind bs → stands_apart rest ≡ true → lettered_len (bs ++ rest) ≡ length bs
letter_exact t.Word bs rest e h apart = name_exact bs rest h.form apart
letter_exact (t.Keyword k) bs rest e h apart = name_exact bs rest (keyword_is_name bs k h) apart
letter_exact (t.Dint value) bs rest e h apart = let g = dint_goes bs rest value h in let none = apart_none rest apart in omega arith
letter_exact (t.Truth value) bs rest e h apart = let g = truth_goes value bs rest h in let none = apart_none rest apart in omega arith
letter_exact (t.Duration value) bs rest e h apart = let g = duration_pass bs rest value h in let is = g.is in let none = g.apart apart in omega arith
letter_exact (t.Integer n) bs rest e h apart = absurd (cc)
letter_exact (t.Address region) bs rest e h apart = absurd (cc)
letter_exact (t.Symbol symbol) bs rest e h apart = absurd (cc)
