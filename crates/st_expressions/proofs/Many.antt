-- Phrases of phrases: what is spelled is read, and what is read is spelled.
use Rattle.std.proofs.Common.{◌≡◌, ℕ, zero, suc, ◌+◌, ◌<◌, ◌≤◌, Bool, true, false, List, [], ◌∷◌, ◌++◌, append_assoc, append-nil, length, length-append, map, Option, Some, None, refl, sym, ap, ◌∙◌, subst, arith, cond, inl, inr}
use Rattle.std.proofs.lemmas.List.{map_push}
use denote.Enum.Bare.{true_same}
use Rattle.st_lexer.specs.contracts.token.Keyword.{the_type as keyword_type}
use Rattle.st_lexer.specs.contracts.token.Symbol.{the_type as symbol_type}
use Rattle.st_lexer.specs.declared.token.Keyword.{Keyword}
use Rattle.st_lexer.specs.declared.token.Symbol.{Symbol}
use Rattle.st_lexer.specs.declared.token.Symbol.TheVariants as s
use Rattle.st_expressions.specs.Lexemes.{Lexeme, keyword, symbol}
use Rattle.st_expressions.specs.Phrases.{Each, Perhaps, absent, present, After, after, Listed, listed}
use Rattle.plant_types.specs.Options.{◌>>=◌}
use Rattle.st_expressions.specs.Reading.{is_symbol, is_keyword, symbol_at, keyword_at, ahead, with_first, many, all_at, perhaps_at, after_symbol, after_keyword, others_at, listed_at}
use Rattle.st_expressions.proofs.Steps.{true_or_false, bind_some, same_some, symbol_found, keyword_found}

-- a phrase at the front
pub record Front {A : Type 0} (Q : List Lexeme → A → Type 0) (ts : List Lexeme) (a : A) (rest : List Lexeme) : Type 0 where
  pub front : List Lexeme
  pub whole : ts ≡ front ++ rest
  pub spelled : Q front a

-- what is read is spelled
abbrev pub Finds : {A : Type 0} → (List Lexeme → A → Type 0) → (List Lexeme → Option (A × List Lexeme)) → Type 0
Finds {A} Q one_at = (ts : List Lexeme) (a : A) (rest : List Lexeme) → one_at ts ≡ Some (a, rest) → Front Q ts a rest

-- what is spelled is read, where what is after it may stand there
abbrev pub Reads : {A : Type 0} → (List Lexeme → A → Type 0) → (List Lexeme → Option (A × List Lexeme)) → (List Lexeme → Bool) → Type 0
Reads {A} Q one_at may = (x rest : List Lexeme) (a : A) → Q x a → may rest ≡ true → one_at (x ++ rest) ≡ Some (a, rest)

-- where one begins, one of its kind may stand after another
abbrev pub Begins : {A : Type 0} → (List Lexeme → A → Type 0) → (List Lexeme → Bool) → (List Lexeme → Bool) → Type 0
Begins {A} Q starts may = (x rest : List Lexeme) (a : A) → Q x a → (starts (x ++ rest) ≡ true) × (may (x ++ rest) ≡ true) × (0 < length x)

again : {A : Type 0} (Q : List Lexeme → A → Type 0) (ts : List Lexeme) (a b : A) (rest last : List Lexeme) → (let o : Option (A × List Lexeme) = Some (a, rest) in o) ≡ Some (b, last) → Front Q ts a rest → Front Q ts b last
again {A} Q ts a b rest last is f = subst (λ (r : A × List Lexeme). Front Q ts r.0 r.1) (same_some _ _ is) f

-- the same phrase, called otherwise
pub turned : {A : Type 0} (Q : List Lexeme → A → Type 0) (ts : List Lexeme) (r q : A × List Lexeme) → (let o : Option (A × List Lexeme) = Some r in o) ≡ Some q → Front Q ts r.0 r.1 → Front Q ts q.0 q.1
turned {A} Q ts r q is f = subst (λ (r : A × List Lexeme). Front Q ts r.0 r.1) (same_some _ _ is) f

module _ {A : Type 0} (Q : List Lexeme → A → Type 0) (starts may : List Lexeme → Bool) (one_at : List Lexeme → Option (A × List Lexeme)) where
  pub may_follow : Begins Q starts may → (items : List A) (ts rest : List Lexeme) → Each Q ts items → may rest ≡ true → may (ts ++ rest) ≡ true
  may_follow begins [] ts rest each h = rw each h
  may_follow begins (a ∷ items) ts rest each h =
      let (x, y, is, spelled, others) = each in
      let (first, here, some) = begins x (y ++ rest) a spelled in
      rw (is, append_assoc x y rest) here

  pub many_read : Reads Q one_at may → Begins Q starts may → (items : List A) (fuel : ℕ) (ts rest : List Lexeme) → length ts ≤ fuel → Each Q ts items → may rest ≡ true → starts rest ≡ false → many starts one_at fuel (ts ++ rest) ≡ Some (items, rest)
  many_read reads begins [] zero ts rest le each h stop = rw each (rw stop refl)
  many_read reads begins [] (suc fuel) ts rest le each h stop = rw each (rw stop refl)
  many_read reads begins (a ∷ items) zero ts rest le each h stop =
      absurd (let (x, y, is, spelled, others) = each in let (first, here, some) = begins x (y ++ rest) a spelled in let q = ap length is in let r = length-append x y in omega arith)
  many_read reads begins (a ∷ items) (suc fuel) ts rest le each h stop =
      let (x, y, is, spelled, others) = each in
      let (first, here, some) = begins x (y ++ rest) a spelled in
      let read = reads x (y ++ rest) a spelled (may_follow begins items y rest others h) in
      let shorter : length y ≤ fuel = (let q = ap length is in let r = length-append x y in omega arith) in
      let tail = many_read reads begins items fuel y rest shorter others h stop in
      rw (is, append_assoc x y rest, first, read, tail) refl

  pub all_read : Reads Q one_at may → Begins Q starts may → (items : List A) (ts rest : List Lexeme) → Each Q ts items → may rest ≡ true → starts rest ≡ false → all_at starts one_at (ts ++ rest) ≡ Some (items, rest)
  all_read reads begins items ts rest each h stop =
      many_read reads begins items (length (ts ++ rest)) ts rest (let q = length-append ts rest in omega arith) each h stop

  pub perhaps_read : Reads Q one_at may → ((x rest : List Lexeme) (a : A) → Q x a → starts (x ++ rest) ≡ true) → (o : Option A) (x rest : List Lexeme) → Perhaps Q x o → may rest ≡ true → starts rest ≡ false → perhaps_at starts one_at (x ++ rest) ≡ Some (o, rest)
  perhaps_read reads begins o x rest (absent is none) h stop = rw (is, none, stop) refl
  perhaps_read reads begins o x rest (present a spelled some) h stop =
      rw (some, begins x rest a spelled, reads x rest a spelled h) refl

  ended : (ts rest : List Lexeme) (items : List A) → (let o : Option (List A × List Lexeme) = Some ([], ts) in o) ≡ Some (items, rest) → Front (Each Q) ts items rest
  ended ts rest items h =
      let nothing : Front (Each Q) ts [] ts = record { front = []; whole = refl; spelled = refl } in
      again (Each Q) ts [] items ts rest h nothing

  pub many_found : Finds Q one_at → (fuel : ℕ) (ts : List Lexeme) (items : List A) (rest : List Lexeme) → many starts one_at fuel ts ≡ Some (items, rest) → Front (Each Q) ts items rest
  many_found finds zero ts items rest h =
      elim (true_or_false (starts ts)) as (λ _. Front (Each Q) ts items rest) [
        | inl yes' ↦ absurd (let e : None ≡ Some (items, rest) = ap (λ b. cond b None (Some ([], ts))) (sym yes') ∙ h in cc)
        | inr no' ↦ ended ts rest items (ap (λ b. cond b None (Some ([], ts))) (sym no') ∙ h)
      ]
  many_found finds (suc fuel) ts items rest h =
      let on : A × List Lexeme → Option (List A × List Lexeme) = λ a. many starts one_at fuel a.1 >>= ahead a.0 in
      elim (true_or_false (starts ts)) as (λ _. Front (Each Q) ts items rest) [
        | inl yes' ↦
            let first = bind_some (one_at ts) on (items, rest) (ap (λ b. cond b (one_at ts >>= on) (Some ([], ts))) (sym yes') ∙ h) in
            let (a, was, then') = first in
            let second = bind_some (many starts one_at fuel a.1) (ahead a.0) (items, rest) then' in
            let (m, was_more, is) = second in
            let f = finds ts a.0 a.1 was in
            let g = many_found finds fuel a.1 m.0 m.1 was_more in
            let both : Front (Each Q) ts (a.0 ∷ m.0) m.1 = record {
              front = f.front ++ g.front;
              whole = f.whole ∙ ap (λ l. f.front ++ l) g.whole ∙ sym (append_assoc f.front g.front m.1);
              spelled = (f.front, g.front, refl, f.spelled, g.spelled);
            } in
            again (Each Q) ts (a.0 ∷ m.0) items m.1 rest is both
        | inr no' ↦ ended ts rest items (ap (λ b. cond b (one_at ts >>= on) (Some ([], ts))) (sym no') ∙ h)
      ]

  pub all_found : Finds Q one_at → Finds (Each Q) (all_at starts one_at)
  all_found finds ts items rest h = many_found finds (length ts) ts items rest h

  pub perhaps_found : Finds Q one_at → Finds (Perhaps Q) (perhaps_at starts one_at)
  perhaps_found finds ts o rest h =
      let on : A × List Lexeme → Option (Option A × List Lexeme) = λ a. Some (Some a.0, a.1) in
      elim (true_or_false (starts ts)) as (λ _. Front (Perhaps Q) ts o rest) [
        | inl yes' ↦
            let (a, was, is) = bind_some (one_at ts) on (o, rest) (ap (λ b. cond b (one_at ts >>= on) (Some (None, ts))) (sym yes') ∙ h) in
            let f = finds ts a.0 a.1 was in
            let here : Front (Perhaps Q) ts (Some a.0) a.1 = record { front = f.front; whole = f.whole; spelled = present a.0 f.spelled refl } in
            again (Perhaps Q) ts (Some a.0) o a.1 rest is here
        | inr no' ↦
            let nothing : Front (Perhaps Q) ts None ts = record { front = []; whole = refl; spelled = absent refl refl } in
            again (Perhaps Q) ts None o ts rest (ap (λ b. cond b (one_at ts >>= on) (Some (None, ts))) (sym no') ∙ h) nothing
      ]

pub with_first_some : {A : Type 0} (before : List A) (o : Option (List A × List Lexeme)) (r : List A × List Lexeme) → with_first before o ≡ Some r → (m : List A × List Lexeme) × (o ≡ Some m) × ((before ++ m.0, m.1) ≡ r)
with_first_some before None r h = absurd (cc)
with_first_some before (Some m) r h = (m, refl, same_some _ _ h)

module _ {A : Type 0} (Q : List Lexeme → A → Type 0) (may : List Lexeme → Bool) (one_at : List Lexeme → Option (A × List Lexeme)) where
  pub after_symbol_found : (t : Symbol) → Finds Q one_at → Finds (After (symbol t) Q) (after_symbol t one_at)
  after_symbol_found t finds ts a rest h =
      let (after_it, was, is) = bind_some (symbol_at t ts) one_at (a, rest) h in
      let f = finds after_it a rest is in
      record { front = symbol t ∷ f.front; whole = symbol_found t ts after_it was ∙ ap (λ l. symbol t ∷ l) f.whole; spelled = after f.front refl f.spelled }

  pub after_keyword_found : (t : Keyword) → Finds Q one_at → Finds (After (keyword t) Q) (after_keyword t one_at)
  after_keyword_found t finds ts a rest h =
      let (after_it, was, is) = bind_some (keyword_at t ts) one_at (a, rest) h in
      let f = finds after_it a rest is in
      record { front = keyword t ∷ f.front; whole = keyword_found t ts after_it was ∙ ap (λ l. keyword t ∷ l) f.whole; spelled = after f.front refl f.spelled }

  pub after_symbol_read : (t : Symbol) → Reads Q one_at may → Reads (After (symbol t) Q) (after_symbol t one_at) may
  after_symbol_read t reads x rest a (after y is spelled) h =
      rw is (ap (λ b. cond b (Some (y ++ rest)) None >>= one_at) (true_same symbol_type t t refl) ∙ reads y rest a spelled h)

  pub after_keyword_read : (t : Keyword) → Reads Q one_at may → Reads (After (keyword t) Q) (after_keyword t one_at) may
  after_keyword_read t reads x rest a (after y is spelled) h =
      rw is (ap (λ b. cond b (Some (y ++ rest)) None >>= one_at) (true_same keyword_type t t refl) ∙ reads y rest a spelled h)

  pub after_symbol_begins : (t : Symbol) → ((ts : List Lexeme) → may (symbol t ∷ ts) ≡ true) → Begins (After (symbol t) Q) (is_symbol t) may
  after_symbol_begins t follows x rest a (after y is spelled) = (rw is (true_same symbol_type t t refl), rw is (follows (y ++ rest)), (let q = ap length is in omega arith))

  pub symbol_next : (t : Symbol) (x rest : List Lexeme) (a : A) → After (symbol t) Q x a → is_symbol t (x ++ rest) ≡ true
  symbol_next t x rest a (after y is spelled) = rw is (true_same symbol_type t t refl)

  pub keyword_next : (t : Keyword) (x rest : List Lexeme) (a : A) → After (keyword t) Q x a → is_keyword t (x ++ rest) ≡ true
  keyword_next t x rest a (after y is spelled) = rw is (true_same keyword_type t t refl)

  pub after_keyword_begins : (t : Keyword) → ((ts : List Lexeme) → may (keyword t ∷ ts) ≡ true) → Begins (After (keyword t) Q) (is_keyword t) may
  after_keyword_begins t follows x rest a (after y is spelled) = (rw is (true_same keyword_type t t refl), rw is (follows (y ++ rest)), (let q = ap length is in omega arith))

  pub others_read : Reads Q one_at may → ((ts : List Lexeme) → may (symbol s.Comma ∷ ts) ≡ true) → (items : List A) (ts rest : List Lexeme) → Each (After (symbol s.Comma) Q) ts items → may rest ≡ true → is_symbol s.Comma rest ≡ false → others_at one_at (ts ++ rest) ≡ Some (items, rest)
  others_read reads commas items ts rest each h stop = all_read (After (symbol s.Comma) Q) (is_symbol s.Comma) may (after_symbol s.Comma one_at) (after_symbol_read s.Comma reads) (after_symbol_begins s.Comma commas) items ts rest each h stop

  pub others_found : Finds Q one_at → Finds (Each (After (symbol s.Comma) Q)) (others_at one_at)
  others_found finds = all_found (After (symbol s.Comma) Q) (is_symbol s.Comma) may (after_symbol s.Comma one_at) (after_symbol_found s.Comma finds)

  -- after the first of a list
  others_follow : ((ts : List Lexeme) → may (symbol s.Comma ∷ ts) ≡ true) → (items : List A) (ts rest : List Lexeme) → Each (After (symbol s.Comma) Q) ts items → may rest ≡ true → may (ts ++ rest) ≡ true
  others_follow commas items ts rest each h = may_follow (After (symbol s.Comma) Q) (is_symbol s.Comma) may (after_symbol s.Comma one_at) (after_symbol_begins s.Comma commas) items ts rest each h

  pub listed_read : Reads Q one_at may → ((ts : List Lexeme) → may (symbol s.Comma ∷ ts) ≡ true) → (items : List A) (ts rest : List Lexeme) → Listed Q ts items → may rest ≡ true → is_symbol s.Comma rest ≡ false → listed_at one_at (ts ++ rest) ≡ Some (items, rest)
  listed_read reads commas items ts rest (listed a others x y spelled each is all) h stop =
      rw (is, append_assoc x y rest, reads x (y ++ rest) a spelled (others_follow commas others y rest each h), others_read reads commas others y rest each h stop, all) refl

  pub listed_found : Finds Q one_at → Finds (Listed Q) (listed_at one_at)
  listed_found finds ts items rest h =
      let (a, was, then') = bind_some (one_at ts) (λ (a : A × List Lexeme). with_first (a.0 ∷ []) (others_at one_at a.1)) (items, rest) h in
      let (m, was_more, is) = with_first_some (a.0 ∷ []) (others_at one_at a.1) (items, rest) then' in
      let f = finds ts a.0 a.1 was in
      let g = others_found finds a.1 m.0 m.1 was_more in
      let both : Front (Listed Q) ts (a.0 ∷ m.0) m.1 = record {
        front = f.front ++ g.front;
        whole = f.whole ∙ ap (λ l. f.front ++ l) g.whole ∙ sym (append_assoc f.front g.front m.1);
        spelled = listed a.0 m.0 f.front g.front f.spelled g.spelled refl refl;
      } in
      subst (λ (r : List A × List Lexeme). Front (Listed Q) ts r.0 r.1) is both

-- lists that are cut otherwise
pub two_parts : (x y : List Lexeme) (t : Lexeme) (rest : List Lexeme) → (x ++ (y ++ t ∷ [])) ++ rest ≡ x ++ (y ++ t ∷ rest)
two_parts x y t rest = append_assoc x (y ++ t ∷ []) rest ∙ ap (λ l. x ++ l) (append_assoc y (t ∷ []) rest)

pub three_parts : (x y z : List Lexeme) (t : Lexeme) (rest : List Lexeme) → (x ++ (y ++ (z ++ t ∷ []))) ++ rest ≡ x ++ (y ++ (z ++ t ∷ rest))
three_parts x y z t rest = append_assoc x (y ++ (z ++ t ∷ [])) rest ∙ ap (λ l. x ++ l) (two_parts y z t rest)

with_first_ahead : {A : Type 0} (before : List A) (a : A) (o : Option (List A × List Lexeme)) → with_first (before ++ a ∷ []) o ≡ with_first before (o >>= ahead a)
with_first_ahead before a None = refl
with_first_ahead before a (Some more) = ap (λ l. Some (l, more.1)) (append_assoc before (a ∷ []) more.0)

-- one phrase more, seen by view
pub many_goes : {X A : Type 0} (view : X → A) (starts : List Lexeme → Bool) (one_at : List Lexeme → Option (A × List Lexeme)) (before after' : List X) (x : X) (fuel left : ℕ) (ts rest : List Lexeme) → after' ≡ before ++ x ∷ [] → fuel ≡ left + 1 → starts ts ≡ true → one_at ts ≡ Some (view x, rest) → with_first (map view after') (many starts one_at left rest) ≡ with_first (map view before) (many starts one_at fuel ts)
many_goes view starts one_at before after' x zero left ts rest pushed more yes' is = absurd (omega arith)
many_goes view starts one_at before after' x (suc fuel) left ts rest pushed more yes' is =
    let same : left ≡ fuel = omega arith in
    rw (yes', is, same, pushed, map_push view before x) (with_first_ahead (map view before) (view x) (many starts one_at fuel rest))

-- no phrase more
pub many_ends : {A : Type 0} (starts : List Lexeme → Bool) (one_at : List Lexeme → Option (A × List Lexeme)) (before : List A) (fuel : ℕ) (ts : List Lexeme) → starts ts ≡ false → with_first before (many starts one_at fuel ts) ≡ Some (before, ts)
many_ends starts one_at before zero ts stop = rw stop (ap (λ l. Some (l, ts)) (append-nil before))
many_ends starts one_at before (suc fuel) ts stop = rw stop (ap (λ l. Some (l, ts)) (append-nil before))
