-- Comments and symbols: what is found is the longest one.
use Rattle.std.proofs.Common.{◌≡◌, ℕ, zero, suc, ◌+◌, ◌<◌, ◌≤◌, ◌==◌, Bool, true, false, not, ◌&&◌, cond, List, [], ◌∷◌, ◌++◌, length, take, Option, Some, refl, sym, ap, ◌∙◌, subst, arith, inl, inr}
use Rattle.std.specs.List.{prefix_len}
use Rattle.std.proofs.lemmas.Bool.{and_parts, and_from, cases_Bool, eqb-true}
use Rattle.std.proofs.lemmas.Option.{same_Some, none-some}
use Rattle.st_lexer.specs.declared.token.Symbol.{Symbol}
use Rattle.st_lexer.specs.declared.token.Symbol.TheVariants as s
use Rattle.st_lexer.specs.Bytes.{begins_by}
use Rattle.st_lexer.specs.Tables.{bytes_of}
use Rattle.st_lexer.specs.Comments.{is_closed, is_one_line, is_comment, begins_comment}
use Rattle.st_lexer.specs.Reading.{closing_len, line_len, paired_with, single_symbols, single_symbol, double_symbol}
use Rattle.st_lexer.proofs.Classes.{comment_cases}
use Rattle.st_lexer.proofs.WordLaws.{one_and}

-- ---- comments
-- what is closed is closed there
pub closing_found : (mark n : ℕ) (bs rest : List ℕ) → is_closed mark bs ≡ true → closing_len n mark (bs ++ rest) ≡ Some (n + length bs)
closing_found mark n [] rest h = absurd (let e : false ≡ true = h in cc)
closing_found mark n (b ∷ []) rest h = absurd (last b h)
  where
    last : (c : ℕ) → is_closed mark (c ∷ []) ≡ true → ⊥
    last c e = elim (cases_Bool (c == 42)) [
      | inl yes' ↦ (let f : false ≡ true = sym (rw yes' refl) ∙ e in cc)
      | inr no' ↦ (let f : false ≡ true = sym (rw no' refl) ∙ e in cc)
    ]
closing_found mark n (b ∷ c ∷ bs) rest h = elim (cases_Bool (b == 42 && c == mark)) [
  | inl yes' ↦
      let one : (suc (length bs) == 1) ≡ true = sym (rw yes' refl) ∙ h in
      let two = eqb-true (suc (length bs)) 1 one in
      let same : n + 2 ≡ n + suc (suc (length bs)) = omega arith in
      rw yes' (ap Some same)
  | inr no' ↦
      let more : is_closed mark (c ∷ bs) ≡ true = sym (rw no' refl) ∙ h in
      let same : n + 1 + suc (length bs) ≡ n + suc (suc (length bs)) = omega arith in
      rw no' (closing_found mark (n + 1) (c ∷ bs) rest more ∙ ap Some same)
]

-- where it closes, it is closed
pub record Closes (mark : ℕ) (text : List ℕ) (k : ℕ) : Type 0 where
  pub within : k ≤ length text
  pub is : is_closed mark (take k text) ≡ true

closes_more : (mark b : ℕ) (bs : List ℕ) (k : ℕ) → (b == 42 && begins_by (λ c. c == mark) bs) ≡ false → Closes mark bs k → Closes mark (b ∷ bs) (suc k)
closes_more mark b bs zero no' h = absurd (let e : false ≡ true = h.is in cc)
closes_more mark b [] (suc k) no' h = absurd (let w = h.within in omega arith)
closes_more mark b (c ∷ bs) (suc k) no' h = record { within = (let w = h.within in omega arith); is = rw no' h.is }

closes_here : (mark b : ℕ) (bs : List ℕ) → (b == 42 && begins_by (λ c. c == mark) bs) ≡ true → Closes mark (b ∷ bs) 2
closes_here mark b [] h = absurd (let e : false ≡ true = (and_parts (b == 42) false h).1 in cc)
closes_here mark b (c ∷ bs) h = record { within = omega arith; is = rw h refl }

pub closing_is : (mark n : ℕ) (text : List ℕ) (m : ℕ) → closing_len n mark text ≡ Some m → (k : ℕ) × (m ≡ n + k) × Closes mark text k
closing_is mark n [] m h = absurd (none-some m h)
closing_is mark n (b ∷ bs) m h = elim (cases_Bool (b == 42 && begins_by (λ c. c == mark) bs)) [
  | inl yes' ↦ (let e : Some (n + 2) ≡ Some m = sym (rw yes' refl) ∙ h in (2, sym (same_Some (n + 2) m e), closes_here mark b bs yes'))
  | inr no' ↦
      let e : closing_len (n + 1) mark bs ≡ Some m = sym (rw no' refl) ∙ h in
      let rest = closing_is mark (n + 1) bs m e in
      let same = rest.1 in
      (suc rest.0, omega arith, closes_more mark b bs rest.0 no' rest.2)
]

pub line_reach : (bs rest : List ℕ) → is_one_line bs ≡ true → length bs ≤ line_len (bs ++ rest)
unfolding line_len
line_reach [] rest h = omega arith
line_reach (b ∷ bs) rest h =
    let parts = and_parts (not (b == 10)) (is_one_line bs) h in
    let more = line_reach bs rest parts.1 in
    rw parts.0 (omega arith)

pub line_is : (text : List ℕ) → is_one_line (take (line_len text) text) ≡ true
unfolding line_len
line_is [] = refl
line_is (b ∷ bs) = elim (cases_Bool (not (b == 10))) as (λ _. is_one_line (take (prefix_len (λ c. not (c == 10)) (b ∷ bs)) (b ∷ bs)) ≡ true) [
  | inl yes' ↦ rw yes' (rw (one_and (prefix_len (λ c. not (c == 10)) bs)) (and_from _ _ yes' (line_is bs)))
  | inr no' ↦ rw no' refl
]

-- what is a comment begins one
pub comment_begins : (a b : ℕ) (inner : List ℕ) → is_comment (a ∷ b ∷ inner) ≡ true → begins_comment (a ∷ b ∷ []) ≡ true
comment_begins a b inner h = elim (comment_cases a b inner h) [
  | inl round ↦ rw round.0 (rw round.1 refl)
  | inr other ↦ elim other [ inl slashed ↦ rw slashed.0 (rw slashed.1 refl) | inr line ↦ rw line.0 (rw line.1 refl) ]
]

-- ---- symbols
heads : (a b : ℕ) (as' bs : List ℕ) → a ∷ as' ≡ b ∷ bs → a ≡ b
heads a b as' bs e = cc

seconds : (a b c d : ℕ) (as' bs : List ℕ) → a ∷ b ∷ as' ≡ c ∷ d ∷ bs → b ≡ d
seconds a b c d as' bs e = cc

-- a symbol of one byte is found
pub single_found : (a : ℕ) (symbol : Symbol) → a ∷ [] ≡ bytes_of symbol → single_symbol a ≡ Some symbol
unfolding single_symbol
single_found a s.Becomes e = absurd (let l = ap length e in omega arith)
single_found a s.Gives e = absurd (let l = ap length e in omega arith)
single_found a s.AtMost e = absurd (let l = ap length e in omega arith)
single_found a s.AtLeast e = absurd (let l = ap length e in omega arith)
single_found a s.Unequal e = absurd (let l = ap length e in omega arith)
single_found a s.Range e = absurd (let l = ap length e in omega arith)
single_found a s.Colon e = ap single_symbol (heads a 58 [] [] e)
single_found a s.Semicolon e = ap single_symbol (heads a 59 [] [] e)
single_found a s.Comma e = ap single_symbol (heads a 44 [] [] e)
single_found a s.Open e = ap single_symbol (heads a 40 [] [] e)
single_found a s.Close e = ap single_symbol (heads a 41 [] [] e)
single_found a s.OpenBracket e = ap single_symbol (heads a 91 [] [] e)
single_found a s.CloseBracket e = ap single_symbol (heads a 93 [] [] e)
single_found a s.Point e = ap single_symbol (heads a 46 [] [] e)
single_found a s.Plus e = ap single_symbol (heads a 43 [] [] e)
single_found a s.Minus e = ap single_symbol (heads a 45 [] [] e)
single_found a s.Times e = ap single_symbol (heads a 42 [] [] e)
single_found a s.Divide e = ap single_symbol (heads a 47 [] [] e)
single_found a s.Ampersand e = ap single_symbol (heads a 38 [] [] e)
single_found a s.Equal e = ap single_symbol (heads a 61 [] [] e)
single_found a s.Less e = ap single_symbol (heads a 60 [] [] e)
single_found a s.Greater e = ap single_symbol (heads a 62 [] [] e)

-- and one of two bytes
pub double_found : (a b : ℕ) (symbol : Symbol) → a ∷ b ∷ [] ≡ bytes_of symbol → double_symbol a b ≡ Some symbol
unfolding double_symbol
double_found a b s.Becomes e = ap (λ x. double_symbol x b) (heads a 58 (b ∷ []) (61 ∷ []) e) ∙ ap (λ x. double_symbol 58 x) (seconds a b 58 61 [] [] e)
double_found a b s.Gives e = ap (λ x. double_symbol x b) (heads a 61 (b ∷ []) (62 ∷ []) e) ∙ ap (λ x. double_symbol 61 x) (seconds a b 61 62 [] [] e)
double_found a b s.AtMost e = ap (λ x. double_symbol x b) (heads a 60 (b ∷ []) (61 ∷ []) e) ∙ ap (λ x. double_symbol 60 x) (seconds a b 60 61 [] [] e)
double_found a b s.AtLeast e = ap (λ x. double_symbol x b) (heads a 62 (b ∷ []) (61 ∷ []) e) ∙ ap (λ x. double_symbol 62 x) (seconds a b 62 61 [] [] e)
double_found a b s.Unequal e = ap (λ x. double_symbol x b) (heads a 60 (b ∷ []) (62 ∷ []) e) ∙ ap (λ x. double_symbol 60 x) (seconds a b 60 62 [] [] e)
double_found a b s.Range e = ap (λ x. double_symbol x b) (heads a 46 (b ∷ []) (46 ∷ []) e) ∙ ap (λ x. double_symbol 46 x) (seconds a b 46 46 [] [] e)
double_found a b s.Colon e = absurd (let l = ap length e in omega arith)
double_found a b s.Semicolon e = absurd (let l = ap length e in omega arith)
double_found a b s.Comma e = absurd (let l = ap length e in omega arith)
double_found a b s.Open e = absurd (let l = ap length e in omega arith)
double_found a b s.Close e = absurd (let l = ap length e in omega arith)
double_found a b s.OpenBracket e = absurd (let l = ap length e in omega arith)
double_found a b s.CloseBracket e = absurd (let l = ap length e in omega arith)
double_found a b s.Point e = absurd (let l = ap length e in omega arith)
double_found a b s.Plus e = absurd (let l = ap length e in omega arith)
double_found a b s.Minus e = absurd (let l = ap length e in omega arith)
double_found a b s.Times e = absurd (let l = ap length e in omega arith)
double_found a b s.Divide e = absurd (let l = ap length e in omega arith)
double_found a b s.Ampersand e = absurd (let l = ap length e in omega arith)
double_found a b s.Equal e = absurd (let l = ap length e in omega arith)
double_found a b s.Less e = absurd (let l = ap length e in omega arith)
double_found a b s.Greater e = absurd (let l = ap length e in omega arith)

-- no symbol has more
pub symbol_length : (symbol : Symbol) → (0 < length (bytes_of symbol)) × (length (bytes_of symbol) ≤ 2)
symbol_length s.Becomes = (omega arith, omega arith)
symbol_length s.Gives = (omega arith, omega arith)
symbol_length s.AtMost = (omega arith, omega arith)
symbol_length s.AtLeast = (omega arith, omega arith)
symbol_length s.Unequal = (omega arith, omega arith)
symbol_length s.Range = (omega arith, omega arith)
symbol_length s.Colon = (omega arith, omega arith)
symbol_length s.Semicolon = (omega arith, omega arith)
symbol_length s.Comma = (omega arith, omega arith)
symbol_length s.Open = (omega arith, omega arith)
symbol_length s.Close = (omega arith, omega arith)
symbol_length s.OpenBracket = (omega arith, omega arith)
symbol_length s.CloseBracket = (omega arith, omega arith)
symbol_length s.Point = (omega arith, omega arith)
symbol_length s.Plus = (omega arith, omega arith)
symbol_length s.Minus = (omega arith, omega arith)
symbol_length s.Times = (omega arith, omega arith)
symbol_length s.Divide = (omega arith, omega arith)
symbol_length s.Ampersand = (omega arith, omega arith)
symbol_length s.Equal = (omega arith, omega arith)
symbol_length s.Less = (omega arith, omega arith)
symbol_length s.Greater = (omega arith, omega arith)

-- each entry of a table is right
abbrev AllRight : List (ℕ × Symbol) → Type 0
AllRight [] = Unit {0}
AllRight (e ∷ es) = (bytes_of e.1 ≡ e.0 ∷ []) × AllRight es

paired_right : (n : ℕ) (es : List (ℕ × Symbol)) (symbol : Symbol) → AllRight es → paired_with n es ≡ Some symbol → bytes_of symbol ≡ n ∷ []
paired_right n [] symbol right h = absurd (none-some symbol h)
paired_right n (e ∷ es) symbol right h = elim (cases_Bool (n == e.0)) [
  | inl yes' ↦
      let same = same_Some e.1 symbol (sym (rw yes' refl) ∙ h) in
      subst (λ z. bytes_of z ≡ n ∷ []) same (right.0 ∙ ap (λ x. x ∷ []) (sym (eqb-true n e.0 yes')))
  | inr no' ↦ paired_right n es symbol right.1 (sym (rw no' refl) ∙ h)
]

pub single_is : (a : ℕ) (symbol : Symbol) → single_symbol a ≡ Some symbol → bytes_of symbol ≡ a ∷ []
unfolding single_symbol
single_is a symbol h = paired_right a single_symbols symbol (refl, (refl, (refl, (refl, (refl, (refl, (refl, (refl, (refl, (refl, (refl, (refl, (refl, (refl, (refl, (refl, tt)))))))))))))))) h

-- one test of the two bytes
abbrev test : ℕ → ℕ → ℕ → ℕ → Bool
test a b c d = a == c && b == d

tested : (a b c d : ℕ) (symbol found : Symbol) (other : Option Symbol) → bytes_of found ≡ c ∷ d ∷ [] → (other ≡ Some symbol → bytes_of symbol ≡ a ∷ b ∷ []) → cond (test a b c d) (Some found) other ≡ Some symbol → bytes_of symbol ≡ a ∷ b ∷ []
tested a b c d symbol found other is rest h = elim (cases_Bool (test a b c d)) [
  | inl yes' ↦
      let parts = and_parts (a == c) (b == d) yes' in
      let same = same_Some found symbol (sym (rw yes' refl) ∙ h) in
      subst (λ z. bytes_of z ≡ a ∷ b ∷ []) same (is ∙ ap (λ x. x ∷ d ∷ []) (sym (eqb-true a c parts.0)) ∙ ap (λ x. a ∷ x ∷ []) (sym (eqb-true b d parts.1)))
  | inr no' ↦ rest (sym (rw no' refl) ∙ h)
]

pub double_is : (a b : ℕ) (symbol : Symbol) → double_symbol a b ≡ Some symbol → bytes_of symbol ≡ a ∷ b ∷ []
unfolding double_symbol
double_is a b symbol h =
    tested a b 58 61 symbol s.Becomes _ refl (λ e5861. tested a b 61 62 symbol s.Gives _ refl (λ e6162. tested a b 60 61 symbol s.AtMost _ refl (λ e6061. tested a b 62 61 symbol s.AtLeast _ refl (λ e6261. tested a b 60 62 symbol s.Unequal _ refl (λ e6062. tested a b 46 46 symbol s.Range _ refl (λ e4646. absurd (none-some symbol e4646)) e6062) e6261) e6061) e6162) e5861) h
