-- Reading one lexeme, and what an answer of two steps says of each.
use Rattle.std.proofs.Common.{◌≡◌, ℕ, List, [], ◌∷◌, drop, Option, Some, None, refl, sym, ap, ◌∙◌, subst, Bool, true, false, cond, ◌⊎◌, inl, inr, ◌≤◌, ◌<◌, nat_le}
use Rattle.std.proofs.lemmas.Bool.Decides.{leb_tells}
use denote.Enum.Bare.{same_true}
use Rattle.st_lexer.specs.contracts.token.Keyword.{the_type as keyword_type}
use Rattle.st_lexer.specs.contracts.token.Symbol.{the_type as symbol_type}
use Rattle.st_lexer.specs.declared.token.Keyword.{Keyword}
use Rattle.st_lexer.specs.declared.token.Symbol.{Symbol}
use Rattle.st_lexer.specs.declared.token.TokenKind.{TokenKind}
use Rattle.st_lexer.specs.declared.token.TokenKind.TheVariants as kind
use Rattle.st_expressions.specs.Lexemes.{Lexeme, word, keyword, symbol, lexeme_of, first_name}
use Rattle.plant_types.specs.Options.{◌>>=◌}
use Rattle.st_expressions.specs.Reading.{Answer, tree_of, word_at, is_symbol, is_keyword, symbol_at, keyword_at}
use Rattle.st_expressions.specs.Outcome.{Fails}
use Rattle.st_expressions.specs.declared.stop.ParseStop.{ParseStop}
use Rattle.st_expressions.specs.declared.stop.ParseStop.TheVariants as stop

pub both_ways : (l k : ℕ) → ((nat_le l k ≡ true) × (l ≤ k)) ⊎ ((nat_le l k ≡ false) × (k < l))
both_ways l k = leb_tells l k

pub true_or_false : (b : Bool) → (b ≡ true) ⊎ (b ≡ false)
true_or_false true = inl refl
true_or_false false = inr refl

pub some_or_none : {A : Type 0} (o : Option A) → (o ≡ None) ⊎ ((x : A) × (o ≡ Some x))
some_or_none None = inl refl
some_or_none (Some x) = inr (x, refl)

pub bind_some : {A B : Type 0} (o : Option A) (f : A → Option B) (y : B) → (o >>= f) ≡ Some y → (x : A) × (o ≡ Some x) × (f x ≡ Some y)
bind_some (Some x) f y h = (x, refl, h)
bind_some None f y h = absurd (cc)

pub same_some : {A : Type 0} (x y : A) → (let s : Option A = Some x in s) ≡ Some y → x ≡ y
same_some x y h = cc

-- a test that was passed
pub passed : {A : Type 0} (b : Bool) (o : Option A) (y : A) → cond b o None ≡ Some y → (b ≡ true) × (o ≡ Some y)
passed true o y h = (refl, h)
passed false o y h = absurd (cc)

symbol_next : (wanted : Symbol) (ts : List Lexeme) → is_symbol wanted ts ≡ true → ts ≡ symbol wanted ∷ drop 1 ts
symbol_next wanted (symbol found ∷ ts) h = ap (λ x. symbol x ∷ ts) (same_true symbol_type tt found wanted h)
symbol_next wanted [] h = absurd (cc)
symbol_next wanted (_ ∷ ts) h = absurd (cc)

keyword_next : (wanted : Keyword) (ts : List Lexeme) → is_keyword wanted ts ≡ true → ts ≡ keyword wanted ∷ drop 1 ts
keyword_next wanted (keyword found ∷ ts) h = ap (λ x. keyword x ∷ ts) (same_true keyword_type tt found wanted h)
keyword_next wanted [] h = absurd (cc)
keyword_next wanted (_ ∷ ts) h = absurd (cc)

pub next_is_symbol : (wanted : Symbol) (ts : List Lexeme) → is_symbol wanted ts ≡ true → ts ≡ symbol wanted ∷ drop 1 ts
next_is_symbol = symbol_next

pub next_is_keyword : (wanted : Keyword) (ts : List Lexeme) → is_keyword wanted ts ≡ true → ts ≡ keyword wanted ∷ drop 1 ts
next_is_keyword = keyword_next

pub symbol_found : (wanted : Symbol) (ts rest : List Lexeme) → symbol_at wanted ts ≡ Some rest → ts ≡ symbol wanted ∷ rest
symbol_found wanted ts rest h =
    let p = passed (is_symbol wanted ts) (Some (drop 1 ts)) rest h in
    symbol_next wanted ts p.0 ∙ ap (λ r. symbol wanted ∷ r) (same_some _ _ p.1)

pub keyword_found : (wanted : Keyword) (ts rest : List Lexeme) → keyword_at wanted ts ≡ Some rest → ts ≡ keyword wanted ∷ rest
keyword_found wanted ts rest h =
    let p = passed (is_keyword wanted ts) (Some (drop 1 ts)) rest h in
    keyword_next wanted ts p.0 ∙ ap (λ r. keyword wanted ∷ r) (same_some _ _ p.1)

pub word_found : (ts : List Lexeme) (r : List ℕ × List Lexeme) → word_at ts ≡ Some r → ts ≡ word r.0 ∷ r.1
word_found (word name ∷ ts) r h = ap (λ (p : List ℕ × List Lexeme). word p.0 ∷ p.1) (same_some _ _ h)
word_found [] r h = absurd (cc)
word_found (_ ∷ ts) r h = absurd (cc)

same_first : (k : TokenKind) (name : List ℕ) (rest : List Lexeme) → lexeme_of k name ≡ lexeme_of k (first_name (lexeme_of k name ∷ rest))
same_first kind.Word name rest = refl
same_first (kind.Keyword w) name rest = refl
same_first (kind.Integer n) name rest = refl
same_first (kind.Dint n) name rest = refl
same_first (kind.Truth b) name rest = refl
same_first (kind.Duration n) name rest = refl
same_first (kind.Address r) name rest = refl
same_first (kind.Symbol x) name rest = refl

-- the first lexeme, by its kind and its spelling
pub first_is : (k : TokenKind) (name : List ℕ) (ts rest : List Lexeme) → ts ≡ lexeme_of k name ∷ rest → ts ≡ lexeme_of k (first_name ts) ∷ drop 1 ts
first_is k name ts rest is =
    subst (λ (l : List Lexeme). l ≡ lexeme_of k (first_name l) ∷ drop 1 l) (sym is) (ap (λ l. l ∷ rest) (same_first k name rest))

-- what stops an expression stops it without its depth
pub fails_tree : (s : ParseStop) (a : Answer) → Fails s a → Fails s (tree_of a)
fails_tree stop.Memory a h = tt
fails_tree (stop.Left n) a h = ap tree_of h
