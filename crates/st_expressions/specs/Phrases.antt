-- Phrases made of phrases: Q says which lexemes spell which one.
use Rattle.std.specs.Prelude.{◌≡◌, List, [], ◌∷◌, ◌++◌, Option, Some, None}
use Rattle.st_lexer.specs.declared.token.Symbol.TheVariants as s
use Rattle.st_expressions.specs.Lexemes.{Lexeme, symbol}

-- any number of them, one after another
abbrev pub Each : {A : Type 0} → (List Lexeme → A → Type 0) → List Lexeme → List A → Type 0
Each Q ts [] = ts ≡ []
Each Q ts (a ∷ rest) = (x : List Lexeme) × (y : List Lexeme) × (ts ≡ x ++ y) × Q x a × Each Q y rest

-- one, or nothing
pub data Perhaps {A : Type 0} (Q : List Lexeme → A → Type 0) (ts : List Lexeme) (o : Option A) : Type 0 where
  absent : ts ≡ [] → o ≡ None → Perhaps Q ts o
  present : (a : A) → Q ts a → o ≡ Some a → Perhaps Q ts o

-- one after a lexeme
pub data After {A : Type 0} (t : Lexeme) (Q : List Lexeme → A → Type 0) (ts : List Lexeme) (a : A) : Type 0 where
  after : (x : List Lexeme) → ts ≡ t ∷ x → Q x a → After t Q ts a

-- at least one, with commas between them
pub data Listed {A : Type 0} (Q : List Lexeme → A → Type 0) (ts : List Lexeme) (items : List A) : Type 0 where
  listed : (a : A) (others : List A) (x y : List Lexeme) → Q x a → Each (After (symbol s.Comma) Q) y others → ts ≡ x ++ y → items ≡ a ∷ others → Listed Q ts items
