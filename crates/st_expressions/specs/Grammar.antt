-- Which lexemes spell which expression: a case for each production, on whole lists of lexemes that are cut into parts.
use Rattle.std.specs.Prelude.{◌≡◌, ℕ, zero, suc, ◌+◌, ◌≤◌, nat_le, if◌then◌else◌, pos, Bool, true, false, List, [], ◌∷◌, ◌++◌, Option, Some, None}
use Rattle.std.proofs.Common.{neg_ℤ}
use Rattle.plant_types.specs.declared.values.Bounds.{Bounds}
use Rattle.plant_types.specs.declared.values.Value.TheVariants as value
use Rattle.st_lexer.specs.declared.token.Keyword.TheVariants as k
use Rattle.st_lexer.specs.declared.token.Symbol.TheVariants as s
use Rattle.st_tree.specs.declared.tree.Binary.{Binary}
use Rattle.st_tree.specs.declared.tree.Binary.TheVariants as b
use Rattle.st_tree.specs.declared.tree.Unary.{Unary}
use Rattle.st_tree.specs.declared.tree.Literal.TheVariants.{Integer, Value}
use Rattle.st_tree.specs.declared.tree.Unary.TheVariants as u
use Rattle.st_tree.specs.Plain.{PlainExpr, literal, read, output_of, element, unary, binary}
use Rattle.st_expressions.specs.Lexemes.{Lexeme, word, keyword, integer, typed, symbol}

-- the literal that a lexeme is by itself
abbrev pub literal_of : Lexeme → Option (PlainExpr (List ℕ))
literal_of (keyword k.True) = Some (literal (Value (value.Bool true)))
literal_of (keyword k.False) = Some (literal (Value (value.Bool false)))
literal_of (typed v) = Some (literal (Value v))
literal_of (integer n) = if nat_le n 2147483647 then Some (literal (Integer (pos n))) else None
literal_of _ = None

-- the operator before its operand
abbrev pub prefix_of : Lexeme → Option Unary
prefix_of (symbol s.Minus) = Some u.Negate
prefix_of (keyword k.Not) = Some u.Not
prefix_of _ = None

-- the operator between its operands
abbrev pub operator_of : Lexeme → Option Binary
operator_of (keyword k.Or) = Some b.Or
operator_of (keyword k.Xor) = Some b.Xor
operator_of (keyword k.And) = Some b.And
operator_of (symbol s.Ampersand) = Some b.And
operator_of (symbol s.Equal) = Some b.Equal
operator_of (symbol s.Unequal) = Some b.Unequal
operator_of (symbol s.Less) = Some b.Less
operator_of (symbol s.Greater) = Some b.Greater
operator_of (symbol s.AtMost) = Some b.AtMost
operator_of (symbol s.AtLeast) = Some b.AtLeast
operator_of (symbol s.Plus) = Some b.Add
operator_of (symbol s.Minus) = Some b.Subtract
operator_of (symbol s.Times) = Some b.Multiply
operator_of (symbol s.Divide) = Some b.Divide
operator_of (keyword k.Mod) = Some b.Mod
operator_of _ = None

-- how tightly an operator binds, 1 the least; operators of one level group from the left
abbrev pub level_of : Binary → ℕ
level_of b.Or = 1
level_of b.Xor = 2
level_of b.And = 3
level_of b.Equal = 4
level_of b.Unequal = 4
level_of b.Less = 5
level_of b.Greater = 5
level_of b.AtMost = 5
level_of b.AtLeast = 5
level_of b.Add = 6
level_of b.AddTime = 6
level_of b.Subtract = 6
level_of b.SubtractTime = 6
level_of b.Multiply = 7
level_of b.Divide = 7
level_of b.Mod = 7

-- tighter than each operator between operands
abbrev pub top : ℕ
top = 8

-- a minus directly before an integer, which is one literal with it
abbrev pub begins_negative : List Lexeme → Bool
begins_negative (symbol s.Minus ∷ integer n ∷ ts) = true
begins_negative _ = false

-- an integer in parentheses is a DINT, and no longer an integer without a kind
abbrev pub in_parentheses : PlainExpr (List ℕ) → PlainExpr (List ℕ)
in_parentheses (literal (Integer n)) = literal (Value (value.Dint n))
in_parentheses e = e

-- the bounds of an array where no declaration is known: 0 to 0
abbrev pub unknown_bounds : Bounds
unknown_bounds = record { low = pos 0; high = pos 0 }

-- an expression: P says which lexemes spell its parts, at which level
pub data Production (P : ℕ → List Lexeme → PlainExpr (List ℕ) → Type 0) (level : ℕ) (ts : List Lexeme) (e : PlainExpr (List ℕ)) : Type 0 where
  constant : (t : Lexeme) → literal_of t ≡ Some e → ts ≡ t ∷ [] → Production P level ts e
  negative : (n : ℕ) → n ≤ 2147483648 → ts ≡ symbol s.Minus ∷ integer n ∷ [] → e ≡ literal (Value (value.Dint (neg_ℤ (pos n)))) → Production P level ts e
  variable : (name : List ℕ) → ts ≡ word name ∷ [] → e ≡ read name → Production P level ts e
  output : (name part : List ℕ) → ts ≡ word name ∷ symbol s.Point ∷ word part ∷ [] → e ≡ output_of name part → Production P level ts e
  indexed : (name : List ℕ) (a : PlainExpr (List ℕ)) (x : List Lexeme) → ts ≡ word name ∷ symbol s.OpenBracket ∷ (x ++ symbol s.CloseBracket ∷ []) → e ≡ element name unknown_bounds a → P 0 x a → Production P level ts e
  parens : (a : PlainExpr (List ℕ)) (x : List Lexeme) → ts ≡ symbol s.Open ∷ (x ++ symbol s.Close ∷ []) → e ≡ in_parentheses a → P 0 x a → Production P level ts e
  before_operand : (t : Lexeme) (op : Unary) (a : PlainExpr (List ℕ)) (x : List Lexeme) → prefix_of t ≡ Some op → begins_negative ts ≡ false → ts ≡ t ∷ x → e ≡ unary op a → P top x a → Production P level ts e
  between_operands : (t : Lexeme) (op : Binary) (a c : PlainExpr (List ℕ)) (x y : List Lexeme) → operator_of t ≡ Some op → level ≤ level_of op → ts ≡ x ++ t ∷ y → e ≡ binary op a c → P (level_of op) x a → P (level_of op + 1) y c → Production P level ts e

-- within a depth: each parenthesis, each element and each operator is one deeper than its parts
abbrev pub SpellsExpr : ℕ → ℕ → List Lexeme → PlainExpr (List ℕ) → Type 0
SpellsExpr zero level ts e = ⊥
SpellsExpr (suc depth) level ts e = Production (SpellsExpr depth) level ts e

-- the lexemes spell the expression, which is at most 128 deep
unfoldable pub IsExpression : List Lexeme → PlainExpr (List ℕ) → Type 0
IsExpression ts e = SpellsExpr 128 0 ts e
