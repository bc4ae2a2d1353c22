-- The phrase at the front of lexemes, and the lexemes after it: single lexemes, lists of phrases, and expressions.
use Rattle.std.specs.Prelude.{ℕ, zero, suc, ◌+◌, max, nat_le, pos, Bool, true, false, List, [], ◌∷◌, ◌++◌, drop, length, Option, Some, None, if◌then◌else◌}
use Rattle.std.proofs.Common.{neg_ℤ}
use denote.Enum.Bare.{sameb}
use Rattle.plant_types.specs.Options.{◌>>=◌}
use Rattle.plant_types.specs.declared.values.Value.TheVariants as value
use Rattle.st_lexer.specs.contracts.token.Keyword.{the_type as keyword_type}
use Rattle.st_lexer.specs.contracts.token.Symbol.{the_type as symbol_type}
use Rattle.st_lexer.specs.declared.token.Keyword.{Keyword}
use Rattle.st_lexer.specs.declared.token.Keyword.TheVariants as k
use Rattle.st_lexer.specs.declared.token.Symbol.{Symbol}
use Rattle.st_lexer.specs.declared.token.Symbol.TheVariants as s
use Rattle.st_tree.specs.declared.tree.Binary.{Binary}
use Rattle.st_tree.specs.declared.tree.Literal.TheVariants.{Value}
use Rattle.st_tree.specs.declared.tree.Unary.{Unary}
use Rattle.st_tree.specs.declared.tree.Unary.TheVariants as u
use Rattle.st_tree.specs.Plain.{PlainExpr, literal, read, output_of, element, unary, binary}
use Rattle.st_expressions.specs.Lexemes.{Lexeme, word, keyword, integer, symbol}
use Rattle.st_expressions.specs.Grammar.{literal_of, operator_of, level_of, top, in_parentheses, unknown_bounds}

-- ---- single lexemes
abbrev pub word_at : List Lexeme → Option (List ℕ × List Lexeme)
word_at (word name ∷ ts) = Some (name, ts)
word_at _ = None

-- whether this symbol, this keyword, a word is next
abbrev pub is_symbol : Symbol → List Lexeme → Bool
is_symbol wanted (symbol found ∷ ts) = sameb symbol_type found wanted
is_symbol wanted _ = false

abbrev pub is_keyword : Keyword → List Lexeme → Bool
is_keyword wanted (keyword found ∷ ts) = sameb keyword_type found wanted
is_keyword wanted _ = false

abbrev pub is_word : List Lexeme → Bool
is_word (word name ∷ ts) = true
is_word _ = false

abbrev pub symbol_at : Symbol → List Lexeme → Option (List Lexeme)
symbol_at wanted ts = if is_symbol wanted ts then Some (drop 1 ts) else None

abbrev pub keyword_at : Keyword → List Lexeme → Option (List Lexeme)
keyword_at wanted ts = if is_keyword wanted ts then Some (drop 1 ts) else None

-- ---- phrases of phrases
abbrev pub ahead : {A : Type 0} → A → List A × List Lexeme → Option (List A × List Lexeme)
ahead a more = Some (a ∷ more.0, more.1)

-- what was found before, and then what is found after it
abbrev pub with_first : {A : Type 0} → List A → Option (List A × List Lexeme) → Option (List A × List Lexeme)
with_first before None = None
with_first before (Some more) = Some (before ++ more.0, more.1)

module _ {A : Type 0} (starts : List Lexeme → Bool) (one_at : List Lexeme → Option (A × List Lexeme)) where
  -- one after another; each takes at least one lexeme
  abbrev pub many : ℕ → List Lexeme → Option (List A × List Lexeme)
  many zero ts = if starts ts then None else Some ([], ts)
  many (suc fuel) ts = if starts ts then (one_at ts >>= λ a. many fuel a.1 >>= ahead a.0) else Some ([], ts)

  -- as many as there are
  abbrev pub all_at : List Lexeme → Option (List A × List Lexeme)
  all_at ts = many (length ts) ts

  abbrev pub perhaps_at : List Lexeme → Option (Option A × List Lexeme)
  perhaps_at ts = if starts ts then (one_at ts >>= λ a. Some (Some a.0, a.1)) else Some (None, ts)

abbrev pub after_symbol : {A : Type 0} → Symbol → (List Lexeme → Option (A × List Lexeme)) → List Lexeme → Option (A × List Lexeme)
after_symbol wanted one_at ts = symbol_at wanted ts >>= one_at

abbrev pub after_keyword : {A : Type 0} → Keyword → (List Lexeme → Option (A × List Lexeme)) → List Lexeme → Option (A × List Lexeme)
after_keyword wanted one_at ts = keyword_at wanted ts >>= one_at

abbrev pub others_at : {A : Type 0} → (List Lexeme → Option (A × List Lexeme)) → List Lexeme → Option (List A × List Lexeme)
others_at one_at ts = all_at (is_symbol s.Comma) (after_symbol s.Comma one_at) ts

abbrev pub listed_at : {A : Type 0} → (List Lexeme → Option (A × List Lexeme)) → List Lexeme → Option (List A × List Lexeme)
listed_at one_at ts = one_at ts >>= λ a. with_first (a.0 ∷ []) (others_at one_at a.1)

-- what a table has for the next lexeme
abbrev pub table_next : {A : Type 0} → (Lexeme → Option A) → List Lexeme → Option A
table_next table [] = None
table_next table (t ∷ ts) = table t

abbrev pub table_at : {A : Type 0} → (Lexeme → Option A) → List Lexeme → Option (A × List Lexeme)
table_at table ts = table_next table ts >>= λ a. Some (a, drop 1 ts)

-- ---- expressions: the tree, its depth, and the lexemes after it
abbrev pub Answer : Type 0
Answer = Option (PlainExpr (List ℕ) × ℕ × List Lexeme)

-- the operator, where it may stand at the level
abbrev pub if_allowed : ℕ → Option Binary → Option Binary
if_allowed level None = None
if_allowed level (Some op) = if nat_le level (level_of op) then Some op else None

-- the operator at the front
abbrev pub operator_at : ℕ → List Lexeme → Option Binary
operator_at level [] = None
operator_at level (t ∷ ts) = if_allowed level (operator_of t)

abbrev pub prefixed : Unary → Answer → Answer
prefixed op None = None
prefixed op (Some r) = Some (unary op r.0, r.1 + 1, r.2)

-- an expression in parentheses, once its closing parenthesis is found
abbrev pub close_group : PlainExpr (List ℕ) → ℕ → Option (List Lexeme) → Answer
close_group e n None = None
close_group e n (Some ts) = Some (in_parentheses e, n + 1, ts)

-- an element of an array, once its closing bracket is found
abbrev pub close_index : List ℕ → PlainExpr (List ℕ) → ℕ → Option (List Lexeme) → Answer
close_index name e n None = None
close_index name e n (Some ts) = Some (element name unknown_bounds e, n + 1, ts)

-- a literal that a lexeme is by itself
abbrev pub constant_at : Option (PlainExpr (List ℕ)) → List Lexeme → Answer
constant_at None ts = None
constant_at (Some e) ts = Some (e, 1, ts)

-- after the name of an instance and a point
abbrev pub part_at : List ℕ → List Lexeme → Answer
part_at name ts = word_at ts >>= λ part. Some (output_of name part.0, 1, part.1)

-- after the name of an array and a bracket
abbrev pub index_at : (ℕ → List Lexeme → Answer) → List ℕ → List Lexeme → Answer
index_at inner name ts = inner 0 ts >>= λ r. close_index name r.0 r.1 (symbol_at s.CloseBracket r.2)

-- after a word that no point follows
abbrev pub variable_at : (ℕ → List Lexeme → Answer) → List ℕ → List Lexeme → Answer
variable_at inner name ts = if is_symbol s.OpenBracket ts then index_at inner name (drop 1 ts) else Some (read name, 1, ts)

-- after a word
abbrev pub reference_at : (ℕ → List Lexeme → Answer) → List ℕ → List Lexeme → Answer
reference_at inner name ts = if is_symbol s.Point ts then part_at name (drop 1 ts) else variable_at inner name ts

-- after a minus
abbrev pub minus_at : (ℕ → List Lexeme → Answer) → List Lexeme → Answer
minus_at inner (integer n ∷ ts) = if nat_le n 2147483648 then Some (literal (Value (value.Dint (neg_ℤ (pos n)))), 1, ts) else None
minus_at inner [] = prefixed u.Negate (inner top [])
minus_at inner (t ∷ ts) = prefixed u.Negate (inner top (t ∷ ts))

unfoldable pub operand : (ℕ → List Lexeme → Answer) → List Lexeme → Answer
operand inner [] = None
operand inner (word name ∷ ts) = reference_at inner name ts
operand inner (keyword k.Not ∷ ts) = prefixed u.Not (inner top ts)
operand inner (symbol s.Minus ∷ ts) = minus_at inner ts
operand inner (symbol s.Open ∷ ts) = inner 0 ts >>= λ r. close_group r.0 r.1 (symbol_at s.Close r.2)
operand inner (t ∷ ts) = constant_at (literal_of t) ts

abbrev pub go_on : Answer → Option Binary → (Binary → Answer) → Answer
go_on stop None more = stop
go_on stop (Some op) more = more op

module _ (inner : ℕ → List Lexeme → Answer) (deeper level : ℕ) where
  -- the operators of this level and above, with their right operands; each makes the tree one deeper
  abbrev pub chain : ℕ → PlainExpr (List ℕ) → ℕ → List Lexeme → Answer
  chain zero e n ts = None
  chain (suc fuel) e n ts = go_on (Some (e, n, ts)) (operator_at level ts) (λ op.
      if nat_le n deeper then (inner (level_of op + 1) (drop 1 ts) >>= λ r. chain fuel (binary op e r.0) (max n r.1 + 1) r.2) else None)

-- within the depth
abbrev pub climb : ℕ → ℕ → List Lexeme → Answer
climb zero level ts = None
climb (suc d) level ts = operand (climb d) ts >>= λ r. chain (climb d) d level (suc d) r.0 r.1 r.2

-- without its depth
abbrev pub tree_of : Answer → Option (PlainExpr (List ℕ) × List Lexeme)
tree_of None = None
tree_of (Some r) = Some (r.0, r.2)

unfoldable pub expression_at : List Lexeme → Option (PlainExpr (List ℕ) × List Lexeme)
expression_at ts = tree_of (climb 128 0 ts)
