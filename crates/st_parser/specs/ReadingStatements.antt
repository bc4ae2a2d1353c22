-- The statements at the front of lexemes, and the lexemes after them.
use Rattle.std.specs.Prelude.{ℕ, zero, suc, nat_le, ℤ, pos, Bool, true, false, List, [], ◌∷◌, drop, Option, Some, None, if◌then◌else◌, unwrap_or}
use Rattle.std.proofs.Common.{neg_ℤ}
use Rattle.st_lexer.specs.declared.token.Keyword.TheVariants as k
use Rattle.st_lexer.specs.declared.token.Symbol.TheVariants as s
use Rattle.st_tree.specs.declared.tree.Label.{Label}
use Rattle.st_tree.specs.Plain.{PlainExpr, PlainArgument, input, output, PlainStmt, empty, assign, store, call, if_else, case_of, for_to, PlainBody, done}
use Rattle.st_tree.specs.View.{body_of, branches_of, choices_of}
use Rattle.st_expressions.specs.Grammar.{unknown_bounds}
use Rattle.st_expressions.specs.Lexemes.{Lexeme, word, keyword, integer, symbol}
use Rattle.plant_types.specs.Options.{◌>>=◌}
use Rattle.st_expressions.specs.Reading.{word_at, is_symbol, is_keyword, symbol_at, keyword_at, with_first, all_at, perhaps_at, after_symbol, after_keyword, listed_at, expression_at}

-- ---- calls
-- after an output's name and its arrow
abbrev pub taken_at : List ℕ → List Lexeme → Option (PlainArgument (List ℕ) × List Lexeme)
taken_at name ts = word_at ts >>= λ target. Some (output name target.0, target.1)

-- after an input's name
abbrev pub given_at : List ℕ → List Lexeme → Option (PlainArgument (List ℕ) × List Lexeme)
given_at name ts = symbol_at s.Becomes ts >>= λ right. expression_at right >>= λ e. Some (input name e.0, e.1)

-- after an argument's name
unfoldable pub argued_at : List ℕ → List Lexeme → Option (PlainArgument (List ℕ) × List Lexeme)
argued_at name ts = if is_symbol s.Gives ts then taken_at name (drop 1 ts) else given_at name ts

unfoldable pub argument_at : List Lexeme → Option (PlainArgument (List ℕ) × List Lexeme)
argument_at ts = word_at ts >>= λ name. argued_at name.0 name.1

unfoldable pub arguments_at : List Lexeme → Option (List (PlainArgument (List ℕ)) × List Lexeme)
arguments_at ts = if is_symbol s.Close ts then Some ([], ts) else listed_at argument_at ts

-- ---- labels
abbrev pub negative_at : List Lexeme → Option (ℤ × List Lexeme)
negative_at (integer n ∷ ts) = if nat_le n 2147483648 then Some (neg_ℤ (pos n), ts) else None
negative_at _ = None

unfoldable pub number_at : List Lexeme → Option (ℤ × List Lexeme)
number_at (integer n ∷ ts) = if nat_le n 2147483647 then Some (pos n, ts) else None
number_at (symbol s.Minus ∷ ts) = negative_at ts
number_at _ = None

unfoldable pub label_at : List Lexeme → Option (Label × List Lexeme)
label_at ts = number_at ts >>= λ low. perhaps_at (is_symbol s.Range) (after_symbol s.Range number_at) low.1 >>= λ high. Some (record { low = low.0; high = unwrap_or high.0 low.0 }, high.1)

-- whether a label is next
abbrev pub is_label : List Lexeme → Bool
is_label (integer n ∷ ts) = true
is_label (symbol s.Minus ∷ ts) = true
is_label _ = false

-- ---- statements
-- whether a statement or a bare semicolon is next
abbrev pub is_statement : List Lexeme → Bool
is_statement (word name ∷ ts) = true
is_statement (keyword k.If ∷ ts) = true
is_statement (keyword k.Case ∷ ts) = true
is_statement (keyword k.For ∷ ts) = true
is_statement (symbol s.Semicolon ∷ ts) = true
is_statement _ = false

-- after an instance's name and its parenthesis
unfoldable pub called_at : List ℕ → List Lexeme → Option (PlainStmt (List ℕ) × List Lexeme)
called_at name ts = arguments_at ts >>= λ all. symbol_at s.Close all.1 >>= λ rest. Some (call 0 name all.0, rest)

-- after a variable's name
unfoldable pub assigned_at : List ℕ → List Lexeme → Option (PlainStmt (List ℕ) × List Lexeme)
assigned_at name ts = symbol_at s.Becomes ts >>= λ right. expression_at right >>= λ e. Some (assign 0 name e.0, e.1)

-- after an array's name and its bracket
unfoldable pub stored_at : List ℕ → List Lexeme → Option (PlainStmt (List ℕ) × List Lexeme)
stored_at name ts =
    expression_at ts >>= λ index. symbol_at s.CloseBracket index.1 >>= λ closed. symbol_at s.Becomes closed >>= λ right. expression_at right >>= λ e. Some (store 0 name unknown_bounds index.0 e.0, e.1)

-- after a word that no parenthesis follows
unfoldable pub targeted_at : List ℕ → List Lexeme → Option (PlainStmt (List ℕ) × List Lexeme)
targeted_at name ts = if is_symbol s.OpenBracket ts then stored_at name (drop 1 ts) else assigned_at name ts

-- after a word
unfoldable pub simple_at : List ℕ → List Lexeme → Option (PlainStmt (List ℕ) × List Lexeme)
simple_at name ts = if is_symbol s.Open ts then called_at name (drop 1 ts) else targeted_at name ts

-- the first value, the bound and the step of a FOR
unfoldable pub bounds_at : List Lexeme → Option ((PlainExpr (List ℕ) × PlainExpr (List ℕ) × Option (PlainExpr (List ℕ))) × List Lexeme)
bounds_at ts = expression_at ts >>= λ from. keyword_at k.To from.1 >>= λ up. expression_at up >>= λ to. perhaps_at (is_keyword k.By) (after_keyword k.By expression_at) to.1 >>= λ by. Some ((from.0, to.0, by.0), by.1)

-- what stands after FOR and before its statements
unfoldable pub header_at : List Lexeme → Option ((List ℕ × (PlainExpr (List ℕ) × PlainExpr (List ℕ) × Option (PlainExpr (List ℕ)))) × List Lexeme)
header_at ts = word_at ts >>= λ name. symbol_at s.Becomes name.1 >>= λ right. bounds_at right >>= λ bounds. keyword_at k.Do bounds.1 >>= λ rest. Some ((name.0, bounds.0), rest)

-- inner finds a list of inner statements
module _ (inner : List Lexeme → Option (PlainBody (List ℕ) × List Lexeme)) where
  unfoldable pub branch_at : List Lexeme → Option ((PlainExpr (List ℕ) × PlainBody (List ℕ)) × List Lexeme)
  branch_at ts = expression_at ts >>= λ test. keyword_at k.Then test.1 >>= λ inside. inner inside >>= λ body. Some ((test.0, body.0), body.1)

  unfoldable pub choice_at : List Lexeme → Option ((List Label × PlainBody (List ℕ)) × List Lexeme)
  choice_at ts = listed_at label_at ts >>= λ labels. symbol_at s.Colon labels.1 >>= λ colon. inner colon >>= λ body. Some ((labels.0, body.0), body.1)

  unfoldable pub otherwise_at : List Lexeme → Option (PlainBody (List ℕ) × List Lexeme)
  otherwise_at ts = if is_keyword k.Else ts then inner (drop 1 ts) else Some (done, ts)

  -- the branches of an IF
  unfoldable pub branches_at : List Lexeme → Option (List (PlainExpr (List ℕ) × PlainBody (List ℕ)) × List Lexeme)
  branches_at ts = branch_at ts >>= λ first. with_first (first.0 ∷ []) (all_at (is_keyword k.Elsif) (after_keyword k.Elsif branch_at) first.1)

  -- the choices of a CASE
  unfoldable pub choices_at : List Lexeme → Option (List (List Label × PlainBody (List ℕ)) × List Lexeme)
  choices_at ts = choice_at ts >>= λ first. with_first (first.0 ∷ []) (all_at is_label choice_at first.1)

  -- after IF
  unfoldable pub if_at : List Lexeme → Option (PlainStmt (List ℕ) × List Lexeme)
  if_at ts = branches_at ts >>= λ branches. otherwise_at branches.1 >>= λ last. keyword_at k.EndIf last.1 >>= λ rest. Some (if_else 0 (branches_of branches.0) last.0, rest)

  -- after CASE
  unfoldable pub case_at : List Lexeme → Option (PlainStmt (List ℕ) × List Lexeme)
  case_at ts =
      expression_at ts >>= λ e. keyword_at k.Of e.1 >>= λ inside. choices_at inside >>= λ choices. otherwise_at choices.1 >>= λ last. keyword_at k.EndCase last.1 >>= λ rest.
      Some (case_of 0 e.0 (choices_of choices.0) last.0, rest)

  -- after FOR
  unfoldable pub for_at : List Lexeme → Option (PlainStmt (List ℕ) × List Lexeme)
  for_at ts = header_at ts >>= λ h. inner h.1 >>= λ body. keyword_at k.EndFor body.1 >>= λ rest. Some (for_to 0 h.0.0 h.0.1.0 h.0.1.1 h.0.1.2 body.0, rest)

  unfoldable pub stmt_at : List Lexeme → Option (PlainStmt (List ℕ) × List Lexeme)
  stmt_at (word name ∷ ts) = simple_at name ts
  stmt_at (keyword k.If ∷ ts) = if_at ts
  stmt_at (keyword k.Case ∷ ts) = case_at ts
  stmt_at (keyword k.For ∷ ts) = for_at ts
  stmt_at (symbol s.Semicolon ∷ ts) = Some (empty 0, symbol s.Semicolon ∷ ts)
  stmt_at _ = None

  -- a statement with its semicolon
  unfoldable pub ended_at : List Lexeme → Option (PlainStmt (List ℕ) × List Lexeme)
  ended_at ts = stmt_at ts >>= λ stmt. symbol_at s.Semicolon stmt.1 >>= λ rest. Some (stmt.0, rest)

abbrev pub as_body : Option (List (PlainStmt (List ℕ)) × List Lexeme) → Option (PlainBody (List ℕ) × List Lexeme)
as_body None = None
as_body (Some all) = Some (body_of all.0, all.1)

-- a statement with its semicolon, within the depth
abbrev pub item_at : ℕ → List Lexeme → Option (PlainStmt (List ℕ) × List Lexeme)
item_at zero ts = None
item_at (suc d) ts = ended_at (λ l. as_body (all_at is_statement (item_at d) l)) ts

-- statements, within the depth
abbrev pub sequence_at : ℕ → List Lexeme → Option (PlainBody (List ℕ) × List Lexeme)
sequence_at d ts = as_body (all_at is_statement (item_at d) ts)

unfoldable pub body_at : List Lexeme → Option (PlainBody (List ℕ) × List Lexeme)
body_at ts = sequence_at 64 ts
