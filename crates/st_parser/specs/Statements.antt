-- Which lexemes spell which statements.
use Rattle.std.specs.Prelude.{◌≡◌, ℕ, zero, suc, ◌≤◌, ℤ, pos, List, [], ◌∷◌, ◌++◌, Option, unwrap_or}
use Rattle.std.proofs.Common.{neg_ℤ}
use Rattle.st_lexer.specs.declared.token.Keyword.TheVariants as k
use Rattle.st_lexer.specs.declared.token.Symbol.TheVariants as s
use Rattle.st_tree.specs.declared.tree.Label.{Label}
use Rattle.st_tree.specs.Plain.{PlainExpr, PlainArgument, input, output, PlainStmt, empty, assign, store, call, if_else, case_of, for_to, PlainBody, done}
use Rattle.st_tree.specs.View.{body_of, branches_of, choices_of}
use Rattle.st_expressions.specs.Lexemes.{Lexeme, word, keyword, integer, symbol}
use Rattle.st_expressions.specs.Phrases.{Each, Perhaps, After, Listed}
use Rattle.st_expressions.specs.Grammar.{unknown_bounds, IsExpression}

-- ---- calls
-- an argument: a value for an input, or a variable for an output
pub data IsArgument (ts : List Lexeme) (a : PlainArgument (List ℕ)) : Type 0 where
  for_input : (name : List ℕ) (e : PlainExpr (List ℕ)) (x : List Lexeme) → IsExpression x e → ts ≡ word name ∷ symbol s.Becomes ∷ x → a ≡ input name e → IsArgument ts a
  for_output : (name target : List ℕ) → ts ≡ word name ∷ symbol s.Gives ∷ word target ∷ [] → a ≡ output name target → IsArgument ts a

-- the arguments of a call, none at all too
pub data Arguments (ts : List Lexeme) (all : List (PlainArgument (List ℕ))) : Type 0 where
  none : ts ≡ [] → all ≡ [] → Arguments ts all
  some : Listed IsArgument ts all → Arguments ts all

-- ---- labels
-- a whole number of a label or a bound, with its minus
pub data IsNumber (ts : List Lexeme) (n : ℤ) : Type 0 where
  plain : (m : ℕ) → m ≤ 2147483647 → ts ≡ integer m ∷ [] → n ≡ pos m → IsNumber ts n
  negative : (m : ℕ) → m ≤ 2147483648 → ts ≡ symbol s.Minus ∷ integer m ∷ [] → n ≡ neg_ℤ (pos m) → IsNumber ts n

-- a label: a number, or the range from one to another
pub data IsLabel (ts : List Lexeme) (label : Label) : Type 0 where
  range : (low : ℤ) (high : Option ℤ) (x y : List Lexeme) → IsNumber x low → Perhaps (After (symbol s.Range) IsNumber) y high → ts ≡ x ++ y → label ≡ record { low = low; high = unwrap_or high low } → IsLabel ts label

-- ---- statements
-- P says which lexemes spell a list of inner statements
module _ (P : List Lexeme → PlainBody (List ℕ) → Type 0) where
  -- a test and what is done
  pub data IsBranch (ts : List Lexeme) (branch : PlainExpr (List ℕ) × PlainBody (List ℕ)) : Type 0 where
    test : (e : PlainExpr (List ℕ)) (body : PlainBody (List ℕ)) (x y : List Lexeme) → IsExpression x e → P y body → ts ≡ x ++ keyword k.Then ∷ y → branch ≡ (e, body) → IsBranch ts branch

  -- labels and what is done
  pub data IsChoice (ts : List Lexeme) (choice : List Label × PlainBody (List ℕ)) : Type 0 where
    labelled : (labels : List Label) (body : PlainBody (List ℕ)) (x y : List Lexeme) → Listed IsLabel x labels → P y body → ts ≡ x ++ symbol s.Colon ∷ y → choice ≡ (labels, body) → IsChoice ts choice

  -- what is done else
  pub data Otherwise (ts : List Lexeme) (last : PlainBody (List ℕ)) : Type 0 where
    nothing : ts ≡ [] → last ≡ done → Otherwise ts last
    instead : (x : List Lexeme) → ts ≡ keyword k.Else ∷ x → P x last → Otherwise ts last

  -- a statement without its semicolon; its number is 0 until a body is numbered
  pub data Statement (ts : List Lexeme) (stmt : PlainStmt (List ℕ)) : Type 0 where
    bare : ts ≡ [] → stmt ≡ empty 0 → Statement ts stmt
    assignment : (name : List ℕ) (e : PlainExpr (List ℕ)) (x : List Lexeme) → IsExpression x e → ts ≡ word name ∷ symbol s.Becomes ∷ x → stmt ≡ assign 0 name e → Statement ts stmt
    storing : (name : List ℕ) (index value : PlainExpr (List ℕ)) (x y : List Lexeme) → IsExpression x index → IsExpression y value → ts ≡ word name ∷ symbol s.OpenBracket ∷ (x ++ symbol s.CloseBracket ∷ symbol s.Becomes ∷ y) → stmt ≡ store 0 name unknown_bounds index value → Statement ts stmt
    calling : (name : List ℕ) (all : List (PlainArgument (List ℕ))) (x : List Lexeme) → Arguments x all → ts ≡ word name ∷ symbol s.Open ∷ (x ++ symbol s.Close ∷ []) → stmt ≡ call 0 name all → Statement ts stmt
    branching : (first : PlainExpr (List ℕ) × PlainBody (List ℕ)) (others : List (PlainExpr (List ℕ) × PlainBody (List ℕ))) (last : PlainBody (List ℕ)) (x y z : List Lexeme) → IsBranch x first → Each (After (keyword k.Elsif) IsBranch) y others → Otherwise z last
        → ts ≡ keyword k.If ∷ (x ++ (y ++ (z ++ keyword k.EndIf ∷ []))) → stmt ≡ if_else 0 (branches_of (first ∷ others)) last → Statement ts stmt
    selecting : (e : PlainExpr (List ℕ)) (first : List Label × PlainBody (List ℕ)) (others : List (List Label × PlainBody (List ℕ))) (last : PlainBody (List ℕ)) (w x y z : List Lexeme) → IsExpression w e → IsChoice x first → Each IsChoice y others → Otherwise z last
        → ts ≡ keyword k.Case ∷ (w ++ keyword k.Of ∷ (x ++ (y ++ (z ++ keyword k.EndCase ∷ [])))) → stmt ≡ case_of 0 e (choices_of (first ∷ others)) last → Statement ts stmt
    repeating : (name : List ℕ) (from to : PlainExpr (List ℕ)) (by : Option (PlainExpr (List ℕ))) (body : PlainBody (List ℕ)) (w x y z : List Lexeme) → IsExpression w from → IsExpression x to → Perhaps (After (keyword k.By) IsExpression) y by → P z body
        → ts ≡ keyword k.For ∷ word name ∷ symbol s.Becomes ∷ (w ++ keyword k.To ∷ (x ++ (y ++ keyword k.Do ∷ (z ++ keyword k.EndFor ∷ [])))) → stmt ≡ for_to 0 name from to by body → Statement ts stmt

-- a statement with its semicolon
pub data Ended (Q : List Lexeme → PlainStmt (List ℕ) → Type 0) (ts : List Lexeme) (stmt : PlainStmt (List ℕ)) : Type 0 where
  ended : (x : List Lexeme) → Q x stmt → ts ≡ x ++ symbol s.Semicolon ∷ [] → Ended Q ts stmt

-- statements one after another
pub data Sequence (Q : List Lexeme → PlainStmt (List ℕ) → Type 0) (ts : List Lexeme) (body : PlainBody (List ℕ)) : Type 0 where
  sequence : (all : List (PlainStmt (List ℕ))) → Each (Ended Q) ts all → body ≡ body_of all → Sequence Q ts body

-- within a depth: each statement is one deeper than those inside it
abbrev pub SpellsStmt : ℕ → List Lexeme → PlainStmt (List ℕ) → Type 0
SpellsStmt zero ts stmt = ⊥
SpellsStmt (suc depth) ts stmt = Statement (Sequence (SpellsStmt depth)) ts stmt

-- the lexemes spell the statements, which are at most 64 deep
unfoldable pub IsBody : List Lexeme → PlainBody (List ℕ) → Type 0
IsBody ts body = Sequence (SpellsStmt 64) ts body
