-- Statements that are spelled are read.
use Rattle.std.proofs.Common.{◌≡◌, ℕ, zero, suc, ◌<◌, nat_le, ℤ, pos, neg_ℤ, Bool, true, false, not, List, [], ◌∷◌, ◌++◌, append_assoc, length, length-append, Option, Some, None, refl, sym, ap, ◌∙◌, arith, cond, ◌⊎◌, inl, inr}
use Rattle.std.proofs.lemmas.Bool.Decides.{nat_tests}
use Rattle.st_lexer.specs.declared.token.Keyword.TheVariants as k
use Rattle.st_lexer.specs.declared.token.Symbol.TheVariants as s
use Rattle.st_tree.specs.declared.tree.Label.{Label}
use Rattle.st_tree.specs.Plain.{PlainExpr, PlainArgument, PlainStmt, PlainBody, if_else, case_of, for_to}
use Rattle.st_tree.specs.View.{branches_of, choices_of}
use Rattle.st_expressions.specs.Lexemes.{Lexeme, word, keyword, integer, symbol}
use Rattle.st_expressions.specs.Phrases.{Each, Perhaps, absent, present, After, after, Listed, listed}
use Rattle.st_expressions.specs.Grammar.{IsExpression}
use Rattle.st_parser.specs.Statements.{IsArgument, for_input, for_output, Arguments, none, some, IsNumber, plain, negative, IsLabel, range, IsBranch, test, IsChoice, labelled, Otherwise, nothing, instead, Statement, bare, assignment, storing, calling, branching, selecting, repeating, Ended, ended, Sequence, sequence, SpellsStmt, IsBody}
use Rattle.st_expressions.specs.Reading.{is_symbol, is_keyword, after_symbol, after_keyword, expression_at}
use Rattle.st_parser.specs.ReadingStatements.{called_at, assigned_at, stored_at, targeted_at, argued_at, argument_at, arguments_at, number_at, label_at, is_label, is_statement, simple_at, branch_at, choice_at, otherwise_at, branches_at, choices_at, if_at, case_at, bounds_at, header_at, for_at, stmt_at, ended_at, as_body, item_at, sequence_at, body_at}
use Rattle.st_expressions.proofs.Complete.{ends, expression_read}
use Rattle.st_expressions.proofs.Many.{Reads, Begins, may_follow, all_read, perhaps_read, after_symbol_read, after_keyword_read, symbol_next, keyword_next, after_keyword_begins, listed_read, three_parts}

-- ---- calls
argument_read : Reads IsArgument argument_at ends
unfolding argument_at argued_at
argument_read x rest a (for_input name e y spelled is what) h = rw (is, expression_read y rest e spelled h, what) refl
argument_read x rest a (for_output name target is what) h = rw (is, what) refl

argument_begins : (x rest : List Lexeme) (a : PlainArgument (List ℕ)) → IsArgument x a → is_symbol s.Close (x ++ rest) ≡ false
argument_begins x rest a (for_input name e y spelled is what) = rw is refl
argument_begins x rest a (for_output name target is what) = rw is refl

arguments_begin : (x rest : List Lexeme) (all : List (PlainArgument (List ℕ))) → Listed IsArgument x all → is_symbol s.Close (x ++ rest) ≡ false
arguments_begin x rest all (listed a others y z first each is what) = rw (is, append_assoc y z rest) (argument_begins y (z ++ rest) a first)

pub arguments_read : (x rest : List Lexeme) (all : List (PlainArgument (List ℕ))) → Arguments x all → arguments_at (x ++ symbol s.Close ∷ rest) ≡ Some (all, symbol s.Close ∷ rest)
unfolding arguments_at
arguments_read x rest all (none is what) = rw (is, what) refl
arguments_read x rest all (some l) = rw (arguments_begin x (symbol s.Close ∷ rest) all l) (listed_read IsArgument ends argument_at argument_read (λ ts. refl) all x (symbol s.Close ∷ rest) l refl refl)

-- ---- labels
abbrev pub anything : List Lexeme → Bool
anything ts = true

pub number_read : Reads IsNumber number_at anything
unfolding number_at
number_read x rest n (plain m small is what) h =
    let so : nat_le m 2147483647 ≡ true = grind (arith, nat_tests) in
    rw (is, what) (ap (λ b. cond b (Some (pos m, rest)) None) so)
number_read x rest n (negative m small is what) h =
    let so : nat_le m 2147483648 ≡ true = grind (arith, nat_tests) in
    rw (is, what) (ap (λ b. cond b (Some (neg_ℤ (pos m), rest)) None) so)

-- what may stand after a label
abbrev label_ends : List Lexeme → Bool
label_ends (symbol s.Comma ∷ ts) = true
label_ends (symbol s.Colon ∷ ts) = true
label_ends _ = false

label_stops : (ts : List Lexeme) → label_ends ts ≡ true → is_symbol s.Range ts ≡ false
label_stops (symbol s.Comma ∷ ts) h = refl
label_stops (symbol s.Colon ∷ ts) h = refl
label_stops [] h = absurd (cc)
label_stops (_ ∷ ts) h = absurd (cc)

label_read : Reads IsLabel label_at label_ends
unfolding label_at
label_read x rest label (range low high y z first more is what) h =
    let high_read = perhaps_read (After (symbol s.Range) IsNumber) (is_symbol s.Range) anything (after_symbol s.Range number_at) (after_symbol_read IsNumber anything number_at s.Range number_read) (symbol_next IsNumber anything number_at s.Range) high z rest more refl (label_stops rest h) in
    rw (is, append_assoc y z rest, number_read y (z ++ rest) low first refl, high_read, what) refl

number_begins : (x : List Lexeme) (n : ℤ) → IsNumber x n → is_label x ≡ true
number_begins x n (plain m small is what) = rw is refl
number_begins x n (negative m small is what) = rw is refl

label_goes_on : (x rest : List Lexeme) → is_label x ≡ true → is_label (x ++ rest) ≡ true
label_goes_on (integer n ∷ x) rest h = refl
label_goes_on (symbol s.Minus ∷ x) rest h = refl
label_goes_on [] rest h = absurd (cc)
label_goes_on (_ ∷ x) rest h = absurd (cc)

label_begins : (x : List Lexeme) (label : Label) → IsLabel x label → is_label x ≡ true
label_begins x label (range low high y z first more is what) = rw is (label_goes_on y z (number_begins y low first))

labels_begin : (x : List Lexeme) (labels : List Label) → Listed IsLabel x labels → is_label x ≡ true
labels_begin x labels (listed a others y z first each is what) = rw is (label_goes_on y z (label_begins y a first))

-- ---- statements
-- where no statement is next
abbrev pub stops : List Lexeme → Bool
stops ts = not (is_statement ts)

opposite : (b : Bool) → not b ≡ true → b ≡ false
opposite true h = absurd (cc)
opposite false h = refl

stopped : (ts : List Lexeme) → stops ts ≡ true → is_statement ts ≡ false
stopped ts h = opposite (is_statement ts) h

label_is_none : (ts : List Lexeme) → is_label ts ≡ true → (stops ts ≡ true) × (0 < length ts)
label_is_none (integer n ∷ ts) h = (refl, omega arith)
label_is_none (symbol s.Minus ∷ ts) h = (refl, omega arith)
label_is_none [] h = absurd (cc)
label_is_none (_ ∷ ts) h = absurd (cc)

by_ends : (y rest : List Lexeme) (by : Option (PlainExpr (List ℕ))) → Perhaps (After (keyword k.By) IsExpression) y by → ends (y ++ keyword k.Do ∷ rest) ≡ true
by_ends y rest by (absent is what) = rw is refl
by_ends y rest by (present e (after x is spelled) what) = rw is refl

module _ (P : List Lexeme → PlainBody (List ℕ) → Type 0) (inner : List Lexeme → Option (PlainBody (List ℕ) × List Lexeme)) (reads : Reads P inner stops) where
  branch_read : Reads (IsBranch P) (branch_at inner) stops
  unfolding branch_at
  branch_read x rest branch (test e body y z spelled inside is what) h =
      rw (is, append_assoc y (keyword k.Then ∷ z) rest, expression_read y (keyword k.Then ∷ (z ++ rest)) e spelled refl, reads z rest body inside h, what) refl

  choice_read : Reads (IsChoice P) (choice_at inner) stops
  unfolding choice_at
  choice_read x rest choice (labelled labels body y z spelled inside is what) h =
      rw (is, append_assoc y (symbol s.Colon ∷ z) rest, listed_read IsLabel label_ends label_at label_read (λ ts. refl) labels y (symbol s.Colon ∷ (z ++ rest)) spelled refl refl, reads z rest body inside h, what) refl

  choice_begins : Begins (IsChoice P) is_label stops
  choice_begins x rest choice (labelled labels body y z spelled inside is what) =
      let front : is_label x ≡ true = rw is (label_goes_on y (symbol s.Colon ∷ z) (labels_begin y labels spelled)) in
      let here = label_goes_on x rest front in
      (here, (label_is_none (x ++ rest) here).0, (label_is_none x front).1)

  otherwise_read : (x rest : List Lexeme) (last : PlainBody (List ℕ)) → Otherwise P x last → stops rest ≡ true → is_keyword k.Else rest ≡ false → otherwise_at inner (x ++ rest) ≡ Some (last, rest)
  unfolding otherwise_at
  otherwise_read x rest last (nothing is what) h no' = rw (is, what, no') refl
  otherwise_read x rest last (instead y is inside) h no' = rw is (reads y rest last inside h)

  -- after the branches
  otherwise_if : (x rest : List Lexeme) (last : PlainBody (List ℕ)) → Otherwise P x last → (stops (x ++ keyword k.EndIf ∷ rest) ≡ true) × (is_keyword k.Elsif (x ++ keyword k.EndIf ∷ rest) ≡ false)
  otherwise_if x rest last (nothing is what) = (rw is refl, rw is refl)
  otherwise_if x rest last (instead y is inside) = (rw is refl, rw is refl)

  otherwise_case : (x rest : List Lexeme) (last : PlainBody (List ℕ)) → Otherwise P x last → (stops (x ++ keyword k.EndCase ∷ rest) ≡ true) × (is_label (x ++ keyword k.EndCase ∷ rest) ≡ false)
  otherwise_case x rest last (nothing is what) = (rw is refl, rw is refl)
  otherwise_case x rest last (instead y is inside) = (rw is refl, rw is refl)

  if_read : (x y z rest : List Lexeme) (first : PlainExpr (List ℕ) × PlainBody (List ℕ)) (others : List (PlainExpr (List ℕ) × PlainBody (List ℕ))) (last : PlainBody (List ℕ)) → IsBranch P x first → Each (After (keyword k.Elsif) (IsBranch P)) y others → Otherwise P z last
      → if_at inner (x ++ (y ++ (z ++ keyword k.EndIf ∷ rest))) ≡ Some (if_else 0 (branches_of (first ∷ others)) last, rest)
  unfolding if_at branches_at
  if_read x y z rest first others last is_first each is_last =
      let tail = z ++ keyword k.EndIf ∷ rest in
      let end' = otherwise_if z rest last is_last in
      let begins = after_keyword_begins (IsBranch P) stops (branch_at inner) k.Elsif (λ ts. refl) in
      let follows = may_follow (After (keyword k.Elsif) (IsBranch P)) (is_keyword k.Elsif) stops (after_keyword k.Elsif (branch_at inner)) begins others y tail each end'.0 in
      let all = all_read (After (keyword k.Elsif) (IsBranch P)) (is_keyword k.Elsif) stops (after_keyword k.Elsif (branch_at inner)) (after_keyword_read (IsBranch P) stops (branch_at inner) k.Elsif branch_read) begins others y tail each end'.0 end'.1 in
      rw (branch_read x (y ++ tail) first is_first follows, all, otherwise_read z (keyword k.EndIf ∷ rest) last is_last refl refl) refl

  case_read : (w x y z rest : List Lexeme) (e : PlainExpr (List ℕ)) (first : List Label × PlainBody (List ℕ)) (others : List (List Label × PlainBody (List ℕ))) (last : PlainBody (List ℕ)) → IsExpression w e → IsChoice P x first → Each (IsChoice P) y others → Otherwise P z last
      → case_at inner (w ++ keyword k.Of ∷ (x ++ (y ++ (z ++ keyword k.EndCase ∷ rest)))) ≡ Some (case_of 0 e (choices_of (first ∷ others)) last, rest)
  unfolding case_at choices_at
  case_read w x y z rest e first others last selector is_first each is_last =
      let tail = z ++ keyword k.EndCase ∷ rest in
      let end' = otherwise_case z rest last is_last in
      let follows = may_follow (IsChoice P) is_label stops (choice_at inner) choice_begins others y tail each end'.0 in
      let all = all_read (IsChoice P) is_label stops (choice_at inner) choice_read choice_begins others y tail each end'.0 end'.1 in
      rw (expression_read w (keyword k.Of ∷ (x ++ (y ++ tail))) e selector refl, choice_read x (y ++ tail) first is_first follows, all, otherwise_read z (keyword k.EndCase ∷ rest) last is_last refl refl) refl

  for_read : (name : List ℕ) (w x y z rest : List Lexeme) (from to : PlainExpr (List ℕ)) (by : Option (PlainExpr (List ℕ))) (body : PlainBody (List ℕ)) → IsExpression w from → IsExpression x to → Perhaps (After (keyword k.By) IsExpression) y by → P z body
      → for_at inner (word name ∷ symbol s.Becomes ∷ (w ++ keyword k.To ∷ (x ++ (y ++ keyword k.Do ∷ (z ++ keyword k.EndFor ∷ rest))))) ≡ Some (for_to 0 name from to by body, rest)
  unfolding for_at header_at bounds_at
  for_read name w x y z rest from to by body is_from is_to is_by is_body =
      let after_do = keyword k.Do ∷ (z ++ keyword k.EndFor ∷ rest) in
      let step = perhaps_read (After (keyword k.By) IsExpression) (is_keyword k.By) ends (after_keyword k.By expression_at) (after_keyword_read IsExpression ends expression_at k.By (λ x rest e p h. expression_read x rest e p h)) (keyword_next IsExpression ends expression_at k.By) by y after_do is_by refl refl in
      rw (expression_read w (keyword k.To ∷ (x ++ (y ++ after_do))) from is_from refl, expression_read x (y ++ after_do) to is_to (by_ends y (z ++ keyword k.EndFor ∷ rest) by is_by), step, reads z (keyword k.EndFor ∷ rest) body is_body refl) refl

  statement_read : (x rest : List Lexeme) (stmt : PlainStmt (List ℕ)) → Statement P x stmt → stmt_at inner (x ++ symbol s.Semicolon ∷ rest) ≡ Some (stmt, symbol s.Semicolon ∷ rest)
  unfolding stmt_at simple_at called_at targeted_at stored_at assigned_at
  statement_read x rest stmt (bare is what) = rw (is, what) refl
  statement_read x rest stmt (assignment name e y spelled is what) = rw (is, expression_read y (symbol s.Semicolon ∷ rest) e spelled refl, what) refl
  statement_read x rest stmt (storing name index value y z at to is what) =
      rw (is, append_assoc y (symbol s.CloseBracket ∷ symbol s.Becomes ∷ z) (symbol s.Semicolon ∷ rest), expression_read y (symbol s.CloseBracket ∷ symbol s.Becomes ∷ (z ++ symbol s.Semicolon ∷ rest)) index at refl, expression_read z (symbol s.Semicolon ∷ rest) value to refl, what) refl
  statement_read x rest stmt (calling name all y spelled is what) = rw (is, append_assoc y (symbol s.Close ∷ []) (symbol s.Semicolon ∷ rest), arguments_read y (symbol s.Semicolon ∷ rest) all spelled, what) refl
  statement_read x rest stmt (branching first others last y z w is_first each is_last is what) = rw (is, three_parts y z w (keyword k.EndIf) (symbol s.Semicolon ∷ rest), what) (if_read y z w (symbol s.Semicolon ∷ rest) first others last is_first each is_last)
  statement_read x rest stmt (selecting e first others last v y z w selector is_first each is_last is what) =
      rw (is, append_assoc v (keyword k.Of ∷ (y ++ (z ++ (w ++ keyword k.EndCase ∷ [])))) (symbol s.Semicolon ∷ rest), three_parts y z w (keyword k.EndCase) (symbol s.Semicolon ∷ rest), what) (case_read v y z w (symbol s.Semicolon ∷ rest) e first others last selector is_first each is_last)
  statement_read x rest stmt (repeating name from to by body w y z v is_from is_to is_by is_body is what) =
      let last = symbol s.Semicolon ∷ rest in
      rw (is, append_assoc w (keyword k.To ∷ (y ++ (z ++ keyword k.Do ∷ (v ++ keyword k.EndFor ∷ [])))) last, append_assoc y (z ++ keyword k.Do ∷ (v ++ keyword k.EndFor ∷ [])) last, append_assoc z (keyword k.Do ∷ (v ++ keyword k.EndFor ∷ [])) last, append_assoc v (keyword k.EndFor ∷ []) last, what)
      (for_read name w y z v last from to by body is_from is_to is_by is_body)

  pub ended_read : Reads (Ended (Statement P)) (ended_at inner) anything
  unfolding ended_at
  ended_read x rest stmt (ended y spelled is) h = rw (is, append_assoc y (symbol s.Semicolon ∷ []) rest, statement_read y rest stmt spelled) refl

begins_so : (P : List Lexeme → PlainBody (List ℕ) → Type 0) (x rest : List Lexeme) (stmt : PlainStmt (List ℕ)) → Statement P x stmt → is_statement (x ++ symbol s.Semicolon ∷ rest) ≡ true
begins_so P x rest stmt (bare is what) = rw is refl
begins_so P x rest stmt (assignment name e y spelled is what) = rw is refl
begins_so P x rest stmt (storing name index value y z at to is what) = rw is refl
begins_so P x rest stmt (calling name all y spelled is what) = rw is refl
begins_so P x rest stmt (branching first others last y z w is_first each is_last is what) = rw is refl
begins_so P x rest stmt (selecting e first others last v y z w selector is_first each is_last is what) = rw is refl
begins_so P x rest stmt (repeating name from to by body w y z v is_from is_to is_by is_body is what) = rw is refl

ended_begins : (P : List Lexeme → PlainBody (List ℕ) → Type 0) → Begins (Ended (Statement P)) is_statement anything
ended_begins P x rest stmt (ended y spelled is) =
    (rw (is, append_assoc y (symbol s.Semicolon ∷ []) rest) (begins_so P y rest stmt spelled), refl, (let q = ap length is in let r = length-append y (symbol s.Semicolon ∷ []) in omega arith))

item_begins : (d : ℕ) → Begins (Ended (SpellsStmt d)) is_statement anything
item_begins zero x rest stmt (ended y spelled is) = absurd spelled
item_begins (suc d) x rest stmt p = ended_begins (Sequence (SpellsStmt d)) x rest stmt p

sequence_reads : (d : ℕ) → Reads (Ended (SpellsStmt d)) (item_at d) anything → Reads (Sequence (SpellsStmt d)) (sequence_at d) stops
sequence_reads d items x rest body (sequence all each is) h =
    let read = all_read (Ended (SpellsStmt d)) is_statement anything (item_at d) items (item_begins d) all x rest each refl (stopped rest h) in
    ap as_body read ∙ ap (λ b. Some (b, rest)) (sym is)

item_read : (d : ℕ) → Reads (Ended (SpellsStmt d)) (item_at d) anything
item_read zero x rest stmt (ended y spelled is) h = absurd spelled
item_read (suc d) x rest stmt p h = ended_read (Sequence (SpellsStmt d)) (sequence_at d) (sequence_reads d (item_read d)) x rest stmt p h

pub body_read : Reads IsBody body_at stops
unfolding IsBody body_at
body_read x rest body p h = sequence_reads 64 (item_read 64) x rest body p h

-- a body is empty, or begins with a statement
pub body_begins : (y rest : List Lexeme) (body : PlainBody (List ℕ)) → IsBody y body → (y ≡ []) ⊎ (is_statement (y ++ rest) ≡ true)
unfolding IsBody
body_begins y rest body (sequence [] each is) = inl each
body_begins y rest body (sequence (stmt ∷ all) (x, z, whole, first, each) is) = inr (rw (whole, append_assoc x z rest) (item_begins 64 x (z ++ rest) stmt first).0)
