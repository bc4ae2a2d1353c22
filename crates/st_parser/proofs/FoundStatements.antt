-- Statements that are read are spelled.
use Rattle.std.proofs.Common.{◌≡◌, ℕ, zero, suc, ◌≤◌, nat_le, ℤ, pos, neg_ℤ, Bool, true, false, List, [], ◌∷◌, ◌++◌, append_assoc, drop, Option, Some, None, unwrap_or, refl, sym, ap, ◌∙◌, subst, arith, cond, inl, inr}
use Rattle.std.proofs.lemmas.Bool.Decides.{nat_tests}
use Rattle.st_lexer.specs.declared.token.Keyword.TheVariants as k
use Rattle.st_lexer.specs.declared.token.Symbol.TheVariants as s
use Rattle.st_tree.specs.declared.tree.Label.{Label}
use Rattle.st_tree.specs.Plain.{PlainExpr, PlainArgument, input, output, PlainStmt, PlainBody, empty, assign, store, call, if_else, case_of, for_to, done}
use Rattle.st_tree.specs.View.{body_of, branches_of, choices_of}
use Rattle.st_expressions.specs.Lexemes.{Lexeme, word, keyword, integer, symbol}
use Rattle.st_expressions.specs.Phrases.{Each, Perhaps, After}
use Rattle.st_expressions.specs.Grammar.{unknown_bounds, IsExpression}
use Rattle.st_parser.specs.Statements.{IsArgument, for_input, for_output, Arguments, none, some, IsNumber, plain, negative, IsLabel, range, IsBranch, test, IsChoice, labelled, Otherwise, nothing, instead, Statement, bare, assignment, storing, calling, branching, selecting, repeating, Ended, ended, Sequence, sequence, SpellsStmt, IsBody}
use Rattle.st_expressions.specs.Reading.{word_at, is_symbol, is_keyword, symbol_at, keyword_at, all_at, perhaps_at, after_symbol, after_keyword, listed_at, expression_at}
use Rattle.st_parser.specs.ReadingStatements.{taken_at, given_at, called_at, assigned_at, stored_at, targeted_at, argued_at, argument_at, arguments_at, negative_at, number_at, label_at, is_label, is_statement, simple_at, branch_at, choice_at, otherwise_at, branches_at, choices_at, if_at, case_at, bounds_at, header_at, for_at, stmt_at, ended_at, as_body, item_at, sequence_at, body_at}
use Rattle.st_expressions.proofs.Many.{Front, Finds, turned, with_first_some, all_found, perhaps_found, after_symbol_found, after_keyword_found, listed_found, three_parts}
use Rattle.st_expressions.proofs.Sound.{expression_found}
use Rattle.st_expressions.proofs.Steps.{true_or_false, bind_some, same_some, passed, word_found, symbol_found, keyword_found, next_is_symbol, next_is_keyword}

abbrev anything : List Lexeme → Bool
anything ts = true

-- the answer of a test, one way and the other
pub chosen : {A : Type 0} (b : Bool) (o p : Option A) (y : A) → b ≡ true → cond b o p ≡ Some y → o ≡ Some y
chosen b o p y is h = ap (λ z. cond z o p) (sym is) ∙ h

pub left_out : {A : Type 0} (b : Bool) (o p : Option A) (y : A) → b ≡ false → cond b o p ≡ Some y → p ≡ Some y
left_out b o p y is h = ap (λ z. cond z o p) (sym is) ∙ h

-- ---- calls
taken_found : (name : List ℕ) (ts : List Lexeme) (a : PlainArgument (List ℕ)) (rest : List Lexeme) → taken_at name ts ≡ Some (a, rest) → Front IsArgument (word name ∷ symbol s.Gives ∷ ts) a rest
taken_found name ts a rest h =
    let (target, was, is) = bind_some (word_at ts) _ (a, rest) h in
    let e1 = word_found ts target was in
    turned IsArgument (word name ∷ symbol s.Gives ∷ ts) (output name target.0, target.1) (a, rest) is record {
      front = word name ∷ symbol s.Gives ∷ word target.0 ∷ [];
      whole = ap (λ l. word name ∷ symbol s.Gives ∷ l) e1;
      spelled = for_output name target.0 refl refl;
    }

given_found : (name : List ℕ) (ts : List Lexeme) (a : PlainArgument (List ℕ)) (rest : List Lexeme) → given_at name ts ≡ Some (a, rest) → Front IsArgument (word name ∷ ts) a rest
given_found name ts a rest h =
    let (right, was_right, h1) = bind_some (symbol_at s.Becomes ts) _ (a, rest) h in
    let (e, was_e, is) = bind_some (expression_at right) _ (a, rest) h1 in
    let e1 = symbol_found s.Becomes ts right was_right in
    let f = expression_found right e.0 e.1 was_e in
    turned IsArgument (word name ∷ ts) (input name e.0, e.1) (a, rest) is record {
      front = word name ∷ symbol s.Becomes ∷ f.front;
      whole = ap (λ l. word name ∷ l) (e1 ∙ ap (λ l. symbol s.Becomes ∷ l) f.whole);
      spelled = for_input name e.0 f.front f.spelled refl refl;
    }

argued_found : (name : List ℕ) (ts : List Lexeme) (a : PlainArgument (List ℕ)) (rest : List Lexeme) → argued_at name ts ≡ Some (a, rest) → Front IsArgument (word name ∷ ts) a rest
unfolding argued_at
argued_found name ts a rest h =
    elim (true_or_false (is_symbol s.Gives ts)) as (λ _. Front IsArgument (word name ∷ ts) a rest) [
      | inl yes' ↦ subst (λ l. Front IsArgument (word name ∷ l) a rest) (sym (next_is_symbol s.Gives ts yes')) (taken_found name (drop 1 ts) a rest (chosen _ _ _ (a, rest) yes' h))
      | inr no' ↦ given_found name ts a rest (left_out _ _ _ (a, rest) no' h)
    ]

argument_found : Finds IsArgument argument_at
unfolding argument_at
argument_found ts a rest h =
    let (name, was_name, h1) = bind_some (word_at ts) _ (a, rest) h in
    subst (λ l. Front IsArgument l a rest) (sym (word_found ts name was_name)) (argued_found name.0 name.1 a rest h1)

arguments_found : Finds Arguments arguments_at
unfolding arguments_at
arguments_found ts all rest h =
    elim (true_or_false (is_symbol s.Close ts)) as (λ _. Front Arguments ts all rest) [
      | inl yes' ↦
          turned Arguments ts ([], ts) (all, rest) (chosen (is_symbol s.Close ts) (Some ([], ts)) (listed_at argument_at ts) (all, rest) yes' h) record { front = []; whole = refl; spelled = none refl refl }
      | inr no' ↦
          let f = listed_found IsArgument anything argument_at argument_found ts all rest (left_out (is_symbol s.Close ts) (Some ([], ts)) (listed_at argument_at ts) (all, rest) no' h) in
          record { front = f.front; whole = f.whole; spelled = some f.spelled }
    ]

-- ---- labels
negative_found : (ts : List Lexeme) (n : ℤ) (rest : List Lexeme) → negative_at ts ≡ Some (n, rest) → Front IsNumber (symbol s.Minus ∷ ts) n rest
negative_found (integer m ∷ ts) n rest h =
    let p = passed (nat_le m 2147483648) (Some (neg_ℤ (pos m), ts)) (n, rest) h in
    let was = p.0 in
    let small : m ≤ 2147483648 = grind (arith, nat_tests) in
    turned IsNumber (symbol s.Minus ∷ integer m ∷ ts) (neg_ℤ (pos m), ts) (n, rest) p.1 record { front = symbol s.Minus ∷ integer m ∷ []; whole = refl; spelled = negative m small refl refl }
negative_found [] n rest h = absurd (cc)
negative_found (_ ∷ ts) n rest h = absurd (cc)

pub number_found : Finds IsNumber number_at
unfolding number_at
number_found (integer m ∷ ts) n rest h =
    let p = passed (nat_le m 2147483647) (Some (pos m, ts)) (n, rest) h in
    let was = p.0 in
    let small : m ≤ 2147483647 = grind (arith, nat_tests) in
    turned IsNumber (integer m ∷ ts) (pos m, ts) (n, rest) p.1 record { front = integer m ∷ []; whole = refl; spelled = plain m small refl refl }
number_found (symbol s.Minus ∷ ts) n rest h = negative_found ts n rest h
number_found [] n rest h = absurd (cc)
number_found (_ ∷ ts) n rest h = absurd (cc)

label_found : Finds IsLabel label_at
unfolding label_at
label_found ts label rest h =
    let (low, was_low, h1) = bind_some (number_at ts) _ (label, rest) h in
    let (high, was_high, is) = bind_some (perhaps_at (is_symbol s.Range) (after_symbol s.Range number_at) low.1) _ (label, rest) h1 in
    let f = number_found ts low.0 low.1 was_low in
    let g = perhaps_found (After (symbol s.Range) IsNumber) (is_symbol s.Range) anything (after_symbol s.Range number_at) (after_symbol_found IsNumber anything number_at s.Range number_found) low.1 high.0 high.1 was_high in
    turned IsLabel ts (record { low = low.0; high = unwrap_or high.0 low.0 }, high.1) (label, rest) is record {
      front = f.front ++ g.front;
      whole = f.whole ∙ ap (λ l. f.front ++ l) g.whole ∙ sym (append_assoc f.front g.front high.1);
      spelled = range low.0 high.0 f.front g.front f.spelled g.spelled refl refl;
    }

-- ---- statements
-- the first value, the bound and the step of a FOR, where they are spelled
record Bounds (ts : List Lexeme) (all : PlainExpr (List ℕ) × PlainExpr (List ℕ) × Option (PlainExpr (List ℕ))) (rest : List Lexeme) : Type 0 where
  pub w : List Lexeme
  pub x : List Lexeme
  pub y : List Lexeme
  pub whole : ts ≡ w ++ keyword k.To ∷ (x ++ (y ++ rest))
  pub is_from : IsExpression w all.0
  pub is_to : IsExpression x all.1
  pub is_by : Perhaps (After (keyword k.By) IsExpression) y all.2

bounds_found : (ts : List Lexeme) (all : PlainExpr (List ℕ) × PlainExpr (List ℕ) × Option (PlainExpr (List ℕ))) (rest : List Lexeme) → bounds_at ts ≡ Some (all, rest) → Bounds ts all rest
unfolding bounds_at
bounds_found ts all rest h =
    let (from, was_from, h1) = bind_some (expression_at ts) _ (all, rest) h in
    let (up, was_up, h2) = bind_some (keyword_at k.To from.1) _ (all, rest) h1 in
    let (to, was_to, h3) = bind_some (expression_at up) _ (all, rest) h2 in
    let (by, was_by, is) = bind_some (perhaps_at (is_keyword k.By) (after_keyword k.By expression_at) to.1) _ (all, rest) h3 in
    let f = expression_found ts from.0 from.1 was_from in
    let e2 = keyword_found k.To from.1 up was_up in
    let t = expression_found up to.0 to.1 was_to in
    let b = perhaps_found (After (keyword k.By) IsExpression) (is_keyword k.By) anything (after_keyword k.By expression_at) (after_keyword_found IsExpression anything expression_at k.By expression_found) to.1 by.0 by.1 was_by in
    let here : Bounds ts (from.0, to.0, by.0) by.1 = record {
      w = f.front;
      x = t.front;
      y = b.front;
      whole = f.whole ∙ ap (λ l. f.front ++ l) (e2 ∙ ap (λ l. keyword k.To ∷ l) (t.whole ∙ ap (λ l. t.front ++ l) b.whole));
      is_from = f.spelled;
      is_to = t.spelled;
      is_by = b.spelled;
    } in
    subst (λ (r : (PlainExpr (List ℕ) × PlainExpr (List ℕ) × Option (PlainExpr (List ℕ))) × List Lexeme). Bounds ts r.0 r.1) (same_some _ _ is) here

-- what stands before the statements of a FOR, where it is spelled
record Header (ts : List Lexeme) (all : List ℕ × (PlainExpr (List ℕ) × PlainExpr (List ℕ) × Option (PlainExpr (List ℕ)))) (rest : List Lexeme) : Type 0 where
  pub w : List Lexeme
  pub x : List Lexeme
  pub y : List Lexeme
  pub whole : ts ≡ word all.0 ∷ symbol s.Becomes ∷ (w ++ keyword k.To ∷ (x ++ (y ++ keyword k.Do ∷ rest)))
  pub is_from : IsExpression w all.1.0
  pub is_to : IsExpression x all.1.1
  pub is_by : Perhaps (After (keyword k.By) IsExpression) y all.1.2

header_whole : (name : List ℕ) (f t b ts n right v rest : List Lexeme) → ts ≡ word name ∷ n → n ≡ symbol s.Becomes ∷ right → right ≡ f ++ keyword k.To ∷ (t ++ (b ++ v)) → v ≡ keyword k.Do ∷ rest
    → ts ≡ word name ∷ symbol s.Becomes ∷ (f ++ keyword k.To ∷ (t ++ (b ++ keyword k.Do ∷ rest)))
header_whole name f t b ts n right v rest e0 e1 e2 e3 = rw (e0, e1, e2, e3) refl

header_found : (ts : List Lexeme) (all : List ℕ × (PlainExpr (List ℕ) × PlainExpr (List ℕ) × Option (PlainExpr (List ℕ)))) (rest : List Lexeme) → header_at ts ≡ Some (all, rest) → Header ts all rest
unfolding header_at
header_found ts all rest h =
    let (name, was_name, h1) = bind_some (word_at ts) _ (all, rest) h in
    let (right, was_right, h2) = bind_some (symbol_at s.Becomes name.1) _ (all, rest) h1 in
    let (bounds, was_bounds, h3) = bind_some (bounds_at right) _ (all, rest) h2 in
    let (left, was_left, is) = bind_some (keyword_at k.Do bounds.1) _ (all, rest) h3 in
    let b = bounds_found right bounds.0 bounds.1 was_bounds in
    let here : Header ts (name.0, bounds.0) left = record {
      w = b.w;
      x = b.x;
      y = b.y;
      whole = header_whole name.0 b.w b.x b.y ts name.1 right bounds.1 left (word_found ts name was_name) (symbol_found s.Becomes name.1 right was_right) b.whole (keyword_found k.Do bounds.1 left was_left);
      is_from = b.is_from;
      is_to = b.is_to;
      is_by = b.is_by;
    } in
    subst (λ (r : (List ℕ × (PlainExpr (List ℕ) × PlainExpr (List ℕ) × Option (PlainExpr (List ℕ)))) × List Lexeme). Header ts r.0 r.1) (same_some _ _ is) here

for_whole : (name : List ℕ) (f t b g ts again w left : List Lexeme) → ts ≡ word name ∷ symbol s.Becomes ∷ (f ++ keyword k.To ∷ (t ++ (b ++ keyword k.Do ∷ again))) → again ≡ g ++ w → w ≡ keyword k.EndFor ∷ left
    → keyword k.For ∷ ts ≡ (keyword k.For ∷ word name ∷ symbol s.Becomes ∷ (f ++ keyword k.To ∷ (t ++ (b ++ keyword k.Do ∷ (g ++ keyword k.EndFor ∷ []))))) ++ left
for_whole name f t b g ts again w left e0 e1 e2 =
    rw (e0, e1, e2, append_assoc f (keyword k.To ∷ (t ++ (b ++ keyword k.Do ∷ (g ++ keyword k.EndFor ∷ [])))) left, append_assoc t (b ++ keyword k.Do ∷ (g ++ keyword k.EndFor ∷ [])) left, append_assoc b (keyword k.Do ∷ (g ++ keyword k.EndFor ∷ [])) left, append_assoc g (keyword k.EndFor ∷ []) left) refl

case_whole : (d x y o ts r inside u w left : List Lexeme) → ts ≡ d ++ r → r ≡ keyword k.Of ∷ inside → inside ≡ x ++ (y ++ u) → u ≡ o ++ w → w ≡ keyword k.EndCase ∷ left
    → keyword k.Case ∷ ts ≡ (keyword k.Case ∷ (d ++ keyword k.Of ∷ (x ++ (y ++ (o ++ keyword k.EndCase ∷ []))))) ++ left
case_whole d x y o ts r inside u w left e0 e1 e2 e3 e4 =
    rw (e0, e1, e2, e3, e4) (ap (λ l. keyword k.Case ∷ l) (sym (append_assoc d (keyword k.Of ∷ (x ++ (y ++ (o ++ keyword k.EndCase ∷ [])))) left ∙ ap (λ l. d ++ keyword k.Of ∷ l) (three_parts x y o (keyword k.EndCase) left))))

-- a first phrase, and others after it
record Led {A : Type 0} (Q R : List Lexeme → A → Type 0) (ts : List Lexeme) (all : List A) (rest : List Lexeme) : Type 0 where
  pub first : A
  pub others : List A
  pub x : List Lexeme
  pub y : List Lexeme
  pub whole : ts ≡ x ++ (y ++ rest)
  pub is_first : Q x first
  pub each : Each R y others
  pub is : all ≡ first ∷ others

led : {A : Type 0} (Q R : List Lexeme → A → Type 0) (ts : List Lexeme) (first : A) (r : List Lexeme) (others : List A) (u : List Lexeme) (all : List A) (rest : List Lexeme) → Front Q ts first r → Front (Each R) r others u → (let p : List A × List Lexeme = (first ∷ others, u) in p) ≡ (all, rest) → Led Q R ts all rest
led {A} Q R ts first r others u all rest f g is =
    let here : Led Q R ts (first ∷ others) u = record { first = first; others = others; x = f.front; y = g.front; whole = f.whole ∙ ap (λ l. f.front ++ l) g.whole; is_first = f.spelled; each = g.spelled; is = refl } in
    subst (λ (p : List A × List Lexeme). Led Q R ts p.0 p.1) is here

module _ (P : List Lexeme → PlainBody (List ℕ) → Type 0) (inner : List Lexeme → Option (PlainBody (List ℕ) × List Lexeme)) (finds : Finds P inner) where
  branch_found : Finds (IsBranch P) (branch_at inner)
  unfolding branch_at
  branch_found ts branch rest h =
      let (e, was_e, h1) = bind_some (expression_at ts) _ (branch, rest) h in
      let (inside, was_inside, h2) = bind_some (keyword_at k.Then e.1) _ (branch, rest) h1 in
      let (body, was_body, is) = bind_some (inner inside) _ (branch, rest) h2 in
      let f = expression_found ts e.0 e.1 was_e in
      let e1 = keyword_found k.Then e.1 inside was_inside in
      let g = finds inside body.0 body.1 was_body in
      turned (IsBranch P) ts ((e.0, body.0), body.1) (branch, rest) is record {
        front = f.front ++ keyword k.Then ∷ g.front;
        whole = f.whole ∙ ap (λ l. f.front ++ l) (e1 ∙ ap (λ l. keyword k.Then ∷ l) g.whole) ∙ sym (append_assoc f.front (keyword k.Then ∷ g.front) body.1);
        spelled = test e.0 body.0 f.front g.front f.spelled g.spelled refl refl;
      }

  choice_found : Finds (IsChoice P) (choice_at inner)
  unfolding choice_at
  choice_found ts choice rest h =
      let (labels, was_labels, h1) = bind_some (listed_at label_at ts) _ (choice, rest) h in
      let (inside, was_inside, h2) = bind_some (symbol_at s.Colon labels.1) _ (choice, rest) h1 in
      let (body, was_body, is) = bind_some (inner inside) _ (choice, rest) h2 in
      let f = listed_found IsLabel anything label_at label_found ts labels.0 labels.1 was_labels in
      let e1 = symbol_found s.Colon labels.1 inside was_inside in
      let g = finds inside body.0 body.1 was_body in
      turned (IsChoice P) ts ((labels.0, body.0), body.1) (choice, rest) is record {
        front = f.front ++ symbol s.Colon ∷ g.front;
        whole = f.whole ∙ ap (λ l. f.front ++ l) (e1 ∙ ap (λ l. symbol s.Colon ∷ l) g.whole) ∙ sym (append_assoc f.front (symbol s.Colon ∷ g.front) body.1);
        spelled = labelled labels.0 body.0 f.front g.front f.spelled g.spelled refl refl;
      }

  otherwise_found : Finds (Otherwise P) (otherwise_at inner)
  unfolding otherwise_at
  otherwise_found ts last rest h =
      elim (true_or_false (is_keyword k.Else ts)) as (λ _. Front (Otherwise P) ts last rest) [
        | inl yes' ↦
            let e1 = next_is_keyword k.Else ts yes' in
            let g = finds (drop 1 ts) last rest (chosen (is_keyword k.Else ts) (inner (drop 1 ts)) (Some (done, ts)) (last, rest) yes' h) in
            record { front = keyword k.Else ∷ g.front; whole = e1 ∙ ap (λ l. keyword k.Else ∷ l) g.whole; spelled = instead g.front refl g.spelled }
        | inr no' ↦
            turned (Otherwise P) ts (done, ts) (last, rest) (left_out (is_keyword k.Else ts) (inner (drop 1 ts)) (Some (done, ts)) (last, rest) no' h) record { front = []; whole = refl; spelled = nothing refl refl }
      ]

  -- branches, the first of which has nothing before it
  branches_found : (ts : List Lexeme) (branches : List (PlainExpr (List ℕ) × PlainBody (List ℕ))) (rest : List Lexeme) → branches_at inner ts ≡ Some (branches, rest) → Led (IsBranch P) (After (keyword k.Elsif) (IsBranch P)) ts branches rest
  unfolding branches_at
  branches_found ts branches rest h =
      let (first, was_first, h1) = bind_some (branch_at inner ts) _ (branches, rest) h in
      let (m, was_others, is) = with_first_some (first.0 ∷ []) (all_at (is_keyword k.Elsif) (after_keyword k.Elsif (branch_at inner)) first.1) (branches, rest) h1 in
      let f = branch_found ts first.0 first.1 was_first in
      let g = all_found (After (keyword k.Elsif) (IsBranch P)) (is_keyword k.Elsif) anything (after_keyword k.Elsif (branch_at inner)) (after_keyword_found (IsBranch P) anything (branch_at inner) k.Elsif branch_found) first.1 m.0 m.1 was_others in
      led (IsBranch P) (After (keyword k.Elsif) (IsBranch P)) ts first.0 first.1 m.0 m.1 branches rest f g is

  choices_found : (ts : List Lexeme) (choices : List (List Label × PlainBody (List ℕ))) (rest : List Lexeme) → choices_at inner ts ≡ Some (choices, rest) → Led (IsChoice P) (IsChoice P) ts choices rest
  unfolding choices_at
  choices_found ts choices rest h =
      let (first, was_first, h1) = bind_some (choice_at inner ts) _ (choices, rest) h in
      let (m, was_others, is) = with_first_some (first.0 ∷ []) (all_at is_label (choice_at inner) first.1) (choices, rest) h1 in
      let f = choice_found ts first.0 first.1 was_first in
      let g = all_found (IsChoice P) is_label anything (choice_at inner) choice_found first.1 m.0 m.1 was_others in
      led (IsChoice P) (IsChoice P) ts first.0 first.1 m.0 m.1 choices rest f g is

  if_found : (ts : List Lexeme) (stmt : PlainStmt (List ℕ)) (rest : List Lexeme) → if_at inner ts ≡ Some (stmt, rest) → Front (Statement P) (keyword k.If ∷ ts) stmt rest
  unfolding if_at
  if_found ts stmt rest h =
      let (branches, was_branches, h1) = bind_some (branches_at inner ts) _ (stmt, rest) h in
      let (last, was_last, h2) = bind_some (otherwise_at inner branches.1) _ (stmt, rest) h1 in
      let (left, was_left, is) = bind_some (keyword_at k.EndIf last.1) _ (stmt, rest) h2 in
      let b = branches_found ts branches.0 branches.1 was_branches in
      let o = otherwise_found branches.1 last.0 last.1 was_last in
      let e1 = keyword_found k.EndIf last.1 left was_left in
      turned (Statement P) (keyword k.If ∷ ts) (if_else 0 (branches_of branches.0) last.0, left) (stmt, rest) is record {
        front = keyword k.If ∷ (b.x ++ (b.y ++ (o.front ++ keyword k.EndIf ∷ [])));
        whole = ap (λ l. keyword k.If ∷ l) (b.whole ∙ ap (λ l. b.x ++ (b.y ++ l)) (o.whole ∙ ap (λ l. o.front ++ l) e1) ∙ sym (three_parts b.x b.y o.front (keyword k.EndIf) left));
        spelled = branching b.first b.others last.0 b.x b.y o.front b.is_first b.each o.spelled refl (ap (λ l. if_else 0 (branches_of l) last.0) b.is);
      }

  case_found : (ts : List Lexeme) (stmt : PlainStmt (List ℕ)) (rest : List Lexeme) → case_at inner ts ≡ Some (stmt, rest) → Front (Statement P) (keyword k.Case ∷ ts) stmt rest
  unfolding case_at
  case_found ts stmt rest h =
      let (e, was_e, h0) = bind_some (expression_at ts) _ (stmt, rest) h in
      let (inside, was_inside, h1) = bind_some (keyword_at k.Of e.1) _ (stmt, rest) h0 in
      let (choices, was_choices, h2) = bind_some (choices_at inner inside) _ (stmt, rest) h1 in
      let (last, was_last, h3) = bind_some (otherwise_at inner choices.1) _ (stmt, rest) h2 in
      let (left, was_left, is) = bind_some (keyword_at k.EndCase last.1) _ (stmt, rest) h3 in
      let d = expression_found ts e.0 e.1 was_e in
      let e0 = keyword_found k.Of e.1 inside was_inside in
      let b = choices_found inside choices.0 choices.1 was_choices in
      let o = otherwise_found choices.1 last.0 last.1 was_last in
      let e1 = keyword_found k.EndCase last.1 left was_left in
      turned (Statement P) (keyword k.Case ∷ ts) (case_of 0 e.0 (choices_of choices.0) last.0, left) (stmt, rest) is record {
        front = keyword k.Case ∷ (d.front ++ keyword k.Of ∷ (b.x ++ (b.y ++ (o.front ++ keyword k.EndCase ∷ []))));
        whole = case_whole d.front b.x b.y o.front ts e.1 inside choices.1 last.1 left d.whole e0 b.whole o.whole e1;
        spelled = selecting e.0 b.first b.others last.0 d.front b.x b.y o.front d.spelled b.is_first b.each o.spelled refl (ap (λ l. case_of 0 e.0 (choices_of l) last.0) b.is);
      }

  for_found : (ts : List Lexeme) (stmt : PlainStmt (List ℕ)) (rest : List Lexeme) → for_at inner ts ≡ Some (stmt, rest) → Front (Statement P) (keyword k.For ∷ ts) stmt rest
  unfolding for_at
  for_found ts stmt rest h =
      let (header, was_header, h1) = bind_some (header_at ts) _ (stmt, rest) h in
      let (body, was_body, h2) = bind_some (inner header.1) _ (stmt, rest) h1 in
      let (left, was_left, is) = bind_some (keyword_at k.EndFor body.1) _ (stmt, rest) h2 in
      let b = header_found ts header.0 header.1 was_header in
      let g = finds header.1 body.0 body.1 was_body in
      let e4 = keyword_found k.EndFor body.1 left was_left in
      turned (Statement P) (keyword k.For ∷ ts) (for_to 0 header.0.0 header.0.1.0 header.0.1.1 header.0.1.2 body.0, left) (stmt, rest) is record {
        front = keyword k.For ∷ word header.0.0 ∷ symbol s.Becomes ∷ (b.w ++ keyword k.To ∷ (b.x ++ (b.y ++ keyword k.Do ∷ (g.front ++ keyword k.EndFor ∷ []))));
        whole = for_whole header.0.0 b.w b.x b.y g.front ts header.1 body.1 left b.whole g.whole e4;
        spelled = repeating header.0.0 header.0.1.0 header.0.1.1 header.0.1.2 body.0 b.w b.x b.y g.front b.is_from b.is_to b.is_by g.spelled refl refl;
      }

  called_found : (name : List ℕ) (ts : List Lexeme) (stmt : PlainStmt (List ℕ)) (rest : List Lexeme) → called_at name ts ≡ Some (stmt, rest) → Front (Statement P) (word name ∷ symbol s.Open ∷ ts) stmt rest
  unfolding called_at
  called_found name ts stmt rest h =
      let (all, was_all, h1) = bind_some (arguments_at ts) _ (stmt, rest) h in
      let (left, was_left, is) = bind_some (symbol_at s.Close all.1) _ (stmt, rest) h1 in
      let f = arguments_found ts all.0 all.1 was_all in
      let e1 = symbol_found s.Close all.1 left was_left in
      turned (Statement P) (word name ∷ symbol s.Open ∷ ts) (call 0 name all.0, left) (stmt, rest) is record {
        front = word name ∷ symbol s.Open ∷ (f.front ++ symbol s.Close ∷ []);
        whole = ap (λ l. word name ∷ symbol s.Open ∷ l) (f.whole ∙ ap (λ l. f.front ++ l) e1 ∙ sym (append_assoc f.front (symbol s.Close ∷ []) left));
        spelled = calling name all.0 f.front f.spelled refl refl;
      }

  assigned_found : (name : List ℕ) (ts : List Lexeme) (stmt : PlainStmt (List ℕ)) (rest : List Lexeme) → assigned_at name ts ≡ Some (stmt, rest) → Front (Statement P) (word name ∷ ts) stmt rest
  unfolding assigned_at
  assigned_found name ts stmt rest h =
      let (right, was_right, h1) = bind_some (symbol_at s.Becomes ts) _ (stmt, rest) h in
      let (e, was_e, is) = bind_some (expression_at right) _ (stmt, rest) h1 in
      let e0 = symbol_found s.Becomes ts right was_right in
      let f = expression_found right e.0 e.1 was_e in
      turned (Statement P) (word name ∷ ts) (assign 0 name e.0, e.1) (stmt, rest) is record {
        front = word name ∷ symbol s.Becomes ∷ f.front;
        whole = ap (λ l. word name ∷ l) (e0 ∙ ap (λ l. symbol s.Becomes ∷ l) f.whole);
        spelled = assignment name e.0 f.front f.spelled refl refl;
      }

  stored_found : (name : List ℕ) (ts : List Lexeme) (stmt : PlainStmt (List ℕ)) (rest : List Lexeme) → stored_at name ts ≡ Some (stmt, rest) → Front (Statement P) (word name ∷ symbol s.OpenBracket ∷ ts) stmt rest
  unfolding stored_at
  stored_found name ts stmt rest h =
      let (index, was_index, h1) = bind_some (expression_at ts) _ (stmt, rest) h in
      let (closed, was_closed, h2) = bind_some (symbol_at s.CloseBracket index.1) _ (stmt, rest) h1 in
      let (right, was_right, h3) = bind_some (symbol_at s.Becomes closed) _ (stmt, rest) h2 in
      let (e, was_e, is) = bind_some (expression_at right) _ (stmt, rest) h3 in
      let f = expression_found ts index.0 index.1 was_index in
      let e1 = symbol_found s.CloseBracket index.1 closed was_closed in
      let e2 = symbol_found s.Becomes closed right was_right in
      let g = expression_found right e.0 e.1 was_e in
      turned (Statement P) (word name ∷ symbol s.OpenBracket ∷ ts) (store 0 name unknown_bounds index.0 e.0, e.1) (stmt, rest) is record {
        front = word name ∷ symbol s.OpenBracket ∷ (f.front ++ symbol s.CloseBracket ∷ symbol s.Becomes ∷ g.front);
        whole = ap (λ l. word name ∷ symbol s.OpenBracket ∷ l) (f.whole ∙ ap (λ l. f.front ++ l) (e1 ∙ ap (λ l. symbol s.CloseBracket ∷ l) (e2 ∙ ap (λ l. symbol s.Becomes ∷ l) g.whole)) ∙ sym (append_assoc f.front (symbol s.CloseBracket ∷ symbol s.Becomes ∷ g.front) e.1));
        spelled = storing name index.0 e.0 f.front g.front f.spelled g.spelled refl refl;
      }

  targeted_found : (name : List ℕ) (ts : List Lexeme) (stmt : PlainStmt (List ℕ)) (rest : List Lexeme) → targeted_at name ts ≡ Some (stmt, rest) → Front (Statement P) (word name ∷ ts) stmt rest
  unfolding targeted_at
  targeted_found name ts stmt rest h =
      elim (true_or_false (is_symbol s.OpenBracket ts)) as (λ _. Front (Statement P) (word name ∷ ts) stmt rest) [
        | inl yes' ↦ subst (λ l. Front (Statement P) (word name ∷ l) stmt rest) (sym (next_is_symbol s.OpenBracket ts yes')) (stored_found name (drop 1 ts) stmt rest (chosen _ _ _ (stmt, rest) yes' h))
        | inr no' ↦ assigned_found name ts stmt rest (left_out _ _ _ (stmt, rest) no' h)
      ]

  simple_found : (name : List ℕ) (ts : List Lexeme) (stmt : PlainStmt (List ℕ)) (rest : List Lexeme) → simple_at name ts ≡ Some (stmt, rest) → Front (Statement P) (word name ∷ ts) stmt rest
  unfolding simple_at
  simple_found name ts stmt rest h =
      elim (true_or_false (is_symbol s.Open ts)) as (λ _. Front (Statement P) (word name ∷ ts) stmt rest) [
        | inl yes' ↦ subst (λ l. Front (Statement P) (word name ∷ l) stmt rest) (sym (next_is_symbol s.Open ts yes')) (called_found name (drop 1 ts) stmt rest (chosen _ _ _ (stmt, rest) yes' h))
        | inr no' ↦ targeted_found name ts stmt rest (left_out _ _ _ (stmt, rest) no' h)
      ]

  statement_found : Finds (Statement P) (stmt_at inner)
  unfolding stmt_at
  statement_found (word name ∷ ts) stmt rest h = simple_found name ts stmt rest h
  statement_found (keyword k.If ∷ ts) stmt rest h = if_found ts stmt rest h
  statement_found (keyword k.Case ∷ ts) stmt rest h = case_found ts stmt rest h
  statement_found (keyword k.For ∷ ts) stmt rest h = for_found ts stmt rest h
  statement_found (symbol s.Semicolon ∷ ts) stmt rest h =
      turned (Statement P) (symbol s.Semicolon ∷ ts) (empty 0, symbol s.Semicolon ∷ ts) (stmt, rest) h record { front = []; whole = refl; spelled = bare refl refl }
  statement_found [] stmt rest h = absurd (cc)
  statement_found (_ ∷ ts) stmt rest h = absurd (cc)

  pub ended_found : Finds (Ended (Statement P)) (ended_at inner)
  unfolding ended_at
  ended_found ts stmt rest h =
      let (one', was, h1) = bind_some (stmt_at inner ts) _ (stmt, rest) h in
      let (left, was_left, is) = bind_some (symbol_at s.Semicolon one'.1) _ (stmt, rest) h1 in
      let f = statement_found ts one'.0 one'.1 was in
      let e1 = symbol_found s.Semicolon one'.1 left was_left in
      turned (Ended (Statement P)) ts (one'.0, left) (stmt, rest) is record {
        front = f.front ++ symbol s.Semicolon ∷ [];
        whole = f.whole ∙ ap (λ l. f.front ++ l) e1 ∙ sym (append_assoc f.front (symbol s.Semicolon ∷ []) left);
        spelled = ended f.front f.spelled refl;
      }

as_body_some : (o : Option (List (PlainStmt (List ℕ)) × List Lexeme)) (body : PlainBody (List ℕ)) (rest : List Lexeme) → as_body o ≡ Some (body, rest) → (all : List (PlainStmt (List ℕ))) × (o ≡ Some (all, rest)) × (body ≡ body_of all)
as_body_some None body rest h = absurd (cc)
as_body_some (Some r) body rest h =
    let is = same_some _ _ h in
    (r.0, ap (λ (q : PlainBody (List ℕ) × List Lexeme). Some (r.0, q.1)) is, sym (ap (λ (q : PlainBody (List ℕ) × List Lexeme). q.0) is))

sequence_finds : (d : ℕ) → Finds (Ended (SpellsStmt d)) (item_at d) → Finds (Sequence (SpellsStmt d)) (sequence_at d)
sequence_finds d items ts body rest h =
    let (all, was, is) = as_body_some (all_at is_statement (item_at d) ts) body rest h in
    let f = all_found (Ended (SpellsStmt d)) is_statement anything (item_at d) items ts all rest was in
    record { front = f.front; whole = f.whole; spelled = sequence all f.spelled is }

item_found : (d : ℕ) → Finds (Ended (SpellsStmt d)) (item_at d)
item_found zero ts stmt rest h = absurd (cc)
item_found (suc d) ts stmt rest h = ended_found (Sequence (SpellsStmt d)) (sequence_at d) (sequence_finds d (item_found d)) ts stmt rest h

pub body_found : Finds IsBody body_at
unfolding IsBody body_at
body_found ts body rest h = sequence_finds 64 (item_found 64) ts body rest h
