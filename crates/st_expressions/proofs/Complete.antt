-- An expression that is spelled is read.
use Rattle.std.proofs.Common.{◌≡◌, ℕ, zero, suc, ◌+◌, ◌<◌, ◌≤◌, max, nat_le, pos, neg_ℤ, List, [], ◌∷◌, ◌++◌, append_assoc, length, length-append, Option, Some, None, refl, sym, ap, ◌∙◌, arith, cond, Bool, true, false, inl, inr}
use Rattle.std.proofs.lemmas.Bool.Decides.{nat_tests}
use Rattle.plant_types.specs.declared.values.Value.TheVariants as value
use Rattle.st_lexer.specs.declared.token.Keyword.TheVariants as k
use Rattle.st_lexer.specs.declared.token.Symbol.TheVariants as s
use Rattle.st_tree.specs.declared.tree.Literal.TheVariants.{Value}
use Rattle.st_tree.specs.declared.tree.Unary.{Unary}
use Rattle.st_tree.specs.declared.tree.Unary.TheVariants as u
use Rattle.st_tree.specs.declared.tree.Binary.{Binary}
use Rattle.st_tree.specs.declared.tree.Binary.TheVariants as b
use Rattle.st_tree.specs.Plain.{PlainExpr, literal, read, output_of, element, unary}
use Rattle.st_expressions.specs.Lexemes.{Lexeme, word, keyword, integer, symbol}
use Rattle.st_expressions.specs.Grammar.{literal_of, prefix_of, operator_of, level_of, top, begins_negative, in_parentheses, unknown_bounds, constant, negative, variable, output, indexed, parens, before_operand, between_operands, SpellsExpr, IsExpression}
use Rattle.plant_types.specs.Options.{◌>>=◌}
use Rattle.st_expressions.specs.Reading.{Answer, operator_at, if_allowed, is_symbol, minus_at, constant_at, operand, prefixed, chain, climb, tree_of, expression_at}
use Rattle.st_expressions.proofs.Chain.{stops, goes}
use Rattle.st_expressions.proofs.Steps.{both_ways, same_some}

before : (n : ℕ) → 0 < n → (k : ℕ) × (n ≡ k + 1)
before zero h = absurd (omega arith)
before (suc n) h = (n, omega arith)

-- an operator that may not stand at a level may not stand at a higher one
no_tighter : (l k : ℕ) (o : Option Binary) → l ≤ k → if_allowed l o ≡ None → if_allowed k o ≡ None
no_tighter l k None le h = refl
no_tighter l k (Some op) le h =
    elim (both_ways l (level_of op)) as (λ _. if_allowed k (Some op) ≡ None) [
      | inl is ↦ absurd (let e : cond true (Some op) None ≡ None = ap (λ z. cond z (Some op) None) (sym is.0) ∙ h in cc)
      | inr is ↦ let no : nat_le k (level_of op) ≡ false = grind (arith, nat_tests) in ap (λ z. cond z (Some op) None) no
    ]

pub stops_more : (l k : ℕ) (ts : List Lexeme) → l ≤ k → operator_at l ts ≡ None → operator_at k ts ≡ None
stops_more l k [] le h = refl
stops_more l k (t ∷ ts) le h = no_tighter l k (operator_of t) le h

below_top : (op : Binary) → level_of op < top
below_top b.Multiply = omega arith
below_top b.Divide = omega arith
below_top b.Mod = omega arith
below_top b.Add = omega arith
below_top b.AddTime = omega arith
below_top b.Subtract = omega arith
below_top b.SubtractTime = omega arith
below_top b.Less = omega arith
below_top b.Greater = omega arith
below_top b.AtMost = omega arith
below_top b.AtLeast = omega arith
below_top b.Equal = omega arith
below_top b.Unequal = omega arith
below_top b.And = omega arith
below_top b.Xor = omega arith
below_top b.Or = omega arith

above_all : (l : ℕ) (o : Option Binary) → top ≤ l → if_allowed l o ≡ None
above_all l None h = refl
above_all l (Some op) h =
    let low = below_top op in
    let no : nat_le l (level_of op) ≡ false = grind (arith, nat_tests) in
    ap (λ z. cond z (Some op) None) no

pub stops_at_top : (l : ℕ) (ts : List Lexeme) → top ≤ l → operator_at l ts ≡ None
stops_at_top l [] h = refl
stops_at_top l (t ∷ ts) h = above_all l (operator_of t) h

pub starts_with : (l : ℕ) (t : Lexeme) (op : Binary) (ts : List Lexeme) → operator_of t ≡ Some op → l ≤ level_of op → operator_at l (t ∷ ts) ≡ Some op
starts_with l t op ts is h = ap (if_allowed l) is ∙ (let so : nat_le l (level_of op) ≡ true = grind (arith, nat_tests) in ap (λ z. cond z (Some op) None) so)

pub stops_above : (l : ℕ) (t : Lexeme) (op : Binary) (ts : List Lexeme) → operator_of t ≡ Some op → level_of op < l → operator_at l (t ∷ ts) ≡ None
stops_above l t op ts is h = ap (if_allowed l) is ∙ (let no : nat_le l (level_of op) ≡ false = grind (arith, nat_tests) in ap (λ z. cond z (Some op) None) no)

-- neither a point nor a bracket is next, with which a word goes on
abbrev pub Apart : List Lexeme → Type 0
Apart ts = (is_symbol s.Point ts ≡ false) × (is_symbol s.OpenBracket ts ≡ false)

-- no operator is a point or a bracket
operator_apart : (t : Lexeme) (op : Binary) (ts : List Lexeme) → operator_of t ≡ Some op → Apart (t ∷ ts)
operator_apart (symbol s.Point) op ts h = absurd (cc)
operator_apart (symbol s.OpenBracket) op ts h = absurd (cc)
operator_apart (symbol _) op ts h = (refl, refl)
operator_apart _ op ts h = (refl, refl)

-- what is spelled isn't empty
pub some_lexeme : (d l : ℕ) (ts : List Lexeme) (e : PlainExpr (List ℕ)) → SpellsExpr d l ts e → 0 < length ts
some_lexeme zero l ts e p = absurd p
some_lexeme (suc d) l ts e (constant t kind is) = let q = ap length is in omega arith
some_lexeme (suc d) l ts e (negative n small is tree) = let q = ap length is in omega arith
some_lexeme (suc d) l ts e (variable name is tree) = let q = ap length is in omega arith
some_lexeme (suc d) l ts e (output name part is tree) = let q = ap length is in omega arith
some_lexeme (suc d) l ts e (indexed name a x is tree p) = let q = ap length is in omega arith
some_lexeme (suc d) l ts e (parens a x is tree p) = let q = ap length is in omega arith
some_lexeme (suc d) l ts e (before_operand t op a x kind alone is tree p) = let q = ap length is in omega arith
some_lexeme (suc d) l ts e (between_operands t op a c x y kind tight is tree left right) = let q = ap length is in let r = length-append x (t ∷ y) in omega arith

constant_read : (inner : ℕ → List Lexeme → Answer) (t : Lexeme) (e : PlainExpr (List ℕ)) (ts : List Lexeme) → literal_of t ≡ Some e → operand inner (t ∷ ts) ≡ Some (e, 1, ts)
unfolding operand
constant_read inner (word name) e ts h = absurd (cc)
constant_read inner (keyword k.Not) e ts h = absurd (cc)
constant_read inner (symbol s.Minus) e ts h = absurd (cc)
constant_read inner (symbol s.Open) e ts h = absurd (cc)
constant_read inner (keyword w) e ts h = ap (λ o. constant_at o ts) h
constant_read inner (symbol w) e ts h = ap (λ o. constant_at o ts) h
constant_read inner t e ts h = ap (λ o. constant_at o ts) h

minus_read : (inner : ℕ → List Lexeme → Answer) (x rest : List Lexeme) → begins_negative (symbol s.Minus ∷ x) ≡ false → 0 < length x → minus_at inner (x ++ rest) ≡ prefixed u.Negate (inner top (x ++ rest))
minus_read inner [] rest alone some = absurd (omega arith)
minus_read inner (integer n ∷ x) rest alone some = absurd (cc)
minus_read inner (_ ∷ x) rest alone some = refl

prefix_read : (inner : ℕ → List Lexeme → Answer) (t : Lexeme) (op : Unary) (x rest : List Lexeme) → prefix_of t ≡ Some op → begins_negative (t ∷ x) ≡ false → 0 < length x → operand inner (t ∷ (x ++ rest)) ≡ prefixed op (inner top (x ++ rest))
unfolding operand
prefix_read inner (keyword k.Not) op x rest h alone some = ap (λ o. prefixed o (inner top (x ++ rest))) (same_some _ _ h)
prefix_read inner (symbol s.Minus) op x rest h alone some = minus_read inner x rest alone some ∙ ap (λ o. prefixed o (inner top (x ++ rest))) (same_some _ _ h)
prefix_read inner _ op x rest h alone some = absurd (cc)

parens_read : (inner : ℕ → List Lexeme → Answer) (e : PlainExpr (List ℕ)) (n : ℕ) (ts rest : List Lexeme) → inner 0 ts ≡ Some (e, n, symbol s.Close ∷ rest) → operand inner (symbol s.Open ∷ ts) ≡ Some (in_parentheses e, n + 1, rest)
unfolding operand
parens_read inner e n ts rest h = rw h refl

index_read : (inner : ℕ → List Lexeme → Answer) (name : List ℕ) (e : PlainExpr (List ℕ)) (n : ℕ) (ts rest : List Lexeme) → inner 0 ts ≡ Some (e, n, symbol s.CloseBracket ∷ rest) → operand inner (word name ∷ symbol s.OpenBracket ∷ ts) ≡ Some (element name unknown_bounds e, n + 1, rest)
unfolding operand
index_read inner name e n ts rest h = rw h refl

negative_read : (inner : ℕ → List Lexeme → Answer) (n : ℕ) (ts : List Lexeme) → n ≤ 2147483648 → operand inner (symbol s.Minus ∷ integer n ∷ ts) ≡ Some (literal (Value (value.Dint (neg_ℤ (pos n)))), 1, ts)
unfolding operand
negative_read inner n ts small = let so : nat_le n 2147483648 ≡ true = grind (arith, nat_tests) in ap (λ z. cond z (Some (literal (Value (value.Dint (neg_ℤ (pos n)))), 1, ts)) None) so

variable_read : (inner : ℕ → List Lexeme → Answer) (name : List ℕ) (ts : List Lexeme) → Apart ts → operand inner (word name ∷ ts) ≡ Some (read name, 1, ts)
unfolding operand
variable_read inner name ts alone = rw (alone.0, alone.1) refl

-- the expression is found, and its operators come next
pub record Reached (limit level : ℕ) (all : List Lexeme) (e : PlainExpr (List ℕ)) (rest : List Lexeme) (depth : ℕ) : Type 0 where
  pub deeper : ℕ
  pub below : limit ≡ suc deeper
  pub seen : ℕ
  pub fuel : ℕ
  pub shallow : seen ≤ depth
  pub room : limit < seen + fuel
  pub is : climb limit level all ≡ chain (climb deeper) deeper level fuel e seen rest

-- where nothing goes on
pub record Whole (limit level : ℕ) (all : List Lexeme) (e : PlainExpr (List ℕ)) (rest : List Lexeme) (depth : ℕ) : Type 0 where
  pub seen : ℕ
  pub shallow : seen ≤ depth
  pub is : climb limit level all ≡ Some (e, seen, rest)

pub whole : (limit level : ℕ) (all : List Lexeme) (e : PlainExpr (List ℕ)) (rest : List Lexeme) (depth : ℕ) → depth ≤ limit → operator_at level rest ≡ None → Reached limit level all e rest depth → Whole limit level all e rest depth
whole limit level all e rest depth le stop r =
    record { seen = r.seen; shallow = r.shallow; is = r.is ∙ stops (climb r.deeper) r.deeper level r.fuel e r.seen rest (let a = r.shallow in let b = r.room in omega arith) stop }

-- an operand of a depth that is read is the beginning of a chain
begun : (limit level : ℕ) (all : List Lexeme) (e : PlainExpr (List ℕ)) (rest : List Lexeme) (n depth : ℕ) → operand (climb limit) all ≡ Some (e, n, rest) → n ≤ depth → 0 < n → Reached (suc limit) level all e rest depth
begun limit level all e rest n depth is small some =
    record { deeper = limit; below = refl; seen = n; fuel = suc limit; shallow = small; room = omega arith; is = ap (λ (o : Answer). o >>= λ r. chain (climb limit) limit level (suc limit) r.0 r.1 r.2) is }

pub complete : (d limit m l : ℕ) (ts : List Lexeme) (e : PlainExpr (List ℕ)) (rest : List Lexeme) → d ≤ limit → l ≤ m → SpellsExpr d m ts e → operator_at (m + 1) rest ≡ None → Apart rest → Reached limit l (ts ++ rest) e rest d
complete zero limit m l ts e rest le lm p stop alone = absurd p
complete (suc d) zero m l ts e rest le lm p stop alone = absurd (omega arith)
complete (suc d) (suc limit) m l ts e rest le lm (constant t kind is) stop alone =
    rw is (begun limit l (t ∷ rest) e rest 1 (suc d) (constant_read (climb limit) t e rest kind) (omega arith) (omega arith))
complete (suc d) (suc limit) m l ts e rest le lm (negative n small is tree) stop alone =
    rw (is, tree) (begun limit l (symbol s.Minus ∷ integer n ∷ rest) (literal (Value (value.Dint (neg_ℤ (pos n))))) rest 1 (suc d) (negative_read (climb limit) n rest small) (omega arith) (omega arith))
complete (suc d) (suc limit) m l ts e rest le lm (variable name is tree) stop alone =
    rw (is, tree) (begun limit l (word name ∷ rest) (read name) rest 1 (suc d) (variable_read (climb limit) name rest alone) (omega arith) (omega arith))
complete (suc d) (suc limit) m l ts e rest le lm (output name part is tree) stop alone =
    rw (is, tree) (begun limit l (word name ∷ symbol s.Point ∷ word part ∷ rest) (output_of name part) rest 1 (suc d) (unfold operand in refl) (omega arith) (omega arith))
complete (suc d) (suc limit) m l ts e rest le lm (indexed name a x is tree inside) stop alone =
    let h : Reached limit 0 (x ++ symbol s.CloseBracket ∷ rest) a (symbol s.CloseBracket ∷ rest) d = complete d limit 0 0 x a (symbol s.CloseBracket ∷ rest) (omega arith) (omega arith) inside refl (refl, refl) in
    let w = whole limit 0 (x ++ symbol s.CloseBracket ∷ rest) a (symbol s.CloseBracket ∷ rest) d (omega arith) refl h in
    let small = w.shallow in
    rw (is, append_assoc x (symbol s.CloseBracket ∷ []) rest, tree) (begun limit l (word name ∷ symbol s.OpenBracket ∷ (x ++ symbol s.CloseBracket ∷ rest)) (element name unknown_bounds a) rest (w.seen + 1) (suc d) (index_read (climb limit) name a w.seen _ rest w.is) (omega arith) (omega arith))
complete (suc d) (suc limit) m l ts e rest le lm (parens a x is tree inside) stop alone =
    let h : Reached limit 0 (x ++ symbol s.Close ∷ rest) a (symbol s.Close ∷ rest) d = complete d limit 0 0 x a (symbol s.Close ∷ rest) (omega arith) (omega arith) inside refl (refl, refl) in
    let w = whole limit 0 (x ++ symbol s.Close ∷ rest) a (symbol s.Close ∷ rest) d (omega arith) refl h in
    let small = w.shallow in
    rw (is, append_assoc x (symbol s.Close ∷ []) rest, tree) (begun limit l (symbol s.Open ∷ (x ++ symbol s.Close ∷ rest)) (in_parentheses a) rest (w.seen + 1) (suc d) (parens_read (climb limit) a w.seen _ rest w.is) (omega arith) (omega arith))
complete (suc d) (suc limit) m l ts e rest le lm (before_operand t op a x kind signs is tree part) stop alone =
    let h = complete d limit top top x a rest (omega arith) (omega arith) part (stops_at_top (top + 1) rest (omega arith)) alone in
    let w = whole limit top (x ++ rest) a rest d (omega arith) (stops_at_top top rest (omega arith)) h in
    let small = w.shallow in
    let some = some_lexeme d top x a part in
    let unsigned : begins_negative (t ∷ x) ≡ false = sym (ap begins_negative is) ∙ signs in
    rw (is, tree) (begun limit l (t ∷ (x ++ rest)) (unary op a) rest (w.seen + 1) (suc d) (prefix_read (climb limit) t op x rest kind unsigned some ∙ ap (prefixed op) w.is) (omega arith) (omega arith))
complete (suc d) (suc limit) m l ts e rest le lm (between_operands t op a c x y kind tight is tree left right) stop alone =
    let after_it = t ∷ (y ++ rest) in
    let first = complete d (suc limit) (level_of op) l x a after_it (omega arith) (omega arith) left (stops_above (level_of op + 1) t op (y ++ rest) kind (omega arith)) (operator_apart t op (y ++ rest) kind) in
    let second = complete d limit (level_of op + 1) (level_of op + 1) y c rest (omega arith) (omega arith) right (stops_more (m + 1) (level_of op + 1 + 1) rest (omega arith) stop) alone in
    let w = whole limit (level_of op + 1) (y ++ rest) c rest d (omega arith) (stops_more (m + 1) (level_of op + 1) rest (omega arith) stop) second in
    let f1 = first.shallow in
    let f2 = first.room in
    let f3 = w.shallow in
    let same : first.deeper ≡ limit = let q = first.below in omega arith in
    let one_less : (n : ℕ) × (first.fuel ≡ n + 1) = before first.fuel (omega arith) in
    let less = one_less.1 in
    record {
      deeper = limit;
      below = refl;
      seen = max first.seen w.seen + 1;
      fuel = one_less.0;
      shallow = omega arith;
      room = omega arith;
      is = rw (is, append_assoc x (t ∷ y) rest, tree) (first.is ∙ ap (λ n. chain (climb n) n l first.fuel a first.seen after_it) same
          ∙ goes (climb limit) limit l first.fuel one_less.0 a first.seen after_it op (c, w.seen, rest) less (starts_with l t op (y ++ rest) kind (omega arith)) (omega arith) w.is);
    }

-- what may stand after a whole expression
abbrev pub ends : List Lexeme → Bool
ends (symbol s.Comma ∷ ts) = true
ends (symbol s.Close ∷ ts) = true
ends (symbol s.CloseBracket ∷ ts) = true
ends (symbol s.Semicolon ∷ ts) = true
ends (keyword k.Then ∷ ts) = true
ends (keyword k.Of ∷ ts) = true
ends (keyword k.To ∷ ts) = true
ends (keyword k.By ∷ ts) = true
ends (keyword k.Do ∷ ts) = true
ends _ = false

ends_stop : (ts : List Lexeme) → ends ts ≡ true → (operator_at 0 ts ≡ None) × Apart ts
ends_stop (symbol s.Comma ∷ ts) h = (refl, (refl, refl))
ends_stop (symbol s.Close ∷ ts) h = (refl, (refl, refl))
ends_stop (symbol s.CloseBracket ∷ ts) h = (refl, (refl, refl))
ends_stop (symbol s.Semicolon ∷ ts) h = (refl, (refl, refl))
ends_stop (keyword k.Then ∷ ts) h = (refl, (refl, refl))
ends_stop (keyword k.Of ∷ ts) h = (refl, (refl, refl))
ends_stop (keyword k.To ∷ ts) h = (refl, (refl, refl))
ends_stop (keyword k.By ∷ ts) h = (refl, (refl, refl))
ends_stop (keyword k.Do ∷ ts) h = (refl, (refl, refl))
ends_stop [] h = absurd (cc)
ends_stop (_ ∷ ts) h = absurd (cc)

pub expression_read : (x rest : List Lexeme) (e : PlainExpr (List ℕ)) → IsExpression x e → ends rest ≡ true → expression_at (x ++ rest) ≡ Some (e, rest)
unfolding expression_at IsExpression
expression_read x rest e p h =
    let stop = ends_stop rest h in
    let w = whole 128 0 (x ++ rest) e rest 128 (omega arith) stop.0 (complete 128 128 0 0 x e rest (omega arith) (omega arith) p (stops_more 0 1 rest (omega arith) stop.0) stop.1) in
    ap tree_of w.is

pub some_in_expression : (x : List Lexeme) (e : PlainExpr (List ℕ)) → IsExpression x e → 0 < length x
unfolding IsExpression
some_in_expression x e p = some_lexeme 128 0 x e p
