-- An expression that is read is spelled.
use Rattle.std.proofs.Common.{◌≡◌, ℕ, zero, suc, ◌+◌, ◌<◌, ◌≤◌, max, nat_le, pos, neg_ℤ, List, [], ◌∷◌, ◌++◌, append_assoc, length, drop, Option, Some, None, refl, sym, ap, ◌∙◌, subst, arith, cond, false, inl, inr}
use Rattle.std.proofs.lemmas.Bool.Decides.{nat_tests}
use Rattle.plant_types.specs.declared.values.Value.TheVariants as value
use Rattle.st_lexer.specs.declared.token.Keyword.TheVariants as k
use Rattle.st_lexer.specs.declared.token.Symbol.TheVariants as s
use Rattle.st_tree.specs.declared.tree.Literal.TheVariants.{Value}
use Rattle.st_tree.specs.declared.tree.Unary.{Unary}
use Rattle.st_tree.specs.declared.tree.Unary.TheVariants as u
use Rattle.st_tree.specs.declared.tree.Binary.{Binary}
use Rattle.st_tree.specs.Plain.{PlainExpr, literal, read, output_of, element, unary, binary}
use Rattle.st_expressions.specs.Lexemes.{Lexeme, word, keyword, integer, symbol}
use Rattle.st_expressions.specs.Grammar.{literal_of, prefix_of, operator_of, level_of, top, begins_negative, in_parentheses, unknown_bounds, Production, constant, negative, variable, output, indexed, parens, before_operand, between_operands, SpellsExpr, IsExpression}
use Rattle.st_expressions.specs.Reading.{Answer, word_at, operator_at, if_allowed, is_symbol, part_at, index_at, variable_at, reference_at, minus_at, constant_at, operand, prefixed, close_group, close_index, symbol_at, chain, climb, tree_of, expression_at}
use Rattle.st_expressions.proofs.Chain.{stops, too_deep, goes, fails}
use Rattle.st_expressions.proofs.Complete.{starts_with, stops_at_top, some_lexeme}
use Rattle.st_expressions.proofs.Many.{Front}
use Rattle.st_expressions.proofs.Steps.{both_ways, true_or_false, some_or_none, bind_some, same_some, passed, word_found, symbol_found, next_is_symbol}

-- a tree, its depth, and the lexemes after it
abbrev pub Read : Type 0
Read = PlainExpr (List ℕ) × ℕ × List Lexeme

-- more depth and a lower level allow no less
pub weaken : (d n m l : ℕ) (x : List Lexeme) (e : PlainExpr (List ℕ)) → d ≤ n → l ≤ m → SpellsExpr d m x e → SpellsExpr n l x e
weaken zero n m l x e le lm p = absurd p
weaken (suc d) zero m l x e le lm p = absurd (omega arith)
weaken (suc d) (suc n) m l x e le lm (constant t kind is) = constant t kind is
weaken (suc d) (suc n) m l x e le lm (negative i small is tree) = negative i small is tree
weaken (suc d) (suc n) m l x e le lm (variable name is tree) = variable name is tree
weaken (suc d) (suc n) m l x e le lm (output name part is tree) = output name part is tree
weaken (suc d) (suc n) m l x e le lm (indexed name a y is tree p) = indexed name a y is tree (weaken d n 0 0 y a (omega arith) (omega arith) p)
weaken (suc d) (suc n) m l x e le lm (parens a y is tree p) = parens a y is tree (weaken d n 0 0 y a (omega arith) (omega arith) p)
weaken (suc d) (suc n) m l x e le lm (before_operand t op a y kind signs is tree p) = before_operand t op a y kind signs is tree (weaken d n top top y a (omega arith) (omega arith) p)
weaken (suc d) (suc n) m l x e le lm (between_operands t op a c y z kind tight is tree left right) =
    between_operands t op a c y z kind (omega arith) is tree (weaken d n (level_of op) (level_of op) y a (omega arith) (omega arith) left) (weaken d n (level_of op + 1) (level_of op + 1) z c (omega arith) (omega arith) right)

one_more : (d m : ℕ) (x : List Lexeme) (e : PlainExpr (List ℕ)) → Production (SpellsExpr d) m x e → SpellsExpr (d + 1) m x e
one_more d m x e p = let same : suc d ≡ d + 1 = omega arith in subst (λ n. SpellsExpr n m x e) same p

close_group_some : (e : PlainExpr (List ℕ)) (n : ℕ) (o : Option (List Lexeme)) (r : Read) → close_group e n o ≡ Some r → (rest : List Lexeme) × (o ≡ Some rest) × ((in_parentheses e, n + 1, rest) ≡ r)
close_group_some e n None r h = absurd (cc)
close_group_some e n (Some ts) r h = (ts, refl, same_some _ _ h)

close_index_some : (name : List ℕ) (e : PlainExpr (List ℕ)) (n : ℕ) (o : Option (List Lexeme)) (r : Read) → close_index name e n o ≡ Some r → (rest : List Lexeme) × (o ≡ Some rest) × ((element name unknown_bounds e, n + 1, rest) ≡ r)
close_index_some name e n None r h = absurd (cc)
close_index_some name e n (Some ts) r h = (ts, refl, same_some _ _ h)

prefixed_some : (op : Unary) (o : Answer) (r : Read) → prefixed op o ≡ Some r → (q : Read) × (o ≡ Some q) × ((unary op q.0, q.1 + 1, q.2) ≡ r)
prefixed_some op None r h = absurd (cc)
prefixed_some op (Some q) r h = (q, refl, same_some _ _ h)

-- what was read at a level is spelled there, within the limit, and nothing goes on
pub record Parsed (limit level : ℕ) (all : List Lexeme) (r : Read) : Type 0 where
  pub front : List Lexeme
  pub whole : all ≡ front ++ r.2
  pub spelled : SpellsExpr r.1 level front r.0
  pub stop : operator_at level r.2 ≡ None
  pub small : r.1 ≤ limit

-- an operand is spelled at each level
pub record Started (limit : ℕ) (all : List Lexeme) (r : Read) : Type 0 where
  pub front : List Lexeme
  pub whole : all ≡ front ++ r.2
  pub spelled : (level : ℕ) → SpellsExpr r.1 level front r.0
  pub small : r.1 ≤ limit

abbrev pub IsSound : (ℕ → List Lexeme → Answer) → ℕ → Type 0
IsSound inner limit = (level : ℕ) (ts : List Lexeme) (r : Read) → inner level ts ≡ Some r → Parsed limit level ts r

-- one lexeme or a few, which are spelled at each level
atom : (d : ℕ) (front rest : List Lexeme) (e : PlainExpr (List ℕ)) (r : Read) → ((level : ℕ) → SpellsExpr 1 level front e) → (e, 1, rest) ≡ r → Started (d + 1) (front ++ rest) r
atom d front rest e r p is =
    let at_once : Started (d + 1) (front ++ rest) (e, 1, rest) = record { front = front; whole = refl; spelled = p; small = omega arith } in
    subst (Started (d + 1) (front ++ rest)) is at_once

same_sign : (t v : Lexeme) (x y : List Lexeme) → begins_negative (t ∷ v ∷ x) ≡ begins_negative (t ∷ v ∷ y)
same_sign (symbol s.Minus) (integer n) x y = refl
same_sign (symbol s.Minus) v x y = refl
same_sign t v x y = refl

unsigned_front : (t : Lexeme) (x rest : List Lexeme) → 0 < length x → begins_negative (t ∷ (x ++ rest)) ≡ false → begins_negative (t ∷ x) ≡ false
unsigned_front t [] rest some h = absurd (omega arith)
unsigned_front t (v ∷ x) rest some h = same_sign t v x (x ++ rest) ∙ h

prefix_started : (d : ℕ) (t : Lexeme) (op : Unary) (ts : List Lexeme) (q r : Read) → prefix_of t ≡ Some op → begins_negative (t ∷ ts) ≡ false → Parsed d top ts q → (unary op q.0, q.1 + 1, q.2) ≡ r → Started (d + 1) (t ∷ ts) r
prefix_started d t op ts q r kind signs p is =
    let le = p.small in
    let unsigned : begins_negative (t ∷ p.front) ≡ false = unsigned_front t p.front q.2 (some_lexeme q.1 top p.front q.0 p.spelled) (ap (λ l. begins_negative (t ∷ l)) (sym p.whole) ∙ signs) in
    let one_on : Started (d + 1) (t ∷ ts) (unary op q.0, q.1 + 1, q.2) = record {
      front = t ∷ p.front;
      whole = ap (λ l. t ∷ l) p.whole;
      spelled = λ m. one_more q.1 m _ _ (before_operand t op q.0 p.front kind unsigned refl refl p.spelled);
      small = omega arith;
    } in
    subst (Started (d + 1) (t ∷ ts)) is one_on

constant_started : (d : ℕ) (t : Lexeme) (o : Option (PlainExpr (List ℕ))) (ts : List Lexeme) (r : Read) → literal_of t ≡ o → constant_at o ts ≡ Some r → Started (d + 1) (t ∷ ts) r
constant_started d t None ts r kind h = absurd (cc)
constant_started d t (Some e) ts r kind h = atom d (t ∷ []) ts e r (λ m. constant t kind refl) (same_some _ _ h)

minus_started : (d : ℕ) (inner : ℕ → List Lexeme → Answer) → IsSound inner d → (ts : List Lexeme) (r : Read) → minus_at inner ts ≡ Some r → Started (d + 1) (symbol s.Minus ∷ ts) r
minus_started d inner sound [] r h = let q = prefixed_some u.Negate (inner top []) r h in prefix_started d (symbol s.Minus) u.Negate [] q.0 r refl refl (sound top [] q.0 q.1) q.2
minus_started d inner sound (integer n ∷ ts) r h =
    let p = passed (nat_le n 2147483648) (Some (literal (Value (value.Dint (neg_ℤ (pos n)))), 1, ts)) r h in
    let was = p.0 in
    let small : n ≤ 2147483648 = grind (arith, nat_tests) in
    atom d (symbol s.Minus ∷ integer n ∷ []) ts (literal (Value (value.Dint (neg_ℤ (pos n))))) r (λ m. negative n small refl refl) (same_some _ _ p.1)
minus_started d inner sound (t ∷ ts) r h = let q = prefixed_some u.Negate (inner top (t ∷ ts)) r h in prefix_started d (symbol s.Minus) u.Negate (t ∷ ts) q.0 r refl refl (sound top (t ∷ ts) q.0 q.1) q.2

part_started : (d : ℕ) (name : List ℕ) (ts : List Lexeme) (r : Read) → part_at name ts ≡ Some r → Started (d + 1) (word name ∷ symbol s.Point ∷ ts) r
part_started d name ts r h =
    let (part, was, is) = bind_some (word_at ts) _ r h in
    let here = atom d (word name ∷ symbol s.Point ∷ word part.0 ∷ []) part.1 (output_of name part.0) r (λ m. output name part.0 refl refl) (same_some _ _ is) in
    subst (λ l. Started (d + 1) (word name ∷ symbol s.Point ∷ l) r) (sym (word_found ts part was)) here

index_started : (d : ℕ) (inner : ℕ → List Lexeme → Answer) → IsSound inner d → (name : List ℕ) (ts : List Lexeme) (r : Read) → index_at inner name ts ≡ Some r → Started (d + 1) (word name ∷ symbol s.OpenBracket ∷ ts) r
index_started d inner sound name ts r h =
    let q = bind_some (inner 0 ts) (λ r. close_index name r.0 r.1 (symbol_at s.CloseBracket r.2)) r h in
    let p = sound 0 ts q.0 q.1 in
    let c = close_index_some name q.0.0 q.0.1 (symbol_at s.CloseBracket q.0.2) r q.2 in
    let after_it = symbol_found s.CloseBracket q.0.2 c.0 c.1 in
    let le = p.small in
    let one_on : Started (d + 1) (word name ∷ symbol s.OpenBracket ∷ ts) (element name unknown_bounds q.0.0, q.0.1 + 1, c.0) = record {
      front = word name ∷ symbol s.OpenBracket ∷ (p.front ++ symbol s.CloseBracket ∷ []);
      whole = ap (λ l. word name ∷ symbol s.OpenBracket ∷ l) (p.whole ∙ ap (λ l. p.front ++ l) after_it ∙ sym (append_assoc p.front (symbol s.CloseBracket ∷ []) c.0));
      spelled = λ m. one_more q.0.1 m _ _ (indexed name q.0.0 p.front refl refl p.spelled);
      small = omega arith;
    } in
    subst (Started (d + 1) (word name ∷ symbol s.OpenBracket ∷ ts)) c.2 one_on

variable_started : (d : ℕ) (inner : ℕ → List Lexeme → Answer) → IsSound inner d → (name : List ℕ) (ts : List Lexeme) (r : Read) → variable_at inner name ts ≡ Some r → Started (d + 1) (word name ∷ ts) r
variable_started d inner sound name ts r h =
    elim (true_or_false (is_symbol s.OpenBracket ts)) as (λ _. Started (d + 1) (word name ∷ ts) r) [
      | inl yes' ↦
          let is = next_is_symbol s.OpenBracket ts yes' in
          let p = index_started d inner sound name (drop 1 ts) r (ap (λ b. cond b (index_at inner name (drop 1 ts)) (Some (read name, 1, ts))) (sym yes') ∙ h) in
          subst (λ l. Started (d + 1) (word name ∷ l) r) (sym is) p
      | inr no' ↦
          atom d (word name ∷ []) ts (read name) r (λ m. variable name refl refl)
          (same_some _ _ (ap (λ b. cond b (index_at inner name (drop 1 ts)) (Some (read name, 1, ts))) (sym no') ∙ h))
    ]

reference_started : (d : ℕ) (inner : ℕ → List Lexeme → Answer) → IsSound inner d → (name : List ℕ) (ts : List Lexeme) (r : Read) → reference_at inner name ts ≡ Some r → Started (d + 1) (word name ∷ ts) r
reference_started d inner sound name ts r h =
    elim (true_or_false (is_symbol s.Point ts)) as (λ _. Started (d + 1) (word name ∷ ts) r) [
      | inl yes' ↦
          let is = next_is_symbol s.Point ts yes' in
          let p = part_started d name (drop 1 ts) r (ap (λ b. cond b (part_at name (drop 1 ts)) (variable_at inner name ts)) (sym yes') ∙ h) in
          subst (λ l. Started (d + 1) (word name ∷ l) r) (sym is) p
      | inr no' ↦ variable_started d inner sound name ts r (ap (λ b. cond b (part_at name (drop 1 ts)) (variable_at inner name ts)) (sym no') ∙ h)
    ]

operand_sound : (d : ℕ) (inner : ℕ → List Lexeme → Answer) → IsSound inner d → (ts : List Lexeme) (r : Read) → operand inner ts ≡ Some r → Started (d + 1) ts r
unfolding operand
operand_sound d inner sound [] r h = absurd (cc)
operand_sound d inner sound (word name ∷ ts) r h = reference_started d inner sound name ts r h
operand_sound d inner sound (keyword k.Not ∷ ts) r h = let q = prefixed_some u.Not (inner top ts) r h in prefix_started d (keyword k.Not) u.Not ts q.0 r refl refl (sound top ts q.0 q.1) q.2
operand_sound d inner sound (symbol s.Minus ∷ ts) r h = minus_started d inner sound ts r h
operand_sound d inner sound (symbol s.Open ∷ ts) r h =
    let q = bind_some (inner 0 ts) (λ r. close_group r.0 r.1 (symbol_at s.Close r.2)) r h in
    let p = sound 0 ts q.0 q.1 in
    let c = close_group_some q.0.0 q.0.1 (symbol_at s.Close q.0.2) r q.2 in
    let after_it = symbol_found s.Close q.0.2 c.0 c.1 in
    let le = p.small in
    let one_on : Started (d + 1) (symbol s.Open ∷ ts) (in_parentheses q.0.0, q.0.1 + 1, c.0) = record {
      front = symbol s.Open ∷ (p.front ++ symbol s.Close ∷ []);
      whole = ap (λ l. symbol s.Open ∷ l) (p.whole ∙ ap (λ l. p.front ++ l) after_it ∙ sym (append_assoc p.front (symbol s.Close ∷ []) c.0));
      spelled = λ m. one_more q.0.1 m _ _ (parens q.0.0 p.front refl refl p.spelled);
      small = omega arith;
    } in
    subst (Started (d + 1) (symbol s.Open ∷ ts)) c.2 one_on
operand_sound d inner sound (keyword w ∷ ts) r h = constant_started d (keyword w) (literal_of (keyword w)) ts r refl h
operand_sound d inner sound (symbol w ∷ ts) r h = constant_started d (symbol w) (literal_of (symbol w)) ts r refl h
operand_sound d inner sound (t ∷ ts) r h = constant_started d t (literal_of t) ts r refl h

allowed_some : (level : ℕ) (o : Option Binary) (op : Binary) → if_allowed level o ≡ Some op → (o ≡ Some op) × (level ≤ level_of op)
allowed_some level None op h = absurd (cc)
allowed_some level (Some p) op h =
    elim (both_ways level (level_of p)) as (λ _. (Some p ≡ Some op) × (level ≤ level_of op)) [
      | inl is ↦ let same : Some p ≡ Some op = ap (λ z. cond z (Some p) None) (sym is.0) ∙ h in (same, subst (λ x. level ≤ level_of x) (same_some p op same) is.1)
      | inr is ↦ absurd (let no : None ≡ Some op = ap (λ z. cond z (Some p) None) (sym is.0) ∙ h in cc)
    ]

front_is : (level : ℕ) (ts : List Lexeme) (op : Binary) → operator_at level ts ≡ Some op → (t : Lexeme) × (operator_of t ≡ Some op) × (ts ≡ t ∷ drop 1 ts) × (level ≤ level_of op)
front_is level [] op h = absurd (cc)
front_is level (t ∷ ts) op h = let a = allowed_some level (operator_of t) op h in (t, a.0, refl, a.1)

not_tighter : (m : ℕ) (ts : List Lexeme) (t : Lexeme) (op : Binary) → operator_of t ≡ Some op → ts ≡ t ∷ drop 1 ts → operator_at (m + 1) ts ≡ None → level_of op ≤ m
not_tighter m ts t op kind is stop =
    elim (both_ways (level_of op) m) as (λ _. level_of op ≤ m) [
      | inl le ↦ le.1
      | inr gt ↦ absurd (let a : operator_at (m + 1) ts ≡ Some op = ap (operator_at (m + 1)) is ∙ starts_with (m + 1) t op (drop 1 ts) kind (let q = gt.1 in omega arith) in cc)
    ]

module _ (deeper : ℕ) (inner : ℕ → List Lexeme → Answer) (sound : IsSound inner deeper) (level : ℕ) where
  pub chain_sound : (fuel : ℕ) (e : PlainExpr (List ℕ)) (n m : ℕ) (x ts all : List Lexeme) (r : Read) → all ≡ x ++ ts → SpellsExpr n m x e → n ≤ deeper + 1 → level ≤ m → operator_at (m + 1) ts ≡ None → chain inner deeper level fuel e n ts ≡ Some r → Parsed (deeper + 1) level all r
  chain_sound zero e n m x ts all r is left low lm stop h = absurd (cc)
  chain_sound (suc fuel) e n m x ts all r is left low lm stop h =
      elim (some_or_none (operator_at level ts)) as (λ _. Parsed (deeper + 1) level all r) [
        | inl none ↦
            let here : Parsed (deeper + 1) level all (e, n, ts) = record { front = x; whole = is; spelled = weaken n n m level x e (omega arith) lm left; stop = none; small = low } in
            subst (Parsed (deeper + 1) level all) (same_some _ _ (sym (stops inner deeper level (suc fuel) e n ts (omega arith) none) ∙ h)) here
        | inr found ↦
            let op = found.0 in
            let front = front_is level ts op found.1 in
            let (t, kind, begins, above) = front in
            let tight = not_tighter m ts t op kind begins stop in
            elim (both_ways n deeper) as (λ _. Parsed (deeper + 1) level all r) [
              | inr deep ↦ absurd (let none = too_deep inner deeper level (suc fuel) e n ts op found.1 deep.1 in cc)
              | inl fits ↦ elim (some_or_none (inner (level_of op + 1) (drop 1 ts))) as (λ _. Parsed (deeper + 1) level all r) [
                | inl none ↦ absurd (let none' = fails inner deeper level (suc fuel) e n ts op found.1 none in cc)
                | inr some ↦
                    let q = some.0 in
                    let p = sound (level_of op + 1) (drop 1 ts) q some.1 in
                    let within = p.small in
                    let here = fits.1 in
                    let more = goes inner deeper level (suc fuel) fuel e n ts op q (omega arith) found.1 fits.1 some.1 in
                    chain_sound fuel (binary op e q.0) (max n q.1 + 1) (level_of op) (x ++ t ∷ p.front) q.2 all r
                    (is ∙ ap (λ l. x ++ l) (begins ∙ ap (λ l. t ∷ l) p.whole) ∙ sym (append_assoc x (t ∷ p.front) q.2))
                    (one_more (max n q.1) (level_of op) _ _ (between_operands t op e q.0 x p.front kind (omega arith) refl refl (weaken n (max n q.1) m (level_of op) x e (omega arith) tight left) (weaken q.1 (max n q.1) (level_of op + 1) (level_of op + 1) p.front q.0 (omega arith) (omega arith) p.spelled)))
                    (omega arith) above p.stop (sym more ∙ h)
              ]
            ]
      ]

pub climb_sound : (limit : ℕ) → IsSound (climb limit) limit
climb_sound zero level ts r h = absurd (cc)
climb_sound (suc d) level ts r h =
    let q = bind_some (operand (climb d) ts) (λ r. chain (climb d) d level (suc d) r.0 r.1 r.2) r h in
    let p = operand_sound d (climb d) (climb_sound d) ts q.0 q.1 in
    let m = max level top in
    let all = chain_sound d (climb d) (climb_sound d) level (suc d) q.0.0 q.0.1 m p.front q.0.2 ts r p.whole (p.spelled m) p.small (omega arith) (stops_at_top (m + 1) q.0.2 (omega arith)) q.2 in
    let same : d + 1 ≡ suc d = omega arith in
    subst (λ n. Parsed n level ts r) same all

tree_some : (a : Answer) (e : PlainExpr (List ℕ)) (rest : List Lexeme) → tree_of a ≡ Some (e, rest) → (n : ℕ) × (a ≡ Some (e, n, rest))
tree_some None e rest h = absurd (cc)
tree_some (Some r) e rest h = (r.1, ap (λ (p : PlainExpr (List ℕ) × List Lexeme). Some (p.0, r.1, p.1)) (same_some _ _ h))

pub expression_found : (ts : List Lexeme) (e : PlainExpr (List ℕ)) (rest : List Lexeme) → expression_at ts ≡ Some (e, rest) → Front IsExpression ts e rest
unfolding expression_at IsExpression
expression_found ts e rest h =
    let a = tree_some (climb 128 0 ts) e rest h in
    let p = climb_sound 128 0 ts (e, a.0, rest) a.1 in
    record { front = p.front; whole = p.whole; spelled = weaken a.0 128 0 0 p.front e p.small (omega arith) p.spelled }
