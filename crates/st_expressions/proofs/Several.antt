-- Phrases one after another, each parsed where one is next.
use Rattle.std.proofs.Common.{◌≡◌, ℕ, zero, suc, ◌+◌, Bool, true, false, List, [], ◌∷◌, ◌++◌, map, Option, Some, None, refl, ap, ◌∙◌, cond}
use Rattle.std.specs.Prelude.{option_map}
use Rattle.st_expressions.specs.Lexemes.{Lexeme}
use Rattle.st_expressions.specs.Outcome.{Fails}
use Rattle.plant_types.specs.Options.{◌>>=◌}
use Rattle.st_expressions.specs.Reading.{with_first, many, perhaps_at}
use Rattle.st_expressions.specs.declared.stop.ParseStop.{ParseStop}
use Rattle.st_expressions.specs.declared.stop.ParseStop.TheVariants as stop
use Rattle.st_expressions.proofs.Steps.{same_some}
use Rattle.st_expressions.proofs.Many.{many_goes, many_ends}

module _ {A : Type 0} where
  -- a phrase that was found, and the lexemes after it
  abbrev kept : A × List Lexeme → Option (Option A × List Lexeme)
  kept r = Some (Some r.0, r.1)

  abbrev perhaps : Bool → Option (A × List Lexeme) → List Lexeme → Option (Option A × List Lexeme)
  perhaps b o ts = cond b (o >>= kept) (Some (None, ts))

  one_found : (b : Bool) (o : Option (A × List Lexeme)) (ts rest : List Lexeme) (a : A) → perhaps b o ts ≡ Some (Some a, rest) → (b ≡ true) × (o ≡ Some (a, rest))
  one_found true None ts rest a h = absurd (cc)
  one_found true (Some r) ts rest a h =
      let both = same_some _ _ h in
      let one : r.0 ≡ a = same_some _ _ (ap (λ (p : Option A × List Lexeme). p.0) both) in
      let after : r.1 ≡ rest = ap (λ (p : Option A × List Lexeme). p.1) both in
      (refl, λ i. Some (one i, after i))
  one_found false o ts rest a h = absurd (let e = ap (λ (p : Option A × List Lexeme). p.0) (same_some _ _ h) in cc)

  none_found : (b : Bool) (o : Option (A × List Lexeme)) (ts rest : List Lexeme) → perhaps b o ts ≡ Some (None, rest) → (b ≡ false) × (ts ≡ rest)
  none_found true None ts rest h = absurd (cc)
  none_found true (Some r) ts rest h = absurd (let e = ap (λ (p : Option A × List Lexeme). p.0) (same_some _ _ h) in cc)
  none_found false o ts rest h = (refl, ap (λ (p : Option A × List Lexeme). p.1) (same_some _ _ h))

  one_fails : (b : Bool) (o : Option (A × List Lexeme)) (ts : List Lexeme) → perhaps b o ts ≡ None → (b ≡ true) × (o ≡ None)
  one_fails true None ts h = (refl, refl)
  one_fails true (Some r) ts h = absurd (cc)
  one_fails false o ts h = absurd (cc)

  many_fail : (starts : List Lexeme → Bool) (one_at : List Lexeme → Option (A × List Lexeme)) (before : List A) (fuel : ℕ) (ts : List Lexeme) → perhaps_at starts one_at ts ≡ None → with_first before (many starts one_at fuel ts) ≡ None
  many_fail starts one_at before zero ts h = let (some, none) = one_fails (starts ts) (one_at ts) ts h in rw some refl
  many_fail starts one_at before (suc fuel) ts h = let (some, none) = one_fails (starts ts) (one_at ts) ts h in rw (some, none) refl

  -- what stops one of them stops all
  pub several_stop : (starts : List Lexeme → Bool) (one_at : List Lexeme → Option (A × List Lexeme)) (before : List A) (fuel : ℕ) (ts : List Lexeme) (e : ParseStop) → Fails e (perhaps_at starts one_at ts) → Fails e (with_first before (many starts one_at fuel ts))
  several_stop starts one_at before fuel ts stop.Memory h = tt
  several_stop starts one_at before fuel ts (stop.Left n) h = many_fail starts one_at before fuel ts h

  -- no phrase more
  pub several_end : (starts : List Lexeme → Bool) (one_at : List Lexeme → Option (A × List Lexeme)) (before : List A) (fuel : ℕ) (ts rest : List Lexeme) → perhaps_at starts one_at ts ≡ Some (None, rest) → with_first before (many starts one_at fuel ts) ≡ Some (before, rest)
  several_end starts one_at before fuel ts rest h =
      let (none, same) = none_found (starts ts) (one_at ts) ts rest h in
      many_ends starts one_at before fuel ts none ∙ ap (λ l. Some (before, l)) same

-- one phrase more, seen by view
pub several_more : {X A : Type 0} (view : X → A) (starts : List Lexeme → Bool) (one_at : List Lexeme → Option (A × List Lexeme)) (before later : List X) (x : X) (o : Option X) (fuel left : ℕ) (ts rest : List Lexeme)
    → later ≡ before ++ x ∷ [] → fuel ≡ left + 1 → o ≡ Some x → perhaps_at starts one_at ts ≡ Some (option_map view o, rest) → with_first (map view later) (many starts one_at left rest) ≡ with_first (map view before) (many starts one_at fuel ts)
several_more view starts one_at before later x o fuel left ts rest pushed more one is =
    let found : perhaps_at starts one_at ts ≡ Some (Some (view x), rest) = is ∙ ap (λ p. Some (option_map view p, rest)) one in
    let (some, here) = one_found (starts ts) (one_at ts) ts rest (view x) found in
    many_goes view starts one_at before later x fuel left ts rest pushed more some here
