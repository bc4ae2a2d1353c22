-- Runs that come back in any order make a level.
use Rattle.std.proofs.Common.{◌≡◌, ℕ, zero, suc, ◌+◌, ◌≤◌, ◌==◌, cond, List, [], ◌∷◌, sym, ap, ◌∙◌, ◌⊎◌, inl, inr, ⊎_elim, Option, Some, None, arith}
use Rattle.std.specs.Option.{option_map}
use Rattle.std.specs.List.{cons_option, filter_map, Contains, count_by}
use Rattle.std.proofs.lemmas.List.Sums.{sum_by-cons}
use Rattle.level_runs.specs.Stores.{Programs}
use Rattle.level_runs.specs.Levels.{Midway, TakesLevel}
use Rattle.level_runs.specs.Runs.{AreRunsOf, TakesRuns, traps_of}
use Rattle.level_runs.proofs.Rising.{Among, among, contains, count, count_cons}

-- a number is in a list
abbrev Has : List ℕ → ℕ → Type 0
Has [] p = ⊥
Has (q ∷ qs) p = (q ≡ p) ⊎ Has qs p

has : (qs : List ℕ) (p : ℕ) → Contains qs p → Has qs p
has [] p h = absurd (omega (arith, h.1))
has (q ∷ qs) p (zero, lt, is) = inl is
has (q ∷ qs) p (suc k, lt, is) = inr (has qs p (k, omega arith, is))

contained : (qs : List ℕ) (p : ℕ) → Has qs p → Contains qs p
contained [] p h = absurd h
contained (q ∷ qs) p (inl e) = (zero, omega arith, e)
contained (q ∷ qs) p (inr h) = let c = contained qs p h in (suc c.0, omega (arith, c.1), c.2)

module _ {E : Type 0} (trap : ℕ → Option E) where
  abbrev traps : List ℕ → List (ℕ × E)
  traps qs = filter_map (λ p. option_map (λ (e : E). (p, e)) (trap p)) qs

  put : (q : ℕ) (o : Option E) (rest : List (ℕ × E)) (f : ℕ × E) → Among (cons_option (option_map (λ (e : E). (q, e)) o) rest) f → ((q ≡ f.0) × (o ≡ Some f.1)) ⊎ Among rest f
  put q None rest f h = inr h
  put q (Some e) rest f (inl is) = inl (ap (λ (g : ℕ × E). g.0) is, ap (λ (g : ℕ × E). Some g.1) is)
  put q (Some e) rest f (inr h) = inr h

  put_here : (q : ℕ) (o : Option E) (rest : List (ℕ × E)) (e : E) → o ≡ Some e → Among (cons_option (option_map (λ (e : E). (q, e)) o) rest) (q, e)
  put_here q None rest e is = absurd (cc)
  put_here q (Some d) rest e is = let same : d ≡ e = cc in inl (λ i. (q, same i))

  put_behind : (q : ℕ) (o : Option E) (rest : List (ℕ × E)) (f : ℕ × E) → Among rest f → Among (cons_option (option_map (λ (e : E). (q, e)) o) rest) f
  put_behind q None rest f h = h
  put_behind q (Some d) rest f h = inr h

  put_count : (q : ℕ) (o : Option E) (rest : List (ℕ × E)) (p : ℕ) → count p (cons_option (option_map (λ (e : E). (q, e)) o) rest) ≤ cond (q == p) 1 0 + count p rest
  put_count q None rest p = omega arith
  put_count q (Some e) rest p = omega (arith, count_cons p (q, e) rest)

  came : (qs : List ℕ) (f : ℕ × E) → Among (traps qs) f → Has qs f.0 × (trap f.0 ≡ Some f.1)
  came [] f h = absurd h
  came (q ∷ qs) f h = ⊎_elim (λ (here : (q ≡ f.0) × (trap q ≡ Some f.1)). (inl here.0, ap trap (sym here.0) ∙ here.1)) (λ rest. let c = came qs f rest in (inr c.0, c.1)) (put q (trap q) (traps qs) f h)

  comes : (qs : List ℕ) (p : ℕ) (e : E) → Has qs p → trap p ≡ Some e → Among (traps qs) (p, e)
  comes [] p e h is = absurd h
  comes (q ∷ qs) p e (inl same) is = rw (← same) (put_here q (trap q) (traps qs) e (ap trap same ∙ is))
  comes (q ∷ qs) p e (inr h) is = put_behind q (trap q) (traps qs) (p, e) (comes qs p e h is)

  no_more : (qs : List ℕ) (p : ℕ) → count p (traps qs) ≤ count_by (λ q. q == p) qs
  no_more [] p = omega arith
  no_more (q ∷ qs) p = omega (arith, put_count q (trap q) (traps qs) p, no_more qs p, sum_by-cons (λ q. cond {A = ℕ} (q == p) 1 0) q qs)

pub runs_make_a_level : {S K V Z E : Type 0} (P : Programs S K V Z E) (k : ℕ) (old new : Midway S) (runs : List ℕ)
    → AreRunsOf P k old.faulted runs → TakesRuns P old runs new → TakesLevel P k old new (traps_of P old.store runs)
runs_make_a_level P k old new runs are takes = let trap = λ (p : ℕ). (P.run p old.store).trap in record {
  size = takes.size;
  taken = λ p x run w. takes.taken p x ((are.each p).1 run) w;
  kept = λ x none. takes.kept x (λ p h. none p ((are.each p).0 h));
  flagged = λ p run. takes.flagged p ((are.each p).1 run);
  unflagged = λ p other. takes.unflagged p (λ h. other ((are.each p).0 h));
  traps = λ p e. (
    λ h. let c = came trap runs (p, e) (among (traps trap runs) (p, e) h) in ((are.each p).0 (contained runs p c.0), c.1),
    λ h. contains (traps trap runs) (p, e) (comes trap runs p e (has runs p ((are.each p).1 h.0)) h.1),
  );
  once = λ p. omega (arith, no_more trap runs p, are.once p);
}
