-- Ticking off one run more, and what ticks say at the end.
use Rattle.std.proofs.Common.{◌≡◌, ℕ, ◌+◌, ◌<◌, List, [], ◌∷◌, ◌++◌, length, slice_index_or, slice_set, Contains, Bool, true, false, sym, ◌∙◌, subst, arith, zero, suc, ⊎_elim, get_or-set_same, get_or-set_other, length-append, map, take, drop, ap, refl, replicate}
use Rattle.std.proofs.lemmas.Bool.{cases_eq}
use Rattle.std.proofs.lemmas.List.{get_or_default, get_or_append_left, get_or_push, get_or-map, length-set, length-map, length-replicate, length-take, map_more, map-append, take-append-drop}
use Rattle.std.proofs.lemmas.List.Elements.{Contains-append_left, Contains-append_right, Contains-append_cases}
use Rattle.crew.specs.Runs.{IsDistinct, IsEachOnce}
use Rattle.crew.specs.Ticks.{IsTicked, HasStranger, HasDouble, LacksOne}

pub no_stranger : {S : Type 0} (starts runs : List S) → ((s : S) → Contains runs s → Contains starts s) → HasStranger starts runs → ⊥
no_stranger starts runs known h = h.2 (known h.0 h.1)

pub no_double : {S : Type 0} (runs : List S) → IsDistinct runs → HasDouble runs → ⊥
no_double runs once h = let same : h.1 ≡ h.2 = once h.1 h.2 h.0 (omega arith) h.4 h.5 h.6 in omega arith

-- what a list of one holds
one : {S : Type 0} (s t : S) → Contains (s ∷ []) t → s ≡ t
one s t (zero, lt, e) = e
one s t (suc k, lt, e) = absurd (omega (arith, lt))

-- the last of a list stands in it
last : {S : Type 0} (runs : List S) (x s : S) → x ≡ s → Contains (runs ++ x ∷ []) s
last runs x s e = Contains-append_right runs (x ∷ []) s (0, omega arith, e)

-- a place that holds one value at one default holds it at each
at_any : {S : Type 0} (xs : List S) (i : ℕ) (x y : S) → i < length xs → slice_index_or xs i x ≡ x → slice_index_or xs i y ≡ y → x ≡ y
at_any xs i x y lt a b = sym a ∙ get_or_default xs i x y lt ∙ b

-- of a list and one more value that isn't in it, no two places hold the same
once_more : {S : Type 0} (runs : List S) (x : S) → IsDistinct runs → (Contains runs x → ⊥) → IsDistinct (runs ++ x ∷ [])
once_more {S} runs x h fresh i j y hi hj a b =
    let n : length (runs ++ x ∷ []) ≡ length runs + 1 = length-append runs (x ∷ []) in
    let inside : (k : ℕ) → k < length runs → slice_index_or (runs ++ x ∷ []) k y ≡ y → slice_index_or runs k y ≡ y = (λ k lt e. sym (get_or_append_left runs (x ∷ []) y k lt) ∙ e) in
    let ends : (k : ℕ) → length runs ≡ k → slice_index_or (runs ++ x ∷ []) k y ≡ y → x ≡ y = (λ k e f. sym (get_or_push runs x y k e) ∙ f) in
    let apart : (k m : ℕ) → k < length runs → length runs ≡ m → slice_index_or (runs ++ x ∷ []) k y ≡ y → slice_index_or (runs ++ x ∷ []) m y ≡ y → ⊥ =
    (λ k m lt e f g. fresh (subst (λ (z : S). Contains runs z) (sym (ends m e g)) (k, lt, inside k lt f))) in
    ⊎_elim
    (λ (p : length runs ≡ i). ⊎_elim (λ (q : length runs ≡ j). sym p ∙ q) (λ (q : length runs ≡ j → ⊥). absurd (apart j i (omega arith) p b a)) (cases_eq (length runs) j))
    (λ (p : length runs ≡ i → ⊥). ⊎_elim (λ (q : length runs ≡ j). absurd (apart i j (omega arith) q a b)) (λ (q : length runs ≡ j → ⊥). h i j y (omega arith) (omega arith) (inside i (omega arith) a) (inside j (omega arith) b)) (cases_eq (length runs) j))
    (cases_eq (length runs) i)

-- one run more, of a job that isn't ticked off
pub tick_more : {S : Type 0} (starts runs : List S) (ticks : List Bool) (place : ℕ) (x : S) → IsTicked starts ticks runs → IsDistinct starts → place < length starts
    → slice_index_or starts place x ≡ x → slice_index_or ticks place false ≡ false → IsTicked starts (slice_set ticks place true) (runs ++ x ∷ [])
tick_more {S} starts runs ticks place x h d lt here off =
    let room : place < length ticks = omega (arith, h.sized, lt) in
    let fresh : Contains runs x → ⊥ = (λ has. let on : slice_index_or ticks place false ≡ true = h.ticked x has place lt here in cc) in
    let other : (i : ℕ) → (place ≡ i → ⊥) → slice_index_or (slice_set ticks place true) i false ≡ slice_index_or ticks i false = (λ i ne. get_or-set_other ticks place i true false (λ e. ne (sym e))) in
    record {
      sized = length-set ticks place true ∙ h.sized;
      known = λ s has. ⊎_elim
          (λ (a : Contains runs s). h.known s a)
          (λ (b : Contains (x ∷ []) s). subst (λ (z : S). Contains starts z) (one x s b) (place, lt, here))
          (Contains-append_cases runs (x ∷ []) s has);
      came = λ i hi on s e. ⊎_elim
          (λ (same : place ≡ i). last runs x s (at_any starts place x s lt here (rw same e)))
          (λ (ne : place ≡ i → ⊥). Contains-append_left runs (x ∷ []) s (h.came i hi (sym (other i ne) ∙ on) s e))
          (cases_eq place i);
      ticked = λ s has i hi e. ⊎_elim
          (λ (same : place ≡ i). rw (← same) (get_or-set_same ticks place true false room))
          (λ (ne : place ≡ i → ⊥). other i ne ∙ ⊎_elim
          (λ (a : Contains runs s). h.ticked s a i hi e)
          (λ (b : Contains (x ∷ []) s). let is : x ≡ s = one x s b in absurd (ne (d place i s lt hi (subst (λ (z : S). slice_index_or starts place z ≡ z) is here) e)))
          (Contains-append_cases runs (x ∷ []) s has))
          (cases_eq place i);
      once = once_more runs x h.once fresh;
    }

-- before the first run nothing is ticked off
pub none_ticked : {S : Type 0} (starts : List S) (ticks : List Bool) → length ticks ≡ length starts → ((i : ℕ) → i < length ticks → slice_index_or ticks i false ≡ false) → IsTicked starts ticks []
none_ticked starts ticks n clear = record {
  sized = n;
  known = λ s has. absurd (omega (arith, has.1));
  came = λ i hi on s e. let off : slice_index_or ticks i false ≡ false = clear i (omega arith) in absurd cc;
  ticked = λ s has i hi e. absurd (omega (arith, has.1));
  once = λ i j x hi hj a b. absurd (omega (arith, hi));
}

-- the same, where the ticks are so many, all off
pub all_off : {S : Type 0} (starts : List S) (ticks : List Bool) (n : ℕ) → ticks ≡ replicate n false → n ≡ length starts → IsTicked starts ticks []
all_off starts ticks n are many = none_ticked starts ticks (ap length are ∙ length-replicate n false ∙ many) (λ i inside. ap (λ (ts : List Bool). slice_index_or ts i false) are ∙ off n i)
  where
    off : (n i : ℕ) → slice_index_or (replicate n false) i false ≡ false
    off zero i = refl
    off (suc n) zero = refl
    off (suc n) (suc i) = off n i

-- where all is ticked off, there is one run of each job
pub all_there : {S : Type 0} (starts runs : List S) (ticks : List Bool) → IsTicked starts ticks runs → ((i : ℕ) → i < length ticks → slice_index_or ticks i false ≡ true) → IsEachOnce starts runs
all_there starts runs ticks h all = record {
  no_stranger = h.known;
  no_double = h.once;
  none_lacking = λ s has. h.came has.0 has.1 (all has.0 (omega (arith, has.1, h.sized))) s has.2;
}

-- where one isn't ticked off, its run is missing
lacks : {S : Type 0} (starts runs : List S) (ticks : List Bool) (i : ℕ) (x : S) → IsTicked starts ticks runs → i < length starts → slice_index_or starts i x ≡ x → slice_index_or ticks i false ≡ false → LacksOne starts runs
lacks starts runs ticks i x h lt here off = (x, (i, lt, here), (λ has. let on : slice_index_or ticks i false ≡ true = h.ticked x has i lt here in cc))

-- the same, whatever stands there
pub lacks_there : {S : Type 0} (starts runs : List S) (ticks : List Bool) (i : ℕ) → IsTicked starts ticks runs → i < length ticks → slice_index_or ticks i false ≡ false → LacksOne starts runs
lacks_there [] runs ticks i h lt off = absurd (omega (arith, lt, h.sized))
lacks_there (x ∷ xs) runs ticks i h lt off =
    let inside : i < length (x ∷ xs) = omega (arith, lt, h.sized) in
    let s = slice_index_or (x ∷ xs) i x in
    lacks (x ∷ xs) runs ticks i s h inside (get_or_default (x ∷ xs) i s x inside) off

-- one run more of those that came back
pub tick_next : {S D : Type 0} (f : D → S) (starts : List S) (got : List D) (n : ℕ) (ended : D) (ticks : List Bool) (place : ℕ) → IsTicked starts ticks (map f (take n got)) → IsDistinct starts
    → n < length got → ended ≡ slice_index_or got n ended → place < length starts → slice_index_or starts place (f ended) ≡ f ended → slice_index_or ticks place false ≡ false
    → IsTicked starts (slice_set ticks place true) (map f (take (n + 1) got))
tick_next {S} {D} f starts got n ended ticks place h d inside is lt here off =
    let P : D → Type 0 = λ e. IsTicked starts (slice_set ticks place true) (map f (take n got) ++ f e ∷ []) in
    rw (map_more f got n ended inside) (subst P is (tick_more starts (map f (take n got)) ticks place (f ended) h d lt here off))

-- where a run is of no job, one is a stranger
pub stranger_next : {S D : Type 0} (f : D → S) (starts : List S) (got : List D) (n : ℕ) (ended : D) → n < length got → ended ≡ slice_index_or got n ended → (Contains starts (f ended) → ⊥) → HasStranger starts (map f got)
stranger_next f starts got n ended inside is none =
    let at : slice_index_or (map f got) n (f ended) ≡ f ended = get_or-map f got n ended (f ended) inside ∙ ap f (sym is) in
    (f ended, (n, omega (arith, length-map got f), at), none)

-- where the job of a run is ticked off, two runs are of one job
pub double_next : {S D : Type 0} (f : D → S) (starts : List S) (got : List D) (n : ℕ) (ended : D) (ticks : List Bool) (place : ℕ) → IsTicked starts ticks (map f (take n got))
    → n < length got → ended ≡ slice_index_or got n ended → place < length starts → slice_index_or starts place (f ended) ≡ f ended → slice_index_or ticks place false ≡ true → HasDouble (map f got)
double_next {S} {D} f starts got n ended ticks place h inside is lt here on =
    let at : slice_index_or (map f got) n (f ended) ≡ f ended = get_or-map f got n ended (f ended) inside ∙ ap f (sym is) in
    let has : Contains (map f (take n got)) (f ended) = h.came place lt on (f ended) here in
    let few : length (map f (take n got)) ≡ n = omega (arith, length-map (take n got) f, length-take n got) in
    let whole : map f (take n got) ++ map f (drop n got) ≡ map f got = sym (map-append f (take n got) (drop n got)) ∙ ap (λ (xs : List D). map f xs) (take-append-drop n got) in
    let before : slice_index_or (map f got) has.0 (f ended) ≡ f ended = subst (λ (xs : List S). slice_index_or xs has.0 (f ended) ≡ f ended) whole (get_or_append_left (map f (take n got)) (map f (drop n got)) (f ended) has.0 has.1 ∙ has.2) in
    (f ended, has.0, n, omega (arith, has.1, few), omega (arith, length-map got f), before, at)

-- one run more of jobs that were handed out
pub known_next : {S D : Type 0} (f : D → S) (starts : List S) (got : List D) (n : ℕ) (ended : D) (place : ℕ) → (HasStranger starts (map f (take n got)) → ⊥) → n < length got → ended ≡ slice_index_or got n ended
    → place < length starts → slice_index_or starts place (f ended) ≡ f ended → HasStranger starts (map f (take (n + 1) got)) → ⊥
known_next {S} {D} f starts got n ended place known inside is lt here (s, has, none) =
    let more : Contains (map f (take n got) ++ f (slice_index_or got n ended) ∷ []) s = subst (λ (xs : List S). Contains xs s) (map_more f got n ended inside) has in
    ⊎_elim
    (λ (a : Contains (map f (take n got)) s). known (s, a, none))
    (λ (b : Contains (f (slice_index_or got n ended) ∷ []) s). none (subst (λ (z : S). Contains starts z) (ap f is ∙ one (f (slice_index_or got n ended)) s b) (place, lt, here)))
    (Contains-append_cases (map f (take n got)) (f (slice_index_or got n ended) ∷ []) s more)
