-- Runs that a caller has of its own jobs and of others', and what is gathered as they come.
use Rattle.std.proofs.Common.{◌≡◌, ℕ, ◌+◌, ◌-◌, ◌<◌, ◌≤◌, Option, Some, None, Result, Ok, Err, IfOk, inl, inr, List, ◌++◌, length, slice_index_or, Contains, Bool, refl, sym, ◌∙◌, subst, arith, ⊎_elim, length-append, map, take, drop, ap}
use Rattle.std.proofs.lemmas.Bool.{cases_lt}
use Rattle.std.proofs.lemmas.List.{get_or_append_left, get_or-append-add, get_or-append_right, map-append, take-append-drop}
use Rattle.std.proofs.lemmas.List.Elements.{Contains-append_left, Contains-append_right, Contains-append_cases}
use Rattle.crew.specs.Runs.{IsDistinct, IsEachOnce}
use Rattle.crew.specs.Ticks.{IsTicked, LacksOne}
use Rattle.crew.proofs.Ticking.{no_stranger, no_double}
use Rattle.crew.specs.declared.fault.CrewFault.{CrewFault}
use Rattle.crew.specs.declared.fault.CrewFault.TheVariants.{Memory, NoThread, Lost, Misfit}
use Rattle.standing_crew.specs.Assembled.{IsGathered, IsMemoryOrNone, IsCollectFault}

-- of two lists of different values that share none, no two places hold the same
distinct_join : {S : Type 0} (xs ys : List S) → IsDistinct xs → IsDistinct ys → ((x : S) → Contains xs x → Contains ys x → ⊥) → IsDistinct (xs ++ ys)
distinct_join xs ys first second apart i j x hi hj a b =
    let n : length (xs ++ ys) ≡ length xs + length ys = length-append xs ys in
    let left : (k : ℕ) → k < length xs → slice_index_or (xs ++ ys) k x ≡ x → slice_index_or xs k x ≡ x = (λ k lt e. sym (get_or_append_left xs ys x k lt) ∙ e) in
    let right : (k : ℕ) → length xs ≤ k → slice_index_or (xs ++ ys) k x ≡ x → slice_index_or ys (k - length xs) x ≡ x = (λ k le e. sym (get_or-append_right xs ys (length xs) k x refl le) ∙ e) in
    elim (cases_lt i (length xs)) [
      | inl p ↦ elim (cases_lt j (length xs)) [
        | inl q ↦ first i j x p q (left i p a) (left j q b)
        | inr q ↦ absurd (apart x (i, p, left i p a) (j - length xs, omega (arith, hj, n, q), right j (omega (arith, q)) b))
      ]
      | inr p ↦ elim (cases_lt j (length xs)) [
        | inl q ↦ absurd (apart x (j, q, left j q b) (i - length xs, omega (arith, hi, n, p), right i (omega (arith, p)) a))
        | inr q ↦
            let same : i - length xs ≡ j - length xs = second (i - length xs) (j - length xs) x (omega (arith, hi, n, p)) (omega (arith, hj, n, q)) (right i (omega (arith, p)) a) (right j (omega (arith, q)) b) in
            omega (arith, same, p, q)
      ]
    ]

-- what two lists hold that have different values together: the first has different values, and none of the second's
first_distinct : {S : Type 0} (xs ys : List S) → IsDistinct (xs ++ ys) → IsDistinct xs
first_distinct xs ys h i j x hi hj a b =
    let n : length (xs ++ ys) ≡ length xs + length ys = length-append xs ys in
    h i j x (omega (arith, hi, n)) (omega (arith, hj, n)) (get_or_append_left xs ys x i hi ∙ a) (get_or_append_left xs ys x j hj ∙ b)

share_none : {S : Type 0} (xs ys : List S) → IsDistinct (xs ++ ys) → (x : S) → Contains xs x → Contains ys x → ⊥
share_none xs ys h x (i, hi, a) (j, hj, b) =
    let n : length (xs ++ ys) ≡ length xs + length ys = length-append xs ys in
    let same : i ≡ length xs + j = h i (length xs + j) x (omega (arith, hi, n)) (omega (arith, hj, n)) (get_or_append_left xs ys x i hi ∙ a) (get_or-append-add xs ys j x ∙ b) in
    omega (arith, same, hi)

pub second_distinct : {S : Type 0} (xs ys : List S) → IsDistinct (xs ++ ys) → IsDistinct ys
second_distinct xs ys h i j x hi hj a b =
    let n : length (xs ++ ys) ≡ length xs + length ys = length-append xs ys in
    let same : length xs + i ≡ length xs + j = h (length xs + i) (length xs + j) x (omega (arith, hi, n)) (omega (arith, hj, n)) (get_or-append-add xs ys i x ∙ a) (get_or-append-add xs ys j x ∙ b) in
    omega (arith, same)

-- one run of each of some jobs, and of others that came back, are one run of each of all
pub shared_once : {S : Type 0} (own others got : List S) → IsDistinct (own ++ others) → IsEachOnce others got → IsEachOnce (own ++ others) (own ++ got)
shared_once {S} own others got d h = record {
  no_stranger = λ s has. ⊎_elim
      (λ (a : Contains own s). Contains-append_left own others s a)
      (λ (b : Contains got s). Contains-append_right own others s (h.no_stranger s b))
      (Contains-append_cases own got s has);
  no_double = distinct_join own got (first_distinct own others d) h.no_double (λ x a b. share_none own others d x a (h.no_stranger x b));
  none_lacking = λ s has. ⊎_elim
      (λ (a : Contains own s). Contains-append_left own got s a)
      (λ (b : Contains others s). Contains-append_right own got s (h.none_lacking s b))
      (Contains-append_cases own others s has);
}

-- the same of runs, where the first are those of the caller's own jobs
pub joined_once : {S D : Type 0} (f : D → S) (own others : List S) (runs got all : List D) → map f runs ≡ own → all ≡ runs ++ got → IsDistinct (own ++ others) → IsEachOnce others (map f got) → IsEachOnce (own ++ others) (map f all)
joined_once {S} {D} f own others runs got all mine are d h =
    let e : own ++ map f got ≡ map f all = sym (ap (λ (xs : List D). map f xs) are ∙ map-append f runs got ∙ ap (λ (xs : List S). xs ++ map f got) mine) in
    subst (λ (xs : List S). IsEachOnce (own ++ others) xs) e (shared_once own others (map f got) d h)

-- the first and the last of jobs are the jobs
pub parted : {J S : Type 0} (f : J → S) (jobs own others : List J) (n : ℕ) → own ≡ take n jobs → others ≡ drop n jobs → map f own ++ map f others ≡ map f jobs
parted {J} {S} f jobs own others n a b =
    ap (λ (xs : List J). map f xs ++ map f others) a ∙ ap (λ (xs : List J). map f (take n jobs) ++ map f xs) b ∙ sym (map-append f (take n jobs) (drop n jobs)) ∙ ap (λ (xs : List J). map f xs) (take-append-drop n jobs)

-- what is ticked off is gathered as long as there is no fault, and the other way round
pub still_gathered : {S : Type 0} (starts : List S) (fault : Option CrewFault) (ticks : List Bool) (runs : List S) → fault ≡ None → IsTicked starts ticks runs → IsGathered starts fault ticks runs
still_gathered starts fault ticks runs e h = subst (λ (o : Option CrewFault). IsGathered starts o ticks runs) (sym e) h

pub was_ticked : {S : Type 0} (starts : List S) (fault : Option CrewFault) (ticks : List Bool) (runs : List S) → fault ≡ None → IsGathered starts fault ticks runs → IsTicked starts ticks runs
was_ticked starts fault ticks runs e h = subst (λ (o : Option CrewFault). IsGathered starts o ticks runs) e h

-- what is ticked off is gathered, also where memory was refused
pub handed_gathered : {S : Type 0} (starts : List S) (fault : Option CrewFault) (ticks : List Bool) (runs : List S) → IsMemoryOrNone fault → IsTicked starts ticks runs → IsGathered starts fault ticks runs
handed_gathered starts None ticks runs e h = h
handed_gathered starts (Some Memory) ticks runs e h = tt
handed_gathered starts (Some NoThread) ticks runs e h = absurd e
handed_gathered starts (Some Lost) ticks runs e h = absurd e
handed_gathered starts (Some Misfit) ticks runs e h = absurd e

-- a fault of what is gathered says why it is refused
pub fault_told : {S : Type 0} (starts : List S) (fault : CrewFault) (ticks : List Bool) (runs : List S) → IsGathered starts (Some fault) ticks runs → IsCollectFault starts runs fault
fault_told starts Memory ticks runs h = tt
fault_told starts NoThread ticks runs h = absurd h
fault_told starts Lost ticks runs h = absurd h
fault_told starts Misfit ticks runs h = h

-- of what is ticked off a run that is missing is lost
pub lost_told : {S : Type 0} (starts : List S) (ticks : List Bool) (runs : List S) → IsTicked starts ticks runs → LacksOne starts runs → IsCollectFault starts runs Lost
lost_told starts ticks runs h lacking = (no_stranger starts runs h.known, no_double runs h.once, lacking)

-- what holds where a call was Ok
pub if_ok : {T E : Type 0} (P Q : T → Type 0) (r : Result T E) → ((x : T) → P x → Q x) → IfOk r P → IfOk r Q
if_ok P Q (Ok x) f h = f x h
if_ok P Q (Err e) f h = tt
