-- The jobs of a level.
use Rattle.std.proofs.Common.{◌≡◌, ℕ, zero, ◌+◌, ◌-◌, ◌<◌, Bool, false, List, [], ◌∷◌, ◌++◌, length, slice_index_or, Contains, Some, refl, sym, ◌∙◌, ap, subst, map, arith, suc, inl, inr, ⊎_elim, lit<}
use Rattle.std.specs.Prelude.{slice_get}
use Rattle.std.proofs.lemmas.Bool.{cases_lt}
use Rattle.std.proofs.lemmas.List.Elements.{Contains-append_left, Contains-append_right, Contains-append_cases}
use Rattle.std.proofs.lemmas.Option.{slice_get-get_or, slice_get_within, get_or_from_slice_get, same_Some}
use Rattle.std.proofs.lemmas.List.{get_or_default}
use Rattle.crew.specs.Ticks.{IsTicked}
use Rattle.slice_store.proofs.Ticks.{all_out}
use Rattle.crew.specs.Runs.{AreNumbered, IsDistinct}
use Rattle.logic_cells.specs.Cells.{PlainCells}
use Rattle.vm_slices.specs.Parts.{PlainPart}
use Rattle.vm_slices.proofs.Places.{split_last}
use Rattle.slice_store.specs.Starts.{Begun, no_part, part_of}
use Rattle.slice_store.specs.Level.{Stored, AreJobsOf, IsReady}
use Rattle.slice_store.specs.Splits.{CanSplit, IsChosen, IsJobBefore, AreJobsBefore, begun}
use Rattle.slice_store.proofs.Taking.{one}

-- the part of a program's number
pub part_there : (parts : List PlainPart) (p : ℕ) → p < length parts → slice_get parts p ≡ Some (part_of parts (p + 1))
part_there parts p lt =
    let same : p ≡ p + 1 - 1 = omega arith in
    slice_get-get_or parts p no_part lt ∙ ap (λ n. Some (slice_index_or parts n no_part)) same

at_of : (xs : List Begun) (i : ℕ) (x : Begun) → i < length xs → slice_index_or xs i x ≡ x → slice_get xs i ≡ Some x
at_of xs i x lt e = slice_get-get_or xs i x lt ∙ ap Some e

of_at : (xs : List Begun) (i : ℕ) (x : Begun) → slice_get xs i ≡ Some x → (i < length xs) × (slice_index_or xs i x ≡ x)
of_at xs i x at = (slice_get_within xs i x at, get_or_from_slice_get xs i x x at)

-- one more that isn't there yet
distinct_push : (xs : List Begun) (x : Begun) → IsDistinct xs → (Contains xs x → ⊥) → IsDistinct (xs ++ x ∷ [])
distinct_push xs x d new = λ i j y hi hj ei ej.
    elim (split_last xs x y i (at_of (xs ++ x ∷ []) i y hi ei)) [
      | inl a ↦ let p = of_at xs i y a in elim (split_last xs x y j (at_of (xs ++ x ∷ []) j y hj ej)) [
        | inl b ↦ let q = of_at xs j y b in d i j y p.0 q.0 p.1 q.1
        | inr last ↦ absurd (new (subst (Contains xs) (sym last.1) (i, p.0, p.1)))
      ]
      | inr last ↦ elim (split_last xs x y j (at_of (xs ++ x ∷ []) j y hj ej)) [
        | inl b ↦ let q = of_at xs j y b in absurd (new (subst (Contains xs) (sym last.1) (j, q.0, q.1)))
        | inr again ↦ last.0 ∙ sym again.0
      ]
    ]

module _ (parts : List PlainPart) (levels : List ℕ) (level : ℕ) (store : Stored) where
  pub jobs_none : AreJobsBefore parts levels level store 0 []
  jobs_none = record { each = λ s has. absurd (omega (arith, has.1)); all = λ p part lt. absurd (omega arith); distinct = λ i j x a. absurd (omega arith) }

  later : (n : ℕ) (s : Begun) → IsJobBefore parts levels level store n s → IsJobBefore parts levels level store (n + 1) s
  later n s h = let lt = h.below in record { program = h.program; below = omega arith; part_is = h.part_is; chosen = h.chosen; starts = h.starts }

  pub jobs_skip : (n : ℕ) (jobs : List Begun) → AreJobsBefore parts levels level store n jobs → (IsChosen levels level store.faulted n → ⊥) → AreJobsBefore parts levels level store (n + 1) jobs
  jobs_skip n jobs h skipped = record {
    each = λ s has. later n s (h.each s has);
    all = λ p part lt at chosen. elim (cases_lt p n) [
      | inl low ↦ h.all p part low at chosen
      | inr high ↦ let e : p ≡ n = omega arith in absurd (skipped (subst (IsChosen levels level store.faulted) e chosen))
    ];
    distinct = h.distinct;
  }

  pushed : (n : ℕ) (jobs : List Begun) (part : PlainPart) (s : Begun) → AreJobsBefore parts levels level store n jobs → IsChosen levels level store.faulted n → slice_get parts n ≡ Some part
      → s ≡ begun (suc n) part store.moment store.cells → AreJobsBefore parts levels level store (n + 1) (jobs ++ s ∷ [])
  pushed n jobs part s h chosen at is = record {
    each = λ t has. ⊎_elim
        (λ (before : Contains jobs t). later n t (h.each t before))
        (λ (last : Contains (s ∷ []) t). subst (IsJobBefore parts levels level store (n + 1)) (one s t last) own)
        (Contains-append_cases jobs (s ∷ []) t has);
    all = λ p other lt there chose. elim (cases_lt p n) [
      | inl low ↦ Contains-append_left jobs (s ∷ []) (begun (suc p) other store.moment store.cells) (h.all p other low there chose)
      | inr high ↦
          let e : n ≡ p = omega arith in
          let same : part ≡ other = same_Some part other (sym at ∙ ap (slice_get parts) e ∙ there) in
          let begins : s ≡ begun (suc p) other store.moment store.cells = is ∙ (λ i. begun (suc (e i)) (same i) store.moment store.cells) in
          subst (Contains (jobs ++ s ∷ [])) begins (Contains-append_right jobs (s ∷ []) s (0, lit< tt, refl))
    ];
    distinct = distinct_push jobs s h.distinct (λ has.
        let was = h.each s has in let lt = was.below in
        let e : suc was.program ≡ suc n = sym (ap (λ (s : Begun). s.number) was.starts) ∙ ap (λ (s : Begun). s.number) is in
        omega arith);
  }
    where
      own : IsJobBefore parts levels level store (n + 1) s
      own =
          let part_of : part ≡ s.part = sym (ap (λ (s : Begun). s.part) is) in
          record { program = n; below = omega arith; part_is = at ∙ ap Some part_of; chosen = chosen; starts = is ∙ ap (λ part. begun (suc n) part store.moment store.cells) part_of }

  pub jobs_push : (n : ℕ) (jobs : List Begun) (part : PlainPart) (s : Begun) → AreJobsBefore parts levels level store n jobs → IsChosen levels level store.faulted n → slice_get parts n ≡ Some part
      → s ≡ begun (n + 1) part store.moment store.cells → AreJobsBefore parts levels level store (n + 1) (jobs ++ s ∷ [])
  jobs_push n jobs part s h chosen at was = let next : n + 1 ≡ suc n = omega arith in pushed n jobs part s h chosen at (was ∙ ap (λ m. begun m part store.moment store.cells) next)

  module _ (jobs : List Begun) (h : AreJobsBefore parts levels level store (length parts) jobs) (can : CanSplit parts levels level store.cells (length store.faulted)) where
    same_job : (s t : Begun) (a : Contains jobs s) (b : Contains jobs t) → (h.each s a).program ≡ (h.each t b).program → s ≡ t
    same_job s t a b e =
        let x = h.each s a in let y = h.each t b in
        let same : s.part ≡ t.part = same_Some s.part t.part (sym x.part_is ∙ ap (slice_get parts) e ∙ y.part_is) in
        x.starts ∙ (λ i. begun (suc (e i)) (same i) store.moment store.cells) ∙ sym y.starts

    pub jobs_are : AreJobsOf store.cells (length store.faulted) store.moment jobs
    jobs_are = record {
      distinct = h.distinct;
      inside = λ s has. can.inside (h.each s has).program s.part (h.each s has).part_is;
      loaded_from = λ s has. ap (λ (s : Begun). s.cells) (h.each s has).starts;
      now = λ s has. ap (λ (s : Begun). s.moment) (h.each s has).starts;
      numbered = λ s has.
          let x = h.each s has in let e : s.number ≡ suc x.program = ap (λ (s : Begun). s.number) x.starts in let lt = x.below in let flags = can.flagged in
          (omega arith, omega arith);
      one_program = λ s t a b e. same_job s t a b (
          let x = h.each s a in let y = h.each t b in
          let p : s.number ≡ suc x.program = ap (λ (s : Begun). s.number) x.starts in let q : t.number ≡ suc y.program = ap (λ (s : Begun). s.number) y.starts in omega arith);
      apart = λ s t a b slot w v. same_job s t a b (
          let x = h.each s a in let y = h.each t b in can.apart x.program y.program s.part t.part slot x.part_is y.part_is x.chosen.level_is y.chosen.level_is w v);
      clocks_apart = λ s t a b k w v. same_job s t a b (
          let x = h.each s a in let y = h.each t b in can.clocks_apart x.program y.program s.part t.part k x.part_is y.part_is w v);
    }

-- no two jobs have one number
pub jobs_numbered : (cells : PlainCells) (programs moment : ℕ) (jobs : List Begun) → AreJobsOf cells programs moment jobs → AreNumbered (λ (s : Begun). s.number) jobs
jobs_numbered cells programs moment jobs h i j d lt inside e =
    let s : Begun = slice_index_or jobs i d in
    let t : Begun = slice_index_or jobs j d in
    let before : i < length jobs = omega (arith, lt, inside) in
    let at : slice_index_or jobs i s ≡ s = get_or_default jobs i s d before in
    let there : slice_index_or jobs j t ≡ t = get_or_default jobs j t d inside in
    let same : t ≡ s = h.one_program t s (j, inside, there) (i, before, at) (sym e) in
    let P : Begun → Type 0 = λ u. slice_index_or jobs j u ≡ u in
    let again : i ≡ j = h.distinct i j s before inside at (subst P same there) in
    omega (arith, lt, again)

-- jobs that are out, none of which is ticked off, are ready
pub ready_out : (cells : PlainCells) (faulted : List Bool) (moment : ℕ) (jobs out : List Begun) (ticks : List Bool) → AreJobsOf cells (length faulted) moment jobs → out ≡ map (λ (s : Begun). s) jobs → IsTicked out ticks []
    → IsReady cells faulted moment out ticks
ready_out cells faulted moment jobs out ticks h are clear = record {
  jobs = subst (λ (xs : List Begun). AreJobsOf cells (length faulted) moment xs) (sym (all_out out jobs are)) h;
  clear = clear;
}
