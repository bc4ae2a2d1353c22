-- Taking in what runs give, one after another.
use Rattle.std.proofs.Common.{◌≡◌, ℕ, ℤ, ◌-◌, ◌<◌, ◌≤◌, Bool, List, [], ◌∷◌, ◌++◌, length, take, set, slice_index_or, Contains, Some, Result, Ok, Err, refl, sym, ◌∙◌, ap, subst, arith, zero, suc, ⊎_elim, lit<, length-take, get_or-take, get_or-set_same}
use Rattle.std.specs.Prelude.{slice_get}
use Rattle.std.specs.Result.{is_err}
use Rattle.std.proofs.lemmas.List.{length-set}
use Rattle.std.proofs.lemmas.List.Elements.{Contains-append_left, Contains-append_right, Contains-append_cases}
use Rattle.std.proofs.lemmas.Option.{slice_get-get_or}
use Rattle.crew.proofs.Ticking.{none_ticked}
use Rattle.crew.specs.Runs.{IsEachOnce}
use Rattle.logic_cells.specs.declared.stop.Stop.{Stop}
use Rattle.logic_cells.specs.declared.clock.Clock.{Clock}
use Rattle.logic_cells.specs.Cells.{PlainCells}
use Rattle.vm_slices.specs.Parts.{PlainPart, HasPart, loaded}
use Rattle.slice_store.specs.Starts.{Begun, Gives}
use Rattle.slice_store.specs.Level.{PutsPart, WritesSlot, HasClock, HasTaken, Takes, TakesRuns, AreJobsOf, IsReady, trapped}

other : {A : Type 0} (xs : List A) (s r : ℕ) (x : A) → (r ≡ s → ⊥) → slice_get (set xs s x) r ≡ slice_get xs r
other [] s r x ne = refl
other (y ∷ xs) zero zero x ne = absurd (ne refl)
other (y ∷ xs) zero (suc r) x ne = refl
other (y ∷ xs) (suc s) zero x ne = refl
other (y ∷ xs) (suc s) (suc r) x ne = other xs s r x (λ e. ne (ap suc e))

here : {A : Type 0} (xs : List A) (s : ℕ) (x : A) → s < length xs → slice_get (set xs s x) s ≡ Some x
here xs s x within = let l = length-set xs s x in slice_get-get_or (set xs s x) s x (omega arith) ∙ ap Some (get_or-set_same xs s x x within)

-- one run is taken in
pub takes_one : (s : Begun) (result : Result (Unit {0}) Stop) (after : PlainCells) (values new_values : List ℤ) (clocks new_clocks : List Clock) (faulted flags : List Bool)
    → Gives s result after → PutsPart s.part after (record { values = values; clocks = clocks }) (record { values = new_values; clocks = new_clocks })
    → 0 < s.number → s.number ≤ length faulted → flags ≡ set faulted (s.number - 1) (trapped result)
    → Takes s (record { values = values; clocks = clocks }) faulted (record { values = new_values; clocks = new_clocks }) flags
takes_one s result after values new_values clocks new_clocks faulted flags gives puts low high are = let p = puts.values in let q = puts.clocks in record {
  shape = record { values = p.size; clocks = q.size };
  flags = ap length are ∙ length-set faulted (s.number - 1) (trapped result);
  taken = record {
    result = result;
    after = after;
    gives = gives;
    values = λ i slot has at. p.put i slot has at;
    clocks = λ i k at. q.put i k at;
    flag = λ n e.
        let same : n ≡ s.number - 1 = omega arith in
        ap (λ fs. slice_get fs n) are ∙ ap (slice_get (set faulted (s.number - 1) (trapped result))) same ∙ here faulted (s.number - 1) (trapped result) (omega arith);
  };
  values = λ slot none. p.kept slot (λ i has at. none (record { place = i; written = has; at = at }));
  clocks = λ k none. q.kept k (λ i at. none (record { place = i; at = at }));
  others = λ n ne. ap (λ fs. slice_get fs n) are ∙ other faulted (s.number - 1) n (trapped result) (λ e. ne (omega arith));
}

-- what a list of one holds
pub one : (s t : Begun) → Contains (s ∷ []) t → s ≡ t
one s t (zero, lt, e) = e
one s t (suc k, lt, e) = absurd (omega (arith, lt))

-- a run takes nothing of what another takes
pub record IsApartFrom (s t : Begun) : Type 0 where
  pub slots : (slot : ℕ) → WritesSlot t.part slot → WritesSlot s.part slot → ⊥
  pub clocks : (k : ℕ) → HasClock t.part k → HasClock s.part k → ⊥
  pub number : t.number ≡ s.number → ⊥

still_taken : (s t : Begun) (mid new : PlainCells) (flags faulted : List Bool) → Takes s mid flags new faulted → IsApartFrom s t → HasTaken t mid flags → HasTaken t new faulted
still_taken s t mid new flags faulted takes apart h = record {
  result = h.result;
  after = h.after;
  gives = h.gives;
  values = λ i slot has at. takes.values slot (λ w. apart.slots slot (record { place = i; written = has; at = at }) w) ∙ h.values i slot has at;
  clocks = λ i k at. takes.clocks k (λ w. apart.clocks k (record { place = i; at = at }) w) ∙ h.clocks i k at;
  flag = λ n e. takes.others n (λ f. apart.number (e ∙ sym f)) ∙ h.flag n e;
}

pub takes_none : (old : PlainCells) (faulted : List Bool) → TakesRuns old faulted [] old faulted
takes_none old faulted = record {
  shape = record { values = refl; clocks = refl };
  flags = refl;
  taken = λ s has. absurd (omega (arith, has.1));
  values = λ slot none. refl;
  clocks = λ k none. refl;
  others = λ n none. refl;
}

-- one more run, apart from those before it
pub takes_more : (old : PlainCells) (first : List Bool) (runs : List Begun) (s : Begun) (mid : PlainCells) (flags : List Bool) (new : PlainCells) (faulted : List Bool)
    → TakesRuns old first runs mid flags → Takes s mid flags new faulted → ((t : Begun) → Contains runs t → IsApartFrom s t) → TakesRuns old first (runs ++ s ∷ []) new faulted
takes_more old first runs s mid flags new faulted h takes apart = record {
  shape = record { values = takes.shape.values ∙ h.shape.values; clocks = takes.shape.clocks ∙ h.shape.clocks };
  flags = takes.flags ∙ h.flags;
  taken = λ t has. ⊎_elim
      (λ (before : Contains runs t). still_taken s t mid new flags faulted takes (apart t before) (h.taken t before))
      (λ (last : Contains (s ∷ []) t). subst (λ t. HasTaken t new faulted) (one s t last) takes.taken)
      (Contains-append_cases runs (s ∷ []) t has);
  values = λ slot none. takes.values slot (λ w. none s (Contains-append_right runs (s ∷ []) s (0, lit< tt, refl)) w) ∙ h.values slot (λ t has w. none t (Contains-append_left runs (s ∷ []) t has) w);
  clocks = λ k none. takes.clocks k (λ w. none s (Contains-append_right runs (s ∷ []) s (0, lit< tt, refl)) w) ∙ h.clocks k (λ t has w. none t (Contains-append_left runs (s ∷ []) t has) w);
  others = λ n none. takes.others n (λ e. none s (Contains-append_right runs (s ∷ []) s (0, lit< tt, refl)) e) ∙ h.others n (λ t has e. none t (Contains-append_left runs (s ∷ []) t has) e);
}

module _ (cells : PlainCells) (programs moment : ℕ) (runs : List Begun) (jobs : AreJobsOf cells programs moment runs) (n : ℕ) (s : Begun) (lt : n < length runs) (at : slice_index_or runs n s ≡ s) where
  -- a run that stands before a run is another
  earlier : (t : Begun) → Contains (take n runs) t → Contains runs t × (t ≡ s → ⊥)
  earlier t has =
      let k = has.0 in
      let below : k < n = omega (arith, has.1, length-take n runs) in
      let there : slice_index_or runs k t ≡ t = sym (get_or-take n runs k t below) ∙ has.2 in
      ((k, omega arith, there), λ same. let P : Begun → Type 0 = λ u. slice_index_or runs k u ≡ u in let again : k ≡ n = jobs.distinct k n s (omega arith) lt (subst P same there) at in omega arith)

  pub apart_before : (t : Begun) → Contains (take n runs) t → IsApartFrom s t
  apart_before t has =
      let before = earlier t has in
      let own : Contains runs s = (n, lt, at) in
      record {
        slots = λ slot w v. before.1 (jobs.apart t s before.0 own slot w (record { place = v.place; at = v.at }));
        clocks = λ k w v. before.1 (jobs.clocks_apart t s before.0 own k w v);
        number = λ e. before.1 (jobs.one_program t s before.0 own e);
      }

-- what holds of the jobs that are out holds of one run for each
pub jobs_of_runs : (cells : PlainCells) (programs moment : ℕ) (out runs : List Begun) → AreJobsOf cells programs moment out → IsEachOnce out runs → AreJobsOf cells programs moment runs
jobs_of_runs cells programs moment out runs h each = record {
  distinct = each.no_double;
  inside = λ s has. h.inside s (each.no_stranger s has);
  loaded_from = λ s has. h.loaded_from s (each.no_stranger s has);
  now = λ s has. h.now s (each.no_stranger s has);
  numbered = λ s has. h.numbered s (each.no_stranger s has);
  one_program = λ s t a b. h.one_program s t (each.no_stranger s a) (each.no_stranger t b);
  apart = λ s t a b. h.apart s t (each.no_stranger s a) (each.no_stranger t b);
  clocks_apart = λ s t a b. h.clocks_apart s t (each.no_stranger s a) (each.no_stranger t b);
}

pub ready_empty : (cells : PlainCells) (faulted : List Bool) (moment : ℕ) → IsReady cells faulted moment [] []
ready_empty cells faulted moment = record {
  jobs = record {
    distinct = λ i j x a. absurd (omega arith);
    inside = λ s has. absurd (omega (arith, has.1));
    loaded_from = λ s has. absurd (omega (arith, has.1));
    now = λ s has. absurd (omega (arith, has.1));
    numbered = λ s has. absurd (omega (arith, has.1));
    one_program = λ s t has. absurd (omega (arith, has.1));
    apart = λ s t has. absurd (omega (arith, has.1));
    clocks_apart = λ s t has. absurd (omega (arith, has.1));
  };
  clear = none_ticked [] [] refl (λ i a. absurd (omega arith));
}

-- a part that is within cells is within cells of their shape
pub has_still : (part : PlainPart) (old new : PlainCells) → length new.values ≡ length old.values → length new.clocks ≡ length old.clocks → HasPart part old → HasPart part new
has_still part old new values clocks has = record {
  slots = λ i s at. let within = has.slots i s at in omega arith;
  clocks = λ i k at. let within = has.clocks i k at in omega arith;
}

-- a part that cells have, by other names of it and of their lists
pub has_by : (part other : PlainPart) (cells : PlainCells) (values : List ℤ) (clocks : List Clock) → other ≡ part → values ≡ cells.values → clocks ≡ cells.clocks → HasPart part cells
    → HasPart other (record { values = values; clocks = clocks })
has_by part other cells values clocks e v k has = record {
  slots = λ i s at. let within = has.slots i s (ap (λ (p : PlainPart). slice_get p.slots i) (sym e) ∙ at) in let long = ap length v in omega arith;
  clocks = λ i n at. let within = has.clocks i n (ap (λ (p : PlainPart). slice_get p.clocks i) (sym e) ∙ at) in let long = ap length k in omega arith;
}

-- what was loaded by other names of a part and of the lists of cells was loaded from the cells
pub loaded_by : (part other : PlainPart) (cells : PlainCells) (values : List ℤ) (clocks : List Clock) → other ≡ part → values ≡ cells.values → clocks ≡ cells.clocks
    → (x : PlainCells) → x ≡ loaded other (record { values = values; clocks = clocks }) → x ≡ loaded part cells
loaded_by part other cells values clocks e v k x is =
    let same : loaded other (record { values = values; clocks = clocks }) ≡ loaded part cells = λ i. loaded (e i) (record { values = v i; clocks = k i }) in
    is ∙ same

pub starts_by : (n : ℕ) (part : PlainPart) (moment later : ℕ) (x cells : PlainCells) → moment ≡ later → x ≡ loaded part cells → (s : Begun) → s ≡ record { number = n; part = part; moment = moment; cells = x }
    → s ≡ record { number = n; part = part; moment = later; cells = loaded part cells }
starts_by n part moment later x cells m e s is =
    let from : Begun = record { number = n; part = part; moment = moment; cells = x } in
    let to : Begun = record { number = n; part = part; moment = later; cells = loaded part cells } in
    let same : from ≡ to = λ i. record { number = n; part = part; moment = m i; cells = e i } in
    is ∙ same

-- whether a run trapped
pub trapped_is : (r : Result (Unit {0}) Stop) → is_err r ≡ trapped r
trapped_is (Ok u) = refl
trapped_is (Err stop) = refl
