-- A program is the same in its own table as in that of all programs.
use Rattle.std.proofs.Common.{◌≡◌, ◌∙◌, ap, sym, subst, refl, ℕ, zero, suc, ◌+◌, ◌*◌, ◌<◌, ◌≤◌, ◌++◌, Bool, true, false, List, [], ◌∷◌, length, map, take, drop, Some, inl, inr, arith, length-append, length-take-le, take-append-drop}
use Rattle.std.specs.Prelude.{slice_get, nat_eq}
use Rattle.std.proofs.lemmas.Bool.{cases_lt}
use Rattle.std.proofs.lemmas.Bool.Decides.{nat_tests}
use Rattle.std.proofs.lemmas.Option.{slice_get_within}
use Rattle.std.proofs.Math.Nat.{eq-or-lt_of_le}
use Rattle.st_tree.specs.View.{view_body}
use Rattle.st_tree.specs.Meaning.{Done, run_all}
use Rattle.plant_types.specs.Values.{Path}
use Rattle.logic_walk.specs.declared.frame.Base.{Base}
use Rattle.logic_walk.specs.declared.frame.Frame.{Frame}
use Rattle.logic_walk.specs.Frames.{of_first, routine_paths, frame_paths, InTurn, AreInTurn}
use Rattle.logic_walk.specs.Walks.{frame_space, run_frame}
use Rattle.logic_walk.proofs.Firsts.{first_is, first_past}
use Rattle.logic_walk.proofs.Growing.{first_more, each_more}
use Rattle.codegen.specs.Sizes.{routine_cost, frame_cost, routine_size, frame_size}
use Rattle.acc_vm.specs.Machine.{Over}
use Rattle.acc_vm.specs.Codes.{PlainCode, run_of}
use Rattle.codegen.specs.Codes.{SteadyBody, AreSteady, paths_at}
use Rattle.codegen.specs.Within.{routine_there, frame_there, IsThere}
use Rattle.vm_programs.specs.Codes.{AreOfFirst, program_table, IsCodeOf, AreSmall}
use Rattle.vm_programs.proofs.Local.{AreAlike, paths_local, in_turn_local, run_local, there_local, cost_local, size_local}

at_end : {A : Type 0} (xs : List A) (y : A) → slice_get (xs ++ y ∷ []) (length xs) ≡ Some y
at_end [] y = refl
at_end (x ∷ xs) y = at_end xs y

-- what is among the first elements
taken : {A : Type 0} (i : ℕ) (xs : List A) (k : ℕ) (x : A) → slice_get (take i xs) k ≡ Some x → slice_get xs k ≡ Some x
taken zero xs k x at = absurd (cc)
taken (suc i) [] k x at = absurd (cc)
taken (suc i) (y ∷ ys) zero x at = at
taken (suc i) (y ∷ ys) (suc k) x at = taken i ys k x at

-- among more first ones a frame gives the same
stays_to : {A : Type 0} (none : A) (rule : (ℕ → A) → Frame → A) (xs : List Frame) (a limit k : ℕ) → k < a → a ≤ limit → of_first none rule xs limit k ≡ of_first none rule xs a k
stays_to none rule xs a zero k less most = absurd (omega (arith, less, most))
stays_to none rule xs a (suc m) k less most =
    elim (eq-or-lt_of_le most) [
      | inl same ↦ ap (λ b. of_first none rule xs b k) (sym same)
      | inr more ↦ (
          let before : a ≤ m = omega (arith, more) in
          let other : k < m = omega (arith, less, before) in
          let is : nat_eq k m ≡ false = grind (arith, nat_tests) in
          rw is (stays_to none rule xs a m k less before))
    ]

module _ (fs : List Frame) (first n : ℕ) (own : Frame) (enough : first ≤ length fs) (at : slice_get fs (first + n) ≡ Some own) (uses : AreOfFirst first own.seats.items) where
  abbrev front : List Frame
  front = take first fs

  abbrev table : List Frame
  table = program_table fs first own

  long : length front ≡ first
  long = length-take-le first fs enough

  longer : length table ≡ suc first
  longer = let sum = length-append front (own ∷ []) in let is = long in omega (arith, sum, is)

  at_own : slice_get table first ≡ Some own
  at_own = ap (slice_get table) (sym long) ∙ at_end front own

  within : first + n < length fs
  within = slice_get_within fs (first + n) own at

  module _ {A : Type 0} (none : A) (rule : (ℕ → A) → Frame → A) where
    -- the first frames give the same
    first_same : (limit k : ℕ) → limit ≤ first → of_first none rule table limit k ≡ of_first none rule fs limit k
    first_same limit k most =
        let is = long in
        first_more none rule front (own ∷ []) limit (omega (arith, is, most)) k ∙ sym (first_more none rule front (drop first fs) limit (omega (arith, is, most)) k)
        ∙ ap (λ xs. of_first none rule xs limit k) (take-append-drop first fs)

    front_same : (k : ℕ) → k < first → of_first none rule table (length table) k ≡ of_first none rule fs (length fs) k
    front_same k less =
        let is = longer in
        stays_to none rule table first (length table) k less (omega (arith, is)) ∙ first_same first k (omega arith) ∙ sym (stays_to none rule fs first (length fs) k less enough)

    inner_same : AreAlike first (of_first none rule table first) (of_first none rule fs (first + n))
    inner_same k less = first_same first k (omega arith) ∙ sym (stays_to none rule fs first (first + n) k less (omega arith))

    -- so does the program's own, where what the rule gives hangs on the first ones alone
    own_same : ((inner outer : ℕ → A) → AreAlike first inner outer → rule inner own ≡ rule outer own) → of_first none rule table (length table) first ≡ of_first none rule fs (length fs) (first + n)
    own_same local =
        let is = longer in
        first_is none rule table (length table) first own (omega (arith, is)) at_own ∙ local (of_first none rule table first) (of_first none rule fs (first + n)) inner_same
        ∙ sym (first_is none rule fs (length fs) (first + n) own within at)

  -- what holds of each first frame by its number, and of the program's own, holds of all of its table
  each : (P : ℕ → Frame → Type 0) → ((k : ℕ) (f : Frame) → k < first → slice_get fs k ≡ Some f → P k f) → P first own → (k : ℕ) (f : Frame) → slice_get table k ≡ Some f → P k f
  each P before here =
      each_more P front own (λ k f less found. before k f (let is = long in omega (arith, is, less)) (taken first fs k f found)) (subst (λ m. P m own) (sym long) here)

  paths_first : (limit k : ℕ) → limit ≤ first → frame_paths table limit k ≡ frame_paths fs limit k
  unfolding frame_paths
  paths_first limit k most = first_same [] (λ paths f. routine_paths paths f.seats.items) limit k most

  paths_alike : AreAlike first (frame_paths fs (first + n)) (frame_paths table first)
  unfolding frame_paths
  paths_alike k less = sym (inner_same [] (λ paths f. routine_paths paths f.seats.items) k less)

  pub paths_own : frame_paths table (length table) first ≡ frame_paths fs (length fs) (first + n)
  unfolding frame_paths
  paths_own = own_same [] (λ paths f. routine_paths paths f.seats.items) (λ inner outer alike. paths_local first inner outer alike own.seats.items uses)

  pub in_turn_own : AreInTurn fs → AreInTurn table
  in_turn_own before =
      each (λ k f. InTurn (frame_paths table k) f.seats.items)
      (λ k f less found. subst (λ p. InTurn p f.seats.items) (λ i j. sym (paths_first k j (omega (arith, less))) i) (before k f found))
      (in_turn_local first (frame_paths fs (first + n)) (frame_paths table first) paths_alike own.seats.items uses (before (first + n) own at))

  pub steady_own : AreSteady fs → AreSteady table
  steady_own before = each (λ k f. SteadyBody (view_body f.body.items)) (λ k f less found. before k f found) (before (first + n) own at)

  module _ (t globals : ℕ) where
    runs_own : run_frame t globals table (length table) first ≡ run_frame t globals fs (length fs) (first + n)
    unfolding run_frame
    runs_own =
        own_same (λ b p c. Done c) (λ inner f b p c. run_all (frame_space t globals inner f.seats.items b p) (view_body f.body.items) c)
        (λ inner outer alike i b p c. run_local first t globals inner outer alike own uses b p c i)

  module _ (has_value has_clock : ℕ → Bool) (globals : ℕ) (base : Base) where
    there_own : frame_there has_value has_clock globals table (length table) first base ≡ frame_there has_value has_clock globals fs (length fs) (first + n) base
    there_own =
        λ i. own_same (λ base. true) (routine_there has_value has_clock globals) (λ inner outer alike j b. there_local has_value has_clock first globals inner outer alike own uses b j) i base

    pub is_there_own : IsThere has_value has_clock globals fs (first + n) base → IsThere has_value has_clock globals table first base
    is_there_own h = there_own ∙ h

  pub cost_own : frame_cost table (length table) first ≡ frame_cost fs (length fs) (first + n)
  unfolding frame_cost
  cost_own = own_same 0 routine_cost (λ inner outer alike. cost_local first inner outer alike own uses)

  size_front : (k : ℕ) → k < first → frame_size table (length table) k ≡ frame_size fs (length fs) k
  unfolding frame_size
  size_front k less = front_same 0 routine_size k less

  size_own : frame_size table (length table) first ≡ frame_size fs (length fs) (first + n)
  unfolding frame_size
  size_own = own_same 0 routine_size (λ inner outer alike. size_local first inner outer alike own uses)

  size_past : (k : ℕ) → length table ≤ k → frame_size table (length table) k ≡ 0
  unfolding frame_size
  size_past k most = first_past 0 routine_size table (length table) k most

  pub small_own : AreSmall fs → AreSmall table
  small_own small k =
      elim (cases_lt k first) [
        | inl less ↦ (let is = size_front k less in let most = small k in omega (arith, is, most))
        | inr more ↦ elim (eq-or-lt_of_le more) [
          | inl same ↦ subst (λ j. 3 * frame_size table (length table) j < 4294967296) same (let is = size_own in let most = small (first + n) in omega (arith, is, most))
          | inr past ↦ (let l = longer in let is = size_past k (omega (arith, l, past)) in omega (arith, is))
        ]
      ]

  -- the code of the program in its own table is that of the program among all
  pub code_own : (globals : ℕ) (base : Base) (cost : ℕ) (code : PlainCode) → IsCodeOf table globals first base cost code → IsCodeOf fs globals (first + n) base cost code
  code_own globals base cost code is = record {
    runs = λ t path cells.
        let run = is.runs t path cells in
        let names : paths_at fs (first + n) path ≡ paths_at table first path = ap (λ (ways : List Path). map (λ way. way ++ path) ways) (sym paths_own) in
        (run.0, ap (λ (l : List Path). run_of t l code cells) names ∙ run.1 ∙ (λ i. Over (runs_own t globals i base path cells) run.0));
    paths = is.paths ∙ ap (λ (l : List Path). length l) paths_own;
    within = λ has_value has_clock h. is.within has_value has_clock (is_there_own has_value has_clock globals base h);
    tells = is.tells;
  }

-- of small frames the first ones are small
pub small_first : (fs : List Frame) (first : ℕ) → first ≤ length fs → AreSmall fs → AreSmall (take first fs)
unfolding frame_size
small_first fs first enough small k =
    let long : length (take first fs) ≡ first = length-take-le first fs enough in
    elim (cases_lt k first) [
      | inl less ↦ (
          let is : frame_size (take first fs) first k ≡ frame_size fs first k =
          sym (first_more 0 routine_size (take first fs) (drop first fs) first (omega (arith, long)) k) ∙ ap (λ xs. of_first 0 routine_size xs first k) (take-append-drop first fs)
          in
          let whole : frame_size fs (length fs) k ≡ frame_size fs first k = stays_to 0 routine_size fs first (length fs) k less enough in
          let most = small k in
          subst (λ m. 3 * frame_size (take first fs) m k < 4294967296) (sym long) (omega (arith, is, whole, most)))
      | inr more ↦ (let is : frame_size (take first fs) (length (take first fs)) k ≡ 0 = first_past 0 routine_size (take first fs) (length (take first fs)) k (omega (arith, long, more)) in omega (arith, is))
    ]
