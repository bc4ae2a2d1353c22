-- Two runs by two numberings go alike, instruction by instruction, by whatever relation of runs.
use Rattle.std.proofs.Common.{◌≡◌, ℕ, ℤ, zero, suc, ◌+◌, ◌<◌, ◌-ℤ◌, ◌++◌, ◌∙◌, arith, length, Bool, true, false, List, [], ◌∷◌, map, Option, Some, None, refl, ap, sym, subst, if◌then◌else◌}
use Rattle.std.specs.Prelude.{slice_get, option_map, nat_abs, nat_lt, Ok, Err}
use Rattle.std.specs.List.{AllByRecursion, range_with_len}
use Rattle.std.proofs.lemmas.Int.{ints}
use Rattle.std.proofs.lemmas.Option.{slice_get-map}
use Rattle.plant_types.specs.Values.{is_true, has_index, indexed, row_length, row_place, Path}
use Rattle.plant_types.specs.declared.values.Bounds.{Bounds}
use Rattle.plant_types.specs.declared.values.Trap.{Trap}
use Rattle.plant_types.specs.declared.values.Trap.TheVariants.{Index}
use Rattle.std_blocks.specs.Calls.{Call, call}
use Rattle.st_tree.specs.declared.tree.Binary.{Binary}
use Rattle.st_tree.specs.declared.tree.Unary.{Unary}
use Rattle.st_tree.specs.Operators.{Outcome, eval_unary, eval_binary}
use Rattle.st_tree.specs.Meaning.{Spot, Done, Trapped}
use Rattle.logic_cells.specs.Cells.{PlainCells, value_at, assigned, clocked}
use Rattle.logic_cells.specs.Clocks.{shown_by}
use Rattle.acc_vm.specs.declared.instr.Instr.{Instr}
use Rattle.acc_vm.specs.declared.instr.Instr.TheVariants as instr
use Rattle.plant_types.specs.declared.values.Place.{Place}
use Rattle.acc_vm.specs.Machine.{Run, Over, Stuck, Next, with_outcome, on_top, put_on, put_at, spot_at, act, act_at, exec}
use Rattle.vm_slices.specs.Slots.{slots_read, slots_written, clocks_of}
use Rattle.acc_vm.specs.Operands.{operands, renamed}
use Rattle.vm_slices.specs.Renaming.{KeepsRow, KeepsRows}
use Rattle.vm_slices.specs.Alike.{GoAlike}

operands_alike : (op : Binary) (x x' y y' : ℤ) → x ≡ x' → y ≡ y' → eval_binary op x y ≡ eval_binary op x' y'
operands_alike op x x' y y' d e = λ i. eval_binary op (d i) (e i)

operand_alike : (op : Unary) (x x' : ℤ) → x ≡ x' → eval_unary op x ≡ eval_unary op x'
operand_alike op x x' d = λ i. eval_unary op (d i)

unchanged : (x : ℤ) → x ≡ x
unchanged x = refl

-- each number stands for itself
abbrev pub itself : ℕ → ℕ
itself n = n

pub renamed_itself : (i : Instr) → renamed itself itself i ≡ i
renamed_itself instr.End = refl
renamed_itself i = refl

-- an index within the bounds is that of a slot of the row
index_in_row : (bounds : Bounds) (index : ℤ) → has_index bounds index ≡ true → nat_abs (index -ℤ bounds.low) < row_length bounds
index_in_row bounds index h = grind (arith, ints, h)

-- what holds of each slot of a row holds of the one of a place in it
at_row : (P : ℕ → Type 0) (first count : ℕ) → AllByRecursion P (range_with_len first count) → (k : ℕ) → k < count → P (first + k)
at_row P first zero all k lt = absurd (omega arith)
at_row P first (suc n) all zero lt = let e : first ≡ first + 0 = omega arith in subst P e all.0
at_row P first (suc n) all (suc k) lt = let e : first + 1 + k ≡ first + suc k = omega arith in subst P e (at_row P (first + 1) n all.1 k (omega arith))

-- what holds of all items of two lists holds of those of each
pub in_front : (P : ℕ → Type 0) (xs ys : List ℕ) → AllByRecursion P (xs ++ ys) → AllByRecursion P xs
in_front P [] ys all = tt
in_front P (x ∷ xs) ys all = (all.0, in_front P xs ys all.1)

pub behind : (P : ℕ → Type 0) (xs ys : List ℕ) → AllByRecursion P (xs ++ ys) → AllByRecursion P ys
behind P [] ys all = all
behind P (x ∷ xs) ys all = behind P xs ys all.1

-- by a relation of cells, and two renamings
module _ (R : PlainCells → PlainCells → Type 0) (f g : ℕ → ℕ) where
  -- the relation gives one value of a slot, and stays where it is assigned
  pub record Reads (s : ℕ) : Type 0 where
    pub is : (w v : PlainCells) → R w v → value_at w s ≡ value_at v (f s)

  pub record Assigns (s : ℕ) : Type 0 where
    pub is : (w v : PlainCells) (n : ℤ) → R w v → R (assigned w s n) (assigned v (f s) n)

  -- the same of a clock
  pub record Shows (k : ℕ) : Type 0 where
    pub is : (w v : PlainCells) → R w v → slice_get w.clocks k ≡ slice_get v.clocks (g k)
    pub calls : (w v : PlainCells) (c d : Call) → c ≡ d → R w v → R (clocked w k c) (clocked v (g k) d)

  pub record Suits (i : Instr) : Type 0 where
    pub reads : AllByRecursion Reads (slots_read i)
    pub writes : AllByRecursion Assigns (slots_written i)
    pub clocks : AllByRecursion Shows (clocks_of i)
    pub rows : KeepsRows f (operands i)

  pub read : (s : ℕ) (w v : PlainCells) → Reads s → R w v → value_at w s ≡ value_at v (f s)
  read s w v h same = h.is w v same

  pub write : (s : ℕ) (w v : PlainCells) (n : ℤ) → Assigns s → R w v → R (assigned w s n) (assigned v (f s) n)
  write s w v n h same = h.is w v n same

  show : (k name : ℕ) (w v : PlainCells) → Shows k → R w v → shown_by (slice_get w.clocks k) name ≡ shown_by (slice_get v.clocks (g k)) name
  show k name w v h same = ap (λ o. shown_by o name) (h.is w v same)

  enter : (k s t : ℕ) (pt : ℤ) (w v : PlainCells) → Shows k → Reads s → R w v → R (clocked w k (call (is_true (value_at w s)) pt t)) (clocked v (g k) (call (is_true (value_at v (f s))) pt t))
  enter k s t pt w v h reads same = h.calls w v (call (is_true (value_at w s)) pt t) (call (is_true (value_at v (f s))) pt t) (ap (λ n. call (is_true n) pt t) (reads.is w v same)) same

  -- and by a relation of runs
  module _ (Q : Run → Run → Type 0) where
    pub record Like (a b : Run) : Type 0 where
      pub is : Q a b

    -- what it holds of, where a run ends with a spot and fuel and another with others: the end, a trap, and being stuck
    pub record Holds (spot other : Spot) (left rest : ℕ) : Type 0 where
      pub done : (w v : PlainCells) → R w v → Q (Over (Done w) left) (Over (Done v) rest)
      pub trapped : (w v : PlainCells) (trap : Trap) → R w v → Q (Over (Trapped w spot trap) left) (Over (Trapped v other trap) rest)
      pub stuck : Q Stuck Stuck

    pub record Goes (next after : Next) : Type 0 where
      pub on : (pc : ℕ) (m n : ℤ) (stack : List ℤ) (w v : PlainCells) → m ≡ n → R w v → Like (next pc m stack w) (after pc n stack v)

    module _ (spot other : Spot) (left rest : ℕ) (holds : Holds spot other left rest) where
      outcome : (w v : PlainCells) (o p : Outcome) (i j : ℤ → Run) → o ≡ p → R w v → ((n : ℤ) → Like (i n) (j n)) → Like (with_outcome spot left w o i) (with_outcome other rest v p j)
      outcome w v o p i j e same h = subst (λ p. Like (with_outcome spot left w o i) (with_outcome other rest v p j)) e (at o)
        where
          at : (o : Outcome) → Like (with_outcome spot left w o i) (with_outcome other rest v o j)
          at (Ok n) = h n
          at (Err trap) = record { is = holds.trapped w v trap same }

      stuck : Like Stuck Stuck
      stuck = record { is = holds.stuck }

      top : (stack : List ℤ) (i j : ℤ → List ℤ → Run) → ((n : ℤ) (s : List ℤ) → Like (i n s) (j n s)) → Like (on_top stack i) (on_top stack j)
      top [] i j h = stuck
      top (x ∷ stack) i j h = h x stack

      pick : (b : Bool) (x x' y y' : Run) → Like x x' → Like y y' → Like (if b then x else y) (if b then x' else y')
      pick true x x' y y' h k = h
      pick false x x' y y' h k = k

      module _ (t room : ℕ) (next after : Next) (on : Goes next after) where
        go : (pc : ℕ) (m n : ℤ) (stack : List ℤ) (w v : PlainCells) → m ≡ n → R w v → Like (next pc m stack w) (after pc n stack v)
        go pc m n stack w v e same = on.on pc m n stack w v e same

        -- the accumulator takes the value of the element of an index, and another instruction follows
        element : (slot : ℕ) (bounds : Bounds) (pc : ℕ) (index index' : ℤ) (stack : List ℤ) (w v : PlainCells) → AllByRecursion Reads (range_with_len slot (row_length bounds)) → KeepsRow f slot (row_length bounds) → index ≡ index' → R w v
            → Like (with_outcome spot left w (indexed bounds index) (λ n. next pc (value_at w (row_place slot bounds n)) stack w))
            (with_outcome other rest v (indexed bounds index') (λ n. after pc (value_at v (row_place (f slot) bounds n)) stack v))
        element slot bounds pc index index' stack w v reads keeps e same =
            subst (λ m. Like (with_outcome spot left w (indexed bounds index) (λ n. next pc (value_at w (row_place slot bounds n)) stack w)) (with_outcome other rest v (indexed bounds m) (λ n. after pc (value_at v (row_place (f slot) bounds n)) stack v))) e
            (by (has_index bounds index) refl)
          where
            by : (b : Bool) → has_index bounds index ≡ b
                → Like (with_outcome spot left w (if b then Ok index else Err Index) (λ n. next pc (value_at w (row_place slot bounds n)) stack w))
                (with_outcome other rest v (if b then Ok index else Err Index) (λ n. after pc (value_at v (row_place (f slot) bounds n)) stack v))
            by true within =
                let k = nat_abs (index -ℤ bounds.low) in
                let lt = index_in_row bounds index within in
                let value = (at_row Reads slot (row_length bounds) reads k lt).is w v same in
                go pc (value_at w (row_place slot bounds index)) (value_at v (row_place (f slot) bounds index)) stack w v (value ∙ ap (value_at v) (keeps k lt)) same
            by false within = record { is = holds.trapped w v Index same }

        -- an index goes onto the stack
        locate : (bounds : Bounds) (pc : ℕ) (index index' : ℤ) (stack : List ℤ) (w v : PlainCells) → index ≡ index' → R w v
            → Like (with_outcome spot left w (indexed bounds index) (λ n. put_on room n stack (λ s. next pc n s w)))
            (with_outcome other rest v (indexed bounds index') (λ n. put_on room n stack (λ s. after pc n s v)))
        locate bounds pc index index' stack w v e same =
            outcome w v (indexed bounds index) (indexed bounds index') (λ n. put_on room n stack (λ s. next pc n s w)) (λ n. put_on room n stack (λ s. after pc n s v)) (ap (indexed bounds) e) same
            (λ n. pick (nat_lt (length stack) room) (next pc n (n ∷ stack) w) (after pc n (n ∷ stack) v) Stuck Stuck (go pc n n (n ∷ stack) w v refl same) stuck)

        -- an element takes a number
        store : (slot : ℕ) (bounds : Bounds) (pc : ℕ) (m n : ℤ) (stack : List ℤ) (w v : PlainCells) → AllByRecursion Assigns (range_with_len slot (row_length bounds)) → KeepsRow f slot (row_length bounds) → m ≡ n → R w v
            → Like (on_top stack (λ index s. put_at slot bounds index m w (λ changed. next pc m s changed)))
            (on_top stack (λ index s. put_at (f slot) bounds index n v (λ changed. after pc n s changed)))
        store slot bounds pc m n stack w v writes keeps e same =
            subst (λ k. Like (on_top stack (λ index s. put_at slot bounds index m w (λ changed. next pc m s changed))) (on_top stack (λ index s. put_at (f slot) bounds index k v (λ changed. after pc k s changed)))) e
            (top stack (λ index s. put_at slot bounds index m w (λ changed. next pc m s changed)) (λ index s. put_at (f slot) bounds index m v (λ changed. after pc m s changed))
            (λ index s. by index s (has_index bounds index) refl))
          where
            by : (index : ℤ) (s : List ℤ) (b : Bool) → has_index bounds index ≡ b
                → Like (if b then next pc m s (assigned w (row_place slot bounds index) m) else Stuck) (if b then after pc m s (assigned v (row_place (f slot) bounds index) m) else Stuck)
            by index s true within =
                let k = nat_abs (index -ℤ bounds.low) in
                let lt = index_in_row bounds index within in
                let moved = (at_row Assigns slot (row_length bounds) writes k lt).is w v m same in
                go pc m m s (assigned w (row_place slot bounds index) m) (assigned v (row_place (f slot) bounds index) m) refl (subst (λ n. R (assigned w (row_place slot bounds index) m) (assigned v n m)) (keeps k lt) moved)
            by index s false within = stuck

        pub acts : (i : Instr) (pc : ℕ) (acc : ℤ) (stack : List ℤ) (w v : PlainCells) → Suits i → R w v
            → Like (act t room i spot left next pc acc stack w) (act t room (renamed f g i) other rest after pc acc stack v)
        acts instr.End pc acc stack w v suits same = record { is = holds.done w v same }
        acts (instr.LoadAt first bounds) pc acc stack w v suits same = element first bounds (pc + 1) acc acc stack w v (in_front Reads (range_with_len first (row_length bounds)) [] suits.reads) suits.rows.0 refl same
        acts (instr.Locate bounds) pc acc stack w v suits same = locate bounds (pc + 1) acc acc stack w v refl same
        acts (instr.StoreAt first bounds) pc acc stack w v suits same = store first bounds (pc + 1) acc acc stack w v (in_front Assigns (range_with_len first (row_length bounds)) [] suits.writes) suits.rows.0 refl same
        acts (instr.LoadLoadAt slot first bounds) pc acc stack w v suits same =
            element first bounds (pc + 2) (value_at w slot) (value_at v (f slot)) stack w v (in_front Reads (range_with_len first (row_length bounds)) [] suits.reads.1) suits.rows.0 (read slot w v suits.reads.0 same) same
        acts (instr.LoadLocate slot bounds) pc acc stack w v suits same = locate bounds (pc + 2) (value_at w slot) (value_at v (f slot)) stack w v (read slot w v suits.reads.0 same) same
        acts (instr.LoadStoreAt slot first bounds) pc acc stack w v suits same =
            store first bounds (pc + 2) (value_at w slot) (value_at v (f slot)) stack w v (in_front Assigns (range_with_len first (row_length bounds)) [] suits.writes) suits.rows.0 (read slot w v suits.reads.0 same) same
        acts (instr.BinaryLiteralStoreAt op first y bounds) pc acc stack w v suits same =
            outcome w v (eval_binary op acc y) (eval_binary op acc y) (λ n. on_top stack (λ index s. put_at first bounds index n w (λ changed. next (pc + 2) n s changed)))
            (λ n. on_top stack (λ index s. put_at (f first) bounds index n v (λ changed. after (pc + 2) n s changed))) refl same
            (λ n. store first bounds (pc + 2) n n stack w v (in_front Assigns (range_with_len first (row_length bounds)) [] suits.writes) suits.rows.0 refl same)
        acts i pc acc stack w v suits same = search (outcome, top, pick, stuck, read, write, show, enter, go, operands_alike, operand_alike, unchanged, suits.reads, suits.writes, suits.clocks) depth 8

        pub act_ats : (o : Option Instr) (pc : ℕ) (acc : ℤ) (stack : List ℤ) (w v : PlainCells) → ((i : Instr) → o ≡ Some i → Suits i) → R w v
            → Like (act_at t room o spot left next pc acc stack w) (act_at t room (option_map (renamed f g) o) other rest after pc acc stack v)
        act_ats None pc acc stack w v suits same = stuck
        act_ats (Some i) pc acc stack w v suits same = acts i pc acc stack w v (suits i refl) same

  alike : (spot : Spot) (left : ℕ) → Holds (GoAlike R) spot spot left left
  alike spot left = record { done = λ w v same. (same, refl); trapped = λ w v trap same. ((same, refl, refl), refl); stuck = tt }

  module _ (t room : ℕ) (names : List Path) (code : List Instr) (places : List Place) (suits : (pc : ℕ) (i : Instr) → slice_get code pc ≡ Some i → Suits i) where
    pub runs : (fuel : ℕ) → Goes (GoAlike R) (exec t room names code places fuel) (exec t room names (map (renamed f g) code) places fuel)
    runs zero = record { on = λ pc m n stack w v e same. record { is = tt } }
    runs (suc fuel) =
        let step = λ (pc : ℕ) (m : ℤ) (stack : List ℤ) (w v : PlainCells) (same : R w v).
        let spot = spot_at names (slice_get places pc) in
        act_ats (GoAlike R) spot spot fuel fuel (alike spot fuel) t room (exec t room names code places fuel) (exec t room names (map (renamed f g) code) places fuel) (runs fuel) (slice_get code pc) pc m stack w v (suits pc) same in
        record {
          on = λ pc m n stack w v e same.
              subst (λ k. Like (GoAlike R) (exec t room names code places (suc fuel) pc m stack w) (exec t room names (map (renamed f g) code) places (suc fuel) pc k stack v)) e
              (subst (λ o. Like (GoAlike R) (exec t room names code places (suc fuel) pc m stack w) (act_at t room o (spot_at names (slice_get places pc)) fuel (exec t room names (map (renamed f g) code) places fuel) pc m stack v))
              (sym (slice_get-map (renamed f g) code pc)) (step pc m stack w v same));
        }
