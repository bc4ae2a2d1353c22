-- The machine follows an assignment to an element of an array.
use Rattle.std.proofs.Common.{◌≡◌, ◌∙◌, ℕ, ℤ, ◌+◌, ◌*◌, ◌<◌, ◌≤◌, Bool, true, false, List, [], ◌∷◌, ◌++◌, length, Some, refl, ap, subst, arith, length-append, if◌then◌else◌}
use Rattle.std.specs.Prelude.{slice_get, Ok, Err}
use Rattle.std.proofs.lemmas.Bool.{lt-ltb}
use Rattle.plant_types.specs.declared.values.Bounds.{Bounds}
use Rattle.plant_types.specs.declared.values.Place.{Place}
use Rattle.plant_types.specs.declared.values.Trap.TheVariants.{Index}
use Rattle.plant_types.specs.Values.{has_index, indexed, row_place, Path}
use Rattle.st_tree.specs.Plain.{PlainExpr}
use Rattle.st_tree.specs.Operators.{Outcome}
use Rattle.st_tree.specs.Meaning.{Space, then_one, index_of, Spot, Ran, Done, Trapped, with_value, outcome}
use Rattle.st_tree.specs.Costs.{expr_cost}
use Rattle.st_tree.proofs.FittedLaws.{index_within}
use Rattle.logic_cells.specs.Cells.{PlainCells, assigned}
use Rattle.logic_walk.specs.declared.frame.Seat.{Seat}
use Rattle.logic_walk.specs.declared.frame.Base.{Base}
use Rattle.logic_walk.specs.Walks.{slot_of, frame_space}
use Rattle.acc_vm.specs.declared.instr.Instr.TheVariants as instr
use Rattle.acc_vm.specs.Machine.{Over, Stuck, with_outcome, put_on}
use Rattle.vm_sizes.specs.Sizes.{expr_words}
use Rattle.codegen.specs.Codes.{Line, Coder, expr_code, store_code}
use Rattle.codegen.proofs.Steps.{Machine, Has, spot_of, has_front, has_back, Leads, Traps, Runs, leads_on, traps_on, later_traps, one_step, one_trap}
use Rattle.codegen.proofs.Exprs.{Gives, expr_runs}

module _ (m : Machine) (place : Place) (spot : Spot) (placed : spot_of m place ≡ spot) (w : PlainCells) where
  abbrev LocatedBy : ℕ → ℕ → ℤ → List ℤ → ℕ → Outcome → Type 0
  LocatedBy pc pc1 acc stack d (Ok i) = Leads m pc acc stack w (pc1 + 1) i (i ∷ stack) w d
  LocatedBy pc pc1 acc stack d (Err t) = Traps m pc acc stack w w spot t d

  -- an index that is tested goes onto the stack, or traps
  located : (bounds : Bounds) (o : Outcome) (pc pc1 : ℕ) (acc : ℤ) (stack : List ℤ) (b d : ℕ) → b + 1 ≤ d → slice_get m.code pc1 ≡ Some (instr.Locate bounds) → slice_get m.places pc1 ≡ Some place → length stack < m.room
      → Gives m place spot pc acc stack w pc1 b o → LocatedBy pc pc1 acc stack d (then_one o (indexed bounds))
  located bounds (Err t) pc pc1 acc stack b d le at is fits g = later_traps m b d (omega arith) g
  located bounds (Ok n) pc pc1 acc stack b d le at is fits g = by (has_index bounds n) refl
    where
      by : (c : Bool) → has_index bounds n ≡ c → LocatedBy pc pc1 acc stack d (if c then Ok n else Err Index)
      by true same =
          leads_on m b 1 d le g
          (one_step m pc1 (pc1 + 1) (pc1 + 1) n n stack (n ∷ stack) w w (instr.Locate bounds) place at is refl
          (λ left on. ap (λ c. with_outcome (spot_of m place) left w (if c then Ok n else Err Index) (λ i. put_on m.room i stack (λ s. on (pc1 + 1) i s w))) same
          ∙ ap (λ t. if t then on (pc1 + 1) n (n ∷ stack) w else Stuck) (lt-ltb (length stack) m.room fits)))
      by false same =
          traps_on m b 1 d le g
          (one_trap m pc1 n stack w w (instr.Locate bounds) place spot Index at is
          (λ left on. ap (λ c. with_outcome (spot_of m place) left w (if c then Ok n else Err Index) (λ i. put_on m.room i stack (λ s. on (pc1 + 1) i s w))) same
          ∙ ap (λ s. Over (Trapped w s Index) left) placed))

  -- an element whose index lies on the stack takes a value
  stored : (first : ℕ) (bounds : Bounds) (i n : ℤ) (pc : ℕ) (stack : List ℤ) → has_index bounds i ≡ true → slice_get m.code pc ≡ Some (instr.StoreAt first bounds) → slice_get m.places pc ≡ Some place
      → Leads m pc n (i ∷ stack) w (pc + 1) n stack (assigned w (row_place first bounds i) n) 1
  stored first bounds i n pc stack within at is =
      one_step m pc (pc + 1) (pc + 1) n n (i ∷ stack) stack w (assigned w (row_place first bounds i) n) (instr.StoreAt first bounds) place at is refl
      (λ left on. ap (λ c. if c then on (pc + 1) n stack (assigned w (row_place first bounds i) n) else Stuck) within)

  module _ (globals : ℕ) (seats : List Seat) (lines : ℕ → ℕ) (inner : ℕ → Coder) (base : Base) (path : ℕ) (runs : ℕ → Base → Path → PlainCells → Ran PlainCells) (way : Path) where
    abbrev space : Space ℕ PlainCells
    space = frame_space m.moment globals runs seats base way

    abbrev code : PlainExpr ℕ → List Line
    code e = expr_code globals seats lines inner base path place e

    abbrev store_last : ℕ → Bounds → List Line
    store_last v bounds = (instr.StoreAt (slot_of globals base v) bounds, place) ∷ []

    -- the right side, over the index on the stack, and the store
    then_stored : (v : ℕ) (bounds : Bounds) (value : PlainExpr ℕ) (o : Outcome) (pc p1 pc' : ℕ) (acc : ℤ) (stack : List ℤ) (b d : ℕ) → ((i : ℤ) → o ≡ Ok i → has_index bounds i ≡ true) → b + 2 * expr_cost value + 1 ≤ d
        → Has m (p1 + 1) (code value ++ store_last v bounds) → length stack + (expr_words value + 1) ≤ m.room → p1 + 1 + length (code value) + 1 ≡ pc'
        → LocatedBy pc p1 acc stack b o
        → Runs m pc acc stack w pc' d (with_value w spot o (λ i. with_value w spot (outcome space w value) (λ n. Done (assigned w (row_place (slot_of globals base v) bounds i) n))))
    then_stored v bounds value (Err t) pc p1 pc' acc stack b d within le has fits len l = later_traps m b d (omega arith) l
    then_stored v bounds value (Ok i) pc p1 pc' acc stack b d within le has fits len l =
        finish (outcome space w value) (expr_runs m globals seats lines inner base path runs way place spot placed w value (p1 + 1) i (i ∷ stack) (has_front m (p1 + 1) (code value) (store_last v bounds) has) (omega arith))
      where
        finish : (o : Outcome) → Gives m place spot (p1 + 1) i (i ∷ stack) w (p1 + 1 + length (code value)) (2 * expr_cost value) o
            → Runs m pc acc stack w pc' d (with_value w spot o (λ n. Done (assigned w (row_place (slot_of globals base v) bounds i) n)))
        finish (Err t) g = traps_on m b (2 * expr_cost value) d (omega arith) l g
        finish (Ok n) g =
            let first = slot_of globals base v in
            let at = has_back m (p1 + 1) (code value) (store_last v bounds) has in
            let p2 = p1 + 1 + length (code value) in
            let both = leads_on m b (2 * expr_cost value) (b + 2 * expr_cost value) (omega arith) l g in
            let last = stored first bounds i n p2 stack (within i refl) at.0 at.1 in
            let whole = leads_on m (b + 2 * expr_cost value) 1 d le both last in
            (n, subst (λ p. Leads m pc acc stack w p n stack (assigned w (row_place first bounds i) n) d) len whole)

    pub store_runs : (v : ℕ) (bounds : Bounds) (index value : PlainExpr ℕ) (pc : ℕ) (acc : ℤ) (stack : List ℤ) → Has m pc (store_code globals seats lines inner base path place v bounds index value)
        → length stack + expr_words index ≤ m.room → length stack + (expr_words value + 1) ≤ m.room
        → Runs m pc acc stack w (pc + length (store_code globals seats lines inner base path place v bounds index value)) (2 * (expr_cost index + expr_cost value) + 2)
        (with_value w spot (index_of space w bounds index) (λ i. with_value w spot (outcome space w value) (λ n. Done (assigned w (row_place (slot_of globals base v) bounds i) n))))
    store_runs v bounds index value pc acc stack has fits_index fits_value =
        let c = code index in
        let tail = (instr.Locate bounds, place) ∷ (code value ++ store_last v bounds) in
        let rest = has_back m pc c tail has in
        let p1 = pc + length c in
        let first = expr_runs m globals seats lines inner base path runs way place spot placed w index pc acc stack (has_front m pc c tail has) fits_index in
        let there = located bounds (outcome space w index) pc p1 acc stack (2 * expr_cost index) (2 * expr_cost index + 1) (omega arith) rest.0 rest.1 (omega arith) first in
        let len : p1 + 1 + length (code value) + 1 ≡ pc + length (store_code globals seats lines inner base path place v bounds index value) =
        omega (arith, length-append c tail, length-append (code value) (store_last v bounds)) in
        then_stored v bounds value (index_of space w bounds index) pc p1 (pc + length (store_code globals seats lines inner base path place v bounds index value)) acc stack (2 * expr_cost index + 1) (2 * (expr_cost index + expr_cost value) + 2)
        (λ i is. index_within bounds (outcome space w index) i is) (omega arith) rest.2 fits_value len there
