-- The seats of a routine's instances, as they are made one after another.
use Rattle.std.proofs.Common.{◌≡◌, ◌∙◌, ap, sym, subst, refl, ℕ, ◌+◌, ◌<◌, ◌≤◌, Bool, List, [], ◌∷◌, ◌++◌, append_assoc, drop, length, get_or, arith}
use Rattle.std.proofs.lemmas.List.{drop_more, drop_all}
use Rattle.logic_source.specs.declared.logic.Instance.{Instance}
use Rattle.logic_walk.specs.declared.frame.Seat.{Seat}
use Rattle.logic_seats.specs.declared.seats.Extent.{Extent}
use Rattle.logic_seats.specs.declared.seats.Callee.{Callee}
use Rattle.logic_seats.specs.Seats.{Fits, plus, extent_called, extent_by, seat_by, seats_by, ends_by}

pub append_nothing : {A : Type 0} (xs : List A) → xs ++ [] ≡ xs
append_nothing [] = refl
append_nothing (x ∷ xs) = ap (λ l. x ∷ l) (append_nothing xs)

module _ (table : List Callee) (called : List ℕ → Bool) (first : Extent) (list : List Instance) where
  -- numbers only grow: where the last instance ends they are no less
  fits_first : (at : Extent) (is : List Instance) → Fits (ends_by table called at is) → Fits at
  fits_first at [] fits = fits
  fits_first at (i ∷ is) fits =
      let later = fits_first (plus at (extent_called (called i.name) (extent_by table i.of))) is fits in
      let values = later.values in
      let clocks = later.clocks in
      let paths = later.paths in
      record { values = omega (arith, values); clocks = omega (arith, clocks); paths = omega (arith, paths) }

  -- the seats so far, and those of the other instances, are all
  pub record Seated (seats : List Seat) (at : Extent) (i : ℕ) : Type 0 where
    pub seats_are : seats ++ seats_by table called at (drop i list) ≡ seats_by table called first list
    pub end_is : ends_by table called at (drop i list) ≡ ends_by table called first list

  pub seats_more : (seats seats' : List Seat) (seat : Seat) (at at' : Extent) (i : ℕ) (x : Instance) → i < length list → x ≡ get_or list i x → Seated seats at i → seat ≡ seat_by table (called x.name) at x → seats' ≡ seats ++ seat ∷ []
      → at' ≡ plus at (extent_called (called x.name) (extent_by table x.of)) → Seated seats' at' (i + 1)
  seats_more seats seats' seat at at' i x within is before made pushed next =
      let rest = drop (i + 1) list in
      let split : drop i list ≡ x ∷ rest = drop_more list i x within ∙ ap (λ (y : Instance). y ∷ rest) (sym is) in
      let later = seats_by table called (plus at (extent_called (called x.name) (extent_by table x.of))) rest in
      record {
        seats_are = (λ k. pushed k ++ seats_by table called (next k) rest) ∙ append_assoc seats (seat ∷ []) later ∙ ap (λ s. seats ++ s ∷ later) made ∙ ap (λ l. seats ++ seats_by table called at l) (sym split) ∙ before.seats_are;
        end_is = ap (λ e. ends_by table called e rest) next ∙ ap (ends_by table called at) (sym split) ∙ before.end_is;
      }

  -- where the next instance begins
  pub next_fits : (seats : List Seat) (at : Extent) (i : ℕ) (x : Instance) → i < length list → x ≡ get_or list i x → Seated seats at i → Fits (ends_by table called first list) → Fits (plus at (extent_called (called x.name) (extent_by table x.of)))
  next_fits seats at i x within is before fits =
      let rest = drop (i + 1) list in
      let split : drop i list ≡ x ∷ rest = drop_more list i x within ∙ ap (λ (y : Instance). y ∷ rest) (sym is) in
      fits_first (plus at (extent_called (called x.name) (extent_by table x.of))) rest (subst Fits (sym before.end_is ∙ ap (ends_by table called at) split) fits)

  pub seats_whole : (seats : List Seat) (at : Extent) (i : ℕ) → length list ≤ i → Seated seats at i → (seats ≡ seats_by table called first list) × (at ≡ ends_by table called first list)
  seats_whole seats at i past before =
      let none = drop_all i list past in
      (sym (append_nothing seats) ∙ ap (λ l. seats ++ seats_by table called at l) (sym none) ∙ before.seats_are, ap (ends_by table called at) (sym none) ∙ before.end_is)
