-- Where block types stand in an order, and where the seats of instances are.
use Rattle.std.proofs.Common.{◌≡◌, ◌∙◌, ap, subst, refl, arith, ℕ, zero, suc, ◌+◌, ◌<◌, true, false, List, [], ◌∷◌, length, Some, slice_get, inl, inr}
use Rattle.std.specs.Prelude.{nat_eq, nat_lt, take}
use Rattle.std.specs.List.{position_or_len}
use Rattle.std.proofs.lemmas.Bool.{cases_Bool}
use Rattle.std.proofs.lemmas.Bool.Decides.{nat_tests}
use Rattle.st_blocks.specs.Chains.{Among}
use Rattle.logic_source.specs.declared.logic.Instance.{Instance}
use Rattle.logic_source.specs.Source.{PlainRoutine}
use Rattle.logic_source.specs.Seats.{value_count, clock_count, values_before, clocks_before}
use Rattle.logic_walk.specs.declared.frame.Seat.{Seat}
use Rattle.logic_frames.specs.Frames.{place_in, IsSeat, AreSeats}

-- a number that is listed among the first so many has its place there
pub record Placed (order : List ℕ) (k n : ℕ) : Type 0 where
  pub j : ℕ
  pub below : j < k
  pub within : j < length order
  pub found : position_or_len (nat_eq n) order ≡ j
  pub at : slice_get order j ≡ Some n

placed_later : (a n k : ℕ) (order : List ℕ) → nat_eq n a ≡ false → Placed order k n → Placed (a ∷ order) (suc k) n
placed_later a n k order other p = record { j = suc p.j; below = omega (arith, p.below); within = omega (arith, p.within); found = rw other (let same = p.found in omega (arith, same)); at = p.at }

pub placed : (order : List ℕ) (k n : ℕ) → Among (take k order) n → Placed order k n
placed [] zero n here = elim here [ ]
placed [] (suc k) n here = elim here [ ]
placed (a ∷ order) zero n here = elim here [ ]
placed (a ∷ order) (suc k) n here =
    elim (cases_Bool (nat_eq n a)) [
      | inl is ↦ (let same : a ≡ n = grind (arith, nat_tests) in record { j = 0; below = omega arith; within = omega arith; found = rw is refl; at = ap Some same })
      | inr isnt ↦ placed_later a n k order isnt (placed order k n (later a n k order isnt here))
    ]
  where
    later : (a n k : ℕ) (order : List ℕ) → nat_eq n a ≡ false → Among (a ∷ take k order) n → Among (take k order) n
    later a n k order isnt (inl same) = absurd (let other = isnt in grind (arith, nat_tests))
    later a n k order isnt (inr more) = more

among_all : (order : List ℕ) (n : ℕ) → Among order n → Among (take (length order) order) n
among_all [] n here = here
among_all (a ∷ order) n (inl same) = inl same
among_all (a ∷ order) n (inr more) = inr (among_all order n more)

pub place_is : (order : List ℕ) (k n : ℕ) (p : Placed order k n) → place_in order n ≡ p.j
place_is order k n p =
    let same = p.found in
    let small = p.within in
    let is : nat_lt (position_or_len (nat_eq n) order) (length order) ≡ true = grind (arith, nat_tests) in
    rw is same

-- a number that is listed has its place
pub placed_there : (order : List ℕ) (n : ℕ) → Among order n → Placed order (length order) n
placed_there order n here = placed order (length order) n (among_all order n here)

module _ (blocks : List PlainRoutine) (r : PlainRoutine) (order : List ℕ) where
  -- the instance of a number has a seat, after those before it
  pub seat_found : (is : List Instance) (seats : List Seat) (values clocks k : ℕ) (i : Instance) → AreSeats blocks r order values clocks is seats → slice_get is k ≡ Some i
      → (seat : Seat) × (slice_get seats k ≡ Some seat) × IsSeat r order (values + values_before blocks is k) (clocks + clocks_before blocks is k) i seat
  seat_found [] seats values clocks k i are at = absurd (cc)
  seat_found (j ∷ is) [] values clocks k i are at = absurd are
  seat_found (j ∷ is) (seat ∷ seats) values clocks zero i are at =
      let same : j ≡ i = cc in
      (seat, refl, subst (λ x. IsSeat r order (values + 0) (clocks + 0) x seat) same (seat_moved seat j values (values + 0) clocks (clocks + 0) (omega arith) (omega arith) are.0))
    where
      seat_moved : (seat : Seat) (j : Instance) (v v' c c' : ℕ) → v ≡ v' → c ≡ c' → IsSeat r order v c j seat → IsSeat r order v' c' j seat
      seat_moved seat j v v' c c' first second is = record { name_is = is.name_is; of_is = is.of_is; values_is = is.values_is ∙ first; clocks_is = is.clocks_is ∙ second; called_is = is.called_is }
  seat_found (j ∷ is) (seat ∷ seats) values clocks (suc k) i are at =
      let found = seat_found is seats (values + value_count blocks j.of) (clocks + clock_count blocks j.of) k i are.1 at in
      let it = found.2 in (
        found.0,
        found.1,
        record {
          name_is = it.name_is;
          of_is = it.of_is;
          values_is = (let same = it.values_is in omega (arith, same));
          clocks_is = (let same = it.clocks_is in omega (arith, same));
          called_is = it.called_is;
        },
      )
