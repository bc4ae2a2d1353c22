use Rattle.std.proofs.Common.{◌≡◌, ◌∙◌, ap, sym, subst, ℕ, List, Option, Some, None, slice_get, get_or, length, ◌+◌, arith}
use Rattle.std.proofs.lemmas.Option.{slice_get-get_or}
use Rattle.logic_carry.specs.Keeping.{ArePlaces}
use Rattle.logic_carry.proofs.Placing.{places_none, replicate_long, placed_or_passed, placed_long}
use Rattle.logic_carry.proofs.kept.places_of.Goals as goal

pub loop-number-init : goal.loop-number-init
loop-number-init c = record {
  places = subst (λ (xs : List (Option ℕ)). ArePlaces c.args.paths.now 0 xs) (sym c.in_ok-places.ensures) (places_none c.args.paths.now c.args.size);
  size = ap length c.in_ok-places.ensures ∙ replicate_long c.args.size None;
}

pub loop-number-preserved : goal.loop-number-preserved
loop-number-preserved c =
    let paths = c.args.paths.now in
    let n = c.loop-number.number in
    let path = get_or paths n 0 in
    let at : slice_get paths n ≡ Some path = slice_get-get_or paths n 0 (omega (arith, c.loop-number-test.true)) in
    record {
      places = subst (λ (xs : List (Option ℕ)). ArePlaces paths (n + 1) xs) (sym c.put_place.ensures) (placed_or_passed paths n path c.loop-number.places.items at c.loop-number.invariant.places);
      size = ap length c.put_place.ensures ∙ placed_long c.loop-number.places.items path n ∙ c.loop-number.invariant.size;
    }
