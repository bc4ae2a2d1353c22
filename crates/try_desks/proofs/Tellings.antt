-- What a list tells, element by element, beside another list.
use Rattle.std.proofs.Common.{◌≡◌, Bool, true, false, count_by, if◌then◌else◌, ℕ, ◌+◌, ◌<◌, ◌≤◌, List, [], ◌∷◌, ◌++◌, Option, Some, None, take, drop, length, get_or, slice_get, refl, sym, ◌∙◌, ap, subst, arith, length-append, append_assoc}
use Rattle.std.specs.List.{filter_map}
use Rattle.std.proofs.Math.Seq.{get_or-append_seam}
use Rattle.std.proofs.lemmas.Grind.{take_at_read}
use Rattle.std.proofs.lemmas.List.{append-nil, take-append-drop, take_all, length-take-le}
use Rattle.std.proofs.lemmas.List.Elements.{filter_map-append}
use Rattle.std.proofs.lemmas.List.Sums.{count_by_more_yes, count_by_more_no}
use Rattle.std.proofs.lemmas.Option.{slice_get_within, get_or_from_slice_get, slice_get-get_or}
use Rattle.try_desks.specs.declared.notes.Telling.{Telling}

-- orders are told alike where each number is the same
pub same_telling : (a b : Telling) → a.verb ≡ b.verb → a.time ≡ b.time → a.target ≡ b.target → a.refusal ≡ b.refusal → a ≡ b
same_telling a b v t o r = λ i. record { verb = v i; time = t i; target = o i; refusal = r i }

-- one element more
take_more : {X : Type 0} (xs : List X) (i : ℕ) (x : X) → slice_get xs i ≡ Some x → take (i + 1) xs ≡ take i xs ++ x ∷ []
take_more xs i x e = (take_at_read xs i x (slice_get_within xs i x e)).1 ∙ ap (λ y. take i xs ++ y ∷ []) (get_or_from_slice_get xs i x x e)

module _ {X Y : Type 0} (h : X → Option Y) where
  -- an element that tells nothing
  pub none_more : (xs : List X) (i : ℕ) (x : X) → slice_get xs i ≡ Some x → h x ≡ None → filter_map h (take (i + 1) xs) ≡ filter_map h (take i xs)
  none_more xs i x e none =
      ap (λ ys. filter_map h ys) (take_more xs i x e) ∙ (filter_map-append h (take i xs) (x ∷ []) ∙ (ap (λ ys. filter_map h (take i xs) ++ ys) (rw none refl) ∙ append-nil (filter_map h (take i xs))))

  -- an element that tells something
  some_more : (xs : List X) (i : ℕ) (x : X) (y : Y) → slice_get xs i ≡ Some x → h x ≡ Some y → filter_map h (take (i + 1) xs) ≡ filter_map h (take i xs) ++ y ∷ []
  some_more xs i x y e some = ap (λ ys. filter_map h ys) (take_more xs i x e) ∙ (filter_map-append h (take i xs) (x ∷ []) ∙ ap (λ ys. filter_map h (take i xs) ++ ys) (rw some refl))

  -- the whole, from such an element on
  whole : (xs : List X) (i : ℕ) (x : X) (y : Y) → slice_get xs i ≡ Some x → h x ≡ Some y → filter_map h xs ≡ filter_map h (take i xs) ++ y ∷ filter_map h (drop (i + 1) xs)
  whole xs i x y e some =
      ap (λ ys. filter_map h ys) (sym (take-append-drop (i + 1) xs))
      ∙ (filter_map-append h (take (i + 1) xs) (drop (i + 1) xs) ∙ (ap (λ ys. ys ++ filter_map h (drop (i + 1) xs)) (some_more xs i x y e some) ∙ append_assoc (filter_map h (take i xs)) (y ∷ []) (filter_map h (drop (i + 1) xs))))

  -- both lists go on alike
  pub goes_on : (xs : List X) (ts : List Y) (i m : ℕ) (x : X) (y : Y) → slice_get xs i ≡ Some x → h x ≡ Some y → slice_get ts m ≡ Some y → filter_map h (take i xs) ≡ take m ts
      → filter_map h (take (i + 1) xs) ≡ take (m + 1) ts
  goes_on xs ts i m x y e some k before = some_more xs i x y e some ∙ (ap (λ ys. ys ++ y ∷ []) before ∙ sym (take_more ts m y k))

  -- where all of both is alike, what is told next stands in the other list
  pub is_next : (xs : List X) (ts : List Y) (i m : ℕ) (x : X) (y : Y) → slice_get xs i ≡ Some x → h x ≡ Some y → m ≤ length ts → filter_map h (take i xs) ≡ take m ts → filter_map h xs ≡ ts
      → slice_get ts m ≡ Some y
  is_next xs ts i m x y e some in_list before all =
      let first : List Y = filter_map h (take i xs) in
      let rest : List Y = filter_map h (drop (i + 1) xs) in
      let long : length first ≡ m = ap (λ ys. length ys) before ∙ length-take-le m ts in_list in
      let inside : length first < length (first ++ y ∷ rest) = omega (arith, length-append first (y ∷ rest)) in
      let at : slice_get (first ++ y ∷ rest) (length first) ≡ Some y = slice_get-get_or (first ++ y ∷ rest) (length first) y inside ∙ ap (λ w. Some w) (get_or-append_seam first y rest y) in
      subst (λ (ys : List Y). slice_get ys m ≡ Some y) (sym (whole xs i x y e some) ∙ all) (subst (λ (k : ℕ). slice_get (first ++ y ∷ rest) k ≡ Some y) long at)

  -- at the end of the one, all is alike just where the other ends too
  pub ends_alike : (xs : List X) (ts : List Y) (i m : ℕ) → length xs ≤ i → filter_map h (take i xs) ≡ take m ts → m ≡ length ts → filter_map h xs ≡ ts
  ends_alike xs ts i m over before is = ap (λ ys. filter_map h ys) (sym (take_all i xs over)) ∙ (before ∙ take_all m ts (omega arith))

  pub ends_both : (xs : List X) (ts : List Y) (i m : ℕ) → length xs ≤ i → m ≤ length ts → filter_map h (take i xs) ≡ take m ts → filter_map h xs ≡ ts → m ≡ length ts
  ends_both xs ts i m over in_list before all =
      let same : take m ts ≡ ts = sym before ∙ (ap (λ ys. filter_map h ys) (take_all i xs over) ∙ all) in
      sym (length-take-le m ts in_list) ∙ ap (λ ys. length ys) same

-- one element more is counted, or isn't
pub counted_more : {X : Type 0} (p : X → Bool) (xs : List X) (i j n m : ℕ) (x : X) (b : Bool) → slice_get xs j ≡ Some x → j ≡ i → p x ≡ b → n ≡ count_by p (take i xs) → m ≡ (if b then n + 1 else n)
    → m ≡ count_by p (take (i + 1) xs)
counted_more p xs i j n m x true e at is before more =
    let here : slice_get xs i ≡ Some x = subst (λ (k : ℕ). slice_get xs k ≡ Some x) at e in
    more ∙ (ap (λ k. k + 1) before ∙ sym (count_by_more_yes p xs i x (slice_get_within xs i x here) (ap (λ y. p y) (get_or_from_slice_get xs i x x here) ∙ is)))
counted_more p xs i j n m x false e at is before more =
    let here : slice_get xs i ≡ Some x = subst (λ (k : ℕ). slice_get xs k ≡ Some x) at e in
    more ∙ (before ∙ sym (count_by_more_no p xs i x (slice_get_within xs i x here) (ap (λ y. p y) (get_or_from_slice_get xs i x x here) ∙ is)))
