-- Items that stand one after another, copied at once.
use Rattle.std.proofs.Common.{◌≡◌, ◌<◌, ◌≤◌, ◌+◌, ◌-◌, ℕ, ℤ, pos, zero, suc, List, [], ◌∷◌, ◌++◌, map, length, get_or, take, drop, Some, refl, ap, sym, ◌∙◌, arith, inl, inr}
use Rattle.std.specs.Prelude.{slice_get, slice_range}
use Rattle.std.specs.List.{range_with_len}
use Rattle.std.proofs.lemmas.Bool.{cases_lt}
use Rattle.std.proofs.lemmas.List.{length-append, length-drop, length-take-le, get_or_append_left, get_or-append_right, get_or-take, get_or-drop, ext_get_or}
use Rattle.std.proofs.lemmas.List.FromFn.{length-map-range_with_len, get_or-map-range_with_len}
use Rattle.std.proofs.lemmas.Option.{slice_get-get_or}
use borrow.Rule.Slice.PartMut.{put_mid}
use Rattle.vm_slices.specs.declared.pieces.Piece.{Piece}
use Rattle.vm_slices.specs.Pieces.{PutsPiece}

-- the values of a row of slots
pub stretch_picked : (values : List ℤ) (first more past : ℕ) → past ≡ first + (more + 1) → first + more < length values → slice_range values first past ≡ map (λ s. get_or values s (pos 0)) (range_with_len first (more + 1))
stretch_picked values first more past is within =
    let f : ℕ → ℤ = λ s. get_or values s (pos 0) in
    let rest = drop first values in
    let long = length-drop first values in
    let many : length (take (past - first) rest) ≡ more + 1 = length-take-le (past - first) rest (omega (arith, is, within, long)) ∙ omega (arith, is) in
    ext_get_or (pos 0) (slice_range values first past) (map f (range_with_len first (more + 1))) (many ∙ sym (length-map-range_with_len f first (more + 1))) (λ i lt.
    get_or-take (past - first) rest i (pos 0) (omega (arith, is, many, lt)) ∙ get_or-drop first values i (pos 0)
    ∙ sym (get_or-map-range_with_len f first (more + 1) i (first + i) (pos 0) (omega (arith, many, lt)) refl))

same_gets : {A : Type 0} (xs ys : List A) (s : ℕ) (d : A) → length xs ≡ length ys → get_or xs s d ≡ get_or ys s d → slice_get xs s ≡ slice_get ys s
same_gets [] [] s d long e = refl
same_gets [] (y ∷ ys) s d long e = absurd (omega (arith, long))
same_gets (x ∷ xs) [] s d long e = absurd (omega (arith, long))
same_gets (x ∷ xs) (y ∷ ys) zero d long e = ap Some e
same_gets (x ∷ xs) (y ∷ ys) (suc s) d long e = same_gets xs ys s d (omega (arith, long)) e

-- the items of a piece copied into a row
pub stretch_put : {A : Type 0} (d : A) (q : Piece) (items old : List A) (n m : ℕ) → n ≡ q.more + 1 → m ≡ q.more + 1 → q.place + n ≤ length items → q.first + n ≤ length old
    → PutsPiece q items old (put_mid q.first n old (take m (drop q.place items)))
stretch_put {A} d q items old n m is too there room =
    let a : ℕ = q.first in
    let front : List A = take a old in
    let ys : List A = take m (drop q.place items) in
    let back : List A = drop n (drop a old) in
    let new : List A = front ++ (ys ++ back) in
    let f : length front ≡ a = length-take-le a old (omega (arith, room)) in
    let items_left = length-drop q.place items in
    let y : length ys ≡ n = length-take-le m (drop q.place items) (omega (arith, items_left, there, is, too)) ∙ omega (arith, is, too) in
    let b = length-drop n (drop a old) in let c = length-drop a old in
    let size : length new ≡ length old = length-append front (ys ++ back) ∙ omega (arith, length-append ys back, f, y, b, c, room) in
    let low : (s : ℕ) → s < a → get_or new s d ≡ get_or old s d = λ s lt. get_or_append_left front (ys ++ back) d s (omega (arith, f, lt)) ∙ get_or-take a old s d lt in
    let mid : (k : ℕ) → k < n → get_or new (a + k) d ≡ get_or items (q.place + k) d = λ k lt.
    let at : a + k - a ≡ k = omega arith in
    get_or-append_right front (ys ++ back) a (a + k) d f (omega arith) ∙ ap (λ (i : ℕ). get_or (ys ++ back) i d) at ∙ get_or_append_left ys back d k (omega (arith, y, lt))
    ∙ get_or-take m (drop q.place items) k d (omega (arith, is, too, lt)) ∙ get_or-drop q.place items k d in
    let high : (s : ℕ) → a + n ≤ s → get_or new s d ≡ get_or old s d = λ s le.
    let at : a + (n + (s - a - n)) ≡ s = omega (arith, le) in
    get_or-append_right front (ys ++ back) a s d f (omega (arith, le)) ∙ get_or-append_right ys back n (s - a) d y (omega (arith, le))
    ∙ get_or-drop n (drop a old) (s - a - n) d ∙ get_or-drop a old (n + (s - a - n)) d ∙ ap (λ (i : ℕ). get_or old i d) at in
    record {
      size = size;
      put = λ k lt. slice_get-get_or new (a + k) d (omega (arith, size, room, is, lt)) ∙ ap Some (mid k (omega (arith, is, lt))) ∙ sym (slice_get-get_or items (q.place + k) d (omega (arith, there, is, lt)));
      kept = λ s none. same_gets new old s d size (elim (cases_lt s a) [
        | inl lt ↦ low s lt
        | inr ge ↦ elim (cases_lt s (a + n)) [
          | inl lt ↦ absurd (none (s - a) (omega (arith, is, ge, lt)) (omega (arith, ge)))
          | inr past ↦ high s (omega (arith, past))
        ]
      ]);
    }
