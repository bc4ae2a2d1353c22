-- What the answers to `list` and `journal` are made of.
use Rattle.std.proofs.Common.{◌≡◌, ◌∙◌, ℕ, zero, suc, ◌+◌, ◌-◌, ◌<◌, ◌++◌, map, take, List, [], ◌∷◌, length, Some, ap, refl, sym, append_assoc, append-nil, length-append, arith}
use Rattle.std.specs.Prelude.{slice_get, slice_index_or}
use Rattle.std.specs.List.{flat_map}
use Rattle.std.proofs.Math.Seq.{take-suc}
use Rattle.std.proofs.lemmas.Grind.{flat_map-append}
use Rattle.std.proofs.lemmas.Option.{none-some, get_or_from_slice_get}
use Rattle.serve_lines.specs.Lines.{row_line}
use Rattle.engine.specs.Plants.{PlainPlant}
use Rattle.engine.specs.Event.{Event}
use Rattle.engine.specs.Journal.{journal_of, IsLine}
use Rattle.serve_answers.specs.Listings.{HasListed, HasRow, text_of, named_line}

-- no lines
pub listed_none : (old : List ℕ) → HasListed old old 0 []
listed_none old = record { text_is = sym (append-nil old); count_is = refl }

-- lines, and then more of them
pub listed_more : (old mid new : List ℕ) (n m : ℕ) (xs ys : List (List ℕ)) → HasListed old mid n xs → HasListed mid new m ys → HasListed old new (n + m) (xs ++ ys)
listed_more old mid new n m xs ys p q = record {
  text_is = q.text_is ∙ ap (λ (t : List ℕ). t ++ text_of ys) p.text_is ∙ append_assoc old (text_of xs) (text_of ys) ∙ ap (λ (t : List ℕ). old ++ t) (sym (flat_map-append (λ (line : List ℕ). line) xs ys));
  count_is = ap (λ (k : ℕ). k + m) p.count_is ∙ ap (λ (k : ℕ). length xs + k) q.count_is ∙ sym (length-append xs ys);
}

flat_take : {X : Type 0} (f : X → List (List ℕ)) (xs : List X) (i : ℕ) (x : X) → i < length xs → x ≡ slice_index_or xs i x → flat_map f (take i xs) ++ f x ≡ flat_map f (take (suc i) xs)
flat_take f xs i x within is =
    let one : flat_map f (slice_index_or xs i x ∷ []) ≡ f x = append-nil (f (slice_index_or xs i x)) ∙ ap f (sym is) in
    sym (ap (flat_map f) (take-suc xs i x within) ∙ flat_map-append f (take i xs) (slice_index_or xs i x ∷ []) ∙ ap (λ t. flat_map f (take i xs) ++ t) one)

-- the lines of one thing more
pub listed_take : {X : Type 0} (f : X → List (List ℕ)) (xs : List X) (i : ℕ) (x : X) (old mid new : List ℕ) (n m : ℕ) → i < length xs → x ≡ slice_index_or xs i x
    → HasListed old mid n (flat_map f (take i xs)) → HasListed mid new m (f x) → HasListed old new (n + m) (flat_map f (take (suc i) xs))
listed_take f xs i x old mid new n m within is p q = rw (← flat_take f xs i x within is) (listed_more old mid new n m (flat_map f (take i xs)) (f x) p q)

-- ---- rows of the journal

-- the line of a number is that of its row
pub row_there : (plant : PlainPlant) (history : List Event) (number : ℕ) (text old new : List ℕ) → IsLine plant.epoch (journal_of plant history) number text → new ≡ old ++ row_line text → HasRow plant history number old new
unfolding named_line
row_there plant history number text old new l e = record {
  row = l.row;
  row_is = l.row_is;
  text_is = e ∙ ap (λ (t : List ℕ). old ++ row_line t) l.text_is;
}

lines_take : {X : Type 0} (f : X → List ℕ) (xs : List X) (i : ℕ) (x : X) → slice_get xs i ≡ Some x → text_of (map f (take i xs)) ++ f x ≡ text_of (map f (take (suc i) xs))
lines_take f [] i x e = absurd (none-some x e)
lines_take f (y ∷ ys) zero x e = ap f (sym (get_or_from_slice_get (y ∷ ys) zero x x e)) ∙ sym (append-nil (f y))
lines_take f (y ∷ ys) (suc i) x e = append_assoc (f y) (text_of (map f (take i ys))) (f x) ∙ ap (λ (t : List ℕ). f y ++ t) (lines_take f ys i x e)

-- the lines of one row more
pub rows_more : (plant : PlainPlant) (history : List Event) (i : ℕ) (old mid new : List ℕ)
    → mid ≡ old ++ text_of (map (named_line plant.epoch) (take i (journal_of plant history))) → HasRow plant history (i + 1) mid new
    → new ≡ old ++ text_of (map (named_line plant.epoch) (take (suc i) (journal_of plant history)))
rows_more plant history i old mid new e r =
    let at : (i + 1) - 1 ≡ i = omega arith in
    let row_is : slice_get (journal_of plant history) i ≡ Some r.row = rw (sym at) r.row_is in
    r.text_is ∙ ap (λ (t : List ℕ). t ++ named_line plant.epoch r.row) e ∙ append_assoc old _ _
    ∙ ap (λ (t : List ℕ). old ++ t) (lines_take (named_line plant.epoch) (journal_of plant history) i r.row row_is)
