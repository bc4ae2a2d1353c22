-- Lists of what is made for the items of a list, as they grow.
use Rattle.std.proofs.Common.{◌≡◌, ◌∙◌, ap, sym, subst, refl, ℕ, ◌+◌, ◌<◌, ◌≤◌, ◌||◌, false, List, [], ◌∷◌, ◌++◌, append_assoc, take, drop, length, get_or, map, Some}
use Rattle.std.specs.Prelude.{slice_get, option_map}
use Rattle.std.specs.Str.{bytes_eq}
use Rattle.std.proofs.lemmas.Bool.{or_parts}
use Rattle.std.specs.List.{sum_by}
use Rattle.std.proofs.lemmas.List.{take_more, drop_more, map_push}
use Rattle.std.proofs.lemmas.List.Sums.{sum_by_more, sum_by_more_le}
use Rattle.std.proofs.lemmas.List.Folds.{list_any-append}
use Rattle.std.proofs.lemmas.Option.{slice_get-get_or, slice_get-map}
use Rattle.plant_types.specs.Values.{row_length}
use Rattle.logic_source.specs.Taken.{is_among, repeats}
use Rattle.logic_source.specs.declared.logic.Routine.{Routine}
use Rattle.logic_source.specs.declared.logic.Row.{Row}
use Rattle.logic_source.specs.Source.{view_routine}
use Rattle.logic_frames.specs.declared.names.Laid.{Laid}
use Rattle.logic_frames.specs.Scoped.{laid, laid_from}

-- names before others are apart where all are
pub earlier_apart : (xs ys : List (List ℕ)) → repeats (xs ++ ys) ≡ false → repeats xs ≡ false
earlier_apart [] ys apart = refl
earlier_apart (x ∷ xs) ys apart =
    let parts = or_parts (is_among (xs ++ ys) x) (repeats (xs ++ ys)) apart in
    let here = or_parts (is_among xs x) (is_among ys x) (sym (list_any-append (bytes_eq x) xs ys) ∙ parts.0) in
    λ i. here.0 i || earlier_apart xs ys parts.1 i

-- the routine of a number in a list of the code's
pub routine_at : (blocks : List Routine) (a : ℕ) (x : Routine) → a < length blocks → x ≡ get_or blocks a x → slice_get (map view_routine blocks) a ≡ Some (view_routine x)
routine_at blocks a x within at = slice_get-map view_routine blocks a ∙ ap (option_map view_routine) (slice_get-get_or blocks a x within ∙ ap Some (sym at))

-- one more of a list, in which each has what another list's has
pub mapped_on : {X Y Z : Type 0} (g : Y → Z) (f : X → Z) (xs : List X) (i : ℕ) (x : X) (ys ys' : List Y) (y : Y) → i < length xs → x ≡ get_or xs i x → map g ys ≡ map f (take i xs) → g y ≡ f x → ys' ≡ ys ++ y ∷ [] → map g ys' ≡ map f (take (i + 1) xs)
mapped_on g f xs i x ys ys' y within at were is pushed =
    ap (map g) pushed ∙ map_push g ys y ∙ (λ j. were j ++ is j ∷ []) ∙ ap (λ z. map f (take i xs) ++ f z ∷ []) at ∙ sym (map_push f (take i xs) (get_or xs i x)) ∙ ap (map f) (sym (take_more xs i x within))

-- one more array of a list
pub laid_on : (from : ℕ) (rows : List Row) (i : ℕ) (row : Row) (first next : ℕ) (so_far more : List Laid) → i < length rows → row ≡ get_or rows i row → next ≡ first + row_length row.bounds → more ≡ so_far ++ laid row first ∷ []
    → so_far ++ laid_from first (drop i rows) ≡ laid_from from rows → more ++ laid_from next (drop (i + 1) rows) ≡ laid_from from rows
laid_on from rows i row first next so_far more within at next_is pushed all =
    let split : drop i rows ≡ row ∷ drop (i + 1) rows = drop_more rows i row within ∙ ap (λ (y : Row). y ∷ drop (i + 1) rows) (sym at) in
    (λ k. pushed k ++ laid_from (next_is k) (drop (i + 1) rows)) ∙ append_assoc so_far (laid row first ∷ []) (laid_from (first + row_length row.bounds) (drop (i + 1) rows))
    ∙ ap (λ l. so_far ++ laid_from first l) (sym split) ∙ all

abbrev pub cells_of : Row → ℕ
cells_of row = row_length row.bounds

-- the next array ends where all end, or before
pub row_fits : (rows : List Row) (i : ℕ) (row : Row) → i < length rows → row ≡ get_or rows i row → sum_by cells_of (take i rows) + row_length row.bounds ≤ sum_by cells_of rows
row_fits rows i row within at = subst (λ (r : Row). sum_by cells_of (take i rows) + row_length r.bounds ≤ sum_by cells_of rows) (sym at) (sum_by_more_le cells_of rows i row within)

pub row_more : (rows : List Row) (i : ℕ) (row : Row) → i < length rows → row ≡ get_or rows i row → sum_by cells_of (take (i + 1) rows) ≡ sum_by cells_of (take i rows) + row_length row.bounds
row_more rows i row within at = sum_by_more cells_of rows i row within ∙ ap (λ (r : Row). sum_by cells_of (take i rows) + row_length r.bounds) (sym at)
