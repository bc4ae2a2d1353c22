-- An index of names, as it grows.
use Rattle.std.proofs.Common.{◌≡◌, ◌∙◌, ap, sym, refl, ℕ, ◌+◌, ◌<◌, Bool, true, false, if◌then◌else◌, List, [], ◌∷◌, ◌++◌, map, take, drop, length, get_or, inl, inr}
use Rattle.std.specs.Prelude.{not}
use Rattle.std.specs.Str.{bytes_eq}
use Rattle.std.proofs.lemmas.List.{map_push, take_more, drop_more, take-append-drop, map-append}
use Rattle.std.proofs.lemmas.Bool.{cases_Bool, both_ways, or_cases, or_left, or_right}
use Rattle.std.proofs.lemmas.List.Folds.{list_any-append}
use Rattle.std.specs.List.{list_any}
use Rattle.plant_types.specs.Words.{folded, same_word}
use Rattle.base_words.specs.Names as index
use Rattle.st_typing.specs.Taken.{is_among, repeats}
use Rattle.st_typing.proofs.Entries.{turned}

-- one list made of another in two steps
pub fused : {A B C : Type 0} (g : B → C) (f : A → B) (xs : List A) → map (λ a. g (f a)) xs ≡ map g (map f xs)
fused g f [] = refl
fused g f (x ∷ xs) = ap (λ l. g (f x) ∷ l) (fused g f xs)

any-map : {X Y : Type 0} (p : Y → Bool) (f : X → Y) (xs : List X) → list_any (λ x. p (f x)) xs ≡ list_any p (map f xs)
any-map p f [] = refl
any-map p f (x ∷ xs) = rw (any-map p f xs) refl

repeats_found : (ws ys : List (List ℕ)) (x : List ℕ) → is_among ws x ≡ true → repeats (ws ++ x ∷ ys) ≡ true
repeats_found [] ys x among = absurd (cc)
repeats_found (w ∷ ws) ys x among =
    elim (or_cases (bytes_eq x w) (is_among ws x) among) [
      | inl same ↦ let among' : is_among (ws ++ x ∷ ys) w ≡ true = list_any-append (bytes_eq w) ws (x ∷ ys) ∙ or_right (is_among ws w) (is_among (x ∷ ys) w) (or_left (bytes_eq w x) (is_among ys w) (turned w x ∙ same)) in or_left (is_among (ws ++ x ∷ ys) w) (repeats (ws ++ x ∷ ys)) among'
      | inr later ↦ or_right (is_among (ws ++ x ∷ ys) w) (repeats (ws ++ x ∷ ys)) (repeats_found ws ys x later)
    ]

module _ {X : Type 0} (name : X → List ℕ) (xs : List X) (i : ℕ) (x : X) (within : i < length xs) (is : x ≡ get_or xs i x) where
  abbrev word : X → List ℕ
  word y = folded (name y)

  split : xs ≡ take i xs ++ x ∷ drop (i + 1) xs
  split = sym (take-append-drop i xs) ∙ ap (λ l. take i xs ++ l) (drop_more xs i x within ∙ ap (λ (y : X). y ∷ drop (i + 1) xs) (sym is))

  -- where no word stands twice, the next is new
  new : repeats (map word xs) ≡ false → is_among (map word (take i xs)) (word x) ≡ false
  new apart =
      elim (cases_Bool (is_among (map word (take i xs)) (word x))) [
        | inl among ↦ absurd (both_ways (repeats (map word xs)) apart (ap (λ l. repeats (map word l)) split ∙ ap repeats (map-append word (take i xs) (x ∷ drop (i + 1) xs)) ∙ repeats_found (map word (take i xs)) (map word (drop (i + 1) xs)) (word x) among))
        | inr none ↦ none
      ]

  -- so its name is added
  pub names_more : (names more : List (List ℕ)) (added : Bool) → repeats (map word xs) ≡ false → names ≡ map name (take i xs) → added ≡ not (index.is_among names (name x)) → more ≡ (if added then names ++ name x ∷ [] else names) → more ≡ map name (take (i + 1) xs)
  names_more names more added apart are is_added becomes =
      let step : take (i + 1) xs ≡ take i xs ++ x ∷ [] = take_more xs i x within ∙ ap (λ (y : X). take i xs ++ y ∷ []) (sym is) in
      let alone : index.is_among names (name x) ≡ false =
      ap (λ l. index.is_among l (name x)) are ∙ sym (any-map (same_word (name x)) name (take i xs)) ∙ any-map (bytes_eq (word x)) word (take i xs) ∙ new apart in
      let longer : more ≡ names ++ name x ∷ [] = becomes ∙ ap (λ b. if b then names ++ name x ∷ [] else names) (is_added ∙ ap not alone) in
      longer ∙ ap (λ l. l ++ name x ∷ []) are ∙ sym (map_push name (take i xs) x) ∙ ap (map name) (sym step)
