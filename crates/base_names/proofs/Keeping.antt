-- What adding a name leaves of the names that are there.
use Rattle.std.proofs.Common.{◌≡◌, ℕ, ◌<◌, Bool, true, false, List, [], ◌∷◌, ◌++◌, All, length, map, slice_get, Some, suc, zero, refl, sym, ap, ◌∙◌, if◌then◌else◌, arith, string_bytes}
use Rattle.std.specs.Prelude.{String}
use Rattle.std.specs.List.{list_any}
use Rattle.std.proofs.lemmas.List.{map_push}
use Rattle.std.proofs.lemmas.Slice.Eq.{bytes_eq-Decides}
use Rattle.std.specs.String.{string_eq}
use Rattle.std.specs.Option.{option_map_or}
use Rattle.indexmap.specs.IndexSet.{insert_key}
use Rattle.base_names.specs.Names.{name_at}

-- an item that is there is still there behind more
pub stays : {A : Type 0} (xs more : List A) (n : ℕ) → n < length xs → slice_get (xs ++ more) n ≡ slice_get xs n
stays [] more n within = absurd (omega arith)
stays (x ∷ xs) more zero within = refl
stays (x ∷ xs) more (suc n) within = stays xs more n (omega arith)

-- each name keeps its number
pub keeps_numbers : {A : Type 0} (eq : String A → String A → Bool) (ks : List (String A)) (k : String A) (n : ℕ) → n < length ks → name_at (insert_key eq ks k) n ≡ name_at ks n
keeps_numbers eq ks k n within = by (list_any (eq k) ks) refl
  where
    by : (b : Bool) → list_any (eq k) ks ≡ b → name_at (insert_key eq ks k) n ≡ name_at ks n
    by true e = ap (λ c. name_at (if c then ks else ks ++ k ∷ []) n) e
    by false e = ap (λ c. name_at (if c then ks else ks ++ k ∷ []) n) e ∙ ap (λ o. option_map_or string_bytes o []) (stays ks (k ∷ []) n within)

-- so a list of numbers gives the same names
pub keeps_names : {A : Type 0} (eq : String A → String A → Bool) (ks new : List (String A)) (k : String A) (numbers : List ℕ) → new ≡ insert_key eq ks k → All (λ n. n < length ks) numbers → map (name_at new) numbers ≡ map (name_at ks) numbers
keeps_names eq ks new k [] is all = refl
keeps_names eq ks new k (n ∷ numbers) is all =
    let first : name_at new n ≡ name_at ks n = ap (λ l. name_at l n) is ∙ keeps_numbers eq ks k n (all 0 n (omega arith)) in
    ap (λ w. w ∷ map (name_at new) numbers) first ∙ ap (λ ws. name_at ks n ∷ ws) (keeps_names eq ks new k numbers is (λ i d within. all (suc i) d (omega arith)))

-- the name at the end
pub adds_name : {A : Type 0} (eq : String A → String A → Bool) → ((x y : String A) → eq x y ≡ true → string_bytes x ≡ string_bytes y) → (ks new : List (String A)) (k kept : String A) (numbers : List ℕ) (n : ℕ) → new ≡ insert_key eq ks k → All (λ n. n < length ks) numbers → slice_get new n ≡ Some kept → eq k kept ≡ true → map (name_at new) (numbers ++ n ∷ []) ≡ map (name_at ks) numbers ++ string_bytes k ∷ []
adds_name eq same ks new k kept numbers n is all found alike =
    map_push (name_at new) numbers n
    ∙ ap (λ ns. ns ++ name_at new n ∷ []) (keeps_names eq ks new k numbers is all)
    ∙ ap (λ w. map (name_at ks) numbers ++ w ∷ []) (ap (λ o. option_map_or string_bytes o []) found ∙ sym (same k kept alike))

-- names that are found alike have the same bytes
pub same_name : {A : Type 0} (x y : String A) → string_eq x y ≡ true → string_bytes x ≡ string_bytes y
same_name x y alike = (bytes_eq-Decides (string_bytes x) (string_bytes y)).0 alike
