-- The value of a name among entries.
use Rattle.std.proofs.Common.{◌≡◌, ◌∙◌, ap, sym, refl, ℕ, suc, ◌+◌, ◌<◌, Bool, true, false, not, List, [], ◌∷◌, ◌++◌, length, get_or, take, Some, None, arith, inl, inr}
use Rattle.std.proofs.Math.Seq.{take-append_seam}
use Rattle.std.proofs.lemmas.Bool.{cases_Bool}
use Rattle.std.proofs.lemmas.Option.{slice_get_past, slice_get_read}
use Rattle.std.proofs.lemmas.Bool.Decides.{nat_tests}
use Rattle.std.specs.Prelude.{nat_lt, is_some, if◌then◌else◌}
use Rattle.std.specs.List.{zip, slice_get, position_or_len}
use Rattle.std.specs.Str.{bytes_eq}
use Rattle.std.specs.Cmp.Lexicographic.{bytes_decides}
use Rattle.plant_types.specs.Words.{folded, same_word}
use Rattle.base_words.specs.Names.{find_name, is_among}
use Rattle.st_names.specs.Tables.{value_of, with_entry}

-- which of two words stands first doesn't matter
pub turned : (x y : List ℕ) → bytes_eq x y ≡ bytes_eq y x
turned x y =
    elim (cases_Bool (bytes_eq x y)) [
      | inl is ↦ is ∙ sym ((bytes_decides y x).1 (sym ((bytes_decides x y).0 is)))
      | inr not_is ↦ elim (cases_Bool (bytes_eq y x)) [
        | inl is ↦ absurd (let e = (bytes_decides x y).1 (sym ((bytes_decides y x).0 is)) in cc)
        | inr none ↦ not_is ∙ sym none
      ]
    ]

pub same_turned : (x y : List ℕ) → same_word x y ≡ same_word y x
same_turned x y = turned (folded x) (folded y)

unless : {X : Type 0} (b : Bool) (x y : X) → true ≡ not b → y ≡ (if b then x else y)
unless true x y e = absurd (cc)
unless false x y e = refl

where_so : {X : Type 0} (b : Bool) (x y : X) → false ≡ not b → x ≡ (if b then x else y)
where_so true x y e = refl
where_so false x y e = absurd (cc)

module _ {T : Type 0} where
  pub value_at : (names : List (List ℕ)) (values : List T) (name : List ℕ) → length values ≡ length names → slice_get values (position_or_len (same_word name) names) ≡ value_of (zip names values) name
  value_at [] [] name even = refl
  value_at [] (v ∷ vs) name even = absurd (omega (arith, even))
  value_at (n ∷ ns) [] name even = absurd (omega (arith, even))
  value_at (n ∷ ns) (v ∷ vs) name even =
      elim (cases_Bool (same_word name n)) [
        | inl is ↦ rw is refl
        | inr not_is ↦ let later : 1 + position_or_len (same_word name) ns ≡ suc (position_or_len (same_word name) ns) = omega arith in rw (not_is, later) (value_at ns vs name (omega (arith, even)))
      ]

  pub none_at : (names : List (List ℕ)) (values : List T) (name : List ℕ) → length values ≡ length names → find_name names name ≡ None → value_of (zip names values) name ≡ None
  none_at names values name even none =
      let at = position_or_len (same_word name) names in
      elim (cases_Bool (nat_lt at (length names))) [
        | inl is ↦ absurd (let e : find_name names name ≡ Some at = rw is refl in cc)
        | inr not_is ↦ sym (value_at names values name even) ∙ slice_get_past values at (grind (arith, nat_tests))
      ]

  pub some_at : (names : List (List ℕ)) (values : List T) (name : List ℕ) (number : ℕ) (x : T) (table : List (List ℕ × T)) → zip names values ≡ table → length values ≡ length names → find_name names name ≡ Some number → number < length names → x ≡ get_or values number x → Some x ≡ value_of table name
  some_at names values name number x table view even some within is =
      let at = position_or_len (same_word name) names in
      let read : slice_get values number ≡ Some x = slice_get_read values (length values) number x refl (omega (arith, even, within)) is in
      elim (cases_Bool (nat_lt at (length names))) [
        | inl below ↦ let e : find_name names name ≡ Some at = rw below refl in let same : number ≡ at = cc in sym read ∙ ap (slice_get values) same ∙ value_at names values name even ∙ ap (λ t. value_of t name) view
        | inr not_below ↦ absurd (let e : find_name names name ≡ None = rw not_below refl in cc)
      ]

  pub among_at : (names : List (List ℕ)) (values : List T) (name : List ℕ) → length values ≡ length names → is_among names name ≡ is_some (value_of (zip names values) name)
  among_at [] [] name even = refl
  among_at [] (v ∷ vs) name even = absurd (omega (arith, even))
  among_at (n ∷ ns) [] name even = absurd (omega (arith, even))
  among_at (n ∷ ns) (v ∷ vs) name even =
      elim (cases_Bool (same_word name n)) [
        | inl is ↦ rw is refl
        | inr not_is ↦ rw not_is (among_at ns vs name (omega (arith, even)))
      ]

  pub zip_push : (names : List (List ℕ)) (values : List T) (n : List ℕ) (v : T) → length values ≡ length names → zip (names ++ n ∷ []) (values ++ v ∷ []) ≡ zip names values ++ (n, v) ∷ []
  zip_push [] [] n v even = refl
  zip_push [] (w ∷ ws) n v even = absurd (omega (arith, even))
  zip_push (m ∷ ms) [] n v even = absurd (omega (arith, even))
  zip_push (m ∷ ms) (w ∷ ws) n v even = ap (λ es. (m, w) ∷ es) (zip_push ms ws n v (omega (arith, even)))

  -- what a table is once a name and its value were added
  pub record Added (table more : List (List ℕ × T)) (name : List ℕ) (value : T) (added : Bool) : Type 0 where
    pub is : added ≡ not (is_some (value_of table name))
    pub entries : more ≡ with_entry table (name, value)

  pub added_new : (names more : List (List ℕ)) (values new_values : List T) (name : List ℕ) (value : T) (table : List (List ℕ × T)) (added : Bool) → zip names values ≡ table → length values ≡ length names → new_values ≡ values ++ value ∷ [] → added ≡ not (is_among names name) → more ≡ (if added then names ++ name ∷ [] else names) → added ≡ true → Added table (zip more new_values) name value true
  added_new names more values new_values name value table added view even pushed is now so =
      let free : true ≡ not (is_some (value_of table name)) = sym so ∙ is ∙ ap not (among_at names values name even) ∙ ap (λ t. not (is_some (value_of t name))) view in
      let all : more ≡ names ++ name ∷ [] = rw so at now in
      record { is = free; entries = (λ i. zip (all i) (pushed i)) ∙ zip_push names values name value even ∙ ap (λ t. t ++ (name, value) ∷ []) view ∙ unless (is_some (value_of table name)) table (table ++ (name, value) ∷ []) free }

  pub added_old : (names more : List (List ℕ)) (values new_values : List T) (name : List ℕ) (value : T) (table : List (List ℕ × T)) (added : Bool) → zip names values ≡ table → length values ≡ length names → new_values ≡ values → added ≡ not (is_among names name) → more ≡ (if added then names ++ name ∷ [] else names) → added ≡ false → Added table (zip more new_values) name value false
  added_old names more values new_values name value table added view even back is now so =
      let there : false ≡ not (is_some (value_of table name)) = sym so ∙ is ∙ ap not (among_at names values name even) ∙ ap (λ t. not (is_some (value_of t name))) view in
      let all : more ≡ names = rw so at now in
      record { is = there; entries = (λ i. zip (all i) (back i)) ∙ view ∙ where_so (is_some (value_of table name)) table (table ++ (name, value) ∷ []) there }

-- a list that is cut back is what it was before the push
pub cut_back : {T : Type 0} (values pushed cut : List T) (value : T) (n : ℕ) → pushed ≡ values ++ value ∷ [] → n ≡ length values → cut ≡ take n pushed → cut ≡ values
cut_back values pushed cut value n is long back = back ∙ (λ i. take (long i) (is i)) ∙ take-append_seam values (value ∷ [])
