-- The tags of rows, as they are taken one by one.
use Rattle.std.proofs.Common.{◌≡◌, ◌<◌, ◌≤◌, ◌+◌, ◌∷◌, ◌++◌, ◌∙◌, ap, sym, refl, ℕ, true, false, List, [], length, take, drop, Some, None, get_or}
use Rattle.std.proofs.lemmas.List.{map-append, take_more, take_all, drop_more, drop_all}
use Rattle.std.specs.Prelude.{if◌then◌else◌}
use Rattle.alarm_db.specs.declared.fault.DbFault.TheVariants as fault
use Rattle.alarm_db.specs.declared.row.DatabaseRow.{DatabaseRow}
use Rattle.alarm_db.specs.Databases.{first_twice, is_among, tags_of}

cut : {X : Type 0} (xs : List X) (i : ℕ) (x : X) → i < length xs → x ≡ get_or xs i x → drop i xs ≡ x ∷ drop (i + 1) xs
cut xs i x lt here = drop_more xs i x lt ∙ ap (λ y. y ∷ drop (i + 1) xs) (sym here)

front : {X : Type 0} (xs : List X) (i : ℕ) (x : X) → i < length xs → x ≡ get_or xs i x → take (i + 1) xs ≡ take i xs ++ x ∷ []
front xs i x lt here = take_more xs i x lt ∙ ap (λ y. take i xs ++ y ∷ []) (sym here)

-- i rows were taken, and these are their tags, each once
pub record TagsTaken (rows : List DatabaseRow) (i : ℕ) (tags : List (List ℕ)) : Type 0 where
  pub twice : first_twice tags (tags_of (drop i rows)) ≡ first_twice [] (tags_of rows)
  pub tags_are : tags ≡ tags_of (take i rows)

pub no_tags_taken : (rows : List DatabaseRow) → TagsTaken rows 0 []
no_tags_taken rows = record { twice = refl; tags_are = refl }

pub one_tag_taken : (rows : List DatabaseRow) (i : ℕ) (r : DatabaseRow) (tags tags2 : List (List ℕ)) → i < length rows → r ≡ get_or rows i r → TagsTaken rows i tags
    → is_among tags r.tag ≡ false → tags2 ≡ tags ++ r.tag ∷ [] → TagsTaken rows (i + 1) tags2
one_tag_taken rows i r tags tags2 lt here taken new more =
    let f = ap (λ l. first_twice tags (tags_of l)) (cut rows i r lt here) in
    let g = ap (λ b. if b then Some (fault.Twice (length tags + 1)) else first_twice (tags ++ r.tag ∷ []) (tags_of (drop (i + 1) rows))) new in
    record {
      twice = ap (λ l. first_twice l (tags_of (drop (i + 1) rows))) more ∙ sym (f ∙ g) ∙ taken.twice;
      tags_are = more ∙ ap (λ l. l ++ r.tag ∷ []) taken.tags_are ∙ sym (ap tags_of (front rows i r lt here) ∙ map-append (λ (row : DatabaseRow). row.tag) (take i rows) (r ∷ []));
    }

pub twice_here : (rows : List DatabaseRow) (i : ℕ) (r : DatabaseRow) (tags : List (List ℕ)) (n : ℕ) → i < length rows → r ≡ get_or rows i r → TagsTaken rows i tags
    → is_among tags r.tag ≡ true → n ≡ length tags → first_twice [] (tags_of rows) ≡ Some (fault.Twice (n + 1))
twice_here rows i r tags n lt here taken among number =
    let f = ap (λ l. first_twice tags (tags_of l)) (cut rows i r lt here) in
    let g = ap (λ b. if b then Some (fault.Twice (length tags + 1)) else first_twice (tags ++ r.tag ∷ []) (tags_of (drop (i + 1) rows))) among in
    sym taken.twice ∙ f ∙ g ∙ ap (λ k. Some (fault.Twice (k + 1))) (sym number)

pub all_tags_taken : (rows : List DatabaseRow) (i : ℕ) (tags : List (List ℕ)) → length rows ≤ i → TagsTaken rows i tags → (first_twice [] (tags_of rows) ≡ None) × (tags ≡ tags_of rows)
all_tags_taken rows i tags end taken =
    (sym (rw (drop_all i rows end) at taken.twice), rw (take_all i rows end) at taken.tags_are)
