-- Names that are added, and their numbers.
use Rattle.std.proofs.Common.{◌≡◌, ◌∙◌, ap, sym, refl, ℕ, Bool, true, false, cond, List, [], ◌∷◌, ◌++◌, length, Some, None}
use Rattle.std.specs.Prelude.{is_some, not, if◌then◌else◌}
use Rattle.std.specs.List.{list_any}
use Rattle.std.specs.Cmp.Lexicographic.{bytes_decides}
use Rattle.plant_types.specs.Words.{folded, same_word}
use Rattle.base_words.specs.Names.{find_name, is_among}
use Rattle.base_words.proofs.Numbering.{is_some-position, position-push_any, position-push_none}
use Rattle.logic_carry.specs.Paths.{Grows}

-- what is found is found among more names
pub names_grow : (names : List (List ℕ)) (name : List ℕ) → Grows (find_name names) (find_name (names ++ name ∷ []))
names_grow names name word n is =
    let any : list_any (same_word word) names ≡ true = sym (is_some-position (same_word word) names) ∙ ap is_some is in
    position-push_any (same_word word) names name any ∙ is

-- a name that is added has the number of all before it
pub name_added : (names : List (List ℕ)) (name : List ℕ) → is_among names name ≡ false → find_name (names ++ name ∷ []) name ≡ Some (length names)
name_added names name none =
    let same : same_word name name ≡ true = (bytes_decides (folded name) (folded name)).1 refl in
    position-push_none (same_word name) names name none ∙ ap (λ b. cond b (Some (length names)) None) same

pub absent : (names : List (List ℕ)) (name : List ℕ) → find_name names name ≡ None → is_among names name ≡ false
absent names name is = sym (is_some-position (same_word name) names) ∙ ap is_some is

-- all names, with one that isn't among them
pub names_with : (old new : List (List ℕ)) (name : List ℕ) (added : Bool) → find_name old name ≡ None → added ≡ not (is_among old name) → new ≡ (if added then old ++ name ∷ [] else old) → new ≡ old ++ name ∷ []
names_with old new name added none is names = names ∙ ap (λ b. if b then old ++ name ∷ [] else old) (is ∙ ap not (absent old name none))
