-- The place of the first item that passes a test.
use Rattle.std.proofs.Common.{◌≡◌, ◌∙◌, Bool, ℕ, List, [], ◌∷◌, map, refl, sym}
use Rattle.std.proofs.lemmas.List.{length-map}
use Rattle.std.specs.Prelude.{not, position}
use Rattle.std.specs.List.{prefix_len}
use Rattle.std.specs.Str.{bytes_eq}
use Rattle.plant_types.specs.Words.{folded}
use Rattle.base_words.specs.Names as index
use Rattle.logic_source.specs.declared.logic.Variable.{Variable}
use Rattle.logic_source.specs.Names.{find_global}
use Rattle.vm_logic.specs.Framed.{global_names}

prefix-map : {X Y : Type 0} (p : Y → Bool) (f : X → Y) (xs : List X) → prefix_len (λ x. p (f x)) xs ≡ prefix_len p (map f xs)
prefix-map p f [] = refl
prefix-map p f (x ∷ xs) = rw (prefix-map p f xs) refl

position-map : {X Y : Type 0} (p : Y → Bool) (f : X → Y) (xs : List X) → position (λ x. p (f x)) xs ≡ position p (map f xs)
position-map p f xs = rw (prefix-map (λ y. not (p y)) f xs, length-map xs f) refl

-- what is found among the names is the number of the global
pub global_found : (globals : List Variable) (name : List ℕ) → index.find_name (global_names globals) name ≡ find_global globals name
global_found globals name =
    sym (position-map (λ word. bytes_eq (folded name) (folded word)) (λ (g : Variable). g.name) globals) ∙ position-map (bytes_eq (folded name)) (λ (g : Variable). folded g.name) globals
