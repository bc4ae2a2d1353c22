-- What goes over from a small plant to changed ones.
use Rattle.std.proofs.Common.{◌≡◌, ℕ, ℤ, pos, List, [], ◌∷◌, refl}
use Rattle.std.specs.Prelude.{codes}
use Rattle.plant_types.specs.declared.values.Kind.{Kind}
use Rattle.plant_types.specs.declared.values.Kind.TheVariants as kind
use Rattle.st_tree.specs.Plain.{done}
use Rattle.logic_source.specs.declared.logic.Local.{Local}
use Rattle.logic_source.specs.declared.logic.Instance.{Instance}
use Rattle.logic_source.specs.declared.logic.BlockRef.{BlockRef}
use Rattle.logic_source.specs.declared.logic.BlockRef.TheVariants.{Ton, Tof}
use Rattle.logic_source.specs.Source.{Source}
use Rattle.plant_types.specs.Values.{Path}
use Rattle.logic_source.specs.Worlds.{World, index_word, in_word}
use Rattle.logic_source.specs.Carried.{carried}

abbrev variable : List ℕ → Kind → Local
variable name k = record { name = name; kind = k }

abbrev held : List ℕ → BlockRef → Instance
held name block = record { name = name; of = block }

-- a program of a name, with n, a DINT, a variable of a name and a kind, and t of a standard block, without a body
abbrev plant_of : List ℕ → List ℕ → Kind → BlockRef → Source
plant_of name other k block = record {
  globals = [];
  rows = [];
  starts = done;
  programs = record { name = name; locals = variable (codes "n") kind.Dint ∷ variable other k ∷ []; rows = []; instances = held (codes "t") block ∷ []; starts = done; body = done } ∷ [];
  blocks = [];
}

abbrev before : Source
before = plant_of (codes "Main") (codes "x") kind.Dint Ton

-- x becomes a TIME, and the program is written in small letters
abbrev other_kind : Source
other_kind = plant_of (codes "main") (codes "x") kind.Time Ton

-- t becomes a TOF, which has the inputs of a TON
abbrev other_block : Source
other_block = plant_of (codes "Main") (codes "x") kind.Dint Tof

-- x gets another name
abbrev other_name : Source
other_name = plant_of (codes "Main") (codes "y") kind.Dint Ton

abbrev main : List ℕ → Path
main name = name ∷ codes "main" ∷ []

abbrev t_in : Path
t_in = in_word ∷ main (codes "t")

-- a variable that changes its kind opens anew; all else keeps what it has, whatever the letter case
kind_opens : (w : World) → (carried before other_kind w).values (main (codes "x")) ≡ pos 0
kind_opens w = refl

rest_stays : (w : World) → (carried before other_kind w).values (main (codes "n")) ≡ w.values (main (codes "n"))
rest_stays w = refl

calls_stay : (w : World) → (carried before other_kind w).calls (main (codes "t")) ≡ w.calls (main (codes "t"))
calls_stay w = refl

-- a standard block in another's place begins without calls, and its inputs keep their values
calls_open : (w : World) → (carried before other_block w).calls (main (codes "t")) ≡ []
calls_open w = refl

input_stays : (w : World) → (carried before other_block w).values t_in ≡ w.values t_in
input_stays w = refl

-- a variable of another name opens anew, though it stands where the old one stood
name_opens : (w : World) → (carried before other_name w).values (main (codes "y")) ≡ pos 0
name_opens w = refl

-- a global array w of DINTs with these bounds, and nothing else
abbrev array : ℤ → ℤ → Source
array low high = record {
  globals = [];
  rows = record { name = codes "w"; kind = kind.Dint; bounds = record { low = low; high = high } } ∷ [];
  starts = done;
  programs = [];
  blocks = [];
}

abbrev element : Path
element = index_word (pos 1) ∷ codes "w" ∷ []

-- the elements of an array with other bounds open anew, also those that both have
element_stays : (w : World) → (carried (array (pos 0) (pos 1)) (array (pos 0) (pos 1)) w).values element ≡ w.values element
element_stays w = refl

element_opens : (w : World) → (carried (array (pos 0) (pos 1)) (array (pos 0) (pos 2)) w).values element ≡ pos 0
element_opens w = refl
