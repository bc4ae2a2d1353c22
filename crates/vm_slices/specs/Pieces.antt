-- Slots that stand one after another, as pieces of a part's slots.
use Rattle.std.specs.Prelude.{◌≡◌, ◌<◌, ◌+◌, ℕ, List, [], ◌∷◌, ◌++◌, map, length, get_or, Some, slice_get}
use Rattle.std.specs.List.{flat_map, range_with_len}
use Rattle.vm_slices.specs.declared.pieces.Piece.{Piece}

-- the slots of a piece: its first one, and so many more behind it
abbrev pub piece_slots : Piece → List ℕ
piece_slots q = range_with_len q.first (q.more + 1)

-- the places of their values in the part
abbrev pub piece_places : Piece → List ℕ
piece_places q = range_with_len q.place (q.more + 1)

-- the slots of pieces, one piece behind another, and the places
abbrev pub slots_in : List Piece → List ℕ
slots_in pieces = flat_map piece_slots pieces

abbrev pub places_in : List Piece → List ℕ
places_in pieces = flat_map piece_places pieces

-- pieces have one place more, and its slot, behind all that they had
pub record AddsSlot (place slot : ℕ) (old new : List Piece) : Type 0 where
  pub slots : slots_in new ≡ slots_in old ++ slot ∷ []
  pub places : places_in new ≡ places_in old ++ place ∷ []

-- pieces are those of places among slots, in their order
pub record ArePiecesAt (places slots : List ℕ) (pieces : List Piece) : Type 0 where
  pub places_are : places_in pieces ≡ places
  pub slots_are : slots_in pieces ≡ map (λ p. get_or slots p 0) places

-- pieces spell out a part's slots, and others those that are written
pub record ArePieces (slots written : List ℕ) (all put : List Piece) : Type 0 where
  pub all_are : slots_in all ≡ slots
  pub put_are : ArePiecesAt written slots put

-- each slot of a piece has the item at its place, and all others of the row are as they were
pub record PutsPiece {A : Type 0} (q : Piece) (items old new : List A) : Type 0 where
  pub size : length new ≡ length old
  pub put : (k : ℕ) → k < q.more + 1 → slice_get new (q.first + k) ≡ slice_get items (q.place + k)
  pub kept : (s : ℕ) → ((k : ℕ) → k < q.more + 1 → s ≡ q.first + k → ⊥) → slice_get new s ≡ slice_get old s

-- pieces that have the same slot have it at the same place
pub record HaveOnePlace (pieces : List Piece) : Type 0 where
  pub one : (i j k m : ℕ) (q r : Piece) → slice_get pieces i ≡ Some q → slice_get pieces j ≡ Some r → k < q.more + 1 → m < r.more + 1 → q.first + k ≡ r.first + m → q.place + k ≡ r.place + m

-- each slot of pieces has the item at its place, and all others of the row are as they were
pub record PutsPieces {A : Type 0} (pieces : List Piece) (items old new : List A) : Type 0 where
  pub size : length new ≡ length old
  pub put : (i k : ℕ) (q : Piece) → slice_get pieces i ≡ Some q → k < q.more + 1 → slice_get new (q.first + k) ≡ slice_get items (q.place + k)
  pub kept : (s : ℕ) → ((i k : ℕ) (q : Piece) → slice_get pieces i ≡ Some q → k < q.more + 1 → s ≡ q.first + k → ⊥) → slice_get new s ≡ slice_get old s
