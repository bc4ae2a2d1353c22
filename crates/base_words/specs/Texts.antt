-- Texts that lie one behind another in one.
use Rattle.std.specs.Prelude.{◌≡◌, ◌∷◌, [], ◌+◌, ◌-◌, ◌≤◌, ℕ, zero, suc, List, length, take, drop, slice_index_or}
use Rattle.std.specs.Str.{IsCharBoundary}
use Rattle.base_words.specs.declared.texts.ByteRange.{ByteRange}

-- the texts that lie in one from a place on, by the places at which they end
abbrev pub texts_in : ℕ → List ℕ → List ℕ → List (List ℕ)
texts_in start [] text = []
texts_in start (end ∷ ends) text = take (end - start) (drop start text) ∷ texts_in end ends text

-- where the text of a number begins: where the one before it ends
abbrev pub start_of : ℕ → List ℕ → ℕ → ℕ
start_of start ends zero = start
start_of start [] (suc number) = start
start_of start (end ∷ ends) (suc number) = start_of end ends number

-- texts end one after another, the last where all ends, and between characters
abbrev pub AreEnds : ℕ → List ℕ → List ℕ → Type 0
AreEnds start [] text = start ≡ length text
AreEnds start (end ∷ ends) text = (start ≤ end) × (IsCharBoundary text end × AreEnds end ends text)

-- the place of a number
abbrev pub place_at : List ByteRange → ℕ → ByteRange
place_at places number = slice_index_or places number (record { start = 0; end = 0 })

-- the places of texts that lie one behind another from a place on
abbrev pub places_of : ℕ → List (List ℕ) → List ByteRange
places_of start [] = []
places_of start (text ∷ texts) = record { start = start; end = start + length text } ∷ places_of (start + length text) texts
