-- What a board shows: a story, which is an opening picture and a list of entries that change it one after another.
use Rattle.std.specs.Prelude.{◌≡◌, ℕ, Bool, true, ◌&&◌, if◌then◌else◌, nat_lt, Option, Some, None, List, [], ◌∷◌, ◌++◌, length, take}
use mathlib.Core.List.{IsPrefix}

-- an opening picture, and a list of entries
abbrev pub Story : Type 0 → Type 0 → Type 0
Story P E = P × List E

-- the first list is the beginning of the second that has its length
abbrev pub Begins : {E : Type 0} → List E → List E → Type 0
Begins xs ys = take (length xs) ys ≡ xs

module _ {P E : Type 0} where
  -- the picture after a list of entries
  abbrev pub shown : (P → E → P) → P → List E → P
  shown after p [] = p
  shown after p (e ∷ es) = shown after (after p e) es

  -- whether each entry might come after those before it
  abbrev pub is_lawful : (P → E → P) → (P → E → Bool) → P → List E → Bool
  is_lawful after allows p [] = true
  is_lawful after allows p (e ∷ es) = allows p e && is_lawful after allows (after p e) es

  -- whether an entry may come after a story: it fits, and the list has fewer than 2 ^ 64 - 1 entries before it
  abbrev pub may_come : (P → E → P) → (P → E → Bool) → Story P E → E → Bool
  may_come after allows s e = nat_lt (length s.1) 18446744073709551615 && allows (shown after s.0 s.1) e

  -- the story with an entry more, if it may come
  abbrev pub grown : (P → E → P) → (P → E → Bool) → Story P E → E → Story P E
  grown after allows s e = if may_come after allows s e then (s.0, s.1 ++ e ∷ []) else s

  -- the second story goes on from the first: the same opening, and a list that begins with the first one's
  abbrev pub Continues : Story P E → Story P E → Type 0
  Continues a b = (b.0 ≡ a.0) × IsPrefix a.1 b.1

  -- a story goes on from what was seen, if anything was
  abbrev pub IsSince : Option (Story P E) → Story P E → Type 0
  IsSince None s = Unit {0}
  IsSince (Some a) s = Continues a s

  -- how many entries were seen
  abbrev pub seen_events : Option (Story P E) → ℕ
  seen_events None = 0
  seen_events (Some s) = length s.1

  -- the list that was seen; nothing was seen: none
  abbrev pub seen_list : Option (Story P E) → List E
  seen_list None = []
  seen_list (Some s) = s.1

  -- whether each of the entries that were seen might come after those before it; nothing was seen: yes
  abbrev pub is_seen_lawful : (P → E → P) → (P → E → Bool) → Option (Story P E) → Bool
  is_seen_lawful after allows None = true
  is_seen_lawful after allows (Some s) = is_lawful after allows s.0 s.1

  -- what was seen opens as what was told of
  abbrev pub OpensAsTold : Option (Story P E) → Option (Story P E) → Type 0
  OpensAsTold told seen = (t s : Story P E) → told ≡ Some t → seen ≡ Some s → s.0 ≡ t.0

  -- what was seen opens as what was told of, and each of its entries might come after those before it
  abbrev pub IsSound : (P → E → P) → (P → E → Bool) → Option (Story P E) → Option (Story P E) → Type 0
  IsSound after allows told seen = OpensAsTold told seen × (is_seen_lawful after allows seen ≡ true)
