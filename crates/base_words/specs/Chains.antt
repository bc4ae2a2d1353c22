-- Numbers in chains by hash: each leads to the one before it in its chain.
use Rattle.std.specs.Prelude.{◌≡◌, ℕ, ◌+◌, ◌-◌, ◌<◌, ◌≤◌, List, Option, Some, None, length, slice_index, slice_index_or, bit_and}
use Rattle.base_words.specs.declared.chains.Link.{Link}
use Rattle.base_words.specs.declared.texts.ByteRange.{ByteRange}
use Rattle.base_words.specs.declared.texts.Placed.{Placed}
use Rattle.base_words.specs.Texts.{place_at}

-- the hashes of numbers, their places, and how many numbers there is room for
pub record PlainChains : Type 0 where
  pub hashes : List ℕ
  pub places : List ByteRange
  pub room : ℕ

-- the chain of a hash, where there are this many, a power of two
abbrev pub chain_of : ℕ → ℕ → ℕ
chain_of hash chains = bit_and hash (chains - 1)

-- none of the numbers from one up to before another has this hash
abbrev pub HaveOthers : List ℕ → ℕ → ℕ → ℕ → Type 0
HaveOthers hashes from end hash = (k : ℕ) → from ≤ k → k < end → slice_index hashes k ≡ hash → ⊥

-- the last number with a hash among those before an end
abbrev pub IsLast : List ℕ → ℕ → ℕ → Option ℕ → Type 0
IsLast hashes end hash None = HaveOthers hashes 0 end hash
IsLast hashes end hash (Some number) = (number < end) × ((slice_index hashes number ≡ hash) × HaveOthers hashes (number + 1) end hash)

-- the number that was found
abbrev pub number_in : Option Placed → Option ℕ
number_in None = None
number_in (Some found) = Some found.number

-- the link of a place in a list
abbrev pub link_at : List Link → ℕ → Link
link_at links place = slice_index_or links place (record { count = 0; hash = 0; place = record { start = 0; end = 0 } })

-- a link leads to the last of some first numbers that is in a chain, and knows its hash
pub record IsLink (hashes : List ℕ) (chains end which : ℕ) (link : Link) : Type 0 where
  pub within : link.count ≤ end
  pub behind : (k : ℕ) → link.count ≤ k → k < end → chain_of (slice_index hashes k) chains ≡ which → ⊥
  pub chain : (k : ℕ) → link.count ≡ k + 1 → chain_of (slice_index hashes k) chains ≡ which
  pub hash : (k : ℕ) → link.count ≡ k + 1 → slice_index hashes k ≡ link.hash

-- each of some first numbers leads to the one before it in its chain
abbrev pub GoBack : List ℕ → ℕ → ℕ → List Link → Type 0
GoBack hashes chains end links = (k : ℕ) → k < end → IsLink hashes chains k (chain_of (slice_index hashes k) chains) (link_at links k)

-- each chain begins at the last of its numbers
abbrev pub BeginAtTops : List ℕ → ℕ → List Link → Type 0
BeginAtTops hashes end tops = (chain : ℕ) → chain < length tops → IsLink hashes (length tops) end chain (link_at tops chain)

-- chains of all numbers
pub record AreChains (hashes : List ℕ) (tops links : List Link) : Type 0 where
  pub few : length hashes < 4294967296
  pub size : length links ≡ length hashes
  pub wide : 0 < length hashes → 0 < length tops
  pub begin : BeginAtTops hashes (length hashes) tops
  pub back : GoBack hashes (length tops) (length hashes) links

-- a link knows the place of the number that it leads to
abbrev pub Knows : List ByteRange → Link → Type 0
Knows places link = (k : ℕ) → link.count ≡ k + 1 → (k < length places) × (place_at places k ≡ link.place)

-- each of some first links knows it
abbrev pub Know : List ByteRange → ℕ → List Link → Type 0
Know places end links = (i : ℕ) → i < end → Knows places (link_at links i)

-- chains of all numbers, each link of which knows its number's place
abbrev pub ArePlaced : List ℕ → List ByteRange → List Link → List Link → Type 0
ArePlaced hashes places tops links = AreChains hashes tops links × ((length places ≡ length hashes) × (Know places (length tops) tops × Know places (length links) links))
