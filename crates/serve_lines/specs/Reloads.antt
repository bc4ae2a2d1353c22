-- The sizes that the words after reload give: P A S1 .. Sk.
use Rattle.std.specs.Prelude.{ℕ, ◌+◌, ◌∷◌, [], List, if◌then◌else◌, length, sum, nat_lt, Option, Some, None, codes}
use Rattle.std.specs.Option.{option_map, option_and_then}
use Rattle.std.specs.Str.{bytes_eq}
use Rattle.serve_lines.specs.Words.{words_of}
use Rattle.serve_lines.specs.Numbers.{number_of}

-- how many bytes the texts of a plant have: its plant file, its alarm file, and each of its sources
pub record PlainSizes : Type 0 where
  pub plant : ℕ
  pub alarms : ℕ
  pub sources : List ℕ

-- how many bytes these texts have together
abbrev pub total_size : PlainSizes → ℕ
total_size sizes = sizes.plant + sizes.alarms + sum sizes.sources

-- the number of a word of 1 to 8 digits that is no larger than a limit; none for any other word
abbrev pub size_of : ℕ → List ℕ → Option ℕ
size_of limit word = option_and_then (λ n. if nat_lt limit n then None else Some n) (number_of 8 word)

-- the numbers of words that all have 1 to 8 digits; none if one of them is another word
abbrev pub sizes_in : List (List ℕ) → Option (List ℕ)
sizes_in [] = Some []
sizes_in (w ∷ ws) = option_and_then (λ n. option_map (λ ns. n ∷ ns) (sizes_in ws)) (number_of 8 w)

-- numbers that are sizes of sources: at most 64, and at most 4,194,304 together; none of other numbers
abbrev pub within_sources : List ℕ → Option (List ℕ)
within_sources ns = if nat_lt 64 (length ns) then None else if nat_lt 4194304 (sum ns) then None else Some ns

-- the sizes of sources that words give
unfoldable pub sources_of : List (List ℕ) → Option (List ℕ)
sources_of ws = option_and_then within_sources (sizes_in ws)

-- the sizes that the words after reload give: of the plant file, at most 1,048,576, of the alarm file, at most 16,777,216, and of each source
unfoldable pub sizes_of : List (List ℕ) → Option PlainSizes
sizes_of [] = None
sizes_of (p ∷ []) = None
sizes_of (p ∷ a ∷ ws) = elim (size_of 1048576 p) [
  | None ↦ None
  | Some plant ↦ elim (size_of 16777216 a) [
    | None ↦ None
    | Some alarms ↦ option_map (λ sources. record { plant = plant; alarms = alarms; sources = sources }) (sources_of ws)
  ]
]

-- the sizes that the words of a line give: none where its first word isn't reload
unfoldable pub sizes_after : List (List ℕ) → Option PlainSizes
sizes_after [] = None
sizes_after (w ∷ ws) = if bytes_eq w (codes "reload") then sizes_of ws else None

-- the sizes that a line gives; none of a line of more than 1,048,576 bytes
unfoldable pub reload_sizes : List ℕ → Option PlainSizes
reload_sizes line = if nat_lt 1048576 (length line) then None else sizes_after (words_of line)

-- how many bytes come after a line: those of all texts whose sizes it gives, and none after any other line
unfoldable pub reload_size : List ℕ → ℕ
reload_size line = elim (reload_sizes line) [ None ↦ 0 | Some sizes ↦ total_size sizes ]
