-- How many bytes a line tells of.
use Rattle.std.proofs.Common.{◌≡◌, ℕ, List, Option, None, Some, ap, refl, length, ◌<◌}
use Rattle.std.proofs.lemmas.Bool.{lt-ltb}
use Rattle.serve_lines.specs.Reloads.{PlainSizes, total_size, reload_sizes, reload_size}

-- a line that is no reload tells of none
pub no_size : (line : List ℕ) → reload_sizes line ≡ None → reload_size line ≡ 0
unfolding reload_size
no_size line e = ap bytes_of e
  where
    bytes_of : Option PlainSizes → ℕ
    bytes_of None = 0
    bytes_of (Some sizes) = total_size sizes

-- and a line that is too long is none
pub no_sizes-long : (line : List ℕ) → 1048576 < length line → reload_sizes line ≡ None
unfolding reload_sizes
no_sizes-long line h = rw (lt-ltb 1048576 (length line) h) refl

pub reload_size-long : (line : List ℕ) → 1048576 < length line → reload_size line ≡ 0
reload_size-long line h = no_size line (no_sizes-long line h)
