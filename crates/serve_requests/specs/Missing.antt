-- How many bytes a request waits for.
use Rattle.std.specs.Prelude.{◌≡◌, ℕ, zero, suc, ◌+◌, true, false, List, length}
use Rattle.serve_lines.specs.Reloads.{reload_size}
use Rattle.serve_requests.specs.Requests.{has_lf, line_in, after_lf, without_cr}

-- bytes have begun a request, and so many are missing of what its line tells of; before the LF of the line none is known to be missing
abbrev pub AreMissing : List ℕ → ℕ → Type 0
AreMissing begun zero = has_lf begun ≡ false
AreMissing begun (suc n) = (has_lf begun ≡ true) × (length (after_lf begun) + suc n ≡ reload_size (without_cr (line_in begun)))
