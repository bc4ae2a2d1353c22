-- What a line asks for is in its first bytes: of a line that is too long the rest says no more.
use Rattle.std.proofs.Common.{◌≡◌, ℕ, Bool, true, false, List, Option, None, Some, ap, refl, arith, length, take, ◌<◌, ◌≤◌, ◌+◌, ltb}
use Rattle.std.specs.Prelude.{nat_lt, if◌then◌else◌}
use Rattle.std.proofs.lemmas.List.{take_all, length-take-le}
use Rattle.std.proofs.lemmas.Bool.{lt-ltb, ltb-true, ltb-false}
use Rattle.serve_lines.specs.Words.{words_of}
use Rattle.serve_lines.specs.Commands.{PlainCommand, Unknown, Nothing, command_of, command_in, is_remark}
use Rattle.serve_lines.specs.Reloads.{PlainSizes, total_size, sizes_after, reload_sizes, reload_size}

-- a test of the length, made of the first bytes
tested : (A : Type 0) (n : ℕ) (line : List ℕ) (long : A) (f : List ℕ → A) →
    (if nat_lt n (length (take (n + 1) line)) then long else f (take (n + 1) line)) ≡ (if nat_lt n (length line) then long else f line)
tested A n line long f = cases (nat_lt n (length line)) refl
  where
    cases : (b : Bool) → nat_lt n (length line) ≡ b →
        (if nat_lt n (length (take (n + 1) line)) then long else f (take (n + 1) line)) ≡ (if nat_lt n (length line) then long else f line)
    cases true e =
        let h : n < length line = ltb-true n (length line) e in
        let k : length (take (n + 1) line) ≡ n + 1 = length-take-le (n + 1) line (omega arith) in
        let long_too : ltb n (length (take (n + 1) line)) ≡ true = lt-ltb n (length (take (n + 1) line)) (omega arith) in
        rw (e, long_too) refl
    cases false e =
        let h : length line ≤ n = ltb-false n (length line) e in
        rw (take_all (n + 1) line (omega arith)) refl

pub command_of-short : (line : List ℕ) → command_of (take 1048577 line) ≡ command_of line
unfolding command_of
command_of-short line = tested PlainCommand 1048576 line Unknown (λ l. if is_remark (words_of l) then Nothing else command_in (words_of l))

pub reload_sizes-short : (line : List ℕ) → reload_sizes (take 1048577 line) ≡ reload_sizes line
unfolding reload_sizes
reload_sizes-short line = tested (Option PlainSizes) 1048576 line None (λ l. sizes_after (words_of l))

pub reload_size-short : (line : List ℕ) → reload_size (take 1048577 line) ≡ reload_size line
unfolding reload_size
reload_size-short line = ap bytes_of (reload_sizes-short line)
  where
    bytes_of : Option PlainSizes → ℕ
    bytes_of None = 0
    bytes_of (Some sizes) = total_size sizes
