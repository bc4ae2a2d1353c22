-- How the program ends.
use Rattle.std.specs.Prelude.{ℕ}
use Rattle.serve_arguments.specs.declared.ended.Ended.{Ended}
use Rattle.serve_arguments.specs.declared.ended.Ended.TheVariants as ended

-- the exit status of a program that ended so
abbrev pub status : Ended → ℕ
status ended.Done = 0
status ended.Fault = 1
status ended.Usage = 2
status ended.Refused = 3
