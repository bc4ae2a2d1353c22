-- What a function that parses returns.
use Rattle.std.specs.Prelude.{◌≡◌, Option, Some, None, Result, Ok, Err}
use Rattle.st_expressions.specs.declared.stop.ParseStop.{ParseStop}
use Rattle.st_expressions.specs.declared.stop.ParseStop.TheVariants as stop

-- the answer is none, unless memory was refused
abbrev pub Fails : {Y : Type 0} → ParseStop → Option Y → Type 0
Fails stop.Memory answer = Unit {0}
Fails (stop.Left n) answer = answer ≡ None

-- what is returned, seen by view, is the answer, unless memory was refused
abbrev pub Returns : {X Y : Type 0} → (X → Y) → Result X ParseStop → Option Y → Type 0
Returns view (Ok x) answer = answer ≡ Some (view x)
Returns view (Err e) answer = Fails e answer
