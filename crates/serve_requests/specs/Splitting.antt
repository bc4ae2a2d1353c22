-- What a splitter holds of an input, and which requests it gives.
use Rattle.std.specs.Prelude.{◌≡◌, ℕ, ◌<◌, if◌then◌else◌, List, [], ◌∷◌, ◌++◌, length, take, Option, None, Some}
use Rattle.serve_lines.specs.Commands.{command_of}
use Rattle.serve_lines.specs.Reloads.{reload_sizes}
use Rattle.serve_requests.specs.declared.splitter.Ended.{Ended}
use Rattle.serve_requests.specs.declared.splitter.Ended.TheVariants as ended
use Rattle.serve_requests.specs.Requests.{Request, has_lf, request_of, ended_from, begun_from}

-- of a line that has begun the first 1,048,578 bytes are held: enough to see that it is too long (over 1,048,576 bytes), even with a CR at its end; from its LF on all bytes of the request are
abbrev pub IsHeld : (begun held : List ℕ) → Type 0
IsHeld begun held = held ≡ (if has_lf begun then begun else take 1048578 begun)

-- one request asks for what another one does: their lines may differ where both are too long
pub record AsksAlike (a b : Request) : Type 0 where
  pub command : command_of a.line ≡ command_of b.line
  pub sizes : reload_sizes a.line ≡ reload_sizes b.line
  pub body : a.body ≡ b.body

-- requests ask for what as many others do, one by one
abbrev pub AskAlike : List Request → List Request → Type 0
AskAlike [] [] = Unit {0}
AskAlike [] (y ∷ ys) = ⊥
AskAlike (x ∷ xs) [] = ⊥
AskAlike (x ∷ xs) (y ∷ ys) = AsksAlike x y × AskAlike xs ys

-- the requests that ended, by what is given of them: none or one
abbrev pub given_requests : Ended → List Request
given_requests ended.Nothing = []
given_requests (ended.Line line) = record { line = line.now; body = [] } ∷ []
given_requests (ended.Held bytes) = request_of bytes ∷ []

-- the requests that are held: none or one
abbrev pub held_requests : Option (List ℕ) → List Request
held_requests None = []
held_requests (Some bytes) = request_of bytes ∷ []

-- a line that is lent is no reload
abbrev pub IsPlain : Ended → Type 0
IsPlain ended.Nothing = Unit {0}
IsPlain (ended.Line line) = reload_sizes line.now ≡ None
IsPlain (ended.Held bytes) = Unit {0}

-- bytes were taken after those that had begun a request: the request that ended in them is given, if one did, and what has begun the next one is held
pub record Takes (begun bytes : List ℕ) (e : Ended) (held : List ℕ) : Type 0 where
  pub given : AskAlike (given_requests e) (ended_from begun bytes)
  pub plain : IsPlain e
  pub holds : IsHeld (begun_from begun bytes) held

-- a first part of bytes was taken, and the others are left, which are fewer than all
pub record TakesPart (old bytes : List ℕ) (e : Ended) (rest new : List ℕ) : Type 0 where
  pub part : List ℕ
  pub cut : bytes ≡ part ++ rest
  pub shorter : length rest < length bytes
  pub takes : (begun : List ℕ) → IsHeld begun old → Takes begun part e new
