-- How the bytes of an input become requests, one after another: each begins where the one before it has ended. It is a line, and after its LF as many bytes as the line tells of.
use Rattle.std.specs.Prelude.{ℕ, ◌==◌, ◌&&◌, Bool, if◌then◌else◌, List, [], ◌∷◌, ◌++◌, length}
use Rattle.std.specs.List.{list_any}
use Rattle.serve_lines.specs.Reloads.{reload_size}

-- a request: the line that asks, as it is read, and the bytes after it
pub record Request : Type 0 where
  pub line : List ℕ
  pub body : List ℕ

-- ---- a line and what follows it

-- whether a byte is LF
abbrev pub is_lf : ℕ → Bool
is_lf b = b == 10

-- whether there is an LF among the bytes
abbrev pub has_lf : List ℕ → Bool
has_lf bytes = list_any is_lf bytes

-- the bytes before the first LF
abbrev pub line_in : List ℕ → List ℕ
line_in [] = []
line_in (b ∷ bs) = if is_lf b then [] else b ∷ line_in bs

-- the bytes after the first LF
abbrev pub after_lf : List ℕ → List ℕ
after_lf [] = []
after_lf (b ∷ bs) = if is_lf b then bs else after_lf bs

-- a line without the CR at its end, if it has one
abbrev pub without_cr : List ℕ → List ℕ
without_cr [] = []
without_cr (b ∷ []) = if b == 13 then [] else b ∷ []
without_cr (b ∷ c ∷ bs) = b ∷ without_cr (c ∷ bs)

-- ---- where a request ends

-- the request that bytes with an LF are: a CR right before the LF isn't part of its line
abbrev pub request_in : List ℕ → Request
request_in bytes = record { line = without_cr (line_in bytes); body = after_lf bytes }

-- the request that bytes are: without LF they are its line, of which a CR is part
abbrev pub request_of : List ℕ → Request
request_of bytes = if has_lf bytes then request_in bytes else record { line = bytes; body = [] }

-- whether bytes are a whole request: a line with its LF, and after it as many bytes as the line tells of
abbrev pub is_whole : List ℕ → Bool
is_whole bytes = has_lf bytes && (length (after_lf bytes) == reload_size (without_cr (line_in bytes)))

-- the request that the end of the input ends: the bytes that have begun it, if there are any. Its body may be too short
abbrev pub last_request : List ℕ → List Request
last_request [] = []
last_request (b ∷ bs) = request_of (b ∷ bs) ∷ []

-- ---- all requests of an input

-- the requests that end in bytes, where one has begun before them
abbrev pub ended_from : List ℕ → List ℕ → List Request
ended_from begun [] = []
ended_from begun (b ∷ bs) = if is_whole (begun ++ b ∷ []) then request_in (begun ++ b ∷ []) ∷ ended_from [] bs else ended_from (begun ++ b ∷ []) bs

-- the bytes that have begun a request after the last of these that ended
abbrev pub begun_from : List ℕ → List ℕ → List ℕ
begun_from begun [] = begun
begun_from begun (b ∷ bs) = if is_whole (begun ++ b ∷ []) then begun_from [] bs else begun_from (begun ++ b ∷ []) bs

-- the requests that end in an input
abbrev pub ended_requests : List ℕ → List Request
ended_requests input = ended_from [] input

-- the bytes of an input that have begun a request and not ended it
abbrev pub begun_request : List ℕ → List ℕ
begun_request input = begun_from [] input

-- all requests of an input
abbrev pub requests_of : List ℕ → List Request
requests_of input = ended_requests input ++ last_request (begun_request input)
