-- Laws of requests.
use Rattle.std.specs.Prelude.{◌≡◌, ℕ, false, List, [], ◌∷◌, ◌++◌, length}
use Rattle.serve_lines.specs.Reloads.{reload_size}
use Rattle.serve_requests.specs.Requests.{has_lf, without_cr, ended_from, begun_from, begun_request, last_request, requests_of}

-- bytes without LF, then an LF, and then as many bytes as that line tells of are one request, and what follows are the others
abbrev pub RequestsEnd : Type 0
RequestsEnd = (line body rest : List ℕ) → has_lf line ≡ false → length body ≡ reload_size (without_cr line)
    → requests_of (line ++ 10 ∷ (body ++ rest)) ≡ record { line = without_cr line; body = body } ∷ requests_of rest

-- a line without a body is one request with its LF, and what follows are the others; bytes without LF are the last request, if there are any
abbrev pub RequestsEndInLf : Type 0
RequestsEndInLf = (line rest : List ℕ) → has_lf line ≡ false
    → (reload_size (without_cr line) ≡ 0 → requests_of (line ++ 10 ∷ rest) ≡ record { line = without_cr line; body = [] } ∷ requests_of rest) × (requests_of line ≡ last_request line)

-- bytes that go on: the requests that end in both are those that end in the first, and then those that end after what these have begun
abbrev pub RequestsGoOn : Type 0
RequestsGoOn = (begun xs ys : List ℕ) → (ended_from begun (xs ++ ys) ≡ ended_from begun xs ++ ended_from (begun_from begun xs) ys)
    × (begun_from begun (xs ++ ys) ≡ begun_from (begun_from begun xs) ys)

-- an input that ends where a request does, and more after it: its requests are those of the first, and then those of the rest
abbrev pub RequestsCanBeCut : Type 0
RequestsCanBeCut = (past more : List ℕ) → begun_request past ≡ [] → requests_of (past ++ more) ≡ requests_of past ++ requests_of more
