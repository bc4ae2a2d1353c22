-- Comments, which hold any bytes and don't nest.
use Rattle.std.specs.Prelude.{ℕ, Bool, false, not, ◌==◌, ◌&&◌, ◌||◌, if◌then◌else◌, List, [], ◌∷◌, length}
use Rattle.std.specs.List.{list_all}
use Rattle.st_lexer.specs.Bytes.{begins_by}

-- the bytes end with their first `*` that this mark follows, and with the mark
abbrev pub is_closed : ℕ → List ℕ → Bool
is_closed mark [] = false
is_closed mark (b ∷ bs) = if b == 42 && begins_by (λ c. c == mark) bs then length bs == 1 else is_closed mark bs

-- no line feed is among the bytes
abbrev pub is_one_line : List ℕ → Bool
is_one_line bs = list_all (λ b. not (b == 10)) bs

-- from `(*` to the first `*)`, from `/*` to the first `*/`, or from `//` on in one line
abbrev pub is_comment : List ℕ → Bool
is_comment [] = false
is_comment (a ∷ []) = false
is_comment (a ∷ b ∷ inner) = (a == 40 && b == 42 && is_closed 41 inner) || (a == 47 && b == 42 && is_closed 47 inner) || (a == 47 && b == 47 && is_one_line inner)

-- a comment begins here: `(*`, `/*` or `//`
abbrev pub begins_comment : List ℕ → Bool
begins_comment [] = false
begins_comment (a ∷ []) = false
begins_comment (a ∷ b ∷ inner) = (a == 40 && b == 42) || (a == 47 && (b == 42 || b == 47))
