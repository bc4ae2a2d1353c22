-- The replies that a console has among entries.
use Rattle.std.proofs.Common.{◌≡◌, ℕ, ◌+◌, ◌==◌, Bool, true, false, if◌then◌else◌, List, [], ◌∷◌, ◌++◌, length, refl, sym, ◌∙◌, ap, arith}
use mathlib.Core.List.{IsPrefix}
use Rattle.console_boards.specs.declared.entry.AnsweredOrder.{AnsweredOrder}
use Rattle.console_boards.specs.declared.entry.BoardEntry.{BoardEntry}
use Rattle.console_boards.specs.declared.entry.BoardEntry.TheVariants as entry
use Rattle.console_boards.specs.Counts.{count_of, answers_of}

-- by whether an order is this console's
one_counted : (b : Bool) (a : AnsweredOrder) (replies : List AnsweredOrder) (n : ℕ) → length replies ≡ n → length (if b then a ∷ replies else replies) ≡ (if b then 1 else 0) + n
one_counted true a replies n h = omega (arith, h)
one_counted false a replies n h = omega (arith, h)

one_first : (b : Bool) (a : AnsweredOrder) (all replies more : List AnsweredOrder) → all ≡ replies ++ more → (if b then a ∷ all else all) ≡ (if b then a ∷ replies else replies) ++ more
one_first true a all replies more h = ap (λ (l : List AnsweredOrder). a ∷ l) h
one_first false a all replies more h = h

pub counted : (console : ℕ) (es : List BoardEntry) → length (answers_of console es) ≡ count_of console es
counted console [] = refl
counted console (entry.Scan s ∷ es) = let h = counted console es in omega (arith, h)
counted console (entry.Reload news ∷ es) = let h = counted console es in omega (arith, h)
counted console (entry.Order n a ∷ es) = one_counted (console == n) a (answers_of console es) (count_of console es) (counted console es)

-- the replies among entries and more
pub answers_more : (console : ℕ) (es fs : List BoardEntry) → answers_of console (es ++ fs) ≡ answers_of console es ++ answers_of console fs
answers_more console [] fs = refl
answers_more console (entry.Scan s ∷ es) fs = answers_more console es fs
answers_more console (entry.Reload news ∷ es) fs = answers_more console es fs
answers_more console (entry.Order n a ∷ es) fs = one_first (console == n) a (answers_of console (es ++ fs)) (answers_of console es) (answers_of console fs) (answers_more console es fs)

-- the replies of a beginning are a beginning of the replies
pub answers_begin : (console : ℕ) (es fs : List BoardEntry) → IsPrefix es fs → IsPrefix (answers_of console es) (answers_of console fs)
answers_begin console es fs h = (answers_of console h.0, sym (answers_more console es h.0) ∙ ap (λ (l : List BoardEntry). answers_of console l) h.1)
