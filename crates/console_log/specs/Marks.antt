-- What a contract sees of a mark.
use Rattle.std.specs.Prelude.{List, refl}
use Rattle.std.specs.Coded.{Coded, code_by, coded×, coded_list}
use Rattle.logbook.specs.Pages.{Book, book_coded}

-- which log it is, and what the log had
pub record PlainMark (E : Type 0) : Type 0 where
  pub log : Book
  pub entries : List E

-- its code
abbrev pub mark_code : {E : Type 0} → Coded E → Coded (PlainMark E)
mark_code {E} code = code_by (Book × List E) (coded× book_coded (coded_list code)) (λ m. (m.log, m.entries)) (λ p. record { log = p.0; entries = p.1 }) (λ _. refl)
