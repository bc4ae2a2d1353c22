use Rattle.serve_laws.proofs.Journals.{journal_since}
use Rattle.serve_laws.proofs.Telling.{code_is, begins_norm}
use Rattle.serve_laws.proofs.Following.{change_starts}
use Rattle.serve_laws.proofs.journal_tells_codes.Goals as goal

pub returns : goal.returns
returns c = record { last = code_is; each = change_starts; rows = journal_since; begins = begins_norm }
