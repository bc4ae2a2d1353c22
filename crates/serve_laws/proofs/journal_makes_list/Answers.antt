use Rattle.serve_laws.proofs.Listing.{lines_told, list_told}
use Rattle.serve_laws.proofs.journal_makes_list.Goals as goal

pub returns : goal.returns
returns c = record { lines = lines_told; text = list_told }
