use Rattle.std.proofs.Common.{◌≡◌, take, All}
use Rattle.console_boards.specs.Readers.{published, laid, log_kept}
use Rattle.station.specs.Lanes.{numbers_of, links_of, AreOpened, HasNotLooked, IsOfLog}
use Rattle.station.proofs.opening.open_lanes.Given as goal

abbrev pub invariant-loop-row : goal.invariant-loop-row
invariant-loop-row l =
    AreOpened (numbers_of (take l.row-index l.listed)) (links_of l.consoles.items) l.lanes.items × All (HasNotLooked (published l.fn.board)) l.consoles.items
    × All (IsOfLog (log_kept l.fn.board)) l.lanes.items × (published l.board ≡ published l.fn.board) × (laid l.board ≡ laid l.fn.board) × (log_kept l.board ≡ log_kept l.fn.board)
