use Rattle.std.proofs.Common.{◌≡◌, ◌<◌, ◌++◌, length, take, map}
use Rattle.engine.specs.Journal.{journal_of}
use Rattle.serve_answers.specs.Listings.{text_of, named_line, IsPassed}
use Rattle.serve_answers.proofs.spilling.write_rows.Given as goal

-- the lines of the first rows are passed, and few bytes of them are held
abbrev pub invariant-loop-row : goal.invariant-loop-row
invariant-loop-row g l =
    IsPassed (g.S.Sink.written l.fn.sink) (g.S.Sink.written l.sink) (l.fn.text.items ++ text_of (map (named_line l.engine.plant.epoch) (take l.row (journal_of l.engine.plant l.engine.history)))) l.text.items
    × (g.S.Sink.broken l.sink ≡ g.S.Sink.broken l.fn.sink)
    × (length l.fn.text.items < 65536 → length l.text.items < 65536)
