use Rattle.std.proofs.Common.{◌≡◌, ◌≤◌, ◌<◌, ◌*◌, length}
use Rattle.engine.specs.Engines.{state_of}
use Rattle.serve_answers.specs.Listings.{lines_below, half_lines_of, HasPassed}
use Rattle.serve_answers.proofs.spilling.write_half.Given as goal

-- the lines of the first numbers are passed, and few bytes of them are held
abbrev pub invariant-loop-number : goal.invariant-loop-number
invariant-loop-number g l = record {
  passed : HasPassed (g.S.Sink.written l.fn.sink) (g.S.Sink.written l.sink) l.fn.text.items l.text.items l.lines (lines_below (half_lines_of (state_of l.engine) l.half) l.number);
  few : l.lines ≤ 36 * l.number;
  held : length l.fn.text.items < 65536 → length l.text.items < 65536;
  sink : g.S.Sink.broken l.sink ≡ g.S.Sink.broken l.fn.sink;
}
