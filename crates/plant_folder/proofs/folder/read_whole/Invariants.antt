use Rattle.std.proofs.Common.{◌≡◌, ◌-◌, length}
use Rattle.std.specs.Io.KnownBytes.{Consumes}
use Rattle.plant_folder.proofs.folder.read_whole.Given as goal

-- the bytes so far were read, and no read has failed; the room stays
abbrev pub invariant-reads : goal.invariant-reads
invariant-reads g l =
    Consumes (g.F.Feed.remaining l.fn.feed) (g.F.Feed.remaining l.feed) l.bytes.items
    × (g.F.Feed.broken l.feed ≡ g.F.Feed.broken l.fn.feed)
    × (length l.piece.items ≡ 65536)

-- each read gives a byte or more, or is the last
abbrev pub decreases-reads : goal.decreases-reads
decreases-reads g l = 16777218 - length l.bytes.items
