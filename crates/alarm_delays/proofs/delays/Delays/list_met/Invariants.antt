use Rattle.std.proofs.Common.{◌≡◌, ◌*◌, ◌<◌, ◌≤◌, ℕ, min, false, Some, slice_get, length}
use Rattle.alarm_bank.proofs.MarkLaws.{IsLeft}
use Rattle.alarm_delays.proofs.MetLaws.{MetOn}
use Rattle.alarm_delays.proofs.delays.Delays.list_met.Given as goal

-- the words before one are listed
abbrev pub invariant-loop-index : goal.invariant-loop-index
invariant-loop-index g l = record {
  listed : MetOn (min (l.index * 64) (length l.fn.marks)) (g.S.Signals.conditions l.fn.raw) l.fn.self.since l.met.items;
  clear : (n : ℕ) → l.end ≤ n → n < min (l.index * 64) (length l.fn.marks) → slice_get l.fn.marks n ≡ Some false;
}

-- up to a place, whose bits are taken off the word
abbrev pub invariant-loop-left : goal.invariant-loop-left
invariant-loop-left g l =
    (place : ℕ) × record {
      left : IsLeft l.words l.index l.left place;
      within : place ≤ length l.fn.marks;
      listed : MetOn place (g.S.Signals.conditions l.fn.raw) l.fn.self.since l.met.items;
      clear : (n : ℕ) → l.end ≤ n → n < place → slice_get l.fn.marks n ≡ Some false;
    }

abbrev pub decreases-loop-left : goal.decreases-loop-left
decreases-loop-left g l = l.left
