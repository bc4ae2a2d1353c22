use Rattle.std.proofs.Common.{◌≡◌, ℕ, ◌≤◌, List, length}
use Rattle.alarm_bank.specs.Marks.{flags_of, AreMarks}
use Rattle.alarm_bank.specs.Moves.{AreMovesBefore}
use Rattle.alarm_bank.proofs.MarkLaws.{IsLeft}
use Rattle.alarm_bank.proofs.bank.Bank.list_word.Given as goal

-- up to a place, whose bits are taken off the word
abbrev pub invariant-loop-left : goal.invariant-loop-left
invariant-loop-left g l =
    (words : List ℕ) × (place : ℕ) × record {
      marks : AreMarks (length l.fn.marks) words;
      flags : l.fn.marks ≡ flags_of (length l.fn.marks) words;
      left : IsLeft words l.index l.left place;
      within : place ≤ length l.self.alarms;
      before : AreMovesBefore place (g.S.Signals.conditions l.signals) (g.S.Signals.suppressions l.signals) l.moment l.self.alarms l.moves;
    }

abbrev pub decreases-loop-left : goal.decreases-loop-left
decreases-loop-left g l = l.left
