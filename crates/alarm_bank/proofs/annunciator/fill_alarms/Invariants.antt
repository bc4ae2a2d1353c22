use Rattle.std.proofs.Common.{◌≡◌, map, take}
use Rattle.std.specs.Prelude.{vec_capacity}
use Rattle.alarm_bank.specs.Reloads.{alarm_of}
use Rattle.alarm_bank.proofs.annunciator.fill_alarms.Given as goal

abbrev pub invariant-loop-new : goal.invariant-loop-new
invariant-loop-new l = record {
  items : l.room.items ≡ map (alarm_of l.old) (take l.new-index l.news);
  room : vec_capacity l.room ≡ vec_capacity l.fn.room;
}
