use Rattle.alarm_bank.proofs.MoveLaws.{put_moved}
use Rattle.engine_system.proofs.steps.step_alarms.Goals as goal

pub returns-clause-alarms : goal.returns-clause-alarms
returns-clause-alarms c = rw (← c.old.view_is) (put_moved _ _ _ c.in_ok-list_moved.ensures.moved.moved)

pub returns-clause-changes : goal.returns-clause-changes
returns-clause-changes c = rw (← c.old.view_is) c.in_ok-list_moved.ensures.moved.changes
