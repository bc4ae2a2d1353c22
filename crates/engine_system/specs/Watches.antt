-- What each alarm of a plant watches.
use Rattle.std.specs.Prelude.{List, map}
use Rattle.engine_history.specs.AlarmRow.{AlarmRow}
use Rattle.alarm_watch.specs.declared.watched.Watch.{Watch}

-- the globals that an alarm watches
abbrev pub watch_of : AlarmRow → Watch
watch_of row = record { condition = row.condition; suppress = row.suppress }

-- those of each alarm
abbrev pub watches_of : List AlarmRow → List Watch
watches_of rows = map watch_of rows
