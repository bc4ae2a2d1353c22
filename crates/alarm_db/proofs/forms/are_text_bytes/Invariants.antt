use Rattle.std.proofs.Common.{◌≡◌, take}
use Rattle.std.specs.List.{list_all}
use Rattle.alarm_db.specs.Forms.{is_text_byte}
use Rattle.alarm_db.proofs.forms.are_text_bytes.Given as goal

abbrev pub invariant-loop-byte : goal.invariant-loop-byte
invariant-loop-byte l = l.all ≡ list_all is_text_byte (take l.byte-index l.field)
