use Rattle.std.proofs.Common.{Bool, List, length, ap, sym, ◌∙◌}
use Rattle.alarm_bank.proofs.MarkLaws.{length-flags_of}
use Rattle.alarm_bank.proofs.marks.Marks.len.Goals as goal

pub returns : goal.returns
returns c = sym (length-flags_of c.self.inside.count c.self.inside.words.items) ∙ ap (λ (m : List Bool). length m) c.self.view_is
