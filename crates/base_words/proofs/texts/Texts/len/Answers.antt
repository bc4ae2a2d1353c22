use Rattle.std.proofs.Common.{length, ap, sym, ◌∙◌}
use Rattle.base_words.proofs.Ending.{count_is}
use Rattle.base_words.proofs.texts.Texts.len.Goals as goal

pub returns-clause-count : goal.returns-clause-count
returns-clause-count c = c.len.ensures ∙ c.self.inside.ends.ok.0 ∙ sym (count_is 0 _ _) ∙ ap length c.self.view_is
