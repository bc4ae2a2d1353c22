use Rattle.std.proofs.Common.{◌∙◌, ap, [], ◌∷◌}
use Rattle.logic_source.specs.Units.{source_in}
use Rattle.try_parts.proofs.runs.push_judged.Goals as goal

pub push_framed-requires : goal.push_framed-requires
push_framed-requires c units have = c.in-Ok.ensures.made.0 ∙ ap source_in (c.one_answer.ensures.units (c.args.source.now ∷ []) c.args.typed units c.requires have)
