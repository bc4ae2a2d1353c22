use Rattle.std.proofs.Common.{rules, ◌-◌, ◌<◌, length}
use Rattle.base_words.proofs.chains.follow.Goals as goal

pub loop-link-preserved : goal.loop-link-preserved
loop-link-preserved c =
    let within : c.loop-link.link.count - 1 < length c.args.links.now = search rules in
    record {
      within = search rules;
      along = search rules;
      place = λ places know from. know (c.loop-link.link.count - 1) within;
    }
