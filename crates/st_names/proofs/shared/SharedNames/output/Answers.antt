use Rattle.std.proofs.Common.{◌∙◌, ap, sym}
use Rattle.std.specs.Prelude.{option_copied}
use Rattle.st_names.specs.Tables.{value_of}
use Rattle.st_names.proofs.Lookups.{output_kept}
use Rattle.st_names.proofs.shared.SharedNames.output.Goals as goal

pub returns : goal.returns
returns c =
    let block = ap option_copied (sym c.in_ok-members.was) ∙ c.block.ensures in
    c.copied.ensures ∙ c.find.ensures ∙ ap (value_of c.in_ok-members.members.now.outputs) c.as_str.ensures ∙ output_kept c.in_ok-members.members.now c.args.name.now c.args.self.now c.args.word.now (sym c.is_timer.ensures ∙ c.if-is_timer.false) (sym c.is_trigger.ensures ∙ c.if-is_trigger.false) block
