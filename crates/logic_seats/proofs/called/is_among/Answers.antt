use Rattle.std.proofs.Common.{◌∙◌, ap}
use Rattle.std.specs.Prelude.{is_some}
use Rattle.base_words.specs.Names.{find_name}
use Rattle.logic_seats.proofs.Gathered.{found_there}
use Rattle.logic_seats.proofs.called.is_among.Goals as goal

pub returns : goal.returns
returns c =
    let names = c.args.names.now in
    c.is_some.ensures ∙ ap is_some (c.find.ensures.number ∙ ap (find_name names) c.as_str.ensures) ∙ found_there names c.args.name.now
