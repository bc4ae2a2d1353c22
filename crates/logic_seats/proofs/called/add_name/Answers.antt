use Rattle.logic_seats.proofs.Gathered.{name_added}
use Rattle.logic_seats.proofs.called.add_name.Goals as goal

pub returns : goal.returns
returns c =
    name_added c.args.names.now c.add.new.self c.args.name.now c.as_str.result.now c.in_ok-_is_new._is_new c.as_str.ensures c.in_ok-_is_new.ensures.added c.in_ok-_is_new.ensures.names
