use Rattle.std.proofs.Common.{◌≤◌, ◌≡◌, arith, rules}
use Rattle.console_boards.specs.Stories.{seen_events}
use Rattle.console_operator.specs.Sights.{looked_at}
use Rattle.console_operator.proofs.Looks.{looks_on}
use Rattle.console_operator.proofs.laws.looks_twice.Goals as goal

pub returns : goal.returns
returns g c =
    let first = c.in_ok-console.field-0.console.now.sight in
    let second = c.in_ok-console-2.field-0.console.now.sight in
    let shows = c.in_ok-console.ensures.shows in
    let later = c.in_ok-console-2.ensures.shows in
    let le : seen_events (looked_at first) ≤ seen_events (looked_at second) = looks_on first second _ _ _ _ _ _ shows.orders (search rules) later.since later.orders in
    omega (arith, c.events-first.ensures, c.events-second.ensures, le)
