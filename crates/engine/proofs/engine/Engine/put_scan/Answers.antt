use Rattle.std.proofs.Common.{arith}
use Rattle.std.proofs.lemmas.Grind.{common_steps}
use Rattle.engine.proofs.Commits.{scan_state, scan_present, scan_names, scan_committed, scan_later, scan_until, scan_in_order, scan_room}
use Rattle.engine.proofs.Lawful.{lawful_next, lawful_short}
use Rattle.engine.proofs.engine.Engine.put_scan.Goals as goal

pub invariant_of-self : goal.invariant_of-self
invariant_of-self c =
    let fits = rw (← c.self.view_is) at c.requires in
    let k = c.self.inside.state in
    rw (c.push_taken.ensures, c.replace-image.ensures.value, c.apply_scan.ensures, c.push_scan.ensures) ((
      record {
        state_is = scan_state _ _ k fits c.self.invariant.0.state_is;
        plant_is = c.self.invariant.0.plant_is;
        lawful = lawful_next _ _ _ c.self.invariant.0.lawful fits.taken;
        present = scan_present _ _ c.self.inside.plant fits c.self.invariant.0.present;
        journal = scan_committed _ _ c.self.inside.log fits c.self.invariant.0.journal;
        have_names = scan_names _ _ c.self.inside.plant c.self.inside.names c.self.inside.log fits c.self.invariant.0.present c.self.invariant.0.journal c.self.invariant.0.have_names;
        until = scan_until _ _ k c.self.inside.log fits c.self.invariant.0.state_is c.self.invariant.0.until;
      },
      c.self.invariant.1,
    ))

pub push_scan-requires-clause-in_order : goal.push_scan-requires-clause-in_order
push_scan-requires-clause-in_order c =
    let fits = rw (← c.self.view_is) at c.requires in
    scan_in_order _ _ c.self.inside.state c.self.inside.log.rows fits c.self.invariant.0.state_is c.self.invariant.0.until

pub push_scan-requires-clause-room : goal.push_scan-requires-clause-room
push_scan-requires-clause-room c =
    let fits = rw (← c.self.view_is) at c.requires in
    fits.row_room

pub push_taken-requires : goal.push_taken-requires
push_taken-requires c = omega (arith, (lawful_short c.self.inside.began c.self.inside.history c.self.invariant.0.lawful).0)

pub returns-clause-row_room : goal.returns-clause-row_room
returns-clause-row_room c =
    let fits = rw (← c.self.view_is) at c.requires in
    let report = c.args.ready.now.report in
    rw (← c.self.view_is, c.push_scan.ensures) (scan_room report.moment c.self.inside.log report fits.row_room)

pub returns-clause-plant : goal.returns-clause-plant
returns-clause-plant c = grind (arith, common_steps)

pub apply_scan-requires-clause-later : goal.apply_scan-requires-clause-later
apply_scan-requires-clause-later c =
    let fits = rw (← c.self.view_is) at c.requires in
    scan_later _ _ c.self.inside.state fits c.self.invariant.0.state_is
