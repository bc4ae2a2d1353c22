use Rattle.std.proofs.Common.{◌≡◌, ℕ, ◌++◌, ◌-◌, ap, arith, length, take}
use Rattle.serve_requests.proofs.HeldLaws.{hold_all, held_ok}
use Rattle.serve_requests.proofs.splitter.hold.Goals as goal

pub returns-then-bytes-room-clause-ok : goal.returns-then-bytes-room-clause-ok
returns-then-bytes-room-clause-ok c =
    held_ok c.extend_from_slice.result _ c.args.held.now.items c.args.bytes.now _ c.extend_from_slice.ensures.items
    (hold_all (1048578 - length c.args.held.now.items) c.args.held.now.items c.args.bytes.now (omega (arith, c.args.held.now.ok.0)))

pub returns-clause-ok : goal.returns-clause-ok
returns-clause-ok c =
    let kept = rw c.split_at.ensures.front at c.extend_from_slice-2.ensures.items in
    let room : c.saturating_sub-room.result ≡ 1048578 - length c.args.held.now.items = omega (arith, c.args.held.now.ok.0) in
    held_ok c.extend_from_slice-2.result _ c.args.held.now.items _ _ kept (ap (λ (n : ℕ). c.args.held.now.items ++ take n c.args.bytes.now) room)
