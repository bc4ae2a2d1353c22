use Rattle.serve_runs.proofs.AdmitLaws.{written}
use Rattle.serve_runs.proofs.verdict.told_accepted.Goals as goal

pub returns-in-Ok-clause-told : goal.returns-in-Ok-clause-told
returns-in-Ok-clause-told g c =
    let is_line = c.in-Ok.ensures in
    written _ _ _ c.put_all.result (rw (c.as_bytes.ensures.value, is_line) at c.put_all.ensures.ok) (rw (c.as_bytes.ensures.value, is_line) at c.put_all.ensures.err) c.put_all.ensures.fault
