-- A list that only contracts read owns nothing, so threads may share it.
use denote.RattleType.{RattleType}
use denote.Param.Send.{IsSync, part_keyless}
use Rattle.base_trace.specs.contracts.listed.Listed.{the_row}
use Rattle.base_trace.proofs.listed.Listed.TheSendSync.Send.{send}

pub sync : (E : RattleType) → IsSync (the_row E)
sync E = record { shared = λ d b o κ q. part_keyless (the_row E) (send E) q d b o }
