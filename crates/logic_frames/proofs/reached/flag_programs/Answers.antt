use Rattle.logic_frames.proofs.Flags.{program_flagged, programs_done}
use Rattle.logic_frames.proofs.reached.flag_programs.Goals as goal

pub loop-program-preserved : goal.loop-program-preserved
loop-program-preserved c =
    let l = c.loop-program in
    program_flagged c.args.calls c.args.programs.now l.program-index c.program-item.result l.flags.items c.flag_asked.new.flags.items _ c.loop-program-test.true c.program-item.is l.invariant c.in_ok-flag_asked.ensures

pub returns : goal.returns
returns c =
    let l = c.loop-program in
    programs_done c.args.calls c.args.programs.now l.program-index l.flags.items _ c.loop-program-test.false l.invariant
