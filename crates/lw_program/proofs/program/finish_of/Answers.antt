use Rattle.lw_program.proofs.Endings.{run_asked, walk_asked, check_asked}
use Rattle.lw_program.proofs.program.finish_of.Goals as goal

pub returns-in-Run-clause-ends : goal.returns-in-Run-clause-ends
returns-in-Run-clause-ends g c =
    run_asked _ _ _ _ _ _ _ _ c.in-Run.is c.new-command.ensures c.of.ensures.fault c.of.ensures.told c.carry_out-ended.ensures.ends

pub returns-in-Walk-clause-ends : goal.returns-in-Walk-clause-ends
returns-in-Walk-clause-ends g c =
    walk_asked _ _ _ _ _ _ c.in-Walk.is c.of-in-Walk.ensures.fault c.of-in-Walk.ensures.told c.carry_out-ended-in-Walk.ensures.ends

pub returns-in-Check-clause-ends : goal.returns-in-Check-clause-ends
returns-in-Check-clause-ends g c =
    check_asked _ _ _ _ _ _ c.in-Check.is c.of-in-Check.ensures.fault c.of-in-Check.ensures.told c.carry_out-ended-in-Check.ensures.ends
