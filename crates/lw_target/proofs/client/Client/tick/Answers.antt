use Rattle.lw_target.proofs.Steps.{progress_either}
use Rattle.lw_target.proofs.Ticking.{went_then, rests_all}
use Rattle.lw_target.proofs.client.Client.tick.Goals as goal

pub returns-clause-progress : goal.returns-clause-progress
returns-clause-progress c =
    progress_either _ _ _ _ _ _ _ _
    (progress_either _ _ _ _ _ _ _ _ c.in_ok-worked.ensures.progress c.in_ok-worked-2.ensures.progress)
    c.in_ok-worked-3.ensures.progress

pub returns-clause-went_on : goal.returns-clause-went_on
returns-clause-went_on c =
    went_then _ _ _ _ _ _ _ _ _
    (went_then _ _ _ _ _ _ _ _ _ c.in_ok-worked.ensures.went_on (c.in_ok-worked-2.ensures.went_on _))
    (c.in_ok-worked-3.ensures.went_on _)

pub returns-clause-rests : goal.returns-clause-rests
returns-clause-rests c =
    rests_all _ _ _ _ _ _ _ _ _ _ _ _ _ c.in_ok-worked.ensures.paused c.in_ok-worked-2.ensures.waits c.in_ok-worked-3.ensures.waits
