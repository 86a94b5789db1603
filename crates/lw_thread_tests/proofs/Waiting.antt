-- A thread that hasn't ended goes on as it was.
use Rattle.std.proofs.Common.{Bool}
use Rattle.lw_thread.specs.declared.ending.Why.{Why}
use Rattle.lw_thread.specs.Endings.{IsNotYet}
use Rattle.lw_thread.specs.Threads.{Thread}
use Rattle.lw_thread.proofs.Waiting.{still_listed, still_going}
use Rattle.lw_thread_tests.specs.Turns.{GoesOn}

module _ {L F M B : Type 0} (ends : B → Bool) where
  pub still_goes_on : (t u : Thread L F M B) (w : Why) → IsNotYet ends t u w → GoesOn t → GoesOn u
  still_goes_on t u w h g = record {
    listed = still_listed ends t u w h g.listed;
    going = still_going ends t u w h g.going;
  }
