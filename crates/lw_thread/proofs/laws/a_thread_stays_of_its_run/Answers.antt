use Rattle.lw_thread.proofs.OfRun.{of_run_still, of_run_ends}
use Rattle.lw_thread.proofs.laws.a_thread_stays_of_its_run.Goals as goal

pub returns-clause-still : goal.returns-clause-still
returns-clause-still g c = of_run_still

pub returns-clause-tried : goal.returns-clause-tried
returns-clause-tried g c = of_run_ends g.B.Body.ends
