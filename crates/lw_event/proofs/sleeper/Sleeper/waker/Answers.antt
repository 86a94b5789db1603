use Rattle.lw_event.proofs.Waking.{admits}
use Rattle.lw_event.proofs.sleeper.Sleeper.waker.Goals as goal

pub pass-pass-requires : goal.pass-pass-requires
pass-pass-requires c = admits
