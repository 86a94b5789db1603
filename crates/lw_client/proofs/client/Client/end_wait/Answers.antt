use Rattle.lw_client.proofs.Waiting.{still_live}
use Rattle.lw_client.proofs.client.Client.end_wait.Goals as goal

pub resume-requires : goal.resume-requires
resume-requires c = still_live c.args.poller c.args.acts.now.pollers c.remove.new.acts.pollers c.requires.other c.requires.active c.remove.ensures.removed
