use Rattle.lw_client.proofs.Accepted.{may_begin}
use Rattle.lw_client.proofs.laws.clients_may_begin.Goals as goal

pub returns : goal.returns
returns c = may_begin
