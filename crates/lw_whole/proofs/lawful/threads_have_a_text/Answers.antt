use Rattle.lw_whole.proofs.HasText.{have_text}
use Rattle.lw_whole.proofs.lawful.threads_have_a_text.Goals as goal

pub returns : goal.returns
returns c = have_text
