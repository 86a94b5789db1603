use Rattle.std.proofs.Common.{sym, ◌∙◌}
use Rattle.lw_judge_devices.proofs.Answering.{reads_within}
use Rattle.lw_judge_devices.proofs.journal.Journal.note.Goals as goal

pub answer-requires : goal.answer-requires
answer-requires c = reads_within c.args.self.now.script.now c.args.client c.args.self.now.device c.args.op _ c.args.request.now c.requires.reads c.requires.request (sym c.is_on.ensures ∙ c.if-is_on.true) c.requires.image.blocks
