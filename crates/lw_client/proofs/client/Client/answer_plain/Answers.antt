use Rattle.lw_client.proofs.Awaited.{awaits_op, may_answer}
use Rattle.std.proofs.Common.{sym, ◌∙◌}
use Rattle.lw_client.proofs.client.Client.answer_plain.Goals as goal

pub answer-requires : goal.answer-requires
answer-requires c =
    let h = c.requires.sound in
    may_answer h.0 c.args.self.now c.args.op c.in-Some.image c.args.kind h.1 (awaits_op h.0 c.args.self.now c.args.op c.in-Some.image c.args.kind h.1 (sym c.awaited.ensures ∙ c.in-Some.is))
