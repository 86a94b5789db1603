use Rattle.lw_ops.specs.declared.kind.Kind.TheVariants as kind
use Rattle.lw_client.proofs.Awaited.{awaits_op, may_answer, buffer_back}
use Rattle.std.proofs.Common.{sym, ◌∙◌}
use Rattle.lw_client.proofs.client.Client.fill.Goals as goal

pub answer_read-requires-clause-may : goal.answer_read-requires-clause-may
answer_read-requires-clause-may g c =
    let h = c.requires.fits in
    may_answer h.0 c.args.self.now c.args.op c.in-Some.image kind.Read h.1 (awaits_op h.0 c.args.self.now c.args.op c.in-Some.image kind.Read h.1 (sym c.awaited.ensures ∙ c.in-Some.is))

pub answer_read-requires-clause-lent : goal.answer_read-requires-clause-lent
answer_read-requires-clause-lent g c =
    let h = c.requires.fits in
    (buffer_back h.0 c.args.self.now c.args.op c.in-Some.image c.args.buffer h.1 (awaits_op h.0 c.args.self.now c.args.op c.in-Some.image kind.Read h.1 (sym c.awaited.ensures ∙ c.in-Some.is)) h.2).lent
