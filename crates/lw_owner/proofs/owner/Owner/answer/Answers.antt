use Rattle.std.proofs.Common.{refl, sym, ap, ◌∙◌}
use Rattle.lw_model.specs.Threads.{op_at}
use Rattle.lw_owner.proofs.Answering.{on_ok, answers_plain}
use Rattle.lw_owner.proofs.owner.Owner.answer.Goals as goal

pub returns : goal.returns
returns c =
    let w = c.write_or_flush-reply in
    on_ok c.send.result (answers_plain c.args.client c.args.op _ _ c.in-Some.of.now w.result (ap (λ x. op_at x c.args.client c.args.op) (sym c.deref.ensures) ∙ c.in-Some.ensures) w.ensures.reply w.ensures.size w.ensures.writes refl c.new.result c.new.ensures w.ensures.plain) c.send.ensures.asked
