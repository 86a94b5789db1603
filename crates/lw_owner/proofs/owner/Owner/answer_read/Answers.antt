use Rattle.std.proofs.Common.{refl, arith, sym, ap, ◌∙◌}
use Rattle.lw_model.specs.Threads.{op_at}
use Rattle.lw_owner.proofs.Answering.{on_ok, answers_read}
use Rattle.lw_owner.proofs.owner.Owner.answer_read.Goals as goal

pub returns : goal.returns
returns c =
    let w = c.read-reply in
    on_ok c.send.result (answers_read c.args.client c.args.op _ _ c.in-Some.of.now w.result (ap (λ x. op_at x c.args.client c.args.op) (sym c.deref.ensures) ∙ c.in-Some.ensures) w.ensures.reply (refl, refl) (omega arith) refl c.new.result c.new.ensures c.args.buffer w.ensures.back) c.send.ensures.asked
