use Rattle.std.proofs.Common.{ℕ, List, ◌∷◌, Option, Some, sym, subst}
use Rattle.lw_model.specs.declared.script.Op.{Op}
use Rattle.lw_model.specs.declared.script.Op.TheVariants as op
use Rattle.lw_image.specs.Image.{IsAfter}
use Rattle.lw_mail.specs.declared.mail.Content.TheVariants as content
use Rattle.lw_owner.specs.Serving.{IsReply}
use Rattle.lw_owner.proofs.Replying.{written, flushed}
use Rattle.lw_owner.proofs.serving.write_or_flush.Goals as goal

pub returns-in-Write-clause-reply : goal.returns-in-Write-clause-reply
returns-in-Write-clause-reply c =
    let w = c.in-Write in
    let after = subst (λ p. (device : ℕ) (past : List (Option Op)) → IsAfter c.args.image.now past → IsAfter c.write.new.self (Some (op.Write device w.start w.count p) ∷ past)) c.as_slice.ensures c.write.ensures.after in
    subst (λ o. IsReply c.args.image.now c.write.new.self o c.args.op (content.Written c.args.op)) (sym w.is)
    (written c.args.image.now c.write.new.self w.image w.start w.count c.args.op w.pattern after)

pub returns-in-Flush-clause-reply : goal.returns-in-Flush-clause-reply
returns-in-Flush-clause-reply c =
    subst (λ o. IsReply c.args.image.now c.flush.new.self o c.args.op (content.Flushed c.args.op c.flush.result)) (sym c.in-Flush.is)
    (flushed c.args.image.now c.flush.new.self c.in-Flush.image c.args.op c.flush.result c.flush.ensures.writes c.flush.ensures.same)
