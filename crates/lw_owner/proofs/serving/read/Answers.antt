use Rattle.std.proofs.Common.{sym, subst}
use Rattle.lw_mail.specs.declared.mail.Content.TheVariants as content
use Rattle.lw_owner.specs.Serving.{IsReply}
use Rattle.lw_owner.proofs.Replying.{filled}
use Rattle.lw_owner.proofs.serving.read.Goals as goal

pub returns-clause-reply : goal.returns-clause-reply
returns-clause-reply c =
    let w = c.in-Read in
    subst (λ o. IsReply c.args.image.now c.args.image.now o c.args.op (content.Filled c.args.op c.read_into.new.into)) (sym w.is)
    (filled c.args.image.now w.image w.start w.count c.args.op c.read_into.new.into c.read_into.ensures.read)
