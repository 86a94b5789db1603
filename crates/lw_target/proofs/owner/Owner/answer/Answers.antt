use Rattle.std.proofs.Common.{◌≡◌, sym, subst}
use Rattle.lw_target.specs.Owner.{AnswersAs}
use Rattle.lw_target.specs.declared.mail.Load.TheVariants as load
use Rattle.lw_model.specs.declared.record.Replied.TheVariants as replied
use Rattle.lw_target.proofs.Answering.{write_answers}
use Rattle.lw_target.proofs.owner.Owner.answer.Goals as goal

pub returns-in-Write-clause-answer : goal.returns-in-Write-clause-answer
returns-in-Write-clause-answer c =
    let pattern : c.as_slice.result.now ≡ c.in-Write.pattern = c.as_slice.ensures in
    subst (λ l. AnswersAs c.args.self.now.image c.write.new.self l replied.Ok) (sym c.in-Write.is)
    (subst (λ p. AnswersAs c.args.self.now.image c.write.new.self (load.Write c.in-Write.start c.in-Write.count p) replied.Ok) pattern
    (write_answers c.args.self.now.image c.write.new.self c.in-Write.start c.in-Write.count c.as_slice.result.now c.write.ensures.after))
