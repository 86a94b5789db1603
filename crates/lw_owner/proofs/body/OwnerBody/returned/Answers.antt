use Rattle.std.proofs.Common.{sym, subst}
use Rattle.std.proofs.lemmas.List.Elements.{All-nil}
use Rattle.lw_base.specs.Letters.{FitsRing}
use Rattle.lw_thread.specs.Acts.{Post, AllFit}
use Rattle.lw_mail.specs.Fitting.{fits_mail}
use Rattle.lw_mail.specs.declared.mail.Mail.{Mail}
use Rattle.lw_owner.proofs.Answering.{on_ok}
use Rattle.lw_owner.proofs.body.OwnerBody.returned.Goals as goal

pub returns-clause-fits : goal.returns-clause-fits
returns-clause-fits g c =
    on_ok c.push.result (λ h k rest of is keeps. subst (λ ps. AllFit fits_mail k.family ps) (sym c.requires.none) (All-nil (λ (p : Post Mail). FitsRing fits_mail p.to k.family p.what))) c.push.ensures.ok
