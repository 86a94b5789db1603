-- What a run of a message keeps and does.
use Rattle.std.proofs.Common.{ℕ, sym, subst}
use Rattle.lw_base.specs.Letters.{FitsRing}
use Rattle.lw_thread.specs.Acts.{Known, Doing, AllFit, and_run, asks_of}
use Rattle.lw_whole.specs.Letters.{Letter}
use Rattle.lw_mail.specs.Runs.{Run}
use Rattle.lw_mail.specs.Saying.{letter_of}
use Rattle.lw_mail.specs.Fitting.{Fits, fits_mail}
use Rattle.lw_mail.specs.declared.mail.Mail.{Mail}
use Rattle.lw_owner.specs.declared.owner.Owner.{Owner}
use Rattle.lw_owner.specs.Handling.{Handles}
use Rattle.lw_owner.specs.Keeping.{Keeps, Runs}
use Rattle.lw_owner.proofs.Parts.{fits_here}
use Rattle.lw_owner.proofs.Fitting.{handled_fits}
use Rattle.lw_owner.proofs.Doing.{keeps_handled}
use Rattle.lw_owner.proofs.Running.{runs_handled}

module _ (m : Mail) (s t : Doing Mail Owner) (k : Known Letter Run) (ring : FitsRing fits_mail k.thread k.family m) (h : Keeps k (asks_of letter_of s.acts) s.body) (g : Handles m s t) where
  here : Fits s.body.thread h.run m.content
  here = fits_here k (asks_of letter_of s.acts) s.body m h ring

  pub keeps_called : Keeps (and_run k (letter_of m)) (asks_of letter_of t.acts) t.body
  keeps_called = keeps_handled k s t h m here g

  pub fits_called : AllFit fits_mail k.family s.acts.pending → AllFit fits_mail k.family t.acts.pending
  fits_called all = subst (λ f. AllFit fits_mail f t.acts.pending) (sym h.family) (handled_fits h.run m s t h.owner here g (subst (λ f. AllFit fits_mail f s.acts.pending) h.family all))

  pub does_called : (now : ℕ) → Runs (letter_of m) now s t
  does_called now = runs_handled m now s t g
