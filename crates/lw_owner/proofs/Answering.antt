-- A request is answered where its reply is made and asked to be sent.
use Rattle.std.proofs.Common.{◌≡◌, ℕ, ◌+◌, ◌≤◌, Some, subst}
use Rattle.std.specs.Prelude.{OnOk}
use Rattle.std.specs.declared.result.Result.{Result}
use Rattle.std.specs.declared.result.Result.TheVariants.{Ok, Err}
use Rattle.std.specs.Arc.{arc_value}
use Rattle.lw_model.specs.declared.script.Op.{Op}
use Rattle.lw_model.specs.Threads.{op_at}
use Rattle.lw_pool.specs.PoolEnds.{BufferEnd}
use Rattle.lw_image.specs.Image.{SameSize}
use Rattle.lw_thread.specs.Acts.{Doing, IsAsked}
use Rattle.lw_whole.specs.Unsent.{named}
use Rattle.lw_mail.specs.Saying.{letter_of}
use Rattle.lw_mail.specs.Fitting.{fits_mail}
use Rattle.lw_mail.specs.declared.mail.Mail.{Mail}
use Rattle.lw_mail.specs.declared.mail.Content.{Content}
use Rattle.lw_passing.specs.Passing.{unsent_mail}
use Rattle.lw_owner.specs.declared.owner.Owner.{Owner}
use Rattle.lw_owner.specs.Serving.{IsReply, IsPlain, ReadsInto}
use Rattle.lw_owner.specs.Handling.{Answers, AnswersPlain, AnswersRead}

-- what holds of a call that succeeds
pub on_ok : {T E A B : Type 0} (r : Result T E) → (A → B) → OnOk r A → OnOk r B
on_ok (Ok x) f h = f h
on_ok (Err e) f h = tt

module _ (client k : ℕ) (s t : Doing Mail Owner) (of : Op) (reply : Content) (its_op : op_at (arc_value s.body.script) client k ≡ Some of) (is : IsReply s.body.image t.body.image of k reply) (size : SameSize s.body.image t.body.image) (writes : t.body.image.writes ≤ s.body.image.writes + 1) (body : t.body ≡ record s.body { image = t.body.image }) (message : Mail) (unsent : message ≡ unsent_mail reply) where
  answers : IsAsked letter_of named fits_mail client message s.acts t.acts → Answers client k s t
  answers asked = record {
    of = of;
    its_op = its_op;
    reply = reply;
    is = is;
    size = size;
    writes = writes;
    body = body;
    asked = subst (λ m. IsAsked letter_of named fits_mail client m s.acts t.acts) unsent asked;
  }

  pub answers_plain : IsPlain reply → IsAsked letter_of named fits_mail client message s.acts t.acts → AnswersPlain client k s t
  unfolding answers
  answers_plain plain asked = record { answers = answers asked; plain = plain }

  pub answers_read : (b : BufferEnd) → ReadsInto s.body.image of k b reply → IsAsked letter_of named fits_mail client message s.acts t.acts → AnswersRead client k b s t
  unfolding answers
  answers_read b into asked = record { answers = answers asked; into = into }
