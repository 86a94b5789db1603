-- What a call of an owner's body does.
use Rattle.std.proofs.Common.{◌≡◌, ℕ, Bool, true, false, [], ◌∷◌, Some, refl, subst}
use Rattle.std.specs.Arc.{arc_value}
use Rattle.std.proofs.lemmas.List.{append-nil}
use Rattle.lw_base.specs.declared.message.What.TheVariants as what
use Rattle.lw_model.specs.Threads.{op_at}
use Rattle.lw_thread.specs.Acts.{Doing}
use Rattle.lw_whole.specs.Letters.{Letter, answered, marked}
use Rattle.lw_visit.specs.Tokens.{Visit}
use Rattle.lw_mail.specs.Saying.{letter_of}
use Rattle.lw_mail.specs.declared.mail.Mail.{Mail}
use Rattle.lw_mail.specs.declared.mail.Content.{Content}
use Rattle.lw_mail.specs.declared.mail.Content.TheVariants as content
use Rattle.lw_passing.specs.Passing.{PassesVisit, AsksFor, VisitGoesPast}
use Rattle.lw_passing.proofs.Asked.{asks_for, visit_goes_past, cast_goes_past}
use Rattle.lw_owner.specs.declared.owner.Owner.{Owner}
use Rattle.lw_owner.specs.Handling.{Answers, Does, HandlesAs, Handles, is_strange}
use Rattle.lw_owner.specs.Keeping.{RunsRequest, Serves, RunsAs, Runs}
use Rattle.lw_owner.proofs.Doing.{asker}

runs_request : (x : Letter) (client j : ℕ) (s t : Doing Mail Owner) → client ≡ x.tag.sender → Answers client j s t → RunsRequest x j s t
runs_request x client j s t e h = record {
  of = h.of;
  its_op = subst (λ c. op_at (arc_value s.body.script) c j ≡ Some h.of) e h.its_op;
  answer = h.is.answer;
  answers = h.is.answers;
  body = h.body;
  asked = subst (λ c. AsksFor c (what.Reply j) (answered h.is.answer) s.acts t.acts) e (asks_for client h.reply (what.Reply j) (answered h.is.answer) s.acts t.acts h.is.what h.is.load h.asked);
}

visit_on : (token : Visit) (s t : Doing Mail Owner) → PassesVisit s.body.thread [] token s.acts t.acts × (t.body ≡ s.body)
    → VisitGoesPast token.origin token.op token.device s.body.thread (marked token.marks) s.acts t.acts × (t.body ≡ s.body)
visit_on token s t g = (subst (λ ms. VisitGoesPast token.origin token.op token.device s.body.thread (marked ms) s.acts t.acts) (append-nil token.marks) (visit_goes_past token s.body.thread [] s.acts t.acts g.0.threads g.0), g.1)

serves : (sender number : ℕ) (c : Content) (s t : Doing Mail Owner) → is_strange (arc_value s.body.script) (letter_of (record { sender = sender; number = number; content = c })) ≡ false → Does c s t → Serves (letter_of (record { sender = sender; number = number; content = c })) s t
serves sender number (content.Request client j) s t strange g = runs_request _ client j s t (asker client sender strange) g.answers
serves sender number (content.Read client j b) s t strange g = runs_request _ client j s t (asker client sender strange) g.answers
serves sender number (content.Visit token) s t strange g = visit_on token.value s t g
serves sender number (content.Cast token) s t strange g = (cast_goes_past token.value s.body.thread (s.body.thread ∷ []) s.acts t.acts g.0.threads g.0, g.1)
serves sender number content.Stop s t strange g = g
serves sender number (content.Written j) s t strange g = absurd g
serves sender number (content.Filled j b) s t strange g = absurd g
serves sender number (content.Flushed j n) s t strange g = absurd g
serves sender number (content.PutSelf d) s t strange g = absurd g
serves sender number (content.Visited token) s t strange g = absurd g
serves sender number (content.Casted token) s t strange g = absurd g
serves sender number (content.Done set) s t strange g = absurd g

pub runs_handled : (m : Mail) (now : ℕ) (s t : Doing Mail Owner) → Handles m s t → Runs (letter_of m) now s t
runs_handled m now s t g = at (is_strange (arc_value s.body.script) (letter_of m)) refl g
  where
    at : (b : Bool) → is_strange (arc_value s.body.script) (letter_of m) ≡ b → HandlesAs b m s t → RunsAs b (letter_of m) s t
    at true e g = record { message = m; letter = refl; body = g.body; acts = g.acts }
    at false e g = serves m.sender m.number m.content s t e g
