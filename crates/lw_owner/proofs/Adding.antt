-- What an owner does adds to its acts.
use Rattle.std.proofs.Common.{Bool, true, false}
use Rattle.std.specs.Arc.{arc_value}
use Rattle.lw_thread.specs.Acts.{Doing}
use Rattle.lw_thread.specs.Calls.{Adds}
use Rattle.lw_thread.proofs.Adding.{adds_same, adds_end}
use Rattle.lw_mail.specs.Saying.{letter_of}
use Rattle.lw_mail.specs.declared.mail.Mail.{Mail}
use Rattle.lw_mail.specs.declared.mail.Content.{Content}
use Rattle.lw_mail.specs.declared.mail.Content.TheVariants as content
use Rattle.lw_passing.proofs.Asked.{adds_asked}
use Rattle.lw_owner.specs.declared.owner.Owner.{Owner}
use Rattle.lw_owner.specs.Handling.{is_strange, Does, HandlesAs, Handles}

adds_done : (c : Content) (s t : Doing Mail Owner) → Does c s t → Adds s.acts t.acts
adds_done (content.Request client k) s t h = adds_asked client h.answers.reply s.acts t.acts h.answers.asked
adds_done (content.Read client k b) s t h = adds_asked client h.answers.reply s.acts t.acts h.answers.asked
adds_done (content.Visit token) s t h = adds_asked h.0.to h.0.content s.acts t.acts h.0.asked
adds_done (content.Cast token) s t h = adds_asked h.0.to h.0.content s.acts t.acts h.0.asked
adds_done content.Stop s t h = adds_end s.acts t.acts h.1
adds_done (content.Written k) s t h = absurd h
adds_done (content.Filled k b) s t h = absurd h
adds_done (content.Flushed k n) s t h = absurd h
adds_done (content.PutSelf d) s t h = absurd h
adds_done (content.Visited token) s t h = absurd h
adds_done (content.Casted token) s t h = absurd h
adds_done (content.Done set) s t h = absurd h

pub adds_handled : (m : Mail) (s t : Doing Mail Owner) → Handles m s t → Adds s.acts t.acts
adds_handled m s t h = at (is_strange (arc_value s.body.script) (letter_of m)) h
  where
    at : (b : Bool) → HandlesAs b m s t → Adds s.acts t.acts
    at true h = adds_same s.acts t.acts h.acts
    at false h = adds_done m.content s t h
