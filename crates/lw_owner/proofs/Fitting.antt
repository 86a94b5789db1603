-- What an owner asks to send fits its receivers.
use Rattle.std.proofs.Common.{◌≡◌, ℕ, ◌*◌, Bool, true, false, List, [], ◌∷◌, Some, sym, ap, subst, ◌∙◌}
use Rattle.std.specs.Arc.{arc_value}
use Rattle.lw_model.specs.declared.script.Op.{Op}
use Rattle.lw_model.specs.declared.script.Op.TheVariants as op
use Rattle.lw_model.specs.ScriptRules.{block_at}
use Rattle.lw_model.specs.Threads.{op_at}
use Rattle.lw_pool.specs.PoolEnds.{BufferEnd, queue_of}
use Rattle.lw_thread.specs.Acts.{ActsEnd, Post, Doing, AllFit}
use Rattle.lw_mail.specs.Runs.{Run}
use Rattle.lw_mail.specs.Saying.{letter_of}
use Rattle.lw_mail.specs.Fitting.{Fits, MayRead, IsLent, ComesBack, fits_mail}
use Rattle.lw_mail.specs.declared.mail.Mail.{Mail}
use Rattle.lw_mail.specs.declared.mail.Content.{Content}
use Rattle.lw_mail.specs.declared.mail.Content.TheVariants as content
use Rattle.lw_passing.proofs.Fitting.{asked_fits, visit_all_fit, cast_all_fit}
use Rattle.lw_owner.specs.declared.owner.Owner.{Owner}
use Rattle.lw_owner.specs.Serving.{IsOwnerOf, IsPlain, ReadsInto}
use Rattle.lw_owner.specs.Handling.{Does, HandlesAs, Handles, is_strange}
use Rattle.lw_owner.proofs.Parts.{block_is}

abbrev AreFit : Run → List (Post Mail) → Type 0
AreFit r ps = AllFit fits_mail (Some r) ps

plain_fits : (to : ℕ) (r : Run) (c : Content) → IsPlain c → Fits to r c
plain_fits to r (content.Written k) h = tt
plain_fits to r (content.Flushed k n) h = tt
plain_fits to r (content.Request c k) h = absurd h
plain_fits to r (content.Read c k b) h = absurd h
plain_fits to r (content.Filled k b) h = absurd h
plain_fits to r (content.PutSelf d) h = absurd h
plain_fits to r (content.Visit b) h = absurd h
plain_fits to r (content.Visited b) h = absurd h
plain_fits to r (content.Cast b) h = absurd h
plain_fits to r (content.Casted b) h = absurd h
plain_fits to r (content.Done b) h = absurd h
plain_fits to r content.Stop h = absurd h

-- the buffer that goes back is the one that was lent
back_fits : (r : Run) (b : Owner) (own : IsOwnerOf r b) (client k : ℕ) (o : Op) (buffer : BufferEnd) (c : Content) → op_at r.script client k ≡ Some o → MayRead r b.thread buffer (Some o) → ReadsInto b.image o k buffer c → Fits client r c
back_fits r b own client k (op.Read d start count) buffer c e h g =
    let block = block_is r b own d h.0 in
    let lent : IsLent r (count * block_at r.script d) g.back = record {
      of_pool = g.queue ∙ h.2.of_pool ∙ ap (λ cl. queue_of cl r.pool) (sym g.class);
      class = g.class ∙ h.2.class;
    } in
    let back : ComesBack r g.back (Some (op.Read d start count)) = (lent, g.filled ∙ ap (λ n. count * n) (sym block)) in
    subst (Fits client r) (sym g.reply) (subst (ComesBack r g.back) (sym e) back)
back_fits r b own client k (op.Write d start count pattern) buffer c e h g = absurd h
back_fits r b own client k (op.Flush d) buffer c e h g = absurd h
back_fits r b own client k (op.Get d) buffer c e h g = absurd h
back_fits r b own client k (op.Put d) buffer c e h g = absurd h
back_fits r b own client k (op.Wait d) buffer c e h g = absurd h
back_fits r b own client k (op.Visit d) buffer c e h g = absurd h
back_fits r b own client k op.Each buffer c e h g = absurd h
back_fits r b own client k (op.Unregister d) buffer c e h g = absurd h

done_fits : (r : Run) (c : Content) (s t : Doing Mail Owner) → IsOwnerOf r s.body → Fits s.body.thread r c → Does c s t → AreFit r s.acts.pending → AreFit r t.acts.pending
done_fits r (content.Request client k) s t own f h all = asked_fits r client h.answers.reply s.acts t.acts h.answers.asked (plain_fits client r h.answers.reply h.plain) all
done_fits r (content.Read client k b) s t own f h all =
    let its : op_at r.script client k ≡ Some h.answers.of = ap (λ x. op_at x client k) (sym own.script) ∙ h.answers.its_op in
    asked_fits r client h.answers.reply s.acts t.acts h.answers.asked (back_fits r s.body own client k h.answers.of b h.answers.reply its (subst (MayRead r s.body.thread b) its f) h.into) all
done_fits r (content.Visit token) s t own f h all = visit_all_fit r s.body.thread [] token.value s.acts t.acts f.0 f.1 h.0 all
done_fits r (content.Cast token) s t own f h all = cast_all_fit r s.body.thread (s.body.thread ∷ []) token.value s.acts t.acts f.0 f.1 h.0 all
done_fits r content.Stop s t own f h all = subst (AreFit r) (sym (ap (λ (a : ActsEnd Mail). a.pending) h.1)) all
done_fits r (content.Written k) s t own f h all = absurd h
done_fits r (content.Filled k b) s t own f h all = absurd h
done_fits r (content.Flushed k n) s t own f h all = absurd h
done_fits r (content.PutSelf d) s t own f h all = absurd h
done_fits r (content.Visited token) s t own f h all = absurd h
done_fits r (content.Casted token) s t own f h all = absurd h
done_fits r (content.Done set) s t own f h all = absurd h

pub handled_fits : (r : Run) (m : Mail) (s t : Doing Mail Owner) → IsOwnerOf r s.body → Fits s.body.thread r m.content → Handles m s t → AreFit r s.acts.pending → AreFit r t.acts.pending
handled_fits r m s t own f h all = at (is_strange (arc_value s.body.script) (letter_of m)) h
  where
    at : (b : Bool) → HandlesAs b m s t → AreFit r t.acts.pending
    at true h = subst (AreFit r) (sym (ap (λ (a : ActsEnd Mail). a.pending) h.acts)) all
    at false h = done_fits r m.content s t own f h all
