-- What the run of a message, and one that comes back, keep.
use Rattle.std.proofs.Common.{◌≡◌, ℕ, ◌<◌, Bool, true, false, not, List, [], ◌∷◌, ◌++◌, Option, Some, None, refl, sym, ap, subst, ◌∙◌}
use Rattle.std.proofs.lemmas.Bool.{true≢false}
use Rattle.lw_model.specs.declared.record.Replied.TheVariants as replied
use Rattle.lw_model.specs.declared.script.Op.{Op}
use Rattle.lw_model.specs.declared.script.Op.TheVariants as op
use Rattle.lw_model.specs.Threads.{op_at, thread_count}
use Rattle.lw_pool.specs.declared.class.Class.{Class}
use Rattle.lw_pool.specs.PoolEnds.{filled_bytes}
use Rattle.lw_thread.specs.Acts.{ActsEnd, AllFit}
use Rattle.lw_thread.specs.Calls.{Adds}
use Rattle.lw_thread.proofs.Adding.{adds_same}
use Rattle.lw_base.specs.declared.message.Mark.{Mark}
use Rattle.lw_visit.specs.Tokens.{Visit, Cast}
use Rattle.lw_mail.specs.Runs.{Run}
use Rattle.lw_mail.specs.Fitting.{Fits, IsVisit, IsCast, fits_mail}
use Rattle.lw_mail.specs.declared.mail.Mail.{Mail}
use Rattle.lw_mail.specs.declared.mail.Content.{Content}
use Rattle.lw_mail.specs.declared.mail.Content.TheVariants as content
use Rattle.lw_passing.specs.Passing.{PassesVisit, PassesCast}
use Rattle.lw_passing.proofs.Asked.{adds_asked}
use Rattle.lw_passing.proofs.Fitting.{visit_all_fit, cast_all_fit}
use Rattle.lw_ops.specs.declared.kind.Kind.{Kind}
use Rattle.lw_ops.specs.declared.kind.Kind.TheVariants as kind
use Rattle.lw_client.specs.declared.client.Client.{Client}
use Rattle.lw_client.specs.Clients.{IsSound, lends, waiting_poller}
use Rattle.lw_client.specs.Doing.{State, Becomes}
use Rattle.lw_ops.specs.Kinds.{requested}
use Rattle.lw_client.specs.Handling.{is_strange, answered_by, KeepsIt, Serves, HandlesAs, Handles, goes_past, SendsPast, ReturnsAs, Returns}
use Rattle.lw_client.proofs.Awaited.{awaits_op, buffer_back, may_run_put, visit_is, cast_is}
use Rattle.lw_client.proofs.Served.{sound_plain, sound_read, sound_put, sound_visit_ended, sound_cast_ended, sound_kept}

-- It stays sound, the same client as far as its pollers go, and what it asks for fits and comes behind.
pub record Kept (r : Run) (s t : State) : Type 0 where
  pub sound : IsSound r t.body
  pub thread : t.body.thread ≡ s.body.thread
  pub stage : t.body.stage ≡ s.body.stage
  pub waits : (n : ℕ) → waiting_poller t.body.waits n ≡ waiting_poller s.body.waits n
  pub pollers : t.acts.pollers ≡ s.acts.pollers
  pub threads : t.acts.threads ≡ s.acts.threads
  pub adds : Adds s.acts t.acts
  pub fits : AllFit fits_mail (Some r) s.acts.pending → AllFit fits_mail (Some r) t.acts.pending

-- the acts stay
module _ (r : Run) (s t : State) where
  quiet : (c : Client) → Becomes c s t → IsSound r c → c.thread ≡ s.body.thread → c.stage ≡ s.body.stage → ((n : ℕ) → waiting_poller c.waits n ≡ waiting_poller s.body.waits n) → Kept r s t
  quiet c e sound thread stage waits = record {
    sound = subst (IsSound r) (sym e.0) sound;
    thread = ap (λ (b : Client). b.thread) e.0 ∙ thread;
    stage = ap (λ (b : Client). b.stage) e.0 ∙ stage;
    waits = λ n. ap (λ (b : Client). waiting_poller b.waits n) e.0 ∙ waits n;
    pollers = ap (λ (a : ActsEnd Mail). a.pollers) e.1;
    threads = ap (λ (a : ActsEnd Mail). a.threads) e.1;
    adds = adds_same s.acts t.acts e.1;
    fits = λ all. subst (AllFit fits_mail (Some r)) (sym (ap (λ (a : ActsEnd Mail). a.pending) e.1)) all;
  }

  -- a token goes on
  visit_goes : (past : ℕ) (token : Visit) (marks : List Mark) → IsSound r s.body → t.body ≡ s.body → IsVisit r token × (token.goes_to ≡ past) × (past < thread_count r.script) → PassesVisit past marks token s.acts t.acts → Kept r s t
  visit_goes past token marks h e f g = record {
    sound = subst (IsSound r) (sym e) h;
    thread = ap (λ (b : Client). b.thread) e;
    stage = ap (λ (b : Client). b.stage) e;
    waits = λ n. ap (λ (b : Client). waiting_poller b.waits n) e;
    pollers = ap (λ (a : ActsEnd Mail). a.pollers) g.asked.added;
    threads = ap (λ (a : ActsEnd Mail). a.threads) g.asked.added;
    adds = adds_asked g.to g.content s.acts t.acts g.asked;
    fits = visit_all_fit r past marks token s.acts t.acts f.0 f.1 g;
  }

  cast_goes : (past : ℕ) (token : Cast) (ran : List ℕ) → IsSound r s.body → t.body ≡ s.body → IsCast r token × (token.goes_to ≡ past) × (past < thread_count r.script) → PassesCast past ran token s.acts t.acts → Kept r s t
  cast_goes past token ran h e f g = record {
    sound = subst (IsSound r) (sym e) h;
    thread = ap (λ (b : Client). b.thread) e;
    stage = ap (λ (b : Client). b.stage) e;
    waits = λ n. ap (λ (b : Client). waiting_poller b.waits n) e;
    pollers = ap (λ (a : ActsEnd Mail). a.pollers) g.asked.added;
    threads = ap (λ (a : ActsEnd Mail). a.threads) g.asked.added;
    adds = adds_asked g.to g.content s.acts t.acts g.asked;
    fits = cast_all_fit r past ran token s.acts t.acts f.0 f.1 g;
  }

  kept_it : (m : Mail) → IsSound r s.body → KeepsIt m s t → Kept r s t
  kept_it m h g = quiet (record s.body { kept = s.body.kept ++ m ∷ [] }) (g.body, g.acts) (sound_kept r s.body h (s.body.kept ++ m ∷ [])) refl refl (λ n. refl)

  -- a write or a flush lends nothing
  none_lent : (of : Kind) (q : Option Op) (d : ℕ) → (of ≡ kind.Read → ⊥) → requested of q ≡ Some d → (class : Class) → lends r.script class q ≡ 0
  none_lent kind.Write (Some (op.Write e start count pattern)) d other h class = refl
  none_lent kind.Flush (Some (op.Flush e)) d other h class = refl
  none_lent kind.Read q d other h class = absurd (other refl)
  none_lent kind.Write None d other h class = refl
  none_lent kind.Write (Some (op.Read e start count)) d other h class = absurd (cc)
  none_lent kind.Write (Some (op.Flush e)) d other h class = refl
  none_lent kind.Write (Some (op.Get e)) d other h class = refl
  none_lent kind.Write (Some (op.Put e)) d other h class = refl
  none_lent kind.Write (Some (op.Wait e)) d other h class = refl
  none_lent kind.Write (Some (op.Visit e)) d other h class = refl
  none_lent kind.Write (Some op.Each) d other h class = refl
  none_lent kind.Write (Some (op.Unregister e)) d other h class = refl
  none_lent kind.Flush None d other h class = refl
  none_lent kind.Flush (Some (op.Write e start count pattern)) d other h class = refl
  none_lent kind.Flush (Some (op.Read e start count)) d other h class = absurd (cc)
  none_lent kind.Flush (Some (op.Get e)) d other h class = refl
  none_lent kind.Flush (Some (op.Put e)) d other h class = refl
  none_lent kind.Flush (Some (op.Wait e)) d other h class = refl
  none_lent kind.Flush (Some (op.Visit e)) d other h class = refl
  none_lent kind.Flush (Some op.Each) d other h class = refl
  none_lent kind.Flush (Some (op.Unregister e)) d other h class = refl

  not_true : (x : Bool) → not x ≡ false → x ≡ true
  not_true true e = refl
  not_true false e = absurd (true≢false e)

  served : (c : Content) → IsSound r s.body → is_strange s.body c ≡ false → Fits s.body.thread r c → Serves c s t → Kept r s t
  served (content.Written k) h e f g =
      let a = awaits_op r s.body k g.0 kind.Write h g.1 in
      quiet (answered_by g.0 k replied.Ok s.body) g.2 (sound_plain r s.body h k g.0 kind.Write a replied.Ok (none_lent kind.Write (op_at r.script s.body.thread k) g.0 (λ (w : kind.Write ≡ kind.Read). absurd (cc)) a.asks)) refl refl (λ n. refl)
  served (content.Flushed k writes) h e f g =
      let a = awaits_op r s.body k g.0 kind.Flush h g.1 in
      quiet (answered_by g.0 k (replied.Writes writes) s.body) g.2 (sound_plain r s.body h k g.0 kind.Flush a (replied.Writes writes) (none_lent kind.Flush (op_at r.script s.body.thread k) g.0 (λ (w : kind.Flush ≡ kind.Read). absurd (cc)) a.asks)) refl refl (λ n. refl)
  served (content.Filled k buffer) h e f g =
      let a = awaits_op r s.body k g.0 kind.Read h g.1 in
      quiet _ g.2 (sound_read r s.body h k g.0 a (replied.Bytes (filled_bytes buffer)) buffer (buffer_back r s.body k g.0 buffer h a f)) refl refl (λ n. refl)
  served (content.PutSelf d) h e f g =
      let m = may_run_put r s.body d h (not_true _ e) in
      quiet _ g.2 (sound_put r s.body h d g.0 g.1 m.uses) refl refl (λ n. refl)
  served (content.Visit token) h e f g = visit_goes s.body.thread token.value _ h g.1 f g.0
  served (content.Cast token) h e f g = cast_goes s.body.thread token.value _ h g.1 f g.0
  served (content.Visited token) h e f g =
      let w = visit_is s.body.waits token.value.op token.value.device (not_true _ e) in
      quiet _ g.2 (sound_visit_ended r s.body h token.value.op token.value.device token.value.marks g.0 g.1 w f.0.device) refl refl (λ n. sym (ap (λ v. waiting_poller v n) w))
  served (content.Casted token) h e f g =
      let w = cast_is s.body.waits token.value.op (not_true _ e) in
      quiet _ g (sound_cast_ended r s.body h token.value.op token.value.ran w) refl refl (λ n. sym (ap (λ v. waiting_poller v n) w))
  served (content.Request client k) h e f g = absurd g
  served (content.Read client k buffer) h e f g = absurd g
  served (content.Done set) h e f g = absurd g
  served content.Stop h e f g = absurd g

  pub handled : (m : Mail) → IsSound r s.body → Fits s.body.thread r m.content → Handles m s t → Kept r s t
  handled m h f g = at (is_strange s.body m.content) refl g
    where
      at : (b : Bool) → is_strange s.body m.content ≡ b → HandlesAs b m s t → Kept r s t
      at true e g = kept_it m h g
      at false e g = served m.content h e f g

  past : (to : ℕ) (c : Content) → IsSound r s.body → Fits to r c → SendsPast to c s t → Kept r s t
  past to (content.Visit token) h f g = visit_goes to token.value [] h g.1 f g.0
  past to (content.Cast token) h f g = cast_goes to token.value [] h g.1 f g.0
  past to (content.Written k) h f g = absurd g
  past to (content.Filled k buffer) h f g = absurd g
  past to (content.Flushed k writes) h f g = absurd g
  past to (content.PutSelf d) h f g = absurd g
  past to (content.Visited token) h f g = absurd g
  past to (content.Casted token) h f g = absurd g
  past to (content.Request client k) h f g = absurd g
  past to (content.Read client k buffer) h f g = absurd g
  past to (content.Done set) h f g = absurd g
  past to content.Stop h f g = absurd g

  pub returned : (to : ℕ) (m : Mail) → IsSound r s.body → Fits to r m.content → Returns to m s t → Kept r s t
  returned to m h f g = at (goes_past s.body to m.content) g
    where
      at : (b : Bool) → ReturnsAs b to m s t → Kept r s t
      at true g = past to m.content h f g
      at false g = kept_it m h g
