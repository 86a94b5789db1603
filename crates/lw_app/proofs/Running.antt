-- What a run of a message keeps.
use Rattle.std.proofs.Common.{◌≡◌, ℕ, ◌-◌, Bool, true, false, ◌&&◌, not, List, [], ◌∷◌, ◌++◌, Some, refl, sym, ap, subst, ◌∙◌}
use Rattle.std.specs.Arc.{arc_value}
use Rattle.std.proofs.lemmas.Bool.{and_parts, not-true, false≢true}
use Rattle.lw_base.specs.Letters.{FitsRing}
use Rattle.lw_model.specs.Threads.{is_client}
use Rattle.lw_poller.specs.Pollers.{Pollers, times}
use Rattle.lw_thread.specs.Acts.{Known, Asks, ActsEnd, Post, Doing, AllFit, and_run, asks_of}
use Rattle.lw_thread.specs.Calls.{Adds}
use Rattle.lw_thread.proofs.Adding.{adds_same}
use Rattle.lw_whole.specs.Letters.{Letter}
use Rattle.lw_mail.specs.Runs.{Run}
use Rattle.lw_mail.specs.Saying.{letter_of}
use Rattle.lw_mail.specs.Fitting.{Fits, fits_mail}
use Rattle.lw_mail.specs.declared.mail.Mail.{Mail}
use Rattle.lw_mail.specs.declared.mail.Content.{Content}
use Rattle.lw_mail.specs.declared.mail.Content.TheVariants as content
use Rattle.lw_visit.specs.Tokens.{marks_of}
use Rattle.lw_passing.proofs.Asked.{adds_asked}
use Rattle.lw_passing.proofs.Fitting.{visit_all_fit, cast_all_fit}
use Rattle.lw_app.specs.declared.app.Stage.{Stage}
use Rattle.lw_app.specs.declared.app.Stage.TheVariants as stage
use Rattle.lw_app.specs.declared.app.App.{App}
use Rattle.lw_app.specs.Apps.{lines_at, IsApp}
use Rattle.lw_app.specs.Handling.{has_stopped, awaits, serves, takes_in, Does, HandlesAs, Handles}
use Rattle.lw_app.specs.Logging.{HasLog}
use Rattle.lw_app.specs.Keeping.{pairs, ends_at, IsAtStage, IsPolled, Keeps}
use Rattle.lw_app.proofs.Counting.{each_unset}
use Rattle.lw_app.proofs.Seats.{app_same}
use Rattle.lw_app.proofs.Ticking.{pairs_of, pairs_asked, keeps_at}
use Rattle.lw_app.proofs.Taking.{app_taken, log_taken, its_flag}
use Rattle.lw_app.proofs.Passing.{log_visit, log_cast}

-- the message fits the run that the app is of
pub fits_here : (k : Known Letter Run) (a : Asks Letter) (b : App) (m : Mail) (h : Keeps k a b) → FitsRing fits_mail k.thread k.family m → Fits 0 h.run m.content
fits_here k a b m h i = subst (λ t. Fits t h.run m.content) h.number (subst (λ f. FitsRing fits_mail k.thread f m) h.family i)

pub not_ended : (st : Stage) → has_stopped st ≡ false → ends_at st ≡ 0
not_ended stage.Waiting e = refl
not_ended stage.Calling e = refl
not_ended stage.Stopped e = absurd (false≢true (sym e))

-- the app is as it was, where its thread has run these and its log has grown
pub keeps_with : (k : Known Letter Run) (ran : List Letter) (a a2 : Asks Letter) (b b2 : App) (h : Keeps k a b) → b2 ≡ b → a2.live ≡ a.live
    → (b.kept ≡ [] → HasLog h.run.script (lines_at b.stage h.run.script) (ends_at b.stage) (record k { ran = ran }) (pairs a2.pending) b) → Keeps (record k { ran = ran }) a2 b2
keeps_with k ran a a2 b b2 h same live log = subst (Keeps (record k { ran = ran }) a2) (sym same) (record {
  run = h.run;
  family = h.family;
  number = h.number;
  threads = h.threads;
  app = h.app;
  at_stage = h.at_stage;
  polled = subst (IsPolled (has_stopped b.stage)) (sym live) h.polled;
  log = log;
})

-- a message is kept, so there is no log any more
pub keeps_one_more : (k : Known Letter Run) (ran : List Letter) (a a2 : Asks Letter) (m : Mail) (b b2 : App) → Keeps k a b → a2.live ≡ a.live → b2 ≡ record b { kept = b.kept ++ m ∷ [] } → Keeps (record k { ran = ran }) a2 b2
keeps_one_more k ran a a2 m b b2 h live e =
    keeps_at (record k { ran = ran }) a2 b2 h.run b.stage (ap (λ (x : App). x.stage) e) h.family h.number h.threads
    (app_same h.run (lines_at b.stage h.run.script) b b2 (ap (λ (x : App). x.script) e) (ap (λ (x : App). x.set) e) (ap (λ (x : App). x.awaited) e) (ap (λ (x : App). x.owed) e) h.app)
    (subst (IsAtStage b.stage) (sym e) (at b.stage h.at_stage))
    (subst (IsPolled (has_stopped b.stage)) (sym live) h.polled)
    (λ f. absurd (not_nil b.kept (sym (ap (λ (x : App). x.kept) e) ∙ f)))
  where
    not_nil : (ms : List Mail) → ms ++ m ∷ [] ≡ [] → ⊥
    not_nil [] e = absurd (cc)
    not_nil (x ∷ xs) e = absurd (cc)

    at : (st : Stage) → IsAtStage st b → IsAtStage st (record b { kept = b.kept ++ m ∷ [] })
    at stage.Waiting h = tt
    at stage.Calling h = h
    at stage.Stopped h = h

pub live_same : (a b : ActsEnd Mail) → b.pollers ≡ a.pollers → (asks_of letter_of b).live ≡ (asks_of letter_of a).live
live_same a b e = ap (λ (p : Pollers). λ n. times n p) e

module _ (k : Known Letter Run) (s t : Doing Mail App) (h : Keeps k (asks_of letter_of s.acts) s.body) where
  -- a Done is awaited only while the app waits
  waits : (st : Stage) (client : ℕ) → IsAtStage st s.body → awaits s.body.awaited client ≡ true → st ≡ stage.Waiting
  waits stage.Waiting client at e = refl
  waits stage.Calling client at e = absurd (false≢true (sym (each_unset s.body.awaited at (client - 1)) ∙ (its_flag s.body.awaited client e).1))
  waits stage.Stopped client at e = absurd (false≢true (sym (each_unset s.body.awaited at.0 (client - 1)) ∙ (its_flag s.body.awaited client e).1))

  open_stage : (o : ℕ) → (not (has_stopped s.body.stage) && is_client (arc_value s.body.script) o) ≡ true → ends_at s.body.stage ≡ 0
  open_stage o e = not_ended s.body.stage (not-true (has_stopped s.body.stage) (and_parts (not (has_stopped s.body.stage)) (is_client (arc_value s.body.script) o) e).0)

  keeps_does : (sender number : ℕ) (c : Content) → Fits 0 h.run c → serves s.body (letter_of (record { sender = sender; number = number; content = c })) ≡ true → Does sender c s t
      → Keeps (and_run k (letter_of (record { sender = sender; number = number; content = c }))) (asks_of letter_of t.acts) t.body
  keeps_does sender number (content.Done set) f e g =
      let waiting = waits s.body.stage sender h.at_stage e in
      let app = subst (λ st. IsApp h.run (lines_at st h.run.script) s.body) waiting h.app in
      let taken = app_taken h.run s.body sender set.value app e f in
      let x = letter_of (record { sender = sender; number = number; content = content.Done set }) in
      subst (λ (a : ActsEnd Mail). Keeps (and_run k x) (asks_of letter_of a) t.body) (sym g.1)
      (subst (Keeps (and_run k x) (asks_of letter_of s.acts)) (sym g.0)
      (keeps_at (and_run k x) (asks_of letter_of s.acts) (takes_in sender set.value s.body) h.run stage.Waiting waiting h.family h.number h.threads taken tt
      (subst (λ st. IsPolled (has_stopped st) (λ n. times n s.acts.pollers)) waiting h.polled)
      (λ none. log_taken h.run.script k (pairs_of s.acts.pending) s.body sender number set.value (subst (λ st. HasLog h.run.script (lines_at st h.run.script) (ends_at st) k (pairs_of s.acts.pending) s.body) waiting (h.log none)) e)))
  keeps_does sender number (content.Visit token) f e g =
      let zero_ends = open_stage token.value.origin e in
      let x = letter_of (record { sender = sender; number = number; content = content.Visit token }) in
      keeps_with k (k.ran ++ x ∷ []) (asks_of letter_of s.acts) (asks_of letter_of t.acts) s.body t.body h g.1 (live_same s.acts t.acts (ap (λ (a : ActsEnd Mail). a.pollers) g.0.asked.added))
      (λ none.
      let log = subst (λ m. HasLog h.run.script (lines_at s.body.stage h.run.script) m k (pairs_of s.acts.pending) s.body) zero_ends (h.log none) in
      subst (λ m. HasLog h.run.script (lines_at s.body.stage h.run.script) m (and_run k x) (pairs_of t.acts.pending) s.body) (sym zero_ends)
      (log_visit h.run.script (lines_at s.body.stage h.run.script) k (pairs_of s.acts.pending) s.body log sender number g.0.to g.0.content (pairs_of t.acts.pending) (pairs_asked g.0.to g.0.content s.acts t.acts g.0.asked) token.value h.app.empty f.0.threads g.0.next))
  keeps_does sender number (content.Cast token) f e g =
      let zero_ends = open_stage token.value.origin e in
      let x = letter_of (record { sender = sender; number = number; content = content.Cast token }) in
      keeps_with k (k.ran ++ x ∷ []) (asks_of letter_of s.acts) (asks_of letter_of t.acts) s.body t.body h g.1 (live_same s.acts t.acts (ap (λ (a : ActsEnd Mail). a.pollers) g.0.asked.added))
      (λ none.
      let log = subst (λ m. HasLog h.run.script (lines_at s.body.stage h.run.script) m k (pairs_of s.acts.pending) s.body) zero_ends (h.log none) in
      subst (λ m. HasLog h.run.script (lines_at s.body.stage h.run.script) m (and_run k x) (pairs_of t.acts.pending) s.body) (sym zero_ends)
      (log_cast h.run.script (lines_at s.body.stage h.run.script) k (pairs_of s.acts.pending) s.body log sender number g.0.to g.0.content (pairs_of t.acts.pending) (pairs_asked g.0.to g.0.content s.acts t.acts g.0.asked) token.value f.0.threads g.0.next))
  keeps_does sender number (content.Request c j) f e g = absurd g
  keeps_does sender number (content.Read c j b) f e g = absurd g
  keeps_does sender number (content.Written j) f e g = absurd g
  keeps_does sender number (content.Filled j b) f e g = absurd g
  keeps_does sender number (content.Flushed j w) f e g = absurd g
  keeps_does sender number (content.PutSelf d) f e g = absurd g
  keeps_does sender number (content.Visited token) f e g = absurd g
  keeps_does sender number (content.Casted token) f e g = absurd g
  keeps_does sender number content.Stop f e g = absurd g

  pub keeps_handled : (m : Mail) → Fits 0 h.run m.content → Handles m s t → Keeps (and_run k (letter_of m)) (asks_of letter_of t.acts) t.body
  keeps_handled m f g = by (serves s.body (letter_of m)) refl g
    where
      by : (b : Bool) → serves s.body (letter_of m) ≡ b → HandlesAs b m s t → Keeps (and_run k (letter_of m)) (asks_of letter_of t.acts) t.body
      by true e g = keeps_does m.sender m.number m.content f e g
      by false e g = keeps_one_more k (k.ran ++ letter_of m ∷ []) (asks_of letter_of s.acts) (asks_of letter_of t.acts) m s.body t.body h (live_same s.acts t.acts (ap (λ (a : ActsEnd Mail). a.pollers) g.acts)) g.body

-- ---- what it adds, and that all of that fits

adds_done : (sender : ℕ) (c : Content) (s t : Doing Mail App) → Does sender c s t → Adds s.acts t.acts
adds_done sender (content.Done set) s t g = adds_same s.acts t.acts g.1
adds_done sender (content.Visit token) s t g = adds_asked g.0.to g.0.content s.acts t.acts g.0.asked
adds_done sender (content.Cast token) s t g = adds_asked g.0.to g.0.content s.acts t.acts g.0.asked
adds_done sender (content.Request c j) s t g = absurd g
adds_done sender (content.Read c j b) s t g = absurd g
adds_done sender (content.Written j) s t g = absurd g
adds_done sender (content.Filled j b) s t g = absurd g
adds_done sender (content.Flushed j w) s t g = absurd g
adds_done sender (content.PutSelf d) s t g = absurd g
adds_done sender (content.Visited token) s t g = absurd g
adds_done sender (content.Casted token) s t g = absurd g
adds_done sender content.Stop s t g = absurd g

pub adds_handled : (m : Mail) (s t : Doing Mail App) → Handles m s t → Adds s.acts t.acts
adds_handled m s t g = by (serves s.body (letter_of m)) g
  where
    by : (b : Bool) → HandlesAs b m s t → Adds s.acts t.acts
    by true g = adds_done m.sender m.content s t g
    by false g = adds_same s.acts t.acts g.acts

abbrev AreFit : Run → List (Post Mail) → Type 0
AreFit r ps = AllFit fits_mail (Some r) ps

done_fits : (r : Run) (sender : ℕ) (c : Content) (s t : Doing Mail App) → Fits 0 r c → Does sender c s t → AreFit r s.acts.pending → AreFit r t.acts.pending
done_fits r sender (content.Done set) s t f g all = subst (λ (a : ActsEnd Mail). AreFit r a.pending) (sym g.1) all
done_fits r sender (content.Visit token) s t f g all = visit_all_fit r 0 (marks_of 0 token.value.device s.body.set) token.value s.acts t.acts f.0 f.1 g.0 all
done_fits r sender (content.Cast token) s t f g all = cast_all_fit r 0 (0 ∷ []) token.value s.acts t.acts f.0 f.1 g.0 all
done_fits r sender (content.Request c j) s t f g all = absurd g
done_fits r sender (content.Read c j b) s t f g all = absurd g
done_fits r sender (content.Written j) s t f g all = absurd g
done_fits r sender (content.Filled j b) s t f g all = absurd g
done_fits r sender (content.Flushed j w) s t f g all = absurd g
done_fits r sender (content.PutSelf d) s t f g all = absurd g
done_fits r sender (content.Visited token) s t f g all = absurd g
done_fits r sender (content.Casted token) s t f g all = absurd g
done_fits r sender content.Stop s t f g all = absurd g

pub handled_fits : (r : Run) (m : Mail) (s t : Doing Mail App) → Fits 0 r m.content → Handles m s t → AreFit r s.acts.pending → AreFit r t.acts.pending
handled_fits r m s t f g all = by (serves s.body (letter_of m)) g
  where
    by : (b : Bool) → HandlesAs b m s t → AreFit r t.acts.pending
    by true g = done_fits r m.sender m.content s t f g all
    by false g = subst (λ (a : ActsEnd Mail). AreFit r a.pending) (sym g.acts) all

pub fits_called : (m : Mail) (s t : Doing Mail App) (k : Known Letter Run) (h : Keeps k (asks_of letter_of s.acts) s.body) → FitsRing fits_mail k.thread k.family m → Handles m s t → AllFit fits_mail k.family s.acts.pending → AllFit fits_mail k.family t.acts.pending
fits_called m s t k h ring g all = subst (λ f. AllFit fits_mail f t.acts.pending) (sym h.family) (handled_fits h.run m s t (fits_here k (asks_of letter_of s.acts) s.body m h ring) g (subst (λ f. AllFit fits_mail f s.acts.pending) h.family all))
