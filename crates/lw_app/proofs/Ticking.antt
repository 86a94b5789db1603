-- What a tick keeps.
use Rattle.std.proofs.Common.{◌≡◌, ℕ, zero, suc, ◌+◌, ◌≤◌, ◌==◌, Bool, true, false, List, [], ◌∷◌, ◌++◌, length, map, append_assoc, Some, refl, sym, ap, ap₂, subst, ◌∙◌, arith, inl, inr}
use Rattle.std.specs.Prelude.{if◌then◌else◌}
use Rattle.std.specs.Arc.{arc_value}
use Rattle.std.specs.List.{range_with_len}
use Rattle.std.proofs.lemmas.Bool.{eqb-true, false≢true}
use Rattle.std.proofs.lemmas.List.{append-nil}
use Rattle.lw_base.specs.declared.message.What.{What}
use Rattle.lw_base.specs.declared.message.What.TheVariants as what
use Rattle.lw_model.specs.declared.script.Script.{Script}
use Rattle.lw_model.specs.Threads.{owner_of, thread_count}
use Rattle.lw_model.specs.Sent.{sent_last}
use Rattle.lw_poller.specs.Pollers.{Pollers, same, times}
use Rattle.lw_thread.specs.declared.body.Work.{Work}
use Rattle.lw_thread.specs.Acts.{Known, Asks, ActsEnd, Post, Doing, AllFit, asks_of, letters}
use Rattle.lw_thread.specs.Calls.{Adds}
use Rattle.lw_thread.proofs.Adding.{adds_same, adds_both, adds_end, adds_change}
use Rattle.lw_whole.specs.Letters.{Letter}
use Rattle.lw_whole.specs.Logs.{addressed}
use Rattle.lw_mail.specs.Runs.{Run}
use Rattle.lw_mail.specs.Saying.{letter_of, what_of, load_of}
use Rattle.lw_mail.specs.Fitting.{fits_mail}
use Rattle.lw_mail.specs.declared.mail.Mail.{Mail}
use Rattle.lw_mail.specs.declared.mail.Content.{Content}
use Rattle.lw_mail.specs.declared.mail.Content.TheVariants as content
use Rattle.lw_passing.specs.Passing.{Asks as AsksTo}
use Rattle.lw_app.specs.declared.app.Stage.{Stage}
use Rattle.lw_app.specs.declared.app.Stage.TheVariants as stage
use Rattle.lw_app.specs.declared.app.App.{App}
use Rattle.lw_app.specs.Apps.{flag_at, lines_at, IsApp}
use Rattle.lw_app.specs.Handling.{has_stopped}
use Rattle.lw_app.specs.Ticking.{none_set, is_due, is_due_at, UnregistersTo, BeginsAt, Tries, TriesAs, TriesTo, StopsTo, Ends, EndsAs, Steps, TicksAs, MayTick}
use Rattle.lw_app.specs.Logging.{HasLog}
use Rattle.lw_app.specs.Keeping.{pairs, ends_at, IsAtStage, IsPolled, Keeps}
use Rattle.lw_app.proofs.Seats.{app_unregistered_to, app_tried_to, app_begun, app_same}
use Rattle.lw_app.proofs.Stopping.{stops_to, none_left, adds_stops, stops_fit}
use Rattle.lw_app.proofs.Logs.{log_unregistered, log_fired, log_failed, log_same, log_ended}

-- the sends of some acts, as pairs
abbrev pub pairs_of : List (Post Mail) → List (ℕ × Letter)
pairs_of ps = pairs (letters letter_of ps)

pairs_push : (ps : List (Post Mail)) (p : Post Mail) → pairs_of (ps ++ p ∷ []) ≡ pairs_of ps ++ (p.to, letter_of p.what) ∷ []
pairs_push [] p = refl
pairs_push (q ∷ ps) p = ap (λ l. (q.to, letter_of q.what) ∷ l) (pairs_push ps p)

-- the letter of a content that isn't sent yet
abbrev pub blank_of : Content → Letter
blank_of c = record { tag = record { sender = 0; number = 0; what = what_of c }; load = load_of c }

-- one more was asked for, so one more is still to be sent
pub pairs_asked : (to : ℕ) (c : Content) (old new : ActsEnd Mail) → AsksTo to c old new → pairs_of new.pending ≡ pairs_of old.pending ++ (to, blank_of c) ∷ []
pairs_asked to c old new h =
    ap (λ (a : ActsEnd Mail). pairs_of a.pending) h.added
    ∙ pairs_push old.pending (record { to = to; what = h.waiting })
    ∙ ap (λ x. pairs_of old.pending ++ (to, x) ∷ []) h.same_letter

-- an app, from its parts at a stage
pub keeps_at : (k : Known Letter Run) (a : Asks Letter) (b : App) (r : Run) (st : Stage) → b.stage ≡ st → k.family ≡ Some r → k.thread ≡ 0 → length k.sent ≡ thread_count r.script
    → IsApp r (lines_at st r.script) b → IsAtStage st b → IsPolled (has_stopped st) a.live → (b.kept ≡ [] → HasLog r.script (lines_at st r.script) (ends_at st) k (pairs a.pending) b) → Keeps k a b
keeps_at k a b r st e family number threads app at polled log = record {
  run = r;
  family = family;
  number = number;
  threads = threads;
  app = subst (λ x. IsApp r (lines_at x r.script) b) (sym e) app;
  at_stage = subst (λ x. IsAtStage x b) (sym e) at;
  polled = subst (λ x. IsPolled (has_stopped x) a.live) (sym e) polled;
  log = λ f. subst (λ x. HasLog r.script (lines_at x r.script) (ends_at x) k (pairs a.pending) b) (sym e) (log f);
}

-- what no call of a tick changes
pub record Stays (a b : App) : Type 0 where
  pub kept : b.kept ≡ a.kept
  pub stage : b.stage ≡ a.stage
  pub awaited : b.awaited ≡ a.awaited
  pub script : b.script ≡ a.script

stays : (a : App) → Stays a a
stays a = record { kept = refl; stage = refl; awaited = refl; script = refl }

both_stay : (a b c : App) → Stays a b → Stays b c → Stays a c
both_stay a b c h i = record { kept = i.kept ∙ h.kept; stage = i.stage ∙ h.stage; awaited = i.awaited ∙ h.awaited; script = i.script ∙ h.script }

pub stays_unregistered : (at n : ℕ) (a b : App) → UnregistersTo at n a b → Stays a b
stays_unregistered at zero a b e = subst (Stays a) (sym e) (stays a)
stays_unregistered at (suc n) a b u = both_stay a u.0 b (stays_unregistered at n a u.0 u.1)
    (record { kept = ap (λ (x : App). x.kept) u.2.body; stage = ap (λ (x : App). x.stage) u.2.body; awaited = ap (λ (x : App). x.awaited) u.2.body; script = ap (λ (x : App). x.script) u.2.body })

stays_tried : (at d : ℕ) (a b : App) → Tries at d a b → Stays a b
stays_tried at d a b u = by (flag_at a.owed d) u
  where
    by : (o : Bool) → TriesAs o at d a b → Stays a b
    by true (inl f) = record { kept = ap (λ (x : App). x.kept) f.body; stage = ap (λ (x : App). x.stage) f.body; awaited = ap (λ (x : App). x.awaited) f.body; script = ap (λ (x : App). x.script) f.body }
    by true (inr f) = record { kept = ap (λ (x : App). x.kept) f.body; stage = ap (λ (x : App). x.stage) f.body; awaited = ap (λ (x : App). x.awaited) f.body; script = ap (λ (x : App). x.script) f.body }
    by false e = subst (Stays a) (sym e) (stays a)

pub stays_tried_to : (at n : ℕ) (a b : App) → TriesTo at n a b → Stays a b
stays_tried_to at zero a b e = subst (Stays a) (sym e) (stays a)
stays_tried_to at (suc n) a b u = both_stay a u.0 b (stays_tried_to at n a u.0 u.1) (stays_tried at n u.0 b u.2)

module _ (r : Run) (k : Known Letter Run) (unsent : List (ℕ × Letter)) (at : ℕ) (now : at ≡ length k.ran) where
  log_unregistered_to : (n : ℕ) (a b : App) → IsApp r 0 a → none_set a.awaited ≡ true → n ≤ length r.script.images → HasLog r.script 0 0 k unsent a → UnregistersTo at n a b → HasLog r.script n 0 k unsent b
  log_unregistered_to zero a b is every l h e = subst (HasLog r.script 0 0 k unsent) (sym e) h
  log_unregistered_to (suc n) a b is every l h u =
      let before = log_unregistered_to n a u.0 is every (omega (arith, l)) h u.1 in
      let app = app_unregistered_to r at n a u.0 is (omega (arith, l)) u.1 in
      subst (λ m. HasLog r.script m 0 k unsent b) one_more
      (log_unregistered r.script n k unsent u.0 before r refl at b app (omega (arith, l)) (ap none_set (stays_unregistered at n a u.0 u.1).awaited ∙ every) now u.2)
    where
      one_more : n + 1 ≡ suc n
      one_more = omega arith

  log_tried : (n d : ℕ) (a b : App) → HasLog r.script n 0 k unsent a → Tries at d a b → HasLog r.script n 0 k unsent b
  log_tried n d a b h u = by (flag_at a.owed d) refl u
    where
      by : (o : Bool) → flag_at a.owed d ≡ o → TriesAs o at d a b → HasLog r.script n 0 k unsent b
      by true e (inl f) = log_fired r.script n k unsent a h r at d b now e f
      by true e (inr f) = log_failed r.script n k unsent a h d b f
      by false e f = subst (HasLog r.script n 0 k unsent) (sym f) h

  log_tried_to : (n m : ℕ) (a b : App) → HasLog r.script n 0 k unsent a → TriesTo at m a b → HasLog r.script n 0 k unsent b
  log_tried_to n zero a b h e = subst (HasLog r.script n 0 k unsent) (sym e) h
  log_tried_to n (suc m) a b h u = log_tried n m u.0 b (log_tried_to n m a u.0 h u.1) u.2

  log_begun : (st : Stage) (a b : App) → IsApp r (lines_at st r.script) a → none_set a.awaited ≡ true → is_due_at st a ≡ true → HasLog r.script (lines_at st r.script) (ends_at st) k unsent a → BeginsAt st at a b → HasLog r.script (length r.script.images) 0 k unsent b
  log_begun stage.Waiting a b is every due h g =
      let m = log_unregistered_to (length a.owed) a g.0 is every (omega (arith, is.images)) h g.1 in
      let moved = log_same r.script (length a.owed) k unsent g.0 m (record g.0 { stage = stage.Calling }) refl refl refl refl refl in
      subst (λ n. HasLog r.script n 0 k unsent b) is.images (subst (HasLog r.script (length a.owed) 0 k unsent) (sym g.2) moved)
  log_begun stage.Calling a b is every due h g = subst (HasLog r.script (length r.script.images) 0 k unsent) (sym g) h
  log_begun stage.Stopped a b is every due h g = absurd (false≢true due)

-- ---- the Stops

-- Stops to the first n owners, where owner 0 is this thread
pub stops : ℕ → ℕ → List (ℕ × Letter)
stops first zero = []
stops first (suc n) = stops first n ++ (first + n, blank_of content.Stop) ∷ []

pub pairs_stopped : (first n : ℕ) (a b : ActsEnd Mail) → StopsTo first n a b → pairs_of b.pending ≡ pairs_of a.pending ++ stops first n
unfolding stops
pairs_stopped first zero a b e = ap (λ (x : ActsEnd Mail). pairs_of x.pending) e ∙ sym (append-nil (pairs_of a.pending))
pairs_stopped first (suc n) a b h = pairs_asked (first + n) content.Stop h.0 b h.2 ∙ ap (λ l. l ++ (first + n, blank_of content.Stop) ∷ []) (pairs_stopped first n a h.0 h.1) ∙ append_assoc (pairs_of a.pending) (stops first n) ((first + n, blank_of content.Stop) ∷ [])

addressed_push : (ps : List (ℕ × Letter)) (p : ℕ × Letter) → addressed (ps ++ p ∷ []) ≡ addressed ps ++ (p.0, p.1.tag.what) ∷ []
addressed_push [] p = refl
addressed_push (q ∷ ps) p = ap (λ l. (q.0, q.1.tag.what) ∷ l) (addressed_push ps p)

range_push : (f : ℕ → ℕ × What) (a n : ℕ) → map f (range_with_len a n) ++ f (a + n) ∷ [] ≡ map f (range_with_len a (suc n))
range_push f a zero = ap (λ m. f m ∷ []) (omega arith)
range_push f a (suc n) = ap (λ l. f a ∷ l) (ap (λ m. map f (range_with_len (a + 1) n) ++ f m ∷ []) (omega arith) ∙ range_push f (a + 1) n)

stops_last : (s : Script) (n : ℕ) → addressed (stops (owner_of s 0) n) ≡ map (λ d. (owner_of s d, what.Stop)) (range_with_len 0 n)
unfolding stops
stops_last s zero = refl
stops_last s (suc n) =
    addressed_push (stops (owner_of s 0) n) (owner_of s 0 + n, blank_of content.Stop)
    ∙ ap₂ (λ l m. l ++ (m, what.Stop) ∷ []) (stops_last s n) (omega arith)
    ∙ range_push (λ d. (owner_of s d, what.Stop)) 0 n

pub are_last : (s : Script) → addressed (stops (owner_of s 0) (length s.images)) ≡ sent_last s 0
are_last s = stops_last s (length s.images)

-- ---- the tick

abbrev one_if : Bool → ℕ
one_if b = if b then 1 else 0

its_number : (n p : ℕ) → same n p ≡ 1 → p ≡ n
its_number n p e = at (p == n) refl e
  where
    at : (b : Bool) → (p == n) ≡ b → one_if b ≡ 1 → p ≡ n
    at true g e = eqb-true p n g
    at false g e = absurd (omega (arith, e))

-- the poller that is called is the only one
the_only_one : (live : ℕ → ℕ) (number : ℕ) → IsPolled false live → live number ≡ 1 → (m : ℕ) → live m ≡ same m number
the_only_one live number (inl none) e m = absurd (omega (arith, none number, e))
the_only_one live number (inr h) e m = h.1 m ∙ ap (same m) (its_number number h.0 (sym (h.1 number) ∙ e))

not_stopped : (st : Stage) (b : App) → is_due_at st b ≡ true → has_stopped st ≡ false
not_stopped stage.Waiting b e = refl
not_stopped stage.Calling b e = refl
not_stopped stage.Stopped b e = absurd (false≢true e)

every_came : (st : Stage) (b : App) → is_due_at st b ≡ true → IsAtStage st b → none_set b.awaited ≡ true
every_came stage.Waiting b e at = e
every_came stage.Calling b e at = at
every_came stage.Stopped b e at = absurd (false≢true e)

stage_begun : (st : Stage) (at : ℕ) (a b : App) → a.stage ≡ st → is_due_at st a ≡ true → BeginsAt st at a b → b.stage ≡ stage.Calling
stage_begun stage.Waiting at a b e due g = ap (λ (x : App). x.stage) g.2
stage_begun stage.Calling at a b e due g = ap (λ (x : App). x.stage) g ∙ e
stage_begun stage.Stopped at a b e due g = absurd (false≢true due)

rest_begun : (st : Stage) (at : ℕ) (a b : App) → BeginsAt st at a b → (b.kept ≡ a.kept) × (b.awaited ≡ a.awaited) × (b.script ≡ a.script)
rest_begun stage.Waiting at a b g =
    let m = stays_unregistered at (length a.owed) a g.0 g.1 in
    (ap (λ (x : App). x.kept) g.2 ∙ m.kept, ap (λ (x : App). x.awaited) g.2 ∙ m.awaited, ap (λ (x : App). x.script) g.2 ∙ m.script)
rest_begun stage.Calling at a b g = (ap (λ (x : App). x.kept) g, ap (λ (x : App). x.awaited) g, ap (λ (x : App). x.script) g)
rest_begun stage.Stopped at a b g = (ap (λ (x : App). x.kept) g, ap (λ (x : App). x.awaited) g, ap (λ (x : App). x.script) g)

module _ (number : ℕ) (work : Work) (k : Known Letter Run) (s t : Doing Mail App) (h : Keeps k (asks_of letter_of s.acts) s.body) (now : s.acts.ran ≡ length k.ran) (live : times number s.acts.pollers ≡ 1) (due : is_due s.body ≡ true) (g : Steps number work s t) where
  abbrev script : Script
  script = h.run.script

  abbrev unsent : List (ℕ × Letter)
  unsent = pairs_of s.acts.pending

  abbrev called : App
  called = g.called

  every : none_set s.body.awaited ≡ true
  every = every_came s.body.stage s.body due h.at_stage

  begun_rest : (g.begun.kept ≡ s.body.kept) × (g.begun.awaited ≡ s.body.awaited) × (g.begun.script ≡ s.body.script)
  begun_rest = rest_begun s.body.stage s.acts.ran s.body g.begun g.begins

  called_rest : Stays g.begun called
  called_rest = stays_tried_to s.acts.ran (length g.begun.owed) g.begun called g.calls

  app_of_begun : IsApp h.run (length script.images) g.begun
  app_of_begun = app_begun h.run s.acts.ran s.body g.begun h.app due g.begins

  app_called : IsApp h.run (length script.images) called
  app_called = app_tried_to h.run (length script.images) s.acts.ran (length g.begun.owed) g.begun called app_of_begun (omega (arith, app_of_begun.images)) g.calls

  kept_called : called.kept ≡ s.body.kept
  kept_called = called_rest.kept ∙ begun_rest.0

  awaited_called : none_set called.awaited ≡ true
  awaited_called = ap none_set (called_rest.awaited ∙ begun_rest.1) ∙ every

  stage_called : called.stage ≡ stage.Calling
  stage_called = called_rest.stage ∙ stage_begun s.body.stage s.acts.ran s.body g.begun refl due g.begins

  log_called : s.body.kept ≡ [] → HasLog script (length script.images) 0 k unsent called
  log_called e =
      let begun = log_begun h.run k unsent s.acts.ran now s.body.stage s.body g.begun h.app every due (h.log e) g.begins in
      log_tried_to h.run k unsent s.acts.ran now (length script.images) (length g.begun.owed) g.begun called begun g.calls

  polled_before : IsPolled false (λ n. times n s.acts.pollers)
  polled_before = subst (λ b. IsPolled b (λ n. times n s.acts.pollers)) (not_stopped s.body.stage s.body due) h.polled

  goes_on : Keeps k (asks_of letter_of s.acts) called
  goes_on = keeps_at k (asks_of letter_of s.acts) called h.run stage.Calling stage_called h.family h.number h.threads app_called awaited_called polled_before (λ e. log_called (sym kept_called ∙ e))

  it_ends : none_set called.owed ≡ true → Ends number (record { body = called; acts = s.acts }) t → Keeps k (asks_of letter_of t.acts) t.body
  it_ends owes_none e =
      let first = owner_of script 0 in
      let to = subst (λ x. StopsTo (owner_of x 0) (length called.owed) s.acts e.asked) app_called.script e.stops in
      let all = subst (λ n. StopsTo first n s.acts e.asked) app_called.images to in
      let stopped = stops_to first (length script.images) s.acts e.asked all in
      let pending = ap (λ (a : ActsEnd Mail). pairs_of a.pending) e.acts ∙ pairs_stopped first (length script.images) s.acts e.asked all in
      let none = none_left number e.asked.pollers t.acts.pollers (λ m. ap (λ (p : Pollers). times m p) stopped.pollers ∙ the_only_one (λ n. times n s.acts.pollers) number polled_before live m) e.removed in
      keeps_at k (asks_of letter_of t.acts) t.body h.run stage.Stopped (ap (λ (x : App). x.stage) e.body) h.family h.number h.threads
      (app_same h.run (length script.images) called t.body (ap (λ (x : App). x.script) e.body) (ap (λ (x : App). x.set) e.body) (ap (λ (x : App). x.awaited) e.body) (ap (λ (x : App). x.owed) e.body) app_called)
      (ap (λ (x : App). none_set x.awaited) e.body ∙ awaited_called, ap (λ (x : App). none_set x.owed) e.body ∙ owes_none)
      none
      (λ f. log_ended script (length script.images) k unsent called (log_called (sym kept_called ∙ sym (ap (λ (x : App). x.kept) e.body) ∙ f)) (stops first (length script.images)) (pairs_of t.acts.pending) t.body (are_last script) pending
      (ap (λ (x : App). x.did) e.body) (ap (λ (x : App). x.called) e.body) (ap (λ (x : App). x.set) e.body) (ap (λ (x : App). x.awaited) e.body) (ap (λ (x : App). x.owed) e.body))

  pub keeps_stepped : Keeps k (asks_of letter_of t.acts) t.body
  keeps_stepped = by (none_set called.owed) refl g.ends
    where
      by : (b : Bool) → none_set called.owed ≡ b → EndsAs b number (record { body = called; acts = s.acts }) t → Keeps k (asks_of letter_of t.acts) t.body
      by true e f = it_ends e f
      by false e f = subst (λ (x : Doing Mail App). Keeps k (asks_of letter_of x.acts) x.body) (sym f) goes_on

pub keeps_ticked : (number : ℕ) (work : Work) (k : Known Letter Run) (s t : Doing Mail App) → Keeps k (asks_of letter_of s.acts) s.body → s.acts.ran ≡ length k.ran → times number s.acts.pollers ≡ 1 → TicksAs (is_due s.body) number work s t → Keeps k (asks_of letter_of t.acts) t.body
keeps_ticked number work k s t h now live g = by (is_due s.body) refl g
  where
    by : (b : Bool) → is_due s.body ≡ b → TicksAs b number work s t → Keeps k (asks_of letter_of t.acts) t.body
    by true e f = keeps_stepped number work k s t h now live e f
    by false e f = subst (λ (x : Doing Mail App). Keeps k (asks_of letter_of x.acts) x.body) (sym f.1) h

pub may_tick : (k : Known Letter Run) (a : ActsEnd Mail) (b : App) → Keeps k (asks_of letter_of a) b → a.threads ≡ length k.sent → MayTick b a
may_tick k a b h threads = record { run = h.run; app = h.app; threads = threads ∙ h.threads }

-- what a tick adds to the acts, and that all of that fits
adds_ended : (number : ℕ) (s t : Doing Mail App) → Ends number s t → Adds s.acts t.acts
adds_ended number s t e =
    let gone : ActsEnd Mail = record e.asked { pollers = t.acts.pollers } in
    adds_both s.acts e.asked t.acts (adds_stops (owner_of (arc_value s.body.script) 0) (length s.body.owed) s.acts e.asked e.stops)
    (adds_both e.asked gone t.acts (adds_change e.asked gone refl (inr (inr (inr (inr (number, e.removed)))))) (adds_end gone t.acts e.acts))

pub adds_ticked : (number : ℕ) (work : Work) (s t : Doing Mail App) → TicksAs (is_due s.body) number work s t → Adds s.acts t.acts
adds_ticked number work s t g = by (is_due s.body) g
  where
    at_end : (last : App) (b : Bool) → EndsAs b number (record { body = last; acts = s.acts }) t → Adds s.acts t.acts
    at_end last true e = adds_ended number (record { body = last; acts = s.acts }) t e
    at_end last false e = adds_same s.acts t.acts (ap (λ (x : Doing Mail App). x.acts) e)

    by : (b : Bool) → TicksAs b number work s t → Adds s.acts t.acts
    by true g = at_end g.called (none_set g.called.owed) g.ends
    by false g = adds_same s.acts t.acts (ap (λ (x : Doing Mail App). x.acts) g.1)

ended_fits : (r : Run) (number : ℕ) (s t : Doing Mail App) → Ends number s t → AllFit fits_mail (Some r) s.acts.pending → AllFit fits_mail (Some r) t.acts.pending
ended_fits r number s t e all = subst (λ (a : ActsEnd Mail). AllFit fits_mail (Some r) a.pending) (sym e.acts) (stops_fit r (owner_of (arc_value s.body.script) 0) (length s.body.owed) s.acts e.asked e.stops all)

pub ticked_fits : (number : ℕ) (work : Work) (k : Known Letter Run) (s t : Doing Mail App) → Keeps k (asks_of letter_of s.acts) s.body → TicksAs (is_due s.body) number work s t → AllFit fits_mail k.family s.acts.pending → AllFit fits_mail k.family t.acts.pending
ticked_fits number work k s t h g all = subst (λ f. AllFit fits_mail f t.acts.pending) (sym h.family) (by (is_due s.body) g)
  where
    before : AllFit fits_mail (Some h.run) s.acts.pending
    before = subst (λ f. AllFit fits_mail f s.acts.pending) h.family all

    at_end : (last : App) (b : Bool) → EndsAs b number (record { body = last; acts = s.acts }) t → AllFit fits_mail (Some h.run) t.acts.pending
    at_end last true e = ended_fits h.run number (record { body = last; acts = s.acts }) t e before
    at_end last false e = subst (λ (x : Doing Mail App). AllFit fits_mail (Some h.run) x.acts.pending) (sym e) before

    by : (b : Bool) → TicksAs b number work s t → AllFit fits_mail (Some h.run) t.acts.pending
    by true g = at_end g.called (none_set g.called.owed) g.ends
    by false g = subst (λ (x : Doing Mail App). AllFit fits_mail (Some h.run) x.acts.pending) (sym g.1) before
