-- What the app keeps where a message comes back.
use Rattle.std.proofs.Common.{◌≡◌, ℕ, ◌+◌, ◌==◌, Bool, true, false, ◌&&◌, not, List, [], ◌∷◌, ◌++◌, Some, refl, sym, ap, subst, ◌∙◌}
use Rattle.std.specs.Arc.{arc_value}
use Rattle.std.proofs.lemmas.Bool.{and_parts, not-true, eqb-false, ne_eqb}
use Rattle.std.proofs.lemmas.List.{append-nil}
use Rattle.std.proofs.lemmas.List.Elements.{All-nil}
use Rattle.lw_base.specs.Letters.{FitsRing}
use Rattle.lw_base.specs.declared.message.What.TheVariants as what
use Rattle.lw_model.specs.declared.script.Script.{Script}
use Rattle.lw_model.specs.Threads.{is_client}
use Rattle.lw_model.specs.Sent.{must_run}
use Rattle.lw_thread.specs.Acts.{Known, Asks, ActsEnd, Post, Doing, AllFit, asks_of, letters}
use Rattle.lw_thread.specs.Calls.{Adds}
use Rattle.lw_thread.proofs.Adding.{adds_same}
use Rattle.lw_whole.specs.Letters.{Letter, marked, reached}
use Rattle.lw_whole.specs.Tokens.{GoesOn}
use Rattle.lw_history.specs.GoingOn.{is_token}
use Rattle.lw_mail.specs.Runs.{Run}
use Rattle.lw_mail.specs.Saying.{letter_of}
use Rattle.lw_mail.specs.Fitting.{Fits, fits_mail}
use Rattle.lw_mail.specs.declared.mail.Mail.{Mail}
use Rattle.lw_mail.specs.declared.mail.Content.{Content}
use Rattle.lw_mail.specs.declared.mail.Content.TheVariants as content
use Rattle.lw_passing.specs.Passing.{Asks as AsksTo}
use Rattle.lw_passing.proofs.Asked.{adds_asked}
use Rattle.lw_passing.proofs.Fitting.{visit_all_fit, cast_all_fit}
use Rattle.lw_passing.proofs.Going.{letter_as, visit_goes_on, cast_goes_on}
use Rattle.lw_app.specs.declared.app.App.{App}
use Rattle.lw_app.specs.Apps.{lines_at}
use Rattle.lw_app.specs.Handling.{has_stopped, sends_past, Skips, HandlesBackAs, HandlesBack}
use Rattle.lw_app.specs.Logging.{HasLog}
use Rattle.lw_app.specs.Keeping.{pairs, Keeps}
use Rattle.lw_app.proofs.Ticking.{pairs_of, pairs_asked, blank_of}
use Rattle.lw_app.proofs.Passing.{need_not_run, log_skipped}
use Rattle.lw_app.proofs.Running.{not_ended, keeps_with, keeps_one_more, live_same}

pairs_both : (ps qs : List (Post Letter)) → pairs (ps ++ qs) ≡ pairs ps ++ pairs qs
pairs_both [] qs = refl
pairs_both (p ∷ ps) qs = ap (λ l. (p.to, p.what) ∷ l) (pairs_both ps qs)

-- what is under way while a message to this thread comes back, and behind that
abbrev pub asks_before : ActsEnd Mail → ℕ → Letter → List (Post Letter) → Asks Letter
asks_before a to x rest = record { live = (asks_of letter_of a).live; pending = record { to = to; what = x } ∷ rest }

abbrev pub asks_behind : ActsEnd Mail → List (Post Letter) → Asks Letter
asks_behind a rest = record { live = (asks_of letter_of a).live; pending = letters letter_of a.pending ++ rest }

not_origin : (o past : ℕ) → not (o == past) ≡ true → (past == o) ≡ false
not_origin o past e = ne_eqb past o (λ same. eqb-false o past (not-true (o == past) e) (sym same))

module _ (k : Known Letter Run) (rest : List (Post Letter)) (past : ℕ) (s t : Doing Mail App) (none : s.acts.pending ≡ []) where
  -- a token was sent on instead
  went : (x : Letter) (h : Keeps k (asks_before s.acts past x rest) s.body) (to : ℕ) (c : Content) → AsksTo to c s.acts t.acts → t.body ≡ s.body → has_stopped s.body.stage ≡ false
      → is_token x.tag.what ≡ true → must_run h.run.script x.tag.what past ≡ false → GoesOn h.run.script x.tag.what (past + 1) x.load ((to, letter_as 0 0 c) ∷ [])
      → Keeps k (asks_behind t.acts rest) t.body
  went x h to c asked body unstopped token skips goes =
      let zero_ends = not_ended s.body.stage unstopped in
      let script = h.run.script in
      let lines = lines_at s.body.stage script in
      keeps_with k k.ran (asks_before s.acts past x rest) (asks_behind t.acts rest) s.body t.body h body (live_same s.acts t.acts (ap (λ (a : ActsEnd Mail). a.pollers) asked.added))
      (λ e.
      let log = subst (λ m. HasLog script lines m k ((past, x) ∷ pairs rest) s.body) zero_ends (h.log e) in
      let gone = log_skipped script lines k past x (pairs rest) ((to, letter_as 0 0 c) ∷ []) s.body log token skips goes in
      let one = pairs_asked to c s.acts t.acts asked ∙ ap (λ ps. pairs_of ps ++ (to, blank_of c) ∷ []) none in
      let all = pairs_both (letters letter_of t.acts.pending) rest ∙ ap (λ l. l ++ pairs rest) one in
      subst (λ m. HasLog script lines m k (pairs (letters letter_of t.acts.pending ++ rest)) s.body) (sym zero_ends)
      (subst (λ u. HasLog script lines 0 k u s.body) (sym all) gone))

  skipped : (sender number : ℕ) (c : Content) (h : Keeps k (asks_before s.acts past (letter_of (record { sender = sender; number = number; content = c })) rest) s.body) → Fits past h.run c
      → sends_past s.body past (letter_of (record { sender = sender; number = number; content = c })) ≡ true → Skips past c s t → Keeps k (asks_behind t.acts rest) t.body
  skipped sender number (content.Visit token) h f e g =
      let v = token.value in
      let outer = and_parts (not (has_stopped s.body.stage) && is_client (arc_value s.body.script) past) (not (v.origin == past)) e in
      let inner = and_parts (not (has_stopped s.body.stage)) (is_client (arc_value s.body.script) past) outer.0 in
      let client = subst (λ (x : Script). is_client x past ≡ true) h.app.script inner.1 in
      let way = what.Visit v.origin v.op v.device in
      went (letter_of (record { sender = sender; number = number; content = content.Visit token })) h g.0.to g.0.content g.0.asked g.1 (not-true (has_stopped s.body.stage) inner.0) refl
      (need_not_run h.run.script way past client (not_origin v.origin past outer.1))
      (subst (λ l. GoesOn h.run.script way (past + 1) l ((g.0.to, letter_as 0 0 g.0.content) ∷ [])) (ap marked (append-nil v.marks)) (visit_goes_on h.run.script past [] v g.0.to 0 0 g.0.content f.0.threads g.0.next))
  skipped sender number (content.Cast token) h f e g =
      let v = token.value in
      let outer = and_parts (not (has_stopped s.body.stage) && is_client (arc_value s.body.script) past) (not (v.origin == past)) e in
      let inner = and_parts (not (has_stopped s.body.stage)) (is_client (arc_value s.body.script) past) outer.0 in
      let client = subst (λ (x : Script). is_client x past ≡ true) h.app.script inner.1 in
      let way = what.Cast v.origin v.op in
      went (letter_of (record { sender = sender; number = number; content = content.Cast token })) h g.0.to g.0.content g.0.asked g.1 (not-true (has_stopped s.body.stage) inner.0) refl
      (need_not_run h.run.script way past client (not_origin v.origin past outer.1))
      (subst (λ l. GoesOn h.run.script way (past + 1) l ((g.0.to, letter_as 0 0 g.0.content) ∷ [])) (ap reached (append-nil v.ran)) (cast_goes_on h.run.script past [] v g.0.to 0 0 g.0.content f.0.threads g.0.next))
  skipped sender number (content.Done set) h f e g = absurd g
  skipped sender number (content.Request c j) h f e g = absurd g
  skipped sender number (content.Read c j b) h f e g = absurd g
  skipped sender number (content.Written j) h f e g = absurd g
  skipped sender number (content.Filled j b) h f e g = absurd g
  skipped sender number (content.Flushed j w) h f e g = absurd g
  skipped sender number (content.PutSelf d) h f e g = absurd g
  skipped sender number (content.Visited token) h f e g = absurd g
  skipped sender number (content.Casted token) h f e g = absurd g
  skipped sender number content.Stop h f e g = absurd g

  pub keeps_returned : (m : Mail) (h : Keeps k (asks_before s.acts past (letter_of m) rest) s.body) → FitsRing fits_mail past k.family m → HandlesBack past m s t → Keeps k (asks_behind t.acts rest) t.body
  keeps_returned m h ring g = by (sends_past s.body past (letter_of m)) refl g
    where
      by : (b : Bool) → sends_past s.body past (letter_of m) ≡ b → HandlesBackAs b past m s t → Keeps k (asks_behind t.acts rest) t.body
      by true e g = skipped m.sender m.number m.content h (subst (λ f. FitsRing fits_mail past f m) h.family ring) e g
      by false e g = keeps_one_more k k.ran (asks_before s.acts past (letter_of m) rest) (asks_behind t.acts rest) m s.body t.body h (live_same s.acts t.acts (ap (λ (a : ActsEnd Mail). a.pollers) g.acts)) g.body

adds_skipped : (past : ℕ) (c : Content) (s t : Doing Mail App) → Skips past c s t → Adds s.acts t.acts
adds_skipped past (content.Visit token) s t g = adds_asked g.0.to g.0.content s.acts t.acts g.0.asked
adds_skipped past (content.Cast token) s t g = adds_asked g.0.to g.0.content s.acts t.acts g.0.asked
adds_skipped past (content.Done set) s t g = absurd g
adds_skipped past (content.Request c j) s t g = absurd g
adds_skipped past (content.Read c j b) s t g = absurd g
adds_skipped past (content.Written j) s t g = absurd g
adds_skipped past (content.Filled j b) s t g = absurd g
adds_skipped past (content.Flushed j w) s t g = absurd g
adds_skipped past (content.PutSelf d) s t g = absurd g
adds_skipped past (content.Visited token) s t g = absurd g
adds_skipped past (content.Casted token) s t g = absurd g
adds_skipped past content.Stop s t g = absurd g

pub adds_returned : (past : ℕ) (m : Mail) (s t : Doing Mail App) → HandlesBack past m s t → Adds s.acts t.acts
adds_returned past m s t g = by (sends_past s.body past (letter_of m)) g
  where
    by : (b : Bool) → HandlesBackAs b past m s t → Adds s.acts t.acts
    by true g = adds_skipped past m.content s t g
    by false g = adds_same s.acts t.acts g.acts

skips_fit : (r : Run) (past : ℕ) (c : Content) (s t : Doing Mail App) → Fits past r c → Skips past c s t → AllFit fits_mail (Some r) s.acts.pending → AllFit fits_mail (Some r) t.acts.pending
skips_fit r past (content.Visit token) s t f g all = visit_all_fit r past [] token.value s.acts t.acts f.0 f.1 g.0 all
skips_fit r past (content.Cast token) s t f g all = cast_all_fit r past [] token.value s.acts t.acts f.0 f.1 g.0 all
skips_fit r past (content.Done set) s t f g all = absurd g
skips_fit r past (content.Request c j) s t f g all = absurd g
skips_fit r past (content.Read c j b) s t f g all = absurd g
skips_fit r past (content.Written j) s t f g all = absurd g
skips_fit r past (content.Filled j b) s t f g all = absurd g
skips_fit r past (content.Flushed j w) s t f g all = absurd g
skips_fit r past (content.PutSelf d) s t f g all = absurd g
skips_fit r past (content.Visited token) s t f g all = absurd g
skips_fit r past (content.Casted token) s t f g all = absurd g
skips_fit r past content.Stop s t f g all = absurd g

pub returned_fits : (r : Run) (past : ℕ) (m : Mail) (s t : Doing Mail App) → Fits past r m.content → HandlesBack past m s t → AllFit fits_mail (Some r) s.acts.pending → AllFit fits_mail (Some r) t.acts.pending
returned_fits r past m s t f g all = by (sends_past s.body past (letter_of m)) g
  where
    by : (b : Bool) → HandlesBackAs b past m s t → AllFit fits_mail (Some r) t.acts.pending
    by true g = skips_fit r past m.content s t f g all
    by false g = subst (λ (a : ActsEnd Mail). AllFit fits_mail (Some r) a.pending) (sym g.acts) all

pub fits_back : (past : ℕ) (m : Mail) (s t : Doing Mail App) (k : Known Letter Run) (a : Asks Letter) → s.acts.pending ≡ [] → Keeps k a s.body → FitsRing fits_mail past k.family m → HandlesBack past m s t → AllFit fits_mail k.family t.acts.pending
fits_back past m s t k a none h ring g =
    subst (λ f. AllFit fits_mail f t.acts.pending) (sym h.family)
    (returned_fits h.run past m s t (subst (λ f. FitsRing fits_mail past f m) h.family ring) g (subst (AllFit fits_mail (Some h.run)) (sym none) (All-nil (λ (p : Post Mail). FitsRing fits_mail p.to (Some h.run) p.what))))
