-- What a call does, by letters alone.
use Rattle.std.proofs.Common.{ℕ, Bool, true, false, [], ◌∷◌, ◌++◌, refl, ap, subst, ◌∙◌}
use Rattle.std.proofs.lemmas.List.{append-nil}
use Rattle.lw_thread.specs.Acts.{Doing}
use Rattle.lw_whole.specs.Letters.{marked, reached}
use Rattle.lw_mail.specs.Saying.{letter_of}
use Rattle.lw_mail.specs.declared.mail.Mail.{Mail}
use Rattle.lw_mail.specs.declared.mail.Content.{Content}
use Rattle.lw_mail.specs.declared.mail.Content.TheVariants as content
use Rattle.lw_channel.specs.Channels.{IsEmpty}
use Rattle.lw_visit.specs.Tokens.{marks_of}
use Rattle.lw_passing.specs.Passing.{VisitGoesPast, CastGoesPast}
use Rattle.lw_passing.proofs.Asked.{visit_goes_past, cast_goes_past}
use Rattle.lw_app.specs.declared.app.App.{App}
use Rattle.lw_app.specs.Handling.{serves, sends_past, Does, HandlesAs, Handles, Skips, HandlesBackAs, HandlesBack}
use Rattle.lw_app.specs.Keeping.{Serves, RunsAs, Runs, GoesOver, TakesBackAs, TakesBack}
use Rattle.lw_app.proofs.Empty.{no_marks}

tells : (sender number : ℕ) (c : Content) (s t : Doing Mail App) → IsEmpty s.body.set → Does sender c s t → Serves (letter_of (record { sender = sender; number = number; content = c })) s t
tells sender number (content.Done set) s t empty g = record { set = set.value; brought = refl; body = g.0; acts = g.1 }
tells sender number (content.Visit token) s t empty g =
    let marks = marks_of 0 token.value.device s.body.set in
    let load = ap (λ ms. marked (token.value.marks ++ ms)) (no_marks 0 token.value.device s.body.set empty) ∙ ap marked (append-nil token.value.marks) in
    (subst (λ l. VisitGoesPast token.value.origin token.value.op token.value.device 0 l s.acts t.acts) load (visit_goes_past token.value 0 marks s.acts t.acts g.0.threads g.0), g.1)
tells sender number (content.Cast token) s t empty g = (cast_goes_past token.value 0 (0 ∷ []) s.acts t.acts g.0.threads g.0, g.1)
tells sender number (content.Request c j) s t empty g = absurd g
tells sender number (content.Read c j b) s t empty g = absurd g
tells sender number (content.Written j) s t empty g = absurd g
tells sender number (content.Filled j b) s t empty g = absurd g
tells sender number (content.Flushed j w) s t empty g = absurd g
tells sender number (content.PutSelf d) s t empty g = absurd g
tells sender number (content.Visited token) s t empty g = absurd g
tells sender number (content.Casted token) s t empty g = absurd g
tells sender number content.Stop s t empty g = absurd g

pub runs_handled : (m : Mail) (now : ℕ) (s t : Doing Mail App) → IsEmpty s.body.set → Handles m s t → Runs (letter_of m) now s t
runs_handled m now s t empty g = by (serves s.body (letter_of m)) g
  where
    by : (b : Bool) → HandlesAs b m s t → RunsAs b (letter_of m) s t
    by true g = tells m.sender m.number m.content s t empty g
    by false g = record { message = m; letter = refl; body = g.body; acts = g.acts }

tells_back : (past sender number : ℕ) (c : Content) (s t : Doing Mail App) → Skips past c s t → GoesOver past (letter_of (record { sender = sender; number = number; content = c })) s t
tells_back past sender number (content.Visit token) s t g =
    (subst (λ l. VisitGoesPast token.value.origin token.value.op token.value.device past l s.acts t.acts) (ap marked (append-nil token.value.marks)) (visit_goes_past token.value past [] s.acts t.acts g.0.threads g.0), g.1)
tells_back past sender number (content.Cast token) s t g =
    (subst (λ l. CastGoesPast token.value.origin token.value.op past l s.acts t.acts) (ap reached (append-nil token.value.ran)) (cast_goes_past token.value past [] s.acts t.acts g.0.threads g.0), g.1)
tells_back past sender number (content.Done set) s t g = absurd g
tells_back past sender number (content.Request c j) s t g = absurd g
tells_back past sender number (content.Read c j b) s t g = absurd g
tells_back past sender number (content.Written j) s t g = absurd g
tells_back past sender number (content.Filled j b) s t g = absurd g
tells_back past sender number (content.Flushed j w) s t g = absurd g
tells_back past sender number (content.PutSelf d) s t g = absurd g
tells_back past sender number (content.Visited token) s t g = absurd g
tells_back past sender number (content.Casted token) s t g = absurd g
tells_back past sender number content.Stop s t g = absurd g

pub takes_back_handled : (past : ℕ) (m : Mail) (s t : Doing Mail App) → HandlesBack past m s t → TakesBack past (letter_of m) s t
takes_back_handled past m s t g = by (sends_past s.body past (letter_of m)) g
  where
    by : (b : Bool) → HandlesBackAs b past m s t → TakesBackAs b past (letter_of m) s t
    by true g = tells_back past m.sender m.number m.content s t g
    by false g = record { message = m; letter = refl; body = g.body; acts = g.acts }
