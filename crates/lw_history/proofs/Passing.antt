-- Of a client's events and of the app's a token that one sent may go on.
use Rattle.std.proofs.Common.{◌≡◌, ℕ, ◌+◌, true, false, List, [], ◌∷◌, ◌++◌, length, Option, Some, None, refl, sym, ap, subst, ◌∙◌}
use Rattle.std.specs.Prelude.{IsTrue, is_none}
use Rattle.std.specs.List.{list_all, list_any, AllByRecursion}
use Rattle.lw_base.specs.declared.message.What.{What}
use Rattle.lw_base.specs.declared.message.What.TheVariants as what
use Rattle.lw_model.specs.declared.script.Script.{Script}
use Rattle.lw_model.specs.declared.step.Step.{Step}
use Rattle.lw_model.specs.declared.step.Step.TheVariants as step
use Rattle.lw_model.specs.declared.record.Did.{Did}
use Rattle.lw_model.specs.declared.record.Answer.{Answer}
use Rattle.lw_model.specs.declared.record.Answer.TheVariants as answer
use Rattle.lw_model.specs.declared.record.Called.{Called}
use Rattle.lw_model.specs.Threads.{owner_of, image_at, is_on, images}
use Rattle.lw_model.specs.Holding.{says, held}
use Rattle.lw_model.specs.Devices.{is_began}
use Rattle.lw_model.specs.Sent.{must_run, referred, token_of, sent_last}
use Rattle.lw_whole.specs.Letters.{Letter}
use Rattle.lw_whole.specs.Notes.{note_at, rows_in, knows_open}
use Rattle.lw_whole.specs.Tokens.{GoesOn, load_behind, empty_load}
use Rattle.lw_whole.specs.Sends.{Sets, SentByDid}
use Rattle.lw_whole.specs.Lines.{client_line_fits, app_line_fits, stays_shut}
use Rattle.lw_history.specs.Histories.{Event, ran, did, called, ended, dids_of, past_of, last_of, all_of}
use Rattle.lw_history.specs.Fitting.{SentByRun, CallbackFits, LineStands, SparesLast, ClientFits, AppFits, EachFits}
use Rattle.lw_history.specs.GoingOn.{is_token, last_before, SameButSends, GoneOn}
use Rattle.lw_history.proofs.Splits.{no_token, one_is_none, many_are_none, last_none}
use Rattle.lw_history.proofs.GoingOn.{Back, Alone, LetsGoOn, goes_instead, none_instead, goes_on}

-- ---- what fits behind a history fits behind one that differs in its sends alone

module _ (s : Script) (t : ℕ) (g h : List Event) (k : SameButSends g h) where
  run_alike : (x : Letter) (now : List (ℕ × Letter)) → SentByRun s t (past_of g) x now → SentByRun s t (past_of h) x now
  run_alike x now f = subst (λ p. SentByRun s t p x now) (sym k.past) f

  spares_alike : (now : List (ℕ × Letter)) → SparesLast (last_of g) now → SparesLast (last_of h) now
  spares_alike now f = subst (λ l. SparesLast l now) (sym k.last) f

  call_alike : (x : Called) → CallbackFits s t g x → CallbackFits s t h x
  call_alike x f = record {
    at = f.at ∙ ap length (sym k.runs);
    began = ap (list_any (says (is_on s t x.device) is_began)) k.past ∙ f.began;
    none_held = ap (λ (p : List Step). is_none (held (is_on s t x.device) x.device p)) k.past ∙ f.none_held;
  }

  line_alike : (x : Did) → LineStands s t g x → LineStands s t h x
  line_alike x f = record {
    at = f.at ∙ ap length (sym k.runs);
    stays_shut = subst (λ (p : List Step). AllByRecursion (λ d. IsTrue (stays_shut s t d p (step.Did (length (dids_of h)) x))) (images s)) (sym k.past)
        (subst (λ (l : List Did). AllByRecursion (λ d. IsTrue (stays_shut s t d (past_of g) (step.Did (length l) x))) (images s)) (sym k.dids) f.stays_shut);
  }

client_alike : (s : Script) (t : ℕ) (g h : List Event) (e : Event) → SameButSends g h → ClientFits s t g e → ClientFits s t h e
client_alike s t g h (ran x now) k f = record { sent = run_alike s t g h k x now f.sent; spares = spares_alike s t g h k now f.spares }
client_alike s t g h (did x now) k f = record {
  stands = line_alike s t g h k x f.stands;
  fits = ap (λ (p : List Step). client_line_fits s t p (step.Did (length (dids_of h)) x)) k.past ∙ ap (λ (l : List Did). client_line_fits s t (past_of g) (step.Did (length l) x)) k.dids ∙ f.fits;
  sent = subst (λ p. SentByDid s t p x now) (sym k.past) f.sent;
  spares = spares_alike s t g h k now f.spares;
}
client_alike s t g h (called x) k f = call_alike s t g h k x f
client_alike s t g h (ended now) k f = f

app_alike : (s : Script) (g h : List Event) (e : Event) → SameButSends g h → AppFits s g e → AppFits s h e
app_alike s g h (ran x now) k f = record { sent = run_alike s 0 g h k x now f.sent; spares = spares_alike s 0 g h k now f.spares; no_reply = f.no_reply; no_results = f.no_results }
app_alike s g h (did x now) k f = record {
  stands = line_alike s 0 g h k x f.stands;
  fits = ap (λ (p : List Step). app_line_fits s p (step.Did (length (dids_of h)) x)) k.past ∙ ap (λ (l : List Did). app_line_fits s (past_of g) (step.Did (length l) x)) k.dids ∙ f.fits;
  knew = λ e. ap (λ (l : List Letter). list_all (λ ns. knows_open (note_at ns x.op)) (rows_in l)) k.runs ∙ f.knew e;
  sent = f.sent;
}
app_alike s g h (called x) k f = call_alike s 0 g h k x f
app_alike s g h (ended now) k f = f

-- ---- what sent a token sends what goes on instead

module _ (s : Script) (to : ℕ) (x : Letter) (now : List (ℕ × Letter)) (back : Back s to x now) (sends front rest : List (ℕ × Letter)) (e : sends ≡ front ++ (to, x) ∷ rest) where
  by_run : (t : ℕ) (past : List Step) (y : Letter) → SentByRun s t past y sends → Alone front rest (SentByRun s t past y now)
  by_run t past y h = of y.tag.what h
    where
      sent : What → List (ℕ × Letter) → Type 0
      sent w ns = elim w [
        | what.Visit o k d ↦ GoesOn s (what.Visit o k d) (t + 1) (load_behind s t past (what.Visit o k d) y.load) ns
        | what.Cast o k ↦ GoesOn s (what.Cast o k) (t + 1) (load_behind s t past (what.Cast o k) y.load) ns
        | _ ↦ ns ≡ []
      ]

      of : (w : What) → sent w sends → Alone front rest (sent w now)
      of (what.Visit o k d) g = goes_instead s (what.Visit o k d) (t + 1) (load_behind s t past (what.Visit o k d) y.load) sends front to x rest now back e g
      of (what.Cast o k) g = goes_instead s (what.Cast o k) (t + 1) (load_behind s t past (what.Cast o k) y.load) sends front to x rest now back e g
      of (what.Request k) g = absurd (none_instead front to x rest sends e g)
      of (what.Reply k) g = absurd (none_instead front to x rest sends e g)
      of (what.PutSelf d) g = absurd (none_instead front to x rest sends e g)
      of (what.Visited k) g = absurd (none_instead front to x rest sends e g)
      of (what.Casted k) g = absurd (none_instead front to x rest sends e g)
      of what.Done g = absurd (none_instead front to x rest sends e g)
      of what.Stop g = absurd (none_instead front to x rest sends e g)
      of (what.Arrive a b) g = absurd (none_instead front to x rest sends e g)
      of (what.Order a b c) g = absurd (none_instead front to x rest sends e g)

  by_start : (o : Option What) → Sets s o sends → Alone front rest (Sets s o now)
  by_start None g = absurd (none_instead front to x rest sends e g)
  by_start (Some w) g = goes_instead s w 0 (empty_load w) sends front to x rest now back e g

  by_line : (t : ℕ) (past : List Step) (y : Did) → SentByDid s t past y sends → Alone front rest (SentByDid s t past y now)
  by_line t past y h = of y.answer h
    where
      of : (a : Answer) → SentByDid s t past (record y { answer = a }) sends → Alone front rest (SentByDid s t past (record y { answer = a }) now)
      of answer.Sent g = absurd (no_token sends front (to, x) rest _ e back.token g (one_is_none (owner_of s) (λ d. what.Request y.op) (λ d. refl) (image_at s t y.op)))
      of answer.Deferred g = absurd (no_token sends front (to, x) rest _ e back.token g (one_is_none (λ d. t) what.PutSelf (λ d. refl) (image_at s t y.op)))
      of answer.Closed g = absurd (no_token sends front (to, x) rest _ e back.token g (many_are_none (λ d. t) what.PutSelf (λ d. refl) (referred s t past)))
      of answer.Started g = by_start (token_of s t y.op) g
      of _ g = absurd (none_instead front to x rest sends e g)

client_lets : (s : Script) (t : ℕ) → LetsGoOn s (ClientFits s t)
client_lets s t = record {
  alike = client_alike s t;
  at_run = λ before y sends front to x rest now back e spares fit.
      let a = by_run s to x now back sends front rest e t (past_of before) y fit.sent in
      record { first = a.first; only = a.only; still = record { sent = a.still; spares = spares } };
  at_line = λ before y sends front to x rest now back e spares fit.
      let a = by_line s to x now back sends front rest e t (past_of before) y fit.sent in
      record { first = a.first; only = a.only; still = record { stands = fit.stands; fits = fit.fits; sent = a.still; spares = spares } };
  at_end = λ before sends front p rest e token fit. no_token sends front p rest (sent_last s t) e token fit (last_none s t);
}

app_lets : (s : Script) → LetsGoOn s (AppFits s)
app_lets s = record {
  alike = app_alike s;
  at_run = λ before y sends front to x rest now back e spares fit.
      let a = by_run s to x now back sends front rest e 0 (past_of before) y fit.sent in
      record { first = a.first; only = a.only; still = record { sent = a.still; spares = spares; no_reply = fit.no_reply; no_results = fit.no_results } };
  at_line = λ before y sends front to x rest now back e spares fit. absurd (none_instead front to x rest sends e fit.sent);
  at_end = λ before sends front p rest e token fit. no_token sends front p rest (sent_last s 0) e token fit (last_none s 0);
}

pub client_tokens_go_on : (s : Script) (t : ℕ) (h : List Event) (made : List (ℕ × Letter)) (to : ℕ) (x : Letter) (rest now : List (ℕ × Letter))
    → EachFits (ClientFits s t) h → all_of h ≡ made ++ (to, x) ∷ rest → is_token x.tag.what ≡ true → must_run s x.tag.what to ≡ false
    → GoesOn s x.tag.what (to + 1) x.load now → SparesLast (last_before (length made) h) now
    → GoneOn (ClientFits s t) h (made ++ now ++ rest)
client_tokens_go_on s t h made to x rest now fits e token skips goes spares =
    goes_on s (ClientFits s t) (client_lets s t) to x now (record { token = token; skips = skips; goes = goes }) h made rest fits e spares

pub app_tokens_go_on : (s : Script) (h : List Event) (made : List (ℕ × Letter)) (to : ℕ) (x : Letter) (rest now : List (ℕ × Letter))
    → EachFits (AppFits s) h → all_of h ≡ made ++ (to, x) ∷ rest → is_token x.tag.what ≡ true → must_run s x.tag.what to ≡ false
    → GoesOn s x.tag.what (to + 1) x.load now → SparesLast (last_before (length made) h) now
    → GoneOn (AppFits s) h (made ++ now ++ rest)
app_tokens_go_on s h made to x rest now fits e token skips goes spares =
    goes_on s (AppFits s) (app_lets s) to x now (record { token = token; skips = skips; goes = goes }) h made rest fits e spares
