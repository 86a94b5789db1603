-- What the app keeps between its calls, and what its calls do.
use Rattle.std.specs.Prelude.{ℕ, ◌≡◌, ◌⊎◌, ◌==◌, Bool, true, false, ◌&&◌, List, [], ◌∷◌, ◌++◌, map, length, Some}
use Rattle.lw_base.specs.declared.message.What.TheVariants as what
use Rattle.lw_model.specs.Threads.{thread_count}
use Rattle.lw_channel.specs.Channels.{Channels}
use Rattle.lw_poller.specs.Pollers.{same}
use Rattle.lw_thread.specs.declared.body.Work.{Work}
use Rattle.lw_thread.specs.Acts.{Known, Asks, Post, Doing}
use Rattle.lw_whole.specs.Letters.{Letter, reached, row, threads_in}
use Rattle.lw_mail.specs.Runs.{Run}
use Rattle.lw_mail.specs.Saying.{letter_of, notes_of}
use Rattle.lw_mail.specs.declared.mail.Mail.{Mail}
use Rattle.lw_passing.specs.Passing.{VisitGoesPast, CastGoesPast}
use Rattle.lw_app.specs.declared.app.Stage.{Stage}
use Rattle.lw_app.specs.declared.app.Stage.TheVariants as stage
use Rattle.lw_app.specs.declared.app.App.{App}
use Rattle.lw_app.specs.Apps.{lines_at, IsApp}
use Rattle.lw_app.specs.Handling.{has_stopped, serves, sends_past, takes_in}
use Rattle.lw_app.specs.Ticking.{none_set, is_due, TicksAs}
use Rattle.lw_app.specs.Logging.{HasLog}

-- sends as pairs of a receiver and a letter
abbrev pub pairs : List (Post Letter) → List (ℕ × Letter)
pairs ps = map (λ p. (p.to, p.what)) ps

-- how often the last messages were sent at a stage
abbrev pub ends_at : Stage → ℕ
ends_at stage.Waiting = 0
ends_at stage.Calling = 0
ends_at stage.Stopped = 1

-- behind the Done of each client the devices are unregistered, and behind the last callback the Stops are sent
abbrev pub IsAtStage : Stage → App → Type 0
IsAtStage stage.Waiting b = Unit {0}
IsAtStage stage.Calling b = none_set b.awaited ≡ true
IsAtStage stage.Stopped b = (none_set b.awaited ≡ true) × (none_set b.owed ≡ true)

abbrev pub NoneLive : (ℕ → ℕ) → Type 0
NoneLive live = (n : ℕ) → live n ≡ 0

-- before the Stops one poller is live, once the app was given it; behind them none is
abbrev pub IsPolled : Bool → (ℕ → ℕ) → Type 0
IsPolled true live = NoneLive live
IsPolled false live = NoneLive live ⊎ ((p : ℕ) × ((n : ℕ) → live n ≡ same n p))

-- what the app keeps: it is thread 0 of the run that its ring's family names; and where it keeps no message, its log. Where it keeps
-- one, it never ends.
pub record Keeps (k : Known Letter Run) (a : Asks Letter) (b : App) : Type 0 where
  pub run : Run
  pub family : k.family ≡ Some run
  pub number : k.thread ≡ 0
  pub threads : length k.sent ≡ thread_count run.script
  pub app : IsApp run (lines_at b.stage run.script) b
  pub at_stage : IsAtStage b.stage b
  pub polled : IsPolled (has_stopped b.stage) a.live
  pub log : b.kept ≡ [] → HasLog run.script (lines_at b.stage run.script) (ends_at b.stage) k (pairs a.pending) b

-- the body has sent its Stops and keeps no message
abbrev pub may_end : App → Bool
may_end b = has_stopped b.stage && length b.kept == 0

-- a message is kept
pub record Kept (x : Letter) (s t : Doing Mail App) : Type 0 where
  pub message : Mail
  pub letter : letter_of message ≡ x
  pub body : t.body ≡ record s.body { kept = s.body.kept ++ message ∷ [] }
  pub acts : t.acts ≡ s.acts

-- the set that a Done brings is taken in
pub record TakesIn (x : Letter) (s t : Doing Mail App) : Type 0 where
  pub set : Channels
  pub brought : x.load ≡ row (notes_of set.row.seats)
  pub body : t.body ≡ takes_in x.tag.sender set s.body
  pub acts : t.acts ≡ s.acts

-- what is served: a Done, or a token, which goes on as it came, but that a cast has the app's number more
abbrev pub Serves : Letter → Doing Mail App → Doing Mail App → Type 0
Serves x s t = elim x.tag.what [
  | what.Done ↦ TakesIn x s t
  | what.Visit o k d ↦ VisitGoesPast o k d 0 x.load s.acts t.acts × (t.body ≡ s.body)
  | what.Cast o k ↦ CastGoesPast o k 0 (reached (threads_in x.load ++ 0 ∷ [])) s.acts t.acts × (t.body ≡ s.body)
  | _ ↦ ⊥
]

-- what a run of a letter does: it is served, exactly where a run sends it to the app now, and else kept
abbrev pub RunsAs : Bool → Letter → Doing Mail App → Doing Mail App → Type 0
RunsAs true x s t = Serves x s t
RunsAs false x s t = Kept x s t

abbrev pub Runs : Letter → ℕ → Doing Mail App → Doing Mail App → Type 0
Runs x now s t = RunsAs (serves s.body x) x s t

-- what a tick does
abbrev pub Ticks : ℕ → ℕ → Work → Doing Mail App → Doing Mail App → Type 0
Ticks number now work s t = TicksAs (is_due s.body) number work s t

-- what comes back: a token goes past the client that it was to go to, as it came, and all else is kept
abbrev pub GoesOver : ℕ → Letter → Doing Mail App → Doing Mail App → Type 0
GoesOver past x s t = elim x.tag.what [
  | what.Visit o k d ↦ VisitGoesPast o k d past x.load s.acts t.acts × (t.body ≡ s.body)
  | what.Cast o k ↦ CastGoesPast o k past x.load s.acts t.acts × (t.body ≡ s.body)
  | _ ↦ ⊥
]

abbrev pub TakesBackAs : Bool → ℕ → Letter → Doing Mail App → Doing Mail App → Type 0
TakesBackAs true past x s t = GoesOver past x s t
TakesBackAs false past x s t = Kept x s t

abbrev pub TakesBack : ℕ → Letter → Doing Mail App → Doing Mail App → Type 0
TakesBack past x s t = TakesBackAs (sends_past s.body past x) past x s t
