-- What the app does with a message.
use Rattle.std.specs.Prelude.{ℕ, zero, suc, ◌≡◌, ◌-◌, ◌==◌, Bool, true, false, not, ◌&&◌, [], ◌∷◌, ◌++◌, List, slice_set}
use Rattle.std.specs.Arc.{arc_value}
use Rattle.lw_base.specs.declared.message.What.TheVariants as what
use Rattle.lw_model.specs.Threads.{is_client}
use Rattle.lw_channel.specs.Channels.{Channels, both_sets}
use Rattle.lw_visit.specs.Tokens.{marks_of}
use Rattle.lw_thread.specs.Acts.{Doing}
use Rattle.lw_whole.specs.Letters.{Letter}
use Rattle.lw_mail.specs.Saying.{letter_of}
use Rattle.lw_mail.specs.declared.mail.Mail.{Mail}
use Rattle.lw_mail.specs.declared.mail.Content.{Content}
use Rattle.lw_mail.specs.declared.mail.Content.TheVariants as content
use Rattle.lw_passing.specs.Passing.{PassesVisit, PassesCast}
use Rattle.lw_app.specs.declared.app.Stage.{Stage}
use Rattle.lw_app.specs.declared.app.Stage.TheVariants as stage
use Rattle.lw_app.specs.declared.app.App.{App}
use Rattle.lw_app.specs.Apps.{flag_at}

-- whether the Stops were sent
abbrev pub has_stopped : Stage → Bool
has_stopped stage.Waiting = false
has_stopped stage.Calling = false
has_stopped stage.Stopped = true

-- whether the Done of this thread is still to come; the flags are of the clients, which follow from 1
abbrev pub awaits : List Bool → ℕ → Bool
awaits fs zero = false
awaits fs (suc k) = flag_at fs k

-- a message that a run sends to the app now: a Done that is still to come, or a client's token, before the Stops
abbrev pub serves : App → Letter → Bool
serves b x = elim x.tag.what [
  | what.Done ↦ awaits b.awaited x.tag.sender
  | what.Visit o k d ↦ not (has_stopped b.stage) && is_client (arc_value b.script) o
  | what.Cast o k ↦ not (has_stopped b.stage) && is_client (arc_value b.script) o
  | _ ↦ false
]

-- a message that comes back and is to go past the thread `past`: a token, before the Stops, where that thread is a client other
-- than the token's origin
abbrev pub sends_past : App → ℕ → Letter → Bool
sends_past b past x = not (has_stopped b.stage) && is_client (arc_value b.script) past && elim x.tag.what [
  | what.Visit o k d ↦ not (o == past)
  | what.Cast o k ↦ not (o == past)
  | _ ↦ false
]

-- the set of a client is taken in, and its Done is no longer to come
abbrev pub takes_in : ℕ → Channels → App → App
takes_in client set b = record b { set = both_sets b.set set; awaited = slice_set b.awaited (client - 1) false }

-- the message is kept
pub record KeepsIt (m : Mail) (s t : Doing Mail App) : Type 0 where
  pub body : t.body ≡ record s.body { kept = s.body.kept ++ m ∷ [] }
  pub acts : t.acts ≡ s.acts

-- what is done with a message that is served
abbrev pub Does : ℕ → Content → Doing Mail App → Doing Mail App → Type 0
Does sender (content.Done set) s t = (t.body ≡ takes_in sender set.value s.body) × (t.acts ≡ s.acts)
Does sender (content.Visit token) s t = PassesVisit 0 (marks_of 0 token.value.device s.body.set) token.value s.acts t.acts × (t.body ≡ s.body)
Does sender (content.Cast token) s t = PassesCast 0 (0 ∷ []) token.value s.acts t.acts × (t.body ≡ s.body)
Does sender _ s t = ⊥

abbrev pub HandlesAs : Bool → Mail → Doing Mail App → Doing Mail App → Type 0
HandlesAs true m s t = Does m.sender m.content s t
HandlesAs false m s t = KeepsIt m s t

abbrev pub Handles : Mail → Doing Mail App → Doing Mail App → Type 0
Handles m s t = HandlesAs (serves s.body (letter_of m)) m s t

-- what is done with a token that goes past a thread
abbrev pub Skips : ℕ → Content → Doing Mail App → Doing Mail App → Type 0
Skips past (content.Visit token) s t = PassesVisit past [] token.value s.acts t.acts × (t.body ≡ s.body)
Skips past (content.Cast token) s t = PassesCast past [] token.value s.acts t.acts × (t.body ≡ s.body)
Skips past _ s t = ⊥

abbrev pub HandlesBackAs : Bool → ℕ → Mail → Doing Mail App → Doing Mail App → Type 0
HandlesBackAs true past m s t = Skips past m.content s t
HandlesBackAs false past m s t = KeepsIt m s t

abbrev pub HandlesBack : ℕ → Mail → Doing Mail App → Doing Mail App → Type 0
HandlesBack past m s t = HandlesBackAs (sends_past s.body past (letter_of m)) past m s t
