-- What an owner does with a message.
use Rattle.std.specs.Prelude.{ℕ, ◌≡◌, ◌+◌, ◌≤◌, ◌==◌, Bool, true, false, not, [], ◌∷◌, ◌++◌, Some}
use Rattle.std.specs.Arc.{arc_value}
use Rattle.lw_base.specs.declared.message.What.TheVariants as what
use Rattle.lw_model.specs.declared.script.Op.{Op}
use Rattle.lw_model.specs.declared.script.Script.{Script}
use Rattle.lw_model.specs.Threads.{op_at, is_client}
use Rattle.lw_pool.specs.PoolEnds.{BufferEnd}
use Rattle.lw_thread.specs.Acts.{Doing}
use Rattle.lw_whole.specs.Letters.{Letter, Load, asked}
use Rattle.lw_mail.specs.Saying.{letter_of}
use Rattle.lw_mail.specs.declared.mail.Mail.{Mail}
use Rattle.lw_mail.specs.declared.mail.Content.{Content}
use Rattle.lw_mail.specs.declared.mail.Content.TheVariants as content
use Rattle.lw_passing.specs.Passing.{Asks, PassesVisit, PassesCast}
use Rattle.lw_owner.specs.declared.owner.Owner.{Owner}
use Rattle.lw_owner.specs.Serving.{IsReply, IsPlain, ReadsInto}

-- whether a request carries the name of this thread
abbrev pub asks_as : Load → ℕ → Bool
asks_as (asked client) sender = client == sender
asks_as _ sender = false

-- a message that no run sends to an owner: a request in the name of another client than sent it, a token that no client began, or
-- what goes to clients or to the app
abbrev pub is_strange : Script → Letter → Bool
is_strange s x = elim x.tag.what [
  | what.Request k ↦ not (asks_as x.load x.tag.sender)
  | what.Visit o k d ↦ not (is_client s o)
  | what.Cast o k ↦ not (is_client s o)
  | what.Stop ↦ false
  | _ ↦ true
]

-- what is no such message
abbrev pub IsServed : Content → Type 0
IsServed (content.Request client k) = Unit {0}
IsServed (content.Read client k buffer) = Unit {0}
IsServed (content.Visit token) = Unit {0}
IsServed (content.Cast token) = Unit {0}
IsServed content.Stop = Unit {0}
IsServed _ = ⊥

-- the message is kept
pub record KeepsIt (m : Mail) (s t : Doing Mail Owner) : Type 0 where
  pub body : t.body ≡ record s.body { kept = s.body.kept ++ m ∷ [] }
  pub acts : t.acts ≡ s.acts

-- the op k of the client is run, and its reply is asked to be sent to the client
pub record Answers (client k : ℕ) (s t : Doing Mail Owner) : Type 0 where
  pub of : Op
  pub its_op : op_at (arc_value s.body.script) client k ≡ Some of
  pub reply : Content
  pub is : IsReply s.body.image t.body.image of k reply
  pub size : (t.body.image.block ≡ s.body.image.block) × (t.body.image.blocks ≡ s.body.image.blocks)
  pub writes : t.body.image.writes ≤ s.body.image.writes + 1
  pub body : t.body ≡ record s.body { image = t.body.image }
  pub asked : Asks client reply s.acts t.acts

-- of a write or a flush no buffer goes back
pub record AnswersPlain (client k : ℕ) (s t : Doing Mail Owner) : Type 0 where
  pub answers : Answers client k s t
  pub plain : IsPlain answers.reply

-- of a read its own does
pub record AnswersRead (client k : ℕ) (b : BufferEnd) (s t : Doing Mail Owner) : Type 0 where
  pub answers : Answers client k s t
  pub into : ReadsInto s.body.image answers.of k b answers.reply

-- What is done with a message that is not strange. To a visit an owner adds no mark, to a cast its thread.
abbrev pub Does : Content → Doing Mail Owner → Doing Mail Owner → Type 0
Does (content.Request client k) s t = AnswersPlain client k s t
Does (content.Read client k b) s t = AnswersRead client k b s t
Does (content.Visit token) s t = PassesVisit s.body.thread [] token.value s.acts t.acts × (t.body ≡ s.body)
Does (content.Cast token) s t = PassesCast s.body.thread (s.body.thread ∷ []) token.value s.acts t.acts × (t.body ≡ s.body)
Does content.Stop s t = (t.body ≡ record s.body { ended = true }) × (t.acts ≡ record s.acts { asked_end = true })
Does _ s t = ⊥

-- what is done with any message, by whether it is strange
abbrev pub HandlesAs : Bool → Mail → Doing Mail Owner → Doing Mail Owner → Type 0
HandlesAs true m s t = KeepsIt m s t
HandlesAs false m s t = Does m.content s t

abbrev pub Handles : Mail → Doing Mail Owner → Doing Mail Owner → Type 0
Handles m s t = HandlesAs (is_strange (arc_value s.body.script) (letter_of m)) m s t
