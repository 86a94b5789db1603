-- What an owner keeps between its calls, and what its calls do.
use Rattle.std.specs.Prelude.{ℕ, ◌≡◌, ◌≤◌, ◌==◌, Bool, true, false, ◌&&◌, List, [], ◌∷◌, ◌++◌, map, reverse, length, Option, Some}
use Rattle.std.specs.List.{list_any}
use Rattle.std.specs.Arc.{arc_value}
use Rattle.lw_base.specs.declared.message.What.TheVariants as what
use Rattle.lw_model.specs.declared.script.Script.{Script}
use Rattle.lw_model.specs.declared.script.Op.{Op}
use Rattle.lw_model.specs.declared.record.Replied.{Replied}
use Rattle.lw_model.specs.Threads.{op_at, thread_count}
use Rattle.lw_image.specs.Image.{IsAfter}
use Rattle.lw_thread.specs.declared.body.Work.{Work}
use Rattle.lw_thread.specs.declared.body.Work.TheVariants.{Idle}
use Rattle.lw_thread.specs.Acts.{Known, Asks, Post, Doing}
use Rattle.lw_whole.specs.Letters.{Letter, answered, reached, threads_in}
use Rattle.lw_whole.specs.Sends.{ops_run}
use Rattle.lw_whole.specs.Unsent.{AreSent}
use Rattle.lw_whole.specs.Owners.{steps_run, Served, all_served}
use Rattle.lw_mail.specs.Runs.{Run}
use Rattle.lw_mail.specs.Saying.{letter_of}
use Rattle.lw_mail.specs.declared.mail.Mail.{Mail}
use Rattle.lw_passing.specs.Passing.{AsksFor, VisitGoesPast, CastGoesPast}
use Rattle.lw_owner.specs.declared.owner.Owner.{Owner}
use Rattle.lw_owner.specs.Serving.{IsOwnerOf, AnswersAs}
use Rattle.lw_owner.specs.Handling.{is_strange}

-- sends as pairs of a receiver and a letter
abbrev pub pairs : List (Post Letter) → List (ℕ × Letter)
pairs ps = map (λ p. (p.to, p.what)) ps

abbrev pub is_stop : Letter → Bool
is_stop x = elim x.tag.what [ what.Stop ↦ true | _ ↦ false ]

-- The log: what the thread has run is these letters, and each of them sent what stands at its place; what of that goes to each
-- thread was sent to it or is still to be. The image is what the requests among them make of it, and the owner has ended where
-- a Stop is among them.
pub record HasLog (s : Script) (k : Known Letter Run) (a : Asks Letter) (b : Owner) : Type 0 where
  pub runs : List Letter
  pub sends : List (List (ℕ × Letter))
  pub ran : k.ran ≡ reverse runs
  pub served : Served s k.thread runs sends
  pub sent : AreSent k.thread k.sent (pairs a.pending) (all_served sends)
  pub image : IsAfter b.image (ops_run s (steps_run runs))
  pub ended : b.ended ≡ list_any is_stop runs

-- what an owner keeps: it is one of the run that its ring's family names, by its thread's number; its image is what some requests
-- make of zeros; and where it keeps no message, the log. Where it keeps one, it never ends.
pub record Keeps (k : Known Letter Run) (a : Asks Letter) (b : Owner) : Type 0 where
  pub run : Run
  pub family : k.family ≡ Some run
  pub owner : IsOwnerOf run b
  pub number : k.thread ≡ b.thread
  pub threads : length k.sent ≡ thread_count run.script
  pub made : (past : List (Option Op)) × IsAfter b.image past
  pub few_writes : b.image.writes ≤ length k.ran
  pub log : b.kept ≡ [] → HasLog run.script k a b

-- the body has ended and keeps no message of others
abbrev pub may_end : Owner → Bool
may_end b = b.ended && length b.kept == 0

-- a request is answered at once, by the image as it then is
pub record RunsRequest (x : Letter) (k : ℕ) (s t : Doing Mail Owner) : Type 0 where
  pub of : Op
  pub its_op : op_at (arc_value s.body.script) x.tag.sender k ≡ Some of
  pub answer : Replied
  pub answers : AnswersAs s.body.image t.body.image of answer
  pub body : t.body ≡ record s.body { image = t.body.image }
  pub asked : AsksFor x.tag.sender (what.Reply k) (answered answer) s.acts t.acts

-- a message is kept
pub record Kept (x : Letter) (s t : Doing Mail Owner) : Type 0 where
  pub message : Mail
  pub letter : letter_of message ≡ x
  pub body : t.body ≡ record s.body { kept = s.body.kept ++ message ∷ [] }
  pub acts : t.acts ≡ s.acts

-- What is served: a request is answered, and a token goes on to the next thread, or behind the last one home. To a visit nothing is
-- added, to a cast this thread. At a Stop the owner ends.
abbrev pub Serves : Letter → Doing Mail Owner → Doing Mail Owner → Type 0
Serves x s t = elim x.tag.what [
  | what.Request k ↦ RunsRequest x k s t
  | what.Visit o k d ↦ VisitGoesPast o k d s.body.thread x.load s.acts t.acts × (t.body ≡ s.body)
  | what.Cast o k ↦ CastGoesPast o k s.body.thread (reached (threads_in x.load ++ s.body.thread ∷ [])) s.acts t.acts × (t.body ≡ s.body)
  | what.Stop ↦ (t.body ≡ record s.body { ended = true }) × (t.acts ≡ record s.acts { asked_end = true })
  | _ ↦ ⊥
]

-- what a run of a letter does: it is served, exactly unless no run sends such a message to an owner, which is kept then
abbrev pub RunsAs : Bool → Letter → Doing Mail Owner → Doing Mail Owner → Type 0
RunsAs true x s t = Kept x s t
RunsAs false x s t = Serves x s t

abbrev pub Runs : Letter → ℕ → Doing Mail Owner → Doing Mail Owner → Type 0
Runs x now s t = RunsAs (is_strange (arc_value s.body.script) x) x s t

-- an owner has no poller: a call of one does nothing
abbrev pub Ticks : ℕ → ℕ → Work → Doing Mail Owner → Doing Mail Owner → Type 0
Ticks number now work s t = (work ≡ Idle) × (t ≡ s)

-- what comes back is kept
abbrev pub TakesBack : ℕ → Letter → Doing Mail Owner → Doing Mail Owner → Type 0
TakesBack to x s t = Kept x s t
