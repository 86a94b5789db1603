-- What a client does with a message, and with one that comes back.
use Rattle.std.specs.Prelude.{ℕ, ◌≡◌, ◌-◌, ◌==◌, ◌&&◌, ◌||◌, not, nat_lt, Bool, true, false, cond, List, [], ◌∷◌, ◌++◌, Option, Some, None, is_none, is_some, slice_index_or, slice_set}
use Rattle.std.specs.Arc.{arc_value}
use Rattle.lw_base.specs.declared.message.Mark.{Mark}
use Rattle.lw_model.specs.declared.script.Op.{Op}
use Rattle.lw_model.specs.declared.script.Op.TheVariants as op
use Rattle.lw_model.specs.declared.record.Replied.{Replied}
use Rattle.lw_model.specs.declared.record.Replied.TheVariants as replied
use Rattle.lw_model.specs.declared.record.SeenBy.TheVariants as by
use Rattle.lw_model.specs.Threads.{op_at, is_client}
use Rattle.lw_pool.specs.PoolEnds.{BufferEnd, filled_bytes, with_given}
use Rattle.lw_device.specs.Rows.{seat_not_visiting, seat_destroyed}
use Rattle.lw_channel.specs.Channels.{Channels, channel_of, destroys, channel_kept, channel_destroyed, with_channel, with_row, with_both}
use Rattle.lw_visit.specs.Tokens.{marks_of}
use Rattle.lw_whole.specs.Letters.{Letter}
use Rattle.lw_mail.specs.Saying.{letter_of}
use Rattle.lw_mail.specs.declared.mail.Mail.{Mail}
use Rattle.lw_mail.specs.declared.mail.Content.{Content}
use Rattle.lw_mail.specs.declared.mail.Content.TheVariants as content
use Rattle.lw_passing.specs.Passing.{PassesVisit, PassesCast}
use Rattle.lw_client.specs.declared.client.Client.{Client}
use Rattle.lw_client.specs.declared.client.Waits.{Waits}
use Rattle.lw_client.specs.declared.client.Waits.TheVariants as waits
use Rattle.lw_ops.specs.declared.kind.Kind.{Kind}
use Rattle.lw_ops.specs.declared.kind.Kind.TheVariants as kind
use Rattle.lw_ops.specs.Kinds.{requested}
use Rattle.lw_client.specs.Clients.{use_of}
use Rattle.lw_client.specs.Doing.{State, Becomes, with_set, with_use, use_answered, use_put}

-- the image whose owner has to answer the op, where that is an unanswered request of this kind
abbrev pub awaited : Client → ℕ → Kind → Option ℕ
awaited b k of = cond (slice_index_or b.unanswered k false) (requested of (op_at (arc_value b.script) b.thread k)) None

-- whether this visit, or this cast, is waited for
abbrev pub awaits_visit : Waits → ℕ → ℕ → Bool
awaits_visit (waits.Visit k d) j e = k == j && d == e
awaits_visit _ j e = false

abbrev pub awaits_cast : Waits → ℕ → Bool
awaits_cast (waits.Cast k) j = k == j
awaits_cast _ j = false

-- whether a PutSelf of the device is pending
abbrev pub has_put : Client → ℕ → Bool
has_put b d = is_some b.set && nat_lt 0 (use_of b d).puts

-- A message that no run sends to the client as it is: a reply to no unanswered request, or of another kind; a PutSelf that it didn't
-- send; a completion that it doesn't await; a token of no client, or of its own that it didn't start; a request, a Done or a Stop.
abbrev pub is_strange : Client → Content → Bool
is_strange b (content.Written k) = is_none (awaited b k kind.Write)
is_strange b (content.Filled k buffer) = is_none (awaited b k kind.Read)
is_strange b (content.Flushed k writes) = is_none (awaited b k kind.Flush)
is_strange b (content.PutSelf d) = not (has_put b d)
is_strange b (content.Visit token) = not (is_client (arc_value b.script) token.value.origin) || (token.value.origin == b.thread && not (awaits_visit b.waits token.value.op token.value.device))
is_strange b (content.Visited token) = not (awaits_visit b.waits token.value.op token.value.device)
is_strange b (content.Cast token) = not (is_client (arc_value b.script) token.value.origin) || (token.value.origin == b.thread && not (awaits_cast b.waits token.value.op))
is_strange b (content.Casted token) = not (awaits_cast b.waits token.value.op)
is_strange b _ = true

-- the message is kept as it came
pub record KeepsIt (m : Mail) (s t : State) : Type 0 where
  pub body : t.body ≡ record s.body { kept = s.body.kept ++ m ∷ [] }
  pub acts : t.acts ≡ s.acts

-- the op of this image is answered
abbrev pub answered_by : ℕ → ℕ → Replied → Client → Client
answered_by d k a b = record (with_use d use_answered b) { unanswered = slice_set b.unanswered k false; requests = b.requests - 1; replies = b.replies ++ record { op = k; answer = a } ∷ [] }

abbrev pub Answers : Kind → ℕ → Replied → State → State → Type 0
Answers of k a s t = (d : ℕ) × (awaited s.body k of ≡ Some d) × Becomes (answered_by d k a s.body) s t

-- the buffer of a read goes back to the pool, behind the line
abbrev pub AnswersRead : ℕ → BufferEnd → State → State → Type 0
AnswersRead k buffer s t = (d : ℕ) × (awaited s.body k kind.Read ≡ Some d)
    × Becomes (record (answered_by d k (replied.Bytes (filled_bytes buffer)) s.body) { pool = with_given buffer.class s.body.pool }) s t

-- the last PutSelf of a channel without references destroys it
abbrev pub put_run : Bool → ℕ → Channels → Channels
put_run true d x = with_both x d channel_destroyed seat_destroyed
put_run false d x = with_channel x d channel_kept

abbrev pub RunsPut : ℕ → State → State → Type 0
RunsPut d s t = (x : Channels) × (s.body.set ≡ Some x) × Becomes (with_use d use_put (with_set (put_run (destroys (channel_of x d)) d x) s.body)) s t

-- what the client adds to a visit: nothing once its set is gone
abbrev pub marks_with : Option Channels → ℕ → ℕ → List Mark
marks_with None here d = []
marks_with (Some x) here d = marks_of here d x

-- a visit or a cast has come home: its results are listed
abbrev pub visit_ended : ℕ → ℕ → List Mark → Channels → Client → Client
visit_ended k d marks x b = record (with_set (with_row x d seat_not_visiting) b) { waits = waits.Nothing; seen = b.seen ++ record { op = k; results = by.Visit marks } ∷ [] }

abbrev pub VisitEnds : ℕ → ℕ → List Mark → State → State → Type 0
VisitEnds k d marks s t = (x : Channels) × (s.body.set ≡ Some x) × Becomes (visit_ended k d marks x s.body) s t

abbrev pub cast_ended : ℕ → List ℕ → Client → Client
cast_ended k ran b = record b { waits = waits.Nothing; seen = b.seen ++ record { op = k; results = by.Cast ran } ∷ [] }

abbrev pub CastEnds : ℕ → List ℕ → State → State → Type 0
CastEnds k ran s t = Becomes (cast_ended k ran s.body) s t

-- what is done with a message that isn't strange
abbrev pub Serves : Content → State → State → Type 0
Serves (content.Written k) s t = Answers kind.Write k replied.Ok s t
Serves (content.Filled k buffer) s t = AnswersRead k buffer s t
Serves (content.Flushed k writes) s t = Answers kind.Flush k (replied.Writes writes) s t
Serves (content.PutSelf d) s t = RunsPut d s t
Serves (content.Visit token) s t = PassesVisit s.body.thread (marks_with s.body.set s.body.thread token.value.device) token.value s.acts t.acts × (t.body ≡ s.body)
Serves (content.Visited token) s t = VisitEnds token.value.op token.value.device token.value.marks s t
Serves (content.Cast token) s t = PassesCast s.body.thread (s.body.thread ∷ []) token.value s.acts t.acts × (t.body ≡ s.body)
Serves (content.Casted token) s t = CastEnds token.value.op token.value.ran s t
Serves _ s t = ⊥

abbrev pub HandlesAs : Bool → Mail → State → State → Type 0
HandlesAs true m s t = KeepsIt m s t
HandlesAs false m s t = Serves m.content s t

abbrev pub Handles : Mail → State → State → Type 0
Handles m s t = HandlesAs (is_strange s.body m.content) m s t

-- Whether what comes back goes past the thread `to`, which has ended: a token does, where that thread is a client other than the
-- token's origin.
abbrev pub goes_past : Client → ℕ → Content → Bool
goes_past b to (content.Visit token) = is_client (arc_value b.script) to && not (token.value.origin == to)
goes_past b to (content.Cast token) = is_client (arc_value b.script) to && not (token.value.origin == to)
goes_past b to _ = false

abbrev pub SendsPast : ℕ → Content → State → State → Type 0
SendsPast to (content.Visit token) s t = PassesVisit to [] token.value s.acts t.acts × (t.body ≡ s.body)
SendsPast to (content.Cast token) s t = PassesCast to [] token.value s.acts t.acts × (t.body ≡ s.body)
SendsPast to _ s t = ⊥

abbrev pub ReturnsAs : Bool → ℕ → Mail → State → State → Type 0
ReturnsAs true to m s t = SendsPast to m.content s t
ReturnsAs false to m s t = KeepsIt m s t

abbrev pub Returns : ℕ → Mail → State → State → Type 0
Returns to m s t = ReturnsAs (goes_past s.body to m.content) to m s t

-- The same of a letter: a message that says so was handled.
abbrev pub Runs : Letter → ℕ → State → State → Type 0
Runs x now s t = (m : Mail) × (letter_of m ≡ x) × Handles m s t

abbrev pub TakesBack : ℕ → Letter → State → State → Type 0
TakesBack to x s t = (m : Mail) × (letter_of m ≡ x) × Returns to m s t
