-- The text of a record: its lines, a line as the list of its words.
use Rattle.std.specs.Prelude.{ℕ, List, [], ◌∷◌, ◌++◌, map, length, flat_map, codes, decimal, Option, Some, None}
use Rattle.std.specs.List.{join_with_byte, enumerate_from}
use Rattle.hex.specs.Hex.{encode_lower}
use Rattle.lw_model.specs.declared.script.ImageOf.{ImageOf}
use Rattle.lw_model.specs.declared.script.ClientOf.{ClientOf}
use Rattle.lw_model.specs.declared.script.Op.{Op}
use Rattle.lw_model.specs.declared.script.Op.TheVariants as op
use Rattle.lw_base.specs.declared.message.What.{What}
use Rattle.lw_base.specs.declared.message.What.TheVariants as what
use Rattle.lw_base.specs.declared.message.Tag.{Tag}
use Rattle.lw_base.specs.declared.message.Mark.{Mark}
use Rattle.lw_model.specs.declared.record.Record.{Record}
use Rattle.lw_base.specs.declared.moves.Scheduler.{Scheduler}
use Rattle.lw_base.specs.declared.moves.Scheduler.TheVariants.{Static, Dynamic}
use Rattle.lw_model.specs.declared.record.ThreadRecord.{ThreadRecord}
use Rattle.lw_model.specs.declared.record.RoleKind.{RoleKind}
use Rattle.lw_model.specs.declared.record.RoleKind.TheVariants.{App, Client, Owner}
use Rattle.lw_base.specs.declared.moves.Hop.{Hop}
use Rattle.lw_model.specs.declared.record.Did.{Did}
use Rattle.lw_model.specs.declared.record.Answer.{Answer}
use Rattle.lw_model.specs.declared.record.Answer.TheVariants as answer
use Rattle.lw_model.specs.declared.record.Called.{Called}
use Rattle.lw_model.specs.declared.record.Reply.{Reply}
use Rattle.lw_model.specs.declared.record.Replied.{Replied}
use Rattle.lw_model.specs.declared.record.Replied.TheVariants as replied
use Rattle.lw_model.specs.declared.record.Seen.{Seen}
use Rattle.lw_model.specs.declared.record.SeenBy.{SeenBy}
use Rattle.lw_model.specs.declared.record.SeenBy.TheVariants as seen
use Rattle.lw_base.specs.declared.ends.DeviceEnd.{DeviceEnd}
use Rattle.lw_model.specs.declared.record.Span.{Span}
use Rattle.lw_base.specs.declared.moves.Round.{Round}
use Rattle.lw_base.specs.declared.moves.Row.{Row}
use Rattle.lw_base.specs.declared.moves.Order.{Order}

-- ---- words, lines and text

abbrev pub Word : Type 0
Word = List ℕ

-- words with one space between each two
abbrev pub line : List Word → List ℕ
line words = join_with_byte 32 words

-- lines, each ended by a line feed
abbrev pub text_of_lines : List (List ℕ) → List ℕ
text_of_lines lines = flat_map (λ l. l ++ 10 ∷ []) lines

-- the length of a list, in decimal
abbrev pub count_of : {A : Type 0} → List A → Word
count_of xs = decimal (length xs)

-- ---- the script's lines

abbrev pub scheduler_word : Scheduler → Word
scheduler_word Static = codes "static"
scheduler_word Dynamic = codes "dynamic"

abbrev pub image_line : ImageOf → List ℕ
image_line i = line (codes "image" ∷ i.name ∷ decimal i.block ∷ decimal i.blocks ∷ [])

abbrev pub op_words : Op → List Word
op_words (op.Get d) = codes "get" ∷ decimal d ∷ []
op_words (op.Put d) = codes "put" ∷ decimal d ∷ []
op_words (op.Write d start count pattern) = codes "write" ∷ decimal d ∷ decimal start ∷ decimal count ∷ encode_lower pattern ∷ []
op_words (op.Read d start count) = codes "read" ∷ decimal d ∷ decimal start ∷ decimal count ∷ []
op_words (op.Flush d) = codes "flush" ∷ decimal d ∷ []
op_words (op.Wait ticks) = codes "wait" ∷ decimal ticks ∷ []
op_words (op.Visit d) = codes "visit" ∷ decimal d ∷ []
op_words op.Each = codes "each" ∷ []
op_words (op.Unregister d) = codes "unregister" ∷ decimal d ∷ []

abbrev pub op_line : Op → List ℕ
op_line o = line (codes "op" ∷ op_words o)

abbrev pub client_line : ClientOf → List ℕ
client_line c = line (codes "client" ∷ c.name ∷ decimal c.depth ∷ count_of c.ops ∷ [])

abbrev pub client_lines : ClientOf → List (List ℕ)
client_lines c = client_line c ∷ map op_line c.ops

-- ---- a thread's lines

abbrev pub role_word : RoleKind → Word
role_word App = codes "app"
role_word Client = codes "client"
role_word Owner = codes "owner"

abbrev pub hop_line : Hop → List ℕ
hop_line h = line (codes "hop" ∷ decimal h.round ∷ decimal h.reactor ∷ [])

-- what a record has no line for, has no words
abbrev pub what_words : What → List Word
what_words (what.Request k) = codes "request" ∷ decimal k ∷ []
what_words (what.Reply k) = codes "reply" ∷ decimal k ∷ []
what_words (what.PutSelf d) = codes "putself" ∷ decimal d ∷ []
what_words (what.Visit origin k d) = codes "visit" ∷ decimal origin ∷ decimal k ∷ decimal d ∷ []
what_words (what.Visited k) = codes "visited" ∷ decimal k ∷ []
what_words (what.Cast origin k) = codes "cast" ∷ decimal origin ∷ decimal k ∷ []
what_words (what.Casted k) = codes "casted" ∷ decimal k ∷ []
what_words what.Done = codes "done" ∷ []
what_words what.Stop = codes "stop" ∷ []
what_words (what.Arrive round thread) = []
what_words (what.Order round thread to) = []

abbrev pub ran_line : Tag → List ℕ
ran_line t = line (codes "ran" ∷ decimal t.sender ∷ decimal t.number ∷ what_words t.what)

abbrev pub answer_words : Answer → List Word
answer_words (answer.Given n) = codes "given" ∷ decimal n ∷ []
answer_words (answer.Again n) = codes "again" ∷ decimal n ∷ []
answer_words answer.Shut = codes "shut" ∷ []
answer_words answer.Counted = codes "counted" ∷ []
answer_words answer.Deferred = codes "deferred" ∷ []
answer_words answer.NoChannel = codes "nochannel" ∷ []
answer_words answer.Sent = codes "sent" ∷ []
answer_words answer.Waited = codes "waited" ∷ []
answer_words answer.Started = codes "started" ∷ []
answer_words (answer.Began n) = codes "began" ∷ decimal n ∷ []
answer_words answer.Already = codes "already" ∷ []
answer_words answer.Closed = codes "closed" ∷ []

abbrev pub did_line : Did → List ℕ
did_line d = line (codes "did" ∷ decimal d.at ∷ decimal d.op ∷ answer_words d.answer)

abbrev pub called_line : Called → List ℕ
called_line c = line (codes "called" ∷ decimal c.at ∷ decimal c.device ∷ [])

abbrev pub replied_words : Replied → List Word
replied_words replied.Ok = codes "ok" ∷ []
replied_words (replied.Bytes bytes) = codes "bytes" ∷ encode_lower bytes ∷ []
replied_words (replied.Writes n) = codes "writes" ∷ decimal n ∷ []

abbrev pub reply_line : Reply → List ℕ
reply_line r = line (codes "reply" ∷ decimal r.op ∷ replied_words r.answer)

abbrev pub mark_word : Mark → Word
mark_word m = decimal m.thread ++ 58 ∷ decimal m.submitted

abbrev pub result_words : SeenBy → List Word
result_words (seen.Visit marks) = map mark_word marks
result_words (seen.Cast threads) = map decimal threads

abbrev pub seen_line : Seen → List ℕ
seen_line s = line (codes "seen" ∷ decimal s.op ∷ result_words s.results)

abbrev pub thread_line : ℕ → ThreadRecord → List ℕ
thread_line n t = line (codes "thread" ∷ decimal n ∷ role_word t.role ∷ decimal t.home ∷ [])

abbrev pub thread_lines : ℕ → ThreadRecord → List (List ℕ)
thread_lines n t =
    thread_line n t
    ∷ map hop_line t.hops
    ++ map ran_line t.ran
    ++ map did_line t.did
    ++ map called_line t.called
    ++ map reply_line t.replies
    ++ map seen_line t.seen

-- ---- the lines of devices and rounds

abbrev pub device_line : ℕ → DeviceEnd → List ℕ
device_line n d = line (codes "device" ∷ decimal n ∷ decimal d.given ∷ decimal d.thread ∷ decimal d.callbacks ∷ [])

abbrev pub clock_lines : Option Span → List (List ℕ)
clock_lines None = []
clock_lines (Some s) = line (codes "clock" ∷ decimal s.first ∷ decimal s.last ∷ []) ∷ []

abbrev pub row_line : Row → List ℕ
row_line r = line (codes "row" ∷ decimal r.thread ∷ decimal r.reactor ∷ decimal r.busy ∷ decimal r.idle ∷ [])

abbrev pub order_line : Order → List ℕ
order_line o = line (codes "order" ∷ decimal o.thread ∷ decimal o.to ∷ [])

abbrev pub round_line : Round → List ℕ
round_line r = line (codes "round" ∷ decimal r.number ∷ decimal r.time ∷ [])

abbrev pub round_lines : Round → List (List ℕ)
round_lines r = round_line r ∷ map row_line r.rows ++ map order_line r.orders

-- ---- the record's text

abbrev pub head_lines : Record → List (List ℕ)
head_lines r =
    (codes "lightrun report 1"
    ∷ line (codes "scheduler" ∷ scheduler_word r.scheduler ∷ [])
    ∷ line (codes "reactors" ∷ decimal r.reactors ∷ [])
    ∷ line (codes "period" ∷ decimal r.period ∷ [])
    ∷ line (codes "pool" ∷ decimal r.script.small ∷ decimal r.script.large ∷ [])
    ∷ [])

abbrev pub lines_of : Record → List (List ℕ)
lines_of r =
    head_lines r
    ++ line (codes "images" ∷ count_of r.script.images ∷ []) ∷ map image_line r.script.images
    ++ line (codes "clients" ∷ count_of r.script.clients ∷ []) ∷ flat_map client_lines r.script.clients
    ++ flat_map (λ p. thread_lines p.0 p.1) (enumerate_from 0 r.threads)
    ++ map (λ p. device_line p.0 p.1) (enumerate_from 0 r.devices)
    ++ clock_lines r.span
    ++ flat_map round_lines r.rounds
    ++ line (codes "home" ∷ decimal r.home.small ∷ decimal r.home.large ∷ []) ∷ codes "end" ∷ []

abbrev pub text_of : Record → List ℕ
text_of r = text_of_lines (lines_of r)
