-- What a message says: its letter.
use Rattle.std.specs.Prelude.{List, map}
use Rattle.lw_base.specs.declared.message.What.{What}
use Rattle.lw_base.specs.declared.message.What.TheVariants as what
use Rattle.lw_latch.specs.DeviceEnds.{SeatEnd}
use Rattle.lw_model.specs.declared.record.Replied.TheVariants as replied
use Rattle.lw_pool.specs.PoolEnds.{filled_bytes}
use Rattle.lw_whole.specs.Letters.{Load, nothing, asked, answered, marked, reached, row, Letter, Note}
use Rattle.lw_mail.specs.declared.mail.Mail.{Mail}
use Rattle.lw_mail.specs.declared.mail.Content.{Content}
use Rattle.lw_mail.specs.declared.mail.Content.TheVariants as content

-- what a seat keeps of its device
abbrev pub note_of : SeatEnd → Note
note_of e = record { ordinals = e.view.ordinals; found = e.view.found; begun = e.view.begun; count = e.view.count; began_by = e.began_by; fired = e.view.fired }

abbrev pub notes_of : List SeatEnd → List Note
notes_of es = map note_of es

-- what a message is for
abbrev pub what_of : Content → What
what_of (content.Request client op) = what.Request op
what_of (content.Read client op buffer) = what.Request op
what_of (content.Written op) = what.Reply op
what_of (content.Filled op buffer) = what.Reply op
what_of (content.Flushed op writes) = what.Reply op
what_of (content.PutSelf device) = what.PutSelf device
what_of (content.Visit token) = what.Visit token.value.origin token.value.op token.value.device
what_of (content.Visited token) = what.Visited token.value.op
what_of (content.Cast token) = what.Cast token.value.origin token.value.op
what_of (content.Casted token) = what.Casted token.value.op
what_of (content.Done set) = what.Done
what_of content.Stop = what.Stop

-- what it carries: a request the client that it names, a reply its answer, where a read's is the filled bytes of its buffer; a token its results so far; a Done
-- the notes of its set's row
abbrev pub load_of : Content → Load
load_of (content.Request client op) = asked client
load_of (content.Read client op buffer) = asked client
load_of (content.Written op) = answered replied.Ok
load_of (content.Filled op buffer) = answered (replied.Bytes (filled_bytes buffer))
load_of (content.Flushed op writes) = answered (replied.Writes writes)
load_of (content.Visit token) = marked token.value.marks
load_of (content.Visited token) = marked token.value.marks
load_of (content.Cast token) = reached token.value.ran
load_of (content.Casted token) = reached token.value.ran
load_of (content.Done set) = row (notes_of set.value.row.seats)
load_of _ = nothing

-- its letter
abbrev pub letter_of : Mail → Letter
letter_of m = record { tag = record { sender = m.sender; number = m.number; what = what_of m.content }; load = load_of m.content }
