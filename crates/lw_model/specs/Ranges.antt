-- Numbers that fit their types: what every script and every record that a program holds has, said of plain data.
use Rattle.std.specs.Prelude.{ℕ, ◌+◌, ◌≤◌, length, Option, Some, None}
use Rattle.std.specs.List.{AllByRecursion}
use Rattle.hex.specs.Hex.{IsBytes}
use Rattle.lw_base.specs.declared.message.What.{What}
use Rattle.lw_base.specs.declared.message.What.TheVariants as what
use Rattle.lw_base.specs.declared.message.Tag.{Tag}
use Rattle.lw_base.specs.declared.message.Mark.{Mark}
use Rattle.lw_base.specs.declared.moves.Hop.{Hop}
use Rattle.lw_base.specs.declared.moves.Round.{Round}
use Rattle.lw_base.specs.declared.moves.Row.{Row}
use Rattle.lw_base.specs.declared.moves.Order.{Order}
use Rattle.lw_base.specs.declared.ends.DeviceEnd.{DeviceEnd}
use Rattle.lw_base.specs.declared.ends.Home.{Home}
use Rattle.lw_base.specs.Words.{greatest_u32, greatest_u64}
use Rattle.lw_model.specs.declared.script.Script.{Script}
use Rattle.lw_model.specs.declared.script.ImageOf.{ImageOf}
use Rattle.lw_model.specs.declared.script.ClientOf.{ClientOf}
use Rattle.lw_model.specs.declared.script.Op.{Op}
use Rattle.lw_model.specs.declared.script.Op.TheVariants as op
use Rattle.lw_model.specs.declared.record.Record.{Record}
use Rattle.lw_model.specs.declared.record.ThreadRecord.{ThreadRecord}
use Rattle.lw_model.specs.declared.record.Did.{Did}
use Rattle.lw_model.specs.declared.record.Answer.{Answer}
use Rattle.lw_model.specs.declared.record.Answer.TheVariants as answer
use Rattle.lw_model.specs.declared.record.Called.{Called}
use Rattle.lw_model.specs.declared.record.Reply.{Reply}
use Rattle.lw_model.specs.declared.record.Replied.{Replied}
use Rattle.lw_model.specs.declared.record.Replied.TheVariants as replied
use Rattle.lw_model.specs.declared.record.Seen.{Seen}
use Rattle.lw_model.specs.declared.record.SeenBy.{SeenBy}
use Rattle.lw_model.specs.declared.record.SeenBy.TheVariants as by
use Rattle.lw_model.specs.declared.record.Span.{Span}

-- a number is a u32
abbrev pub Fits32 : ℕ → Type 0
Fits32 n = n ≤ greatest_u32

-- a number is a u64
abbrev pub Fits64 : ℕ → Type 0
Fits64 n = n ≤ greatest_u64

-- ---- a script

abbrev pub ImageFits : ImageOf → Type 0
ImageFits i = Fits32 i.block × Fits64 i.blocks

-- blocks, ticks and the bytes of a pattern too
abbrev pub OpFits : Op → Type 0
OpFits (op.Get d) = Fits32 d
OpFits (op.Put d) = Fits32 d
OpFits (op.Write d start count pattern) = Fits32 d × Fits64 start × Fits64 count × IsBytes pattern
OpFits (op.Read d start count) = Fits32 d × Fits64 start × Fits64 count
OpFits (op.Flush d) = Fits32 d
OpFits (op.Wait ticks) = Fits64 ticks
OpFits (op.Visit d) = Fits32 d
OpFits op.Each = Unit {0}
OpFits (op.Unregister d) = Fits32 d

-- the number of its ops is one that is said
abbrev pub ClientFits : ClientOf → Type 0
ClientFits c = Fits32 c.depth × AllByRecursion OpFits c.ops × Fits64 (length c.ops)

-- so is the number of its threads: the app, the clients and the owners of the images
pub record ScriptFits (s : Script) : Type 0 where
  pub images : AllByRecursion ImageFits s.images
  pub clients : AllByRecursion ClientFits s.clients
  pub small : Fits32 s.small
  pub large : Fits32 s.large
  pub count : Fits64 (1 + length s.clients + length s.images)

-- ---- a thread

abbrev pub HopFits : Hop → Type 0
HopFits h = Fits32 h.round × Fits32 h.reactor

abbrev pub WhatFits : What → Type 0
WhatFits (what.Request k) = Fits32 k
WhatFits (what.Reply k) = Fits32 k
WhatFits (what.PutSelf d) = Fits32 d
WhatFits (what.Visit origin k d) = Fits32 origin × Fits32 k × Fits32 d
WhatFits (what.Visited k) = Fits32 k
WhatFits (what.Cast origin k) = Fits32 origin × Fits32 k
WhatFits (what.Casted k) = Fits32 k
WhatFits what.Done = Unit {0}
WhatFits what.Stop = Unit {0}
WhatFits (what.Arrive round thread) = Fits32 round × Fits32 thread
WhatFits (what.Order round thread to) = Fits32 round × Fits32 thread × Fits32 to

abbrev pub TagFits : Tag → Type 0
TagFits m = Fits32 m.sender × Fits64 m.number × WhatFits m.what

abbrev pub AnswerFits : Answer → Type 0
AnswerFits (answer.Given n) = Fits64 n
AnswerFits (answer.Again n) = Fits64 n
AnswerFits (answer.Began n) = Fits64 n
AnswerFits _ = Unit {0}

abbrev pub DidFits : Did → Type 0
DidFits x = Fits64 x.at × Fits32 x.op × AnswerFits x.answer

abbrev pub CalledFits : Called → Type 0
CalledFits x = Fits64 x.at × Fits32 x.device

abbrev pub RepliedFits : Replied → Type 0
RepliedFits replied.Ok = Unit {0}
RepliedFits (replied.Bytes bytes) = IsBytes bytes
RepliedFits (replied.Writes n) = Fits64 n

abbrev pub ReplyFits : Reply → Type 0
ReplyFits x = Fits32 x.op × RepliedFits x.answer

abbrev pub MarkFits : Mark → Type 0
MarkFits m = Fits32 m.thread × Fits64 m.submitted

abbrev pub SeenByFits : SeenBy → Type 0
SeenByFits (by.Visit marks) = AllByRecursion MarkFits marks
SeenByFits (by.Cast threads) = AllByRecursion Fits32 threads

abbrev pub SeenFits : Seen → Type 0
SeenFits x = Fits32 x.op × SeenByFits x.results

pub record ThreadFits (x : ThreadRecord) : Type 0 where
  pub home : Fits32 x.home
  pub hops : AllByRecursion HopFits x.hops
  pub ran : AllByRecursion TagFits x.ran
  pub did : AllByRecursion DidFits x.did
  pub called : AllByRecursion CalledFits x.called
  pub replies : AllByRecursion ReplyFits x.replies
  pub seen : AllByRecursion SeenFits x.seen

-- ---- devices, rounds and the pool

abbrev pub DeviceFits : DeviceEnd → Type 0
DeviceFits d = Fits64 d.given × Fits32 d.thread × Fits32 d.callbacks

abbrev pub SpanFits : Option Span → Type 0
SpanFits None = Unit {0}
SpanFits (Some s) = Fits64 s.first × Fits64 s.last

abbrev pub RowFits : Row → Type 0
RowFits x = Fits32 x.thread × Fits32 x.reactor × Fits64 x.busy × Fits64 x.idle

abbrev pub OrderFits : Order → Type 0
OrderFits x = Fits32 x.thread × Fits32 x.to

abbrev pub RoundFits : Round → Type 0
RoundFits x = Fits32 x.number × Fits64 x.time × AllByRecursion RowFits x.rows × AllByRecursion OrderFits x.orders

abbrev pub HomeFits : Home → Type 0
HomeFits h = Fits32 h.small × Fits32 h.large

-- ---- a record

-- each of its numbers fits its type, and so do the lengths of the lists that are counted
pub record RecordFits (r : Record) : Type 0 where
  pub script : ScriptFits r.script
  pub reactors : Fits32 r.reactors
  pub period : Fits64 r.period
  pub threads : AllByRecursion ThreadFits r.threads
  pub devices : AllByRecursion DeviceFits r.devices
  pub span : SpanFits r.span
  pub rounds : AllByRecursion RoundFits r.rounds
  pub home : HomeFits r.home
