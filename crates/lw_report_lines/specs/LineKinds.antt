-- The lines of a report, kind by kind: what a line says, where it is one of the kind.
use Rattle.std.specs.Prelude.{ℕ, zero, suc, Bool, ◌&&◌, ◌==◌, nat_lt, ◌||◌, not, List, [], ◌∷◌, codes, length, filter, is_some, if◌then◌else◌, Option, Some, None, Ok, Err, option_map, option_and_then}
use Rattle.std.specs.List.{list_all}
use Rattle.std.specs.Str.{is_utf8}
use Rattle.hex.specs.Hex.{decode_of}
use Rattle.lw_model.specs.ScriptShape.{pattern_of}
use Rattle.lw_model.specs.ScriptRules.{is_within}
use Rattle.lw_model.specs.ReportText.{role_word}
use Rattle.lw_model.specs.ScriptShape.{◌>>=◌}
use Rattle.lw_base.specs.declared.message.What.{What}
use Rattle.lw_base.specs.declared.message.What.TheVariants as what
use Rattle.lw_base.specs.declared.message.Tag.{Tag}
use Rattle.lw_base.specs.declared.message.Mark.{Mark}
use Rattle.lw_model.specs.declared.script.ImageOf.{ImageOf}
use Rattle.lw_model.specs.declared.script.Op.{Op}
use Rattle.lw_model.specs.declared.script.Op.TheVariants as op
use Rattle.lw_model.specs.declared.record.RoleKind.{RoleKind}
use Rattle.lw_model.specs.declared.record.Reply.{Reply}
use Rattle.lw_model.specs.declared.record.Replied.{Replied}
use Rattle.lw_model.specs.declared.record.Replied.TheVariants as replied
use Rattle.lw_model.specs.declared.record.Seen.{Seen}
use Rattle.lw_model.specs.declared.record.SeenBy.{SeenBy}
use Rattle.lw_model.specs.declared.record.SeenBy.TheVariants as by
use Rattle.lw_base.specs.declared.moves.Hop.{Hop}
use Rattle.lw_model.specs.declared.record.Did.{Did}
use Rattle.lw_model.specs.declared.record.Answer.{Answer}
use Rattle.lw_model.specs.declared.record.Answer.TheVariants as answer
use Rattle.lw_model.specs.declared.record.Called.{Called}
use Rattle.lw_base.specs.declared.ends.DeviceEnd.{DeviceEnd}
use Rattle.lw_base.specs.declared.ends.Home.{Home}
use Rattle.lw_base.specs.Words.{greatest_u32, greatest_u64}
use Rattle.lw_report_lines.specs.declared.script_lines.ClientHead.{ClientHead}
use Rattle.lw_report_lines.specs.LineParts.{after, number, spaced, word, is_end}

-- ---- the parts of lines

-- the value, where nothing is left of the line
abbrev pub ended : {X : Type 0} → List ℕ → X → Option X
ended rest x = if is_end rest then Some x else None

-- what one number, of 32 or of 64 bits, says where the line ends behind it
abbrev pub last32 : List ℕ → Option ℕ
last32 l = do
  n ← spaced greatest_u32 l
  ended n.1 n.0

abbrev pub last64 : List ℕ → Option ℕ
last64 l = do
  n ← spaced greatest_u64 l
  ended n.1 n.0

abbrev pub hop_in : List ℕ → Option Hop
hop_in l = do
  a ← after (codes "hop") l
  round ← spaced greatest_u32 a
  reactor ← spaced greatest_u32 round.1
  ended reactor.1 (record { round = round.0; reactor = reactor.0 })

-- what is read behind a text, where the line goes on with it, and else another choice
abbrev pub choose : {X : Type 0} → List ℕ → List ℕ → (List ℕ → Option X) → Option X → Option X
choose text l behind other = elim (after text l) [ Some rest ↦ behind rest | None ↦ other ]

abbrev pub visit_in : List ℕ → Option What
visit_in l = do
  origin ← spaced greatest_u32 l
  k ← spaced greatest_u32 origin.1
  d ← spaced greatest_u32 k.1
  ended d.1 (what.Visit origin.0 k.0 d.0)

abbrev pub cast_in : List ℕ → Option What
cast_in l = do
  origin ← spaced greatest_u32 l
  k ← spaced greatest_u32 origin.1
  ended k.1 (what.Cast origin.0 k.0)

-- what a message is for. A word that another begins with stands behind it.
abbrev pub what_in : List ℕ → Option What
what_in l =
    choose (codes " request") l (λ rest. option_map what.Request (last32 rest))
    (choose (codes " reply") l (λ rest. option_map what.Reply (last32 rest))
    (choose (codes " putself") l (λ rest. option_map what.PutSelf (last32 rest))
    (choose (codes " visited") l (λ rest. option_map what.Visited (last32 rest))
    (choose (codes " visit") l visit_in
    (choose (codes " casted") l (λ rest. option_map what.Casted (last32 rest))
    (choose (codes " cast") l cast_in
    (choose (codes " done") l (λ rest. ended rest what.Done)
    (choose (codes " stop") l (λ rest. ended rest what.Stop) None))))))))

abbrev pub ran_in : List ℕ → Option Tag
ran_in l = do
  a ← after (codes "ran") l
  sender ← spaced greatest_u32 a
  number ← spaced greatest_u64 sender.1
  w ← what_in number.1
  Some (record { sender = sender.0; number = number.0; what = w })

abbrev pub answer_in : List ℕ → Option Answer
answer_in l =
    choose (codes " given") l (λ rest. option_map answer.Given (last64 rest))
    (choose (codes " again") l (λ rest. option_map answer.Again (last64 rest))
    (choose (codes " shut") l (λ rest. ended rest answer.Shut)
    (choose (codes " counted") l (λ rest. ended rest answer.Counted)
    (choose (codes " deferred") l (λ rest. ended rest answer.Deferred)
    (choose (codes " nochannel") l (λ rest. ended rest answer.NoChannel)
    (choose (codes " sent") l (λ rest. ended rest answer.Sent)
    (choose (codes " waited") l (λ rest. ended rest answer.Waited)
    (choose (codes " started") l (λ rest. ended rest answer.Started)
    (choose (codes " began") l (λ rest. option_map answer.Began (last64 rest))
    (choose (codes " already") l (λ rest. ended rest answer.Already)
    (choose (codes " closed") l (λ rest. ended rest answer.Closed) None)))))))))))

abbrev pub did_in : List ℕ → Option Did
did_in l = do
  a ← after (codes "did") l
  at ← spaced greatest_u64 a
  k ← spaced greatest_u32 at.1
  x ← answer_in k.1
  Some (record { at = at.0; op = k.0; answer = x })

-- of a device that the script has
abbrev pub called_in : ℕ → List ℕ → Option Called
called_in images l = do
  a ← after (codes "called") l
  at ← spaced greatest_u64 a
  d ← last32 at.1
  if nat_lt d images then Some (record { at = at.0; device = d }) else None

abbrev pub is_no_capital : ℕ → Bool
is_no_capital b = not (is_within 65 90 b)

-- the last word of a line, where no letter of it is a capital
abbrev pub last_digits : List ℕ → Option (List ℕ)
last_digits l = do
  w ← word l
  if is_end w.1 && list_all is_no_capital w.0 then Some w.0 else None

-- the bytes of hexadecimal digits, where that is what they are
abbrev pub decoded : List ℕ → Option (List ℕ)
decoded digits = elim (decode_of digits) [ Ok bytes ↦ Some bytes | Err e ↦ None ]

-- one byte or more, in hexadecimal digits
abbrev pub bytes_in : List ℕ → Option (List ℕ)
bytes_in l = do
  digits ← last_digits l
  bytes ← decoded digits
  if nat_lt 0 (length bytes) then Some bytes else None

abbrev pub replied_in : List ℕ → Option Replied
replied_in l =
    choose (codes " ok") l (λ rest. ended rest replied.Ok)
    (choose (codes " bytes") l (λ rest. option_map replied.Bytes (bytes_in rest))
    (choose (codes " writes") l (λ rest. option_map replied.Writes (last64 rest)) None))

abbrev pub reply_in : List ℕ → Option Reply
reply_in l = do
  a ← after (codes "reply") l
  k ← spaced greatest_u32 a
  x ← replied_in k.1
  Some (record { op = k.0; answer = x })

-- a thread and what it had submitted, behind a space, and the bytes behind them
abbrev pub mark : List ℕ → Option (Mark × List ℕ)
mark l = do
  thread ← spaced greatest_u32 l
  rest ← after (codes ":") thread.1
  submitted ← number greatest_u64 rest
  Some (record { thread = thread.0; submitted = submitted.0 }, submitted.1)

-- so many results, up to the end of the line
abbrev pub results : {X : Type 0} → (List ℕ → Option (X × List ℕ)) → ℕ → List ℕ → Option (List X)
results one zero l = ended l []
results one (suc k) l = do
  x ← one l
  xs ← results one k x.1
  Some (x.0 ∷ xs)

abbrev pub is_space : ℕ → Bool
is_space b = b == 32

-- the results of a visit, or of a cast where there are some and the first is no mark
abbrev pub results_in : List ℕ → Option SeenBy
results_in l =
    let count = length (filter is_space l) in
    if count == 0 || is_some (mark l) then option_map by.Visit (results mark count l) else option_map by.Cast (results (spaced greatest_u32) count l)

abbrev pub seen_in : List ℕ → Option Seen
seen_in l = do
  a ← after (codes "seen") l
  k ← spaced greatest_u32 a
  x ← results_in k.1
  Some (record { op = k.0; results = x })

-- the line of thread n: its home
abbrev pub thread_in : RoleKind → ℕ → List ℕ → Option ℕ
thread_in role n l = do
  a ← after (codes "thread") l
  t ← spaced greatest_u64 a
  b ← after (codes " ") t.1
  c ← after (role_word role) b
  home ← last32 c
  if t.0 == n then Some home else None

-- the line of device n
abbrev pub device_in : ℕ → List ℕ → Option DeviceEnd
device_in n l = do
  a ← after (codes "device") l
  d ← spaced greatest_u64 a
  given ← spaced greatest_u64 d.1
  thread ← spaced greatest_u32 given.1
  callbacks ← last32 thread.1
  if d.0 == n then Some (record { given = given.0; thread = thread.0; callbacks = callbacks }) else None

-- a line that says nothing but this
abbrev pub text_in : List ℕ → List ℕ → Option (List ℕ)
text_in text l = option_and_then (λ rest. ended rest []) (after text l)

-- a word and a number of these bounds
abbrev pub number_in : List ℕ → ℕ → ℕ → List ℕ → Option ℕ
number_in text least most l = do
  a ← after text l
  n ← last64 a
  if is_within least most n then Some n else None

-- a word and two numbers of 32 bits
abbrev pub pair_in : List ℕ → List ℕ → Option Home
pair_in text l = do
  a ← after text l
  small ← spaced greatest_u32 a
  large ← last32 small.1
  Some (record { small = small.0; large = large })

-- a name; a word that is not UTF-8 reads as the empty name, which no script has either
abbrev pub name_of : List ℕ → List ℕ
name_of w = if is_utf8 w then w else []

abbrev pub image_in : List ℕ → Option ImageOf
image_in l = do
  a ← after (codes "image") l
  w ← word a
  block ← spaced greatest_u32 w.1
  blocks ← last64 block.1
  Some (record { name = name_of w.0; block = block.0; blocks = blocks })

abbrev pub client_in : List ℕ → Option ClientHead
client_in l = do
  a ← after (codes "client") l
  w ← word a
  depth ← spaced greatest_u32 w.1
  ops ← last64 depth.1
  Some (record { name = name_of w.0; depth = depth.0; ops = ops })

abbrev pub write_in : List ℕ → Option Op
write_in l = do
  d ← spaced greatest_u32 l
  start ← spaced greatest_u64 d.1
  count ← spaced greatest_u64 start.1
  digits ← last_digits count.1
  Some (op.Write d.0 start.0 count.0 (pattern_of digits))

abbrev pub read_in : List ℕ → Option Op
read_in l = do
  d ← spaced greatest_u32 l
  start ← spaced greatest_u64 d.1
  count ← last64 start.1
  Some (op.Read d.0 start.0 count)

-- an op without a pattern
abbrev pub plain_form_in : List ℕ → Option Op
plain_form_in l =
    choose (codes " get") l (λ rest. option_map op.Get (last32 rest))
    (choose (codes " put") l (λ rest. option_map op.Put (last32 rest))
    (choose (codes " read") l read_in
    (choose (codes " flush") l (λ rest. option_map op.Flush (last32 rest))
    (choose (codes " wait") l (λ rest. option_map op.Wait (last64 rest))
    (choose (codes " visit") l (λ rest. option_map op.Visit (last32 rest))
    (choose (codes " each") l (λ rest. ended rest op.Each)
    (choose (codes " unregister") l (λ rest. option_map op.Unregister (last32 rest)) None)))))))

abbrev pub form_in : List ℕ → Option Op
form_in l = choose (codes " write") l write_in (plain_form_in l)

abbrev pub op_in : List ℕ → Option Op
op_in l = option_and_then form_in (after (codes "op") l)
