-- A report read from its front to its end.
use Rattle.std.specs.Prelude.{ℕ, ◌+◌, ◌==◌, nat_le, List, [], length, is_none, if◌then◌else◌, Result, Ok, Err}
use Rattle.lw_model.specs.declared.script.Script.{Script}
use Rattle.lw_model.specs.declared.script.ClientOf.{ClientOf}
use Rattle.lw_model.specs.declared.record.ThreadRecord.{ThreadRecord}
use Rattle.lw_model.specs.declared.record.RoleKind.{RoleKind}
use Rattle.lw_model.specs.declared.record.RoleKind.TheVariants.{App, Client, Owner}
use Rattle.lw_base.specs.declared.ends.DeviceEnd.{DeviceEnd}
use Rattle.lw_model.specs.declared.record.Reply.{Reply}
use Rattle.lw_model.specs.declared.record.Seen.{Seen}
use Rattle.lw_model.specs.ScriptRules.{rule_broken}
use Rattle.lw_report.specs.declared.contents.Contents.{Contents}
use Rattle.lw_report.specs.declared.contents.Head.{Head}
use Rattle.lw_report_lines.specs.declared.single.FixedLine.TheVariants.{Title, End}
use Rattle.lw_report_lines.specs.declared.single.NumberLine.{NumberLine}
use Rattle.lw_report_lines.specs.declared.single.NumberLine.TheVariants.{Period, Images, Clients}
use Rattle.lw_report_lines.specs.declared.single.PairLine.TheVariants.{Pool, Left}
use Rattle.lw_report_lines.specs.Once.{fixed_in, number_of_in, pair_of_in, reactors_in}
use Rattle.lw_report_lines.specs.LineKinds.{hop_in, ran_in, did_in, called_in, reply_in, seen_in, thread_in, device_in, image_in, client_in, op_in}
use Rattle.lw_report_lines.specs.MoveLines.{scheduler_in}
use Rattle.lw_base.specs.TextLines.{pieces, is_nil}
use Rattle.lw_report.specs.Machine.{State, ◌>>=◌, one, many, numbered}
use Rattle.lw_report.specs.Rounds.{moves_at}

-- ---- the script

-- a line that counts, and so many parts behind it
abbrev pub list_at : {X : Type 0} → NumberLine → (ℕ → State → Result (X × State) ℕ) → State → Result (List X × State) ℕ
list_at kind part s = do
  count ← one (number_of_in kind) s
  numbered count.0 0 part count.1

-- a client's line and its ops
abbrev pub client_at : State → Result (ClientOf × State) ℕ
client_at s = do
  head ← one client_in s
  ops ← numbered head.0.ops 0 (λ n. one op_in) head.1
  Ok (record { name = head.0.name; depth = head.0.depth; ops = ops.0 }, ops.1)

-- a script that breaks no rule; else the line behind it is bad
abbrev pub accepted : Script → State → Result (Script × State) ℕ
accepted script s = if is_none (rule_broken script) then Ok (script, s) else Err s.line

unfoldable pub script_at : State → Result (Script × State) ℕ
script_at s = do
  pool ← one (pair_of_in Pool) s
  images ← list_at Images (λ n. one image_in) pool.1
  clients ← list_at Clients (λ n. client_at) images.1
  accepted (record { images = images.0; clients = clients.0; small = pool.0.small; large = pool.0.large }) clients.1

-- ---- the threads

-- thread 0 is the app, the clients follow, then the owners
abbrev pub role_at : ℕ → ℕ → RoleKind
role_at clients n = if n == 0 then App else (if nat_le n clients then Client else Owner)

-- the lines that stand under clients alone
abbrev pub client_lines : RoleKind → State → (List Reply × List Seen) × State
client_lines Client s =
    let replies = many reply_in s in
    let seen = many seen_in replies.1 in
    ((replies.0, seen.0), seen.1)
client_lines _ s = (([], []), s)

-- the lines under a thread's line
abbrev pub thread_lines : RoleKind → ℕ → ℕ → State → ThreadRecord × State
thread_lines role home images s =
    let hops = many hop_in s in
    let ran = many ran_in hops.1 in
    let did = many did_in ran.1 in
    let called = many (called_in images) did.1 in
    let own = client_lines role called.1 in
    (record { role = role; home = home; hops = hops.0; ran = ran.0; did = did.0; called = called.0; replies = own.0.0; seen = own.0.1 }, own.1)

abbrev pub thread_at : ℕ → ℕ → ℕ → State → Result (ThreadRecord × State) ℕ
thread_at clients images n s = do
  home ← one (thread_in (role_at clients n) n) s
  Ok (thread_lines (role_at clients n) home.0 images home.1)

-- ---- the whole

-- nothing is left
abbrev pub finished : {X : Type 0} → X → State → Result (X × State) ℕ
finished x s = if is_nil s.lines then Ok (x, s) else Err s.line

unfoldable pub threads_at : Script → State → Result (List ThreadRecord × State) ℕ
threads_at script s = numbered (1 + length script.clients + length script.images) 0 (thread_at (length script.clients) (length script.images)) s

unfoldable pub devices_at : Script → State → Result (List DeviceEnd × State) ℕ
devices_at script s = numbered (length script.images) 0 (λ d. one (device_in d)) s

-- what stands behind the script's lines
abbrev pub rest_at : Head → Script → State → Result (Contents × State) ℕ
rest_at head script s = do
  threads ← threads_at script s
  devices ← devices_at script threads.1
  moves ← moves_at head.scheduler devices.1
  home ← one (pair_of_in Left) moves.1
  end ← one (fixed_in End) home.1
  finished (record {
    script = script;
    scheduler = head.scheduler;
    reactors = head.reactors;
    period = head.period;
    threads = threads.0;
    devices = devices.0;
    span = moves.0.span;
    rounds = moves.0.rounds;
    home = home.0;
  }) end.1

-- the lines before the script's
unfoldable pub head_at : State → Result (Head × State) ℕ
head_at s = do
  title ← one (fixed_in Title) s
  scheduler ← one scheduler_in title.1
  reactors ← one reactors_in scheduler.1
  period ← one (number_of_in Period) reactors.1
  Ok (record { scheduler = scheduler.0; reactors = reactors.0; period = period.0 }, period.1)

abbrev pub report_at : State → Result (Contents × State) ℕ
report_at s = do
  head ← head_at s
  script ← script_at head.1
  rest_at head.0 script.0 script.1

-- what a text says as a report, or its first bad line
abbrev pub reading : List ℕ → Result Contents ℕ
reading bytes = report_at (record { line = 1; lines = pieces bytes }) >>= (λ p. Ok p.0)
