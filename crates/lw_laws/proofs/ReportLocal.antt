-- The reading of a report is local, so no record's text begins as bytes do up to their first bad line.
use Rattle.std.proofs.Common.{◌≡◌, ℕ, ◌+◌, ◌-◌, Bool, true, false, if◌then◌else◌, List, length, take, is_none, Result, Ok, Err, refl, sym, ap, ◌∙◌, arith}
use Rattle.lw_base.specs.TextLines.{pieces}
use Rattle.lw_model.specs.declared.script.Script.{Script}
use Rattle.lw_model.specs.declared.record.Record.{Record}
use Rattle.lw_model.specs.declared.record.RoleKind.{RoleKind}
use Rattle.lw_model.specs.declared.record.RoleKind.TheVariants.{App, Client, Owner}
use Rattle.lw_model.specs.ScriptRules.{rule_broken}
use Rattle.lw_model.specs.ReportText.{text_of}
use Rattle.lw_base.specs.declared.ends.DeviceEnd.{DeviceEnd}
use Rattle.lw_base.specs.declared.ends.Home.{Home}
use Rattle.lw_model.specs.declared.record.ThreadRecord.{ThreadRecord}
use Rattle.lw_report.specs.declared.contents.Contents.{Contents}
use Rattle.lw_report.specs.declared.contents.Head.{Head}
use Rattle.lw_report.specs.declared.contents.Moves.{Moves}
use Rattle.lw_report_lines.specs.declared.single.FixedLine.TheVariants.{Title, End}
use Rattle.lw_report_lines.specs.declared.single.NumberLine.{NumberLine}
use Rattle.lw_report_lines.specs.declared.single.NumberLine.TheVariants.{Period, Images, Clients}
use Rattle.lw_report_lines.specs.declared.single.PairLine.TheVariants.{Pool, Left}
use Rattle.lw_report_lines.specs.Once.{fixed_in, number_of_in, pair_of_in, reactors_in}
use Rattle.lw_report_lines.specs.MoveLines.{scheduler_in}
use Rattle.lw_report_lines.specs.LineKinds.{hop_in, ran_in, did_in, called_in, reply_in, seen_in, thread_in, device_in, image_in, client_in, op_in}
use Rattle.lw_report.specs.Machine.{State, ◌>>=◌, one, many, numbered}
use Rattle.lw_report.specs.Report.{list_at, client_at, accepted, script_at, role_at, client_lines, thread_lines, thread_at, finished, threads_at, devices_at, head_at, rest_at, report_at, reading}
use Rattle.lw_report.specs.Rounds.{moves_at}
use Rattle.lw_report.specs.Parsed.{contents_of}
use Rattle.lw_report.specs.Ranges.{InRange}
use Rattle.lw_report.proofs.TextsBack.{text_read}
use Rattle.lw_laws.proofs.RoundsLocal.{moves_local}
use Rattle.lw_laws.proofs.Local.{state, Agree, Reader, Local, pure_local, both_local, one_local, many_local, numbered_local, finished_local, bad_local}

list_local : {X : Type 0} (kind : NumberLine) (part : ℕ → Reader X) → ((i : ℕ) → Local (part i)) → Local (list_at kind part)
list_local kind part all = both_local (one (number_of_in kind)) (λ count. numbered count 0 part) (one_local (number_of_in kind)) (λ count. numbered_local count 0 part all)

client_local : Local client_at
client_local =
    both_local (one client_in) (λ head s. numbered head.ops 0 (λ n. one op_in) s >>= (λ ops. Ok (record { name = head.name; depth = head.depth; ops = ops.0 }, ops.1))) (one_local client_in)
    (λ head. both_local (numbered head.ops 0 (λ n. one op_in)) (λ ops s. Ok (record { name = head.name; depth = head.depth; ops = ops }, s)) (numbered_local head.ops 0 (λ n. one op_in) (λ n. one_local op_in))
    (λ ops. pure_local _))

accepted_local : (script : Script) → Local (accepted script)
accepted_local script = at (is_none (rule_broken script))
  where
    at : (b : Bool) → Local (λ s. if b then Ok (script, s) else Err s.line)
    at true = pure_local script
    at false = bad_local

script_local : Local script_at
unfolding script_at
script_local =
    both_local (one (pair_of_in Pool))
    (λ pool s. list_at Images (λ n. one image_in) s >>= (λ images. list_at Clients (λ n. client_at) images.1 >>= (λ clients. accepted (record { images = images.0; clients = clients.0; small = pool.small; large = pool.large }) clients.1)))
    (one_local (pair_of_in Pool))
    (λ pool. both_local (list_at Images (λ n. one image_in))
    (λ images s. list_at Clients (λ n. client_at) s >>= (λ clients. accepted (record { images = images; clients = clients.0; small = pool.small; large = pool.large }) clients.1))
    (list_local Images (λ n. one image_in) (λ n. one_local image_in))
    (λ images. both_local (list_at Clients (λ n. client_at)) (λ clients s. accepted (record { images = images; clients = clients; small = pool.small; large = pool.large }) s)
    (list_local Clients (λ n. client_at) (λ n. client_local)) (λ clients. accepted_local (record { images = images; clients = clients; small = pool.small; large = pool.large }))))

own_local : (role : RoleKind) → Local (λ s. Ok (client_lines role s))
own_local App = pure_local _
own_local Owner = pure_local _
own_local Client =
    both_local (λ s. Ok (many reply_in s)) (λ replies s. Ok ((replies, (many seen_in s).0), (many seen_in s).1)) (many_local reply_in)
    (λ replies. both_local (λ s. Ok (many seen_in s)) (λ seen s. Ok ((replies, seen), s)) (many_local seen_in) (λ seen. pure_local _))

lines_local : (role : RoleKind) (home images : ℕ) → Local (λ s. Ok (thread_lines role home images s))
lines_local role home images =
    both_local (λ s. Ok (many hop_in s))
    (λ hops s.
    let ran = many ran_in s in
    let did = many did_in ran.1 in
    let called = many (called_in images) did.1 in
    let own = client_lines role called.1 in
    Ok (record { role = role; home = home; hops = hops; ran = ran.0; did = did.0; called = called.0; replies = own.0.0; seen = own.0.1 }, own.1))
    (many_local hop_in)
    (λ hops. both_local (λ s. Ok (many ran_in s))
    (λ ran s.
    let did = many did_in s in
    let called = many (called_in images) did.1 in
    let own = client_lines role called.1 in
    Ok (record { role = role; home = home; hops = hops; ran = ran; did = did.0; called = called.0; replies = own.0.0; seen = own.0.1 }, own.1))
    (many_local ran_in)
    (λ ran. both_local (λ s. Ok (many did_in s))
    (λ did s.
    let called = many (called_in images) s in
    let own = client_lines role called.1 in
    Ok (record { role = role; home = home; hops = hops; ran = ran; did = did; called = called.0; replies = own.0.0; seen = own.0.1 }, own.1))
    (many_local did_in)
    (λ did. both_local (λ s. Ok (many (called_in images) s))
    (λ called s.
    let own = client_lines role s in
    Ok (record { role = role; home = home; hops = hops; ran = ran; did = did; called = called; replies = own.0.0; seen = own.0.1 }, own.1))
    (many_local (called_in images))
    (λ called. both_local (λ s. Ok (client_lines role s))
    (λ own s. Ok (record { role = role; home = home; hops = hops; ran = ran; did = did; called = called; replies = own.0; seen = own.1 }, s))
    (own_local role) (λ own. pure_local _)))))

thread_local : (clients images n : ℕ) → Local (thread_at clients images n)
thread_local clients images n =
    both_local (one (thread_in (role_at clients n) n)) (λ home s. Ok (thread_lines (role_at clients n) home images s)) (one_local (thread_in (role_at clients n) n))
    (λ home. lines_local (role_at clients n) home images)

threads_local : (script : Script) → Local (threads_at script)
unfolding threads_at
threads_local script = numbered_local (1 + length script.clients + length script.images) 0 (thread_at (length script.clients) (length script.images)) (thread_local (length script.clients) (length script.images))

devices_local : (script : Script) → Local (devices_at script)
unfolding devices_at
devices_local script = numbered_local (length script.images) 0 (λ d. one (device_in d)) (λ d. one_local (device_in d))

-- what the lines behind the script say
abbrev told : Head → Script → List ThreadRecord → List DeviceEnd → Moves → Home → Contents
told head script threads devices moves home = record {
  script = script;
  scheduler = head.scheduler;
  reactors = head.reactors;
  period = head.period;
  threads = threads;
  devices = devices;
  span = moves.span;
  rounds = moves.rounds;
  home = home;
}

rest_local : (head : Head) (script : Script) → Local (rest_at head script)
rest_local head script =
    both_local (threads_at script)
    (λ threads s. devices_at script s >>= (λ devices. moves_at head.scheduler devices.1 >>= (λ moves. one (pair_of_in Left) moves.1 >>= (λ home. one (fixed_in End) home.1 >>= (λ end. finished (told head script threads devices.0 moves.0 home.0) end.1)))))
    (threads_local script)
    (λ threads. both_local (devices_at script)
    (λ devices s. moves_at head.scheduler s >>= (λ moves. one (pair_of_in Left) moves.1 >>= (λ home. one (fixed_in End) home.1 >>= (λ end. finished (told head script threads devices moves.0 home.0) end.1))))
    (devices_local script)
    (λ devices. both_local (moves_at head.scheduler)
    (λ moves s. one (pair_of_in Left) s >>= (λ home. one (fixed_in End) home.1 >>= (λ end. finished (told head script threads devices moves home.0) end.1)))
    (moves_local head.scheduler)
    (λ moves. both_local (one (pair_of_in Left))
    (λ home s. one (fixed_in End) s >>= (λ end. finished (told head script threads devices moves home) end.1))
    (one_local (pair_of_in Left))
    (λ home. both_local (one (fixed_in End)) (λ end s. finished (told head script threads devices moves home) s) (one_local (fixed_in End)) (λ end. finished_local _)))))

head_local : Local head_at
unfolding head_at
head_local =
    both_local (one (fixed_in Title))
    (λ title s. one scheduler_in s >>= (λ scheduler. one reactors_in scheduler.1 >>= (λ reactors. one (number_of_in Period) reactors.1 >>= (λ period. Ok (record { scheduler = scheduler.0; reactors = reactors.0; period = period.0 }, period.1)))))
    (one_local (fixed_in Title))
    (λ title. both_local (one scheduler_in)
    (λ scheduler s. one reactors_in s >>= (λ reactors. one (number_of_in Period) reactors.1 >>= (λ period. Ok (record { scheduler = scheduler; reactors = reactors.0; period = period.0 }, period.1))))
    (one_local scheduler_in)
    (λ scheduler. both_local (one reactors_in)
    (λ reactors s. one (number_of_in Period) s >>= (λ period. Ok (record { scheduler = scheduler; reactors = reactors; period = period.0 }, period.1)))
    (one_local reactors_in)
    (λ reactors. both_local (one (number_of_in Period)) (λ period s. Ok (record { scheduler = scheduler; reactors = reactors; period = period }, s)) (one_local (number_of_in Period)) (λ period. pure_local _))))

report_local : Local report_at
report_local =
    both_local head_at (λ head s. script_at s >>= (λ script. rest_at head script.0 script.1)) head_local
    (λ head. both_local script_at (λ script s. rest_at head script s) script_local (λ script. rest_local head script))

-- bytes that agree with others up to their first bad line have it too
bad_line_local : (xs ys : List ℕ) (n : ℕ) → take n (pieces xs) ≡ take n (pieces ys) → reading xs ≡ Err n → reading ys ≡ Err n
bad_line_local xs ys n same e =
    ap (λ r. r >>= (λ p. Ok p.0)) (report_local.fails (n + 1) (state 1 (pieces xs)) (state 1 (pieces ys)) n agree (failed (report_at (state 1 (pieces xs))) e) (omega arith))
  where
    failed : (r : Result (Contents × State) ℕ) → ◌≡◌ {A = Result Contents ℕ} (r >>= (λ p. Ok p.0)) (Err n) → r ≡ Err n
    failed (Ok p) e = cc
    failed (Err m) e = let is : m ≡ n = cc in ap Err is

    count : n + 1 - 1 ≡ n
    count = omega arith

    agree : Agree (n + 1) (state 1 (pieces xs)) (state 1 (pieces ys))
    agree = record { line = refl; lines = ap (λ k. take k (pieces xs)) count ∙ same ∙ sym (ap (λ k. take k (pieces ys)) count) }

pub no_record_begins : (bytes : List ℕ) (n : ℕ) → reading bytes ≡ Err n → (r : Record) → InRange (contents_of r) → ¬ (take n (pieces (text_of r)) ≡ take n (pieces bytes))
no_record_begins bytes n bad r range same =
    let read = text_read r range in
    let wrong : ◌≡◌ {A = Result Contents ℕ} (Ok (contents_of r)) (Err n) = sym read ∙ bad_line_local bytes (text_of r) n (sym same) bad in cc
