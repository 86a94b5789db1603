-- What was read is in range: each number fits its type, and so do the counts.
use Rattle.std.proofs.Common.{◌≡◌, ℕ, zero, suc, ◌+◌, true, List, ◌∷◌, codes, length, is_none, Result, Ok, Err, refl, sym, ap, subst}
use Rattle.std.specs.List.{AllByRecursion}
use Rattle.lw_model.specs.declared.script.Script.{Script}
use Rattle.lw_model.specs.declared.script.ClientOf.{ClientOf}
use Rattle.lw_model.specs.declared.record.Record.{Record}
use Rattle.lw_model.specs.declared.record.ThreadRecord.{ThreadRecord}
use Rattle.lw_model.specs.declared.record.RoleKind.{RoleKind}
use Rattle.lw_model.specs.declared.record.RoleKind.TheVariants.{App, Client, Owner}
use Rattle.lw_model.specs.ScriptRules.{rule_broken}
use Rattle.lw_model.specs.Ranges.{Fits32, Fits64, ReplyFits, SeenFits, OpFits, ImageFits, DeviceFits, HopFits, TagFits, DidFits, CalledFits, ClientFits, ScriptFits, ThreadFits, RecordFits}
use Rattle.lw_model.proofs.Rules.{counts_fit}
use Rattle.lw_report.specs.declared.contents.Contents.{Contents}
use Rattle.lw_report_lines.specs.declared.single.FixedLine.TheVariants.{End}
use Rattle.lw_report_lines.specs.declared.single.NumberLine.TheVariants.{Images, Clients}
use Rattle.lw_report_lines.specs.declared.single.PairLine.TheVariants.{Pool, Left}
use Rattle.lw_report_lines.specs.LineKinds.{hop_in, ran_in, did_in, called_in, reply_in, seen_in, thread_in, device_in, image_in, client_in, op_in}
use Rattle.lw_report_lines.specs.Once.{fixed_in, number_of_in, pair_of_in}
use Rattle.lw_base.specs.TextLines.{pieces, is_nil}
use Rattle.lw_base.proofs.Lists.{none_is}
use Rattle.lw_report.specs.Machine.{State, ◌>>=◌, one, many, numbered}
use Rattle.lw_report.specs.Report.{list_at, client_at, script_at, client_lines, role_at, thread_lines, thread_at, threads_at, devices_at, head_at, report_at, reading}
use Rattle.lw_report.specs.Rounds.{moves_at}
use Rattle.lw_report.specs.Parsed.{contents_of}
use Rattle.lw_report.specs.Ranges.{InRange}
use Rattle.lw_report.proofs.Said.{read_parts, if_ok, many_fit, one_each, numbered_all}
use Rattle.lw_report.proofs.RoundTexts.{moves_fit}
use Rattle.lw_report_lines.proofs.LineRanges.{hop_fits, ran_fits, did_fits, called_fits, reply_fits, seen_fits, home_fits, device_fits, pair_fits, image_fits, client_fits, op_fits}

numbered_fit : {X : Type 0} (f : ℕ → State → Result (X × State) ℕ) (P : X → Type 0) → ((n : ℕ) (s t : State) (x : X) → f n s ≡ Ok (x, t) → P x)
    → (k n : ℕ) (s t : State) (xs : List X) → numbered k n f s ≡ Ok (xs, t) → AllByRecursion P xs
numbered_fit {X = X} f P each zero n s t xs e =
    subst (AllByRecursion P) (ap (λ (r : Result (List X × State) ℕ). elim r [ Ok q ↦ q.0 | Err b ↦ xs ]) e) tt
numbered_fit {X = X} f P each (suc k) n s t xs e =
    let a = read_parts (f n s) (λ x. numbered k (n + 1) f x.1 >>= (λ ys. Ok (x.0 ∷ ys.0, ys.1))) (xs, t) e in
    let b = read_parts (numbered k (n + 1) f a.0.1) (λ ys. Ok (a.0.0 ∷ ys.0, ys.1)) (xs, t) a.2 in
    subst (AllByRecursion P) (ap (λ (r : Result (List X × State) ℕ). elim r [ Ok q ↦ q.0 | Err m ↦ xs ]) b.2)
    (each n s a.0.1 a.0.0 a.1, numbered_fit f P each k (n + 1) a.0.1 b.0.1 b.0.0 b.1)

-- as many parts as were asked for
numbered_length : {X : Type 0} (f : ℕ → State → Result (X × State) ℕ) (k n : ℕ) (s t : State) (xs : List X) → numbered k n f s ≡ Ok (xs, t) → length xs ≡ k
numbered_length f k n s t xs e = (numbered_all f (λ n x. true) (λ n s t x h. refl) k n s t xs e).0

-- ---- the script

client_said : (s t : State) (c : ClientOf) → client_at s ≡ Ok (c, t) → ClientFits c
client_said s t c e =
    let a = read_parts (one client_in s) (λ h. numbered h.0.ops 0 (λ n. one op_in) h.1 >>= (λ os. Ok (record { name = h.0.name; depth = h.0.depth; ops = os.0 }, os.1))) (c, t) e in
    let b = read_parts (numbered a.0.0.ops 0 (λ n. one op_in) a.0.1) (λ os. Ok (record { name = a.0.0.name; depth = a.0.0.depth; ops = os.0 }, os.1)) (c, t) a.2 in
    let head = one_each client_in (λ h. Fits32 h.depth × Fits64 h.ops) client_fits s a.0.1 a.0.0 a.1 in
    let ops = numbered_fit (λ n. one op_in) OpFits (λ n s t o h. one_each op_in OpFits op_fits s t o h) a.0.0.ops 0 a.0.1 b.0.1 b.0.0 b.1 in
    let count = numbered_length (λ n. one op_in) a.0.0.ops 0 a.0.1 b.0.1 b.0.0 b.1 in
    subst ClientFits (ap (λ (r : Result (ClientOf × State) ℕ). elim r [ Ok q ↦ q.0 | Err m ↦ c ]) b.2) (head.0, ops, subst Fits64 (sym count) head.1)

script_said : (s t : State) (script : Script) → script_at s ≡ Ok (script, t) → ScriptFits script
unfolding script_at
script_said s t script e =
    let a = read_parts (one (pair_of_in Pool) s) _ (script, t) e in
    let b = read_parts (list_at Images (λ n. one image_in) a.0.1) _ (script, t) a.2 in
    let c = read_parts (list_at Clients (λ n. client_at) b.0.1) _ (script, t) b.2 in
    let whole : Script = record { images = b.0.0; clients = c.0.0; small = a.0.0.small; large = a.0.0.large } in
    let d = if_ok (is_none (rule_broken whole)) (whole, c.0.1) (script, t) c.0.1.line c.2 in
    let images = read_parts (one (number_of_in Images) a.0.1) (λ n. numbered n.0 0 (λ n. one image_in) n.1) (b.0.0, b.0.1) b.1 in
    let clients = read_parts (one (number_of_in Clients) b.0.1) (λ n. numbered n.0 0 (λ n. client_at) n.1) (c.0.0, c.0.1) c.1 in
    let pool = one_each (pair_of_in Pool) (λ h. Fits32 h.small × Fits32 h.large) (pair_fits (codes "pool")) s a.0.1 a.0.0 a.1 in
    subst ScriptFits (ap (λ (p : Script × State). p.0) d.1) (record {
      images = numbered_fit (λ n. one image_in) ImageFits (λ n s t i h. one_each image_in ImageFits image_fits s t i h) images.0.0 0 images.0.1 b.0.1 b.0.0 images.2;
      clients = numbered_fit (λ n. client_at) ClientFits (λ n s t c h. client_said s t c h) clients.0.0 0 clients.0.1 c.0.1 c.0.0 clients.2;
      small = pool.0;
      large = pool.1;
      count = counts_fit whole (none_is (rule_broken whole) d.0);
    })

-- ---- threads and devices

own_fit : (role : RoleKind) (s : State) → AllByRecursion ReplyFits (client_lines role s).0.0 × AllByRecursion SeenFits (client_lines role s).0.1
own_fit App s = (tt, tt)
own_fit Owner s = (tt, tt)
own_fit Client s =
    let replies = many reply_in s in
    (many_fit reply_in ReplyFits reply_fits s.line s.lines, many_fit seen_in SeenFits seen_fits replies.1.line replies.1.lines)

thread_said : (clients images n : ℕ) (s t : State) (x : ThreadRecord) → thread_at clients images n s ≡ Ok (x, t) → ThreadFits x
thread_said clients images n s t x e =
    let role = role_at clients n in
    let a = read_parts (one (thread_in role n) s) (λ h. Ok (thread_lines role h.0 images h.1)) (x, t) e in
    let hops = many hop_in a.0.1 in
    let ran = many ran_in hops.1 in
    let did = many did_in ran.1 in
    let called = many (called_in images) did.1 in
    let own = own_fit role called.1 in
    subst ThreadFits (ap (λ (r : Result (ThreadRecord × State) ℕ). elim r [ Ok q ↦ q.0 | Err m ↦ x ]) a.2) (record {
      home = one_each (thread_in role n) Fits32 (home_fits role n) s a.0.1 a.0.0 a.1;
      hops = many_fit hop_in HopFits hop_fits a.0.1.line a.0.1.lines;
      ran = many_fit ran_in TagFits ran_fits hops.1.line hops.1.lines;
      did = many_fit did_in DidFits did_fits ran.1.line ran.1.lines;
      called = many_fit (called_in images) CalledFits (called_fits images) did.1.line did.1.lines;
      replies = own.0;
      seen = own.1;
    })

-- ---- the whole

report_said : (s t : State) (c : Contents) → report_at s ≡ Ok (c, t) → InRange c
unfolding threads_at devices_at
report_said s t c e =
    let h = read_parts (head_at s) _ (c, t) e in
    let k = read_parts (script_at h.0.1) _ (c, t) h.2 in
    let th = read_parts (threads_at k.0.0 k.0.1) _ (c, t) k.2 in
    let de = read_parts (devices_at k.0.0 th.0.1) _ (c, t) th.2 in
    let mo = read_parts (moves_at h.0.0.scheduler de.0.1) _ (c, t) de.2 in
    let ho = read_parts (one (pair_of_in Left) mo.0.1) _ (c, t) mo.2 in
    let en = read_parts (one (fixed_in End) ho.0.1) _ (c, t) ho.2 in
    let whole : Contents = record {
      script = k.0.0;
      scheduler = h.0.0.scheduler;
      reactors = h.0.0.reactors;
      period = h.0.0.period;
      threads = th.0.0;
      devices = de.0.0;
      span = mo.0.0.span;
      rounds = mo.0.0.rounds;
      home = ho.0.0;
    } in
    let last = if_ok (is_nil en.0.1.lines) (whole, en.0.1) (c, t) en.0.1.line en.2 in
    let clients = length k.0.0.clients in
    let images = length k.0.0.images in
    let home = one_each (pair_of_in Left) (λ h. Fits32 h.small × Fits32 h.large) (pair_fits (codes "home")) mo.0.1 ho.0.1 ho.0.0 ho.1 in
    let moves = moves_fit h.0.0.scheduler de.0.1 mo.0.1 mo.0.0 mo.1 in
    subst (λ (q : Contents × State). InRange q.0) last.1 (record {
      script = script_said h.0.1 k.0.1 k.0.0 k.1;
      threads = numbered_fit (thread_at clients images) ThreadFits (thread_said clients images) (1 + clients + images) 0 k.0.1 th.0.1 th.0.0 th.1;
      devices = numbered_fit (λ d. one (device_in d)) DeviceFits (λ n s t x h. one_each (device_in n) DeviceFits (device_fits n) s t x h) images 0 th.0.1 de.0.1 de.0.0 de.1;
      span = moves.0;
      rounds = moves.1;
      small = home.0;
      large = home.1;
    })

-- what a text says is in range
pub read_in_range : (bytes : List ℕ) (c : Contents) → reading bytes ≡ Ok c → InRange c
read_in_range bytes c e =
    let start : State = record { line = 1; lines = pieces bytes } in
    let a = read_parts (report_at start) (λ p. Ok p.0) c e in
    subst InRange (ap (λ (q : Result Contents ℕ). elim q [ Ok x ↦ x | Err n ↦ c ]) a.2) (report_said start a.0.1 a.0.0 a.1)

-- so is what a record says whose numbers fit
pub record_in_range : (r : Record) → RecordFits r → InRange (contents_of r)
record_in_range r fits = record { script = fits.script; threads = fits.threads; devices = fits.devices; span = fits.span; rounds = fits.rounds; small = fits.home.0; large = fits.home.1 }
