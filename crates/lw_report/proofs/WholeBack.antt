-- A whole report is read back.
use Rattle.std.proofs.Common.{◌≡◌, ℕ, ◌+◌, ◌≤◌, ◌==◌, nat_le, true, false, Option, Some, ◌&&◌, if◌then◌else◌, List, [], ◌∷◌, ◌++◌, map, length, flat_map, codes, decimal, append-nil, None, Result, Ok, Err, is_none, refl, sym, ap, subst, ◌∙◌, arith}
use Rattle.std.specs.List.{list_all, enumerate_from, AllByRecursion}
use Rattle.std.proofs.lemmas.Bool.{and_parts, and_from, leb-true, le-leb, eqb-true}
use Rattle.lw_model.specs.declared.script.Script.{Script}
use Rattle.lw_model.specs.declared.script.ImageOf.{ImageOf}
use Rattle.lw_model.specs.declared.script.ClientOf.{ClientOf}
use Rattle.lw_base.specs.declared.moves.Round.{Round}
use Rattle.lw_base.specs.declared.moves.Scheduler.{Scheduler}
use Rattle.lw_base.specs.declared.moves.Scheduler.TheVariants.{Static, Dynamic}
use Rattle.lw_model.specs.declared.record.Span.{Span}
use Rattle.lw_model.specs.declared.record.ThreadRecord.{ThreadRecord}
use Rattle.lw_base.specs.declared.ends.DeviceEnd.{DeviceEnd}
use Rattle.lw_base.specs.declared.ends.Home.{Home}
use Rattle.lw_base.proofs.Lists.{none_is}
use Rattle.lw_base.specs.Words.{greatest_u64}
use Rattle.lw_model.specs.ScriptRules.{is_name, is_pattern, is_within, rule_broken}
use Rattle.lw_model.specs.Printable.{has_rounds, is_printable_thread, is_printable}
use Rattle.lw_model.specs.ReportText.{line, count_of, image_line, client_lines, thread_lines, device_line, clock_lines, round_lines}
use Rattle.lw_model.specs.Ranges.{Fits64, ImageFits, DeviceFits, ClientFits, ScriptFits, ThreadFits}
use Rattle.lw_report.specs.declared.contents.Contents.{Contents}
use Rattle.lw_report.specs.declared.contents.Head.{Head}
use Rattle.lw_report.specs.declared.contents.Moves.{Moves}
use Rattle.lw_report_lines.specs.declared.single.FixedLine.{FixedLine}
use Rattle.lw_report_lines.specs.declared.single.FixedLine.TheVariants.{Title, End}
use Rattle.lw_report_lines.specs.declared.single.NumberLine.{NumberLine}
use Rattle.lw_report_lines.specs.declared.single.NumberLine.TheVariants.{Period, Images, Clients}
use Rattle.lw_report_lines.specs.declared.single.PairLine.TheVariants.{Pool, Left}
use Rattle.lw_report_lines.specs.LineKinds.{image_in, device_in}
use Rattle.lw_report_lines.specs.Once.{fixed_in, number_word, number_least, number_most, number_of_in, pair_of_in, reactors_in}
use Rattle.lw_report_lines.specs.MoveLines.{scheduler_in}
use Rattle.lw_report.specs.Machine.{State, ◌>>=◌, one, numbered}
use Rattle.lw_report.specs.Report.{list_at, client_at, accepted, script_at, thread_at, threads_at, devices_at, finished, head_at, rest_at, report_at}
use Rattle.lw_report.specs.Rounds.{moves_at}
use Rattle.lw_report.specs.Ranges.{InRange}
use Rattle.lw_report.proofs.Reading.{state}
use Rattle.lw_report.proofs.Accepted.{images_named, clients_named, patterns_fit}
use Rattle.lw_report.proofs.ReportTexts.{fed, one_by_one, one_by_number, by_item}
use Rattle.lw_report.proofs.WholeTexts.{images_lines, clients_lines, pool_line, threads_lines, devices_lines, moves_lines, last_lines, rest_lines, head_of, front, script_lines, together, lines_from}
use Rattle.lw_report_lines.proofs.LinesBack.{counted_back, pair_back, device_back}
use Rattle.lw_report_lines.proofs.ScriptBack.{image_back}
use Rattle.lw_report_lines.proofs.Moves.{scheduler_line, scheduler_back}
use Rattle.lw_report.proofs.RoundTexts.{moves_read}
use Rattle.lw_report.proofs.MachineBack.{fed_both, one_back, AllNumbered, Back, numbered_back, Any, client_read, NextThread}
use Rattle.lw_report.proofs.ThreadBack.{thread_read, next_thread, next_device, next_clock, next_home}

-- ---- lists behind the line that counts them

list_back : {X : Type 0} (k : NumberLine) (part : ℕ → State → Result (X × State) ℕ) (lines : ℕ → X → List (List ℕ)) (Fits : ℕ → X → Type 0)
    → ((n : ℕ) (x : X) (s : State) (R : List (List ℕ)) → Fits n x → s.lines ≡ fed (lines n x) ++ R → Back (part n s) x R)
    → (xs : List X) (s : State) (R : List (List ℕ)) → AllNumbered Fits 0 xs → Fits64 (length xs) → is_within (number_least k) (number_most k) (length xs) ≡ true
    → s.lines ≡ (line (number_word k ∷ count_of xs ∷ []) ++ 10 ∷ []) ∷ (fed (flat_map (λ q. lines q.0 q.1) (enumerate_from 0 xs)) ++ R) → Back (list_at k part s) xs R
list_back {X = X} k part lines Fits each xs s R fit small within e =
    let rest = fed (flat_map (λ (q : ℕ × X). lines q.0 q.1) (enumerate_from 0 xs)) ++ R in
    let a = one_back (number_of_in k) s (line (number_word k ∷ count_of xs ∷ []) ++ 10 ∷ []) rest (length xs) e (counted_back (number_word k) (number_least k) (number_most k) (length xs) small within) in
    let b = numbered_back part lines Fits Any (λ n x s R h q e. each n x s R h e) (λ n x R. tt) xs 0 (state (s.line + 1) rest) R fit tt refl in
    (b.0, b.1, ap (λ (r : Result (ℕ × State) ℕ). r >>= (λ c. numbered c.0 0 part c.1)) a ∙ b.2)

-- ---- the script

abbrev ImageBack : ℕ → ImageOf → Type 0
ImageBack n i = ImageFits i × (is_name i.name ≡ true)

images_fit : (n : ℕ) (is : List ImageOf) → AllByRecursion ImageFits is → list_all (λ (i : ImageOf). is_name i.name) is ≡ true → AllNumbered ImageBack n is
images_fit n [] fit named = tt
images_fit n (i ∷ is) fit named = let k = and_parts (is_name i.name) (list_all (λ (j : ImageOf). is_name j.name) is) named in ((fit.0, k.0), images_fit (n + 1) is fit.1 k.1)

record ClientBack (n : ℕ) (c : ClientOf) : Type 0 where
  fit : ClientFits c
  named : is_name c.name ≡ true
  long : list_all is_pattern c.ops ≡ true

clients_fit : (n : ℕ) (cs : List ClientOf) → AllByRecursion ClientFits cs → list_all (λ (c : ClientOf). is_name c.name) cs ≡ true → list_all (λ (c : ClientOf). list_all is_pattern c.ops) cs ≡ true → AllNumbered ClientBack n cs
clients_fit n [] fit named long = tt
clients_fit n (c ∷ cs) fit named long =
    let k = and_parts (is_name c.name) (list_all (λ (d : ClientOf). is_name d.name) cs) named in
    let m = and_parts (list_all is_pattern c.ops) (list_all (λ (d : ClientOf). list_all is_pattern d.ops) cs) long in
    (record { fit = fit.0; named = k.0; long = m.0 }, clients_fit (n + 1) cs fit.1 k.1 m.1)

counted_within : (n : ℕ) → Fits64 n → is_within 0 greatest_u64 n ≡ true
counted_within n h = and_from (nat_le 0 n) (nat_le n greatest_u64) (le-leb 0 n (omega arith)) (le-leb n greatest_u64 h)

script_read : (s : State) (script : Script) (R : List (List ℕ)) → ScriptFits script → rule_broken script ≡ None
    → s.lines ≡ fed ((pool_line script ∷ []) ++ images_lines script ++ clients_lines script) ++ R → Back (script_at s) script R
unfolding script_at
script_read s script R fit kept e =
    let clients = fed (clients_lines script) ++ R in
    let images = fed (images_lines script) ++ clients in
    let split : fed ((pool_line script ∷ []) ++ images_lines script ++ clients_lines script) ++ R ≡ (pool_line script ++ 10 ∷ []) ∷ images =
    fed_both ((pool_line script ∷ []) ++ images_lines script) (clients_lines script) R ∙ fed_both (pool_line script ∷ []) (images_lines script) clients in
    let a = one_back (pair_of_in Pool) s (pool_line script ++ 10 ∷ []) images (record { small = script.small; large = script.large }) (e ∙ split) (pair_back (codes "pool") (record { small = script.small; large = script.large }) fit.small fit.large) in
    let s1 = state (s.line + 1) images in
    let b = list_back Images (λ n. one image_in) (λ n i. image_line i ∷ []) ImageBack
    (λ n i s R h e. (state (s.line + 1) R, refl, one_back image_in s (image_line i ++ 10 ∷ []) R i e (image_back i h.0 h.1)))
    script.images s1 clients (images_fit 0 script.images fit.images (images_named script kept)) (omega (arith, fit.count)) (counted_within (length script.images) (omega (arith, fit.count)))
    (ap (λ ls. (line (codes "images" ∷ count_of script.images ∷ []) ++ 10 ∷ []) ∷ (fed ls ++ clients)) (sym (one_by_one image_line 0 script.images))) in
    let c = list_back Clients (λ n. client_at) (λ n x. client_lines x) ClientBack
    (λ n x s R h e. client_read s x R h.fit h.named h.long e)
    script.clients b.0 R (clients_fit 0 script.clients fit.clients (clients_named script kept) (patterns_fit script kept)) (omega (arith, fit.count)) (counted_within (length script.clients) (omega (arith, fit.count)))
    (b.1 ∙ ap (λ ls. (line (codes "clients" ∷ count_of script.clients ∷ []) ++ 10 ∷ []) ∷ (fed ls ++ R)) (sym (by_item client_lines 0 script.clients))) in (
      c.0,
      c.1,
      ap (λ (q : Result (Home × State) ℕ). q >>= (λ p. list_at Images (λ n. one image_in) p.1 >>= (λ i. list_at Clients (λ n. client_at) i.1 >>= (λ k. accepted (record { images = i.0; clients = k.0; small = p.0.small; large = p.0.large }) k.1)))) a
          ∙ ap (λ (q : Result (List ImageOf × State) ℕ). q >>= (λ i. list_at Clients (λ n. client_at) i.1 >>= (λ k. accepted (record { images = i.0; clients = k.0; small = script.small; large = script.large }) k.1))) b.2
          ∙ ap (λ (q : Result (List ClientOf × State) ℕ). q >>= (λ k. accepted (record { images = script.images; clients = k.0; small = script.small; large = script.large }) k.1)) c.2
          ∙ ap (λ o. if is_none o then Ok (script, c.0) else Err c.0.line) kept,
    )

-- ---- threads and devices

record ThreadBack (script : Script) (n : ℕ) (x : ThreadRecord) : Type 0 where
  fit : ThreadFits x
  printable : is_printable_thread script n x ≡ true
  small : Fits64 n

threads_fit : (script : Script) (n : ℕ) (xs : List ThreadRecord) → AllByRecursion ThreadFits xs → list_all (λ p. is_printable_thread script p.0 p.1) (enumerate_from n xs) ≡ true → Fits64 (n + length xs) → AllNumbered (ThreadBack script) n xs
threads_fit script n [] fit all small = tt
threads_fit script n (x ∷ xs) fit all small =
    let k = and_parts (is_printable_thread script n x) (list_all (λ p. is_printable_thread script p.0 p.1) (enumerate_from (n + 1) xs)) all in
    (record { fit = fit.0; printable = k.0; small = omega (arith, small) }, threads_fit script (n + 1) xs fit.1 k.1 (omega (arith, small)))

abbrev DeviceBack : ℕ → DeviceEnd → Type 0
DeviceBack n d = DeviceFits d × Fits64 n

devices_fit : (n : ℕ) (ds : List DeviceEnd) → AllByRecursion DeviceFits ds → Fits64 (n + length ds) → AllNumbered DeviceBack n ds
devices_fit n [] fit small = tt
devices_fit n (d ∷ ds) fit small = ((fit.0, omega (arith, small)), devices_fit (n + 1) ds fit.1 (omega (arith, small)))

threads_read : (script : Script) (xs : List ThreadRecord) (s : State) (R : List (List ℕ)) → AllNumbered (ThreadBack script) 0 xs → length xs ≡ 1 + length script.clients + length script.images → NextThread (length script.images) R
    → s.lines ≡ fed (flat_map (λ p. thread_lines p.0 p.1) (enumerate_from 0 xs)) ++ R → Back (threads_at script s) xs R
unfolding threads_at
threads_read script xs s R fit count next e =
    subst (λ k. Back (numbered k 0 (thread_at (length script.clients) (length script.images)) s) xs R) count
    (numbered_back (thread_at (length script.clients) (length script.images)) thread_lines (ThreadBack script) (NextThread (length script.images))
    (λ n x s R h q e. thread_read script n x s R h.fit h.printable h.small q e) (λ n x R. next_thread (length script.images) n x R) xs 0 s R fit next e)

devices_read : (script : Script) (ds : List DeviceEnd) (s : State) (R : List (List ℕ)) → AllNumbered DeviceBack 0 ds → length ds ≡ length script.images → s.lines ≡ fed (map (λ p. device_line p.0 p.1) (enumerate_from 0 ds)) ++ R → Back (devices_at script s) ds R
unfolding devices_at
devices_read script ds s R fit count e =
    subst (λ k. Back (numbered k 0 (λ d. one (device_in d)) s) ds R) count
    (numbered_back (λ d. one (device_in d)) (λ n d. device_line n d ∷ []) DeviceBack Any
    (λ n d s R h q e. (state (s.line + 1) R, refl, one_back (device_in n) s (device_line n d ++ 10 ∷ []) R d e (device_back n d h.1 h.0)))
    (λ n d R. tt) ds 0 s R fit tt (e ∙ ap (λ ls. fed ls ++ R) (sym (one_by_number device_line 0 ds))))

-- what stands behind the threads' lines: the devices', then the clock's or the pool's
device_next : (images : ℕ) (n : ℕ) (ds : List DeviceEnd) (R : List (List ℕ)) → NextThread images R → NextThread images (fed (map (λ p. device_line p.0 p.1) (enumerate_from n ds)) ++ R)
device_next images n [] R next = next
device_next images n (d ∷ ds) R next = next_device images n d (fed (map (λ p. device_line p.0 p.1) (enumerate_from (n + 1) ds)) ++ R)

moves_next : (images : ℕ) (scheduler : Scheduler) (span : Option Span) (rounds : List Round) (R : List (List ℕ)) → has_rounds scheduler span rounds ≡ true → NextThread images R → NextThread images (fed (clock_lines span ++ flat_map round_lines rounds) ++ R)
moves_next images Static None [] R printable next = next
moves_next images Static None (x ∷ xs) R printable next = let wrong : false ≡ true = printable in cc
moves_next images Static (Some s) rounds R printable next = let wrong : false ≡ true = printable in cc
moves_next images Dynamic None rounds R printable next = let wrong : false ≡ true = printable in cc
moves_next images Dynamic (Some s) rounds R printable next = next_clock images s (fed (flat_map round_lines rounds) ++ R)

-- ---- the whole

pub record ContentsFit (c : Contents) : Type 0 where
  pub range : InRange c
  pub kept : rule_broken c.script ≡ None
  pub reactors : is_within 1 16 c.reactors ≡ true
  pub period : is_within 1 1000000000000 c.period ≡ true
  pub threads : length c.threads ≡ 1 + length c.script.clients + length c.script.images
  pub each : list_all (λ p. is_printable_thread c.script p.0 p.1) (enumerate_from 0 c.threads) ≡ true
  pub devices : length c.devices ≡ length c.script.images
  pub moves : has_rounds c.scheduler c.span c.rounds ≡ true

-- what says these contents can be printed
abbrev pub HasText : Contents → Type 0
HasText c = is_printable c.script c.scheduler c.reactors c.period c.threads c.devices c.span c.rounds ≡ true

pub contents_parts : (c : Contents) → InRange c → HasText c → ContentsFit c
contents_parts c range e =
    let script = is_none (rule_broken c.script) in
    let reactors = is_within 1 16 c.reactors in
    let period = is_within 1 1000000000000 c.period in
    let threads = length c.threads == 1 + length c.script.clients + length c.script.images in
    let each = list_all (λ p. is_printable_thread c.script p.0 p.1) (enumerate_from 0 c.threads) in
    let devices = length c.devices == length c.script.images in
    let g = and_parts (script && reactors && period && threads && each && devices) (has_rounds c.scheduler c.span c.rounds) e in
    let f = and_parts (script && reactors && period && threads && each) devices g.0 in
    let h = and_parts (script && reactors && period && threads) each f.0 in
    let d = and_parts (script && reactors && period) threads h.0 in
    let k = and_parts (script && reactors) period d.0 in
    let b = and_parts script reactors k.0 in
    record {
      range = range;
      kept = none_is (rule_broken c.script) b.0;
      reactors = b.1;
      period = k.1;
      threads = eqb-true (length c.threads) (1 + length c.script.clients + length c.script.images) d.1;
      each = h.1;
      devices = eqb-true (length c.devices) (length c.script.images) f.1;
      moves = g.1;
    }

-- the lines behind the rounds
abbrev home_rest : Contents → List (List ℕ)
home_rest c = (line (codes "home" ∷ decimal c.home.small ∷ decimal c.home.large ∷ []) ++ 10 ∷ []) ∷ (codes "end" ++ 10 ∷ []) ∷ []

rest_split : (c : Contents) → fed (rest_lines c) ≡ fed (threads_lines c) ++ (fed (devices_lines c) ++ (fed (moves_lines c) ++ home_rest c))
rest_split c =
    let a = threads_lines c in
    let d = devices_lines c in
    let m = moves_lines c in
    let z = last_lines c in
    sym (append-nil (fed (a ++ d ++ m ++ z)))
    ∙ fed_both (a ++ d ++ m) z []
    ∙ ap (λ q. fed (a ++ d ++ m) ++ q) (append-nil (fed z))
    ∙ fed_both (a ++ d) m (fed z)
    ∙ fed_both a d (fed m ++ fed z)

rest_read : (c : Contents) (s : State) → ContentsFit c → s.lines ≡ fed (rest_lines c) → Back (rest_at (head_of c) c.script s) c []
rest_read c s fit e =
    let images = length c.script.images in
    let moves = fed (moves_lines c) ++ home_rest c in
    let behind = fed (devices_lines c) ++ moves in
    let last = (codes "end" ++ 10 ∷ []) ∷ [] in
    let home = next_home images c.home.small c.home.large last in
    let count : Fits64 (0 + length c.threads) = omega (arith, fit.threads, fit.range.script.count) in
    let th = threads_read c.script c.threads s behind (threads_fit c.script 0 c.threads fit.range.threads fit.each count) fit.threads
    (device_next images 0 c.devices moves (moves_next images c.scheduler c.span c.rounds (home_rest c) fit.moves home)) (e ∙ rest_split c) in
    let some : Fits64 (0 + length c.devices) = omega (arith, fit.devices, fit.range.script.count) in
    let de = devices_read c.script c.devices th.0 moves (devices_fit 0 c.devices fit.range.devices some) fit.devices th.1 in
    let mo = moves_read c.scheduler c.span c.rounds de.0 (home_rest c) fit.moves fit.range.span fit.range.rounds (record { round = refl; row = refl; order = refl }) de.1 in
    let ho = one_back (pair_of_in Left) mo.0 (line (codes "home" ∷ decimal c.home.small ∷ decimal c.home.large ∷ []) ++ 10 ∷ []) last c.home mo.1 (pair_back (codes "home") c.home fit.range.small fit.range.large) in
    let s1 = state (mo.0.line + 1) last in
    let en = one_back (fixed_in End) s1 (codes "end" ++ 10 ∷ []) [] End refl refl in
    let s2 = state (s1.line + 1) [] in (
      s2,
      refl,
      ap (λ (r : Result (List ThreadRecord × State) ℕ). r >>= (λ t. devices_at c.script t.1 >>= (λ d. moves_at c.scheduler d.1 >>= (λ m. one (pair_of_in Left) m.1 >>= (λ h. one (fixed_in End) h.1 >>= (λ z. finished (told t.0 d.0 m.0 h.0) z.1)))))) th.2
          ∙ ap (λ (r : Result (List DeviceEnd × State) ℕ). r >>= (λ d. moves_at c.scheduler d.1 >>= (λ m. one (pair_of_in Left) m.1 >>= (λ h. one (fixed_in End) h.1 >>= (λ z. finished (told c.threads d.0 m.0 h.0) z.1))))) de.2
          ∙ ap (λ (r : Result (Moves × State) ℕ). r >>= (λ m. one (pair_of_in Left) m.1 >>= (λ h. one (fixed_in End) h.1 >>= (λ z. finished (told c.threads c.devices m.0 h.0) z.1)))) mo.2
          ∙ ap (λ (r : Result (Home × State) ℕ). r >>= (λ h. one (fixed_in End) h.1 >>= (λ z. finished (told c.threads c.devices (record { span = c.span; rounds = c.rounds }) h.0) z.1))) ho
          ∙ ap (λ (r : Result (FixedLine × State) ℕ). r >>= (λ z. finished (told c.threads c.devices (record { span = c.span; rounds = c.rounds }) c.home) z.1)) en,
    )
  where
    told : List ThreadRecord → List DeviceEnd → Moves → Home → Contents
    told threads devices moves home = record {
      script = c.script;
      scheduler = c.scheduler;
      reactors = c.reactors;
      period = c.period;
      threads = threads;
      devices = devices;
      span = moves.span;
      rounds = moves.rounds;
      home = home;
    }

whole_split : (c : Contents) → fed (lines_from c) ≡ fed (front (head_of c)) ++ (fed (script_lines c.script) ++ fed (rest_lines c))
whole_split c =
    let before = front (head_of c) in
    let script = script_lines c.script in
    let rest = rest_lines c in
    ap fed (sym (together c))
    ∙ sym (append-nil (fed (before ++ script ++ rest)))
    ∙ fed_both (before ++ script) rest []
    ∙ ap (λ q. fed (before ++ script) ++ q) (append-nil (fed rest))
    ∙ fed_both before script (fed rest)

pub bounded : (least most n : ℕ) → most ≤ greatest_u64 → is_within least most n ≡ true → Fits64 n
bounded least most n small h = let k = and_parts (nat_le least n) (nat_le n most) h in omega (arith, small, leb-true n most k.1)

head_read : (h : Head) (s : State) (R : List (List ℕ)) → is_within 1 16 h.reactors ≡ true → is_within 1 1000000000000 h.period ≡ true → s.lines ≡ fed (front h) ++ R → Back (head_at s) h R
unfolding head_at
head_read h s R reactors period e =
    let second = scheduler_line h.scheduler ++ 10 ∷ [] in
    let third = line (codes "reactors" ∷ decimal h.reactors ∷ []) ++ 10 ∷ [] in
    let fourth = line (codes "period" ∷ decimal h.period ∷ []) ++ 10 ∷ [] in
    let a = one_back (fixed_in Title) s (codes "lightrun report 1" ++ 10 ∷ []) (second ∷ third ∷ fourth ∷ R) Title e refl in
    let s1 = state (s.line + 1) (second ∷ third ∷ fourth ∷ R) in
    let b = one_back scheduler_in s1 second (third ∷ fourth ∷ R) h.scheduler refl (scheduler_back h.scheduler) in
    let s2 = state (s1.line + 1) (third ∷ fourth ∷ R) in
    let r = one_back reactors_in s2 third (fourth ∷ R) h.reactors refl (counted_back (codes "reactors") 1 16 h.reactors (bounded 1 16 h.reactors (omega arith) reactors) reactors) in
    let s3 = state (s2.line + 1) (fourth ∷ R) in
    let p = one_back (number_of_in Period) s3 fourth R h.period refl (counted_back (codes "period") 1 1000000000000 h.period (bounded 1 1000000000000 h.period (omega arith) period) period) in (
      state (s3.line + 1) R,
      refl,
      ap (λ (q : Result (FixedLine × State) ℕ). q >>= (λ x. one scheduler_in x.1 >>= (λ y. one reactors_in y.1 >>= (λ n. one (number_of_in Period) n.1 >>= (λ m. Ok (record { scheduler = y.0; reactors = n.0; period = m.0 }, m.1)))))) a
          ∙ ap (λ (q : Result (Scheduler × State) ℕ). q >>= (λ y. one reactors_in y.1 >>= (λ n. one (number_of_in Period) n.1 >>= (λ m. Ok (record { scheduler = y.0; reactors = n.0; period = m.0 }, m.1))))) b
          ∙ ap (λ (q : Result (ℕ × State) ℕ). q >>= (λ n. one (number_of_in Period) n.1 >>= (λ m. Ok (record { scheduler = h.scheduler; reactors = n.0; period = m.0 }, m.1)))) r
          ∙ ap (λ (q : Result (ℕ × State) ℕ). q >>= (λ m. Ok (record { scheduler = h.scheduler; reactors = h.reactors; period = m.0 }, m.1))) p,
    )

report_read : (c : Contents) (s : State) → ContentsFit c → s.lines ≡ fed (lines_from c) → Back (report_at s) c []
report_read c s fit e =
    let h = head_read (head_of c) s (fed (script_lines c.script) ++ fed (rest_lines c)) fit.reactors fit.period (e ∙ whole_split c) in
    let k = script_read h.0 c.script (fed (rest_lines c)) fit.range.script fit.kept h.1 in
    let z = rest_read c k.0 fit k.1 in (
      z.0,
      z.1,
      ap (λ (q : Result (Head × State) ℕ). q >>= (λ x. script_at x.1 >>= (λ w. rest_at x.0 w.0 w.1))) h.2
          ∙ ap (λ (q : Result (Script × State) ℕ). q >>= (λ w. rest_at (head_of c) w.0 w.1)) k.2
          ∙ z.2,
    )

-- the lines of a record are read as what it says
pub lines_read : (c : Contents) (n : ℕ) → InRange c → HasText c → Back (report_at (state n (fed (lines_from c)))) c []
lines_read c n range printable = report_read c (state n (fed (lines_from c))) (contents_parts c range printable) refl
