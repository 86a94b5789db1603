-- The text of a whole report that was read.
use Rattle.std.proofs.Common.{◌≡◌, ℕ, ◌+◌, Bool, true, false, ◌&&◌, if◌then◌else◌, List, [], ◌∷◌, ◌++◌, map, length, flat_map, codes, decimal, append_assoc, append-nil, Result, Ok, Err, is_none, is_some, refl, sym, ap, subst, ◌∙◌}
use Rattle.std.specs.List.{list_all, enumerate_from}
use Rattle.std.proofs.lemmas.Bool.{and_parts, and_from}
use Rattle.lw_model.specs.declared.script.Script.{Script}
use Rattle.lw_model.specs.declared.script.ImageOf.{ImageOf}
use Rattle.lw_model.specs.declared.script.ClientOf.{ClientOf}
use Rattle.lw_model.specs.declared.record.Record.{Record}
use Rattle.lw_model.specs.declared.record.ThreadRecord.{ThreadRecord}
use Rattle.lw_base.specs.declared.ends.DeviceEnd.{DeviceEnd}
use Rattle.lw_model.specs.ScriptRules.{is_name, is_pattern, rule_broken}
use Rattle.lw_model.specs.ReportText.{line, count_of, image_line, client_lines, thread_lines, device_line, clock_lines, round_lines, text_of_lines, lines_of, text_of}
use Rattle.lw_report.specs.declared.contents.Contents.{Contents}
use Rattle.lw_report.specs.declared.contents.Head.{Head}
use Rattle.lw_report_lines.specs.declared.single.FixedLine.{FixedLine}
use Rattle.lw_report_lines.specs.declared.single.FixedLine.TheVariants.{Title, End}
use Rattle.lw_report_lines.specs.declared.single.NumberLine.{NumberLine}
use Rattle.lw_report_lines.specs.declared.single.NumberLine.TheVariants.{Period, Images, Clients}
use Rattle.lw_report_lines.specs.declared.single.PairLine.TheVariants.{Pool, Left}
use Rattle.lw_report_lines.specs.LineKinds.{text_in, image_in, device_in}
use Rattle.lw_report_lines.specs.Once.{fixed_text, fixed_in, number_word, number_least, number_most, number_of_in, pair_of_in, reactors_in}
use Rattle.lw_report_lines.specs.MoveLines.{scheduler_in}
use Rattle.lw_base.specs.TextLines.{is_feed, put_on, pieces, is_nil}
use Rattle.lw_base.proofs.Lists.{none_is}
use Rattle.lw_report.specs.Machine.{State, one, numbered}
use Rattle.lw_report.specs.Report.{list_at, client_at, script_at, thread_at, threads_at, devices_at, head_at, rest_at, report_at, reading}
use Rattle.lw_report.specs.Rounds.{moves_at}
use Rattle.lw_report.specs.Parsed.{contents_of}
use Rattle.lw_report_lines.proofs.Said.{if_some}
use Rattle.lw_report.proofs.Said.{read_parts, if_ok, numbered_all}
use Rattle.lw_report_lines.proofs.Names.{named_length}
use Rattle.lw_report.proofs.Accepted.{images_named, clients_named, patterns_fit}
use Rattle.lw_report_lines.proofs.LineTexts.{fixed_text as text_is, counted_text, pair_text, device_text}
use Rattle.lw_report_lines.proofs.ScriptTexts.{image_text}
use Rattle.lw_report_lines.proofs.Moves.{scheduler_line, scheduler_text}
use Rattle.lw_report.proofs.ReportTexts.{fed, Took, took_both, one_took, numbered_took, one_by_one, one_by_number, by_item, fits_client, client_took, thread_took}
use Rattle.lw_report.proofs.RoundTexts.{moves_took}

-- ---- single lines

fixed_took : (k : FixedLine) (s t : State) (x : FixedLine) → one (fixed_in k) s ≡ Ok (x, t) → Took s (fixed_text k ∷ []) t
fixed_took k s t x e = one_took (fixed_in k) (λ y. fixed_text k) s t x (λ l h. text_is (fixed_text k) l (if_some (is_some (text_in (fixed_text k) l)) k x h).0) e

number_took : (k : NumberLine) (s t : State) (n : ℕ) → one (number_of_in k) s ≡ Ok (n, t) → Took s (line (number_word k ∷ decimal n ∷ []) ∷ []) t
number_took k s t n e = one_took (number_of_in k) (λ m. line (number_word k ∷ decimal m ∷ [])) s t n (λ l h. counted_text (number_word k) (number_least k) (number_most k) l n h) e

-- a line that counts, and so many parts
list_took : {X : Type 0} (k : NumberLine) (part : ℕ → State → Result (X × State) ℕ) (p : X → Bool) (lines : ℕ → X → List (List ℕ))
    → ((n : ℕ) (s t : State) (x : X) → p x ≡ true → part n s ≡ Ok (x, t) → Took s (lines n x) t)
    → (s t : State) (xs : List X) → list_all p xs ≡ true → list_at k part s ≡ Ok (xs, t)
    → Took s (line (number_word k ∷ count_of xs ∷ []) ∷ flat_map (λ q. lines q.0 q.1) (enumerate_from 0 xs)) t
list_took {X = X} k part p lines each s t xs fit e =
    let a = read_parts (one (number_of_in k) s) (λ c. numbered c.0 0 part c.1) (xs, t) e in
    let count = (numbered_all part (λ n x. true) (λ n s t x h. refl) a.0.0 0 a.0.1 t xs a.2).0 in
    let head = subst (λ c. Took s (line (number_word k ∷ decimal c ∷ []) ∷ []) a.0.1) (sym count) (number_took k s a.0.1 a.0.0 a.1) in
    took_both s a.0.1 t (line (number_word k ∷ count_of xs ∷ []) ∷ []) (flat_map (λ (q : ℕ × X). lines q.0 q.1) (enumerate_from 0 xs)) head
    (numbered_took part p lines each a.0.0 0 a.0.1 t xs fit a.2)

-- ---- the script

abbrev pub images_lines : Script → List (List ℕ)
images_lines s = line (codes "images" ∷ count_of s.images ∷ []) ∷ map image_line s.images

abbrev pub clients_lines : Script → List (List ℕ)
clients_lines s = line (codes "clients" ∷ count_of s.clients ∷ []) ∷ flat_map client_lines s.clients

abbrev pub pool_line : Script → List ℕ
pool_line s = line (codes "pool" ∷ decimal s.small ∷ decimal s.large ∷ [])

all_and : {X : Type 0} (p q : X → Bool) (xs : List X) → list_all p xs ≡ true → list_all q xs ≡ true → list_all (λ x. p x && q x) xs ≡ true
all_and p q [] a b = refl
all_and p q (x ∷ xs) a b =
    let h = and_parts (p x) (list_all p xs) a in
    let k = and_parts (q x) (list_all q xs) b in
    and_from (p x && q x) (list_all (λ y. p y && q y) xs) (and_from (p x) (q x) h.0 k.0) (all_and p q xs h.1 k.1)

script_took : (s t : State) (script : Script) → script_at s ≡ Ok (script, t) → Took s ((pool_line script ∷ []) ++ images_lines script ++ clients_lines script) t
unfolding script_at
script_took s t script e =
    let a = read_parts (one (pair_of_in Pool) s) _ (script, t) e in
    let b = read_parts (list_at Images (λ n. one image_in) a.0.1) _ (script, t) a.2 in
    let c = read_parts (list_at Clients (λ n. client_at) b.0.1) _ (script, t) b.2 in
    let whole : Script = record { images = b.0.0; clients = c.0.0; small = a.0.0.small; large = a.0.0.large } in
    let d = if_ok (is_none (rule_broken whole)) (whole, c.0.1) (script, t) c.0.1.line c.2 in
    let same : whole ≡ script = ap (λ (p : Script × State). p.0) d.1 in
    let last : c.0.1 ≡ t = ap (λ (p : Script × State). p.1) d.1 in
    let kept = none_is (rule_broken whole) d.0 in
    let pool = one_took (pair_of_in Pool) (λ h. line (codes "pool" ∷ decimal h.small ∷ decimal h.large ∷ [])) s a.0.1 a.0.0 (λ l h. pair_text (codes "pool") l a.0.0 h) a.1 in
    let images = list_took Images (λ n. one image_in) (λ (i : ImageOf). is_name i.name) (λ n i. image_line i ∷ [])
    (λ n s t x p h. one_took image_in image_line s t x (λ l k. image_text l x k (named_length x.name p)) h) a.0.1 b.0.1 b.0.0 (images_named whole kept) b.1 in
    let clients = list_took Clients (λ n. client_at) fits_client (λ n x. client_lines x) (λ n s t x p h. client_took s t x p h) b.0.1 c.0.1 c.0.0
    (all_and (λ (x : ClientOf). is_name x.name) (λ (x : ClientOf). list_all is_pattern x.ops) c.0.0 (clients_named whole kept) (patterns_fit whole kept)) c.1 in
    let images_are = subst (λ ls. Took a.0.1 (line (codes "images" ∷ count_of b.0.0 ∷ []) ∷ ls) b.0.1) (one_by_one image_line 0 b.0.0) images in
    let clients_are = subst (λ ls. Took b.0.1 (line (codes "clients" ∷ count_of c.0.0 ∷ []) ∷ ls) c.0.1) (by_item client_lines 0 c.0.0) clients in
    subst (λ q. Took s ((pool_line q ∷ []) ++ images_lines q ++ clients_lines q) t) same
    (subst (Took s ((pool_line whole ∷ []) ++ images_lines whole ++ clients_lines whole)) last
    (took_both s b.0.1 c.0.1 ((pool_line whole ∷ []) ++ images_lines whole) (clients_lines whole)
    (took_both s a.0.1 b.0.1 (pool_line whole ∷ []) (images_lines whole) pool images_are) clients_are))

-- ---- the whole

abbrev pub threads_lines : Contents → List (List ℕ)
threads_lines c = flat_map (λ p. thread_lines p.0 p.1) (enumerate_from 0 c.threads)

abbrev pub devices_lines : Contents → List (List ℕ)
devices_lines c = map (λ p. device_line p.0 p.1) (enumerate_from 0 c.devices)

abbrev pub last_lines : Contents → List (List ℕ)
last_lines c = line (codes "home" ∷ decimal c.home.small ∷ decimal c.home.large ∷ []) ∷ codes "end" ∷ []

abbrev pub front : Head → List (List ℕ)
front h =
    (codes "lightrun report 1"
    ∷ scheduler_line h.scheduler
    ∷ line (codes "reactors" ∷ decimal h.reactors ∷ [])
    ∷ line (codes "period" ∷ decimal h.period ∷ [])
    ∷ [])

-- what a report says before its script
abbrev pub head_of : Contents → Head
head_of c = record { scheduler = c.scheduler; reactors = c.reactors; period = c.period }

abbrev pub first_lines : Contents → List (List ℕ)
first_lines c =
    (codes "lightrun report 1"
    ∷ scheduler_line c.scheduler
    ∷ line (codes "reactors" ∷ decimal c.reactors ∷ [])
    ∷ line (codes "period" ∷ decimal c.period ∷ [])
    ∷ pool_line c.script
    ∷ [])

abbrev pub moves_lines : Contents → List (List ℕ)
moves_lines c = clock_lines c.span ++ flat_map round_lines c.rounds

-- the lines of a record with these fields
abbrev pub lines_from : Contents → List (List ℕ)
lines_from c =
    first_lines c ++ images_lines c.script ++ clients_lines c.script ++ threads_lines c ++ devices_lines c ++ clock_lines c.span ++ flat_map round_lines c.rounds ++ last_lines c

pub lines_are : (r : Record) → lines_of r ≡ lines_from (contents_of r)
lines_are r = refl

nil_is : {X : Type 0} (xs : List X) → is_nil xs ≡ true → xs ≡ []
nil_is [] e = refl
nil_is (x ∷ xs) e = let wrong : false ≡ true = e in cc

all_true : {X : Type 0} (xs : List X) → list_all (λ (x : X). true) xs ≡ true
all_true [] = refl
all_true (x ∷ xs) = all_true xs

threads_took : (script : Script) (s t : State) (xs : List ThreadRecord) → threads_at script s ≡ Ok (xs, t) → Took s (flat_map (λ p. thread_lines p.0 p.1) (enumerate_from 0 xs)) t
unfolding threads_at
threads_took script s t xs e =
    numbered_took (thread_at (length script.clients) (length script.images)) (λ x. true) thread_lines (λ n s t x q h. thread_took (length script.clients) (length script.images) n s t x h)
    (1 + length script.clients + length script.images) 0 s t xs (all_true xs) e

devices_took : (script : Script) (s t : State) (xs : List DeviceEnd) → devices_at script s ≡ Ok (xs, t) → Took s (map (λ p. device_line p.0 p.1) (enumerate_from 0 xs)) t
unfolding devices_at
devices_took script s t xs e =
    subst (λ ls. Took s ls t) (one_by_number device_line 0 xs)
    (numbered_took (λ d. one (device_in d)) (λ x. true) (λ n x. device_line n x ∷ []) (λ n s t x q h. one_took (device_in n) (device_line n) s t x (λ l i. device_text n l x i) h) (length script.images) 0 s t xs (all_true xs) e)

-- what stands behind the script
abbrev pub rest_lines : Contents → List (List ℕ)
rest_lines c = threads_lines c ++ devices_lines c ++ moves_lines c ++ last_lines c

record RestSaid (s t : State) (head : Head) (script : Script) (c : Contents) : Type 0 where
  script_is : c.script ≡ script
  head_is : head_of c ≡ head
  took : Took s (rest_lines c) t
  none : t.lines ≡ []

rest_said : (head : Head) (script : Script) (s t : State) (c : Contents) → rest_at head script s ≡ Ok (c, t) → RestSaid s t head script c
rest_said head script s t c e =
    let th = read_parts (threads_at script s) _ (c, t) e in
    let de = read_parts (devices_at script th.0.1) _ (c, t) th.2 in
    let mo = read_parts (moves_at head.scheduler de.0.1) _ (c, t) de.2 in
    let ho = read_parts (one (pair_of_in Left) mo.0.1) _ (c, t) mo.2 in
    let en = read_parts (one (fixed_in End) ho.0.1) _ (c, t) ho.2 in
    let w : Contents = record {
      script = script;
      scheduler = head.scheduler;
      reactors = head.reactors;
      period = head.period;
      threads = th.0.0;
      devices = de.0.0;
      span = mo.0.0.span;
      rounds = mo.0.0.rounds;
      home = ho.0.0;
    } in
    let last = if_ok (is_nil en.0.1.lines) (w, en.0.1) (c, t) en.0.1.line en.2 in
    let home = one_took (pair_of_in Left) (λ h. line (codes "home" ∷ decimal h.small ∷ decimal h.large ∷ [])) mo.0.1 ho.0.1 ho.0.0 (λ l h. pair_text (codes "home") l ho.0.0 h) ho.1 in
    let end = took_both mo.0.1 ho.0.1 en.0.1 (line (codes "home" ∷ decimal ho.0.0.small ∷ decimal ho.0.0.large ∷ []) ∷ []) (codes "end" ∷ []) home (fixed_took End ho.0.1 en.0.1 en.0.0 en.1) in
    let both = took_both s th.0.1 de.0.1 (threads_lines w) (devices_lines w) (threads_took script s th.0.1 th.0.0 th.1) (devices_took script th.0.1 de.0.1 de.0.0 de.1) in
    let three = took_both s de.0.1 mo.0.1 (threads_lines w ++ devices_lines w) (moves_lines w) both (moves_took head.scheduler de.0.1 mo.0.1 mo.0.0 mo.1) in
    let said : RestSaid s en.0.1 head script w = record {
      script_is = refl;
      head_is = refl;
      took = took_both s mo.0.1 en.0.1 (threads_lines w ++ devices_lines w ++ moves_lines w) (last_lines w) three end;
      none = nil_is en.0.1.lines last.0;
    } in
    subst (λ (q : Contents × State). RestSaid s q.1 head script q.0) last.1 said

head_took : (s t : State) (h : Head) → head_at s ≡ Ok (h, t) → Took s (front h) t
unfolding head_at
head_took s t h e =
    let a = read_parts (one (fixed_in Title) s) _ (h, t) e in
    let b = read_parts (one scheduler_in a.0.1) _ (h, t) a.2 in
    let r = read_parts (one reactors_in b.0.1) _ (h, t) b.2 in
    let p = read_parts (one (number_of_in Period) r.0.1) _ (h, t) r.2 in
    let w : Head = record { scheduler = b.0.0; reactors = r.0.0; period = p.0.0 } in
    let title = codes "lightrun report 1" in
    let second = scheduler_line b.0.0 in
    let third = line (codes "reactors" ∷ decimal r.0.0 ∷ []) in
    let h1 = took_both s a.0.1 b.0.1 (title ∷ []) (second ∷ []) (fixed_took Title s a.0.1 a.0.0 a.1) (one_took scheduler_in scheduler_line a.0.1 b.0.1 b.0.0 (λ l h. scheduler_text l b.0.0 h) b.1) in
    let h2 = took_both s b.0.1 r.0.1 (title ∷ second ∷ []) (third ∷ []) h1 (one_took reactors_in (λ n. line (codes "reactors" ∷ decimal n ∷ [])) b.0.1 r.0.1 r.0.0 (λ l h. counted_text (codes "reactors") 1 16 l r.0.0 h) r.1) in
    let h3 = took_both s r.0.1 p.0.1 (title ∷ second ∷ third ∷ []) (line (codes "period" ∷ decimal p.0.0 ∷ []) ∷ []) h2 (number_took Period r.0.1 p.0.1 p.0.0 p.1) in
    subst (λ (q : Head × State). Took s (front q.0) q.1) (ok_is p.2) h3
  where
    ok_is : {q : Head × State} → ◌≡◌ {A = Result (Head × State) ℕ} (Ok q) (Ok (h, t)) → q ≡ (h, t)
    ok_is e = cc

abbrev pub script_lines : Script → List (List ℕ)
script_lines s = (pool_line s ∷ []) ++ images_lines s ++ clients_lines s

-- the parts of a report, one behind the other, are its lines
pub together : (c : Contents) → front (head_of c) ++ script_lines c.script ++ rest_lines c ≡ lines_from c
together c = spread (first_lines c ++ images_lines c.script ++ clients_lines c.script) (threads_lines c) (devices_lines c) (clock_lines c.span) (flat_map round_lines c.rounds) (last_lines c)
  where
    spread : (a b d p q z : List (List ℕ)) → a ++ (b ++ d ++ (p ++ q) ++ z) ≡ a ++ b ++ d ++ p ++ q ++ z
    spread a b d p q z =
        sym (append_assoc a (b ++ d ++ (p ++ q)) z)
        ∙ ap (λ x. x ++ z) (sym (append_assoc a (b ++ d) (p ++ q)) ∙ ap (λ x. x ++ (p ++ q)) (sym (append_assoc a b d)) ∙ sym (append_assoc (a ++ b ++ d) p q))

-- when all is read no line is left
report_took : (s t : State) (c : Contents) → report_at s ≡ Ok (c, t) → s.lines ≡ fed (lines_from c)
report_took s t c e =
    let h = read_parts (head_at s) _ (c, t) e in
    let k = read_parts (script_at h.0.1) _ (c, t) h.2 in
    let rest = rest_said h.0.0 k.0.0 k.0.1 t c k.2 in
    whole s h.0.1 k.0.1 t c
    (subst (λ n. Took s (front n) h.0.1) (sym rest.head_is) (head_took s h.0.1 h.0.0 h.1))
    (subst (λ q. Took h.0.1 (script_lines q) k.0.1) (sym rest.script_is) (script_took h.0.1 k.0.1 k.0.0 k.1))
    rest.took rest.none
  where
    whole : (s p k t : State) (c : Contents) → Took s (front (head_of c)) p → Took p (script_lines c.script) k → Took k (rest_lines c) t → t.lines ≡ [] → s.lines ≡ fed (lines_from c)
    whole s p k t c h1 h2 h3 none =
        let before = front (head_of c) ++ script_lines c.script in
        took_both s k t before (rest_lines c) (took_both s p k (front (head_of c)) (script_lines c.script) h1 h2) h3
        ∙ ap (λ ls. fed (before ++ rest_lines c) ++ ls) none
        ∙ append-nil (fed (before ++ rest_lines c))
        ∙ ap fed (together c)

-- ---- from lines to the text

-- pieces put together
abbrev pub joined : List (List ℕ) → List ℕ
joined ps = flat_map (λ (p : List ℕ). p) ps

joined-put_on : (b : ℕ) (ps : List (List ℕ)) → joined (put_on b ps) ≡ b ∷ joined ps
joined-put_on b [] = refl
joined-put_on b (p ∷ ps) = refl

joined-pieces : (bs : List ℕ) → joined (pieces bs) ≡ bs
joined-pieces [] = refl
joined-pieces (b ∷ bs) = at (is_feed b) (joined-pieces bs)
  where
    at : (t : Bool) → joined (pieces bs) ≡ bs → joined (if t then (b ∷ []) ∷ pieces bs else put_on b (pieces bs)) ≡ b ∷ bs
    at true e = ap (λ q. b ∷ q) e
    at false e = joined-put_on b (pieces bs) ∙ ap (λ q. b ∷ q) e

pub joined-fed : (ls : List (List ℕ)) → joined (fed ls) ≡ text_of_lines ls
joined-fed [] = refl
joined-fed (l ∷ ls) = ap (λ q. (l ++ 10 ∷ []) ++ q) (joined-fed ls)

-- what was read is the text of the record that says it
pub told_text : (bytes : List ℕ) (r : Record) → reading bytes ≡ Ok (contents_of r) → text_of r ≡ bytes
told_text bytes r e =
    let start : State = record { line = 1; lines = pieces bytes } in
    let a = read_parts (report_at start) (λ p. Ok p.0) (contents_of r) e in
    let same : a.0.0 ≡ contents_of r = ap (λ (q : Result Contents ℕ). elim q [ Ok c ↦ c | Err n ↦ a.0.0 ]) a.2 in
    let lines = report_took start a.0.1 a.0.0 a.1 in
    ap text_of_lines (lines_are r ∙ ap lines_from (sym same)) ∙ sym (joined-fed (lines_from a.0.0)) ∙ ap joined (sym lines) ∙ joined-pieces bytes
