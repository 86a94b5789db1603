-- What was read can be printed.
use Rattle.std.proofs.Common.{◌≡◌, ℕ, zero, suc, ◌+◌, ◌==◌, nat_lt, nat_le, Bool, true, false, ◌&&◌, ◌||◌, filter, is_some, if◌then◌else◌, List, [], ◌∷◌, codes, length, Option, Some, None, option_map, Result, Ok, Err, is_none, refl, sym, ap, subst, ◌∙◌, arith}
use Rattle.std.specs.List.{list_all, enumerate_from}
use Rattle.std.proofs.lemmas.Bool.{and_from, eq-eqb, le-leb, lt-ltb, eqb-false, leb-false}
use Rattle.lw_base.specs.declared.message.Tag.{Tag}
use Rattle.lw_base.specs.declared.message.What.{What}
use Rattle.lw_base.specs.declared.message.What.TheVariants as what
use Rattle.lw_model.specs.declared.script.Script.{Script}
use Rattle.lw_model.specs.declared.record.ThreadRecord.{ThreadRecord}
use Rattle.lw_model.specs.declared.record.RoleKind.{RoleKind}
use Rattle.lw_model.specs.declared.record.RoleKind.TheVariants.{App, Client, Owner}
use Rattle.lw_model.specs.declared.record.Called.{Called}
use Rattle.lw_model.specs.declared.record.Reply.{Reply}
use Rattle.lw_model.specs.declared.record.Replied.{Replied}
use Rattle.lw_model.specs.declared.record.Replied.TheVariants as replied
use Rattle.lw_model.specs.declared.record.Seen.{Seen}
use Rattle.lw_model.specs.declared.record.SeenBy.{SeenBy}
use Rattle.lw_model.specs.declared.record.SeenBy.TheVariants as by
use Rattle.lw_model.specs.ScriptRules.{rule_broken, is_within}
use Rattle.lw_model.specs.Printable.{has_a_line, has_bytes, has_results, has_role, has_rounds, may_reply, is_printable_thread, is_printable}
use Rattle.lw_report_lines.specs.LineParts.{after, spaced}
use Rattle.lw_report_lines.specs.LineKinds.{last32, last64, ended, visit_in, cast_in, what_in, ran_in, called_in, bytes_in, last_digits, decoded, replied_in, reply_in, results, mark, is_space, hop_in, did_in, image_in, thread_in, device_in, results_in, seen_in}
use Rattle.lw_report.specs.declared.contents.Contents.{Contents}
use Rattle.lw_report.specs.declared.contents.Head.{Head}
use Rattle.lw_report_lines.specs.declared.single.FixedLine.TheVariants.{Title, End}
use Rattle.lw_report_lines.specs.declared.single.NumberLine.TheVariants.{Period, Images, Clients}
use Rattle.lw_report_lines.specs.declared.single.PairLine.TheVariants.{Pool, Left}
use Rattle.lw_report_lines.specs.Once.{fixed_in, number_of_in, pair_of_in, reactors_in}
use Rattle.lw_report_lines.specs.MoveLines.{scheduler_in}
use Rattle.lw_base.specs.TextLines.{is_nil}
use Rattle.lw_base.proofs.Lists.{some_same}
use Rattle.lw_base.specs.Words.{greatest_u32, greatest_u64}
use Rattle.lw_report.specs.Machine.{State, one, many}
use Rattle.lw_report.specs.Report.{list_at, client_at, script_at, role_at, thread_lines, thread_at, threads_at, devices_at, head_at, report_at}
use Rattle.lw_report.specs.Rounds.{moves_at}
use Rattle.lw_report_lines.proofs.Said.{some_parts, map_parts, if_some, chosen}
use Rattle.lw_report.proofs.Said.{read_parts, if_ok, one_said, many_all, numbered_all}
use Rattle.lw_report.proofs.RoundTexts.{moves_printable}

-- ---- messages

abbrev HasLine : What → Type 0
HasLine w = has_a_line w ≡ true

mapped : {A : Type 0} (f : A → What) → ((a : A) → HasLine (f a)) → (o : Option A) (w : What) → option_map f o ≡ Some w → HasLine w
mapped f each o w e = let p = map_parts o f w e in subst HasLine p.2 (each p.0)

ended_has : (rest : List ℕ) (v w : What) → HasLine v → ended rest v ≡ Some w → HasLine w
ended_has rest v w has e = subst HasLine (if_some _ v w e).1 has

visit_has : (l : List ℕ) (w : What) → visit_in l ≡ Some w → HasLine w
visit_has l w e =
    let a = some_parts (spaced greatest_u32 l) _ w e in
    let b = some_parts (spaced greatest_u32 a.0.1) _ w a.2 in
    let c = some_parts (spaced greatest_u32 b.0.1) _ w b.2 in
    ended_has c.0.1 (what.Visit a.0.0 b.0.0 c.0.0) w refl c.2

cast_has : (l : List ℕ) (w : What) → cast_in l ≡ Some w → HasLine w
cast_has l w e =
    let a = some_parts (spaced greatest_u32 l) _ w e in
    let b = some_parts (spaced greatest_u32 a.0.1) _ w a.2 in
    ended_has b.0.1 (what.Cast a.0.0 b.0.0) w refl b.2

what_has : (l : List ℕ) (w : What) → what_in l ≡ Some w → HasLine w
what_has l w e =
    chosen HasLine (codes " request") l _ _ w (λ r h. mapped what.Request (λ k. refl) (last32 r) w h)
    (chosen HasLine (codes " reply") l _ _ w (λ r h. mapped what.Reply (λ k. refl) (last32 r) w h)
    (chosen HasLine (codes " putself") l _ _ w (λ r h. mapped what.PutSelf (λ k. refl) (last32 r) w h)
    (chosen HasLine (codes " visited") l _ _ w (λ r h. mapped what.Visited (λ k. refl) (last32 r) w h)
    (chosen HasLine (codes " visit") l _ _ w (λ r h. visit_has r w h)
    (chosen HasLine (codes " casted") l _ _ w (λ r h. mapped what.Casted (λ k. refl) (last32 r) w h)
    (chosen HasLine (codes " cast") l _ _ w (λ r h. cast_has r w h)
    (chosen HasLine (codes " done") l _ _ w (λ r h. ended_has r what.Done w refl h)
    (chosen HasLine (codes " stop") l _ _ w (λ r h. ended_has r what.Stop w refl h)
    (λ none. let wrong : None ≡ Some w = none in cc))))))))) e

pub ran_has : (l : List ℕ) (m : Tag) → ran_in l ≡ Some m → has_a_line m.what ≡ true
ran_has l m e =
    let a = some_parts (after (codes "ran") l) _ m e in
    let b = some_parts (spaced greatest_u32 a.0) _ m a.2 in
    let c = some_parts (spaced greatest_u64 b.0.1) _ m b.2 in
    let d = some_parts (what_in c.0.1) _ m c.2 in
    let same : record { sender = b.0.0; number = c.0.0; what = d.0 } ≡ m = some_same d.2 in
    subst (λ (x : Tag). has_a_line x.what ≡ true) same (what_has c.0.1 d.0 d.1)

pub called_below : (images : ℕ) (l : List ℕ) (x : Called) → called_in images l ≡ Some x → nat_lt x.device images ≡ true
called_below images l x e =
    let a = some_parts (after (codes "called") l) _ x e in
    let b = some_parts (spaced greatest_u64 a.0) _ x a.2 in
    let c = some_parts (last32 b.0.1) _ x b.2 in
    let d = if_some (nat_lt c.0 images) (record { at = b.0.0; device = c.0 }) x c.2 in
    subst (λ (y : Called). nat_lt y.device images ≡ true) d.1 d.0

-- ---- replies and results

reply_has : (l : List ℕ) (x : Replied) → replied_in l ≡ Some x → has_bytes x ≡ true
reply_has l x e =
    chosen Has (codes " ok") l _ _ x (λ r h. subst Has (if_some _ replied.Ok x h).1 refl)
    (chosen Has (codes " bytes") l _ _ x (λ r h. let p = map_parts (bytes_in r) replied.Bytes x h in subst Has p.2 (some_bytes r p.0 p.1))
    (chosen Has (codes " writes") l _ _ x (λ r h. let p = map_parts (last64 r) replied.Writes x h in subst Has p.2 refl)
    (λ none. let wrong : None ≡ Some x = none in cc))) e
  where
    Has : Replied → Type 0
    Has x = has_bytes x ≡ true

    not_empty : (bs : List ℕ) → nat_lt 0 (length bs) ≡ true → has_bytes (replied.Bytes bs) ≡ true
    not_empty [] h = let wrong : false ≡ true = h in cc
    not_empty (b ∷ bs) h = refl

    some_bytes : (r bs : List ℕ) → bytes_in r ≡ Some bs → has_bytes (replied.Bytes bs) ≡ true
    some_bytes r bs h =
        let a = some_parts (last_digits r) _ bs h in
        let b = some_parts (decoded a.0) _ bs a.2 in
        let d = if_some (nat_lt 0 (length b.0)) b.0 bs b.2 in
        subst (λ q. has_bytes (replied.Bytes q) ≡ true) d.1 (not_empty b.0 d.0)

pub reply_fits : (l : List ℕ) (x : Reply) → reply_in l ≡ Some x → has_bytes x.answer ≡ true
reply_fits l x e =
    let a = some_parts (after (codes "reply") l) _ x e in
    let b = some_parts (spaced greatest_u32 a.0) _ x a.2 in
    let d = some_parts (replied_in b.0.1) _ x b.2 in
    subst (λ (y : Reply). has_bytes y.answer ≡ true) (some_same d.2) (reply_has b.0.1 d.0 d.1)

-- as many results as were counted
results_length : {X : Type 0} (one : List ℕ → Option (X × List ℕ)) (k : ℕ) (l : List ℕ) (xs : List X) → results one k l ≡ Some xs → length xs ≡ k
results_length {X = X} one zero l xs e = sym (ap length (if_some _ [] xs e).1)
results_length {X = X} one (suc k) l xs e =
    let a = some_parts (one l) _ xs e in
    let b = some_parts (results one k a.0.1) _ xs a.2 in
    sym (ap length (some_same b.2)) ∙ ap suc (results_length one k a.0.1 b.0 b.1)

pub results_fit : (l : List ℕ) (x : SeenBy) → results_in l ≡ Some x → has_results x ≡ true
results_fit l x e = at (length (filter is_space l) == 0) (is_some (mark l)) refl e
  where
    Has : SeenBy → Type 0
    Has x = has_results x ≡ true

    marks : Option SeenBy
    marks = option_map by.Visit (results mark (length (filter is_space l)) l)

    threads : Option SeenBy
    threads = option_map by.Cast (results (spaced greatest_u32) (length (filter is_space l)) l)

    some : (xs : List ℕ) → length xs ≡ length (filter is_space l) → (length (filter is_space l) == 0) ≡ false → Has (by.Cast xs)
    some [] same none = absurd (eqb-false (length (filter is_space l)) 0 none (sym same))
    some (x ∷ xs) same none = refl

    at : (a b : Bool) → (length (filter is_space l) == 0) ≡ a → ◌≡◌ {A = Option SeenBy} (if a || b then marks else threads) (Some x) → Has x
    at true b none e = let p = map_parts (results mark (length (filter is_space l)) l) by.Visit x e in subst Has p.2 refl
    at false true none e = let p = map_parts (results mark (length (filter is_space l)) l) by.Visit x e in subst Has p.2 refl
    at false false none e =
        let p = map_parts (results (spaced greatest_u32) (length (filter is_space l)) l) by.Cast x e in
        subst Has p.2 (some p.0 (results_length (spaced greatest_u32) (length (filter is_space l)) l p.0 p.1) none)

pub seen_fits : (l : List ℕ) (x : Seen) → seen_in l ≡ Some x → has_results x.results ≡ true
seen_fits l x e =
    let a = some_parts (after (codes "seen") l) _ x e in
    let b = some_parts (spaced greatest_u32 a.0) _ x a.2 in
    let d = some_parts (results_in b.0.1) _ x b.2 in
    subst (λ (y : Seen). has_results y.results ≡ true) (some_same d.2) (results_fit b.0.1 d.0 d.1)

-- ---- threads

role_fits : (clients n : ℕ) → has_role clients n (role_at clients n) ≡ true
role_fits clients n = at (n == 0) (nat_le n clients) refl refl
  where
    at : (a b : Bool) → (n == 0) ≡ a → nat_le n clients ≡ b → has_role clients n (if a then App else (if b then Client else Owner)) ≡ true
    at true b first within = first
    at false true first within = and_from (nat_le 1 n) (nat_le n clients) (le-leb 1 n (omega (arith, eqb-false n 0 first))) within
    at false false first within = lt-ltb clients n (omega (arith, leb-false n clients within))

own_fits : (role : RoleKind) (home images : ℕ) (s : State) → may_reply role (thread_lines role home images s).0 ≡ true
own_fits App home images s = refl
own_fits Owner home images s = refl
own_fits Client home images s =
    let called = many (called_in images) (many did_in (many ran_in (many hop_in s).1).1).1 in
    let replies = many reply_in called.1 in
    and_from (list_all (λ (r : Reply). has_bytes r.answer) replies.0) (list_all (λ (x : Seen). has_results x.results) (many seen_in replies.1).0)
    (many_all reply_in (λ r. has_bytes r.answer) reply_fits called.1.line called.1.lines)
    (many_all seen_in (λ x. has_results x.results) seen_fits replies.1.line replies.1.lines)

thread_fits : (script : Script) (n home : ℕ) (s : State) → is_printable_thread script n (thread_lines (role_at (length script.clients) n) home (length script.images) s).0 ≡ true
thread_fits script n home s =
    let role = role_at (length script.clients) n in
    let hops = many hop_in s in
    let ran = many ran_in hops.1 in
    let did = many did_in ran.1 in
    let called = many (called_in (length script.images)) did.1 in
    let a = has_role (length script.clients) n role in
    let b = may_reply role (thread_lines role home (length script.images) s).0 in
    let c = list_all (λ (m : Tag). has_a_line m.what) ran.0 in
    let d = list_all (λ (x : Called). nat_lt x.device (length script.images)) called.0 in
    and_from (a && b && c) d
    (and_from (a && b) c (and_from a b (role_fits (length script.clients) n) (own_fits role home (length script.images) s)) (many_all ran_in (λ m. has_a_line m.what) ran_has hops.1.line hops.1.lines))
    (many_all (called_in (length script.images)) (λ x. nat_lt x.device (length script.images)) (called_below (length script.images)) did.1.line did.1.lines)

thread_said : (script : Script) (n : ℕ) (s t : State) (x : ThreadRecord) → thread_at (length script.clients) (length script.images) n s ≡ Ok (x, t) → is_printable_thread script n x ≡ true
thread_said script n s t x e =
    let role = role_at (length script.clients) n in
    let a = read_parts (one (thread_in role n) s) (λ h. Ok (thread_lines role h.0 (length script.images) h.1)) (x, t) e in
    subst (λ y. is_printable_thread script n y ≡ true) (first_is a.2) (thread_fits script n a.0.0 a.0.1)
  where
    first_is : {p : ThreadRecord × State} → ◌≡◌ {A = Result (ThreadRecord × State) ℕ} (Ok p) (Ok (x, t)) → p.0 ≡ x
    first_is {p} e = ap (λ (r : Result (ThreadRecord × State) ℕ). elim r [ Ok q ↦ q.0 | Err n ↦ x ]) e

-- ---- the whole

reactors_within : (l : List ℕ) (n : ℕ) → reactors_in l ≡ Some n → is_within 1 16 n ≡ true
reactors_within l n e =
    let a = some_parts (after (codes "reactors") l) _ n e in
    let b = some_parts (last64 a.0) _ n a.2 in
    let d = if_some (is_within 1 16 b.0) b.0 n b.2 in
    subst (λ k. is_within 1 16 k ≡ true) d.1 d.0

period_within : (l : List ℕ) (n : ℕ) → number_of_in Period l ≡ Some n → is_within 1 1000000000000 n ≡ true
period_within l n e =
    let a = some_parts (after (codes "period") l) _ n e in
    let b = some_parts (last64 a.0) _ n a.2 in
    let d = if_some (is_within 1 1000000000000 b.0) b.0 n b.2 in
    subst (λ k. is_within 1 1000000000000 k ≡ true) d.1 d.0

script_accepted : (s t : State) (script : Script) → script_at s ≡ Ok (script, t) → is_none (rule_broken script) ≡ true
unfolding script_at
script_accepted s t script e =
    let a = read_parts (one (pair_of_in Pool) s) _ (script, t) e in
    let b = read_parts (list_at Images (λ n. one image_in) a.0.1) _ (script, t) a.2 in
    let c = read_parts (list_at Clients (λ n. client_at) b.0.1) _ (script, t) b.2 in
    let whole : Script = record { images = b.0.0; clients = c.0.0; small = a.0.0.small; large = a.0.0.large } in
    let d = if_ok (is_none (rule_broken whole)) (whole, c.0.1) (script, t) c.0.1.line c.2 in
    subst (λ q. is_none (rule_broken q) ≡ true) (ap (λ (p : Script × State). p.0) d.1) d.0

-- the numbers of the front lines
head_within : (s t : State) (h : Head) → head_at s ≡ Ok (h, t) → (is_within 1 16 h.reactors ≡ true) × (is_within 1 1000000000000 h.period ≡ true)
unfolding head_at
head_within s t h e =
    let a = read_parts (one (fixed_in Title) s) _ (h, t) e in
    let b = read_parts (one scheduler_in a.0.1) _ (h, t) a.2 in
    let r = read_parts (one reactors_in b.0.1) _ (h, t) b.2 in
    let p = read_parts (one (number_of_in Period) r.0.1) _ (h, t) r.2 in
    let reactors = one_said reactors_in b.0.1 r.0.1 r.0.0 r.1 in
    let period = one_said (number_of_in Period) r.0.1 p.0.1 p.0.0 p.1 in
    subst (λ (x : Head). (is_within 1 16 x.reactors ≡ true) × (is_within 1 1000000000000 x.period ≡ true)) (ap (λ (q : Result (Head × State) ℕ). elim q [ Ok x ↦ x.0 | Err n ↦ h ]) p.2)
    (reactors_within reactors.0 r.0.0 reactors.1, period_within period.0 p.0.0 period.1)

-- the parts of a record's rule, for what a report says
pub contents_fit : (s t : State) (c : Contents) → report_at s ≡ Ok (c, t) → is_printable c.script c.scheduler c.reactors c.period c.threads c.devices c.span c.rounds ≡ true
unfolding threads_at devices_at
contents_fit s t c e =
    let h = read_parts (head_at s) _ (c, t) e in
    let k = read_parts (script_at h.0.1) _ (c, t) h.2 in
    let th = read_parts (threads_at k.0.0 k.0.1) _ (c, t) k.2 in
    let de = read_parts (devices_at k.0.0 th.0.1) _ (c, t) th.2 in
    let mo = read_parts (moves_at h.0.0.scheduler de.0.1) _ (c, t) de.2 in
    let ho = read_parts (one (pair_of_in Left) mo.0.1) _ (c, t) mo.2 in
    let en = read_parts (one (fixed_in End) ho.0.1) _ (c, t) ho.2 in
    let whole : Contents = record {
      script = k.0.0;
      scheduler = h.0.0.scheduler;
      reactors = h.0.0.reactors;
      period = h.0.0.period;
      threads = th.0.0;
      devices = de.0.0;
      span = mo.0.0.span;
      rounds = mo.0.0.rounds;
      home = ho.0.0;
    } in
    let last = if_ok (is_nil en.0.1.lines) (whole, en.0.1) (c, t) en.0.1.line en.2 in
    let head = head_within s h.0.1 h.0.0 h.1 in
    let threads = numbered_all (thread_at (length k.0.0.clients) (length k.0.0.images)) (is_printable_thread k.0.0) (thread_said k.0.0) (1 + length k.0.0.clients + length k.0.0.images) 0 k.0.1 th.0.1 th.0.0 th.1 in
    let devices = numbered_all (λ d. one (device_in d)) (λ n x. true) (λ n s t x e. refl) (length k.0.0.images) 0 th.0.1 de.0.1 de.0.0 de.1 in
    let q1 = is_none (rule_broken k.0.0) in
    let q2 = is_within 1 16 h.0.0.reactors in
    let q3 = is_within 1 1000000000000 h.0.0.period in
    let q4 = length th.0.0 == 1 + length k.0.0.clients + length k.0.0.images in
    let q5 = list_all (λ (q : ℕ × ThreadRecord). is_printable_thread k.0.0 q.0 q.1) (enumerate_from 0 th.0.0) in
    let q6 = length de.0.0 == length k.0.0.images in
    let q7 = has_rounds h.0.0.scheduler mo.0.0.span mo.0.0.rounds in
    let fit : is_printable k.0.0 h.0.0.scheduler h.0.0.reactors h.0.0.period th.0.0 de.0.0 mo.0.0.span mo.0.0.rounds ≡ true =
    and_from (q1 && q2 && q3 && q4 && q5 && q6) q7
    (and_from (q1 && q2 && q3 && q4 && q5) q6
    (and_from (q1 && q2 && q3 && q4) q5
    (and_from (q1 && q2 && q3) q4
    (and_from (q1 && q2) q3 (and_from q1 q2 (script_accepted h.0.1 k.0.1 k.0.0 k.1) head.0) head.1)
    (eq-eqb (length th.0.0) (1 + length k.0.0.clients + length k.0.0.images) threads.0))
    threads.1)
    (eq-eqb (length de.0.0) (length k.0.0.images) devices.0))
    (moves_printable h.0.0.scheduler de.0.1 mo.0.1 mo.0.0 mo.1) in
    subst (λ (x : Contents). is_printable x.script x.scheduler x.reactors x.period x.threads x.devices x.span x.rounds ≡ true) (ap (λ (q : Contents × State). q.0) last.1) fit
