-- No line of a record has a line feed within it, so the text falls into just its lines.
use Rattle.std.proofs.Common.{◌≡◌, ℕ, ◌+◌, ◌==◌, nat_le, Bool, true, false, ◌||◌, not, if◌then◌else◌, List, [], ◌∷◌, ◌++◌, map, length, flat_map, codes, decimal, append_assoc, Option, Some, None, refl, sym, ap, subst, ◌∙◌, arith}
use Rattle.std.specs.List.{list_all, enumerate_from, AllByRecursion}
use Rattle.std.proofs.lemmas.Bool.{and_parts, and_from, leb-true, ne_eqb, false≢true}
use Rattle.std.proofs.lemmas.Fmt.{digits_decimal}
use Rattle.hex.specs.Hex.{encode_lower}
use Rattle.lw_base.specs.declared.message.Tag.{Tag}
use Rattle.lw_base.specs.declared.message.Mark.{Mark}
use Rattle.lw_base.specs.declared.message.What.{What}
use Rattle.lw_base.specs.declared.message.What.TheVariants as what
use Rattle.lw_model.specs.declared.script.ImageOf.{ImageOf}
use Rattle.lw_model.specs.declared.script.ClientOf.{ClientOf}
use Rattle.lw_model.specs.declared.script.Op.{Op}
use Rattle.lw_model.specs.declared.script.Op.TheVariants as op
use Rattle.lw_base.specs.declared.moves.Order.{Order}
use Rattle.lw_base.specs.declared.moves.Round.{Round}
use Rattle.lw_base.specs.declared.moves.Row.{Row}
use Rattle.lw_base.specs.declared.moves.Scheduler.{Scheduler}
use Rattle.lw_base.specs.declared.moves.Scheduler.TheVariants.{Static, Dynamic}
use Rattle.lw_model.specs.declared.record.Span.{Span}
use Rattle.lw_model.specs.declared.record.ThreadRecord.{ThreadRecord}
use Rattle.lw_model.specs.declared.record.RoleKind.{RoleKind}
use Rattle.lw_model.specs.declared.record.RoleKind.TheVariants.{App, Client, Owner}
use Rattle.lw_base.specs.declared.moves.Hop.{Hop}
use Rattle.lw_model.specs.declared.record.Did.{Did}
use Rattle.lw_model.specs.declared.record.Answer.{Answer}
use Rattle.lw_model.specs.declared.record.Answer.TheVariants as answer
use Rattle.lw_model.specs.declared.record.Called.{Called}
use Rattle.lw_model.specs.declared.record.Reply.{Reply}
use Rattle.lw_model.specs.declared.record.Replied.{Replied}
use Rattle.lw_model.specs.declared.record.Replied.TheVariants as replied
use Rattle.lw_model.specs.declared.record.Seen.{Seen}
use Rattle.lw_model.specs.declared.record.SeenBy.{SeenBy}
use Rattle.lw_model.specs.declared.record.SeenBy.TheVariants as by
use Rattle.lw_base.specs.declared.ends.DeviceEnd.{DeviceEnd}
use Rattle.lw_model.specs.ScriptRules.{is_within, is_name, is_name_byte}
use Rattle.lw_model.specs.ReportText.{line, count_of, image_line, op_words, op_line, client_lines, hop_line, what_words, ran_line, answer_words, did_line, called_line, replied_words, reply_line, mark_word, result_words, seen_line, role_word, thread_line, thread_lines, device_line, clock_lines, row_line, order_line, round_line, round_lines, text_of_lines}
use Rattle.lw_model.specs.Ranges.{Fits32, Fits64, WhatFits, TagFits, HopFits, AnswerFits, DidFits, CalledFits, RepliedFits, ReplyFits, MarkFits, SeenByFits, SeenFits, DeviceFits, RowFits, OrderFits, RoundFits, SpanFits, OpFits, ImageFits, ThreadFits, ClientFits}
use Rattle.lw_report.specs.declared.contents.Contents.{Contents}
use Rattle.lw_report_lines.specs.LineParts.{is_digit, ends_word}
use Rattle.lw_base.specs.TextLines.{is_feed, put_on, pieces}
use Rattle.lw_report.specs.Ranges.{InRange}
use Rattle.lw_model.proofs.Growth.{all-append}
use Rattle.lw_model.proofs.JoinedWords.{join-cons}
use Rattle.lw_report_lines.proofs.PartTexts.{numerals}
use Rattle.lw_report_lines.proofs.PartsBack.{are_all}
use Rattle.lw_report_lines.proofs.ScriptBack.{hex_words, name_words}
use Rattle.lw_report_lines.proofs.Moves.{scheduler_line}
use Rattle.lw_report.proofs.ReportTexts.{fed}
use Rattle.lw_report.proofs.WholeTexts.{images_lines, clients_lines, threads_lines, devices_lines, last_lines, first_lines, lines_from}

no_feed : ℕ → Bool
no_feed b = not (is_feed b)

-- bytes without a line feed
pub record NoFeed (l : List ℕ) : Type 0 where
  free : list_all (λ b. not (is_feed b)) l ≡ true

-- ---- the text falls into its lines

pieces_line : (l rest : List ℕ) → list_all (λ b. not (is_feed b)) l ≡ true → pieces (l ++ 10 ∷ rest) ≡ (l ++ 10 ∷ []) ∷ pieces rest
pieces_line [] rest free = refl
pieces_line (b ∷ l) rest free =
    let k = and_parts (not (is_feed b)) (list_all (λ b. not (is_feed b)) l) free in
    ap (λ t. if t then (b ∷ []) ∷ pieces (l ++ 10 ∷ rest) else put_on b (pieces (l ++ 10 ∷ rest))) (other (is_feed b) k.0) ∙ ap (put_on b) (pieces_line l rest k.1)
  where
    other : (t : Bool) → not t ≡ true → t ≡ false
    other true e = absurd (false≢true e)
    other false e = refl

pub pieces_fed : (ls : List (List ℕ)) → AllByRecursion NoFeed ls → pieces (text_of_lines ls) ≡ fed ls
pieces_fed [] free = refl
pieces_fed (l ∷ ls) free =
    ap pieces (append_assoc l (10 ∷ []) (text_of_lines ls)) ∙ pieces_line l (text_of_lines ls) free.0.free ∙ ap (λ q. (l ++ 10 ∷ []) ∷ q) (pieces_fed ls free.1)

-- ---- words

both : (xs ys : List ℕ) → NoFeed xs → NoFeed ys → NoFeed (xs ++ ys)
both xs ys a b = record { free = go xs a.free }
  where
    go : (xs : List ℕ) → list_all (λ b. not (is_feed b)) xs ≡ true → list_all (λ b. not (is_feed b)) (xs ++ ys) ≡ true
    go [] h = b.free
    go (x ∷ xs) h = let k = and_parts (not (is_feed x)) (list_all (λ b. not (is_feed b)) xs) h in and_from (not (is_feed x)) (list_all (λ b. not (is_feed b)) (xs ++ ys)) k.0 (go xs k.1)

digits_free : (ds : List ℕ) → list_all is_digit ds ≡ true → list_all (λ b. not (is_feed b)) ds ≡ true
digits_free [] h = refl
digits_free (d ∷ ds) h =
    let k = and_parts (is_digit d) (list_all is_digit ds) h in
    let m = and_parts (nat_le 48 d) (nat_le d 57) k.0 in
    and_from (not (is_feed d)) (list_all (λ b. not (is_feed b)) ds) (ap not (ne_eqb d 10 (λ e. absurd (omega (arith, e, leb-true 48 d m.0))))) (digits_free ds k.1)

decimal_free : (n : ℕ) → Fits64 n → NoFeed (decimal n)
decimal_free n fit = record { free = digits_free (decimal n) (are_all (decimal n) (digits_decimal numerals n (omega arith))) }

free32 : (n : ℕ) → Fits32 n → NoFeed (decimal n)
free32 n fit = decimal_free n (omega (arith, fit))

word_free : (w : List ℕ) → list_all (λ b. not (ends_word b)) w ≡ true → NoFeed w
word_free w h = record { free = go w h }
  where
    one : (a b : Bool) → not (a || b) ≡ true → not b ≡ true
    one true b e = absurd (false≢true e)
    one false b e = e

    go : (w : List ℕ) → list_all (λ b. not (ends_word b)) w ≡ true → list_all (λ b. not (is_feed b)) w ≡ true
    go [] h = refl
    go (b ∷ w) h = let k = and_parts (not (ends_word b)) (list_all (λ b. not (ends_word b)) w) h in and_from (not (is_feed b)) (list_all (λ b. not (is_feed b)) w) (one (b == 32) (b == 10) k.0) (go w k.1)

name_free : (w : List ℕ) → is_name w ≡ true → NoFeed w
name_free w h = let k = and_parts (is_within 1 32 (length w)) (list_all is_name_byte w) h in word_free w (name_words w k.1)

mark_free : (m : Mark) → MarkFits m → NoFeed (mark_word m)
mark_free m fit = both (decimal m.thread) (58 ∷ decimal m.submitted) (free32 m.thread fit.0) (record { free = (decimal_free m.submitted fit.1).free })

tail_free : (ws : List (List ℕ)) → AllByRecursion NoFeed ws → NoFeed (flat_map (λ w. 32 ∷ w) ws)
tail_free [] free = record { free = refl }
tail_free (w ∷ ws) free = both (32 ∷ w) (flat_map (λ w. 32 ∷ w) ws) (record { free = free.0.free }) (tail_free ws free.1)

line_free : (w : List ℕ) (ws : List (List ℕ)) → NoFeed w → AllByRecursion NoFeed ws → NoFeed (line (w ∷ ws))
line_free w ws a b = subst NoFeed (sym (join-cons w ws)) (both w (flat_map (λ w. 32 ∷ w) ws) a (tail_free ws b))

-- a word that is written out
abbrev known : (w : List ℕ) → list_all (λ b. not (is_feed b)) w ≡ true → NoFeed w
known w e = record { free = e }

-- ---- lines

what_free : (w : What) → WhatFits w → AllByRecursion NoFeed (what_words w)
what_free (what.Request k) fit = (known (codes "request") refl, (free32 k fit, tt))
what_free (what.Reply k) fit = (known (codes "reply") refl, (free32 k fit, tt))
what_free (what.PutSelf d) fit = (known (codes "putself") refl, (free32 d fit, tt))
what_free (what.Visit o k d) fit = (known (codes "visit") refl, (free32 o fit.0, (free32 k fit.1, (free32 d fit.2, tt))))
what_free (what.Visited k) fit = (known (codes "visited") refl, (free32 k fit, tt))
what_free (what.Cast o k) fit = (known (codes "cast") refl, (free32 o fit.0, (free32 k fit.1, tt)))
what_free (what.Casted k) fit = (known (codes "casted") refl, (free32 k fit, tt))
what_free what.Done fit = (known (codes "done") refl, tt)
what_free what.Stop fit = (known (codes "stop") refl, tt)
what_free (what.Arrive n t) fit = tt
what_free (what.Order n t c) fit = tt

ran_free : (m : Tag) → TagFits m → NoFeed (ran_line m)
ran_free m fit = line_free (codes "ran") (decimal m.sender ∷ decimal m.number ∷ what_words m.what) (known (codes "ran") refl) (free32 m.sender fit.0, (decimal_free m.number fit.1, what_free m.what fit.2))

answer_free : (x : Answer) → AnswerFits x → AllByRecursion NoFeed (answer_words x)
answer_free (answer.Given n) fit = (known (codes "given") refl, (decimal_free n fit, tt))
answer_free (answer.Again n) fit = (known (codes "again") refl, (decimal_free n fit, tt))
answer_free answer.Shut fit = (known (codes "shut") refl, tt)
answer_free answer.Counted fit = (known (codes "counted") refl, tt)
answer_free answer.Deferred fit = (known (codes "deferred") refl, tt)
answer_free answer.NoChannel fit = (known (codes "nochannel") refl, tt)
answer_free answer.Sent fit = (known (codes "sent") refl, tt)
answer_free answer.Waited fit = (known (codes "waited") refl, tt)
answer_free answer.Started fit = (known (codes "started") refl, tt)
answer_free (answer.Began n) fit = (known (codes "began") refl, (decimal_free n fit, tt))
answer_free answer.Already fit = (known (codes "already") refl, tt)
answer_free answer.Closed fit = (known (codes "closed") refl, tt)

did_free : (x : Did) → DidFits x → NoFeed (did_line x)
did_free x fit = line_free (codes "did") (decimal x.at ∷ decimal x.op ∷ answer_words x.answer) (known (codes "did") refl) (decimal_free x.at fit.0, (free32 x.op fit.1, answer_free x.answer fit.2))

hop_free : (h : Hop) → HopFits h → NoFeed (hop_line h)
hop_free h fit = line_free (codes "hop") (decimal h.round ∷ decimal h.reactor ∷ []) (known (codes "hop") refl) (free32 h.round fit.0, (free32 h.reactor fit.1, tt))

called_free : (x : Called) → CalledFits x → NoFeed (called_line x)
called_free x fit = line_free (codes "called") (decimal x.at ∷ decimal x.device ∷ []) (known (codes "called") refl) (decimal_free x.at fit.0, (free32 x.device fit.1, tt))

replied_free : (x : Replied) → RepliedFits x → AllByRecursion NoFeed (replied_words x)
replied_free replied.Ok fit = (known (codes "ok") refl, tt)
replied_free (replied.Bytes bs) fit = (known (codes "bytes") refl, (word_free (encode_lower bs) (hex_words bs fit), tt))
replied_free (replied.Writes n) fit = (known (codes "writes") refl, (decimal_free n fit, tt))

reply_free : (x : Reply) → ReplyFits x → NoFeed (reply_line x)
reply_free x fit = line_free (codes "reply") (decimal x.op ∷ replied_words x.answer) (known (codes "reply") refl) (free32 x.op fit.0, replied_free x.answer fit.1)

-- what holds of each line of a list
mapped : {X : Type 0} (text : X → List ℕ) (Fits : X → Type 0) → ((x : X) → Fits x → NoFeed (text x)) → (xs : List X) → AllByRecursion Fits xs → AllByRecursion NoFeed (map text xs)
mapped text Fits each [] fit = tt
mapped text Fits each (x ∷ xs) fit = (each x fit.0, mapped text Fits each xs fit.1)

results_free : (x : SeenBy) → SeenByFits x → AllByRecursion NoFeed (result_words x)
results_free (by.Visit ms) fit = mapped mark_word MarkFits mark_free ms fit
results_free (by.Cast ts) fit = mapped decimal Fits32 free32 ts fit

seen_free : (x : Seen) → SeenFits x → NoFeed (seen_line x)
seen_free x fit = line_free (codes "seen") (decimal x.op ∷ result_words x.results) (known (codes "seen") refl) (free32 x.op fit.0, results_free x.results fit.1)

role_free : (r : RoleKind) → NoFeed (role_word r)
role_free App = known (codes "app") refl
role_free Client = known (codes "client") refl
role_free Owner = known (codes "owner") refl

thread_free : (n : ℕ) (x : ThreadRecord) → Fits64 n → ThreadFits x → AllByRecursion NoFeed (thread_lines n x)
thread_free n x small fit =
    let first = line_free (codes "thread") (decimal n ∷ role_word x.role ∷ decimal x.home ∷ []) (known (codes "thread") refl) (decimal_free n small, (role_free x.role, (free32 x.home fit.home, tt))) in
    let hops = thread_line n x ∷ map hop_line x.hops in
    let ran = map ran_line x.ran in
    let did = map did_line x.did in
    let called = map called_line x.called in
    let replies = map reply_line x.replies in
    let seen = map seen_line x.seen in
    all-append NoFeed (hops ++ ran ++ did ++ called ++ replies) seen
    (all-append NoFeed (hops ++ ran ++ did ++ called) replies
    (all-append NoFeed (hops ++ ran ++ did) called
    (all-append NoFeed (hops ++ ran) did
    (all-append NoFeed hops ran (first, mapped hop_line HopFits hop_free x.hops fit.hops) (mapped ran_line TagFits ran_free x.ran fit.ran))
    (mapped did_line DidFits did_free x.did fit.did))
    (mapped called_line CalledFits called_free x.called fit.called))
    (mapped reply_line ReplyFits reply_free x.replies fit.replies))
    (mapped seen_line SeenFits seen_free x.seen fit.seen)

threads_free : (n : ℕ) (xs : List ThreadRecord) → AllByRecursion ThreadFits xs → Fits64 (n + length xs) → AllByRecursion NoFeed (flat_map (λ p. thread_lines p.0 p.1) (enumerate_from n xs))
threads_free n [] fit small = tt
threads_free n (x ∷ xs) fit small =
    all-append NoFeed (thread_lines n x) (flat_map (λ p. thread_lines p.0 p.1) (enumerate_from (n + 1) xs)) (thread_free n x (omega (arith, small)) fit.0) (threads_free (n + 1) xs fit.1 (omega (arith, small)))

device_free : (n : ℕ) (d : DeviceEnd) → Fits64 n → DeviceFits d → NoFeed (device_line n d)
device_free n d small fit =
    line_free (codes "device") (decimal n ∷ decimal d.given ∷ decimal d.thread ∷ decimal d.callbacks ∷ []) (known (codes "device") refl) (decimal_free n small, (decimal_free d.given fit.0, (free32 d.thread fit.1, (free32 d.callbacks fit.2, tt))))

devices_free : (n : ℕ) (ds : List DeviceEnd) → AllByRecursion DeviceFits ds → Fits64 (n + length ds) → AllByRecursion NoFeed (map (λ p. device_line p.0 p.1) (enumerate_from n ds))
devices_free n [] fit small = tt
devices_free n (d ∷ ds) fit small = (device_free n d (omega (arith, small)) fit.0, devices_free (n + 1) ds fit.1 (omega (arith, small)))

-- ---- the script

image_free : (i : ImageOf) → ImageFits i × (is_name i.name ≡ true) → NoFeed (image_line i)
image_free i h = line_free (codes "image") (i.name ∷ decimal i.block ∷ decimal i.blocks ∷ []) (known (codes "image") refl) (name_free i.name h.1, (free32 i.block h.0.0, (decimal_free i.blocks h.0.1, tt)))

op_free : (o : Op) → OpFits o → NoFeed (op_line o)
op_free o fit = line_free (codes "op") (op_words o) (known (codes "op") refl) (words o fit)
  where
    words : (o : Op) → OpFits o → AllByRecursion NoFeed (op_words o)
    words (op.Get d) fit = (known (codes "get") refl, (free32 d fit, tt))
    words (op.Put d) fit = (known (codes "put") refl, (free32 d fit, tt))
    words (op.Write d start count pattern) fit = (known (codes "write") refl, (free32 d fit.0, (decimal_free start fit.1, (decimal_free count fit.2, (word_free (encode_lower pattern) (hex_words pattern fit.3), tt)))))
    words (op.Read d start count) fit = (known (codes "read") refl, (free32 d fit.0, (decimal_free start fit.1, (decimal_free count fit.2, tt))))
    words (op.Flush d) fit = (known (codes "flush") refl, (free32 d fit, tt))
    words (op.Wait ticks) fit = (known (codes "wait") refl, (decimal_free ticks fit, tt))
    words (op.Visit d) fit = (known (codes "visit") refl, (free32 d fit, tt))
    words op.Each fit = (known (codes "each") refl, tt)
    words (op.Unregister d) fit = (known (codes "unregister") refl, (free32 d fit, tt))

with_test : {X : Type 0} (P : X → Type 0) (p : X → Bool) (xs : List X) → AllByRecursion P xs → list_all p xs ≡ true → AllByRecursion (λ x. P x × (p x ≡ true)) xs
with_test P p [] fit h = tt
with_test P p (x ∷ xs) fit h = let k = and_parts (p x) (list_all p xs) h in ((fit.0, k.0), with_test P p xs fit.1 k.1)

clients_free : (cs : List ClientOf) → AllByRecursion ClientFits cs → list_all (λ (c : ClientOf). is_name c.name) cs ≡ true → AllByRecursion NoFeed (flat_map client_lines cs)
clients_free [] fit named = tt
clients_free (c ∷ cs) fit named =
    let k = and_parts (is_name c.name) (list_all (λ (d : ClientOf). is_name d.name) cs) named in
    all-append NoFeed (client_lines c) (flat_map client_lines cs)
    (line_free (codes "client") (c.name ∷ decimal c.depth ∷ count_of c.ops ∷ []) (known (codes "client") refl) (name_free c.name k.0, (free32 c.depth fit.0.0, (decimal_free (length c.ops) fit.0.2, tt))), mapped op_line OpFits op_free c.ops fit.0.1)
    (clients_free cs fit.1 k.1)

-- ---- the clock's line and the rounds

scheduler_free : (x : Scheduler) → NoFeed (scheduler_line x)
scheduler_free Static = known (codes "scheduler static") refl
scheduler_free Dynamic = known (codes "scheduler dynamic") refl

clock_free : (span : Option Span) → SpanFits span → AllByRecursion NoFeed (clock_lines span)
clock_free None fit = tt
clock_free (Some x) fit = (line_free (codes "clock") (decimal x.first ∷ decimal x.last ∷ []) (known (codes "clock") refl) (decimal_free x.first fit.0, (decimal_free x.last fit.1, tt)), tt)

row_free : (x : Row) → RowFits x → NoFeed (row_line x)
row_free x fit =
    line_free (codes "row") (decimal x.thread ∷ decimal x.reactor ∷ decimal x.busy ∷ decimal x.idle ∷ []) (known (codes "row") refl)
    (free32 x.thread fit.0, (free32 x.reactor fit.1, (decimal_free x.busy fit.2, (decimal_free x.idle fit.3, tt))))

order_free : (x : Order) → OrderFits x → NoFeed (order_line x)
order_free x fit = line_free (codes "order") (decimal x.thread ∷ decimal x.to ∷ []) (known (codes "order") refl) (free32 x.thread fit.0, (free32 x.to fit.1, tt))

round_free : (x : Round) → RoundFits x → AllByRecursion NoFeed (round_lines x)
round_free x fit =
    let first = line_free (codes "round") (decimal x.number ∷ decimal x.time ∷ []) (known (codes "round") refl) (free32 x.number fit.0, (decimal_free x.time fit.1, tt)) in
    all-append NoFeed (round_line x ∷ map row_line x.rows) (map order_line x.orders) (first, mapped row_line RowFits row_free x.rows fit.2) (mapped order_line OrderFits order_free x.orders fit.3)

rounds_free : (xs : List Round) → AllByRecursion RoundFits xs → AllByRecursion NoFeed (flat_map round_lines xs)
rounds_free [] fit = tt
rounds_free (x ∷ xs) fit = all-append NoFeed (round_lines x) (flat_map round_lines xs) (round_free x fit.0) (rounds_free xs fit.1)

-- ---- the whole

pub lines_free : (c : Contents) → InRange c → Fits64 c.reactors → Fits64 c.period → list_all (λ (i : ImageOf). is_name i.name) c.script.images ≡ true → list_all (λ (x : ClientOf). is_name x.name) c.script.clients ≡ true
    → Fits64 (length c.threads) → Fits64 (length c.devices) → AllByRecursion NoFeed (lines_from c)
lines_free c range reactors period images clients threads devices =
    let head = first_lines c in
    let script = c.script in
    let i = images_lines script in
    let k = clients_lines script in
    let t = threads_lines c in
    let d = devices_lines c in
    let m = clock_lines c.span in
    let n = flat_map round_lines c.rounds in
    let first : AllByRecursion NoFeed head = (known (codes "lightrun report 1") refl, (scheduler_free c.scheduler, (line_free (codes "reactors") (decimal c.reactors ∷ []) (known (codes "reactors") refl) (decimal_free c.reactors reactors, tt), (line_free (codes "period") (decimal c.period ∷ []) (known (codes "period") refl) (decimal_free c.period period, tt), (line_free (codes "pool") (decimal script.small ∷ decimal script.large ∷ []) (known (codes "pool") refl) (free32 script.small range.script.small, (free32 script.large range.script.large, tt)), tt))))) in
    let second : AllByRecursion NoFeed i = (line_free (codes "images") (count_of script.images ∷ []) (known (codes "images") refl) (decimal_free (length script.images) (omega (arith, range.script.count)), tt), mapped image_line (λ x. ImageFits x × (is_name x.name ≡ true)) image_free script.images (with_test ImageFits (λ (x : ImageOf). is_name x.name) script.images range.script.images images)) in
    let third : AllByRecursion NoFeed k = (line_free (codes "clients") (count_of script.clients ∷ []) (known (codes "clients") refl) (decimal_free (length script.clients) (omega (arith, range.script.count)), tt), clients_free script.clients range.script.clients clients) in
    let last : AllByRecursion NoFeed (last_lines c) = (line_free (codes "home") (decimal c.home.small ∷ decimal c.home.large ∷ []) (known (codes "home") refl) (free32 c.home.small range.small, (free32 c.home.large range.large, tt)), (known (codes "end") refl, tt)) in
    all-append NoFeed (head ++ i ++ k ++ t ++ d ++ m ++ n) (last_lines c)
    (all-append NoFeed (head ++ i ++ k ++ t ++ d ++ m) n
    (all-append NoFeed (head ++ i ++ k ++ t ++ d) m
    (all-append NoFeed (head ++ i ++ k ++ t) d
    (all-append NoFeed (head ++ i ++ k) t
    (all-append NoFeed (head ++ i) k (all-append NoFeed head i first second) third)
    (threads_free 0 c.threads range.threads (omega (arith, threads))))
    (devices_free 0 c.devices range.devices (omega (arith, devices))))
    (clock_free c.span range.span))
    (rounds_free c.rounds range.rounds)) last
