-- Devices, from the settled registry.
use Rattle.std.proofs.Common.{◌≡◌, ℕ, zero, suc, ◌+◌, ◌*◌, ◌<◌, ◌≤◌, ◌==◌, nat_lt, nat_le, Bool, true, false, cond, not, ◌&&◌, ◌||◌, List, [], ◌∷◌, filter_map, length, take, Option, Some, None, slice_get, option_map, refl, sym, ap, subst, ◌∙◌, arith}
use Rattle.std.specs.List.{list_all, list_any, AllByRecursion, cons_option}
use Rattle.std.proofs.lemmas.Bool.{and_parts, eqb-true, ltb-true, leb-true, ne_eqb, not_from_false, false≢true}
use Rattle.lw_base.specs.declared.message.Tag.{Tag}
use Rattle.lw_base.specs.declared.message.What.{What}
use Rattle.lw_base.specs.declared.message.What.TheVariants as what
use Rattle.lw_model.specs.declared.script.Script.{Script}
use Rattle.lw_model.specs.declared.record.Record.{Record}
use Rattle.lw_model.specs.declared.record.Did.{Did}
use Rattle.lw_model.specs.declared.record.Answer.{Answer}
use Rattle.lw_model.specs.declared.record.Answer.TheVariants as answer
use Rattle.lw_model.specs.declared.step.Step.{Step}
use Rattle.lw_model.specs.declared.step.Step.TheVariants as step
use Rattle.lw_model.specs.Threads.{thread_count, is_client, is_on, clients}
use Rattle.lw_model.specs.OwnOrder.{own_order, own_order_of, with_past, history}
use Rattle.lw_model.specs.Holding.{says}
use Rattle.lw_model.specs.Answers.{is_done_of, unregister_fits}
use Rattle.lw_model.specs.Devices.{DeviceHolds, Devices, device_at, is_began, needs_open, tells_shut, is_refusal, callback_fits, refusal_fits}
use Rattle.lw_model.proofs.Passing.{item_passes, all_in_range}
use Rattle.lw_model.proofs.Callbacks.{any_without}
use Rattle.lw_whole.specs.Letters.{Letter, row, Note}
use Rattle.lw_whole.specs.Logs.{Log, without_callbacks, steps, steps_with_past}
use Rattle.lw_whole.specs.Notes.{note_at, count_begun, row_of, row_in, rows_in, knows_open}
use Rattle.lw_whole.specs.Lines.{app_line_fits, stays_shut}
use Rattle.lw_whole.specs.WholeRun.{IsWholeRun}
use Rattle.lw_whole.proofs.Access.{in_range, client_within, get_map, of_log, log_of, ended, app_ended}
use Rattle.lw_whole.proofs.Steps.{steps_are, lifted, Stands, all_stand}
use Rattle.lw_whole.proofs.OwnSorted.{key, Sorted, own_sorted}
use Rattle.lw_whole.proofs.CallbacksFit.{callbacks_fit}
use Rattle.lw_whole.proofs.NoteSums.{is_done, own_at, own_is}
use Rattle.lw_whole.proofs.WhoBegan.{done_from, began, own_fits, settled, thread_is}
use Rattle.lw_whole.proofs.DeviceLines.{ordinal_count, each_ordinal, began_once, called_once}

-- ---- the app's line that began

-- a line that began to unregister the device, with what stood before it
pub record BeganLine (s : Script) (d : ℕ) (l : Log) : Type 0 where
  pub past : List Step
  pub place : ℕ
  pub line : Did
  pub began : is_began line.answer ≡ true
  pub on : is_on s 0 d line.op ≡ true
  pub at : slice_get l.lines.did place ≡ Some line
  pub fits : app_line_fits s past (step.Did place line) ≡ true
  pub before : AllByRecursion (λ y. key y ≤ 3 * line.at + 0) past
  pub stand : AllByRecursion (Stands (without_callbacks l.lines)) past

all_lower : (a b : ℕ) (ys : List Step) → a ≤ b → AllByRecursion (λ y. key y ≤ a) ys → AllByRecursion (λ y. key y ≤ b) ys
all_lower a b [] le h = tt
all_lower a b (y ∷ ys) le h = (omega (arith, le, h.0), all_lower a b ys le h.1)

module _ (s : Script) (d : ℕ) (l : Log) where
  begun_line : (n : ℕ) (past rest : List Step) → filter_map (count_begun (is_on s 0 d)) rest ≡ n ∷ [] → list_all (λ p. app_line_fits s p.0 p.1) (with_past past rest) ≡ true → Sorted rest
      → AllByRecursion (λ z. AllByRecursion (λ y. key y ≤ key z) past) rest → AllByRecursion (Stands (without_callbacks l.lines)) past → AllByRecursion (Stands (without_callbacks l.lines)) rest → BeganLine s d l
  begun_line n past [] e fits sorted bounded stand more = cc
  begun_line n past (x ∷ rest) e fits sorted bounded stand more =
      let both = and_parts (app_line_fits s past x) (list_all (λ p. app_line_fits s p.0 p.1) (with_past (x ∷ past) rest)) fits in
      at x refl e both.0 (λ e. begun_line n (x ∷ past) rest e both.1 sorted.1 (with_this rest bounded.1 sorted.0) (more.0, stand) more.1)
    where
      with_this : (zs : List Step) → AllByRecursion (λ z. AllByRecursion (λ y. key y ≤ key z) past) zs → AllByRecursion (λ z. key x ≤ key z) zs → AllByRecursion (λ z. AllByRecursion (λ y. key y ≤ key z) (x ∷ past)) zs
      with_this [] b h = tt
      with_this (z ∷ zs) b h = ((h.0, b.0), with_this zs b.1 h.1)

      at : (y : Step) → x ≡ y → cons_option (count_begun (is_on s 0 d) y) (filter_map (count_begun (is_on s 0 d)) rest) ≡ n ∷ [] → app_line_fits s past x ≡ true
          → (filter_map (count_begun (is_on s 0 d)) rest ≡ n ∷ [] → BeganLine s d l) → BeganLine s d l
      at (step.Called i c) is e fit go = go e
      at (step.Ran i m) is e fit go = go e
      at (step.Did i y) is e fit go = of y.answer refl e
        where
          of : (a : Answer) → y.answer ≡ a → cons_option (count_begun (is_on s 0 d) (step.Did i (record { at = y.at; op = y.op; answer = a }))) (filter_map (count_begun (is_on s 0 d)) rest) ≡ n ∷ [] → BeganLine s d l
          of (answer.Began g) is_answer e = here (is_on s 0 d y.op) refl e
            where
              here : (b : Bool) → is_on s 0 d y.op ≡ b → cons_option (cond b (Some g) None) (filter_map (count_begun (is_on s 0 d)) rest) ≡ n ∷ [] → BeganLine s d l
              here true on e = record {
                past = past;
                place = i;
                line = y;
                began = ap is_began is_answer;
                on = on;
                at = subst (Stands (without_callbacks l.lines)) is more.0;
                fits = ap (app_line_fits s past) (sym is) ∙ fit;
                before = all_lower (key x) (3 * y.at + 0) past (omega (arith, ap key is)) bounded.0;
                stand = stand;
              }
              here false on e = go e
          of _ is_answer e = go e

-- the place of a client's Done among what came before
pub record DonePlace (l : Log) (c a : ℕ) : Type 0 where
  pub place : ℕ
  pub tag : Tag
  pub at : slice_get l.lines.ran place ≡ Some tag
  pub earlier : place < a
  pub sender : tag.sender ≡ c
  pub done : is_done tag.what ≡ true

done_place : (l : Log) (c a : ℕ) (past : List Step) → list_any (is_done_of c) past ≡ true → AllByRecursion (λ y. key y ≤ 3 * a + 0) past → AllByRecursion (Stands (without_callbacks l.lines)) past → DonePlace l c a
done_place l c a [] e before stand = absurd (false≢true e)
done_place l c a (step.Did i x ∷ past) e before stand = done_place l c a past e before.1 stand.1
done_place l c a (step.Called i x ∷ past) e before stand = done_place l c a past e before.1 stand.1
done_place l c a (step.Ran i m ∷ past) e before stand = at (is_done_of c (step.Ran i m)) refl e (λ f. done_place l c a past f before.1 stand.1)
  where
    done_is : (v : What) → elim v as (λ z. Bool) [ what.Done ↦ true | _ ↦ false ] ≡ true → is_done v ≡ true
    done_is what.Done e = refl
    done_is (what.Request k) e = absurd (false≢true e)
    done_is (what.Reply k) e = absurd (false≢true e)
    done_is (what.PutSelf k) e = absurd (false≢true e)
    done_is (what.Visit a b c) e = absurd (false≢true e)
    done_is (what.Visited k) e = absurd (false≢true e)
    done_is (what.Cast a b) e = absurd (false≢true e)
    done_is (what.Casted k) e = absurd (false≢true e)
    done_is what.Stop e = absurd (false≢true e)
    done_is (what.Arrive a b) e = absurd (false≢true e)
    done_is (what.Order a b c) e = absurd (false≢true e)

    at : (b : Bool) → is_done_of c (step.Ran i m) ≡ b → (b || list_any (is_done_of c) past) ≡ true → (list_any (is_done_of c) past ≡ true → DonePlace l c a) → DonePlace l c a
    at true f e go =
        let both = and_parts (m.sender == c) (elim m.what as (λ z. Bool) [ what.Done ↦ true | _ ↦ false ]) f in
        record { place = i; tag = m; at = stand.0; earlier = omega (arith, before.0); sender = eqb-true m.sender c both.0; done = done_is m.what both.1 }
    at false f e go = go e

rows_pass : (P : List Note → Bool) (ls : List Letter) (i : ℕ) (x : Letter) (ns : List Note) → list_all P (rows_in ls) ≡ true → slice_get ls i ≡ Some x → row_in x ≡ Some ns → P ns ≡ true
rows_pass P [] i x ns e at is = cc
rows_pass P (y ∷ ls) zero x ns e at is =
    let first : row_in y ≡ Some ns = ap row_in (same at) ∙ is in
    (and_parts (P ns) (list_all P (rows_in ls)) (ap (λ o. list_all P (cons_option o (rows_in ls))) (sym first) ∙ e)).0
  where
    same : Some y ≡ Some x → y ≡ x
    same e = cc
rows_pass P (y ∷ ls) (suc i) x ns e at is = rows_pass P ls i x ns (rest (row_in y) e) at is
  where
    rest : (o : Option (List Note)) → list_all P (cons_option o (rows_in ls)) ≡ true → list_all P (rows_in ls) ≡ true
    rest None e = e
    rest (Some ms) e = (and_parts (P ms) (list_all P (rows_in ls)) e).1

take_get : {X : Type 0} (xs : List X) (a i : ℕ) → i < a → slice_get (take a xs) i ≡ slice_get xs i
take_get xs zero i less = absurd (omega (arith, less))
take_get [] (suc a) i less = refl
take_get (x ∷ xs) (suc a) zero less = refl
take_get (x ∷ xs) (suc a) (suc i) less = take_get xs a i (omega (arith, less))

module _ (r : Record) (logs : List Log) (whole : IsWholeRun r logs) (d : ℕ) (device : d < length r.script.images) where
  abbrev n : ℕ
  n = thread_count r.script

  shut_stays : (t : ℕ) (l : Log) → slice_get logs t ≡ Some l → list_all (λ p. stays_shut r.script t d p.0 p.1) (steps_with_past l) ≡ true
  shut_stays t l e = in_range (λ k. list_all (λ p. stays_shut r.script t k p.0 p.1) (steps_with_past l) ≡ true) 0 (length r.script.images) d (ended r logs whole t l e).stays_shut (omega arith) (omega (arith, device))

  called_after : (t : ℕ) → t < n → list_all (λ p. callback_fits r d t p.0 p.1) (history r t) ≡ true
  called_after t less =
      let l = log_of r logs whole t less in
      let ends = ended r logs whole t l.0 l.1 in
      ap (λ (ss : List Step). list_all (λ p. callback_fits r d t p.0 p.1) (with_past [] ss)) (of_log r logs whole own_order t l.0 l.1)
      ∙ callbacks_fit r t l.0 d (shut_stays t l.0 l.1) ends.stood ends.callbacks

  refused_after : (t : ℕ) → t < n → list_all (λ p. refusal_fits r d t p.0 p.1) (history r t) ≡ true
  refused_after t less =
      let l = log_of r logs whole t less in
      ap (λ (ss : List Step). list_all (λ p. refusal_fits r d t p.0 p.1) (with_past [] ss)) (of_log r logs whole own_order t l.0 l.1)
      ∙ lifted (refusal_fits r d t) (stays_shut r.script t d)
      (λ past i x e. ap (λ b. not (says (is_on r.script t d) needs_open (step.Did i x)) || not b) (any_without (says (is_on r.script t d) tells_shut) (λ j y. refl) past) ∙ e)
      (λ past i x. refl) (λ past i m e. refl) [] (own_order l.0.lines)
      (ap (λ ss. list_all (λ p. stays_shut r.script t d p.0 p.1) (with_past [] ss)) (steps_are l.0) ∙ shut_stays t l.0 l.1)

  -- where the app began, no client's row had found the device shut
  open_for : (l : Log) → slice_get logs 0 ≡ Some l → BeganLine r.script d l → (c : ℕ) → is_client r.script c ≡ true → (own_at r logs whole d device c).found ≡ 0
  open_for l at line c client =
      let fits = and_parts (line.line.op == line.place && nat_lt line.place (length r.script.images) && unregister_fits line.line.answer) (list_all (λ k. list_any (is_done_of k) line.past) (clients r.script)) line.fits in
      let ran_done = (all_in_range (λ k. list_any (is_done_of k) line.past) (λ k. list_any (is_done_of k) line.past ≡ true) 1 (length r.script.clients) (λ k. (λ e. e, λ e. e))).0 fits.1 c (low c client) (high c client) in
      let done = done_place l c line.line.at line.past ran_done line.before line.stand in
      let got = letter_of done.tag done.place (slice_get l.ran done.place) refl (sym (get_map (λ (x : Letter). x.tag) l.ran done.place) ∙ ap (λ ms. slice_get ms done.place) (ended r logs whole 0 l at).tags ∙ done.at) in
      let from = done_from r logs whole l at done.place got.0 got.1 (ap (λ (m : Tag). is_done m.what) got.2 ∙ done.done) in
      let same : from.client ≡ c = sym from.named ∙ ap (λ (m : Tag). m.sender) got.2 ∙ done.sender in
      let row_is : row_in got.0 ≡ Some from.log.own = row_is_own got.0 from.log.own (ap (λ (m : Tag). is_done m.what) got.2 ∙ done.done) from.carried in
      let knew = item_passes (λ x. not (is_began x.answer) || list_all (λ ns. knows_open (note_at ns x.op)) (rows_in (take x.at l.ran))) l.lines.did line.place line.line (app_ended r logs whole l at).took_in.knew line.at in
      let all_open : list_all (λ ns. knows_open (note_at ns line.line.op)) (rows_in (take line.line.at l.ran)) ≡ true = began_so (is_began line.line.answer) line.began knew in
      let is_open : knows_open (note_at from.log.own line.line.op) ≡ true = rows_pass (λ ns. knows_open (note_at ns line.line.op)) (take line.line.at l.ran) done.place got.0 from.log.own all_open (take_get l.ran line.line.at done.place done.earlier ∙ got.1) row_is in
      let op_is : line.line.op ≡ d = on_app line.line.op line.on in
      let found : (note_at from.log.own d).found ≡ 0 = ap (λ k. (note_at from.log.own k).found) (sym op_is) ∙ eqb-true (note_at from.log.own line.line.op).found 0 (and_parts ((note_at from.log.own line.line.op).found == 0) ((note_at from.log.own line.line.op).begun == 0) is_open).0 in
      ap (λ k. (own_at r logs whole d device k).found) (sym same) ∙ ap (λ (m : Note). m.found) (own_is r logs whole d device from.client from.log from.at) ∙ found
    where
      low : (c : ℕ) → is_client r.script c ≡ true → 1 ≤ c
      low c e = ltb-true 0 c (and_parts (nat_lt 0 c) (nat_le c (length r.script.clients)) e).0

      high : (c : ℕ) → is_client r.script c ≡ true → c < 1 + length r.script.clients
      high c e = omega (arith, leb-true c (length r.script.clients) (and_parts (nat_lt 0 c) (nat_le c (length r.script.clients)) e).1)

      letter_of : (m : Tag) (i : ℕ) (o : Option Letter) → slice_get l.ran i ≡ o → option_map (λ (x : Letter). x.tag) o ≡ Some m → (x : Letter) × (slice_get l.ran i ≡ Some x) × (x.tag ≡ m)
      letter_of m i None f g = cc
      letter_of m i (Some x) f g = (x, f, same g)
        where
          same : Some x.tag ≡ Some m → x.tag ≡ m
          same g = cc

      row_is_own : (x : Letter) (ns : List Note) → is_done x.tag.what ≡ true → x.load ≡ row ns → row_in x ≡ Some ns
      row_is_own x ns e load = of x.tag.what e
        where
          of : (v : What) → is_done v ≡ true → elim v as (λ z. Option (List Note)) [ what.Done ↦ row_of x.load | _ ↦ None ] ≡ Some ns
          of what.Done e = ap row_of load
          of (what.Request k) e = absurd (false≢true e)
          of (what.Reply k) e = absurd (false≢true e)
          of (what.PutSelf k) e = absurd (false≢true e)
          of (what.Visit a b c) e = absurd (false≢true e)
          of (what.Visited k) e = absurd (false≢true e)
          of (what.Cast a b) e = absurd (false≢true e)
          of (what.Casted k) e = absurd (false≢true e)
          of what.Stop e = absurd (false≢true e)
          of (what.Arrive a b) e = absurd (false≢true e)
          of (what.Order a b c) e = absurd (false≢true e)

      began_so : (b : Bool) {q : Bool} → b ≡ true → (not b || q) ≡ true → q ≡ true
      began_so true is e = e
      began_so false is e = absurd (false≢true is)

      -- the app's op k is device k
      on_app : (k : ℕ) → is_on r.script 0 d k ≡ true → k ≡ d
      on_app k e = of (nat_lt k (length r.script.images)) e
        where
          of : (b : Bool) → elim (elim b as (λ z. Option ℕ) [ true ↦ Some k | false ↦ None ]) as (λ z. Bool) [ None ↦ false | Some f ↦ f == d ] ≡ true → k ≡ d
          of true e = eqb-true k d e
          of false e = absurd (false≢true e)

  none_refused : (device_at r d).thread ≡ 0 → (c : ℕ) → is_client r.script c ≡ true → not (list_any (says (is_on r.script c d) is_refusal) (own_order_of r c)) ≡ true
  none_refused zero_is c client =
      let app = log_of r logs whole 0 (omega arith) in
      let l = log_of r logs whole c (client_within r.script c client) in
      let line = app_line app.0 app.1 in
      let unfound = open_for app.0 app.1 line c client in
      ap (λ (ss : List Step). not (list_any (says (is_on r.script c d) is_refusal) ss)) (of_log r logs whole own_order c l.0 l.1)
      ∙ ap not (any_without (says (is_on r.script c d) is_refusal) (λ i x. refl) (own_order l.0.lines) ∙ ap (list_any (says (is_on r.script c d) is_refusal)) (steps_are l.0))
      ∙ not_from_false (list_any (says (is_on r.script c d) is_refusal) (steps l.0)) (none l.0 l.1 (list_any (says (is_on r.script c d) is_refusal) (steps l.0)) refl unfound)
    where
      none : (l : Log) → slice_get logs c ≡ Some l → (b : Bool) → list_any (says (is_on r.script c d) is_refusal) (steps l) ≡ b → (own_at r logs whole d device c).found ≡ 0 → list_any (says (is_on r.script c d) is_refusal) (steps l) ≡ false
      none l e true is unfound = absurd (omega (arith, unfound, (own_fits r logs whole d device c l e).found is))
      none l e false is unfound = is

      app_line : (l : Log) → slice_get logs 0 ≡ Some l → BeganLine r.script d l
      app_line l e =
          let who = began r logs whole d device in
          let here : who.thread ≡ 0 = thread_is r logs whole d device ∙ zero_is in
          let note = own_fits r logs whole d device 0 l e in
          let one : (own_at r logs whole d device 0).begun ≡ 1 = ap (λ k. (own_at r logs whole d device k).begun) (sym here) ∙ who.began.0 in
          begun_line r.script d l (own_at r logs whole d device 0).count [] (steps l)
          (note.begun ∙ ap (λ b. cond b [] ((own_at r logs whole d device 0).count ∷ [])) (ne_eqb (own_at r logs whole d device 0).begun 0 (λ k. omega (arith, one, k))))
          (app_ended r logs whole l e).fit (own_sorted (without_callbacks l.lines)) (none_before (steps l)) tt (all_stand (without_callbacks l.lines))
        where
          none_before : (zs : List Step) → AllByRecursion (λ z. AllByRecursion (λ y. key y ≤ key z) []) zs
          none_before [] = tt
          none_before (z ∷ zs) = (tt, none_before zs)

  pub holds : DeviceHolds r d
  holds = record {
    ordinal_count = ordinal_count r logs whole d device;
    each_ordinal = each_ordinal r logs whole d device;
    began_once = began_once r logs whole d device;
    called_once = called_once r logs whole d device;
    called_after = called_after;
    one_callback = (settled r logs whole d device).one_callback;
    refused_after = refused_after;
    app_refuses_none = none_refused;
  }

pub devices : (r : Record) (logs : List Log) → IsWholeRun r logs → Devices r
devices r logs whole d device = holds r logs whole d device
