-- Tests of the premises of a whole run.
use Rattle.std.proofs.Common.{◌≡◌, ℕ, suc, ◌+◌, ◌==◌, nat_le, Bool, true, false, not, ◌&&◌, ◌||◌, List, [], ◌∷◌, map, filter_map, take, zip, length, count_by, refl, sym, arith}
use Rattle.std.specs.Prelude.{Any}
use Rattle.std.specs.List.{list_all, list_any, AllByRecursion, enumerate_from, range_with_len}
use Rattle.std.proofs.lemmas.Bool.{and_parts, eqb-true, ne_eqb, leb-true, false≢true}
use Rattle.std.proofs.lemmas.List.{nil_from_length}
use Rattle.lw_base.specs.Totals.{total, times}
use Rattle.lw_model.specs.declared.script.Script.{Script}
use Rattle.lw_model.specs.declared.record.Record.{Record}
use Rattle.lw_model.specs.Threads.{ops_of, is_client, is_on, images}
use Rattle.lw_model.specs.OwnOrder.{with_past}
use Rattle.lw_model.specs.Holding.{says, ordinal_given}
use Rattle.lw_model.specs.Devices.{device_at, is_began, is_refusal}
use Rattle.lw_model.specs.Moves.{first_reactor, is_above_last}
use Rattle.lw_model.specs.Sent.{sent_last}
use Rattle.lw_model.specs.Same.{is_same_reply, is_same_seen}
use Rattle.lw_model.specs.Verdict.{rounds_and_orders, buffers_home}
use Rattle.lw_model.proofs.Passing.{passes}
use Rattle.lw_model.proofs.Exact.{buffers_home-exact}
use Rattle.lw_model.proofs.ExactRounds.{rounds_and_orders-exact}
use Rattle.lw_model.proofs.Sameness.{Tells-reply, Tells-seen}
use Rattle.lw_model.specs.Answers.{ats_ascend}
use Rattle.lw_whole.specs.Letters.{row, Note}
use Rattle.lw_whole.specs.Logs.{Log, addressed, steps, steps_with_past}
use Rattle.lw_whole.specs.Notes.{note_at, begun_in, count_begun, rows_in, joined, knows_open, notes_of}
use Rattle.lw_whole.specs.Lines.{client_line_fits, app_line_fits, stays_shut, callback_stood, reply_in, results_in}
use Rattle.lw_whole.specs.WholeRun.{Taken, is_for, was_sent}
use Rattle.lw_whole.proofs.Access.{in_range}
use Rattle.lw_whole.proofs.Computed.{runs_of, sends_to, senders_are_threads, all_numbered, all_true, run_from, all_numbered_from}
use Rattle.lw_whole.proofs.Sames.{same_list, tells_list, same_numbers, tells_numbers, same_tag, tells_tag, same_row, tells_row, same_load, tells_load, same_letter, tells_letter, same_sends, tells_sends}
use Rattle.lw_whole.proofs.SendTests.{sends_along, sends_along_is}
use Rattle.lw_whole.proofs.Premises.{Premise, Holds, EachLog, EachNote, EachImage}
use Rattle.lw_whole.proofs.Premises as the

-- ---- tests of each of a list

all_of : {X : Type 0} (T : X → Bool) (P : X → Type 0) → ((x : X) → T x ≡ true → P x) → (xs : List X) → list_all T xs ≡ true → AllByRecursion P xs
all_of T P is [] e = tt
all_of T P is (x ∷ xs) e = let h = and_parts (T x) (list_all T xs) e in (is x h.0, all_of T P is xs h.1)

any_of : {X : Type 0} (T : X → Bool) (P : X → Type 0) → ((x : X) → T x ≡ true → P x) → (xs : List X) → list_any T xs ≡ true → Any P xs
any_of T P is [] e = absurd (false≢true e)
any_of T P is (x ∷ xs) e = at (T x) refl e (λ f. any_of T P is xs f)
  where
    at : (b : Bool) → T x ≡ b → (b || list_any T xs) ≡ true → (list_any T xs ≡ true → Any P xs) → Any P (x ∷ xs)
    at true f e go = (0, x, omega arith, refl, is x f)
    at false f e go = let rest = go e in (suc rest.0, rest.1, omega (arith, rest.2), rest.3, rest.4)

abbrev each_log : (ℕ → Log → Bool) → List Log → Bool
each_log T logs = list_all (λ p. T p.0 p.1) (enumerate_from 0 logs)

logs_are : (T : ℕ → Log → Bool) (P : ℕ → Log → Type 0) → ((t : ℕ) (l : Log) → T t l ≡ true → P t l) → (logs : List Log) → each_log T logs ≡ true → EachLog P logs
logs_are T P is logs e = all_of (λ p. T p.0 p.1) (λ p. P p.0 p.1) (λ p f. is p.0 p.1 f) (enumerate_from 0 logs) e

abbrev each_note : (ℕ → Log → ℕ → Note → Bool) → List Log → Bool
each_note T logs = each_log (λ t l. list_all (λ p. T t l p.0 p.1) (enumerate_from 0 l.own)) logs

notes_are : (T : ℕ → Log → ℕ → Note → Bool) (P : ℕ → Log → ℕ → Note → Type 0) → ((t : ℕ) (l : Log) (d : ℕ) (n : Note) → T t l d n ≡ true → P t l d n) → (logs : List Log) → each_note T logs ≡ true → EachNote P logs
notes_are T P is logs e = logs_are (λ t l. list_all (λ p. T t l p.0 p.1) (enumerate_from 0 l.own)) (λ t l. AllByRecursion (λ p. P t l p.0 p.1) (enumerate_from 0 l.own))
    (λ t l f. all_of (λ p. T t l p.0 p.1) (λ p. P t l p.0 p.1) (λ p g. is t l p.0 p.1 g) (enumerate_from 0 l.own) f) logs e

images_are : (s : Script) (T : ℕ → Bool) (P : ℕ → Type 0) → ((d : ℕ) → T d ≡ true → P d) → list_all T (images s) ≡ true → EachImage s P
images_are s T P is e = all_of T P is (images s) e

-- where b holds, so does q
so : (b q : Bool) → (not b || q) ≡ true → b ≡ true → q ≡ true
so true q e f = e
so false q e f = absurd (false≢true f)

unless : (b q : Bool) → (b || q) ≡ true → b ≡ false → q ≡ true
unless true q e f = absurd (false≢true (sym f))
unless false q e f = e

abbrev same_truth : Bool → Bool → Bool
same_truth true true = true
same_truth false false = true
same_truth _ _ = false

tells_truth : (x y : Bool) → same_truth x y ≡ true → x ≡ y
tells_truth true true e = refl
tells_truth false false e = refl
tells_truth true false e = absurd (false≢true e)
tells_truth false true e = absurd (false≢true e)

-- ---- the tests

-- of `threads` there is none: the record is made of the logs' lines
abbrev pub test : Premise → Record → List Log → List Taken → Bool
test the.threads r logs taken = false
test the.tags r logs taken = each_log (λ t l. same_list same_tag (map (λ x. x.tag) l.ran) l.lines.ran) logs
test the.sends r logs taken = each_log (λ t l. sends_along r.script t l (steps_with_past l) l.sends) logs
test the.last r logs taken = each_log (λ t l. same_sends (addressed l.last) (sent_last r.script t)) logs
test the.with_row r logs taken = each_log (λ t l. not (is_client r.script t) || same_list same_load (map (λ p. p.1.load) l.last) (row l.own ∷ [])) logs
test the.did_ats r logs taken = each_log (λ t l. ats_ascend (length l.lines.ran) (map (λ x. x.at) l.lines.did)) logs
test the.called_ats r logs taken = each_log (λ t l. ats_ascend (length l.lines.ran) (map (λ x. x.at) l.lines.called)) logs
test the.stood r logs taken = each_log (λ t l. length l.stood == length l.lines.called) logs
test the.callbacks r logs taken = each_log (λ t l. list_all (λ p. callback_stood r.script t l p.0 p.1) (zip l.stood l.lines.called)) logs
test the.stays r logs taken = each_log (λ t l. list_all (λ d. list_all (λ p. stays_shut r.script t d p.0 p.1) (steps_with_past l)) (images r.script)) logs
test the.devices r logs taken = each_log (λ t l. length l.own == length r.script.images) logs
test the.ordinals r logs taken = each_note (λ t l d n. same_numbers n.ordinals (filter_map (ordinal_given (is_on r.script t d)) (steps l))) logs
test the.found r logs taken = each_note (λ t l d n. not (list_any (says (is_on r.script t d) is_refusal) (steps l)) || nat_le 1 n.found) logs
test the.begun r logs taken = each_note (λ t l d n. same_numbers (filter_map (count_begun (is_on r.script t d)) (steps l)) (begun_in n)) logs
test the.began_by r logs taken = each_note (λ t l d n. n.begun == 0 || n.began_by == t) logs
test the.fired r logs taken = each_note (λ t l d n. count_by (λ x. x.device == d) l.lines.called == n.fired) logs
test the.client_count r logs taken = each_log (λ t l. not (is_client r.script t) || length l.lines.did == length (ops_of r.script t) + 1) logs
test the.client_lines r logs taken = each_log (λ t l. not (is_client r.script t) || list_all (λ p. client_line_fits r.script t p.0 p.1) (steps_with_past l)) logs
test the.replies r logs taken = each_log (λ t l. not (is_client r.script t) || same_list is_same_reply l.lines.replies (filter_map reply_in l.ran)) logs
test the.seen r logs taken = each_log (λ t l. not (is_client r.script t) || same_list is_same_seen l.lines.seen (filter_map results_in l.ran)) logs
test the.client_row r logs taken = each_log (λ t l. not (is_client r.script t) || same_row l.row []) logs
test the.app_count r logs taken = each_log (λ t l. not (t == 0) || length l.lines.did == length r.script.images) logs
test the.app_lines r logs taken = each_log (λ t l. not (t == 0) || list_all (λ p. app_line_fits r.script p.0 p.1) (steps_with_past l)) logs
test the.took_in r logs taken = each_log (λ t l. not (t == 0) || same_row l.row (joined l.own (rows_in l.ran))) logs
test the.knew r logs taken = each_log (λ t l. not (t == 0) || list_all (λ x. not (is_began x.answer) || list_all (λ ns. knows_open (note_at ns x.op)) (rows_in (take x.at l.ran))) l.lines.did) logs
test the.owner_lines r logs taken = each_log (λ t l. t == 0 || (is_client r.script t || length l.lines.did == 0)) logs
test the.owner_row r logs taken = each_log (λ t l. t == 0 || (is_client r.script t || same_row l.row l.own)) logs
test the.run_is_sent r logs taken = same_list (same_list (same_list same_letter)) (runs_of logs) (sends_to logs) && senders_are_threads logs
test the.numbered r logs taken = same_list (same_list same_truth) (all_numbered logs) (all_true (length logs))
test the.each_once r logs taken = list_all (λ d. list_all (λ k. total (λ n. times k n.ordinals) (notes_of d logs) == 1) (range_with_len 0 (device_at r d).given)) (images r.script)
test the.given r logs taken = list_all (λ d. total (λ n. length n.ordinals) (notes_of d logs) == (device_at r d).given) (images r.script)
test the.who_began r logs taken = list_all (λ d. list_any (λ n. n.begun == 1 && n.count == (device_at r d).given && n.began_by == (device_at r d).thread) (notes_of d logs)) (images r.script)
test the.all_fired r logs taken = list_all (λ d. total (λ n. n.fired) (notes_of d logs) == (device_at r d).callbacks) (images r.script)
test the.one_callback r logs taken = list_all (λ d. (device_at r d).callbacks == 1) (images r.script)
test the.homes r logs taken = each_log (λ t l. l.lines.home == first_reactor r t) logs
test the.ascend r logs taken = each_log (λ t l. list_all (λ p. is_above_last p.0 p.1) (with_past [] l.lines.hops)) logs
test the.for_orders r logs taken = each_log (λ t l. list_all (λ h. list_any (is_for t h) taken) l.lines.hops) logs
test the.orders_sent r logs taken = list_all (was_sent r) taken
test the.rounds r logs taken = passes (rounds_and_orders r)
test the.pool r logs taken = passes (buffers_home r)

-- what passes its test holds
pub test_is : (p : Premise) (r : Record) (logs : List Log) (taken : List Taken) → test p r logs taken ≡ true → Holds p r logs taken
test_is the.threads r logs taken e = absurd (false≢true e)
test_is the.tags r logs taken e = logs_are _ _ (λ t l f. tells_list same_tag tells_tag _ _ f) logs e
test_is the.sends r logs taken e = logs_are _ _ (λ t l f. sends_along_is r.script t l (steps_with_past l) l.sends f) logs e
test_is the.last r logs taken e = logs_are _ _ (λ t l f. tells_sends _ _ f) logs e
test_is the.with_row r logs taken e = logs_are _ _ (λ t l f c. tells_list same_load tells_load _ _ (so (is_client r.script t) _ f c)) logs e
test_is the.did_ats r logs taken e = logs_are _ _ (λ t l f. f) logs e
test_is the.called_ats r logs taken e = logs_are _ _ (λ t l f. f) logs e
test_is the.stood r logs taken e = logs_are _ _ (λ t l f. eqb-true _ _ f) logs e
test_is the.callbacks r logs taken e = logs_are _ _ (λ t l f. f) logs e
test_is the.stays r logs taken e = logs_are _ _ (λ t l f. images_are r.script (λ d. list_all (λ p. stays_shut r.script t d p.0 p.1) (steps_with_past l)) (λ d. list_all (λ p. stays_shut r.script t d p.0 p.1) (steps_with_past l) ≡ true) (λ d g. g) f) logs e
test_is the.devices r logs taken e = logs_are _ _ (λ t l f. eqb-true _ _ f) logs e
test_is the.ordinals r logs taken e = notes_are _ _ (λ t l d n f. tells_numbers _ _ f) logs e
test_is the.found r logs taken e = notes_are _ _ (λ t l d n f some. leb-true 1 n.found (so (list_any (says (is_on r.script t d) is_refusal) (steps l)) _ f some)) logs e
test_is the.begun r logs taken e = notes_are _ _ (λ t l d n f. tells_numbers _ _ f) logs e
test_is the.began_by r logs taken e = notes_are _ _ (λ t l d n f some. eqb-true n.began_by t (unless (n.begun == 0) _ f (ne_eqb n.begun 0 (λ z. omega (arith, z, some))))) logs e
test_is the.fired r logs taken e = notes_are _ _ (λ t l d n f. eqb-true _ _ f) logs e
test_is the.client_count r logs taken e = logs_are _ _ (λ t l f c. eqb-true _ _ (so (is_client r.script t) _ f c)) logs e
test_is the.client_lines r logs taken e = logs_are _ _ (λ t l f c. so (is_client r.script t) _ f c) logs e
test_is the.replies r logs taken e = logs_are _ _ (λ t l f c. tells_list is_same_reply (λ x y g. (Tells-reply x y).0 g) _ _ (so (is_client r.script t) _ f c)) logs e
test_is the.seen r logs taken e = logs_are _ _ (λ t l f c. tells_list is_same_seen (λ x y g. (Tells-seen x y).0 g) _ _ (so (is_client r.script t) _ f c)) logs e
test_is the.client_row r logs taken e = logs_are _ _ (λ t l f c. tells_row _ _ (so (is_client r.script t) _ f c)) logs e
test_is the.app_count r logs taken e = logs_are _ _ (λ t l f z. eqb-true _ _ (so (t == 0) _ f z)) logs e
test_is the.app_lines r logs taken e = logs_are _ _ (λ t l f z. so (t == 0) _ f z) logs e
test_is the.took_in r logs taken e = logs_are _ _ (λ t l f z. tells_row _ _ (so (t == 0) _ f z)) logs e
test_is the.knew r logs taken e = logs_are _ _ (λ t l f z. so (t == 0) _ f z) logs e
test_is the.owner_lines r logs taken e = logs_are _ _ (λ t l f z c. nil_from_length l.lines.did (eqb-true _ _ (unless (is_client r.script t) _ (unless (t == 0) _ f z) c))) logs e
test_is the.owner_row r logs taken e = logs_are _ _ (λ t l f z c. tells_row _ _ (unless (is_client r.script t) _ (unless (t == 0) _ f z) c)) logs e
test_is the.run_is_sent r logs taken e =
    let h = and_parts (same_list (same_list (same_list same_letter)) (runs_of logs) (sends_to logs)) (senders_are_threads logs) e in
    run_from logs (tells_list (same_list (same_list same_letter)) (λ x y f. tells_list (same_list same_letter) (λ z w g. tells_list same_letter tells_letter z w g) x y f) _ _ h.0) h.1
test_is the.numbered r logs taken e = all_numbered_from logs (tells_list (same_list same_truth) (λ x y f. tells_list same_truth tells_truth x y f) _ _ e)
test_is the.each_once r logs taken e = images_are r.script _ _ (λ d f k less. in_range (λ k. total (λ n. times k n.ordinals) (notes_of d logs) ≡ 1) 0 (device_at r d).given k (all_of (λ k. total (λ n. times k n.ordinals) (notes_of d logs) == 1) (λ k. total (λ n. times k n.ordinals) (notes_of d logs) ≡ 1) (λ k g. eqb-true _ _ g) (range_with_len 0 (device_at r d).given) f) (omega arith) (omega (arith, less))) e
test_is the.given r logs taken e = images_are r.script _ _ (λ d f. eqb-true _ _ f) e
test_is the.who_began r logs taken e = images_are r.script _ _ (λ d f. any_of _ _ (λ n g.
    let a = and_parts (n.begun == 1 && n.count == (device_at r d).given) (n.began_by == (device_at r d).thread) g in
    let b = and_parts (n.begun == 1) (n.count == (device_at r d).given) a.0 in
    (eqb-true n.begun 1 b.0, eqb-true n.count (device_at r d).given b.1, eqb-true n.began_by (device_at r d).thread a.1)) (notes_of d logs) f) e
test_is the.all_fired r logs taken e = images_are r.script _ _ (λ d f. eqb-true _ _ f) e
test_is the.one_callback r logs taken e = images_are r.script _ _ (λ d f. eqb-true _ _ f) e
test_is the.homes r logs taken e = logs_are _ _ (λ t l f. eqb-true _ _ f) logs e
test_is the.ascend r logs taken e = logs_are _ _ (λ t l f. f) logs e
test_is the.for_orders r logs taken e = logs_are _ _ (λ t l f. f) logs e
test_is the.orders_sent r logs taken e = e
test_is the.rounds r logs taken e = (rounds_and_orders-exact r).0 e
test_is the.pool r logs taken e = (buffers_home-exact r).0 e
