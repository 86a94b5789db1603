-- The replies of a whole run: each is that of its request's place in the journal.
use Rattle.std.proofs.Common.{ℕ, ◌≡◌, ◌+◌, ◌≤◌, ◌<◌, ◌==◌, nat_le, Bool, true, false, cond, ◌&&◌, List, [], ◌∷◌, ◌++◌, map, filter, filter_map, zip, length, Option, Some, None, option_map, refl, sym, ap, ap₂, subst, ◌∙◌, arith}
use Rattle.std.specs.Prelude.{option_and_then}
use Rattle.std.specs.List.{AllByRecursion, list_all, enumerate_from, cons_option}
use Rattle.std.proofs.lemmas.List.{append_assoc}
use Rattle.std.proofs.lemmas.Bool.{and_parts, eq-eqb, ne_eqb, eqb-true, le-leb, leb-true, false≢true}
use Rattle.lw_base.specs.declared.message.Tag.{Tag}
use Rattle.lw_base.specs.declared.message.What.{What}
use Rattle.lw_base.specs.declared.message.What.TheVariants as what
use Rattle.lw_model.specs.declared.script.Script.{Script}
use Rattle.lw_model.specs.declared.record.Record.{Record}
use Rattle.lw_model.specs.declared.record.ThreadRecord.{ThreadRecord}
use Rattle.lw_base.specs.declared.ends.DeviceEnd.{DeviceEnd}
use Rattle.lw_base.proofs.Lists.{all_first}
use Rattle.lw_model.specs.declared.record.Did.{Did}
use Rattle.lw_model.specs.declared.record.Called.{Called}
use Rattle.lw_model.specs.declared.record.Reply.{Reply}
use Rattle.lw_model.specs.declared.record.Replied.{Replied}
use Rattle.lw_model.specs.declared.record.Answer.{Answer}
use Rattle.lw_model.specs.declared.record.Answer.TheVariants as answer
use Rattle.lw_model.specs.declared.step.Step.{Step}
use Rattle.lw_model.specs.declared.step.Step.TheVariants as step
use Rattle.lw_model.specs.ScriptRules.{block_at}
use Rattle.lw_model.specs.Replay.{replay}
use Rattle.lw_model.specs.Threads.{is_on, image_at, op_at, owner_of, ran_of}
use Rattle.lw_model.specs.OwnOrder.{own_order, with_past, in_order, put_in, at_of}
use Rattle.lw_model.specs.Answers.{at_fits}
use Rattle.lw_model.specs.Journal.{request_of, journal, answers, look_up, sent_op}
use Rattle.lw_model.specs.Lawful.{Replies, replies_of, replied_ops, reply_op, owed}
use Rattle.lw_model.proofs.Growth.{all-in_order}
use Rattle.lw_model.proofs.JournalParts.{journal_part}
use Rattle.lw_target.specs.ClientLog.{line_fits}
use Rattle.lw_target.specs.WholeRun.{ClientEnded, requests_of, answers_of, reply_pairs}
use Rattle.lw_target.proofs.WholeParts.{IsMadeOf, each_client, client_is, of_client, of_owner, ran_steps, of_in_order}
use Rattle.lw_target.proofs.WholeSent.{is_asked}
use Rattle.lw_target.proofs.WholeRan.{AskedTag, owner_asked, ran_is_sent}

-- ---- The `did` lines stand in own order as they stand in the record

abbrev did_place : Step → Option (ℕ × Did)
did_place s = elim s [ step.Did i x ↦ Some (i, x) | _ ↦ None ]

abbrev dids_in : List Step → List (ℕ × Did)
dids_in steps = filter_map did_place steps

-- a `did` line that isn't earlier
abbrev AtLeast : ℕ → Step → Type 0
AtLeast a s = elim s [ step.Did i x ↦ a ≤ x.at | _ ↦ Unit {0} ]

did_first : (i : ℕ) (x : Did) (xs : List Step) → AllByRecursion (AtLeast x.at) xs → dids_in (put_in (step.Did i x) xs) ≡ (i, x) ∷ dids_in xs
did_first i x [] h = refl
did_first i x (step.Did j y ∷ xs) h = ap (λ b. dids_in (cond b (step.Did i x ∷ step.Did j y ∷ xs) (step.Did j y ∷ put_in (step.Did i x) xs))) (le-leb x.at y.at h.0)
did_first i x (step.Called j y ∷ xs) h = at (nat_le x.at y.at) (did_first i x xs h.1)
  where
    at : (b : Bool) → dids_in (put_in (step.Did i x) xs) ≡ (i, x) ∷ dids_in xs → dids_in (cond b (step.Did i x ∷ step.Called j y ∷ xs) (step.Called j y ∷ put_in (step.Did i x) xs)) ≡ (i, x) ∷ dids_in xs
    at true rest = refl
    at false rest = rest
did_first i x (step.Ran j m ∷ xs) h = at (nat_le x.at j) (did_first i x xs h.1)
  where
    at : (b : Bool) → dids_in (put_in (step.Did i x) xs) ≡ (i, x) ∷ dids_in xs → dids_in (cond b (step.Did i x ∷ step.Ran j m ∷ xs) (step.Ran j m ∷ put_in (step.Did i x) xs)) ≡ (i, x) ∷ dids_in xs
    at true rest = refl
    at false rest = rest

other_first : (s : Step) → did_place s ≡ None → (xs : List Step) → dids_in (put_in s xs) ≡ dids_in xs
other_first s none [] = ap (λ o. cons_option o []) none
other_first s none (x ∷ xs) = at (nat_le (at_of s) (at_of x)) (other_first s none xs)
  where
    at : (b : Bool) → dids_in (put_in s xs) ≡ dids_in xs → dids_in (cond b (s ∷ x ∷ xs) (x ∷ put_in s xs)) ≡ dids_in (x ∷ xs)
    at true rest = ap (λ o. cons_option o (dids_in (x ∷ xs))) none
    at false rest = ap (cons_option (did_place x)) rest

-- no `did` line is earlier than one before it
abbrev Ascending : List Step → Type 0
Ascending [] = Unit {0}
Ascending (s ∷ steps) = (elim s [ step.Did i x ↦ AllByRecursion (AtLeast x.at) steps | _ ↦ Unit {0} ]) × Ascending steps

order_dids : (steps : List Step) → Ascending steps → dids_in (in_order steps) ≡ dids_in steps
order_dids [] h = refl
order_dids (step.Did i x ∷ steps) h = did_first i x (in_order steps) (all-in_order (AtLeast x.at) steps h.0) ∙ ap (λ l. (i, x) ∷ l) (order_dids steps h.1)
order_dids (step.Called i x ∷ steps) h = other_first (step.Called i x) refl (in_order steps) ∙ order_dids steps h.1
order_dids (step.Ran i m ∷ steps) h = other_first (step.Ran i m) refl (in_order steps) ∙ order_dids steps h.1

later : (most b : ℕ) (past : List ℕ) (xs : List Did) → list_all (λ p. at_fits most p.0 p.1) (with_past (b ∷ past) (map (λ x. x.at) xs)) ≡ true → AllByRecursion (λ (x : Did). b ≤ x.at) xs
later most b past [] e = tt
later most b past (x ∷ xs) e =
    let both = and_parts (at_fits most (b ∷ past) x.at) _ e in
    let low : b ≤ x.at = leb-true b x.at (and_parts (nat_le b x.at) (nat_le x.at most) both.0).0 in
    (low, lower xs low (later most x.at (b ∷ past) xs both.1))
  where
    lower : (ys : List Did) → b ≤ x.at → AllByRecursion (λ (y : Did). x.at ≤ y.at) ys → AllByRecursion (λ (y : Did). b ≤ y.at) ys
    lower [] low all = tt
    lower (y ∷ ys) low all = (omega (arith, low, all.0), lower ys low all.1)

calleds_after : (a n : ℕ) (xs : List Called) (ys : List Step) → AllByRecursion (AtLeast a) ys → AllByRecursion (AtLeast a) (map (λ p. step.Called p.0 p.1) (enumerate_from n xs) ++ ys)
calleds_after a n [] ys all = all
calleds_after a n (x ∷ xs) ys all = (tt, calleds_after a (n + 1) xs ys all)

rans_after : (a n : ℕ) (ms : List Tag) → AllByRecursion (AtLeast a) (ran_steps n ms)
rans_after a n [] = tt
rans_after a n (m ∷ ms) = (tt, rans_after a (n + 1) ms)

dids_after : (a n : ℕ) (xs : List Did) (ys : List Step) → AllByRecursion (λ (x : Did). a ≤ x.at) xs → AllByRecursion (AtLeast a) ys → AllByRecursion (AtLeast a) (map (λ p. step.Did p.0 p.1) (enumerate_from n xs) ++ ys)
dids_after a n [] ys low all = all
dids_after a n (x ∷ xs) ys low all = (low.0, dids_after a (n + 1) xs ys low.1 all)

calleds_ascend : (n : ℕ) (xs : List Called) (ms : List Tag) (k : ℕ) → Ascending (map (λ p. step.Called p.0 p.1) (enumerate_from n xs) ++ ran_steps k ms)
calleds_ascend n (x ∷ xs) ms k = (tt, calleds_ascend (n + 1) xs ms k)
calleds_ascend n [] [] k = tt
calleds_ascend n [] (m ∷ ms) k = (tt, calleds_ascend n [] ms (k + 1))

steps_ascend : (most n : ℕ) (past : List ℕ) (xs : List Did) (calls : List Called) (ms : List Tag) → list_all (λ p. at_fits most p.0 p.1) (with_past past (map (λ x. x.at) xs)) ≡ true
    → Ascending (map (λ p. step.Did p.0 p.1) (enumerate_from n xs) ++ (map (λ p. step.Called p.0 p.1) (enumerate_from 0 calls) ++ ran_steps 0 ms))
steps_ascend most n past [] calls ms e = calleds_ascend 0 calls ms 0
steps_ascend most n past (x ∷ xs) calls ms e =
    let rest = (and_parts (at_fits most past x.at) _ e).1 in
    (dids_after x.at (n + 1) xs _ (later most x.at past xs rest) (calleds_after x.at 0 calls _ (rans_after x.at 0 ms)), steps_ascend most (n + 1) (x.at ∷ past) xs calls ms rest)

only_calls : (n : ℕ) (xs : List Called) (ms : List Tag) (k : ℕ) → dids_in (map (λ p. step.Called p.0 p.1) (enumerate_from n xs) ++ ran_steps k ms) ≡ []
only_calls n (x ∷ xs) ms k = only_calls (n + 1) xs ms k
only_calls n [] [] k = refl
only_calls n [] (m ∷ ms) k = only_calls n [] ms (k + 1)

only_dids : (n : ℕ) (xs : List Did) (ys : List Step) → dids_in ys ≡ [] → dids_in (map (λ p. step.Did p.0 p.1) (enumerate_from n xs) ++ ys) ≡ enumerate_from n xs
only_dids n [] ys none = none
only_dids n (x ∷ xs) ys none = ap (λ l. (n, x) ∷ l) (only_dids (n + 1) xs ys none)

own_dids : (t : ThreadRecord) (most : ℕ) → list_all (λ p. at_fits most p.0 p.1) (with_past [] (map (λ x. x.at) t.did)) ≡ true → dids_in (own_order t) ≡ enumerate_from 0 t.did
own_dids t most e =
    ap (λ l. dids_in (in_order l)) (append_assoc (map (λ p. step.Did p.0 p.1) (enumerate_from 0 t.did)) (map (λ p. step.Called p.0 p.1) (enumerate_from 0 t.called)) (ran_steps 0 t.ran))
    ∙ order_dids _ (steps_ascend most 0 [] t.did t.called t.ran e)
    ∙ only_dids 0 t.did _ (only_calls 0 t.called t.ran 0)

-- ---- The ops of the requests ascend

abbrev Ascends : List ℕ → Type 0
Ascends [] = Unit {0}
Ascends (k ∷ ks) = AllByRecursion (λ (j : ℕ). k < j) ks × Ascends ks

of_places : {Y : Type 0} (f : Step → Option Y) → ((i : ℕ) (x : Called) → f (step.Called i x) ≡ None) → ((i : ℕ) (m : Tag) → f (step.Ran i m) ≡ None) → (steps : List Step) → filter_map f steps ≡ filter_map (λ p. f (step.Did p.0 p.1)) (dids_in steps)
of_places f c n [] = refl
of_places f c n (step.Did i x ∷ steps) = ap (cons_option (f (step.Did i x))) (of_places f c n steps)
of_places f c n (step.Called i x ∷ steps) = ap (λ o. cons_option o (filter_map f steps)) (c i x) ∙ of_places f c n steps
of_places f c n (step.Ran i m ∷ steps) = ap (λ o. cons_option o (filter_map f steps)) (n i m) ∙ of_places f c n steps

-- the op of a `did` line is its place
abbrev OpAtPlace : Step → Type 0
OpAtPlace s = elim s [ step.Did i x ↦ x.op ≡ i | _ ↦ Unit {0} ]

ops_at_places : (s : Script) (past steps : List Step) → list_all (λ p. line_fits s 1 p.0 p.1) (with_past past steps) ≡ true → AllByRecursion OpAtPlace steps
ops_at_places s past [] e = tt
ops_at_places s past (step.Did i x ∷ steps) e =
    let both = and_parts (line_fits s 1 past (step.Did i x)) _ e in
    (eqb-true x.op i (and_parts _ _ (and_parts _ _ (and_parts _ _ (and_parts _ _ both.0).0).0).0).0, ops_at_places s (step.Did i x ∷ past) steps both.1)
ops_at_places s past (step.Called i x ∷ steps) e = (tt, ops_at_places s (step.Called i x ∷ past) steps e)
ops_at_places s past (step.Ran i m ∷ steps) e = (tt, ops_at_places s (step.Ran i m ∷ past) steps e)

-- what is found of sent ops: they ascend, none is below n, and each is on the image
pub record AreSent (on : ℕ → Bool) (n : ℕ) (ks : List ℕ) : Type 0 where
  pub ascends : Ascends ks
  pub low : AllByRecursion (λ (k : ℕ). n ≤ k) ks
  pub on_image : AllByRecursion (λ (k : ℕ). on k ≡ true) ks

all_lower : (n m : ℕ) → n ≤ m → (ks : List ℕ) → AllByRecursion (λ (k : ℕ). m ≤ k) ks → AllByRecursion (λ (k : ℕ). n ≤ k) ks
all_lower n m h [] all = tt
all_lower n m h (k ∷ ks) all = (omega (arith, h, all.0), all_lower n m h ks all.1)

all_above : (n : ℕ) (ks : List ℕ) → AllByRecursion (λ (k : ℕ). n + 1 ≤ k) ks → AllByRecursion (λ (k : ℕ). n < k) ks
all_above n [] all = tt
all_above n (k ∷ ks) all = (omega (arith, all.0), all_above n ks all.1)

abbrev sent_did : (ℕ → Bool) → ℕ × Did → Option ℕ
sent_did on p = elim p.1.answer [ answer.Sent ↦ cond (on p.1.op) (Some p.1.op) None | _ ↦ None ]

are_sent : (on : ℕ → Bool) (n : ℕ) (xs : List Did) → AllByRecursion OpAtPlace (map (λ p. step.Did p.0 p.1) (enumerate_from n xs)) → AreSent on n (filter_map (sent_did on) (enumerate_from n xs))
are_sent on n [] all = record { ascends = tt; low = tt; on_image = tt }
are_sent on n (x ∷ xs) all = at x.at x.op x.answer all.0 (are_sent on (n + 1) xs all.1)
  where
    ks : List ℕ
    ks = filter_map (sent_did on) (enumerate_from (n + 1) xs)

    passed : AreSent on (n + 1) ks → AreSent on n ks
    passed rest = record { ascends = rest.ascends; low = all_lower n (n + 1) (omega arith) ks rest.low; on_image = rest.on_image }

    counted : (k : ℕ) (b : Bool) → on k ≡ b → k ≡ n → AreSent on (n + 1) ks → AreSent on n (cons_option (cond b (Some k) None) ks)
    counted k true is e rest = record {
      ascends = (all_above k ks (all_lower (k + 1) (n + 1) (omega (arith, e)) ks rest.low), rest.ascends);
      low = (omega (arith, e), all_lower n (n + 1) (omega arith) ks rest.low);
      on_image = (is, rest.on_image);
    }
    counted k false is e rest = passed rest

    at : (a k : ℕ) (w : Answer) → k ≡ n → AreSent on (n + 1) ks → AreSent on n (cons_option (sent_did on (n, record { at = a; op = k; answer = w })) ks)
    at a k answer.Sent e rest = counted k (on k) refl e rest
    at a k _ e rest = passed rest

-- ---- What stands under a request

-- what holds of each of some ops holds of the ops of the replies beside them
ops_beside : (P : ℕ → Type 0) (ks : List ℕ) (answers : List (Option Replied)) (xs : List Reply) → reply_pairs xs ≡ zip ks answers → AllByRecursion P ks → AllByRecursion (λ (x : Reply). P x.op) xs
ops_beside P ks answers [] e all = tt
ops_beside P [] answers (x ∷ xs) e all = let wrong : ◌≡◌ {A = List (ℕ × Option Replied)} ((x.op, Some x.answer) ∷ reply_pairs xs) [] = e in cc
ops_beside P (k ∷ ks) [] (x ∷ xs) e all = let wrong : ◌≡◌ {A = List (ℕ × Option Replied)} ((x.op, Some x.answer) ∷ reply_pairs xs) [] = e in cc
ops_beside P (k ∷ ks) (a ∷ answers) (x ∷ xs) e all = (subst P (sym (ap (λ (p : ℕ × Option Replied). p.0) (heads e))) all.0, ops_beside P ks answers xs (tails e) all.1)
  where
    heads : {X : Type 0} {p q : X} {ps qs : List X} → p ∷ ps ≡ q ∷ qs → p ≡ q
    heads e = cc

    tails : {X : Type 0} {p q : X} {ps qs : List X} → p ∷ ps ≡ q ∷ qs → ps ≡ qs
    tails e = cc

abbrev ops_of_journal : List (ℕ × ℕ) → List ℕ
ops_of_journal js = map (λ e. e.1) js

looked_up : (js : List (ℕ × ℕ)) (answers : List (Option Replied)) (xs : List Reply) → reply_pairs xs ≡ zip (ops_of_journal js) answers
    → AllByRecursion (λ (e : ℕ × ℕ). e.0 ≡ 1) js → Ascends (ops_of_journal js) → AllByRecursion (λ (x : Reply). look_up 1 x.op (zip js answers) ≡ Some x.answer) xs
looked_up js answers [] e ones up = tt
looked_up [] answers (x ∷ xs) e ones up = let wrong : ◌≡◌ {A = List (ℕ × Option Replied)} ((x.op, Some x.answer) ∷ reply_pairs xs) [] = e in cc
looked_up (j ∷ js) [] (x ∷ xs) e ones up = let wrong : ◌≡◌ {A = List (ℕ × Option Replied)} ((x.op, Some x.answer) ∷ reply_pairs xs) [] = e in cc
looked_up (j ∷ js) (a ∷ answers) (x ∷ xs) e ones up =
    (here, skipped xs (ops_beside (λ k. j.1 < k) (ops_of_journal js) answers xs (tails e) up.0) (looked_up js answers xs (tails e) ones.1 up.1))
  where
    heads : {X : Type 0} {p q : X} {ps qs : List X} → p ∷ ps ≡ q ∷ qs → p ≡ q
    heads e = cc

    tails : {X : Type 0} {p q : X} {ps qs : List X} → p ∷ ps ≡ q ∷ qs → ps ≡ qs
    tails e = cc

    same_op : x.op ≡ j.1
    same_op = ap (λ (p : ℕ × Option Replied). p.0) (heads e)

    same_answer : Some x.answer ≡ a
    same_answer = ap (λ (p : ℕ × Option Replied). p.1) (heads e)

    here : cond (j.0 == 1 && j.1 == x.op) a (look_up 1 x.op (zip js answers)) ≡ Some x.answer
    here = ap₂ (λ b c. cond (b && c) a (look_up 1 x.op (zip js answers))) (eq-eqb j.0 1 ones.0) (eq-eqb j.1 x.op (sym same_op)) ∙ sym same_answer

    skipped : (ys : List Reply) → AllByRecursion (λ (y : Reply). j.1 < y.op) ys → AllByRecursion (λ (y : Reply). look_up 1 y.op (zip js answers) ≡ Some y.answer) ys
        → AllByRecursion (λ (y : Reply). cond (j.0 == 1 && j.1 == y.op) a (look_up 1 y.op (zip js answers)) ≡ Some y.answer) ys
    skipped [] above found = tt
    skipped (y ∷ ys) above found = (ap₂ (λ b c. cond (b && c) a (look_up 1 y.op (zip js answers))) (eq-eqb j.0 1 ones.0) (ne_eqb j.1 y.op (λ h. absurd (omega (arith, h, above.0)))) ∙ found.0, skipped ys above.1 found.1)

-- ---- The rule

requests_one : (ran : List Tag) → AllByRecursion AskedTag ran → AllByRecursion (λ (e : ℕ × ℕ). e.0 ≡ 1) (filter_map request_of ran)
requests_one [] all = tt
requests_one (m ∷ ran) all = at m.sender m.number m.what all.0 (requests_one ran all.1)
  where
    at : (sender number : ℕ) (w : What) → is_asked sender w ≡ true → AllByRecursion (λ (e : ℕ × ℕ). e.0 ≡ 1) (filter_map request_of ran)
        → AllByRecursion (λ (e : ℕ × ℕ). e.0 ≡ 1) (cons_option (request_of (record { sender = sender; number = number; what = w })) (filter_map request_of ran))
    at sender number (what.Request k) e rest = (eqb-true sender 1 e, rest)
    at sender number _ e rest = rest

kept_ones : (js : List (ℕ × ℕ)) → AllByRecursion (λ (e : ℕ × ℕ). e.0 ≡ 1) js → filter (λ e. e.0 == 1) js ≡ js
kept_ones [] all = refl
kept_ones (j ∷ js) all = ap (λ b. cond b (j ∷ filter (λ e. e.0 == 1) js) (filter (λ e. e.0 == 1) js)) (eq-eqb j.0 1 all.0) ∙ ap (λ l. j ∷ l) (kept_ones js all.1)

on_first : (s : Script) (k : ℕ) → is_on s 1 0 k ≡ true → image_at s 1 k ≡ Some 0
on_first s k e = at (image_at s 1 k) e
  where
    at : (o : Option ℕ) → elim o [ None ↦ false | Some d ↦ d == 0 ] ≡ true → o ≡ Some 0
    at None e = absurd (false≢true e)
    at (Some d) e = ap Some (eqb-true d 0 e)

module _ (r : Record) (app client owner : ThreadRecord) (end : DeviceEnd) (made : IsMadeOf r app client owner end) where
  abbrev s : Script
  s = r.script

  client_ended : ClientEnded s client owner end
  client_ended = made.whole.client_ended

  abbrev J : List (ℕ × ℕ)
  J = filter_map request_of owner.ran

  journal_is : journal r 0 ≡ J
  journal_is = ap (λ n. filter_map request_of (ran_of r n)) two ∙ ap (filter_map request_of) (of_owner r app client owner end made (λ x. x.ran))
    where
      two : owner_of s 0 ≡ 2
      two = omega (arith, made.clients)

  answers_are : answers r 0 ≡ zip J (answers_of s owner.ran)
  answers_are = ap (λ (js : List (ℕ × ℕ)). zip js (replay (block_at s 0) [] (map (λ e. op_at s e.0 e.1) js))) journal_is

  ones : AllByRecursion (λ (e : ℕ × ℕ). e.0 ≡ 1) J
  ones = requests_one owner.ran (owner_asked r app client owner end made)

  places : AllByRecursion OpAtPlace (map (λ p. step.Did p.0 p.1) (enumerate_from 0 client.did))
  places = all_first OpAtPlace _ _ (all_first OpAtPlace _ _ (of_in_order OpAtPlace _ (ops_at_places s [] (own_order client) client_ended.lines)))

  requests_are : requests_of owner.ran ≡ filter_map (sent_did (is_on s 1 0)) (enumerate_from 0 client.did)
  requests_are = sym (ap (map (λ (e : ℕ × ℕ). e.1)) (ap (filter (λ (e : ℕ × ℕ). e.0 == 1)) journal_is ∙ kept_ones J ones))
      ∙ journal_part r (ran_is_sent r app client owner end made) 1 0 (client_is r app client owner end made) (omega (arith, made.images))
      ∙ ap (filter_map (sent_op r 1 0)) (of_client r app client owner end made own_order)
      ∙ of_places (sent_op r 1 0) (λ i x. refl) (λ i m. refl) (own_order client)
      ∙ ap (filter_map (sent_did (is_on s 1 0))) (own_dids client (length client.ran) client_ended.ats)

  sent_ops : AreSent (is_on s 1 0) 0 (requests_of owner.ran)
  sent_ops = subst (AreSent (is_on s 1 0) 0) (sym requests_are) (are_sent (is_on s 1 0) 0 client.did places)

  owes : (x : Reply) → is_on s 1 0 x.op ≡ true → look_up 1 x.op (zip J (answers_of s owner.ran)) ≡ Some x.answer → owed r 1 x.op ≡ Some x
  owes x on found = ap (option_map (λ a. record { op = x.op; answer = a }))
      (ap (option_and_then (λ d. look_up 1 x.op (answers r d))) (on_first s x.op on) ∙ ap (look_up 1 x.op) answers_are ∙ found)

  all_owed : (xs : List Reply) → AllByRecursion (λ (x : Reply). is_on s 1 0 x.op ≡ true) xs → AllByRecursion (λ (x : Reply). look_up 1 x.op (zip J (answers_of s owner.ran)) ≡ Some x.answer) xs
      → map (λ x. Some x) xs ≡ map (owed r 1) (map (λ x. x.op) xs)
  all_owed [] on found = refl
  all_owed (x ∷ xs) on found = ap₂ (λ a b. a ∷ b) (sym (owes x on.0 found.0)) (all_owed xs on.1 found.1)

  client_replies : map (λ x. Some x) (replies_of r 1) ≡ map (owed r 1) (replied_ops r 1)
  client_replies = ap (map (λ x. Some x)) (of_client r app client owner end made (λ x. x.replies))
      ∙ all_owed client.replies (ops_beside (λ k. is_on s 1 0 k ≡ true) (requests_of owner.ran) (answers_of s owner.ran) client.replies client_ended.replies sent_ops.on_image)
      (looked_up J (answers_of s owner.ran) client.replies client_ended.replies ones sent_ops.ascends)
      ∙ ap (map (owed r 1)) (client_ended.replied ∙ sym (ap (filter_map reply_op) (of_client r app client owner end made (λ x. x.ran))))

  pub replies : Replies r
  replies = each_client r app client owner end made (λ t. map (λ x. Some x) (replies_of r t) ≡ map (owed r t) (replied_ops r t)) client_replies
