-- Replies: a client lists each reply that it ran with the answer of its request's place in the journal.
use Rattle.std.proofs.Common.{◌≡◌, ℕ, suc, ◌+◌, ◌<◌, ◌≤◌, ◌==◌, nat_lt, nat_le, Bool, true, false, cond, ◌&&◌, List, [], ◌∷◌, map, filter, length, Option, Some, None, slice_get, unwrap_or, option_map, refl, sym, ap, ap₂, subst, ◌∙◌, arith, inl, inr}
use Rattle.std.specs.Prelude.{◌⊎◌, zip, filter_map, option_and_then, if◌then◌else◌}
use Rattle.std.specs.List.{flat_map, enumerate_from, cons_option}
use Rattle.std.proofs.lemmas.Bool.{ltb-true, lt-leb, and_right, ne_eqb}
use Rattle.std.proofs.lemmas.List.{map-append}
use Rattle.lw_base.specs.declared.message.Tag.{Tag}
use Rattle.lw_base.specs.declared.message.What.{What}
use Rattle.lw_base.specs.declared.message.What.TheVariants as what
use Rattle.lw_base.specs.Letters.{sent_by}
use Rattle.lw_model.specs.declared.script.Script.{Script}
use Rattle.lw_model.specs.declared.record.Record.{Record}
use Rattle.lw_model.specs.declared.record.Reply.{Reply}
use Rattle.lw_model.specs.declared.record.Replied.{Replied}
use Rattle.lw_model.specs.declared.step.Step.TheVariants as step
use Rattle.lw_model.specs.ScriptRules.{block_at}
use Rattle.lw_model.specs.Threads.{thread_count, owner_of, is_client, is_owner, op_at, ran_of, images}
use Rattle.lw_model.specs.OwnOrder.{with_past}
use Rattle.lw_model.specs.Journal.{request_of, answers, look_up, reply_of}
use Rattle.lw_model.specs.Replay.{replay, answer_after}
use Rattle.lw_model.specs.Sent.{sent_last, to_thread}
use Rattle.lw_model.specs.Lawful.{Replies, reply_op, owed}
use Rattle.lw_whole.specs.Letters.{Letter}
use Rattle.lw_whole.specs.Logs.{Log, addressed, all_sends}
use Rattle.lw_whole.specs.Sends.{answer_in, block_of_owner, ops_run, SentAlong}
use Rattle.lw_whole.specs.Lines.{reply_in}
use Rattle.lw_whole.specs.WholeRun.{IsWholeRun}
use Rattle.lw_whole.proofs.Access.{client_within, of_log, log_of, log_count, ended, client_ended, owner_ended}
use Rattle.lw_whole.proofs.Numbers.{run_at}
use Rattle.lw_whole.proofs.TokenRuns.{count_if}
use Rattle.lw_whole.proofs.TokenBack.{Among, among_either, IsTo, IsSend, IsLetter, counted_among, sent_to}
use Rattle.lw_whole.proofs.AtStep.{AtStep, at_step}
use Rattle.lw_whole.proofs.SentFrom.{SentFrom}
use Rattle.lw_whole.proofs.TokenLoads.{sent_from, in_run}
use Rattle.lw_whole.proofs.Requests.{asks, asks_is, count_asks, count_asks-append, last_asks, Asked, asked_at, asked_once, some_asks}
use Rattle.lw_whole.proofs.Plain.{NoneOf, none_of}
use Rattle.lw_whole.proofs.Replying.{is_reply, reply_of_owner, step_answers, count_asked, some_asked, reply_found, owner_steps}

-- the last messages are no replies
pub last_none : (s : Script) (t : ℕ) → NoneOf is_reply (sent_last s t)
last_none s t = at (is_client s t) (t == 0)
  where
    stops : (ds : List ℕ) → NoneOf is_reply (map (λ d. (owner_of s d, what.Stop)) ds)
    stops [] = tt
    stops (d ∷ ds) = (refl, stops ds)

    at : (a b : Bool) → NoneOf is_reply (cond a ((0, what.Done) ∷ []) (cond b (map (λ d. (owner_of s d, what.Stop)) (images s)) []))
    at true b = (refl, tt)
    at false true = stops (images s)
    at false false = tt

-- the requests that an owner ran of a sender, among what the sender sent
asked_of : (s : Script) (o t k : ℕ) (l : Log) (y : Letter) (e : y.tag.what ≡ what.Reply k) (ls : List Letter) → count_asked s o t k l y e (map (λ x. x.tag) ls) ≡ count_if (asks k) (map (λ x. x.tag) (sent_by (λ x. x.tag) t ls))
asked_of s o t k l y e [] = refl
asked_of s o t k l y e (x ∷ ls) = at (x.tag.sender == t) (asked_of s o t k l y e ls)
  where
    at : (b : Bool) → count_asked s o t k l y e (map (λ x. x.tag) ls) ≡ count_if (asks k) (map (λ x. x.tag) (sent_by (λ x. x.tag) t ls))
        → cond (b && asks k x.tag.what) 1 0 + count_asked s o t k l y e (map (λ x. x.tag) ls) ≡ count_if (asks k) (map (λ x. x.tag) (if b then x ∷ sent_by (λ x. x.tag) t ls else sent_by (λ x. x.tag) t ls))
    at true f = ap (λ n. cond (asks k x.tag.what) 1 0 + n) f
    at false f = omega (arith, f)

few_to : (o k : ℕ) (ps : List (ℕ × Letter)) → count_if (asks k) (map (λ x. x.tag) (to_thread o ps)) ≤ count_asks k (addressed ps)
few_to o k [] = omega arith
few_to o k (p ∷ ps) = at (p.0 == o) (few_to o k ps)
  where
    at : (b : Bool) → count_if (asks k) (map (λ x. x.tag) (to_thread o ps)) ≤ count_asks k (addressed ps)
        → count_if (asks k) (map (λ (x : Letter). x.tag) (map (λ (q : ℕ × Letter). q.1) (cond b (p ∷ filter (λ q. q.0 == o) ps) (filter (λ q. q.0 == o) ps)))) ≤ cond (asks k p.1.tag.what) 1 0 + count_asks k (addressed ps)
    at true f = omega (arith, f)
    at false f = omega (arith, f)

-- an owner is neither the app nor a client
owner_no_client : (s : Script) (o : ℕ) → is_owner s o ≡ true → is_client s o ≡ false
owner_no_client s o e = and_right (nat_lt 0 o) (nat_le o (length s.clients)) (lt-leb o (length s.clients) (ltb-true (length s.clients) o e))

owner_no_app : (s : Script) (o : ℕ) → is_owner s o ≡ true → (o == 0) ≡ false
owner_no_app s o e = ne_eqb o 0 (λ f. omega (arith, f, ltb-true (length s.clients) o e))

module _ (r : Record) (logs : List Log) (whole : IsWholeRun r logs) (t : ℕ) (l : Log) (at : slice_get logs t ≡ Some l) (client : is_client r.script t ≡ true) where
  less : t < thread_count r.script
  less = client_within r.script t client

  -- the answer of a reply is the one that is owed
  pub record Owes (k : ℕ) (y : Letter) : Type 0 where
    pub answer : Replied
    pub carried : answer_in y.load ≡ Some answer
    pub owes : reply_of r t k ≡ Some answer

  module _ (k : ℕ) (y : Letter) (reply : y.tag.what ≡ what.Reply k) where
    of_owner : (o : ℕ) (g : Log) → slice_get logs o ≡ Some g → o < thread_count r.script → Among (IsTo t (λ z. z ≡ y)) (flat_map (λ now. now) g.sends) → AtStep r.script o g (IsTo t (λ z. z ≡ y)) → Owes k y
    of_owner o g there within among a =
        let owns = reply_of_owner r.script o t g a.past a.this a.now y (ap is_reply reply) a.sent a.among in
        let ends = owner_ended r logs whole o g there (owner_no_app r.script o owns) (owner_no_client r.script o owns) in
        let along : SentAlong r.script o g (with_past [] (map (λ p. step.Ran p.0 p.1) (enumerate_from 0 g.lines.ran))) g.sends
        = subst (λ ss. SentAlong r.script o g (with_past [] ss) g.sends) (owner_steps g ends.did) (ended r logs whole o g there).sends.at_steps in
        let from : count_asked r.script o t k g y reply g.lines.ran ≡ count_if (asks k) (map (λ x. x.tag) (sent_by (λ x. x.tag) t g.ran))
        = ap (count_asked r.script o t k g y reply) (sym (ended r logs whole o g there).tags) ∙ asked_of r.script o t k g y reply g.ran in
        let some = some_asked r.script o t k g y reply 0 [] g.lines.ran g.sends along among in
        let sent_is : sent_by (λ x. x.tag) t g.ran ≡ to_thread o (all_sends l) = ap (sent_by (λ x. x.tag) t) (sym (run_at logs o g there))
        ∙ whole.rings.run_is_sent o t (omega (arith, within, log_count r logs whole)) ∙ ap (λ (m : Option Log). to_thread o (unwrap_or (option_map all_sends m) [])) at in
        let sent : Among (IsSend o (what.Request k)) (all_sends l) = sent_to o (IsLetter (what.Request k)) (all_sends l)
        (subst (Among (IsLetter (what.Request k))) sent_is (counted_among (asks k) (what.Request k) (λ u e. asks_is k u e) (sent_by (λ x. x.tag) t g.ran) (omega (arith, some, from)))) in
        let asked = asked_by (among_either (IsSend o (what.Request k)) (flat_map (λ now. now) l.sends) l.last sent) in
        let few : count_asked r.script o t k g y reply g.lines.ran ≤ 1 = omega (arith, from, ap (λ ls. count_if (asks k) (map (λ (x : Letter). x.tag) ls)) sent_is, few_to o k (all_sends l), all_asks) in
        let found = reply_found r.script o t k g y reply 0 [] g.lines.ran g.sends along among few in
        let block : block_of_owner r.script o ≡ block_at r.script asked.image = ap (block_at r.script) (omega (arith, asked.owner)) in
        let ran : ran_of r (owner_of r.script asked.image) ≡ g.lines.ran = ap (ran_of r) (sym asked.owner) ∙ of_log r logs whole (λ x. x.ran) o g there in
        let past = ops_run r.script a.past in
        let got = asked.answered (block_of_owner r.script o) past in
        let carries : answer_in y.load ≡ Some got.0 = step_answers r.script o t k g y reply a.past a.this a.now a.sent a.among ∙ ap (option_and_then (answer_after (block_of_owner r.script o) past)) asked.request_is ∙ got.1 in
        record {
          answer = got.0;
          carried = carries;
          owes = ap (option_and_then (λ d. look_up t k (answers r d))) asked.image_is
              ∙ ap (looked_up (block_at r.script asked.image)) ran ∙ ap (λ b. looked_up b g.lines.ran) (sym block) ∙ found ∙ carries;
        }
      where
        looked_up : ℕ → List Tag → Option Replied
        looked_up block ms = look_up t k (zip (filter_map request_of ms) (replay block [] (map (λ e. op_at r.script e.0 e.1) (filter_map request_of ms))))

        asked_by : Among (IsSend o (what.Request k)) (flat_map (λ now. now) l.sends) ⊎ Among (IsSend o (what.Request k)) l.last → Asked r.script t k o
        asked_by (inl at_steps) = asked_at r.script t k o l (λ c. (client_ended r logs whole t l at c).fit) (at_step r.script t l (IsSend o (what.Request k)) (ended r logs whole t l at).sends.at_steps at_steps)
        asked_by (inr at_end) = absurd (omega (arith, some_asks r.script t k o l l.last at_end, ap (count_asks k) (ended r logs whole t l at).sends.at_end, last_asks r.script t k))

        all_asks : count_asks k (addressed (all_sends l)) ≤ 1
        all_asks = omega (
          arith,
          ap (count_asks k) (map-append (λ (p : ℕ × Letter). (p.0, p.1.tag.what)) (flat_map (λ now. now) l.sends) l.last),
          count_asks-append k (addressed (flat_map (λ now. now) l.sends)) (addressed l.last),
          asked_once r.script t k o l (client_ended r logs whole t l at client).fit (ended r logs whole t l at).sends.at_steps,
          ap (count_asks k) (ended r logs whole t l at).sends.at_end,
          last_asks r.script t k,
        )

    of_sender : SentFrom logs t y → Owes k y
    of_sender from = elim from.among [
      | inl at_steps ↦ of_owner from.sender from.log from.at (in_run r logs whole from.sender from.within) at_steps (at_step r.script from.sender from.log (IsTo t (λ z. z ≡ y)) (ended r logs whole from.sender from.log from.at).sends.at_steps at_steps)
      | inr at_end ↦ absurd (none_of is_reply t y from.log.last (ap is_reply reply) (subst (NoneOf is_reply) (sym (ended r logs whole from.sender from.log from.at).sends.at_end) (last_none r.script from.sender)) at_end)
    ]

-- replies that are those that are owed, one by one
module _ (r : Record) (logs : List Log) (whole : IsWholeRun r logs) (t : ℕ) (l : Log) (at : slice_get logs t ≡ Some l) (client : is_client r.script t ≡ true) where
  each_owed : (ls : List Letter) → ((i : ℕ) (y : Letter) → slice_get ls i ≡ Some y → (k : ℕ) → y.tag.what ≡ what.Reply k → Owes r logs whole t l at client k y)
      → map (λ x. Some x) (filter_map reply_in ls) ≡ map (owed r t) (filter_map reply_op (map (λ x. x.tag) ls))
  each_owed [] each = refl
  each_owed (y ∷ ls) each = on y.tag.what refl (each_owed ls (λ i x e. each (suc i) x e))
    where
      more : List Reply
      more = filter_map reply_in ls

      ops : List ℕ
      ops = filter_map reply_op (map (λ x. x.tag) ls)

      on : (v : What) → y.tag.what ≡ v → map (λ x. Some x) more ≡ map (owed r t) ops
          → map (λ x. Some x) (cons_option (elim v [ what.Reply k ↦ option_map (λ a. record { op = k; answer = a }) (answer_in y.load) | _ ↦ None ]) more)
          ≡ map (owed r t) (cons_option (elim v [ what.Reply k ↦ Some k | _ ↦ None ]) ops)
      on (what.Reply k) is rest =
          let o = each 0 y refl k is in
          ap (λ (m : Option Replied). map (λ x. Some x) (cons_option (option_map (λ a. record { op = k; answer = a }) m) more)) o.carried
          ∙ ap₂ (λ (x : Option Reply) (xs : List (Option Reply)). x ∷ xs) (sym (ap (option_map (λ a. record { op = k; answer = a })) o.owes)) rest
      on _ is rest = rest

pub replies : (r : Record) (logs : List Log) → IsWholeRun r logs → Replies r
replies r logs whole t client =
    let less = client_within r.script t client in
    let l = log_of r logs whole t less in
    ap (map (λ x. Some x)) (of_log r logs whole (λ x. x.replies) t l.0 l.1 ∙ (client_ended r logs whole t l.0 l.1 client).replies)
    ∙ each_owed r logs whole t l.0 l.1 client l.0.ran (λ i y e k is. of_sender r logs whole t l.0 l.1 client k y is (sent_from r logs whole t l.0 l.1 i y e))
    ∙ ap (λ ms. map (owed r t) (filter_map reply_op ms)) ((ended r logs whole t l.0 l.1).tags ∙ sym (of_log r logs whole (λ x. x.ran) t l.0 l.1))
