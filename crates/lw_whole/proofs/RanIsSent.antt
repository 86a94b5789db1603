-- Ran is sent, from the settled rings and the way of each token.
use Rattle.std.proofs.Common.{◌≡◌, ℕ, ◌<◌, ◌≤◌, ◌==◌, nat_lt, nat_le, Bool, true, false, cond, ◌&&◌, List, [], ◌∷◌, ◌++◌, map, filter, length, Option, Some, None, slice_get, unwrap_or, option_map, option_to_list, append-nil, refl, sym, ap, ap₂, subst, ◌∙◌, arith, inl, inr}
use Rattle.std.specs.List.{flat_map}
use Rattle.std.proofs.lemmas.Bool.{and_right, lt-leb, ne_eqb, false≢true, cases_lt}
use Rattle.std.proofs.lemmas.List.{map-append}
use Rattle.lw_base.specs.declared.message.Tag.{Tag}
use Rattle.lw_base.specs.declared.message.What.{What}
use Rattle.lw_base.specs.declared.message.What.TheVariants as what
use Rattle.lw_base.specs.Letters.{sent_by as sent_from}
use Rattle.lw_model.specs.declared.script.Script.{Script}
use Rattle.lw_model.specs.declared.record.Record.{Record}
use Rattle.lw_model.specs.declared.record.Answer.{Answer}
use Rattle.lw_model.specs.declared.record.Answer.TheVariants as answer
use Rattle.lw_model.specs.declared.step.Step.{Step}
use Rattle.lw_model.specs.declared.step.Step.TheVariants as step
use Rattle.lw_model.specs.Threads.{EachThread, thread_count, owner_of, is_client, is_owner, is_on, images}
use Rattle.lw_model.specs.OwnOrder.{own_order, with_past}
use Rattle.lw_model.specs.Holding.{references, runs}
use Rattle.lw_model.specs.Sent.{is_same_token, token_of, started, sent_by, sent_by_did, sent_by_ran, sent_last, all_sent, sent, run_of, to_thread}
use Rattle.lw_model.proofs.Callbacks.{without, references-without}
use Rattle.lw_whole.specs.Letters.{Letter}
use Rattle.lw_whole.specs.Logs.{Log, addressed, steps, all_sends, sent_by_thread}
use Rattle.lw_whole.specs.Sends.{Sets, SentByDid, SentByRan, SentBy, SentAlong, Sends, Replies}
use Rattle.lw_whole.specs.WholeRun.{IsWholeRun}
use Rattle.lw_whole.proofs.Access.{of_log, of_none, log_of, log_count, ended, client_ended}
use Rattle.lw_whole.proofs.Steps.{steps_are}
use Rattle.lw_whole.proofs.Numbers.{tags, tags_of_sender, run_at, none_sent}
use Rattle.lw_whole.proofs.TokenCounts.{Either, visit_same, cast_same, starts, dests, outs}
use Rattle.lw_whole.proofs.TokenRuns.{Token, count_of, count_steps, run_few, start_few}
use Rattle.lw_whole.proofs.TokenFlow.{op_of, starts_at, starts_of, goes_of, starts_is, goes_is, runs_at, runs_are}
use Rattle.lw_whole.proofs.TokenBack.{token_made}
use Rattle.lw_whole.proofs.TokenWay.{Begun, begun_at}
use Rattle.lw_whole.proofs.Once.{begun_by_run}
use Rattle.lw_whole.proofs.ListedOnce.{listed_once}
use Rattle.lw_whole.proofs.TokenSteps.{Left, left_behind, only_now}
use Rattle.lw_whole.proofs.TokenGoes.{all_go, at_most_once, start_goes, run_sends, start_sends}

referred-without : (s : Script) (t : ℕ) (past : List Step) (ds : List ℕ) → filter (λ d. nat_lt 0 (references (is_on s t d) past)) ds ≡ filter (λ d. nat_lt 0 (references (is_on s t d) (without past))) ds
referred-without s t past [] = refl
referred-without s t past (d ∷ ds) = ap₂ (λ (k : ℕ) (xs : List ℕ). cond (nat_lt 0 k) (d ∷ xs) xs) (references-without (is_on s t d) past) (referred-without s t past ds)

module _ (r : Record) (logs : List Log) (whole : IsWholeRun r logs) (t : ℕ) (l : Log) (at : slice_get logs t ≡ Some l) (less : t < thread_count r.script) where
  abbrev s : Script
  s = r.script

  abbrev n : ℕ
  n = thread_count r.script

  -- what is known of a step that starts the token or runs it
  abbrev Sent : What → List ℕ → List (ℕ × Letter) → Type 0
  Sent w whole now = Begun r logs w × (whole ≡ dests n w now) × (length (dests n w now) ≡ 1)

  abbrev StartsNow : Step → List (ℕ × Letter) → Type 0
  StartsNow x now = (w : What) → Token w → starts s t w x ≡ true → Sent w (starts_of r logs whole w t) now

  abbrev RunsNow : Step → List (ℕ × Letter) → Type 0
  RunsNow x now = (w : What) → Token w → runs (is_same_token w) x ≡ true → Sent w (goes_of r logs whole w t) now

  -- ---- what a step sends is what the list has of it

  line_same : (past : List Step) (i at k : ℕ) (a : Answer) (now : List (ℕ × Letter)) → is_client s t ≡ true → SentByDid s t (without past) (record { at = at; op = k; answer = a }) now
      → StartsNow (step.Did i (record { at = at; op = k; answer = a })) now → sent_by_did r t past (record { at = at; op = k; answer = a }) ≡ addressed now
  line_same past i at k answer.Sent now c h st = sym h
  line_same past i at k answer.Deferred now c h st = sym h
  line_same past i at k answer.Closed now c h st = ap (map (λ d. (t, what.PutSelf d))) (referred-without s t past (images s)) ∙ sym h
  line_same past i at k answer.Started now c h st = token (token_of s t k) refl h
    where
      token : (o : Option What) → token_of s t k ≡ o → Sets s o now → flat_map (started r) (option_to_list o) ≡ addressed now
      token None e h = sym (ap addressed h)
      token (Some w) e h =
          let tok = token_made t k _ w e in
          let is : starts s t w (step.Did i (record { at = at; op = k; answer = answer.Started })) ≡ true
          = ap (λ b. b && true && elim (token_of s t k) as (λ z. Bool) [ None ↦ false | Some u ↦ is_same_token w u ]) c ∙ ap (λ (z : Option What). elim z as (λ z. Bool) [ None ↦ false | Some u ↦ is_same_token w u ]) e ∙ tok in
          let now_is = st w tok is in
          append-nil (started r w) ∙ sym (start_sends r logs whole w tok now_is.0 t less _ now h now_is.1 now_is.2)
  line_same past i at k _ now c h st = sym (ap addressed h)

  ran_same : (past : List Step) (i sender number : ℕ) (v : What) (now : List (ℕ × Letter)) → SentByRan s t l (without past) i (record { sender = sender; number = number; what = v }) now
      → RunsNow (step.Ran i (record { sender = sender; number = number; what = v })) now → sent_by_ran r t (record { sender = sender; number = number; what = v }) ≡ addressed now
  ran_same past i sender number (what.Request k) now h ru = by (is_owner s t) h
    where
      by : (b : Bool) → Either b (Replies s t (without past) (record { sender = sender; number = number; what = what.Request k }) k now) (now ≡ []) → cond b ((sender, what.Reply k) ∷ []) [] ≡ addressed now
      by true h = sym h.reply
      by false h = sym (ap addressed h)
  ran_same past i sender number (what.Visit o k d) now h ru =
      let now_is = ru (what.Visit o k d) (visit_same o k d) (visit_same o k d) in sym (run_sends r logs whole (what.Visit o k d) (visit_same o k d) now_is.0 t less _ now h now_is.1 now_is.2)
  ran_same past i sender number (what.Cast o k) now h ru =
      let now_is = ru (what.Cast o k) (cast_same o k) (cast_same o k) in sym (run_sends r logs whole (what.Cast o k) (cast_same o k) now_is.0 t less _ now h now_is.1 now_is.2)
  ran_same past i sender number _ now h ru = sym (ap addressed h)

  step_same : (past : List Step) (x : Step) (now : List (ℕ × Letter)) → SentBy s t l (without past) x now → StartsNow x now → RunsNow x now → sent_by r t past x ≡ addressed now
  step_same past (step.Did i x) now h st ru = by (is_client s t) refl h
    where
      by : (b : Bool) → is_client s t ≡ b → Either b (SentByDid s t (without past) x now) (now ≡ []) → cond b (sent_by_did r t past x) [] ≡ addressed now
      by true c h = line_same past i x.at x.op x.answer now c h st
      by false c h = sym (ap addressed h)
  step_same past (step.Called i x) now h st ru = sym (ap addressed h)
  step_same past (step.Ran i m) now h st ru = ran_same past i m.sender m.number m.what now h ru

  -- ---- the one step of a token

  abbrev Tracked : List Step → List Step → List (List (ℕ × Letter)) → Type 0
  Tracked past rest sends = (w : What) → Token w
      → Left (starts s t w) n w (starts_of r logs whole w t) (count_of (starts s t w) (steps l)) past rest sends
      × Left (runs (is_same_token w)) n w (goes_of r logs whole w t) (count_of (runs (is_same_token w)) (steps l)) past rest sends

  track : (past : List Step) (x : Step) (rest : List Step) (now : List (ℕ × Letter)) (sends : List (List (ℕ × Letter))) → SentBy s t l past x now → Tracked past (x ∷ rest) (now ∷ sends) → Tracked (x ∷ past) rest sends
  track past x rest now sends h tr w tok = let g = tr w tok in (
    left_behind s t l (starts s t w) n w (start_few s t l w n) (starts_of r logs whole w t) (count_of (starts s t w) (steps l)) past x rest now sends h g.0,
    left_behind s t l (runs (is_same_token w)) n w (run_few s t l w n) (goes_of r logs whole w t) (count_of (runs (is_same_token w)) (steps l)) past x rest now sends h g.1,
  )

  starts_once : (w : What) → is_client s t ≡ true → count_of (starts s t w) (steps l) ≤ 1
  starts_once w c = listed_once s t (op_of w) (starts s t w) (λ i x e. (starts_at s t w i x e).1) (λ i x. refl) (λ i m. refl) [] (steps l) (client_ended r logs whole t l at c).fit

  starts_now : (past : List Step) (x : Step) (rest : List Step) (now : List (ℕ × Letter)) (sends : List (List (ℕ × Letter))) → SentAlong s t l (with_past past (x ∷ rest)) (now ∷ sends) → Tracked past (x ∷ rest) (now ∷ sends) → StartsNow x now
  starts_now past (step.Did i x) rest now sends h tr w tok e =
      let left = (tr w tok).0 in
      let is = starts_at s t w i x e in
      let b = begun_at r logs whole w t l at less (omega (arith, left.counts, ap {B = ℕ} (λ b. cond b 1 0) e)) in
      let one = starts_once w is.2 in
      let full = start_goes r logs whole w tok b t less is.0 in
      let go = only_now s t l (starts s t w) n w (start_few s t l w n) (starts_of r logs whole w t) (count_of (starts s t w) (steps l)) past (step.Did i x) rest now sends h e one
      (omega (arith, full, one, left.counts, ap {B = ℕ} (λ b. cond b 1 0) e)) left in
      (b, go.0, go.1)
  starts_now past (step.Called i x) rest now sends h tr w tok e = absurd (false≢true e)
  starts_now past (step.Ran i m) rest now sends h tr w tok e = absurd (false≢true e)

  runs_now : (past : List Step) (x : Step) (rest : List Step) (now : List (ℕ × Letter)) (sends : List (List (ℕ × Letter))) → SentAlong s t l (with_past past (x ∷ rest)) (now ∷ sends) → Tracked past (x ∷ rest) (now ∷ sends) → RunsNow x now
  runs_now past x rest now sends h tr w tok e =
      let left = (tr w tok).1 in
      let total : runs_at r logs whole w t ≡ count_of (runs (is_same_token w)) (steps l) = runs_are r logs whole w t l at ∙ sym (count_steps (is_same_token w) l) in
      let b = begun_by_run r logs whole w tok t less (omega (arith, total, left.counts, ap {B = ℕ} (λ b. cond b 1 0) e)) in
      let go = only_now s t l (runs (is_same_token w)) n w (run_few s t l w n) (goes_of r logs whole w t) (count_of (runs (is_same_token w)) (steps l)) past x rest now sends h e
      (omega (arith, total, at_most_once r logs whole w tok b t less)) (omega (arith, total, all_go r logs whole w tok b t less)) left in
      (b, go.0, go.1)

  -- ---- all steps

  all_same : (past rest : List Step) (sends : List (List (ℕ × Letter))) → SentAlong s t l (with_past (without past) (without rest)) sends → Tracked (without past) (without rest) sends
      → flat_map (λ p. sent_by r t p.0 p.1) (with_past past rest) ≡ addressed (flat_map (λ now. now) sends)
  all_same past [] [] h tr = refl
  all_same past [] (now ∷ sends) h tr = absurd h
  all_same past (step.Did i x ∷ rest) [] h tr = absurd h
  all_same past (step.Did i x ∷ rest) (now ∷ sends) h tr =
      ap₂ (λ a b. a ++ b)
      (step_same past (step.Did i x) now h.0 (starts_now (without past) (step.Did i x) (without rest) now sends h tr) (runs_now (without past) (step.Did i x) (without rest) now sends h tr))
      (all_same (step.Did i x ∷ past) rest sends h.1 (track (without past) (step.Did i x) (without rest) now sends h.0 tr))
      ∙ sym (map-append (λ (p : ℕ × Letter). (p.0, p.1.tag.what)) now (flat_map (λ now. now) sends))
  all_same past (step.Called i x ∷ rest) sends h tr = all_same (step.Called i x ∷ past) rest sends h tr
  all_same past (step.Ran i m ∷ rest) [] h tr = absurd h
  all_same past (step.Ran i m ∷ rest) (now ∷ sends) h tr =
      ap₂ (λ a b. a ++ b)
      (step_same past (step.Ran i m) now h.0 (starts_now (without past) (step.Ran i m) (without rest) now sends h tr) (runs_now (without past) (step.Ran i m) (without rest) now sends h tr))
      (all_same (step.Ran i m ∷ past) rest sends h.1 (track (without past) (step.Ran i m) (without rest) now sends h.0 tr))
      ∙ sym (map-append (λ (p : ℕ × Letter). (p.0, p.1.tag.what)) now (flat_map (λ now. now) sends))

  pub all_addressed : all_sent r t ≡ addressed (all_sends l)
  all_addressed =
      ap₂ (λ a b. a ++ b)
      (ap (λ (ss : List Step). flat_map (λ p. sent_by r t p.0 p.1) (with_past [] ss)) (of_log r logs whole own_order t l at)
      ∙ all_same [] (own_order l.lines) l.sends (subst (λ ss. SentAlong s t l (with_past [] ss) l.sends) (sym (steps_are l)) ends.at_steps) (λ w tok. (
        record { before = []; counted = 0; whole_is = starts_is r logs whole w t l at ∙ ap (λ ss. outs_of (starts s t w) w ss) (sym (steps_are l)); few = omega arith; counts = omega (arith, ap (count_of (starts s t w)) (steps_are l)) },
        record { before = []; counted = 0; whole_is = goes_is r logs whole w t l at ∙ ap (λ ss. outs_of (runs (is_same_token w)) w ss) (sym (steps_are l)); few = omega arith; counts = omega (arith, ap (count_of (runs (is_same_token w))) (steps_are l)) },
      )))
      (sym ends.at_end)
      ∙ sym (map-append (λ (p : ℕ × Letter). (p.0, p.1.tag.what)) (flat_map (λ now. now) l.sends) l.last)
    where
      ends : Sends s t l
      ends = (ended r logs whole t l at).sends

      outs_of : (Step → Bool) → What → List Step → List ℕ
      outs_of p w ss = outs p n w (with_past [] ss) l.sends

-- ---- the rule

what_to : (t : ℕ) (ps : List (ℕ × Letter)) → map (λ (m : Tag). m.what) (tags (to_thread t ps)) ≡ map (λ (p : ℕ × What). p.1) (filter (λ p. p.0 == t) (addressed ps))
what_to t [] = refl
what_to t (p ∷ ps) = by (p.0 == t) (what_to t ps)
  where
    by : (b : Bool) → map (λ (m : Tag). m.what) (tags (to_thread t ps)) ≡ map (λ (p : ℕ × What). p.1) (filter (λ p. p.0 == t) (addressed ps))
        → map (λ (m : Tag). m.what) (tags (map (λ (q : ℕ × Letter). q.1) (cond b (p ∷ filter (λ q. q.0 == t) ps) (filter (λ q. q.0 == t) ps))))
        ≡ map (λ (q : ℕ × What). q.1) (cond b ((p.0, p.1.tag.what) ∷ filter (λ q. q.0 == t) (addressed ps)) (filter (λ q. q.0 == t) (addressed ps)))
    by true e = ap (λ ws. p.1.tag.what ∷ ws) e
    by false e = e

pub ran_all : (r : Record) (logs : List Log) → IsWholeRun r logs → EachThread r (λ t. (s : ℕ) → run_of r s t ≡ sent r s t)
ran_all r logs whole t less s =
    let l = log_of r logs whole t less in
    let within : t < length logs = omega (arith, less, log_count r logs whole) in
    ap (λ (ms : List Tag). map (λ m. m.what) (filter (λ m. m.sender == s) ms)) (of_log r logs whole (λ x. x.ran) t l.0 l.1 ∙ sym (ended r logs whole t l.0 l.1).tags)
    ∙ ap (map (λ (m : Tag). m.what)) (tags_of_sender s l.0.ran ∙ ap (λ ls. tags (sent_from (λ x. x.tag) s ls)) (sym (run_at logs t l.0 l.1)) ∙ ap tags (whole.rings.run_is_sent t s within))
    ∙ what_to t (sent_by_thread logs s)
    ∙ ap (λ (ps : List (ℕ × What)). map (λ p. p.1) (filter (λ p. p.0 == t) ps)) addressed_all
  where
    addressed_all : addressed (sent_by_thread logs s) ≡ all_sent r s
    addressed_all = elim (cases_lt s (thread_count r.script)) [
      | inl below ↦
          let l = log_of r logs whole s below in
          ap (λ (o : Option Log). addressed (unwrap_or (option_map all_sends o) [])) l.1 ∙ sym (all_addressed r logs whole s l.0 l.1 below)
      | inr above ↦
          let out : length logs ≤ s = omega (arith, above, log_count r logs whole) in
          ap addressed (none_sent logs s out)
          ∙ sym (ap₂ (λ (ss : List Step) (ps : List (ℕ × What)). flat_map (λ p. sent_by r s p.0 p.1) (with_past [] ss) ++ ps) (of_none r logs whole own_order s out) (none_last above))
    ]
      where
        none_last : thread_count r.script ≤ s → sent_last r.script s ≡ []
        none_last above = ap₂ (λ (a b : Bool). cond a ((0, what.Done) ∷ []) (cond b (map (λ d. (owner_of r.script d, what.Stop)) (images r.script)) [])) (no_client above) (no_app above)
          where
            no_client : thread_count r.script ≤ s → is_client r.script s ≡ false
            no_client above = and_right (nat_lt 0 s) (nat_le s (length r.script.clients)) (lt-leb s (length r.script.clients) (omega (arith, above)))

            no_app : thread_count r.script ≤ s → (s == 0) ≡ false
            no_app above = ne_eqb s 0 (λ e. omega (arith, e, above))
