-- Where nothing is left to do all threads have ended, and their logs are one whole run.
use Rattle.std.proofs.Common.{ℕ, ◌≡◌, ◌+◌, ◌-◌, ◌<◌, ◌≤◌, Bool, true, false, cond, List, [], ◌∷◌, ◌++◌, map, length, get_or, Some, None, arith, refl, sym, ◌∙◌, ap, subst, inl, inr}
use Rattle.std.specs.Prelude.{◌==◌, ◌⊎◌, vec_len, count_by, is_some, slice_get, filter_map, unwrap_or}
use Rattle.std.specs.List.{list_all, list_any, range_with_len}
use Rattle.std.proofs.lemmas.Bool.{eq-eqb, eqb-true, and_parts}
use Rattle.std.proofs.lemmas.List.{append-nil}
use Rattle.lw_base.specs.declared.message.What.{What}
use Rattle.lw_base.specs.declared.message.What.TheVariants as what
use Rattle.lw_base.specs.declared.message.Tag.{Tag}
use Rattle.lw_model.specs.declared.script.Script.{Script}
use Rattle.lw_model.specs.declared.record.ThreadRecord.{ThreadRecord}
use Rattle.lw_model.specs.declared.record.RoleKind.{RoleKind}
use Rattle.lw_model.specs.declared.record.Called.{Called}
use Rattle.lw_model.specs.declared.record.Reply.{Reply}
use Rattle.lw_model.specs.declared.record.RoleKind.TheVariants as role
use Rattle.lw_model.specs.declared.record.Did.{Did}
use Rattle.lw_model.specs.declared.record.Answer.TheVariants.{Began}
use Rattle.lw_base.specs.declared.ends.DeviceEnd.{DeviceEnd}
use Rattle.lw_model.specs.Threads.{ops_of, is_on}
use Rattle.lw_model.specs.Moves.{number_fits}
use Rattle.lw_model.specs.Holding.{says, always, is_closed, gains, loses, references, is_putself, ordinal_given}
use Rattle.lw_model.specs.declared.step.Step.{Step}
use Rattle.lw_model.specs.Sent.{to_thread}
use Rattle.lw_model.proofs.SentLists.{to_thread-append}
use Rattle.lw_target.specs.declared.channel.Channel.{Channel}
use Rattle.lw_target.specs.declared.device.Device.{Device}
use Rattle.lw_target.specs.declared.turns.Target.{Target}
use Rattle.lw_target.specs.Messages.{Inbox}
use Rattle.lw_target.specs.ClientLog.{IsHeldUp, lines_fit, sends_of_steps, sent_so_far, steps_so_far, past_so_far, log_of}
use Rattle.lw_target.specs.ClientCalls.{AllAgree, pending_of, reply_carried}
use Rattle.lw_target.specs.Letters.{Letter, letters, told, said_by}
use Rattle.lw_target.specs.InOrder.{IsFresh, IsOver, IsInOrder, IsAtRest, is_reply_to, is_request_of}
use Rattle.lw_target.specs.WholeRun.{run_from, are_numbered, reply_pairs, AppEnded, OwnerEnded, ClientEnded, IsWholeRun}
use Rattle.lw_target.proofs.Numbers.{count_cons}
use Rattle.lw_target.proofs.Told.{true_false}
use Rattle.lw_target.proofs.Sends.{thread_is}

-- ---- all have ended

-- a list of which nothing is counted is empty
none_counted : (ops : List ℕ) → ((j : ℕ) → count_by (λ (i : ℕ). i == j) ops ≤ 0) → length ops ≡ 0
none_counted [] each = refl
none_counted (k ∷ ops) each = absurd (omega (arith, each k, count_cons (λ (i : ℕ). i == k) k ops, ap {B = ℕ} (λ b. cond b 1 0) (eq-eqb k k refl)))

-- behind the close no reference is left
closed_refers : (on : ℕ → Bool) (past : List Step) → list_any (says always is_closed) past ≡ true → references on past ≡ 0
closed_refers on past e = ap (λ b. cond b 0 (count_by (says on gains) past - count_by (says on loses) past)) e

one_stands : (ks : List Channel) → length ks ≡ 1 → 0 < count_by (λ (k : Channel). is_some k.ordinal) ks → (k : Channel) × (slice_get ks 0 ≡ Some k) × (is_some k.ordinal ≡ true)
one_stands [] e f = absurd (omega (arith, e))
one_stands (k ∷ []) e f = (k, refl, at (is_some k.ordinal) (count_cons (λ (x : Channel). is_some x.ordinal) k []))
  where
    at : (b : Bool) → count_by (λ (x : Channel). is_some x.ordinal) (k ∷ []) ≡ cond b 1 0 + 0 → b ≡ true
    at true g = refl
    at false g = absurd (omega (arith, f, g))
one_stands (k ∷ x ∷ ks) e f = absurd (omega (arith, e))

module _ (s : Script) (t : Target) (h : IsInOrder s t) (r : IsAtRest t) (deep : 1 ≤ t.client.of.depth) (long : vec_len t.client.channels ≡ 1) where
  none_unanswered : length t.client.unanswered.items ≡ 0
  none_unanswered = none_counted t.client.unanswered.items (λ j.
      let replies = ap (count_by (λ (l : Letter). is_reply_to j l.what)) r.client in
      let requests = ap (count_by (λ (l : Letter). is_request_of j l.what)) r.owner in
      omega (arith, h.answered.under_way j, replies, requests))

  -- behind its close a client without a message under way holds no channel
  none_held : t.client.closed ≡ true → 0 < t.client.standing → ⊥
  none_held closed some =
      let f = h.client.follows in
      let k = one_stands t.client.channels.items (sym t.client.channels.ok.0 ∙ long) (omega (arith, some, f.standing)) in
      let keeps = f.devices 0 k.0 k.1 in
      let no_reference : k.0.references ≡ 0 = sym keeps.references ∙ closed_refers (is_on s t.client.thread 0) (past_so_far t.client t.posts.client.ran) (f.says_closed ∙ closed) in
      let puts : pending_of t.client 0 ≡ k.0.pending = ap (λ o. elim o [ Some q ↦ q.pending | None ↦ 0 ]) k.1 in
      let waits : count_by (λ (l : Letter). is_putself 0 l.what) (letters t.posts.client) ≡ 0 = ap (count_by (λ (l : Letter). is_putself 0 l.what)) r.client in
      omega (arith, keeps.standing k.2, no_reference, puts, h.client.pending, waits)

  pub client_done : t.client.done ≡ true
  client_done = at t.client.done refl
    where
      held : IsHeldUp t.client → ⊥
      held (inl some) = omega (arith, some, none_unanswered)
      held (inr both) = none_held both.0 both.1

      at : (b : Bool) → t.client.done ≡ b → b ≡ true
      at true e = refl
      at false e = absurd (held (r.client_rests e deep))

  pub app_over : (v : Device) × (t.devices.items ≡ v ∷ []) × IsOver t.app t.client.done v
  app_over = (h.app.device.0, h.app.device.1, state h.app.device.2)
    where
      began : IsFresh t.app h.app.device.0 → ((t.app.began ≡ true) ⊎ (t.app.done < t.app.clients)) → ⊥
      began f (inl e) = true_false (sym e ∙ f.began)
      began f (inr less) =
          let nothing : length t.posts.app.ran ≡ 0 = omega (arith, less, h.app.clients, h.app.counted) in
          none_heard t.posts.app.ran nothing
          (sym (ap (λ q. map (λ (m : Tag). m.what) t.posts.app.ran ++ map (λ (l : Letter). l.what) q) r.app) ∙ h.app.heard ∙ ap (λ b. cond b (what.Done ∷ []) []) client_done)
        where
          none_heard : (ms : List Tag) → length ms ≡ 0 → map (λ (m : Tag). m.what) ms ++ [] ≡ what.Done ∷ [] → ⊥
          none_heard [] e f = omega (arith, ap length f)
          none_heard (m ∷ ms) e f = omega (arith, e)

      state : (IsFresh t.app h.app.device.0 ⊎ IsOver t.app t.client.done h.app.device.0) → IsOver t.app t.client.done h.app.device.0
      state (inl f) = absurd (began f r.app_rests)
      state (inr o) = o

-- ---- what the threads leave

-- a thread of a run that stayed on reactor 0
abbrev pub app_log : Target → ThreadRecord
app_log t = record { role = role.App; home = 0; hops = []; ran = t.posts.app.ran; did = t.app.did; called = t.app.called; replies = []; seen = [] }

abbrev pub client_log : Target → ThreadRecord
client_log t = log_of t.posts.client.ran t.client.did t.client.replies

abbrev pub owner_log : Target → ThreadRecord
owner_log t = record { role = role.Owner; home = 0; hops = []; ran = t.posts.owner.ran; did = []; called = []; replies = []; seen = [] }

tag_is : (m : Tag) (a b : ℕ) (w : What) → m.sender ≡ a → m.number ≡ b → m.what ≡ w → m ≡ record { sender = a; number = b; what = w }
tag_is m a b w e f g =
    ap (λ x. let q : Tag = record { sender = x; number = m.number; what = m.what } in q) e
    ∙ ap (λ x. let q : Tag = record { sender = a; number = x; what = m.what } in q) f
    ∙ ap (λ x. let q : Tag = record { sender = a; number = b; what = x } in q) g

-- the one message that the app ran
only_done : (ms : List Tag) → map (λ (m : Tag). m.what) ms ≡ what.Done ∷ [] → list_all (λ (m : Tag). m.sender == 1) ms ≡ true → are_numbered ms ≡ true
    → ms ≡ record { sender = 1; number = 0; what = what.Done } ∷ []
only_done [] e f g = absurd (omega (arith, ap length e))
only_done (m ∷ []) e f g =
    ap (λ q. q ∷ []) (tag_is m 1 0 what.Done (eqb-true m.sender 1 (and_parts (m.sender == 1) true f).0) (eqb-true m.number 0 (and_parts (number_fits [] m) true g).0) (head m.what what.Done e))
  where
    head : (x y : What) → x ∷ [] ≡ y ∷ [] → x ≡ y
    head x y e = cc
only_done (m ∷ n ∷ ms) e f g = absurd (omega (arith, ap length e))

module _ (s : Script) (t : Target) (h : IsInOrder s t) (r : IsAtRest t) (deep : 1 ≤ t.client.of.depth) (long : vec_len t.client.channels ≡ 1)
    (app_numbers : are_numbered t.posts.app.ran ≡ true) (client_numbers : are_numbered t.posts.client.ran ≡ true) (owner_numbers : are_numbered t.posts.owner.ran ≡ true)
    (end : DeviceEnd) (given : (v : Device) → t.devices.items ≡ v ∷ [] → v.shut_by ≡ Some 0 → (end.given ≡ v.given) × (end.thread ≡ 0) × (end.callbacks ≡ v.callbacks)) where
  over : (v : Device) × (t.devices.items ≡ v ∷ []) × IsOver t.app t.client.done v
  over = app_over s t h r deep long

  done : t.client.done ≡ true
  done = client_done s t h r deep long

  ended : (end.given ≡ over.0.given) × (end.thread ≡ 0) × (end.callbacks ≡ over.0.callbacks)
  ended = given over.0 over.1 over.2.shut

  thread : t.client.thread ≡ 1
  thread = thread_is s t.client.thread h.of h.client.follows.of.client

  -- what a thread was told is what it ran
  all_run : (n : ℕ) (i : Inbox) → letters i ≡ [] → told i n ≡ run_from n i.ran
  all_run n i e = ap (λ q. run_from n i.ran ++ said_by n q) e ∙ append-nil (run_from n i.ran)

  sent_by_steps : (n : ℕ) → (0 == n) ≡ false → to_thread n (sent_so_far s t.client t.posts.client.ran) ≡ to_thread n (sends_of_steps s 1 (steps_so_far t.client t.posts.client.ran))
  sent_by_steps n away =
      ap (λ b. to_thread n (sends_of_steps s t.client.thread (steps_so_far t.client t.posts.client.ran) ++ cond b ((0, what.Done) ∷ []) [])) done
      ∙ to_thread-append n (sends_of_steps s t.client.thread (steps_so_far t.client t.posts.client.ran)) ((0, what.Done) ∷ [])
      ∙ ap (λ b. to_thread n (sends_of_steps s t.client.thread (steps_so_far t.client t.posts.client.ran)) ++ map (λ (p : ℕ × What). p.1) (cond b ((0, what.Done) ∷ []) [])) away
      ∙ append-nil (to_thread n (sends_of_steps s t.client.thread (steps_so_far t.client t.posts.client.ran)))
      ∙ ap (λ k. to_thread n (sends_of_steps s k (steps_so_far t.client t.posts.client.ran))) thread

  app_ended : AppEnded (app_log t) end
  app_ended = record {
    stayed = record { home = refl; hops = refl; seen = refl; numbered = app_numbers };
    ran = only_done t.posts.app.ran
        (sym (append-nil (map (λ (m : Tag). m.what) t.posts.app.ran)) ∙ sym (ap (λ q. map (λ (m : Tag). m.what) t.posts.app.ran ++ map (λ (l : Letter). l.what) q) r.app)
        ∙ h.app.heard ∙ ap (λ b. cond b (what.Done ∷ []) []) done)
        h.addressed.app_ran app_numbers;
    did = over.2.did ∙ ap (λ n. (let l : Did = record { at = 1; op = 0; answer = Began n } in l) ∷ []) (sym ended.0);
    called = over.2.called;
    replies = refl;
  }

  owner_ended : OwnerEnded s (client_log t) (owner_log t)
  owner_ended = record {
    stayed = record { home = refl; hops = refl; seen = refl; numbered = owner_numbers };
    did = refl;
    called = refl;
    replies = refl;
    senders = h.addressed.owner_ran;
    of_app = sym (all_run 0 t.posts.owner r.owner) ∙ h.app.stops ∙ ap (λ b. cond b (what.Stop ∷ []) []) over.2.ended;
    of_client = sym (all_run 1 t.posts.owner r.owner) ∙ h.sent.to_owner ∙ sent_by_steps 2 refl;
  }

  client_ended : ClientEnded s (client_log t) (owner_log t) end
  client_ended =
      let f = h.client.follows in
      let closed = (f.done done).0 in
      let k = one_stands_or_not t.client.channels.items (sym t.client.channels.ok.0 ∙ long) in
      let agrees = subst (λ ds. AllAgree s t.client t.posts.client.ran ds) over.1 h.client.agree 0 k.0 over.0 k.1 refl in
      record {
        stayed = record { home = refl; hops = refl; seen = refl; numbered = client_numbers };
        called = refl;
        count = f.listed ∙ ap (λ b. t.client.next + cond b 1 0) closed ∙ ap (λ n. n + 1) (f.closed closed ∙ sym (ap length (subst (λ n. ops_of s n ≡ t.client.of.ops) thread f.of.ops)));
        lines = subst (λ n. lines_fit s n (steps_so_far t.client t.posts.client.ran) ≡ true) thread f.lines;
        ats = f.ats;
        senders = h.addressed.client_ran;
        of_itself = sym (all_run 1 t.posts.client r.client) ∙ h.sent.to_itself ∙ sent_by_steps 1 refl;
        of_owner = sym (all_run 2 t.posts.client r.client) ∙ h.answered.replies;
        replies = sym (ap (λ q. reply_pairs q) (ap (λ ls. t.client.replies ++ filter_map (λ (l : Letter). reply_carried l.what l.load) ls) r.client ∙ append-nil t.client.replies)) ∙ h.answered.answers;
        replied = h.answered.listed;
        given = subst (λ n. filter_map (ordinal_given (is_on s n 0)) (steps_so_far t.client t.posts.client.ran) ≡ range_with_len 0 end.given) thread
            (agrees.given ∙ ap (range_with_len 0) (sym ended.0));
        usable = h.client.refused;
      }
    where
      one_stands_or_not : (ks : List Channel) → length ks ≡ 1 → (k : Channel) × (slice_get ks 0 ≡ Some k)
      one_stands_or_not [] e = absurd (omega (arith, e))
      one_stands_or_not (k ∷ ks) e = (k, refl)

  pub whole : IsWholeRun s (app_log t) (client_log t) (owner_log t) end
  whole = record {
    app_ended = app_ended;
    client_ended = client_ended;
    owner_ended = owner_ended;
    thread = ended.1;
    callbacks = ended.2 ∙ over.2.callbacks;
  }

-- ---- logs that are put together

abbrev pub record_of : RoleKind → List Tag → List Did → List Called → List Reply → ThreadRecord
record_of k ran did called replies = record { role = k; home = 0; hops = []; ran = ran; did = did; called = called; replies = replies; seen = [] }

pub same_log : (k : RoleKind) (ran ran' : List Tag) (did did' : List Did) (called called' : List Called) (replies replies' : List Reply)
    → ran ≡ ran' → did ≡ did' → called ≡ called' → replies ≡ replies' → record_of k ran did called replies ≡ record_of k ran' did' called' replies'
same_log k ran ran' did did' called called' replies replies' e f g h =
    ap (λ x. record_of k x did called replies) e ∙ ap (λ x. record_of k ran' x called replies) f
    ∙ ap (λ x. record_of k ran' did' x replies) g ∙ ap (λ x. record_of k ran' did' called' x) h

-- what the one device comes to
pub device_ended : (t : Target) (w : Device) (e : DeviceEnd) → w ≡ get_or t.devices.items 0 w → e ≡ record { given = w.given; thread = unwrap_or w.shut_by 0; callbacks = w.callbacks }
    → (v : Device) → t.devices.items ≡ v ∷ [] → v.shut_by ≡ Some 0 → (e.given ≡ v.given) × (e.thread ≡ 0) × (e.callbacks ≡ v.callbacks)
device_ended t w e here is v devices shut =
    let same : w ≡ v = here ∙ ap (λ ds. get_or ds 0 w) devices in (
      ap (λ (x : DeviceEnd). x.given) is ∙ ap (λ (x : Device). x.given) same,
      ap (λ (x : DeviceEnd). x.thread) is ∙ ap (λ (x : Device). unwrap_or x.shut_by 0) same ∙ ap (λ o. unwrap_or o 0) shut,
      ap (λ (x : DeviceEnd). x.callbacks) is ∙ ap (λ (x : Device). x.callbacks) same,
    )
