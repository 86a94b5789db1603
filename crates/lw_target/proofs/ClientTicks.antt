-- A run stays in order where the client goes on.
use Rattle.std.proofs.Common.{ℕ, ◌≡◌, ◌+◌, true, false, cond, List, [], ◌∷◌, ◌++◌, map, length, Option, arith, refl, sym, ◌∙◌, ap, subst, append_assoc, inl, inr}
use Rattle.std.specs.Prelude.{◌==◌, ◌||◌, ◌⊎◌, filter_map, count_by, is_none, zip}
use Rattle.std.specs.List.{list_all}
use Rattle.std.proofs.lemmas.Bool.{and_parts, and_from}
use Rattle.std.proofs.lemmas.List.{map-append, append-nil}
use Rattle.std.proofs.lemmas.List.Elements.{filter_map-append, All-same, All-append}
use Rattle.std.proofs.lemmas.List.Folds.{list_all-append}
use Rattle.lw_base.specs.declared.message.What.TheVariants as what
use Rattle.lw_base.specs.declared.message.Tag.{Tag}
use Rattle.lw_model.specs.declared.script.Script.{Script}
use Rattle.lw_model.specs.declared.record.Reply.{Reply}
use Rattle.lw_model.specs.Threads.{ops_of}
use Rattle.lw_model.specs.Holding.{is_putself}
use Rattle.lw_model.specs.Lawful.{reply_op}
use Rattle.lw_model.specs.Sent.{to_thread}
use Rattle.lw_model.proofs.SentLists.{to_thread-append}
use Rattle.lw_image.specs.Image.{Contents, IsAfter}
use Rattle.lw_target.specs.declared.app.App.{App}
use Rattle.lw_target.specs.declared.client.Client.{Client}
use Rattle.lw_target.specs.declared.device.Device.{Device}
use Rattle.lw_target.specs.declared.acts.Outgoing.{Outgoing}
use Rattle.lw_target.specs.Messages.{Inbox, Asked}
use Rattle.lw_target.specs.Ops.{AllOfOps}
use Rattle.lw_target.specs.ClientLog.{Follows, sent_so_far, was_refused}
use Rattle.lw_target.specs.ClientCalls.{WentOn, AllAgree, ends_of, all_usable, receivers, requested, reply_carried, pending_of, putselfs_to}
use Rattle.lw_target.specs.WholeRun.{reply_pairs, requests_of, answers_of}
use Rattle.lw_target.specs.Letters.{Letter, letters, told, said_by, posted, Got}
use Rattle.lw_target.specs.InOrder.{IsOfOne, is_to_client, is_to_app, IsToOwner, is_reply_to, is_request_of, past_requests, AreAddressed, IsClientInOrder, IsTold, IsAnswered, IsAppInOrder, IsFresh, IsOver}
use Rattle.lw_target.proofs.Numbers.{count_append}
use Rattle.lw_target.proofs.Told.{is_routed, told_got, said_of_own, said_of_others}
use Rattle.lw_target.proofs.Sends.{thread_is, so_far_routed, so_far_to_app, app_fits, client_fits, none_carried, owner_fits_all, posted_whats, puts_counted, requests_counted}
use Rattle.lw_target.proofs.OwnerRuns.{AreInOrder}

-- one device of which the standing channels and the given may have changed
pub record IsNear (v : Device) (vs : List Device) : Type 0 where
  pub device : Device
  pub is : vs ≡ device ∷ []
  pub shut : device.shut_by ≡ v.shut_by
  pub callbacks : device.callbacks ≡ v.callbacks

pub one_near : (v : Device) (old new : List Device) → old ≡ v ∷ [] → ends_of new ≡ ends_of old → IsNear v new
one_near v old new is ends = at new (ends ∙ ap ends_of is)
  where
    at : (ws : List Device) → ends_of ws ≡ ends_of (v ∷ []) → IsNear v ws
    at [] e = absurd (omega (arith, ap length e))
    at (w ∷ []) e = record {
      device = w;
      is = refl;
      shut = ap (λ q. q.0) (head (w.shut_by, w.callbacks) (v.shut_by, v.callbacks) e);
      callbacks = ap (λ q. q.1) (head (w.shut_by, w.callbacks) (v.shut_by, v.callbacks) e);
    }
      where
        head : (x y : Option ℕ × ℕ) → x ∷ [] ≡ y ∷ [] → x ≡ y
        head x y g = cc
    at (w ∷ x ∷ ws) e = absurd (omega (arith, ap length e))

module _ (s : Script) (old new : Client) (a : App) (image : Contents) (before after : Asked) (devices devices' : List Device)
    (app app' client client' owner owner' : Inbox) (w : WentOn old new before after devices devices') (none : before.sends ≡ [])
    (at : before.ran ≡ length client.ran) (to_app : Got app app' (posted 0 1 after.sends)) (to_client : Got client client' (posted 1 1 after.sends))
    (to_owner : Got owner owner' (posted 2 1 after.sends)) (all : AllOfOps old.of.ops after.sends)
    (quiet : old.done ≡ true → (new ≡ old) × (devices' ≡ devices)) (one : IsOfOne s) (h : AreInOrder s old a image app client owner devices) where
  follows : Follows s new client.ran
  follows = w.follows s client.ran h.clients.follows at

  was_thread : old.thread ≡ 1
  was_thread = thread_is s old.thread one h.clients.follows.of.client

  is_thread : new.thread ≡ 1
  is_thread = thread_is s new.thread one follows.of.client

  sent : sent_so_far s new client.ran ≡ sent_so_far s old client.ran ++ receivers after.sends
  sent = w.sends s client.ran (sent_so_far s old client.ran) h.clients.follows at (sym (ap (λ q. sent_so_far s old client.ran ++ receivers q) none ∙ append-nil (sent_so_far s old client.ran)))

  routed : list_all is_routed (receivers after.sends) ≡ true
  routed = (and_parts (list_all is_routed (sent_so_far s old client.ran)) (list_all is_routed (receivers after.sends))
      (sym (list_all-append is_routed (sent_so_far s old client.ran) (receivers after.sends)) ∙ sym (ap (list_all is_routed) sent) ∙ so_far_routed s new client.ran one is_thread)).1

  sent_all : (n : ℕ) → to_thread n (sent_so_far s new client'.ran) ≡ to_thread n (sent_so_far s old client.ran) ++ to_thread n (receivers after.sends)
  sent_all n = ap (λ q. to_thread n (sent_so_far s new q)) to_client.ran ∙ ap (to_thread n) sent ∙ to_thread-append n (sent_so_far s old client.ran) (receivers after.sends)

  ops : ops_of s 1 ≡ old.of.ops
  ops = subst (λ n. ops_of s n ≡ old.of.ops) was_thread h.clients.follows.of.ops

  tick_addressed : AreAddressed s app' client' owner'
  tick_addressed = record {
    app_ran = ap (list_all (λ (x : Tag). x.sender == 1)) to_app.ran ∙ h.addressed.app_ran;
    app_waits = ap (list_all is_to_app) to_app.waiting ∙ list_all-append is_to_app (letters app) (posted 0 1 after.sends) ∙ and_from _ _ h.addressed.app_waits (app_fits after.sends routed);
    client_ran = ap (list_all (λ (x : Tag). x.sender == 1 || x.sender == 2)) to_client.ran ∙ h.addressed.client_ran;
    client_waits = ap (list_all is_to_client) to_client.waiting ∙ list_all-append is_to_client (letters client) (posted 1 1 after.sends) ∙ and_from _ _ h.addressed.client_waits (client_fits after.sends routed);
    owner_ran = ap (list_all (λ (x : Tag). x.sender == 0 || x.sender == 1)) to_owner.ran ∙ h.addressed.owner_ran;
    owner_waits = All-same (IsToOwner s) (letters owner') (letters owner ++ posted 2 1 after.sends) to_owner.waiting
        (All-append (IsToOwner s) (letters owner) (posted 2 1 after.sends) h.addressed.owner_waits (owner_fits_all s old.of.ops after.sends ops routed all));
  }

  tick_refused : was_refused new client.ran ≡ false
  tick_refused = state h.apps.device.2
    where
      state : (IsFresh a h.apps.device.0 ⊎ IsOver a old.done h.apps.device.0) → was_refused new client.ran ≡ false
      state (inl f) = w.usable s client.ran h.clients.follows at
          (ap all_usable h.apps.device.1 ∙ and_from (is_none h.apps.device.0.shut_by) true (ap is_none f.usable) refl) h.clients.refused
      state (inr o) = ap (λ c. was_refused c client.ran) (quiet o.client).0 ∙ h.clients.refused

  tick_client_part : IsClientInOrder s new client' devices'
  tick_client_part =
      let waits = ap (count_by (λ (l : Letter). is_putself 0 l.what)) to_client.waiting ∙ count_append (λ (l : Letter). is_putself 0 l.what) (letters client) (posted 1 1 after.sends) in
      let more : pending_of new 0 ≡ pending_of old 0 + putselfs_to 0 after.sends = w.pending 0 (pending_of old 0) (sym (ap (λ q. pending_of old 0 + putselfs_to 0 q) none ∙ omega arith)) in
      record {
        follows = subst (λ q. Follows s new q) (sym to_client.ran) follows;
        agree = subst (λ q. AllAgree s new q devices') (sym to_client.ran) (w.agree s client.ran h.clients.follows at h.clients.agree);
        refused = ap (was_refused new) to_client.ran ∙ tick_refused;
        pending = omega (arith, h.clients.pending, more, waits, puts_counted after.sends routed);
      }

  tick_told : IsTold s new client' owner'
  tick_told = record {
    to_itself = told_got 1 client client' (posted 1 1 after.sends) to_client ∙ ap (λ q. q ++ said_by 1 (posted 1 1 after.sends)) h.sent.to_itself
        ∙ ap (λ q. to_thread 1 (sent_so_far s old client.ran) ++ q) (said_of_own 1 1 after.sends routed) ∙ sym (sent_all 1);
    to_owner = told_got 1 owner owner' (posted 2 1 after.sends) to_owner ∙ ap (λ q. q ++ said_by 1 (posted 2 1 after.sends)) h.sent.to_owner
        ∙ ap (λ q. to_thread 2 (sent_so_far s old client.ran) ++ q) (said_of_own 2 1 after.sends routed) ∙ sym (sent_all 2);
  }

  unanswered : new.unanswered.items ≡ old.unanswered.items ++ filter_map (λ (o : Outgoing). requested o.what) after.sends
  unanswered = w.unanswered old.unanswered.items (sym (ap (λ q. old.unanswered.items ++ filter_map (λ (o : Outgoing). requested o.what) q) none ∙ append-nil old.unanswered.items))

  tick_answered : IsAnswered s new client' owner' image
  tick_answered =
      let find = λ (l : Letter). reply_carried l.what l.load in
      let same : filter_map find (letters client') ≡ filter_map find (letters client) =
      ap (filter_map find) to_client.waiting ∙ filter_map-append find (letters client) (posted 1 1 after.sends) ∙ ap (λ q. filter_map find (letters client) ++ q) (none_carried after.sends routed) ∙ append-nil (filter_map find (letters client)) in
      record {
        replies = told_got 2 client client' (posted 1 1 after.sends) to_client ∙ ap (λ q. told client 2 ++ q) (said_of_others 2 1 1 after.sends refl) ∙ append-nil (told client 2)
            ∙ h.answered.replies ∙ sym (ap (λ q. map (λ j. what.Reply j) (requests_of q)) to_owner.ran);
        answers = ap (λ q. reply_pairs (q ++ filter_map find (letters client'))) w.replies ∙ ap (λ q. reply_pairs (old.replies ++ q)) same ∙ h.answered.answers
            ∙ sym (ap (λ q. zip (requests_of q) (answers_of s q)) to_owner.ran);
        listed = ap (map (λ (x : Reply). x.op)) w.replies ∙ h.answered.listed ∙ sym (ap (filter_map reply_op) to_client.ran);
        after = subst (λ q. IsAfter image q) (sym (ap (past_requests s) to_owner.ran)) h.answered.after;
        block = h.answered.block;
        under_way = λ j.
            let ops = ap (count_by (λ (i : ℕ). i == j)) unanswered ∙ count_append (λ (i : ℕ). i == j) old.unanswered.items (filter_map (λ (o : Outgoing). requested o.what) after.sends) in
            let replies = ap (count_by (λ (l : Letter). is_reply_to j l.what)) to_client.waiting ∙ count_append (λ (l : Letter). is_reply_to j l.what) (letters client) (posted 1 1 after.sends) in
            let requests = ap (count_by (λ (l : Letter). is_request_of j l.what)) to_owner.waiting ∙ count_append (λ (l : Letter). is_request_of j l.what) (letters owner) (posted 2 1 after.sends) in
            omega (arith, h.answered.under_way j, ops, replies, requests, requests_counted j after.sends routed);
      }

  tick_app_part : IsAppInOrder a new.done app' owner' devices'
  tick_app_part =
      let now = state h.apps.device.2 in
      let both : cond new.done (what.Done ∷ []) [] ≡ cond old.done (what.Done ∷ []) [] ++ to_thread 0 (receivers after.sends) =
      sym (so_far_to_app s new client'.ran one is_thread) ∙ sent_all 0 ∙ ap (λ q. q ++ to_thread 0 (receivers after.sends)) (so_far_to_app s old client.ran one was_thread) in
      record {
        clients = h.apps.clients;
        device = now;
        counted = h.apps.counted ∙ sym (ap length to_app.ran);
        heard = ap (λ q. map (λ (x : Tag). x.what) q ++ map (λ (l : Letter). l.what) (letters app')) to_app.ran
            ∙ ap (λ q. map (λ (x : Tag). x.what) app.ran ++ map (λ (l : Letter). l.what) q) to_app.waiting
            ∙ ap (λ q. map (λ (x : Tag). x.what) app.ran ++ q) (map-append (λ (l : Letter). l.what) (letters app) (posted 0 1 after.sends))
            ∙ sym (append_assoc (map (λ (x : Tag). x.what) app.ran) (map (λ (l : Letter). l.what) (letters app)) (map (λ (l : Letter). l.what) (posted 0 1 after.sends)))
            ∙ ap (λ q. q ++ map (λ (l : Letter). l.what) (posted 0 1 after.sends)) h.apps.heard
            ∙ ap (λ q. cond old.done (what.Done ∷ []) [] ++ q) (posted_whats 0 after.sends routed ∙ said_of_own 0 1 after.sends routed)
            ∙ sym both;
        stops = told_got 0 owner owner' (posted 2 1 after.sends) to_owner ∙ ap (λ q. told owner 0 ++ q) (said_of_others 0 2 1 after.sends refl) ∙ append-nil (told owner 0) ∙ h.apps.stops;
      }
    where
      state : (IsFresh a h.apps.device.0 ⊎ IsOver a old.done h.apps.device.0) → (v : Device) × (devices' ≡ v ∷ []) × (IsFresh a v ⊎ IsOver a new.done v)
      state (inl f) =
          let near = one_near h.apps.device.0 devices devices' h.apps.device.1 w.ends in (
            near.device,
            near.is,
            inl (record {
              began = f.began;
              ended = f.ended;
              owed = f.owed;
              did = f.did;
              called = f.called;
              usable = near.shut ∙ f.usable;
              callbacks = near.callbacks ∙ f.callbacks;
            }),
          )
      state (inr o) = (
        h.apps.device.0,
        (quiet o.client).1 ∙ h.apps.device.1,
        inr (record {
          client = ap (λ c. c.done) (quiet o.client).0 ∙ o.client;
          began = o.began;
          ended = o.ended;
          did = o.did;
          called = o.called;
          shut = o.shut;
          callbacks = o.callbacks;
        }),
      )

  pub ticked : AreInOrder s new a image app' client' owner' devices'
  ticked = record {
    addressed = tick_addressed;
    clients = tick_client_part;
    sent = tick_told;
    answered = tick_answered;
    apps = tick_app_part;
  }
