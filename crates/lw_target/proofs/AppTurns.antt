-- A run stays in order where the app runs a message and where it goes on.
use Rattle.std.proofs.Common.{ℕ, zero, suc, ◌≡◌, ◌+◌, ◌<◌, ◌≤◌, Bool, true, false, cond, List, [], ◌∷◌, ◌++◌, map, length, Option, Some, None, arith, refl, sym, ◌∙◌, ap, subst, append_assoc, inl, inr, length-append}
use Rattle.std.specs.Prelude.{◌==◌, ◌||◌, ◌⊎◌, vec_len, count_by, is_some, slice_get, min, zip, filter_map}
use Rattle.std.specs.List.{All, list_all, range_with_len}
use Rattle.std.proofs.lemmas.Bool.{and_parts, cases_lt}
use Rattle.std.proofs.lemmas.List.{map-append, append-nil, length-map}
use Rattle.std.proofs.lemmas.List.Elements.{All-same, All-append, All-cons, All-nil}
use Rattle.lw_base.specs.declared.message.What.{What}
use Rattle.lw_base.specs.declared.message.What.TheVariants as what
use Rattle.lw_base.specs.declared.message.Tag.{Tag}
use Rattle.lw_model.specs.declared.script.Script.{Script}
use Rattle.lw_model.specs.declared.record.Did.{Did}
use Rattle.lw_model.specs.declared.record.Called.{Called}
use Rattle.lw_model.specs.declared.record.Answer.TheVariants.{Began}
use Rattle.lw_model.specs.Threads.{is_on}
use Rattle.lw_model.specs.Holding.{is_putself, ordinal_given}
use Rattle.lw_model.specs.Lawful.{reply_op}
use Rattle.lw_model.specs.Sent.{to_thread}
use Rattle.lw_image.specs.Image.{Contents, IsAfter}
use Rattle.lw_target.specs.declared.mail.Mail.{Mail}
use Rattle.lw_target.specs.declared.mail.Load.TheVariants as load
use Rattle.lw_target.specs.declared.app.App.{App}
use Rattle.lw_target.specs.declared.client.Client.{Client}
use Rattle.lw_target.specs.declared.channel.Channel.{Channel}
use Rattle.lw_target.specs.declared.device.Device.{Device}
use Rattle.lw_target.specs.declared.acts.Outgoing.{Outgoing}
use Rattle.lw_target.specs.Messages.{Inbox, Asked}
use Rattle.lw_target.specs.App.{IsDue, IsUnused, Ends, unregistered, called_back}
use Rattle.lw_target.specs.ClientLog.{Follows, sent_so_far, was_refused, steps_so_far}
use Rattle.lw_target.specs.ClientCalls.{AllAgree, pending_of, reply_carried}
use Rattle.lw_target.specs.WholeRun.{requests_of, answers_of, reply_pairs}
use Rattle.lw_target.specs.Letters.{Letter, letters, told, said_by, posted, Got}
use Rattle.lw_target.specs.InOrder.{is_to_app, is_to_client, IsToOwner, is_reply_to, is_request_of, past_requests, AreAddressed, IsClientInOrder, IsTold, IsAnswered, IsFresh, IsOver}
use Rattle.lw_target.proofs.Mails.{list_all_push}
use Rattle.lw_target.proofs.Numbers.{count_cons, count_append}
use Rattle.lw_target.proofs.Letters.{letter_of}
use Rattle.lw_target.proofs.Told.{true_false, first_letter, told_got}
use Rattle.lw_target.proofs.AppEnding.{unregistered_is}
use Rattle.lw_target.proofs.OwnerRuns.{AreInOrder}

-- ---- the app runs a message

to_app_is : (l : Letter) → is_to_app l ≡ true → (l.what ≡ what.Done) × ((l.sender == 1) ≡ true)
to_app_is l e = at l.what e
  where
    at : (w : What) → is_to_app (record l { what = w }) ≡ true → (w ≡ what.Done) × ((l.sender == 1) ≡ true)
    at what.Done f = (refl, f)
    at (what.PutSelf d) f = absurd (true_false (sym f))
    at (what.Reply k) f = absurd (true_false (sym f))
    at (what.Request k) f = absurd (true_false (sym f))
    at (what.Visit a b d) f = absurd (true_false (sym f))
    at (what.Visited k) f = absurd (true_false (sym f))
    at (what.Cast a b) f = absurd (true_false (sym f))
    at (what.Casted k) f = absurd (true_false (sym f))
    at what.Stop f = absurd (true_false (sym f))
    at (what.Arrive a b) f = absurd (true_false (sym f))
    at (what.Order a b d) f = absurd (true_false (sym f))

-- of at most one message to the app the first that waits is the first
none_before : (xs : List What) (y : What) (ys : List What) (b : Bool) → xs ++ y ∷ ys ≡ cond b (what.Done ∷ []) [] → length xs ≡ 0
none_before xs y ys b e = at b (ap length e) (length-append xs (y ∷ ys))
  where
    at : (b : Bool) → length (xs ++ y ∷ ys) ≡ length (cond b (what.Done ∷ []) []) → length (xs ++ y ∷ ys) ≡ length xs + length (y ∷ ys) → length xs ≡ 0
    at true f g = omega (arith, f, g)
    at false f g = omega (arith, f, g)

module _ (s : Script) (c : Client) (old new : App) (image : Contents) (app app' client owner : Inbox) (devices : List Device) (m : Mail)
    (first : app.waiting ≡ m ∷ app'.waiting) (ran : app'.ran ≡ app.ran ++ m.tag ∷ [])
    (counted : m.tag.what ≡ what.Done → new ≡ record old { done = min (old.done + 1) 4294967295 }) (h : AreInOrder s c old image app client owner devices) where
  mine : letters app ≡ letter_of m ∷ letters app'
  mine = first_letter app app' m first

  both : (is_to_app (letter_of m) ≡ true) × (list_all is_to_app (letters app') ≡ true)
  both = and_parts (is_to_app (letter_of m)) (list_all is_to_app (letters app')) (sym (ap (list_all is_to_app) mine) ∙ h.addressed.app_waits)

  is : new ≡ record old { done = min (old.done + 1) 4294967295 }
  is = counted (to_app_is (letter_of m) both.0).0

  none : length app.ran ≡ 0
  none = sym (length-map app.ran (λ (x : Tag). x.what))
      ∙ none_before (map (λ (x : Tag). x.what) app.ran) m.tag.what (map (λ (l : Letter). l.what) (letters app')) c.done
      (sym (ap (λ q. map (λ (x : Tag). x.what) app.ran ++ map (λ (l : Letter). l.what) q) mine) ∙ h.apps.heard)

  pub app_ran : AreInOrder s c new image app' client owner devices
  app_ran =
      let one_more : length app'.ran ≡ length app.ran + 1 = ap length ran ∙ length-append app.ran (m.tag ∷ []) in
      record {
        addressed = record {
          app_ran = ap (list_all (λ (x : Tag). x.sender == 1)) ran ∙ list_all_push (λ (x : Tag). x.sender == 1) app.ran m.tag h.addressed.app_ran (to_app_is (letter_of m) both.0).1;
          app_waits = both.1;
          client_ran = h.addressed.client_ran;
          client_waits = h.addressed.client_waits;
          owner_ran = h.addressed.owner_ran;
          owner_waits = h.addressed.owner_waits;
        };
        clients = h.clients;
        sent = h.sent;
        answered = h.answered;
        apps = record {
          clients = ap (λ a. a.clients) is ∙ h.apps.clients;
          device = (h.apps.device.0, h.apps.device.1, state h.apps.device.2);
          counted = ap (λ a. a.done) is ∙ omega (arith, none, h.apps.counted, one_more);
          heard = ap (λ q. map (λ (x : Tag). x.what) q ++ map (λ (l : Letter). l.what) (letters app')) ran
              ∙ ap (λ q. q ++ map (λ (l : Letter). l.what) (letters app')) (map-append (λ (x : Tag). x.what) app.ran (m.tag ∷ []))
              ∙ append_assoc (map (λ (x : Tag). x.what) app.ran) (m.tag.what ∷ []) (map (λ (l : Letter). l.what) (letters app'))
              ∙ sym (ap (λ q. map (λ (x : Tag). x.what) app.ran ++ map (λ (l : Letter). l.what) q) mine) ∙ h.apps.heard;
          stops = h.apps.stops ∙ sym (ap (λ a. cond a.ended (what.Stop ∷ []) []) is);
        };
      }
    where
      state : (IsFresh old h.apps.device.0 ⊎ IsOver old c.done h.apps.device.0) → (IsFresh new h.apps.device.0 ⊎ IsOver new c.done h.apps.device.0)
      state (inl f) = inl (record {
        began = ap (λ a. a.began) is ∙ f.began;
        ended = ap (λ a. a.ended) is ∙ f.ended;
        owed = ap (λ a. a.owed.items) is ∙ f.owed;
        did = ap (λ a. a.did) is ∙ f.did;
        called = ap (λ a. a.called) is ∙ f.called;
        usable = f.usable;
        callbacks = f.callbacks;
      })
      state (inr o) = inr (record {
        client = o.client;
        began = ap (λ a. a.began) is ∙ o.began;
        ended = ap (λ a. a.ended) is ∙ o.ended;
        did = ap (λ a. a.did) is ∙ o.did;
        called = ap (λ a. a.called) is ∙ o.called;
        shut = o.shut;
        callbacks = o.callbacks;
      })

-- ---- the app goes on

-- what the app's sends leave: nothing but stops, to the owner
module _ (s : Script) (c : Client) (image : Contents) (app app' client client' owner owner' : Inbox) (devices : List Device) (more : List Letter)
    (to_app : Got app app' []) (to_client : Got client client' []) (to_owner : Got owner owner' more) where
  app_same : letters app' ≡ letters app
  app_same = to_app.waiting ∙ append-nil (letters app)

  client_same : letters client' ≡ letters client
  client_same = to_client.waiting ∙ append-nil (letters client)

  pub posted_addressed : AreAddressed s app client owner → All (IsToOwner s) more → AreAddressed s app' client' owner'
  posted_addressed a fit = record {
    app_ran = ap (list_all (λ (x : Tag). x.sender == 1)) to_app.ran ∙ a.app_ran;
    app_waits = ap (list_all is_to_app) app_same ∙ a.app_waits;
    client_ran = ap (list_all (λ (x : Tag). x.sender == 1 || x.sender == 2)) to_client.ran ∙ a.client_ran;
    client_waits = ap (list_all is_to_client) client_same ∙ a.client_waits;
    owner_ran = ap (list_all (λ (x : Tag). x.sender == 0 || x.sender == 1)) to_owner.ran ∙ a.owner_ran;
    owner_waits = All-same (IsToOwner s) (letters owner') (letters owner ++ more) to_owner.waiting (All-append (IsToOwner s) (letters owner) more a.owner_waits fit);
  }

  pub posted_client : IsClientInOrder s c client devices → IsClientInOrder s c client' devices
  posted_client k = record {
    follows = subst (λ q. Follows s c q) (sym to_client.ran) k.follows;
    agree = subst (λ q. AllAgree s c q devices) (sym to_client.ran) k.agree;
    refused = ap (was_refused c) to_client.ran ∙ k.refused;
    pending = subst (λ q. pending_of c 0 ≤ count_by (λ (l : Letter). is_putself 0 l.what) q) (sym client_same) k.pending;
  }

  pub posted_told : IsTold s c client owner → said_by 1 more ≡ [] → IsTold s c client' owner'
  posted_told t none =
      let same : sent_so_far s c client'.ran ≡ sent_so_far s c client.ran = ap (sent_so_far s c) to_client.ran in
      record {
        to_itself = told_got 1 client client' [] to_client ∙ append-nil (told client 1) ∙ t.to_itself ∙ sym (ap (to_thread 1) same);
        to_owner = told_got 1 owner owner' more to_owner ∙ ap (λ q. told owner 1 ++ q) none ∙ append-nil (told owner 1) ∙ t.to_owner ∙ sym (ap (to_thread 2) same);
      }

  pub posted_answered : IsAnswered s c client owner image → IsAnswered s c client' owner' image
  posted_answered h = record {
    replies = told_got 2 client client' [] to_client ∙ append-nil (told client 2) ∙ h.replies ∙ sym (ap (λ q. map (λ j. what.Reply j) (requests_of q)) to_owner.ran);
    answers = ap (λ q. reply_pairs (c.replies ++ filter_map (λ (l : Letter). reply_carried l.what l.load) q)) client_same ∙ h.answers
        ∙ sym (ap (λ q. zip (requests_of q) (answers_of s q)) to_owner.ran);
    listed = h.listed ∙ sym (ap (filter_map reply_op) to_client.ran);
    after = subst (λ q. IsAfter image q) (sym (ap (past_requests s) to_owner.ran)) h.after;
    block = h.block;
    under_way = λ j.
        let replies = ap (count_by (λ (l : Letter). is_reply_to j l.what)) client_same in
        let requests = ap (count_by (λ (l : Letter). is_request_of j l.what)) to_owner.waiting ∙ count_append (λ (l : Letter). is_request_of j l.what) (letters owner) more in
        omega (arith, h.under_way j, replies, requests);
  }

  heard_same : map (λ (x : Tag). x.what) app'.ran ++ map (λ (l : Letter). l.what) (letters app') ≡ map (λ (x : Tag). x.what) app.ran ++ map (λ (l : Letter). l.what) (letters app)
  heard_same = ap (λ q. map (λ (x : Tag). x.what) q ++ map (λ (l : Letter). l.what) (letters app')) to_app.ran ∙ ap (λ q. map (λ (x : Tag). x.what) app.ran ++ map (λ (l : Letter). l.what) q) app_same

-- where the app did nothing
pub app_still : (s : Script) (c : Client) (a : App) (image : Contents) (app app' client client' owner owner' : Inbox) (devices : List Device)
    → Got app app' [] → Got client client' [] → Got owner owner' [] → AreInOrder s c a image app client owner devices → AreInOrder s c a image app' client' owner' devices
app_still s c a image app app' client client' owner owner' devices to_app to_client to_owner h = record {
  addressed = posted_addressed s c image app app' client client' owner owner' devices [] to_app to_client to_owner h.addressed (All-nil (IsToOwner s));
  clients = posted_client s c image app app' client client' owner owner' devices [] to_app to_client to_owner h.clients;
  sent = posted_told s c image app app' client client' owner owner' devices [] to_app to_client to_owner h.sent refl;
  answered = posted_answered s c image app app' client client' owner owner' devices [] to_app to_client to_owner h.answered;
  apps = record {
    clients = h.apps.clients;
    device = h.apps.device;
    counted = h.apps.counted ∙ sym (ap length to_app.ran);
    heard = heard_same s c image app app' client client' owner owner' devices [] to_app to_client to_owner ∙ h.apps.heard;
    stops = told_got 0 owner owner' [] to_owner ∙ append-nil (told owner 0) ∙ h.apps.stops;
  };
}

-- a client that has told the app holds no channel of the one device
one_channel : (ks : List Channel) → length ks ≡ 1 → count_by (λ (k : Channel). is_some k.ordinal) ks ≡ 0 → (k : Channel) × (slice_get ks 0 ≡ Some k) × (is_some k.ordinal ≡ false)
one_channel [] e f = absurd (omega (arith, e))
one_channel (k ∷ ks) e f = (k, refl, at (is_some k.ordinal) (sym (count_cons (λ (x : Channel). is_some x.ordinal) k ks) ∙ f))
  where
    at : (b : Bool) → cond b 1 0 + count_by (λ (x : Channel). is_some x.ordinal) ks ≡ 0 → b ≡ false
    at false g = refl
    at true g = absurd (omega (arith, g))

pub none_stands : (s : Script) (c : Client) (ran : List Tag) (v : Device) → Follows s c ran → AllAgree s c ran (v ∷ []) → vec_len c.channels ≡ 1 → c.done ≡ true → v.standing ≡ 0
none_stands s c ran v f agree long done =
    let k = one_channel c.channels.items (sym c.channels.ok.0 ∙ long) (sym f.standing ∙ (f.done done).1) in
    (agree 0 k.0 v k.1 refl).standing ∙ ap {B = ℕ} (λ b. cond b 1 0) k.2

-- a device with the same channels agrees as it did
agree_like : (s : Script) (c : Client) (ran : List Tag) (v w : Device) → w.standing ≡ v.standing → w.given ≡ v.given → AllAgree s c ran (v ∷ []) → AllAgree s c ran (w ∷ [])
agree_like s c ran v w standing given agree zero k x has here =
    let same : w ≡ x = cc in
    let old = agree 0 k v has refl in
    record {
      standing = sym (ap (λ (d : Device). d.standing) same) ∙ standing ∙ old.standing;
      given = subst (λ n. filter_map (ordinal_given (is_on s c.thread 0)) (steps_so_far c ran) ≡ range_with_len 0 n) (sym given ∙ ap (λ (d : Device). d.given) same) old.given;
    }
agree_like s c ran v w standing given agree (suc d) k x has here = let wrong : ◌≡◌ {A = Option Device} None (Some x) = here in cc

-- where one message was heard, it was the client's last
one_heard : (ms : List Tag) (ls : List Letter) (b : Bool) → 1 ≤ length ms → map (λ (x : Tag). x.what) ms ++ map (λ (l : Letter). l.what) ls ≡ cond b (what.Done ∷ []) [] → (b ≡ true) × (length ms ≡ 1)
one_heard [] ls b some e = absurd (omega (arith, some))
one_heard (m ∷ []) ls true some e = (refl, refl)
one_heard (m ∷ n ∷ ms) ls true some e = absurd (omega (arith, ap length e))
one_heard (m ∷ ms) ls false some e = absurd (omega (arith, ap length e))

module _ (s : Script) (c : Client) (old new : App) (image : Contents) (before after : Asked) (app app' client client' owner owner' : Inbox) (devices devices' : List Device)
    (none : before.sends ≡ []) (at : before.ran ≡ length app.ran) (long : vec_len c.channels ≡ length devices)
    (to_app : Got app app' (posted 0 0 after.sends)) (to_client : Got client client' (posted 1 0 after.sends)) (to_owner : Got owner owner' (posted 2 0 after.sends))
    (h : AreInOrder s c old image app client owner devices) where
  pub app_same_order : (new ≡ old) × (after ≡ before) × (devices' ≡ devices) → AreInOrder s c new image app' client' owner' devices'
  app_same_order (app_is, acts_is, devices_are) =
      let sends : after.sends ≡ [] = ap (λ a. a.sends) acts_is ∙ none in
      subst (λ a. AreInOrder s c a image app' client' owner' devices') (sym app_is)
      (subst (λ ds. AreInOrder s c old image app' client' owner' ds) (sym devices_are)
      (app_still s c old image app app' client client' owner owner' devices
      (subst (Got app app') (ap (posted 0 0) sends) to_app) (subst (Got client client') (ap (posted 1 0) sends) to_client) (subst (Got owner owner') (ap (posted 2 0) sends) to_owner) h))

  -- the app is due: it ends
  pub app_ends_order : IsFresh old h.apps.device.0 → 1 ≤ old.done → Ends old new before after h.apps.device.0 devices' → AreInOrder s c new image app' client' owner' devices'
  app_ends_order f due e =
      let v = h.apps.device.0 in
      let w = called_back (unregistered v) in
      let is : w ≡ called_back (record v { shut_by = Some 0 }) = ap called_back (unregistered_is v f.usable) in
      let stop : Outgoing = record { to = 2; what = what.Stop; load = load.Nothing } in
      let letter : Letter = record { sender = 0; what = what.Stop; load = load.Nothing } in
      let sends : after.sends ≡ stop ∷ [] = e.sends ∙ ap (λ q. q ++ record { to = 1 + old.clients; what = what.Stop; load = load.Nothing } ∷ []) none
      ∙ ap (λ n. (let o : Outgoing = record { to = 1 + n; what = what.Stop; load = load.Nothing } in o) ∷ []) h.apps.clients in
      let ga : Got app app' [] = subst (Got app app') (ap (posted 0 0) sends) to_app in
      let gc : Got client client' [] = subst (Got client client') (ap (posted 1 0) sends) to_client in
      let go : Got owner owner' (letter ∷ []) = subst (Got owner owner') (ap (posted 2 0) sends) to_owner in
      let heard = one_heard app.ran (letters app) c.done (omega (arith, due, h.apps.counted)) h.apps.heard in
      let ran : before.ran ≡ 1 = at ∙ heard.1 in
      let agree : AllAgree s c client.ran (w ∷ []) = agree_like s c client.ran v w (ap (λ (d : Device). d.standing) is) (ap (λ (d : Device). d.given) is)
      (subst (λ ds. AllAgree s c client.ran ds) h.apps.device.1 h.clients.agree) in
      let clients : IsClientInOrder s c client devices' = record {
        follows = h.clients.follows;
        agree = subst (λ ds. AllAgree s c client.ran ds) (sym e.device) agree;
        refused = h.clients.refused;
        pending = h.clients.pending;
      } in
      record {
        addressed = posted_addressed s c image app app' client client' owner owner' devices' (letter ∷ []) ga gc go h.addressed (All-cons (IsToOwner s) letter [] refl (All-nil (IsToOwner s)));
        clients = posted_client s c image app app' client client' owner owner' devices' (letter ∷ []) ga gc go clients;
        sent = posted_told s c image app app' client client' owner owner' devices' (letter ∷ []) ga gc go h.sent refl;
        answered = posted_answered s c image app app' client client' owner owner' devices' (letter ∷ []) ga gc go h.answered;
        apps = record {
          clients = e.clients ∙ h.apps.clients;
          device = (
            w,
            e.device,
            inr (record {
              client = heard.0;
              began = e.began;
              ended = e.ended;
              did = e.did ∙ ap (λ q. q ++ record { at = before.ran; op = 0; answer = Began v.given } ∷ []) f.did
                  ∙ ap (λ n. (let l : Did = record { at = n; op = 0; answer = Began v.given } in l) ∷ []) ran
                  ∙ ap (λ n. (let l : Did = record { at = 1; op = 0; answer = Began n } in l) ∷ []) (sym (ap (λ (d : Device). d.given) is));
              called = e.called ∙ ap (λ q. q ++ record { at = before.ran; device = 0 } ∷ []) f.called ∙ ap (λ n. (let l : Called = record { at = n; device = 0 } in l) ∷ []) ran;
              shut = ap (λ (d : Device). d.shut_by) is;
              callbacks = ap (λ (d : Device). d.callbacks) is ∙ ap (λ n. min (n + 1) 4294967295) f.callbacks;
            }),
          );
          counted = e.done ∙ h.apps.counted ∙ sym (ap length ga.ran);
          heard = heard_same s c image app app' client client' owner owner' devices' (letter ∷ []) ga gc go ∙ h.apps.heard;
          stops = told_got 0 owner owner' (letter ∷ []) go ∙ ap (λ q. q ++ what.Stop ∷ []) (h.apps.stops ∙ ap (λ b. cond b (what.Stop ∷ []) []) f.ended)
              ∙ sym (ap (λ b. cond b (what.Stop ∷ []) []) e.ended);
        };
      }

-- whatever the app does in its turn
module _ (s : Script) (c : Client) (old new : App) (image : Contents) (before after : Asked) (app app' client client' owner owner' : Inbox) (devices devices' : List Device) (worked : Bool)
    (none : before.sends ≡ []) (at : before.ran ≡ length app.ran) (long : length devices ≡ vec_len c.channels)
    (early : old.done < old.clients → (new ≡ old) × (after ≡ before) × (devices' ≡ devices))
    (ended : old.ended ≡ true → (new ≡ old) × (after ≡ before) × (devices' ≡ devices))
    (over : IsDue old → (v : Device) → devices ≡ v ∷ [] → IsUnused v → (worked ≡ true) × Ends old new before after v devices')
    (h : AreInOrder s c old image app client owner devices) where
  due_ends : IsFresh old h.apps.device.0 → 1 ≤ old.done → (worked ≡ true) × Ends old new before after h.apps.device.0 devices'
  due_ends f due =
      let v = h.apps.device.0 in
      let heard = one_heard app.ran (letters app) c.done (omega (arith, due, h.apps.counted)) h.apps.heard in
      let stands = none_stands s c client.ran v h.clients.follows (subst (λ ds. AllAgree s c client.ran ds) h.apps.device.1 h.clients.agree) (omega (arith, long, ap length h.apps.device.1)) heard.0 in
      over (record { clients = omega (arith, due, h.apps.clients); began = f.began; ended = f.ended }) v h.apps.device.1 (record { usable = f.usable; standing = stands })

  pub app_turn_order : Got app app' (posted 0 0 after.sends) → Got client client' (posted 1 0 after.sends) → Got owner owner' (posted 2 0 after.sends)
      → AreInOrder s c new image app' client' owner' devices'
  app_turn_order to_app to_client to_owner = state h.apps.device.2
    where
      state : (IsFresh old h.apps.device.0 ⊎ IsOver old c.done h.apps.device.0) → AreInOrder s c new image app' client' owner' devices'
      state (inl f) = elim (cases_lt old.done 1) [
        | inl less ↦ app_same_order s c old new image before after app app' client client' owner owner' devices devices' none at (sym long) to_app to_client to_owner h
            (early (omega (arith, less, h.apps.clients)))
        | inr due ↦ app_ends_order s c old new image before after app app' client client' owner owner' devices devices' none at (sym long) to_app to_client to_owner h f due (due_ends f due).1
      ]
      state (inr o) = app_same_order s c old new image before after app app' client client' owner owner' devices devices' none at (sym long) to_app to_client to_owner h (ended o.ended)

  pub app_turn_rests : worked ≡ false → ((new ≡ old) × (after ≡ before) × (devices' ≡ devices)) × ((old.began ≡ true) ⊎ (old.done < old.clients))
  app_turn_rests idle = state h.apps.device.2
    where
      state : (IsFresh old h.apps.device.0 ⊎ IsOver old c.done h.apps.device.0) → ((new ≡ old) × (after ≡ before) × (devices' ≡ devices)) × ((old.began ≡ true) ⊎ (old.done < old.clients))
      state (inl f) = elim (cases_lt old.done 1) [
        | inl less ↦ let below : old.done < old.clients = omega (arith, less, h.apps.clients) in (early below, inr below)
        | inr due ↦ absurd (true_false (sym (due_ends f due).0 ∙ idle))
      ]
      state (inr o) = (ended o.ended, inl o.began)
