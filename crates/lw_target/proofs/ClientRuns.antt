-- A run stays in order where the client runs a message.
use Rattle.std.proofs.Common.{ℕ, ◌≡◌, ◌+◌, ◌≤◌, Bool, true, false, cond, List, [], ◌∷◌, ◌++◌, map, length, Option, Some, None, arith, refl, sym, ◌∙◌, ap, subst, append_assoc, inl, inr}
use Rattle.std.specs.Prelude.{◌==◌, ◌||◌, ◌⊎◌, not, filter, filter_map, option_to_list, count_by}
use Rattle.std.specs.List.{list_all}
use Rattle.std.proofs.lemmas.Bool.{eq-eqb, eqb-true, and_parts}
use Rattle.std.proofs.lemmas.List.{map-append, append-nil}
use Rattle.std.proofs.lemmas.List.Elements.{filter_map-append}
use Rattle.lw_base.specs.declared.message.What.{What}
use Rattle.lw_base.specs.declared.message.What.TheVariants as what
use Rattle.lw_base.specs.declared.message.Tag.{Tag}
use Rattle.lw_model.specs.declared.script.Script.{Script}
use Rattle.lw_model.specs.declared.record.Reply.{Reply}
use Rattle.lw_model.specs.declared.record.Answer.TheVariants as answer
use Rattle.lw_model.specs.Holding.{is_putself}
use Rattle.lw_model.specs.Lawful.{reply_op}
use Rattle.lw_model.specs.Sent.{to_thread}
use Rattle.lw_image.specs.Image.{Contents}
use Rattle.lw_target.specs.declared.mail.Mail.{Mail}
use Rattle.lw_target.specs.declared.mail.Load.{Load}
use Rattle.lw_target.specs.declared.mail.Load.TheVariants as load
use Rattle.lw_target.specs.declared.app.App.{App}
use Rattle.lw_target.specs.declared.client.Client.{Client}
use Rattle.lw_target.specs.declared.device.Device.{Device}
use Rattle.lw_target.specs.Messages.{Inbox}
use Rattle.lw_target.specs.ClientLog.{Follows, sent_so_far, was_refused}
use Rattle.lw_target.specs.ClientCalls.{RanMessage, AllAgree, ends_of, still_unanswered, reply_carried}
use Rattle.lw_target.specs.WholeRun.{reply_pairs}
use Rattle.lw_target.specs.Letters.{Letter, letters}
use Rattle.lw_target.specs.InOrder.{is_to_client, is_replied, is_reply_to, is_request_of, AreAddressed, IsClientInOrder, IsTold, IsAnswered, IsAppInOrder, IsFresh, IsOver}
use Rattle.lw_target.proofs.Mails.{list_all_push}
use Rattle.lw_target.proofs.Numbers.{count_cons}
use Rattle.lw_target.proofs.Letters.{letter_of}
use Rattle.lw_target.proofs.Told.{true_false, first_letter, told_take}

-- ---- devices of which all but the standing channels stayed

pub record IsLike (v : Device) (vs : List Device) : Type 0 where
  pub device : Device
  pub is : vs ≡ device ∷ []
  pub shut : device.shut_by ≡ v.shut_by
  pub callbacks : device.callbacks ≡ v.callbacks
  pub given : device.given ≡ v.given

pub one_like : (v : Device) (old new : List Device) → old ≡ v ∷ [] → ends_of new ≡ ends_of old → map (λ (d : Device). d.given) new ≡ map (λ (d : Device). d.given) old → IsLike v new
one_like v old new is ends given = at new (ends ∙ ap ends_of is) (given ∙ ap (map (λ (d : Device). d.given)) is)
  where
    at : (ws : List Device) → ends_of ws ≡ ends_of (v ∷ []) → map (λ (d : Device). d.given) ws ≡ map (λ (d : Device). d.given) (v ∷ []) → IsLike v ws
    at [] e f = absurd (omega (arith, ap length f))
    at (w ∷ []) e f = record {
      device = w;
      is = refl;
      shut = ap (λ q. q.0) (head (w.shut_by, w.callbacks) (v.shut_by, v.callbacks) e);
      callbacks = ap (λ q. q.1) (head (w.shut_by, w.callbacks) (v.shut_by, v.callbacks) e);
      given = cc;
    }
      where
        head : (x y : Option ℕ × ℕ) → x ∷ [] ≡ y ∷ [] → x ≡ y
        head x y g = cc
    at (w ∷ x ∷ ws) e f = absurd (omega (arith, ap length f))

-- ---- the parts

to_client_sender : (l : Letter) → is_to_client l ≡ true → (l.sender == 1 || l.sender == 2) ≡ true
to_client_sender l e = at l.what e
  where
    at : (w : What) → is_to_client (record l { what = w }) ≡ true → (l.sender == 1 || l.sender == 2) ≡ true
    at (what.PutSelf d) f = rw (eqb-true l.sender 1 f) refl
    at (what.Reply k) f = rw (eqb-true l.sender 2 (and_parts (l.sender == 2) (is_replied l.load) f).0) refl
    at (what.Request k) f = absurd (true_false (sym f))
    at what.Done f = absurd (true_false (sym f))
    at (what.Visit a b d) f = absurd (true_false (sym f))
    at (what.Visited k) f = absurd (true_false (sym f))
    at (what.Cast a b) f = absurd (true_false (sym f))
    at (what.Casted k) f = absurd (true_false (sym f))
    at what.Stop f = absurd (true_false (sym f))
    at (what.Arrive a b) f = absurd (true_false (sym f))
    at (what.Order a b d) f = absurd (true_false (sym f))

-- the replies that a message lists are those that it is
listed_is : (w : What) (carried : Load) (n k : ℕ) → is_to_client (record { sender = n; what = w; load = carried }) ≡ true
    → map (λ (x : Reply). x.op) (option_to_list (reply_carried w carried)) ≡ option_to_list (reply_op (record { sender = n; number = k; what = w }))
listed_is (what.Reply j) (load.Replied a) n k e = refl
listed_is (what.Reply j) (load.Write x y z) n k e = absurd (true_false (sym (and_parts (n == 2) false e).1))
listed_is (what.Reply j) (load.Read x y) n k e = absurd (true_false (sym (and_parts (n == 2) false e).1))
listed_is (what.Reply j) load.Nothing n k e = absurd (true_false (sym (and_parts (n == 2) false e).1))
listed_is (what.PutSelf d) carried n k e = refl
listed_is (what.Request j) carried n k e = absurd (true_false (sym e))
listed_is what.Done carried n k e = absurd (true_false (sym e))
listed_is (what.Visit a b d) carried n k e = absurd (true_false (sym e))
listed_is (what.Visited j) carried n k e = absurd (true_false (sym e))
listed_is (what.Cast a b) carried n k e = absurd (true_false (sym e))
listed_is (what.Casted j) carried n k e = absurd (true_false (sym e))
listed_is what.Stop carried n k e = absurd (true_false (sym e))
listed_is (what.Arrive a b) carried n k e = absurd (true_false (sym e))
listed_is (what.Order a b d) carried n k e = absurd (true_false (sym e))

pub filter_map_one : {X Y : Type 0} (f : X → Option Y) (x : X) (xs : List X) → filter_map f (x ∷ xs) ≡ option_to_list (f x) ++ filter_map f xs
filter_map_one f x xs = at (f x) refl
  where
    at : (o : Option _) → f x ≡ o → filter_map f (x ∷ xs) ≡ option_to_list o ++ filter_map f xs
    at None e = rw e refl
    at (Some y) e = rw e refl

-- an op that is dropped is counted no more, and the others as before
count_filter : (j k : ℕ) (ops : List ℕ) → count_by (λ (i : ℕ). i == j) (filter (λ (i : ℕ). not (i == k)) ops) + cond (k == j) (count_by (λ (i : ℕ). i == j) ops) 0
    ≡ count_by (λ (i : ℕ). i == j) ops
count_filter j k [] = at (k == j)
  where
    at : (b : Bool) → 0 + cond b 0 0 ≡ 0
    at true = refl
    at false = refl
count_filter j k (i ∷ ops) = at (i == k) (k == j) (i == j) refl refl refl (count_filter j k ops) (count_cons (λ (i : ℕ). i == j) i ops) (count_cons (λ (i : ℕ). i == j) i (filter (λ (i : ℕ). not (i == k)) ops))
  where
    at : (b d e : Bool) → (i == k) ≡ b → (k == j) ≡ d → (i == j) ≡ e
        → count_by (λ (i : ℕ). i == j) (filter (λ (i : ℕ). not (i == k)) ops) + cond d (count_by (λ (i : ℕ). i == j) ops) 0 ≡ count_by (λ (i : ℕ). i == j) ops
        → count_by (λ (i : ℕ). i == j) (i ∷ ops) ≡ cond (i == j) 1 0 + count_by (λ (i : ℕ). i == j) ops
        → count_by (λ (i : ℕ). i == j) (i ∷ filter (λ (i : ℕ). not (i == k)) ops) ≡ cond (i == j) 1 0 + count_by (λ (i : ℕ). i == j) (filter (λ (i : ℕ). not (i == k)) ops)
        → count_by (λ (i : ℕ). i == j) (cond (not b) (i ∷ filter (λ (i : ℕ). not (i == k)) ops) (filter (λ (i : ℕ). not (i == k)) ops)) + cond d (count_by (λ (i : ℕ). i == j) (i ∷ ops)) 0
        ≡ count_by (λ (i : ℕ). i == j) (i ∷ ops)
    at true true true p q r ih full part = omega (arith, ih, full, part)
    at true true false p q r ih full part = omega (arith, ih, full, part, ap {B = ℕ} (λ b. cond b 1 0) r)
    at true false true p q r ih full part = absurd (true_false (sym (eq-eqb k j (sym (eqb-true i k p) ∙ eqb-true i j r)) ∙ q))
    at true false false p q r ih full part = omega (arith, ih, full, ap {B = ℕ} (λ b. cond b 1 0) r)
    at false true true p q r ih full part = absurd (true_false (sym (eq-eqb i k (eqb-true i j r ∙ sym (eqb-true k j q))) ∙ p))
    at false true false p q r ih full part = omega (arith, ih, full, part, ap {B = ℕ} (λ b. cond b 1 0) r)
    at false false true p q r ih full part = omega (arith, ih, full, part)
    at false false false p q r ih full part = omega (arith, ih, full, part, ap {B = ℕ} (λ b. cond b 1 0) r)

-- an unanswered op has its reply or its request under way, also behind the message
under_way_on : (j waiting other : ℕ) (ops : List ℕ) (w : What) → count_by (λ (i : ℕ). i == j) ops ≤ (cond (is_reply_to j w) 1 0 + waiting) + other
    → count_by (λ (i : ℕ). i == j) (still_unanswered w ops) ≤ waiting + other
under_way_on j waiting other ops (what.Reply k) h = at (k == j) refl (count_filter j k ops)
  where
    at : (b : Bool) → (k == j) ≡ b → count_by (λ (i : ℕ). i == j) (filter (λ (i : ℕ). not (i == k)) ops) + cond b (count_by (λ (i : ℕ). i == j) ops) 0 ≡ count_by (λ (i : ℕ). i == j) ops
        → count_by (λ (i : ℕ). i == j) (filter (λ (i : ℕ). not (i == k)) ops) ≤ waiting + other
    at true e f = omega (arith, f)
    at false e f = omega (arith, f, h, ap {B = ℕ} (λ b. cond b 1 0) e)
under_way_on j waiting other ops (what.Request k) h = omega (arith, h)
under_way_on j waiting other ops (what.PutSelf d) h = omega (arith, h)
under_way_on j waiting other ops what.Done h = omega (arith, h)
under_way_on j waiting other ops (what.Visit a b d) h = omega (arith, h)
under_way_on j waiting other ops (what.Visited k) h = omega (arith, h)
under_way_on j waiting other ops (what.Cast a b) h = omega (arith, h)
under_way_on j waiting other ops (what.Casted k) h = omega (arith, h)
under_way_on j waiting other ops what.Stop h = omega (arith, h)
under_way_on j waiting other ops (what.Arrive a b) h = omega (arith, h)
under_way_on j waiting other ops (what.Order a b d) h = omega (arith, h)

-- ---- the client runs the first message that waits for it

module _ (s : Script) (old new : Client) (before after : Inbox) (m : Mail) (r : RanMessage old new m)
    (first : before.waiting ≡ m ∷ after.waiting) (ran : after.ran ≡ before.ran ++ m.tag ∷ []) where
  mine : letters before ≡ letter_of m ∷ letters after
  mine = first_letter before after m first

  pub addressed_on : (app owner : Inbox) → AreAddressed s app before owner → AreAddressed s app after owner
  addressed_on app owner a =
      let both = and_parts (is_to_client (letter_of m)) (list_all is_to_client (letters after)) (sym (ap (list_all is_to_client) mine) ∙ a.client_waits) in
      record {
        app_ran = a.app_ran;
        app_waits = a.app_waits;
        client_ran = ap (list_all (λ (x : Tag). x.sender == 1 || x.sender == 2)) ran
            ∙ list_all_push (λ (x : Tag). x.sender == 1 || x.sender == 2) before.ran m.tag a.client_ran (to_client_sender (letter_of m) both.0);
        client_waits = both.1;
        owner_ran = a.owner_ran;
        owner_waits = a.owner_waits;
      }

  pub client_on : (devices devices' : List Device) → AllAgree s new (before.ran ++ m.tag ∷ []) devices' → IsClientInOrder s old before devices → IsClientInOrder s new after devices'
  client_on devices devices' agree k =
      let waits = ap (count_by (λ (l : Letter). is_putself 0 l.what)) mine ∙ count_cons (λ (l : Letter). is_putself 0 l.what) (letter_of m) (letters after) in
      record {
        follows = subst (λ q. Follows s new q) (sym ran) (r.follows s before.ran k.follows);
        agree = subst (λ q. AllAgree s new q devices') (sym ran) agree;
        refused = ap (was_refused new) ran ∙ r.refused s before.ran k.follows ∙ k.refused;
        pending = omega (arith, r.pending 0, k.pending, waits);
      }

  pub told_on : (devices : List Device) (owner : Inbox) → IsClientInOrder s old before devices → IsTold s old before owner → IsTold s new after owner
  told_on devices owner k t =
      let same : sent_so_far s new after.ran ≡ sent_so_far s old before.ran = ap (sent_so_far s new) ran ∙ r.sends s before.ran k.follows in
      record {
        to_itself = told_take 1 before after m first ran ∙ t.to_itself ∙ sym (ap (to_thread 1) same);
        to_owner = t.to_owner ∙ sym (ap (to_thread 2) same);
      }

  pub answered_on : (app owner : Inbox) (image : Contents) → AreAddressed s app before owner → IsAnswered s old before owner image → IsAnswered s new after owner image
  answered_on app owner image a k =
      let both = and_parts (is_to_client (letter_of m)) (list_all is_to_client (letters after)) (sym (ap (list_all is_to_client) mine) ∙ a.client_waits) in
      let carried = λ (l : Letter). reply_carried l.what l.load in
      let one = filter_map_one carried (letter_of m) (letters after) in
      record {
        replies = told_take 2 before after m first ran ∙ k.replies;
        answers = ap (λ q. reply_pairs (q ++ filter_map carried (letters after))) r.replies
            ∙ ap reply_pairs (append_assoc old.replies (option_to_list (carried (letter_of m))) (filter_map carried (letters after)))
            ∙ sym (ap (λ q. reply_pairs (old.replies ++ q)) (ap (filter_map carried) mine ∙ one))
            ∙ k.answers;
        listed = ap (map (λ (x : Reply). x.op)) r.replies ∙ map-append (λ (x : Reply). x.op) old.replies (option_to_list (carried (letter_of m)))
            ∙ ap (λ q. q ++ map (λ (x : Reply). x.op) (option_to_list (carried (letter_of m)))) k.listed
            ∙ ap (λ q. filter_map reply_op before.ran ++ q) (listed_is m.tag.what m.load m.tag.sender m.tag.number both.0 ∙ sym (append-nil (option_to_list (reply_op m.tag))) ∙ sym (filter_map_one reply_op m.tag []))
            ∙ sym (filter_map-append reply_op before.ran (m.tag ∷ [])) ∙ sym (ap (filter_map reply_op) ran);
        after = k.after;
        block = k.block;
        under_way = λ j.
            let waits = ap (count_by (λ (l : Letter). is_reply_to j l.what)) mine ∙ count_cons (λ (l : Letter). is_reply_to j l.what) (letter_of m) (letters after) in
            subst (λ ops. count_by (λ (i : ℕ). i == j) ops ≤ count_by (λ (l : Letter). is_reply_to j l.what) (letters after) + count_by (λ (l : Letter). is_request_of j l.what) (letters owner)) (sym r.unanswered)
            (under_way_on j _ _ old.unanswered.items m.tag.what (subst (λ n. count_by (λ (i : ℕ). i == j) old.unanswered.items ≤ n + count_by (λ (l : Letter). is_request_of j l.what) (letters owner)) waits (k.under_way j)));
      }

  pub app_on : (a : App) (devices devices' : List Device) (app owner : Inbox) → ends_of devices' ≡ ends_of devices → map (λ (d : Device). d.given) devices' ≡ map (λ (d : Device). d.given) devices
      → IsAppInOrder a old.done app owner devices → IsAppInOrder a new.done app owner devices'
  app_on a devices devices' app owner ends given k =
      let like = one_like k.device.0 devices devices' k.device.1 ends given in
      record {
        clients = k.clients;
        device = (like.device, like.is, state like k.device.2);
        counted = k.counted;
        heard = k.heard ∙ sym (ap (λ b. cond b (what.Done ∷ []) []) r.done);
        stops = k.stops;
      }
    where
      state : (like : IsLike k.device.0 devices') → (IsFresh a k.device.0 ⊎ IsOver a old.done k.device.0) → (IsFresh a like.device ⊎ IsOver a new.done like.device)
      state like (inl f) = inl (record {
        began = f.began;
        ended = f.ended;
        owed = f.owed;
        did = f.did;
        called = f.called;
        usable = like.shut ∙ f.usable;
        callbacks = like.callbacks ∙ f.callbacks;
      })
      state like (inr o) = inr (record {
        client = r.done ∙ o.client;
        began = o.began;
        ended = o.ended;
        did = subst (λ n. a.did ≡ record { at = 1; op = 0; answer = answer.Began n } ∷ []) (sym like.given) o.did;
        called = o.called;
        shut = like.shut ∙ o.shut;
        callbacks = like.callbacks ∙ o.callbacks;
      })
