-- A run is in order before its first turn.
use Rattle.std.proofs.Common.{ℕ, ◌≡◌, ◌≤◌, true, false, cond, List, [], ◌∷◌, ◌++◌, map, length, Option, Some, None, arith, refl, sym, ◌∙◌, ap, subst, inl}
use Rattle.std.specs.Prelude.{◌&&◌, ◌==◌, vec_len, slice_get, nat_lt, nat_le, count_by, option_map, option_and_then, unwrap_or}
use Rattle.std.specs.List.{All, list_all}
use Rattle.std.proofs.lemmas.Bool.{ltb-true}
use Rattle.std.proofs.lemmas.List.Elements.{All-nil, All-cons}
use Rattle.lw_model.specs.declared.script.Script.{Script}
use Rattle.lw_model.specs.declared.script.ImageOf.{ImageOf}
use Rattle.lw_model.specs.declared.script.ClientOf.{ClientOf}
use Rattle.lw_model.specs.declared.script.Op.{Op}
use Rattle.lw_model.specs.declared.script.Op.TheVariants as op
use Rattle.lw_model.specs.ScriptRules.{block_at, image_of}
use Rattle.lw_model.specs.Threads.{ops_of, depth_of, is_client}
use Rattle.lw_base.specs.declared.message.What.TheVariants as what
use Rattle.lw_model.specs.declared.record.Reply.{Reply}
use Rattle.lw_image.specs.Image.{Contents, IsAfter}
use Rattle.lw_target.specs.declared.app.App.{App}
use Rattle.lw_target.specs.declared.channel.Channel.{Channel}
use Rattle.lw_target.specs.declared.client.Client.{Client}
use Rattle.lw_target.specs.declared.device.Device.{Device}
use Rattle.lw_target.specs.Messages.{Inbox}
use Rattle.lw_target.specs.Ops.{is_servable}
use Rattle.lw_target.specs.ClientLog.{IsOf, Follows, sent_so_far, was_refused}
use Rattle.lw_target.specs.ClientCalls.{AllAgree}
use Rattle.lw_target.specs.WholeRun.{reply_pairs}
use Rattle.lw_target.specs.Turns.{unused}
use Rattle.lw_target.specs.InOrder.{IsOfOne, IsToOwner}
use Rattle.lw_target.proofs.OwnerRuns.{AreInOrder}
use Rattle.lw_model.proofs.Passing.{item_passes}
use Rattle.lw_model.specs.Sent.{to_thread}

-- an op that is served on one image is on image 0
on_first : (o : Op) (d : ℕ) → is_servable 1 o ≡ true → image_of o ≡ Some d → d ≡ 0
on_first (op.Get n) d e f = let same : n ≡ d = cc in omega (arith, ltb-true n 1 e, same)
on_first (op.Put n) d e f = let same : n ≡ d = cc in omega (arith, ltb-true n 1 e, same)
on_first (op.Write n start count pattern) d e f = let same : n ≡ d = cc in omega (arith, ltb-true n 1 e, same)
on_first (op.Read n start count) d e f = let same : n ≡ d = cc in omega (arith, ltb-true n 1 e, same)
on_first (op.Flush n) d e f = let wrong : false ≡ true = e in cc
on_first (op.Wait n) d e f = let wrong : false ≡ true = e in cc
on_first (op.Visit n) d e f = let wrong : false ≡ true = e in cc
on_first op.Each d e f = let wrong : false ≡ true = e in cc
on_first (op.Unregister n) d e f = let wrong : false ≡ true = e in cc

module _ (s : Script) (size : ImageOf) (of : ClientOf) (images : s.images ≡ size ∷ []) (clients : s.clients ≡ of ∷ []) where
  ops_are : ops_of s 1 ≡ of.ops
  ops_are = ap (λ cs. unwrap_or (option_map (λ (x : ClientOf). x.ops) (slice_get cs 0)) []) clients

  pub of_one : list_all (is_servable 1) of.ops ≡ true → IsOfOne s
  of_one serves = record {
    clients = ap length clients;
    images = ap length images;
    image = λ k d found. at (slice_get of.ops k) k d refl (sym (ap (λ os. option_and_then image_of (slice_get os k)) ops_are) ∙ found);
  }
    where
      at : (o : Option Op) → (k d : ℕ) → slice_get of.ops k ≡ o → option_and_then image_of (slice_get of.ops k) ≡ Some d → d ≡ 0
      at None k d e f = let wrong : ◌≡◌ {A = Option ℕ} None (Some d) = sym (ap (option_and_then image_of) e) ∙ f in cc
      at (Some o) k d e f = on_first o d (item_passes (is_servable 1) of.ops k o serves e) (sym (ap (option_and_then image_of) e) ∙ f)

  pub is_of : (c : Client) → c.of ≡ of → c.thread ≡ 1 → c.first_owner ≡ 2 → vec_len c.channels ≡ 1 → IsOf s c
  is_of c same thread owner channels = record {
    client = ap (is_client s) thread ∙ ap (λ n. nat_lt 0 1 && nat_le 1 n) (ap length clients);
    ops = ap (ops_of s) thread ∙ ops_are ∙ sym (ap (λ o. o.ops) same);
    depth = ap (depth_of s) thread ∙ ap (λ cs. unwrap_or (option_map (λ (x : ClientOf). x.depth) (slice_get cs 0)) 0) clients ∙ sym (ap (λ o. o.depth) same);
    devices = ap length images ∙ sym channels;
    owners = omega (arith, ap length clients, owner);
  }

  pub block_is : (image : Contents) → image.block ≡ size.block → image.block ≡ block_at s 0
  block_is image same = same ∙ sym (ap (λ is. unwrap_or (option_map (λ (i : ImageOf). i.block) (slice_get is 0)) 0) images)

abbrev pub new_device : Device
new_device = record { standing = 0; given = 0; shut_by = None; callbacks = 0 }

pub starts : (s : Script) (c : Client) (a : App) (image : Contents) (devices : List Device) → devices ≡ new_device ∷ []
    → Follows s c [] → sent_so_far s c [] ≡ [] → was_refused c [] ≡ false
    → ((vs : List Device) → All (λ (v : Device). (v.standing ≡ 0) × (v.given ≡ 0)) vs → AllAgree s c [] vs)
    → ((k : Channel) → slice_get c.channels.items 0 ≡ Some k → k.pending ≡ 0)
    → c.done ≡ false → c.replies ≡ [] → c.unanswered.items ≡ []
    → a.clients ≡ 1 → a.done ≡ 0 → a.began ≡ false → a.ended ≡ false → a.owed.items ≡ false ∷ [] → a.did ≡ [] → a.called ≡ []
    → image.block ≡ block_at s 0 → IsAfter image [] → AreInOrder s c a image unused unused unused devices
starts s c a image devices is follows sends refused agree pending done replies none clients counted began ended owed did called block after = record {
  addressed = record { app_ran = refl; app_waits = refl; client_ran = refl; client_waits = refl; owner_ran = refl; owner_waits = All-nil (IsToOwner s) };
  clients = record {
    follows = follows;
    agree = subst (λ vs. AllAgree s c [] vs) (sym is) (agree (new_device ∷ []) (All-cons (λ (v : Device). (v.standing ≡ 0) × (v.given ≡ 0)) new_device [] (refl, refl) (All-nil (λ (v : Device). (v.standing ≡ 0) × (v.given ≡ 0)))));
    refused = refused;
    pending = at (slice_get c.channels.items 0) refl;
  };
  sent = record { to_itself = sym (ap (to_thread 1) sends); to_owner = sym (ap (to_thread 2) sends) };
  answered = record {
    replies = refl;
    answers = ap (λ q. reply_pairs (q ++ [])) replies;
    listed = ap (map (λ (x : Reply). x.op)) replies;
    after = after;
    block = block;
    under_way = λ j. let nothing = ap (count_by (λ (i : ℕ). i == j)) none in omega (arith, nothing);
  };
  apps = record {
    clients = clients;
    device = (new_device, is, inl (record { began = began; ended = ended; owed = owed; did = did; called = called; usable = refl; callbacks = refl }));
    counted = counted;
    heard = sym (ap (λ b. cond b (what.Done ∷ []) []) done);
    stops = sym (ap (λ b. cond b (what.Stop ∷ []) []) ended);
  };
}
  where
    at : (o : Option Channel) → slice_get c.channels.items 0 ≡ o → elim o [ Some k ↦ k.pending | None ↦ 0 ] ≤ 0
    at None e = omega arith
    at (Some k) e = omega (arith, pending k e)

-- the same of three inboxes to which nothing came
pub unused_all : (s : Script) (c : Client) (a : App) (image image' : Contents) (app client owner : Inbox) (devices : List Device) → app ≡ unused → client ≡ unused → owner ≡ unused → image' ≡ image
    → AreInOrder s c a image unused unused unused devices → AreInOrder s c a image' app client owner devices
unused_all s c a image image' app client owner devices e f g i h =
    subst (λ p. AreInOrder s c a image' p client owner devices) (sym e)
    (subst (λ p. AreInOrder s c a image' unused p owner devices) (sym f)
    (subst (λ p. AreInOrder s c a image' unused unused p devices) (sym g)
    (subst (λ p. AreInOrder s c a p unused unused unused devices) (sym i) h)))
