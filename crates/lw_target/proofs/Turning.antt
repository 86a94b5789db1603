-- Polls of the threads.
use Rattle.std.proofs.Common.{ℕ, ◌≡◌, ◌+◌, ◌≤◌, ◌<◌, Bool, true, false, cond, List, [], ◌∷◌, ◌++◌, Some, get_or, length, arith, refl, sym, ◌∙◌, ap, subst, length-append}
use Rattle.std.specs.Prelude.{vec_len, slice_get}
use Rattle.std.specs.List.{All}
use Rattle.std.proofs.lemmas.List.Elements.{All-nil, All-same, All-rest, All-weaker, All-get_or}
use Rattle.std.proofs.lemmas.Option.{slice_get-get_or, slice_get_within, same_Some}
use Rattle.lw_base.specs.declared.message.What.{What}
use Rattle.lw_base.specs.declared.message.What.TheVariants as what
use Rattle.lw_model.specs.declared.script.Op.{Op}
use Rattle.lw_target.specs.declared.mail.Mail.{Mail}
use Rattle.lw_target.specs.declared.mail.Load.{Load}
use Rattle.lw_target.specs.declared.acts.Outgoing.{Outgoing}
use Rattle.lw_target.specs.declared.posts.Posts.{Posts}
use Rattle.lw_target.specs.declared.turns.Target.{Target}
use Rattle.lw_image.specs.Image.{Contents, SameSize}
use Rattle.lw_target.specs.Messages.{Asked, Extent, extent_of, FitsImage, IsWithin, AllFit, AllMayGo, operands, asked_work, waiting_work, weight}
use Rattle.lw_target.specs.Ops.{IsOfOps, AllOfOps, asks_bytes}
use Rattle.lw_target.specs.App.{Advance, IsStop}
use Rattle.lw_target.specs.Client.{Progress}
use Rattle.lw_target.specs.Work.{client_work, app_work}
use Rattle.lw_target.specs.Turns.{Carried, OpsFit, IsRunning, Turned}
use Rattle.lw_base.specs.declared.message.Tag.{Tag}
use Rattle.lw_model.specs.declared.script.Script.{Script}
use Rattle.lw_target.specs.declared.client.Client.{Client}
use Rattle.lw_target.specs.declared.device.Device.{Device}
use Rattle.lw_target.specs.Owner.{Serves}
use Rattle.lw_target.specs.ClientLog.{Follows}
use Rattle.lw_target.specs.ClientCalls.{WentOn, Rests}
use Rattle.lw_target.specs.Letters.{Got, posted}
use Rattle.lw_target.specs.InOrder.{IsClientInOrder, IsTold, IsAnswered, IsAppInOrder}
use Rattle.lw_target.specs.App.{IsDue, IsUnused, Ends}
use Rattle.lw_target.proofs.AppTurns.{app_turn_order}
use Rattle.lw_target.proofs.OwnerRuns.{serve_order}
use Rattle.lw_target.proofs.ClientTicks.{ticked}
use Rattle.lw_target.proofs.Carrying.{waiting_first}

-- what holds of each element holds of the one at a place
pub at_place : {X : Type 0} (P : X → Type 0) (xs : List X) (k : ℕ) (x : X) → slice_get xs k ≡ Some x → All P xs → P x
at_place P xs k x found all =
    let within : k < length xs = slice_get_within xs k x found in
    subst P (same_Some (get_or xs k x) x (sym (slice_get-get_or xs k x within) ∙ found)) (All-get_or P xs k x within all)

-- a request of ops that fit the image fits it
pub may_go_of_op : (extent : Extent) (ops : List Op) (to : ℕ) (w : What) (carried : Load) → OpsFit extent ops
    → IsOfOps ops (record { to = to; what = w; load = carried }) → FitsImage extent w carried
may_go_of_op extent ops to (what.Request k) carried fits of =
    rw of.3 (at_place (λ o. asks_bytes o ≡ true → IsWithin extent (operands o)) ops k of.0 of.1 fits of.2)
may_go_of_op extent ops to (what.Reply k) carried fits of = tt
may_go_of_op extent ops to (what.PutSelf d) carried fits of = tt
may_go_of_op extent ops to (what.Visit a b d) carried fits of = tt
may_go_of_op extent ops to (what.Visited k) carried fits of = tt
may_go_of_op extent ops to (what.Cast a b) carried fits of = tt
may_go_of_op extent ops to (what.Casted k) carried fits of = tt
may_go_of_op extent ops to what.Done carried fits of = tt
may_go_of_op extent ops to what.Stop carried fits of = tt
may_go_of_op extent ops to (what.Arrive a b) carried fits of = tt
may_go_of_op extent ops to (what.Order a b d) carried fits of = tt

may_go : (extent : Extent) (ops : List Op) (sends : List Outgoing) → OpsFit extent ops → AllOfOps ops sends → AllMayGo extent sends
may_go extent ops sends fits all =
    All-weaker (IsOfOps ops) (λ (s : Outgoing). FitsImage extent s.what s.load) (λ s of. may_go_of_op extent ops s.to s.what s.load fits of) sends all

-- a stop fits any owner
stop_goes : (extent : Extent) (s : Outgoing) → IsStop s → FitsImage extent s.what s.load
stop_goes extent s e = subst (λ w. FitsImage extent w s.load) (sym e) tt

-- a client that has told the app has nothing left to do
none_left : (s : Script) (c : Client) (ran : List Tag) → Follows s c ran → c.done ≡ true → client_work c ≡ 0
none_left s c ran f e =
    let closed = (f.done e).0 in
    let next = f.closed closed in
    let close : ◌≡◌ {A = ℕ} (cond c.closed 0 (1 + vec_len c.channels)) 0 = ap (λ b. cond b 0 (1 + vec_len c.channels)) closed in
    let tell : ◌≡◌ {A = ℕ} (cond c.done 0 2) 0 = ap {B = ℕ} (λ b. cond b 0 2) e in
    omega (arith, next, close, tell)

-- it lists nothing more then, and changes nothing
quiet : (s : Script) (old new : Client) (ran : List Tag) (before after : Asked) (worked : Bool) (devices devices' : List Device) → before.sends ≡ [] → Follows s old ran
    → Progress old new before after (cond worked 1 0) → (worked ≡ false → Rests old new before after devices devices')
    → old.done ≡ true → (new ≡ old) × (devices' ≡ devices)
quiet s old new ran before after true devices devices' none f p rests e =
    let none_asked : asked_work before.sends ≡ 0 = ap asked_work none in
    absurd (omega (arith, p.work, none_left s old ran f e, none_asked))
quiet s old new ran before after false devices devices' none f p rests e = let r = rests refl in (r.client, r.same)

pub client_turned : (old new : Target) (before after : Asked) (worked : Bool) → IsRunning old
    → Progress old.client new.client before after (cond worked 1 0) → before.sends ≡ [] → before.ran ≡ length old.posts.client.ran
    → WentOn old.client new.client before after old.devices.items new.devices.items
    → (worked ≡ false → Rests old.client new.client before after old.devices.items new.devices.items)
    → Carried 1 old.posts new.posts after.sends → new.acts.sends ≡ []
    → new.app ≡ old.app → new.owner ≡ old.owner → vec_len new.devices ≡ vec_len old.devices → Turned old new (cond worked 1 0)
client_turned old new before after worked r p none at went rests carried asked app owner devices =
    let none_asked : asked_work before.sends ≡ 0 = ap asked_work none in
    let sends = p.sends (All-same (IsOfOps old.client.of.ops) before.sends [] none (All-nil (IsOfOps old.client.of.ops))) in
    record {
      of = p.of;
      devices = ap (λ a. vec_len a.owed) app;
      running = record {
        app_devices = devices ∙ r.app_devices ∙ sym (ap (λ a. vec_len a.owed) app);
        client_devices = devices ∙ r.client_devices ∙ sym p.channels;
        senders = carried.senders r.senders;
        asked = asked;
        ops = subst (λ o. OpsFit (extent_of o.image) new.client.of.ops) (sym owner) (subst (λ o. OpsFit (extent_of old.owner.image) o.ops) (sym p.of) r.ops);
        fits = subst (λ o. AllFit (extent_of o.image) new.posts.owner.waiting) (sym owner)
            (carried.fits (extent_of old.owner.image) r.fits (may_go (extent_of old.owner.image) old.client.of.ops after.sends r.ops sends));
        block = subst (λ o. 0 < o.image.block) (sym owner) r.block;
        writes = omega (arith, r.writes, ap (λ o. o.image.writes) owner, ap length carried.owner.ran);
      };
      order = λ s h.
          let all = ticked s old.client new.client old.app old.owner.image before after old.devices.items new.devices.items
          old.posts.app new.posts.app old.posts.client new.posts.client old.posts.owner new.posts.owner went none at carried.app carried.client carried.owner sends
          (quiet s old.client new.client old.posts.client.ran before after worked old.devices.items new.devices.items none h.client.follows p rests) h.of
          (record { addressed = h.addressed; clients = h.client; sent = h.sent; answered = h.answered; apps = h.app }) in
          record {
            of = h.of;
            addressed = all.addressed;
            client = all.clients;
            sent = all.sent;
            answered = subst (λ o. IsAnswered s new.client new.posts.client new.posts.owner o.image) (sym owner) all.answered;
            app = subst (λ a. IsAppInOrder a new.client.done new.posts.app new.posts.owner new.devices.items) (sym app) all.apps;
          };
      work = omega (arith, p.work, none_asked, carried.work, ap app_work app);
    }

pub app_turned : (old new : Target) (before after : Asked) (worked : Bool) → IsRunning old
    → Advance old.app new.app before after (cond worked 1 0) → before.sends ≡ [] → before.ran ≡ length old.posts.app.ran
    → (old.app.done < old.app.clients → (new.app ≡ old.app) × (after ≡ before) × (new.devices.items ≡ old.devices.items))
    → (old.app.ended ≡ true → (new.app ≡ old.app) × (after ≡ before) × (new.devices.items ≡ old.devices.items))
    → (IsDue old.app → (v : Device) → old.devices.items ≡ v ∷ [] → IsUnused v → (worked ≡ true) × Ends old.app new.app before after v new.devices.items)
    → Carried 0 old.posts new.posts after.sends → new.acts.sends ≡ []
    → new.client ≡ old.client → new.owner ≡ old.owner → vec_len new.devices ≡ vec_len old.devices → Turned old new (cond worked 1 0)
app_turned old new before after worked r p none at early ended over carried asked client owner devices =
    let none_asked : asked_work before.sends ≡ 0 = ap asked_work none in
    let sends = p.sends (All-same IsStop before.sends [] none (All-nil IsStop)) in
    record {
      of = ap (λ c. c.of) client;
      devices = p.devices;
      running = record {
        app_devices = devices ∙ r.app_devices ∙ sym p.devices;
        client_devices = devices ∙ r.client_devices ∙ sym (ap (λ c. vec_len c.channels) client);
        senders = carried.senders r.senders;
        asked = asked;
        ops = subst (λ o. OpsFit (extent_of o.image) new.client.of.ops) (sym owner) (subst (λ c. OpsFit (extent_of old.owner.image) c.of.ops) (sym client) r.ops);
        fits = subst (λ o. AllFit (extent_of o.image) new.posts.owner.waiting) (sym owner)
            (carried.fits (extent_of old.owner.image) r.fits
            (All-weaker IsStop (λ (s : Outgoing). FitsImage (extent_of old.owner.image) s.what s.load) (stop_goes (extent_of old.owner.image)) after.sends sends));
        block = subst (λ o. 0 < o.image.block) (sym owner) r.block;
        writes = omega (arith, r.writes, ap (λ o. o.image.writes) owner, ap length carried.owner.ran);
      };
      order = λ s h.
          let all = app_turn_order s old.client old.app new.app old.owner.image before after old.posts.app new.posts.app old.posts.client new.posts.client old.posts.owner new.posts.owner
          old.devices.items new.devices.items worked none at (sym old.devices.ok.0 ∙ r.client_devices) early ended over
          (record { addressed = h.addressed; clients = h.client; sent = h.sent; answered = h.answered; apps = h.app })
          carried.app carried.client carried.owner in
          record {
            of = h.of;
            addressed = all.addressed;
            client = subst (λ c. IsClientInOrder s c new.posts.client new.devices.items) (sym client) all.clients;
            sent = subst (λ c. IsTold s c new.posts.client new.posts.owner) (sym client) all.sent;
            answered = subst (λ c. IsAnswered s c new.posts.client new.posts.owner new.owner.image) (sym client)
                (subst (λ o. IsAnswered s old.client new.posts.client new.posts.owner o.image) (sym owner) all.answered);
            app = subst (λ c. IsAppInOrder new.app c.done new.posts.app new.posts.owner new.devices.items) (sym client) all.apps;
          };
      work = omega (arith, p.work, none_asked, carried.work, ap client_work client);
    }

-- images of one size are of one extent
same_extent : (old new : Contents) → SameSize old new → extent_of new ≡ extent_of old
same_extent old new size = λ i. record { blocks = size.1 i; block = size.0 i }

-- the owner runs a message, and its replies are carried
pub owner_turned : (old new : Target) (taken : Posts) (mail : Mail) (before after : Asked) → IsRunning old
    → Serves old.owner new.owner mail before.sends after.sends
    → old.posts.owner.waiting ≡ mail ∷ taken.owner.waiting → taken.owner.ran ≡ old.posts.owner.ran ++ mail.tag ∷ []
    → taken.owner.sent ≡ old.posts.owner.sent → taken.app ≡ old.posts.app → taken.client ≡ old.posts.client
    → before.sends ≡ [] → SameSize old.owner.image new.owner.image → new.owner.image.writes ≤ old.owner.image.writes + 1
    → ((extent : Extent) → AllMayGo extent before.sends → AllMayGo extent after.sends)
    → asked_work after.sends + 1 ≤ asked_work before.sends + weight mail.tag.what
    → Carried 2 taken new.posts after.sends → new.acts.sends ≡ []
    → new.app ≡ old.app → new.client ≡ old.client → new.devices ≡ old.devices → Turned old new 1
owner_turned old new taken mail before after r serves first ran sent app_post client_post none size writes replies did carried asked app client same_devices =
    let devices : vec_len new.devices ≡ vec_len old.devices = ap vec_len same_devices in
    let extent : extent_of new.owner.image ≡ extent_of old.owner.image = same_extent old.owner.image new.owner.image size in
    let fit = λ (m : Mail). FitsImage (extent_of old.owner.image) m.tag.what m.load in
    let go = λ (s : Outgoing). FitsImage (extent_of old.owner.image) s.what s.load in
    let none_asked : asked_work before.sends ≡ 0 = ap asked_work none in
    let rest = All-rest fit mail taken.owner.waiting old.posts.owner.waiting first r.fits in
    let sends = replies (extent_of old.owner.image) (All-same go before.sends [] none (All-nil go)) in
    let app_work_same : waiting_work taken.app.waiting ≡ waiting_work old.posts.app.waiting = ap (λ p. waiting_work p.waiting) app_post in
    let client_work_same : waiting_work taken.client.waiting ≡ waiting_work old.posts.client.waiting = ap (λ p. waiting_work p.waiting) client_post in
    let one_ran : length taken.owner.ran ≡ length old.posts.owner.ran + 1 = ap length ran ∙ length-append old.posts.owner.ran (mail.tag ∷ []) in
    record {
      of = ap (λ c. c.of) client;
      devices = ap (λ a. vec_len a.owed) app;
      running = record {
        app_devices = devices ∙ r.app_devices ∙ sym (ap (λ a. vec_len a.owed) app);
        client_devices = devices ∙ r.client_devices ∙ sym (ap (λ c. vec_len c.channels) client);
        senders = carried.senders
            (ap (λ p. length p.sent) app_post ∙ r.senders.0, ap (λ p. length p.sent) client_post ∙ r.senders.1, ap length sent ∙ r.senders.2);
        asked = asked;
        ops = subst (λ b. OpsFit b new.client.of.ops) (sym extent) (subst (λ c. OpsFit (extent_of old.owner.image) c.of.ops) (sym client) r.ops);
        fits = subst (λ b. AllFit b new.posts.owner.waiting) (sym extent) (carried.fits (extent_of old.owner.image) rest sends);
        block = omega (arith, size.0, r.block);
        writes = omega (arith, r.writes, writes, ap length carried.owner.ran, one_ran);
      };
      order = λ s h.
          let all = serve_order s old.client old.app old.devices.items old.posts.app new.posts.app old.posts.client new.posts.client old.posts.owner taken.owner new.posts.owner
          old.owner new.owner mail.tag.sender mail.tag.number mail.load after.sends mail.tag.what first ran
          (subst (λ b. Serves old.owner new.owner mail b after.sends) none serves) size.0
          (subst (λ p. Got p new.posts.app (posted 0 2 after.sends)) app_post carried.app)
          (subst (λ p. Got p new.posts.client (posted 1 2 after.sends)) client_post carried.client) carried.owner
          (record { addressed = h.addressed; clients = h.client; sent = h.sent; answered = h.answered; apps = h.app }) in
          record {
            of = h.of;
            addressed = all.addressed;
            client = subst (λ c. IsClientInOrder s c new.posts.client new.devices.items) (sym client)
                (subst (λ d. IsClientInOrder s old.client new.posts.client d.items) (sym same_devices) all.clients);
            sent = subst (λ c. IsTold s c new.posts.client new.posts.owner) (sym client) all.sent;
            answered = subst (λ c. IsAnswered s c new.posts.client new.posts.owner new.owner.image) (sym client) all.answered;
            app = subst (λ a. IsAppInOrder a new.client.done new.posts.app new.posts.owner new.devices.items) (sym app)
                (subst (λ c. IsAppInOrder old.app c.done new.posts.app new.posts.owner new.devices.items) (sym client)
                (subst (λ d. IsAppInOrder old.app old.client.done new.posts.app new.posts.owner d.items) (sym same_devices) all.apps));
          };
      work = omega (arith, did, none_asked, carried.work, app_work_same, client_work_same, waiting_first _ _ mail first, ap client_work client, ap app_work app);
    }
