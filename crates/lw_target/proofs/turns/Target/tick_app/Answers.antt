use Rattle.std.proofs.Common.{ap, refl, sym, subst, arith, ◌∙◌, ◌≡◌, [], ◌++◌, length, take, drop}
use Rattle.lw_target.specs.App.{Ends}
use Rattle.lw_target.proofs.Told.{written_back}
use Rattle.lw_target.proofs.Turning.{app_turned}
use Rattle.lw_target.proofs.AppTurns.{app_turn_rests}
use Rattle.lw_target.proofs.Letters.{got_nothing}
use Rattle.lw_target.proofs.turns.Target.tick_app.Goals as goal

pub returns-clause-turned : goal.returns-clause-turned
returns-clause-turned c =
    let t = c.args.self.now in
    let did = c.in_ok-worked.ensures in
    let value = c.deref_mut.ensures.value in
    let back : take t.devices.len (c.tick.new.devices ++ drop (length c.tick.new.devices) t.devices.items) ≡ c.tick.new.devices =
    written_back c.tick.new.devices _ _ (omega (arith, c.tick.auto.devices, c.deref_mut.ensures.len)) in
    app_turned t _ c.begin.new.self c.tick.new.acts c.in_ok-worked.worked c.requires did.advance
    (ap (λ a. a.sends) c.begin.ensures ∙ c.requires.asked) (ap (λ a. a.ran) c.begin.ensures ∙ c.ran.ensures)
    (λ less. let q = did.early less in (q.0, q.1, back ∙ q.2 ∙ value))
    (λ over. let q = did.ended over in (q.0, q.1, back ∙ q.2 ∙ value))
    (λ due v is unused. let q = did.over due v (value ∙ is) unused in (q.0, subst (λ ds. Ends t.app c.tick.new.self c.begin.new.self c.tick.new.acts v ds) (sym back) q.1))
    c.in_ok-carry.ensures.carried c.in_ok-carry.ensures.empty refl refl refl

pub returns-clause-rests : goal.returns-clause-rests
returns-clause-rests c = λ s h idle.
    let t = c.args.self.now in
    let did = c.in_ok-worked.ensures in
    let value = c.deref_mut.ensures.value in
    let back : take t.devices.len (c.tick.new.devices ++ drop (length c.tick.new.devices) t.devices.items) ≡ c.tick.new.devices =
    written_back c.tick.new.devices _ _ (omega (arith, c.tick.auto.devices, c.deref_mut.ensures.len)) in
    let none = ap (λ a. a.sends) c.begin.ensures ∙ c.requires.asked in
    let rest = app_turn_rests s t.client t.app c.tick.new.self t.owner.image c.begin.new.self c.tick.new.acts t.posts.app c.carry.new.self.app t.posts.client c.carry.new.self.client t.posts.owner c.carry.new.self.owner
    t.devices.items c.tick.new.devices c.in_ok-worked.worked none (ap (λ a. a.ran) c.begin.ensures ∙ c.ran.ensures) (sym t.devices.ok.0 ∙ c.requires.client_devices)
    (λ less. let q = did.early less in (q.0, q.1, q.2 ∙ value)) (λ over. let q = did.ended over in (q.0, q.1, q.2 ∙ value))
    (λ due v is unused. did.over due v (value ∙ is) unused)
    (record { addressed = h.addressed; clients = h.client; sent = h.sent; answered = h.answered; apps = h.app }) idle in
    let sends : c.tick.new.acts.sends ≡ [] = ap (λ a. a.sends) rest.0.1 ∙ none in
    let carried = c.in_ok-carry.ensures.carried in (
      record {
        app = rest.0.0;
        client = refl;
        owner = refl;
        devices = back ∙ rest.0.2;
        app_waits = got_nothing 0 0 _ _ c.tick.new.acts.sends sends carried.app;
        client_waits = got_nothing 1 0 _ _ c.tick.new.acts.sends sends carried.client;
        owner_waits = got_nothing 2 0 _ _ c.tick.new.acts.sends sends carried.owner;
      },
      rest.1,
    )
