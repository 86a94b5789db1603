use Rattle.std.proofs.Common.{ap, refl, sym, subst, arith, ◌∙◌, ◌≡◌, [], ◌++◌, length, take, drop}
use Rattle.lw_target.specs.ClientCalls.{WentOn, Rests}
use Rattle.lw_target.proofs.Told.{written_back}
use Rattle.lw_target.proofs.Turning.{client_turned}
use Rattle.lw_target.proofs.Letters.{got_nothing}
use Rattle.lw_target.proofs.turns.Target.tick_client.Goals as goal

pub returns-clause-turned : goal.returns-clause-turned
returns-clause-turned c =
    let t = c.args.self.now in
    let did = c.in_ok-worked.ensures in
    let value = c.deref_mut.ensures.value in
    let back : take t.devices.len (c.tick.new.devices ++ drop (length c.tick.new.devices) t.devices.items) ≡ c.tick.new.devices =
    written_back c.tick.new.devices _ _ (omega (arith, c.tick.auto.devices, c.deref_mut.ensures.len)) in
    client_turned t _ c.begin.new.self c.tick.new.acts c.in_ok-worked.worked c.requires did.progress
    (ap (λ a. a.sends) c.begin.ensures ∙ c.requires.asked) (ap (λ a. a.ran) c.begin.ensures ∙ c.ran.ensures)
    (subst (λ ds. WentOn t.client c.tick.new.self c.begin.new.self c.tick.new.acts t.devices.items ds) (sym back)
    (subst (λ ds. WentOn t.client c.tick.new.self c.begin.new.self c.tick.new.acts ds c.tick.new.devices) value did.went_on))
    (λ idle. subst (λ ds. Rests t.client c.tick.new.self c.begin.new.self c.tick.new.acts t.devices.items ds) (sym back)
    (subst (λ ds. Rests t.client c.tick.new.self c.begin.new.self c.tick.new.acts ds c.tick.new.devices) value (did.rests idle)))
    c.in_ok-carry.ensures.carried c.in_ok-carry.ensures.empty refl refl refl

pub returns-clause-rests : goal.returns-clause-rests
returns-clause-rests c = λ idle.
    let t = c.args.self.now in
    let rest = c.in_ok-worked.ensures.rests idle in
    let back : take t.devices.len (c.tick.new.devices ++ drop (length c.tick.new.devices) t.devices.items) ≡ c.tick.new.devices =
    written_back c.tick.new.devices _ _ (omega (arith, c.tick.auto.devices, c.deref_mut.ensures.len)) in
    let sends : c.tick.new.acts.sends ≡ [] = ap (λ a. a.sends) (rest.acts ∙ c.begin.ensures) ∙ c.requires.asked in
    let carried = c.in_ok-carry.ensures.carried in (
      record {
        app = refl;
        client = rest.client;
        owner = refl;
        devices = back ∙ rest.same ∙ c.deref_mut.ensures.value;
        app_waits = got_nothing 0 1 _ _ c.tick.new.acts.sends sends carried.app;
        client_waits = got_nothing 1 1 _ _ c.tick.new.acts.sends sends carried.client;
        owner_waits = got_nothing 2 1 _ _ c.tick.new.acts.sends sends carried.owner;
      },
      rest.held_up,
    )
