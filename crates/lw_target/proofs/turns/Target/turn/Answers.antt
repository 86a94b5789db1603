use Rattle.std.proofs.Common.{ap}
use Rattle.std.specs.Prelude.{◌||◌, map}
use Rattle.lw_target.proofs.Letters.{letter_of}
use Rattle.lw_target.proofs.Resting.{idle_first, idle_second, at_rest, turned_either}
use Rattle.lw_target.proofs.turns.Target.turn.Goals as goal

pub returns-clause-rests : goal.returns-clause-rests
returns-clause-rests c = λ s h idle.
    let p = c.in_ok-worked.worked in
    let q = c.in_ok-worked-2.field-0 in
    let r = c.in_ok-worked-3.field-0 in
    let t = c.in_ok-worked-4.field-0 in
    let u = c.in_ok-worked-5.field-0 in
    let four = idle_first (p || q || r || t) u idle in
    let three = idle_first (p || q || r) t four in
    let two = idle_first (p || q) r three in
    let app = c.in_ok-worked.ensures.rests (idle_first p q two) in
    let app_tick = c.in_ok-worked-2.ensures.rests s (c.in_ok-worked.ensures.turned.order s h) (idle_second p q two) in
    let client = c.in_ok-worked-3.ensures.rests (idle_second (p || q) r three) in
    let client_tick = c.in_ok-worked-4.ensures.rests (idle_second (p || q || r) t four) in
    let owner = c.in_ok-worked-5.ensures.rests (idle_second (p || q || r || t) u idle) in
    at_rest c.args.self.now c.run_app.new.self c.tick_app.new.self c.run_client.new.self c.tick_client.new.self c.run_owner.new.self
    app.0 (ap (map letter_of) app.1) app_tick.0 app_tick.1 client.0 (ap (map letter_of) client.1) client_tick.0 client_tick.1 owner.0 (ap (map letter_of) owner.1)

pub returns-clause-turned : goal.returns-clause-turned
returns-clause-turned c =
    turned_either _ _ _ _ _
    (turned_either _ _ _ _ _ (turned_either _ _ _ _ _ (turned_either _ _ _ _ _ c.in_ok-worked.ensures.turned c.in_ok-worked-2.ensures.turned) c.in_ok-worked-3.ensures.turned)
    c.in_ok-worked-4.ensures.turned)
    c.in_ok-worked-5.ensures.turned
