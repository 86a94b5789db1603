use Rattle.std.proofs.Common.{rules, ◌≡◌, ◌++◌, ◌∙◌, length, arith, refl, ap, subst}
use Rattle.lw_target.proofs.AppEnding.{begun, begun_on, get_or_twice}
use Rattle.lw_target.specs.AppCalls.{begins_owed, unregistrations}
use Rattle.lw_target.specs.App.{unregistered}
use Rattle.lw_target.proofs.AppEach.{made_all, taken_all}
use Rattle.lw_target.proofs.AppRounds.{begun_each}
use Rattle.lw_target.proofs.app.App.begin.Goals as goal

pub loop-place-preserved : goal.loop-place-preserved
loop-place-preserved c = record {
  owed = search rules;
  began = search rules;
  rest = search rules;
  each =
      let b = c.in_ok-shut.ensures in
      begun_each c.args.at c.loop-place.place c.args.devices.now c.args.self.now.owed.items c.args.self.now.did c.loop-place.self.owed.items c.shut.new.self.owed.items
      c.loop-place.self.did c.shut.new.self.did c.loop-place.devices _ c.shut.new.device
      (omega (arith, c.loop-place-test.true)) (omega (arith, c.requires, c.args.self.now.owed.ok.0))
      c.loop-place.invariant.each (get_or_twice c.loop-place.devices c.loop-place.place _) b.device b.listed b.owed;
  one = λ v is usable.
      let b = c.in_ok-shut.ensures in
      begun_on c.args.self.now.did c.loop-place.self c.shut.new.self c.args.at c.loop-place.place v _ c.shut.new.device c.loop-place.devices
      (omega (arith, c.loop-place-test.true, c.loop-place.auto.devices)) usable
      (omega (arith, c.loop-place.invariant.owed, c.loop-place.self.owed.ok.0, c.requires, c.loop-place.auto.devices))
      (c.loop-place.invariant.one v is usable) (get_or_twice c.loop-place.devices c.loop-place.place _) b.device b.listed b.owed;
}

pub returns-clause-each : goal.returns-clause-each
returns-clause-each c = λ fresh.
    let h = c.loop-place.invariant.each in
    let rest = c.loop-place.invariant.rest in
    let last : c.loop-place.place ≡ length c.args.devices.now = omega (arith, c.loop-place-test.false, c.loop-place.auto.place-end) in
    record {
      rest = record { clients = rest.clients; done = rest.done; ended = rest.ended; called = rest.called };
      began = c.loop-place.invariant.began;
      owed = h.owes ∙ made_all begins_owed c.args.devices.now c.args.self.now.owed.items c.loop-place.place last (omega (arith, c.requires, c.args.self.now.owed.ok.0));
      did = h.lists ∙ ap (λ ds. c.args.self.now.did ++ unregistrations c.args.at ds) (taken_all c.args.devices.now c.loop-place.place last);
      devices = h.are ∙ made_all unregistered c.args.devices.now c.args.devices.now c.loop-place.place last refl;
    }

pub returns-clause-one : goal.returns-clause-one
returns-clause-one c = λ fresh v is usable.
    let rest = c.loop-place.invariant.rest in
    let last : c.loop-place.place ≡ 1 = omega (arith, c.loop-place-test.false, c.loop-place.auto.place-end, ap length is) in
    let all = subst (λ n. begun n c.args.self.now.did c.loop-place.self c.args.at v c.loop-place.devices) last (c.loop-place.invariant.one v is usable) in (
      refl,
      record {
        rest = record { clients = rest.clients; done = rest.done; ended = rest.ended; called = rest.called };
        began = c.loop-place.invariant.began;
        owed = all.0;
        did = all.1;
        device = all.2;
      },
    )
