use Rattle.std.proofs.Common.{rules, sym, zip, ◌++◌, ◌∙◌, arith, ap, subst, ◌≡◌, length}
use Rattle.lw_target.proofs.AppEnding.{called, called_on, get_or_twice, either}
use Rattle.lw_target.specs.AppCalls.{still_owed, behind_callback, callbacks}
use Rattle.lw_target.proofs.AppEach.{made_all, taken_all, zip_length}
use Rattle.lw_target.proofs.AppRounds.{called_each}
use Rattle.lw_target.proofs.app.App.call_back.Goals as goal

pub loop-place-preserved : goal.loop-place-preserved
loop-place-preserved c = record {
  owed = search rules;
  ended = search rules;
  work = omega (arith, c.loop-place.invariant.work, c.in_ok-called.ensures.work, either c.loop-place.called c.in_ok-called.field-0);
  rest = search rules;
  each =
      let b = c.in_ok-called.ensures in
      called_each c.args.at c.loop-place.place c.args.devices.now c.args.self.now.owed.items c.args.self.now.called c.loop-place.self.owed.items c.call_one.new.self.owed.items
      c.loop-place.self.called c.call_one.new.self.called c.loop-place.devices _ c.call_one.new.device
      (omega (arith, c.loop-place-test.true)) (omega (arith, c.requires, c.args.self.now.owed.ok.0))
      c.loop-place.invariant.each (get_or_twice c.loop-place.devices c.loop-place.place _) b.device b.listed b.owed;
  one = λ v is unused owes.
      called_on c.args.self.now.called c.loop-place.self c.call_one.new.self c.args.at c.loop-place.place v _ c.call_one.new.device c.loop-place.devices
      (omega (arith, c.loop-place-test.true, c.loop-place.auto.devices)) unused
      (c.loop-place.invariant.one v is unused owes) (get_or_twice c.loop-place.devices c.loop-place.place _) c.in_ok-called.ensures.due;
}

pub returns-clause-each : goal.returns-clause-each
returns-clause-each c =
    let h = c.loop-place.invariant.each in
    let devices = c.args.devices.now in
    let flags = c.args.self.now.owed.items in
    let long : length flags ≡ length devices = omega (arith, c.requires, c.args.self.now.owed.ok.0) in
    let pairs : length (zip flags devices) ≡ length devices = zip_length flags devices long in
    let last : c.loop-place.place ≡ length (zip flags devices) = omega (arith, c.loop-place-test.false, c.loop-place.auto.place-end, pairs) in
    record {
      rest = c.loop-place.invariant.rest;
      owed = h.owes ∙ made_all still_owed (zip flags devices) flags c.loop-place.place last (omega (arith, pairs, long));
      called = h.lists ∙ ap (λ zs. c.args.self.now.called ++ callbacks c.args.at zs) (taken_all (zip flags devices) c.loop-place.place last);
      devices = h.are ∙ made_all behind_callback (zip flags devices) devices c.loop-place.place last (sym pairs);
    }

pub returns-clause-one : goal.returns-clause-one
returns-clause-one c = λ v is unused owes.
    let last : c.loop-place.place ≡ 1 = omega (arith, c.loop-place-test.false, c.loop-place.auto.place-end, ap length is) in
    let all = subst (λ n. called n c.args.self.now.called c.loop-place.self c.args.at v c.loop-place.devices) last (c.loop-place.invariant.one v is unused owes) in
    record { rest = c.loop-place.invariant.rest; owed = all.0; called = all.1; device = all.2 }
