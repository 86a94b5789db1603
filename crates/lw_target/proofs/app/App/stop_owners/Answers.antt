use Rattle.std.proofs.Common.{rules, arith, refl, ap, subst, ◌≡◌, length}
use Rattle.std.specs.Prelude.{vec_len}
use Rattle.lw_target.proofs.AppEnding.{stopped}
use Rattle.std.proofs.lemmas.List.Elements.{All-push, All-same}
use Rattle.lw_target.specs.Messages.{asked_work}
use Rattle.lw_target.specs.App.{IsStop}
use Rattle.lw_target.specs.AppCalls.{stop_for}
use Rattle.lw_target.proofs.Mails.{asked_push}
use Rattle.lw_target.proofs.AppRounds.{stop_next}
use Rattle.lw_target.proofs.app.App.stop_owners.Goals as goal

pub loop-owner-preserved : goal.loop-owner-preserved
loop-owner-preserved c = record {
  ran = search rules;
  sends = λ all. All-same IsStop _ _ (ap (λ a. a.sends) c.in_ok-send.ensures) (All-push IsStop _ _ (c.loop-owner.invariant.sends all) refl);
  work = omega (arith, ap (λ a. asked_work a.sends) c.in_ok-send.ensures, asked_push c.loop-owner.acts.sends (stop_for c.args.self.now.clients c.loop-owner.owner), c.loop-owner.invariant.work);
  each = stop_next c.args.self.now.clients c.loop-owner.owner c.args.acts.now.sends c.loop-owner.acts.sends c.send.new.self.sends c.loop-owner.invariant.each (ap (λ a. a.sends) c.in_ok-send.ensures);
  one = search rules;
}

pub returns-clause-one : goal.returns-clause-one
returns-clause-one c = λ none.
    let long : vec_len c.args.self.now.owed ≡ 1 = omega (arith, ap length none, c.args.self.now.owed.ok.0) in
    let last : c.loop-owner.owner ≡ 1 = omega (arith, c.loop-owner-test.false, c.loop-owner.auto.owner-end, long, c.len-owner-end.ensures) in
    record {
      clients = refl;
      done = refl;
      began = refl;
      ended = refl;
      did = refl;
      called = refl;
      sends = subst (λ n. stopped n c.args.self.now.clients c.args.acts.now.sends c.loop-owner.acts.sends) last (c.loop-owner.invariant.one long);
    }
