use Rattle.std.proofs.Common.{refl, arith, ◌≡◌, [], ◌∷◌, ◌++◌, subst, rules}
use Rattle.std.specs.Prelude.{MatchOption}
use Rattle.lw_target.proofs.Carrying.{waiting_first, weight_some}
use Rattle.lw_target.proofs.AppTurns.{app_ran}
use Rattle.lw_target.proofs.turns.Target.run_app_once.Goals as goal

pub returns-clause-turned : goal.returns-clause-turned
returns-clause-turned c =
    let took = c.in_ok-mail.ensures in
    let posts = c.args.self.now.posts in
    let m = c.in-Some.mail in
    let first = subst (λ o. MatchOption o (posts.app.waiting ≡ []) (λ m. posts.app.waiting ≡ m ∷ c.take.new.self.waiting)) c.in-Some.is took.first in
    let ran = subst (λ o. MatchOption o (c.take.new.self ≡ posts.app) (λ m. c.take.new.self.ran ≡ posts.app.ran ++ m.tag ∷ [])) c.in-Some.is took.ran in
    record {
      of = refl;
      devices = c.run.ensures.devices;
      running = search rules;
      work = omega (arith, c.run.ensures.work, waiting_first posts.app.waiting c.take.new.self.waiting m first, weight_some m.tag.what);
      order = λ s h.
          let all = app_ran s c.args.self.now.client c.args.self.now.app c.run.new.self c.args.self.now.owner.image posts.app c.take.new.self posts.client posts.owner c.args.self.now.devices.items m first ran
          c.run.ensures.counted (record { addressed = h.addressed; clients = h.client; sent = h.sent; answered = h.answered; apps = h.app }) in
          record { of = h.of; addressed = all.addressed; client = all.clients; sent = all.sent; answered = all.answered; app = all.apps };
    }
