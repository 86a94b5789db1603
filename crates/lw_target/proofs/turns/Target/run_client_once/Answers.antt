use Rattle.std.proofs.Common.{ap, refl, sym, arith, ◌∙◌, ◌≡◌, [], ◌∷◌, ◌++◌, subst, rules, map, take, drop, length}
use Rattle.std.specs.Prelude.{MatchOption}
use Rattle.lw_target.specs.declared.device.Device.{Device}
use Rattle.lw_target.specs.InOrder.{IsClientInOrder}
use Rattle.lw_target.proofs.Told.{written_back}
use Rattle.lw_target.specs.ClientCalls.{AllAgree, ends_of}
use Rattle.lw_target.proofs.Carrying.{waiting_first, weight_some}
use Rattle.lw_target.proofs.ClientRuns.{app_on, addressed_on, client_on, told_on, answered_on}
use Rattle.lw_target.proofs.turns.Target.run_client_once.Goals as goal

pub returns-clause-turned : goal.returns-clause-turned
returns-clause-turned c =
    let took = c.in_ok-mail.ensures in
    let did = c.in_ok-run.ensures in
    let posts = c.args.self.now.posts in
    let m = c.in-Some.mail in
    let back : take c.args.self.now.devices.len (c.run.new.devices ++ drop (length c.run.new.devices) c.args.self.now.devices.items) ≡ c.run.new.devices =
    written_back c.run.new.devices _ _ (omega (arith, c.run.auto.devices, c.deref_mut.ensures.len)) in
    let first = subst (λ o. MatchOption o (posts.client.waiting ≡ []) (λ m. posts.client.waiting ≡ m ∷ c.take.new.self.waiting)) c.in-Some.is took.first in
    let ran = subst (λ o. MatchOption o (c.take.new.self ≡ posts.client) (λ m. c.take.new.self.ran ≡ posts.client.ran ++ m.tag ∷ [])) c.in-Some.is took.ran in
    record {
      of = did.of;
      devices = refl;
      running = search rules;
      work = omega (arith, did.work, waiting_first posts.client.waiting c.take.new.self.waiting m first, weight_some m.tag.what);
      order = λ s h. record {
        of = h.of;
        addressed = addressed_on s _ _ _ _ m did.ran first ran _ _ h.addressed;
        client = subst (λ vs. IsClientInOrder s c.run.new.self c.take.new.self vs) (sym back) (client_on s _ _ _ _ m did.ran first ran _ _ (did.agree s posts.client.ran h.client.follows (subst (λ vs. AllAgree s c.args.self.now.client posts.client.ran vs) (sym c.deref_mut.ensures.value) h.client.agree)) h.client);
        sent = told_on s _ _ _ _ m did.ran first ran _ _ h.client h.sent;
        answered = answered_on s _ _ _ _ m did.ran first ran _ _ _ h.addressed h.answered;
        app = app_on s _ _ posts.client c.take.new.self m did.ran first ran _ _ _ _ _ (ap ends_of back ∙ did.ends ∙ ap ends_of c.deref_mut.ensures.value)
            (ap (map (λ (d : Device). d.given)) back ∙ did.given ∙ ap (map (λ (d : Device). d.given)) c.deref_mut.ensures.value) h.app;
      };
    }
