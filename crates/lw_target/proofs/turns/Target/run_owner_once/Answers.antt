use Rattle.std.proofs.Common.{ap, refl, ◌∙◌, ◌≡◌, [], ◌∷◌, ◌++◌, subst}
use Rattle.std.specs.Prelude.{MatchOption}
use Rattle.lw_target.proofs.Turning.{owner_turned}
use Rattle.lw_target.proofs.turns.Target.run_owner_once.Goals as goal

pub returns-clause-turned : goal.returns-clause-turned
returns-clause-turned c =
    let took = c.in_ok-mail.ensures in
    let done = c.in_ok-run.ensures in
    owner_turned _ _ _ c.in-Some.mail c.begin.new.self c.run.new.acts c.requires done.sends
    (subst (λ o. MatchOption o (c.args.self.now.posts.owner.waiting ≡ []) (λ m. c.args.self.now.posts.owner.waiting ≡ m ∷ c.take.new.self.waiting)) c.in-Some.is took.first)
    (subst (λ o. MatchOption o (c.take.new.self ≡ c.args.self.now.posts.owner) (λ m. c.take.new.self.ran ≡ c.args.self.now.posts.owner.ran ++ m.tag ∷ [])) c.in-Some.is took.ran)
    took.senders refl refl
    (ap (λ a. a.sends) c.begin.ensures ∙ c.requires.asked) done.size done.writes done.replies done.work
    c.in_ok-carry.ensures.carried c.in_ok-carry.ensures.empty refl refl refl
