use Rattle.std.proofs.Common.{rules, refl, ap}
use Rattle.lw_client.specs.declared.client.Client.{Client}
use Rattle.lw_client.proofs.Beginning.{keeps_fresh}
use Rattle.lw_client.proofs.client.Client.new.Goals as goal

pub returns-clause-made : goal.returns-clause-made
returns-clause-made c = search rules

pub returns-clause-lawful : goal.returns-clause-lawful
returns-clause-lawful c = λ run k may family number threads.
    (let made = returns-clause-made c in
    keeps_fresh _ c.args.thread refl (ap (λ (b : Client). b.uses) made) (ap (λ (b : Client). b.unanswered) made) refl refl refl refl (ap (λ (b : Client). b.did) made) run k may family number threads)
