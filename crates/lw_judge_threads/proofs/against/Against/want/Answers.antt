use Rattle.std.proofs.Common.{◌≡◌, Option, None, Some, cond, ℕ, refl, sym, ap, ◌∙◌, arith}
use Rattle.std.specs.Option.{option_or}
use Rattle.lw_judge_threads.specs.declared.against.Against.{Against}
use Rattle.lw_judge_threads.proofs.Wanted.{IsAgainst-push}
use Rattle.lw_judge_threads.proofs.against.Against.want.Goals as goal
use Rattle.lw_judge_threads.proofs.against.Against.want.Goals.{then-not-stands, else-not-stands}

-- none is put behind another
or_none : (o : Option ℕ) → o ≡ option_or o None
or_none None = refl
or_none (Some p) = refl

pub returns : goal.returns
returns c = λ tests few is.
    let old = c.args.self.now in
    elim c.if-not-stands.branch [
      | then-not-stands w ↦ IsAgainst-push tests c.args.stands old _ is (omega (arith, few, is.wanted, c.saturating_add-self.ensures, ap (λ (a : Against). a.wanted) w.self-is))
          (ap (λ (a : Against). a.unlike) w.self-is ∙ w.or-self.ensures ∙ ap (λ b. option_or old.unlike (cond b None (Some old.wanted))) (sym w.if-not-stands.true))
      | else-not-stands w ↦ IsAgainst-push tests c.args.stands old _ is (omega (arith, few, is.wanted, c.saturating_add-self.ensures, ap (λ (a : Against). a.wanted) w.self-is))
          (ap (λ (a : Against). a.unlike) w.self-is ∙ or_none old.unlike ∙ ap (λ b. option_or old.unlike (cond b None (Some old.wanted))) (sym w.if-not-stands.false))
    ]
