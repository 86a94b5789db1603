use Rattle.std.proofs.Common.{true, false, ℕ, ◌≡◌, Bool, cond, ap, arith}
use Rattle.lw_target.proofs.Steps.{progress_then}
use Rattle.lw_target.proofs.Ticking.{went_then}
use Rattle.lw_target.proofs.client.Client.do_some.Goals as goal

pub returns-then-not-branch-clause-went_on : goal.returns-then-not-branch-clause-went_on
returns-then-not-branch-clause-went_on c = went_then _ _ _ _ _ _ _ _ _ c.loop.invariant.went_on c.in_ok-do_next.ensures.went_on

pub loop-preserved : goal.loop-preserved
loop-preserved c =
    let h = c.in_ok-do_next.ensures in
    let i = c.loop.invariant in
    let one : ◌≡◌ {A = ℕ} (cond c.in_ok-do_next.field-0 1 0) 1 = ap {B = ℕ} (λ (b : Bool). cond b 1 0) c.if-not-branch.false in
    record {
      progress = progress_then _ _ _ _ _ _ _ _ _ i.progress h.progress (omega (arith, one));
      went_on = went_then _ _ _ _ _ _ _ _ _ i.went_on h.went_on;
      still = λ e. let wrong : true ≡ false = e in cc;
      most = omega (arith, i.most, h.one, one);
    }
