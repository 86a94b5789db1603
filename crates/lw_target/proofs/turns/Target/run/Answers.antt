use Rattle.std.proofs.Common.{arith, ap, cond, ℕ}
use Rattle.lw_target.proofs.Resting.{turned_self, turned_then}
use Rattle.lw_target.proofs.turns.Target.run.Goals as goal

pub loop-init : goal.loop-init
loop-init c = turned_self c.args.self.now c.requires

pub loop-preserved : goal.loop-preserved
loop-preserved c = turned_then _ _ _ _ c.loop.invariant c.in_ok-turn.ensures.turned

pub loop-smaller : goal.loop-smaller
loop-smaller c = omega (arith, c.in_ok-turn.ensures.turned.work, ap {B = ℕ} (λ b. cond b 1 0) c.if-branch.true)

pub returns-clause-turned : goal.returns-clause-turned
returns-clause-turned c = turned_then _ _ _ _ c.loop.invariant c.in_ok-turn.ensures.turned

pub returns-clause-rests : goal.returns-clause-rests
returns-clause-rests c = λ s h. c.in_ok-turn.ensures.rests s (c.loop.invariant.order s h) c.if-branch.false
