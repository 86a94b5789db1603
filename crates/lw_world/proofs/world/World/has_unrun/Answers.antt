use Rattle.std.proofs.Common.{ℕ, ap, sym, ◌∙◌, nat_lt}
use Rattle.lw_world.specs.Sums.{at, sum_below}
use Rattle.lw_world.proofs.Worlds.{any_less}
use Rattle.lw_world.proofs.world.World.has_unrun.Goals as goal

pub returns : goal.returns
returns c =
    let thread = c.args.thread in
    let sent = λ (s : ℕ). at c.self.inside.sent.cells s thread in
    let run = λ (s : ℕ). at c.self.inside.run.cells s thread in
    rw (← c.self.view_is) (
    ap (λ n. nat_lt n c.column-2.result) (c.column.ensures.sum ∙ ap (λ n. sum_below n run) c.self.invariant.run.rows_are)
    ∙ ap (λ n. nat_lt (sum_below c.self.inside.threads run) n) (c.column-2.ensures.sum ∙ ap (λ n. sum_below n sent) c.self.invariant.sent.rows_are)
    ∙ sym (any_less c.self.inside.threads run sent (λ s. c.self.invariant.kept.run_was_sent s thread)))
