use Rattle.std.proofs.Common.{◌≡◌, ◌&&◌, nat_le, nat_lt, length, sym, ap, ◌∙◌}
use Rattle.std.proofs.lemmas.Bool.{lt-ltb}
use Rattle.lw_judge_rounds.proofs.Rows.{not_less, row_fits_is}
use Rattle.lw_judge_rounds.proofs.planned.row_fits.Goals as goal
use Rattle.lw_judge_rounds.proofs.planned.row_fits.Goals.{then-row-len, else-row-len}

pub returns-then-row-of : goal.returns-then-row-of
returns-then-row-of c = λ past least.
    let r = c.args.of.now in
    let w = c.args.row.now in
    let there : c.if-row-len.value ≡ (nat_lt w.thread (length r.threads) && nat_lt w.reactor r.reactors) = elim c.if-row-len.branch [
      | then-row-len b ↦ b.value-is ∙ ap (λ q. q && nat_lt w.reactor r.reactors) (sym (lt-ltb w.thread c.len.result b.if-row-len.true) ∙ ap (nat_lt w.thread) c.len.ensures)
      | else-row-len b ↦ b.value-is ∙ not_less w.thread c.len.result b.if-row-len.false ∙ ap (λ q. q && nat_lt w.reactor r.reactors) (sym (not_less w.thread c.len.result b.if-row-len.false) ∙ ap (nat_lt w.thread) c.len.ensures)
    ] in
    ap (λ q. q && nat_le c.args.least w.thread) (sym c.if-row-of.true ∙ there) ∙ row_fits_is r past w c.args.least least

pub returns-else-row-of : goal.returns-else-row-of
returns-else-row-of c = λ past least.
    let r = c.args.of.now in
    let w = c.args.row.now in
    let there : c.if-row-len.value ≡ (nat_lt w.thread (length r.threads) && nat_lt w.reactor r.reactors) = elim c.if-row-len.branch [
      | then-row-len b ↦ b.value-is ∙ ap (λ q. q && nat_lt w.reactor r.reactors) (sym (lt-ltb w.thread c.len.result b.if-row-len.true) ∙ ap (nat_lt w.thread) c.len.ensures)
      | else-row-len b ↦ b.value-is ∙ not_less w.thread c.len.result b.if-row-len.false ∙ ap (λ q. q && nat_lt w.reactor r.reactors) (sym (not_less w.thread c.len.result b.if-row-len.false) ∙ ap (nat_lt w.thread) c.len.ensures)
    ] in
    c.if-row-of.false ∙ ap (λ q. q && nat_le c.args.least w.thread) (sym c.if-row-of.false ∙ there) ∙ row_fits_is r past w c.args.least least
