use Rattle.std.proofs.Common.{◌≡◌, ◌<◌, Some, None, cond, length, nat_lt, sym, ap, ap₂, ◌∙◌, arith}
use Rattle.std.specs.Option.{option_or}
use Rattle.std.proofs.lemmas.Bool.{lt-ltb}
use Rattle.lw_judge_threads.specs.AgainstAt.{unlike_place}
use Rattle.lw_judge_threads.proofs.Wanted.{unlike_line-at, unlike_within}
use Rattle.lw_judge_threads.proofs.against.Against.line.Goals as goal
use Rattle.lw_judge_threads.proofs.against.Against.line.Goals.{in-Some, in-None}

pub returns : goal.returns
returns c = λ tests is few.
    let found = c.args.found in
    let place = c.match-self.place in
    let at : unlike_place found tests ≡ Some place = elim c.match-self.branch [
      | in-Some w ↦ ap (λ o. option_or o (cond (nat_lt (length tests) found) (Some (length tests)) None)) (sym is.unlike ∙ w.in-Some.is) ∙ ap Some (sym w.place-is)
      | in-None w ↦ ap (λ o. option_or o (cond (nat_lt (length tests) found) (Some (length tests)) None)) (sym is.unlike ∙ w.in-None.is)
          ∙ ap₂ (λ b n. cond b (Some n) None) (lt-ltb (length tests) found (omega (arith, is.wanted, w.if-self-found.true))) (sym is.wanted ∙ sym w.place-is)
    ] in
    let within : place < found = unlike_within found tests place (omega (arith, is.wanted, c.if-found-self.false)) at in
    ap Some (omega (arith, c.saturating_add.ensures, within, few)) ∙ sym (unlike_line-at c.args.lack c.args.first found tests place (omega (arith, is.wanted, c.if-found-self.false)) at)
