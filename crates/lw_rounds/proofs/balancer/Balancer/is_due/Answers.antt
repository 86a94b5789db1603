use Rattle.std.proofs.Common.{◌≡◌, ℕ, ◌-◌, ap, sym, subst, ◌∙◌, length, slice_get, List, Some, true, false, nat_lt, nat_le, refl, arith}
use Rattle.std.specs.Option.{option_copied}
use Rattle.lw_base.specs.declared.moves.Round.{Round}
use Rattle.lw_rounds.specs.Rounds.{BalancerEnd, IsNotBefore, most_rounds, last_time}
use Rattle.lw_rounds.proofs.Rounding.{last_time_at, none_last, not_before, due_iff}
use Rattle.lw_rounds.proofs.balancer.Balancer.is_due.Goals.{in-Some, in-None, then-due, else-due}
use Rattle.lw_rounds.proofs.balancer.Balancer.is_due.Goals as goal

pub due-requires : goal.due-requires
due-requires c =
    let first = c.unwrap_or-first.result in
    let rounds = c.self.inside.rounds.items in
    let taken : slice_get rounds (length rounds - 1) ≡ option_copied c.last.result =
    ap (λ (xs : List Round). slice_get xs (length xs - 1)) (sym c.deref.ensures.value) ∙ sym c.last.ensures.value in
    let last : c.match-last.last ≡ last_time first rounds = elim c.match-last.branch [
      | in-Some w ↦ w.last-is ∙ sym (last_time_at first rounds w.in-Some.round.now (taken ∙ ap option_copied w.in-Some.is))
      | in-None w ↦ w.last-is ∙ sym (none_last first rounds (taken ∙ ap option_copied w.in-None.is))
    ] in
    let b : BalancerEnd = record {
      reactors = c.self.inside.reactors;
      masks = c.self.inside.masks.items;
      period = c.self.inside.period;
      meter = c.self.inside.meter;
      first = c.self.inside.first;
      rounds = rounds;
    } in
    let past = not_before c.args.now b c.self.invariant.rounds (subst (IsNotBefore c.args.now) (sym c.self.view_is) c.requires) in
    let same = ap (λ (t : ℕ). last_time t rounds) c.unwrap_or-first.ensures in
    omega arith

pub returns-clause-due : goal.returns-clause-due
returns-clause-due c =
    let first = c.unwrap_or-first.result in
    let rounds = c.self.inside.rounds.items in
    let taken : slice_get rounds (length rounds - 1) ≡ option_copied c.last.result =
    ap (λ (xs : List Round). slice_get xs (length xs - 1)) (sym c.deref.ensures.value) ∙ sym c.last.ensures.value in
    let last : c.match-last.last ≡ last_time first rounds = elim c.match-last.branch [
      | in-Some w ↦ w.last-is ∙ sym (last_time_at first rounds w.in-Some.round.now (taken ∙ ap option_copied w.in-Some.is))
      | in-None w ↦ w.last-is ∙ sym (none_last first rounds (taken ∙ ap option_copied w.in-None.is))
    ] in
    let b : BalancerEnd = record {
      reactors = c.self.inside.reactors;
      masks = c.self.inside.masks.items;
      period = c.self.inside.period;
      meter = c.self.inside.meter;
      first = c.self.inside.first;
      rounds = rounds;
    } in
    let past = not_before c.args.now b c.self.invariant.rounds (subst (IsNotBefore c.args.now) (sym c.self.view_is) c.requires) in
    let same = ap (λ (t : ℕ). last_time t rounds) c.unwrap_or-first.ensures in
    let asked : BalancerEnd = record b { first = Some first } in
    let inside : c.match-last.self-inside ≡ record c.self.inside { first = Some first } = elim c.match-last.branch [ in-Some w ↦ w.self-inside-is | in-None w ↦ w.self-inside-is ] in
    let kept : c.match-last.self-inside.rounds.len ≡ c.self.inside.rounds.len = (λ i. (inside i).rounds.len) in
    let many : c.match-last.self-inside.rounds.len ≡ length rounds = (let k = c.self.inside.rounds.ok in omega arith) in
    let then_is : c.due.result ≡ true → c.if-due.result ≡ nat_lt (length rounds) most_rounds = λ e. elim c.if-due.branch [
      | then-due w ↦ w.result-is ∙ ap (λ n. nat_lt n most_rounds) (w.len.ensures ∙ many)
      | else-due w ↦ (let wrong : true ≡ false = sym e ∙ w.if-due.false in cc)
    ] in
    let else_is : c.due.result ≡ false → c.if-due.result ≡ false = λ e. elim c.if-due.branch [
      | then-due w ↦ (let wrong : true ≡ false = sym w.if-due.true ∙ e in cc)
      | else-due w ↦ w.result-is ∙ e
    ] in
    rw inside (due_iff c.args.now first c.match-last.last asked c.due.result c.if-due.result refl last (omega arith) (c.due.ensures ∙ (λ i. nat_le (inside i).period (c.args.now - c.match-last.last))) then_is else_is)
