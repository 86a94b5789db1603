use Rattle.std.proofs.Common.{◌≡◌, Bool, true, false, not, get_or, refl, sym, ap, ◌∙◌}
use Rattle.std.specs.List.{list_any, list_all}
use Rattle.std.specs.HashSet.{contains}
use Rattle.std.proofs.lemmas.Bool.{true≢false, OnFalse_at}
use Rattle.lw_judge_messages.specs.declared.tokens.Token.TheVariants as token
use Rattle.lw_judge_messages.specs.Tokens.{is_token}
use Rattle.lw_judge_messages.proofs.TokenLemmas.{is_token-apart}
use Rattle.lw_judge_messages.proofs.DistinctTokens.{once_pushed, once_kept, known_pushed}
use Rattle.lw_judge_messages.proofs.ran.distinct.Goals as goal
use Rattle.lw_judge_messages.proofs.ran.distinct.Goals.{then-branch+in_ok-push, else-branch}

not_false : (b : Bool) → false ≡ not b → b ≡ true
not_false true e = refl
not_false false e = absurd (true≢false (sym e))

pub loop-token-preserved : goal.loop-token-preserved
unfolding is_token
loop-token-preserved c =
    let tokens = c.args.tokens.now in
    let i = c.loop-token.token-index in
    let v = get_or tokens i (token.Visit 0 0 0) in
    let once = c.loop-token.once.items in
    let was = c.loop-token.invariant in
    let set = c.in_ok-insert.ensures in
    elim c.if-branch.branch [
      | then-branch+in_ok-push b ↦
          let pushed = ap (λ o. o.items) b.once-is ∙ b.in_ok-push.ensures.items in
          record {
            all = once_pushed tokens once i (token.Visit 0 0 0) c.loop-token-test.true was.all c.if-branch.once.items pushed;
            known = known_pushed once c.if-branch.once.items v (contains is_token c.loop-token.known) (contains is_token c.insert.new.self) pushed was.known
                set.updates.1 (λ w apart. set.updates.2 w (is_token-apart v w apart));
          }
      | else-branch b ↦
          let kept = ap (λ o. o.items) b.once-is in
          let there = not_false (contains is_token c.loop-token.known v) (sym b.if-branch.false ∙ set.added) in
          let same : c.insert.new.self.keys ≡ c.loop-token.known.keys = OnFalse_at b.if-branch.false set.unchanged in
          record {
            all = λ p. ap (list_all p) kept ∙ once_kept tokens once i (token.Visit 0 0 0) c.loop-token-test.true was.all (sym (was.known v) ∙ there) p;
            known = λ w. ap (list_any (is_token w)) same ∙ was.known w ∙ ap (list_any (is_token w)) (sym kept);
          }
    ]
