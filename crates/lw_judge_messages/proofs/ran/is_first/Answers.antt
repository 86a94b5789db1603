use Rattle.std.proofs.Common.{◌∙◌, ap, sym, not}
use Rattle.lw_judge_messages.specs.Tokens.{is_token}
use Rattle.lw_judge_messages.proofs.TokenLemmas.{is_token-apart}
use Rattle.lw_judge_messages.proofs.RunTokens.{is_first_run-token, is_first_run-other, has_more, has_same}
use Rattle.lw_judge_messages.proofs.ran.is_first.Goals as goal

pub returns-in_ok-insert-in-Some-clause-first : goal.returns-in_ok-insert-in-Some-clause-first
unfolding is_token
returns-in_ok-insert-in-Some-clause-first c = λ past has.
    c.in_ok-insert-in-Some.ensures.added ∙ ap not (has.each c.in-Some.token) ∙ sym (is_first_run-token past c.args.tag.now c.in-Some.token (sym c.of.ensures ∙ c.in-Some.is))

pub returns-in_ok-insert-in-Some-clause-more : goal.returns-in_ok-insert-in-Some-clause-more
unfolding is_token
returns-in_ok-insert-in-Some-clause-more c = λ past has.
    has_more past c.args.tag.now c.in-Some.token (sym c.of.ensures ∙ c.in-Some.is) c.args.tokens.now c.insert.new.self has c.in_ok-insert-in-Some.ensures.updates.1
    (λ w apart. c.in_ok-insert-in-Some.ensures.updates.2 w (is_token-apart c.in-Some.token w apart))

pub returns-in-None-clause-first : goal.returns-in-None-clause-first
returns-in-None-clause-first c = λ past has. sym (is_first_run-other past c.args.tag.now (sym c.of.ensures ∙ c.in-None.is))

pub returns-in-None-clause-more : goal.returns-in-None-clause-more
returns-in-None-clause-more c = λ past has. has_same past c.args.tag.now (sym c.of.ensures ∙ c.in-None.is) c.args.tokens.now has
