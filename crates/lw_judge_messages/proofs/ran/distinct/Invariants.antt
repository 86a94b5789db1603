use Rattle.std.proofs.Common.{◌≡◌, Bool, take}
use Rattle.std.specs.List.{list_all, list_any}
use Rattle.std.specs.HashSet.{contains}
use Rattle.lw_judge_messages.specs.declared.tokens.Token.{Token}
use Rattle.lw_judge_messages.specs.Tokens.{is_token}
use Rattle.lw_judge_messages.proofs.ran.distinct.Given as goal

abbrev pub invariant-loop-token : goal.invariant-loop-token
invariant-loop-token l = record {
  all : (p : Token → Bool) → list_all p l.once.items ≡ list_all p (take l.token-index l.tokens);
  known : (w : Token) → contains is_token l.known w ≡ list_any (is_token w) l.once.items;
}
