-- What a thread ran against what was sent to it.
use Rattle.std.specs.Prelude.{ℕ, ◌≡◌, ◌==◌, nat_le, Bool, not, ◌&&◌, ◌||◌, List, Some, length, count_by, slice_get}
use Rattle.std.specs.List.{list_all, range_with_len}
use Rattle.std.specs.HashSet.{HashSet, contains}
use Rattle.std.specs.declared.hash.FoldHasher.{FoldHasher}
use Rattle.std.specs.declared.hash.BuildHasherDefault.{BuildHasherDefault}
use Rattle.lw_base.specs.declared.message.Tag.{Tag}
use Rattle.lw_model.specs.declared.record.Record.{Record}
use Rattle.lw_model.specs.Sent.{must_run}
use Rattle.lw_model.specs.Lawful.{has_run, is_first_run}
use Rattle.lw_model.specs.Same.{both, is_same_what}
use Rattle.lw_judge_messages.specs.declared.sends.Sends.{Sends}
use Rattle.lw_judge_messages.specs.declared.tokens.Token.{Token}
use Rattle.lw_judge_messages.specs.SendsAt.{list_at}
use Rattle.lw_judge_messages.specs.Tokens.{what_of, is_token, is_run}

-- what thread t ran is the item of its sender's list at its number
abbrev pub is_listed : Sends → ℕ → Tag → Bool
is_listed x t m = both is_same_what (slice_get (list_at x m.sender t) m.number) (Some m.what)

-- a message of thread t is listed, and no token that was run before
abbrev pub ran_fits : Sends → ℕ → List Tag → Tag → Bool
ran_fits x t past m = is_listed x t m && is_first_run past m

-- how many messages are of a sender
abbrev pub count_from : List Tag → ℕ → ℕ
count_from ran s = count_by (λ m. m.sender == s) ran

-- thread t ran as many messages of each of n threads as are listed, or more
abbrev pub runs_enough : Sends → ℕ → ℕ → List Tag → Bool
runs_enough x n t ran = list_all (λ s. nat_le (length (list_at x s t)) (count_from ran s)) (range_with_len 0 n)

-- thread t ran each of these tokens that it must run
abbrev pub runs_tokens : Record → ℕ → List Token → Bool
runs_tokens r t tokens = list_all (λ w. not (must_run r.script (what_of w) t) || has_run r (what_of w) t) tokens

-- the set has the tokens among these messages
pub record HasTokens (past : List Tag) (x : HashSet Token (BuildHasherDefault FoldHasher)) : Type 0 where
  pub each : (w : Token) → contains is_token x w ≡ is_run w past
