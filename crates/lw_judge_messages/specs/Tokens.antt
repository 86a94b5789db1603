-- The tokens of visits and casts, and the threads that ran each.
use Rattle.std.specs.Prelude.{ℕ, ◌≡◌, ◌-◌, ◌<◌, ◌++◌, Bool, cond, List, [], ◌∷◌, Option, Some, None, option_map, unwrap_or, length, slice_get, nat_eq}
use Rattle.std.specs.Option.{option_eq}
use Rattle.std.specs.List.{list_any, AllByRecursion}
use Rattle.std.specs.HashMap.{get}
use Rattle.lw_base.specs.declared.message.Tag.{Tag}
use Rattle.lw_base.specs.declared.message.What.{What}
use Rattle.lw_base.specs.declared.message.What.TheVariants as what
use Rattle.lw_model.specs.declared.record.Record.{Record}
use Rattle.lw_model.specs.Sent.{is_same_token, runners}
use Rattle.lw_judge_messages.specs.declared.tokens.Runners.{Runners}
use Rattle.lw_judge_messages.specs.declared.tokens.Token.{Token}
use Rattle.lw_judge_messages.specs.declared.tokens.Token.TheVariants as token
use Rattle.lw_judge_messages.specs.contracts.tokens.TokenPartialEq.TheImpl as block

-- the WHAT of a token
abbrev pub what_of : Token → What
what_of (token.Visit origin k d) = what.Visit origin k d
what_of (token.Cast origin k) = what.Cast origin k

-- the token that a WHAT is, if it is one
abbrev pub token_in : What → Option Token
token_in (what.Visit origin k d) = Some (token.Visit origin k d)
token_in (what.Cast origin k) = Some (token.Cast origin k)
token_in _ = None

-- whether two tokens are one
unfoldable pub is_token : Token → Token → Bool
is_token = (block.ghosts).eq

-- the threads that are kept under a token
abbrev pub threads_under : Runners → Token → List ℕ
threads_under x w = unwrap_or (option_map (λ v. v.items) (get is_token x.by_token w)) []

-- under each token stand the threads that ran it, ascending
pub record AreRunners (r : Record) (x : Runners) : Type 0 where
  pub each : (w : Token) → threads_under x w ≡ runners r (what_of w)

-- whether one of these messages is the token
abbrev pub is_run : Token → List Tag → Bool
is_run w ran = list_any (λ m. is_same_token (what_of w) m.what) ran

-- a thread stands last in a list
abbrev pub is_last : ℕ → List ℕ → Bool
is_last t us = option_eq nat_eq (slice_get us (length us - 1)) (Some t)

-- a thread put last, unless it stands last
abbrev pub with_last : ℕ → List ℕ → List ℕ
with_last t us = cond (is_last t us) us (us ++ t ∷ [])

-- a thread is greater than all that are kept
abbrev pub IsAbove : Runners → ℕ → Type 0
IsAbove x t = (w : Token) → AllByRecursion (λ u. u < t) (threads_under x w)
