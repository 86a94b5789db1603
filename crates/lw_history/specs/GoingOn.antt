-- A token that was to go to a client which had exited goes on past it instead: what that makes of a history.
use Rattle.std.specs.Prelude.{ℕ, ◌≡◌, Bool, true, false, nat_lt, cond, List, [], ◌∷◌, ◌++◌, length}
use Rattle.lw_base.specs.declared.message.What.{What}
use Rattle.lw_base.specs.declared.message.What.TheVariants as what
use Rattle.lw_whole.specs.Letters.{Letter}
use Rattle.lw_history.specs.Histories.{Event, ran, did, called, ended, runs_of, dids_of, calls_of, past_of, stood_of, last_of, all_of}
use Rattle.lw_history.specs.Fitting.{EachFits, ends_in}

-- a visit or a cast on its way
abbrev pub is_token : What → Bool
is_token (what.Visit o k d) = true
is_token (what.Cast o k) = true
is_token _ = false

-- the last messages that had been asked for when the message at place n, from 0, of all was
abbrev pub last_before : ℕ → List Event → List (ℕ × Letter)
last_before n [] = []
last_before n (ran x now ∷ before) = last_before n before
last_before n (did x now ∷ before) = last_before n before
last_before n (called x ∷ before) = last_before n before
last_before n (ended now ∷ before) = cond (nat_lt n (length (all_of before))) (last_before n before) (last_before n before ++ now)

-- two histories that differ in their sends alone, and not in the last of them
pub record SameButSends (g h : List Event) : Type 0 where
  pub runs : runs_of h ≡ runs_of g
  pub dids : dids_of h ≡ dids_of g
  pub calls : calls_of h ≡ calls_of g
  pub past : past_of h ≡ past_of g
  pub stood : stood_of h ≡ stood_of g
  pub last : last_of h ≡ last_of g
  pub ends : ends_in h ≡ ends_in g

-- a history that differs from this one in its sends alone, of which these are all
pub record GoneOn (Fit : List Event → Event → Type 0) (h : List Event) (all : List (ℕ × Letter)) : Type 0 where
  pub after : List Event
  pub same : SameButSends h after
  pub fits : EachFits Fit after
  pub sends : all_of after ≡ all
