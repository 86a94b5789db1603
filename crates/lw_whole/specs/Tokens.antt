-- How a thread sends a token on.
use Rattle.std.specs.Prelude.{ℕ, ◌-◌, ◌≡◌, ◌<◌, ◌≤◌, ◌⊎◌, not, IsTrue, List, [], ◌∷◌, ◌++◌, option_to_list, option_map}
use Rattle.std.specs.List.{list_all, range_with_len}
use Rattle.lw_base.specs.declared.message.Mark.{Mark}
use Rattle.lw_base.specs.declared.message.What.{What}
use Rattle.lw_base.specs.declared.message.What.TheVariants as what
use Rattle.lw_model.specs.declared.script.Script.{Script}
use Rattle.lw_model.specs.declared.step.Step.{Step}
use Rattle.lw_model.specs.Threads.{thread_count, is_on}
use Rattle.lw_model.specs.Holding.{held, submitted}
use Rattle.lw_model.specs.Sent.{must_run, completion}
use Rattle.lw_whole.specs.Letters.{Letter, Load, nothing, marked, reached, marks_in, threads_in}
use Rattle.lw_whole.specs.Logs.{addressed}

-- what a token carries when it sets out
abbrev pub empty_load : What → Load
empty_load (what.Visit o k d) = marked []
empty_load (what.Cast o k) = reached []
empty_load _ = nothing

-- what thread t, behind the steps of `past`, adds to the results of a visit: where it holds a channel, its mark
abbrev pub own_mark : Script → ℕ → List Step → ℕ → List Mark
own_mark s t past d = option_to_list (option_map (λ n. record { thread = t; submitted = submitted (is_on s t d) past }) (held (is_on s t d) d past))

-- what a token carries behind thread t, which ran it
abbrev pub load_behind : Script → ℕ → List Step → What → Load → Load
load_behind s t past (what.Visit o k d) x = marked (marks_in x ++ own_mark s t past d)
load_behind s t past (what.Cast o k) x = reached (threads_in x ++ t ∷ [])
load_behind s t past _ x = x

-- a token may be sent past each thread from `from` up to and without `to`: clients other than its origin, which had exited
abbrev pub may_pass : Script → What → ℕ → ℕ → Type 0
may_pass s w from to = IsTrue (list_all (λ v. not (must_run s w v)) (range_with_len from (to - from)))

-- the token went to thread u, past those between
pub record WentTo (s : Script) (w : What) (from : ℕ) (load : Load) (u : ℕ) (l : Letter) : Type 0 where
  pub above : from ≤ u
  pub thread : u < thread_count s
  pub token : l.tag.what ≡ w
  pub carried : l.load ≡ load
  pub passed : may_pass s w from u

-- the token passed all threads from `from` on, and its completion went to its origin
pub record WentHome (s : Script) (w : What) (from : ℕ) (load : Load) (u : ℕ) (l : Letter) : Type 0 where
  pub completes : addressed ((u, l) ∷ []) ≡ completion w
  pub carried : l.load ≡ load
  pub passed : may_pass s w from (thread_count s)

-- what becomes of a token that is to go to the first thread from `from` on: it goes to a thread or home, or it is kept, since
-- it came back from a thread that has to run it, or from an origin that has exited
abbrev pub GoesOn : Script → What → ℕ → Load → List (ℕ × Letter) → Type 0
GoesOn s w from load [] = Unit {0}
GoesOn s w from load (p ∷ []) = WentTo s w from load p.0 p.1 ⊎ WentHome s w from load p.0 p.1
GoesOn s w from load (p ∷ q ∷ rest) = ⊥
