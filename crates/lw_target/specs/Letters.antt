-- Messages under way, whatever their numbers, and what each thread was told by each.
use Rattle.std.specs.Prelude.{ℕ, zero, suc, ◌≡◌, ◌==◌, List, ◌++◌, map, filter}
use Rattle.lw_base.specs.declared.message.What.{What}
use Rattle.lw_target.specs.declared.mail.Load.{Load}
use Rattle.lw_target.specs.declared.acts.Outgoing.{Outgoing}
use Rattle.lw_target.specs.Messages.{Inbox}
use Rattle.lw_target.specs.WholeRun.{run_from}

-- a message without its number
pub record Letter : Type 0 where
  pub sender : ℕ
  pub what : What
  pub load : Load

-- what waits in an inbox, in order
abbrev pub letters : Inbox → List Letter
letters i = map (λ m. record { sender = m.tag.sender; what = m.tag.what; load = m.load }) i.waiting

-- what of these is of one sender
abbrev pub said_by : ℕ → List Letter → List What
said_by s ls = map (λ l. l.what) (filter (λ l. l.sender == s) ls)

-- all that a sender told the thread: what was run and, behind it, what waits
abbrev pub told : Inbox → ℕ → List What
told i s = run_from s i.ran ++ said_by s (letters i)

-- the thread whose post takes what is sent to a number: the app's, the client's, and else the owner's
abbrev pub post_of : ℕ → ℕ
post_of zero = 0
post_of (suc zero) = 1
post_of (suc (suc n)) = 2

-- what a sender's sends leave in the post of one thread
abbrev pub posted : ℕ → ℕ → List Outgoing → List Letter
posted thread sender sends = map (λ o. record { sender = sender; what = o.what; load = o.load }) (filter (λ o. post_of o.to == thread) sends)

-- more messages wait in an inbox, behind those that did, and nothing was run
pub record Got (old new : Inbox) (more : List Letter) : Type 0 where
  pub ran : new.ran ≡ old.ran
  pub waiting : letters new ≡ letters old ++ more
