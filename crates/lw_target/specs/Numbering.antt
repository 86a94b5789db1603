-- How the messages to one thread are numbered: those that it ran and, behind them, those that wait.
use Rattle.std.specs.Prelude.{ℕ, ◌≡◌, ◌<◌, ◌==◌, true, List, ◌++◌, length, map, slice_index, count_by}
use Rattle.lw_base.specs.declared.message.Tag.{Tag}
use Rattle.lw_target.specs.declared.mail.Mail.{Mail}
use Rattle.lw_target.specs.WholeRun.{are_numbered}

-- all messages that came, in order
abbrev pub came : List Tag → List Mail → List Tag
came ran waiting = ran ++ map (λ m. m.tag) waiting

-- each message is numbered by how many of its sender came before, and of each sender that many are counted
pub record IsNumbered (ran : List Tag) (waiting : List Mail) (sent : List ℕ) : Type 0 where
  pub numbered : are_numbered (came ran waiting) ≡ true
  pub counted : (s : ℕ) → s < length sent → slice_index sent s ≡ count_by (λ m. m.sender == s) (came ran waiting)
