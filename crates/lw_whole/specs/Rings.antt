-- What settled rings say of the logs.
use Rattle.std.specs.Prelude.{ℕ, ◌≡◌, ◌<◌, List, length}
use Rattle.lw_model.specs.Sent.{to_thread}
use Rattle.lw_base.specs.Letters.{sent_by, Numbered}
use Rattle.lw_whole.specs.Logs.{Log, run_by, sent_by_thread}

-- the ring of each thread was closed and settled with all its ends: of each sender, what the thread ran is what the sender
-- sent to it, in order; and what each end sent is numbered from 0
pub record RingsSettled (logs : List Log) : Type 0 where
  pub run_is_sent : (t s : ℕ) → t < length logs → sent_by (λ l. l.tag) s (run_by logs t) ≡ to_thread t (sent_by_thread logs s)
  pub numbered : (t s : ℕ) → t < length logs → s < length logs → Numbered (λ l. l.tag) s (to_thread t (sent_by_thread logs s))
