-- What a thread has sent, and what it is still to send.
use Rattle.std.specs.Prelude.{ℕ, ◌+◌, ◌≡◌, ◌<◌, List, [], ◌∷◌, ◌++◌, length}
use Rattle.lw_base.specs.Letters.{list_at}
use Rattle.lw_model.specs.Sent.{to_thread}
use Rattle.lw_whole.specs.Letters.{Letter}

-- a letter with a sender and a number
abbrev pub named : Letter → ℕ → ℕ → Letter
named x s n = record x { tag = record x.tag { sender = s; number = n } }

-- letters of one sender to one receiver, numbered from n on
abbrev pub named_from : ℕ → ℕ → List Letter → List Letter
named_from s n [] = []
named_from s n (x ∷ xs) = named x s n ∷ named_from s (n + 1) xs

-- of each thread: what goes to it of all that thread s asked to send is what was sent to it, and then what is still to be sent
-- to it, under the numbers that come next
abbrev pub AreSent : ℕ → List (List Letter) → List (ℕ × Letter) → List (ℕ × Letter) → Type 0
AreSent s sent unsent all = (t : ℕ) → t < length sent → to_thread t all ≡ list_at sent t ++ named_from s (length (list_at sent t)) (to_thread t unsent)
