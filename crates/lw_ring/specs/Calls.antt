-- What the calls of the ends say.
use Rattle.std.specs.Prelude.{◌≡◌, ℕ, ◌+◌, ◌<◌, ◌≤◌, List, [], ◌++◌, IsSome, true, false, length, slice_index_or}
use Rattle.lw_base.specs.declared.message.Tag.{Tag}
use Rattle.lw_base.specs.Letters.{Names}
use Rattle.lw_ring.specs.declared.ends.SendRefusal.{SendRefusal}
use Rattle.lw_ring.specs.declared.ends.SendRefusal.TheVariants.{Spent, Exited, NoMemory}
use Rattle.lw_ring.specs.Ends.{Sender, Receiver}
use Rattle.lw_latch.specs.RingWord.{most_sent}
use Rattle.lw_ring.specs.Queue.{Saw}

-- the messages name the sender, and the numbers from this one on
abbrev pub NamedFrom : {T L : Type 0} → (T → L) → (L → Tag) → ℕ → ℕ → List T → Type 0
NamedFrom {T} letter tag_of sender first xs = (k : ℕ) (d : T) → k < length xs → Names (tag_of (letter (slice_index_or xs k d))) sender (first + k)

-- What a refused send of so many messages hands back, why it was refused, and what it leaves.

-- the end would have sent too many
pub record AfterSpent {X L F : Type 0} (back value : X) (count : ℕ) (old new : Sender L F) : Type 0 where
  pub whole : back ≡ value
  pub no_room : most_sent < length old.sent + count
  pub same : new ≡ old

-- the end has found the ring closed once more
pub record AfterExited {X L F : Type 0} (back value : X) (count : ℕ) (old new : Sender L F) : Type 0 where
  pub whole : back ≡ value
  pub room : length old.sent + count ≤ most_sent
  pub latch : IsSome old.latch
  pub found : new ≡ record old { found = old.found + 1 }

-- there was no memory; the end has never found the ring closed
pub record AfterNoMemory {X L F : Type 0} (back value : X) (count : ℕ) (old new : Sender L F) : Type 0 where
  pub whole : back ≡ value
  pub room : length old.sent + count ≤ most_sent
  pub never_found : old.found ≡ 0
  pub same : new ≡ old

abbrev pub AfterRefusal : {X L F : Type 0} → SendRefusal X → X → ℕ → Sender L F → Sender L F → Type 0
AfterRefusal (Spent back) value count old new = AfterSpent back value count old new
AfterRefusal (Exited back) value count old new = AfterExited back value count old new
AfterRefusal (NoMemory back) value count old new = AfterNoMemory back value count old new

-- what a take gave, and what is in the receiver's hand behind it: what was in hand before, and what then came off the queue
pub record InTurn {L : Type 0} (before given after : List L) : Type 0 where
  pub more : List L
  pub parts : before ++ more ≡ given ++ after

module _ {T L F : Type 0} (letter : T → L) (tag_of : L → Tag) (fits : ℕ → F → T → Type 0) where
  -- at one moment nothing waited, while the receiver knew this
  abbrev pub EmptyAt : Receiver L F → Type 0
  EmptyAt r = Saw letter tag_of fits (record { fresh = false; number = r.number; family = r.family; sends = false; from = 0; put = []; gets = true; made = r.senders; got = r.taken ++ r.hand; known = r.known }) []
