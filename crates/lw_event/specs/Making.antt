-- The rings that desks are made of.
use Rattle.std.specs.Prelude.{◌≡◌, ℕ, ◌<◌, ◌≤◌, List, [], length, map, All, Some, None, slice_index_or}
use Rattle.lw_place.specs.PlaceWord.{most_reactors}
use Rattle.lw_ring.specs.Ends.{Sender, Receiver, new_receiver}
use Rattle.lw_thread.specs.Runs.{RunId, RingId, ring_of_end, IsRow}
use Rattle.lw_event.specs.Letters.{Letter}
use Rattle.lw_event.specs.Desks.{Desk, HasReactors}

module _ {F : Type 0} where
  -- the receiving ends of new rings, in order
  abbrev pub AreNewRecvs : RunId F → ℕ → List (Receiver Letter (RunId F)) → Type 0
  AreNewRecvs run count rs = (k : ℕ) (d : Receiver Letter (RunId F)) → k < length rs → slice_index_or rs k d ≡ new_receiver (slice_index_or rs k d).queue None k (Some run) count

  -- the ends of one sender to these rings, by which nothing was sent
  pub record IsNewRow (run : RunId F) (rings : List RingId) (sender : ℕ) (es : List (Sender Letter (RunId F))) : Type 0 where
    pub rings_are : map ring_of_end es ≡ rings
    pub row : IsRow (Some run) sender es
    pub all_open : All (λ e. e.latch ≡ None) es
    pub unsent : All (λ e. (e.sent ≡ []) × (e.found ≡ 0)) es

  -- a desk can be made of a receiving end by which nothing was taken, and of the ends to all rings
  pub record AreParts (number : ℕ) (recv : Receiver Letter (RunId F)) (es : List (Sender Letter (RunId F))) : Type 0 where
    pub recv_is : recv ≡ new_receiver recv.queue None number recv.family (length es)
    pub some : 1 ≤ length es
    pub few : length es ≤ most_reactors
    pub run : HasReactors (length es) recv.family
    pub row : IsRow recv.family number es
    pub all_open : All (λ e. e.latch ≡ None) es

-- a desk by which nothing was taken
abbrev pub new_desk : {B M L F : Type 0} → ℕ → Receiver Letter (RunId F) → List (Sender Letter (RunId F)) → Desk B M L F
new_desk number recv es = record { number = number; recv = recv; ends = es; batch = [] }
