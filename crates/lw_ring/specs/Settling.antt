-- What `settle` says.
use Rattle.std.specs.Prelude.{◌≡◌, ℕ, ◌+◌, ◌<◌, List, [], ◌∷◌, map, length, slice_index_or}
use Rattle.lw_ring.specs.declared.settling.Pair.{Pair}
use Rattle.lw_ring.specs.Ends.{Sender, Receiver, IsEnd}

module _ {L F : Type 0} where
  -- these are all ends of the receiver's ring, in order
  pub record AreAllEnds (r : Receiver L F) (es : List (Sender L F)) : Type 0 where
    pub count : length es ≡ r.senders
    pub each : (k : ℕ) (d : Sender L F) → k < length es → IsEnd r k (slice_index_or es k d)

  -- what each end has sent
  abbrev pub all_sent : List (Sender L F) → List (List L)
  all_sent es = map (λ e. e.sent) es

  -- how often the ends have found the ring closed
  abbrev pub all_found : List (Sender L F) → ℕ
  all_found [] = 0
  all_found (e ∷ es) = e.found + all_found es

-- the pair of a sender all of whose messages were taken
abbrev pub whole : {L : Type 0} → List L → Pair
whole ls = record { sent = length ls; run = length ls }
