-- What settling says: of each reactor and each sender, what was handed out and then what is left is what was sent.
use Rattle.std.specs.Prelude.{◌≡◌, ℕ, ◌<◌, List, [], ◌∷◌, ◌++◌, length, map, slice_index_or}
use Rattle.lw_base.specs.Letters.{sent_by, list_at}
use Rattle.lw_ring.specs.Ends.{Receiver}
use Rattle.lw_ring.specs.Queue.{AllFit}
use Rattle.lw_ring.specs.Settling.{all_sent}
use Rattle.lw_thread.specs.Runs.{RunId}
use Rattle.lw_event.specs.Letters.{Letter, tag_in}
use Rattle.lw_event.specs.Events.{letter_of, event_fits}
use Rattle.lw_event.specs.Desks.{Desk}
use Rattle.lw_event.specs.declared.event.Event.{Event}

-- the lists one after the other
abbrev pub joined : {X : Type 0} → List (List X) → List X
joined [] = []
joined (xs ∷ rest) = xs ++ joined rest

module _ {B M L F : Type 0} where
  -- what each of these desks has sent to a reactor, by its number
  abbrev pub sent_to : ℕ → List (Desk B M L F) → List (List Letter)
  sent_to reactor ds = map (λ d. list_at (all_sent d.ends) reactor) ds

  -- What is left of a ring. Of each sender, what was handed out and then its part of what is left is what it sent: all that was
  -- taken was handed out but the batch. Each fits the ring.
  pub record IsRest (recv : Receiver Letter (RunId F)) (batch : List (Event B M L F)) (sent : List (List Letter)) (rest : List (Event B M L F)) : Type 0 where
    pub each : (handed : List Letter) → recv.taken ≡ handed ++ map letter_of batch → (p : ℕ) → sent_by tag_in p (handed ++ map letter_of rest) ≡ list_at sent p
    pub fits : AllFit letter_of tag_in event_fits recv.number recv.family recv.senders rest

  -- What is left of all rings, those to reactor 0 first. The parts are one a reactor.
  pub record AreLeft (ds : List (Desk B M L F)) (events : List (Event B M L F)) : Type 0 where
    pub parts : List (List (Event B M L F))
    pub count : length parts ≡ length ds
    pub whole : events ≡ joined parts
    pub each : (k : ℕ) (d : Desk B M L F) (part : List (Event B M L F)) → k < length ds → IsRest (slice_index_or ds k d).recv (slice_index_or ds k d).batch (sent_to k ds) (slice_index_or parts k part)
