-- The ends of desks, by their rings.
use Rattle.std.specs.Prelude.{◌≡◌, ℕ, List, []}
use Rattle.lw_ring.specs.Ends.{Sender, Receiver}
use Rattle.lw_ring.specs.Queue.{AllFit}
use Rattle.lw_ring.specs.Settling.{AreAllEnds, all_sent}
use Rattle.lw_thread.specs.Runs.{RunId}
use Rattle.lw_event.specs.Letters.{Letter, tag_in}
use Rattle.lw_event.specs.Events.{letter_of, event_fits}
use Rattle.lw_event.specs.Desks.{Desk}
use Rattle.lw_event.specs.Leaving.{sent_to}
use Rattle.lw_event.specs.declared.event.Event.{Event}

module _ {B M L F : Type 0} where
  -- a receiving end, what was taken by it and not handed out, and all ends of its ring
  pub record IsPaired (recv : Receiver Letter (RunId F)) (batch : List (Event B M L F)) (es : List (Sender Letter (RunId F))) : Type 0 where
    pub unsettled : recv.known ≡ []
    pub all : AreAllEnds recv es
    pub fits : AllFit letter_of tag_in event_fits recv.number recv.family recv.senders batch

  -- the same of one of these desks, whose number this is
  pub record IsRegrouped (ds : List (Desk B M L F)) (reactor : ℕ) (d : Desk B M L F) (recv : Receiver Letter (RunId F)) (batch : List (Event B M L F)) (es : List (Sender Letter (RunId F))) : Type 0 where
    pub recv_is : recv ≡ d.recv
    pub batch_is : batch ≡ d.batch
    pub sent : all_sent es ≡ sent_to reactor ds
    pub paired : IsPaired recv batch es
