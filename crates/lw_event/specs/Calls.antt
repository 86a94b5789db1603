-- What the sends of a desk say.
use Rattle.std.specs.Prelude.{◌≡◌, ℕ, ◌<◌, [], ◌∷◌, ◌++◌, length, slice_index_or, slice_set}
use Rattle.lw_latch.specs.RingWord.{most_sent}
use Rattle.lw_ring.specs.Ends.{Sender}
use Rattle.lw_thread.specs.Runs.{RunId}
use Rattle.lw_ring.specs.Calls.{EmptyAt}
use Rattle.lw_event.specs.Letters.{Letter, tag_in, with_name}
use Rattle.lw_event.specs.Events.{letter_of, event_fits}
use Rattle.lw_event.specs.Desks.{Desk}
use Rattle.lw_event.specs.declared.event.Event.{Event}
use Rattle.lw_event.specs.declared.refusal.EventRefusal.{EventRefusal}
use Rattle.lw_event.specs.declared.refusal.EventRefusal.TheVariants.{Spent, NoMemory}

module _ {B M L F : Type 0} where
  -- the event was sent to a reactor: it stands last in what this one has sent there, named by this one and its place there
  pub record IsSent (to : ℕ) (event : Event B M L F) (old new : Desk B M L F) : Type 0 where
    pub end : Sender Letter (RunId F)
    pub at : (d : Sender Letter (RunId F)) → slice_index_or old.ends to d ≡ end
    pub room : length end.sent < most_sent
    pub sent : new ≡ record old { ends = slice_set old.ends to (record end { sent = end.sent ++ with_name (letter_of event) old.number (length end.sent) ∷ [] }) }

  -- the end has sent the most that it can, and the event is handed back
  pub record IsSpent (end : Sender Letter (RunId F)) (event back : Event B M L F) (count : ℕ) : Type 0 where
    pub whole : back ≡ event
    pub most : length end.sent ≡ most_sent
    pub told : count ≡ most_sent

  -- there was no memory, and the event is handed back
  pub record IsWithoutMemory (end : Sender Letter (RunId F)) (event back : Event B M L F) : Type 0 where
    pub whole : back ≡ event
    pub room : length end.sent < most_sent

  -- why an end has not sent an event, and what it handed back
  abbrev pub IsRefusedBy : Sender Letter (RunId F) → Event B M L F → EventRefusal B M L F → Type 0
  IsRefusedBy end event (Spent back count) = IsSpent end event back count
  IsRefusedBy end event (NoMemory back) = IsWithoutMemory end event back

  -- the same of a desk's end to a reactor
  abbrev pub IsRefused : ℕ → Event B M L F → Desk B M L F → EventRefusal B M L F → Type 0
  IsRefused to event desk refusal = (d : Sender Letter (RunId F)) → IsRefusedBy (slice_index_or desk.ends to d) event refusal

  -- at a moment nothing waited in the desk's ring, while the desk knew this
  abbrev pub WasEmpty : Desk B M L F → Type 0
  WasEmpty d = EmptyAt (letter_of {B = B} {M = M} {L = L} {F = F}) tag_in event_fits d.recv
