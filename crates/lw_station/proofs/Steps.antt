-- What the handling of events leaves alone, and how it goes on.
use Rattle.std.proofs.Common.{◌≡◌, ◌+◌, ◌<◌, ◌≤◌, ℕ, zero, suc, List, [], ◌∷◌, ◌++◌, length, refl, sym, ap, subst, ◌∙◌, ⊎_elim, arith}
use Rattle.std.specs.Prelude.{remove, slice_index_or}
use Rattle.std.proofs.lemmas.List.{length_push}
use Rattle.std.proofs.lemmas.List.Edits.{length-remove}
use Rattle.lw_place.specs.declared.place.Place.TheVariants as place
use Rattle.lw_ring.specs.Ends.{Sender, Receiver}
use Rattle.lw_thread.specs.Runs.{RunId}
use Rattle.lw_thread.specs.Threads.{Thread}
use Rattle.lw_event.specs.Letters.{Letter}
use Rattle.lw_event.specs.Calls.{IsSent}
use Rattle.lw_event.specs.Desks.{Desk, IsStill}
use Rattle.lw_event.specs.declared.event.Event.{Event}
use Rattle.lw_event.specs.declared.event.Event.TheVariants.{Arrive, Order}
use Rattle.lw_event.proofs.Keeping.{same_ends, set_still, still_ends, still_batch}
use Rattle.lw_station.specs.declared.stop.Stop.{Stop}
use Rattle.lw_station.specs.Stations.{StationEnd}
use Rattle.lw_station.specs.Stopping.{DeskStops}
use Rattle.lw_station.specs.Handling.{Departs, DepartsNot, Starts, Obeys, ObeysNot, Handles, HandlesNot, HandlesNext, StopsNext, HandlesEach, with_batch, arrived, at_place}
use Rattle.lw_station.proofs.Refusals.{refuses_stops}

module _ {B M L F : Type 0} where
  pub same_still : (d : Desk B M L F) → IsStill d d
  same_still d = record { number = refl; recv = refl; ends = same_ends d.ends }

  pub still_both : (d e f : Desk B M L F) → IsStill d e → IsStill e f → IsStill d f
  still_both d e f a b = record {
    number = b.number ∙ a.number;
    recv = b.recv ∙ ap (λ (r : Receiver Letter (RunId F)). record r { taken = f.recv.taken; hand = f.recv.hand }) a.recv;
    ends = record {
      count = b.ends.count ∙ a.ends.count;
      each = λ n s within.
          (let one = a.ends.each n s within in
          let two = b.ends.each n s (subst (λ z. n < z) (sym a.ends.count) within) in
          two ∙ ap (λ (x : Sender Letter (RunId F)). record x { sent = (slice_index_or f.ends n s).sent; found = (slice_index_or f.ends n s).found }) one);
    };
  }

  pub sent_still : (to : ℕ) (event : Event B M L F) (d e : Desk B M L F) → IsSent to event d e → IsStill d e
  sent_still to event d e h = subst (IsStill d) (sym h.sent) (still_ends d _ (set_still d.ends to h.end _ h.at refl))

module _ {L F M B : Type 0} where
  -- what a step of the station leaves alone: its number, the room of its list, whose desk it has, and what was taken. The list
  -- gets one thread more at most.
  pub record StepsOn (s n : StationEnd L F M B) : Type 0 where
    pub number : n.number ≡ s.number
    pub room : n.room ≡ s.room
    pub still : IsStill s.events n.events
    pub batch : n.events.batch ≡ s.events.batch
    pub longer : length n.list ≤ length s.list + 1

  same_steps : (s n : StationEnd L F M B) → n ≡ s → StepsOn s n
  same_steps s n e = subst (StepsOn s) (sym e) (record { number = refl; room = refl; still = same_still s.events; batch = refl; longer = omega arith })

  -- a thread more at the end of the list
  push_steps : (s n : StationEnd L F M B) (t : Thread L F M B) → n ≡ record s { list = s.list ++ t ∷ [] } → StepsOn s n
  push_steps s n t e = subst (StepsOn s) (sym e) (record { number = refl; room = refl; still = same_still s.events; batch = refl; longer = (let long = length_push s.list t in omega arith) })

  starts_steps : (number : ℕ) (s n : StationEnd L F M B) → Starts number s n → StepsOn s n
  starts_steps number s n h = subst (StepsOn s) (sym h.station)
      (record { number = refl; room = refl; still = same_still s.events; batch = refl; longer = (let long = length_push s.list (at_place (place.List s.number) h.thread) in omega arith) })

  departs_steps : (round number to : ℕ) (s n : StationEnd L F M B) → Departs round number to s n → StepsOn s n
  departs_steps round number to s n h =
      let sent = h.posted.sent in
      let short = length-remove s.list h.at h.is_at.range in
      subst (StepsOn s) (sym h.station)
      (record { number = refl; room = refl; still = sent_still to _ s.events n.events sent; batch = ap (λ (d : Desk B M L F). d.batch) sent.sent; longer = omega arith })

  departs_not_steps : (round number to : ℕ) (why : Stop) (s n : StationEnd L F M B) → DepartsNot round number to why s n → StepsOn s n
  departs_not_steps round number to why s n h =
      let short = length-remove s.list h.at h.is_at.range in
      let long = length_push (remove s.list h.at) h.thread in
      subst (StepsOn s) (sym h.station) (record { number = refl; room = refl; still = same_still s.events; batch = refl; longer = omega arith })

  obeys_steps : (round number to : ℕ) (s n : StationEnd L F M B) → Obeys round number to s n → StepsOn s n
  obeys_steps zero number to s n h = ⊎_elim (λ a. starts_steps number s n a) (λ b. same_steps s n b.1) h
  obeys_steps (suc round) number to s n h = ⊎_elim (λ a. departs_steps (suc round) number to s n a) (λ b. same_steps s n b.1) h

  obeys_not_steps : (round number to : ℕ) (why : Stop) (s n : StationEnd L F M B) → ObeysNot round number to why s n → StepsOn s n
  obeys_not_steps zero number to why s n h = absurd h
  obeys_not_steps (suc round) number to why s n h = departs_not_steps (suc round) number to why s n h

  handles_steps : (e : Event B M L F) (s n : StationEnd L F M B) → Handles e s n → StepsOn s n
  handles_steps (Arrive sender number round id t) s n h = push_steps s n (arrived s.number round t) h
  handles_steps (Order sender number round t to) s n h = obeys_steps round t to s n h

  handles_not_steps : (e : Event B M L F) (why : Stop) (s n : StationEnd L F M B) → HandlesNot e why s n → StepsOn s n
  handles_not_steps (Arrive sender number round id t) why s n h = push_steps s n (at_place (place.List s.number) t) h.1
  handles_not_steps (Order sender number round t to) why s n h = obeys_not_steps round t to why s n h

  -- the same of the next event, which was handed out
  pub record StepsNext (s n : StationEnd L F M B) : Type 0 where
    pub number : n.number ≡ s.number
    pub room : n.room ≡ s.room
    pub still : IsStill s.events n.events
    pub longer : length n.list ≤ length s.list + 1

  next_steps_on : (rest : List (Event B M L F)) (s n : StationEnd L F M B) → StepsOn (with_batch rest s) n → StepsNext s n
  next_steps_on rest s n h = record { number = h.number; room = h.room; still = still_both s.events (with_batch rest s).events n.events (still_batch s.events rest) h.still; longer = h.longer }

  pub next_steps : (e : Event B M L F) (s n : StationEnd L F M B) → HandlesNext e s n → StepsNext s n
  next_steps e s n h = next_steps_on h.rest s n (handles_steps e (with_batch h.rest s) n h.handled)

  pub stop_steps : (e : Event B M L F) (why : Stop) (s n : StationEnd L F M B) → StopsNext e why s n → StepsNext s n
  stop_steps e why s n h = next_steps_on h.rest s n (handles_not_steps e why (with_batch h.rest s) n h.stopped)

  -- what is still to be handled
  pub next_rest : (e : Event B M L F) (s n : StationEnd L F M B) → HandlesNext e s n → s.events.batch ≡ e ∷ n.events.batch
  next_rest e s n h = h.next.batch ∙ ap (λ r. e ∷ r) (sym (handles_steps e (with_batch h.rest s) n h.handled).batch)

  -- one event more
  pub each_more : (es : List (Event B M L F)) (e : Event B M L F) (m s n : StationEnd L F M B) → HandlesEach es m s → HandlesNext e s n → HandlesEach (es ++ e ∷ []) m n
  each_more [] e m s n h next = (n, subst (λ (x : StationEnd L F M B). HandlesNext e x n) h next, refl)
  each_more (d ∷ ds) e m s n h next = (h.0, h.1, each_more ds e h.0 s n h.2 next)

  -- whose station it is stays
  pub each_number : (es : List (Event B M L F)) (s n : StationEnd L F M B) → HandlesEach es s n → n.number ≡ s.number
  each_number [] s n h = ap (λ (x : StationEnd L F M B). x.number) h
  each_number (e ∷ es) s n h = each_number es h.0 n h.2 ∙ (next_steps e s h.0 h.1).number

  pub each_still : (es : List (Event B M L F)) (s n : StationEnd L F M B) → HandlesEach es s n → IsStill s.events n.events
  each_still [] s n h = subst (λ (x : StationEnd L F M B). IsStill s.events x.events) (sym h) (same_still s.events)
  each_still (e ∷ es) s n h = still_both s.events (h.0).events n.events (next_steps e s h.0 h.1).still (each_still es h.0 n h.2)

  -- the end that refused shows why it stopped
  departs_not_shown : (round number to : ℕ) (why : Stop) (s n : StationEnd L F M B) → DepartsNot round number to why s n → DeskStops n.events why
  departs_not_shown round number to why s n h = subst (λ (x : StationEnd L F M B). DeskStops x.events why) (sym h.station) (refuses_stops to s.events why h.refused)

  obeys_not_shown : (round number to : ℕ) (why : Stop) (s n : StationEnd L F M B) → ObeysNot round number to why s n → DeskStops n.events why
  obeys_not_shown zero number to why s n h = absurd h
  obeys_not_shown (suc round) number to why s n h = departs_not_shown (suc round) number to why s n h

  handles_not_shown : (e : Event B M L F) (why : Stop) (s n : StationEnd L F M B) → HandlesNot e why s n → DeskStops n.events why
  handles_not_shown (Arrive sender number round id t) why s n h = subst (DeskStops n.events) (sym h.0) tt
  handles_not_shown (Order sender number round t to) why s n h = obeys_not_shown round t to why s n h

  pub stop_shown : (e : Event B M L F) (why : Stop) (s n : StationEnd L F M B) → StopsNext e why s n → DeskStops n.events why
  stop_shown e why s n h = handles_not_shown e why (with_batch h.rest s) n h.stopped
