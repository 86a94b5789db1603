-- A thread stays of its run.
use Rattle.std.proofs.Common.{◌≡◌, ℕ, ◌<◌, List, [], length, map, refl, sym, ap, subst, ◌∙◌, Bool, Option}
use Rattle.std.specs.Prelude.{slice_index_or}
use Rattle.std.proofs.lemmas.List.{length-map, get_or-map, ext_get_or}
use Rattle.lw_ring.specs.Ends.{Sender, Receiver}
use Rattle.lw_place.specs.PlaceSeats.{ThreadEnd}
use Rattle.lw_load.specs.LoadEnds.{LoadEnd}
use Rattle.lw_thread.specs.declared.ending.Why.{Why}
use Rattle.lw_thread.specs.declared.ending.Why.TheVariants as why
use Rattle.lw_thread.specs.declared.ending.Ending.{Ending}
use Rattle.lw_thread.specs.declared.ending.Ending.TheVariants.{Ended, NotYet}
use Rattle.lw_thread.specs.Runs.{RunId, IsOf, IsRow, ring_of_end, ring_of_recv}
use Rattle.lw_thread.specs.Threads.{Thread, EndsStill, IsStill, IsThreadOf}
use Rattle.lw_thread.specs.Endings.{IsNotYet, EndsAs, EndsIn}

module _ {L F : Type 0} where
  -- ends stay as they are
  pub ends_same : (es : List (Sender L F)) → EndsStill es es
  ends_same es = record { count = refl; each = λ k d within. refl }

  rings_still : (es fs : List (Sender L F)) (d : Sender L F) → EndsStill es fs → map ring_of_end fs ≡ map ring_of_end es
  rings_still es fs d s = ext_get_or (ring_of_end d) (map ring_of_end fs) (map ring_of_end es) (length-map fs ring_of_end ∙ s.count ∙ sym (length-map es ring_of_end))
      (λ k within.
      (let here : k < length fs = subst (λ n. k < n) (length-map fs ring_of_end) within in
      let there : k < length es = subst (λ n. k < n) s.count here in
      get_or-map ring_of_end fs k d (ring_of_end d) here ∙ ap ring_of_end (s.each k d there) ∙ sym (get_or-map ring_of_end es k d (ring_of_end d) there)))

  row_still : (family : Option F) (thread now : ℕ) (es fs : List (Sender L F)) → now ≡ thread → EndsStill es fs → IsRow family thread es → IsRow family now fs
  row_still family thread now es fs same s row = λ k d within.
      (let there : k < length es = subst (λ n. k < n) s.count within in
      let one = s.each k d there in
      let was = row k d there in
      record { from = ap (λ (e : Sender L F). e.sender) one ∙ was.from ∙ sym same; number = ap (λ (e : Sender L F). e.number) one ∙ was.number; of_family = ap (λ (e : Sender L F). e.family) one ∙ was.of_family })

  -- what names the ring of a receiving end
  record SameRing (r q : Receiver L F) : Type 0 where
    ring : ring_of_recv q ≡ ring_of_recv r
    number : q.number ≡ r.number
    family : q.family ≡ r.family
    senders : q.senders ≡ r.senders
    known : q.known ≡ r.known

  of_run : (run : RunId F) (seat seat2 : ThreadEnd) (r q : Receiver L F) (es fs : List (Sender L F)) (load load2 : LoadEnd) → seat2.places ≡ seat.places → seat2.thread ≡ seat.thread → SameRing r q → EndsStill es fs → load2.cell ≡ load.cell → load2.thread ≡ load.thread
      → IsOf run seat r es load → IsOf run seat2 q fs load2
  of_run run seat seat2 r q es fs load load2 places thread same ends cell number h =
      let d : Sender L F = record { queue = r.queue; latch = r.latch; number = 0; family = r.family; sender = 0; sent = []; found = 0 } in
      record {
        places = places ∙ h.places;
        number = subst (λ n. n < length run.rings) (sym thread) h.number;
        its_ring = λ x. ap (λ n. slice_index_or run.rings n x) thread ∙ h.its_ring x ∙ sym same.ring;
        ring_number = same.number ∙ h.ring_number ∙ sym thread;
        family = same.family ∙ h.family;
        senders = same.senders ∙ h.senders;
        unsettled = same.known ∙ h.unsettled;
        rings = rings_still es fs d ends ∙ h.rings;
        row = row_still run.family seat.thread seat2.thread es fs thread ends h.row;
        load_number = number ∙ h.load_number ∙ sym thread;
        its_cell = λ x. ap (λ n. slice_index_or run.cells n x) thread ∙ h.its_cell x ∙ sym cell;
      }

module _ {L F M B : Type 0} where
  -- whoever is of a run stays of it
  pub of_run_still : (run : RunId F) (old new : Thread L F M B) → IsStill old new → IsThreadOf run old → IsThreadOf run new
  of_run_still run old new s h =
      let e = s.recv in
      of_run run old.seat new.seat old.recv new.recv old.ends new.ends old.load new.load s.seat.0 s.seat.1
      (record {
        ring = ap ring_of_recv e;
        number = ap (λ (r : Receiver L F). r.number) e;
        family = ap (λ (r : Receiver L F). r.family) e;
        senders = ap (λ (r : Receiver L F). r.senders) e;
        known = ap (λ (r : Receiver L F). r.known) e;
      })
      s.ends s.load.0 s.load.1 h

  -- nothing is another thread's
  pub still_same : (t : Thread L F M B) → IsStill t t
  still_same t = record { seat = (refl, refl); recv = refl; ends = ends_same t.ends; load = (refl, refl) }

  -- a thread of which all that names its run stays
  pub still_parts : (s t o : Thread L F M B) → s ≡ o → t.seat.places ≡ s.seat.places → t.seat.thread ≡ s.seat.thread → t.recv ≡ s.recv → t.ends ≡ s.ends → t.load.cell ≡ s.load.cell → t.load.thread ≡ s.load.thread → IsStill o t
  still_parts s t o e places thread recv ends cell number = subst (λ (x : Thread L F M B). IsStill x t) e
      (record {
        seat = (places, thread);
        recv = recv ∙ (λ i. record s.recv { taken = (sym recv i).taken; hand = (sym recv i).hand; tries = (sym recv i).tries; seen = (sym recv i).seen });
        ends = subst (λ (x : List (Sender L F)). EndsStill s.ends x) (sym ends) (ends_same s.ends);
        load = (cell, number);
      })

  pub still_both : (s t u : Thread L F M B) → IsStill s t → IsStill t u → IsStill s u
  still_both s t u a b = record {
    seat = (b.seat.0 ∙ a.seat.0, b.seat.1 ∙ a.seat.1);
    recv = b.recv ∙ ap (λ (r : Receiver L F). record r { taken = u.recv.taken; hand = u.recv.hand; tries = u.recv.tries; seen = u.recv.seen }) a.recv;
    ends = record {
      count = b.ends.count ∙ a.ends.count;
      each = λ n d within.
          (let one = a.ends.each n d within in
          let two = b.ends.each n d (subst (λ z. n < z) (sym a.ends.count) within) in
          two ∙ ap (λ (x : Sender L F). record x { sent = (slice_index_or u.ends n d).sent; found = (slice_index_or u.ends n d).found }) one);
    };
    load = (b.load.0 ∙ a.load.0, b.load.1 ∙ a.load.1);
  }

  module _ (ends : B → Bool) where
    -- a thread that hasn't ended
    pub not_yet_still : (t u : Thread L F M B) (w : Why) → IsNotYet ends t u w → IsStill t u
    not_yet_still t u why.NotAsked h = subst (λ (x : Thread L F M B). IsStill t x) (sym h.1) (still_same t)
    not_yet_still t u why.Pollers h = subst (λ (x : Thread L F M B). IsStill t x) (sym h.2) (still_same t)
    not_yet_still t u why.Body h = subst (λ (x : Thread L F M B). IsStill t x) (sym h.3) (still_same t)
    not_yet_still t u (why.Ring seen) h = subst (λ (x : Thread L F M B). IsStill t x) (sym h.2) (record { seat = (refl, refl); recv = refl; ends = ends_same t.ends; load = (refl, refl) })

    -- what comes of a try to end it
    pub of_run_ends : (run : RunId F) (t : Thread L F M B) (e : Ending B M L F) → EndsAs ends t e → IsThreadOf run t → EndsIn run e
    of_run_ends run t (NotYet u w) h of = of_run_still run t u (not_yet_still t u w h) of
    of_run_ends run t (Ended r) h of =
        let e = h.recv in
        of_run run t.seat r.seat t.recv r.recv t.ends r.ends t.load r.load (ap (λ (s : ThreadEnd). s.places) h.seat) (ap (λ (s : ThreadEnd). s.thread) h.seat)
        (record {
          ring = ap ring_of_recv e;
          number = ap (λ (r : Receiver L F). r.number) e;
          family = ap (λ (r : Receiver L F). r.family) e;
          senders = ap (λ (r : Receiver L F). r.senders) e;
          known = ap (λ (r : Receiver L F). r.known) e;
        })
        (subst (λ (x : List (Sender L F)). EndsStill t.ends x) (sym h.same_ends) (ends_same t.ends))
        (ap (λ (l : LoadEnd). l.cell) h.load) (ap (λ (l : LoadEnd). l.thread) h.load) of
