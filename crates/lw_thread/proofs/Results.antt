-- What a poll leaves is kept, and what it did is one poll.
use Rattle.std.proofs.Common.{◌≡◌, ℕ, ◌<◌, ◌≤◌, Bool, true, false, List, [], ◌++◌, length, map, take, sym, ap, subst, ◌∙◌, append_assoc, ⊎_elim, Ok, Err, inl, inr, Some}
use Rattle.std.specs.Prelude.{is_err, IfOk, IfErr, OnOk, IsSome}
use Rattle.std.specs.declared.result.Result.{Result}
use Rattle.std.proofs.lemmas.Bool.{false≢true}
use Rattle.std.proofs.lemmas.List.{append-nil, length-map, map-append}
use Rattle.std.proofs.Math.Seq.{take-length}
use Rattle.lw_base.specs.declared.message.Tag.{Tag}
use Rattle.lw_base.specs.declared.moves.Hop.{Hop}
use Rattle.lw_latch.specs.RingWord.{most_senders}
use Rattle.lw_place.specs.PlaceSeats.{ThreadEnd}
use Rattle.lw_load.specs.LoadEnds.{LoadEnd}
use Rattle.lw_poller.specs.Pollers.{AreKept}
use Rattle.lw_ring.specs.Ends.{Sender, Receiver}
use Rattle.lw_ring.specs.Settling.{all_sent}
use Rattle.lw_thread.specs.declared.body.Work.{Work}
use Rattle.lw_thread.specs.declared.stop.Stop.{Stop}
use Rattle.lw_thread.specs.declared.stop.Stop.TheVariants as stop
use Rattle.lw_thread.specs.declared.stop.Polled.{Polled}
use Rattle.lw_thread.specs.Acts.{Known, Asks, ActsEnd, Doing, asks_of}
use Rattle.lw_thread.specs.Threads.{Thread, AreItsEnds, WasRun, IsKept, IsLawful, known_of}
use Rattle.lw_thread.specs.Links.{Tied, known_tied}
use Rattle.lw_thread.specs.Polls.{Polls, Sends, SendsUntil, Stops, IsStop, PollsUntil, CameTo, Takes}
use Rattle.lw_thread.specs.Posting.{IsGoing, HasStopped, PollsParts, StopsParts, PartsUntil, CameToParts, TookParts, IsStillTied}

-- the thread with these parts
abbrev pub thread_with : {L F M B : Type 0} → Tied L F → ActsEnd M → B → ThreadEnd → LoadEnd → List Hop → Bool → Thread L F M B
thread_with k a b seat load trail stopped = record { body = b; acts = a; recv = k.recv; ends = k.ends; seat = seat; load = load; ran = k.ran; left = k.left; trail = trail; stopped = stopped }

-- its ends stay those that they were
still_ends : {L F : Type 0} (thread : ℕ) (k l : Tied L F) → AreItsEnds thread k.recv k.ends → IsStillTied k l → AreItsEnds thread l.recv l.ends
still_ends {L} {F} thread k l h s =
    let recv = s.recv in
    let count = s.ends.count in
    let family = ap (λ (r : Receiver L F). r.family) recv in
    record {
      number = ap (λ (r : Receiver L F). r.number) recv ∙ h.number;
      latch = subst (λ o. IsSome o) (sym (ap (λ (r : Receiver L F). r.latch) recv)) h.latch;
      not_closed = ap (λ (r : Receiver L F). r.closed) recv ∙ h.not_closed;
      senders = ap (λ (r : Receiver L F). r.senders) recv ∙ h.senders ∙ sym count;
      few = subst (λ n. n ≤ most_senders) (sym count) h.few;
      own = subst (λ n. thread < n) (sym count) h.own;
      row = λ n d within. (let inside = subst (λ z. n < z) count within in
          let one = s.ends.each n d inside in
          let was = h.row n d inside in
          record {
            from = ap (λ (e : Sender L F). e.sender) one ∙ was.from;
            number = ap (λ (e : Sender L F). e.number) one ∙ was.number;
            of_family = ap (λ (e : Sender L F). e.family) one ∙ was.of_family ∙ sym family;
          });
    }

-- and what was taken is what was run, and what is left
still_run : {L F : Type 0} (tag_of : L → Tag) (k l : Tied L F) → WasRun tag_of k.recv.taken k.ran k.left → k.left ≡ [] → TookParts tag_of k l → WasRun tag_of l.recv.taken l.ran l.left
still_run {L} {F} tag_of k l w none s = record {
  run = w.run ++ s.run;
  parts = s.took ∙ (λ i. ((w.parts ∙ ap (λ ls. w.run ++ ls) none ∙ append-nil w.run) i) ++ s.parts i) ∙ sym (append_assoc w.run s.run l.left);
  tags = s.ran ∙ (λ i. w.tags i ++ map tag_of s.run) ∙ sym (map-append tag_of w.run s.run);
}

module _ {L F M B : Type 0} (letter : M → L) (tag_of : L → Tag) (fits : ℕ → F → M → Type 0) (lawful : Known L F → Asks L → B → Type 0) where
  -- a thread that goes on is lawful
  going_lawful : (l : Tied L F) (c : ActsEnd M) (d : B) (seat : ThreadEnd) (load : LoadEnd) (trail : List Hop) (stopped : Bool) → l.thread ≡ seat.thread → WasRun tag_of l.recv.taken l.ran l.left
      → IsGoing letter fits lawful l c d × (c.pending ≡ []) × (c.started ≡ []) × (l.left ≡ []) → AreKept c.pollers → IsLawful letter lawful (thread_with l c d seat load trail stopped)
  going_lawful l c d seat load trail stopped thread w g pollers =
      let going = g.0 in
      let none = g.3 in
      let run_count = ap length w.tags ∙ length-map w.run tag_of in
      let taken : l.recv.taken ≡ w.run = w.parts ∙ ap (λ ls. w.run ++ ls) none ∙ append-nil w.run in
      let size : length l.ran ≡ length l.recv.taken = run_count ∙ ap length (sym taken) in
      let whole : take (length l.ran) l.recv.taken ≡ l.recv.taken = ap (λ n. take n l.recv.taken) size ∙ take-length l.recv.taken in
      let known : known_tied l ≡ known_of seat.thread l.recv l.ends = λ i. record { thread = thread i; family = l.recv.family; ran = whole i; sent = all_sent l.ends } in
      record {
        all_run = none;
        threads = going.of.threads ∙ length-map l.ends (λ (e : Sender L F). e.sent);
        counted = going.of.ran ∙ ap length whole;
        none_pending = g.1;
        none_started = g.2;
        pollers = pollers;
        keeps = subst (λ (k : Known L F). lawful k (asks_of letter c) d) known going.keeps;
      }

  pub polled_kept : (r : Result Polled Stop) (k l : Tied L F) (a c : ActsEnd M) (b d : B) (seat : ThreadEnd) (load : LoadEnd) (trail : List Hop) (was now : Bool) → now ≡ is_err r → was ≡ false → k.thread ≡ seat.thread
      → IsKept letter tag_of lawful (thread_with k a b seat load trail was)
      → OnOk r (IsGoing letter fits lawful l c d × (c.pending ≡ []) × (c.started ≡ []) × (l.left ≡ []))
      → OnOk r (AreKept c.pollers)
      → TookParts tag_of k l → IsStillTied k l
      → (l.thread ≡ seat.thread) × IsKept letter tag_of lawful (thread_with l c d seat load trail now)
  polled_kept r k l a c b d seat load trail was now is goes thread kept ok pollers s still =
      let w = still_run tag_of k l kept.parts.taken (kept.going goes).all_run s in
      let same = still.thread ∙ thread in (
        same,
        record {
          parts = record { ends = still_ends seat.thread k l kept.parts.ends still; load = kept.parts.load; place = kept.parts.place; taken = w; trail = kept.parts.trail };
          going = λ e. lawful_now r ok pollers (sym is ∙ e) w same;
        },
      )
    where
      lawful_now : (r : Result Polled Stop) → OnOk r (IsGoing letter fits lawful l c d × (c.pending ≡ []) × (c.started ≡ []) × (l.left ≡ [])) → OnOk r (AreKept c.pollers) → is_err r ≡ false → WasRun tag_of l.recv.taken l.ran l.left → l.thread ≡ seat.thread
          → IsLawful letter lawful (thread_with l c d seat load trail now)
      lawful_now (Ok p) ok pollers e w same = going_lawful l c d seat load trail now same w ok pollers
      lawful_now (Err x) ok pollers e w same = absurd (false≢true (sym e))

module _ {L F M B : Type 0} (letter : M → L) (tag_of : L → Tag) (fits : ℕ → F → M → Type 0) (marked : L → ℕ → ℕ → L) (runs : L → ℕ → Doing M B → Doing M B → Type 0) (ticks : ℕ → ℕ → Work → Doing M B → Doing M B → Type 0) (takes_back : ℕ → L → Doing M B → Doing M B → Type 0) where
  stops_took : (now : ℕ) (k l : Tied L F) (a : ActsEnd M) (b : B) → StopsParts tag_of runs letter fits now k l a b → TookParts tag_of k l
  stops_took now k l a b s = record {
    batch = s.batch;
    took = ⊎_elim
        (λ (t : Takes letter tag_of fits s.batch k.recv l.recv). ap (λ (r : Receiver L F). r.taken) t.taken)
        (λ (n : (s.batch ≡ []) × (l.recv ≡ k.recv)). ap (λ (r : Receiver L F). r.taken) n.1 ∙ sym (append-nil k.recv.taken) ∙ ap (λ ls. k.recv.taken ++ ls) (sym n.0))
        s.took;
    run = s.done ++ s.last;
    parts = s.parts;
    ran = s.ran;
  }

  -- what was taken and run, whether the poll stopped or not
  pub took_parts : (r : Result Polled Stop) (now : ℕ) (k l : Tied L F) (a c : ActsEnd M) (b d : B) (G : Type 0) → OnOk r G → (G → l.left ≡ []) → IfOk r (λ p. PollsParts letter tag_of fits marked runs ticks takes_back now k l a c b d p) → IfErr r (λ s. HasStopped l s × StopsParts tag_of runs letter fits now k l a b) → TookParts tag_of k l
  took_parts (Ok p) now k l a c b d G ok none polled err = record { batch = polled.batch; took = ap (λ (r : Receiver L F). r.taken) polled.took.taken; run = polled.batch; parts = sym (append-nil polled.batch) ∙ ap (λ ls. polled.batch ++ ls) (sym (none ok)); ran = polled.ran }
  took_parts (Err e) now k l a c b d G ok none polled err = stops_took now k l a b err.1

  -- the parts' poll is the thread's
  pub polls_whole : (r : Result Polled Stop) (now : ℕ) (k l : Tied L F) (a c : ActsEnd M) (b d : B) (seat : ThreadEnd) (load : LoadEnd) (trail : List Hop) (was is : Bool) (old : Thread L F M B) → k.thread ≡ seat.thread → thread_with k a b seat load trail was ≡ old
      → IfOk r (λ p. PollsParts letter tag_of fits marked runs ticks takes_back now k l a c b d p) → IfOk r (λ p. Polls letter tag_of fits marked runs ticks takes_back now old (thread_with l c d seat load trail is) p)
  polls_whole (Err e) now k l a c b d seat load trail was is old thread same polled = tt
  polls_whole (Ok p) now k l a c b d seat load trail was is old thread same h =
      subst (λ (o : Thread L F M B). Polls letter tag_of fits marked runs ticks takes_back now o (thread_with l c d seat load trail is) p) same
      (record {
        batch = h.batch;
        took = h.took;
        ran = h.ran;
        after_run = h.after_run;
        active = h.active;
        after_active = h.after_active;
        timed = h.timed;
        after_timed = h.after_timed;
        returned = h.returned;
        last = h.last;
        run_each = h.run_each;
        call_active = h.call_active;
        call_timed = h.call_timed;
        send_all = subst (λ t. Sends t letter marked takes_back h.returned h.after_timed h.last) thread h.send_all;
        worked = h.worked;
        started = h.started;
        start_numbers = h.start_numbers;
        body = h.body;
        acts = h.acts;
        ends = h.ends;
      })

  -- how far the parts came is how far the thread came
  until_whole : (why : Stop) (now : ℕ) (k l : Tied L F) (a c : ActsEnd M) (b d : B) (seat : ThreadEnd) (load : LoadEnd) (trail : List Hop) (was is : Bool) → k.thread ≡ seat.thread → PartsUntil letter tag_of fits marked runs ticks takes_back now k l a c b d why
      → PollsUntil letter tag_of fits marked runs ticks takes_back now (thread_with k a b seat load trail was) (thread_with l c d seat load trail is) why
  until_whole why now k l a c b d seat load trail was is thread h = record {
    batch = h.batch;
    took = h.took;
    ran = h.ran;
    none_left = h.none_left;
    after_run = h.after_run;
    active = h.active;
    after_active = h.after_active;
    timed = h.timed;
    after_timed = h.after_timed;
    returned = h.returned;
    run_each = h.run_each;
    call_active = h.call_active;
    call_timed = h.call_timed;
    send_some = subst (λ t. SendsUntil t letter marked takes_back (Some why) h.returned h.after_timed (record { body = d; acts = c; ends = l.ends })) thread h.send_some;
  }

  came_whole : (why : Stop) (now : ℕ) (k l : Tied L F) (a c : ActsEnd M) (b d : B) (seat : ThreadEnd) (load : LoadEnd) (trail : List Hop) (was is : Bool) → k.thread ≡ seat.thread → CameToParts letter tag_of fits marked runs ticks takes_back now k l a c b d why
      → CameTo letter tag_of fits marked runs ticks takes_back now (thread_with k a b seat load trail was) (thread_with l c d seat load trail is) why
  came_whole stop.NoMemory now k l a c b d seat load trail was is thread (inl same) = inl same
  came_whole stop.NoMemory now k l a c b d seat load trail was is thread (inr h) = inr (until_whole stop.NoMemory now k l a c b d seat load trail was is thread h)
  came_whole (stop.Spent to count) now k l a c b d seat load trail was is thread h = until_whole (stop.Spent to count) now k l a c b d seat load trail was is thread h

  pub polls_came : (r : Result Polled Stop) (now : ℕ) (k l : Tied L F) (a c : ActsEnd M) (b d : B) (seat : ThreadEnd) (load : LoadEnd) (trail : List Hop) (was is : Bool) (old : Thread L F M B) → k.thread ≡ seat.thread → thread_with k a b seat load trail was ≡ old
      → IfErr r (CameToParts letter tag_of fits marked runs ticks takes_back now k l a c b d) → IfErr r (CameTo letter tag_of fits marked runs ticks takes_back now old (thread_with l c d seat load trail is))
  polls_came (Ok p) now k l a c b d seat load trail was is old thread same h = tt
  polls_came (Err why) now k l a c b d seat load trail was is old thread same h =
      subst (λ (o : Thread L F M B). CameTo letter tag_of fits marked runs ticks takes_back now o (thread_with l c d seat load trail is) why) same (came_whole why now k l a c b d seat load trail was is thread h)

  -- the parts' stop is the thread's
  pub stops_whole : (now : ℕ) (k l : Tied L F) (a c : ActsEnd M) (b d : B) (seat : ThreadEnd) (load : LoadEnd) (trail : List Hop) (was is : Bool) (old : Thread L F M B) → thread_with k a b seat load trail was ≡ old
      → StopsParts tag_of runs letter fits now k l a b → Stops letter tag_of fits runs now old (thread_with l c d seat load trail is)
  stops_whole now k l a c b d seat load trail was is old same h =
      subst (λ (o : Thread L F M B). Stops letter tag_of fits runs now o (thread_with l c d seat load trail is)) same
      (record { batch = h.batch; took = h.took; done = h.done; last = h.last; one = h.one; parts = h.parts; whole = h.whole; ran = h.ran; after_run = h.after_run; run_each = h.run_each })

  -- what a stopped poll of the parts shows, the thread shows
  stop_shown : (l : Tied L F) (c : ActsEnd M) (d : B) (seat : ThreadEnd) (load : LoadEnd) (trail : List Hop) (is : Bool) (s : Stop) → HasStopped l s → IsStop (thread_with l c d seat load trail is) s
  stop_shown l c d seat load trail is stop.NoMemory h = h
  stop_shown l c d seat load trail is (stop.Spent to count) h = h

  pub polls_stopped : (r : Result Polled Stop) (now : ℕ) (k l : Tied L F) (a c : ActsEnd M) (b d : B) (seat : ThreadEnd) (load : LoadEnd) (trail : List Hop) (was is : Bool) (old : Thread L F M B) → is ≡ is_err r → thread_with k a b seat load trail was ≡ old
      → IfErr r (λ s. HasStopped l s × StopsParts tag_of runs letter fits now k l a b)
      → IfErr r (λ s. (is ≡ true) × IsStop (thread_with l c d seat load trail is) s × Stops letter tag_of fits runs now old (thread_with l c d seat load trail is))
  polls_stopped (Ok p) now k l a c b d seat load trail was is old e same h = tt
  polls_stopped (Err s) now k l a c b d seat load trail was is old e same h = (e, stop_shown l c d seat load trail is s h.0, stops_whole now k l a c b d seat load trail was is old same h.1)
