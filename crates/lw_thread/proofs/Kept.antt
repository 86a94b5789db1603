-- What the type of light threads keeps, at the start and where its ring didn't close.
use Rattle.std.proofs.Common.{◌≡◌, ◌≢◌, ℕ, false, List, [], ◌∷◌, ◌++◌, length, refl, sym, ap, subst, ◌∙◌, inl, Ok, Err}
use Rattle.std.specs.Prelude.{IfOk, OnErr}
use Rattle.std.specs.declared.result.Result.{Result}
use Rattle.lw_base.specs.declared.message.Tag.{Tag}
use Rattle.lw_base.specs.declared.moves.Hop.{Hop}
use Rattle.lw_place.specs.declared.place.Place.TheVariants as place
use Rattle.lw_place.specs.PlaceSeats.{ThreadEnd}
use Rattle.lw_load.specs.LoadEnds.{LoadEnd}
use Rattle.lw_poller.specs.declared.names.PollerId.{PollerId}
use Rattle.lw_poller.specs.declared.names.PollerRefusal.{PollerRefusal}
use Rattle.lw_poller.specs.Pollers.{AreKept, no_pollers}
use Rattle.lw_poller.specs.Changes.{IsLeastFree, with_active}
use Rattle.lw_ring.specs.Ends.{Sender, Receiver}
use Rattle.lw_thread.specs.Acts.{Known, Asks, ActsEnd, asks_of, no_acts, no_asks}
use Rattle.lw_thread.specs.Threads.{Thread, AreAscending, AreItsEnds, IsAbove, IsKept, known_of, last_of}
use Rattle.lw_thread.proofs.Hops.{ascending_more, ascending_none}
use Rattle.lw_thread.proofs.Live.{none_live}
use Rattle.lw_thread.proofs.PollerSets.{kept_change, no_pollers_kept}

module _ {L F M B : Type 0} (letter : M → L) (tag_of : L → Tag) (lawful : Known L F → Asks L → B → Type 0) where
  pub new_kept : (body : B) (acts : ActsEnd M) (recv : Receiver L F) (ends : List (Sender L F)) (seat : ThreadEnd) (load : LoadEnd) (trail : List Hop)
      → AreItsEnds seat.thread recv ends → recv.taken ≡ [] → seat.place ≢ place.Ended → load.thread ≡ seat.thread → lawful (known_of seat.thread recv ends) no_asks body → acts ≡ no_acts (length ends) → trail ≡ []
      → IsKept letter tag_of lawful (record { body = body; acts = acts; recv = recv; ends = ends; seat = seat; load = load; ran = []; left = []; trail = trail; stopped = false })
  new_kept body acts recv ends seat load trail its none there number keeps new unmoved =
      let asks : asks_of letter acts ≡ no_asks = ap (asks_of letter) new ∙ (λ i. record { live = none_live no_pollers refl i; pending = [] }) in
      record {
        parts = record { ends = its; load = number; place = there; taken = record { run = []; parts = none; tags = refl }; trail = subst AreAscending (sym unmoved) ascending_none };
        going = λ _. record {
          all_run = refl;
          threads = ap (λ (a : ActsEnd M). a.threads) new;
          counted = ap (λ (a : ActsEnd M). a.ran) new ∙ ap length (sym none);
          none_pending = ap (λ (a : ActsEnd M). a.pending) new;
          none_started = ap (λ (a : ActsEnd M). a.started) new;
          pollers = subst AreKept (sym (ap (λ (a : ActsEnd M). a.pollers) new)) no_pollers_kept;
          keeps = subst (λ (q : Asks L). lawful (known_of seat.thread recv ends) q body) (sym asks) keeps;
        };
      }

  pub tried_kept : (t : Thread L F M B) (r : Receiver L F) (tries seen : ℕ) → IsKept letter tag_of lawful t → r ≡ record t.recv { tries = tries; seen = seen } → IsKept letter tag_of lawful (record t { recv = r })
  tried_kept t r tries seen k e =
      let h = k.parts.ends in
      subst (λ (q : Receiver L F). IsKept letter tag_of lawful (record t { recv = q })) (sym e)
      (record {
        parts = record {
          ends = record { number = h.number; latch = h.latch; not_closed = h.not_closed; senders = h.senders; few = h.few; own = h.own; row = h.row };
          load = k.parts.load;
          place = k.parts.place;
          taken = k.parts.taken;
          trail = k.parts.trail;
        };
        going = λ g. (let l = k.going g in record { all_run = l.all_run; threads = l.threads; counted = l.counted; none_pending = l.none_pending; none_started = l.none_started; pollers = l.pollers; keeps = l.keeps });
      })

  -- a move is noted
  pub moved_kept : (t : Thread L F M B) (hop : Hop) (trail : List Hop) → IsKept letter tag_of lawful t → trail ≡ t.trail ++ hop ∷ [] → IsAbove hop.round (last_of t.trail) → IsKept letter tag_of lawful (record t { trail = trail })
  moved_kept t hop trail k e above = record {
    parts = record { ends = k.parts.ends; load = k.parts.load; place = k.parts.place; taken = k.parts.taken; trail = subst AreAscending (sym e) (ascending_more t.trail hop k.parts.trail above) };
    going = λ g. (let l = k.going g in record { all_run = l.all_run; threads = l.threads; counted = l.counted; none_pending = l.none_pending; none_started = l.none_started; pollers = l.pollers; keeps = l.keeps });
  }

  -- an active poller was added, or there was no room for it
  pub added_kept : (r : Result PollerId PollerRefusal) (t : Thread L F M B) (a : ActsEnd M) → IsKept letter tag_of lawful t
      → IfOk r (λ id. IsLeastFree t.acts.pollers id.0) → IfOk r (λ id. a ≡ record t.acts { pollers = with_active id.0 t.acts.pollers }) → OnErr r (a ≡ t.acts)
      → ((n : ℕ) → IsLeastFree t.acts.pollers n → t.stopped ≡ false → lawful (known_of t.seat.thread t.recv t.ends) (asks_of letter (record t.acts { pollers = with_active n t.acts.pollers })) t.body)
      → IsKept letter tag_of lawful (record t { acts = a })
  added_kept (Err e) t a k free added same keeps = subst (λ (q : ActsEnd M). IsKept letter tag_of lawful (record t { acts = q })) (sym same) (record { parts = k.parts; going = k.going })
  added_kept (Ok id) t a k free added same keeps = subst (λ (q : ActsEnd M). IsKept letter tag_of lawful (record t { acts = q })) (sym added)
      (record {
        parts = record { ends = k.parts.ends; load = k.parts.load; place = k.parts.place; taken = k.parts.taken; trail = k.parts.trail };
        going = λ g. (let l = k.going g in record {
          all_run = l.all_run;
          threads = l.threads;
          counted = l.counted;
          none_pending = l.none_pending;
          none_started = l.none_started;
          pollers = kept_change t.acts.pollers l.pollers (with_active id.0 t.acts.pollers) (inl (id.0, free, refl));
          keeps = keeps id.0 free g;
        });
      })
