-- The desks of three reactors, through the calls of one of them.
use Rattle.std.proofs.Common.{◌≡◌, ◌≢◌, ℕ, ◌<◌, List, length, map, Some, Option, refl, sym, ap, subst, ◌∙◌, length-set, get_or-set_same, get_or-set_other}
use Rattle.std.specs.Prelude.{slice_index_or, slice_set}
use Rattle.std.proofs.lemmas.List.{get_or_default, length-map}
use Rattle.std.proofs.Math.Logic.{dite}
use native.Mathlib.Decide.{ℕ_discrete}
use Rattle.lw_base.specs.Letters.{FitsRing}
use Rattle.lw_thread.specs.Runs.{RunId, RingId, ring_of_end}
use Rattle.lw_event.specs.Events.{event_fits}
use Rattle.lw_event.specs.Desks.{Desk, AreAllDesks, AreNewDesks, IsDeskOf, IsStill}
use Rattle.lw_event.specs.declared.event.Event.{Event}
use Rattle.lw_event.specs.declared.event.Event.TheVariants.{Order}
use Rattle.lw_event.proofs.Keeping.{same_ends}
use Rattle.lw_event.proofs.Staying.{still_of}
use Rattle.lw_event_tests.specs.Three.{AreOurs}

module _ {B M L F : Type 0} where
  -- a desk stays through one call and the next
  pub still_none : (d : Desk B M L F) → IsStill d d
  still_none d = record { number = refl; recv = refl; ends = same_ends d.ends }

  pub still_then : (d e f : Desk B M L F) → IsStill d e → IsStill e f → IsStill d f
  still_then d e f s t = record {
    number = t.number ∙ s.number;
    recv = t.recv ∙ (λ i. record (s.recv i) { taken = f.recv.taken; hand = f.recv.hand });
    ends = record {
      count = t.ends.count ∙ s.ends.count;
      each = λ k x low. t.ends.each k x (subst (λ n. k < n) (sym s.ends.count) low) ∙ (λ i. record (s.ends.each k x low i) { sent = (slice_index_or f.ends k x).sent; found = (slice_index_or f.ends k x).found });
    };
  }

  pub new_ours : (run : RunId F) (ds : List (Desk B M L F)) → run.places.reactors ≡ 3 → AreNewDesks run 3 ds → AreOurs ds
  new_ours run ds three h = record {
    all = record {
      run = run;
      rings = h.rings;
      count = h.desk_count ∙ sym h.ring_count;
      each = λ k d low. (h.each k d (subst (λ n. k < n) h.desk_count low)).0;
    };
    count = h.desk_count;
    reactors = three;
  }

  -- a desk of ours is that of its reactor
  its_desk : (ds : List (Desk B M L F)) (by : ℕ) (e : Desk B M L F) (h : AreOurs ds) → by < 3 → e ≡ slice_index_or ds by e → IsDeskOf h.all.run h.all.rings by e
  its_desk ds by e h low at = subst (IsDeskOf h.all.run h.all.rings by) (sym at) (h.all.each by e (subst (λ n. by < n) (sym h.count) low))

  -- it has an end to each
  pub ours_end : (ds : List (Desk B M L F)) (by to : ℕ) (e : Desk B M L F) → AreOurs ds → by < 3 → to < 3 → e ≡ slice_index_or ds by e → to < length e.ends
  ours_end ds by to e h low there at =
      let d = its_desk ds by e h low at in
      let long : length e.ends ≡ 3 = sym (length-map e.ends ring_of_end) ∙ ap length d.ends ∙ sym h.all.count ∙ h.count in
      subst (λ n. to < n) (sym long) there

  -- an order to one of ours fits
  pub ours_fits : (ds : List (Desk B M L F)) (by to thread : ℕ) (e : Desk B M L F) (x : Event B M L F) → AreOurs ds → by < 3 → to < 3 → e ≡ slice_index_or ds by e → x ≡ Order 0 0 1 thread to
      → FitsRing event_fits to e.recv.family x
  ours_fits ds by to thread e x h low there at is =
      let d = its_desk ds by e h low at in
      subst (λ (o : Option (RunId F)). FitsRing event_fits to o x) (sym d.family)
      (subst (λ y. FitsRing event_fits to (Some h.all.run) y) (sym is) (subst (λ n. to < n) (sym h.reactors) there))

  -- they are ours still, where one of them has been called
  pub ours_after : (ds : List (Desk B M L F)) (by : ℕ) (e f : Desk B M L F) → AreOurs ds → by < 3 → e ≡ slice_index_or ds by e → IsStill e f → AreOurs (slice_set ds by f)
  ours_after ds by e f h low at still =
      let within : by < length ds = subst (λ n. by < n) (sym h.count) low in
      let own = still_of h.all.run h.all.rings by e f (its_desk ds by e h low at) still in
      record {
        all = record {
          run = h.all.run;
          rings = h.all.rings;
          count = length-set ds by f ∙ h.all.count;
          each = λ k d l. dite (ℕ_discrete k by)
              (λ (is : k ≡ by). subst (λ n. IsDeskOf h.all.run h.all.rings n (slice_index_or (slice_set ds by f) n d)) (sym is)
              (subst (IsDeskOf h.all.run h.all.rings by) (sym (get_or-set_same ds by f d within)) own))
              (λ (other : k ≢ by). subst (IsDeskOf h.all.run h.all.rings k) (sym (get_or-set_other ds by k f d other)) (h.all.each k d (subst (λ n. k < n) (length-set ds by f) l)));
        };
        count = length-set ds by f ∙ h.count;
        reactors = h.reactors;
      }
