-- The ring of the second thread stays that of both threads' second ends.
use Rattle.std.proofs.Common.{rules, ◌≡◌, ℕ, zero, suc, ◌<◌, List, [], ◌∷◌, length, refl, sym, ap, subst, ◌∙◌, arith, Option, Some, slice_index_or}
use Rattle.atomic_table.specs.Seated.{TableId}
use Rattle.lw_ring.specs.Ends.{Sender, Receiver, IsEnd, new_sender, new_receiver}
use Rattle.lw_ring.specs.Settling.{AreAllEnds}
use Rattle.lw_thread.specs.Threads.{Thread, EndsStill, IsStill}
use Rattle.lw_thread_tests.specs.Rings.{AreOfRing}

module _ {L F : Type 0} where
  new_end : (r : Receiver L F) (f : Option F) (k : ℕ) (e : Sender L F) → e ≡ new_sender r.queue r.latch 1 f k → IsEnd r k e
  new_end r f k e is = record {
    queue = ap (λ (x : Sender L F). x.queue) is;
    latch = ap (λ (x : Sender L F). x.latch) is;
    sender = ap (λ (x : Sender L F). x.sender) is;
  }

  pub new_ring : (r : Receiver L F) (f : Option F) (a b c d : Sender L F) → ((latch : TableId) × (r ≡ new_receiver r.queue (Some latch) 1 f 2))
      → b ≡ new_sender r.queue r.latch 1 f 0 → d ≡ new_sender r.queue r.latch 1 f 1 → AreOfRing r (a ∷ b ∷ []) (c ∷ d ∷ [])
  new_ring r f a b c d new one other = record {
    unsettled = ap (λ (x : Receiver L F). x.known) new.1;
    senders = ap (λ (x : Receiver L F). x.senders) new.1;
    counts = (refl, refl);
    first = λ _. new_end r f 0 b one;
    second = λ _. new_end r f 1 d other;
  }

  -- the end is still one of the ring
  same_end : (r : Receiver L F) (k : ℕ) (es fs : List (Sender L F)) → length es ≡ 2 → EndsStill es fs → ((d : Sender L F) → IsEnd r k (slice_index_or es 1 d)) → (d : Sender L F) → IsEnd r k (slice_index_or fs 1 d)
  same_end r k es fs count still is d =
      let within : 1 < length es = omega arith in
      let at = still.each 1 d within in
      record {
        queue = ap (λ (x : Sender L F). x.queue) at ∙ (is d).queue;
        latch = ap (λ (x : Sender L F). x.latch) at ∙ (is d).latch;
        sender = ap (λ (x : Sender L F). x.sender) at ∙ (is d).sender;
      }

  -- the receiver of a ring is another one of the same ring
  same_ring : (r s : Receiver L F) (es fs : List (Sender L F)) → s.queue ≡ r.queue → s.latch ≡ r.latch → s.known ≡ r.known → s.senders ≡ r.senders → AreOfRing r es fs → AreOfRing s es fs
  same_ring r s es fs queue latch known senders of = record {
    unsettled = known ∙ of.unsettled;
    senders = senders ∙ of.senders;
    counts = of.counts;
    first = λ d. record { queue = (of.first d).queue ∙ sym queue; latch = (of.first d).latch ∙ sym latch; sender = (of.first d).sender };
    second = λ d. record { queue = (of.second d).queue ∙ sym queue; latch = (of.second d).latch ∙ sym latch; sender = (of.second d).sender };
  }

  -- the second one has ended
  second_closed : (r s : Receiver L F) (es fs : List (Sender L F)) → AreOfRing r es fs → s ≡ record r { closed = 1 } → AreOfRing s es fs
  second_closed r s es fs of is =
      same_ring r s es fs (ap (λ (x : Receiver L F). x.queue) is) (ap (λ (x : Receiver L F). x.latch) is) (ap (λ (x : Receiver L F). x.known) is) (ap (λ (x : Receiver L F). x.senders) is) of

  -- both have ended
  pub both_closed : (r s : Receiver L F) (es fs gs hs : List (Sender L F)) → AreOfRing r es fs → s ≡ record r { closed = 1 } → gs ≡ es → hs ≡ fs → AreOfRing s gs hs
  both_closed r s es fs gs hs of is one other =
      subst (λ (l : List (Sender L F)). AreOfRing s gs l) (sym other) (subst (λ (l : List (Sender L F)). AreOfRing s l fs) (sym one) (second_closed r s es fs of is))

  -- two ends
  all_two : (r : Receiver L F) (a b : Sender L F) → IsEnd r 0 a → IsEnd r 1 b → (k : ℕ) (d : Sender L F) → k < 2 → IsEnd r k (slice_index_or (a ∷ b ∷ []) k d)
  all_two r a b one other zero d l = one
  all_two r a b one other (suc zero) d l = other
  all_two r a b one other (suc (suc k)) d l = absurd (omega arith)

  -- the second ends of both are all ends of the ring
  pub second_ends : (r s : Receiver L F) (es fs vs : List (Sender L F)) (a b : Sender L F) → AreOfRing r es fs → s ≡ r → ((d : Sender L F) → a ≡ slice_index_or es 1 d) → ((d : Sender L F) → b ≡ slice_index_or fs 1 d)
      → vs ≡ a ∷ b ∷ [] → AreAllEnds s vs
  second_ends r s es fs vs a b of same one other are =
      let first : IsEnd r 0 a = subst (λ (e : Sender L F). IsEnd r 0 e) (sym (one a)) (of.first a) in
      let second : IsEnd r 1 b = subst (λ (e : Sender L F). IsEnd r 1 e) (sym (other b)) (of.second b) in
      let all : AreAllEnds r (a ∷ b ∷ []) = record { count = sym of.senders; each = all_two r a b first second } in
      subst (λ (x : Receiver L F). AreAllEnds x vs) (sym same) (subst (λ (l : List (Sender L F)). AreAllEnds r l) (sym are) all)

module _ {L F M B : Type 0} where
  -- the first thread was polled
  first_polled : (r : Receiver L F) (t u : Thread L F M B) (fs : List (Sender L F)) → AreOfRing r t.ends fs → IsStill t u → AreOfRing r u.ends fs
  first_polled r t u fs of still = record {
    unsettled = of.unsettled;
    senders = of.senders;
    counts = (still.ends.count ∙ of.counts.0, of.counts.1);
    first = same_end r 0 t.ends u.ends of.counts.0 still.ends of.first;
    second = of.second;
  }

  -- the second one was polled
  second_polled : (t u : Thread L F M B) (es : List (Sender L F)) → AreOfRing t.recv es t.ends → IsStill t u → AreOfRing u.recv es u.ends
  second_polled t u es of still =
      let own : AreOfRing t.recv es u.ends = record {
        unsettled = of.unsettled;
        senders = of.senders;
        counts = (of.counts.0, still.ends.count ∙ of.counts.1);
        first = of.first;
        second = same_end t.recv 1 t.ends u.ends of.counts.1 still.ends of.second;
      } in
      same_ring t.recv u.recv es u.ends (ap (λ (x : Receiver L F). x.queue) still.recv) (ap (λ (x : Receiver L F). x.latch) still.recv) (ap (λ (x : Receiver L F). x.known) still.recv) (ap (λ (x : Receiver L F). x.senders) still.recv) own

  -- both were polled
  pub both_polled : (t u v w : Thread L F M B) → AreOfRing v.recv t.ends v.ends → IsStill t u → IsStill v w → AreOfRing w.recv u.ends w.ends
  both_polled t u v w of one other = second_polled v w u.ends (first_polled v.recv t u v.ends of one) other
