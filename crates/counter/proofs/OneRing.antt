-- What the new ring of one thread is.
use Rattle.std.proofs.Common.{rules, ◌≡◌, ℕ, ◌<◌, List, [], length, sym, ap, subst, ◌∙◌, arith, All, Some, IsSome, slice_index_or}
use Rattle.std.proofs.lemmas.List.Elements.{All-from_get_or}
use Rattle.atomic_table.specs.Seated.{TableId}
use Rattle.lw_ring.specs.Ends.{Sender, Receiver, new_sender, new_receiver}
use Rattle.lw_thread.specs.Threads.{AreItsEnds}

module _ {L F : Type 0} where
  pub are_ends : (recv : Receiver L F) (ends : List (Sender L F)) (f : F) → ((latch : TableId) × (recv ≡ new_receiver recv.queue (Some latch) 0 (Some f) 1)) → length ends ≡ 1
      → ((k : ℕ) (d : Sender L F) → k < 1 → slice_index_or ends k d ≡ new_sender recv.queue recv.latch 0 (Some f) k)
      → AreItsEnds 0 recv ends
  are_ends recv ends f new count each =
      let is = new.1 in
      let family : recv.family ≡ Some f = ap (λ (r : Receiver L F). r.family) is in
      record {
        number = ap (λ (r : Receiver L F). r.number) is;
        latch = subst (λ (r : Receiver L F). IsSome r.latch) (sym is) (search rules);
        not_closed = ap (λ (r : Receiver L F). r.closed) is;
        senders = ap (λ (r : Receiver L F). r.senders) is ∙ sym count;
        few = omega arith;
        own = omega arith;
        row = λ k d l.
            let first : k < 1 = subst (λ n. k < n) count l in
            let at = each k d first in
            let zero : 0 ≡ k = omega arith in
            record {
              from = ap (λ (e : Sender L F). e.sender) at ∙ sym zero;
              number = ap (λ (e : Sender L F). e.number) at ∙ zero;
              of_family = ap (λ (e : Sender L F). e.family) at ∙ sym family;
            };
      }

  pub none_taken : (recv : Receiver L F) (f : F) → ((latch : TableId) × (recv ≡ new_receiver recv.queue (Some latch) 0 (Some f) 1)) → recv.taken ≡ []
  none_taken recv f new = ap (λ (r : Receiver L F). r.taken) new.1

  pub none_sent : (recv : Receiver L F) (ends : List (Sender L F)) (f : F) → length ends ≡ 1
      → ((k : ℕ) (d : Sender L F) → k < 1 → slice_index_or ends k d ≡ new_sender recv.queue recv.latch 0 (Some f) k)
      → All (λ (e : Sender L F). e.sent ≡ []) ends
  none_sent recv ends f count each =
      All-from_get_or (λ (e : Sender L F). e.sent ≡ []) ends (new_sender recv.queue recv.latch 0 (Some f) 0)
      (λ k l. ap (λ (e : Sender L F). e.sent) (each k (new_sender recv.queue recv.latch 0 (Some f) 0) (subst (λ n. k < n) count l)))
