-- Two ends of a thread of two.
use Rattle.std.proofs.Common.{rules, ◌≡◌, ℕ, zero, suc, ◌<◌, ◌≤◌, List, [], ◌∷◌, length, refl, sym, ap, subst, ◌∙◌, arith, All, Option, Some, IsSome, slice_index_or}
use Rattle.std.proofs.lemmas.List.Elements.{All-nil, All-cons}
use Rattle.atomic_table.specs.Seated.{TableId}
use Rattle.lw_ring.specs.Ends.{Sender, Receiver, new_receiver}
use Rattle.lw_thread.specs.Runs.{IsRow, IsRowEnd}
use Rattle.lw_thread.specs.Threads.{AreItsEnds}

module _ {L F : Type 0} where
  row_of_two : (n : ℕ) (f : F) (first second : Sender L F) → IsRowEnd (Some f) n 0 first → IsRowEnd (Some f) n 1 second → IsRow (Some f) n (first ∷ second ∷ [])
  row_of_two n f first second one other zero d l = one
  row_of_two n f first second one other (suc zero) d l = other
  row_of_two n f first second one other (suc (suc k)) d l = absurd (omega arith)

  pub pair_ends : (n : ℕ) (recv : Receiver L F) (first second : Sender L F) (f : F) → ((latch : TableId) × (recv ≡ new_receiver recv.queue (Some latch) n (Some f) 2)) → n < 2
      → IsRowEnd (Some f) n 0 first → IsRowEnd (Some f) n 1 second → AreItsEnds n recv (first ∷ second ∷ [])
  pair_ends n recv first second f new within one other =
      let is = new.1 in
      let family : recv.family ≡ Some f = ap (λ (r : Receiver L F). r.family) is in
      record {
        number = ap (λ (r : Receiver L F). r.number) is;
        latch = subst (λ (r : Receiver L F). IsSome r.latch) (sym is) (search rules);
        not_closed = ap (λ (r : Receiver L F). r.closed) is;
        senders = ap (λ (r : Receiver L F). r.senders) is;
        few = omega arith;
        own = within;
        row = subst (λ (o : Option F). IsRow o n (first ∷ second ∷ [])) (sym family) (row_of_two n f first second one other);
      }

  pub pair_unused : (first second : Sender L F) → first.sent ≡ [] → second.sent ≡ [] → All (λ (e : Sender L F). e.sent ≡ []) (first ∷ second ∷ [])
  pair_unused first second one other =
      All-cons (λ (e : Sender L F). e.sent ≡ []) first (second ∷ []) one
      (All-cons (λ (e : Sender L F). e.sent ≡ []) second [] other (All-nil (λ (e : Sender L F). e.sent ≡ [])))
