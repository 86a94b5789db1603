-- Where a poller is queued, and which one is due next.
use Rattle.std.proofs.Common.{◌≡◌, ℕ, ◌<◌, ◌≤◌, true, false, List, length, sym, subst, ⊎_elim, arith, leb}
use Rattle.std.specs.Prelude.{slice_index_or}
use Rattle.std.specs.List.{insert}
use Rattle.std.specs.List.Sorted.{IsNonDecreasingBy, IsPartitionPoint}
use Rattle.std.proofs.lemmas.Bool.{cases_lt, leb-true, leb-false}
use Rattle.std.proofs.lemmas.List.Sorted.{IsNonDecreasingBy-insert}
use Rattle.lw_poller.specs.declared.poller.Timed.{Timed}
use Rattle.lw_poller.specs.Numbers.{Has, Lacks}
use Rattle.lw_poller.specs.Pollers.{Pollers, due_of}
use Rattle.lw_poller.specs.LocalDue.{IsNextTimed}
use Rattle.lw_poller.specs.Changes.{IsQueued}

-- the place that a search by halves finds
pub queues : (p : Timed) (place : ℕ) (ys xs zs : List Timed) → ys ≡ xs → place ≤ length ys → IsPartitionPoint (λ y. leb y.due p.due ≡ true) (λ y. leb y.due p.due ≡ false) ys place
    → zs ≡ insert xs place p → IsQueued p xs zs
queues p place ys xs zs e within point is =
    let F : List Timed → Type 0 = λ l. zs ≡ insert l place p → IsQueued p l zs in
    subst F e
    (λ same. record {
      place = place;
      within = within;
      earlier = λ k d before. leb-true _ _ (point.0 k d (omega arith) before);
      later = λ k d after short. leb-false _ _ (point.1 k d after short);
      inserted = same;
    })
    is

pub queued_by_due : (p : Timed) (xs zs : List Timed) → IsNonDecreasingBy due_of xs → IsQueued p xs zs → IsNonDecreasingBy due_of zs
queued_by_due p xs zs h q = subst (IsNonDecreasingBy due_of) (sym q.inserted)
    (IsNonDecreasingBy-insert due_of xs q.place p h q.within (λ k d before. q.earlier k d before) (λ k d after short. (let l = q.later k d after short in omega arith)))

-- the first place at which a poller waits and is due is that of the next one
pub is_next : (s : Pollers) (ys : List Timed) (place : ℕ) → ys ≡ s.timed → IsNonDecreasingBy due_of s.timed → place < length ys
    → ((d : Timed) → Lacks s.over (slice_index_or ys place d).number) → ((d : Timed) → (slice_index_or ys place d).due ≤ s.began)
    → ((k : ℕ) (d : Timed) → k < place → Has s.over (slice_index_or ys k d).number) → IsNextTimed s place
is_next s ys place e by_due within waits due first =
    let F : List Timed → Type 0 = λ l. (place < length l) → ((d : Timed) → Lacks s.over (slice_index_or l place d).number) → ((d : Timed) → (slice_index_or l place d).due ≤ s.began)
    → ((k : ℕ) (d : Timed) → k < place → Has s.over (slice_index_or l k d).number) → IsNextTimed s place in
    subst (λ l. F l) (sym e)
    (λ w l u f. record {
      within = w;
      waits = l;
      due = u;
      least = λ k d short lacks. ⊎_elim
          (λ (before : k < place). absurd (let a = f k d before in omega arith))
          (λ (after : place ≤ k). by_due place k d after short)
          (cases_lt k place);
      first = f;
    })
    within waits due first

-- none is due from a place on at which the due time is past `now`
pub none_due : (ys : List Timed) (over now place : ℕ) → IsNonDecreasingBy due_of ys → ((k : ℕ) (d : Timed) → k < place → Has over (slice_index_or ys k d).number)
    → ((d : Timed) → now < (slice_index_or ys place d).due) → (k : ℕ) (d : Timed) → k < length ys → Lacks over (slice_index_or ys k d).number → now < (slice_index_or ys k d).due
none_due ys over now place by_due first past k d short lacks = ⊎_elim
    (λ (before : k < place). absurd (let a = first k d before in omega arith))
    (λ (after : place ≤ k). (let a = by_due place k d after short in let b = past d in omega arith))
    (cases_lt k place)
