-- A desk's send, by its end to a reactor.
use Rattle.std.proofs.Common.{◌≡◌, ℕ, ◌<◌, [], ◌∷◌, ◌++◌, length, None, Option, sym, ap, subst, ◌∙◌}
use Rattle.std.specs.Prelude.{slice_index_or, slice_set}
use Rattle.std.proofs.lemmas.List.{set-get_or}
use Rattle.lw_base.specs.Letters.{FitsRing}
use Rattle.lw_latch.specs.RingWord.{most_sent}
use Rattle.lw_ring.specs.Ends.{Sender}
use Rattle.lw_thread.specs.Runs.{RunId}
use Rattle.lw_event.specs.Letters.{Letter, with_name}
use Rattle.lw_event.specs.Events.{letter_of, event_fits}
use Rattle.lw_event.specs.Desks.{Desk, IsKept, IsStill}
use Rattle.lw_event.specs.Calls.{IsSent, IsRefused, IsRefusedBy}
use Rattle.lw_event.specs.declared.event.Event.{Event}
use Rattle.lw_event.specs.declared.refusal.EventRefusal.{EventRefusal}
use Rattle.lw_event.proofs.Keeping.{end_at, set_still, still_ends, kept_ends}

module _ {B M L F : Type 0} where
  pub post_fits : (d : Desk B M L F) (to : ℕ) (e : Sender Letter (RunId F)) (x : Event B M L F) → IsKept d → to < length d.ends → e ≡ slice_index_or d.ends to e
      → FitsRing event_fits to d.recv.family x → FitsRing event_fits e.number e.family x
  post_fits d to e x i low at fit =
      let row = i.row to e low in
      let number : to ≡ e.number = sym row.number ∙ ap (λ (s : Sender Letter (RunId F)). s.number) (sym at) in
      let family : d.recv.family ≡ e.family = sym row.of_family ∙ ap (λ (s : Sender Letter (RunId F)). s.family) (sym at) in
      subst (λ n. FitsRing event_fits n e.family x) number (subst (λ (f : Option (RunId F)). FitsRing event_fits to f x) family fit)

  pub post_open : (d : Desk B M L F) (to : ℕ) (e : Sender Letter (RunId F)) → IsKept d → to < length d.ends → e ≡ slice_index_or d.ends to e → e.latch ≡ None
  post_open d to e i low at = ap (λ (s : Sender Letter (RunId F)). s.latch) at ∙ i.all_open to e low

  pub sent_kept : (d : Desk B M L F) (to : ℕ) (e e2 : Sender Letter (RunId F)) → IsKept d → to < length d.ends → e ≡ slice_index_or d.ends to e → e2 ≡ record e { sent = e2.sent }
      → IsKept (record d { ends = slice_set d.ends to e2 })
  sent_kept d to e e2 i low at same = kept_ends d (slice_set d.ends to e2) i (set_still d.ends to e e2 (end_at d.ends to e low at) (same ∙ (λ k. record e { sent = e2.sent; found = (ap (λ (s : Sender Letter (RunId F)). s.found) (sym same)) k })))

  pub sent_still : (d old : Desk B M L F) (to : ℕ) (e e2 : Sender Letter (RunId F)) → d ≡ old → to < length d.ends → e ≡ slice_index_or d.ends to e → e2 ≡ record e { sent = e2.sent }
      → IsStill old (record d { ends = slice_set d.ends to e2 })
  sent_still d old to e e2 is low at same = subst (λ (o : Desk B M L F). IsStill o (record d { ends = slice_set d.ends to e2 })) is
      (still_ends d (slice_set d.ends to e2) (set_still d.ends to e e2 (end_at d.ends to e low at) (same ∙ (λ k. record e { sent = e2.sent; found = (ap (λ (s : Sender Letter (RunId F)). s.found) (sym same)) k }))))

  -- it was sent
  pub sent_is : (d old : Desk B M L F) (to : ℕ) (x : Event B M L F) (e e2 : Sender Letter (RunId F)) → d ≡ old → IsKept d → to < length d.ends → e ≡ slice_index_or d.ends to e
      → (length e.sent < most_sent) × (e2 ≡ record e { sent = e.sent ++ with_name (letter_of x) e.sender (length e.sent) ∷ [] })
      → IsSent to x old (record d { ends = slice_set d.ends to e2 })
  sent_is d old to x e e2 is i low at h =
      let sender : e.sender ≡ d.number = ap (λ (s : Sender Letter (RunId F)). s.sender) at ∙ (i.row to e low).from in
      subst (λ (o : Desk B M L F). IsSent to x o (record d { ends = slice_set d.ends to e2 })) is (record {
        end = e;
        at = end_at d.ends to e low at;
        room = h.0;
        sent = ap (λ (s : Sender Letter (RunId F)). record d { ends = slice_set d.ends to s }) (h.1 ∙ (λ k. record e { sent = e.sent ++ with_name (letter_of x) (sender k) (length e.sent) ∷ [] }));
      })

  -- it was refused
  pub refused_is : (d old : Desk B M L F) (to : ℕ) (x : Event B M L F) (e e2 : Sender Letter (RunId F)) (r : EventRefusal B M L F) → d ≡ old → to < length d.ends → e ≡ slice_index_or d.ends to e
      → IsRefusedBy e x r × (e2 ≡ e) → IsRefused to x old r × (record d { ends = slice_set d.ends to e2 } ≡ old)
  refused_is d old to x e e2 r is low at h =
      let there = end_at d.ends to e low at in
      let ends : slice_set d.ends to e2 ≡ d.ends = ap (λ s. slice_set d.ends to s) (h.1 ∙ at) ∙ set-get_or d.ends to e in (
        subst (λ (o : Desk B M L F). IsRefused to x o r) is (λ z. subst (λ s. IsRefusedBy s x r) (sym (there z)) h.0),
        ap (λ es. record d { ends = es }) ends ∙ is,
      )
