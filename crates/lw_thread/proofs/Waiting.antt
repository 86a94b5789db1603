-- A thread that hasn't ended is as it was, but for what its ring's latch noted. For whoever polls threads.
use Rattle.std.proofs.Common.{◌≡◌, Bool, false, ap, ◌∙◌, subst, sym}
use Rattle.lw_place.specs.PlaceSeats.{IsList}
use Rattle.lw_thread.specs.declared.ending.Why.{Why}
use Rattle.lw_thread.specs.declared.ending.Why.TheVariants as why
use Rattle.lw_thread.specs.Endings.{IsNotYet}
use Rattle.lw_thread.specs.Threads.{Thread}

module _ {L F M B : Type 0} (ends : B → Bool) where
  pub same_seat : (t u : Thread L F M B) (w : Why) → IsNotYet ends t u w → u.seat ≡ t.seat
  same_seat t u why.NotAsked h = ap (λ (x : Thread L F M B). x.seat) h.1
  same_seat t u why.Pollers h = ap (λ (x : Thread L F M B). x.seat) h.2
  same_seat t u why.Body h = ap (λ (x : Thread L F M B). x.seat) h.3
  same_seat t u (why.Ring seen) h = ap (λ (x : Thread L F M B). x.seat) h.2

  pub same_stopped : (t u : Thread L F M B) (w : Why) → IsNotYet ends t u w → u.stopped ≡ t.stopped
  same_stopped t u why.NotAsked h = ap (λ (x : Thread L F M B). x.stopped) h.1
  same_stopped t u why.Pollers h = ap (λ (x : Thread L F M B). x.stopped) h.2
  same_stopped t u why.Body h = ap (λ (x : Thread L F M B). x.stopped) h.3
  same_stopped t u (why.Ring seen) h = ap (λ (x : Thread L F M B). x.stopped) h.2

  pub still_listed : (t u : Thread L F M B) (w : Why) → IsNotYet ends t u w → IsList t.seat.place → IsList u.seat.place
  still_listed t u w h l = subst (λ s. IsList s.place) (sym (same_seat t u w h)) l

  pub still_going : (t u : Thread L F M B) (w : Why) → IsNotYet ends t u w → t.stopped ≡ false → u.stopped ≡ false
  still_going t u w h g = same_stopped t u w h ∙ g
