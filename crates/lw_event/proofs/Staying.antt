-- A desk stays that of its reactor, run and rings.
use Rattle.std.proofs.Common.{◌≡◌, ℕ, suc, List, [], ◌∷◌, map, refl, sym, ap, ◌∙◌, arith}
use Rattle.lw_ring.specs.Ends.{Sender, Receiver}
use Rattle.lw_thread.specs.Runs.{RunId, RingId, ring_of_end, ring_of_recv}
use Rattle.lw_thread.specs.Threads.{EndsStill}
use Rattle.lw_event.specs.Letters.{Letter}
use Rattle.lw_event.specs.Desks.{Desk, IsStill, IsDeskOf}

rings_still : {L F : Type 0} (es fs : List (Sender L F)) → EndsStill es fs → map ring_of_end fs ≡ map ring_of_end es
rings_still [] [] s = refl
rings_still [] (f ∷ fs) s = absurd (let n = s.count in omega arith)
rings_still (e ∷ es) [] s = absurd (let n = s.count in omega arith)
rings_still (e ∷ es) (f ∷ fs) s =
    let n = s.count in
    let head : ring_of_end f ≡ ring_of_end e = ap ring_of_end (s.each 0 e (omega arith)) in
    let tail = rings_still es fs (record { count = omega arith; each = λ k d low. s.each (suc k) d (omega arith) }) in
    λ i. head i ∷ tail i

pub still_of : {B M L F : Type 0} (run : RunId F) (rings : List RingId) (k : ℕ) (d e : Desk B M L F) → IsDeskOf run rings k d → IsStill d e → IsDeskOf run rings k e
still_of {F = F} run rings k d e h s = record {
  number = s.number ∙ h.number;
  its_ring = λ r. h.its_ring r ∙ sym (ap ring_of_recv s.recv);
  family = ap (λ (r : Receiver Letter (RunId F)). r.family) s.recv ∙ h.family;
  ends = rings_still d.ends e.ends s.ends ∙ h.ends;
}
