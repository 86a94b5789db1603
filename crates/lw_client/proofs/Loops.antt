-- One step more of the parts of a tick that go on step by step.
use Rattle.std.proofs.Common.{◌≡◌, ℕ, suc, ◌+◌, ◌<◌, length, subst, arith}
use Rattle.lw_mail.specs.Runs.{Run}
use Rattle.lw_client.specs.Going.{IsWell, Goes}
use Rattle.lw_client.specs.Doing.{State, DoesNext}
use Rattle.lw_client.specs.Turning.{DoesSome, TriesBelow, Tries, GivesBelow, GivesBack}

next_number : (n : ℕ) → suc n ≡ n + 1
next_number n = omega arith

pub does_more : (now n : ℕ) (s m t : State) → DoesSome now n s m → DoesNext now m t → DoesSome now (n + 1) s t
does_more now n s m t d e = subst (λ k. DoesSome now k s t) (next_number n) (m, d, e)

pub tries_more : (d : ℕ) (s m t : State) → TriesBelow d s m → Tries d m t → TriesBelow (d + 1) s t
tries_more d s m t h e = subst (λ k. TriesBelow k s t) (next_number d) (m, h, e)

pub gives_more : (d : ℕ) (s m t : State) → GivesBelow d s m → GivesBack d m t → GivesBelow (d + 1) s t
gives_more d s m t h e = subst (λ k. GivesBelow k s t) (next_number d) (m, h, e)

-- there stay as many devices
pub still_within : (r : Run) (s m : State) (d : ℕ) → IsWell r s → Goes s m → d < length s.body.uses → d < length m.body.uses
still_within r s m d w g l = omega (arith, l, w.sound.uses, (g.well r w).sound.uses)
