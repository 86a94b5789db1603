-- That a poller may be added.
use Rattle.std.specs.Prelude.{ℕ, ◌≡◌, ◌<◌}
use Rattle.lw_poller.specs.Numbers.{most_pollers}
use Rattle.lw_poller.specs.Pollers.{Pollers, times}

-- a number is free for it
pub record HasFree (s : Pollers) : Type 0 where
  pub free : ℕ
  pub below : free < most_pollers
  pub none : times free s ≡ 0
