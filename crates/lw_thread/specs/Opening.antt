-- The parts of remains.
use Rattle.std.specs.Prelude.{◌≡◌}
use Rattle.lw_thread.specs.declared.opening.Opened.{Opened}
use Rattle.lw_thread.specs.Rest.{Left}

-- the parts of remains
pub record IsOpenedAs {B M L F : Type 0} (r : Left L F B) (o : Opened B M L F) : Type 0 where
  pub body : o.body ≡ r.body
  pub recv : o.recv ≡ r.recv
  pub ends : o.ends.items ≡ r.ends
  pub seat : o.seat ≡ r.seat
  pub load : o.load ≡ r.load
  pub ran : o.ran.items ≡ r.ran
  pub trail : o.trail.items ≡ r.trail
