-- What holds between the rounds that a test makes.
use Rattle.std.specs.Prelude.{◌≡◌, ℕ, ◌≤◌, length, Some}
use Rattle.lw_place.specs.PlaceSeats.{DeskEnd}
use Rattle.lw_rounds.specs.Rounds.{BalancerEnd, last_time}

-- a desk is one of the places of a balancer's threads and reactors
pub record AreItsPlaces (b : BalancerEnd) (desk : DeskEnd) : Type 0 where
  pub threads : desk.places.threads ≡ length b.masks
  pub reactors : desk.places.reactors ≡ b.reactors

-- a first reading was noted, neither it nor the last round is past this one, and the desk is one of the balancer's places
pub record MayGoOn (now : ℕ) (b : BalancerEnd) (desk : DeskEnd) : Type 0 where
  pub first : ℕ
  pub noted : b.first ≡ Some first
  pub past : last_time first b.rounds ≤ now
  pub places : AreItsPlaces b desk
