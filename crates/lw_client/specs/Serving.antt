-- What the run of a message may take for granted.
use Rattle.std.specs.Prelude.{ℕ, ◌≡◌, ◌<◌, ◌≤◌, length, Some}
use Rattle.lw_device.specs.Rows.{seat_of}
use Rattle.lw_channel.specs.Channels.{Channels, channel_of}
use Rattle.lw_client.specs.declared.client.Client.{Client}
use Rattle.lw_client.specs.Clients.{use_of}

-- a request of the image is unanswered, and the op's place is there
pub record MayAnswer (k d : ℕ) (b : Client) : Type 0 where
  pub place : k < length b.unanswered
  pub uses : d < length b.uses
  pub of_image : 1 ≤ (use_of b d).requests
  pub in_all : 1 ≤ b.requests

-- a PutSelf of the device is pending
pub record MayRunPut (d : ℕ) (b : Client) : Type 0 where
  pub set : Channels
  pub its : b.set ≡ Some set
  pub uses : d < length b.uses
  pub counted : 1 ≤ (use_of b d).puts
  pub pending : 1 ≤ (channel_of set d).pending

-- a visit of the device is under way
pub record MayEndVisit (d : ℕ) (b : Client) : Type 0 where
  pub set : Channels
  pub its : b.set ≡ Some set
  pub device : d < length set.row.seats
  pub visit : (seat_of set.row d).view.visit ≡ 1
