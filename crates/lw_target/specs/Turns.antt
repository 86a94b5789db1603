-- The messages under way, and the turns that carry them.
use Rattle.std.specs.Prelude.{ℕ, ◌⊎◌, ◌≡◌, ◌+◌, ◌≤◌, ◌<◌, true, false, List, [], ◌∷◌, length, vec_len}
use Rattle.std.specs.List.{All}
use Rattle.lw_model.specs.declared.script.Op.{Op}
use Rattle.lw_model.specs.declared.script.Script.{Script}
use Rattle.lw_target.specs.declared.acts.Outgoing.{Outgoing}
use Rattle.lw_target.specs.declared.posts.Posts.{Posts}
use Rattle.lw_target.specs.declared.turns.Target.{Target}
use Rattle.lw_target.specs.Messages.{Inbox, Extent, extent_of, AllFit, AllMayGo, IsWithin, operands, waiting_work, asked_work}
use Rattle.lw_target.specs.ClientLog.{IsHeldUp}
use Rattle.lw_target.specs.Letters.{Got, letters, posted}
use Rattle.lw_target.specs.InOrder.{IsInOrder}
use Rattle.lw_target.specs.Ops.{asks_bytes}
use Rattle.lw_target.specs.Work.{client_work, app_work}

-- each request of the ops is one within the image
abbrev pub OpsFit : Extent → List Op → Type 0
OpsFit extent ops = All (λ o. asks_bytes o ≡ true → IsWithin extent (operands o)) ops

abbrev pub posts_work : Posts → ℕ
posts_work p = waiting_work p.app.waiting + waiting_work p.client.waiting + waiting_work p.owner.waiting

-- each of the three threads may send to each
abbrev pub HasSenders : Posts → Type 0
HasSenders p = (length p.app.sent ≡ 3) × (length p.client.sent ≡ 3) × (length p.owner.sent ≡ 3)

-- an inbox to which nothing came
abbrev pub unused : Inbox
unused = record { waiting = []; sent = 0 ∷ 0 ∷ 0 ∷ []; ran = [] }

-- some sends of a thread were delivered, each to its receiver, and nothing was run
pub record Carried (sender : ℕ) (old new : Posts) (sends : List Outgoing) : Type 0 where
  pub app : Got old.app new.app (posted 0 sender sends)
  pub client : Got old.client new.client (posted 1 sender sends)
  pub owner : Got old.owner new.owner (posted 2 sender sends)
  pub senders : HasSenders old → HasSenders new
  pub work : posts_work new ≡ posts_work old + asked_work sends
  pub fits : (extent : Extent) → AllFit extent old.owner.waiting → AllMayGo extent sends → AllFit extent new.owner.waiting

-- what holds between the polls of the threads
pub record IsRunning (t : Target) : Type 0 where
  pub app_devices : vec_len t.devices ≡ vec_len t.app.owed
  pub client_devices : vec_len t.devices ≡ vec_len t.client.channels
  pub senders : HasSenders t.posts
  pub asked : t.acts.sends ≡ []
  pub ops : OpsFit (extent_of t.owner.image) t.client.of.ops
  pub fits : AllFit (extent_of t.owner.image) t.posts.owner.waiting
  pub block : 0 < t.owner.image.block
  pub writes : t.owner.image.writes ≤ length t.posts.owner.ran

-- all that is still to be done
abbrev pub work : Target → ℕ
work t = client_work t.client + app_work t.app + posts_work t.posts

-- the threads went on, and did at least so much of their work
pub record Turned (old new : Target) (least : ℕ) : Type 0 where
  pub of : new.client.of ≡ old.client.of
  pub devices : vec_len new.app.owed ≡ vec_len old.app.owed
  pub running : IsRunning new
  pub order : (s : Script) → IsInOrder s old → IsInOrder s new
  pub work : work new + least ≤ work old

-- nothing was done
pub record Still (old new : Target) : Type 0 where
  pub app : new.app ≡ old.app
  pub client : new.client ≡ old.client
  pub owner : new.owner ≡ old.owner
  pub devices : new.devices.items ≡ old.devices.items
  pub app_waits : letters new.posts.app ≡ letters old.posts.app
  pub client_waits : letters new.posts.client ≡ letters old.posts.client
  pub owner_waits : letters new.posts.owner ≡ letters old.posts.owner

-- why the client does nothing, and why the app
abbrev pub CanRest : Target → Type 0
CanRest t = t.client.done ≡ false → 1 ≤ t.client.of.depth → IsHeldUp t.client

abbrev pub MayRest : Target → Type 0
MayRest t = (t.app.began ≡ true) ⊎ (t.app.done < t.app.clients)
