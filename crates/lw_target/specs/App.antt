-- What the app does and asks for.
use Rattle.std.specs.Prelude.{ℕ, ◌≡◌, ◌+◌, ◌≤◌, vec_len, min, true, false, List, [], ◌∷◌, ◌++◌, Some, None}
use Rattle.std.specs.List.{All}
use Rattle.lw_base.specs.declared.message.What.TheVariants as what
use Rattle.lw_model.specs.declared.record.Answer.TheVariants.{Began}
use Rattle.lw_target.specs.declared.mail.Load.TheVariants as load
use Rattle.lw_target.specs.declared.device.Device.{Device}
use Rattle.lw_target.specs.declared.acts.Outgoing.{Outgoing}
use Rattle.lw_target.specs.declared.app.App.{App}
use Rattle.lw_target.specs.Messages.{Asked, asked_work}
use Rattle.lw_target.specs.Work.{app_work}

-- the app sends nothing but stops
abbrev pub IsStop : Outgoing → Type 0
IsStop out = out.what ≡ what.Stop

-- the app went on, and did at least so much of its work
pub record Advance (old new : App) (before after : Asked) (least : ℕ) : Type 0 where
  pub devices : vec_len new.owed ≡ vec_len old.owed
  pub ran : after.ran ≡ before.ran
  pub sends : All IsStop before.sends → All IsStop after.sends
  pub work : asked_work after.sends + app_work new + least ≤ asked_work before.sends + app_work old

-- all clients are done, and it has not begun
pub record IsDue (a : App) : Type 0 where
  pub clients : a.clients ≤ a.done
  pub began : a.began ≡ false
  pub ended : a.ended ≡ false

-- a device that nobody unregistered and of which no channel stands
pub record IsUnused (v : Device) : Type 0 where
  pub usable : v.shut_by ≡ None
  pub standing : v.standing ≡ 0

-- a device behind the app's unregistration
abbrev pub unregistered : Device → Device
unregistered v = elim v.shut_by [ Some t ↦ v | None ↦ record v { shut_by = Some 0 } ]

-- a device behind its callback
abbrev pub called_back : Device → Device
called_back v = record v { callbacks = min (v.callbacks + 1) 4294967295 }

-- what stays where devices are unregistered, and where a callback is made
pub record SameCalls (old new : App) : Type 0 where
  pub clients : new.clients ≡ old.clients
  pub done : new.done ≡ old.done
  pub ended : new.ended ≡ old.ended
  pub called : new.called ≡ old.called

pub record SameLines (old new : App) : Type 0 where
  pub clients : new.clients ≡ old.clients
  pub done : new.done ≡ old.done
  pub ended : new.ended ≡ old.ended
  pub began : new.began ≡ old.began
  pub did : new.did ≡ old.did

-- the one device was unregistered
pub record Begins (old new : App) (at : ℕ) (v : Device) (devices : List Device) : Type 0 where
  pub rest : SameCalls old new
  pub began : new.began ≡ true
  pub owed : new.owed.items ≡ true ∷ []
  pub did : new.did ≡ old.did ++ record { at = at; op = 0; answer = Began v.given } ∷ []
  pub device : devices ≡ unregistered v ∷ []

-- the one device's callback was made
pub record Calls (old new : App) (at : ℕ) (v : Device) (devices : List Device) : Type 0 where
  pub rest : SameLines old new
  pub owed : new.owed.items ≡ false ∷ []
  pub called : new.called ≡ old.called ++ record { at = at; device = 0 } ∷ []
  pub device : devices ≡ called_back v ∷ []

-- the one owner was told to stop
pub record Stops (old new : App) (before after : Asked) : Type 0 where
  pub clients : new.clients ≡ old.clients
  pub done : new.done ≡ old.done
  pub began : new.began ≡ old.began
  pub ended : new.ended ≡ true
  pub did : new.did ≡ old.did
  pub called : new.called ≡ old.called
  pub sends : after.sends ≡ before.sends ++ record { to = 1 + old.clients; what = what.Stop; load = load.Nothing } ∷ []

-- the one device was unregistered, its callback made and its owner told to stop
pub record Ends (old new : App) (before after : Asked) (v : Device) (devices : List Device) : Type 0 where
  pub clients : new.clients ≡ old.clients
  pub done : new.done ≡ old.done
  pub began : new.began ≡ true
  pub ended : new.ended ≡ true
  pub did : new.did ≡ old.did ++ record { at = before.ran; op = 0; answer = Began v.given } ∷ []
  pub called : new.called ≡ old.called ++ record { at = before.ran; device = 0 } ∷ []
  pub sends : after.sends ≡ before.sends ++ record { to = 1 + old.clients; what = what.Stop; load = load.Nothing } ∷ []
  pub device : devices ≡ called_back (unregistered v) ∷ []
