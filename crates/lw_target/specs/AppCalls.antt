-- What the app lists and sends once all clients are done, for any number of devices.
use Rattle.std.specs.Prelude.{ℕ, ◌+◌, ◌≡◌, ◌==◌, Bool, true, cond, ◌&&◌, not, is_none, List, [], ◌++◌, map, filter_map, zip, vec_len, Option, Some, None}
use Rattle.std.specs.List.{enumerate_from, range_with_len, list_any}
use Rattle.lw_base.specs.declared.message.What.TheVariants as what
use Rattle.lw_model.specs.declared.record.Did.{Did}
use Rattle.lw_model.specs.declared.record.Called.{Called}
use Rattle.lw_target.specs.declared.mail.Load.TheVariants as load
use Rattle.lw_target.specs.declared.device.Device.{Device}
use Rattle.lw_target.specs.declared.acts.Outgoing.{Outgoing}
use Rattle.lw_target.specs.declared.app.App.{App}
use Rattle.lw_target.specs.Messages.{Asked}
use Rattle.lw_target.specs.Answers.{unregister_answer}
use Rattle.lw_target.specs.App.{SameCalls, SameLines, unregistered, called_back}

-- the lines of unregistrations: one a device, in number order
abbrev pub unregistrations : ℕ → List Device → List Did
unregistrations at devices = map (λ p. record { at = at; op = p.0; answer = unregister_answer p.1 }) (enumerate_from 0 devices)

-- whether a callback begins to be owed
abbrev pub begins_owed : Device → Bool
begins_owed v = is_none v.shut_by

-- whether a callback is owed and due
abbrev pub is_due : Bool × Device → Bool
is_due p = p.0 && p.1.standing == 0

-- the line of a callback that is owed and due
abbrev pub callback : ℕ → ℕ → Bool × Device → Option Called
callback at place p = cond (is_due p) (Some (record { at = at; device = place })) None

-- the callbacks that are made, in number order
abbrev pub callbacks : ℕ → List (Bool × Device) → List Called
callbacks at pairs = filter_map (λ p. callback at p.0 p.1) (enumerate_from 0 pairs)

-- what is owed behind them, and each device
abbrev pub still_owed : Bool × Device → Bool
still_owed p = p.0 && not (p.1.standing == 0)

abbrev pub behind_callback : Bool × Device → Device
behind_callback p = cond (is_due p) (called_back p.1) p.1

-- a stop for each owner
abbrev pub stop_for : ℕ → ℕ → Outgoing
stop_for clients owner = record { to = 1 + clients + owner; what = what.Stop; load = load.Nothing }

abbrev pub stops : ℕ → ℕ → List Outgoing
stops clients owners = map (stop_for clients) (range_with_len 0 owners)

-- each device was unregistered
pub record BeginsAll (old new : App) (at : ℕ) (before after : List Device) : Type 0 where
  pub rest : SameCalls old new
  pub began : new.began ≡ true
  pub owed : new.owed.items ≡ map begins_owed before
  pub did : new.did ≡ old.did ++ unregistrations at before
  pub devices : after ≡ map unregistered before

-- each callback that was owed and due was made
pub record CallsAll (old new : App) (at : ℕ) (before after : List Device) : Type 0 where
  pub rest : SameLines old new
  pub owed : new.owed.items ≡ map still_owed (zip old.owed.items before)
  pub called : new.called ≡ old.called ++ callbacks at (zip old.owed.items before)
  pub devices : after ≡ map behind_callback (zip old.owed.items before)

-- where no callback is owed each owner was told to stop, and else nothing was done
pub record StopsAll (old new : App) (before after : Asked) : Type 0 where
  pub clients : new.clients ≡ old.clients
  pub done : new.done ≡ old.done
  pub began : new.began ≡ old.began
  pub owed : new.owed.items ≡ old.owed.items
  pub did : new.did ≡ old.did
  pub called : new.called ≡ old.called
  pub ended : new.ended ≡ not (list_any (λ b. b) old.owed.items)
  pub sends : after.sends ≡ before.sends ++ cond (list_any (λ b. b) old.owed.items) [] (stops old.clients (vec_len old.owed))

-- what is owed, and the devices, behind the unregistrations, which come once
abbrev pub owed_then : App → List Device → List Bool
owed_then a devices = cond a.began a.owed.items (map begins_owed devices)

abbrev pub devices_then : App → List Device → List Device
devices_then a devices = cond a.began devices (map unregistered devices)

-- a tick of an app that has not ended, where all clients are done: the unregistrations, unless they were made, then the
-- callbacks that are owed and due, and where none is owed behind them the stops
pub record Ticked (old new : App) (before after : Asked) (devices devices' : List Device) : Type 0 where
  pub clients : new.clients ≡ old.clients
  pub done : new.done ≡ old.done
  pub began : new.began ≡ true
  pub did : new.did ≡ old.did ++ cond old.began [] (unregistrations before.ran devices)
  pub called : new.called ≡ old.called ++ callbacks before.ran (zip (owed_then old devices) (devices_then old devices))
  pub owed : new.owed.items ≡ map still_owed (zip (owed_then old devices) (devices_then old devices))
  pub called_back : devices' ≡ map behind_callback (zip (owed_then old devices) (devices_then old devices))
  pub ended : new.ended ≡ not (list_any (λ b. b) new.owed.items)
  pub sends : after.sends ≡ before.sends ++ cond (list_any (λ b. b) new.owed.items) [] (stops old.clients (vec_len old.owed))
