-- What an answer does to a channel, to the device and to what was sent.
use Rattle.std.specs.Prelude.{ℕ, ◌+◌, ◌-◌, ◌==◌, ◌≤◌, nat_lt, ◌&&◌, min, cond, Bool, is_some, is_none, slice_set, List, [], ◌∷◌, Some, None}
use Rattle.std.specs.List.{All}
use Rattle.lw_base.specs.declared.message.What.TheVariants as what
use Rattle.lw_model.specs.declared.record.Answer.{Answer}
use Rattle.lw_model.specs.declared.record.Answer.TheVariants.{Given, Again, Counted, Deferred, Sent}
use Rattle.lw_model.specs.declared.script.Op.{Op}
use Rattle.lw_target.specs.declared.acts.Outgoing.{Outgoing}
use Rattle.lw_target.specs.declared.channel.Channel.{Channel}
use Rattle.lw_target.specs.declared.device.Device.{Device}
use Rattle.lw_target.specs.declared.mail.Load.TheVariants as load
use Rattle.lw_target.specs.Messages.{operands}

-- the references and the pending messages of a channel together, and a bound of these that none comes to
abbrev pub held_of : Channel → ℕ
held_of k = k.references + k.pending

abbrev pub holds_most : ℕ
holds_most = 1000000

-- an op that was answered so
abbrev pub channel_after : Answer → Channel → Channel
channel_after (Given n) k = record { ordinal = Some n; references = k.references + 1; pending = k.pending }
channel_after (Again n) k = record { ordinal = k.ordinal; references = k.references + 1; pending = k.pending }
channel_after Counted k = record { ordinal = k.ordinal; references = k.references - 1; pending = k.pending }
channel_after Deferred k = record { ordinal = k.ordinal; references = k.references - 1; pending = k.pending + 1 }
channel_after _ k = k

-- a message behind a put: the last one, with no reference left, destroys the channel
abbrev pub after_put : Channel → Channel
after_put k = record { ordinal = cond (k.pending == 1 && k.references == 0) None k.ordinal; references = k.references; pending = k.pending - 1 }

-- such a message destroys the channel
abbrev pub is_destroyed : Channel → Bool
is_destroyed k = is_none (after_put k).ordinal && is_some k.ordinal

abbrev pub devices_after : List Device → ℕ → Channel → Device → List Device
devices_after devices d k v = cond (is_destroyed k) (slice_set devices d (record v { standing = v.standing - 1 })) devices

-- all references given back at once
abbrev pub gave_back : Channel → Channel
gave_back k = record { ordinal = k.ordinal; references = 0; pending = k.pending + cond (nat_lt 0 k.references) 1 0 }

-- no channel holds more than this
abbrev pub AllHold : ℕ → List Channel → Type 0
AllHold most ks = All (λ k. held_of k ≤ most) ks

abbrev pub standing_after : Answer → ℕ → ℕ
standing_after (Given n) standing = min (standing + 1) 4294967295
standing_after _ standing = standing

abbrev pub device_after : Answer → Device → Device
device_after (Given n) v = record v { standing = min (v.standing + 1) 18446744073709551615; given = min (v.given + 1) 18446744073709551615 }
device_after _ v = v

-- what a client of this thread sends behind its op k on device d; the first owner is that of device 0
abbrev pub putself_of : ℕ → ℕ → Outgoing
putself_of thread d = record { to = thread; what = what.PutSelf d; load = load.Nothing }

abbrev pub request_of : ℕ → ℕ → ℕ → Op → Outgoing
request_of first_owner d k o = record { to = first_owner + d; what = what.Request k; load = operands o }

abbrev pub sends_after : Answer → ℕ → ℕ → ℕ → ℕ → Op → List Outgoing
sends_after Deferred thread first_owner d k o = putself_of thread d ∷ []
sends_after Sent thread first_owner d k o = request_of first_owner d k o ∷ []
sends_after _ thread first_owner d k o = []

-- what it sends at the close: to itself for each device of which it has references, from device d on
abbrev pub puts_of : ℕ → ℕ → List Channel → List Outgoing
puts_of thread d [] = []
puts_of thread d (k ∷ ks) = cond (nat_lt 0 k.references) (putself_of thread d ∷ puts_of thread (d + 1) ks) (puts_of thread (d + 1) ks)
