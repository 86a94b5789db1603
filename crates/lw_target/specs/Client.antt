-- What a client does and asks for.
use Rattle.std.specs.Prelude.{List, ◌<◌, ◌⊎◌, length, ℕ, ◌≡◌, ◌+◌, ◌-◌, ◌≤◌, vec_len, option_to_list, cond, [], ◌∷◌, ◌++◌, slice_set, map, true, false, None}
use Rattle.std.specs.List.{All}
use Rattle.lw_model.specs.declared.script.Op.{Op}
use Rattle.lw_model.specs.declared.record.Answer.{Answer}
use Rattle.lw_model.specs.declared.record.Answer.TheVariants as answer
use Rattle.lw_model.specs.Holding.{is_sent}
use Rattle.lw_target.specs.declared.channel.Channel.{Channel}
use Rattle.lw_target.specs.declared.client.Client.{Client}
use Rattle.lw_target.specs.declared.device.Device.{Device}
use Rattle.lw_target.specs.declared.mail.Load.{Load}
use Rattle.lw_target.specs.declared.mail.Load.TheVariants as load
use Rattle.lw_base.specs.declared.message.What.TheVariants as what
use Rattle.lw_target.specs.ClientCalls.{reply_carried, still_unanswered}
use Rattle.lw_target.specs.Effects.{after_put, is_destroyed, channel_after, standing_after, sends_after, request_of, gave_back, puts_of}
use Rattle.lw_target.specs.Messages.{Asked, asked_work}
use Rattle.lw_target.specs.Ops.{AllOfOps}
use Rattle.lw_target.specs.Work.{client_work}

-- a client that has run and listed nothing, and holds nothing
pub record IsFresh (c : Client) : Type 0 where
  pub next : c.next ≡ 0
  pub channels : All (λ k. k ≡ record { ordinal = None; references = 0; pending = 0 }) c.channels.items
  pub standing : c.standing ≡ 0
  pub unanswered : c.unanswered.items ≡ []
  pub closed : c.closed ≡ false
  pub done : c.done ≡ false
  pub did : c.did ≡ []
  pub replies : c.replies ≡ []

-- the answer of the next op was listed and counted; the op is on device d, of which the client kept k
pub record Listed (old new : Client) (at d : ℕ) (k : Channel) (a : Answer) : Type 0 where
  pub thread : new.thread ≡ old.thread
  pub first_owner : new.first_owner ≡ old.first_owner
  pub of : new.of ≡ old.of
  pub closed : new.closed ≡ old.closed
  pub done : new.done ≡ old.done
  pub replies : new.replies ≡ old.replies
  pub next : new.next ≡ old.next + 1
  pub did : new.did ≡ old.did ++ record { at = at; op = old.next; answer = a } ∷ []
  pub channels : new.channels.items ≡ slice_set old.channels.items d (channel_after a k)
  pub standing : new.standing ≡ standing_after a old.standing
  pub unanswered : new.unanswered.items ≡ old.unanswered.items

-- the request of op n, which is o on device d, was sent
pub record Asking (old new : Client) (before after : Asked) (d n : ℕ) (o : Op) : Type 0 where
  pub thread : new.thread ≡ old.thread
  pub first_owner : new.first_owner ≡ old.first_owner
  pub of : new.of ≡ old.of
  pub closed : new.closed ≡ old.closed
  pub done : new.done ≡ old.done
  pub replies : new.replies ≡ old.replies
  pub next : new.next ≡ old.next
  pub did : new.did ≡ old.did
  pub channels : new.channels.items ≡ old.channels.items
  pub standing : new.standing ≡ old.standing
  pub unanswered : new.unanswered.items ≡ old.unanswered.items ++ n ∷ []
  pub acts : after ≡ record before { sends = before.sends ++ request_of old.first_owner d n o ∷ [] }

-- the next op, which is o on device d, got its answer
pub record Handled (old new : Client) (before after : Asked) (d : ℕ) (k : Channel) (o : Op) (a : Answer) : Type 0 where
  pub thread : new.thread ≡ old.thread
  pub first_owner : new.first_owner ≡ old.first_owner
  pub of : new.of ≡ old.of
  pub closed : new.closed ≡ old.closed
  pub done : new.done ≡ old.done
  pub replies : new.replies ≡ old.replies
  pub next : new.next ≡ old.next + 1
  pub did : new.did ≡ old.did ++ record { at = before.ran; op = old.next; answer = a } ∷ []
  pub channels : new.channels.items ≡ slice_set old.channels.items d (channel_after a k)
  pub standing : new.standing ≡ standing_after a old.standing
  pub unanswered : new.unanswered.items ≡ old.unanswered.items ++ cond (is_sent a) (old.next ∷ []) []
  pub acts : after ≡ record before { sends = before.sends ++ sends_after a old.thread old.first_owner d old.next o }

-- the client closed: it gave back all references
pub record Closing (old new : Client) (before after : Asked) : Type 0 where
  pub thread : new.thread ≡ old.thread
  pub first_owner : new.first_owner ≡ old.first_owner
  pub of : new.of ≡ old.of
  pub closed : new.closed ≡ true
  pub done : new.done ≡ old.done
  pub replies : new.replies ≡ old.replies
  pub next : new.next ≡ old.next
  pub did : new.did ≡ old.did ++ record { at = before.ran; op = old.next; answer = answer.Closed } ∷ []
  pub channels : new.channels.items ≡ map gave_back old.channels.items
  pub standing : new.standing ≡ old.standing
  pub unanswered : new.unanswered.items ≡ old.unanswered.items
  pub acts : after ≡ record before { sends = before.sends ++ puts_of old.thread 0 old.channels.items }

-- nothing was done: no op is left, or the next one waits for a reply
pub record Paused (old new : Client) (before after : Asked) (devices devices' : List Device) : Type 0 where
  pub client : new ≡ old
  pub acts : after ≡ before
  pub same : devices' ≡ devices
  pub held_up : 1 ≤ old.of.depth → (old.next ≡ length old.of.ops) ⊎ (0 < length old.unanswered.items)

-- the client told the app that it is done
pub record Telling (old new : Client) (before after : Asked) : Type 0 where
  pub thread : new.thread ≡ old.thread
  pub first_owner : new.first_owner ≡ old.first_owner
  pub of : new.of ≡ old.of
  pub next : new.next ≡ old.next
  pub channels : new.channels ≡ old.channels
  pub standing : new.standing ≡ old.standing
  pub unanswered : new.unanswered ≡ old.unanswered
  pub closed : new.closed ≡ old.closed
  pub done : new.done ≡ true
  pub did : new.did ≡ old.did
  pub replies : new.replies ≡ old.replies
  pub acts : after ≡ record before { sends = before.sends ++ record { to = 0; what = what.Done; load = load.Nothing } ∷ [] }

-- the client ran the reply to op k
pub record Received (old new : Client) (k : ℕ) (carried : Load) : Type 0 where
  pub thread : new.thread ≡ old.thread
  pub first_owner : new.first_owner ≡ old.first_owner
  pub of : new.of ≡ old.of
  pub closed : new.closed ≡ old.closed
  pub done : new.done ≡ old.done
  pub next : new.next ≡ old.next
  pub did : new.did ≡ old.did
  pub channels : new.channels ≡ old.channels
  pub standing : new.standing ≡ old.standing
  pub replies : new.replies ≡ old.replies ++ option_to_list (reply_carried (what.Reply k) carried)
  pub unanswered : new.unanswered.items ≡ still_unanswered (what.Reply k) old.unanswered.items

-- the client ran its message to itself behind a put of device d, of which it kept k
pub record TookPut (old new : Client) (d : ℕ) (k : Channel) : Type 0 where
  pub thread : new.thread ≡ old.thread
  pub first_owner : new.first_owner ≡ old.first_owner
  pub of : new.of ≡ old.of
  pub closed : new.closed ≡ old.closed
  pub done : new.done ≡ old.done
  pub next : new.next ≡ old.next
  pub did : new.did ≡ old.did
  pub replies : new.replies ≡ old.replies
  pub unanswered : new.unanswered ≡ old.unanswered
  pub channels : new.channels.items ≡ slice_set old.channels.items d (after_put k)
  pub standing : new.standing ≡ old.standing - cond (is_destroyed k) 1 0

-- the client went on, and did at least so much of its work
pub record Progress (old new : Client) (before after : Asked) (least : ℕ) : Type 0 where
  pub of : new.of ≡ old.of
  pub channels : vec_len new.channels ≡ vec_len old.channels
  pub ran : after.ran ≡ before.ran
  pub sends : AllOfOps old.of.ops before.sends → AllOfOps old.of.ops after.sends
  pub work : asked_work after.sends + client_work new + least ≤ asked_work before.sends + client_work old
