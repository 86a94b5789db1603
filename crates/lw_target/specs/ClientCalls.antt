-- What the calls of a client send, list and change, beside its own log.
use Rattle.std.specs.Prelude.{ℕ, ◌+◌, ◌-◌, ◌≡◌, ◌≤◌, Bool, true, false, cond, is_none, is_some, List, [], ◌∷◌, ◌++◌, length, map, Option, Some, None, slice_get, filter, filter_map, count_by, not, ◌==◌, option_to_list}
use Rattle.std.specs.List.{range_with_len, list_all}
use Rattle.lw_base.specs.declared.message.Tag.{Tag}
use Rattle.lw_base.specs.declared.message.What.{What}
use Rattle.lw_base.specs.declared.message.What.TheVariants as what
use Rattle.lw_model.specs.declared.script.Script.{Script}
use Rattle.lw_model.specs.declared.record.Reply.{Reply}
use Rattle.lw_model.specs.Threads.{is_on}
use Rattle.lw_model.specs.Holding.{is_putself, ordinal_given}
use Rattle.lw_target.specs.declared.mail.Mail.{Mail}
use Rattle.lw_target.specs.declared.mail.Load.{Load}
use Rattle.lw_target.specs.declared.mail.Load.TheVariants as load
use Rattle.lw_target.specs.declared.acts.Outgoing.{Outgoing}
use Rattle.lw_target.specs.declared.client.Client.{Client}
use Rattle.lw_target.specs.declared.channel.Channel.{Channel}
use Rattle.lw_target.specs.declared.device.Device.{Device}
use Rattle.lw_target.specs.Messages.{Asked}
use Rattle.lw_target.specs.ClientLog.{Follows, IsHeldUp, steps_so_far, sent_so_far, was_refused}

-- sends without what they carry
abbrev pub receivers : List Outgoing → List (ℕ × What)
receivers sends = map (λ o. (o.to, o.what)) sends

-- the op of a request, and the op of a reply
abbrev pub requested : What → Option ℕ
requested w = elim w [ what.Request k ↦ Some k | _ ↦ None ]

abbrev pub replied : What → Option ℕ
replied w = elim w [ what.Reply k ↦ Some k | _ ↦ None ]

-- the `reply` line of a message that is a reply with its answer
abbrev pub reply_carried : What → Load → Option Reply
reply_carried (what.Reply k) (load.Replied a) = Some (record { op = k; answer = a })
reply_carried _ _ = None

-- what is left of the unanswered ops after a message
abbrev pub still_unanswered : What → List ℕ → List ℕ
still_unanswered (what.Reply k) ops = filter (λ j. not (j == k)) ops
still_unanswered _ ops = ops

-- the putselfs of device d among some sends
abbrev pub putselfs_to : ℕ → List Outgoing → ℕ
putselfs_to d sends = count_by (λ o. is_putself d o.what) sends

-- the putselfs of device d that are pending at a client
abbrev pub pending_of : Client → ℕ → ℕ
pending_of c d = elim (slice_get c.channels.items d) [ Some k ↦ k.pending | None ↦ 0 ]

-- each device counts one standing channel where the one client holds one, and has given the ordinals that it was given, in order
pub record Agrees (s : Script) (c : Client) (ran : List Tag) (d : ℕ) (k : Channel) (v : Device) : Type 0 where
  pub standing : v.standing ≡ cond (is_some k.ordinal) 1 0
  pub given : filter_map (ordinal_given (is_on s c.thread d)) (steps_so_far c ran) ≡ range_with_len 0 v.given

abbrev pub AllAgree : Script → Client → List Tag → List Device → Type 0
AllAgree s c ran devices = (d : ℕ) (k : Channel) (v : Device) → slice_get c.channels.items d ≡ Some k → slice_get devices d ≡ Some v → Agrees s c ran d k v

-- no unregistration was begun
abbrev pub all_usable : List Device → Bool
all_usable devices = list_all (λ v. is_none v.shut_by) devices

-- what a client does to devices leaves this of each as it was
abbrev pub ends_of : List Device → List (Option ℕ × ℕ)
ends_of devices = map (λ v. (v.shut_by, v.callbacks)) devices

-- a client ran a message
pub record RanMessage (old new : Client) (m : Mail) : Type 0 where
  pub next : new.next ≡ old.next
  pub closed : new.closed ≡ old.closed
  pub done : new.done ≡ old.done
  pub replies : new.replies ≡ old.replies ++ option_to_list (reply_carried m.tag.what m.load)
  pub unanswered : new.unanswered.items ≡ still_unanswered m.tag.what old.unanswered.items
  pub pending : (d : ℕ) → pending_of new d ≡ pending_of old d - cond (is_putself d m.tag.what) 1 0
  pub follows : (s : Script) (ran : List Tag) → Follows s old ran → Follows s new (ran ++ m.tag ∷ [])
  pub sends : (s : Script) (ran : List Tag) → Follows s old ran → sent_so_far s new (ran ++ m.tag ∷ []) ≡ sent_so_far s old ran
  pub refused : (s : Script) (ran : List Tag) → Follows s old ran → was_refused new (ran ++ m.tag ∷ []) ≡ was_refused old ran

-- a client went on by its ops, its close or its message to the app. `before` and `after` are all sends asked for before and
-- after; what is said of them holds behind whatever was sent before them.
pub record WentOn (old new : Client) (before after : Asked) (devices devices' : List Device) : Type 0 where
  pub replies : new.replies ≡ old.replies
  pub ran : after.ran ≡ before.ran
  pub unanswered : (sent : List ℕ) → old.unanswered.items ≡ sent ++ filter_map (λ o. requested o.what) before.sends → new.unanswered.items ≡ sent ++ filter_map (λ o. requested o.what) after.sends
  pub pending : (d sent : ℕ) → pending_of old d ≡ sent + putselfs_to d before.sends → pending_of new d ≡ sent + putselfs_to d after.sends
  pub follows : (s : Script) (ran : List Tag) → Follows s old ran → before.ran ≡ length ran → Follows s new ran
  pub sends : (s : Script) (ran : List Tag) (sent : List (ℕ × What)) → Follows s old ran → before.ran ≡ length ran
      → sent_so_far s old ran ≡ sent ++ receivers before.sends → sent_so_far s new ran ≡ sent ++ receivers after.sends
  pub usable : (s : Script) (ran : List Tag) → Follows s old ran → before.ran ≡ length ran → all_usable devices ≡ true → was_refused old ran ≡ false → was_refused new ran ≡ false
  pub agree : (s : Script) (ran : List Tag) → Follows s old ran → before.ran ≡ length ran → AllAgree s old ran devices → AllAgree s new ran devices'
  pub ends : ends_of devices' ≡ ends_of devices

-- a client that did nothing in its tick is done, or something keeps it
pub record Rests (old new : Client) (before after : Asked) (devices devices' : List Device) : Type 0 where
  pub client : new ≡ old
  pub acts : after ≡ before
  pub same : devices' ≡ devices
  pub held_up : old.done ≡ false → 1 ≤ old.of.depth → IsHeldUp old
