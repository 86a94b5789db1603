use Rattle.std.proofs.Common.{ℕ, ◌≡◌, ◌<◌, false, length, refl, ap, arith}
use Rattle.std.specs.Prelude.{slice_get}
use Rattle.std.proofs.lemmas.Option.{IfSome_then}
use Rattle.lw_model.specs.Holding.{is_putself}
use Rattle.lw_target.proofs.RanMessages.{RanStep, ran_message, ran_agree, devices_stay, devices_put, ends_put, given_put, step_reply, replies_reply, replies_stay, step_none, step_put, put_past, no_reply_put, not_putself, PutTaken, put_taken, same_work}
use Rattle.lw_target.proofs.client.Client.run.Goals as goal

-- ---- a put of a device that is not there

past : (c : goal.Joined-mail-2) → (d : ℕ) → d < length c.args.self.now.channels.items → is_putself d c.args.mail.tag.what ≡ false
past c = put_past c.args.mail.tag c.in-PutSelf.device (length c.args.self.now.channels.items) c.in-PutSelf.is (omega (arith, c.if-image-len.true, c.len.ensures, c.args.self.now.channels.ok.0))

step_past : (c : goal.Joined-mail-2) → RanStep c.args.self.now c.args.self.now c.args.mail.tag
step_past c = step_none c.args.self.now c.args.mail.tag (no_reply_put c.args.mail.tag c.in-PutSelf.device c.in-PutSelf.is) (past c)

pub returns-then-image-len-clause-ran : goal.returns-then-image-len-clause-ran
returns-then-image-len-clause-ran c =
    ran_message c.args.self.now c.args.self.now c.args.mail (step_past c)
    (replies_stay c.args.self.now c.args.self.now c.args.mail refl (no_reply_put c.args.mail.tag c.in-PutSelf.device c.in-PutSelf.is))

pub returns-then-image-len-clause-agree : goal.returns-then-image-len-clause-agree
returns-then-image-len-clause-agree c =
    λ s ran h all. ran_agree s c.args.self.now c.args.self.now ran c.args.mail.tag c.args.devices.now c.args.devices.now (step_past c)
    (devices_stay c.args.self.now c.args.devices.now c.args.mail.tag (past c)) h all

-- ---- a reply

step_received : (c : goal.In_ok-take_reply-in-Reply) → RanStep c.args.self.now c.take_reply.new.self c.args.mail.tag
step_received c = step_reply c.args.self.now c.take_reply.new.self c.args.mail c.in-Reply.op c.in-Reply.is c.in_ok-take_reply-in-Reply.ensures

pub returns-in_ok-take_reply-in-Reply-clause-ran : goal.returns-in_ok-take_reply-in-Reply-clause-ran
returns-in_ok-take_reply-in-Reply-clause-ran c =
    ran_message c.args.self.now c.take_reply.new.self c.args.mail (step_received c)
    (replies_reply c.args.self.now c.take_reply.new.self c.args.mail c.in-Reply.op c.in-Reply.is c.in_ok-take_reply-in-Reply.ensures)

pub returns-in_ok-take_reply-in-Reply-clause-agree : goal.returns-in_ok-take_reply-in-Reply-clause-agree
returns-in_ok-take_reply-in-Reply-clause-agree c =
    λ s ran h all. ran_agree s c.args.self.now c.take_reply.new.self ran c.args.mail.tag c.args.devices.now c.args.devices.now (step_received c)
    (devices_stay c.args.self.now c.args.devices.now c.args.mail.tag (λ d within. ap (is_putself d) c.in-Reply.is)) h all

-- ---- a put

taken : (c : goal.Joined-mail-3) → PutTaken c.args.self.now c.take_put.new.self c.args.devices.now c.take_put.new.devices c.in-PutSelf.device
taken c = put_taken c.args.self.now c.take_put.new.self c.args.devices.now c.take_put.new.devices c.in-PutSelf.device
    (omega (arith, c.if-image-len.false, c.len.ensures)) c.requires.devices
    (IfSome_then (slice_get c.args.self.now.channels.items c.in-PutSelf.device) c.take_put.ensures.client
    (λ k r. record {
      thread = r.thread;
      first_owner = r.first_owner;
      of = r.of;
      closed = r.closed;
      done = r.done;
      next = r.next;
      did = r.did;
      replies = r.replies;
      unanswered = r.unanswered;
      channels = r.channels;
      standing = r.standing;
    }))
    c.take_put.ensures.devices

step_taken : (c : goal.Joined-mail-3) → RanStep c.args.self.now c.take_put.new.self c.args.mail.tag
step_taken c = let t = taken c in step_put c.args.self.now c.take_put.new.self c.args.mail.tag c.in-PutSelf.device t.k c.in-PutSelf.is t.kept t.client

pub returns-else-image-len-clause-of : goal.returns-else-image-len-clause-of
returns-else-image-len-clause-of c = (step_taken c).of

pub returns-else-image-len-clause-channels : goal.returns-else-image-len-clause-channels
returns-else-image-len-clause-channels c = (step_taken c).length

pub returns-else-image-len-clause-work : goal.returns-else-image-len-clause-work
returns-else-image-len-clause-work c = same_work c.args.self.now c.take_put.new.self c.args.mail.tag (step_taken c)

pub returns-else-image-len-clause-ran : goal.returns-else-image-len-clause-ran
returns-else-image-len-clause-ran c =
    ran_message c.args.self.now c.take_put.new.self c.args.mail (step_taken c)
    (replies_stay c.args.self.now c.take_put.new.self c.args.mail (taken c).client.replies (no_reply_put c.args.mail.tag c.in-PutSelf.device c.in-PutSelf.is))

pub returns-else-image-len-clause-agree : goal.returns-else-image-len-clause-agree
returns-else-image-len-clause-agree c =
    let t = taken c in
    λ s ran h all. ran_agree s c.args.self.now c.take_put.new.self ran c.args.mail.tag c.args.devices.now c.take_put.new.devices (step_taken c)
    (devices_put c.args.self.now c.args.devices.now c.take_put.new.devices c.args.mail.tag c.in-PutSelf.device t.k t.v c.in-PutSelf.is t.kept t.seen t.changed) h all

pub returns-else-image-len-clause-ends : goal.returns-else-image-len-clause-ends
returns-else-image-len-clause-ends c = let t = taken c in ends_put c.args.devices.now c.take_put.new.devices c.in-PutSelf.device t.k t.v t.seen t.changed

pub returns-else-image-len-clause-given : goal.returns-else-image-len-clause-given
returns-else-image-len-clause-given c = let t = taken c in given_put c.args.devices.now c.take_put.new.devices c.in-PutSelf.device t.k t.v t.seen t.changed

-- ---- another message

step_other : (c : goal.Joined-mail-4) → RanStep c.args.self.now c.args.self.now c.args.mail.tag
step_other c = step_none c.args.self.now c.args.mail.tag c.in_default.not-Reply (λ d within. not_putself c.args.mail.tag.what c.in_default.not-PutSelf d)

pub returns-in_default : goal.returns-in_default
returns-in_default c = record {
  of = refl;
  channels = refl;
  work = refl;
  ran = ran_message c.args.self.now c.args.self.now c.args.mail (step_other c) (replies_stay c.args.self.now c.args.self.now c.args.mail refl c.in_default.not-Reply);
  agree = λ s ran h all. ran_agree s c.args.self.now c.args.self.now ran c.args.mail.tag c.args.devices.now c.args.devices.now (step_other c)
      (devices_stay c.args.self.now c.args.devices.now c.args.mail.tag (λ d within. not_putself c.args.mail.tag.what c.in_default.not-PutSelf d)) h all;
  ends = refl;
  given = refl;
}
