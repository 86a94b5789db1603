use Rattle.std.proofs.Common.{◌≡◌, length, ap, subst, ◌∙◌, arith}
use Rattle.lw_latch.specs.RingWord.{most_sent}
use Rattle.lw_base.specs.declared.message.Tag.{Tag}
use Rattle.lw_ring.specs.Calls.{AfterRefusal}
use Rattle.lw_event.proofs.Naming.{still_fits, back}
use Rattle.lw_event.proofs.desk.post.Goals as goal

pub send-requires-clause-fits : goal.send-requires-clause-fits
send-requires-clause-fits g c = still_fits c.args.end.now.number c.args.end.now.family c.args.event c.mark.new.self c.sender.result c.sent-count.result c.mark.ensures.named c.requires.fits

pub returns-in-Err-NoMemory-clause-refused : goal.returns-in-Err-NoMemory-clause-refused
returns-in-Err-NoMemory-clause-refused g c =
    let r = subst (λ f. AfterRefusal f c.mark.new.self 1 c.args.end.now c.send.new.self) c.in-Err-NoMemory.field-0-is c.in-Err-NoMemory.ensures.refused in
    let t = c.tag-given.ensures in (
      record {
        whole = back c.args.event c.mark.new.self c.in-Err-NoMemory.event c.mark-in-Err-NoMemory.new.self _ _ _ _ c.mark.ensures.named r.whole c.mark-in-Err-NoMemory.ensures.named (ap (λ (x : Tag). x.sender) t) (ap (λ (x : Tag). x.number) t);
        room = (let n = r.room in omega arith);
      },
      r.same,
    )

pub returns-in-Err-Spent-clause-refused : goal.returns-in-Err-Spent-clause-refused
returns-in-Err-Spent-clause-refused g c =
    let r = subst (λ f. AfterRefusal f c.mark.new.self 1 c.args.end.now c.send.new.self) c.in-Err-Spent.field-0-is c.in-Err-Spent.ensures.refused in
    let long = c.sent-count.ensures.length in
    let most = c.sent-count.ensures.bound in
    let none = r.no_room in
    let all : length c.args.end.now.sent ≡ most_sent = omega arith in
    let t = c.tag-given.ensures in (
      record {
        whole = back c.args.event c.mark.new.self c.in-Err-Spent.event c.mark-in-Err-Spent.new.self _ _ _ _ c.mark.ensures.named r.whole c.mark-in-Err-Spent.ensures.named (ap (λ (x : Tag). x.sender) t) (ap (λ (x : Tag). x.number) t);
        most = all;
        told = long ∙ all;
      },
      r.same,
    )
