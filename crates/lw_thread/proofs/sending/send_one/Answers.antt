use Rattle.std.proofs.Common.{◌<◌, [], length, sym, ap, subst, ◌∙◌, All, None, inl, inr}
use Rattle.std.specs.Prelude.{slice_index_or}
use Rattle.std.proofs.lemmas.List.Elements.{All-head}
use Rattle.lw_base.specs.Letters.{FitsRing}
use Rattle.lw_ring.specs.Ends.{Sender}
use Rattle.lw_thread.specs.Acts.{Post}
use Rattle.lw_thread.specs.Links.{Tied}
use Rattle.lw_thread.specs.Refused.{AfterSend}
use Rattle.lw_thread.specs.declared.stop.Stop.TheVariants as stop
use Rattle.lw_thread.specs.Posting.{StillWait}
use Rattle.lw_thread.proofs.Making.{sent_one, back_one, grows_still, fits_ring}
use Rattle.lw_thread.proofs.Waits.{for_reason, lost_one, one_again, all_wait}
use Rattle.lw_thread.proofs.sending.send_one.Goals as goal

pub send-requires-clause-fits : goal.send-requires-clause-fits
send-requires-clause-fits g c =
    let P = λ (q : Post g.row.M.Denot). FitsRing g.M.Tagged.fits q.to c.args.links.now.recv.family q.what in
    All-head P (record { to = c.in-Some.field-0.to; what = c.in-Some.field-0.message }) c.next_send.new.self.pending (subst (λ ps. All P ps) c.in-Some.ensures.first.first c.requires.fits)

pub returns-in-Ok-clause-ok : goal.returns-in-Ok-clause-ok
returns-in-Ok-clause-ok g c =
    let d : Sender g.row.M-Letter.Denot g.row.M-Family.Denot = record { queue = c.args.links.now.recv.queue; latch = None; number = 0; family = None; sender = 0; sent = []; found = 0 } in
    sent_one g.M.Tagged.letter g.M.Tagged.marked g.M.Tagged.fits c.args.links.now c.send.new.self c.args.acts.now c.next_send.new.self c.in-Some.field-0.to c.in-Some.field-0.message d c.in-Some.ensures.first (c.in-Ok.ensures.ok d)

pub returns-in-Ok-clause-same : goal.returns-in-Ok-clause-same
returns-in-Ok-clause-same g c =
    let d : Sender g.row.M-Letter.Denot g.row.M-Family.Denot = record { queue = c.args.links.now.recv.queue; latch = None; number = 0; family = None; sender = 0; sent = []; found = 0 } in
    grows_still c.in-Some.field-0.to _ c.args.links.now c.send.new.self (c.in-Ok.ensures.ok d)

pub returns-in_ok-put_first-in-Err-Exited-clause-ok : goal.returns-in_ok-put_first-in-Err-Exited-clause-ok
returns-in_ok-put_first-in-Err-Exited-clause-ok g c =
    let s = c.in-Some.ensures in
    let r = subst (λ f. AfterSend g.M.Tagged.letter g.M.Tagged.marked g.M.Tagged.fits c.in-Some.field-0.to c.in-Some.field-0.message c.args.links.now c.send.new.self f) c.in-Err-Exited.field-0-is c.in-Err-Exited.ensures.refused in
    let m = c.in-Some.field-0.message in
    let to = c.in-Some.field-0.to in
    let P = λ (q : Post g.row.M.Denot). FitsRing g.M.Tagged.fits q.to c.args.links.now.recv.family q.what in
    let fit = All-head P (record { to = to; what = m }) c.next_send.new.self.pending (subst (λ ps. All P ps) s.first.first c.requires.fits) in
    back_one g.M.Tagged.letter g.M.Tagged.marked g.M.Tagged.fits c.args.links.now c.send.new.self c.args.acts.now c.next_send.new.self c.put_first.new.self to m c.in-Err-Exited.message s.first s.kept.1 r.1
    (ap (λ x. g.M.Tagged.marked x 0 0) r.0.same_letter ∙ g.met.M.Tagged.marked_last (g.M.Tagged.letter m) c.args.links.now.thread r.0.number 0 0)
    c.in_ok-put_first-in-Err-Exited.ensures.first
    (fits_ring g.M.Tagged.fits to m c.in-Err-Exited.message r.0.still_fits c.args.links.now.recv.family fit)

pub returns-in_ok-put_first-in-Err-Spent-clause-stop : goal.returns-in_ok-put_first-in-Err-Spent-clause-stop
returns-in_ok-put_first-in-Err-Spent-clause-stop g c =
    let r = subst (λ f. AfterSend g.M.Tagged.letter g.M.Tagged.marked g.M.Tagged.fits c.in-Some.field-0.to c.in-Some.field-0.message c.args.links.now c.send.new.self f) c.in-Err-Spent.field-0-is c.in-Err-Spent.ensures.refused in
    let d : Sender g.row.M-Letter.Denot g.row.M-Family.Denot = record { queue = c.args.links.now.recv.queue; latch = None; number = 0; family = None; sender = 0; sent = []; found = 0 } in
    let to = c.in-Some.field-0.to in
    let ends = ap (λ (t : Tied _ _). t.ends) r.2 in (
      subst (λ n. to < n) (c.requires.threads ∙ ap length (sym ends)) c.in-Some.ensures.kept.0,
      c.next_number.ensures d ∙ ap (λ es. length (slice_index_or es to d).sent) ends ∙ r.1 d,
      λ e. sym (c.next_number.ensures e),
    )

pub returns-in_err-put_first-in-Err-Exited-clause-wait : goal.returns-in_err-put_first-in-Err-Exited-clause-wait
returns-in_err-put_first-in-Err-Exited-clause-wait g c =
    let to = c.in-Some.field-0.to in
    let m = c.in-Some.field-0.message in
    let r = subst (λ f. AfterSend g.M.Tagged.letter g.M.Tagged.marked g.M.Tagged.fits to m c.args.links.now c.send.new.self f) c.in-Err-Exited.field-0-is c.in-Err-Exited.ensures.refused in
    for_reason c.from_residual.result stop.NoMemory (StillWait g.M.Tagged.letter c.args.links.now c.send.new.self c.args.acts.now c.put_first.new.self) c.from_residual.ensures.1
    (lost_one c.args.links.now c.send.new.self c.args.acts.now c.next_send.new.self c.put_first.new.self to m c.in-Some.ensures.first c.in_err-put_first-in-Err-Exited.ensures.same (inr r.1))

pub returns-in_err-put_first-in-Err-NoMemory-clause-wait : goal.returns-in_err-put_first-in-Err-NoMemory-clause-wait
returns-in_err-put_first-in-Err-NoMemory-clause-wait g c =
    let to = c.in-Some.field-0.to in
    let m = c.in-Some.field-0.message in
    let r = subst (λ f. AfterSend g.M.Tagged.letter g.M.Tagged.marked g.M.Tagged.fits to m c.args.links.now c.send.new.self f) c.in-Err-NoMemory.field-0-is c.in-Err-NoMemory.ensures.refused in
    for_reason c.from_residual-in_err-put_first-in-Err-NoMemory.result stop.NoMemory (StillWait g.M.Tagged.letter c.args.links.now c.send.new.self c.args.acts.now c.put_first-in-Err-NoMemory.new.self) c.from_residual-in_err-put_first-in-Err-NoMemory.ensures.1
    (lost_one c.args.links.now c.send.new.self c.args.acts.now c.next_send.new.self c.put_first-in-Err-NoMemory.new.self to m c.in-Some.ensures.first c.in_err-put_first-in-Err-NoMemory.ensures.same (inl r.1))

pub returns-in_err-put_first-in-Err-Spent-clause-wait : goal.returns-in_err-put_first-in-Err-Spent-clause-wait
returns-in_err-put_first-in-Err-Spent-clause-wait g c =
    let to = c.in-Some.field-0.to in
    let m = c.in-Some.field-0.message in
    let r = subst (λ f. AfterSend g.M.Tagged.letter g.M.Tagged.marked g.M.Tagged.fits to m c.args.links.now c.send.new.self f) c.in-Err-Spent.field-0-is c.in-Err-Spent.ensures.refused in
    for_reason c.from_residual-in_err-put_first-in-Err-Spent.result stop.NoMemory (StillWait g.M.Tagged.letter c.args.links.now c.send.new.self c.args.acts.now c.put_first-in-Err-Spent.new.self) c.from_residual-in_err-put_first-in-Err-Spent.ensures.1
    (lost_one c.args.links.now c.send.new.self c.args.acts.now c.next_send.new.self c.put_first-in-Err-Spent.new.self to m c.in-Some.ensures.first c.in_err-put_first-in-Err-Spent.ensures.same (inl r.2))

pub returns-in_ok-put_first-in-Err-NoMemory-clause-wait : goal.returns-in_ok-put_first-in-Err-NoMemory-clause-wait
returns-in_ok-put_first-in-Err-NoMemory-clause-wait g c =
    let to = c.in-Some.field-0.to in
    let m = c.in-Some.field-0.message in
    let r = subst (λ f. AfterSend g.M.Tagged.letter g.M.Tagged.marked g.M.Tagged.fits to m c.args.links.now c.send.new.self f) c.in-Err-NoMemory.field-0-is c.in-Err-NoMemory.ensures.refused in
    let again = c.in_ok-put_first-in-Err-NoMemory.ensures.first in
    one_again c.args.links.now c.send.new.self c.args.acts.now c.next_send.new.self c.put_first-in-Err-NoMemory.new.self to m again.0 c.in-Some.ensures.first again.3 r.1

pub returns-in_ok-put_first-in-Err-Spent-clause-wait : goal.returns-in_ok-put_first-in-Err-Spent-clause-wait
returns-in_ok-put_first-in-Err-Spent-clause-wait g c =
    let to = c.in-Some.field-0.to in
    let m = c.in-Some.field-0.message in
    let s = c.in-Some.ensures in
    let r = subst (λ f. AfterSend g.M.Tagged.letter g.M.Tagged.marked g.M.Tagged.fits to m c.args.links.now c.send.new.self f) c.in-Err-Spent.field-0-is c.in-Err-Spent.ensures.refused in
    let again = c.in_ok-put_first-in-Err-Spent.ensures.first in
    all_wait g.M.Tagged.letter c.args.links.now c.send.new.self c.args.acts.now c.next_send.new.self c.put_first-in-Err-Spent.new.self to m again.0 s.first again.3
    (again.1 ∙ ap (λ x. g.M.Tagged.marked x 0 0) r.0.same_letter ∙ g.met.M.Tagged.marked_last (g.M.Tagged.letter m) c.args.links.now.thread r.0.number 0 0 ∙ sym s.kept.1) r.2
