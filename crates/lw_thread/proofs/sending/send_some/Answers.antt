use Rattle.std.proofs.Common.{◌<◌, [], sym, ap, subst, ◌∙◌, None, refl, inl, inr}
use Rattle.lw_ring.specs.Ends.{Sender}
use Rattle.lw_thread.specs.Acts.{ActsEnd}
use Rattle.lw_thread.specs.declared.stop.Stop.TheVariants as stop
use Rattle.lw_thread.specs.Links.{Tied, FindsClosed}
use Rattle.lw_thread.specs.Refused.{AfterRun}
use Rattle.lw_thread.specs.Posting.{SendsFirst, PutsFirst, StillWait}
use Rattle.lw_thread.proofs.Making.{sent_many, back_many}
use Rattle.lw_thread.proofs.Waits.{for_reason, none_lost, others_wait}
use Rattle.lw_thread.proofs.sending.send_some.Goals as goal

pub put_all_first-requires : goal.put_all_first-requires
put_all_first-requires g c =
    let d : Sender g.row.M-Letter.Denot g.row.M-Family.Denot = record { queue = c.args.links.now.recv.queue; latch = None; number = 0; family = None; sender = 0; sent = []; found = 0 } in
    subst (λ n. c.args.to < n) (sym (ap (λ (q : ActsEnd _). q.threads) (c.gather-run.ensures.gathered d).rest ∙ c.requires.threads)) c.requires.in_range

pub put_all_first-requires-in-Err-NoMemory : goal.put_all_first-requires-in-Err-NoMemory
put_all_first-requires-in-Err-NoMemory g c =
    let d : Sender g.row.M-Letter.Denot g.row.M-Family.Denot = record { queue = c.args.links.now.recv.queue; latch = None; number = 0; family = None; sender = 0; sent = []; found = 0 } in
    subst (λ n. c.args.to < n) (sym (ap (λ (q : ActsEnd _). q.threads) (c.gather-run.ensures.gathered d).rest ∙ c.requires.threads)) c.requires.in_range

pub returns-in-Ok-clause-ok : goal.returns-in-Ok-clause-ok
returns-in-Ok-clause-ok g c =
    let d : Sender g.row.M-Letter.Denot g.row.M-Family.Denot = record { queue = c.args.links.now.recv.queue; latch = None; number = 0; family = None; sender = 0; sent = []; found = 0 } in
    subst (λ (k : Tied _ _). SendsFirst g.M.Tagged.letter g.M.Tagged.marked g.M.Tagged.fits c.args.count k c.send_run.new.self c.args.acts.now c.gather-run.new.acts) c.vector.ensures.same
    (sent_many g.M.Tagged.letter g.M.Tagged.marked g.M.Tagged.fits c.args.count c.vector.new.self c.send_run.new.self c.args.acts.now c.gather-run.new.acts c.args.to c.gather-run.result.items d (c.gather-run.ensures.gathered d) c.gather-run.ensures.count c.in-Ok.ensures.ok)

pub returns-in_ok-put_all_first-in-Err-Exited-clause-ok : goal.returns-in_ok-put_all_first-in-Err-Exited-clause-ok
returns-in_ok-put_all_first-in-Err-Exited-clause-ok g c =
    let d : Sender g.row.M-Letter.Denot g.row.M-Family.Denot = record { queue = c.args.links.now.recv.queue; latch = None; number = 0; family = None; sender = 0; sent = []; found = 0 } in
    let r = subst (λ f. AfterRun c.args.to c.gather-run.result c.vector.new.self c.send_run.new.self f) c.in-Err-Exited.field-0-is c.in-Err-Exited.ensures.refused in
    let put = subst (λ v. PutsFirst g.M.Tagged.letter g.M.Tagged.marked g.M.Tagged.fits c.args.to v.items c.gather-run.new.acts c.put_all_first.new.acts) r.0 c.in_ok-put_all_first-in-Err-Exited.ensures.first in
    subst (λ (k : Tied _ _). SendsFirst g.M.Tagged.letter g.M.Tagged.marked g.M.Tagged.fits c.args.count k c.send_run.new.self c.args.acts.now c.put_all_first.new.acts) c.vector.ensures.same
    (back_many g.M.Tagged.letter g.M.Tagged.marked g.M.Tagged.fits c.args.count c.vector.new.self c.send_run.new.self c.args.acts.now c.gather-run.new.acts c.put_all_first.new.acts c.args.to _ c.gather-run.result.items (c.gather-run.ensures.gathered d) c.gather-run.ensures.count r.1 put (λ x s n t j. g.met.M.Tagged.marked_last x s n t j) c.gather-run.ensures.fits)

pub returns-in_err-vector-clause-wait : goal.returns-in_err-vector-clause-wait
returns-in_err-vector-clause-wait g c =
    for_reason c.from_residual.result stop.NoMemory (StillWait g.M.Tagged.letter c.args.links.now c.vector.new.self c.args.acts.now c.args.acts.now) c.from_residual.ensures.1
    (none_lost c.args.links.now c.vector.new.self c.args.acts.now c.args.acts.now c.args.to c.in_err-vector.ensures.same refl)

pub returns-in_err-put_all_first-in-Err-Exited-clause-wait : goal.returns-in_err-put_all_first-in-Err-Exited-clause-wait
returns-in_err-put_all_first-in-Err-Exited-clause-wait g c =
    let d : Sender g.row.M-Letter.Denot g.row.M-Family.Denot = record { queue = c.args.links.now.recv.queue; latch = None; number = 0; family = None; sender = 0; sent = []; found = 0 } in
    let h = c.gather-run.ensures.gathered d in
    let r = subst (λ f. AfterRun c.args.to c.gather-run.result c.vector.new.self c.send_run.new.self f) c.in-Err-Exited.field-0-is c.in-Err-Exited.ensures.refused in
    let put = c.in_err-put_all_first-in-Err-Exited.ensures.kept in
    for_reason c.from_residual-in_err-put_all_first-in-Err-Exited.result stop.NoMemory (StillWait g.M.Tagged.letter c.args.links.now c.send_run.new.self c.args.acts.now c.put_all_first.new.acts) c.from_residual-in_err-put_all_first-in-Err-Exited.ensures.1
    (others_wait c.args.links.now c.send_run.new.self c.args.acts.now c.gather-run.new.acts c.put_all_first.new.acts c.args.to h.taken put.0 h.parts h.all_to put.1 (inr (subst (λ (k : Tied _ _). FindsClosed c.args.to k c.send_run.new.self) c.vector.ensures.same r.1)))

pub returns-in_err-put_all_first-in-Err-NoMemory-clause-wait : goal.returns-in_err-put_all_first-in-Err-NoMemory-clause-wait
returns-in_err-put_all_first-in-Err-NoMemory-clause-wait g c =
    let d : Sender g.row.M-Letter.Denot g.row.M-Family.Denot = record { queue = c.args.links.now.recv.queue; latch = None; number = 0; family = None; sender = 0; sent = []; found = 0 } in
    let h = c.gather-run.ensures.gathered d in
    let r = subst (λ f. AfterRun c.args.to c.gather-run.result c.vector.new.self c.send_run.new.self f) c.in-Err-NoMemory.field-0-is c.in-Err-NoMemory.ensures.refused in
    let put = c.in_err-put_all_first-in-Err-NoMemory.ensures.kept in
    for_reason c.from_residual-in_err-put_all_first-in-Err-NoMemory.result stop.NoMemory (StillWait g.M.Tagged.letter c.args.links.now c.send_run.new.self c.args.acts.now c.put_all_first-in-Err-NoMemory.new.acts) c.from_residual-in_err-put_all_first-in-Err-NoMemory.ensures.1
    (others_wait c.args.links.now c.send_run.new.self c.args.acts.now c.gather-run.new.acts c.put_all_first-in-Err-NoMemory.new.acts c.args.to h.taken put.0 h.parts h.all_to put.1 (inl (r.1 ∙ c.vector.ensures.same)))

pub returns-in_ok-put_all_first-in-Err-NoMemory-clause-wait : goal.returns-in_ok-put_all_first-in-Err-NoMemory-clause-wait
returns-in_ok-put_all_first-in-Err-NoMemory-clause-wait g c =
    let d : Sender g.row.M-Letter.Denot g.row.M-Family.Denot = record { queue = c.args.links.now.recv.queue; latch = None; number = 0; family = None; sender = 0; sent = []; found = 0 } in
    let h = c.gather-run.ensures.gathered d in
    let r = subst (λ f. AfterRun c.args.to c.gather-run.result c.vector.new.self c.send_run.new.self f) c.in-Err-NoMemory.field-0-is c.in-Err-NoMemory.ensures.refused in
    let put = c.in_ok-put_all_first-in-Err-NoMemory.ensures.first in
    others_wait c.args.links.now c.send_run.new.self c.args.acts.now c.gather-run.new.acts c.put_all_first-in-Err-NoMemory.new.acts c.args.to h.taken put.put h.parts h.all_to put.pending (inl (r.1 ∙ c.vector.ensures.same))
