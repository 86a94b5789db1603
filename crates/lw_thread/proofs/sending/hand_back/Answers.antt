use Rattle.std.proofs.Common.{◌≡◌, ◌++◌, sym, ap, subst, ◌∙◌}
use Rattle.lw_thread.specs.Acts.{ActsEnd, letters}
use Rattle.lw_thread.specs.Sending.{AreSends}
use Rattle.lw_thread.specs.Links.{known_tied}
use Rattle.lw_thread.proofs.Backs.{back_called, back_going, back_taken, others_kept, on_two, on_three}
use Rattle.lw_thread.proofs.sending.hand_back.Goals as goal

pub returned-outcome-requires-clause-called : goal.returned-outcome-requires-clause-called
returned-outcome-requires-clause-called g c =
    let s = c.in-Some.ensures in
    let m = back_called g.B.Message.Tagged.letter g.B.Message.Tagged.marked g.B.Message.Tagged.fits g.B.Body.lawful c.args.links.now c.args.acts.now c.next_send.new.self c.set_aside-rest.new.self c.args.body.now c.in-Some.field-0.to c.in-Some.field-0.message c.requires.going s.first c.set_aside-rest.ensures.sends.1 s.kept.0 s.kept.1 in
    (known_tied c.args.links.now, letters g.B.Message.Tagged.letter c.next_send.new.self.pending, m.0, m.1, m.2)

pub put_behind-requires : goal.put_behind-requires
put_behind-requires g c =
    let threads : c.returned-outcome.new.acts.threads ≡ c.next_send.new.self.threads = c.returned-outcome.ensures.threads ∙ ap (λ (q : ActsEnd _). q.threads) c.set_aside-rest.ensures.sends.1 in
    subst (λ n. AreSends g.B.Message.Tagged.letter g.B.Message.Tagged.marked n c.set_aside-rest.result.items) (sym threads) c.set_aside-rest.ensures.kept

pub returns-in_err-put_behind-clause-kept : goal.returns-in_err-put_behind-clause-kept
returns-in_err-put_behind-clause-kept g c =
    let put = c.in_err-put_behind.ensures.kept in
    others_kept c.in-Some.field-0.to c.in-Some.field-0.message c.args.acts.now c.next_send.new.self c.returned-outcome.new.acts c.put_behind.new.self _ put.0 c.in-Some.ensures.first c.set_aside-rest.ensures.sends.0 put.1

pub returns-clause-kept : goal.returns-clause-kept
returns-clause-kept g c =
    let put = c.in_ok-put_behind.ensures.kept in
    others_kept c.in-Some.field-0.to c.in-Some.field-0.message c.args.acts.now c.next_send.new.self c.returned-outcome.new.acts c.put_behind.new.self _ put.0 c.in-Some.ensures.first c.set_aside-rest.ensures.sends.0 put.1

pub returns-clause-going : goal.returns-clause-going
returns-clause-going g c =
    let s = c.in-Some.ensures in
    let a = c.set_aside-rest.ensures.sends in
    let t = c.returned-outcome.ensures in
    let put = c.in_ok-put_behind.ensures.all in
    on_three c.returned-outcome.result
    (λ keeps adds fit. back_going g.B.Message.Tagged.letter g.B.Message.Tagged.marked g.B.Message.Tagged.fits g.B.Body.lawful c.args.links.now c.args.acts.now c.next_send.new.self c.set_aside-rest.new.self c.returned-outcome.new.acts c.put_behind.new.self c.args.body.now c.returned-outcome.new.self c.in-Some.field-0.to c.in-Some.field-0.message c.requires.going s.first a.1 s.kept.0 s.kept.1 keeps adds fit
    (put ∙ ap (λ l. record c.returned-outcome.new.acts { pending = c.returned-outcome.new.acts.pending ++ l }) a.0))
    t.lawful t.adds t.fits

pub returns-clause-back : goal.returns-clause-back
returns-clause-back g c =
    let s = c.in-Some.ensures in
    let a = c.set_aside-rest.ensures.sends in
    let t = c.returned-outcome.ensures in
    let put = c.in_ok-put_behind.ensures.all in
    on_two c.returned-outcome.result
    (λ does adds. back_taken g.B.Message.Tagged.letter g.B.Message.Tagged.marked g.B.Message.Tagged.fits g.B.Body.lawful g.B.Body.takes_back c.args.acts.now c.next_send.new.self c.set_aside-rest.new.self c.returned-outcome.new.acts c.put_behind.new.self c.args.body.now c.returned-outcome.new.self c.in-Some.field-0.to c.in-Some.field-0.message s.first a.1 does adds
    (put ∙ ap (λ l. record c.returned-outcome.new.acts { pending = c.returned-outcome.new.acts.pending ++ l }) a.0))
    t.does t.adds
