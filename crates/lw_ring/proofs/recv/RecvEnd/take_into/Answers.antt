use Rattle.std.proofs.Common.{rules, ◌≡◌, ℕ, ◌+◌, ◌-◌, List, ◌++◌, map, reverse, take, drop, length, sym, ap, ◌∙◌, subst, arith}
use Rattle.std.proofs.lemmas.List.{length-reverse, length-map, map-append}
use Rattle.lw_base.specs.Letters.{total_length}
use Rattle.lw_ring.specs.declared.queue.PassView.{PassView}
use Rattle.lw_ring.specs.Queue.{AllFit}
use Rattle.lw_ring.specs.Ends.{Receiver, ReceiverView, Receiving, closed_of}
use Rattle.lw_ring.proofs.Handing.{hands_out, enough_in_hand}
use Rattle.lw_ring.proofs.Rows.{receiving_more}
use Rattle.lw_ring.proofs.recv.RecvEnd.take_into.Goals as goal

pub invariant_of-self : goal.invariant_of-self
invariant_of-self g c =
    let R : Type 0 = Receiver g.row.T-Letter.Denot g.row.T-Family.Denot in
    let V : Type 0 = PassView g.row.T-Letter.Denot g.row.T-Family.Denot in
    let r = c.self.invariant in
    let v : V = c.self.inside.pass.me.view.client in
    let w : V = c.fill.new.pass.me.view.client in
    let given : List g.row.T.Denot = c.fill.new.batch.items in
    let before : List g.row.T.Denot = reverse c.self.inside.hand.items in
    let start : c.hand_out.new.batch.items ++ reverse c.hand_out.new.hand.items ≡ before = c.hand_out.ensures.items ∙ ap (λ (l : List g.row.T.Denot). l ++ before) c.requires.room.0 in
    let out = hands_out g.T.Tagged.letter g.T.Tagged.tag_of g.T.Tagged.fits v w c.self.inside.taken c.self.inside.senders (c.self.inside.taken + length c.self.inside.hand.items) before _ given (reverse c.fill.new.hand.items) r.knows (omega arith) r.in_hand r.hand_fits start c.fill.ensures.off in
    let count : c.len.result ≡ length given = search rules in
    let taken : ℕ = c.self.inside.taken + c.len.result in
    let back = length-reverse c.fill.new.hand.items in
    let size : c.self.inside.taken + length given + length (reverse c.fill.new.hand.items) ≡ taken + length c.fill.new.hand.items = omega arith in
    let not_closed : closed_of c.self.inside.latch ≡ 0 = ap (λ (x : R). x.closed) c.self.view_is ∙ c.requires.not_closed in
    let known = ap (λ (x : V). x.known) out.view in
    record {
      of_queue = search rules;
      knows = subst (λ n. ReceiverView w c.self.inside.senders n) size out.gets;
      short = (let a = out.size in let b = out.short in omega arith);
      few_known = (let a = ap length known in let b = r.few_known in omega arith);
      receiving = subst (λ ks. Receiving c.self.inside.latch (c.self.inside.senders - length ks) (total_length ks) taken) (sym known)
          (receiving_more c.self.inside.latch _ _ _ _ (λ closed. absurd (omega arith)) r.receiving);
      in_hand = ap (λ n. drop (c.self.inside.taken + n) w.got) count ∙ out.hand;
      hand_fits = out.after_fit;
      all_spare = c.fill.ensures.spares;
    }

pub returns-clause-taken : goal.returns-clause-taken
returns-clause-taken g c =
    let R : Type 0 = Receiver g.row.T-Letter.Denot g.row.T-Family.Denot in
    let V : Type 0 = PassView g.row.T-Letter.Denot g.row.T-Family.Denot in
    let r = c.self.invariant in
    let v : V = c.self.inside.pass.me.view.client in
    let w : V = c.fill.new.pass.me.view.client in
    let given : List g.row.T.Denot = c.fill.new.batch.items in
    let before : List g.row.T.Denot = reverse c.self.inside.hand.items in
    let start : c.hand_out.new.batch.items ++ reverse c.hand_out.new.hand.items ≡ before = c.hand_out.ensures.items ∙ ap (λ (l : List g.row.T.Denot). l ++ before) c.requires.room.0 in
    let out = hands_out g.T.Tagged.letter g.T.Tagged.tag_of g.T.Tagged.fits v w c.self.inside.taken c.self.inside.senders (c.self.inside.taken + length c.self.inside.hand.items) before _ given (reverse c.fill.new.hand.items) r.knows (omega arith) r.in_hand r.hand_fits start c.fill.ensures.off in
    let count : c.len.result ≡ length given = search rules in
    let got : take (c.self.inside.taken + c.len.result) w.got ≡ c.args.self.now.taken ++ map g.T.Tagged.letter given =
    ap (λ n. take (c.self.inside.taken + n) w.got) count ∙ out.taken ∙ ap (λ (x : R). x.taken ++ map g.T.Tagged.letter given) c.self.view_is in
    let view = out.view in
    λ k. record {
      queue = (ap (λ (x : R). x.queue) c.self.view_is) k;
      latch = (ap (λ (x : R). x.latch) c.self.view_is) k;
      number = (ap (λ (y : V). y.number) view ∙ ap (λ (x : R). x.number) c.self.view_is) k;
      family = (ap (λ (y : V). y.family) view ∙ ap (λ (x : R). x.family) c.self.view_is) k;
      senders = (ap (λ (x : R). x.senders) c.self.view_is) k;
      taken = got k;
      hand = drop (c.self.inside.taken + c.len.result) w.got;
      closed = (ap (λ (x : R). x.closed) c.self.view_is) k;
      tries = (ap (λ (x : R). x.tries) c.self.view_is) k;
      seen = (ap (λ (x : R). x.seen) c.self.view_is) k;
      known = (ap (λ (y : V). y.known) view ∙ ap (λ (x : R). x.known) c.self.view_is) k;
      found = (ap (λ (x : R). x.found) c.self.view_is) k;
    }

pub returns-clause-order : goal.returns-clause-order
returns-clause-order g c =
    let R : Type 0 = Receiver g.row.T-Letter.Denot g.row.T-Family.Denot in
    let V : Type 0 = PassView g.row.T-Letter.Denot g.row.T-Family.Denot in
    let r = c.self.invariant in
    let v : V = c.self.inside.pass.me.view.client in
    let w : V = c.fill.new.pass.me.view.client in
    let given : List g.row.T.Denot = c.fill.new.batch.items in
    let before : List g.row.T.Denot = reverse c.self.inside.hand.items in
    let start : c.hand_out.new.batch.items ++ reverse c.hand_out.new.hand.items ≡ before = c.hand_out.ensures.items ∙ ap (λ (l : List g.row.T.Denot). l ++ before) c.requires.room.0 in
    let out = hands_out g.T.Tagged.letter g.T.Tagged.tag_of g.T.Tagged.fits v w c.self.inside.taken c.self.inside.senders (c.self.inside.taken + length c.self.inside.hand.items) before _ given (reverse c.fill.new.hand.items) r.knows (omega arith) r.in_hand r.hand_fits start c.fill.ensures.off in
    let count : c.len.result ≡ length given = search rules in
    let hand = ap (λ n. drop (c.self.inside.taken + n) w.got) count ∙ out.hand in
    record { more = out.order.more; parts = ap (λ (x : R). x.hand ++ out.order.more) (sym c.self.view_is) ∙ out.order.parts ∙ ap (λ l. map g.T.Tagged.letter given ++ l) (sym hand) }

pub returns-clause-each : goal.returns-clause-each
returns-clause-each g c =
    let R : Type 0 = Receiver g.row.T-Letter.Denot g.row.T-Family.Denot in
    let V : Type 0 = PassView g.row.T-Letter.Denot g.row.T-Family.Denot in
    let r = c.self.invariant in
    let v : V = c.self.inside.pass.me.view.client in
    let w : V = c.fill.new.pass.me.view.client in
    let given : List g.row.T.Denot = c.fill.new.batch.items in
    let before : List g.row.T.Denot = reverse c.self.inside.hand.items in
    let start : c.hand_out.new.batch.items ++ reverse c.hand_out.new.hand.items ≡ before = c.hand_out.ensures.items ∙ ap (λ (l : List g.row.T.Denot). l ++ before) c.requires.room.0 in
    let out = hands_out g.T.Tagged.letter g.T.Tagged.tag_of g.T.Tagged.fits v w c.self.inside.taken c.self.inside.senders (c.self.inside.taken + length c.self.inside.hand.items) before _ given (reverse c.fill.new.hand.items) r.knows (omega arith) r.in_hand r.hand_fits start c.fill.ensures.off in
    let count : c.len.result ≡ length given = search rules in
    subst (λ (x : R). AllFit g.T.Tagged.letter g.T.Tagged.tag_of g.T.Tagged.fits x.number x.family x.senders given) c.self.view_is out.given_fit

pub returns-clause-in_hand : goal.returns-clause-in_hand
returns-clause-in_hand g c = λ enough.
    let R : Type 0 = Receiver g.row.T-Letter.Denot g.row.T-Family.Denot in
    let V : Type 0 = PassView g.row.T-Letter.Denot g.row.T-Family.Denot in
    let r = c.self.invariant in
    let v : V = c.self.inside.pass.me.view.client in
    let w : V = c.fill.new.pass.me.view.client in
    let given : List g.row.T.Denot = c.fill.new.batch.items in
    let before : List g.row.T.Denot = reverse c.self.inside.hand.items in
    let start : c.hand_out.new.batch.items ++ reverse c.hand_out.new.hand.items ≡ before = c.hand_out.ensures.items ∙ ap (λ (l : List g.row.T.Denot). l ++ before) c.requires.room.0 in
    let out = hands_out g.T.Tagged.letter g.T.Tagged.tag_of g.T.Tagged.fits v w c.self.inside.taken c.self.inside.senders (c.self.inside.taken + length c.self.inside.hand.items) before _ given (reverse c.fill.new.hand.items) r.knows (omega arith) r.in_hand r.hand_fits start c.fill.ensures.off in
    let count : c.len.result ≡ length given = search rules in
    let hand = ap (λ n. drop (c.self.inside.taken + n) w.got) count ∙ out.hand in
    let letter = g.T.Tagged.letter in
    let was : c.args.self.now.hand ≡ map letter before = ap (λ (x : R). x.hand) (sym c.self.view_is) ∙ r.in_hand in
    let size = ap length was ∙ length-map before letter in
    let one : List g.row.T.Denot = c.hand_out.new.batch.items in
    let rest : List g.row.T.Denot = reverse c.hand_out.new.hand.items in
    let full = enough_in_hand one rest before c.args.max start c.hand_out.ensures.count (λ less. ap (λ (l : List g.row.T.Denot). reverse l) (c.hand_out.ensures.all less)) (omega arith) in
    let same = c.fill.ensures.full full in
    was ∙ ap (map letter) (sym start) ∙ map-append letter one rest ∙ (λ k. map letter (sym same.0 k) ++ map letter (reverse (sym same.1 k))) ∙ ap (λ l. map letter given ++ l) (sym hand)
