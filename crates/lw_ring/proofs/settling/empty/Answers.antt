use Rattle.std.proofs.Common.{rules, ◌≡◌, ℕ, ◌+◌, ◌-◌, ◌++◌, List, [], length, map, reverse, take, drop, ◌∙◌, ap, sym, subst, arith, length-append}
use Rattle.std.proofs.lemmas.List.{append-nil, length-map, nil_from_length}
use Rattle.lw_ring.specs.declared.queue.PassView.{PassView}
use Rattle.lw_base.specs.Letters.{total_length, sent_by, list_at}
use Rattle.lw_ring.specs.Ends.{Receiver, ReceiverView, Receiving, latch_id, closed_of, tries_of, seen_of, found_of}
use Rattle.lw_ring.proofs.Ending.{ending, all_in}
use Rattle.lw_ring.specs.Queue.{AllFit, TakenOff}
use Rattle.lw_ring.proofs.Handing.{hands_out}
use Rattle.lw_ring.proofs.Rows.{receiving_more}
use Rattle.lw_ring.proofs.settling.empty.Goals as goal

pub learn-requires : goal.learn-requires
learn-requires g c =
    let R : Type 0 = Receiver g.row.T-Letter.Denot g.row.T-Family.Denot in
    let a = ap (λ (r : R). length r.known) c.recv.view_is in
    let b = ap (λ (r : R). r.senders) c.recv.view_is in
    let all = c.requires in
    (total_length c.recv.inside.pass.me.view.client.known, c.recv.inside.taken, all_in c.recv.inside.latch _ _ _ (omega arith) c.recv.invariant.receiving)

pub invariant_of-recv : goal.invariant_of-recv
invariant_of-recv g c =
    let R : Type 0 = Receiver g.row.T-Letter.Denot g.row.T-Family.Denot in
    let V : Type 0 = PassView g.row.T-Letter.Denot g.row.T-Family.Denot in
    let letter = g.T.Tagged.letter in
    let r = c.recv.invariant in
    let v : V = c.recv.inside.pass.me.view.client in
    let w : V = c.drain.new.pass.me.view.client in
    let n : ℕ = c.recv.inside.taken in
    let left : List g.row.T.Denot = c.in_ok-left.left.items in
    let none : List g.row.T.Denot = [] in
    let before : List g.row.T.Denot = reverse c.recv.inside.hand.items in
    let off = subst (λ (l : List g.row.T.Denot). TakenOff letter g.T.Tagged.tag_of g.T.Tagged.fits v w c.reverse.new.self.items l) (sym (append-nil left)) c.in_ok-left.ensures.off in
    let out = hands_out letter g.T.Tagged.tag_of g.T.Tagged.fits v w n c.recv.inside.senders (n + length c.recv.inside.hand.items) before c.reverse.new.self.items left none r.knows (omega arith) r.in_hand r.hand_fits c.reverse.ensures.items off in
    let count : c.len.result ≡ length left = search rules in
    let a = ap (λ (x : R). length x.known) c.recv.view_is in
    let b = ap (λ (x : R). x.senders) c.recv.view_is in
    let all = c.requires in
    let none_out : length v.known ≡ c.recv.inside.senders = omega arith in
    let end = ending letter g.T.Tagged.tag_of g.T.Tagged.fits v w (map letter off.more) c.recv.inside.senders (n + length c.recv.inside.hand.items) r.knows none_out off.view c.in_ok-left.ensures.empty in
    let got : v.got ++ map letter off.more ≡ take n v.got ++ map letter left = sym (ap (λ (y : V). y.got) off.view) ∙ out.whole ∙ append-nil (take n v.got ++ map letter left) in
    let receiving : Receiving c.recv.inside.latch 0 (total_length v.known) n = all_in c.recv.inside.latch _ _ _ (omega arith) r.receiving in
    let sum : n + length left ≡ total_length v.known = (let s = end.1 in let t = out.size in let u = ap (λ (y : V). length y.got) off.view in omega arith) in
    let same = ap (λ (x : V). x.known) out.view in
    let empty : length c.new.result.items ≡ 0 = ap length c.new.ensures.items in
    let size : n + length left + length none ≡ n + c.len.result + length c.new.result.items = omega arith in
    let nothing : closed_of c.recv.inside.latch ≡ 1 → n ≡ n + c.len.result =
    λ closed. (let full = c.learn.ensures.settled (total_length v.known) n receiving closed in omega arith) in
    record {
      of_queue = search rules;
      knows = subst (λ m. ReceiverView w c.recv.inside.senders m) size out.gets;
      short = (let d = out.size in let e = out.short in omega arith);
      few_known = (let few = ap length same in let most = r.few_known in omega arith);
      receiving = subst (λ l. Receiving l (c.recv.inside.senders - length w.known) (total_length w.known) (n + c.len.result)) (sym c.learn.ensures.same)
          (subst (λ ks. Receiving c.recv.inside.latch (c.recv.inside.senders - length ks) (total_length ks) (n + c.len.result)) (sym same)
          (receiving_more c.recv.inside.latch _ _ _ _ nothing r.receiving));
      in_hand = ap (λ m. drop (n + m) w.got) count ∙ out.hand ∙ ap (λ (l : List g.row.T.Denot). map letter (reverse l)) (sym c.new.ensures.items);
      hand_fits = subst (λ (l : List g.row.T.Denot). AllFit letter g.T.Tagged.tag_of g.T.Tagged.fits w.number w.family c.recv.inside.senders (reverse l)) (sym c.new.ensures.items) out.after_fit;
      all_spare = r.all_spare;
    }

pub returns-clause-recv : goal.returns-clause-recv
returns-clause-recv g c =
    let R : Type 0 = Receiver g.row.T-Letter.Denot g.row.T-Family.Denot in
    let V : Type 0 = PassView g.row.T-Letter.Denot g.row.T-Family.Denot in
    let letter = g.T.Tagged.letter in
    let r = c.recv.invariant in
    let v : V = c.recv.inside.pass.me.view.client in
    let w : V = c.drain.new.pass.me.view.client in
    let n : ℕ = c.recv.inside.taken in
    let left : List g.row.T.Denot = c.in_ok-left.left.items in
    let none : List g.row.T.Denot = [] in
    let before : List g.row.T.Denot = reverse c.recv.inside.hand.items in
    let off = subst (λ (l : List g.row.T.Denot). TakenOff letter g.T.Tagged.tag_of g.T.Tagged.fits v w c.reverse.new.self.items l) (sym (append-nil left)) c.in_ok-left.ensures.off in
    let out = hands_out letter g.T.Tagged.tag_of g.T.Tagged.fits v w n c.recv.inside.senders (n + length c.recv.inside.hand.items) before c.reverse.new.self.items left none r.knows (omega arith) r.in_hand r.hand_fits c.reverse.ensures.items off in
    let count : c.len.result ≡ length left = search rules in
    let a = ap (λ (x : R). length x.known) c.recv.view_is in
    let b = ap (λ (x : R). x.senders) c.recv.view_is in
    let all = c.requires in
    let none_out : length v.known ≡ c.recv.inside.senders = omega arith in
    let end = ending letter g.T.Tagged.tag_of g.T.Tagged.fits v w (map letter off.more) c.recv.inside.senders (n + length c.recv.inside.hand.items) r.knows none_out off.view c.in_ok-left.ensures.empty in
    let got : v.got ++ map letter off.more ≡ take n v.got ++ map letter left = sym (ap (λ (y : V). y.got) off.view) ∙ out.whole ∙ append-nil (take n v.got ++ map letter left) in
    let receiving : Receiving c.recv.inside.latch 0 (total_length v.known) n = all_in c.recv.inside.latch _ _ _ (omega arith) r.receiving in
    let sum : n + length left ≡ total_length v.known = (let s = end.1 in let t = out.size in let u = ap (λ (y : V). length y.got) off.view in omega arith) in
    let view = out.view in
    let latch = c.learn.ensures.same in
    λ k. record {
      queue = (ap (λ (x : R). x.queue) c.recv.view_is) k;
      latch = (ap latch_id latch ∙ ap (λ (x : R). x.latch) c.recv.view_is) k;
      number = (ap (λ (y : V). y.number) view ∙ ap (λ (x : R). x.number) c.recv.view_is) k;
      family = (ap (λ (y : V). y.family) view ∙ ap (λ (x : R). x.family) c.recv.view_is) k;
      senders = (ap (λ (x : R). x.senders) c.recv.view_is) k;
      taken = (ap (λ m. take (n + m) w.got) count ∙ out.taken ∙ ap (λ (x : R). x.taken ++ map letter left) c.recv.view_is) k;
      hand = (ap (λ m. drop (n + m) w.got) count ∙ out.hand) k;
      closed = (ap closed_of latch ∙ ap (λ (x : R). x.closed) c.recv.view_is) k;
      tries = (ap tries_of latch ∙ ap (λ (x : R). x.tries) c.recv.view_is) k;
      seen = (ap seen_of latch ∙ ap (λ (x : R). x.seen) c.recv.view_is) k;
      known = (ap (λ (y : V). y.known) view ∙ ap (λ (x : R). x.known) c.recv.view_is) k;
      found = (ap found_of latch ∙ ap (λ (x : R). x.found) c.recv.view_is) k;
    }

pub returns-clause-each : goal.returns-clause-each
returns-clause-each g c =
    let R : Type 0 = Receiver g.row.T-Letter.Denot g.row.T-Family.Denot in
    let V : Type 0 = PassView g.row.T-Letter.Denot g.row.T-Family.Denot in
    let letter = g.T.Tagged.letter in
    let r = c.recv.invariant in
    let v : V = c.recv.inside.pass.me.view.client in
    let w : V = c.drain.new.pass.me.view.client in
    let n : ℕ = c.recv.inside.taken in
    let left : List g.row.T.Denot = c.in_ok-left.left.items in
    let none : List g.row.T.Denot = [] in
    let before : List g.row.T.Denot = reverse c.recv.inside.hand.items in
    let off = subst (λ (l : List g.row.T.Denot). TakenOff letter g.T.Tagged.tag_of g.T.Tagged.fits v w c.reverse.new.self.items l) (sym (append-nil left)) c.in_ok-left.ensures.off in
    let out = hands_out letter g.T.Tagged.tag_of g.T.Tagged.fits v w n c.recv.inside.senders (n + length c.recv.inside.hand.items) before c.reverse.new.self.items left none r.knows (omega arith) r.in_hand r.hand_fits c.reverse.ensures.items off in
    let count : c.len.result ≡ length left = search rules in
    let a = ap (λ (x : R). length x.known) c.recv.view_is in
    let b = ap (λ (x : R). x.senders) c.recv.view_is in
    let all = c.requires in
    let none_out : length v.known ≡ c.recv.inside.senders = omega arith in
    let end = ending letter g.T.Tagged.tag_of g.T.Tagged.fits v w (map letter off.more) c.recv.inside.senders (n + length c.recv.inside.hand.items) r.knows none_out off.view c.in_ok-left.ensures.empty in
    let got : v.got ++ map letter off.more ≡ take n v.got ++ map letter left = sym (ap (λ (y : V). y.got) off.view) ∙ out.whole ∙ append-nil (take n v.got ++ map letter left) in
    let receiving : Receiving c.recv.inside.latch 0 (total_length v.known) n = all_in c.recv.inside.latch _ _ _ (omega arith) r.receiving in
    let sum : n + length left ≡ total_length v.known = (let s = end.1 in let t = out.size in let u = ap (λ (y : V). length y.got) off.view in omega arith) in
    λ p. ap (λ (x : R). sent_by g.T.Tagged.tag_of p (x.taken ++ map letter left)) (sym c.recv.view_is) ∙ ap (sent_by g.T.Tagged.tag_of p) (sym got) ∙ end.0 p ∙ ap (λ (x : R). list_at x.known p) c.recv.view_is

pub returns-clause-fits : goal.returns-clause-fits
returns-clause-fits g c =
    let R : Type 0 = Receiver g.row.T-Letter.Denot g.row.T-Family.Denot in
    let V : Type 0 = PassView g.row.T-Letter.Denot g.row.T-Family.Denot in
    let letter = g.T.Tagged.letter in
    let r = c.recv.invariant in
    let v : V = c.recv.inside.pass.me.view.client in
    let w : V = c.drain.new.pass.me.view.client in
    let n : ℕ = c.recv.inside.taken in
    let left : List g.row.T.Denot = c.in_ok-left.left.items in
    let none : List g.row.T.Denot = [] in
    let before : List g.row.T.Denot = reverse c.recv.inside.hand.items in
    let off = subst (λ (l : List g.row.T.Denot). TakenOff letter g.T.Tagged.tag_of g.T.Tagged.fits v w c.reverse.new.self.items l) (sym (append-nil left)) c.in_ok-left.ensures.off in
    let out = hands_out letter g.T.Tagged.tag_of g.T.Tagged.fits v w n c.recv.inside.senders (n + length c.recv.inside.hand.items) before c.reverse.new.self.items left none r.knows (omega arith) r.in_hand r.hand_fits c.reverse.ensures.items off in
    let count : c.len.result ≡ length left = search rules in
    let a = ap (λ (x : R). length x.known) c.recv.view_is in
    let b = ap (λ (x : R). x.senders) c.recv.view_is in
    let all = c.requires in
    let none_out : length v.known ≡ c.recv.inside.senders = omega arith in
    let end = ending letter g.T.Tagged.tag_of g.T.Tagged.fits v w (map letter off.more) c.recv.inside.senders (n + length c.recv.inside.hand.items) r.knows none_out off.view c.in_ok-left.ensures.empty in
    let got : v.got ++ map letter off.more ≡ take n v.got ++ map letter left = sym (ap (λ (y : V). y.got) off.view) ∙ out.whole ∙ append-nil (take n v.got ++ map letter left) in
    let receiving : Receiving c.recv.inside.latch 0 (total_length v.known) n = all_in c.recv.inside.latch _ _ _ (omega arith) r.receiving in
    let sum : n + length left ≡ total_length v.known = (let s = end.1 in let t = out.size in let u = ap (λ (y : V). length y.got) off.view in omega arith) in
    subst (λ (x : R). AllFit letter g.T.Tagged.tag_of g.T.Tagged.fits x.number x.family x.senders left) c.recv.view_is out.given_fit

pub returns-clause-order : goal.returns-clause-order
returns-clause-order g c =
    let R : Type 0 = Receiver g.row.T-Letter.Denot g.row.T-Family.Denot in
    let V : Type 0 = PassView g.row.T-Letter.Denot g.row.T-Family.Denot in
    let letter = g.T.Tagged.letter in
    let r = c.recv.invariant in
    let v : V = c.recv.inside.pass.me.view.client in
    let w : V = c.drain.new.pass.me.view.client in
    let n : ℕ = c.recv.inside.taken in
    let left : List g.row.T.Denot = c.in_ok-left.left.items in
    let none : List g.row.T.Denot = [] in
    let before : List g.row.T.Denot = reverse c.recv.inside.hand.items in
    let off = subst (λ (l : List g.row.T.Denot). TakenOff letter g.T.Tagged.tag_of g.T.Tagged.fits v w c.reverse.new.self.items l) (sym (append-nil left)) c.in_ok-left.ensures.off in
    let out = hands_out letter g.T.Tagged.tag_of g.T.Tagged.fits v w n c.recv.inside.senders (n + length c.recv.inside.hand.items) before c.reverse.new.self.items left none r.knows (omega arith) r.in_hand r.hand_fits c.reverse.ensures.items off in
    let count : c.len.result ≡ length left = search rules in
    let a = ap (λ (x : R). length x.known) c.recv.view_is in
    let b = ap (λ (x : R). x.senders) c.recv.view_is in
    let all = c.requires in
    let none_out : length v.known ≡ c.recv.inside.senders = omega arith in
    let end = ending letter g.T.Tagged.tag_of g.T.Tagged.fits v w (map letter off.more) c.recv.inside.senders (n + length c.recv.inside.hand.items) r.knows none_out off.view c.in_ok-left.ensures.empty in
    let got : v.got ++ map letter off.more ≡ take n v.got ++ map letter left = sym (ap (λ (y : V). y.got) off.view) ∙ out.whole ∙ append-nil (take n v.got ++ map letter left) in
    let receiving : Receiving c.recv.inside.latch 0 (total_length v.known) n = all_in c.recv.inside.latch _ _ _ (omega arith) r.receiving in
    let sum : n + length left ≡ total_length v.known = (let s = end.1 in let t = out.size in let u = ap (λ (y : V). length y.got) off.view in omega arith) in
    record { more = out.order.more; parts = ap (λ (x : R). x.hand ++ out.order.more) (sym c.recv.view_is) ∙ out.order.parts }

pub returns-clause-closed : goal.returns-clause-closed
returns-clause-closed g c =
    let R : Type 0 = Receiver g.row.T-Letter.Denot g.row.T-Family.Denot in
    let V : Type 0 = PassView g.row.T-Letter.Denot g.row.T-Family.Denot in
    let letter = g.T.Tagged.letter in
    let r = c.recv.invariant in
    let v : V = c.recv.inside.pass.me.view.client in
    let w : V = c.drain.new.pass.me.view.client in
    let n : ℕ = c.recv.inside.taken in
    let left : List g.row.T.Denot = c.in_ok-left.left.items in
    let none : List g.row.T.Denot = [] in
    let before : List g.row.T.Denot = reverse c.recv.inside.hand.items in
    let off = subst (λ (l : List g.row.T.Denot). TakenOff letter g.T.Tagged.tag_of g.T.Tagged.fits v w c.reverse.new.self.items l) (sym (append-nil left)) c.in_ok-left.ensures.off in
    let out = hands_out letter g.T.Tagged.tag_of g.T.Tagged.fits v w n c.recv.inside.senders (n + length c.recv.inside.hand.items) before c.reverse.new.self.items left none r.knows (omega arith) r.in_hand r.hand_fits c.reverse.ensures.items off in
    let count : c.len.result ≡ length left = search rules in
    let a = ap (λ (x : R). length x.known) c.recv.view_is in
    let b = ap (λ (x : R). x.senders) c.recv.view_is in
    let all = c.requires in
    let none_out : length v.known ≡ c.recv.inside.senders = omega arith in
    let end = ending letter g.T.Tagged.tag_of g.T.Tagged.fits v w (map letter off.more) c.recv.inside.senders (n + length c.recv.inside.hand.items) r.knows none_out off.view c.in_ok-left.ensures.empty in
    let got : v.got ++ map letter off.more ≡ take n v.got ++ map letter left = sym (ap (λ (y : V). y.got) off.view) ∙ out.whole ∙ append-nil (take n v.got ++ map letter left) in
    let receiving : Receiving c.recv.inside.latch 0 (total_length v.known) n = all_in c.recv.inside.latch _ _ _ (omega arith) r.receiving in
    let sum : n + length left ≡ total_length v.known = (let s = end.1 in let t = out.size in let u = ap (λ (y : V). length y.got) off.view in omega arith) in
    λ closed. (let full = c.learn.ensures.settled (total_length v.known) n receiving (ap (λ (x : R). x.closed) c.recv.view_is ∙ closed) in
    let no_more : length left ≡ 0 = omega arith in
    let was : length c.args.recv.hand ≡ length before = ap (λ (x : R). length x.hand) (sym c.recv.view_is) ∙ ap length r.in_hand ∙ length-map before letter in
    let parts = ap length out.order.parts ∙ length-append (map letter left) (map letter none) in
    let mapped = length-map left letter in
    let both = length-append (drop n v.got) out.order.more in
    let here = ap length r.in_hand ∙ length-map before letter in
    (nil_from_length c.args.recv.hand (omega arith), nil_from_length left no_more))
