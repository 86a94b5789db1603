use Rattle.std.proofs.Common.{rules, ◌≡◌, ℕ, ◌+◌, ◌-◌, ◌<◌, List, [], ◌∷◌, ◌++◌, length, ◌∙◌, ap, sym, subst, arith, length-append}
use Rattle.lw_ring.specs.declared.queue.PassView.{PassView}
use Rattle.lw_base.specs.Letters.{total_length}
use Rattle.lw_ring.specs.Ends.{Receiver, Receiving}
use Rattle.lw_ring.proofs.Posts.{takes_in}
use Rattle.lw_ring.proofs.Rows.{total_length-push}
use Rattle.lw_ring.proofs.settling.take_in.Goals as goal

pub absorb-requires-clause-rule : goal.absorb-requires-clause-rule
absorb-requires-clause-rule g c =
    let r = c.recv.invariant in
    let e = c.end.invariant in
    takes_in _ _ _ _ _ _ _ r.knows.not_fresh r.knows.gets e.knows.sends (e.knows.from ∙ ap (λ x. x.sender) c.end.view_is ∙ c.requires.end.sender ∙ sym (ap (λ x. length x.known) c.recv.view_is))

pub invariant_of-recv : goal.invariant_of-recv
invariant_of-recv g c =
    let V : Type 0 = PassView g.row.T-Letter.Denot g.row.T-Family.Denot in
    let r = c.recv.invariant in
    let e = c.end.invariant in
    let known : List (List g.row.T-Letter.Denot) = c.recv.inside.pass.me.view.client.known in
    let put : List g.row.T-Letter.Denot = c.end.inside.pass.me.view.client.put in
    let now : c.absorb.new.pass.me.view.client.known ≡ known ++ put ∷ [] = ap (λ (v : V). v.known) c.absorb.ensures.rule in
    let size = ap length now ∙ length-append known (put ∷ []) in
    let short : length known < c.recv.inside.senders = (let a = ap (λ (x : Receiver g.row.T-Letter.Denot g.row.T-Family.Denot). length x.known) c.recv.view_is in let b = ap (λ (x : Receiver g.row.T-Letter.Denot g.row.T-Family.Denot). x.senders) c.recv.view_is in let l = c.requires.waiting in omega arith) in
    let n : ℕ = c.recv.inside.senders - length c.absorb.new.pass.me.view.client.known in
    let one_more : c.recv.inside.senders - length known ≡ n + 1 = omega arith in
    let sum : total_length known + c.end.inside.sent ≡ total_length c.absorb.new.pass.me.view.client.known = (let a = ap total_length now in let b = total_length-push known put in let d = e.knows.size in omega arith) in
    record {
      of_queue = search rules;
      knows = search rules;
      short = search rules;
      few_known = omega arith;
      receiving = subst (λ m. Receiving c.take_in.new.latch n m c.recv.inside.taken) sum
          (c.take_in.ensures.both n (total_length known) c.recv.inside.taken c.end.inside.sent (subst (λ m. Receiving c.recv.inside.latch m (total_length known) c.recv.inside.taken) one_more r.receiving) e.outside);
      in_hand = search rules;
      hand_fits = search rules;
      all_spare = search rules;
    }
