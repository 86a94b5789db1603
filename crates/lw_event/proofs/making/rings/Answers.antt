use Rattle.std.proofs.Common.{◌≡◌, ℕ, ◌+◌, ◌<◌, length, get_or, ap, sym, subst, ◌∙◌, [], ◌∷◌, Some, None, rules, refl, length-append}
use Rattle.lw_ring.specs.Ends.{new_receiver}
use Rattle.lw_event.proofs.Dealt.{each_grown}
use Rattle.lw_event.proofs.Begun.{first_row, row_more, nth_of}
use Rattle.lw_event.proofs.making.rings.Goals as goal

pub loop-number-init : goal.loop-number-init
loop-number-init g c =
    let e = c.new-recvs.ensures.items in
    let r = c.in_ok-rows.ensures in
    (ap length e, r.count, (λ k d low. absurd (search rules)), λ k d low. first_row g.run k _ _ e (r.each k d (subst (λ n. k < n) (sym r.count) low)))

pub loop-number-preserved : goal.loop-number-preserved
loop-number-preserved g c =
    let i = c.loop-number.invariant in
    let made = c.in_ok-recv.ensures in
    let p = c.in_ok-push.ensures.items in
    let longer : length c.push.new.self.items ≡ length c.loop-number.recvs.items + 1 = ap length p ∙ length-append c.loop-number.recvs.items (c.in_ok-recv.recv ∷ []) in (
      longer ∙ ap (λ (n : ℕ). n + 1) i.0,
      c.in_ok-deal.ensures.count ∙ i.1,
      each_grown (λ k r. r ≡ new_receiver r.queue None k (Some g.run) c.args.count) c.loop-number.recvs.items c.push.new.self.items c.in_ok-recv.recv p i.2
          (made.recv ∙ ap (λ n. new_receiver c.in_ok-recv.recv.queue None n (Some g.run) c.args.count) (sym i.0)),
      λ k d low.
          let x = nth_of c.in_ok-recv.ends.items k (subst (λ n. k < n) (sym made.count) low) in
          row_more g.run c.args.count c.loop-number.number k c.loop-number.recvs.items c.push.new.self.items c.in_ok-recv.recv (get_or c.loop-number.rows.items k d).items (get_or c.deal.new.rows.items k d).items (get_or c.in_ok-recv.ends.items k x)
          p (c.in_ok-deal.ensures.each k d x (subst (λ n. k < n) (sym i.1) low)) made.recv (made.ends k x low) i.0 (i.3 k d low),
    )

pub open_ring_as-requires-clause-number : goal.open_ring_as-requires-clause-number
open_ring_as-requires-clause-number g c = refl
