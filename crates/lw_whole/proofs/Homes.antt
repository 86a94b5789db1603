-- Homes and hops, from the trails of the threads and the orders that were taken.
use Rattle.std.proofs.Common.{◌≡◌, ℕ, ◌==◌, Bool, true, false, ◌&&◌, ◌||◌, List, [], ◌∷◌, Option, unwrap_or, option_map, refl, ap, subst, ◌∙◌, arith}
use Rattle.std.specs.List.{list_all, list_any}
use Rattle.std.proofs.lemmas.Bool.{and_parts, and_from, eqb-true, false≢true}
use Rattle.lw_model.specs.declared.record.Record.{Record}
use Rattle.lw_base.specs.declared.moves.Hop.{Hop}
use Rattle.lw_model.specs.declared.record.ThreadRecord.{ThreadRecord}
use Rattle.lw_model.specs.OwnOrder.{with_past}
use Rattle.lw_model.specs.Moves.{HomesAndHops, first_reactor, hop_fits, is_ordered, is_above_last}
use Rattle.lw_whole.specs.Logs.{Log}
use Rattle.lw_whole.specs.WholeRun.{IsWholeRun, Taken, is_for, was_sent}
use Rattle.lw_whole.proofs.Access.{at_place, at_number, under, of_log, log_of}

-- an order that is for the hop, and that a round sent
found : (r : Record) (t : ℕ) (h : Hop) (taken : List Taken) → list_any (is_for t h) taken ≡ true → list_all (was_sent r) taken ≡ true → is_ordered r t h ≡ true
found r t h [] e f = absurd (false≢true e)
found r t h (x ∷ taken) e f =
    let both = and_parts (was_sent r x) (list_all (was_sent r) taken) f in
    at (is_for t h x) refl e both.0 (λ g. found r t h taken g both.1)
  where
    at : (b : Bool) → is_for t h x ≡ b → (b || list_any (is_for t h) taken) ≡ true → was_sent r x ≡ true → (list_any (is_for t h) taken ≡ true → is_ordered r t h ≡ true) → is_ordered r t h ≡ true
    at true is e sent go =
        let a = and_parts (x.round == h.round && x.order.thread == t) (x.order.to == h.reactor) is in
        let b = and_parts (x.round == h.round) (x.order.thread == t) a.0 in
        subst (λ n. list_any (λ q. q.number == n && list_any (λ o. o.thread == t && o.to == h.reactor) q.orders) r.rounds ≡ true) (eqb-true x.round h.round b.0)
        (subst (λ n. list_any (λ q. q.number == x.round && list_any (λ o. o.thread == n && o.to == h.reactor) q.orders) r.rounds ≡ true) (eqb-true x.order.thread t b.1)
        (subst (λ n. list_any (λ q. q.number == x.round && list_any (λ o. o.thread == x.order.thread && o.to == n) q.orders) r.rounds ≡ true) (eqb-true x.order.to h.reactor a.1) sent))
    at false is e sent go = go e

each_hop : (r : Record) (t : ℕ) (taken : List Taken) → list_all (was_sent r) taken ≡ true → (past hops : List Hop) → list_all (λ p. is_above_last p.0 p.1) (with_past past hops) ≡ true
    → list_all (λ h. list_any (is_for t h) taken) hops ≡ true → list_all (λ p. hop_fits r t p.0 p.1) (with_past past hops) ≡ true
each_hop r t taken sent past [] e f = refl
each_hop r t taken sent past (h ∷ hops) e f =
    let up = and_parts (is_above_last past h) (list_all (λ p. is_above_last p.0 p.1) (with_past (h ∷ past) hops)) e in
    let for_it = and_parts (list_any (is_for t h) taken) (list_all (λ h. list_any (is_for t h) taken) hops) f in
    and_from (hop_fits r t past h) (list_all (λ p. hop_fits r t p.0 p.1) (with_past (h ∷ past) hops))
    (and_from (is_above_last past h) (is_ordered r t h) up.0 (found r t h taken for_it.0 sent))
    (each_hop r t taken sent (h ∷ past) hops up.1 for_it.1)

pub homes_and_hops : (r : Record) (logs : List Log) → IsWholeRun r logs → HomesAndHops r
homes_and_hops r logs w = record {
  homes = λ t less. let l = log_of r logs w t less in
      ap (λ (o : Option ThreadRecord). unwrap_or (option_map (λ (x : ThreadRecord). x.home) o) 0) (under r logs w t ∙ ap (λ (o : Option Log). option_map (λ (l : Log). l.lines) o) l.1)
      ∙ subst (λ n. l.0.lines.home ≡ first_reactor r n) (omega arith) (at_number (λ n x. x.lines.home ≡ first_reactor r n) 0 logs t l.0 w.moved.homes l.1);
  hops = λ t less. let l = log_of r logs w t less in
      ap (λ (hs : List Hop). list_all (λ p. hop_fits r t p.0 p.1) (with_past [] hs)) (of_log r logs w (λ x. x.hops) t l.0 l.1)
      ∙ each_hop r t w.moved.taken w.moved.sent [] l.0.lines.hops
      (at_place (λ x. list_all (λ p. is_above_last p.0 p.1) (with_past [] x.lines.hops) ≡ true) logs t l.0 w.moved.ascend l.1)
      (subst (λ n. list_all (λ h. list_any (is_for n h) w.moved.taken) l.0.lines.hops ≡ true) (omega arith) (at_number (λ n x. list_all (λ h. list_any (is_for n h) w.moved.taken) x.lines.hops ≡ true) 0 logs t l.0 w.moved.for_orders l.1));
}
