-- No rule's test fails exactly where the record is lawful.
use Rattle.std.proofs.Common.{◌≡◌, ℕ, ◌+◌, ◌↔◌, List, [], ◌∷◌, Option, Some, None, refl, drop}
use Rattle.lw_model.specs.declared.record.Record.{Record}
use Rattle.lw_model.specs.Lawful.{Lawful}
use Rattle.lw_model.specs.Verdict.{Test, least_failing, first_failing, rules, verdict, homes_and_hops, numbers, answers, ran_is_sent, replies, devices, visits_seen, rounds_and_orders, buffers_home}
use Rattle.lw_model.proofs.Passing.{passes_from_none, none_from_passes}
use Rattle.lw_model.proofs.Exact.{homes_and_hops-exact, numbers-exact, answers-exact, replies-exact, visits_seen-exact, buffers_home-exact}
use Rattle.lw_model.proofs.ExactRounds.{rounds_and_orders-exact}
use Rattle.lw_model.proofs.ExactDevices.{devices-exact}
use Rattle.lw_model.proofs.ExactSent.{ran_is_sent-exact}

-- the first rule of a list, and the others
first_parts : (o : Option ℕ) (n : ℕ) (rest : Option (ℕ × ℕ)) → ◌≡◌ {A = Option (ℕ × ℕ)} (elim o [ Some l ↦ Some (n, l) | None ↦ rest ]) None → (o ≡ None) × (rest ≡ None)
first_parts None n rest e = (refl, e)
first_parts (Some l) n rest e = cc

first_from : (o : Option ℕ) (n : ℕ) (rest : Option (ℕ × ℕ)) → o ≡ None → rest ≡ None → ◌≡◌ {A = Option (ℕ × ℕ)} (elim o [ Some l ↦ Some (n, l) | None ↦ rest ]) None
first_from None n rest e h = h
first_from (Some l) n rest e h = cc

split : (n : ℕ) (rule : Record → List Test) (others : List (Record → List Test)) (r : Record) → first_failing n (rule ∷ others) r ≡ None → (least_failing (rule r) ≡ None) × (first_failing (n + 1) others r ≡ None)
split n rule others r e = first_parts (least_failing (rule r)) n (first_failing (n + 1) others r) e

join : (n : ℕ) (rule : Record → List Test) (others : List (Record → List Test)) (r : Record) → least_failing (rule r) ≡ None → first_failing (n + 1) others r ≡ None → first_failing n (rule ∷ others) r ≡ None
join n rule others r e h = first_from (least_failing (rule r)) n (first_failing (n + 1) others r) e h

pub verdict-exact : (r : Record) → (verdict r ≡ None) ↔ Lawful r
verdict-exact r = (
  λ e.
      let a = split 1 homes_and_hops (drop 1 rules) r e in
      let b = split 2 numbers (drop 2 rules) r a.1 in
      let c = split 3 answers (drop 3 rules) r b.1 in
      let d = split 4 ran_is_sent (drop 4 rules) r c.1 in
      let f = split 5 replies (drop 5 rules) r d.1 in
      let g = split 6 devices (drop 6 rules) r f.1 in
      let h = split 7 visits_seen (drop 7 rules) r g.1 in
      let i = split 8 rounds_and_orders (drop 8 rules) r h.1 in
      let j = split 9 buffers_home (drop 9 rules) r i.1 in
      let ns = (numbers-exact r).0 (passes_from_none (numbers r) b.0) in
      record {
        homes_and_hops = (homes_and_hops-exact r).0 (passes_from_none (homes_and_hops r) a.0);
        numbers = ns;
        answers = (answers-exact r).0 (passes_from_none (answers r) c.0);
        ran_is_sent = (ran_is_sent-exact r ns).0 (passes_from_none (ran_is_sent r) d.0);
        replies = (replies-exact r).0 (passes_from_none (replies r) f.0);
        devices = (devices-exact r).0 (passes_from_none (devices r) g.0);
        visits_seen = (visits_seen-exact r).0 (passes_from_none (visits_seen r) h.0);
        rounds_and_orders = (rounds_and_orders-exact r).0 (passes_from_none (rounds_and_orders r) i.0);
        buffers_home = (buffers_home-exact r).0 (passes_from_none (buffers_home r) j.0);
      },
  λ l.
      join 1 homes_and_hops (drop 1 rules) r (none_from_passes (homes_and_hops r) ((homes_and_hops-exact r).1 l.homes_and_hops))
      (join 2 numbers (drop 2 rules) r (none_from_passes (numbers r) ((numbers-exact r).1 l.numbers))
      (join 3 answers (drop 3 rules) r (none_from_passes (answers r) ((answers-exact r).1 l.answers))
      (join 4 ran_is_sent (drop 4 rules) r (none_from_passes (ran_is_sent r) ((ran_is_sent-exact r l.numbers).1 l.ran_is_sent))
      (join 5 replies (drop 5 rules) r (none_from_passes (replies r) ((replies-exact r).1 l.replies))
      (join 6 devices (drop 6 rules) r (none_from_passes (devices r) ((devices-exact r).1 l.devices))
      (join 7 visits_seen (drop 7 rules) r (none_from_passes (visits_seen r) ((visits_seen-exact r).1 l.visits_seen))
      (join 8 rounds_and_orders (drop 8 rules) r (none_from_passes (rounds_and_orders r) ((rounds_and_orders-exact r).1 l.rounds_and_orders))
      (join 9 buffers_home [] r (none_from_passes (buffers_home r) ((buffers_home-exact r).1 l.buffers_home)) refl)))))))),
)
