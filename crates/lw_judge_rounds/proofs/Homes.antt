-- The tests of homes and hops, thread by thread.
use Rattle.std.proofs.Common.{◌≡◌, ℕ, ◌+◌, ◌<◌, ◌≤◌, ◌^◌, ◌==◌, ◌%◌, cond, [], length, flat_map, Option, Some, None, IfSome, unwrap_or, option_map, sym, ap, ap₂, subst, ◌∙◌, arith}
use Rattle.std.specs.List.{range_with_len}
use Rattle.lw_model.specs.declared.record.Record.{Record}
use Rattle.lw_model.specs.declared.record.ThreadRecord.{ThreadRecord}
use Rattle.lw_model.specs.Lines.{thread_line, hop_line}
use Rattle.lw_model.specs.Moves.{home_of, first_reactor, hops_of, hop_fits}
use Rattle.lw_model.specs.Verdict.{least_failing, each_line}
use Rattle.lw_model.proofs.Homes.{first_reactor_is}
use Rattle.lw_judge_threads.specs.declared.lines.ThreadLines.{ThreadLines}
use Rattle.lw_judge_threads.specs.Firsts.{at_line, first_unfit, lesser}
use Rattle.lw_judge_threads.proofs.Leasts.{least-cons, least-each_line}
use Rattle.lw_judge_threads.proofs.Threads.{Read, home_tests, least_threads, line_below, listed, unfit_within}

-- of one thread
home_is : (r : Record) (t : ℕ) (x : ThreadRecord) (l : ThreadLines) (o : Option ℕ) → Read r t x l → o ≡ first_unfit (hop_fits r t) 0 [] x.hops
    → lesser (cond (x.home == t % r.reactors) None (Some l.thread)) (at_line l.hops o) ≡ least_failing (home_tests r t)
home_is r t x l o is unfit =
    ap₂ lesser first hops
    ∙ sym (least-cons (thread_line r t) (home_of r t == first_reactor r t) (each_line (hop_line r t) (hop_fits r t) (hops_of r t)))
  where
    home : home_of r t ≡ x.home
    home = ap (λ o. unwrap_or (option_map (λ (x : ThreadRecord). x.home) o) 0) is.here

    first : cond (x.home == t % r.reactors) None (Some l.thread) ≡ cond (home_of r t == first_reactor r t) None (Some (thread_line r t))
    first = ap₂ (λ h n. cond (h == t % r.reactors) None (Some n)) (sym home) is.stands.thread
        ∙ ap (λ f. cond (home_of r t == f) None (Some (thread_line r t))) (sym (first_reactor_is r t))

    hops : at_line l.hops o ≡ least_failing (each_line (hop_line r t) (hop_fits r t) (hops_of r t))
    hops = ap₂ at_line is.stands.hops (unfit ∙ ap (first_unfit (hop_fits r t) 0 []) (sym (listed (λ x. x.hops) r t x is.here)))
        ∙ sym (least-each_line (hop_line r t) (hop_line r t 0) (λ i. omega arith) (hop_fits r t) (hops_of r t))

-- of one thread more
pub homes_more : (r : Record) (t : ℕ) (x : ThreadRecord) (l : ThreadLines) (least next here o : Option ℕ) → Read r t x l
    → least ≡ least_failing (flat_map (home_tests r) (range_with_len 0 t)) → o ≡ first_unfit (hop_fits r t) 0 [] x.hops
    → here ≡ lesser (cond (x.home == t % r.reactors) None (Some l.thread)) (at_line l.hops o) → next ≡ lesser least here
    → next ≡ least_failing (flat_map (home_tests r) (range_with_len 0 (t + 1)))
homes_more r t x l least next here o is so_far unfit found more =
    more ∙ ap₂ lesser so_far (found ∙ home_is r t x l o is unfit) ∙ sym (least_threads (home_tests r) t)

-- the line of a hop is a number
pub hops_within : (r : Record) (t : ℕ) (x : ThreadRecord) (l : ThreadLines) (o : Option ℕ) → Read r t x l → o ≡ first_unfit (hop_fits r t) 0 [] x.hops → IfSome o (λ i. l.hops + i < 2 ^ 64)
hops_within r t x l o is found = subst (λ q. IfSome q (λ i. l.hops + i < 2 ^ 64)) (sym found)
    (line_below l.hops (0 + length x.hops) (thread_line r (t + 1)) (first_unfit (hop_fits r t) 0 [] x.hops) low is.stands.few (unfit_within (hop_fits r t) 0 [] x.hops))
  where
    hops : length (hops_of r t) ≡ length x.hops
    hops = ap length (listed (λ x. x.hops) r t x is.here)

    low : l.hops + (0 + length x.hops) ≤ thread_line r (t + 1)
    low = omega (arith, is.stands.hops, is.stands.follow, hops)
