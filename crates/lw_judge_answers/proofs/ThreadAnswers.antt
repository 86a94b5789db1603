-- The first failing line of a thread by the rule *Answers*, from that of its steps and those of its AT.
use Rattle.std.proofs.Common.{◌≡◌, ℕ, ◌+◌, ◌<◌, ◌^◌, nat_le, Bool, true, false, not, cond, List, [], ◌++◌, length, reverse, flat_map, Option, Some, None, IfSome, refl, sym, ap, ap₂, ◌∙◌, arith}
use Rattle.std.specs.Bool.{then_some}
use Rattle.std.proofs.lemmas.List.{length-map}
use Rattle.lw_model.specs.declared.record.Record.{Record}
use Rattle.lw_model.specs.declared.record.Did.{Did}
use Rattle.lw_model.specs.declared.record.Called.{Called}
use Rattle.lw_model.specs.Threads.{ran_of, did_of}
use Rattle.lw_model.specs.OwnOrder.{own_order_of, history}
use Rattle.lw_model.specs.Lines.{thread_line, did_line, called_line}
use Rattle.lw_model.specs.Answers.{wanted, at_fits, called_of, did_ats, called_ats}
use Rattle.lw_model.specs.Verdict.{Test, each_line, each_thread, step_test, answers, least_failing}
use Rattle.lw_judge_threads.specs.declared.lines.ThreadLines.{ThreadLines}
use Rattle.lw_judge_threads.specs.Firsts.{first_unfit, at_line, lesser}
use Rattle.lw_judge_threads.specs.Folded.{folded}
use Rattle.lw_judge_threads.specs.LinesOf.{StandsAt}
use Rattle.lw_judge_answers.specs.AnsweringAt.{answers_of}
use Rattle.lw_judge_threads.proofs.Leasts.{least-append, least-cons, least-each_line, lesser_assoc}
use Rattle.lw_judge_threads.proofs.Folds.{folded-reverse}
use Rattle.lw_judge_threads.proofs.Threads.{unfit_within, line_below}

-- the misfit's line is one of the thread's
pub did_low : (r : Record) (t : ℕ) (l : ThreadLines) → StandsAt r t l → IfSome (first_unfit (at_fits (length (ran_of r t))) 0 [] (did_ats r t)) (λ p. l.did + p < 2 ^ 64)
did_low r t l stands = line_below l.did (0 + length (did_ats r t)) (thread_line r (t + 1)) (first_unfit (at_fits (length (ran_of r t))) 0 [] (did_ats r t))
    (omega (arith, stands.did, stands.follow, length-map (did_of r t) (λ (x : Did). x.at))) stands.few (unfit_within (at_fits (length (ran_of r t))) 0 [] (did_ats r t))

pub called_low : (r : Record) (t : ℕ) (l : ThreadLines) → StandsAt r t l → IfSome (first_unfit (at_fits (length (ran_of r t))) 0 [] (called_ats r t)) (λ p. l.called + p < 2 ^ 64)
called_low r t l stands = line_below l.called (0 + length (called_ats r t)) (thread_line r (t + 1)) (first_unfit (at_fits (length (ran_of r t))) 0 [] (called_ats r t))
    (omega (arith, stands.called, stands.follow, length-map (called_of r t) (λ (x : Called). x.at))) stands.few (unfit_within (at_fits (length (ran_of r t))) 0 [] (called_ats r t))

-- the tests of the steps
steps_least : (r : Record) (t : ℕ) (o : Option ℕ) → o ≡ least_failing (folded (step_test r t) (reverse (own_order_of r t))) → o ≡ least_failing (flat_map (λ p. step_test r t p.0 p.1) (history r t))
steps_least r t o is = is ∙ ap least_failing (folded-reverse (step_test r t) (own_order_of r t))

-- a lack, then the AT of the `did` and of the `called` lines, then the steps
pub thread_least : (r : Record) (t : ℕ) (l : ThreadLines) (steps : Option ℕ) → StandsAt r t l → steps ≡ least_failing (folded (step_test r t) (reverse (own_order_of r t)))
    → lesser (then_some (not (nat_le (wanted r t) (length (did_of r t)))) l.thread)
    (lesser (at_line l.did (first_unfit (at_fits (length (ran_of r t))) 0 [] (did_ats r t)))
    (lesser (at_line l.called (first_unfit (at_fits (length (ran_of r t))) 0 [] (called_ats r t))) steps))
    ≡ least_failing (answers_of r t)
thread_least r t l steps stands is =
    ap₂ lesser lack
    (ap₂ lesser dids (ap₂ lesser calleds (steps_least r t steps is))
    ∙ lesser_assoc (least_failing D) (least_failing C) (least_failing S)
    ∙ ap (λ o. lesser o (least_failing S)) (sym (least-append D C))
    ∙ sym (least-append (D ++ C) S))
    ∙ sym (least-cons (thread_line r t) (nat_le (wanted r t) (length (did_of r t))) (D ++ C ++ S))
  where
    D : List Test
    D = each_line (did_line r t) (at_fits (length (ran_of r t))) (did_ats r t)

    C : List Test
    C = each_line (called_line r t) (at_fits (length (ran_of r t))) (called_ats r t)

    S : List Test
    S = flat_map (λ p. step_test r t p.0 p.1) (history r t)

    turned : (b : Bool) (n : ℕ) → then_some (not b) n ≡ cond b None (Some n)
    turned true n = refl
    turned false n = refl

    lack : then_some (not (nat_le (wanted r t) (length (did_of r t)))) l.thread ≡ cond (nat_le (wanted r t) (length (did_of r t))) None (Some (thread_line r t))
    lack = turned (nat_le (wanted r t) (length (did_of r t))) l.thread ∙ ap (λ n. cond (nat_le (wanted r t) (length (did_of r t))) None (Some n)) stands.thread

    dids : at_line l.did (first_unfit (at_fits (length (ran_of r t))) 0 [] (did_ats r t)) ≡ least_failing D
    dids = ap (λ n. at_line n (first_unfit (at_fits (length (ran_of r t))) 0 [] (did_ats r t))) stands.did
        ∙ sym (least-each_line (did_line r t) (did_line r t 0) (λ i. omega arith) (at_fits (length (ran_of r t))) (did_ats r t))

    calleds : at_line l.called (first_unfit (at_fits (length (ran_of r t))) 0 [] (called_ats r t)) ≡ least_failing C
    calleds = ap (λ n. at_line n (first_unfit (at_fits (length (ran_of r t))) 0 [] (called_ats r t))) stands.called
        ∙ sym (least-each_line (called_line r t) (called_line r t 0) (λ i. omega arith) (at_fits (length (ran_of r t))) (called_ats r t))

-- the rule has these tests of each thread
pub answers-by_thread : (r : Record) → answers r ≡ each_thread r (answers_of r)
answers-by_thread r = refl
