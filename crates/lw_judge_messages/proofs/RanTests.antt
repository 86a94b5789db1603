-- The tests of what a thread ran, by what is kept of the senders and of the runners.
use Rattle.std.proofs.Common.{◌≡◌, ℕ, zero, suc, ◌+◌, ◌<◌, ◌≤◌, ◌==◌, nat_lt, nat_le, Bool, true, false, cond, not, ◌&&◌, ◌||◌, List, [], ◌∷◌, ◌++◌, Vec, map, flat_map, filter, length, slice_get, Option, Some, None, refl, sym, ap, ap₂, inl, inr, ◌∙◌, arith}
use Rattle.std.specs.List.{list_all, range_with_len}
use Rattle.std.proofs.lemmas.Bool.{cases_lt, lt-ltb}
use Rattle.std.proofs.lemmas.List.{length-map, append-nil}
use Rattle.std.proofs.lemmas.List.Sums.{length-filter}
use Rattle.std.proofs.lemmas.Option.{slice_get_past}
use Rattle.lw_base.specs.declared.message.Tag.{Tag}
use Rattle.lw_base.specs.declared.message.What.{What}
use Rattle.lw_model.specs.declared.record.Record.{Record}
use Rattle.lw_model.specs.declared.record.ThreadRecord.{ThreadRecord}
use Rattle.lw_model.specs.Threads.{thread_count, threads, is_client, ran_of}
use Rattle.lw_model.specs.Sent.{sent, run_of, tokens, must_run}
use Rattle.lw_model.specs.Lawful.{has_run, is_first_run}
use Rattle.lw_model.specs.Lines.{thread_line, ran_line}
use Rattle.lw_model.specs.Same.{both, is_same_what}
use Rattle.lw_model.specs.Verdict.{Test, each_line, least_failing, is_sent_to, lacks_none}
use Rattle.lw_judge_messages.specs.declared.sends.Sends.{Sends}
use Rattle.lw_judge_messages.specs.declared.tokens.Token.{Token}
use Rattle.lw_judge_threads.specs.declared.lines.ThreadLines.{ThreadLines}
use Rattle.lw_judge_threads.specs.Firsts.{first_unfit, lesser, at_line}
use Rattle.lw_judge_threads.specs.LinesOf.{StandsAt}
use Rattle.lw_judge_messages.specs.Tokens.{what_of}
use Rattle.lw_judge_messages.specs.SendsAt.{items_at, list_at, tokens_of, AreSendsAt}
use Rattle.lw_judge_messages.specs.RanSent.{ran_fits, count_from, runs_enough, runs_tokens}
use Rattle.lw_judge_messages.proofs.Added.{cond-nil}
use Rattle.lw_judge_threads.proofs.Leasts.{least-cons, least-each_line}
use Rattle.lw_judge_threads.proofs.Threads.{listed}
use Rattle.lw_model.proofs.Passing.{list_all-same}
use Rattle.lw_model.proofs.ExactSent.{sent-none}
use Rattle.std.proofs.lemmas.List.Folds.{list_all-map}

-- the tests of thread t
abbrev pub tests_of : Record → ℕ → List Test
tests_of r t = (thread_line r t, lacks_none r t) ∷ each_line (ran_line r t) (λ past m. is_sent_to r t m && is_first_run past m) (ran_of r t)

-- ---- tests that answer alike

unfit_alike : {X : Type 0} (f g : List X → X → Bool) → ((past : List X) (x : X) → f past x ≡ g past x) → (n : ℕ) (past xs : List X) → first_unfit f n past xs ≡ first_unfit g n past xs
unfit_alike f g alike n past [] = refl
unfit_alike f g alike n past (x ∷ xs) = ap₂ (λ b o. cond b o (Some n)) (alike past x) (unfit_alike f g alike (n + 1) (x ∷ past) xs)

-- ---- what is no thread sends nothing

none_kept : {X Z : Type 0} (vs : List (Vec X Z)) (i : ℕ) → length vs ≤ i → items_at vs i ≡ []
none_kept {X} {Z} vs i past = ap (λ (o : Option (Vec X Z)). elim o as (λ q. List X) [ None ↦ [] | Some v ↦ v.items ]) (slice_get_past vs i past)

all_below : (n a m : ℕ) → a + m ≤ n → filter (λ s. nat_lt s n) (range_with_len a m) ≡ range_with_len a m
all_below n a zero h = refl
all_below n a (suc m) h =
    ap (λ b. cond b (a ∷ filter (λ s. nat_lt s n) (range_with_len (a + 1) m)) (filter (λ s. nat_lt s n) (range_with_len (a + 1) m))) (lt-ltb a n (omega (arith, h)))
    ∙ ap (λ l. a ∷ l) (all_below n (a + 1) m (omega (arith, h)))

module _ (r : Record) (x : Sends) (are : AreSendsAt r (thread_count r.script) [] x) where
  -- the lists are the sent lists
  list-is : (q t : ℕ) → t < thread_count r.script → list_at x q t ≡ sent r q t
  list-is q t there = elim (cases_lt q (thread_count r.script)) [
    | inl known ↦ are.lists q t known there ∙ ap (λ b. cond b (sent r q t) (cond (q == thread_count r.script) [] [])) (lt-ltb q (thread_count r.script) known)
    | inr unknown ↦ ap (λ l. items_at l t) (none_kept x.lists.items q (omega (arith, unknown, are.sized.count))) ∙ sym (sent-none r q t unknown)
  ]

  tokens-are : map what_of x.tokens.items ≡ tokens r
  tokens-are =
      are.tokens
      ∙ ap (λ l. flat_map (tokens_of r) l ++ cond {A = List What} (is_client r.script (thread_count r.script)) [] []) (all_below (thread_count r.script) 1 (length r.script.clients) (omega arith))
      ∙ ap (λ l. tokens r ++ l) (cond-nil (is_client r.script (thread_count r.script))) ∙ append-nil (tokens r)

  module _ (t : ℕ) (there : t < thread_count r.script) where
    enough-is : runs_enough x (thread_count r.script) t (ran_of r t) ≡ list_all (λ s. nat_le (length (sent r s t)) (length (run_of r s t))) (threads r.script)
    enough-is = list_all-same (λ s. nat_le (length (list_at x s t)) (count_from (ran_of r t) s)) (λ s. nat_le (length (sent r s t)) (length (run_of r s t)))
        (λ s. ap₂ (λ a b. nat_le a b) (ap length (list-is s t there)) (count s)) (threads r.script)
      where
        count : (s : ℕ) → count_from (ran_of r t) s ≡ length (run_of r s t)
        count s = sym (length-map (filter (λ (m : Tag). m.sender == s) (ran_of r t)) (λ m. m.what) ∙ length-filter (λ (m : Tag). m.sender == s) (ran_of r t))

    tokens_run : (ws : List Token) → ((p : Token → Bool) → list_all p ws ≡ list_all p x.tokens.items) → runs_tokens r t ws ≡ list_all (λ w. not (must_run r.script w t) || has_run r w t) (tokens r)
    tokens_run ws once =
        once (λ w. not (must_run r.script (what_of w) t) || has_run r (what_of w) t)
        ∙ sym (list_all-map (λ w. not (must_run r.script w t) || has_run r w t) what_of x.tokens.items)
        ∙ ap (list_all (λ w. not (must_run r.script w t) || has_run r w t)) tokens-are

    pub lacks_none-is : (ws : List Token) → ((p : Token → Bool) → list_all p ws ≡ list_all p x.tokens.items) → (runs_enough x (thread_count r.script) t (ran_of r t) && runs_tokens r t ws) ≡ lacks_none r t
    lacks_none-is ws once = ap₂ (λ a b. a && b) enough-is (tokens_run ws once)

    fits-is : (past : List Tag) (m : Tag) → ran_fits x t past m ≡ (is_sent_to r t m && is_first_run past m)
    fits-is past m = ap (λ l. both is_same_what (slice_get l m.number) (Some m.what) && is_first_run past m) (list-is m.sender t there)

    -- the first failing line of a thread
    pub line-is : (d : ThreadRecord) (l : ThreadLines) (lacks : Bool) → slice_get r.threads t ≡ Some d → StandsAt r t l → lacks ≡ not (lacks_none r t)
        → lesser (cond lacks (Some l.thread) None) (at_line l.ran (first_unfit (ran_fits x t) 0 [] d.ran)) ≡ least_failing (tests_of r t)
    line-is d l lacks at stands is = ap₂ lesser first unfit ∙ sym (least-cons (thread_line r t) (lacks_none r t) (each_line (ran_line r t) fits (ran_of r t)))
      where
        fits : List Tag → Tag → Bool
        fits past m = is_sent_to r t m && is_first_run past m

        unless : (b : Bool) (k : ℕ) → cond (not b) (Some k) None ≡ cond b None (Some k)
        unless true k = refl
        unless false k = refl

        first : cond lacks (Some l.thread) None ≡ cond (lacks_none r t) None (Some (thread_line r t))
        first = ap₂ (λ b k. cond b (Some k) None) is stands.thread ∙ unless (lacks_none r t) (thread_line r t)

        unfit : at_line l.ran (first_unfit (ran_fits x t) 0 [] d.ran) ≡ least_failing (each_line (ran_line r t) fits (ran_of r t))
        unfit =
            ap₂ (λ base o. at_line base o) stands.ran (unfit_alike (ran_fits x t) fits fits-is 0 [] d.ran ∙ ap (first_unfit fits 0 []) (sym (listed (λ y. y.ran) r t d at)))
            ∙ sym (least-each_line (ran_line r t) (ran_line r t 0) (λ i. omega arith) fits (ran_of r t))
