-- What was sent, one step more and one thread more.
use Rattle.std.proofs.Common.{◌≡◌, ◌≢◌, ℕ, zero, suc, ◌+◌, ◌<◌, ◌≤◌, ◌==◌, nat_lt, nat_le, Bool, true, false, cond, ◌&&◌, List, [], ◌∷◌, ◌++◌, map, filter, flat_map, reverse, length, append_assoc, refl, sym, ap, ap₂, subst, inl, inr, ◌∙◌, arith}
use Rattle.std.specs.List.{range_with_len}
use Rattle.std.proofs.lemmas.Bool.{eq-eqb, ne_eqb, lt-ltb, cases_lt, cases_eq}
use Rattle.std.proofs.lemmas.Bool.Decides.{nat_tests}
use Rattle.std.proofs.lemmas.List.{append-nil}
use Rattle.std.proofs.lemmas.Grind.{flat_map-append}
use Rattle.lw_base.specs.declared.message.What.{What}
use Rattle.lw_model.specs.declared.record.Record.{Record}
use Rattle.lw_model.specs.declared.step.Step.{Step}
use Rattle.lw_model.specs.OwnOrder.{own_order_of}
use Rattle.lw_model.specs.Threads.{thread_count, clients, is_client}
use Rattle.lw_model.specs.Sent.{sent, sent_by, sent_last, tokens_started_by, to_thread}
use Rattle.lw_model.proofs.SentLists.{to_thread-append}
use Rattle.lw_judge_messages.specs.declared.sends.Sends.{Sends}
use Rattle.lw_judge_threads.specs.Folded.{folded}
use Rattle.lw_judge_messages.specs.Tokens.{what_of}
use Rattle.lw_judge_messages.specs.SendsAt.{list_at, sent_so_far, tokens_of, tokens_so_far, IsSized, AreSendsAt, Adds}
use Rattle.lw_judge_threads.proofs.Folds.{folded-reverse}
use Rattle.lw_judge_messages.proofs.Added.{cond-append, cond-nil}

not_below : (s t : ℕ) → nat_lt s t ≡ true → (s == t) ≡ false
not_below s t e = grind (arith, nat_tests)

-- ---- one step more

module _ (r : Record) (t : ℕ) (past : List Step) (s : Step) (x y : Sends) (are : AreSendsAt r t past x)
    (adds : Adds (thread_count r.script) t (sent_by r t past s) (cond (is_client r.script t) (tokens_started_by r t s) []) x y) where
  step_list : (q u : ℕ) → sent_so_far r t past q u ++ cond (q == t) (to_thread u (sent_by r t past s)) [] ≡ sent_so_far r t (s ∷ past) q u
  step_list q u = at (nat_lt q t) refl
    where
      at : (b : Bool) → nat_lt q t ≡ b → cond b (sent r q u) (cond (q == t) (to_thread u (folded (sent_by r t) past)) []) ++ cond (q == t) (to_thread u (sent_by r t past s)) []
          ≡ cond b (sent r q u) (cond (q == t) (to_thread u (folded (sent_by r t) past ++ sent_by r t past s)) [])
      at true e = ap (λ b. sent r q u ++ cond b (to_thread u (sent_by r t past s)) []) (not_below q t e) ∙ append-nil (sent r q u)
      at false e = cond-append (q == t) (to_thread u (folded (sent_by r t) past)) (to_thread u (sent_by r t past s))
          ∙ ap (λ l. cond (q == t) l []) (sym (to_thread-append u (folded (sent_by r t) past) (sent_by r t past s)))

  pub sends-step : AreSendsAt r t (s ∷ past) y
  sends-step = record {
    sized = adds.sized;
    lists = λ q u below here. adds.lists q u below here ∙ ap (λ l. l ++ cond (q == t) (to_thread u (sent_by r t past s)) []) (are.lists q u below here) ∙ step_list q u;
    tokens =
        let before = flat_map (tokens_of r) (filter (λ q. nat_lt q t) (clients r.script)) in
        let mine = folded (λ (before : List Step) (q : Step). tokens_started_by r t q) past in
        adds.tokens ∙ ap (λ l. l ++ cond (is_client r.script t) (tokens_started_by r t s) []) are.tokens
        ∙ append_assoc before (cond (is_client r.script t) mine []) (cond (is_client r.script t) (tokens_started_by r t s) [])
        ∙ ap (λ l. before ++ l) (cond-append (is_client r.script t) mine (tokens_started_by r t s));
  }

-- a step that starts no token
pub without_tokens : (r : Record) (t : ℕ) (ms : List (ℕ × What)) (ws : List What) → ws ≡ [] → (x y : Sends) → Adds (thread_count r.script) t ms [] x y → Adds (thread_count r.script) t ms (cond (is_client r.script t) ws []) x y
without_tokens r t ms ws none x y adds = subst (λ w. Adds (thread_count r.script) t ms w x y) (sym (ap (λ l. cond (is_client r.script t) l []) none ∙ cond-nil (is_client r.script t))) adds

-- ---- one thread more

none_before : (t a m : ℕ) → t ≤ a → filter (λ s. nat_lt s t) (range_with_len a m) ≡ []
none_before t a zero h = refl
none_before t a (suc m) h = ap (λ b. cond b (a ∷ filter (λ s. nat_lt s t) (range_with_len (a + 1) m)) (filter (λ s. nat_lt s t) (range_with_len (a + 1) m))) (over t a h) ∙ none_before t (a + 1) m (omega (arith, h))
  where
    over : (t a : ℕ) → t ≤ a → nat_lt a t ≡ false
    over t a h = grind (arith, nat_tests)

-- the numbers of a range below t + 1 are those below t, and t
one_more : (t a m : ℕ) → filter (λ s. nat_lt s (t + 1)) (range_with_len a m) ≡ filter (λ s. nat_lt s t) (range_with_len a m) ++ cond (nat_le a t && nat_lt t (a + m)) (t ∷ []) []
one_more t a zero = ap (λ b. cond b (t ∷ []) []) (sym (nowhere t a))
  where
    nowhere : (t a : ℕ) → (nat_le a t && nat_lt t (a + 0)) ≡ false
    nowhere t a = grind (arith, nat_tests)
one_more t a (suc m) = elim (cases_lt a t) [
  | inl less ↦
      ap (λ b. cond b (a ∷ above) above) (lt-ltb a (t + 1) (omega (arith, less)))
      ∙ ap (λ l. a ∷ l) (one_more t (a + 1) m ∙ ap (λ b. below ++ cond b (t ∷ []) []) (later t a m less))
      ∙ ap (λ b. cond b (a ∷ below) below ++ cond (nat_le a t && nat_lt t (a + suc m)) (t ∷ []) []) (sym (lt-ltb a t less))
  | inr over ↦ elim (cases_eq a t) [
    | inl same ↦
        ap (λ b. cond b (a ∷ above) above) (lt-ltb a (t + 1) (omega (arith, same)))
        ∙ ap₂ (λ k l. k ∷ l) same (none_before (t + 1) (a + 1) m (omega (arith, same)))
        ∙ ap (λ b. cond b (t ∷ []) []) (sym (here t a m same))
        ∙ ap (λ l. l ++ cond (nat_le a t && nat_lt t (a + suc m)) (t ∷ []) []) (sym (none_before t a (suc m) over))
    | inr ne ↦
        none_before (t + 1) a (suc m) (omega (arith, over, ne))
        ∙ ap (λ b. cond b (t ∷ []) []) (sym (past t a m (omega (arith, over, ne))))
        ∙ ap (λ l. l ++ cond (nat_le a t && nat_lt t (a + suc m)) (t ∷ []) []) (sym (none_before t a (suc m) over))
  ]
]
  where
    above : List ℕ
    above = filter (λ s. nat_lt s (t + 1)) (range_with_len (a + 1) m)

    below : List ℕ
    below = filter (λ s. nat_lt s t) (range_with_len (a + 1) m)

    later : (t a m : ℕ) → a < t → (nat_le (a + 1) t && nat_lt t (a + 1 + m)) ≡ (nat_le a t && nat_lt t (a + suc m))
    later t a m less = grind (arith, nat_tests)

    here : (t a m : ℕ) → a ≡ t → (nat_le a t && nat_lt t (a + suc m)) ≡ true
    here t a m same = grind (arith, nat_tests)

    past : (t a m : ℕ) → t < a → (nat_le a t && nat_lt t (a + suc m)) ≡ false
    past t a m over = grind (arith, nat_tests)

clients_more : (r : Record) (t : ℕ) → filter (λ s. nat_lt s (t + 1)) (clients r.script) ≡ filter (λ s. nat_lt s t) (clients r.script) ++ cond (is_client r.script t) (t ∷ []) []
clients_more r t = one_more t 1 (length r.script.clients) ∙ ap (λ b. filter (λ s. nat_lt s t) (clients r.script) ++ cond b (t ∷ []) []) (same t (length r.script.clients))
  where
    same : (t m : ℕ) → (nat_le 1 t && nat_lt t (1 + m)) ≡ (nat_lt 0 t && nat_le t m)
    same t m = grind (arith, nat_tests)

module _ (r : Record) (t : ℕ) (past : List Step) (x y : Sends) (is : past ≡ reverse (own_order_of r t)) (are : AreSendsAt r t past x)
    (adds : Adds (thread_count r.script) t (sent_last r.script t) [] x y) where
  whole : (u : ℕ) → to_thread u (folded (sent_by r t) past) ++ to_thread u (sent_last r.script t) ≡ sent r t u
  whole u = sym (to_thread-append u (folded (sent_by r t) past) (sent_last r.script t))
      ∙ ap (λ l. to_thread u (l ++ sent_last r.script t)) (ap (folded (sent_by r t)) is ∙ folded-reverse (sent_by r t) (own_order_of r t))

  last_list : (q u : ℕ) → sent_so_far r t past q u ++ cond (q == t) (to_thread u (sent_last r.script t)) [] ≡ sent_so_far r (t + 1) [] q u
  last_list q u = at (nat_lt q t) refl
    where
      next : (s t : ℕ) → nat_lt s t ≡ true → nat_lt s (t + 1) ≡ true
      next s t e = grind (arith, nat_tests)

      over : (s t : ℕ) → nat_lt s t ≡ false → s ≢ t → nat_lt s (t + 1) ≡ false
      over s t e ne = grind (arith, nat_tests)

      at : (b : Bool) → nat_lt q t ≡ b → cond b (sent r q u) (cond (q == t) (to_thread u (folded (sent_by r t) past)) []) ++ cond (q == t) (to_thread u (sent_last r.script t)) []
          ≡ cond (nat_lt q (t + 1)) (sent r q u) (cond (q == t + 1) [] [])
      at true e = ap (λ b. sent r q u ++ cond b (to_thread u (sent_last r.script t)) []) (not_below q t e) ∙ append-nil (sent r q u)
          ∙ ap (λ b. cond b (sent r q u) (cond (q == t + 1) [] [])) (sym (next q t e))
      at false e = elim (cases_eq q t) [
        | inl same ↦
            cond-append (q == t) (to_thread u (folded (sent_by r t) past)) (to_thread u (sent_last r.script t))
            ∙ ap₂ (λ b l. cond b l []) (eq-eqb q t same) (whole u ∙ ap (λ k. sent r k u) (sym same))
            ∙ ap (λ b. cond b (sent r q u) (cond (q == t + 1) [] [])) (sym (lt-ltb q (t + 1) (omega (arith, same))))
        | inr ne ↦
            cond-append (q == t) (to_thread u (folded (sent_by r t) past)) (to_thread u (sent_last r.script t))
            ∙ ap (λ b. cond b (to_thread u (folded (sent_by r t) past) ++ to_thread u (sent_last r.script t)) []) (ne_eqb q t ne)
            ∙ sym (cond-nil (q == t + 1))
            ∙ ap (λ b. cond b (sent r q u) (cond (q == t + 1) [] [])) (sym (over q t e ne))
      ]

  last_tokens : tokens_so_far r t past ≡ tokens_so_far r (t + 1) []
  last_tokens =
      ap (λ l. before ++ cond (is_client r.script t) l []) mine
      ∙ ap (λ l. before ++ l) (at (is_client r.script t))
      ∙ sym (flat_map-append (tokens_of r) (filter (λ s. nat_lt s t) (clients r.script)) (cond (is_client r.script t) (t ∷ []) []))
      ∙ ap (flat_map (tokens_of r)) (sym (clients_more r t))
      ∙ sym (append-nil (flat_map (tokens_of r) (filter (λ s. nat_lt s (t + 1)) (clients r.script))))
      ∙ ap (λ l. flat_map (tokens_of r) (filter (λ s. nat_lt s (t + 1)) (clients r.script)) ++ l) (sym (cond-nil (is_client r.script (t + 1))))
    where
      before : List What
      before = flat_map (tokens_of r) (filter (λ s. nat_lt s t) (clients r.script))

      mine : folded (λ (before : List Step) (s : Step). tokens_started_by r t s) past ≡ tokens_of r t
      mine = ap (folded (λ (before : List Step) (s : Step). tokens_started_by r t s)) is ∙ folded-reverse (λ (before : List Step) (s : Step). tokens_started_by r t s) (own_order_of r t)

      at : (b : Bool) → cond b (tokens_of r t) [] ≡ flat_map (tokens_of r) (cond b (t ∷ []) [])
      at true = sym (append-nil (tokens_of r t))
      at false = refl

  pub sends-finish : AreSendsAt r (t + 1) [] y
  sends-finish = record {
    sized = adds.sized;
    lists = λ q u below here. adds.lists q u below here ∙ ap (λ l. l ++ cond (q == t) (to_thread u (sent_last r.script t)) []) (are.lists q u below here) ∙ last_list q u;
    tokens = adds.tokens ∙ append-nil (map what_of x.tokens.items) ∙ are.tokens ∙ last_tokens;
  }

-- ---- before the first thread

pub sends-none : (r : Record) (x : Sends) → IsSized (thread_count r.script) x → ((s u : ℕ) → list_at x s u ≡ []) → x.tokens.items ≡ [] → AreSendsAt r 0 [] x
sends-none r x sized empty none = record {
  sized = sized;
  lists = λ s u below here. empty s u ∙ sym (ap (λ b. cond b (sent r s u) (cond (s == 0) [] [])) (below_none s) ∙ cond-nil (s == 0));
  tokens = ap (map what_of) none ∙ sym (ap (λ l. flat_map (tokens_of r) l ++ []) (none_before 0 1 (length r.script.clients) (omega arith)));
}
  where
    below_none : (s : ℕ) → nat_lt s 0 ≡ false
    below_none s = grind (arith, nat_tests)
