-- Where the orders of a plan send the threads.
use Rattle.std.proofs.Common.{◌≡◌, ℕ, zero, suc, ◌+◌, ◌-◌, ◌<◌, ◌≤◌, ◌==◌, nat_lt, nat_le, Bool, true, false, cond, List, [], ◌∷◌, ◌++◌, length, get_or, find, filter_map, zip, None, Some, unwrap_or, All, refl, sym, subst, arith}
use Rattle.std.specs.List.{range_with_len, cons_option, list_all}
use Rattle.std.proofs.lemmas.Bool.{eq-eqb}
use Rattle.std.proofs.lemmas.List.Elements.{All-nil, All-cons, All-head, All-tail, All-weaker, All-append, All-filter, All-contains}
use Rattle.lw_base.specs.Limits.{standard}
use Rattle.lw_base.specs.Masks.{allows, allowed}
use Rattle.lw_base.specs.declared.moves.Limits.{Limits}
use Rattle.lw_base.specs.declared.moves.Row.{Row}
use Rattle.lw_base.specs.declared.moves.Order.{Order}
use Rattle.lw_base.specs.declared.moves.Round.{Round}
use Rattle.lw_base.specs.Plan.{load, core_load, planned, targets, with_room, least_planned, stays, choice, choices, order_of, plan}
use Rattle.lw_rounds.specs.Rounds.{BalancerEnd, AreAfter, AreRounds, IsRound, Sends, masks_of}

range_below : (n m : ℕ) → All (λ c. c < n + m) (range_with_len n m)
range_below n zero = All-nil (λ c. c < n + 0)
range_below n (suc m) = All-cons (λ c. c < n + suc m) n (range_with_len (n + 1) m) (omega arith)
    (All-weaker (λ c. c < n + 1 + m) (λ c. c < n + suc m) (λ c l. omega arith) (range_with_len (n + 1) m) (range_below (n + 1) m))

either : (P : ℕ → Type 0) (b : Bool) (x y : ℕ) → P x → P y → P (cond b x y)
either P true x y p q = p
either P false x y p q = q

found : (P : ℕ → Type 0) (test : ℕ → Bool) (xs : List ℕ) (d : ℕ) → All P xs → P d → P (unwrap_or (find test xs) d)
found P test [] d all p = p
found P test (x ∷ xs) d all p = here (test x) (All-head P x xs all) (found P test xs d (All-tail P x xs all) p)
  where
    here : (b : Bool) → P x → P (unwrap_or (find test xs) d) → P (unwrap_or (cond b (Some x) (find test xs)) d)
    here true p q = p
    here false p q = q

first_of : (P : ℕ → Type 0) (xs : List ℕ) (d : ℕ) → All P xs → P d → P (get_or xs 0 d)
first_of P [] d all p = p
first_of P (x ∷ xs) d all p = All-head P x xs all

targets_below : (mask reactors : ℕ) → 1 ≤ reactors → All (λ c. c < reactors) (targets mask reactors)
targets_below mask reactors some_reactors =
    let behind : All (λ c. c < reactors) (range_with_len 1 (reactors - 1)) =
    All-weaker (λ c. c < 1 + (reactors - 1)) (λ c. c < reactors) (λ c l. omega arith) (range_with_len 1 (reactors - 1)) (range_below 1 (reactors - 1)) in
    let none = All-nil (λ c. c < reactors) in
    let last : All (λ c. c < reactors) (0 ∷ []) = All-cons (λ c. c < reactors) 0 [] (omega arith) none in
    All-filter (allows mask reactors) (λ c. c < reactors) (range_with_len 1 (reactors - 1) ++ 0 ∷ [])
    (All-append (λ c. c < reactors) (range_with_len 1 (reactors - 1)) (0 ∷ []) behind last)

allowed_below : (mask reactors : ℕ) → All (λ c. c < reactors) (allowed mask reactors)
allowed_below mask reactors = All-filter (allows mask reactors) (λ c. c < reactors) (range_with_len 0 reactors)
    (All-weaker (λ c. c < 0 + reactors) (λ c. c < reactors) (λ c l. omega arith) (range_with_len 0 reactors) (range_below 0 reactors))

-- what is chosen for a row is one of the reactors
pub choice_below : (limits : Limits) (reactors : ℕ) (cores loads : ℕ → ℕ) (w : Row) (mask : ℕ) → 1 ≤ reactors → w.reactor < reactors
    → choice limits reactors cores loads w mask < reactors
choice_below limits reactors cores loads w mask some_reactors here =
    let P : ℕ → Type 0 = λ c. c < reactors in
    let ts = targets mask reactors in
    let all = targets_below mask reactors some_reactors in
    let zero_below : 0 < reactors = omega arith in
    let least = found P (λ d. list_all (λ e. nat_le (loads d) (loads e)) ts) ts 0 all zero_below in
    let room = found P (λ d. nat_le (loads d + load w) limits.core) ts (unwrap_or (least_planned loads ts) 0) all least in
    let other = unwrap_or (with_room limits loads (load w) ts) (unwrap_or (least_planned loads ts) 0) in
    let stay = stays limits reactors cores w mask in
    either P (nat_lt (load w) limits.load) (get_or (allowed mask reactors) 0 0) (cond stay w.reactor other)
    (first_of P (allowed mask reactors) 0 (allowed_below mask reactors) zero_below)
    (either P stay w.reactor other here room)

choices_below : (limits : Limits) (reactors : ℕ) (rows : List Row) (earlier : List (ℕ × ℕ)) (rest : List (Row × ℕ)) → 1 ≤ reactors
    → All (λ (p : Row × ℕ). p.0.reactor < reactors) rest → All (λ c. c < reactors) (choices limits reactors rows earlier rest)
choices_below limits reactors rows earlier [] some_reactors all = All-nil (λ c. c < reactors)
choices_below limits reactors rows earlier (p ∷ rest) some_reactors all =
    let c = choice limits reactors (core_load rows) (planned earlier) p.0 p.1 in
    let more : List (ℕ × ℕ) = earlier ++ ((c, load p.0) ∷ []) in
    All-cons (λ d. d < reactors) c (choices limits reactors rows more rest)
    (choice_below limits reactors (core_load rows) (planned earlier) p.0 p.1 some_reactors (All-head (λ (q : Row × ℕ). q.0.reactor < reactors) p rest all))
    (choices_below limits reactors rows more rest some_reactors (All-tail (λ (q : Row × ℕ). q.0.reactor < reactors) p rest all))

zipped : {Y : Type 0} (P : Row → Type 0) (rows : List Row) (ys : List Y) → All P rows → All (λ (p : Row × Y). P p.0) (zip rows ys)
zipped P [] ys all = All-nil (λ p. P p.0)
zipped P (w ∷ ws) [] all = All-nil (λ p. P p.0)
zipped P (w ∷ ws) (y ∷ ys) all = All-cons (λ p. P p.0) (w, y) (zip ws ys) (All-head P w ws all) (zipped P ws ys (All-tail P w ws all))

later : (reactors : ℕ) (w : Row) (rows : List Row) (o : Order) → Sends reactors rows o → Sends reactors (w ∷ rows) o
later reactors w rows o s =
    let at = s.among in
    record { row = s.row; among = (suc at.0, (let l = at.1 in omega arith), at.2); thread = s.thread; below = s.below; away = s.away }

sent : (reactors : ℕ) (w : Row) (rows : List Row) (c : ℕ) (os : List Order) → c < reactors → All (Sends reactors (w ∷ rows)) os
    → All (Sends reactors (w ∷ rows)) (cons_option (order_of (w, c)) os)
sent reactors w rows c os below all = go (w.reactor == c) (λ same. eq-eqb w.reactor c same)
  where
    go : (b : Bool) → (w.reactor ≡ c → b ≡ true) → All (Sends reactors (w ∷ rows)) (cons_option (cond b None (Some (record { thread = w.thread; to = c }))) os)
    go true apart = all
    go false apart = All-cons (Sends reactors (w ∷ rows)) (record { thread = w.thread; to = c }) os
        (record { row = w; among = (0, omega arith, refl); thread = refl; below = below; away = λ same. (let wrong : false ≡ true = apart same in cc) }) all

orders_sent : (reactors : ℕ) (rows : List Row) (cs : List ℕ) → All (λ c. c < reactors) cs → All (Sends reactors rows) (filter_map order_of (zip rows cs))
orders_sent reactors [] cs below = All-nil (Sends reactors [])
orders_sent reactors (w ∷ ws) [] below = All-nil (Sends reactors (w ∷ ws))
orders_sent reactors (w ∷ ws) (c ∷ cs) below =
    sent reactors w ws c (filter_map order_of (zip ws cs)) (All-head (λ d. d < reactors) c cs below)
    (All-weaker (Sends reactors ws) (Sends reactors (w ∷ ws)) (λ o s. later reactors w ws o s) (filter_map order_of (zip ws cs))
    (orders_sent reactors ws cs (All-tail (λ d. d < reactors) c cs below)))

-- each order of a plan sends the thread of one of the rows to one of the reactors
pub plan_sends : (limits : Limits) (reactors : ℕ) (rows : List Row) (masks : List ℕ) → 1 ≤ reactors → All (λ (w : Row). w.reactor < reactors) rows
    → All (Sends reactors rows) (plan limits reactors rows masks)
plan_sends limits reactors rows masks some_reactors all = orders_sent reactors rows (choices limits reactors rows [] (zip rows masks))
    (choices_below limits reactors rows [] (zip rows masks) some_reactors (zipped (λ (w : Row). w.reactor < reactors) rows masks all))

-- so does each order of a round
pub round_sends : (b : BalancerEnd) (first : ℕ) (past : List Round) (x : Round) → 1 ≤ b.reactors → IsRound b first past x → All (Sends b.reactors x.rows) x.orders
round_sends b first past x some_reactors r = subst (All (Sends b.reactors x.rows)) (sym r.orders)
    (plan_sends standard b.reactors x.rows (masks_of b.masks x.rows) some_reactors r.reactors)

after_send : (b : BalancerEnd) (first : ℕ) (past xs : List Round) → 1 ≤ b.reactors → AreAfter b first past xs → (k : ℕ) (d : Round) → k < length xs
    → All (Sends b.reactors (get_or xs k d).rows) (get_or xs k d).orders
after_send b first past [] some_reactors a k d l = absurd (omega arith)
after_send b first past (x ∷ xs) some_reactors a zero d l = round_sends b first past x some_reactors a.0
after_send b first past (x ∷ xs) some_reactors a (suc k) d l = after_send b first (past ++ x ∷ []) xs some_reactors a.1 k d (omega arith)

-- each order of each round sends a thread of its rows
pub rounds_send : (b : BalancerEnd) → 1 ≤ b.reactors → AreRounds b → All (λ (x : Round). All (Sends b.reactors x.rows) x.orders) b.rounds
rounds_send b some_reactors h = λ k d l. (let a = h.1 (omega arith) in after_send b a.0 [] b.rounds some_reactors a.2 k d l)

-- where each row of an order's thread stands on a reactor, that is the reactor of the order's row, and one of the reactors
pub sent_from : (reactors : ℕ) (rows : List Row) (o : Order) (at : ℕ) (s : Sends reactors rows o) → All (λ (w : Row). w.reactor < reactors) rows
    → All (λ (w : Row). w.thread ≡ o.thread → w.reactor ≡ at) rows → (s.row.reactor ≡ at) × (at < reactors)
sent_from reactors rows o at s below all =
    let same = All-contains (λ (w : Row). w.thread ≡ o.thread → w.reactor ≡ at) rows s.row all s.among s.thread in
    (same, subst (λ c. c < reactors) same (All-contains (λ (w : Row). w.reactor < reactors) rows s.row below s.among))
