-- The orders of the last round: to whom each goes.
use Rattle.std.proofs.Common.{◌≡◌, ℕ, ◌+◌, ◌-◌, ◌<◌, ◌≤◌, List, [], ◌∷◌, ◌++◌, length, take, slice_get, Some, All, Contains, sym, ap, subst, ◌∙◌, arith}
use Rattle.std.specs.Prelude.{slice_index_or}
use Rattle.std.proofs.lemmas.List.{take_all, take_more}
use Rattle.std.proofs.lemmas.List.Elements.{All-contains, All-cons, All-nil}
use Rattle.std.proofs.lemmas.Option.{get_or_from_slice_get, slice_get_within}
use Rattle.lw_base.specs.declared.moves.Row.{Row}
use Rattle.lw_base.specs.declared.moves.Order.{Order}
use Rattle.lw_base.specs.declared.moves.Round.{Round}
use Rattle.lw_rounds.specs.Rounds.{AreAfter, AreRounds, BalancerEnd, Sends, last_rows}
use Rattle.lw_rounds.proofs.Rounding.{last_rows_push}
use Rattle.lw_reactor.specs.Rounding.{Found, IsLast}

-- the last of these is behind the others
pub last_is : (b : BalancerEnd) (x : Round) → slice_get b.rounds (length b.rounds - 1) ≡ Some x → IsLast x b
last_is b x e =
    let xs = b.rounds in
    let m = length xs - 1 in
    let within = slice_get_within xs m x e in
    let whole : m + 1 ≡ length xs = omega arith in
    record {
      past = take m xs;
      last = sym (take_all (m + 1) xs (omega arith)) ∙ take_more xs m x within ∙ ap (λ (y : Round). take m xs ++ y ∷ []) (get_or_from_slice_get xs m x x e);
    }

-- the rows of a round are those of the run's threads and reactors
pub record InRun (b : BalancerEnd) (x : Round) : Type 0 where
  pub threads : All (λ (w : Row). w.thread < length b.masks) x.rows
  pub reactors : All (λ (w : Row). w.reactor < b.reactors) x.rows

after_in : (b : BalancerEnd) (first : ℕ) (past xs : List Round) → AreAfter b first past xs → All (InRun b) xs
after_in b first past [] h = All-nil (InRun b)
after_in b first past (x ∷ xs) h = All-cons (InRun b) x xs (record { threads = (h.0).threads; reactors = (h.0).reactors }) (after_in b first (past ++ x ∷ []) xs h.1)

rounds_in : (b : BalancerEnd) (xs : List Round) → (1 ≤ length xs → (first : ℕ) × (b.first ≡ Some first) × AreAfter b first [] xs) → All (InRun b) xs
rounds_in b [] h = All-nil (InRun b)
rounds_in b (x ∷ xs) h = let a = h (omega arith) in after_in b a.0 [] (x ∷ xs) a.2

last_among : (b : BalancerEnd) (x : Round) (P : Round → Type 0) → slice_get b.rounds (length b.rounds - 1) ≡ Some x → All P b.rounds → P x
last_among b x P e all =
    let m = length b.rounds - 1 in
    subst P (get_or_from_slice_get b.rounds m x x e) (all m x (slice_get_within b.rounds m x e))

-- what is known of an order of the last round
pub record OrderIn (b : BalancerEnd) (x : Round) (o : Order) : Type 0 where
  pub row : Row
  pub among : Contains x.rows row
  pub its_thread : row.thread ≡ o.thread
  pub thread : o.thread < length b.masks
  pub reactor : row.reactor < b.reactors
  pub to : o.to < b.reactors

pub order_in : (b : BalancerEnd) (x : Round) (os : List Order) (k : ℕ) (d : Order) → slice_get b.rounds (length b.rounds - 1) ≡ Some x → AreRounds b → All (λ (y : Round). All (Sends b.reactors y.rows) y.orders) b.rounds → os ≡ x.orders → k < length os → OrderIn b x (slice_index_or os k d)
order_in b x os k d e are sends same l =
    let o = slice_index_or os k d in
    let s : Sends b.reactors x.rows o = subst (λ (xs : List Order). All (Sends b.reactors x.rows) xs) (sym same) (last_among b x (λ (y : Round). All (Sends b.reactors y.rows) y.orders) e sends) k d l in
    let i = last_among b x (InRun b) e (rounds_in b b.rounds are.1) in
    record {
      row = s.row;
      among = s.among;
      its_thread = s.thread;
      thread = subst (λ n. n < length b.masks) s.thread (All-contains (λ (w : Row). w.thread < length b.masks) x.rows s.row i.threads s.among);
      reactor = All-contains (λ (w : Row). w.reactor < b.reactors) x.rows s.row i.reactors s.among;
      to = s.below;
    }

-- where its thread stood is where its row found it
pub stood_there : (b : BalancerEnd) (x : Round) (o : Order) (at : ℕ) → IsLast x b → (i : OrderIn b x o) → All (λ (w : Row). w.thread ≡ o.thread → w.reactor ≡ at) (last_rows b.rounds) → i.row.reactor ≡ at
stood_there b x o at last i stood =
    let rows : last_rows b.rounds ≡ x.rows = ap last_rows last.last ∙ last_rows_push last.past x in
    All-contains (λ (w : Row). w.thread ≡ o.thread → w.reactor ≡ at) x.rows i.row (subst (All (λ (w : Row). w.thread ≡ o.thread → w.reactor ≡ at)) rows stood) i.among i.its_thread

pub found_there : (b : BalancerEnd) (x : Round) (o : Order) (at : ℕ) (i : OrderIn b x o) → i.row.reactor ≡ at → Found x o.thread at
found_there b x o at i e = (i.among.0, i.row, i.among.1, i.among.2, (i.its_thread, e))
