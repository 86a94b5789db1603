-- What a round leaves of a reactor and of its balancer.
use Rattle.std.proofs.Common.{◌≡◌, ℕ, ◌≤◌, List, [], ◌∷◌, ◌++◌, filter_map, Option, None, Some, unwrap_or, All, refl, sym, ap, subst, ◌∙◌, le_refl, arith}
use Rattle.std.specs.Prelude.{IfNone, IfSome}
use Rattle.std.proofs.lemmas.List.{append-nil}
use Rattle.std.proofs.lemmas.List.Elements.{All-map}
use Rattle.lw_base.specs.declared.moves.Row.{Row}
use Rattle.lw_base.specs.declared.moves.Round.{Round}
use Rattle.lw_place.specs.PlaceSeats.{DeskEnd}
use Rattle.lw_thread.specs.Runs.{RunId}
use Rattle.lw_thread.specs.Threads.{Thread}
use Rattle.lw_rounds.specs.Measures.{Look, MeterEnd, row_of}
use Rattle.lw_rounds.specs.Rounds.{BalancerEnd, IsDue, Makes, last_time, round_of}
use Rattle.lw_rounds.proofs.Rounding.{last_time_push}
use Rattle.lw_station.specs.Stations.{StationEnd}
use Rattle.lw_reactor.specs.declared.reactor.Span.{Span}
use Rattle.lw_reactor.specs.Reactors.{BalancesRun, NoneIsDue, NoneTold, RoundsGoOn, first_of}
use Rattle.lw_reactor.specs.Turns.{spanned}
use Rattle.lw_reactor.specs.Rounding.{noting, telling, telling_own}

-- ---- what was told

module _ {L F M B : Type 0} where
  -- to tell sums changes the meter alone
  pub told_same : (ts : List (Thread L F M B)) (b : BalancerEnd) → telling ts b ≡ record b { meter = (telling ts b).meter }
  told_same [] b = refl
  told_same (t ∷ ts) b = told_same ts _

  pub own_same : (s : StationEnd L F M B) (b : BalancerEnd) → telling_own s b ≡ record b { meter = (telling_own s b).meter }
  own_same s b = told_same s.held (telling s.list b) ∙ (λ i. record (told_same s.list b i) { meter = (telling_own s b).meter })

-- ---- readings

pub later_first : (n m : ℕ) (o : Option ℕ) (rounds : List Round) → n ≤ m → IfSome o (λ f. last_time f rounds ≤ n) → IfSome o (λ f. last_time f rounds ≤ m)
later_first n m None rounds l h = tt
later_first n m (Some f) rounds l h = omega arith

pub later_runs : {F : Type 0} (run : RunId F) (n m : ℕ) (b : BalancerEnd) → n ≤ m → BalancesRun run n b → BalancesRun run m b
later_runs run n m b l h = record { reactors = h.reactors; threads = h.threads; period = h.period; none_yet = h.none_yet; not_before = later_first n m b.first b.rounds l h.not_before }

-- the rounds of a run are not later than a later reading
pub balances_later : {F : Type 0} (run : RunId F) (n m : ℕ) (b : Option BalancerEnd) → n ≤ m → IfSome b (BalancesRun run n) → IfSome b (BalancesRun run m)
balances_later run n m None l h = tt
balances_later run n m (Some b) l h = later_runs run n m b l h

-- ---- the first reading is noted

pub noted_before : (now : ℕ) (o : Option ℕ) (rounds : List Round) → IfNone o (rounds ≡ []) → IfSome o (λ f. last_time f rounds ≤ now) → last_time (unwrap_or o now) rounds ≤ now
noted_before now None rounds none h = subst (λ (xs : List Round). last_time now xs ≤ now) (sym none) (le_refl now)
noted_before now (Some f) rounds none h = h

pub noting_runs : {F : Type 0} (run : RunId F) (now : ℕ) (b : BalancerEnd) → BalancesRun run now b → BalancesRun run now (noting now b)
noting_runs run now b h = record { reactors = h.reactors; threads = h.threads; period = h.period; none_yet = tt; not_before = noted_before now b.first b.rounds h.none_yet h.not_before }

pub noting_goes : (now : ℕ) (b : BalancerEnd) → RoundsGoOn b (noting now b)
noting_goes now b = record { reactors = refl; masks = refl; period = refl; more = []; rounds = sym (append-nil b.rounds) }

pub noted_first : (now : ℕ) (o : Option ℕ) (span : Option Span) → o ≡ first_of span → Some (unwrap_or o now) ≡ first_of (spanned now span)
noted_first now o None e = ap (λ (x : Option ℕ). Some (unwrap_or x now)) e
noted_first now o (Some s) e = ap (λ (x : Option ℕ). Some (unwrap_or x now)) e

pub none_spanned : (now : ℕ) (span : Option Span) (b : BalancerEnd) → (IsDue now b → ⊥) → NoneIsDue (spanned now span) b
none_spanned now None b none = none
none_spanned now (Some s) b none = none

-- ---- a balancer whose meter alone is another

pub meter_runs : {F : Type 0} (run : RunId F) (now : ℕ) (b c : BalancerEnd) → c ≡ record b { meter = c.meter } → BalancesRun run now b → BalancesRun run now c
meter_runs run now b c e h = subst (BalancesRun run now) (sym e) (record { reactors = h.reactors; threads = h.threads; period = h.period; none_yet = h.none_yet; not_before = h.not_before })

pub meter_goes : (b c d : BalancerEnd) → d ≡ record c { meter = d.meter } → RoundsGoOn b c → RoundsGoOn b d
meter_goes b c d e h = subst (RoundsGoOn b) (sym e) (record { reactors = h.reactors; masks = h.masks; period = h.period; more = h.more; rounds = h.rounds })

-- ---- a round more

-- a balancer with one round more than another, made at a reading
pub record OneMore (now : ℕ) (b c : BalancerEnd) : Type 0 where
  pub meter : MeterEnd
  pub rows : List Row
  pub is : c ≡ record b { meter = meter; rounds = b.rounds ++ round_of now b rows ∷ [] }

pub made_more : (now : ℕ) (b c : BalancerEnd) (d e : DeskEnd) → Makes now b c d e → OneMore now b c
made_more now b c d e m = record { meter = c.meter; rows = filter_map row_of m.looks; is = m.made }

made_before : (now : ℕ) (o : Option ℕ) (past : List Round) (x : Round) → x.time ≡ now → IfSome o (λ f. last_time f (past ++ x ∷ []) ≤ now)
made_before now None past x e = tt
made_before now (Some f) past x e = subst (λ n. n ≤ now) (sym (last_time_push f past x ∙ e)) (le_refl now)

first_some : (o : Option ℕ) (f : ℕ) (P : Type 0) → o ≡ Some f → IfNone o P
first_some o f P e = subst (λ (x : Option ℕ). IfNone x P) (sym e) tt

pub more_runs : {F : Type 0} (run : RunId F) (now : ℕ) (b c : BalancerEnd) → OneMore now b c → IsDue now b → BalancesRun run now b → BalancesRun run now c
more_runs run now b c m due h = subst (BalancesRun run now) (sym m.is) (record {
  reactors = h.reactors;
  threads = h.threads;
  period = h.period;
  none_yet = first_some b.first due.first _ due.noted;
  not_before = made_before now b.first b.rounds (round_of now b m.rows) refl;
})

pub more_goes : (now : ℕ) (a b c : BalancerEnd) → OneMore now b c → b ≡ record a { meter = b.meter; first = b.first } → RoundsGoOn a c
more_goes now a b c m same = subst (RoundsGoOn a) (sym m.is) (record {
  reactors = ap (λ (x : BalancerEnd). x.reactors) same;
  masks = ap (λ (x : BalancerEnd). x.masks) same;
  period = ap (λ (x : BalancerEnd). x.period) same;
  more = round_of now b m.rows ∷ [];
  rounds = ap (λ (x : BalancerEnd). x.rounds ++ round_of now b m.rows ∷ []) same;
})

-- none is due once one was made
pub not_due_again : (now : ℕ) (b c : BalancerEnd) → 1 ≤ b.period → OneMore now b c → IsDue now c → ⊥
not_due_again now b c some m due =
    let x = round_of now b m.rows in
    let rounds : last_time due.first c.rounds ≡ now = ap (λ (y : BalancerEnd). last_time due.first y.rounds) m.is ∙ last_time_push due.first b.rounds x in
    let period = ap (λ (y : BalancerEnd). y.period) m.is in
    let past = due.past in
    omega arith

-- the sums that were told are used up
pub none_told : (now : ℕ) (b c : BalancerEnd) (d e : DeskEnd) → Makes now b c d e → NoneTold c
none_told now b c d e m =
    let none : Look → Option _ = λ l. None in
    subst (All (λ o. o ≡ None)) m.measured.none_told (All-map (λ o. o ≡ None) none m.looks (λ k l within. refl))
