-- What holds between the rounds that a test makes: from the first reading on, and again after each round.
use Rattle.std.proofs.Common.{◌≡◌, ℕ, ◌≤◌, List, [], ◌∷◌, ◌++◌, None, Some, refl, sym, ap, ◌∙◌, arith}
use Rattle.std.specs.Prelude.{length, unwrap_or}
use Rattle.lw_base.specs.declared.moves.Round.{Round}
use Rattle.lw_place.specs.PlaceSeats.{DeskEnd, Places}
use Rattle.lw_rounds.specs.Measures.{HasOnlyLooked, MeterEnd}
use Rattle.lw_rounds.specs.Rounds.{BalancerEnd, Makes, last_time}
use Rattle.lw_sched_tests.specs.Balancing.{MayGoOn}

-- the last of some rounds is the one at their end
last_at_end : (time : ℕ) (xs : List Round) (x : Round) → last_time time (xs ++ x ∷ []) ≡ x.time
last_at_end time [] x = refl
last_at_end time (y ∷ ys) x = last_at_end y.time ys x

pub begins : (first now m n : ℕ) (meter : MeterEnd) (old new : BalancerEnd) (desk : DeskEnd)
    → old ≡ record { reactors = 2; masks = m ∷ n ∷ []; period = 10; meter = meter; first = None; rounds = [] } → new ≡ record old { first = Some (unwrap_or old.first first) }
    → (desk.places.threads ≡ 2) × (desk.places.reactors ≡ 2) → first ≤ now → MayGoOn now new desk
begins first now m n meter old new desk is noted counts later =
    let reactors : new.reactors ≡ 2 = ap (λ (b : BalancerEnd). b.reactors) noted ∙ ap (λ (b : BalancerEnd). b.reactors) is in
    let masks : length new.masks ≡ 2 = ap (λ (b : BalancerEnd). length b.masks) noted ∙ ap (λ (b : BalancerEnd). length b.masks) is in
    let time : last_time first new.rounds ≡ first = ap (λ (b : BalancerEnd). last_time first b.rounds) noted ∙ ap (λ (b : BalancerEnd). last_time first b.rounds) is in
    record {
      first = first;
      noted = ap (λ (b : BalancerEnd). b.first) noted ∙ ap (λ (b : BalancerEnd). Some (unwrap_or b.first first)) is;
      past = omega arith;
      places = record { threads = counts.0 ∙ sym masks; reactors = counts.1 ∙ sym reactors };
    }

pub goes_on : (now : ℕ) (old due new : BalancerEnd) (desk after : DeskEnd) → MayGoOn now old desk → due ≡ record old { first = Some (unwrap_or old.first now) }
    → HasOnlyLooked desk after → Makes now due new desk after → MayGoOn now new after
goes_on now old due new desk after h noted looked made =
    let time : last_time h.first new.rounds ≡ now = ap (λ (b : BalancerEnd). last_time h.first b.rounds) made.made ∙ last_at_end h.first due.rounds _ in
    let places : after.places ≡ desk.places = ap (λ (d : DeskEnd). d.places) looked.desk in
    record {
      first = h.first;
      noted = ap (λ (b : BalancerEnd). b.first) made.made ∙ ap (λ (b : BalancerEnd). b.first) noted ∙ ap (λ o. Some (unwrap_or o now)) h.noted;
      past = omega arith;
      places = record {
        threads = ap (λ (p : Places). p.threads) places ∙ h.places.threads ∙ sym (ap (λ (b : BalancerEnd). length b.masks) made.made ∙ ap (λ (b : BalancerEnd). length b.masks) noted);
        reactors = ap (λ (p : Places). p.reactors) places ∙ h.places.reactors ∙ sym (ap (λ (b : BalancerEnd). b.reactors) made.made ∙ ap (λ (b : BalancerEnd). b.reactors) noted);
      };
    }
