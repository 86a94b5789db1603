-- The loop over the events of a walk, and its first line.
use Rattle.std.proofs.Common.{◌≡◌, ◌≤◌, ◌<◌, ℕ, suc, ◌+◌, Bool, true, false, List, [], ◌∷◌, ◌++◌, append_assoc, length, Option, Some, None, unwrap_or, refl, sym, ap, ◌∙◌, arith, if◌then◌else◌}
use Rattle.std.specs.List.{filter_map, cons_option}
use Rattle.std.proofs.lemmas.Bool.{le-ltb, true≢false}
use Rattle.lw_world.specs.declared.world_event.WorldEvent.{WorldEvent}
use Rattle.lw_world.specs.declared.world_event.WorldEvent.TheVariants.{Send, Run, LeaveFor, Arrive, End, Give, Destroy, Shut, Fire, BeginVisit, EndVisit, Sleep, Wake}
use Rattle.lw_world.specs.declared.world_event.WorldRefusal.{WorldRefusal}
use Rattle.lw_walk.specs.declared.walk.Sizes.{Sizes}
use Rattle.lw_world.specs.Sums.{at}
use Rattle.lw_world.specs.World.{State, HasRoom, after, stepped, refusal_of, answer_of, first_state}
use Rattle.lw_base.specs.TextLines.{is_nil, is_feed, put_on, pieces}
use Rattle.lw_walk.specs.WalkLines.{Left, taken}
use Rattle.lw_walk.specs.WalkForm.{event_in, sizes_in, bad_event, bad_line, stopped_at}
use Rattle.lw_walk.specs.Walk.{answers, event_line, refused, walk_bad_line, walk_answer, walk_of}
use Rattle.lw_world.proofs.Sums.{at-put_small}

-- ---- messages stay few

pub room : (w : State) (n : ℕ) (e : WorldEvent) → ((s r : ℕ) → at w.sent s r ≤ n) → n < 1099511627776 → HasRoom w e
room w n (Send s r) small few = λ _ _. let one = small s r in omega (arith, one, few)
room w n (Run r s) small few = tt
room w n (LeaveFor t c) small few = tt
room w n (Arrive t) small few = tt
room w n (End t) small few = tt
room w n (Give t d) small few = tt
room w n (Destroy t d) small few = tt
room w n (Shut t d) small few = tt
room w n (Fire t d) small few = tt
room w n (BeginVisit t d) small few = tt
room w n (EndVisit t d) small few = tt
room w n (Sleep c) small few = tt
room w n (Wake c) small few = tt

one_more : (w : State) (n : ℕ) (e : WorldEvent) → ((s r : ℕ) → at w.sent s r ≤ n) → (i j : ℕ) → at (after w e).sent i j ≤ n + 1
one_more w n (Send s r) small i j =
    let here = small s r in
    let there = small i j in
    at-put_small w.sent s r (at w.sent s r + 1) i j (n + 1) (omega (arith, here)) (omega (arith, there))
one_more w n (Run r s) small i j = let there = small i j in omega (arith, there)
one_more w n (LeaveFor t c) small i j = let there = small i j in omega (arith, there)
one_more w n (Arrive t) small i j = let there = small i j in omega (arith, there)
one_more w n (End t) small i j = let there = small i j in omega (arith, there)
one_more w n (Give t d) small i j = let there = small i j in omega (arith, there)
one_more w n (Destroy t d) small i j = let there = small i j in omega (arith, there)
one_more w n (Shut t d) small i j = let there = small i j in omega (arith, there)
one_more w n (Fire t d) small i j = let there = small i j in omega (arith, there)
one_more w n (BeginVisit t d) small i j = let there = small i j in omega (arith, there)
one_more w n (EndVisit t d) small i j = let there = small i j in omega (arith, there)
one_more w n (Sleep c) small i j = let there = small i j in omega (arith, there)
one_more w n (Wake c) small i j = let there = small i j in omega (arith, there)

pub sent_more : (w : State) (n : ℕ) (e : WorldEvent) → ((s r : ℕ) → at w.sent s r ≤ n) → (i j : ℕ) → at (stepped w e).sent i j ≤ n + 1
sent_more w n e small i j = by (refusal_of w e)
  where
    by : (o : Option WorldRefusal) → at (elim o as (λ _. State) [ None ↦ after w e | Some r ↦ w ]).sent i j ≤ n + 1
    by None = one_more w n e small i j
    by (Some r) = let there = small i j in omega (arith, there)

pub refused-answer : (o : Option WorldRefusal) → refused (answer_of o) ≡ o
refused-answer None = refl
refused-answer (Some r) = refl

-- ---- a line that is taken

pub record IsTaken {X : Type 0} (f : List ℕ → Option X) (s t : Left) (x : X) : Type 0 where
  pub head : List ℕ
  pub first : s.lines ≡ head ∷ t.lines
  pub is : f head ≡ Some x
  pub next : t.line ≡ s.line + 1

took_at : {X : Type 0} (f : List ℕ → Option X) (n : ℕ) (ls : List (List ℕ)) (t : Left) (x : X) → (Some x, t) ≡ taken f (record { line = n; lines = ls }) → IsTaken f (record { line = n; lines = ls }) t x
took_at {X = X} f n [] t x e = absurd (cc (ap (λ (p : Option X × Left). p.0) e))
took_at {X = X} f n (l ∷ ls) t x e = by (f l) refl e
  where
    by : (o : Option X) → f l ≡ o → ◌≡◌ {A = Option X × Left} (Some x, t) (elim o as (λ _. Option X × Left) [ Some y ↦ (Some y, record { line = n + 1; lines = ls }) | None ↦ (None, record { line = n; lines = l ∷ ls }) ]) → IsTaken f (record { line = n; lines = l ∷ ls }) t x
    by None q e = absurd (cc (ap (λ (p : Option X × Left). p.0) e))
    by (Some y) q e = record {
      head = l;
      first = ap (λ ks. l ∷ ks) (sym (ap (λ (p : Option X × Left). p.1.lines) e));
      is = q ∙ ap Some (sym (ap (λ (p : Option X × Left). unwrap_or p.0 x) e));
      next = ap (λ (p : Option X × Left). p.1.line) e;
    }

pub took : {X : Type 0} (f : List ℕ → Option X) (s t : Left) (x : X) → (Some x, t) ≡ taken f s → IsTaken f s t x
took f s t x e = took_at f s.line s.lines t x e

stop_at : (n : ℕ) (ls : List (List ℕ)) (t : Left) → ◌≡◌ {A = Option WorldEvent × Left} (None, t) (taken event_in (record { line = n; lines = ls })) → (bad_event n ls ≡ stopped_at t) × (is_nil t.lines ≡ true → ls ≡ [])
stop_at n [] t e = (ap (λ (p : Option WorldEvent × Left). stopped_at p.1) (sym e), λ _. refl)
stop_at n (l ∷ ls) t e = by (event_in l) refl e
  where
    by : (o : Option WorldEvent) → event_in l ≡ o → ◌≡◌ {A = Option WorldEvent × Left} (None, t) (elim o as (λ _. Option WorldEvent × Left) [ Some y ↦ (Some y, record { line = n + 1; lines = ls }) | None ↦ (None, record { line = n; lines = l ∷ ls }) ])
        → (bad_event n (l ∷ ls) ≡ stopped_at t) × (is_nil t.lines ≡ true → l ∷ ls ≡ [])
    by None q e = (
      ap (λ (o : Option WorldEvent). elim o as (λ _. Option ℕ) [ Some y ↦ bad_event (n + 1) ls | None ↦ Some n ]) q ∙ ap (λ (p : Option WorldEvent × Left). stopped_at p.1) (sym e),
      λ nil. absurd (true≢false (sym nil ∙ ap (λ (p : Option WorldEvent × Left). is_nil p.1.lines) e)),
    )
    by (Some y) q e = absurd (cc (ap (λ (p : Option WorldEvent × Left). p.0) e))

pub stopped : (s t : Left) → ◌≡◌ {A = Option WorldEvent × Left} (None, t) (taken event_in s) → (bad_event s.line s.lines ≡ stopped_at t) × (is_nil t.lines ≡ true → s.lines ≡ [])
stopped s t e = stop_at s.line s.lines t e

-- ---- one event more

module _ (s t : Left) (e : WorldEvent) (step : IsTaken event_in s t e) where
  pub bad_same : bad_event s.line s.lines ≡ bad_event t.line t.lines
  bad_same =
      ap (bad_event s.line) step.first
      ∙ ap (λ (o : Option WorldEvent). elim o as (λ _. Option ℕ) [ Some y ↦ bad_event (s.line + 1) t.lines | None ↦ Some s.line ]) step.is
      ∙ ap (λ n. bad_event n t.lines) (sym step.next)

  pub events_more : filter_map event_in s.lines ≡ e ∷ filter_map event_in t.lines
  events_more = ap (filter_map event_in) step.first ∙ ap (λ o. cons_option o (filter_map event_in t.lines)) step.is

  pub lines_less : length s.lines ≡ length t.lines + 1
  lines_less =
      let size = ap length step.first in
      let one : length (step.head ∷ t.lines) ≡ suc (length t.lines) = refl in
      omega (arith, size, one)

  pub answers_same : (w : State) (n : ℕ) (out now : List ℕ) → now ≡ out ++ event_line n (refusal_of w e)
      → now ++ answers (stepped w e) (n + 1) (filter_map event_in t.lines) ≡ out ++ answers w n (filter_map event_in s.lines)
  answers_same w n out now pushed =
      ap (λ k. k ++ answers (stepped w e) (n + 1) (filter_map event_in t.lines)) pushed
      ∙ append_assoc out (event_line n (refusal_of w e)) (answers (stepped w e) (n + 1) (filter_map event_in t.lines))
      ∙ ap (λ es. out ++ answers w n es) (sym events_more)

-- ---- the whole

put_on_few : (b : ℕ) (ps : List (List ℕ)) (n : ℕ) → length ps ≤ n → length (put_on b ps) ≤ suc n
put_on_few b [] n few = omega arith
put_on_few b (p ∷ ps) n few = omega (arith, few)

pieces_few : (bs : List ℕ) → length (pieces bs) ≤ length bs
pieces_few [] = omega arith
pieces_few (b ∷ bs) = by (pieces_few bs) (is_feed b)
  where
    by : length (pieces bs) ≤ length bs → (feed : Bool) → length (if feed then (b ∷ []) ∷ pieces bs else put_on b (pieces bs)) ≤ length (b ∷ bs)
    by rest true = omega (arith, rest)
    by rest false = put_on_few b (pieces bs) (length bs) rest

pub within_limit : (bytes : List ℕ) → length bytes ≤ 16777216 → walk_bad_line bytes ≡ bad_line (pieces bytes)
within_limit bytes few = ap (λ b. if b then Some 0 else bad_line (pieces bytes)) (le-ltb 16777216 (length bytes) few)

module _ (bytes : List ℕ) (few : length bytes ≤ 16777216) (s t : Left) (sizes : Sizes) (start : s ≡ record { line = 1; lines = pieces bytes }) (step : IsTaken sizes_in s t sizes) where
  first : pieces bytes ≡ step.head ∷ t.lines
  first = sym (ap (λ (x : Left). x.lines) start) ∙ step.first

  next : t.line ≡ 2
  next = step.next ∙ ap (λ (x : Left). x.line + 1) start

  pub lines_few : length t.lines ≤ 16777216
  lines_few =
      let size = ap length first in
      let one : length (step.head ∷ t.lines) ≡ suc (length t.lines) = refl in
      let all = pieces_few bytes in
      omega (arith, size, one, all, few)

  pub bad_is : (o : Option ℕ) → bad_event t.line t.lines ≡ o → walk_bad_line bytes ≡ o
  bad_is o told =
      within_limit bytes few
      ∙ ap bad_line first
      ∙ ap (λ (x : Option Sizes). elim x as (λ _. Option ℕ) [ Some s ↦ bad_event 2 t.lines | None ↦ Some 1 ]) step.is
      ∙ ap (λ n. bad_event n t.lines) (sym next)
      ∙ told

  pub answer_is : walk_answer bytes ≡ answers (first_state sizes.threads sizes.reactors sizes.devices) 1 (filter_map event_in t.lines)
  answer_is =
      ap walk_of first
      ∙ ap (λ (x : Option Sizes). elim x as (λ _. List ℕ) [ Some s ↦ answers (first_state s.threads s.reactors s.devices) 1 (filter_map event_in t.lines) | None ↦ [] ]) step.is
