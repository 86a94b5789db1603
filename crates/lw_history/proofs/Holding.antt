-- How what a client holds grows with its history.
use Rattle.std.proofs.Common.{ℕ, ◌≡◌, ◌+◌, ◌-◌, ◌≤◌, ◌==◌, nat_lt, Bool, true, false, ◌&&◌, ◌||◌, cond, List, [], ◌∷◌, length, count_by, Option, Some, None, arith, refl, sym, ap, ap₂, ◌∙◌}
use Rattle.std.specs.List.{list_any}
use Rattle.std.proofs.lemmas.Bool.{false≢true}
use Rattle.std.proofs.lemmas.List.{length-append}
use Rattle.std.proofs.lemmas.List.Sums.{sum_by-cons}
use Rattle.lw_base.proofs.Bools.{or_false, and_false}
use Rattle.lw_model.specs.declared.script.Script.{Script}
use Rattle.lw_model.specs.declared.step.Step.{Step}
use Rattle.lw_model.specs.declared.step.Step.TheVariants as step
use Rattle.lw_model.specs.declared.record.Did.{Did}
use Rattle.lw_model.specs.declared.record.Called.{Called}
use Rattle.lw_model.specs.declared.record.Answer.{Answer}
use Rattle.lw_model.specs.declared.record.Answer.TheVariants as answer
use Rattle.lw_model.specs.Threads.{is_on}
use Rattle.lw_model.specs.Holding.{says, always, is_given, is_closed, is_sent, is_deferred, is_putself, gains, loses, references, pending, submitted, held, ordinal_given}
use Rattle.lw_whole.specs.Letters.{Letter}
use Rattle.lw_whole.specs.Lines.{is_a_did, dids_in}
use Rattle.lw_history.specs.Histories.{Event, ran, did, called, ended, runs_of, dids_of, past_of}
use Rattle.lw_history.specs.Holding.{Hold, no_hold, hold_after, hold_closed, hold_put, KeepsHold}

-- ---- a message that was run

abbrev hold_ran : Bool → Hold → Hold
hold_ran b k = cond b (hold_put k) k

destroyed : (b : Bool) (k : Hold) → cond (b && k.pending == 1 && k.references == 0) None k.ordinal ≡ (hold_ran b k).ordinal
destroyed true k = refl
destroyed false k = refl

left : (b : Bool) (k : Hold) → k.pending + 0 - cond b 1 0 ≡ (hold_ran b k).pending
left true k = omega arith
left false k = omega arith

same_references : (b : Bool) (k : Hold) → k.references ≡ (hold_ran b k).references
same_references true k = refl
same_references false k = refl

same_submitted : (b : Bool) (k : Hold) → k.submitted + 0 ≡ (hold_ran b k).submitted
same_submitted true k = omega arith
same_submitted false k = omega arith

pub runs_keep_holds : (s : Script) (t d : ℕ) (h : List Event) (k : Hold) (x : Letter) (now : List (ℕ × Letter)) → KeepsHold s t d h k → KeepsHold s t d (ran x now ∷ h) (cond (is_putself d x.tag.what) (hold_put k) k)
runs_keep_holds s t d h k x now f =
    let b = is_putself d x.tag.what in
    record {
      ordinal = ap₂ (λ (n r : ℕ). cond (b && n == 1 && r == 0) None (held (is_on s t d) d (past_of h))) f.pending f.references
          ∙ ap (λ (o : Option ℕ). cond (b && k.pending == 1 && k.references == 0) None o) f.ordinal ∙ destroyed b k;
      references = f.references ∙ same_references b k;
      pending = ap (λ (n : ℕ). n + 0 - cond b 1 0) f.pending ∙ left b k;
      submitted = ap (λ (n : ℕ). n + 0) f.submitted ∙ same_submitted b k;
      balance = f.balance;
    }

-- ---- what a line counts

count_did : (on : ℕ → Bool) (f : Answer → Bool) (past : List Step) (i : ℕ) (x : Did) → count_by (says on f) (step.Did i x ∷ past) ≡ cond (on x.op && f x.answer) 1 0 + count_by (says on f) past
count_did on f past i x = sum_by-cons (λ (p : Step). cond (says on f p) 1 0) (step.Did i x) past

count_here : (on : ℕ → Bool) (f : Answer → Bool) (past : List Step) (i : ℕ) (x : Did) → on x.op ≡ true → count_by (says on f) (step.Did i x ∷ past) ≡ cond (f x.answer) 1 0 + count_by (says on f) past
count_here on f past i x here = count_did on f past i x ∙ ap (λ (b : Bool). cond (b && f x.answer) 1 0 + count_by (says on f) past) here

count_none : (on : ℕ → Bool) (f : Answer → Bool) (past : List Step) (i : ℕ) (x : Did) → (on x.op && f x.answer) ≡ false → count_by (says on f) (step.Did i x ∷ past) ≡ count_by (says on f) past
count_none on f past i x none = count_did on f past i x ∙ ap (λ (b : Bool). cond b 1 0 + count_by (says on f) past) none ∙ omega arith

refs_open : (on : ℕ → Bool) (past : List Step) → list_any (says always is_closed) past ≡ false → references on past ≡ count_by (says on gains) past - count_by (says on loses) past
refs_open on past before = ap (λ (b : Bool). cond b 0 (count_by (says on gains) past - count_by (says on loses) past)) before

-- ---- a line of another device

ordinal_off : (b : Bool) (a : Answer) → b ≡ false → ◌≡◌ {A = Option ℕ} (elim a [ answer.Given n ↦ cond b (Some n) None | _ ↦ None ]) None
ordinal_off b (answer.Given n) off = ap (λ (c : Bool). cond c (Some n) None) off
ordinal_off b _ off = refl

pub other_lines_keep_holds : (s : Script) (t d : ℕ) (h : List Event) (k : Hold) (x : Did) (now : List (ℕ × Letter)) → is_on s t d x.op ≡ false → is_closed x.answer ≡ false
    → KeepsHold s t d h k → KeepsHold s t d (did x now ∷ h) k
other_lines_keep_holds s t d h k x now off going f =
    let on = is_on s t d in
    let past = past_of h in
    let i = length (dids_of h) in
    let no = λ (g : Answer → Bool). let e : (on x.op && g x.answer) ≡ false = ap (λ (b : Bool). b && g x.answer) off in e in
    let closed : (true && is_closed x.answer) ≡ false = going in
    let same : references on (step.Did i x ∷ past) ≡ references on past =
    ap₂ (λ (b : Bool) (n : ℕ). cond (b || list_any (says always is_closed) past) 0 n) closed
    (ap₂ (λ (g l : ℕ). g - l) (count_none on gains past i x (no gains)) (count_none on loses past i x (no loses))) in
    record {
      ordinal = ap (λ (o : Option ℕ). elim o as (λ q. Option ℕ) [ Some n ↦ Some n | None ↦ held on d past ]) (ordinal_off (on x.op) x.answer off) ∙ f.ordinal;
      references = same ∙ f.references;
      pending = ap₂ (λ (b c : Bool). pending on d past + cond (b || c && nat_lt 0 (references on past)) 1 0 - 0) (no is_deferred) closed ∙ omega (arith, f.pending);
      submitted = ap₂ (λ (b c : Bool). cond b 0 (submitted on past + cond c 1 0)) (no is_given) (no is_sent) ∙ omega (arith, f.submitted);
      balance = omega (arith, f.balance, count_none on gains past i x (no gains), count_none on loses past i x (no loses));
    }

-- ---- a line of this device

refs_after : (a : Answer) (k : Hold) → (hold_after a k).references ≡ k.references + cond (gains a) 1 0 - cond (loses a) 1 0
refs_after (answer.Given n) k = omega arith
refs_after (answer.Again n) k = omega arith
refs_after answer.Counted k = omega arith
refs_after answer.Deferred k = omega arith
refs_after _ k = omega arith

pending_after : (a : Answer) (k : Hold) → (hold_after a k).pending ≡ k.pending + cond (is_deferred a) 1 0
pending_after (answer.Given n) k = omega arith
pending_after answer.Deferred k = omega arith
pending_after _ k = omega arith

submitted_after : (a : Answer) (k : Hold) → cond (is_given a) 0 (k.submitted + cond (is_sent a) 1 0) ≡ (hold_after a k).submitted
submitted_after (answer.Given n) k = refl
submitted_after answer.Sent k = refl
submitted_after _ k = omega arith

ordinal_after : (b : Bool) (a : Answer) (k : Hold) → b ≡ true
    → ◌≡◌ {A = Option ℕ} (elim (elim a as (λ q. Option ℕ) [ answer.Given n ↦ cond b (Some n) None | _ ↦ None ]) as (λ q. Option ℕ) [ Some n ↦ Some n | None ↦ k.ordinal ]) (hold_after a k).ordinal
ordinal_after b (answer.Given n) k here = ap (λ (c : Bool). elim (cond c (Some n) None) as (λ q. Option ℕ) [ Some n ↦ Some n | None ↦ k.ordinal ]) here
ordinal_after b (answer.Again n) k here = refl
ordinal_after b answer.Counted k here = refl
ordinal_after b answer.Deferred k here = refl
ordinal_after b _ k here = refl

balanced : (a : Answer) (k : Hold) (g l : ℕ) → (loses a ≡ true → 1 ≤ k.references) → g - l ≡ k.references → l ≤ g → cond (loses a) 1 0 + l ≤ cond (gains a) 1 0 + g
balanced (answer.Given n) k g l has e h = omega (arith, h)
balanced (answer.Again n) k g l has e h = omega (arith, h)
balanced answer.Counted k g l has e h = omega (arith, h, e, has refl)
balanced answer.Deferred k g l has e h = omega (arith, h, e, has refl)
balanced _ k g l has e h = omega (arith, h)

pub lines_keep_holds : (s : Script) (t d : ℕ) (h : List Event) (k : Hold) (x : Did) (now : List (ℕ × Letter)) → is_on s t d x.op ≡ true → is_closed x.answer ≡ false
    → list_any (says always is_closed) (past_of h) ≡ false → (loses x.answer ≡ true → 1 ≤ k.references)
    → KeepsHold s t d h k → KeepsHold s t d (did x now ∷ h) (hold_after x.answer k)
lines_keep_holds s t d h k x now here going before has f =
    let on = is_on s t d in
    let past = past_of h in
    let i = length (dids_of h) in
    let closed : (true && is_closed x.answer) ≡ false = going in
    let after : list_any (says always is_closed) (step.Did i x ∷ past) ≡ false = ap (λ (b : Bool). b || list_any (says always is_closed) past) closed ∙ before in
    let old : count_by (says on gains) past - count_by (says on loses) past ≡ k.references = sym (refs_open on past before) ∙ f.references in
    let more = count_here on gains past i x here in
    let less = count_here on loses past i x here in
    record {
      ordinal = ap (λ (o : Option ℕ). elim (ordinal_given on (step.Did i x)) as (λ q. Option ℕ) [ Some n ↦ Some n | None ↦ o ]) f.ordinal ∙ ordinal_after (on x.op) x.answer k here;
      references = refs_open on (step.Did i x ∷ past) after ∙ omega (arith, more, less, old, f.balance, refs_after x.answer k);
      pending = ap₂ (λ (b c : Bool). pending on d past + cond (b && is_deferred x.answer || c && nat_lt 0 (references on past)) 1 0 - 0) here closed
          ∙ ap (λ (b : Bool). pending on d past + cond b 1 0 - 0) (or_false (is_deferred x.answer)) ∙ omega (arith, f.pending, pending_after x.answer k);
      submitted = ap (λ (b : Bool). cond (b && is_given x.answer) 0 (submitted on past + cond (b && is_sent x.answer) 1 0)) here
          ∙ ap (λ (n : ℕ). cond (is_given x.answer) 0 (n + cond (is_sent x.answer) 1 0)) f.submitted ∙ submitted_after x.answer k;
      balance = let b = balanced x.answer k (count_by (says on gains) past) (count_by (says on loses) past) has old f.balance in omega (arith, more, less, b);
    }

-- ---- the close

pub closes_keep_holds : (s : Script) (t d : ℕ) (h : List Event) (k : Hold) (x : Did) (now : List (ℕ × Letter)) → is_closed x.answer ≡ true → KeepsHold s t d h k → KeepsHold s t d (did x now ∷ h) (hold_closed k)
closes_keep_holds s t d h k x now closed f = of x.answer closed
  where
    on : ℕ → Bool
    on = is_on s t d

    past : List Step
    past = past_of h

    i : ℕ
    i = length (dids_of h)

    of : (a : Answer) → is_closed a ≡ true → KeepsHold s t d (did (record x { answer = a }) now ∷ h) (hold_closed k)
    of answer.Closed e =
        let y : Did = record x { answer = answer.Closed } in
        record {
          ordinal = f.ordinal;
          references = refl;
          pending = ap₂ (λ (b : Bool) (n : ℕ). pending on d past + cond (b || nat_lt 0 n) 1 0 - 0) (and_false (on x.op)) f.references ∙ omega (arith, f.pending);
          submitted = ap₂ (λ (b c : Bool). cond b 0 (submitted on past + cond c 1 0)) (and_false (on x.op)) (and_false (on x.op)) ∙ omega (arith, f.submitted);
          balance = omega (arith, f.balance, count_none on gains past i y (and_false (on x.op)), count_none on loses past i y (and_false (on x.op)));
        }
    of _ e = absurd (false≢true e)

-- ---- the rest

pub holds_begin : (s : Script) (t d : ℕ) → KeepsHold s t d [] no_hold
holds_begin s t d = record { ordinal = refl; references = refl; pending = refl; submitted = refl; balance = omega arith }

pub calls_keep_holds : (s : Script) (t d : ℕ) (h : List Event) (k : Hold) (x : Called) → KeepsHold s t d h k → KeepsHold s t d (called x ∷ h) k
calls_keep_holds s t d h k x f = record { ordinal = f.ordinal; references = f.references; pending = f.pending; submitted = f.submitted; balance = f.balance }

pub ends_keep_holds : (s : Script) (t d : ℕ) (h : List Event) (k : Hold) (now : List (ℕ × Letter)) → KeepsHold s t d h k → KeepsHold s t d (ended now ∷ h) k
ends_keep_holds s t d h k now f = record { ordinal = f.ordinal; references = f.references; pending = f.pending; submitted = f.submitted; balance = f.balance }

-- the lines among its steps are its lines
pub lines_are_counted : (h : List Event) → dids_in (past_of h) ≡ length (dids_of h)
lines_are_counted [] = refl
lines_are_counted (ran x now ∷ before) = sum_by-cons (λ (p : Step). cond (is_a_did p) 1 0) (step.Ran (length (runs_of before)) x.tag) (past_of before) ∙ omega (arith, lines_are_counted before)
lines_are_counted (did x now ∷ before) =
    sum_by-cons (λ (p : Step). cond (is_a_did p) 1 0) (step.Did (length (dids_of before)) x) (past_of before) ∙ omega (arith, lines_are_counted before, length-append (dids_of before) (x ∷ []))
lines_are_counted (called x ∷ before) = lines_are_counted before
lines_are_counted (ended now ∷ before) = lines_are_counted before
