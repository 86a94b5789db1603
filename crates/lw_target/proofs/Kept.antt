-- What a client keeps of a device, one step on.
use Rattle.std.proofs.Common.{ℕ, ◌≡◌, ◌+◌, ◌-◌, ◌≤◌, ◌<◌, Bool, true, false, ◌&&◌, List, [], ◌∷◌, length, arith, refl, sym, ap, ap₂, ◌∙◌, nat_lt, cond, IsTrue}
use Rattle.std.specs.Prelude.{filter, not, ◌||◌, Option, Some, None, is_some, count_by, ◌==◌}
use Rattle.std.specs.List.{list_any}
use Rattle.std.proofs.lemmas.Bool.{eqb-true, eqb-false, ltb-true, ltb-false}
use Rattle.std.proofs.lemmas.List.Sums.{sum_by-cons}
use Rattle.lw_base.specs.declared.message.Tag.{Tag}
use Rattle.lw_model.specs.declared.script.Script.{Script}
use Rattle.lw_model.specs.declared.step.Step.{Step}
use Rattle.lw_model.specs.declared.step.Step.TheVariants as step
use Rattle.lw_model.specs.declared.record.Did.{Did}
use Rattle.lw_model.specs.declared.record.Answer.{Answer}
use Rattle.lw_model.specs.declared.record.Answer.TheVariants as answer
use Rattle.lw_model.specs.Threads.{is_on}
use Rattle.lw_model.specs.Answers.{unanswered, unanswered_on}
use Rattle.lw_base.specs.declared.message.What.{What}
use Rattle.lw_base.specs.declared.message.What.TheVariants as what
use Rattle.lw_base.proofs.Bools.{or_false, and_false}
use Rattle.lw_model.specs.Holding.{says, always, is_closed, is_sent, is_deferred, is_putself, gains, loses, references, pending, held, ordinal_given}
use Rattle.lw_target.specs.declared.channel.Channel.{Channel}
use Rattle.lw_target.specs.Effects.{channel_after, after_put, gave_back}
use Rattle.lw_target.specs.ClientLog.{KeepsDevice}

-- ---- a message that was run

abbrev pub after_message : Bool → Channel → Channel
after_message b k = cond b (after_put k) k

destroyed : (b : Bool) (o : Option ℕ) (r n : ℕ) → ◌≡◌ {A = Option ℕ} (cond (b && n == 1 && r == 0) None o) (after_message b (record { ordinal = o; references = r; pending = n })).ordinal
destroyed true o r n = refl
destroyed false o r n = refl

left : (b : Bool) (o : Option ℕ) (r n : ℕ) → n + 0 - cond b 1 0 ≡ (after_message b (record { ordinal = o; references = r; pending = n })).pending
left true o r n = omega arith
left false o r n = omega arith

same_references : (b : Bool) (k : Channel) → k.references ≡ (after_message b k).references
same_references true k = refl
same_references false k = refl

still : (b : Bool) (k : Channel) → (IsTrue (is_some k.ordinal) → 0 < k.references + k.pending) → IsTrue (is_some (after_message b k).ordinal) → 0 < (after_message b k).references + (after_message b k).pending
still false k h e = h e
still true k h e = at (k.pending == 1) (k.references == 0) refl refl e
  where
    at : (p r : Bool) → (k.pending == 1) ≡ p → (k.references == 0) ≡ r → IsTrue (is_some (cond (p && r) None k.ordinal)) → 0 < k.references + (k.pending - 1)
    at true true ep er none = absurd (let wrong : false ≡ true = none in cc)
    at true false ep er some = let ne = eqb-false k.references 0 er in omega (arith, ne)
    at false r ep er some = let ne = eqb-false k.pending 1 ep in let had = h some in omega (arith, ne, had)

stood : (b : Bool) (k : Channel) → (0 < k.references + k.pending → IsTrue (is_some k.ordinal)) → 0 < (after_message b k).references + (after_message b k).pending → IsTrue (is_some (after_message b k).ordinal)
stood false k h e = h e
stood true k h e = at (k.pending == 1) (k.references == 0) refl refl
  where
    at : (p r : Bool) → (k.pending == 1) ≡ p → (k.references == 0) ≡ r → IsTrue (is_some (cond (p && r) None k.ordinal))
    at true true ep er = absurd (omega (arith, eqb-true k.pending 1 ep, eqb-true k.references 0 er, e))
    at true false ep er = h (omega (arith, e))
    at false r ep er = h (omega (arith, e))

fewer : (p q : ℕ → Bool) (us : List ℕ) → length (filter p us) ≡ 0 → length (filter p (filter q us)) ≡ 0
fewer p q [] e = refl
fewer p q (u ∷ us) e = at (p u) (q u) refl (fewer p q us) e
  where
    at : (a b : Bool) → p u ≡ a → (length (filter p us) ≡ 0 → length (filter p (filter q us)) ≡ 0)
        → length (cond a (u ∷ filter p us) (filter p us)) ≡ 0 → length (filter p (cond b (u ∷ filter q us) (filter q us))) ≡ 0
    at true b pa rest none = absurd (omega (arith, none))
    at false true pa rest none = ap (λ (c : Bool). length (cond c (u ∷ filter p (filter q us)) (filter p (filter q us)))) pa ∙ rest none
    at false false pa rest none = rest none

fewer_left : (p : ℕ → Bool) (w : What) (us : List ℕ) → length (filter p us) ≡ 0
    → length (filter p (elim w as (λ x. List ℕ) [ what.Reply k ↦ filter (λ j. not (j == k)) us | _ ↦ us ])) ≡ 0
fewer_left p (what.Reply k) us e = fewer p (λ j. not (j == k)) us e
fewer_left p _ us e = e

pub keeps_ran : (s : Script) (t i d : ℕ) (past : List Step) (m : Tag) (k : Channel) → KeepsDevice s t past d k
    → KeepsDevice s t (step.Ran i m ∷ past) d (after_message (is_putself d m.what) k)
keeps_ran s t i d past m k h =
    let b = is_putself d m.what in
    record {
      ordinal = ap₂ (λ (n r : ℕ). cond (b && n == 1 && r == 0) None (held (is_on s t d) d past)) h.pending h.references
          ∙ ap (λ (o : Option ℕ). cond (b && k.pending == 1 && k.references == 0) None o) h.ordinal ∙ destroyed b k.ordinal k.references k.pending;
      references = h.references ∙ same_references b k;
      pending = ap (λ (n : ℕ). n + 0 - cond b 1 0) h.pending ∙ left b k.ordinal k.references k.pending;
      standing = still b k h.standing;
      stands = stood b k h.stands;
      balance = h.balance;
      waited = λ e. fewer_left (is_on s t d) m.what (unanswered past) (h.waited (same_references b k ∙ e));
    }

-- ---- what a step counts

count_did : (on : ℕ → Bool) (f : Answer → Bool) (past : List Step) (i : ℕ) (x : Did)
    → count_by (says on f) (step.Did i x ∷ past) ≡ cond (on x.op && f x.answer) 1 0 + count_by (says on f) past
count_did on f past i x = sum_by-cons (λ (p : Step). cond (says on f p) 1 0) (step.Did i x) past

count_here : (on : ℕ → Bool) (f : Answer → Bool) (past : List Step) (i : ℕ) (x : Did) → on x.op ≡ true
    → count_by (says on f) (step.Did i x ∷ past) ≡ cond (f x.answer) 1 0 + count_by (says on f) past
count_here on f past i x here = count_did on f past i x ∙ ap (λ (b : Bool). cond (b && f x.answer) 1 0 + count_by (says on f) past) here

count_none : (on : ℕ → Bool) (f : Answer → Bool) (past : List Step) (i : ℕ) (x : Did) → (on x.op && f x.answer) ≡ false
    → count_by (says on f) (step.Did i x ∷ past) ≡ count_by (says on f) past
count_none on f past i x none = count_did on f past i x ∙ ap (λ (b : Bool). cond b 1 0 + count_by (says on f) past) none ∙ omega arith

ordinal_off : (b : Bool) (a : Answer) → b ≡ false → ◌≡◌ {A = Option ℕ} (elim a [ answer.Given n ↦ cond b (Some n) None | _ ↦ None ]) None
ordinal_off b (answer.Given n) off = ap (λ (c : Bool). cond c (Some n) None) off
ordinal_off b _ off = refl

refs_open : (on : ℕ → Bool) (past : List Step) → list_any (says always is_closed) past ≡ false
    → references on past ≡ count_by (says on gains) past - count_by (says on loses) past
refs_open on past before = ap (λ (b : Bool). cond b 0 (count_by (says on gains) past - count_by (says on loses) past)) before

filter_off : (p : ℕ → Bool) (u : ℕ) (b : Bool) (us : List ℕ) → p u ≡ false → filter p (cond b (u ∷ us) us) ≡ filter p us
filter_off p u true us off = ap (λ (c : Bool). cond c (u ∷ filter p us) (filter p us)) off
filter_off p u false us off = refl

-- ---- an op that was answered, of another device

pub keeps_other : (s : Script) (t i d : ℕ) (past : List Step) (x : Did) (k : Channel) → is_on s t d x.op ≡ false → is_closed x.answer ≡ false
    → KeepsDevice s t past d k → KeepsDevice s t (step.Did i x ∷ past) d k
keeps_other s t i d past x k off going h =
    let on = is_on s t d in
    let no = λ (f : Answer → Bool). let e : (on x.op && f x.answer) ≡ false = ap (λ (b : Bool). b && f x.answer) off in e in
    let closed : (true && is_closed x.answer) ≡ false = going in
    let same : references on (step.Did i x ∷ past) ≡ references on past =
    ap₂ (λ (b : Bool) (n : ℕ). cond (b || list_any (says always is_closed) past) 0 n) closed
    (ap₂ (λ (g l : ℕ). g - l) (count_none on gains past i x (no gains)) (count_none on loses past i x (no loses))) in
    record {
      ordinal = ap (λ (o : Option ℕ). elim o as (λ q. Option ℕ) [ Some n ↦ Some n | None ↦ held on d past ]) (ordinal_off (on x.op) x.answer off) ∙ h.ordinal;
      references = same ∙ h.references;
      pending = ap₂ (λ (b c : Bool). pending on d past + cond (b || c && nat_lt 0 (references on past)) 1 0 - 0) (no is_deferred) closed ∙ omega (arith, h.pending);
      standing = h.standing;
      stands = h.stands;
      balance = omega (arith, h.balance, count_none on gains past i x (no gains), count_none on loses past i x (no loses));
      waited = λ e. ap length (filter_off on x.op (is_sent x.answer) (unanswered past) off) ∙ h.waited e;
    }

-- ---- an op of this device

-- what a channel must be for an answer
abbrev pub IsApt : Answer → Channel → Type 0
IsApt (answer.Again n) k = k.ordinal ≡ Some n
IsApt answer.Counted k = 1 < k.references
IsApt answer.Deferred k = k.references ≡ 1
IsApt answer.Sent k = 0 < k.references
IsApt _ k = Unit {0}

refs_after : (a : Answer) (k : Channel) → (channel_after a k).references ≡ k.references + cond (gains a) 1 0 - cond (loses a) 1 0
refs_after (answer.Given n) k = omega arith
refs_after (answer.Again n) k = omega arith
refs_after answer.Counted k = omega arith
refs_after answer.Deferred k = omega arith
refs_after _ k = omega arith

pending_after : (a : Answer) (k : Channel) → (channel_after a k).pending ≡ k.pending + cond (is_deferred a) 1 0
pending_after (answer.Given n) k = omega arith
pending_after answer.Deferred k = omega arith
pending_after _ k = omega arith

ordinal_after : (b : Bool) (a : Answer) (k : Channel) → b ≡ true
    → ◌≡◌ {A = Option ℕ} (elim (elim a as (λ q. Option ℕ) [ answer.Given n ↦ cond b (Some n) None | _ ↦ None ]) as (λ q. Option ℕ) [ Some n ↦ Some n | None ↦ k.ordinal ]) (channel_after a k).ordinal
ordinal_after b (answer.Given n) k here = ap (λ (c : Bool). elim (cond c (Some n) None) as (λ q. Option ℕ) [ Some n ↦ Some n | None ↦ k.ordinal ]) here
ordinal_after b (answer.Again n) k here = refl
ordinal_after b answer.Counted k here = refl
ordinal_after b answer.Deferred k here = refl
ordinal_after b _ k here = refl

stands_on : (a : Answer) (k : Channel) → IsApt a k → (IsTrue (is_some k.ordinal) → 0 < k.references + k.pending)
    → IsTrue (is_some (channel_after a k).ordinal) → 0 < (channel_after a k).references + (channel_after a k).pending
stands_on (answer.Given n) k apt h e = omega arith
stands_on (answer.Again n) k apt h e = omega arith
stands_on answer.Counted k apt h e = omega (arith, apt)
stands_on answer.Deferred k apt h e = omega arith
stands_on _ k apt h e = h e

holds_on : (a : Answer) (k : Channel) → IsApt a k → (0 < k.references + k.pending → IsTrue (is_some k.ordinal))
    → 0 < (channel_after a k).references + (channel_after a k).pending → IsTrue (is_some (channel_after a k).ordinal)
holds_on (answer.Given n) k apt h e = refl
holds_on (answer.Again n) k apt h e = ap is_some apt
holds_on answer.Counted k apt h e = h (omega (arith, apt))
holds_on answer.Deferred k apt h e = h (omega (arith, apt))
holds_on _ k apt h e = h e

balanced : (a : Answer) (k : Channel) (g l : ℕ) → IsApt a k → g - l ≡ k.references → l ≤ g → cond (loses a) 1 0 + l ≤ cond (gains a) 1 0 + g
balanced (answer.Given n) k g l apt e h = omega (arith, h)
balanced (answer.Again n) k g l apt e h = omega (arith, h)
balanced answer.Counted k g l apt e h = omega (arith, h, e, apt)
balanced answer.Deferred k g l apt e h = omega (arith, h, e, apt)
balanced _ k g l apt e h = omega (arith, h)

waited_on : (p : ℕ → Bool) (a : Answer) (k : Channel) (u : ℕ) (us : List ℕ) → IsApt a k → (loses a ≡ true → length (filter p us) ≡ 0)
    → (k.references ≡ 0 → length (filter p us) ≡ 0) → (channel_after a k).references ≡ 0 → length (filter p (cond (is_sent a) (u ∷ us) us)) ≡ 0
waited_on p (answer.Given n) k u us apt gone h e = absurd (omega (arith, e))
waited_on p (answer.Again n) k u us apt gone h e = absurd (omega (arith, e))
waited_on p answer.Counted k u us apt gone h e = gone refl
waited_on p answer.Deferred k u us apt gone h e = gone refl
waited_on p answer.Sent k u us apt gone h e = absurd (omega (arith, apt, e))
waited_on p _ k u us apt gone h e = h e

pub keeps_op : (s : Script) (t i d : ℕ) (past : List Step) (x : Did) (k : Channel) → is_on s t d x.op ≡ true → is_closed x.answer ≡ false
    → list_any (says always is_closed) past ≡ false → IsApt x.answer k → (loses x.answer ≡ true → length (unanswered_on s t d past) ≡ 0)
    → KeepsDevice s t past d k → KeepsDevice s t (step.Did i x ∷ past) d (channel_after x.answer k)
keeps_op s t i d past x k here going before apt gone h =
    let on = is_on s t d in
    let closed : (true && is_closed x.answer) ≡ false = going in
    let after : list_any (says always is_closed) (step.Did i x ∷ past) ≡ false = ap (λ (b : Bool). b || list_any (says always is_closed) past) closed ∙ before in
    let old : count_by (says on gains) past - count_by (says on loses) past ≡ k.references = sym (refs_open on past before) ∙ h.references in
    let more = count_here on gains past i x here in
    let less = count_here on loses past i x here in
    record {
      ordinal = ap (λ (o : Option ℕ). elim (ordinal_given on (step.Did i x)) as (λ q. Option ℕ) [ Some n ↦ Some n | None ↦ o ]) h.ordinal ∙ ordinal_after (on x.op) x.answer k here;
      references = refs_open on (step.Did i x ∷ past) after ∙ omega (arith, more, less, old, h.balance, refs_after x.answer k);
      pending = ap₂ (λ (b c : Bool). pending on d past + cond (b && is_deferred x.answer || c && nat_lt 0 (references on past)) 1 0 - 0) here closed
          ∙ ap (λ (b : Bool). pending on d past + cond b 1 0 - 0) (or_false (is_deferred x.answer)) ∙ omega (arith, h.pending, pending_after x.answer k);
      standing = stands_on x.answer k apt h.standing;
      stands = holds_on x.answer k apt h.stands;
      balance = let b = balanced x.answer k (count_by (says on gains) past) (count_by (says on loses) past) apt old h.balance in omega (arith, more, less, b);
      waited = waited_on on x.answer k x.op (unanswered past) apt gone h.waited;
    }

-- ---- the close

pub keeps_closed : (s : Script) (t i d at op : ℕ) (past : List Step) (k : Channel) → length (unanswered_on s t d past) ≡ 0 → KeepsDevice s t past d k
    → KeepsDevice s t (step.Did i (record { at = at; op = op; answer = answer.Closed }) ∷ past) d (gave_back k)
keeps_closed s t i d at op past k none h =
    let on = is_on s t d in
    let x : Did = record { at = at; op = op; answer = answer.Closed } in
    let g = nat_lt 0 k.references in
    record {
      ordinal = h.ordinal;
      references = refl;
      pending = ap₂ (λ (b : Bool) (n : ℕ). pending on d past + cond (b || nat_lt 0 n) 1 0 - 0) (and_false (on op)) h.references ∙ omega (arith, h.pending);
      standing = λ some. gave g refl (h.standing some);
      stands = λ more. h.stands (took g refl more);
      balance = omega (arith, h.balance, count_none on gains past i x (and_false (on op)), count_none on loses past i x (and_false (on op)));
      waited = λ e. none;
    }
  where
    gave : (b : Bool) → nat_lt 0 k.references ≡ b → 0 < k.references + k.pending → 0 < 0 + (k.pending + cond b 1 0)
    gave true e some = omega arith
    gave false e some = let none = ltb-false 0 k.references e in omega (arith, some, none)

    took : (b : Bool) → nat_lt 0 k.references ≡ b → 0 < 0 + (k.pending + cond b 1 0) → 0 < k.references + k.pending
    took true e some = let has = ltb-true 0 k.references e in omega (arith, has)
    took false e some = omega (arith, some)
