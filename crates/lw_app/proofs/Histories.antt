-- What the history of the app says of its lines.
use Rattle.std.proofs.Common.{◌≡◌, ℕ, zero, suc, ◌+◌, ◌<◌, ◌≤◌, ◌==◌, nat_lt, Bool, true, false, cond, ◌&&◌, ◌||◌, not, List, [], ◌∷◌, length, Option, Some, None, refl, sym, ap, ap₂, ◌∙◌, arith}
use Rattle.std.specs.List.{list_all, list_any, AllByRecursion, range_with_len}
use Rattle.std.proofs.lemmas.Bool.{and_parts, eqb-true, eqb-false, eq-eqb, ne_eqb, lt-ltb, false≢true}
use Rattle.std.proofs.lemmas.List.{length-append}
use Rattle.lw_model.specs.declared.script.Script.{Script}
use Rattle.lw_model.specs.declared.step.Step.{Step}
use Rattle.lw_model.specs.declared.step.Step.TheVariants as step
use Rattle.lw_model.specs.declared.record.Answer.{Answer}
use Rattle.lw_model.specs.declared.record.Answer.TheVariants as answer
use Rattle.lw_model.specs.declared.record.Did.{Did}
use Rattle.lw_model.specs.Threads.{image_at, is_on, clients, images}
use Rattle.lw_model.specs.Holding.{says, ordinal_given, held, destroys}
use Rattle.lw_model.specs.Devices.{needs_open, tells_shut}
use Rattle.lw_model.specs.Answers.{unregister_fits, is_done_of}
use Rattle.lw_whole.specs.Lines.{app_line_fits, stays_shut}
use Rattle.lw_history.specs.Histories.{Event, ran, did, called, ended, dids_of, past_of, last_of, runs_of}
use Rattle.lw_history.specs.Fitting.{AppFits, EachFits, ends_in}

pub or_right : (x y : Bool) → y ≡ true → (x || y) ≡ true
or_right true y e = refl
or_right false y e = e

-- the app's op k, where there is such a device, and whether it is on device d
abbrev image_by : ℕ → Bool → Option ℕ
image_by k b = elim b [ true ↦ Some k | false ↦ None ]

abbrev on_by : ℕ → Option ℕ → Bool
on_by d o = elim o [ None ↦ false | Some e ↦ e == d ]

-- the ordinal that an answer gives
abbrev given_by : (ℕ → Bool) → ℕ → Answer → Option ℕ
given_by on k a = elim a [ answer.Given n ↦ cond (on k) (Some n) None | _ ↦ None ]

-- the ordinal that is held behind a step
abbrev held_by : Bool → Option ℕ → Option ℕ → Option ℕ
held_by b before o = elim o [ Some n ↦ Some n | None ↦ cond b None before ]

module _ (s : Script) where
  -- the app's op is on the device with its number alone
  pub on_another : (d k : ℕ) → (k ≡ d → ⊥) → is_on s 0 d k ≡ false
  on_another d k ne = at (nat_lt k (length s.images))
    where
      at : (b : Bool) → on_by d (image_by k b) ≡ false
      at true = ne_eqb k d ne
      at false = refl

  pub image_is : (d : ℕ) → d < length s.images → image_at s 0 d ≡ Some d
  image_is d l = at (nat_lt d (length s.images)) (lt-ltb d (length s.images) l)
    where
      at : (b : Bool) → b ≡ true → image_by d b ≡ Some d
      at true e = refl
      at false e = absurd (false≢true e)

  pub on_it : (d : ℕ) → d < length s.images → is_on s 0 d d ≡ true
  on_it d l = ap (on_by d) (image_is d l) ∙ eq-eqb d d refl

  -- the parts of what a line of the app fits
  pub record LineParts (past : List Step) (i : ℕ) (x : Did) : Type 0 where
    pub op : x.op ≡ i
    pub unregister : unregister_fits x.answer ≡ true

  pub line_parts : (past : List Step) (i : ℕ) (x : Did) → app_line_fits s past (step.Did i x) ≡ true → LineParts past i x
  line_parts past i x e =
      let a = and_parts ((x.op == i && nat_lt i (length s.images)) && unregister_fits x.answer) (list_all (λ c. list_any (is_done_of c) past) (clients s)) e in
      let b = and_parts (x.op == i && nat_lt i (length s.images)) (unregister_fits x.answer) a.0 in
      record { op = eqb-true x.op i (and_parts (x.op == i) (nat_lt i (length s.images)) b.0).0; unregister = b.1 }

  -- no line of a device that wasn't unregistered yet
  pub no_line_yet : (d : ℕ) (passes : Answer → Bool) (h : List Event) → EachFits (AppFits s) h → length (dids_of h) ≤ d → list_any (says (is_on s 0 d) passes) (past_of h) ≡ false
  no_line_yet d passes [] fits l = refl
  no_line_yet d passes (ran x now ∷ before) fits l = no_line_yet d passes before fits.1 l
  no_line_yet d passes (did x now ∷ before) fits l =
      let parts = line_parts (past_of before) (length (dids_of before)) x fits.0.fits in
      let longer = length-append (dids_of before) (x ∷ []) in
      ap (λ b. (b && passes x.answer) || list_any (says (is_on s 0 d) passes) (past_of before)) (on_another d x.op (λ e. absurd (omega (arith, e, parts.op, longer, l))))
      ∙ no_line_yet d passes before fits.1 (omega (arith, longer, l))
  no_line_yet d passes (called x ∷ before) fits l = no_line_yet d passes before fits.1 l
  no_line_yet d passes (ended now ∷ before) fits l = no_line_yet d passes before fits.1 l

  -- the app was given no channel
  not_given : (on : ℕ → Bool) (a : Answer) (k : ℕ) → unregister_fits a ≡ true → given_by on k a ≡ None
  not_given on (answer.Began g) k e = refl
  not_given on answer.Already k e = refl
  not_given on (answer.Given g) k e = absurd (false≢true e)
  not_given on (answer.Again g) k e = absurd (false≢true e)
  not_given on answer.Shut k e = absurd (false≢true e)
  not_given on answer.NoChannel k e = absurd (false≢true e)
  not_given on answer.Counted k e = absurd (false≢true e)
  not_given on answer.Deferred k e = absurd (false≢true e)
  not_given on answer.Sent k e = absurd (false≢true e)
  not_given on answer.Waited k e = absurd (false≢true e)
  not_given on answer.Started k e = absurd (false≢true e)
  not_given on answer.Closed k e = absurd (false≢true e)

  none_after : (on : ℕ → Bool) (d : ℕ) (past : List Step) (y : Step) → ordinal_given on y ≡ None → held on d past ≡ None → held on d (y ∷ past) ≡ None
  none_after on d past y e h = ap (held_by (destroys on d past y) (held on d past)) e ∙ at (destroys on d past y) (held on d past) h
    where
      at : (b : Bool) (o : Option ℕ) → o ≡ None → cond b None o ≡ None
      at true o g = refl
      at false o g = g

  pub holds_none : (d : ℕ) (h : List Event) → EachFits (AppFits s) h → held (is_on s 0 d) d (past_of h) ≡ None
  holds_none d [] fits = refl
  holds_none d (ran x now ∷ before) fits = none_after (is_on s 0 d) d (past_of before) (step.Ran (length (runs_of before)) x.tag) refl (holds_none d before fits.1)
  holds_none d (did x now ∷ before) fits =
      none_after (is_on s 0 d) d (past_of before) (step.Did (length (dids_of before)) x) (not_given (is_on s 0 d) x.answer x.op (line_parts (past_of before) (length (dids_of before)) x fits.0.fits).unregister) (holds_none d before fits.1)
  holds_none d (called x ∷ before) fits = holds_none d before fits.1
  holds_none d (ended now ∷ before) fits = holds_none d before fits.1

  -- the next device's line doesn't come behind what told that it is shut
  pub stands_open : (h : List Event) (x : Did) → EachFits (AppFits s) h → x.op ≡ length (dids_of h) → AllByRecursion (λ d. (stays_shut s 0 d (past_of h) (step.Did (length (dids_of h)) x)) ≡ true) (images s)
  stands_open h x fits e = each (images s)
    where
      here : (d : ℕ) (b : Bool) → (d == length (dids_of h)) ≡ b → (not (is_on s 0 d x.op && needs_open x.answer) || not (list_any (says (is_on s 0 d) tells_shut) (past_of h))) ≡ true
      here d true same =
          or_right (not (is_on s 0 d x.op && needs_open x.answer)) (not (list_any (says (is_on s 0 d) tells_shut) (past_of h)))
          (ap not (no_line_yet d tells_shut h fits (omega (arith, eqb-true d (length (dids_of h)) same))))
      here d false other = ap (λ b. not (b && needs_open x.answer) || not (list_any (says (is_on s 0 d) tells_shut) (past_of h))) (on_another d x.op (λ g. absurd (eqb-false d (length (dids_of h)) other (sym g ∙ e))))

      each : (ds : List ℕ) → AllByRecursion (λ d. (stays_shut s 0 d (past_of h) (step.Did (length (dids_of h)) x)) ≡ true) ds
      each [] = tt
      each (d ∷ ds) = (here d (d == length (dids_of h)) refl, each ds)

-- where the last messages weren't sent there are none
pub none_last : (h : List Event) → ends_in h ≡ 0 → last_of h ≡ []
none_last [] e = refl
none_last (ran x now ∷ before) e = none_last before e
none_last (did x now ∷ before) e = none_last before e
none_last (called x ∷ before) e = none_last before e
none_last (ended now ∷ before) e = absurd (omega (arith, e))

-- each client is done
pub all_done : (n a : ℕ) (past : List Step) → ((c : ℕ) → c < n → list_any (is_done_of (a + c)) past ≡ true) → list_all (λ c. list_any (is_done_of c) past) (range_with_len a n) ≡ true
all_done zero a past f = refl
all_done (suc n) a past f =
    ap₂ (λ x y. x && y) (ap (λ k. list_any (is_done_of k) past) (omega arith) ∙ f 0 (omega arith))
    (all_done n (a + 1) past (λ c l. ap (λ k. list_any (is_done_of k) past) (omega arith) ∙ f (suc c) (omega (arith, l))))
