-- What the calls of a client's body keep.
use Rattle.std.proofs.Common.{◌≡◌, ℕ, List, [], ◌∷◌, ◌++◌, length, sym, ap, subst, ◌∙◌, arith, ⊎_elim, inl, inr}
use Rattle.std.proofs.lemmas.List.Elements.{All-nil}
use Rattle.lw_base.specs.Letters.{FitsRing}
use Rattle.lw_poller.specs.Pollers.{times}
use Rattle.lw_thread.specs.Acts.{Known, Asks, Post, AllFit, and_run, asks_of, letters}
use Rattle.lw_thread.specs.Calls.{Adds}
use Rattle.lw_whole.specs.Letters.{Letter}
use Rattle.lw_mail.specs.Runs.{Run}
use Rattle.lw_mail.specs.Saying.{letter_of}
use Rattle.lw_mail.specs.Fitting.{Fits, fits_mail}
use Rattle.lw_mail.specs.declared.mail.Mail.{Mail}
use Rattle.lw_client.specs.declared.client.Client.{Client}
use Rattle.lw_client.specs.Clients.{AreLive, NoneLive, own_poller}
use Rattle.lw_client.specs.Doing.{State}
use Rattle.lw_client.specs.Going.{IsWell, Goes}
use Rattle.lw_client.specs.Handling.{Handles, Returns}
use Rattle.lw_client.specs.Keeping.{Keeps}
use Rattle.lw_client.proofs.Handled.{Kept, handled, returned}

-- a client that stays sound keeps what it kept, whatever its thread has run and is to send
still_keeps : (k : Known Letter Run) (ran : List Letter) (ps qs : List (Post Letter)) (s t : State) (h : Keeps k (record { live = λ n. times n s.acts.pollers; pending = ps }) s.body) → Kept h.run s t
    → Keeps (record k { ran = ran }) (record { live = λ n. times n t.acts.pollers; pending = qs }) t.body
still_keeps k ran ps qs s t h g = record {
  run = h.run;
  family = h.family;
  number = h.number ∙ sym g.thread;
  threads = h.threads;
  sound = g.sound;
  pollers = ⊎_elim
      (λ (live : AreLive (λ n. times n s.acts.pollers) s.body.stage s.body.waits). inl (λ n.
      (let now = ap (times n) g.pollers in
      let before = live n in
      let own = ap (λ v. own_poller v n) g.stage in
      let wait = g.waits n in
      omega (arith, now, before, own, wait))))
      (λ (none : NoneLive (λ n. times n s.acts.pollers) s.body.waits). inr ((λ n. ap (times n) g.pollers ∙ none.0 n), (λ n. g.waits n ∙ none.1 n)))
      h.pollers;
}

-- the message fits the run that the client is of
fits_ring : (k : Known Letter Run) (a : Asks Letter) (b : Client) (to : ℕ) (m : Mail) (h : Keeps k a b) → FitsRing fits_mail to k.family m → Fits to h.run m.content
fits_ring k a b to m h f = subst (λ x. FitsRing fits_mail to x m) h.family f

module _ (m : Mail) (s t : State) (k : Known Letter Run) (ring : FitsRing fits_mail k.thread k.family m) (h : Keeps k (asks_of letter_of s.acts) s.body) (g : Handles m s t) where
  run_kept : Kept h.run s t
  run_kept = handled h.run s t m h.sound (subst (λ n. Fits n h.run m.content) h.number (fits_ring k (asks_of letter_of s.acts) s.body k.thread m h ring)) g

  pub keeps_run : Keeps (and_run k (letter_of m)) (asks_of letter_of t.acts) t.body
  keeps_run = still_keeps k (k.ran ++ letter_of m ∷ []) (letters letter_of s.acts.pending) (letters letter_of t.acts.pending) s t h run_kept

  pub adds_run : Adds s.acts t.acts
  adds_run = run_kept.adds

  pub fits_run : AllFit fits_mail k.family s.acts.pending → AllFit fits_mail k.family t.acts.pending
  fits_run all = subst (λ f. AllFit fits_mail f t.acts.pending) (sym h.family) (run_kept.fits (subst (λ f. AllFit fits_mail f s.acts.pending) h.family all))

module _ (to : ℕ) (m : Mail) (s t : State) (k : Known Letter Run) (ps : List (Post Letter)) (ring : FitsRing fits_mail to k.family m) (h : Keeps k (record { live = λ n. times n s.acts.pollers; pending = ps }) s.body) (g : Returns to m s t) where
  back_kept : Kept h.run s t
  back_kept = returned h.run s t to m h.sound (fits_ring k (record { live = λ n. times n s.acts.pollers; pending = ps }) s.body to m h ring) g

  pub keeps_back : (qs : List (Post Letter)) → Keeps k (record { live = λ n. times n t.acts.pollers; pending = qs }) t.body
  keeps_back qs = still_keeps k k.ran ps qs s t h back_kept

  pub adds_back : Adds s.acts t.acts
  adds_back = back_kept.adds

  pub fits_back : AllFit fits_mail k.family s.acts.pending → AllFit fits_mail k.family t.acts.pending
  fits_back all = subst (λ f. AllFit fits_mail f t.acts.pending) (sym h.family) (back_kept.fits (subst (λ f. AllFit fits_mail f s.acts.pending) h.family all))

-- a client whose poller is called has its pollers
pub well_called : (number : ℕ) (s : State) (k : Known Letter Run) (h : Keeps k (asks_of letter_of s.acts) s.body) → times number s.acts.pollers ≡ 1 → s.acts.threads ≡ length k.sent → IsWell h.run s
well_called number s k h live threads = record {
  sound = h.sound;
  pollers = ⊎_elim
      (λ (l : AreLive (λ n. times n s.acts.pollers) s.body.stage s.body.waits). l)
      (λ (none : NoneLive (λ n. times n s.acts.pollers) s.body.waits). absurd (let z = none.0 number in omega (arith, z, live)))
      h.pollers;
  threads = threads ∙ h.threads;
}

pub keeps_called : (number : ℕ) (s t : State) (k : Known Letter Run) → Keeps k (asks_of letter_of s.acts) s.body → times number s.acts.pollers ≡ 1 → s.acts.threads ≡ length k.sent → Goes s t → Keeps k (asks_of letter_of t.acts) t.body
keeps_called number s t k h live threads g =
    let w = g.well h.run (well_called number s k h live threads) in
    record { run = h.run; family = h.family; number = h.number ∙ sym g.thread; threads = h.threads; sound = w.sound; pollers = inl w.pollers }

pub fits_called : (number : ℕ) (s t : State) (k : Known Letter Run) → Keeps k (asks_of letter_of s.acts) s.body → times number s.acts.pollers ≡ 1 → s.acts.threads ≡ length k.sent → Goes s t → AllFit fits_mail k.family s.acts.pending → AllFit fits_mail k.family t.acts.pending
fits_called number s t k h live threads g all = subst (λ f. AllFit fits_mail f t.acts.pending) (sym h.family) (g.fits h.run (well_called number s k h live threads) (subst (λ f. AllFit fits_mail f s.acts.pending) h.family all))

-- of no sends each fits
pub none_fit : (k : Known Letter Run) (ps : List (Post Mail)) → ps ≡ [] → AllFit fits_mail k.family ps
none_fit k ps e = subst (AllFit fits_mail k.family) (sym e) (All-nil (λ (p : Post Mail). FitsRing fits_mail p.to k.family p.what))
