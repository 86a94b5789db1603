-- The Stops are asked for, and the poller is removed.
use Rattle.std.proofs.Common.{◌≡◌, ℕ, zero, suc, ◌+◌, nat_lt, ◌==◌, not, true, false, [], ◌∷◌, length, Some, refl, sym, ap, subst, ◌∙◌, arith, inl, inr, Ok, Err}
use Rattle.std.proofs.lemmas.Bool.{lt-ltb, le-ltb, ne_eqb, false≢true}
use Rattle.std.proofs.lemmas.List.{length-append}
use Rattle.std.specs.Prelude.{IfErr}
use Rattle.std.specs.Result.{is_err}
use Rattle.std.specs.declared.result.Result.{Result}
use Rattle.lw_poller.specs.declared.names.PollerRefusal.{PollerRefusal}
use Rattle.lw_poller.specs.Pollers.{Pollers, times, same, active_number, timed_number, resting_number}
use Rattle.lw_poller.specs.Changes.{Removes, IsUnknown}
use Rattle.lw_poller.proofs.Keeping.{fewer}
use Rattle.lw_thread.specs.Acts.{ActsEnd, AllFit}
use Rattle.lw_thread.specs.Calls.{Adds}
use Rattle.lw_thread.proofs.Adding.{adds_same, adds_both}
use Rattle.lw_mail.specs.Runs.{Run}
use Rattle.lw_mail.specs.Fitting.{fits_mail}
use Rattle.lw_mail.specs.declared.mail.Mail.{Mail}
use Rattle.lw_mail.specs.declared.mail.Content.TheVariants as content
use Rattle.lw_passing.specs.Passing.{Asks}
use Rattle.lw_passing.proofs.Asked.{adds_asked}
use Rattle.lw_passing.proofs.Fitting.{asked_fits}
use Rattle.lw_app.specs.Ticking.{StopsTo}

-- what is not changed, and how many sends there are more
pub record IsStopping (n : ℕ) (a b : ActsEnd Mail) : Type 0 where
  pub pending : length b.pending ≡ length a.pending + n
  pub pollers : b.pollers ≡ a.pollers
  pub threads : b.threads ≡ a.threads
  pub ran : b.ran ≡ a.ran

one_asked : (to : ℕ) (a b : ActsEnd Mail) → Asks to content.Stop a b → IsStopping 1 a b
one_asked to a b h = record {
  pending = ap (λ (x : ActsEnd Mail). length x.pending) h.added ∙ length-append a.pending (record { to = to; what = h.waiting } ∷ []);
  pollers = ap (λ (x : ActsEnd Mail). x.pollers) h.added;
  threads = ap (λ (x : ActsEnd Mail). x.threads) h.added;
  ran = ap (λ (x : ActsEnd Mail). x.ran) h.added;
}

pub stops_to : (first n : ℕ) (a b : ActsEnd Mail) → StopsTo first n a b → IsStopping n a b
stops_to first zero a b e = subst (IsStopping 0 a) (sym e) (record { pending = omega arith; pollers = refl; threads = refl; ran = refl })
stops_to first (suc n) a b h =
    let before = stops_to first n a h.0 h.1 in
    let now = one_asked (first + n) h.0 b h.2 in
    record {
      pending = omega (arith, before.pending, now.pending);
      pollers = now.pollers ∙ before.pollers;
      threads = now.threads ∙ before.threads;
      ran = now.ran ∙ before.ran;
    }

pub adds_stops : (first n : ℕ) (a b : ActsEnd Mail) → StopsTo first n a b → Adds a b
adds_stops first zero a b e = adds_same a b e
adds_stops first (suc n) a b h = adds_both a h.0 b (adds_stops first n a h.0 h.1) (adds_asked (first + n) content.Stop h.0 b h.2)

pub stops_fit : (r : Run) (first n : ℕ) (a b : ActsEnd Mail) → StopsTo first n a b → AllFit fits_mail (Some r) a.pending → AllFit fits_mail (Some r) b.pending
stops_fit r first zero a b e all = subst (λ (x : ActsEnd Mail). AllFit fits_mail (Some r) x.pending) (sym e) all
stops_fit r first (suc n) a b h all = asked_fits r (first + n) content.Stop h.0 b h.2 tt (stops_fit r first n a h.0 h.1 all)

-- the one poller that was live is removed, so none is
pub none_left : (number : ℕ) (s t : Pollers) → ((k : ℕ) → times k s ≡ same k number) → Removes number s t → (k : ℕ) → times k t ≡ 0
none_left number s t only (inl h) k = omega (arith, only k, ap (λ (x : Pollers). times k x) h.2, fewer active_number s.active h.0 number k (record { number = 0; paused = false }) h.1)
none_left number s t only (inr (inl h)) k = omega (arith, only k, ap (λ (x : Pollers). times k x) h.2, fewer timed_number s.timed h.0 number k (record { number = 0; period = 0; due = 0 }) h.1)
none_left number s t only (inr (inr h)) k = omega (arith, only k, ap (λ (x : Pollers). times k x) h.2, fewer resting_number s.resting h.0 number k (record { number = 0; period = 0 }) h.1)

-- a live poller is known
pub is_known : {T : Type 0} (r : Result T PollerRefusal) (number : ℕ) (s t : Pollers) → is_err r ≡ true → IfErr r (λ e. IsUnknown number s t e) → times number s ≡ 1 → ⊥
is_known (Ok x) number s t e h one = absurd (false≢true e)
is_known (Err x) number s t e h one = absurd (omega (arith, h.1, one))

-- there are more than before exactly where some were added
pub grew : (n p q : ℕ) → q ≡ p + n → not (n == 0) ≡ nat_lt p q
grew zero p q e = sym (le-ltb p q (omega (arith, e)))
grew (suc n) p q e = ap not (ne_eqb (suc n) 0 (λ z. absurd (omega (arith, z)))) ∙ sym (lt-ltb p q (omega (arith, e)))
