-- How the parts of a call follow one another, and what each kind of part keeps.
use Rattle.std.proofs.Common.{◌≡◌, ℕ, ◌+◌, ◌≤◌, length, Some, refl, sym, ap, subst, ◌∙◌, arith}
use Rattle.std.specs.Prelude.{OnOk}
use Rattle.std.specs.declared.result.Result.{Result}
use Rattle.std.specs.declared.result.Result.TheVariants.{Ok, Err}
use Rattle.std.proofs.lemmas.List.{length_push}
use Rattle.lw_poller.specs.Pollers.{Pollers, times}
use Rattle.lw_thread.specs.Acts.{ActsEnd, AllFit}
use Rattle.lw_thread.specs.Calls.{Adds}
use Rattle.lw_thread.proofs.Adding.{adds_none, adds_same, adds_both}
use Rattle.lw_mail.specs.Runs.{Run}
use Rattle.lw_mail.specs.Fitting.{Fits, fits_mail}
use Rattle.lw_mail.specs.declared.mail.Mail.{Mail}
use Rattle.lw_mail.specs.declared.mail.Content.{Content}
use Rattle.lw_passing.specs.Passing.{Asks}
use Rattle.lw_passing.proofs.Asked.{adds_asked}
use Rattle.lw_passing.proofs.Fitting.{asked_fits}
use Rattle.lw_client.specs.Clients.{IsSound, own_poller, waiting_poller}
use Rattle.lw_client.specs.Doing.{State}
use Rattle.lw_client.specs.Going.{IsWell, Goes, Lists, lines_of}

pub goes_none : (s : State) → Goes s s
goes_none s = record { well = λ r h. h; fits = λ r h all. all; adds = adds_none s.acts; thread = refl; lines = omega arith; sends = omega arith }

pub goes_both : (s m t : State) → Goes s m → Goes m t → Goes s t
goes_both s m t g h = record {
  well = λ r w. h.well r (g.well r w);
  fits = λ r w all. h.fits r (g.well r w) (g.fits r w all);
  adds = adds_both s.acts m.acts t.acts g.adds h.adds;
  thread = h.thread ∙ g.thread;
  lines = omega (arith, g.lines, h.lines);
  sends = omega (arith, g.sends, h.sends);
}

pub lists_none : (s : State) → Lists s s
unfolding goes_none
lists_none s = record { goes = goes_none s; with_line = λ e. refl }

pub lists_both : (s m t : State) → Lists s m → Lists m t → Lists s t
unfolding goes_both
lists_both s m t g h = record {
  goes = goes_both s m t g.goes h.goes;
  with_line = λ e.
      (let a = g.goes.lines in
      let b = h.goes.lines in
      let x = g.with_line (omega (arith, a, b, e)) in
      let y = h.with_line (omega (arith, a, b, e)) in
      omega (arith, x, y));
}

-- the acts stay
pub lists_quietly : (s t : State) → ((r : Run) → IsWell r s → IsWell r t) → t.acts ≡ s.acts → lines_of s ≤ lines_of t → t.body.thread ≡ s.body.thread → Lists s t
lists_quietly s t well same more thread = record {
  goes = record {
    well = well;
    fits = λ r w all. subst (AllFit fits_mail (Some r)) (sym (ap (λ (a : ActsEnd Mail). a.pending) same)) all;
    adds = adds_same s.acts t.acts same;
    thread = thread;
    lines = more;
    sends = omega (arith, ap (λ (a : ActsEnd Mail). length a.pending) same);
  };
  with_line = λ e. ap (λ (a : ActsEnd Mail). length a.pending) same;
}

-- one send is one more
pub one_more : (to : ℕ) (c : Content) (old new : ActsEnd Mail) → Asks to c old new → length new.pending ≡ length old.pending + 1
one_more to c old new h = ap (λ (a : ActsEnd Mail). length a.pending) h.added ∙ length_push old.pending (record { to = to; what = h.waiting })

-- one send is asked for
pub goes_asking : (s t : State) (to : ℕ) (c : Content) → ((r : Run) → IsWell r s → IsWell r t) → Asks to c s.acts t.acts → ((r : Run) → IsWell r s → Fits to r c) → lines_of s ≤ lines_of t → t.body.thread ≡ s.body.thread → Goes s t
goes_asking s t to c well h fit more thread = record {
  well = well;
  fits = λ r w all. asked_fits r to c s.acts t.acts h (fit r w) all;
  adds = adds_asked to c s.acts t.acts h;
  thread = thread;
  lines = more;
  sends = (let o = one_more to c s.acts t.acts h in omega (arith, o));
}

-- with a line
pub lists_asking : (s t : State) (to : ℕ) (c : Content) → ((r : Run) → IsWell r s → IsWell r t) → Asks to c s.acts t.acts → ((r : Run) → IsWell r s → Fits to r c) → lines_of s + 1 ≤ lines_of t → t.body.thread ≡ s.body.thread → Lists s t
unfolding goes_asking
lists_asking s t to c well h fit more thread = record { goes = goes_asking s t to c well h fit (omega (arith, more)) thread; with_line = λ e. absurd (omega (arith, e, more)) }

-- the pollers change, and nothing is listed or sent
pub lists_polling : (s t : State) (ps : Pollers) → ((r : Run) → IsWell r s → IsWell r t) → t.acts ≡ record s.acts { pollers = ps } → Adds s.acts t.acts → lines_of s ≤ lines_of t → t.body.thread ≡ s.body.thread → Lists s t
lists_polling s t ps well same adds more thread = record {
  goes = record {
    well = well;
    fits = λ r w all. subst (AllFit fits_mail (Some r)) (sym (ap (λ (a : ActsEnd Mail). a.pending) same)) all;
    adds = adds;
    thread = thread;
    lines = more;
    sends = omega (arith, ap (λ (a : ActsEnd Mail). length a.pending) same);
  };
  with_line = λ e. ap (λ (a : ActsEnd Mail). length a.pending) same;
}

-- where the pollers stay, it stays well if it stays sound
pub well_on : (r : Run) (s t : State) → IsWell r s → IsSound r t.body → t.acts.pollers ≡ s.acts.pollers → t.acts.threads ≡ s.acts.threads → t.body.stage ≡ s.body.stage → ((n : ℕ) → waiting_poller t.body.waits n ≡ waiting_poller s.body.waits n) → IsWell r t
well_on r s t w sound pollers threads stage waits = record {
  sound = sound;
  pollers = λ n.
      (let live = w.pollers n in
      let now = ap (times n) pollers in
      let own = ap (λ g. own_poller g n) stage in
      let wait = waits n in
      omega (arith, live, now, own, wait));
  threads = threads ∙ w.threads;
}

-- what holds of a call that succeeds
pub on_ok : {T E A B : Type 0} (r : Result T E) → (A → B) → OnOk r A → OnOk r B
on_ok (Ok x) f h = f h
on_ok (Err e) f h = tt
