-- A client that is done goes on well.
use Rattle.std.proofs.Common.{◌≡◌, ℕ, ◌+◌, ◌<◌, ◌≤◌, Bool, true, false, cond, List, length, Some, None, refl, sym, ap, subst, ◌∙◌, arith, ⊎_elim, All, inl, inr}
use Rattle.std.specs.Prelude.{◌||◌, nat_lt, slice_index_or, IfOk, OnOk}
use Rattle.std.specs.declared.result.Result.{Result}
use Rattle.std.specs.declared.result.Result.TheVariants.{Ok, Err}
use Rattle.lw_model.specs.declared.record.Answer.TheVariants as answer
use Rattle.std.proofs.lemmas.Bool.{cases_lt, lt-ltb, le-ltb, ltb-true, ltb-false}
use Rattle.std.proofs.lemmas.List.{get_or_past, get_or_default, length_push}
use Rattle.lw_latch.specs.DeviceEnds.{SeatEnd}
use Rattle.lw_device.specs.Rows.{seat_of, no_seat}
use Rattle.lw_channel.specs.Channels.{Channels}
use Rattle.lw_poller.specs.Pollers.{times, same}
use Rattle.lw_thread.specs.Acts.{ActsEnd, AllFit}
use Rattle.lw_thread.proofs.Adding.{adds_change, adds_both, adds_end}
use Rattle.lw_mail.specs.Runs.{Run}
use Rattle.lw_mail.specs.Fitting.{Fits, MayGoIn, fits_mail}
use Rattle.lw_mail.specs.declared.mail.Mail.{Mail}
use Rattle.lw_mail.specs.declared.mail.Content.{Content}
use Rattle.lw_mail.specs.declared.mail.Content.TheVariants as content
use Rattle.lw_passing.proofs.Asked.{adds_asked}
use Rattle.lw_passing.proofs.Fitting.{asked_fits}
use Rattle.lw_client.specs.declared.client.Client.{Client}
use Rattle.lw_client.specs.declared.client.Stage.TheVariants.{Closed, Done}
use Rattle.lw_client.specs.declared.client.Use.{Use}
use Rattle.lw_client.specs.Clients.{IsSound, HasSet, IsOver, Owes, own_poller, waiting_poller, closed_lines, no_use, visits, active}
use Rattle.lw_client.specs.Doing.{State, Becomes}
use Rattle.lw_client.specs.Going.{IsWell, Goes, Lists, lines_of}
use Rattle.lw_client.specs.Turning.{IsThrough, CarriesSet, SendsSet, Tells, Stays, Ends, may_close, closed, told as told_in, has_worked}
use Rattle.lw_client.proofs.Closes.{is_over, closed_not_done, closed_lists}
use Rattle.lw_client.proofs.Devices.{seats_of_registry}
use Rattle.lw_client.proofs.Goes.{lists_quietly, goes_both, well_on, one_more}
use Rattle.lw_client.proofs.May.{has_set, its_set}
use Rattle.lw_client.proofs.Pollers.{times_removed}

carried_fits : (r : Run) (x : Channels) (c : Content) → CarriesSet x c → MayGoIn r x → Fits 0 r c
carried_fits r x (content.Done b) e m = subst (MayGoIn r) (sym e) m
carried_fits r x (content.Request c k) e m = absurd e
carried_fits r x (content.Read c k b) e m = absurd e
carried_fits r x (content.Written k) e m = absurd e
carried_fits r x (content.Filled k b) e m = absurd e
carried_fits r x (content.Flushed k n) e m = absurd e
carried_fits r x (content.PutSelf d) e m = absurd e
carried_fits r x (content.Visit b) e m = absurd e
carried_fits r x (content.Visited b) e m = absurd e
carried_fits r x (content.Cast b) e m = absurd e
carried_fits r x (content.Casted b) e m = absurd e
carried_fits r x content.Stop e m = absurd e

-- what holds of each of its devices holds of each device
none_owed : (us : List Use) → All (λ u. u.owes ≡ false) us → (k : ℕ) → (slice_index_or us k no_use).owes ≡ false
none_owed us all k = ⊎_elim
    (λ (l : k < length us). all k no_use l)
    (λ (l : length us ≤ k). ap (λ (u : Use). u.owes) (get_or_past us k no_use l))
    (cases_lt k (length us))

-- the set may go to the app
module _ (r : Run) (b : Client) (x : Channels) (h : IsSound r b) (t : IsThrough b x) where
  set : HasSet r b.thread (length b.did) b.stage b.waits b.uses x
  set = has_set r b x h t.its

  over : IsOver r.script b.thread b.next b.requests b.waits
  over = is_over r.script b.thread b.next b.requests b.waits b.stage t.closed h.stage

  -- of each seat
  each_seat : (P : SeatEnd → Type 0) → ((d : ℕ) → d < length r.script.images → P (seat_of x.row d)) → All P x.row.seats
  each_seat P all i e l =
      let within : i < length r.script.images = omega (arith, l, seats_of_registry x.row r.registry (length r.script.images) set.registry h.of_run.devices) in
      subst P (get_or_default x.row.seats i no_seat e l) (all i within)

  may_go_in : MayGoIn r x
  may_go_in = record {
    registry = set.registry;
    empty = t.empty;
    free = each_seat (λ e. (e.view.visit ≡ 0) × (e.view.begun ≤ e.view.fired)) (λ d l.
        (let k = set.each d l in
        (k.visit ∙ ap (λ w. cond (visits w d) 1 0) over.none_awaited, subst (λ v. Owes v (seat_of x.row d)) (none_owed b.uses t.none_owed d) k.owes)));
    alone = each_seat (λ e. e.view.seats ≡ 1) (λ d l. (set.each d l).alone);
  }

  sound_told : IsSound r (record b { set = None; stage = Done })
  sound_told = record {
    of_run = h.of_run;
    pool = h.pool;
    pass = h.pass;
    uses = h.uses;
    marks = h.marks;
    within = h.within;
    lines = h.lines ∙ ap (λ g. b.next + closed_lines g) t.closed;
    set = (refl, none_owed b.uses t.none_owed);
    unasked = h.unasked;
    requests = h.requests;
    in_all = h.in_all;
    lent = h.lent;
    awaits = h.awaits;
    stage = over;
  }

module _ (s t : State) where
  pub sends_one_more : (x : Channels) → SendsSet x s.acts t.acts → length t.acts.pending ≡ length s.acts.pending + 1
  sends_one_more x g = ap (λ (a : ActsEnd Mail). length a.pending) g.acts ∙ one_more 0 g.carrier s.acts g.between g.sent

  tells_goes : (x : Channels) → Tells x s t → Goes s t
  tells_goes x g =
      let q = g.sends in
      record {
        well = λ r w. record {
          sound = subst (IsSound r) (sym g.body) (sound_told r s.body x w.sound g.through);
          pollers = λ n.
              (let removed = times_removed active q.between.pollers t.acts.pollers q.removed n in
              let before = ap (λ (a : ActsEnd Mail). times n a.pollers) q.sent.added in
              let live = w.pollers n in
              let was = ap (λ v. own_poller v n) g.through.closed in
              let now = ap (λ (y : Client). own_poller y.stage n) g.body in
              let waiting = ap (λ (y : Client). waiting_poller y.waits n) g.body in
              omega (arith, removed, before, live, was, now, waiting));
          threads = ap (λ (a : ActsEnd Mail). a.threads) q.acts ∙ ap (λ (a : ActsEnd Mail). a.threads) q.sent.added ∙ w.threads;
        };
        fits = λ r w all. subst (AllFit fits_mail (Some r)) (sym (ap (λ (a : ActsEnd Mail). a.pending) q.acts)) (asked_fits r 0 q.carrier s.acts q.between q.sent (carried_fits r x q.carrier q.set (may_go_in r s.body x w.sound g.through)) all);
        adds =
            let ps = t.acts.pollers in
            let mid : ActsEnd Mail = record q.between { pollers = ps } in
            adds_both s.acts q.between t.acts (adds_asked 0 q.carrier s.acts q.between q.sent)
            (adds_both q.between mid t.acts (adds_change q.between mid refl (inr (inr (inr (inr (active, q.removed)))))) (adds_end mid t.acts q.acts));
        thread = ap (λ (y : Client). y.thread) g.body;
        lines = omega (arith, ap (λ (y : Client). length y.did) g.body, ap (λ (y : Client). length y.called) g.body);
        sends = (let m = sends_one_more x q in omega (arith, m));
      }

  pub ends_goes : Ends s t → Goes s t
  ends_goes e = ⊎_elim
      (λ (g : (x : Channels) × Tells x s t). tells_goes g.0 g.1)
      (λ (g : Stays s.body × Becomes s.body s t). (lists_quietly s t
      (λ r w. well_on r s t w (subst (IsSound r) (sym g.1.0) w.sound) (ap (λ (x : ActsEnd Mail). x.pollers) g.1.1) (ap (λ (x : ActsEnd Mail). x.threads) g.1.1) (ap (λ (x : Client). x.stage) g.1.0) (λ n. ap (λ (x : Client). waiting_poller x.waits n) g.1.0))
      g.1.1 (omega (arith, ap (λ (x : Client). length x.did) g.1.0, ap (λ (x : Client). length x.called) g.1.0)) (ap (λ (x : Client). x.thread) g.1.0)).goes)
      e

-- a client that closed has its set, and its poller is live
pub closed_set : (r : Run) (s : State) → IsWell r s → s.body.stage ≡ Closed → (x : Channels) × (s.body.set ≡ Some x)
closed_set r s w e =
    let b = s.body in
    let x = its_set r b.thread (length b.did) b.stage b.waits b.uses b.set (closed_not_done b.stage e) w.sound.set in
    (x.0, x.1)

pub closed_live : (r : Run) (s : State) → IsWell r s → s.body.stage ≡ Closed → 1 ≤ times active s.acts.pollers
closed_live r s w e =
    let live = w.pollers active in
    let own = ap (λ g. own_poller g active) e in
    omega (arith, live, own)

-- what the answer says, whether it told the app
module _ {E : Type 0} (s t : State) where
  pub end_goes : (q : Result Bool E) → IfOk q (λ told. told ≡ true → (x : Channels) × Tells x s t) → IfOk q (λ told. told ≡ false → Stays s.body × (t.body ≡ s.body) × (t.acts ≡ s.acts)) → OnOk q (Goes s t)
  end_goes (Ok true) f g = let x = f refl in ends_goes s t (inl (x.0, x.1))
  end_goes (Ok false) f g = let x = g refl in ends_goes s t (inr (x.0, (x.1, x.2)))
  end_goes (Err e) f g = tt

  pub end_lines : (q : Result Bool E) → IfOk q (λ told. told ≡ true → (x : Channels) × Tells x s t) → IfOk q (λ told. told ≡ false → Stays s.body × (t.body ≡ s.body) × (t.acts ≡ s.acts)) → OnOk q ((length t.body.did ≡ length s.body.did) × (length t.body.called ≡ length s.body.called))
  end_lines (Ok true) f g = let x = f refl in (ap (λ (y : Client). length y.did) x.1.body, ap (λ (y : Client). length y.called) x.1.body)
  end_lines (Ok false) f g = let x = g refl in (ap (λ (y : Client). length y.did) x.1, ap (λ (y : Client). length y.called) x.1)
  end_lines (Err e) f g = tt

  pub end_told : (q : Result Bool E) → IfOk q (λ told. told ≡ true → (x : Channels) × Tells x s t) → IfOk q (λ told. told ≡ true → length t.acts.pending ≡ length s.acts.pending + 1)
  end_told (Ok told) f = λ e. (let x = f e in sends_one_more s t x.0 x.1.sends)
  end_told (Err e) f = tt

-- a close lists its line
pub closing_lists : (s t : State) → may_close s.body ≡ true → Goes (record { body = closed s.acts.ran s.body; acts = s.acts }) t → Lists s t
closing_lists s t e g =
    let m : State = record { body = closed s.acts.ran s.body; acts = s.acts } in
    let first = closed_lists s e in
    let longer = length_push s.body.did (record { at = s.acts.ran; op = s.body.next; answer = answer.Closed }) in
    let lines = g.lines in
    record { goes = goes_both s m t first.goes g; with_line = λ same. absurd (omega (arith, longer, lines, same)) }

-- it has worked where it listed a line or told the app
pub works : (s c t : State) (listed told : Bool) → Lists s c → listed ≡ nat_lt (lines_of s) (lines_of c) → (length t.body.did ≡ length c.body.did) × (length t.body.called ≡ length c.body.called) → length c.acts.pending ≤ length t.acts.pending
    → (told ≡ true → length t.acts.pending ≡ length c.acts.pending + 1) → (told ≡ false → t.acts ≡ c.acts) → (listed || told) ≡ has_worked s t
works s c t true told l is same more one none =
    let less = ltb-true (lines_of s) (lines_of c) (sym is) in
    let sends = l.goes.sends in
    sym (lt-ltb (told_in s) (told_in t) (omega (arith, less, same.0, same.1, more, sends)))
works s c t false true l is same more one none =
    let o = one refl in
    let sends = l.goes.sends in
    let lines = l.goes.lines in
    sym (lt-ltb (told_in s) (told_in t) (omega (arith, o, lines, same.0, same.1, sends)))
works s c t false false l is same more one none =
    let n = ap (λ (a : ActsEnd Mail). length a.pending) (none refl) in
    let equal : lines_of c ≡ lines_of s = (let le = ltb-false (lines_of s) (lines_of c) (sym is) in let lines = l.goes.lines in omega (arith, le, lines)) in
    let sends = l.with_line equal in
    sym (le-ltb (told_in s) (told_in t) (omega (arith, n, equal, sends, same.0, same.1)))
