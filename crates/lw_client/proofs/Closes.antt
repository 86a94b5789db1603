-- A client that closes, and one that is done, goes on well.
use Rattle.std.proofs.Common.{◌≡◌, ℕ, ◌+◌, ◌<◌, ◌≤◌, ◌==◌, ◌&&◌, true, length, Option, Some, None, refl, sym, ap, subst, ◌∙◌, arith, ⊎_elim, length-set}
use Rattle.std.specs.Prelude.{slice_set, is_none}
use Rattle.std.specs.Arc.{arc_value}
use Rattle.std.proofs.lemmas.List.{length_push}
use Rattle.std.proofs.lemmas.Bool.{and_parts, eqb-true, true≢false}
use Rattle.lw_model.specs.declared.record.Answer.TheVariants as answer
use Rattle.lw_model.specs.declared.script.Op.{Op}
use Rattle.lw_model.specs.Threads.{op_at, ops_of}
use Rattle.lw_device.specs.Rows.{seat_of}
use Rattle.lw_channel.specs.Channels.{Channels, channel_of, channel_given_back, with_channel}
use Rattle.lw_thread.specs.Acts.{ActsEnd}
use Rattle.lw_mail.specs.Runs.{Run}
use Rattle.lw_mail.specs.declared.mail.Mail.{Mail}
use Rattle.lw_mail.specs.declared.mail.Content.TheVariants as content
use Rattle.lw_client.specs.declared.client.Client.{Client}
use Rattle.lw_client.specs.declared.client.Stage.{Stage}
use Rattle.lw_client.specs.declared.client.Stage.TheVariants.{Runs, Closed, Done}
use Rattle.lw_client.specs.declared.client.Use.{Use}
use Rattle.lw_client.specs.declared.client.Waits.{Waits}
use Rattle.lw_client.specs.declared.client.Waits.TheVariants as waits
use Rattle.lw_client.specs.Clients.{IsSound, SetFits, IsOver, StageFits, own_poller, waiting_poller, closed_lines, on_image, any_op, use_of, no_use, visits}
use Rattle.lw_client.specs.Doing.{State, use_deferred}
use Rattle.lw_client.specs.Going.{IsWell, Goes, Lists}
use Rattle.lw_client.specs.Turning.{may_close, is_running, is_free, closed, GivesBack, GivesAll, GivesNone}
use Rattle.lw_client.specs.Using.{MayGive}
use Rattle.lw_client.proofs.Changes.{given_back}
use Rattle.lw_client.proofs.Does.{asked_pollers, asked_threads}
use Rattle.lw_client.proofs.Facts.{is_past}
use Rattle.lw_client.proofs.Goes.{lists_quietly, goes_asking, well_on}
use Rattle.lw_client.proofs.Listed.{set_longer}
use Rattle.lw_client.proofs.Lists.{reads_set}
use Rattle.lw_client.proofs.May.{has_set, its_set, client_is_thread, on_image_one}
use Rattle.lw_client.proofs.Sound.{channel_on}
use Rattle.lw_client.proofs.Stays.{devices_on}
use Rattle.lw_client.proofs.Steps.{requests_kept}
use Rattle.lw_client.proofs.Weighing.{weigh_below}

-- once it has closed, no request of an image is unanswered
pub none_at : (r : Run) (b : Client) (d : ℕ) → IsSound r b → b.requests ≡ 0 → d < length r.script.images → (use_of b d).requests ≡ 0
none_at r b d h none l =
    let below = weigh_below (on_image r.script b.thread d) any_op b.unanswered (on_image_one r.script b.thread d) in
    omega (arith, h.requests d l, below, h.in_all, none)

pub is_over : (s : _) (thread next requests : ℕ) (w : Waits) (stage : Stage) → stage ≡ Closed → StageFits s thread next requests w stage → IsOver s thread next requests w
is_over s thread next requests w stage e h = subst (StageFits s thread next requests w) e h

pub closed_not_done : (stage : Stage) → stage ≡ Closed → stage ≡ Done → ⊥
closed_not_done stage e f = absurd (cc)

-- It may give back what it holds of a device.
pub may_give : (r : Run) (s : State) (d : ℕ) → IsWell r s → s.body.stage ≡ Closed → d < length s.body.uses → MayGive s.acts.threads d s.body
may_give r s d w e l =
    let b = s.body in
    let h = w.sound in
    let within : d < length r.script.images = omega (arith, l, h.uses) in
    let set = its_set r b.thread (length b.did) b.stage b.waits b.uses b.set (closed_not_done b.stage e) h.set in
    let k = set.2.each d within in
    let over = is_over r.script b.thread b.next b.requests b.waits b.stage e h.stage in
    let lines : length b.did ≡ b.next + 1 = h.lines ∙ ap (λ g. b.next + closed_lines g) e in
    record {
      set = set.0;
      its = set.1;
      uses = l;
      puts = omega (arith, k.balance, k.few_gets, lines, over.all_done, h.of_run.few_ops);
      self = omega (arith, client_is_thread r.script b.thread h.of_run.client, w.threads);
    }

module _ (d : ℕ) (s t : State) where
  sound_given : (r : Run) (x : Channels) → IsSound r s.body → s.body.stage ≡ Closed → d < length s.body.uses → s.body.set ≡ Some x → GivesAll d x s t → IsSound r t.body
  sound_given r x h e l its g =
      let b = s.body in
      let within : d < length r.script.images = omega (arith, l, h.uses) in
      let set = has_set r b x h its in
      let u : Use = use_deferred (use_of b d) in
      let over = is_over r.script b.thread b.next b.requests b.waits b.stage e h.stage in
      subst (IsSound r) (sym g.body) (devices_on r b h (Some (with_channel x d channel_given_back)) (slice_set b.uses d u) b.called (length-set b.uses d u)
      (channel_on r b x d (length b.did) (omega arith) set h.of_run.devices within channel_given_back (slice_set b.uses d u) u (reads_set no_use d b.uses u l)
      (given_back b.thread (length b.did) (visits b.waits d) (channel_of x d) (seat_of x.row d) (use_of b d) (set.each d within) (none_at r b d h over.none_unanswered within) g.referenced))
      (requests_kept d b.uses u l refl))

  pub gives_goes : s.body.stage ≡ Closed → d < length s.body.uses → GivesBack d s t → Goes s t
  gives_goes e l g = ⊎_elim
      (λ (q : GivesAll d g.0 s t). goes_asking s t s.body.thread (content.PutSelf d)
      (λ r w. well_on r s t w (sound_given r g.0 w.sound e l g.1 q) (asked_pollers s.body.thread (content.PutSelf d) s.acts t.acts q.sent) (asked_threads s.body.thread (content.PutSelf d) s.acts t.acts q.sent)
      (ap (λ (x : Client). x.stage) q.body) (λ n. ap (λ (x : Client). waiting_poller x.waits n) q.body))
      q.sent (λ r w. tt) (omega (arith, ap (λ (x : Client). length x.did) q.body, ap (λ (x : Client). length x.called) q.body)) (ap (λ (x : Client). x.thread) q.body))
      (λ (q : GivesNone d g.0 s t). (lists_quietly s t
      (λ r w. well_on r s t w (subst (IsSound r) (sym q.1.0) w.sound) (ap (λ (x : ActsEnd Mail). x.pollers) q.1.1) (ap (λ (x : ActsEnd Mail). x.threads) q.1.1) (ap (λ (x : Client). x.stage) q.1.0) (λ n. ap (λ (x : Client). waiting_poller x.waits n) q.1.0))
      q.1.1 (omega (arith, ap (λ (x : Client). length x.did) q.1.0, ap (λ (x : Client). length x.called) q.1.0)) (ap (λ (x : Client). x.thread) q.1.0)).goes)
      g.2

  pub stage_given : GivesBack d s t → t.body.stage ≡ s.body.stage
  stage_given g = ⊎_elim
      (λ (q : GivesAll d g.0 s t). ap (λ (x : Client). x.stage) q.body)
      (λ (q : GivesNone d g.0 s t). ap (λ (x : Client). x.stage) q.1.0)
      g.2

  pub did_given : GivesBack d s t → length t.body.did ≡ length s.body.did
  did_given g = ⊎_elim
      (λ (q : GivesAll d g.0 s t). ap (λ (x : Client). length x.did) q.body)
      (λ (q : GivesNone d g.0 s t). ap (λ (x : Client). length x.did) q.1.0)
      g.2

-- what a client that may close is
record MayClose (b : Client) : Type 0 where
  pub runs : b.stage ≡ Runs
  pub none_left : op_at (arc_value b.script) b.thread b.next ≡ None
  pub none_unanswered : b.requests ≡ 0
  pub free : b.waits ≡ waits.Nothing

running : (g : Stage) → is_running g ≡ true → g ≡ Runs
running Runs e = refl
running Closed e = absurd (true≢false (sym e))
running Done e = absurd (true≢false (sym e))

nothing : (w : Waits) → is_free w ≡ true → w ≡ waits.Nothing
nothing waits.Nothing e = refl
nothing (waits.Timer p k) e = absurd (true≢false (sym e))
nothing (waits.Visit k d) e = absurd (true≢false (sym e))
nothing (waits.Cast k) e = absurd (true≢false (sym e))

none : (o : Option Op) → is_none o ≡ true → o ≡ None
none None e = refl
none (Some x) e = absurd (true≢false (sym e))

may_close_is : (b : Client) → may_close b ≡ true → MayClose b
may_close_is b e =
    let last = is_none (op_at (arc_value b.script) b.thread b.next) in
    let p = and_parts (is_running b.stage && last && b.requests == 0) (is_free b.waits) e in
    let q = and_parts (is_running b.stage && last) (b.requests == 0) p.0 in
    let o = and_parts (is_running b.stage) last q.0 in
    record { runs = running b.stage o.0; none_left = none (op_at (arc_value b.script) b.thread b.next) o.1; none_unanswered = eqb-true b.requests 0 q.1; free = nothing b.waits p.1 }

-- the line is listed
pub closed_lists : (s : State) → may_close s.body ≡ true → Lists s (record { body = closed s.acts.ran s.body; acts = s.acts })
closed_lists s e = lists_quietly s (record { body = closed s.acts.ran s.body; acts = s.acts }) well refl (omega (arith, longer)) refl
  where
    c : MayClose s.body
    c = may_close_is s.body e

    longer : length (closed s.acts.ran s.body).did ≡ length s.body.did + 1
    longer = length_push s.body.did (record { at = s.acts.ran; op = s.body.next; answer = answer.Closed })

    set : (r : Run) (o : Option Channels) → SetFits r s.body.thread (length s.body.did) s.body.stage s.body.waits s.body.uses o → SetFits r s.body.thread (length (closed s.acts.ran s.body).did) Closed s.body.waits s.body.uses o
    set r None f = absurd (let wrong : Runs ≡ Done = sym c.runs ∙ f.0 in cc)
    set r (Some x) f =
        let g = set_longer r s.body.thread (length s.body.did) (length (closed s.acts.ran s.body).did) s.body.stage s.body.waits s.body.waits s.body.uses x (λ i. refl) (omega (arith, longer)) f in
        record { not_done = refl; registry = g.registry; devices = g.devices; each = g.each }

    well : (r : Run) → IsWell r s → IsWell r (record { body = closed s.acts.ran s.body; acts = s.acts })
    well r w =
        let h = w.sound in
        let b = s.body in
        let past : length (ops_of r.script b.thread) ≤ b.next = is_past (ops_of r.script b.thread) b.next (subst (λ x. op_at x b.thread b.next ≡ None) h.of_run.script_is c.none_left) in
        let lines : length b.did ≡ b.next + 0 = h.lines ∙ ap (λ g. b.next + closed_lines g) c.runs in
        record {
          sound = record {
            of_run = h.of_run;
            pool = h.pool;
            pass = h.pass;
            uses = h.uses;
            marks = h.marks;
            within = h.within;
            lines = omega (arith, longer, lines);
            set = set r b.set h.set;
            unasked = h.unasked;
            requests = h.requests;
            in_all = h.in_all;
            lent = h.lent;
            awaits = h.awaits;
            stage = record { all_done = omega (arith, past, h.within); none_unanswered = c.none_unanswered; none_awaited = c.free };
          };
          pollers = λ n. w.pollers n ∙ ap (λ g. own_poller g n + waiting_poller b.waits n) c.runs;
          threads = w.threads;
        }
