-- A client that does an op stays sound.
use Rattle.std.proofs.Common.{◌≡◌, ◌≢◌, ℕ, ◌+◌, ◌<◌, ◌≤◌, ◌==◌, true, false, cond, List, length, Option, Some, None, get_or, set, refl, sym, ap, subst, ◌∙◌, arith, length-set, ⊎_elim}
use Rattle.std.specs.Prelude.{slice_index_or, slice_set}
use Rattle.std.proofs.lemmas.Bool.Decides.{eqb_tells}
use Rattle.std.proofs.lemmas.List.{get_or-set_other, get_or-set_same}
use Rattle.lw_model.specs.declared.record.Answer.{Answer}
use Rattle.lw_model.specs.declared.record.Answer.TheVariants as answer
use Rattle.lw_model.specs.Threads.{op_at}
use Rattle.lw_pool.specs.declared.class.Class.{Class}
use Rattle.lw_pool.specs.declared.class.Class.TheVariants.{Small, Large}
use Rattle.lw_pool.specs.PoolEnds.{PoolEnd, taken_of, given_of, with_taken}
use Rattle.lw_device.specs.Rows.{seat_of, seat_visiting, seat_found, seat_began}
use Rattle.lw_channel.specs.Channels.{Channels, channel_of, with_channel, with_row, channel_counted, channel_deferred, channel_submitted}
use Rattle.lw_mail.specs.Runs.{Run}
use Rattle.lw_client.specs.declared.client.Client.{Client}
use Rattle.lw_client.specs.declared.client.Waits.{Waits}
use Rattle.lw_client.specs.declared.client.Waits.TheVariants as waits
use Rattle.lw_client.specs.declared.client.Use.{Use}
use Rattle.lw_ops.specs.declared.task.Task.{Task}
use Rattle.lw_ops.specs.declared.task.Task.TheVariants as task
use Rattle.lw_ops.specs.Answering.{IsPut, IsBegun}
use Rattle.lw_client.specs.Clients.{IsSound, HasSet, SetFits, KeepsDevice, WaitsFor, StageFits, on_image, any_op, lends, is_class, weigh, use_of, no_use, visits, active}
use Rattle.lw_poller.specs.Pollers.{times}
use Rattle.lw_client.specs.Doing.{State, Does, Gets, Puts, Gives, Unregisters, with_answer, SendsPlain, SendsRead, Refuses, StartsVisit, FindsShut, StartsCast, listed, with_set, asked, use_asked, use_deferred, use_owing}
use Rattle.lw_client.proofs.Lists.{reads_set, reads_same, at_or_other}
use Rattle.lw_client.proofs.Changes.{counted, deferred, found, begun, submitted, visiting}
use Rattle.lw_client.proofs.Facts.{task_image, image_is, in_images, is_on_its, task_lends, lends_is, is_wait, is_visit, is_each}
use Rattle.lw_client.proofs.Listed.{listed_on, listed_plain, set_longer}
use Rattle.lw_client.proofs.Sound.{channel_on, row_on, set_got}
use Rattle.lw_client.proofs.May.{Next, has_set}
use Rattle.lw_client.proofs.Weighing.{weigh_mark}

pub not_same : (d i : ℕ) → i ≢ d → (d == i) ≡ false
not_same d i other = ⊎_elim
    (λ (h : ((d == i) ≡ true) × (d ≡ i)). absurd (other (sym h.1)))
    (λ (h : ((d == i) ≡ false) × (d ≢ i)). h.0)
    (eqb_tells d i)

pub same_self : (d : ℕ) → (d == d) ≡ true
same_self d = ⊎_elim
    (λ (h : ((d == d) ≡ true) × (d ≡ d)). h.0)
    (λ (h : ((d == d) ≡ false) × (d ≢ d)). absurd (h.1 refl))
    (eqb_tells d d)

-- a use whose requests stay
pub requests_kept : (d : ℕ) (us : List Use) (u : Use) → d < length us → u.requests ≡ (slice_index_or us d no_use).requests → (i : ℕ) → (slice_index_or (slice_set us d u) i no_use).requests ≡ (slice_index_or us i no_use).requests
requests_kept d us u l same i = at_or_other (λ j. (get_or (set us d u) j no_use).requests ≡ (get_or us j no_use).requests) i d
    (ap (λ (x : Use). x.requests) (get_or-set_same us d u no_use l) ∙ same)
    (λ other. ap (λ (x : Use). x.requests) (get_or-set_other us d i u no_use other))

module _ (r : Run) (s t : State) (x : Task) (h : IsSound r s.body) (n : Next r s.body x) (free : s.body.waits ≡ waits.Nothing) where
  abbrev b : Client
  b = s.body

  abbrev more : ℕ
  more = length b.did + 1

  image_within : (d : ℕ) → task_image x ≡ Some d → d < length r.script.images
  image_within d e = in_images r.script n.of d (image_is r.script n.of ∙ ap task_image n.task ∙ e) n.may

  waits_on : WaitsFor r.script b.thread (b.next + 1) b.waits
  waits_on = subst (WaitsFor r.script b.thread (b.next + 1)) (sym free) tt

  in_uses : (d : ℕ) → d < length r.script.images → d < length b.uses
  in_uses d l = omega (arith, l, h.uses)

  -- a line that changes the set and the uses alone
  line_on : (a : Answer) (y : Channels) (us : List Use) → length us ≡ length b.uses → HasSet r b.thread more b.stage b.waits us y → ((i : ℕ) → (slice_index_or us i no_use).requests ≡ (use_of b i).requests)
      → IsSound r (listed s.acts.ran a (record b { set = Some y; uses = us }))
  line_on a y us size set same = listed_plain r b h n.below n.runs s.acts.ran a (Some y) us b.waits (size ∙ h.uses) set same waits_on

  sound_gets : (d : ℕ) → task_image x ≡ Some d → Gets d s t → IsSound r t.body
  sound_gets d e g =
      let l = image_within d e in
      let set = has_set r b g.before h g.its in
      subst (IsSound r) (sym g.becomes.0) (line_on g.answer g.after b.uses refl (set_got r b g.before d set h.of_run.devices l g.after g.answer g.got) (λ i. refl))

  -- the set is longer by a line
  set_line : (y : Channels) → b.set ≡ Some y → HasSet r b.thread more b.stage b.waits b.uses y
  set_line y e = set_longer r b.thread (length b.did) more b.stage b.waits b.waits b.uses y (λ i. refl) (omega arith) (has_set r b y h e)

  sound_puts : (d : ℕ) → task_image x ≡ Some d → Puts d s t → IsSound r t.body
  sound_puts d e g = at g.answer g.put g.gives
    where
      l : d < length r.script.images
      l = image_within d e

      set : HasSet r b.thread (length b.did) b.stage b.waits b.uses g.before
      set = has_set r b g.before h g.its

      kept : KeepsDevice b.thread (length b.did) (visits b.waits d) (channel_of g.before d) (seat_of g.before.row d) (use_of b d)
      kept = set.each d l

      at : (a : Answer) → IsPut d g.before g.after a → Gives d a (listed s.acts.ran a (with_set g.after b)) s t → IsSound r t.body
      at answer.Counted p q = subst (IsSound r) (sym q.0) (line_on answer.Counted g.after b.uses refl
          (subst (HasSet r b.thread more b.stage b.waits b.uses) (sym p.1)
          (channel_on r b g.before d more (omega arith) set h.of_run.devices l channel_counted b.uses (use_of b d) (reads_same no_use d b.uses)
          (counted b.thread (length b.did) (visits b.waits d) (channel_of g.before d) (seat_of g.before.row d) (use_of b d) kept p.0))) (λ i. refl))
      at answer.Deferred p q =
          let u : Use = use_deferred (use_of b d) in
          subst (IsSound r) (sym q.0) (line_on answer.Deferred g.after (slice_set b.uses d u) (length-set b.uses d u)
          (subst (HasSet r b.thread more b.stage b.waits (slice_set b.uses d u)) (sym p.1)
          (channel_on r b g.before d more (omega arith) set h.of_run.devices l channel_deferred (slice_set b.uses d u) u (reads_set no_use d b.uses u (in_uses d l))
          (deferred b.thread (length b.did) (visits b.waits d) (channel_of g.before d) (seat_of g.before.row d) (use_of b d) kept p.0 g.none_unanswered)))
          (requests_kept d b.uses u (in_uses d l) refl))
      at answer.NoChannel p q = subst (IsSound r) (sym q.0) (line_on answer.NoChannel g.after b.uses refl
          (subst (HasSet r b.thread more b.stage b.waits b.uses) (sym p.1) (set_line g.before g.its)) (λ i. refl))
      at (answer.Given m) p q = absurd p
      at (answer.Again m) p q = absurd p
      at answer.Shut p q = absurd p
      at answer.Sent p q = absurd p
      at answer.Waited p q = absurd p
      at answer.Started p q = absurd p
      at (answer.Began m) p q = absurd p
      at answer.Already p q = absurd p
      at answer.Closed p q = absurd p

  -- the device was found shut
  shut_line : (d : ℕ) → d < length r.script.images → (y : Channels) → b.set ≡ Some y → HasSet r b.thread more b.stage b.waits b.uses (with_row y d seat_found)
  shut_line d l y e =
      let set = has_set r b y h e in
      row_on r b y d more (omega arith) set h.of_run.devices l seat_found b.uses (use_of b d) b.waits (reads_same no_use d b.uses) (λ i other. refl) (λ e. refl)
      (found b.thread (length b.did) (visits b.waits d) (channel_of y d) (seat_of y.row d) (use_of b d) (set.each d l) more (omega arith))

  sound_unregisters : (d : ℕ) → task_image x ≡ Some d → Unregisters d s t → IsSound r t.body
  sound_unregisters d e g = at g.answer g.begun g.becomes.0
    where
      l : d < length r.script.images
      l = image_within d e

      set : HasSet r b.thread (length b.did) b.stage b.waits b.uses g.before
      set = has_set r b g.before h g.its

      at : (a : Answer) → IsBegun d g.before g.after a → t.body ≡ with_answer d a (listed s.acts.ran a (with_set g.after b)) → IsSound r t.body
      at (answer.Began m) p q =
          let u : Use = use_owing (use_of b d) in
          subst (IsSound r) (sym q) (line_on (answer.Began m) g.after (slice_set b.uses d u) (length-set b.uses d u)
          (subst (HasSet r b.thread more b.stage b.waits (slice_set b.uses d u)) (sym p.1)
          (row_on r b g.before d more (omega arith) set h.of_run.devices l (seat_began m p.0) (slice_set b.uses d u) u b.waits (reads_set no_use d b.uses u (in_uses d l)) (λ i other. refl) (λ e. refl)
          (begun b.thread (length b.did) (visits b.waits d) (channel_of g.before d) (seat_of g.before.row d) (use_of b d) (set.each d l) m p.0)))
          (requests_kept d b.uses u (in_uses d l) refl))
      at answer.Already p q = subst (IsSound r) (sym q) (line_on answer.Already g.after b.uses refl
          (subst (HasSet r b.thread more b.stage b.waits b.uses) (sym p) (shut_line d l g.before g.its)) (λ i. refl))
      at answer.NoChannel p q = absurd p
      at answer.Counted p q = absurd p
      at answer.Deferred p q = absurd p
      at (answer.Given m) p q = absurd p
      at (answer.Again m) p q = absurd p
      at answer.Shut p q = absurd p
      at answer.Sent p q = absurd p
      at answer.Waited p q = absurd p
      at answer.Started p q = absurd p
      at answer.Closed p q = absurd p

  -- the set stays
  sound_refuses : (d : ℕ) (y : Channels) → b.set ≡ Some y → Refuses d y s t → IsSound r t.body
  sound_refuses d y e g = subst (IsSound r) (sym g.becomes.0)
      (listed_plain r b h n.below n.runs s.acts.ran answer.NoChannel b.set b.uses b.waits h.uses (subst (SetFits r b.thread more b.stage b.waits b.uses) (sym e) (set_line y e)) (λ i. refl) waits_on)

  weight_at : (d : ℕ) → task_image x ≡ Some d → (i : ℕ) → on_image r.script b.thread i b.next ≡ cond (d == i) 1 0
  weight_at d e i = ap (λ c. cond c 1 0) (is_on_its r.script b.thread b.next d i n.of h.of_run.client n.is (image_is r.script n.of ∙ ap task_image n.task ∙ e))

  lends_at : (class : Class) → lends r.script class (op_at r.script b.thread b.next) ≡ task_lends class x
  lends_at class = ap (lends r.script class) n.is ∙ lends_is r.script class n.of ∙ ap (task_lends class) n.task

  marked : (w : ℕ → ℕ) → weigh w (slice_set b.unanswered b.next true) ≡ weigh w b.unanswered + w b.next
  marked w = weigh_mark w b.unanswered b.next (omega (arith, n.below, h.marks)) (h.unasked b.next (omega arith))

  -- a request goes out, and the pass lends what the op says
  sound_asked : (d : ℕ) → task_image x ≡ Some d → (y : Channels) → b.set ≡ Some y → 1 ≤ (channel_of y d).references → (p : PoolEnd) → p.pool ≡ r.pool → p.number ≡ b.thread
      → ((class : Class) → taken_of class p ≡ taken_of class b.pool + task_lends class x) → ((class : Class) → given_of class p ≡ given_of class b.pool)
      → IsSound r (record (asked s.acts.ran d y b) { pool = p })
  sound_asked d e y its some p pool pass taken given =
      let l = image_within d e in
      let set = has_set r b y h its in
      let u : Use = use_asked (use_of b d) in
      listed_on r b h n.below n.runs s.acts.ran answer.Sent (Some (with_channel y d channel_submitted)) (slice_set b.uses d u) (slice_set b.unanswered b.next true) (b.requests + 1) p b.waits pool pass
      (length-set b.uses d u ∙ h.uses)
      (length-set b.unanswered b.next true)
      (channel_on r b y d more (omega arith) set h.of_run.devices l channel_submitted (slice_set b.uses d u) u (reads_set no_use d b.uses u (in_uses d l))
      (submitted b.thread (length b.did) (visits b.waits d) (channel_of y d) (seat_of y.row d) (use_of b d) (set.each d l) some))
      (λ k le. get_or-set_other b.unanswered b.next k true false (λ (same : k ≡ b.next). absurd (omega (arith, le, same))) ∙ h.unasked k (omega (arith, le)))
      (λ i within. at_or_other (λ j. j < length r.script.images → (slice_index_or (slice_set b.uses d u) j no_use).requests ≡ weigh (on_image r.script b.thread j) (slice_set b.unanswered b.next true)) i d
      (λ l.
      let read = ap (λ (v : Use). v.requests) (get_or-set_same b.uses d u no_use (in_uses d l)) in
      let w = weight_at d e d ∙ ap (λ c. cond c 1 0) (same_self d) in
      let m = marked (on_image r.script b.thread d) in
      let q = h.requests d l in
      omega (arith, read, w, m, q))
      (λ other l.
      let read = ap (λ (v : Use). v.requests) (get_or-set_other b.uses d i u no_use other) in
      let w = weight_at d e i ∙ ap (λ c. cond c 1 0) (not_same d i other) in
      let m = marked (on_image r.script b.thread i) in
      let q = h.requests i l in
      omega (arith, read, w, m, q))
      within)
      (let m = marked any_op in omega (arith, m, h.in_all))
      (λ class. (let m = marked (λ k. lends r.script class (op_at r.script b.thread k)) in let a = lends_at class in let old = h.lent class in let q = taken class in let g = given class in omega (arith, m, a, old, q, g)))
      waits_on

  sound_plain : (d : ℕ) → task_image x ≡ Some d → ((class : Class) → task_lends class x ≡ 0) → (y : Channels) → b.set ≡ Some y → SendsPlain d y s t → IsSound r t.body
  sound_plain d e none y its g = subst (IsSound r) (sym g.body) (sound_asked d e y its g.referenced b.pool h.pool h.pass (λ class. (let z = none class in omega (arith, z))) (λ class. refl))

  sound_read : (d : ℕ) (class : Class) → x ≡ task.Read d class → (y : Channels) → b.set ≡ Some y → SendsRead d class y s t → IsSound r t.body
  sound_read d class e y its g = subst (IsSound r) (sym g.body) (sound_asked d (ap task_image e) y its g.referenced (with_taken class b.pool)
      (pool_of class b.pool ∙ h.pool) (number_of class b.pool ∙ h.pass)
      (λ c. taken_more c class b.pool ∙ ap (λ n. taken_of c b.pool + n) (sym (ap (task_lends c) e)))
      (λ c. given_same c class b.pool))
    where
      pool_of : (class : Class) (p : PoolEnd) → (with_taken class p).pool ≡ p.pool
      pool_of Small p = refl
      pool_of Large p = refl

      number_of : (class : Class) (p : PoolEnd) → (with_taken class p).number ≡ p.number
      number_of Small p = refl
      number_of Large p = refl

      taken_more : (c class : Class) (p : PoolEnd) → taken_of c (with_taken class p) ≡ taken_of c p + is_class c class
      taken_more Small Small p = refl
      taken_more Small Large p = omega arith
      taken_more Large Small p = omega arith
      taken_more Large Large p = refl

      given_same : (c class : Class) (p : PoolEnd) → given_of c (with_taken class p) ≡ given_of c p
      given_same Small Small p = refl
      given_same Small Large p = refl
      given_same Large Small p = refl
      given_same Large Large p = refl

  none_visited : (i : ℕ) → visits b.waits i ≡ false
  none_visited i = ap (λ w. visits w i) free

  -- it waits from now on
  sound_wait : (ticks number : ℕ) → x ≡ task.Wait ticks → (number ≢ active) → IsSound r (record b { waits = waits.Timer number b.next })
  sound_wait ticks number e other = record {
    of_run = h.of_run;
    pool = h.pool;
    pass = h.pass;
    uses = h.uses;
    marks = h.marks;
    within = h.within;
    lines = h.lines;
    set = at b.set h.set;
    unasked = h.unasked;
    requests = h.requests;
    in_all = h.in_all;
    lent = h.lent;
    awaits = (refl, (ticks, n.is ∙ ap (λ o. Some o) (is_wait r.script n.of ticks (n.task ∙ e))), other);
    stage = subst (StageFits r.script b.thread b.next b.requests (waits.Timer number b.next)) (sym n.runs) tt;
  }
    where
      at : (o : Option Channels) → SetFits r b.thread (length b.did) b.stage b.waits b.uses o → SetFits r b.thread (length b.did) b.stage (waits.Timer number b.next) b.uses o
      at None f = f
      at (Some y) f = set_longer r b.thread (length b.did) (length b.did) b.stage b.waits (waits.Timer number b.next) b.uses y (λ i. sym (none_visited i)) (omega arith) f

  sound_visit : (d : ℕ) → x ≡ task.Visit d → StartsVisit d s t → IsSound r t.body
  sound_visit d e g =
      let l = image_within d (ap task_image e) in
      let set = has_set r b g.before h g.its in
      let w : Waits = waits.Visit b.next d in
      subst (IsSound r) (sym g.body) (listed_plain r b h n.below n.runs s.acts.ran answer.Started (Some (with_row g.before d seat_visiting)) b.uses w h.uses
      (row_on r b g.before d more (omega arith) set h.of_run.devices l seat_visiting b.uses (use_of b d) w (reads_same no_use d b.uses) (λ i other. not_same d i other ∙ sym (none_visited i)) (λ e. refl)
      (subst (λ v. KeepsDevice b.thread more v (channel_of g.before d) (seat_visiting (seat_of g.before.row d)) (use_of b d)) (sym (same_self d))
      (visiting b.thread (length b.did) (visits b.waits d) (channel_of g.before d) (seat_of g.before.row d) (use_of b d) (set.each d l))))
      (λ i. refl)
      (refl, n.is ∙ ap (λ o. Some o) (is_visit r.script n.of d (n.task ∙ e))))

  sound_shut : (d : ℕ) → x ≡ task.Visit d → FindsShut d s t → IsSound r t.body
  sound_shut d e g = subst (IsSound r) (sym g.becomes.0) (line_on answer.Shut (with_row g.before d seat_found) b.uses refl (shut_line d (image_within d (ap task_image e)) g.before g.its) (λ i. refl))

  sound_cast : x ≡ task.Each → StartsCast s t → IsSound r t.body
  sound_cast e g = subst (IsSound r) (sym g.body) (listed_plain r b h n.below n.runs s.acts.ran answer.Started b.set b.uses (waits.Cast b.next) h.uses (at b.set h.set) (λ i. refl)
      (refl, n.is ∙ ap (λ o. Some o) (is_each r.script n.of (n.task ∙ e))))
    where
      at : (o : Option Channels) → SetFits r b.thread (length b.did) b.stage b.waits b.uses o → SetFits r b.thread more b.stage (waits.Cast b.next) b.uses o
      at None f = f
      at (Some y) f = set_longer r b.thread (length b.did) more b.stage b.waits (waits.Cast b.next) b.uses y (λ i. sym (none_visited i)) (omega arith) f

  pub sound_done : (now : ℕ) → times active s.acts.pollers ≡ 1 → Does now x s t → IsSound r t.body
  sound_done now live does = at x refl does
    where
      at : (y : Task) → x ≡ y → Does now y s t → IsSound r t.body
      at (task.Get d) e g = sound_gets d (ap task_image e) g
      at (task.Put d) e g = sound_puts d (ap task_image e) g
      at (task.Ask d) e g = ⊎_elim
          (λ (q : Refuses d g.0 s t). sound_refuses d g.0 g.1 q)
          (λ (q : SendsPlain d g.0 s t). sound_plain d (ap task_image e) (λ class. ap (task_lends class) e) g.0 g.1 q)
          g.2
      at (task.Read d class) e g = ⊎_elim
          (λ (q : Refuses d g.0 s t). sound_refuses d g.0 g.1 q)
          (λ (q : SendsRead d class g.0 s t). sound_read d class e g.0 g.1 q)
          g.2
      at (task.Wait ticks) e g = subst (IsSound r) (sym g.body) (sound_wait ticks g.number e
          (λ (same : g.number ≡ active). absurd (omega (arith, ap (λ n. times n s.acts.pollers) same, g.free.free, live))))
      at (task.Visit d) e g = ⊎_elim
          (λ (q : StartsVisit d s t). sound_visit d e q)
          (λ (q : FindsShut d s t). sound_shut d e q)
          g
      at task.Each e g = sound_cast e g
      at (task.Unregister d) e g = sound_unregisters d (ap task_image e) g
