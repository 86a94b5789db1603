-- A client that ran a message stays sound.
use Rattle.std.proofs.Common.{◌≡◌, ℕ, ◌+◌, ◌-◌, ◌<◌, ◌≤◌, Bool, true, false, cond, List, [], ◌∷◌, ◌++◌, length, Option, Some, None, refl, sym, ap, subst, ◌∙◌, arith, length-set}
use Rattle.std.specs.Prelude.{slice_index_or, slice_set}
use Rattle.std.proofs.lemmas.List.{get_or-set_other, get_or-set_same}
use Rattle.lw_model.specs.declared.record.Replied.{Replied}
use Rattle.lw_model.specs.declared.record.Seen.{Seen}
use Rattle.lw_model.specs.declared.record.SeenBy.TheVariants as by
use Rattle.lw_model.specs.Threads.{op_at}
use Rattle.lw_base.specs.declared.message.Mark.{Mark}
use Rattle.lw_pool.specs.declared.class.Class.{Class}
use Rattle.lw_pool.specs.declared.class.Class.TheVariants.{Small, Large}
use Rattle.lw_pool.specs.PoolEnds.{PoolEnd, BufferEnd, taken_of, given_of, with_given}
use Rattle.lw_device.specs.Rows.{seat_of, seat_destroyed, seat_not_visiting, no_seat}
use Rattle.lw_channel.specs.Channels.{Channels, no_channel, channel_of, destroys, channel_kept, channel_destroyed, with_row}
use Rattle.lw_mail.specs.Runs.{Run}
use Rattle.lw_mail.specs.declared.mail.Mail.{Mail}
use Rattle.lw_ops.specs.declared.kind.Kind.{Kind}
use Rattle.lw_ops.specs.declared.kind.Kind.TheVariants as kind
use Rattle.lw_client.specs.declared.client.Client.{Client}
use Rattle.lw_client.specs.declared.client.Stage.TheVariants.{Runs, Done}
use Rattle.lw_client.specs.declared.client.Use.{Use}
use Rattle.lw_client.specs.declared.client.Waits.{Waits}
use Rattle.lw_client.specs.declared.client.Waits.TheVariants as waits
use Rattle.lw_client.specs.Clients.{IsSound, HasSet, SetFits, StageFits, on_image, any_op, lends, is_class, weigh, use_of, no_use, visits}
use Rattle.lw_client.specs.Doing.{with_use, with_set, use_answered, use_put}
use Rattle.lw_client.specs.Handling.{answered_by, put_run, visit_ended, cast_ended}
use Rattle.lw_client.proofs.Awaited.{Awaits, may_answer, still_runs, on_its, BufferBack, waits_running}
use Rattle.lw_client.proofs.Changes.{answered, put_kept, put_destroyed, not_visiting}
use Rattle.lw_client.proofs.Facts.{is_on_its}
use Rattle.lw_client.proofs.Listed.{set_on, set_longer}
use Rattle.lw_client.proofs.Lists.{reads_set, reads_same, at_or_other}
use Rattle.lw_client.proofs.May.{has_set}
use Rattle.lw_client.proofs.Sound.{both_on, channel_on, row_on}
use Rattle.lw_client.proofs.Stays.{stays_on, devices_on}
use Rattle.lw_client.proofs.Steps.{not_same, requests_kept}
use Rattle.lw_client.proofs.Weighing.{weigh_unmark}

module _ (r : Run) (b : Client) (h : IsSound r b) where
  -- a request is answered, and the pass lends what is left
  sound_answered : (k d : ℕ) (of : Kind) (a : Awaits r b k d of) (v : Replied) (p : PoolEnd) → p.pool ≡ r.pool → p.number ≡ b.thread
      → ((class : Class) → taken_of class p ≡ taken_of class b.pool) → ((class : Class) → given_of class p ≡ given_of class b.pool + lends r.script class (op_at r.script b.thread k))
      → IsSound r (record (answered_by d k v b) { pool = p })
  sound_answered k d of a v p pool pass taken given =
      let m = may_answer r b k d of h a in
      let runs = still_runs r b k d of h a in
      let u : Use = use_answered (use_of b d) in
      stays_on r b h b.set (slice_set b.uses d u) (slice_set b.unanswered k false) (b.requests - 1) p b.waits b.called (b.replies ++ record { op = k; answer = v } ∷ []) b.seen b.kept pool pass
      (length-set b.uses d u) (length-set b.unanswered k false)
      (fits b.set m.uses runs h.set)
      (λ j le. at_or_other (λ i. b.next ≤ i → slice_index_or (slice_set b.unanswered k false) i false ≡ false) j k
      (λ le. get_or-set_same b.unanswered k false false a.place)
      (λ other le. get_or-set_other b.unanswered k j false false other ∙ h.unasked j le)
      le)
      (λ i within. at_or_other (λ j. j < length r.script.images → (slice_index_or (slice_set b.uses d u) j no_use).requests ≡ weigh (on_image r.script b.thread j) (slice_set b.unanswered k false)) i d
      (λ l.
      let read = ap (λ (x : Use). x.requests) (get_or-set_same b.uses d u no_use m.uses) in
      let w = on_its r b k d of h a in
      let unmarked = weigh_unmark (on_image r.script b.thread d) b.unanswered k a.place a.marked in
      let q = h.requests d l in
      omega (arith, read, w, unmarked, q))
      (λ other l.
      let read = ap (λ (x : Use). x.requests) (get_or-set_other b.uses d i u no_use other) in
      let w : on_image r.script b.thread i k ≡ 0 = ap (λ c. cond c 1 0) (is_on_its r.script b.thread k d i a.op h.of_run.client a.is a.image ∙ not_same d i other) in
      let unmarked = weigh_unmark (on_image r.script b.thread i) b.unanswered k a.place a.marked in
      let q = h.requests i l in
      omega (arith, read, w, unmarked, q))
      within)
      (let unmarked = weigh_unmark any_op b.unanswered k a.place a.marked in omega (arith, unmarked, h.in_all))
      (λ class.
      (let unmarked = weigh_unmark (λ j. lends r.script class (op_at r.script b.thread j)) b.unanswered k a.place a.marked in
      let old = h.lent class in
      let t = taken class in
      let g = given class in
      omega (arith, unmarked, old, t, g)))
      h.awaits
      (subst (StageFits r.script b.thread b.next (b.requests - 1) b.waits) (sym runs) tt)
    where
      fits : (o : Option Channels) → d < length b.uses → b.stage ≡ Runs → SetFits r b.thread (length b.did) b.stage b.waits b.uses o → SetFits r b.thread (length b.did) b.stage b.waits (slice_set b.uses d (use_answered (use_of b d))) o
      fits None l runs f = absurd (let wrong : Runs ≡ Done = sym runs ∙ f.0 in cc)
      fits (Some x) l runs f =
          let u : Use = use_answered (use_of b d) in
          set_on r b.thread (length b.did) (length b.did) b.stage b.waits b.waits b.uses (slice_set b.uses d u) x x d (channel_of x d) (seat_of x.row d) u f refl refl
          (reads_same no_channel d x.channels) (reads_same no_seat d x.row.seats) (reads_set no_use d b.uses u l) (λ i other. refl) (omega arith)
          (λ within. answered b.thread (length b.did) (visits b.waits d) (channel_of x d) (seat_of x.row d) (use_of b d) (f.each d within))

  pub sound_plain : (k d : ℕ) (of : Kind) (a : Awaits r b k d of) (v : Replied) → ((class : Class) → lends r.script class (op_at r.script b.thread k) ≡ 0) → IsSound r (answered_by d k v b)
  sound_plain k d of a v none = sound_answered k d of a v b.pool h.pool h.pass (λ class. refl) (λ class. (let z = none class in omega (arith, z)))

  pub sound_read : (k d : ℕ) (a : Awaits r b k d kind.Read) (v : Replied) (buffer : BufferEnd) → BufferBack r b k d buffer → IsSound r (record (answered_by d k v b) { pool = with_given buffer.class b.pool })
  sound_read k d a v buffer back = sound_answered k d kind.Read a v (with_given buffer.class b.pool) (pool_of buffer.class b.pool ∙ h.pool) (number_of buffer.class b.pool ∙ h.pass)
      (λ class. taken_same class buffer.class b.pool)
      (λ class. given_more class buffer.class b.pool ∙ ap (λ n. given_of class b.pool + n) (sym (back.lends_it class)))
    where
      pool_of : (class : Class) (p : PoolEnd) → (with_given class p).pool ≡ p.pool
      pool_of Small p = refl
      pool_of Large p = refl

      number_of : (class : Class) (p : PoolEnd) → (with_given class p).number ≡ p.number
      number_of Small p = refl
      number_of Large p = refl

      taken_same : (c class : Class) (p : PoolEnd) → taken_of c (with_given class p) ≡ taken_of c p
      taken_same Small Small p = refl
      taken_same Small Large p = refl
      taken_same Large Small p = refl
      taken_same Large Large p = refl

      given_more : (c class : Class) (p : PoolEnd) → given_of c (with_given class p) ≡ given_of c p + is_class c class
      given_more Small Small p = refl
      given_more Small Large p = omega arith
      given_more Large Small p = omega arith
      given_more Large Large p = refl

  -- a PutSelf ran
  pub sound_put : (d : ℕ) (x : Channels) → b.set ≡ Some x → d < length b.uses → IsSound r (with_use d use_put (with_set (put_run (destroys (channel_of x d)) d x) b))
  sound_put d x its l = at (destroys (channel_of x d))
    where
      u : Use
      u = use_put (use_of b d)

      at : (v : Bool) → IsSound r (with_use d use_put (with_set (put_run v d x) b))
      at v =
          let within : d < length r.script.images = omega (arith, l, h.uses) in
          let y : Use = use_put (use_of b d) in
          devices_on r b h (Some (put_run v d x)) (slice_set b.uses d y) b.called (length-set b.uses d y) (fits v within) (requests_kept d b.uses y l refl)
        where
          fits : (v : Bool) → d < length r.script.images → HasSet r b.thread (length b.did) b.stage b.waits (slice_set b.uses d (use_put (use_of b d))) (put_run v d x)
          fits true within =
              let set = has_set r b x h its in
              let y : Use = use_put (use_of b d) in
              both_on r b x d (length b.did) (omega arith) set h.of_run.devices within channel_destroyed seat_destroyed (slice_set b.uses d y) y b.waits (reads_set no_use d b.uses y l) (λ i other. refl) (λ e. refl)
              (put_destroyed b.thread (length b.did) (visits b.waits d) (channel_of x d) (seat_of x.row d) (use_of b d) (set.each d within))
          fits false within =
              let set = has_set r b x h its in
              let y : Use = use_put (use_of b d) in
              channel_on r b x d (length b.did) (omega arith) set h.of_run.devices within channel_kept (slice_set b.uses d y) y (reads_set no_use d b.uses y l)
              (put_kept b.thread (length b.did) (visits b.waits d) (channel_of x d) (seat_of x.row d) (use_of b d) (set.each d within))

  -- what is waited for is over
  ended : (w : Waits) → b.waits ≡ w → (w ≡ waits.Nothing → ⊥) → (o : Option Channels) (ss : List Seen) → SetFits r b.thread (length b.did) b.stage waits.Nothing b.uses o → IsSound r (record b { set = o; waits = waits.Nothing; seen = ss })
  ended w e some o ss fits =
      let runs = waits_running r b h (λ (n : b.waits ≡ waits.Nothing). some (sym e ∙ n)) in
      stays_on r b h o b.uses b.unanswered b.requests b.pool waits.Nothing b.called b.replies ss b.kept h.pool h.pass refl refl fits h.unasked h.requests h.in_all h.lent tt
      (subst (StageFits r.script b.thread b.next b.requests waits.Nothing) (sym runs) tt)

  pub sound_visit_ended : (k d : ℕ) (marks : List Mark) (x : Channels) → b.set ≡ Some x → b.waits ≡ waits.Visit k d → d < length r.script.images → IsSound r (visit_ended k d marks x b)
  sound_visit_ended k d marks x its e within =
      let set = has_set r b x h its in
      ended (waits.Visit k d) e (λ (q : waits.Visit k d ≡ waits.Nothing). absurd (cc)) (Some (with_row x d seat_not_visiting)) (b.seen ++ record { op = k; results = by.Visit marks } ∷ [])
      (row_on r b x d (length b.did) (omega arith) set h.of_run.devices within seat_not_visiting b.uses (use_of b d) waits.Nothing (reads_same no_use d b.uses)
      (λ i other. sym (ap (λ w. visits w i) e ∙ not_same d i other)) (λ e. refl)
      (not_visiting b.thread (length b.did) (visits b.waits d) (channel_of x d) (seat_of x.row d) (use_of b d) (set.each d within)))

  pub sound_cast_ended : (k : ℕ) (ran : List ℕ) → b.waits ≡ waits.Cast k → IsSound r (cast_ended k ran b)
  sound_cast_ended k ran e = ended (waits.Cast k) e (λ (q : waits.Cast k ≡ waits.Nothing). absurd (cc)) b.set (b.seen ++ record { op = k; results = by.Cast ran } ∷ []) (fits b.set h.set)
    where
      fits : (o : Option Channels) → SetFits r b.thread (length b.did) b.stage b.waits b.uses o → SetFits r b.thread (length b.did) b.stage waits.Nothing b.uses o
      fits None f = f
      fits (Some x) f = set_longer r b.thread (length b.did) (length b.did) b.stage b.waits waits.Nothing b.uses x (λ i. sym (ap (λ w. visits w i) e)) (omega arith) f

  -- a message is kept
  pub sound_kept : (ks : List Mail) → IsSound r (record b { kept = ks })
  sound_kept ks = stays_on r b h b.set b.uses b.unanswered b.requests b.pool b.waits b.called b.replies b.seen ks h.pool h.pass refl refl h.set h.unasked h.requests h.in_all h.lent h.awaits h.stage
