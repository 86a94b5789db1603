-- What a client that awaits a message keeps of it.
use Rattle.std.proofs.Common.{◌≡◌, ℕ, ◌*◌, ◌<◌, ◌≤◌, ◌==◌, nat_lt, Bool, true, false, cond, length, Option, Some, None, refl, sym, ap, subst, ◌∙◌, arith, ⊎_elim}
use Rattle.std.specs.Prelude.{slice_index_or, is_some}
use Rattle.std.specs.Arc.{arc_value}
use Rattle.std.proofs.lemmas.Bool.{cases_lt, and_parts, eqb-true, ltb-true, true≢false}
use Rattle.std.proofs.lemmas.List.{get_or_past}
use Rattle.lw_model.specs.declared.script.Op.{Op}
use Rattle.lw_model.specs.declared.script.Op.TheVariants as op
use Rattle.lw_model.specs.ScriptRules.{image_of, block_at}
use Rattle.lw_model.specs.Threads.{op_at}
use Rattle.lw_pool.specs.declared.class.Class.{Class}
use Rattle.lw_pool.specs.declared.class.Class.TheVariants.{Small, Large}
use Rattle.lw_pool.specs.PoolEnds.{BufferEnd, IsOf, taken_of, given_of}
use Rattle.lw_channel.specs.Channels.{Channels}
use Rattle.lw_mail.specs.Runs.{Run}
use Rattle.lw_mail.specs.Fitting.{Fits, ComesBack, class_for}
use Rattle.lw_mail.specs.declared.mail.Content.TheVariants as content
use Rattle.lw_ops.specs.declared.kind.Kind.{Kind}
use Rattle.lw_ops.specs.declared.kind.Kind.TheVariants as kind
use Rattle.lw_client.specs.declared.client.Client.{Client}
use Rattle.lw_client.specs.declared.client.Stage.{Stage}
use Rattle.lw_client.specs.declared.client.Use.{Use}
use Rattle.lw_client.specs.declared.client.Stage.TheVariants.{Runs, Closed, Done}
use Rattle.lw_client.specs.declared.client.Waits.{Waits}
use Rattle.lw_client.specs.declared.client.Waits.TheVariants as waits
use Rattle.lw_client.specs.Clients.{IsSound, StageFits, WaitsFor, on_image, any_op, lends, is_class, use_of, no_use, visits}
use Rattle.lw_ops.specs.Kinds.{requested}
use Rattle.lw_client.specs.Handling.{awaited, awaits_visit, awaits_cast, has_put}
use Rattle.lw_client.specs.Serving.{MayAnswer, MayRunPut, MayEndVisit}
use Rattle.lw_client.proofs.Devices.{seats_of_registry}
use Rattle.lw_client.proofs.Facts.{in_images, is_on_its}
use Rattle.lw_client.proofs.May.{has_set, its_set}
use Rattle.lw_client.proofs.Steps.{same_self}
use Rattle.lw_client.proofs.Weighing.{weigh_one}

-- the op of a request
pub record Asked (of : Kind) (q : Option Op) (d : ℕ) : Type 0 where
  pub op : Op
  pub is : q ≡ Some op
  pub image : image_of op ≡ Some d

asked_one : (of : Kind) (o : Op) (d e : ℕ) → image_of o ≡ Some e → Some e ≡ Some d → Asked of (Some o) d
asked_one of o d e i s = record { op = o; is = refl; image = i ∙ s }

pub asked : (of : Kind) (q : Option Op) (d : ℕ) → requested of q ≡ Some d → Asked of q d
asked kind.Write (Some (op.Write e start count pattern)) d s = asked_one kind.Write (op.Write e start count pattern) d e refl s
asked kind.Read (Some (op.Read e start count)) d s = asked_one kind.Read (op.Read e start count) d e refl s
asked kind.Flush (Some (op.Flush e)) d s = asked_one kind.Flush (op.Flush e) d e refl s
asked kind.Write None d s = absurd (cc)
asked kind.Write (Some (op.Read e start count)) d s = absurd (cc)
asked kind.Write (Some (op.Flush e)) d s = absurd (cc)
asked kind.Write (Some (op.Get e)) d s = absurd (cc)
asked kind.Write (Some (op.Put e)) d s = absurd (cc)
asked kind.Write (Some (op.Wait e)) d s = absurd (cc)
asked kind.Write (Some (op.Visit e)) d s = absurd (cc)
asked kind.Write (Some op.Each) d s = absurd (cc)
asked kind.Write (Some (op.Unregister e)) d s = absurd (cc)
asked kind.Read None d s = absurd (cc)
asked kind.Read (Some (op.Write e start count pattern)) d s = absurd (cc)
asked kind.Read (Some (op.Flush e)) d s = absurd (cc)
asked kind.Read (Some (op.Get e)) d s = absurd (cc)
asked kind.Read (Some (op.Put e)) d s = absurd (cc)
asked kind.Read (Some (op.Wait e)) d s = absurd (cc)
asked kind.Read (Some (op.Visit e)) d s = absurd (cc)
asked kind.Read (Some op.Each) d s = absurd (cc)
asked kind.Read (Some (op.Unregister e)) d s = absurd (cc)
asked kind.Flush None d s = absurd (cc)
asked kind.Flush (Some (op.Write e start count pattern)) d s = absurd (cc)
asked kind.Flush (Some (op.Read e start count)) d s = absurd (cc)
asked kind.Flush (Some (op.Get e)) d s = absurd (cc)
asked kind.Flush (Some (op.Put e)) d s = absurd (cc)
asked kind.Flush (Some (op.Wait e)) d s = absurd (cc)
asked kind.Flush (Some (op.Visit e)) d s = absurd (cc)
asked kind.Flush (Some op.Each) d s = absurd (cc)
asked kind.Flush (Some (op.Unregister e)) d s = absurd (cc)

-- an op that is awaited is marked as unanswered
pub record Awaits (r : Run) (b : Client) (k d : ℕ) (of : Kind) : Type 0 where
  pub marked : slice_index_or b.unanswered k false ≡ true
  pub asks : requested of (op_at r.script b.thread k) ≡ Some d
  pub place : k < length b.unanswered
  pub op : Op
  pub is : op_at r.script b.thread k ≡ Some op
  pub image : image_of op ≡ Some d
  pub within : d < length r.script.images

pub awaits_op : (r : Run) (b : Client) (k d : ℕ) (of : Kind) → IsSound r b → awaited b k of ≡ Some d → Awaits r b k d of
awaits_op r b k d of h e = at (slice_index_or b.unanswered k false) refl e
  where
    at : (m : Bool) → slice_index_or b.unanswered k false ≡ m → cond m (requested of (op_at (arc_value b.script) b.thread k)) None ≡ Some d → Awaits r b k d of
    at false m e = absurd (cc)
    at true m e =
        let q : requested of (op_at r.script b.thread k) ≡ Some d = subst (λ s. requested of (op_at s b.thread k) ≡ Some d) h.of_run.script_is e in
        let a = asked of (op_at r.script b.thread k) d q in
        record {
          marked = m;
          asks = q;
          place = ⊎_elim
              (λ (l : k < length b.unanswered). l)
              (λ (l : length b.unanswered ≤ k). absurd (true≢false (sym m ∙ get_or_past b.unanswered k false l)))
              (cases_lt k (length b.unanswered));
          op = a.op;
          is = a.is;
          image = a.image;
          within = in_images r.script a.op d a.image (h.of_run.ops k a.op a.is);
        }

module _ (r : Run) (b : Client) (k d : ℕ) (of : Kind) (h : IsSound r b) (a : Awaits r b k d of) where
  -- what the op weighs
  pub on_its : on_image r.script b.thread d k ≡ 1
  on_its = ap (λ c. cond c 1 0) (is_on_its r.script b.thread k d d a.op h.of_run.client a.is a.image ∙ same_self d)

  pub may_answer : MayAnswer k d b
  may_answer =
      let one = weigh_one (on_image r.script b.thread d) b.unanswered k a.place a.marked in
      let all = weigh_one any_op b.unanswered k a.place a.marked in
      record {
        place = a.place;
        uses = omega (arith, a.within, h.uses);
        of_image = omega (arith, one, on_its, h.requests d a.within);
        in_all = omega (arith, all, h.in_all);
      }

  -- a client with a request unanswered runs
  pub still_runs : b.stage ≡ Runs
  still_runs = at b.stage h.stage
    where
      at : (g : Stage) → StageFits r.script b.thread b.next b.requests b.waits g → g ≡ Runs
      at Runs f = refl
      at Closed f = absurd (let m = may_answer.in_all in omega (arith, m, f.none_unanswered))
      at Done f = absurd (let m = may_answer.in_all in omega (arith, m, f.none_unanswered))

is_own : (c : Class) → is_class c c ≡ 1
is_own Small = refl
is_own Large = refl

-- the buffer that comes back for a read that is awaited
pub record BufferBack (r : Run) (b : Client) (k d : ℕ) (buffer : BufferEnd) : Type 0 where
  pub of_pool : IsOf b.pool.pool buffer
  pub lends_it : (class : Class) → lends r.script class (op_at r.script b.thread k) ≡ is_class class buffer.class
  pub lent : given_of buffer.class b.pool < taken_of buffer.class b.pool

pub buffer_back : (r : Run) (b : Client) (k d : ℕ) (buffer : BufferEnd) → IsSound r b → Awaits r b k d kind.Read → Fits b.thread r (content.Filled k buffer) → BufferBack r b k d buffer
buffer_back r b k d buffer h a f = at (op_at r.script b.thread k) refl f
  where
    back : (class : Class) → buffer.class ≡ class → ((c : Class) → lends r.script c (op_at r.script b.thread k) ≡ is_class c class) → IsOf r.pool buffer → BufferBack r b k d buffer
    back class e all of =
        let its : (c : Class) → lends r.script c (op_at r.script b.thread k) ≡ is_class c buffer.class = λ c. all c ∙ ap (is_class c) (sym e) in
        let one = weigh_one (λ j. lends r.script buffer.class (op_at r.script b.thread j)) b.unanswered k a.place a.marked in
        let own = its buffer.class ∙ is_own buffer.class in
        let l = h.lent buffer.class in
        record { of_pool = subst (λ p. IsOf p buffer) (sym h.pool) of; lends_it = its; lent = omega (arith, one, own, l) }

    at : (q : Option Op) → op_at r.script b.thread k ≡ q → ComesBack r buffer q → BufferBack r b k d buffer
    at (Some (op.Read e start count)) is c = back (class_for (count * block_at r.script e)) c.0.class (λ class. ap (lends r.script class) is) c.0.of_pool
    at None is c = absurd c
    at (Some (op.Write e start count pattern)) is c = absurd c
    at (Some (op.Flush e)) is c = absurd c
    at (Some (op.Get e)) is c = absurd c
    at (Some (op.Put e)) is c = absurd c
    at (Some (op.Wait e)) is c = absurd c
    at (Some (op.Visit e)) is c = absurd c
    at (Some op.Each) is c = absurd c
    at (Some (op.Unregister e)) is c = absurd c

-- a PutSelf that is pending
pub may_run_put : (r : Run) (b : Client) (d : ℕ) → IsSound r b → has_put b d ≡ true → MayRunPut d b
may_run_put r b d h e = at b.set refl (and_parts (is_some b.set) (nat_lt 0 (use_of b d).puts) e)
  where
    some : 0 < (use_of b d).puts → d < length b.uses
    some l = ⊎_elim
        (λ (w : d < length b.uses). w)
        (λ (w : length b.uses ≤ d). absurd (omega (arith, l, ap (λ (u : Use). u.puts) (get_or_past b.uses d no_use w))))
        (cases_lt d (length b.uses))

    at : (o : Option Channels) → b.set ≡ o → (is_some b.set ≡ true) × (nat_lt 0 (use_of b d).puts ≡ true) → MayRunPut d b
    at None is p = absurd (true≢false (sym p.0 ∙ ap is_some is))
    at (Some x) is p =
        let l = ltb-true 0 (use_of b d).puts p.1 in
        let uses = some l in
        let set = has_set r b x h is in
        let k = set.each d (omega (arith, uses, h.uses)) in
        record { set = x; its = is; uses = uses; counted = omega (arith, l); pending = omega (arith, l, k.puts) }

-- a visit that is awaited
pub visit_is : (w : Waits) (k d : ℕ) → awaits_visit w k d ≡ true → w ≡ waits.Visit k d
visit_is (waits.Visit j e) k d h =
    let p = and_parts (j == k) (e == d) h in
    ap (λ n. waits.Visit n e) (eqb-true j k p.0) ∙ ap (waits.Visit k) (eqb-true e d p.1)
visit_is waits.Nothing k d h = absurd (true≢false (sym h))
visit_is (waits.Timer p j) k d h = absurd (true≢false (sym h))
visit_is (waits.Cast j) k d h = absurd (true≢false (sym h))

pub cast_is : (w : Waits) (k : ℕ) → awaits_cast w k ≡ true → w ≡ waits.Cast k
cast_is (waits.Cast j) k h = ap waits.Cast (eqb-true j k h)
cast_is waits.Nothing k h = absurd (true≢false (sym h))
cast_is (waits.Timer p j) k h = absurd (true≢false (sym h))
cast_is (waits.Visit j e) k h = absurd (true≢false (sym h))

-- a client that waits for something runs
pub waits_running : (r : Run) (b : Client) → IsSound r b → (b.waits ≡ waits.Nothing → ⊥) → b.stage ≡ Runs
waits_running r b h some = at b.stage h.stage
  where
    at : (g : Stage) → StageFits r.script b.thread b.next b.requests b.waits g → g ≡ Runs
    at Runs f = refl
    at Closed f = absurd (some f.none_awaited)
    at Done f = absurd (some f.none_awaited)

pub may_end_visit : (r : Run) (b : Client) (k d : ℕ) → IsSound r b → awaits_visit b.waits k d ≡ true → MayEndVisit d b
may_end_visit r b k d h e =
    let w = visit_is b.waits k d e in
    let f : WaitsFor r.script b.thread b.next (waits.Visit k d) = subst (WaitsFor r.script b.thread b.next) w h.awaits in
    let runs = waits_running r b h (λ (n : b.waits ≡ waits.Nothing). (let wrong : waits.Visit k d ≡ waits.Nothing = sym w ∙ n in absurd (cc))) in
    let x = its_set r b.thread (length b.did) b.stage b.waits b.uses b.set (λ (q : b.stage ≡ Done). (let wrong : Runs ≡ Done = sym runs ∙ q in absurd (cc))) h.set in
    let within : d < length r.script.images = h.of_run.ops k (op.Visit d) f.1 in
    let kept = x.2.each d within in
    record {
      set = x.0;
      its = x.1;
      device = omega (arith, within, seats_of_registry x.0.row r.registry (length r.script.images) x.2.registry h.of_run.devices);
      visit = kept.visit ∙ ap (λ v. cond (visits v d) 1 0) w ∙ ap (λ c. cond c 1 0) (same_self d);
    }
