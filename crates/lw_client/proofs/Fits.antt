-- What a client asks to send fits its receivers.
use Rattle.std.proofs.Common.{◌≡◌, ℕ, ◌*◌, ◌<◌, length, Some, refl, sym, ap, subst, ◌∙◌, arith}
use Rattle.lw_model.specs.declared.script.Script.{Script}
use Rattle.lw_model.specs.declared.script.Op.{Op}
use Rattle.lw_model.specs.declared.script.Op.TheVariants as op
use Rattle.lw_model.specs.ScriptRules.{block_at}
use Rattle.lw_model.specs.Threads.{owner_of, thread_count}
use Rattle.lw_pool.specs.declared.class.Class.{Class}
use Rattle.lw_pool.specs.PoolEnds.{BufferEnd, queue_of}
use Rattle.lw_visit.specs.Tokens.{new_visit, new_cast}
use Rattle.lw_mail.specs.Runs.{Run}
use Rattle.lw_mail.specs.Fitting.{Fits, MayAsk, MayRead, class_for}
use Rattle.lw_mail.specs.declared.mail.Content.{Content}
use Rattle.lw_mail.specs.declared.mail.Content.TheVariants as content
use Rattle.lw_ops.specs.declared.task.Task.TheVariants as task
use Rattle.lw_ops.specs.Tasks.{MayStart, task_for}
use Rattle.lw_client.specs.Doing.{CarriesVisit, CarriesCast}

-- a write or a flush
pub may_ask : (s : Script) (o : Op) (d : ℕ) → task_for s o ≡ task.Ask d → MayStart s o → MayAsk s (owner_of s d) (Some o)
may_ask s (op.Write x start count pattern) d e m = (let same : x ≡ d = cc in ap (owner_of s) (sym same), m.1, m.2)
may_ask s (op.Flush x) d e m = let same : x ≡ d = cc in ap (owner_of s) (sym same)
may_ask s (op.Get x) d e m = absurd (cc)
may_ask s (op.Put x) d e m = absurd (cc)
may_ask s (op.Read x start count) d e m = absurd (cc)
may_ask s (op.Wait ticks) d e m = absurd (cc)
may_ask s (op.Visit x) d e m = absurd (cc)
may_ask s op.Each d e m = absurd (cc)
may_ask s (op.Unregister x) d e m = absurd (cc)

-- a read, with its buffer
pub may_read : (r : Run) (o : Op) (d : ℕ) (class : Class) (b : BufferEnd) → task_for r.script o ≡ task.Read d class → MayStart r.script o → b.queue ≡ queue_of class r.pool → b.class ≡ class → MayRead r (owner_of r.script d) b (Some o)
may_read r (op.Read x start count) d class b e m queue is =
    let same : x ≡ d = cc in
    let its : class_for (count * block_at r.script x) ≡ class = cc in
    (ap (owner_of r.script) (sym same), m.1, record { of_pool = queue ∙ ap (λ c. queue_of c r.pool) (sym is); class = is ∙ sym its })
may_read r (op.Write x start count pattern) d class b e m queue is = absurd (cc)
may_read r (op.Flush x) d class b e m queue is = absurd (cc)
may_read r (op.Get x) d class b e m queue is = absurd (cc)
may_read r (op.Put x) d class b e m queue is = absurd (cc)
may_read r (op.Wait ticks) d class b e m queue is = absurd (cc)
may_read r (op.Visit x) d class b e m queue is = absurd (cc)
may_read r op.Each d class b e m queue is = absurd (cc)
may_read r (op.Unregister x) d class b e m queue is = absurd (cc)

-- a new token
pub new_visit_fits : (r : Run) (thread op device threads : ℕ) (c : Content) → CarriesVisit (new_visit thread op device threads) c → threads ≡ thread_count r.script → thread < thread_count r.script → device < length r.script.images → Fits 0 r c
new_visit_fits r thread k device threads (content.Visit b) e all origin within = subst (λ x. Fits 0 r (content.Visit (record b { value = x }))) (sym e) (record { threads = all; origin = origin; device = within }, refl, omega arith)
new_visit_fits r thread k device threads (content.Request c n) e all origin within = absurd e
new_visit_fits r thread k device threads (content.Read c n b) e all origin within = absurd e
new_visit_fits r thread k device threads (content.Written n) e all origin within = absurd e
new_visit_fits r thread k device threads (content.Filled n b) e all origin within = absurd e
new_visit_fits r thread k device threads (content.Flushed n w) e all origin within = absurd e
new_visit_fits r thread k device threads (content.PutSelf d) e all origin within = absurd e
new_visit_fits r thread k device threads (content.Visited b) e all origin within = absurd e
new_visit_fits r thread k device threads (content.Cast b) e all origin within = absurd e
new_visit_fits r thread k device threads (content.Casted b) e all origin within = absurd e
new_visit_fits r thread k device threads (content.Done b) e all origin within = absurd e
new_visit_fits r thread k device threads content.Stop e all origin within = absurd e

pub new_cast_fits : (r : Run) (thread op threads : ℕ) (c : Content) → CarriesCast (new_cast thread op threads) c → threads ≡ thread_count r.script → thread < thread_count r.script → Fits 0 r c
new_cast_fits r thread k threads (content.Cast b) e all origin = subst (λ x. Fits 0 r (content.Cast (record b { value = x }))) (sym e) (record { threads = all; origin = origin }, refl, omega arith)
new_cast_fits r thread k threads (content.Request c n) e all origin = absurd e
new_cast_fits r thread k threads (content.Read c n b) e all origin = absurd e
new_cast_fits r thread k threads (content.Written n) e all origin = absurd e
new_cast_fits r thread k threads (content.Filled n b) e all origin = absurd e
new_cast_fits r thread k threads (content.Flushed n w) e all origin = absurd e
new_cast_fits r thread k threads (content.PutSelf d) e all origin = absurd e
new_cast_fits r thread k threads (content.Visit b) e all origin = absurd e
new_cast_fits r thread k threads (content.Visited b) e all origin = absurd e
new_cast_fits r thread k threads (content.Casted b) e all origin = absurd e
new_cast_fits r thread k threads (content.Done b) e all origin = absurd e
new_cast_fits r thread k threads content.Stop e all origin = absurd e
