use Rattle.std.proofs.Common.{◌≡◌, false, All, sym, subst}
use Rattle.std.proofs.lemmas.List.Elements.{All-push}
use Rattle.lw_thread.specs.declared.thread.LightThread.{LightThread}
use Rattle.thread_bench.specs.declared.note.Note.{Note}
use Rattle.thread_bench.specs.declared.volley.Volley.{Volley}
use Rattle.thread_bench.proofs.polled.idle_threads.Goals as goal

pub loop-preserved : goal.loop-preserved
loop-preserved c =
    let going = λ (t : LightThread Volley Note Note (Unit {0})). t.stopped ≡ false in
    subst (All going) (sym c.in_ok-push.ensures.items)
    (All-push going c.loop.threads.items c.in_ok-one.one c.loop.invariant c.in_ok-one.ensures.first.0)
