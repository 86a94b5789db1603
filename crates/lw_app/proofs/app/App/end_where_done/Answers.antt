use Rattle.std.proofs.Common.{ℕ, ◌==◌, not, length, ap, sym, ◌∙◌}
use Rattle.std.specs.Arc.{arc_value}
use Rattle.lw_model.specs.Threads.{owner_of}
use Rattle.lw_mail.specs.declared.mail.Mail.{Mail}
use Rattle.lw_poller.specs.Pollers.{Pollers, times}
use Rattle.lw_thread.specs.Acts.{ActsEnd}
use Rattle.lw_app.proofs.Stopping.{stops_to, is_known, grew}
use Rattle.lw_app.proofs.app.App.end_where_done.Goals as goal

pub unreachable-requires : goal.unreachable-requires
unreachable-requires c =
    let s = stops_to (owner_of (arc_value c.args.self.now.script) 0) (length c.args.self.now.owed) c.args.acts.now c.stop_owners.new.acts c.in_ok-stop_owners.ensures in
    is_known c.remove.result c.args.poller.0 c.stop_owners.new.acts.pollers c.remove.new.self.pollers (sym c.if-is_err.ensures.value) c.remove.ensures.cause (ap (λ (p : Pollers). times c.args.poller.0 p) s.pollers ∙ c.requires.live)

pub returns-clause-asked : goal.returns-clause-asked
returns-clause-asked c =
    let s = stops_to (owner_of (arc_value c.args.self.now.script) 0) (length c.args.self.now.owed) c.args.acts.now c.stop_owners.new.acts c.in_ok-stop_owners.ensures in
    ap (λ (n : ℕ). not (n == 0)) c.len.ensures ∙ grew (length c.args.self.now.owed) _ _ (ap (λ (a : ActsEnd Mail). length a.pending) c.ask_end.ensures ∙ ap (λ (a : ActsEnd Mail). length a.pending) c.remove.ensures.rest ∙ s.pending)
