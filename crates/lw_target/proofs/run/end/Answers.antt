use Rattle.std.proofs.Common.{◌≡◌, true, ap, ◌∙◌, subst, refl, nat_lt}
use Rattle.std.specs.List.{list_all}
use Rattle.lw_model.specs.declared.record.Called.{Called}
use Rattle.lw_model.specs.declared.record.Reply.{Reply}
use Rattle.lw_model.specs.Printable.{has_bytes}
use Rattle.std.proofs.Common.{sym, [], ◌∷◌}
use Rattle.lw_model.specs.declared.record.RoleKind.TheVariants.{App, Client, Owner}
use Rattle.lw_target.specs.WholeRun.{are_numbered}
use Rattle.lw_target.proofs.Whole.{app_log, client_log, owner_log, same_log, device_ended, whole}
use Rattle.lw_target.proofs.Printed.{is_thread}
use Rattle.lw_target.proofs.run.end.Goals as goal

pub returns-clause-threads : goal.returns-clause-threads
returns-clause-threads c =
    let app = c.thread_record-app.result in
    let client = c.thread_record-client.result in
    let owner = c.owner_record-owner.result in (
      app,
      client,
      owner,
      c.from_vec-threads.ensures ∙ c.in_ok-vec-2.ensures.items,
      is_thread app _ _ _ _ _ c.thread_record-app.ensures c.into_ran.ensures.lines
          (subst (λ n. list_all (λ (k : Called). nat_lt k.device n) c.into_logs-did.result.1 ≡ true) c.requires.owed c.into_logs-did.ensures.devices)
          (ap (λ l. list_all (λ (r : Reply). has_bytes r.answer) l) c.new-none.ensures),
      is_thread client _ _ _ _ _ c.thread_record-client.ensures c.into_ran-2.ensures.lines (ap (λ l. list_all (λ (k : Called). nat_lt k.device 1) l) c.new-none-2.ensures) c.into_logs-of.ensures.replies,
      is_thread owner _ _ _ _ _ c.owner_record-owner.ensures c.into_ran-3.ensures.lines refl refl,
      ap (λ t. t.replies) c.thread_record-app.ensures ∙ c.new-none.ensures,
      ap (λ t. t.replies) c.owner_record-owner.ensures,
    )

pub returns-clause-whole : goal.returns-clause-whole
returns-clause-whole c = λ s h r deep.
    let t = c.args.target in
    let app = c.thread_record-app.result in
    let client = c.thread_record-client.result in
    let owner = c.owner_record-owner.result in
    let app_is : app ≡ app_log t = c.thread_record-app.ensures
    ∙ same_log App _ _ _ _ _ _ _ _ c.into_ran.ensures.ran c.into_logs-did.ensures.did c.into_logs-did.ensures.called c.new-none.ensures in
    let client_is : client ≡ client_log t = c.thread_record-client.ensures
    ∙ same_log Client _ _ _ _ _ _ _ _ c.into_ran-2.ensures.ran c.into_logs-of.ensures.did c.new-none-2.ensures c.into_logs-of.ensures.listed in
    let owner_is : owner ≡ owner_log t = c.owner_record-owner.ensures ∙ same_log Owner _ _ _ _ _ _ _ _ c.into_ran-3.ensures.ran refl refl refl in
    record {
      app = app_log t;
      client = client_log t;
      owner = owner_log t;
      device = c.end.result;
      all = c.from_vec-threads.ensures ∙ c.in_ok-vec-2.ensures.items ∙ ap (λ x. x ∷ client ∷ owner ∷ []) app_is
          ∙ ap (λ x. app_log t ∷ x ∷ owner ∷ []) client_is ∙ ap (λ x. app_log t ∷ client_log t ∷ x ∷ []) owner_is;
      one = c.from_vec-devices.ensures ∙ c.in_ok-vec.ensures.items;
      whole = whole s t h r deep (sym h.client.follows.of.devices ∙ h.of.images)
          (sym (ap are_numbered c.into_ran.ensures.ran) ∙ c.into_ran.ensures.numbered)
          (sym (ap are_numbered c.into_ran-2.ensures.ran) ∙ c.into_ran-2.ensures.numbered)
          (sym (ap are_numbered c.into_ran-3.ensures.ran) ∙ c.into_ran-3.ensures.numbered)
          c.end.result (device_ended t c.index.result.now c.end.result c.index.ensures c.end.ensures);
    }
