use Rattle.std.proofs.Common.{◌≡◌, ◌≤◌, List, [], ◌∷◌, ◌++◌, get_or, ap, sym, ◌∙◌, subst}
use Rattle.lw_model.specs.declared.script.ClientOf.{ClientOf}
use Rattle.lw_target.specs.Run.{Leaves}
use Rattle.lw_target.proofs.Accepted.{single, single_last, images_one, clients_one, serves, ops_fit, depth_one}
use Rattle.lw_target.proofs.Printed.{printed_again}
use Rattle.lw_target.proofs.run.run_whole.Goals as goal

pub begin-requires-clause-serves : goal.begin-requires-clause-serves
begin-requires-clause-serves g c =
    serves c.args.script c.index-as_slice-0.result c.take_last-rest.result.1 c.requires.accepted c.requires.served
    (single c.args.script.images c.index-as_slice-0.result (images_one c.args.script c.requires.served)
    (c.index-as_slice-0.is ∙ ap (λ l. get_or l 0 c.index-as_slice-0.result) c.as_slice.ensures))
    (single_last c.args.script.clients _ c.take_last-rest.result.1 c.take_last-rest.ensures (clients_one c.args.script c.requires.served))

pub begin-requires-clause-fits : goal.begin-requires-clause-fits
begin-requires-clause-fits g c =
    ops_fit c.args.script c.index-as_slice-0.result c.take_last-rest.result.1 c.requires.accepted c.requires.served
    (single c.args.script.images c.index-as_slice-0.result (images_one c.args.script c.requires.served)
    (c.index-as_slice-0.is ∙ ap (λ l. get_or l 0 c.index-as_slice-0.result) c.as_slice.ensures))
    (single_last c.args.script.clients _ c.take_last-rest.result.1 c.take_last-rest.ensures (clients_one c.args.script c.requires.served))

pub invariant_of-result : goal.invariant_of-result
invariant_of-result g c =
    let of : c.in_ok-ended.ended.of ≡ c.take_last-rest.result.1 = c.in_ok-ended.ensures.of ∙ c.in_ok-run.ensures.turned.of ∙ c.in_ok-target.ensures.of in
    let same : c.args.script.clients ≡ c.from_vec.result =
    c.take_last-rest.ensures ∙ ap (λ o. c.take_last-rest.result.0.items ++ o ∷ []) (sym of) ∙ sym c.in_ok-push.ensures.items ∙ sym c.from_vec.ensures in
    record {
      printable = printed_again c.args.script c.args.options c.from_vec.result c.in_ok-ended.ended.threads c.in_ok-ended.ended.devices c.new.result same c.new.ensures
          c.requires.accepted c.requires.options (images_one c.args.script c.requires.served) (clients_one c.args.script c.requires.served)
          c.in_ok-ended.ensures.threads c.in_ok-ended.ensures.devices;
    }

pub end-requires-clause-owed : goal.end-requires-clause-owed
end-requires-clause-owed g c = c.in_ok-run.ensures.turned.devices ∙ c.in_ok-target.ensures.device

pub end-requires-clause-devices : goal.end-requires-clause-devices
end-requires-clause-devices g c = c.in_ok-run.ensures.turned.running.app_devices ∙ c.in_ok-run.ensures.turned.devices ∙ c.in_ok-target.ensures.device

pub returns-clause-whole : goal.returns-clause-whole
returns-clause-whole g c =
    let s = c.args.script in
    let of = c.take_last-rest.result.1 in
    let of_is : c.in_ok-ended.ended.of ≡ of = c.in_ok-ended.ensures.of ∙ c.in_ok-run.ensures.turned.of ∙ c.in_ok-target.ensures.of in
    let same : s.clients ≡ c.from_vec.result =
    c.take_last-rest.ensures ∙ ap (λ o. c.take_last-rest.result.0.items ++ o ∷ []) (sym of_is) ∙ sym c.in_ok-push.ensures.items ∙ sym c.from_vec.ensures in
    let clients = single_last s.clients _ of c.take_last-rest.ensures (clients_one s c.requires.served) in
    let images = single s.images c.index-as_slice-0.result (images_one s c.requires.served)
    (c.index-as_slice-0.is ∙ ap (λ l. get_or l 0 c.index-as_slice-0.result) c.as_slice.ensures) in
    let start = c.in_ok-target.ensures.order s images clients in
    let deep : 1 ≤ c.run.new.self.client.of.depth =
    subst (λ o. 1 ≤ o.depth) (sym (c.in_ok-run.ensures.turned.of ∙ c.in_ok-target.ensures.of)) (depth_one s of c.requires.accepted clients) in
    subst (λ (cs : List ClientOf). Leaves (record { images = s.images; clients = cs; small = s.small; large = s.large }) c.in_ok-ended.ended.threads c.in_ok-ended.ended.devices) same
    (c.in_ok-ended.ensures.whole s (c.in_ok-run.ensures.turned.order s start) (c.in_ok-run.ensures.rests s start) deep)
