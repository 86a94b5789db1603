use Rattle.std.proofs.Common.{◌∙◌, ◌∷◌, [], ◌++◌, codes, decimal, map, flat_map, ap, subst}
use Rattle.std.specs.List.{AllByRecursion, enumerate_from}
use Rattle.std.proofs.lemmas.Result.{on_ok_weaker}
use Rattle.lw_base.proofs.Lists.{none_is}
use Rattle.lw_model.specs.ReportText.{line, count_of, head_lines, image_line, client_lines, thread_lines, device_line, clock_lines, round_lines}
use Rattle.lw_model.specs.Ranges.{ClientFits, DeviceFits, ImageFits, RoundFits, ThreadFits}
use Rattle.lw_model.specs.ScriptRules.{rule_broken}
use Rattle.lw_model.proofs.Printed.{parts}
use Rattle.lw_model.proofs.Rules.{counts_fit}
use Rattle.lw_report_print.proofs.TextLemmas.{then, then_of, as_lines, more}
use Rattle.lw_report_print.proofs.text.push_record.Goals as goal

pub returns-clause-bytes : goal.returns-clause-bytes
returns-clause-bytes c =
    let r = c.args.of.now in
    let threads = enumerate_from 0 r.threads in
    let devices = enumerate_from 0 r.devices in
    let b1 = head_lines r in
    let b2 = b1 ++ line (codes "images" ∷ count_of r.script.images ∷ []) ∷ map image_line r.script.images in
    let b3 = b2 ++ line (codes "clients" ∷ count_of r.script.clients ∷ []) ∷ flat_map client_lines r.script.clients in
    let b4 = b3 ++ flat_map (λ p. thread_lines p.0 p.1) threads in
    let b5 = b4 ++ map (λ p. device_line p.0 p.1) devices in
    let b6 = b5 ++ clock_lines r.span in
    let b7 = b6 ++ flat_map round_lines r.rounds in
    let s1 = c.in_ok-push_head.ensures.bytes in
    let s2 = then_of (λ xs. line (codes "images" ∷ count_of xs ∷ []) ∷ map image_line xs) _ _ _ b1 r.script.images _ c.as_slice.ensures s1 c.in_ok-push_images.ensures.bytes in
    let s3 = then_of (λ xs. line (codes "clients" ∷ count_of xs ∷ []) ∷ flat_map client_lines xs) _ _ _ b2 r.script.clients _ c.as_slice-2.ensures s2 c.in_ok-push_clients.ensures.bytes in
    let s4 = then _ _ _ b3 (flat_map (λ p. thread_lines p.0 p.1) threads) s3 (as_lines (λ p. thread_lines p.0 p.1) _ _ threads _ (ap (enumerate_from 0) c.as_slice-3.ensures) c.in_ok-push_threads.ensures.bytes) in
    let s5 = c.in_ok-push_devices.ensures.bytes ∙ more (λ p. device_line p.0 p.1) _ _ b4 devices _ s4 (ap (enumerate_from 0) c.as_slice-4.ensures) in
    let s6 = then _ _ _ b5 (clock_lines r.span) s5 c.in_ok-push_clock.ensures.bytes in
    let s7 = then _ _ _ b6 (flat_map round_lines r.rounds) s6 (as_lines round_lines _ _ r.rounds _ c.as_slice-5.ensures c.in_ok-push_all.ensures.bytes) in
    let last = line (codes "home" ∷ decimal r.home.small ∷ decimal r.home.large ∷ []) ∷ codes "end" ∷ [] in
    on_ok_weaker c.push_end.result (λ e. then _ _ _ b7 last s7 e) c.push_end.ensures.bytes

pub returns-clause-range : goal.returns-clause-range
returns-clause-range c =
    let r = c.args.of.now in
    let head = c.in_ok-push_head.ensures.range in
    on_ok_weaker c.push_end.result (λ home. record {
      script = record {
        images = subst (AllByRecursion ImageFits) c.as_slice.ensures c.in_ok-push_images.ensures.range;
        clients = subst (AllByRecursion ClientFits) c.as_slice-2.ensures c.in_ok-push_clients.ensures.range;
        small = head.2;
        large = head.3;
        count = counts_fit r.script (none_is (rule_broken r.script) (parts r).script);
      };
      reactors = head.0;
      period = head.1;
      threads = subst (AllByRecursion ThreadFits) c.as_slice-3.ensures c.in_ok-push_threads.ensures.range;
      devices = subst (AllByRecursion DeviceFits) c.as_slice-4.ensures c.in_ok-push_devices.ensures.range;
      span = c.in_ok-push_clock.ensures.range;
      rounds = subst (AllByRecursion RoundFits) c.as_slice-5.ensures c.in_ok-push_all.ensures.range;
      home = home;
    }) c.push_end.ensures.range
