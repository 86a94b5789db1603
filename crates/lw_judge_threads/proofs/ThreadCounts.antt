-- A record has few threads.
use Rattle.std.proofs.Common.{◌≡◌, ◌≤◌, nat_le, length, None, refl, arith}
use Rattle.std.proofs.lemmas.Bool.{and_parts, leb-true}
use Rattle.lw_base.proofs.Lists.{none_is}
use Rattle.lw_model.specs.declared.script.Script.{Script}
use Rattle.lw_model.specs.declared.record.Record.{Record}
use Rattle.lw_model.specs.declared.refusal.ScriptRefusal.TheVariants.{Limit}
use Rattle.lw_model.specs.ScriptRules.{rule_answers, rule_broken, has_client_count}
use Rattle.lw_model.specs.Threads.{thread_count}
use Rattle.lw_model.proofs.Rules.{kept, image_count-kept}
use Rattle.lw_model.proofs.Printed.{parts}

few : (s : Script) → rule_broken s ≡ None → thread_count s ≤ 81
few s e =
    let clients = and_parts (nat_le 1 (length s.clients)) (nat_le (length s.clients) 64) (kept (rule_answers s) 3 (has_client_count s) (Limit 4) e refl) in
    let images = and_parts (nat_le 1 (length s.images)) (nat_le (length s.images) 16) (image_count-kept s e) in
    omega (arith, leb-true (length s.clients) 64 clients.1, leb-true (length s.images) 16 images.1)

-- the app, at most 64 clients and at most 16 owners
pub few_threads : (r : Record) → thread_count r.script ≤ 81
few_threads r = few r.script (none_is (rule_broken r.script) (parts r).script)
