-- The record of a run of a script that is served is lawful.
use Rattle.std.proofs.Common.{◌≡◌, true, List, [], ◌∷◌, length, None, Result, Ok, Err, IfOk, slice_get, unwrap_or, option_map, refl, sym, ap, subst, ◌∙◌, arith}
use Rattle.std.specs.List.{list_all}
use Rattle.std.specs.declared.alloc.AllocError.{AllocError}
use Rattle.lw_model.specs.declared.script.Script.{Script}
use Rattle.lw_model.specs.declared.script.ImageOf.{ImageOf}
use Rattle.lw_model.specs.declared.script.ClientOf.{ClientOf}
use Rattle.lw_model.specs.declared.record.Record.{Record}
use Rattle.lw_model.specs.ScriptRules.{rule_broken}
use Rattle.lw_script_rules.specs.Served.{is_served}
use Rattle.lw_model.specs.Threads.{ops_of}
use Rattle.lw_model.specs.Lawful.{Lawful}
use Rattle.lw_target.specs.declared.options.Options.{Options}
use Rattle.lw_target.specs.Options.{AreServed}
use Rattle.lw_target.specs.Ops.{is_servable}
use Rattle.lw_target.specs.Run.{IsOfWholeRun}
use Rattle.lw_target.proofs.Accepted.{images_one, clients_one, serves}
use Rattle.lw_target.proofs.WholeLawful.{whole_is_lawful}

-- each op of the one client is one that it can do
ops_served : (s : Script) → rule_broken s ≡ None → is_served s ≡ true → list_all (is_servable 1) (ops_of s 1) ≡ true
ops_served s rules served = at s.images s.clients refl refl
  where
    at : (is : List ImageOf) (cs : List ClientOf) → s.images ≡ is → s.clients ≡ cs → list_all (is_servable 1) (ops_of s 1) ≡ true
    at (i ∷ []) (c ∷ []) e f =
        subst (λ (ops : List _). list_all (is_servable 1) ops ≡ true)
        (sym (ap (λ (cs : List ClientOf). unwrap_or (option_map (λ (x : ClientOf). x.ops) (slice_get cs 0)) []) f)) (serves s i c rules served e f)
    at [] cs e f = absurd (omega (arith, ap length e, images_one s served))
    at (i ∷ j ∷ is) cs e f = absurd (omega (arith, ap length e, images_one s served))
    at (i ∷ []) [] e f = absurd (omega (arith, ap length f, clients_one s served))
    at (i ∷ []) (c ∷ d ∷ cs) e f = absurd (omega (arith, ap length f, clients_one s served))

-- what is told of the record of a run
pub record IsRecordOf (s : Script) (r : Record) : Type 0 where
  pub script : r.script ≡ s
  pub reactors : r.reactors ≡ 1
  pub span : r.span ≡ None
  pub small : r.home.small ≡ s.small
  pub large : r.home.large ≡ s.large
  pub whole : IsOfWholeRun r

pub run_is_lawful : (s : Script) (r : Record) → rule_broken s ≡ None → is_served s ≡ true → IsRecordOf s r → Lawful r
run_is_lawful s r rules served of =
    let left = of.whole in
    let served' : is_served r.script ≡ true = subst (λ q. is_served q ≡ true) (sym of.script) served in
    whole_is_lawful r left.app left.client left.owner left.device (record {
      threads = left.all;
      devices = left.one;
      images = images_one r.script served';
      clients = clients_one r.script served';
      ops = ops_served r.script (subst (λ q. rule_broken q ≡ None) (sym of.script) rules) served';
      span = of.span;
      reactors = of.reactors;
      small = of.small ∙ ap (λ (q : Script). q.small) (sym of.script);
      large = of.large ∙ ap (λ (q : Script). q.large) (sym of.script);
      whole = left.whole;
    })

pub all_lawful : (s : Script) (result : Result Record AllocError) → rule_broken s ≡ None → is_served s ≡ true → IfOk result (IsRecordOf s) → IfOk result Lawful
all_lawful s (Ok r) rules served of = run_is_lawful s r rules served of
all_lawful s (Err e) rules served of = tt

pub record_of : (s : Script) (result : Result Record AllocError) (o : Options) → AreServed o → IfOk result (λ r. r.script ≡ s) → IfOk result (λ r. r.reactors ≡ o.reactors)
    → IfOk result (λ r. (r.home.small ≡ s.small) × (r.home.large ≡ s.large)) → IfOk result (λ r. (r.span ≡ None) × (r.rounds ≡ [])) → IfOk result IsOfWholeRun → IfOk result (IsRecordOf s)
record_of s (Ok r) o served script reactors home none whole = record { script = script; reactors = reactors ∙ served.reactors; span = none.0; small = home.0; large = home.1; whole = whole }
record_of s (Err e) o served script reactors home none whole = tt
