-- What the rule of the type of records says, part by part.
use Rattle.std.proofs.Common.{◌≡◌, ◌+◌, ◌==◌, true, false, ◌&&◌, List, [], ◌∷◌, length, is_none, refl}
use Rattle.std.specs.List.{list_all, enumerate_from}
use Rattle.std.proofs.lemmas.Bool.{and_parts, eqb-true}
use Rattle.lw_model.specs.declared.record.Record.{Record}
use Rattle.lw_model.specs.ScriptRules.{rule_broken, is_within}
use Rattle.lw_model.specs.Printable.{is_empty, is_printable_thread, has_rounds}
use Rattle.lw_model.specs.Threads.{thread_count}

pub empty_is : {X : Type 0} (xs : List X) → is_empty xs ≡ true → xs ≡ []
empty_is [] h = refl
empty_is (x ∷ xs) h = let wrong : false ≡ true = h in cc

pub record Parts (r : Record) : Type 0 where
  pub script : is_none (rule_broken r.script) ≡ true
  pub reactors : is_within 1 16 r.reactors ≡ true
  pub period : is_within 1 1000000000000 r.period ≡ true
  pub threads : length r.threads ≡ thread_count r.script
  pub each_thread : list_all (λ p. is_printable_thread r.script p.0 p.1) (enumerate_from 0 r.threads) ≡ true
  pub devices : length r.devices ≡ length r.script.images
  pub rounds : has_rounds r.scheduler r.span r.rounds ≡ true

pub parts : (r : Record) → Parts r
parts r =
    let script = is_none (rule_broken r.script) in
    let reactors = is_within 1 16 r.reactors in
    let period = is_within 1 1000000000000 r.period in
    let threads = length r.threads == 1 + length r.script.clients + length r.script.images in
    let each = list_all (λ p. is_printable_thread r.script p.0 p.1) (enumerate_from 0 r.threads) in
    let devices = length r.devices == length r.script.images in
    let g = and_parts (script && reactors && period && threads && each && devices) (has_rounds r.scheduler r.span r.rounds) r.printable in
    let f = and_parts (script && reactors && period && threads && each) devices g.0 in
    let e = and_parts (script && reactors && period && threads) each f.0 in
    let d = and_parts (script && reactors && period) threads e.0 in
    let c = and_parts (script && reactors) period d.0 in
    let b = and_parts script reactors c.0 in
    record {
      script = b.0;
      reactors = b.1;
      period = c.1;
      threads = eqb-true (length r.threads) (1 + length r.script.clients + length r.script.images) d.1;
      each_thread = e.1;
      devices = eqb-true (length r.devices) (length r.script.images) f.1;
      rounds = g.1;
    }
