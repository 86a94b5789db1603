-- Each op of a record's script names an image that is there.
use Rattle.std.proofs.Common.{◌≡◌, ℕ, zero, suc, Bool, true, false, ◌&&◌, List, [], ◌∷◌, Some, is_none, option_map, unwrap_or, slice_get, refl, sym, ◌∙◌}
use Rattle.std.specs.List.{list_all, flat_map}
use Rattle.std.proofs.lemmas.Bool.{and_parts, true≢false}
use Rattle.std.proofs.lemmas.List.Folds.{list_all-append}
use Rattle.lw_base.proofs.Lists.{none_is}
use Rattle.lw_model.specs.declared.script.Script.{Script}
use Rattle.lw_model.specs.declared.script.ClientOf.{ClientOf}
use Rattle.lw_model.specs.declared.script.Op.{Op}
use Rattle.lw_model.specs.declared.record.Record.{Record}
use Rattle.lw_model.specs.ScriptRules.{has_names, names_an_image, all_ops, rule_broken}
use Rattle.lw_model.specs.Threads.{op_at}
use Rattle.lw_model.proofs.Rules.{names-kept}
use Rattle.lw_model.proofs.Passing.{item_passes}

of_client : (p : Op → Bool) (cs : List ClientOf) (c k : ℕ) (o : Op) → list_all p (flat_map (λ x. x.ops) cs) ≡ true → slice_get (unwrap_or (option_map (λ (x : ClientOf). x.ops) (slice_get cs c)) []) k ≡ Some o → p o ≡ true
of_client p [] c k o all at = cc
of_client p (x ∷ cs) zero k o all at = item_passes p x.ops k o (and_parts (list_all p x.ops) (list_all p (flat_map (λ y. y.ops) cs)) (sym (list_all-append p x.ops (flat_map (λ y. y.ops) cs)) ∙ all)).0 at
of_client p (x ∷ cs) (suc c) k o all at = of_client p cs c k o (and_parts (list_all p x.ops) (list_all p (flat_map (λ y. y.ops) cs)) (sym (list_all-append p x.ops (flat_map (λ y. y.ops) cs)) ∙ all)).1 at

ops_named : (s : Script) → has_names s ≡ true → list_all (names_an_image s) (all_ops s) ≡ true
ops_named s is = (and_parts _ (list_all (names_an_image s) (all_ops s)) is).1

first_of : (a b c d e f g : Bool) → (a && b && c && d && e && f && g) ≡ true → a ≡ true
first_of true b c d e f g is = refl
first_of false b c d e f g is = absurd (true≢false (sym is))

unbroken : (r : Record) → is_none (rule_broken r.script) ≡ true
unbroken r = first_of (is_none (rule_broken r.script)) _ _ _ _ _ _ r.printable

pub op_named : (r : Record) (t k : ℕ) (o : Op) → op_at r.script t k ≡ Some o → names_an_image r.script o ≡ true
op_named r zero k o at = cc
op_named r (suc c) k o at = of_client (names_an_image r.script) r.script.clients c k o (ops_named r.script (names-kept r.script (none_is (rule_broken r.script) (unbroken r)))) at
