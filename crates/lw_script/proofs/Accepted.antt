-- What bytes without a refusal keep.
use Rattle.std.proofs.Common.{◌≡◌, ◌≤◌, ℕ, Bool, true, false, nat_lt, List, length, Option, Some, None, is_none, option_map, if◌then◌else◌, arith, refl, ap, sym, ◌∙◌, subst}
use Rattle.std.proofs.lemmas.Bool.{lt-ltb}
use Rattle.serde_json.specs.Data.{Data}
use Rattle.lw_model.specs.declared.script.Script.{Script}
use Rattle.lw_model.specs.declared.refusal.ScriptRefusal.{ScriptRefusal}
use Rattle.lw_model.specs.declared.refusal.ScriptRefusal.TheVariants.{TooLong, NotJson, NotBuilt}
use Rattle.lw_model.specs.ScriptRules.{rule_broken}
use Rattle.lw_model.specs.ScriptShape.{value_answers, script_in}
use Rattle.lw_model.specs.ScriptText.{value_of, refusal_of, refusal_by_value, script_of}
use Rattle.lw_script_rules.specs.Served.{is_served, unserved, run_refusal}
use Rattle.lw_model.proofs.Rules.{each-none}

-- where neither refuses, both are none
both-none : (o u : Option ScriptRefusal) → (if is_none o then u else o) ≡ None → (o ≡ None) × (u ≡ None)
both-none None u e = (refl, e)
both-none (Some r) u e = let wrong : Some r ≡ None = e in cc

pub unrefused : (bytes : List ℕ) → run_refusal bytes ≡ None → (refusal_of bytes ≡ None) × (unserved (script_of bytes) ≡ None)
unrefused bytes e = both-none (refusal_of bytes) (unserved (script_of bytes)) e

by_length : (b : Bool) (rest : Option ScriptRefusal) → (if b then Some TooLong else rest) ≡ None → (b ≡ false) × (rest ≡ None)
by_length true rest e = let wrong : Some TooLong ≡ None = e in cc
by_length false rest e = (refl, e)

pub not_long : (bytes : List ℕ) → refusal_of bytes ≡ None → (nat_lt 16777216 (length bytes) ≡ false) × (refusal_by_value (value_of bytes) ≡ None)
not_long bytes e = by_length (nat_lt 16777216 (length bytes)) (refusal_by_value (value_of bytes)) e

by_value : (o : Option Data) (s : Script) → refusal_by_value o ≡ None → option_map script_in o ≡ Some s → rule_broken s ≡ None
by_value None s e at = let wrong : Some NotJson ≡ None = e in cc
by_value (Some d) s e at =
    let same : script_in d ≡ s = some-equal (script_in d) s at in
    subst (λ t. rule_broken t ≡ None) same (each-none (value_answers d) 7 (rule_broken (script_in d)) e refl)
  where
    some-equal : (a b : Script) → Some a ≡ Some b → a ≡ b
    some-equal a b h = ap (λ o. elim o [ Some x ↦ x | None ↦ a ]) h

if-none : (o : Option ScriptRefusal) (p : Option Script) → o ≡ None → (if is_none o then p else None) ≡ p
if-none o p e = ap (λ q. if is_none q then p else None) e

-- the script of such bytes breaks no rule
pub keeps_rules : (bytes : List ℕ) (s : Script) → run_refusal bytes ≡ None → script_of bytes ≡ Some s → rule_broken s ≡ None
keeps_rules bytes s e at =
    let none = (unrefused bytes e).0 in
    by_value (value_of bytes) s (not_long bytes none).1 (sym (if-none (refusal_of bytes) (option_map script_in (value_of bytes)) none) ∙ at)

served : (b : Bool) → (if b then None else Some NotBuilt) ≡ None → b ≡ true
served true e = refl
served false e = let wrong : Some NotBuilt ≡ None = e in cc

-- and is served
pub is_of_the_form : (bytes : List ℕ) (s : Script) → run_refusal bytes ≡ None → script_of bytes ≡ Some s → is_served s ≡ true
is_of_the_form bytes s e at = served (is_served s) (subst (λ o. unserved o ≡ None) at (unrefused bytes e).1)

-- they are within a script's limit
pub within_limit : (bytes : List ℕ) → run_refusal bytes ≡ None → length bytes ≤ 16777216
within_limit bytes e = at_most (length bytes) (not_long bytes (unrefused bytes e).0).0
  where
    at_most : (n : ℕ) → nat_lt 16777216 n ≡ false → n ≤ 16777216
    at_most n f = omega (arith, Rattle.std.proofs.lemmas.Bool.ltb-false 16777216 n f)
