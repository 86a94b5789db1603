-- The first rule that a script breaks, part by part.
use Rattle.std.proofs.Common.{◌≡◌, ℕ, ◌<◌, List, [], ◌∷◌, ◌++◌, Option, Some, None, option_map, length, get_or, flat_map, ap, ◌∙◌, refl, arith}
use Rattle.std.specs.Option.{option_or}
use Rattle.std.proofs.lemmas.List.Folds.{length-flat_map-take}
use Rattle.lw_model.specs.declared.script.Script.{Script}
use Rattle.lw_model.specs.declared.script.ClientOf.{ClientOf}
use Rattle.lw_model.specs.declared.refusal.ScriptRefusal.{ScriptRefusal}
use Rattle.lw_model.specs.declared.refusal.ScriptRefusal.TheVariants.{Name, Range, Pattern}
use Rattle.lw_model.specs.ScriptRules.{Placed, unless, first_some, rule_broken, has_names, first_out_of_range, first_bad_pattern}
use Rattle.lw_script_rules.specs.Rules.{limit_answers, limit_broken}

pub first_some-append : (os ps : List (Option ScriptRefusal)) → first_some (os ++ ps) ≡ option_or (first_some os) (first_some ps)
first_some-append [] ps = refl
first_some-append (None ∷ os) ps = first_some-append os ps
first_some-append (Some x ∷ os) ps = refl

pub first_some-cons : (o : Option ScriptRefusal) (os : List (Option ScriptRefusal)) → first_some (o ∷ os) ≡ option_or o (first_some os)
first_some-cons None os = refl
first_some-cons (Some x) os = refl

pub option_or-none : (o : Option ScriptRefusal) → option_or o None ≡ o
option_or-none None = refl
option_or-none (Some x) = refl

-- the limits, then the names, the ranges and the patterns
pub rule_broken-parts : (s : Script) →
    rule_broken s ≡ option_or (limit_broken s) (option_or (unless (has_names s) Name)
    (option_or (option_map (λ p. Range p.client p.place) (first_out_of_range s)) (option_map (λ p. Pattern p.client p.place) (first_bad_pattern s))))
rule_broken-parts s =
    let names = unless (has_names s) Name in
    let range = option_map (λ p. Range p.client p.place) (first_out_of_range s) in
    let pattern = option_map (λ p. Pattern p.client p.place) (first_bad_pattern s) in
    first_some-append (limit_answers s) (names ∷ range ∷ pattern ∷ [])
    ∙ ap (option_or (limit_broken s))
    (first_some-cons names (range ∷ pattern ∷ [])
    ∙ ap (option_or names) (first_some-cons range (pattern ∷ []) ∙ ap (option_or range) (first_some-cons pattern [] ∙ option_or-none pattern)))

-- the refusal at the place that was found
pub refusal-at : (f : ℕ → ℕ → ScriptRefusal) (o : Option Placed) (found : Option (ℕ × ℕ)) → found ≡ option_map (λ p. (p.client, p.place)) o →
    option_map (λ q. f q.0 q.1) found ≡ option_map (λ p. f p.client p.place) o
refusal-at f None found e = ap (option_map (λ q. f q.0 q.1)) e
refusal-at f (Some p) found e = ap (option_map (λ q. f q.0 q.1)) e

-- a place among a client's ops is below the number of all ops
pub place-below : (cs : List ClientOf) (i : ℕ) (x : ClientOf) (j : ℕ) → i < length cs → x ≡ get_or cs i x → j < length x.ops → j < length (flat_map (λ c. c.ops) cs)
place-below cs i x j below is within =
    let here = length-flat_map-take (λ c. c.ops) cs i x below in
    let same = ap (λ y. length y.ops) is in
    omega (arith, here, same)
