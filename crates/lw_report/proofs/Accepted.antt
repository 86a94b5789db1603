-- What an accepted script has: names, and patterns of some bytes.
use Rattle.std.proofs.Common.{◌≡◌, ℕ, ◌+◌, Bool, true, false, cond, ◌&&◌, not, List, [], ◌∷◌, ◌++◌, map, find, Option, Some, None, option_map, refl, sym, ap, ◌∙◌}
use Rattle.std.specs.List.{list_all, enumerate_from}
use Rattle.std.proofs.lemmas.Bool.{and_parts, and_from}
use Rattle.lw_model.specs.declared.script.Script.{Script}
use Rattle.lw_model.specs.declared.script.ImageOf.{ImageOf}
use Rattle.lw_model.specs.declared.script.ClientOf.{ClientOf}
use Rattle.lw_model.specs.declared.script.Op.{Op}
use Rattle.lw_model.specs.declared.refusal.ScriptRefusal.TheVariants.{Pattern}
use Rattle.lw_model.specs.ScriptRules.{Placed, is_name, is_distinct, names_an_image, all_ops, is_pattern, placed_ops, with_earlier, first_bad_pattern, rule_answers, rule_broken}
use Rattle.lw_model.proofs.Rules.{names-kept, each-none}
use Rattle.lw_model.proofs.Passing.{list_all-flat_map, list_all-same}
use Rattle.std.proofs.lemmas.List.Folds.{list_all-map}

module _ (s : Script) (e : rule_broken s ≡ None) where
  all_named : (list_all is_name (map (λ i. i.name) s.images) ≡ true) × (list_all is_name (map (λ c. c.name) s.clients) ≡ true)
  all_named =
      let images = list_all is_name (map (λ (i : ImageOf). i.name) s.images) in
      let clients = list_all is_name (map (λ (c : ClientOf). c.name) s.clients) in
      let once = is_distinct (map (λ (i : ImageOf). i.name) s.images) in
      let twice = is_distinct (map (λ (c : ClientOf). c.name) s.clients) in
      let d = and_parts (images && clients && once && twice) (list_all (names_an_image s) (all_ops s)) (names-kept s e) in
      let c = and_parts (images && clients && once) twice d.0 in
      let b = and_parts (images && clients) once c.0 in
      and_parts images clients b.0

  pub images_named : list_all (λ (i : ImageOf). is_name i.name) s.images ≡ true
  images_named = sym (list_all-map is_name (λ (i : ImageOf). i.name) s.images) ∙ all_named.0

  pub clients_named : list_all (λ (c : ClientOf). is_name c.name) s.clients ≡ true
  clients_named = sym (list_all-map is_name (λ (c : ClientOf). c.name) s.clients) ∙ all_named.1

  none_bad : first_bad_pattern s ≡ None
  none_bad = at (first_bad_pattern s) (each-none (rule_answers s) 11 (option_map (λ p. Pattern p.client p.place) (first_bad_pattern s)) e refl)
    where
      at : (o : Option Placed) → option_map (λ p. Pattern p.client p.place) o ≡ None → o ≡ None
      at None h = refl
      at (Some p) h = let wrong : Some (Pattern p.client p.place) ≡ None = h in cc

-- where none was found, all fail the test
not_found : {X : Type 0} (p : X → Bool) (xs : List X) → find (λ x. not (p x)) xs ≡ None → list_all p xs ≡ true
not_found p [] e = refl
not_found {X = X} p (x ∷ xs) e = at (λ h. not_found p xs h) (p x) refl e
  where
    at : (find (λ x. not (p x)) xs ≡ None → list_all p xs ≡ true) → (b : Bool) → p x ≡ b → cond (not b) (Some x) (find (λ x. not (p x)) xs) ≡ None → list_all p (x ∷ xs) ≡ true
    at rest true is e = and_from (p x) (list_all p xs) is (rest e)
    at rest false is e = let wrong : Some x ≡ None = e in cc

all-earlier : {X : Type 0} (p : X → Bool) (before xs : List X) → list_all (λ q. p q.1) (with_earlier before xs) ≡ list_all p xs
all-earlier p before [] = refl
all-earlier p before (x ∷ xs) = ap (λ b. p x && b) (all-earlier p (before ++ x ∷ []) xs)

-- what holds of each numbered item of a list holds of each item
all-numbered : {X : Type 0} (p : X → Bool) (n : ℕ) (xs : List X) → list_all (λ q. p q.1) (enumerate_from n xs) ≡ list_all p xs
all-numbered p n [] = refl
all-numbered p n (x ∷ xs) = ap (λ b. p x && b) (all-numbered p (n + 1) xs)

pub patterns_fit : (s : Script) → rule_broken s ≡ None → list_all (λ (c : ClientOf). list_all is_pattern c.ops) s.clients ≡ true
patterns_fit s e =
    let test : Placed → Bool = λ p. is_pattern p.op in
    let ops : ℕ × ClientOf → List Placed = λ c. map (λ (o : ℕ × Op). record { client = c.0; place = o.0; op = o.1 }) (enumerate_from 0 c.1.ops) in
    let found = not_found (λ (q : List Placed × Placed). test q.1) (with_earlier [] (placed_ops s)) (unmapped (find (λ p. not (is_pattern p.1.op)) (with_earlier [] (placed_ops s))) (none_bad s e)) in
    sym (all-numbered (λ (c : ClientOf). list_all is_pattern c.ops) 0 s.clients)
    ∙ sym (list_all-same (λ c. list_all test (ops c)) (λ c. list_all is_pattern c.1.ops) (λ c. list_all-map test (λ (o : ℕ × Op). record { client = c.0; place = o.0; op = o.1 }) (enumerate_from 0 c.1.ops) ∙ all-numbered is_pattern 0 c.1.ops) (enumerate_from 0 s.clients))
    ∙ sym (list_all-flat_map test ops (enumerate_from 0 s.clients))
    ∙ sym (all-earlier test [] (placed_ops s))
    ∙ found
  where
    unmapped : (o : Option (List Placed × Placed)) → option_map (λ p. p.1) o ≡ None → o ≡ None
    unmapped None h = refl
    unmapped (Some p) h = let wrong : Some p.1 ≡ None = h in cc
