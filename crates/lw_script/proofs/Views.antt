-- The lists and members of a value's view.
use Rattle.std.proofs.Common.{◌≡◌, ℕ, ◌+◌, ◌∙◌, sym, ap, refl, Bool, false, ◌&&◌, ◌==◌, List, [], ◌∷◌, map, length, Option, Some, None, is_some, option_map, unwrap_or, String, Bor, add-one}
use Rattle.std.specs.List.{list_all}
use Rattle.std.specs.declared.alloc.Global.{Global}
use Rattle.std.proofs.lemmas.List.{length-map}
use Rattle.std.proofs.lemmas.List.Folds.{list_all-map}
use Rattle.serde_json.specs.declared.value.Value.{Value}
use Rattle.serde_json.specs.Data.{Data, null, boolean, number, string, array, object}
use Rattle.serde_json.specs.Find.{get, as_object}
use Rattle.serde_json.specs.View.{items_of, members_view, view}
use Rattle.lw_model.specs.ScriptShape.{list_of, has_keys, member_count}

pub list_of-items_of : (ds : List Data) → list_of (items_of ds) ≡ ds
list_of-items_of [] = refl
list_of-items_of (d ∷ ds) = ap (λ t. d ∷ t) (list_of-items_of ds)

pub member_count-members_view : (ms : List (String Global × Value)) → member_count (members_view ms) ≡ length ms
member_count-members_view [] = refl
member_count-members_view (m ∷ ms) = ap (λ n. n + 1) (member_count-members_view ms) ∙ add-one (length ms)

-- a count of members and a test of each, where there is a count
abbrev pub counted : Option ℕ → Bool → ℕ → Bool
counted None each n = false
counted (Some m) each n = each && m == n

-- the keys that a value has, by its members
pub has_keys-by : (ks : List (Bor (List ℕ))) (d : Data) (o : Option ℕ) → o ≡ option_map member_count (as_object d) →
    has_keys (map (λ k. k.now) ks) d ≡ counted o (list_all (λ k. is_some (get k.now d)) ks) (length ks)
has_keys-by ks null o e = sym (ap (λ x. counted x (list_all (λ k. is_some (get k.now null)) ks) (length ks)) e)
has_keys-by ks (boolean b) o e = sym (ap (λ x. counted x (list_all (λ k. is_some (get k.now (boolean b))) ks) (length ks)) e)
has_keys-by ks (number n) o e = sym (ap (λ x. counted x (list_all (λ k. is_some (get k.now (number n))) ks) (length ks)) e)
has_keys-by ks (string s) o e = sym (ap (λ x. counted x (list_all (λ k. is_some (get k.now (string s))) ks) (length ks)) e)
has_keys-by ks (array ds) o e = sym (ap (λ x. counted x (list_all (λ k. is_some (get k.now (array ds))) ks) (length ks)) e)
has_keys-by ks (object ms) o e =
    ap (λ b. b && member_count ms == length (map (λ k. k.now) ks)) (list_all-map (λ k. is_some (get k (object ms))) (λ k. k.now) ks)
    ∙ ap (λ l. list_all (λ k. is_some (get k.now (object ms))) ks && member_count ms == l) (length-map ks (λ k. k.now))
    ∙ sym (ap (λ x. counted x (list_all (λ k. is_some (get k.now (object ms))) ks) (length ks)) e)

-- a test of each of a list of values, where there is one
pub all-values : (p : Data → Bool) (o : Option (List Data)) (vs : List Value) → o ≡ Some (map view vs) → list_all p (unwrap_or o []) ≡ list_all (λ v. p (view v)) vs
all-values p o vs e = ap (λ l. list_all p (unwrap_or l [])) e ∙ list_all-map p view vs

pub all-values-there : (p : Data → Bool) (o : Option (List Data)) (vs : List Value) → o ≡ Some (map view vs) → (is_some o && list_all p (unwrap_or o [])) ≡ list_all (λ v. p (view v)) vs
all-values-there p o vs e = ap (λ l. is_some l && list_all p (unwrap_or l [])) e ∙ list_all-map p view vs
