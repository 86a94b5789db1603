-- The first op that fails, client after client.
use Rattle.std.proofs.Common.{◌≡◌, ℕ, ◌+◌, List, [], ◌∷◌, ◌++◌, Bool, true, false, not, cond, map, flat_map, find, Option, Some, None, option_map, ap, sym, ◌∙◌, refl, append_assoc, append-nil, ◌<◌, length, take, drop, slice_index_or, position}
use Rattle.std.specs.List.{enumerate_from, position_from}
use Rattle.std.specs.Option.{option_or}
use Rattle.std.proofs.lemmas.Iterator.Adapters.{position_from-zero}
use Rattle.lw_model.specs.declared.script.Script.{Script}
use Rattle.lw_model.specs.declared.script.ClientOf.{ClientOf}
use Rattle.lw_model.specs.declared.script.Op.{Op}
use Rattle.lw_model.specs.ScriptRules.{Placed, placed_ops, with_earlier, first_failing}
use Rattle.std.proofs.lemmas.List.{take_more, at_drop_more}
use Rattle.std.proofs.lemmas.Grind.{flat_map-append}
use Rattle.lw_script_rules.specs.First.{place_in, ops_before}

abbrev pub ops_of : List Placed → List Op
ops_of ps = map (λ p. p.op) ps

-- a client's ops from this place on, each with both places
abbrev pub placed_from : ℕ → ℕ → List Op → List Placed
placed_from client n os = map (λ o. record { client = client; place = o.0; op = o.1 }) (enumerate_from n os)

abbrev pub placed_of : ℕ × ClientOf → List Placed
placed_of c = placed_from c.0 0 c.1.ops

abbrev pub places_of : Option Placed → Option (ℕ × ℕ)
places_of o = option_map (λ p. (p.client, p.place)) o

-- the first that fails, behind these ops
abbrev pub sought : (List Op → Op → Bool) → List Op → List Placed → Option Placed
sought test before [] = None
sought test before (p ∷ ps) = cond (not (test before p.op)) (Some p) (sought test (before ++ p.op ∷ []) ps)

-- its places, among these clients, the first of whom has this number
abbrev pub rest : (List Op → Op → Bool) → List Op → ℕ → List ClientOf → Option (ℕ × ℕ)
rest test before i cs = places_of (sought test before (flat_map placed_of (enumerate_from i cs)))

ops_of-more : (ps : List Placed) (p : Placed) → ops_of (ps ++ p ∷ []) ≡ ops_of ps ++ p.op ∷ []
ops_of-more [] p = refl
ops_of-more (q ∷ ps) p = ap (λ t. q.op ∷ t) (ops_of-more ps p)

find-sought : (test : List Op → Op → Bool) (earlier ps : List Placed) →
    option_map (λ p. p.1) (find (λ p. not (test (ops_of p.0) p.1.op)) (with_earlier earlier ps)) ≡ sought test (ops_of earlier) ps
find-sought test earlier [] = refl
find-sought test earlier (p ∷ ps) = by_test (not (test (ops_of earlier) p.op)) (find-sought test (earlier ++ p ∷ []) ps ∙ ap (λ b. sought test b ps) (ops_of-more earlier p))
  where
    found : Option (List Placed × Placed)
    found = find (λ q. not (test (ops_of q.0) q.1.op)) (with_earlier (earlier ++ p ∷ []) ps)

    by_test : (t : Bool) → option_map (λ q. q.1) found ≡ sought test (ops_of earlier ++ p.op ∷ []) ps →
        option_map (λ q. q.1) (cond t (Some (earlier, p)) found) ≡ cond t (Some p) (sought test (ops_of earlier ++ p.op ∷ []) ps)
    by_test true e = refl
    by_test false e = e

sought-append : (test : List Op → Op → Bool) (before : List Op) (ps qs : List Placed) →
    sought test before (ps ++ qs) ≡ option_or (sought test before ps) (sought test (before ++ ops_of ps) qs)
sought-append test before [] qs = ap (λ b. sought test b qs) (sym (append-nil before))
sought-append test before (p ∷ ps) qs =
    by_test (not (test before p.op)) (sought-append test (before ++ p.op ∷ []) ps qs ∙ ap (λ b. option_or (sought test (before ++ p.op ∷ []) ps) (sought test b qs)) (append_assoc before (p.op ∷ []) (ops_of ps)))
  where
    next : List Op
    next = before ++ p.op ∷ []

    by_test : (t : Bool) → sought test next (ps ++ qs) ≡ option_or (sought test next ps) (sought test (before ++ p.op ∷ ops_of ps) qs) →
        cond t (Some p) (sought test next (ps ++ qs)) ≡ option_or (cond t (Some p) (sought test next ps)) (sought test (before ++ p.op ∷ ops_of ps) qs)
    by_test true e = refl
    by_test false e = e

ops_of-placed : (client n : ℕ) (os : List Op) → ops_of (placed_from client n os) ≡ os
ops_of-placed client n [] = refl
ops_of-placed client n (o ∷ os) = ap (λ t. o ∷ t) (ops_of-placed client (n + 1) os)

sought-placed : (test : List Op → Op → Bool) (before : List Op) (client n : ℕ) (os : List Op) →
    places_of (sought test before (placed_from client n os)) ≡ option_map (λ j. (client, j)) (place_in test before n os)
sought-placed test before client n [] = refl
sought-placed test before client n (o ∷ os) = by_test (not (test before o)) (sought-placed test (before ++ o ∷ []) client (n + 1) os)
  where
    found : Option Placed
    found = sought test (before ++ o ∷ []) (placed_from client (n + 1) os)

    place : Option ℕ
    place = place_in test (before ++ o ∷ []) (n + 1) os

    by_test : (t : Bool) → places_of found ≡ option_map (λ j. (client, j)) place →
        places_of (cond t (Some (record { client = client; place = n; op = o })) found) ≡ option_map (λ j. (client, j)) (cond t (Some n) place)
    by_test true e = refl
    by_test false e = e

places-or : (a b : Option Placed) → places_of (option_or a b) ≡ option_or (places_of a) (places_of b)
places-or None b = refl
places-or (Some p) b = refl

-- a client's ops first, and then the others'
pub rest-cons : (test : List Op → Op → Bool) (before : List Op) (i : ℕ) (c : ClientOf) (cs : List ClientOf) →
    rest test before i (c ∷ cs) ≡ option_or (option_map (λ j. (i, j)) (place_in test before 0 c.ops)) (rest test (before ++ c.ops) (i + 1) cs)
rest-cons test before i c cs =
    let own = placed_of (i, c) in
    let others = flat_map placed_of (enumerate_from (i + 1) cs) in
    ap places_of (sought-append test before own others)
    ∙ places-or (sought test before own) (sought test (before ++ ops_of own) others)
    ∙ ap (λ o. option_or o (places_of (sought test (before ++ ops_of own) others))) (sought-placed test before i 0 c.ops)
    ∙ ap (λ os. option_or (option_map (λ j. (i, j)) (place_in test before 0 c.ops)) (places_of (sought test (before ++ os) others))) (ops_of-placed i 0 c.ops)

pub first_failing-rest : (test : List Op → Op → Bool) (s : Script) → places_of (first_failing test s) ≡ rest test [] 0 s.clients
first_failing-rest test s = ap places_of (find-sought test [] (placed_ops s))

pub ops_before-more : (cs : List ClientOf) (i : ℕ) (x : ClientOf) → i < length cs → x ≡ slice_index_or cs i x → ops_before cs (i + 1) ≡ ops_before cs i ++ x.ops
ops_before-more cs i x below is =
    ap (flat_map (λ c. c.ops)) (take_more cs i x below)
    ∙ flat_map-append (λ c. c.ops) (take i cs) (slice_index_or cs i x ∷ [])
    ∙ ap (λ t. ops_before cs i ++ t) (append-nil (slice_index_or cs i x).ops)
    ∙ ap (λ y. ops_before cs i ++ y.ops) (sym is)

-- one client on
pub rest-step : (test : List Op → Op → Bool) (cs : List ClientOf) (i : ℕ) (x : ClientOf) → i < length cs → x ≡ slice_index_or cs i x →
    rest test (ops_before cs i) i (drop i cs) ≡ option_or (option_map (λ j. (i, j)) (place_in test (ops_before cs i) 0 x.ops)) (rest test (ops_before cs (i + 1)) (i + 1) (drop (i + 1) cs))
rest-step test cs i x below is =
    let before = ops_before cs i in
    let later = drop (i + 1) cs in
    at_drop_more (rest test before i) cs i x below
    ∙ ap (λ y. rest test before i (y ∷ later)) (sym is)
    ∙ rest-cons test before i x later
    ∙ ap (λ b. option_or (option_map (λ j. (i, j)) (place_in test before 0 x.ops)) (rest test b (i + 1) later)) (sym (ops_before-more cs i x below is))

-- a test of the op alone
place_in-position : (test : Op → Bool) (before : List Op) (n : ℕ) (os : List Op) → place_in (λ _. test) before n os ≡ position_from (λ o. not (test o)) n os
place_in-position test before n [] = refl
place_in-position test before n (o ∷ os) = ap (cond (not (test o)) (Some n)) (place_in-position test (before ++ o ∷ []) (n + 1) os)

pub position-place_in : (test : Op → Bool) (before : List Op) (os : List Op) → position (λ o. not (test o)) os ≡ place_in (λ _. test) before 0 os
position-place_in test before os = position_from-zero (λ o. not (test o)) os ∙ sym (place_in-position test before 0 os)
