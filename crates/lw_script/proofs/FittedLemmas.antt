-- A fitted script breaks the same first rule, and is the script itself where it breaks none.
use Rattle.std.proofs.Common.{◌≡◌, ℕ, ◌*◌, ◌<◌, ◌≤◌, Bool, true, false, ◌&&◌, ◌||◌, ◌==◌, nat_lt, nat_le, List, [], ◌∷◌, ◌++◌, map, length, Option, Some, None, option_map, flat_map, mul_comm, ap, sym, ◌∙◌, refl, arith, leb-true, leb-false, eqb-true, ltb-true}
use Rattle.std.specs.List.{list_all}
use Rattle.std.specs.Option.{option_or}
use Rattle.std.proofs.Math.Nat.{min-eq_left, min-eq_right, le-mul_of_pos_right}
use Rattle.std.proofs.lemmas.List.{length-map}
use Rattle.std.proofs.lemmas.List.Folds.{list_all-map}
use Rattle.lw_base.proofs.Bools.{and_first, and_second}
use Rattle.lw_model.specs.declared.script.Script.{Script}
use Rattle.lw_model.specs.declared.script.ImageOf.{ImageOf}
use Rattle.lw_model.specs.declared.script.ClientOf.{ClientOf}
use Rattle.lw_model.specs.declared.refusal.ScriptRefusal.{ScriptRefusal}
use Rattle.lw_model.specs.declared.refusal.ScriptRefusal.TheVariants.{Limit, Name, Range, Pattern}
use Rattle.lw_model.specs.ScriptRules.{unless, first_some, rule_broken, is_within, is_among, has_image_count, has_block_sizes, has_image_sizes, has_client_count, has_depths, has_op_count, has_pool_counts, has_round_count, has_wait_times, has_names, first_out_of_range, first_bad_pattern}
use Rattle.lw_model.proofs.Rules.{kept}
use Rattle.lw_script.specs.Fitted.{fitted, fitted_image, fitted_client, fitted_script}
use Rattle.lw_script_rules.proofs.RuleLemmas.{first_some-append}
use Rattle.lw_model.proofs.Passing.{list_all-same}

-- ---- numbers

small-same : (n : ℕ) → n ≤ 4294967295 → fitted n ≡ n
small-same n small = min-eq_left small

-- a test that no number above the greatest passes, nor that number
same-test : (p : ℕ → Bool) → p 4294967295 ≡ false → ((n : ℕ) → p n ≡ true → n ≤ 4294967295) → (n : ℕ) → p (fitted n) ≡ p n
same-test p top passes n = by_size (nat_le n 4294967295) refl
  where
    large : (t : Bool) → p n ≡ t → 4294967295 < n → p n ≡ false
    large true e above = absurd (omega (arith, passes n e, above))
    large false e above = e

    by_size : (t : Bool) → nat_le n 4294967295 ≡ t → p (fitted n) ≡ p n
    by_size true e = ap p (small-same n (leb-true n 4294967295 e))
    by_size false e =
        let above : 4294967295 < n = leb-false n 4294967295 e in
        ap p (min-eq_right (omega (arith, above))) ∙ top ∙ sym (large (p n) refl above)

among-le : (ms : List ℕ) (n k : ℕ) → list_all (λ m. nat_le m k) ms ≡ true → is_among ms n ≡ true → n ≤ k
among-le [] n k all e = let wrong : false ≡ true = e in cc
among-le (m ∷ ms) n k all e = by_test (m == n) refl e (among-le ms n k (and_second (nat_le m k) (list_all (λ i. nat_le i k) ms) all))
  where
    by_test : (t : Bool) → (m == n) ≡ t → is_among (m ∷ ms) n ≡ true → (is_among ms n ≡ true → n ≤ k) → n ≤ k
    by_test true same found later =
        let low : m ≤ k = leb-true m k (and_first (nat_le m k) (list_all (λ i. nat_le i k) ms) all) in
        let here : m ≡ n = eqb-true m n same in
        omega (arith, low, here)
    by_test false other found later = later (sym (ap (λ b. b || is_among ms n) other) ∙ found)

within-le : (low high n : ℕ) → is_within low high n ≡ true → n ≤ high
within-le low high n e = leb-true n high (and_second (nat_le low n) (nat_le n high) e)

abbrev blocks : List ℕ
blocks = 16 ∷ 32 ∷ 64 ∷ 128 ∷ 256 ∷ 512 ∷ 1024 ∷ 2048 ∷ 4096 ∷ []

block-small : (n : ℕ) → is_among blocks n ≡ true → n ≤ 4294967295
block-small n e = among-le blocks n 4294967295 refl e

depth-small : (n : ℕ) → is_within 1 32 n ≡ true → n ≤ 4294967295
depth-small n e = omega (arith, within-le 1 32 n e)

count-small : (n : ℕ) → is_within 1 1024 n ≡ true → n ≤ 4294967295
count-small n e = omega (arith, within-le 1 1024 n e)

-- an image of some blocks, of this size each
abbrev is_size : ℕ → ℕ → Bool
is_size count size = nat_lt 0 count && nat_le (count * size) 16777216

size-small : (count n : ℕ) → is_size count n ≡ true → n ≤ 4294967295
size-small count n e =
    let some : 0 < count = ltb-true 0 count (and_first (nat_lt 0 count) (nat_le (count * n) 16777216) e) in
    let all : count * n ≤ 16777216 = leb-true (count * n) 16777216 (and_second (nat_lt 0 count) (nat_le (count * n) 16777216) e) in
    let more : n ≤ n * count = le-mul_of_pos_right n some in
    let flipped = mul_comm n count in
    omega (arith, all, more, flipped)

size-top : (count : ℕ) → is_size count 4294967295 ≡ false
size-top count = by_test (is_size count 4294967295) refl
  where
    by_test : (t : Bool) → is_size count 4294967295 ≡ t → is_size count 4294967295 ≡ false
    by_test true e =
        let some : 0 < count = ltb-true 0 count (and_first (nat_lt 0 count) (nat_le (count * 4294967295) 16777216) e) in
        let all : count * 4294967295 ≤ 16777216 = leb-true (count * 4294967295) 16777216 (and_second (nat_lt 0 count) (nat_le (count * 4294967295) 16777216) e) in
        absurd (omega (arith, some, all))
    by_test false e = e

-- ---- lists

-- what passes a test stays the same
map-kept : {X : Type 0} (p : X → Bool) (f : X → X) → ((x : X) → p x ≡ true → f x ≡ x) → (xs : List X) → list_all p xs ≡ true → map f xs ≡ xs
map-kept p f kept [] e = refl
map-kept p f kept (x ∷ xs) e = ap (λ y. y ∷ map f xs) (kept x (and_first (p x) (list_all p xs) e)) ∙ ap (λ t. x ∷ t) (map-kept p f kept xs (and_second (p x) (list_all p xs) e))

ops-same : (cs : List ClientOf) → flat_map (λ c. c.ops) (map fitted_client cs) ≡ flat_map (λ c. c.ops) cs
ops-same [] = refl
ops-same (c ∷ cs) = ap (λ t. c.ops ++ t) (ops-same cs)

-- ---- rules

abbrev head : Script → List (Option ScriptRefusal)
head s =
    (unless (has_image_count s) (Limit 1)
    ∷ unless (has_block_sizes s) (Limit 2)
    ∷ unless (has_image_sizes s) (Limit 3)
    ∷ unless (has_client_count s) (Limit 4)
    ∷ unless (has_depths s) (Limit 5)
    ∷ unless (has_op_count s) (Limit 6)
    ∷ unless (has_pool_counts s) (Limit 7)
    ∷ [])

abbrev tail : Script → List (Option ScriptRefusal)
tail s =
    (unless (has_round_count s) (Limit 8)
    ∷ unless (has_wait_times s) (Limit 9)
    ∷ unless (has_names s) Name
    ∷ option_map (λ p. Range p.client p.place) (first_out_of_range s)
    ∷ option_map (λ p. Pattern p.client p.place) (first_bad_pattern s)
    ∷ [])

-- seven answers, by what the tests say
abbrev answers : Bool → Bool → Bool → Bool → Bool → Bool → Bool → List (Option ScriptRefusal)
answers a b c d e f g = unless a (Limit 1) ∷ unless b (Limit 2) ∷ unless c (Limit 3) ∷ unless d (Limit 4) ∷ unless e (Limit 5) ∷ unless f (Limit 6) ∷ unless g (Limit 7) ∷ []

blocks-same : (s : Script) → has_block_sizes (fitted_script s) ≡ has_block_sizes s
blocks-same s =
    list_all-map (λ i. is_among blocks i.block) fitted_image s.images
    ∙ list_all-same (λ i. is_among blocks (fitted i.block)) (λ i. is_among blocks i.block) (λ i. same-test (is_among blocks) refl block-small i.block) s.images

sizes-same : (s : Script) → has_image_sizes (fitted_script s) ≡ has_image_sizes s
sizes-same s =
    list_all-map (λ i. is_size i.blocks i.block) fitted_image s.images
    ∙ list_all-same (λ i. is_size i.blocks (fitted i.block)) (λ i. is_size i.blocks i.block) (λ i. same-test (is_size i.blocks) (size-top i.blocks) (size-small i.blocks) i.block) s.images

depths-same : (s : Script) → has_depths (fitted_script s) ≡ has_depths s
depths-same s =
    list_all-map (λ c. is_within 1 32 c.depth) fitted_client s.clients
    ∙ list_all-same (λ c. is_within 1 32 (fitted c.depth)) (λ c. is_within 1 32 c.depth) (λ c. same-test (is_within 1 32) refl depth-small c.depth) s.clients

pools-same : (s : Script) → has_pool_counts (fitted_script s) ≡ has_pool_counts s
pools-same s =
    ap (λ b. b && is_within 1 1024 (fitted s.large)) (same-test (is_within 1 1024) refl count-small s.small)
    ∙ ap (λ b. is_within 1 1024 s.small && b) (same-test (is_within 1 1024) refl count-small s.large)

head-same : (s : Script) → head (fitted_script s) ≡ head s
head-same s =
    let f = fitted_script s in
    ap (λ a. answers a (has_block_sizes f) (has_image_sizes f) (has_client_count f) (has_depths f) (has_op_count f) (has_pool_counts f)) (ap (is_within 1 16) (length-map s.images fitted_image))
    ∙ ap (λ b. answers (has_image_count s) b (has_image_sizes f) (has_client_count f) (has_depths f) (has_op_count f) (has_pool_counts f)) (blocks-same s)
    ∙ ap (λ c. answers (has_image_count s) (has_block_sizes s) c (has_client_count f) (has_depths f) (has_op_count f) (has_pool_counts f)) (sizes-same s)
    ∙ ap (λ d. answers (has_image_count s) (has_block_sizes s) (has_image_sizes s) d (has_depths f) (has_op_count f) (has_pool_counts f)) (ap (is_within 1 64) (length-map s.clients fitted_client))
    ∙ ap (λ e. answers (has_image_count s) (has_block_sizes s) (has_image_sizes s) (has_client_count s) e (has_op_count f) (has_pool_counts f)) (depths-same s)
    ∙ ap (λ o. answers (has_image_count s) (has_block_sizes s) (has_image_sizes s) (has_client_count s) (has_depths s) o (has_pool_counts f)) (ap (λ os. nat_le (length os) 100000) (ops-same s.clients))
    ∙ ap (λ g. answers (has_image_count s) (has_block_sizes s) (has_image_sizes s) (has_client_count s) (has_depths s) (has_op_count s) g) (pools-same s)

abbrev made : List ImageOf → List ClientOf → ℕ → ℕ → Script
made images clients small large = record { images = images; clients = clients; small = small; large = large }

-- a script within the limits of its numbers
same-within : (s : Script) → first_some (head s) ≡ None → fitted_script s ≡ s
same-within s e =
    let blocks-kept = kept (head s) 1 (has_block_sizes s) (Limit 2) e refl in
    let depths-kept = kept (head s) 4 (has_depths s) (Limit 5) e refl in
    let pools-kept = kept (head s) 6 (has_pool_counts s) (Limit 7) e refl in
    let images = map-kept (λ i. is_among blocks i.block) fitted_image (λ i is. ap (λ b. record { name = i.name; block = b; blocks = i.blocks }) (small-same i.block (block-small i.block is))) s.images blocks-kept in
    let clients = map-kept (λ c. is_within 1 32 c.depth) fitted_client (λ c is. ap (λ d. record { name = c.name; depth = d; ops = c.ops }) (small-same c.depth (depth-small c.depth is))) s.clients depths-kept in
    let small = small-same s.small (count-small s.small (and_first (is_within 1 1024 s.small) (is_within 1 1024 s.large) pools-kept)) in
    let large = small-same s.large (count-small s.large (and_second (is_within 1 1024 s.small) (is_within 1 1024 s.large) pools-kept)) in
    ap (λ t. made t (map fitted_client s.clients) (fitted s.small) (fitted s.large)) images
    ∙ ap (λ t. made s.images t (fitted s.small) (fitted s.large)) clients
    ∙ ap (λ t. made s.images s.clients t (fitted s.large)) small
    ∙ ap (made s.images s.clients s.small) large

none-first : (o p : Option ScriptRefusal) → option_or o p ≡ None → o ≡ None
none-first None p e = refl
none-first (Some x) p e = e

pub rule_broken-fitted : (s : Script) → rule_broken (fitted_script s) ≡ rule_broken s
rule_broken-fitted s = by_head (first_some (head s)) refl
  where
    by_head : (o : Option ScriptRefusal) → first_some (head s) ≡ o → rule_broken (fitted_script s) ≡ rule_broken s
    by_head None e = ap rule_broken (same-within s e)
    by_head (Some x) e =
        first_some-append (head (fitted_script s)) (tail (fitted_script s))
        ∙ ap (λ o. option_or o (first_some (tail (fitted_script s)))) (ap first_some (head-same s) ∙ e)
        ∙ sym (first_some-append (head s) (tail s) ∙ ap (λ o. option_or o (first_some (tail s))) e)

pub fitted-accepted : (s : Script) → rule_broken s ≡ None → fitted_script s ≡ s
fitted-accepted s e = same-within s (none-first (first_some (head s)) (first_some (tail s)) (sym (first_some-append (head s) (tail s)) ∙ e))
