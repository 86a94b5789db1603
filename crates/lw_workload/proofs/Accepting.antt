-- The script of a load keeps every rule of a script.
use Rattle.std.proofs.Common.{◌≡◌, ◌≤◌, ◌<◌, ℕ, zero, suc, ◌+◌, ◌*◌, ◌/◌, ◌%◌, ◌==◌, Bool, true, false, not, ◌&&◌, cond, if◌then◌else◌, List, [], ◌∷◌, ◌++◌, map, length, length-append, Some, None, count_by, flat_map, find, refl, ap, ◌∙◌, arith}
use Rattle.std.specs.List.{range_with_len, enumerate_from, list_all, AllByRecursion}
use Rattle.std.proofs.lemmas.List.FromFn.{length-map-range_with_len}
use Rattle.std.proofs.lemmas.List.Sums.{sum_by-cons}
use Rattle.lw_model.specs.declared.script.ClientOf.{ClientOf}
use Rattle.lw_model.specs.declared.script.Op.{Op}
use Rattle.lw_model.specs.declared.script.Op.TheVariants as op
use Rattle.lw_model.proofs.Growth.{all-append}
use Rattle.lw_model.specs.ScriptRules.{Placed, with_earlier}
use Rattle.lw_workload.specs.Workload.{bytes_of, word_at, op_drawn, op_at, ops_drawn, client_drawn, share}

-- an op on one of the four images, of one block of it
abbrev pub IsPlain : Op → Type 0
IsPlain (op.Get d) = d < 4
IsPlain (op.Put d) = d < 4
IsPlain (op.Write d start count pattern) = (d < 4) × (start < 1024) × (count ≡ 1) × (length pattern ≡ 4)
IsPlain (op.Read d start count) = (d < 4) × (start < 1024) × (count ≡ 1)
IsPlain (op.Flush d) = d < 4
IsPlain _ = ⊥

abbrev pub ArePlain : List Op → Type 0
ArePlain os = AllByRecursion IsPlain os

plain_kind : (b e : Bool) (d start v : ℕ) → d < 4 → start < 1024 → IsPlain (if b then op.Read d start 1 else if e then op.Flush d else op.Write d start 1 (bytes_of v))
plain_kind true e d start v image block = (image, block, refl)
plain_kind false true d start v image block = image
plain_kind false false d start v image block = (image, block, refl, refl)

pub plain_drawn : (c w v : ℕ) → c < 8 → IsPlain (op_drawn c w v)
plain_drawn c w v small = plain_kind (w / 4 % 4 == 2) (w / 4 % 4 == 3) (w % 4) (128 * c + w / 16 % 128) v (omega arith) (omega (arith, small))

all_mapped : {X : Type 0} (P : X → Type 0) (f : ℕ → X) (most : ℕ) → ((k : ℕ) → k < most → P (f k)) → (a n : ℕ) → a + n ≤ most → AllByRecursion P (map f (range_with_len a n))
all_mapped P f most each a zero below = record {}
all_mapped P f most each a (suc n) below = (each a (omega (arith, below)), all_mapped P f most each (a + 1) n (omega (arith, below)))

pub plain_ops : (seed n c : ℕ) → c < 8 → ArePlain (ops_drawn seed n c)
plain_ops seed n c small =
    all-append IsPlain (map op.Get (range_with_len 0 4)) _ (all_mapped IsPlain op.Get 4 (λ d below. below) 0 4 (omega arith))
    (all-append IsPlain (map (λ i. op_at seed (8 * i + c)) (range_with_len 0 (share n c))) _
    (all_mapped IsPlain (λ i. op_at seed (8 * i + c)) (share n c) (λ i below. plain_drawn ((8 * i + c) % 8) (word_at seed (2 * (8 * i + c))) (word_at seed (2 * (8 * i + c) + 1)) (omega arith)) 0 (share n c) (omega arith))
    (all_mapped IsPlain op.Put 4 (λ d below. below) 0 4 (omega arith)))

pub plain_clients : (seed n : ℕ) → AllByRecursion (λ (c : ClientOf). ArePlain c.ops) (map (client_drawn seed n) (range_with_len 0 8))
plain_clients seed n = all_mapped (λ (c : ClientOf). ArePlain c.ops) (client_drawn seed n) 8 (λ c small. plain_ops seed n c small) 0 8 (omega arith)

-- the ops of all clients
pub plain_all : (cs : List ClientOf) → AllByRecursion (λ (c : ClientOf). ArePlain c.ops) cs → ArePlain (flat_map (λ (c : ClientOf). c.ops) cs)
plain_all [] h = record {}
plain_all (c ∷ cs) h = all-append IsPlain c.ops _ h.0 (plain_all cs h.1)

-- a client has 4,008 ops at most
few_ops : (seed n c : ℕ) → n ≤ 32000 → length (ops_drawn seed n c) ≤ 4008
few_ops seed n c few =
    let drawn = map (λ i. op_at seed (8 * i + c)) (range_with_len 0 (share n c)) in
    let puts = map op.Put (range_with_len 0 4) in
    let some : length drawn ≡ share n c = length-map-range_with_len (λ i. op_at seed (8 * i + c)) 0 (share n c) in
    let behind : length (drawn ++ puts) ≡ length drawn + 4 = length-append drawn puts in
    let all : length (ops_drawn seed n c) ≡ 4 + length (drawn ++ puts) = length-append (map op.Get (range_with_len 0 4)) (drawn ++ puts) in
    omega (arith, all, behind, some, few)

pub few_in_clients : (seed n : ℕ) → n ≤ 32000 → AllByRecursion (λ (c : ClientOf). length c.ops ≤ 4008) (map (client_drawn seed n) (range_with_len 0 8))
few_in_clients seed n few = all_mapped (λ (c : ClientOf). length c.ops ≤ 4008) (client_drawn seed n) 8 (λ c small. few_ops seed n c few) 0 8 (omega arith)

pub few_in_all : (cs : List ClientOf) → AllByRecursion (λ (c : ClientOf). length c.ops ≤ 4008) cs → length (flat_map (λ (c : ClientOf). c.ops) cs) ≤ 4008 * length cs
few_in_all [] h = omega arith
few_in_all (c ∷ cs) h =
    let sum : length (c.ops ++ flat_map (λ (c : ClientOf). c.ops) cs) ≡ length c.ops + length (flat_map (λ (c : ClientOf). c.ops) cs) = length-append _ _ in
    omega (arith, sum, h.0, few_in_all cs h.1)

-- each passes, and none is counted
pub all_pass : (p : Op → Bool) → ((o : Op) → IsPlain o → p o ≡ true) → (os : List Op) → ArePlain os → list_all p os ≡ true
all_pass p each [] h = refl
all_pass p each (o ∷ os) h = ap (λ (b : Bool). b && list_all p os) (each o h.0) ∙ all_pass p each os h.1

pub none_counted : (p : Op → Bool) → ((o : Op) → IsPlain o → p o ≡ false) → (os : List Op) → ArePlain os → count_by p os ≡ 0
none_counted p each [] h = refl
none_counted p each (o ∷ os) h =
    let one : Bool → ℕ = λ b. cond b 1 0 in
    let first : one (p o) ≡ one false = ap one (each o h.0) in
    omega (arith, sum_by-cons (λ x. one (p x)) o os, first, none_counted p each os h.1)

-- each placed op is one of these, and there are no more of them
abbrev pub placed_in : ℕ → List Op → ℕ → List Placed
placed_in c os i = map (λ (o : ℕ × Op). record { client = c; place = o.0; op = o.1 }) (enumerate_from i os)

plain_placed_in : (c : ℕ) (os : List Op) (i : ℕ) → ArePlain os → AllByRecursion (λ (p : Placed). IsPlain p.op) (placed_in c os i)
plain_placed_in c [] i h = record {}
plain_placed_in c (o ∷ os) i h = (h.0, plain_placed_in c os (i + 1) h.1)

length_placed_in : (c : ℕ) (os : List Op) (i : ℕ) → length (placed_in c os i) ≡ length os
length_placed_in c [] i = refl
length_placed_in c (o ∷ os) i = ap suc (length_placed_in c os (i + 1))

abbrev pub placed_of : List ClientOf → ℕ → List Placed
placed_of cs i = flat_map (λ (c : ℕ × ClientOf). placed_in c.0 c.1.ops 0) (enumerate_from i cs)

pub plain_placed : (cs : List ClientOf) (i : ℕ) → AllByRecursion (λ (c : ClientOf). ArePlain c.ops) cs → AllByRecursion (λ (p : Placed). IsPlain p.op) (placed_of cs i)
plain_placed [] i h = record {}
plain_placed (c ∷ cs) i h = all-append (λ (p : Placed). IsPlain p.op) (placed_in i c.ops 0) _ (plain_placed_in i c.ops 0 h.0) (plain_placed cs (i + 1) h.1)

pub length_placed : (cs : List ClientOf) (i : ℕ) → length (placed_of cs i) ≡ length (flat_map (λ (c : ClientOf). c.ops) cs)
length_placed [] i = refl
length_placed (c ∷ cs) i =
    let one : length (placed_in i c.ops 0 ++ placed_of cs (i + 1)) ≡ length (placed_in i c.ops 0) + length (placed_of cs (i + 1)) = length-append _ _ in
    let two : length (c.ops ++ flat_map (λ (c : ClientOf). c.ops) cs) ≡ length c.ops + length (flat_map (λ (c : ClientOf). c.ops) cs) = length-append _ _ in
    omega (arith, one, two, length_placed_in i c.ops 0, length_placed cs (i + 1))

-- where a test holds of each op behind few that are plain, none is the first that fails
pub none_fails : (test : List Op → Op → Bool) (most : ℕ) → ((before : List Op) (o : Op) → ArePlain before → length before < most → IsPlain o → test before o ≡ true)
    → (before rest : List Placed) → AllByRecursion (λ (p : Placed). IsPlain p.op) before → AllByRecursion (λ (p : Placed). IsPlain p.op) rest
    → length before + length rest ≤ most
    → find (λ (p : List Placed × Placed). not (test (map (λ (q : Placed). q.op) p.0) p.1.op)) (with_earlier before rest) ≡ None
none_fails test most each before [] b r few = refl
none_fails test most each before (p ∷ rest) b r few =
    let ops = map (λ (q : Placed). q.op) before in
    let holds : test ops p.op ≡ true = each ops p.op (plain_mapped before b) (omega (arith, few, length_mapped before)) r.0 in
    let passes : not (test ops p.op) ≡ false = ap not holds in
    let more : length (before ++ p ∷ []) ≡ length before + 1 = length-append before (p ∷ []) in
    ap (λ (f : Bool). cond f (Some (before, p)) (find (λ (p : List Placed × Placed). not (test (map (λ (q : Placed). q.op) p.0) p.1.op)) (with_earlier (before ++ p ∷ []) rest))) passes
    ∙ none_fails test most each (before ++ p ∷ []) rest (all-append (λ (p : Placed). IsPlain p.op) before (p ∷ []) b (r.0, record {})) r.1 (omega (arith, few, more))
  where
    plain_mapped : (ps : List Placed) → AllByRecursion (λ (p : Placed). IsPlain p.op) ps → ArePlain (map (λ (q : Placed). q.op) ps)
    plain_mapped [] h = record {}
    plain_mapped (p ∷ ps) h = (h.0, plain_mapped ps h.1)

    length_mapped : (ps : List Placed) → length (map (λ (q : Placed). q.op) ps) ≡ length ps
    length_mapped [] = refl
    length_mapped (p ∷ ps) = ap suc (length_mapped ps)
