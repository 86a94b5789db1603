-- The script of a load keeps each rule of a script.
use Rattle.std.proofs.Common.{◌≡◌, ◌≤◌, ◌<◌, ℕ, zero, suc, ◌+◌, ◌*◌, Bool, true, false, ◌&&◌, nat_lt, nat_le, List, [], ◌∷◌, length, Option, None, option_map, sum_by, refl, ap, ◌∙◌, arith}
use Rattle.std.specs.Prelude.{◌||◌}
use Rattle.std.specs.Fmt.{digits}
use Rattle.std.specs.List.{list_any, AllByRecursion}
use Rattle.std.proofs.lemmas.Bool.{le-leb, lt-ltb}
use Rattle.std.proofs.lemmas.List.Sums.{sum_by-cons}
use Rattle.lw_model.specs.declared.script.Op.{Op}
use Rattle.lw_model.specs.declared.script.Op.TheVariants as op
use Rattle.lw_model.specs.declared.refusal.ScriptRefusal.{ScriptRefusal}
use Rattle.lw_model.specs.declared.refusal.ScriptRefusal.TheVariants.{Limit, Name, Range, Pattern}
use Rattle.lw_model.specs.ScriptRules.{unless, first_some, all_ops, Placed, placed_ops, blocks_at, block_at, read_bytes, is_in_image, is_in_range, is_pattern, goes_round, waits_within, names_an_image, has_op_count, has_round_count, has_wait_times, has_names, first_out_of_range, first_bad_pattern, rule_answers, rule_broken}
use Rattle.lw_workload.specs.Workload.{script_drawn, unregisters}
use Rattle.lw_workload.proofs.Accepting.{IsPlain, ArePlain, plain_all, plain_clients, few_in_all, few_in_clients, all_pass, none_counted, plain_placed, length_placed, none_fails}

all_plain : (seed n : ℕ) → ArePlain (all_ops (script_drawn seed n))
all_plain seed n = plain_all (script_drawn seed n).clients (plain_clients seed n)

few_all : (seed n : ℕ) → n ≤ 32000 → length (all_ops (script_drawn seed n)) ≤ 32064
few_all seed n few = few_in_all (script_drawn seed n).clients (few_in_clients seed n few)

-- the size of each image
blocks_are : (seed n d : ℕ) → d < 4 → (blocks_at (script_drawn seed n) d ≡ 1024) × (block_at (script_drawn seed n) d ≡ 512)
blocks_are seed n zero small = (refl, refl)
blocks_are seed n (suc zero) small = (refl, refl)
blocks_are seed n (suc (suc zero)) small = (refl, refl)
blocks_are seed n (suc (suc (suc zero))) small = (refl, refl)
blocks_are seed n (suc (suc (suc (suc d)))) small = let wrong : ⊥ = omega (arith, small) in elim wrong [ ]

-- what one op reads, and that it lies in its image
reads_little : (seed n : ℕ) (o : Op) → IsPlain o → read_bytes (script_drawn seed n) o ≤ 512
reads_little seed n (op.Read d start count) h =
    let same : count * block_at (script_drawn seed n) d ≡ 1 * 512 = ap (λ (k : ℕ). k * block_at (script_drawn seed n) d) h.2 ∙ ap (λ (k : ℕ). 1 * k) (blocks_are seed n d h.0).1 in
    omega (arith, same)
reads_little seed n (op.Get d) h = omega arith
reads_little seed n (op.Put d) h = omega arith
reads_little seed n (op.Write d start count pattern) h = omega arith
reads_little seed n (op.Flush d) h = omega arith
reads_little seed n (op.Wait ticks) h = elim h [ ]
reads_little seed n (op.Visit d) h = elim h [ ]
reads_little seed n op.Each h = elim h [ ]
reads_little seed n (op.Unregister d) h = elim h [ ]

lies_in : (seed n d start count : ℕ) → d < 4 → start < 1024 → count ≡ 1 → is_in_image (script_drawn seed n) d start count ≡ true
lies_in seed n d start count image block one =
    let size = blocks_are seed n d image in
    let whole : is_in_image (script_drawn seed n) d start 1 ≡ (nat_lt 0 1 && nat_le (start + 1) 1024 && nat_le (1 * 512) 131072) =
    ap (λ (b : ℕ). nat_lt 0 1 && nat_le (start + 1) b && nat_le (1 * block_at (script_drawn seed n) d) 131072) size.0
    ∙ ap (λ (b : ℕ). nat_lt 0 1 && nat_le (start + 1) 1024 && nat_le (1 * b) 131072) size.1 in
    let last : nat_le (start + 1) 1024 ≡ true = le-leb (start + 1) 1024 (omega (arith, block)) in
    ap (is_in_image (script_drawn seed n) d start) one ∙ whole ∙ ap (λ (b : Bool). nat_lt 0 1 && b && nat_le (1 * 512) 131072) last

reads_in_all : (seed n : ℕ) (os : List Op) → ArePlain os → sum_by (read_bytes (script_drawn seed n)) os ≤ 512 * length os
reads_in_all seed n [] h = omega arith
reads_in_all seed n (o ∷ os) h = omega (arith, sum_by-cons (read_bytes (script_drawn seed n)) o os, reads_little seed n o h.0, reads_in_all seed n os h.1)

in_range : (seed n : ℕ) (before : List Op) (o : Op) → ArePlain before → length before < 32064 → IsPlain o → is_in_range (script_drawn seed n) before o ≡ true
in_range seed n before (op.Read d start count) b few h =
    let same : count * block_at (script_drawn seed n) d ≡ 1 * 512 = ap (λ (k : ℕ). k * block_at (script_drawn seed n) d) h.2 ∙ ap (λ (k : ℕ). 1 * k) (blocks_are seed n d h.0).1 in
    let little : nat_le (sum_by (read_bytes (script_drawn seed n)) before + count * block_at (script_drawn seed n) d) 16777216 ≡ true =
    le-leb (sum_by (read_bytes (script_drawn seed n)) before + count * block_at (script_drawn seed n) d) 16777216 (omega (arith, same, reads_in_all seed n before b, few)) in
    ap (λ (p : Bool). p && nat_le (sum_by (read_bytes (script_drawn seed n)) before + count * block_at (script_drawn seed n) d) 16777216) (lies_in seed n d start count h.0 h.1 h.2) ∙ little
in_range seed n before (op.Write d start count pattern) b few h = lies_in seed n d start count h.0 h.1 h.2
in_range seed n before (op.Get d) b few h = refl
in_range seed n before (op.Put d) b few h = refl
in_range seed n before (op.Flush d) b few h = refl
in_range seed n before (op.Wait ticks) b few h = elim h [ ]
in_range seed n before (op.Visit d) b few h = elim h [ ]
in_range seed n before op.Each b few h = elim h [ ]
in_range seed n before (op.Unregister d) b few h = elim h [ ]

four : (o : Op) → IsPlain o → is_pattern o ≡ true
four (op.Write d start count pattern) h = ap (λ (k : ℕ). nat_le 1 k && nat_le k 64) h.3
four (op.Get d) h = refl
four (op.Put d) h = refl
four (op.Read d start count) h = refl
four (op.Flush d) h = refl
four (op.Wait ticks) h = elim h [ ]
four (op.Visit d) h = elim h [ ]
four op.Each h = elim h [ ]
four (op.Unregister d) h = elim h [ ]

stays : (o : Op) → IsPlain o → goes_round o ≡ false
stays (op.Get d) h = refl
stays (op.Put d) h = refl
stays (op.Write d start count pattern) h = refl
stays (op.Read d start count) h = refl
stays (op.Flush d) h = refl
stays (op.Wait ticks) h = elim h [ ]
stays (op.Visit d) h = elim h [ ]
stays op.Each h = elim h [ ]
stays (op.Unregister d) h = elim h [ ]

never_waits : (o : Op) → IsPlain o → waits_within o ≡ true
never_waits (op.Get d) h = refl
never_waits (op.Put d) h = refl
never_waits (op.Write d start count pattern) h = refl
never_waits (op.Read d start count) h = refl
never_waits (op.Flush d) h = refl
never_waits (op.Wait ticks) h = elim h [ ]
never_waits (op.Visit d) h = elim h [ ]
never_waits op.Each h = elim h [ ]
never_waits (op.Unregister d) h = elim h [ ]

named : (seed n : ℕ) (o : Op) → IsPlain o → names_an_image (script_drawn seed n) o ≡ true
named seed n (op.Get d) h = lt-ltb d 4 h
named seed n (op.Put d) h = lt-ltb d 4 h
named seed n (op.Write d start count pattern) h = lt-ltb d 4 h.0
named seed n (op.Read d start count) h = lt-ltb d 4 h.0
named seed n (op.Flush d) h = lt-ltb d 4 h
named seed n (op.Wait ticks) h = elim h [ ]
named seed n (op.Visit d) h = elim h [ ]
named seed n op.Each h = elim h [ ]
named seed n (op.Unregister d) h = elim h [ ]

all_none : (os : List (Option ScriptRefusal)) → AllByRecursion (λ o. o ≡ None) os → first_some os ≡ None
all_none [] h = refl
all_none (o ∷ os) h = ap (λ (o : Option ScriptRefusal). first_some (o ∷ os)) h.0 ∙ all_none os h.1

op_count : (seed n : ℕ) → n ≤ 32000 → has_op_count (script_drawn seed n) ≡ true
op_count seed n few = le-leb (length (all_ops (script_drawn seed n))) 100000 (omega (arith, few_all seed n few))

round_count : (seed n : ℕ) → has_round_count (script_drawn seed n) ≡ true
round_count seed n = ap (λ (k : ℕ). nat_le k 1000) (none_counted goes_round stays (all_ops (script_drawn seed n)) (all_plain seed n))

wait_times : (seed n : ℕ) → has_wait_times (script_drawn seed n) ≡ true
wait_times seed n = all_pass waits_within never_waits (all_ops (script_drawn seed n)) (all_plain seed n)

names : (seed n : ℕ) → has_names (script_drawn seed n) ≡ true
unfolding digits
names seed n = all_pass (names_an_image (script_drawn seed n)) (named seed n) (all_ops (script_drawn seed n)) (all_plain seed n)

few_placed : (seed n : ℕ) → n ≤ 32000 → length (placed_ops (script_drawn seed n)) ≤ 32064
few_placed seed n few = omega (arith, few_all seed n few, length_placed (script_drawn seed n).clients 0)

no_range : (seed n : ℕ) → n ≤ 32000 → first_out_of_range (script_drawn seed n) ≡ None
no_range seed n few = ap (option_map (λ (p : List Placed × Placed). p.1))
    (none_fails (is_in_range (script_drawn seed n)) 32064 (in_range seed n) [] (placed_ops (script_drawn seed n)) (record {}) (plain_placed (script_drawn seed n).clients 0 (plain_clients seed n)) (omega (arith, few_placed seed n few)))

no_pattern : (seed n : ℕ) → n ≤ 32000 → first_bad_pattern (script_drawn seed n) ≡ None
no_pattern seed n few = ap (option_map (λ (p : List Placed × Placed). p.1))
    (none_fails (λ _. is_pattern) 32064 (λ before o b f h. four o h) [] (placed_ops (script_drawn seed n)) (record {}) (plain_placed (script_drawn seed n).clients 0 (plain_clients seed n)) (omega (arith, few_placed seed n few)))

-- no op unregisters a device
none_found : (p : Op → Bool) → ((o : Op) → IsPlain o → p o ≡ false) → (os : List Op) → ArePlain os → list_any p os ≡ false
none_found p each [] h = refl
none_found p each (o ∷ os) h = ap (λ (b : Bool). b || list_any p os) (each o h.0) ∙ none_found p each os h.1

keeps : (o : Op) → IsPlain o → unregisters o ≡ false
keeps (op.Get d) h = refl
keeps (op.Put d) h = refl
keeps (op.Write d start count pattern) h = refl
keeps (op.Read d start count) h = refl
keeps (op.Flush d) h = refl
keeps (op.Wait ticks) h = refl
keeps (op.Visit d) h = refl
keeps op.Each h = refl
keeps (op.Unregister d) h = elim h [ ]

pub none_unregisters : (seed n : ℕ) → list_any unregisters (all_ops (script_drawn seed n)) ≡ false
none_unregisters seed n = none_found unregisters keeps (all_ops (script_drawn seed n)) (all_plain seed n)

-- the script of a load is accepted
pub accepted : (seed n : ℕ) → n ≤ 32000 → rule_broken (script_drawn seed n) ≡ None
accepted seed n few = all_none (rule_answers (script_drawn seed n)) (
  refl,
  (
    refl,
    (
      refl,
      (
        refl,
        (
          refl,
          (
            ap (λ (b : Bool). unless b (Limit 6)) (op_count seed n few),
            (
              refl,
              (
                ap (λ (b : Bool). unless b (Limit 8)) (round_count seed n),
                (
                  ap (λ (b : Bool). unless b (Limit 9)) (wait_times seed n),
                  (
                    ap (λ (b : Bool). unless b Name) (names seed n),
                    (ap (option_map (λ (p : Placed). Range p.client p.place)) (no_range seed n few), (ap (option_map (λ (p : Placed). Pattern p.client p.place)) (no_pattern seed n few), record {})),
                  ),
                ),
              ),
            ),
          ),
        ),
      ),
    ),
  ),
)
