-- What a script without a broken rule says of its images and of the reads of its clients.
use Rattle.std.proofs.Common.{◌≡◌, ℕ, zero, suc, ◌+◌, ◌*◌, ◌<◌, ◌≤◌, nat_lt, nat_le, true, ◌&&◌, not, List, [], ◌∷◌, length, map, flat_map, slice_get, Option, Some, None, option_map, unwrap_or, refl, sym, ap, subst, arith}
use Rattle.std.specs.Prelude.{find, sum_by}
use Rattle.std.specs.List.{enumerate_from, AllByRecursion}
use Rattle.std.proofs.lemmas.Bool.{and_parts, leb-true}
use Rattle.std.proofs.lemmas.Option.{same_Some}
use Rattle.lw_base.proofs.Lists.{none_is, all_first, all_second, none_mapped}
use Rattle.lw_model.specs.declared.script.Script.{Script}
use Rattle.lw_model.specs.declared.script.ClientOf.{ClientOf}
use Rattle.lw_model.specs.declared.script.ImageOf.{ImageOf}
use Rattle.lw_model.specs.declared.script.Op.{Op}
use Rattle.lw_model.specs.declared.script.Op.TheVariants as op
use Rattle.lw_model.specs.declared.record.Record.{Record}
use Rattle.lw_model.specs.declared.refusal.ScriptRefusal.TheVariants.{Limit, Range}
use Rattle.lw_model.specs.ScriptRules.{Placed, placed_ops, with_earlier, first_out_of_range, is_in_range, is_in_range_after, is_in_image, is_among, read_bytes, rule_broken, rule_answers, has_client_count, has_image_sizes, block_at, blocks_at}
use Rattle.lw_model.proofs.Rules.{each-none, kept, block_sizes-kept, each_passes}
use Rattle.lw_model.proofs.Printed.{parts}
use Rattle.lw_model.proofs.Passing.{item_passes}
use Rattle.lw_judge_devices.specs.Answered.{IsReadable, ReadsFit}

-- a record's script breaks no rule
unbroken : (r : Record) → rule_broken r.script ≡ None
unbroken r = none_is (rule_broken r.script) (parts r).script

-- it has few clients
pub few_clients : (r : Record) → length r.script.clients ≤ 64
few_clients r = leb-true (length r.script.clients) 64 (and_parts (nat_le 1 (length r.script.clients)) (nat_le (length r.script.clients) 64) count).1
  where
    count : has_client_count r.script ≡ true
    count = kept (rule_answers r.script) 3 (has_client_count r.script) (Limit 4) (unbroken r) refl

-- ---- Images

-- an image has blocks of some bytes, and not too many
pub image_fits : (r : Record) (d : ℕ) (image : ImageOf) → slice_get r.script.images d ≡ Some image → (0 < image.block) × (image.blocks * image.block ≤ 16777216)
image_fits r d image at = (sizes image.block block, leb-true (image.blocks * image.block) 16777216 (and_parts (nat_lt 0 image.blocks) (nat_le (image.blocks * image.block) 16777216) size).1)
  where
    block : is_among (16 ∷ 32 ∷ 64 ∷ 128 ∷ 256 ∷ 512 ∷ 1024 ∷ 2048 ∷ 4096 ∷ []) image.block ≡ true
    block = item_passes (λ (i : ImageOf). is_among (16 ∷ 32 ∷ 64 ∷ 128 ∷ 256 ∷ 512 ∷ 1024 ∷ 2048 ∷ 4096 ∷ []) i.block) r.script.images d image (block_sizes-kept r.script (unbroken r)) at

    size : (nat_lt 0 image.blocks && nat_le (image.blocks * image.block) 16777216) ≡ true
    size = item_passes (λ (i : ImageOf). nat_lt 0 i.blocks && nat_le (i.blocks * i.block) 16777216) r.script.images d image
        (kept (rule_answers r.script) 2 (has_image_sizes r.script) (Limit 3) (unbroken r) refl) at

    sizes : (n : ℕ) → is_among (16 ∷ 32 ∷ 64 ∷ 128 ∷ 256 ∷ 512 ∷ 1024 ∷ 2048 ∷ 4096 ∷ []) n ≡ true → 0 < n
    sizes zero e = cc
    sizes (suc n) e = omega arith

pub block_is : (s : Script) (d : ℕ) (image : ImageOf) → slice_get s.images d ≡ Some image → image.block ≡ block_at s d
block_is s d image at = sym (ap (λ (o : Option ImageOf). unwrap_or (option_map (λ (i : ImageOf). i.block) o) 0) at)

pub blocks_are : (s : Script) (d : ℕ) (image : ImageOf) → slice_get s.images d ≡ Some image → image.blocks ≡ blocks_at s d
blocks_are s d image at = sym (ap (λ (o : Option ImageOf). unwrap_or (option_map (λ (i : ImageOf). i.blocks) o) 0) at)

-- ---- Ops

abbrev placed_of : ℕ × ClientOf → List Placed
placed_of c = map (λ o. record { client = c.0; place = o.0; op = o.1 }) (enumerate_from 0 c.1.ops)

op_placed : (Q : Op → Type 0) (c n : ℕ) (ops : List Op) → AllByRecursion (λ (p : Placed). Q p.op) (map (λ o. record { client = c; place = o.0; op = o.1 }) (enumerate_from n ops))
    → (k : ℕ) (o : Op) → slice_get ops k ≡ Some o → Q o
op_placed Q c n [] all k o at = let wrong : ◌≡◌ {A = Option Op} None (Some o) = at in cc
op_placed Q c n (x ∷ ops) all zero o at = subst Q (same_Some x o at) all.0
op_placed Q c n (x ∷ ops) all (suc k) o at = op_placed Q c (n + 1) ops all.1 k o at

client_placed : (Q : Op → Type 0) (n : ℕ) (cs : List ClientOf) → AllByRecursion (λ (p : Placed). Q p.op) (flat_map placed_of (enumerate_from n cs))
    → (c k : ℕ) (o : Op) → slice_get (unwrap_or (option_map (λ x. x.ops) (slice_get cs c)) []) k ≡ Some o → Q o
client_placed Q n [] all c k o at = let wrong : ◌≡◌ {A = Option Op} None (Some o) = at in cc
client_placed Q n (x ∷ cs) all zero k o at = op_placed Q n 0 x.ops (all_first (λ (p : Placed). Q p.op) (placed_of (n, x)) (flat_map placed_of (enumerate_from (n + 1) cs)) all) k o at
client_placed Q n (x ∷ cs) all (suc c) k o at = client_placed Q (n + 1) cs (all_second (λ (p : Placed). Q p.op) (placed_of (n, x)) (flat_map placed_of (enumerate_from (n + 1) cs)) all) c k o at

readable : (s : Script) (bytes : ℕ) (o : Op) → is_in_range_after s bytes o ≡ true → IsReadable s o
readable s bytes (op.Read d start count) e =
    let range = (and_parts (is_in_image s d start count) (nat_le (bytes + count * block_at s d) 16777216) e).0 in
    let within = (and_parts (nat_lt 0 count && nat_le (start + count) (blocks_at s d)) (nat_le (count * block_at s d) 131072) range).0 in
    leb-true (start + count) (blocks_at s d) (and_parts (nat_lt 0 count) (nat_le (start + count) (blocks_at s d)) within).1
readable s bytes (op.Get d) e = tt
readable s bytes (op.Put d) e = tt
readable s bytes (op.Write d start count pattern) e = tt
readable s bytes (op.Flush d) e = tt
readable s bytes (op.Wait ticks) e = tt
readable s bytes (op.Visit d) e = tt
readable s bytes op.Each e = tt
readable s bytes (op.Unregister d) e = tt

-- each read of a record's script is of blocks of its image
pub reads_fit : (r : Record) → ReadsFit r.script
reads_fit r zero k o at = let wrong : ◌≡◌ {A = Option Op} None (Some o) = at in cc
reads_fit r (suc c) k o at = client_placed (IsReadable r.script) 0 r.script.clients all c k o at
  where
    in_range : first_out_of_range r.script ≡ None
    in_range = none_mapped (λ (p : Placed). Range p.client p.place) (first_out_of_range r.script) (each-none (rule_answers r.script) 10 (option_map (λ (p : Placed). Range p.client p.place) (first_out_of_range r.script)) (unbroken r) refl)

    all : AllByRecursion (λ (p : Placed). IsReadable r.script p.op) (placed_ops r.script)
    all = each_passes (is_in_range r.script) (IsReadable r.script) (λ before o e. readable r.script (sum_by (read_bytes r.script) before) o e) [] (placed_ops r.script)
        (none_mapped (λ p. p.1) (find (λ p. not (is_in_range r.script (map (λ q. q.op) p.0) p.1.op)) (with_earlier [] (placed_ops r.script))) in_range)
