-- The bytes of a block, by the last write that covers it.
use Rattle.std.proofs.Common.{◌≡◌, ℕ, zero, suc, ◌+◌, ◌-◌, ◌*◌, ◌/◌, ◌%◌, ◌<◌, ◌≤◌, nat_le, nat_lt, ◌==◌, Bool, true, false, cond, ◌&&◌, List, [], ◌∷◌, ◌++◌, length, slice_index, map, replicate, Option, Some, None, refl, sym, ap, ap₂, ◌∙◌, arith}
use Rattle.std.specs.List.{range_with_len}
use Rattle.std.proofs.Math.Nat.{add-mul}
use Rattle.std.proofs.lemmas.List.{map-append}
use Rattle.std.proofs.lemmas.Nat.{div-mul-add}
use Rattle.std.proofs.lemmas.Bool.{and_parts, eqb-true, leb-true}
use Rattle.lw_model.specs.declared.script.Op.{Op}
use Rattle.lw_model.specs.declared.script.Op.TheVariants as op
use Rattle.lw_model.specs.Replay.{byte_after, bytes_after}
use Rattle.lw_model.proofs.Blocks.{byte_of, byte_after-block}
use Rattle.lw_model.proofs.Blocks as blocks
use Rattle.lw_judge_devices.specs.Replayed.{last_write}

-- it is lw_model's
last_same : (past : List (Option Op)) (b : ℕ) → last_write past b ≡ blocks.last_write past b
last_same [] b = refl
last_same (None ∷ past) b = last_same past b
last_same (Some (op.Write d start count pattern) ∷ past) b = ap (cond (nat_le start b && nat_lt b (start + count)) (Some (start, pattern))) (last_same past b)
last_same (Some (op.Get d) ∷ past) b = last_same past b
last_same (Some (op.Put d) ∷ past) b = last_same past b
last_same (Some (op.Read d start count) ∷ past) b = last_same past b
last_same (Some (op.Flush d) ∷ past) b = last_same past b
last_same (Some (op.Wait ticks) ∷ past) b = last_same past b
last_same (Some (op.Visit d) ∷ past) b = last_same past b
last_same (Some op.Each ∷ past) b = last_same past b
last_same (Some (op.Unregister d) ∷ past) b = last_same past b

-- it begins at the block or before
last_begins : (past : List (Option Op)) (b start : ℕ) (pattern : List ℕ) → last_write past b ≡ Some (start, pattern) → start ≤ b
last_begins [] b start pattern e = let wrong : ◌≡◌ {A = Option (ℕ × List ℕ)} None (Some (start, pattern)) = e in cc
last_begins (None ∷ past) b start pattern e = last_begins past b start pattern e
last_begins (Some (op.Write d first count bytes) ∷ past) b start pattern e = at (nat_le first b && nat_lt b (first + count)) refl (last_begins past b start pattern) e
  where
    at : (t : Bool) → (nat_le first b && nat_lt b (first + count)) ≡ t → (last_write past b ≡ Some (start, pattern) → start ≤ b) → ◌≡◌ {A = Option (ℕ × List ℕ)} (cond t (Some (first, bytes)) (last_write past b)) (Some (start, pattern)) → start ≤ b
    at true is earlier found = omega (arith, leb-true first b (and_parts (nat_le first b) (nat_lt b (first + count)) is).0, starts_same found)
      where
        starts_same : ◌≡◌ {A = Option (ℕ × List ℕ)} (Some (first, bytes)) (Some (start, pattern)) → first ≡ start
        starts_same h = ap (λ (o : Option (ℕ × List ℕ)). elim o [ Some w ↦ w.0 | None ↦ first ]) h
    at false is earlier found = earlier found
last_begins (Some (op.Get d) ∷ past) b start pattern e = last_begins past b start pattern e
last_begins (Some (op.Put d) ∷ past) b start pattern e = last_begins past b start pattern e
last_begins (Some (op.Read d first count) ∷ past) b start pattern e = last_begins past b start pattern e
last_begins (Some (op.Flush d) ∷ past) b start pattern e = last_begins past b start pattern e
last_begins (Some (op.Wait ticks) ∷ past) b start pattern e = last_begins past b start pattern e
last_begins (Some (op.Visit d) ∷ past) b start pattern e = last_begins past b start pattern e
last_begins (Some op.Each ∷ past) b start pattern e = last_begins past b start pattern e
last_begins (Some (op.Unregister d) ∷ past) b start pattern e = last_begins past b start pattern e

map_ranges : (f g : ℕ → ℕ) (a c n : ℕ) → ((i : ℕ) → i < n → f (a + i) ≡ g (c + i)) → map f (range_with_len a n) ≡ map g (range_with_len c n)
map_ranges f g a c zero same = refl
map_ranges f g a c (suc n) same = ap₂ (λ x xs. x ∷ xs) first (map_ranges f g (a + 1) (c + 1) n (λ i below. next i (same (i + 1) (omega (arith, below)))))
  where
    first : f a ≡ g c
    first = ap f (omega arith) ∙ same 0 (omega arith) ∙ ap g (omega arith)

    next : (i : ℕ) → f (a + (i + 1)) ≡ g (c + (i + 1)) → f (a + 1 + i) ≡ g (c + 1 + i)
    next i e = ap f (omega arith) ∙ e ∙ ap g (omega arith)

map_zeros : (f : ℕ → ℕ) (a n : ℕ) → ((i : ℕ) → i < n → f (a + i) ≡ 0) → map f (range_with_len a n) ≡ replicate n 0
map_zeros f a zero same = refl
map_zeros f a (suc n) same = ap₂ (λ x xs. x ∷ xs) first (map_zeros f (a + 1) n (λ i below. ap f (omega arith) ∙ same (i + 1) (omega (arith, below))))
  where
    first : f a ≡ 0
    first = ap f (omega arith) ∙ same 0 (omega arith)

-- a byte of a block
byte_in : (block : ℕ) (past : List (Option Op)) (b i : ℕ) → i < block → byte_after block past (b * block + i) ≡ byte_of block (b * block + i) (last_write past b)
byte_in block past b i below =
    byte_after-block block past (b * block + i) (omega (arith, below))
    ∙ ap (λ k. byte_of block (b * block + i) (blocks.last_write past k)) (in_block)
    ∙ ap (byte_of block (b * block + i)) (sym (last_same past b))
  where
    in_block : (b * block + i) / block ≡ b
    in_block = div-mul-add b block i below

one_block : (block : ℕ) (past : List (Option Op)) (b : ℕ) → bytes_after block past b 1 ≡ map (byte_after block past) (range_with_len (b * block) block)
one_block block past b = ap (λ n. map (byte_after block past) (range_with_len (b * block) n)) (omega arith)

-- where a write covers it, the bytes of the pattern from there on
pub written_block : (block : ℕ) (past : List (Option Op)) (b start : ℕ) (pattern : List ℕ) → last_write past b ≡ Some (start, pattern)
    → bytes_after block past b 1 ≡ map (λ i. slice_index pattern (i % length pattern)) (range_with_len ((b - start) * block) block)
written_block block past b start pattern last =
    one_block block past b
    ∙ map_ranges (byte_after block past) (λ i. slice_index pattern (i % length pattern)) (b * block) ((b - start) * block) block
    (λ i below. byte_in block past b i below ∙ ap (byte_of block (b * block + i)) last ∙ ap (λ x. slice_index pattern (x % length pattern)) (shift i))
  where
    begins : start ≤ b
    begins = last_begins past b start pattern last

    shift : (i : ℕ) → b * block + i - start * block ≡ (b - start) * block + i
    shift i = omega (arith, begins, parts)
      where
        parts : b * block ≡ (b - start) * block + start * block
        parts = ap (λ k. k * block) (omega (arith, begins)) ∙ add-mul (b - start) start block

-- where none does, or one with no pattern, zeros
pub zero_block : (block : ℕ) (past : List (Option Op)) (b : ℕ) → last_write past b ≡ None → bytes_after block past b 1 ≡ replicate block 0
zero_block block past b last =
    one_block block past b
    ∙ map_zeros (byte_after block past) (b * block) block (λ i below. byte_in block past b i below ∙ ap (byte_of block (b * block + i)) last)

pub empty_block : (block : ℕ) (past : List (Option Op)) (b start : ℕ) (pattern : List ℕ) (empty : Bool) → last_write past b ≡ Some (start, pattern) → empty ≡ (length pattern == 0) → empty ≡ true
    → bytes_after block past b 1 ≡ replicate block 0
empty_block block past b start pattern empty last is holds =
    one_block block past b
    ∙ map_zeros (byte_after block past) (b * block) block
    (λ i below. byte_in block past b i below ∙ ap (byte_of block (b * block + i)) last ∙ none pattern (eqb-true (length pattern) 0 (sym is ∙ holds)) ((b * block + i - start * block) % length pattern))
  where
    none : (xs : List ℕ) → length xs ≡ 0 → (i : ℕ) → slice_index xs i ≡ 0
    none [] e i = refl
    none (x ∷ xs) e i = absurd (omega (arith, e))

range-append : (a n m : ℕ) → range_with_len a (n + m) ≡ range_with_len a n ++ range_with_len (a + n) m
range-append a zero m = ap₂ range_with_len (omega arith) (omega arith)
range-append a (suc n) m = ap (range_with_len a) next ∙ ap (λ l. a ∷ l) (range-append (a + 1) n m) ∙ ap (λ k. a ∷ (range_with_len (a + 1) n ++ range_with_len k m)) (omega arith)
  where
    next : suc n + m ≡ suc (n + m)
    next = omega arith

-- a block more
pub bytes_more : (block : ℕ) (past : List (Option Op)) (start last : ℕ) → start ≤ last → bytes_after block past start (last + 1 - start) ≡ bytes_after block past start (last - start) ++ bytes_after block past last 1
bytes_more block past start last h =
    ap (λ n. map (byte_after block past) (range_with_len (start * block) n)) size
    ∙ ap (map (byte_after block past)) (range-append (start * block) ((last - start) * block) (1 * block))
    ∙ map-append (byte_after block past) (range_with_len (start * block) ((last - start) * block)) (range_with_len (start * block + (last - start) * block) (1 * block))
    ∙ ap (λ a. bytes_after block past start (last - start) ++ map (byte_after block past) (range_with_len a (1 * block))) place
  where
    size : (last + 1 - start) * block ≡ (last - start) * block + 1 * block
    size = ap (λ k. k * block) (omega (arith, h)) ∙ add-mul (last - start) 1 block

    place : start * block + (last - start) * block ≡ last * block
    place = sym (add-mul start (last - start) block) ∙ ap (λ k. k * block) (omega (arith, h))

-- what was added is what should be
pub appended : (now before added wanted : List ℕ) → now ≡ before ++ added → added ≡ wanted → now ≡ before ++ wanted
appended now before added wanted is same = is ∙ ap (λ l. before ++ l) same
