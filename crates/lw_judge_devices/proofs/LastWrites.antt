-- The last writes of blocks: one write more, and what they tell of the bytes.
use Rattle.std.proofs.Common.{◌≡◌, ℕ, zero, suc, ◌+◌, ◌<◌, ◌≤◌, nat_le, nat_lt, Bool, true, false, cond, ◌&&◌, List, [], ◌∷◌, ◌++◌, length, slice_get, slice_index, option_map, Option, Some, count_by, refl, sym, ap, subst, ◌∙◌, arith}
use Rattle.std.proofs.lemmas.List.{length_push}
use Rattle.std.proofs.lemmas.List.Sums.{sum_by-cons}
use Rattle.lw_model.specs.declared.script.Op.{Op}
use Rattle.lw_model.specs.declared.script.Op.TheVariants as op
use Rattle.lw_model.specs.Replay.{is_write}
use Rattle.lw_judge_devices.specs.declared.replay.Written.{Written}
use Rattle.lw_judge_devices.specs.declared.replay.Replay.{Replay}
use Rattle.lw_judge_devices.specs.Replayed.{last_write, write_of, range_of, IsAfter}

get-last : {X : Type 0} (xs : List X) (x : X) → slice_get (xs ++ x ∷ []) (length xs) ≡ Some x
get-last [] x = refl
get-last (y ∷ xs) x = get-last xs x

get-before : {X : Type 0} (xs : List X) (x : X) (i : ℕ) → i < length xs → slice_get (xs ++ x ∷ []) i ≡ slice_get xs i
get-before [] x i h = absurd (omega (arith, h))
get-before (y ∷ xs) x zero h = refl
get-before (y ∷ xs) x (suc i) h = get-before xs x i (omega (arith, h))

write_of-last : (ws : List Written) (w : Written) → write_of (ws ++ w ∷ []) (length (ws ++ w ∷ [])) ≡ Some w
write_of-last ws w = ap (write_of (ws ++ w ∷ [])) next ∙ get-last ws w
  where
    next : length (ws ++ w ∷ []) ≡ suc (length ws)
    next = omega (arith, length_push ws w)

write_of-before : (ws : List Written) (w : Written) (n : ℕ) → n ≤ length ws → write_of (ws ++ w ∷ []) n ≡ write_of ws n
write_of-before ws w zero h = refl
write_of-before ws w (suc i) h = get-before ws w i (omega (arith, h))

-- the blocks that a write covers, and the others, behind it
last_more : (past : List (Option Op)) (d start count : ℕ) (pattern was now : List ℕ) (ws : List Written) (w : Written)
    → ((b : ℕ) → b < length was → option_map range_of (write_of ws (slice_index was b)) ≡ last_write past b)
    → ((b : ℕ) → b < length was → slice_index was b ≤ length ws)
    → range_of w ≡ (start, pattern)
    → ((b : ℕ) → b < length was → slice_index now b ≡ cond (nat_le start b && nat_lt b (start + count)) (length (ws ++ w ∷ [])) (slice_index was b))
    → (b : ℕ) → b < length was → option_map range_of (write_of (ws ++ w ∷ []) (slice_index now b)) ≡ last_write (Some (op.Write d start count pattern) ∷ past) b
last_more past d start count pattern was now ws w last numbers range writes b below = ap (λ n. option_map range_of (write_of (ws ++ w ∷ []) n)) (writes b below) ∙ at (nat_le start b && nat_lt b (start + count))
  where
    at : (t : Bool) → option_map range_of (write_of (ws ++ w ∷ []) (cond t (length (ws ++ w ∷ [])) (slice_index was b))) ≡ cond t (Some (start, pattern)) (last_write past b)
    at true = ap (option_map range_of) (write_of-last ws w) ∙ ap Some range
    at false = ap (option_map range_of) (write_of-before ws w (slice_index was b) (numbers b below)) ∙ last b below

numbers_more : (start count : ℕ) (was now : List ℕ) (ws : List Written) (w : Written)
    → ((b : ℕ) → b < length was → slice_index was b ≤ length ws)
    → ((b : ℕ) → b < length was → slice_index now b ≡ cond (nat_le start b && nat_lt b (start + count)) (length (ws ++ w ∷ [])) (slice_index was b))
    → (b : ℕ) → b < length was → slice_index now b ≤ length (ws ++ w ∷ [])
numbers_more start count was now ws w numbers writes b below = subst (λ n. n ≤ length (ws ++ w ∷ [])) (sym (writes b below)) (at (nat_le start b && nat_lt b (start + count)))
  where
    at : (t : Bool) → cond t (length (ws ++ w ∷ [])) (slice_index was b) ≤ length (ws ++ w ∷ [])
    at true = omega arith
    at false = omega (arith, numbers b below, length_push ws w)

-- the image behind a write
pub after_write : (past : List (Option Op)) (request : Op) (d start count : ℕ) (pattern now : List ℕ) (was next : Replay) (w : Written) → IsAfter past was
    → request ≡ op.Write d start count pattern → range_of w ≡ (start, pattern)
    → next.last.items ≡ now → length now ≡ length was.last.items → next.writes.items ≡ was.writes.items ++ w ∷ []
    → ((b : ℕ) → b < length was.last.items → slice_index now b ≡ cond (nat_le start b && nat_lt b (start + count)) (length next.writes.items) (slice_index was.last.items b))
    → IsAfter (Some request ∷ past) next
after_write past request d start count pattern now was next w after is range lasts size pushed writes = subst (λ o. IsAfter (Some o ∷ past) next) (sym is) (record {
  last = λ b below. subst (λ (p : List ℕ × List Written). option_map range_of (write_of p.1 (slice_index p.0 b)) ≡ last_write (Some (op.Write d start count pattern) ∷ past) b) parts
      (last_more past d start count pattern was.last.items now was.writes.items w after.last after.numbers range writes' b (within b below));
  numbers = λ b below. subst (λ (p : List ℕ × List Written). slice_index p.0 b ≤ length p.1) parts
      (numbers_more start count was.last.items now was.writes.items w after.numbers writes' b (within b below));
  writes = omega (arith, ap length pushed, length_push was.writes.items w, after.writes, count_of_write);
})
  where
    parts : ◌≡◌ {A = List ℕ × List Written} (now, was.writes.items ++ w ∷ []) (next.last.items, next.writes.items)
    parts = λ i. (sym lasts i, sym pushed i)

    within : (b : ℕ) → b < length next.last.items → b < length was.last.items
    within b below = omega (arith, below, ap length lasts, size)

    writes' : (b : ℕ) → b < length was.last.items → slice_index now b ≡ cond (nat_le start b && nat_lt b (start + count)) (length (was.writes.items ++ w ∷ [])) (slice_index was.last.items b)
    writes' b below = writes b below ∙ ap (λ n. cond (nat_le start b && nat_lt b (start + count)) n (slice_index was.last.items b)) (ap length pushed)

    count_of_write : count_by is_write (Some (op.Write d start count pattern) ∷ past) ≡ 1 + count_by is_write past
    count_of_write = sum_by-cons (λ (o : Option Op). cond (is_write o) 1 0) (Some (op.Write d start count pattern)) past

-- what a call says of a table and a number, of those that they are equal to
pub cover_told : (table was now : List ℕ) (start count number n : ℕ) → table ≡ was → number ≡ n
    → ((b : ℕ) → b < length table → slice_index now b ≡ cond (nat_le start b && nat_lt b (start + count)) number (slice_index table b))
    → (b : ℕ) → b < length was → slice_index now b ≡ cond (nat_le start b && nat_lt b (start + count)) n (slice_index was b)
cover_told table was now start count number n same numbered writes b below =
    writes b (omega (arith, below, ap length same))
    ∙ ap (λ m. cond (nat_le start b && nat_lt b (start + count)) m (slice_index table b)) numbered
    ∙ ap (λ l. cond (nat_le start b && nat_lt b (start + count)) n (slice_index l b)) same
