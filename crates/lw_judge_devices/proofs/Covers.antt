-- The blocks that a write covers, in a table of blocks that may be shorter.
use Rattle.std.proofs.Common.{◌≡◌, ℕ, ◌+◌, ◌-◌, ◌<◌, ◌≤◌, nat_le, nat_lt, cond, ◌&&◌, List, length, get_or, min, replicate, take, drop, arith, rules, ap, ◌∙◌, inl, inr}
use Rattle.std.proofs.lemmas.List.{places, get_or-replicate, length-replicate}
use Rattle.std.proofs.lemmas.Bool.{cases_lt, le-leb, lt-leb, lt-ltb, le-ltb, and_left, and_right, and_from}
use borrow.Rule.Slice.PartMut.{put_mid}
use Rattle.lw_model.proofs.Blocks.{before_part, in_part, behind_part}

pub covered : (xs ys : List ℕ) (start count first end number : ℕ) → end ≡ min (start + count) (length xs) → first ≡ min start end → ys ≡ replicate (end - first) number
    → (b : ℕ) → b < length xs → get_or (put_mid first (end - first) xs ys) b 0 ≡ cond (nat_le start b && nat_lt b (start + count)) number (get_or xs b 0)
covered xs ys start count first end number last from fills b below =
    elim (cases_lt b start) [
      | inl low ↦ rw (and_left (nat_le start b) (nat_lt b (start + count)) (lt-leb start b low)) (elim (cases_lt b first) [ inl l ↦ before_part xs ys first (end - first) b fits size l | inr g ↦ behind_part xs ys first (end - first) b fits size (omega arith) ])
      | inr high ↦ elim (cases_lt b (start + count)) [
        | inl inside ↦
            rw (and_from (nat_le start b) (nat_lt b (start + count)) (le-leb start b high) (lt-ltb b (start + count) inside))
            (in_part xs ys first (end - first) b fits size (omega arith) (omega arith) ∙ ap (λ l. get_or l (b - first) 0) fills ∙ get_or-replicate (end - first) (b - first) number 0 (omega arith))
        | inr past_it ↦ rw (and_right (nat_le start b) (nat_lt b (start + count)) (le-ltb b (start + count) past_it)) (behind_part xs ys first (end - first) b fits size (omega arith))
      ]
    ]
  where
    size : length ys ≡ end - first
    size = ap length fills ∙ length-replicate (end - first) number

    fits : first + (end - first) ≤ length xs
    fits = omega arith

pub length-part : (xs : List ℕ) (first end : ℕ) → end ≤ length xs → length (take (end - first) (drop first xs)) ≡ end - first
length-part xs first end h = search (arith, rules, places)
