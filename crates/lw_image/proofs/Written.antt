-- The bytes of an image behind a write to one range, and those of a read of it.
use Rattle.std.proofs.Common.{ℕ, List, true, false, ◌∷◌, Option, Some, ◌+◌, ◌-◌, ◌*◌, ◌%◌, ◌≤◌, ◌<◌, ◌≡◌, length, get_or, take, drop, arith, rules, cond, sym, ◌∙◌, ap, inl, inr, refl}
use Rattle.std.specs.Prelude.{map, count_by}
use Rattle.std.specs.List.{range_with_len, between}
use Rattle.std.proofs.lemmas.List.{places}
use Rattle.std.proofs.lemmas.List.Edits.{get_or-between, length-between}
use Rattle.std.proofs.lemmas.List.FromFn.{get_or-map-range_with_len, length-map-range_with_len}
use Rattle.std.proofs.lemmas.Grind.{same_number_lists}
use Rattle.std.proofs.lemmas.Bool.{cases_lt, le-leb, lt-leb, lt-ltb, le-ltb, and_left, and_right}
use Rattle.std.proofs.Math.Nat.{add-mul}
use Rattle.std.proofs.lemmas.List.Sums.{sum_by-cons}
use borrow.Rule.Slice.PartMut.{put_mid}
use Rattle.lw_model.specs.declared.script.Op.{Op}
use Rattle.lw_model.specs.declared.script.Op.TheVariants as op
use Rattle.lw_model.specs.Replay.{byte_after, covers, is_write}
use Rattle.lw_model.proofs.Blocks.{before_part, in_part, behind_part}

-- a part of a list of numbers, told index by index
pub between_told : (xs : List ℕ) (f : ℕ → ℕ) (first n : ℕ) → first + n ≤ length xs
    → ((x : ℕ) → x < length xs → get_or xs x 0 ≡ f x) → between first (first + n) xs ≡ map f (range_with_len first n)
between_told xs f first n h told =
    let size : length (between first (first + n) xs) ≡ n = search (arith, rules, places, length-between) in
    same_number_lists _ _ (size ∙ sym (length-map-range_with_len f first n))
    (λ k below. get_or-between xs first (first + n) k 0 (omega arith) ∙ told (first + k) (omega arith)
    ∙ sym (get_or-map-range_with_len f first n k (first + k) 0 (omega arith) refl))

-- whether a write covers a byte, by where its range begins and how long it is
covered : (block start count a k x : ℕ) → a ≡ start * block → k ≡ count * block → a ≤ x → x < a + k → covers block start count x ≡ true
covered block start count a k x e f low high =
    let last : a + k ≡ (start + count) * block = omega (arith, add-mul start count block) in
    rw (le-leb (start * block) x (omega arith), lt-ltb x ((start + count) * block) (omega arith)) refl

uncovered_below : (block start count a x : ℕ) → a ≡ start * block → x < a → covers block start count x ≡ false
uncovered_below block start count a x e low = and_left _ _ (lt-leb (start * block) x (omega arith))

uncovered_above : (block start count a k x : ℕ) → a ≡ start * block → k ≡ count * block → a + k ≤ x → covers block start count x ≡ false
uncovered_above block start count a k x e f high = and_right _ _ (le-ltb x ((start + count) * block) (omega (arith, add-mul start count block)))

pub length-put_mid : (xs ys : List ℕ) (a k : ℕ) → a + k ≤ length xs → length ys ≡ k → length (put_mid a k xs ys) ≡ length xs
length-put_mid xs ys a k h e = search (arith, rules, places)

-- a write to a range changes its bytes alone
pub written : (block start count device a k : ℕ) (pattern xs ys : List ℕ) (past : List (Option Op))
    → a ≡ start * block → k ≡ count * block → a + k ≤ length xs → length ys ≡ k
    → ((i : ℕ) → i < length ys → get_or ys i 0 ≡ get_or pattern (i % length pattern) 0)
    → ((x : ℕ) → x < length xs → get_or xs x 0 ≡ byte_after block past x)
    → (x : ℕ) → x < length xs → get_or (put_mid a k xs ys) x 0 ≡ byte_after block (Some (op.Write device start count pattern) ∷ past) x
written block start count device a k pattern xs ys past e f h size filled told x below =
    elim (cases_lt x a) [
      | inl low ↦ rw (uncovered_below block start count a x e low) (before_part xs ys a k x h size low ∙ told x below)
      | inr high ↦ elim (cases_lt x (a + k)) [
        | inl within ↦
            rw (covered block start count a k x e f high within)
            (in_part xs ys a k x h size high within ∙ filled (x - a) (omega arith)
            ∙ ap (λ b. get_or pattern ((x - b) % length pattern) 0) e)
        | inr past_it ↦ rw (uncovered_above block start count a k x e f past_it) (behind_part xs ys a k x h size past_it ∙ told x below)
      ]
    ]

-- the same of the bytes that are left, where the bytes before and behind are told as equal lists
pub written_all : (block start count device a k : ℕ) (pattern was xs ys left : List ℕ) (past : List (Option Op))
    → xs ≡ was → left ≡ put_mid a k xs ys
    → a ≡ start * block → k ≡ count * block → a + k ≤ length was → length ys ≡ k
    → ((i : ℕ) → i < length ys → get_or ys i 0 ≡ get_or pattern (i % length pattern) 0)
    → ((x : ℕ) → x < length was → get_or was x 0 ≡ byte_after block past x)
    → (x : ℕ) → x < length left → get_or left x 0 ≡ byte_after block (Some (op.Write device start count pattern) ∷ past) x
written_all block start count device a k pattern was xs ys left past same leaves e f h size filled told x below =
    let fits : a + k ≤ length xs = omega (arith, ap length same) in
    let there : x < length xs = omega (arith, ap length leaves, length-put_mid xs ys a k fits size) in
    ap (λ l. get_or l x 0) leaves
    ∙ written block start count device a k pattern xs ys past e f fits size filled
    (λ y low. ap (λ l. get_or l y 0) same ∙ told y (omega (arith, ap length same))) x there

pub count_of_write : (device start count : ℕ) (pattern : List ℕ) (past : List (Option Op))
    → count_by is_write (Some (op.Write device start count pattern) ∷ past) ≡ 1 + count_by is_write past
count_of_write device start count pattern past =
    sum_by-cons (λ (o : Option Op). cond (is_write o) 1 0) (Some (op.Write device start count pattern)) past

pub length-part : (xs : List ℕ) (a k : ℕ) → a + k ≤ length xs → length (take k (drop a xs)) ≡ k
length-part xs a k h = search (arith, rules, places)
