-- A byte of a read is told by the last write that covers its block, since writes are of whole blocks.
use Rattle.std.proofs.Common.{◌≡◌, ℕ, suc, ◌+◌, ◌-◌, ◌*◌, ◌/◌, ◌%◌, ◌<◌, ◌≤◌, nat_lt, nat_le, Bool, true, false, cond, ◌&&◌, List, [], ◌∷◌, length, slice_index, Option, Some, None, refl, sym, ap, ap₂, ◌∙◌, inl, inr, arith, ◌↔◌, le-div_iff_mul-le, div-lt_iff_lt-mul, rules, get_or}
use Rattle.std.proofs.lemmas.Bool.{le-leb, lt-leb, cases_lt}
use Rattle.lw_model.specs.declared.script.Op.{Op}
use Rattle.lw_model.specs.declared.script.Op.TheVariants as op
use Rattle.lw_model.specs.Replay.{covers, byte_after}
use Rattle.std.proofs.lemmas.List.{places}
use borrow.Rule.Slice.PartMut.{put_mid}

-- the first block and the pattern of the last write that covers a block
abbrev pub last_write : List (Option Op) → ℕ → Option (ℕ × List ℕ)
last_write [] b = None
last_write (o ∷ past) b = elim o [
  | Some o' ↦ elim o' [ op.Write d start count pattern ↦ cond (nat_le start b && nat_lt b (start + count)) (Some (start, pattern)) (last_write past b) | _ ↦ last_write past b ]
  | None ↦ last_write past b
]

abbrev pub byte_of : ℕ → ℕ → Option (ℕ × List ℕ) → ℕ
byte_of block x None = 0
byte_of block x (Some w) = slice_index w.1 ((x - w.0 * block) % length w.1)

le_same : (a b c d : ℕ) → (a ≤ b → c ≤ d) → (c ≤ d → a ≤ b) → nat_le a b ≡ nat_le c d
le_same a b c d to back = elim (cases_lt b a) [
  | inl above ↦ lt-leb a b above ∙ sym (lt-leb c d (elim (cases_lt d c) [ inl h ↦ h | inr h ↦ absurd (omega (arith, back h)) ]))
  | inr h ↦ le-leb a b h ∙ sym (le-leb c d (to h))
]

lower : (block start x : ℕ) → 0 < block → nat_le (start * block) x ≡ nat_le start (x / block)
lower block start x pos = let both : (start ≤ x / block) ↔ (start * block ≤ x) = le-div_iff_mul-le pos in le_same (start * block) x start (x / block) both.1 both.0

upper : (block last x : ℕ) → 0 < block → nat_lt x (last * block) ≡ nat_lt (x / block) last
upper block last x pos = let both : (x / block < last) ↔ (x < last * block) = div-lt_iff_lt-mul pos in le_same (suc x) (last * block) (suc (x / block)) last both.1 both.0

pub covers-block : (block start count x : ℕ) → 0 < block → covers block start count x ≡ (nat_le start (x / block) && nat_lt (x / block) (start + count))
covers-block block start count x pos = ap₂ (λ a b. a && b) (lower block start x pos) (upper block (start + count) x pos)

pub byte_after-block : (block : ℕ) (past : List (Option Op)) (x : ℕ) → 0 < block → byte_after block past x ≡ byte_of block x (last_write past (x / block))
byte_after-block block [] x pos = refl
byte_after-block block (None ∷ past) x pos = byte_after-block block past x pos
byte_after-block block (Some (op.Get d) ∷ past) x pos = byte_after-block block past x pos
byte_after-block block (Some (op.Put d) ∷ past) x pos = byte_after-block block past x pos
byte_after-block block (Some (op.Write d start count pattern) ∷ past) x pos =
    ap (λ b. cond b (slice_index pattern ((x - start * block) % length pattern)) (byte_after block past x)) (covers-block block start count x pos)
    ∙ at (nat_le start (x / block) && nat_lt (x / block) (start + count)) (byte_after-block block past x pos)
  where
    at : (b : Bool) → byte_after block past x ≡ byte_of block x (last_write past (x / block))
        → cond b (slice_index pattern ((x - start * block) % length pattern)) (byte_after block past x) ≡ byte_of block x (cond b (Some (start, pattern)) (last_write past (x / block)))
    at true e = refl
    at false e = e
byte_after-block block (Some (op.Read d start count) ∷ past) x pos = byte_after-block block past x pos
byte_after-block block (Some (op.Flush d) ∷ past) x pos = byte_after-block block past x pos
byte_after-block block (Some (op.Wait ticks) ∷ past) x pos = byte_after-block block past x pos
byte_after-block block (Some (op.Visit d) ∷ past) x pos = byte_after-block block past x pos
byte_after-block block (Some op.Each ∷ past) x pos = byte_after-block block past x pos
byte_after-block block (Some (op.Unregister d) ∷ past) x pos = byte_after-block block past x pos

-- ---- a list of bytes with a part put in

pub before_part : (xs ys : List ℕ) (a k x : ℕ) → a + k ≤ length xs → length ys ≡ k → x < a → get_or (put_mid a k xs ys) x 0 ≡ get_or xs x 0
before_part xs ys a k x h e b = search (arith, rules, places)

pub in_part : (xs ys : List ℕ) (a k x : ℕ) → a + k ≤ length xs → length ys ≡ k → a ≤ x → x < a + k → get_or (put_mid a k xs ys) x 0 ≡ get_or ys (x - a) 0
in_part xs ys a k x h e b t = search (arith, rules, places)

pub behind_part : (xs ys : List ℕ) (a k x : ℕ) → a + k ≤ length xs → length ys ≡ k → a + k ≤ x → get_or (put_mid a k xs ys) x 0 ≡ get_or xs x 0
behind_part xs ys a k x h e b = search (arith, rules, places)
