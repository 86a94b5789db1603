-- What a word looks like: a long flag, a short one, or neither.
use Rattle.std.proofs.Common.{◌≡◌, ◌∙◌, ◌==◌, ◌&&◌, ℕ, Bool, cond, true, false, refl, sym, ap, List, [], ◌∷◌, ◌++◌, length, Option, Some, None, IsUtf8, chars, encode_utf8_all, slice_get, eqb-true, suc, lit≤}
use Rattle.std.specs.Option.{option_and_then, option_map_or}
use Rattle.std.specs.Str.{bytes_eq}
use Rattle.std.proofs.lemmas.Str.{IsUtf8-past_char, encodes-chars, encode_ascii}
use Rattle.clap.specs.Lexer.{long_of, long_of_rest, short_of, short_of_rest, strip_byte}
use Rattle.lw_program.specs.Words.{is_flag, has_bytes}

abbrev Long : Type 0
Long = Option (List ℕ × Option (List ℕ))

none≢some : {X : Type 0} (x : X) → None ≡ Some x → ⊥
none≢some x e = cc

pub long_is_flag : (word : List ℕ) (p : List ℕ × Option (List ℕ)) → long_of word ≡ Some p → is_flag word ≡ true
long_is_flag [] p e = absurd (none≢some p e)
long_is_flag (x ∷ xs) p e = go (x == 45) xs e
  where
    go : (b : Bool) (ys : List ℕ) → option_and_then long_of_rest (option_and_then (strip_byte 45) (cond b (Some ys) None)) ≡ Some p
        → option_map_or has_bytes (cond b (Some ys) None) false ≡ true
    go false ys e = absurd (none≢some p e)
    go true [] e = absurd (none≢some p e)
    go true (y ∷ ys) e = refl

pub short_is_flag : (word flags : List ℕ) → short_of word ≡ Some flags → is_flag word ≡ true
short_is_flag [] flags e = absurd (none≢some flags e)
short_is_flag (x ∷ xs) flags e = go (x == 45) xs e
  where
    go : (b : Bool) (ys : List ℕ) → option_and_then short_of_rest (cond b (Some ys) None) ≡ Some flags
        → option_map_or has_bytes (cond b (Some ys) None) false ≡ true
    go false ys e = absurd (none≢some flags e)
    go true [] e = absurd (none≢some flags e)
    go true (y ∷ ys) e = refl

-- a word that is no flag, nor the mark
pub plain_is_value : (word : List ℕ) → long_of word ≡ None → short_of word ≡ None → bytes_eq word (45 ∷ 45 ∷ []) ≡ false → is_flag word ≡ false
plain_is_value [] long short mark = refl
plain_is_value (x ∷ xs) long short mark = go (x == 45) xs long short mark
  where
    go : (b : Bool) (ys : List ℕ) → option_and_then long_of_rest (option_and_then (strip_byte 45) (cond b (Some ys) None)) ≡ None
        → option_and_then short_of_rest (cond b (Some ys) None) ≡ None → (b && bytes_eq ys (45 ∷ [])) ≡ false
        → option_map_or has_bytes (cond b (Some ys) None) false ≡ false
    go false ys long short mark = refl
    go true [] long short mark = refl
    go true (y ∷ ys) long short mark = inner (y == 45) ys long short mark
      where
        inner : (c : Bool) (zs : List ℕ) → option_and_then long_of_rest (cond c (Some zs) None) ≡ None
            → cond c None (Some (y ∷ zs)) ≡ None → (c && bytes_eq zs []) ≡ false → true ≡ false
        inner false zs long short mark = absurd (none≢some (y ∷ zs) (sym short))
        inner true [] long short mark = mark
        inner true (z ∷ zs) long short mark = absurd (none≢some _ (sym long))

behind_hyphen : (word flags : List ℕ) → short_of word ≡ Some flags → (word ≡ 45 ∷ flags) × (y : ℕ) × (ys : List ℕ) × (flags ≡ y ∷ ys)
behind_hyphen [] flags e = absurd (none≢some flags e)
behind_hyphen (x ∷ xs) flags e = go (x == 45) refl xs e
  where
    inner : (c : Bool) (y : ℕ) (ys : List ℕ) → cond c None (Some (y ∷ ys)) ≡ Some flags → flags ≡ y ∷ ys
    inner true y ys e = absurd (none≢some flags e)
    inner false y ys e = let w : Some (y ∷ ys) ≡ Some flags = e in cc

    go : (b : Bool) → (x == 45) ≡ b → (ys : List ℕ) → option_and_then short_of_rest (cond b (Some ys) None) ≡ Some flags → (x ∷ ys ≡ 45 ∷ flags) × (y : ℕ) × (zs : List ℕ) × (flags ≡ y ∷ zs)
    go false h ys e = absurd (none≢some flags e)
    go true h [] e = absurd (none≢some flags e)
    go true h (y ∷ ys) e =
        let is : flags ≡ y ∷ ys = inner (y == 45) y ys e in
        let hyphen : x ≡ 45 = eqb-true x 45 h in
        (rw (hyphen, is) refl, y, ys, is)

-- what follows the hyphen of a short flag has a first character
pub first_char : (word flags : List ℕ) → IsUtf8 word → short_of word ≡ Some flags → (x : ℕ) × (k : ℕ) × (slice_get (chars flags) 0 ≡ Some x) × (length flags ≡ suc k)
first_char word flags utf8 e =
    let parts = behind_hyphen word flags e in
    let rest : IsUtf8 flags = IsUtf8-past_char word flags 45 utf8 (parts.0 ∙ sym (ap (λ l. l ++ flags) (encode_ascii 45 (lit≤ tt)))) in
    let first = go (chars flags) (encodes-chars flags rest) parts.3 in
    (first.0, length parts.2, first.1, ap length parts.3)
  where
    go : {y : ℕ} {ys : List ℕ} (cs : List ℕ) → encode_utf8_all cs ≡ flags → flags ≡ y ∷ ys → (x : ℕ) × (slice_get cs 0 ≡ Some x)
    go [] spells is = let w = spells ∙ is in cc
    go (c ∷ cs) spells is = (c, refl)
