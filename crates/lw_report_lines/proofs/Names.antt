-- Names that are UTF-8, words that are not, and how long a name is.
use Rattle.std.proofs.Common.{◌≡◌, ◌<◌, nat_le, ℕ, Bool, true, false, if◌then◌else◌, List, [], length, refl, ap, arith}
use Rattle.std.specs.List.{list_all}
use Rattle.std.proofs.lemmas.Bool.{and_parts, leb-true}
use Rattle.lw_model.specs.ScriptRules.{is_name, is_name_byte, is_within}
use Rattle.std.specs.Str.{is_utf8, IsUtf8}
use Rattle.std.proofs.lemmas.Str.{IsUtf8-from_is_utf8, is_utf8-from_IsUtf8}
use Rattle.lw_report_lines.specs.LineKinds.{name_of}

pub name_kept : (w : List ℕ) → IsUtf8 w → name_of w ≡ w
name_kept w h = ap (λ (b : Bool). if b then w else []) (is_utf8-from_IsUtf8 w h)

pub name_lost : (w : List ℕ) → ¬ IsUtf8 w → name_of w ≡ []
name_lost w h = at (is_utf8 w) refl
  where
    at : (b : Bool) → is_utf8 w ≡ b → (if b then w else []) ≡ []
    at true e = absurd (h (IsUtf8-from_is_utf8 w e))
    at false e = refl

pub named_length : (name : List ℕ) → is_name name ≡ true → 0 < length name
named_length name e =
    let a = and_parts (is_within 1 32 (length name)) (list_all is_name_byte name) e in
    let b = and_parts (nat_le 1 (length name)) (nat_le (length name) 32) a.0 in
    omega (arith, leb-true 1 (length name) b.0)
