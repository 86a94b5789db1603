-- The text of the lines of a script, and of replies.
use Rattle.std.proofs.Common.{◌≡◌, ℕ, ◌<◌, nat_lt, nat_le, Bool, true, false, ◌&&◌, if◌then◌else◌, List, [], ◌∷◌, ◌++◌, codes, length, decimal, Option, Some, None, Result, Ok, Err, refl, sym, ap, subst, arith}
use Rattle.std.specs.List.{list_all}
use Rattle.std.specs.Str.{is_utf8}
use Rattle.std.proofs.lemmas.Bool.{and_parts, leb-true}
use Rattle.lw_base.proofs.Lists.{some_same}
use Rattle.lw_base.specs.Words.{greatest_u32, greatest_u64}
use Rattle.hex.specs.declared.FromHexError.{FromHexError}
use Rattle.hex.specs.Hex.{encode_lower, decode_of}
use Rattle.lw_model.specs.declared.script.ImageOf.{ImageOf}
use Rattle.lw_model.specs.declared.script.Op.{Op}
use Rattle.lw_model.specs.declared.script.Op.TheVariants as op
use Rattle.lw_model.specs.declared.record.Reply.{Reply}
use Rattle.lw_model.specs.declared.record.Replied.{Replied}
use Rattle.lw_model.specs.declared.record.Replied.TheVariants as replied
use Rattle.lw_model.specs.ScriptShape.{pattern_of}
use Rattle.lw_model.specs.ScriptRules.{is_within, is_pattern}
use Rattle.lw_model.specs.ReportText.{line, image_line, op_words, op_line, replied_words, reply_line}
use Rattle.lw_report_lines.specs.declared.script_lines.ClientHead.{ClientHead}
use Rattle.lw_report_lines.specs.LineParts.{after, spaced, word, is_end}
use Rattle.lw_report_lines.specs.LineKinds.{last64, is_no_capital, last_digits, decoded, bytes_in, replied_in, reply_in, name_of, image_in, client_in, write_in, read_in, plain_form_in, op_in}
use Rattle.lw_report_lines.proofs.Said.{some_parts, map_parts, if_some}
use Rattle.lw_report_lines.proofs.PartTexts.{after_text, Tail, tail_end, tail_word, word_text, whole_line}
use Rattle.lw_report_lines.proofs.LineTexts.{tail32, tail64, last64_text, picked, by_end, by32, by64}
use Rattle.lw_report_lines.proofs.HexTexts.{lower_same}

digits_text : (l w : List ℕ) → last_digits l ≡ Some w → Tail (w ∷ []) l × (list_all is_no_capital w ≡ true)
digits_text l w e =
    let a = some_parts (word l) _ w e in
    let d = if_some (is_end a.0.1 && list_all is_no_capital a.0.0) a.0.0 w a.2 in
    let k = and_parts (is_end a.0.1) (list_all is_no_capital a.0.0) d.0 in
    subst (λ v. Tail (v ∷ []) l × (list_all is_no_capital v ≡ true)) d.1 (tail_word a.0.0 l a.0.1 [] (word_text l a.0 a.1) (tail_end a.0.1 k.0), k.1)

decoded_ok : (w bs : List ℕ) → decoded w ≡ Some bs → decode_of w ≡ Ok bs
decoded_ok w bs e = at (decode_of w) e
  where
    at : (r : Result (List ℕ) FromHexError) → ◌≡◌ {A = Option (List ℕ)} (elim r [ Ok bytes ↦ Some bytes | Err x ↦ None ]) (Some bs) → r ≡ Ok bs
    at (Ok bytes) e = ap Ok (some_same e)
    at (Err x) e = let wrong : None ≡ Some bs = e in cc

bytes_text : (l bs : List ℕ) → bytes_in l ≡ Some bs → Tail (encode_lower bs ∷ []) l
bytes_text l bs e =
    let a = some_parts (last_digits l) _ bs e in
    let b = some_parts (decoded a.0) _ bs a.2 in
    let d = if_some (nat_lt 0 (length b.0)) b.0 bs b.2 in
    let t = digits_text l a.0 a.1 in
    subst (λ q. Tail (encode_lower q ∷ []) l) d.1 (subst (λ w. Tail (w ∷ []) l) (sym (lower_same a.0 b.0 t.1 (decoded_ok a.0 b.0 b.1))) t.0)

replied_text : (l : List ℕ) (x : Replied) → replied_in l ≡ Some x → Tail (replied_words x) l
replied_text l x e =
    let P : Replied → Type 0 = λ v. Tail (replied_words v) l in
    picked P (codes " ok") l _ _ x (λ r. by_end replied_words l x (codes "ok") replied.Ok r refl)
    (picked P (codes " bytes") l _ _ x (λ r is h. let p = map_parts (bytes_in r) replied.Bytes x h in subst P p.2 (tail_word (codes "bytes") l r (encode_lower p.0 ∷ []) is (bytes_text r p.0 p.1)))
    (picked P (codes " writes") l _ _ x (λ r. by64 replied_words l x (codes "writes") replied.Writes r (λ k. refl))
    (λ none. let wrong : None ≡ Some x = none in cc))) e

pub reply_text : (l : List ℕ) (x : Reply) → reply_in l ≡ Some x → l ≡ reply_line x ++ 10 ∷ []
reply_text l x e =
    let a = some_parts (after (codes "reply") l) _ x e in
    let b = some_parts (spaced greatest_u32 a.0) _ x a.2 in
    let d = some_parts (replied_in b.0.1) _ x b.2 in
    subst (λ y. l ≡ reply_line y ++ 10 ∷ []) (some_same d.2)
    (whole_line (codes "reply") l a.0 (decimal b.0.0 ∷ replied_words d.0) (after_text (codes "reply") l a.0 a.1) (tail32 a.0 b.0 (replied_words d.0) b.1 (replied_text b.0.1 d.0 d.1)))

-- ---- names

name_same : (w : List ℕ) → 0 < length (name_of w) → name_of w ≡ w
name_same w h = at (is_utf8 w) h
  where
    at : (b : Bool) → 0 < length (if b then w else []) → (if b then w else []) ≡ w
    at true h = refl
    at false h = absurd (omega arith)

pub image_text : (l : List ℕ) (x : ImageOf) → image_in l ≡ Some x → 0 < length x.name → l ≡ image_line x ++ 10 ∷ []
image_text l x e named =
    let a = some_parts (after (codes "image") l) _ x e in
    let w = some_parts (word a.0) _ x a.2 in
    let b = some_parts (spaced greatest_u32 w.0.1) _ x w.2 in
    let c = some_parts (last64 b.0.1) _ x b.2 in
    let is : record { name = name_of w.0.0; block = b.0.0; blocks = c.0 } ≡ x = some_same c.2 in
    let same = name_same w.0.0 (subst (λ (y : ImageOf). 0 < length y.name) (sym is) named) in
    subst (λ (y : ImageOf). l ≡ image_line y ++ 10 ∷ []) is
    (subst (λ n. l ≡ line (codes "image" ∷ n ∷ decimal b.0.0 ∷ decimal c.0 ∷ []) ++ 10 ∷ []) (sym same)
    (whole_line (codes "image") l a.0 (w.0.0 ∷ decimal b.0.0 ∷ decimal c.0 ∷ []) (after_text (codes "image") l a.0 a.1)
    (tail_word w.0.0 a.0 w.0.1 (decimal b.0.0 ∷ decimal c.0 ∷ []) (word_text a.0 w.0 w.1) (tail32 w.0.1 b.0 (decimal c.0 ∷ []) b.1 (last64_text b.0.1 c.0 c.1)))))

pub client_text : (l : List ℕ) (x : ClientHead) → client_in l ≡ Some x → 0 < length x.name → l ≡ line (codes "client" ∷ x.name ∷ decimal x.depth ∷ decimal x.ops ∷ []) ++ 10 ∷ []
client_text l x e named =
    let a = some_parts (after (codes "client") l) _ x e in
    let w = some_parts (word a.0) _ x a.2 in
    let b = some_parts (spaced greatest_u32 w.0.1) _ x w.2 in
    let c = some_parts (last64 b.0.1) _ x b.2 in
    let is : record { name = name_of w.0.0; depth = b.0.0; ops = c.0 } ≡ x = some_same c.2 in
    let same = name_same w.0.0 (subst (λ (y : ClientHead). 0 < length y.name) (sym is) named) in
    subst (λ (y : ClientHead). l ≡ line (codes "client" ∷ y.name ∷ decimal y.depth ∷ decimal y.ops ∷ []) ++ 10 ∷ []) is
    (subst (λ n. l ≡ line (codes "client" ∷ n ∷ decimal b.0.0 ∷ decimal c.0 ∷ []) ++ 10 ∷ []) (sym same)
    (whole_line (codes "client") l a.0 (w.0.0 ∷ decimal b.0.0 ∷ decimal c.0 ∷ []) (after_text (codes "client") l a.0 a.1)
    (tail_word w.0.0 a.0 w.0.1 (decimal b.0.0 ∷ decimal c.0 ∷ []) (word_text a.0 w.0 w.1) (tail32 w.0.1 b.0 (decimal c.0 ∷ []) b.1 (last64_text b.0.1 c.0 c.1)))))

-- ---- ops

pattern_ok : (w : List ℕ) → 0 < length (pattern_of w) → decode_of w ≡ Ok (pattern_of w)
pattern_ok w h = at (decode_of w) h
  where
    at : (r : Result (List ℕ) FromHexError) → 0 < length (elim r as (λ _. List ℕ) [ Ok bytes ↦ bytes | Err x ↦ [] ]) → r ≡ Ok (elim r as (λ _. List ℕ) [ Ok bytes ↦ bytes | Err x ↦ [] ])
    at (Ok bytes) h = refl
    at (Err x) h = absurd (omega arith)

write_text : (l r : List ℕ) (o : Op) → is_pattern o ≡ true → l ≡ 32 ∷ (codes "write" ++ r) → write_in r ≡ Some o → Tail (op_words o) l
write_text l r o fits is e =
    let a = some_parts (spaced greatest_u32 r) _ o e in
    let b = some_parts (spaced greatest_u64 a.0.1) _ o a.2 in
    let c = some_parts (spaced greatest_u64 b.0.1) _ o b.2 in
    let w = some_parts (last_digits c.0.1) _ o c.2 in
    let t = digits_text c.0.1 w.0 w.1 in
    let same : op.Write a.0.0 b.0.0 c.0.0 (pattern_of w.0) ≡ o = some_same w.2 in
    let long : is_within 1 64 (length (pattern_of w.0)) ≡ true = subst (λ q. is_pattern q ≡ true) (sym same) fits in
    let k = and_parts (nat_le 1 (length (pattern_of w.0))) (nat_le (length (pattern_of w.0)) 64) long in
    let ok = pattern_ok w.0 (omega (arith, leb-true 1 (length (pattern_of w.0)) k.0)) in
    subst (λ q. Tail (op_words q) l) same
    (tail_word (codes "write") l r (decimal a.0.0 ∷ decimal b.0.0 ∷ decimal c.0.0 ∷ encode_lower (pattern_of w.0) ∷ []) is
    (tail32 r a.0 (decimal b.0.0 ∷ decimal c.0.0 ∷ encode_lower (pattern_of w.0) ∷ []) a.1
    (tail64 a.0.1 b.0 (decimal c.0.0 ∷ encode_lower (pattern_of w.0) ∷ []) b.1
    (tail64 b.0.1 c.0 (encode_lower (pattern_of w.0) ∷ []) c.1
    (subst (λ v. Tail (v ∷ []) c.0.1) (sym (lower_same w.0 (pattern_of w.0) t.1 ok)) t.0)))))

read_text : (l r : List ℕ) (o : Op) → l ≡ 32 ∷ (codes "read" ++ r) → read_in r ≡ Some o → Tail (op_words o) l
read_text l r o is e =
    let a = some_parts (spaced greatest_u32 r) _ o e in
    let b = some_parts (spaced greatest_u64 a.0.1) _ o a.2 in
    let c = some_parts (last64 b.0.1) _ o b.2 in
    subst (λ q. Tail (op_words q) l) (some_same c.2)
    (tail_word (codes "read") l r (decimal a.0.0 ∷ decimal b.0.0 ∷ decimal c.0 ∷ []) is
    (tail32 r a.0 (decimal b.0.0 ∷ decimal c.0 ∷ []) a.1 (tail64 a.0.1 b.0 (decimal c.0 ∷ []) b.1 (last64_text b.0.1 c.0 c.1))))

plain_text : (l : List ℕ) (o : Op) → plain_form_in l ≡ Some o → Tail (op_words o) l
plain_text l o e =
    let P : Op → Type 0 = λ q. Tail (op_words q) l in
    picked P (codes " get") l _ _ o (λ r. by32 op_words l o (codes "get") op.Get r (λ k. refl))
    (picked P (codes " put") l _ _ o (λ r. by32 op_words l o (codes "put") op.Put r (λ k. refl))
    (picked P (codes " read") l _ _ o (λ r. read_text l r o)
    (picked P (codes " flush") l _ _ o (λ r. by32 op_words l o (codes "flush") op.Flush r (λ k. refl))
    (picked P (codes " wait") l _ _ o (λ r. by64 op_words l o (codes "wait") op.Wait r (λ k. refl))
    (picked P (codes " visit") l _ _ o (λ r. by32 op_words l o (codes "visit") op.Visit r (λ k. refl))
    (picked P (codes " each") l _ _ o (λ r. by_end op_words l o (codes "each") op.Each r refl)
    (picked P (codes " unregister") l _ _ o (λ r. by32 op_words l o (codes "unregister") op.Unregister r (λ k. refl))
    (λ none. let wrong : None ≡ Some o = none in cc)))))))) e

pub op_text : (l : List ℕ) (o : Op) → op_in l ≡ Some o → is_pattern o ≡ true → l ≡ op_line o ++ 10 ∷ []
op_text l o e fits =
    let a = some_parts (after (codes "op") l) _ o e in
    whole_line (codes "op") l a.0 (op_words o) (after_text (codes "op") l a.0 a.1)
    (picked (λ q. Tail (op_words q) a.0) (codes " write") a.0 _ _ o (λ r. write_text a.0 r o fits) (plain_text a.0 o) a.2)
