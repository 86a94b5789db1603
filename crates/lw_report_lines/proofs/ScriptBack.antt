-- The lines of a script, replies and results are read back.
use Rattle.std.proofs.Common.{◌≡◌, ℕ, zero, suc, ◌+◌, ◌/◌, ◌%◌, ◌<◌, ◌≤◌, ◌==◌, nat_le, Bool, true, false, cond, ◌&&◌, ◌||◌, not, if◌then◌else◌, List, [], ◌∷◌, ◌++◌, codes, map, filter, length, append_assoc, decimal, Option, Some, None, option_map, is_some, Result, Ok, Err, refl, ap, ap₂, ◌∙◌, arith}
use Rattle.std.specs.Prelude.{slice_index}
use Rattle.std.specs.List.{list_all, AllByRecursion}
use Rattle.std.specs.Str.{IsAscii}
use Rattle.std.proofs.lemmas.Bool.{and_parts, and_from, leb-true, lt-ltb, eqb-true, ne_eqb, false≢true}
use Rattle.std.proofs.lemmas.List.Elements.{filter-append}
use Rattle.std.proofs.lemmas.Str.{IsUtf8-from_ascii, is_utf8-from_IsUtf8}
use Rattle.std.proofs.lemmas.Fmt.{digits_decimal}
use Rattle.hex.specs.declared.FromHexError.{FromHexError}
use Rattle.hex.specs.Hex.{lower_digits, encode_with, encode_lower, IsBytes}
use Rattle.hex.proofs.HexLemmas.{length-encode_with, decode_of-encode_lower}
use Rattle.lw_base.specs.declared.message.Mark.{Mark}
use Rattle.lw_base.specs.Words.{greatest_u32, greatest_u64}
use Rattle.lw_model.specs.declared.script.ImageOf.{ImageOf}
use Rattle.lw_model.specs.declared.script.Op.{Op}
use Rattle.lw_model.specs.declared.script.Op.TheVariants as op
use Rattle.lw_model.specs.declared.record.Reply.{Reply}
use Rattle.lw_model.specs.declared.record.Replied.{Replied}
use Rattle.lw_model.specs.declared.record.Replied.TheVariants as replied
use Rattle.lw_model.specs.declared.record.Seen.{Seen}
use Rattle.lw_model.specs.declared.record.SeenBy.{SeenBy}
use Rattle.lw_model.specs.declared.record.SeenBy.TheVariants as by
use Rattle.lw_model.specs.ScriptRules.{is_within, is_name, is_name_byte, is_pattern}
use Rattle.lw_model.specs.ScriptShape.{pattern_of}
use Rattle.lw_model.specs.Printable.{has_bytes, has_results}
use Rattle.lw_model.specs.ReportText.{line, image_line, op_words, op_line, replied_words, reply_line, mark_word, result_words, seen_line}
use Rattle.lw_model.specs.Ranges.{Fits32, Fits64, RepliedFits, ReplyFits, MarkFits, SeenByFits, SeenFits, OpFits, ImageFits}
use Rattle.lw_model.proofs.Passing.{all_in_range}
use Rattle.lw_report_lines.specs.LineParts.{spaced, word, is_digit, ends_word}
use Rattle.lw_report_lines.specs.LineKinds.{is_no_capital, last_digits, decoded, bytes_in, replied_in, reply_in, mark, results, is_space, results_in, seen_in, name_of, image_in, client_in, write_in, read_in, form_in, op_in}
use Rattle.lw_report_lines.proofs.PartTexts.{numerals}
use Rattle.lw_report_lines.proofs.PartsBack.{number_back, tail_of, tail_cons, tail_no_digit, back32, back64, last32_back, last64_back, word_back, are_all}
use Rattle.lw_report_lines.proofs.LinesBack.{line_tail}
use Rattle.lw_report_lines.proofs.Names.{named_length}

-- ---- hexadecimal digits

-- what holds of each digit of the table holds of each that is written
all_hex : (p : ℕ → Bool) → ((k : ℕ) → 0 ≤ k → k < 0 + 16 → p (slice_index lower_digits k) ≡ true) → (bs : List ℕ) → IsBytes bs → list_all p (encode_lower bs) ≡ true
unfolding encode_with
all_hex p each [] fit = refl
all_hex p each (b ∷ bs) fit =
    let small : b < 256 = fit 0 in
    and_from (p (slice_index lower_digits (b / 16))) (p (slice_index lower_digits (b % 16)) && list_all p (encode_lower bs)) (each (b / 16) (omega arith) (omega (arith, small)))
    (and_from (p (slice_index lower_digits (b % 16))) (list_all p (encode_lower bs)) (each (b % 16) (omega arith) (omega arith)) (all_hex p each bs (λ i. fit (suc i))))

pub hex_words : (bs : List ℕ) → IsBytes bs → list_all (λ b. not (ends_word b)) (encode_lower bs) ≡ true
hex_words = all_hex (λ b. not (ends_word b)) ((all_in_range (λ k. not (ends_word (slice_index lower_digits k))) (λ k. not (ends_word (slice_index lower_digits k)) ≡ true) 0 16 (λ k. (λ e. e, λ e. e))).0 refl)

hex_small : (bs : List ℕ) → IsBytes bs → list_all is_no_capital (encode_lower bs) ≡ true
hex_small = all_hex is_no_capital ((all_in_range (λ k. is_no_capital (slice_index lower_digits k)) (λ k. is_no_capital (slice_index lower_digits k) ≡ true) 0 16 (λ k. (λ e. e, λ e. e))).0 refl)

hex_length : (bs : List ℕ) → 0 < length bs → 0 < length (encode_lower bs)
hex_length bs h = omega (arith, length-encode_with lower_digits bs, h)

digits_back : (bs : List ℕ) → IsBytes bs → 0 < length bs → last_digits (tail_of (encode_lower bs ∷ [])) ≡ Some (encode_lower bs)
digits_back bs fit some = rw (word_back (encode_lower bs) [] (hex_length bs some) (hex_words bs fit), hex_small bs fit) refl

decoded_back : (bs : List ℕ) → IsBytes bs → decoded (encode_lower bs) ≡ Some bs
decoded_back bs fit = ap (λ (r : Result (List ℕ) FromHexError). elim r as (λ _. Option (List ℕ)) [ Ok bytes ↦ Some bytes | Err e ↦ None ]) (decode_of-encode_lower bs fit)

bytes_back : (bs : List ℕ) → IsBytes bs → 0 < length bs → bytes_in (tail_of (encode_lower bs ∷ [])) ≡ Some bs
bytes_back bs fit some = rw (digits_back bs fit some, decoded_back bs fit, lt-ltb 0 (length bs) some) refl

pattern_back : (bs : List ℕ) → IsBytes bs → pattern_of (encode_lower bs) ≡ bs
pattern_back bs fit = ap (λ (r : Result (List ℕ) FromHexError). elim r as (λ _. List ℕ) [ Ok bytes ↦ bytes | Err e ↦ [] ]) (decode_of-encode_lower bs fit)

-- ---- replies

some_bytes : (bs : List ℕ) → has_bytes (replied.Bytes bs) ≡ true → 0 < length bs
some_bytes [] h = let wrong : false ≡ true = h in cc
some_bytes (b ∷ bs) h = omega arith

replied_back : (x : Replied) → RepliedFits x → has_bytes x ≡ true → replied_in (tail_of (replied_words x)) ≡ Some x
replied_back replied.Ok fit has = refl
replied_back (replied.Bytes bs) fit has = ap (option_map replied.Bytes) (bytes_back bs fit (some_bytes bs has))
replied_back (replied.Writes n) fit has = ap (option_map replied.Writes) (last64_back n fit)

pub reply_back : (x : Reply) → ReplyFits x → has_bytes x.answer ≡ true → reply_in (reply_line x ++ 10 ∷ []) ≡ Some x
reply_back x fit has =
    ap reply_in (line_tail (codes "reply") (decimal x.op ∷ replied_words x.answer))
    ∙ rw (back32 x.op (replied_words x.answer) fit.0, replied_back x.answer fit.1 has) refl

-- ---- results

mark_back : (m : Mark) (ws : List (List ℕ)) → MarkFits m → mark (tail_of (mark_word m ∷ ws)) ≡ Some (m, tail_of ws)
mark_back m ws fit =
    let split : tail_of (mark_word m ∷ ws) ≡ 32 ∷ (decimal m.thread ++ (58 ∷ (decimal m.submitted ++ tail_of ws))) =
    tail_cons (mark_word m) ws ∙ ap (λ q. 32 ∷ q) (append_assoc (decimal m.thread) (58 ∷ decimal m.submitted) (tail_of ws)) in
    let first : spaced greatest_u32 (32 ∷ (decimal m.thread ++ (58 ∷ (decimal m.submitted ++ tail_of ws)))) ≡ Some (m.thread, 58 ∷ (decimal m.submitted ++ tail_of ws)) =
    number_back greatest_u32 m.thread (58 ∷ (decimal m.submitted ++ tail_of ws)) (omega arith) fit.0 refl in
    ap mark split ∙ rw (first, number_back greatest_u64 m.submitted (tail_of ws) (omega arith) fit.1 (tail_no_digit ws)) refl

results_back : {X : Type 0} (one : List ℕ → Option (X × List ℕ)) (word : X → List ℕ) (Fits : X → Type 0) → ((x : X) (ws : List (List ℕ)) → Fits x → one (tail_of (word x ∷ ws)) ≡ Some (x, tail_of ws))
    → (xs : List X) → AllByRecursion Fits xs → results one (length xs) (tail_of (map word xs)) ≡ Some xs
results_back one word Fits each [] fit = refl
results_back one word Fits each (x ∷ xs) fit = rw (each x (map word xs) fit.0, results_back one word Fits each xs fit.1) refl

-- a word without a space
no_space : (w : List ℕ) → list_all (λ b. not (is_space b)) w ≡ true → filter is_space w ≡ []
no_space [] h = refl
no_space (b ∷ w) h = skip (is_space b) (and_parts (not (is_space b)) (list_all (λ b. not (is_space b)) w) h) (λ k. no_space w k)
  where
    skip : (t : Bool) → (not t ≡ true) × (list_all (λ b. not (is_space b)) w ≡ true) → (list_all (λ b. not (is_space b)) w ≡ true → filter is_space w ≡ []) → cond t (b ∷ filter is_space w) (filter is_space w) ≡ []
    skip true h rest = absurd (false≢true h.0)
    skip false h rest = rest h.1

spaces_counted : (ws : List (List ℕ)) → AllByRecursion (λ (w : List ℕ). list_all (λ b. not (is_space b)) w ≡ true) ws → length (filter is_space (tail_of ws)) ≡ length ws
spaces_counted [] fit = refl
spaces_counted (w ∷ ws) fit =
    ap (λ l. length (filter is_space l)) (tail_cons w ws)
    ∙ ap (λ l. suc (length l)) (filter-append is_space w (tail_of ws) ∙ ap (λ q. q ++ filter is_space (tail_of ws)) (no_space w fit.0))
    ∙ ap suc (spaces_counted ws fit.1)

digit_no_space : (ds : List ℕ) → list_all is_digit ds ≡ true → list_all (λ b. not (is_space b)) ds ≡ true
digit_no_space [] h = refl
digit_no_space (d ∷ ds) h =
    let k = and_parts (is_digit d) (list_all is_digit ds) h in
    let m = and_parts (nat_le 48 d) (nat_le d 57) k.0 in
    and_from (not (is_space d)) (list_all (λ b. not (is_space b)) ds) (ap not (ne_eqb d 32 (λ e. absurd (omega (arith, e, leb-true 48 d m.0))))) (digit_no_space ds k.1)

decimal_no_space : (n : ℕ) → n ≤ greatest_u64 → list_all (λ b. not (is_space b)) (decimal n) ≡ true
decimal_no_space n fit = digit_no_space (decimal n) (are_all (decimal n) (digits_decimal numerals n (omega arith)))

all-append : (p : ℕ → Bool) (xs ys : List ℕ) → list_all p xs ≡ true → list_all p ys ≡ true → list_all p (xs ++ ys) ≡ true
all-append p [] ys a b = b
all-append p (x ∷ xs) ys a b = let h = and_parts (p x) (list_all p xs) a in and_from (p x) (list_all p (xs ++ ys)) h.0 (all-append p xs ys h.1 b)

marks_no_space : (ms : List Mark) → AllByRecursion MarkFits ms → AllByRecursion (λ (w : List ℕ). list_all (λ b. not (is_space b)) w ≡ true) (map mark_word ms)
marks_no_space [] fit = tt
marks_no_space (m ∷ ms) fit =
    (all-append (λ b. not (is_space b)) (decimal m.thread) (58 ∷ decimal m.submitted) (decimal_no_space m.thread (omega (arith, fit.0.0))) (decimal_no_space m.submitted fit.0.1), marks_no_space ms fit.1)

threads_no_space : (ts : List ℕ) → AllByRecursion Fits32 ts → AllByRecursion (λ (w : List ℕ). list_all (λ b. not (is_space b)) w ≡ true) (map decimal ts)
threads_no_space [] fit = tt
threads_no_space (t ∷ ts) fit = (decimal_no_space t (omega (arith, fit.0)), threads_no_space ts fit.1)

length_map : {X Y : Type 0} (f : X → Y) (xs : List X) → length (map f xs) ≡ length xs
length_map f [] = refl
length_map f (x ∷ xs) = ap suc (length_map f xs)

-- a thread alone is no mark
no_mark : (t : ℕ) (ws : List (List ℕ)) → Fits32 t → mark (tail_of (decimal t ∷ ws)) ≡ None
no_mark t [] fit = rw (back32 t [] fit) refl
no_mark t (w ∷ ws) fit = rw (back32 t (w ∷ ws) fit) refl

results_are : (x : SeenBy) → SeenByFits x → has_results x ≡ true → results_in (tail_of (result_words x)) ≡ Some x
results_are (by.Visit []) fit has = refl
results_are (by.Visit (m ∷ ms)) fit has =
    let l = tail_of (map mark_word (m ∷ ms)) in
    let count : length (filter is_space l) ≡ length (m ∷ ms) = spaces_counted (map mark_word (m ∷ ms)) (marks_no_space (m ∷ ms) fit) ∙ length_map mark_word (m ∷ ms) in
    let first : is_some (mark l) ≡ true = ap is_some (mark_back m (map mark_word ms) fit.0) in
    let all = results_back mark mark_word MarkFits mark_back (m ∷ ms) fit in
    ap (λ b. if length (filter is_space l) == 0 || b then option_map by.Visit (results mark (length (filter is_space l)) l) else option_map by.Cast (results (spaced greatest_u32) (length (filter is_space l)) l)) first
    ∙ either (length (filter is_space l) == 0) (option_map by.Visit (results mark (length (filter is_space l)) l)) (option_map by.Cast (results (spaced greatest_u32) (length (filter is_space l)) l))
    ∙ ap (λ k. option_map by.Visit (results mark k l)) count
    ∙ ap (option_map by.Visit) all
  where
    either : (b : Bool) (x y : Option SeenBy) → (if b || true then x else y) ≡ x
    either true x y = refl
    either false x y = refl
results_are (by.Cast []) fit has = let wrong : false ≡ true = has in cc
results_are (by.Cast (t ∷ ts)) fit has =
    let l = tail_of (map decimal (t ∷ ts)) in
    let count : length (filter is_space l) ≡ length (t ∷ ts) = spaces_counted (map decimal (t ∷ ts)) (threads_no_space (t ∷ ts) fit) ∙ length_map decimal (t ∷ ts) in
    let first : is_some (mark l) ≡ false = ap is_some (no_mark t (map decimal ts) fit.0) in
    let some : (length (filter is_space l) == 0) ≡ false = ne_eqb (length (filter is_space l)) 0 (λ e. absurd (omega (arith, e, count))) in
    let all = results_back (spaced greatest_u32) decimal Fits32 (λ k ws h. back32 k ws h) (t ∷ ts) fit in
    ap₂ (λ a b. if a || b then option_map by.Visit (results mark (length (filter is_space l)) l) else option_map by.Cast (results (spaced greatest_u32) (length (filter is_space l)) l)) some first
    ∙ ap (λ k. option_map by.Cast (results (spaced greatest_u32) k l)) count
    ∙ ap (option_map by.Cast) all

pub seen_back : (x : Seen) → SeenFits x → has_results x.results ≡ true → seen_in (seen_line x ++ 10 ∷ []) ≡ Some x
seen_back x fit has =
    ap seen_in (line_tail (codes "seen") (decimal x.op ∷ result_words x.results))
    ∙ rw (back32 x.op (result_words x.results) fit.0, results_are x.results fit.1 has) refl

-- ---- names

-- a name is a word, and ASCII
name_byte : (b : ℕ) → is_name_byte b ≡ true → (not (ends_word b) ≡ true) × (b < 128)
name_byte b e = at (is_within 97 122 b) (is_within 48 57 b) (b == 95) (b == 45) refl refl refl refl e
  where
    fine : (low high : ℕ) → 32 < low → high < 128 → low ≤ b → b ≤ high → (not (ends_word b) ≡ true) × (b < 128)
    fine low high p q l h = (ap₂ (λ x y. not (x || y)) (ne_eqb b 32 (λ e. absurd (omega (arith, e, l, p)))) (ne_eqb b 10 (λ e. absurd (omega (arith, e, l, p)))), omega (arith, h, q))

    at : (w x y z : Bool) → is_within 97 122 b ≡ w → is_within 48 57 b ≡ x → (b == 95) ≡ y → (b == 45) ≡ z → (w || x || y || z) ≡ true → (not (ends_word b) ≡ true) × (b < 128)
    at true x y z p q r s e = let k = and_parts (nat_le 97 b) (nat_le b 122) p in fine 97 122 (omega arith) (omega arith) (leb-true 97 b k.0) (leb-true b 122 k.1)
    at false true y z p q r s e = let k = and_parts (nat_le 48 b) (nat_le b 57) q in fine 48 57 (omega arith) (omega arith) (leb-true 48 b k.0) (leb-true b 57 k.1)
    at false false true z p q r s e = let is = eqb-true b 95 r in fine 95 95 (omega arith) (omega arith) (omega (arith, is)) (omega (arith, is))
    at false false false true p q r s e = let is = eqb-true b 45 s in fine 45 45 (omega arith) (omega arith) (omega (arith, is)) (omega (arith, is))
    at false false false false p q r s e = absurd (false≢true e)

pub name_words : (w : List ℕ) → list_all is_name_byte w ≡ true → list_all (λ b. not (ends_word b)) w ≡ true
name_words [] h = refl
name_words (b ∷ w) h = let k = and_parts (is_name_byte b) (list_all is_name_byte w) h in and_from (not (ends_word b)) (list_all (λ b. not (ends_word b)) w) (name_byte b k.0).0 (name_words w k.1)

name_ascii : (w : List ℕ) → list_all is_name_byte w ≡ true → IsAscii w
name_ascii [] h i = omega arith
name_ascii (b ∷ w) h zero = let k = and_parts (is_name_byte b) (list_all is_name_byte w) h in (name_byte b k.0).1
name_ascii (b ∷ w) h (suc i) = let k = and_parts (is_name_byte b) (list_all is_name_byte w) h in name_ascii w k.1 i

name_kept : (w : List ℕ) → is_name w ≡ true → name_of w ≡ w
name_kept w h =
    let k = and_parts (is_within 1 32 (length w)) (list_all is_name_byte w) h in
    ap (λ (b : Bool). if b then w else []) (is_utf8-from_IsUtf8 w (IsUtf8-from_ascii w (name_ascii w k.1)))

name_back : (w : List ℕ) (ws : List (List ℕ)) → is_name w ≡ true → word (tail_of (w ∷ ws)) ≡ Some (w, tail_of ws)
name_back w ws h = let k = and_parts (is_within 1 32 (length w)) (list_all is_name_byte w) h in word_back w ws (named_length w h) (name_words w k.1)

pub image_back : (x : ImageOf) → ImageFits x → is_name x.name ≡ true → image_in (image_line x ++ 10 ∷ []) ≡ Some x
image_back x fit named =
    ap image_in (line_tail (codes "image") (x.name ∷ decimal x.block ∷ decimal x.blocks ∷ []))
    ∙ rw (name_back x.name (decimal x.block ∷ decimal x.blocks ∷ []) named, back32 x.block (decimal x.blocks ∷ []) fit.0, last64_back x.blocks fit.1, name_kept x.name named) refl

pub client_back : (name : List ℕ) (depth ops : ℕ) → Fits32 depth → Fits64 ops → is_name name ≡ true → client_in (line (codes "client" ∷ name ∷ decimal depth ∷ decimal ops ∷ []) ++ 10 ∷ []) ≡ Some (record { name = name; depth = depth; ops = ops })
client_back name depth ops a b named =
    ap client_in (line_tail (codes "client") (name ∷ decimal depth ∷ decimal ops ∷ []))
    ∙ rw (name_back name (decimal depth ∷ decimal ops ∷ []) named, back32 depth (decimal ops ∷ []) a, last64_back ops b, name_kept name named) refl

-- ---- ops

write_back : (d start count : ℕ) (pattern : List ℕ) → Fits32 d → Fits64 start → Fits64 count → IsBytes pattern → 0 < length pattern
    → write_in (tail_of (decimal d ∷ decimal start ∷ decimal count ∷ encode_lower pattern ∷ [])) ≡ Some (op.Write d start count pattern)
write_back d start count pattern a b c fit some =
    rw (back32 d (decimal start ∷ decimal count ∷ encode_lower pattern ∷ []) a, back64 start (decimal count ∷ encode_lower pattern ∷ []) b, back64 count (encode_lower pattern ∷ []) c, digits_back pattern fit some, pattern_back pattern fit) refl

read_back : (d start count : ℕ) → Fits32 d → Fits64 start → Fits64 count → read_in (tail_of (decimal d ∷ decimal start ∷ decimal count ∷ [])) ≡ Some (op.Read d start count)
read_back d start count a b c = rw (back32 d (decimal start ∷ decimal count ∷ []) a, back64 start (decimal count ∷ []) b, last64_back count c) refl

form_back : (o : Op) → OpFits o → is_pattern o ≡ true → form_in (tail_of (op_words o)) ≡ Some o
form_back (op.Get d) fit long = ap (option_map op.Get) (last32_back d fit)
form_back (op.Put d) fit long = ap (option_map op.Put) (last32_back d fit)
form_back (op.Write d start count pattern) fit long =
    let k = and_parts (nat_le 1 (length pattern)) (nat_le (length pattern) 64) long in
    write_back d start count pattern fit.0 fit.1 fit.2 fit.3 (omega (arith, leb-true 1 (length pattern) k.0))
form_back (op.Read d start count) fit long = read_back d start count fit.0 fit.1 fit.2
form_back (op.Flush d) fit long = ap (option_map op.Flush) (last32_back d fit)
form_back (op.Wait ticks) fit long = ap (option_map op.Wait) (last64_back ticks fit)
form_back (op.Visit d) fit long = ap (option_map op.Visit) (last32_back d fit)
form_back op.Each fit long = refl
form_back (op.Unregister d) fit long = ap (option_map op.Unregister) (last32_back d fit)

pub op_back : (o : Op) → OpFits o → is_pattern o ≡ true → op_in (op_line o ++ 10 ∷ []) ≡ Some o
op_back o fit long = ap op_in (line_tail (codes "op") (op_words o)) ∙ form_back o fit long
