-- The numbers of each line that was read fit their types.
use Rattle.std.proofs.Common.{◌≡◌, ℕ, zero, suc, ◌≤◌, ◌==◌, nat_lt, Bool, true, false, ◌||◌, filter, is_some, if◌then◌else◌, List, [], ◌∷◌, codes, length, Option, Some, None, option_map, Result, Ok, Err, refl, subst, arith}
use Rattle.std.specs.List.{AllByRecursion}
use Rattle.hex.specs.declared.FromHexError.{FromHexError}
use Rattle.hex.specs.Hex.{IsBytes, decode_of}
use Rattle.hex.proofs.HexLemmas.{decode_of-ok}
use Rattle.lw_base.specs.declared.message.Tag.{Tag}
use Rattle.lw_base.specs.declared.message.Mark.{Mark}
use Rattle.lw_base.specs.declared.message.What.{What}
use Rattle.lw_base.specs.declared.message.What.TheVariants as what
use Rattle.lw_model.specs.declared.script.ImageOf.{ImageOf}
use Rattle.lw_model.specs.declared.script.Op.{Op}
use Rattle.lw_model.specs.declared.script.Op.TheVariants as op
use Rattle.lw_base.specs.declared.moves.Hop.{Hop}
use Rattle.lw_model.specs.declared.record.Did.{Did}
use Rattle.lw_model.specs.declared.record.Answer.{Answer}
use Rattle.lw_model.specs.declared.record.Answer.TheVariants as answer
use Rattle.lw_model.specs.declared.record.Called.{Called}
use Rattle.lw_model.specs.declared.record.Reply.{Reply}
use Rattle.lw_model.specs.declared.record.Replied.{Replied}
use Rattle.lw_model.specs.declared.record.Replied.TheVariants as replied
use Rattle.lw_model.specs.declared.record.Seen.{Seen}
use Rattle.lw_model.specs.declared.record.SeenBy.{SeenBy}
use Rattle.lw_model.specs.declared.record.SeenBy.TheVariants as by
use Rattle.lw_model.specs.declared.record.RoleKind.{RoleKind}
use Rattle.lw_base.specs.declared.ends.DeviceEnd.{DeviceEnd}
use Rattle.lw_base.specs.declared.ends.Home.{Home}
use Rattle.lw_base.proofs.Lists.{some_same}
use Rattle.lw_base.specs.Words.{greatest_u32, greatest_u64}
use Rattle.lw_model.specs.ScriptShape.{pattern_of}
use Rattle.lw_model.specs.ReportText.{role_word}
use Rattle.lw_model.specs.Ranges.{Fits32, Fits64, WhatFits, TagFits, HopFits, AnswerFits, DidFits, CalledFits, RepliedFits, ReplyFits, MarkFits, SeenByFits, SeenFits, DeviceFits, OpFits, ImageFits}
use Rattle.lw_report_lines.specs.declared.script_lines.ClientHead.{ClientHead}
use Rattle.lw_report_lines.specs.LineParts.{after, number, spaced, word, is_end}
use Rattle.lw_report_lines.specs.LineKinds.{last32, last64, ended, hop_in, visit_in, cast_in, what_in, ran_in, answer_in, did_in, called_in, last_digits, decoded, bytes_in, replied_in, reply_in, mark, results, is_space, results_in, seen_in, thread_in, device_in, pair_in, name_of, image_in, client_in, write_in, read_in, plain_form_in, op_in}
use Rattle.lw_report_lines.proofs.Said.{some_parts, map_parts, if_some, chosen}
use Rattle.lw_report_lines.proofs.PartTexts.{number_most}

-- ---- numbers

pub spaced_most : (most : ℕ) (l : List ℕ) (p : ℕ × List ℕ) → spaced most l ≡ Some p → p.0 ≤ most
spaced_most most l p e = let a = some_parts (after (32 ∷ []) l) (number most) p e in number_most most a.0 p.0 p.1 a.2

pub last32_fits : (l : List ℕ) (n : ℕ) → last32 l ≡ Some n → Fits32 n
last32_fits l n e =
    let a = some_parts (spaced greatest_u32 l) _ n e in
    let b = if_some (is_end a.0.1) a.0.0 n a.2 in
    subst Fits32 b.1 (spaced_most greatest_u32 l a.0 a.1)

pub last64_fits : (l : List ℕ) (n : ℕ) → last64 l ≡ Some n → Fits64 n
last64_fits l n e =
    let a = some_parts (spaced greatest_u64 l) _ n e in
    let b = if_some (is_end a.0.1) a.0.0 n a.2 in
    subst Fits64 b.1 (spaced_most greatest_u64 l a.0 a.1)

module _ {X : Type 0} (P : X → Type 0) (r : List ℕ) (x : X) where
  by32 : (f : ℕ → X) → ((k : ℕ) → Fits32 k → P (f k)) → option_map f (last32 r) ≡ Some x → P x
  by32 f each e = let p = map_parts (last32 r) f x e in subst P p.2 (each p.0 (last32_fits r p.0 p.1))

  by64 : (f : ℕ → X) → ((k : ℕ) → Fits64 k → P (f k)) → option_map f (last64 r) ≡ Some x → P x
  by64 f each e = let p = map_parts (last64 r) f x e in subst P p.2 (each p.0 (last64_fits r p.0 p.1))

  by_end : (v : X) → P v → ended r v ≡ Some x → P x
  by_end v fits e = subst P (if_some (is_end r) v x e).1 fits

-- ---- messages

visit_fits : (l : List ℕ) (w : What) → visit_in l ≡ Some w → WhatFits w
visit_fits l w e =
    let a = some_parts (spaced greatest_u32 l) _ w e in
    let b = some_parts (spaced greatest_u32 a.0.1) _ w a.2 in
    let c = some_parts (spaced greatest_u32 b.0.1) _ w b.2 in
    by_end WhatFits c.0.1 w (what.Visit a.0.0 b.0.0 c.0.0) (spaced_most greatest_u32 l a.0 a.1, spaced_most greatest_u32 a.0.1 b.0 b.1, spaced_most greatest_u32 b.0.1 c.0 c.1) c.2

cast_fits : (l : List ℕ) (w : What) → cast_in l ≡ Some w → WhatFits w
cast_fits l w e =
    let a = some_parts (spaced greatest_u32 l) _ w e in
    let b = some_parts (spaced greatest_u32 a.0.1) _ w a.2 in
    by_end WhatFits b.0.1 w (what.Cast a.0.0 b.0.0) (spaced_most greatest_u32 l a.0 a.1, spaced_most greatest_u32 a.0.1 b.0 b.1) b.2

what_fits : (l : List ℕ) (w : What) → what_in l ≡ Some w → WhatFits w
what_fits l w e =
    chosen WhatFits (codes " request") l _ _ w (λ r. by32 WhatFits r w what.Request (λ k h. h))
    (chosen WhatFits (codes " reply") l _ _ w (λ r. by32 WhatFits r w what.Reply (λ k h. h))
    (chosen WhatFits (codes " putself") l _ _ w (λ r. by32 WhatFits r w what.PutSelf (λ k h. h))
    (chosen WhatFits (codes " visited") l _ _ w (λ r. by32 WhatFits r w what.Visited (λ k h. h))
    (chosen WhatFits (codes " visit") l _ _ w (λ r. visit_fits r w)
    (chosen WhatFits (codes " casted") l _ _ w (λ r. by32 WhatFits r w what.Casted (λ k h. h))
    (chosen WhatFits (codes " cast") l _ _ w (λ r. cast_fits r w)
    (chosen WhatFits (codes " done") l _ _ w (λ r. by_end WhatFits r w what.Done tt)
    (chosen WhatFits (codes " stop") l _ _ w (λ r. by_end WhatFits r w what.Stop tt)
    (λ none. let wrong : None ≡ Some w = none in cc))))))))) e

pub ran_fits : (l : List ℕ) (m : Tag) → ran_in l ≡ Some m → TagFits m
ran_fits l m e =
    let a = some_parts (after (codes "ran") l) _ m e in
    let b = some_parts (spaced greatest_u32 a.0) _ m a.2 in
    let c = some_parts (spaced greatest_u64 b.0.1) _ m b.2 in
    let d = some_parts (what_in c.0.1) _ m c.2 in
    subst TagFits (some_same d.2) (spaced_most greatest_u32 a.0 b.0 b.1, spaced_most greatest_u64 b.0.1 c.0 c.1, what_fits c.0.1 d.0 d.1)

-- ---- answers

answer_fits : (l : List ℕ) (x : Answer) → answer_in l ≡ Some x → AnswerFits x
answer_fits l x e =
    chosen AnswerFits (codes " given") l _ _ x (λ r. by64 AnswerFits r x answer.Given (λ k h. h))
    (chosen AnswerFits (codes " again") l _ _ x (λ r. by64 AnswerFits r x answer.Again (λ k h. h))
    (chosen AnswerFits (codes " shut") l _ _ x (λ r. by_end AnswerFits r x answer.Shut tt)
    (chosen AnswerFits (codes " counted") l _ _ x (λ r. by_end AnswerFits r x answer.Counted tt)
    (chosen AnswerFits (codes " deferred") l _ _ x (λ r. by_end AnswerFits r x answer.Deferred tt)
    (chosen AnswerFits (codes " nochannel") l _ _ x (λ r. by_end AnswerFits r x answer.NoChannel tt)
    (chosen AnswerFits (codes " sent") l _ _ x (λ r. by_end AnswerFits r x answer.Sent tt)
    (chosen AnswerFits (codes " waited") l _ _ x (λ r. by_end AnswerFits r x answer.Waited tt)
    (chosen AnswerFits (codes " started") l _ _ x (λ r. by_end AnswerFits r x answer.Started tt)
    (chosen AnswerFits (codes " began") l _ _ x (λ r. by64 AnswerFits r x answer.Began (λ k h. h))
    (chosen AnswerFits (codes " already") l _ _ x (λ r. by_end AnswerFits r x answer.Already tt)
    (chosen AnswerFits (codes " closed") l _ _ x (λ r. by_end AnswerFits r x answer.Closed tt)
    (λ none. let wrong : None ≡ Some x = none in cc)))))))))))) e

pub did_fits : (l : List ℕ) (x : Did) → did_in l ≡ Some x → DidFits x
did_fits l x e =
    let a = some_parts (after (codes "did") l) _ x e in
    let b = some_parts (spaced greatest_u64 a.0) _ x a.2 in
    let c = some_parts (spaced greatest_u32 b.0.1) _ x b.2 in
    let d = some_parts (answer_in c.0.1) _ x c.2 in
    subst DidFits (some_same d.2) (spaced_most greatest_u64 a.0 b.0 b.1, spaced_most greatest_u32 b.0.1 c.0 c.1, answer_fits c.0.1 d.0 d.1)

-- ---- the other lines of a thread

pub hop_fits : (l : List ℕ) (x : Hop) → hop_in l ≡ Some x → HopFits x
hop_fits l x e =
    let a = some_parts (after (codes "hop") l) _ x e in
    let b = some_parts (spaced greatest_u32 a.0) _ x a.2 in
    let c = some_parts (spaced greatest_u32 b.0.1) _ x b.2 in
    subst HopFits (if_some (is_end c.0.1) (record { round = b.0.0; reactor = c.0.0 }) x c.2).1 (spaced_most greatest_u32 a.0 b.0 b.1, spaced_most greatest_u32 b.0.1 c.0 c.1)

pub called_fits : (images : ℕ) (l : List ℕ) (x : Called) → called_in images l ≡ Some x → CalledFits x
called_fits images l x e =
    let a = some_parts (after (codes "called") l) _ x e in
    let b = some_parts (spaced greatest_u64 a.0) _ x a.2 in
    let c = some_parts (last32 b.0.1) _ x b.2 in
    subst CalledFits (if_some (nat_lt c.0 images) (record { at = b.0.0; device = c.0 }) x c.2).1 (spaced_most greatest_u64 a.0 b.0 b.1, last32_fits b.0.1 c.0 c.1)

decoded_fits : (w bs : List ℕ) → decode_of w ≡ Ok bs → IsBytes bs
decoded_fits w bs e = (decode_of-ok w bs e).3

bytes_fit : (l bs : List ℕ) → bytes_in l ≡ Some bs → IsBytes bs
bytes_fit l bs e =
    let a = some_parts (last_digits l) _ bs e in
    let b = some_parts (decoded a.0) _ bs a.2 in
    subst IsBytes (if_some (nat_lt 0 (length b.0)) b.0 bs b.2).1 (at (decode_of a.0) b.0 (decoded_fits a.0) b.1)
  where
    at : (r : Result (List ℕ) FromHexError) (q : List ℕ) → ((p : List ℕ) → r ≡ Ok p → IsBytes p) → ◌≡◌ {A = Option (List ℕ)} (elim r [ Ok p ↦ Some p | Err x ↦ None ]) (Some q) → IsBytes q
    at (Ok p) q each e = subst IsBytes (some_same e) (each p refl)
    at (Err x) q each e = let wrong : None ≡ Some q = e in cc

replied_fits : (l : List ℕ) (x : Replied) → replied_in l ≡ Some x → RepliedFits x
replied_fits l x e =
    chosen RepliedFits (codes " ok") l _ _ x (λ r. by_end RepliedFits r x replied.Ok tt)
    (chosen RepliedFits (codes " bytes") l _ _ x (λ r h. let p = map_parts (bytes_in r) replied.Bytes x h in subst RepliedFits p.2 (bytes_fit r p.0 p.1))
    (chosen RepliedFits (codes " writes") l _ _ x (λ r. by64 RepliedFits r x replied.Writes (λ k h. h))
    (λ none. let wrong : None ≡ Some x = none in cc))) e

pub reply_fits : (l : List ℕ) (x : Reply) → reply_in l ≡ Some x → ReplyFits x
reply_fits l x e =
    let a = some_parts (after (codes "reply") l) _ x e in
    let b = some_parts (spaced greatest_u32 a.0) _ x a.2 in
    let d = some_parts (replied_in b.0.1) _ x b.2 in
    subst ReplyFits (some_same d.2) (spaced_most greatest_u32 a.0 b.0 b.1, replied_fits b.0.1 d.0 d.1)

mark_fits : (l : List ℕ) (p : Mark × List ℕ) → mark l ≡ Some p → MarkFits p.0
mark_fits l p e =
    let a = some_parts (spaced greatest_u32 l) _ p e in
    let b = some_parts (after (codes ":") a.0.1) _ p a.2 in
    let c = some_parts (number greatest_u64 b.0) _ p b.2 in
    subst (λ (q : Mark × List ℕ). MarkFits q.0) (some_same c.2) (spaced_most greatest_u32 l a.0 a.1, number_most greatest_u64 b.0 c.0.0 c.0.1 c.1)

results_fit : {X : Type 0} (P : X → Type 0) (one : List ℕ → Option (X × List ℕ)) → ((l : List ℕ) (p : X × List ℕ) → one l ≡ Some p → P p.0)
    → (k : ℕ) (l : List ℕ) (xs : List X) → results one k l ≡ Some xs → AllByRecursion P xs
results_fit {X = X} P one each zero l xs e = subst (AllByRecursion P) (if_some (is_end l) [] xs e).1 tt
results_fit {X = X} P one each (suc k) l xs e =
    let a = some_parts (one l) _ xs e in
    let b = some_parts (results one k a.0.1) _ xs a.2 in
    subst (AllByRecursion P) (some_same b.2) (each l a.0 a.1, results_fit P one each k a.0.1 b.0 b.1)

seen_by_fits : (l : List ℕ) (x : SeenBy) → results_in l ≡ Some x → SeenByFits x
seen_by_fits l x e = at (length (filter is_space l) == 0 || is_some (mark l)) e
  where
    at : (b : Bool) → ◌≡◌ {A = Option SeenBy} (if b then option_map by.Visit (results mark (length (filter is_space l)) l) else option_map by.Cast (results (spaced greatest_u32) (length (filter is_space l)) l)) (Some x) → SeenByFits x
    at true e =
        let p = map_parts (results mark (length (filter is_space l)) l) by.Visit x e in
        subst SeenByFits p.2 (results_fit MarkFits mark mark_fits (length (filter is_space l)) l p.0 p.1)
    at false e =
        let p = map_parts (results (spaced greatest_u32) (length (filter is_space l)) l) by.Cast x e in
        subst SeenByFits p.2 (results_fit Fits32 (spaced greatest_u32) (spaced_most greatest_u32) (length (filter is_space l)) l p.0 p.1)

pub seen_fits : (l : List ℕ) (x : Seen) → seen_in l ≡ Some x → SeenFits x
seen_fits l x e =
    let a = some_parts (after (codes "seen") l) _ x e in
    let b = some_parts (spaced greatest_u32 a.0) _ x a.2 in
    let d = some_parts (results_in b.0.1) _ x b.2 in
    subst SeenFits (some_same d.2) (spaced_most greatest_u32 a.0 b.0 b.1, seen_by_fits b.0.1 d.0 d.1)

-- ---- lines that stand once

pub home_fits : (role : RoleKind) (n : ℕ) (l : List ℕ) (home : ℕ) → thread_in role n l ≡ Some home → Fits32 home
home_fits role n l home e =
    let a = some_parts (after (codes "thread") l) _ home e in
    let t = some_parts (spaced greatest_u64 a.0) _ home a.2 in
    let b = some_parts (after (codes " ") t.0.1) _ home t.2 in
    let c = some_parts (after (role_word role) b.0) _ home b.2 in
    let h = some_parts (last32 c.0) _ home c.2 in
    subst Fits32 (if_some (t.0.0 == n) h.0 home h.2).1 (last32_fits c.0 h.0 h.1)

pub device_fits : (n : ℕ) (l : List ℕ) (x : DeviceEnd) → device_in n l ≡ Some x → DeviceFits x
device_fits n l x e =
    let a = some_parts (after (codes "device") l) _ x e in
    let t = some_parts (spaced greatest_u64 a.0) _ x a.2 in
    let g = some_parts (spaced greatest_u64 t.0.1) _ x t.2 in
    let h = some_parts (spaced greatest_u32 g.0.1) _ x g.2 in
    let k = some_parts (last32 h.0.1) _ x h.2 in
    subst DeviceFits (if_some (t.0.0 == n) (record { given = g.0.0; thread = h.0.0; callbacks = k.0 }) x k.2).1
    (spaced_most greatest_u64 t.0.1 g.0 g.1, spaced_most greatest_u32 g.0.1 h.0 h.1, last32_fits h.0.1 k.0 k.1)

pub pair_fits : (w l : List ℕ) (x : Home) → pair_in w l ≡ Some x → Fits32 x.small × Fits32 x.large
pair_fits w l x e =
    let a = some_parts (after w l) _ x e in
    let b = some_parts (spaced greatest_u32 a.0) _ x a.2 in
    let c = some_parts (last32 b.0.1) _ x b.2 in
    subst (λ (y : Home). Fits32 y.small × Fits32 y.large) (some_same c.2) (spaced_most greatest_u32 a.0 b.0 b.1, last32_fits b.0.1 c.0 c.1)

-- ---- the script's lines

pub image_fits : (l : List ℕ) (x : ImageOf) → image_in l ≡ Some x → ImageFits x
image_fits l x e =
    let a = some_parts (after (codes "image") l) _ x e in
    let w = some_parts (word a.0) _ x a.2 in
    let b = some_parts (spaced greatest_u32 w.0.1) _ x w.2 in
    let c = some_parts (last64 b.0.1) _ x b.2 in
    let is : record { name = name_of w.0.0; block = b.0.0; blocks = c.0 } ≡ x = some_same c.2 in
    subst ImageFits is (spaced_most greatest_u32 w.0.1 b.0 b.1, last64_fits b.0.1 c.0 c.1)

pub client_fits : (l : List ℕ) (x : ClientHead) → client_in l ≡ Some x → Fits32 x.depth × Fits64 x.ops
client_fits l x e =
    let a = some_parts (after (codes "client") l) _ x e in
    let w = some_parts (word a.0) _ x a.2 in
    let b = some_parts (spaced greatest_u32 w.0.1) _ x w.2 in
    let c = some_parts (last64 b.0.1) _ x b.2 in
    let is : record { name = name_of w.0.0; depth = b.0.0; ops = c.0 } ≡ x = some_same c.2 in
    subst (λ (y : ClientHead). Fits32 y.depth × Fits64 y.ops) is (spaced_most greatest_u32 w.0.1 b.0 b.1, last64_fits b.0.1 c.0 c.1)

pattern_fits : (w : List ℕ) → IsBytes (pattern_of w)
pattern_fits w = at (decode_of w) (decoded_fits w)
  where
    at : (r : Result (List ℕ) FromHexError) → ((p : List ℕ) → r ≡ Ok p → IsBytes p) → IsBytes (elim r as (λ _. List ℕ) [ Ok p ↦ p | Err x ↦ [] ])
    at (Ok p) each = each p refl
    at (Err x) each = λ i. omega arith

write_fits : (l : List ℕ) (o : Op) → write_in l ≡ Some o → OpFits o
write_fits l o e =
    let a = some_parts (spaced greatest_u32 l) _ o e in
    let b = some_parts (spaced greatest_u64 a.0.1) _ o a.2 in
    let c = some_parts (spaced greatest_u64 b.0.1) _ o b.2 in
    let w = some_parts (last_digits c.0.1) _ o c.2 in
    let is : op.Write a.0.0 b.0.0 c.0.0 (pattern_of w.0) ≡ o = some_same w.2 in
    subst OpFits is (spaced_most greatest_u32 l a.0 a.1, spaced_most greatest_u64 a.0.1 b.0 b.1, spaced_most greatest_u64 b.0.1 c.0 c.1, pattern_fits w.0)

read_fits : (l : List ℕ) (o : Op) → read_in l ≡ Some o → OpFits o
read_fits l o e =
    let a = some_parts (spaced greatest_u32 l) _ o e in
    let b = some_parts (spaced greatest_u64 a.0.1) _ o a.2 in
    let c = some_parts (last64 b.0.1) _ o b.2 in
    subst OpFits (some_same c.2) (spaced_most greatest_u32 l a.0 a.1, spaced_most greatest_u64 a.0.1 b.0 b.1, last64_fits b.0.1 c.0 c.1)

plain_fits : (l : List ℕ) (o : Op) → plain_form_in l ≡ Some o → OpFits o
plain_fits l o e =
    chosen OpFits (codes " get") l _ _ o (λ r. by32 OpFits r o op.Get (λ k h. h))
    (chosen OpFits (codes " put") l _ _ o (λ r. by32 OpFits r o op.Put (λ k h. h))
    (chosen OpFits (codes " read") l _ _ o (λ r. read_fits r o)
    (chosen OpFits (codes " flush") l _ _ o (λ r. by32 OpFits r o op.Flush (λ k h. h))
    (chosen OpFits (codes " wait") l _ _ o (λ r. by64 OpFits r o op.Wait (λ k h. h))
    (chosen OpFits (codes " visit") l _ _ o (λ r. by32 OpFits r o op.Visit (λ k h. h))
    (chosen OpFits (codes " each") l _ _ o (λ r. by_end OpFits r o op.Each tt)
    (chosen OpFits (codes " unregister") l _ _ o (λ r. by32 OpFits r o op.Unregister (λ k h. h))
    (λ none. let wrong : None ≡ Some o = none in cc)))))))) e

pub op_fits : (l : List ℕ) (o : Op) → op_in l ≡ Some o → OpFits o
op_fits l o e =
    let a = some_parts (after (codes "op") l) _ o e in
    chosen OpFits (codes " write") a.0 _ _ o (λ r. write_fits r o) (plain_fits a.0 o) a.2
