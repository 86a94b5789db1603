-- The text of each line that was read.
use Rattle.std.proofs.Common.{◌≡◌, ℕ, zero, suc, ◌≤◌, ◌==◌, nat_lt, Bool, true, false, ◌||◌, if◌then◌else◌, List, [], ◌∷◌, ◌++◌, codes, map, filter, length, append_assoc, decimal, Option, Some, None, option_map, is_some, refl, sym, ap, subst, ◌∙◌, arith}
use Rattle.std.proofs.lemmas.Bool.{eqb-true}
use Rattle.lw_base.specs.declared.message.Tag.{Tag}
use Rattle.lw_base.specs.declared.message.Mark.{Mark}
use Rattle.lw_base.specs.declared.message.What.{What}
use Rattle.lw_base.specs.declared.message.What.TheVariants as what
use Rattle.lw_base.specs.declared.moves.Hop.{Hop}
use Rattle.lw_model.specs.declared.record.Did.{Did}
use Rattle.lw_model.specs.declared.record.Answer.{Answer}
use Rattle.lw_model.specs.declared.record.Answer.TheVariants as answer
use Rattle.lw_model.specs.declared.record.Called.{Called}
use Rattle.lw_model.specs.declared.record.Seen.{Seen}
use Rattle.lw_model.specs.declared.record.SeenBy.{SeenBy}
use Rattle.lw_model.specs.declared.record.SeenBy.TheVariants as by
use Rattle.lw_model.specs.declared.record.RoleKind.{RoleKind}
use Rattle.lw_base.specs.declared.ends.DeviceEnd.{DeviceEnd}
use Rattle.lw_base.specs.declared.ends.Home.{Home}
use Rattle.lw_base.proofs.Lists.{some_same}
use Rattle.lw_base.specs.Words.{greatest_u32, greatest_u64}
use Rattle.lw_model.specs.ScriptRules.{is_within}
use Rattle.lw_model.specs.ReportText.{line, hop_line, what_words, ran_line, answer_words, did_line, called_line, mark_word, result_words, seen_line, role_word, device_line}
use Rattle.lw_report_lines.specs.LineParts.{after, number, spaced, is_end}
use Rattle.lw_report_lines.specs.LineKinds.{choose, ended, last32, last64, hop_in, visit_in, cast_in, what_in, ran_in, answer_in, did_in, called_in, mark, results, is_space, results_in, seen_in, thread_in, device_in, text_in, number_in, pair_in}
use Rattle.lw_report_lines.proofs.Said.{some_parts, map_parts, if_some}
use Rattle.lw_report_lines.proofs.PartTexts.{after_text, number_text, Tail, tail_end, tail_word, spaced_text, whole_line}

-- ---- numbers

small32 : greatest_u32 ≤ greatest_u64
small32 = omega arith

small64 : greatest_u64 ≤ greatest_u64
small64 = omega arith

pub tail32 : (l : List ℕ) (p : ℕ × List ℕ) (ws : List (List ℕ)) → spaced greatest_u32 l ≡ Some p → Tail ws p.1 → Tail (decimal p.0 ∷ ws) l
tail32 l p ws e t = tail_word (decimal p.0) l p.1 ws (spaced_text greatest_u32 l p small32 e) t

pub tail64 : (l : List ℕ) (p : ℕ × List ℕ) (ws : List (List ℕ)) → spaced greatest_u64 l ≡ Some p → Tail ws p.1 → Tail (decimal p.0 ∷ ws) l
tail64 l p ws e t = tail_word (decimal p.0) l p.1 ws (spaced_text greatest_u64 l p small64 e) t

pub last32_text : (l : List ℕ) (n : ℕ) → last32 l ≡ Some n → Tail (decimal n ∷ []) l
last32_text l n e =
    let a = some_parts (spaced greatest_u32 l) _ n e in
    let b = if_some (is_end a.0.1) a.0.0 n a.2 in
    subst (λ k. Tail (decimal k ∷ []) l) b.1 (tail32 l a.0 [] a.1 (tail_end a.0.1 b.0))

pub last64_text : (l : List ℕ) (n : ℕ) → last64 l ≡ Some n → Tail (decimal n ∷ []) l
last64_text l n e =
    let a = some_parts (spaced greatest_u64 l) _ n e in
    let b = if_some (is_end a.0.1) a.0.0 n a.2 in
    subst (λ k. Tail (decimal k ∷ []) l) b.1 (tail64 l a.0 [] a.1 (tail_end a.0.1 b.0))

-- ---- choices

-- what holds of each choice, behind its text, holds of what was chosen
pub picked : {X : Type 0} (P : X → Type 0) (text l : List ℕ) (f : List ℕ → Option X) (other : Option X) (x : X)
    → ((rest : List ℕ) → l ≡ text ++ rest → f rest ≡ Some x → P x) → (other ≡ Some x → P x) → choose text l f other ≡ Some x → P x
picked {X = X} P text l f other x here rest e = at (after text l) refl e
  where
    at : (o : Option (List ℕ)) → after text l ≡ o → ◌≡◌ {A = Option X} (elim o [ Some r ↦ f r | None ↦ other ]) (Some x) → P x
    at None is e = rest e
    at (Some r) is e = here r (after_text text l r is) e

module _ {X : Type 0} (words : X → List (List ℕ)) (l : List ℕ) (x : X) where
  pub by_end : (w : List ℕ) (v : X) (r : List ℕ) → words v ≡ w ∷ [] → l ≡ 32 ∷ (w ++ r) → ended r v ≡ Some x → Tail (words x) l
  by_end w v r is e h = let d = if_some (is_end r) v x h in subst (λ y. Tail (words y) l) d.1 (subst (λ ws. Tail ws l) (sym is) (tail_word w l r [] e (tail_end r d.0)))

  pub by32 : (w : List ℕ) (f : ℕ → X) (r : List ℕ) → ((k : ℕ) → words (f k) ≡ w ∷ decimal k ∷ []) → l ≡ 32 ∷ (w ++ r) → option_map f (last32 r) ≡ Some x → Tail (words x) l
  by32 w f r is e h = let p = map_parts (last32 r) f x h in subst (λ y. Tail (words y) l) p.2 (subst (λ ws. Tail ws l) (sym (is p.0)) (tail_word w l r (decimal p.0 ∷ []) e (last32_text r p.0 p.1)))

  pub by64 : (w : List ℕ) (f : ℕ → X) (r : List ℕ) → ((k : ℕ) → words (f k) ≡ w ∷ decimal k ∷ []) → l ≡ 32 ∷ (w ++ r) → option_map f (last64 r) ≡ Some x → Tail (words x) l
  by64 w f r is e h = let p = map_parts (last64 r) f x h in subst (λ y. Tail (words y) l) p.2 (subst (λ ws. Tail ws l) (sym (is p.0)) (tail_word w l r (decimal p.0 ∷ []) e (last64_text r p.0 p.1)))

-- ---- messages

visit_text : (l r : List ℕ) (w : What) → l ≡ 32 ∷ (codes "visit" ++ r) → visit_in r ≡ Some w → Tail (what_words w) l
visit_text l r w is e =
    let a = some_parts (spaced greatest_u32 r) _ w e in
    let b = some_parts (spaced greatest_u32 a.0.1) _ w a.2 in
    let c = some_parts (spaced greatest_u32 b.0.1) _ w b.2 in
    let d = if_some (is_end c.0.1) (what.Visit a.0.0 b.0.0 c.0.0) w c.2 in
    subst (λ v. Tail (what_words v) l) d.1
    (tail_word (codes "visit") l r (decimal a.0.0 ∷ decimal b.0.0 ∷ decimal c.0.0 ∷ []) is
    (tail32 r a.0 (decimal b.0.0 ∷ decimal c.0.0 ∷ []) a.1 (tail32 a.0.1 b.0 (decimal c.0.0 ∷ []) b.1 (tail32 b.0.1 c.0 [] c.1 (tail_end c.0.1 d.0)))))

cast_text : (l r : List ℕ) (w : What) → l ≡ 32 ∷ (codes "cast" ++ r) → cast_in r ≡ Some w → Tail (what_words w) l
cast_text l r w is e =
    let a = some_parts (spaced greatest_u32 r) _ w e in
    let b = some_parts (spaced greatest_u32 a.0.1) _ w a.2 in
    let d = if_some (is_end b.0.1) (what.Cast a.0.0 b.0.0) w b.2 in
    subst (λ v. Tail (what_words v) l) d.1
    (tail_word (codes "cast") l r (decimal a.0.0 ∷ decimal b.0.0 ∷ []) is (tail32 r a.0 (decimal b.0.0 ∷ []) a.1 (tail32 a.0.1 b.0 [] b.1 (tail_end b.0.1 d.0))))

what_text : (l : List ℕ) (w : What) → what_in l ≡ Some w → Tail (what_words w) l
what_text l w e =
    let P : What → Type 0 = λ v. Tail (what_words v) l in
    picked P (codes " request") l _ _ w (λ r. by32 what_words l w (codes "request") what.Request r (λ k. refl))
    (picked P (codes " reply") l _ _ w (λ r. by32 what_words l w (codes "reply") what.Reply r (λ k. refl))
    (picked P (codes " putself") l _ _ w (λ r. by32 what_words l w (codes "putself") what.PutSelf r (λ k. refl))
    (picked P (codes " visited") l _ _ w (λ r. by32 what_words l w (codes "visited") what.Visited r (λ k. refl))
    (picked P (codes " visit") l _ _ w (λ r. visit_text l r w)
    (picked P (codes " casted") l _ _ w (λ r. by32 what_words l w (codes "casted") what.Casted r (λ k. refl))
    (picked P (codes " cast") l _ _ w (λ r. cast_text l r w)
    (picked P (codes " done") l _ _ w (λ r. by_end what_words l w (codes "done") what.Done r refl)
    (picked P (codes " stop") l _ _ w (λ r. by_end what_words l w (codes "stop") what.Stop r refl)
    (λ none. let wrong : None ≡ Some w = none in cc))))))))) e

pub ran_text : (l : List ℕ) (m : Tag) → ran_in l ≡ Some m → l ≡ ran_line m ++ 10 ∷ []
ran_text l m e =
    let a = some_parts (after (codes "ran") l) _ m e in
    let b = some_parts (spaced greatest_u32 a.0) _ m a.2 in
    let c = some_parts (spaced greatest_u64 b.0.1) _ m b.2 in
    let d = some_parts (what_in c.0.1) _ m c.2 in
    subst (λ x. l ≡ ran_line x ++ 10 ∷ []) (some_same d.2)
    (whole_line (codes "ran") l a.0 (decimal b.0.0 ∷ decimal c.0.0 ∷ what_words d.0) (after_text (codes "ran") l a.0 a.1)
    (tail32 a.0 b.0 (decimal c.0.0 ∷ what_words d.0) b.1 (tail64 b.0.1 c.0 (what_words d.0) c.1 (what_text c.0.1 d.0 d.1))))

-- ---- answers

answer_text : (l : List ℕ) (x : Answer) → answer_in l ≡ Some x → Tail (answer_words x) l
answer_text l x e =
    let P : Answer → Type 0 = λ v. Tail (answer_words v) l in
    picked P (codes " given") l _ _ x (λ r. by64 answer_words l x (codes "given") answer.Given r (λ k. refl))
    (picked P (codes " again") l _ _ x (λ r. by64 answer_words l x (codes "again") answer.Again r (λ k. refl))
    (picked P (codes " shut") l _ _ x (λ r. by_end answer_words l x (codes "shut") answer.Shut r refl)
    (picked P (codes " counted") l _ _ x (λ r. by_end answer_words l x (codes "counted") answer.Counted r refl)
    (picked P (codes " deferred") l _ _ x (λ r. by_end answer_words l x (codes "deferred") answer.Deferred r refl)
    (picked P (codes " nochannel") l _ _ x (λ r. by_end answer_words l x (codes "nochannel") answer.NoChannel r refl)
    (picked P (codes " sent") l _ _ x (λ r. by_end answer_words l x (codes "sent") answer.Sent r refl)
    (picked P (codes " waited") l _ _ x (λ r. by_end answer_words l x (codes "waited") answer.Waited r refl)
    (picked P (codes " started") l _ _ x (λ r. by_end answer_words l x (codes "started") answer.Started r refl)
    (picked P (codes " began") l _ _ x (λ r. by64 answer_words l x (codes "began") answer.Began r (λ k. refl))
    (picked P (codes " already") l _ _ x (λ r. by_end answer_words l x (codes "already") answer.Already r refl)
    (picked P (codes " closed") l _ _ x (λ r. by_end answer_words l x (codes "closed") answer.Closed r refl)
    (λ none. let wrong : None ≡ Some x = none in cc)))))))))))) e

pub did_text : (l : List ℕ) (x : Did) → did_in l ≡ Some x → l ≡ did_line x ++ 10 ∷ []
did_text l x e =
    let a = some_parts (after (codes "did") l) _ x e in
    let b = some_parts (spaced greatest_u64 a.0) _ x a.2 in
    let c = some_parts (spaced greatest_u32 b.0.1) _ x b.2 in
    let d = some_parts (answer_in c.0.1) _ x c.2 in
    subst (λ y. l ≡ did_line y ++ 10 ∷ []) (some_same d.2)
    (whole_line (codes "did") l a.0 (decimal b.0.0 ∷ decimal c.0.0 ∷ answer_words d.0) (after_text (codes "did") l a.0 a.1)
    (tail64 a.0 b.0 (decimal c.0.0 ∷ answer_words d.0) b.1 (tail32 b.0.1 c.0 (answer_words d.0) c.1 (answer_text c.0.1 d.0 d.1))))

-- ---- the other lines of a thread

pub hop_text : (l : List ℕ) (x : Hop) → hop_in l ≡ Some x → l ≡ hop_line x ++ 10 ∷ []
hop_text l x e =
    let a = some_parts (after (codes "hop") l) _ x e in
    let b = some_parts (spaced greatest_u32 a.0) _ x a.2 in
    let c = some_parts (spaced greatest_u32 b.0.1) _ x b.2 in
    let d = if_some (is_end c.0.1) (record { round = b.0.0; reactor = c.0.0 }) x c.2 in
    subst (λ (y : Hop). l ≡ hop_line y ++ 10 ∷ []) d.1
    (whole_line (codes "hop") l a.0 (decimal b.0.0 ∷ decimal c.0.0 ∷ []) (after_text (codes "hop") l a.0 a.1)
    (tail32 a.0 b.0 (decimal c.0.0 ∷ []) b.1 (tail32 b.0.1 c.0 [] c.1 (tail_end c.0.1 d.0))))

pub called_text : (images : ℕ) (l : List ℕ) (x : Called) → called_in images l ≡ Some x → l ≡ called_line x ++ 10 ∷ []
called_text images l x e =
    let a = some_parts (after (codes "called") l) _ x e in
    let b = some_parts (spaced greatest_u64 a.0) _ x a.2 in
    let c = some_parts (last32 b.0.1) _ x b.2 in
    let d = if_some (nat_lt c.0 images) (record { at = b.0.0; device = c.0 }) x c.2 in
    subst (λ (y : Called). l ≡ called_line y ++ 10 ∷ []) d.1
    (whole_line (codes "called") l a.0 (decimal b.0.0 ∷ decimal c.0 ∷ []) (after_text (codes "called") l a.0 a.1)
    (tail64 a.0 b.0 (decimal c.0 ∷ []) b.1 (last32_text b.0.1 c.0 c.1)))

pub mark_text : (l : List ℕ) (p : Mark × List ℕ) → mark l ≡ Some p → l ≡ 32 ∷ (mark_word p.0 ++ p.1)
mark_text l p e =
    let a = some_parts (spaced greatest_u32 l) _ p e in
    let b = some_parts (after (codes ":") a.0.1) _ p a.2 in
    let c = some_parts (number greatest_u64 b.0) _ p b.2 in
    subst (λ (q : Mark × List ℕ). l ≡ 32 ∷ (mark_word q.0 ++ q.1)) (some_same c.2)
    (spaced_text greatest_u32 l a.0 small32 a.1
    ∙ ap (λ r. 32 ∷ (decimal a.0.0 ++ r)) (after_text (codes ":") a.0.1 b.0 b.1 ∙ ap (λ r. 58 ∷ r) (number_text greatest_u64 b.0 c.0.0 c.0.1 small64 c.1))
    ∙ ap (λ r. 32 ∷ r) (sym (append_assoc (decimal a.0.0) (58 ∷ decimal c.0.0) c.0.1)))

results_text : {X : Type 0} (one : List ℕ → Option (X × List ℕ)) (word : X → List ℕ) → ((l : List ℕ) (p : X × List ℕ) → one l ≡ Some p → l ≡ 32 ∷ (word p.0 ++ p.1))
    → (k : ℕ) (l : List ℕ) (xs : List X) → results one k l ≡ Some xs → Tail (map word xs) l
results_text {X = X} one word each zero l xs e = let d = if_some (is_end l) [] xs e in subst (λ (ys : List X). Tail (map word ys) l) d.1 (tail_end l d.0)
results_text {X = X} one word each (suc k) l xs e =
    let a = some_parts (one l) _ xs e in
    let b = some_parts (results one k a.0.1) _ xs a.2 in
    subst (λ (ys : List X). Tail (map word ys) l) (some_same b.2)
    (tail_word (word a.0.0) l a.0.1 (map word b.0) (each l a.0 a.1) (results_text one word each k a.0.1 b.0 b.1))

seen_by_text : (l : List ℕ) (x : SeenBy) → results_in l ≡ Some x → Tail (result_words x) l
seen_by_text l x e = at (length (filter is_space l) == 0 || is_some (mark l)) e
  where
    at : (b : Bool) → ◌≡◌ {A = Option SeenBy} (if b then option_map by.Visit (results mark (length (filter is_space l)) l) else option_map by.Cast (results (spaced greatest_u32) (length (filter is_space l)) l)) (Some x) → Tail (result_words x) l
    at true e =
        let p = map_parts (results mark (length (filter is_space l)) l) by.Visit x e in
        subst (λ y. Tail (result_words y) l) p.2 (results_text mark mark_word mark_text (length (filter is_space l)) l p.0 p.1)
    at false e =
        let p = map_parts (results (spaced greatest_u32) (length (filter is_space l)) l) by.Cast x e in
        subst (λ y. Tail (result_words y) l) p.2 (results_text (spaced greatest_u32) decimal (λ k q h. spaced_text greatest_u32 k q small32 h) (length (filter is_space l)) l p.0 p.1)

pub seen_text : (l : List ℕ) (x : Seen) → seen_in l ≡ Some x → l ≡ seen_line x ++ 10 ∷ []
seen_text l x e =
    let a = some_parts (after (codes "seen") l) _ x e in
    let b = some_parts (spaced greatest_u32 a.0) _ x a.2 in
    let d = some_parts (results_in b.0.1) _ x b.2 in
    subst (λ y. l ≡ seen_line y ++ 10 ∷ []) (some_same d.2)
    (whole_line (codes "seen") l a.0 (decimal b.0.0 ∷ result_words d.0) (after_text (codes "seen") l a.0 a.1) (tail32 a.0 b.0 (result_words d.0) b.1 (seen_by_text b.0.1 d.0 d.1)))

-- ---- lines that stand once

pub thread_text : (role : RoleKind) (n : ℕ) (l : List ℕ) (home : ℕ) → thread_in role n l ≡ Some home → l ≡ line (codes "thread" ∷ decimal n ∷ role_word role ∷ decimal home ∷ []) ++ 10 ∷ []
thread_text role n l home e =
    let a = some_parts (after (codes "thread") l) _ home e in
    let t = some_parts (spaced greatest_u64 a.0) _ home a.2 in
    let b = some_parts (after (codes " ") t.0.1) _ home t.2 in
    let c = some_parts (after (role_word role) b.0) _ home b.2 in
    let h = some_parts (last32 c.0) _ home c.2 in
    let d = if_some (t.0.0 == n) h.0 home h.2 in
    subst (λ k. l ≡ line (codes "thread" ∷ decimal k ∷ role_word role ∷ decimal home ∷ []) ++ 10 ∷ []) (eqb-true t.0.0 n d.0)
    (subst (λ k. l ≡ line (codes "thread" ∷ decimal t.0.0 ∷ role_word role ∷ decimal k ∷ []) ++ 10 ∷ []) d.1
    (whole_line (codes "thread") l a.0 (decimal t.0.0 ∷ role_word role ∷ decimal h.0 ∷ []) (after_text (codes "thread") l a.0 a.1)
    (tail64 a.0 t.0 (role_word role ∷ decimal h.0 ∷ []) t.1
    (tail_word (role_word role) t.0.1 c.0 (decimal h.0 ∷ []) (after_text (codes " ") t.0.1 b.0 b.1 ∙ ap (λ r. 32 ∷ r) (after_text (role_word role) b.0 c.0 c.1)) (last32_text c.0 h.0 h.1)))))

pub device_text : (n : ℕ) (l : List ℕ) (x : DeviceEnd) → device_in n l ≡ Some x → l ≡ device_line n x ++ 10 ∷ []
device_text n l x e =
    let a = some_parts (after (codes "device") l) _ x e in
    let t = some_parts (spaced greatest_u64 a.0) _ x a.2 in
    let g = some_parts (spaced greatest_u64 t.0.1) _ x t.2 in
    let h = some_parts (spaced greatest_u32 g.0.1) _ x g.2 in
    let k = some_parts (last32 h.0.1) _ x h.2 in
    let d = if_some (t.0.0 == n) (record { given = g.0.0; thread = h.0.0; callbacks = k.0 }) x k.2 in
    subst (λ (y : DeviceEnd). l ≡ device_line n y ++ 10 ∷ []) d.1
    (subst (λ m. l ≡ line (codes "device" ∷ decimal m ∷ decimal g.0.0 ∷ decimal h.0.0 ∷ decimal k.0 ∷ []) ++ 10 ∷ []) (eqb-true t.0.0 n d.0)
    (whole_line (codes "device") l a.0 (decimal t.0.0 ∷ decimal g.0.0 ∷ decimal h.0.0 ∷ decimal k.0 ∷ []) (after_text (codes "device") l a.0 a.1)
    (tail64 a.0 t.0 (decimal g.0.0 ∷ decimal h.0.0 ∷ decimal k.0 ∷ []) t.1
    (tail64 t.0.1 g.0 (decimal h.0.0 ∷ decimal k.0 ∷ []) g.1 (tail32 g.0.1 h.0 (decimal k.0 ∷ []) h.1 (last32_text h.0.1 k.0 k.1))))))

pub fixed_text : (text l : List ℕ) → is_some (text_in text l) ≡ true → l ≡ text ++ 10 ∷ []
fixed_text text l e = at (text_in text l) refl e
  where
    at : (o : Option (List ℕ)) → text_in text l ≡ o → is_some o ≡ true → l ≡ text ++ 10 ∷ []
    at None is e = let wrong : false ≡ true = e in cc
    at (Some x) is e =
        let a = some_parts (after text l) _ x is in
        let d = if_some (is_end a.0) [] x a.2 in
        after_text text l a.0 a.1 ∙ ap (λ r. text ++ r) (tail_end a.0 d.0)

pub counted_text : (w : List ℕ) (least most : ℕ) (l : List ℕ) (n : ℕ) → number_in w least most l ≡ Some n → l ≡ line (w ∷ decimal n ∷ []) ++ 10 ∷ []
counted_text w least most l n e =
    let a = some_parts (after w l) _ n e in
    let b = some_parts (last64 a.0) _ n a.2 in
    let d = if_some (is_within least most b.0) b.0 n b.2 in
    subst (λ k. l ≡ line (w ∷ decimal k ∷ []) ++ 10 ∷ []) d.1 (whole_line w l a.0 (decimal b.0 ∷ []) (after_text w l a.0 a.1) (last64_text a.0 b.0 b.1))

pub pair_text : (w l : List ℕ) (x : Home) → pair_in w l ≡ Some x → l ≡ line (w ∷ decimal x.small ∷ decimal x.large ∷ []) ++ 10 ∷ []
pair_text w l x e =
    let a = some_parts (after w l) _ x e in
    let b = some_parts (spaced greatest_u32 a.0) _ x a.2 in
    let c = some_parts (last32 b.0.1) _ x b.2 in
    subst (λ (y : Home). l ≡ line (w ∷ decimal y.small ∷ decimal y.large ∷ []) ++ 10 ∷ []) (some_same c.2)
    (whole_line w l a.0 (decimal b.0.0 ∷ decimal c.0 ∷ []) (after_text w l a.0 a.1) (tail32 a.0 b.0 (decimal c.0 ∷ []) b.1 (last32_text b.0.1 c.0 c.1)))
