-- One request more of an image's journal: what it is answered, and what is owed then.
use Rattle.std.proofs.Common.{◌≡◌, ℕ, zero, suc, ◌+◌, ◌≤◌, ◌==◌, Bool, true, false, cond, ◌&&◌, List, [], ◌∷◌, ◌++◌, reverse, zip, Option, Some, None, option_and_then, append_assoc, refl, sym, ap, ap₂, subst, ◌∙◌}
use Rattle.std.specs.Option.{option_or}
use Rattle.std.proofs.lemmas.Bool.{and_parts, eqb-true}
use Rattle.std.proofs.lemmas.Option.{same_Some}
use Rattle.std.proofs.lemmas.List.{append-nil, map-append, reverse-append}
use Rattle.lw_model.specs.declared.script.Script.{Script}
use Rattle.lw_model.specs.declared.script.Op.{Op}
use Rattle.lw_model.specs.declared.script.Op.TheVariants as op
use Rattle.lw_model.specs.declared.record.Replied.{Replied}
use Rattle.lw_model.specs.ScriptRules.{image_of, block_at, blocks_at}
use Rattle.lw_model.specs.Threads.{is_on, op_at}
use Rattle.lw_model.specs.Replay.{replay, answer_after}
use Rattle.lw_model.specs.Journal.{look_up}
use Rattle.lw_judge_devices.specs.Replayed.{ReadsWithin}
use Rattle.lw_judge_devices.specs.Answered.{asked_ops, answered, IsReadable, ReadsFit}

-- ---- An op's image

-- an op that is on an image names it
on_image : (s : Script) (t d k : ℕ) (o : Op) → op_at s t k ≡ Some o → is_on s t d k ≡ true → image_of o ≡ Some d
on_image s zero d k o at on = let wrong : ◌≡◌ {A = Option Op} None (Some o) = at in cc
on_image s (suc c) d k o at on = named (image_of o) (sym (ap (λ p. elim (option_and_then image_of p) [ None ↦ false | Some e ↦ e == d ]) at) ∙ on)
  where
    named : (i : Option ℕ) → (elim i [ None ↦ false | Some e ↦ e == d ]) ≡ true → i ≡ Some d
    named None e = cc
    named (Some n) e = ap Some (eqb-true n d e)

-- a read of blocks of its image is within the image's table
pub reads_within : (s : Script) (t d k blocks : ℕ) (o : Op) → ReadsFit s → op_at s t k ≡ Some o → is_on s t d k ≡ true → blocks ≡ blocks_at s d → ReadsWithin blocks o
reads_within s t d k blocks o fit at on size = within o (fit t k o at) (on_image s t d k o at on)
  where
    within : (o : Op) → IsReadable s o → image_of o ≡ Some d → ReadsWithin blocks o
    within (op.Read e start count) fits is = subst (λ n. start + count ≤ n) (sym size) (subst (λ i. start + count ≤ blocks_at s i) (same_Some e d is) fits)
    within (op.Get e) fits is = tt
    within (op.Put e) fits is = tt
    within (op.Write e start count pattern) fits is = tt
    within (op.Flush e) fits is = tt
    within (op.Wait ticks) fits is = tt
    within (op.Visit e) fits is = tt
    within op.Each fits is = tt
    within (op.Unregister e) fits is = tt

-- ---- What is found in a longer journal

-- an op that is answered nothing is so behind any requests
unanswered : (block : ℕ) (past later : List (Option Op)) (o : Option Op) → option_and_then (answer_after block past) o ≡ None → option_and_then (answer_after block later) o ≡ None
unanswered block past later None e = refl
unanswered block past later (Some (op.Write d start count pattern)) e = cc
unanswered block past later (Some (op.Read d start count)) e = cc
unanswered block past later (Some (op.Flush d)) e = cc
unanswered block past later (Some (op.Get d)) e = refl
unanswered block past later (Some (op.Put d)) e = refl
unanswered block past later (Some (op.Wait ticks)) e = refl
unanswered block past later (Some (op.Visit d)) e = refl
unanswered block past later (Some op.Each) e = refl
unanswered block past later (Some (op.Unregister d)) e = refl

-- requests, each with its answer behind those of `past`
abbrev answered_from : Script → ℕ → List (Option Op) → List (ℕ × ℕ) → List ((ℕ × ℕ) × Option Replied)
answered_from s block past asked = zip asked (replay block past (asked_ops s asked))

found_more : (s : Script) (block : ℕ) (past : List (Option Op)) (t k : ℕ) (asked : List (ℕ × ℕ)) (e : ℕ × ℕ)
    → look_up t k (answered_from s block past (asked ++ e ∷ []))
    ≡ cond (e.0 == t && e.1 == k) (option_or (look_up t k (answered_from s block past asked)) (option_and_then (answer_after block (reverse (asked_ops s asked) ++ past)) (op_at s e.0 e.1)))
    (look_up t k (answered_from s block past asked))
found_more s block past t k [] e = refl
found_more s block past t k (x ∷ asked) e =
    ap (cond (x.0 == t && x.1 == k) first) (found_more s block (op_at s x.0 x.1 ∷ past) t k asked e)
    ∙ ap (λ later. cond (x.0 == t && x.1 == k) first (cond (e.0 == t && e.1 == k) (option_or rest (option_and_then (answer_after block later) (op_at s e.0 e.1))) rest)) past_is
    ∙ at (x.0 == t && x.1 == k) refl
  where
    first : Option Replied
    first = option_and_then (answer_after block past) (op_at s x.0 x.1)

    rest : Option Replied
    rest = look_up t k (answered_from s block (op_at s x.0 x.1 ∷ past) asked)

    past_is : reverse (asked_ops s asked) ++ (op_at s x.0 x.1 ∷ past) ≡ reverse (asked_ops s (x ∷ asked)) ++ past
    past_is = sym (ap (λ w. w ++ past) (reverse-append (op_at s x.0 x.1 ∷ []) (asked_ops s asked)) ∙ append_assoc (reverse (asked_ops s asked)) (op_at s x.0 x.1 ∷ []) past)

    last : Option Replied
    last = option_and_then (answer_after block (reverse (asked_ops s (x ∷ asked)) ++ past)) (op_at s e.0 e.1)

    -- both are of one op
    same : (x.0 == t && x.1 == k) ≡ true → (e.0 == t && e.1 == k) ≡ true → op_at s x.0 x.1 ≡ op_at s e.0 e.1
    same xs es =
        let p = and_parts (x.0 == t) (x.1 == k) xs in
        let q = and_parts (e.0 == t) (e.1 == k) es in
        ap₂ (op_at s) (eqb-true x.0 t p.0 ∙ sym (eqb-true e.0 t q.0)) (eqb-true x.1 k p.1 ∙ sym (eqb-true e.1 k q.1))

    kept : (o : Option Replied) → first ≡ o → op_at s x.0 x.1 ≡ op_at s e.0 e.1 → o ≡ option_or o last
    kept (Some a) is op = refl
    kept None is op = sym (unanswered block past (reverse (asked_ops s (x ∷ asked)) ++ past) (op_at s e.0 e.1) (ap (option_and_then (answer_after block past)) (sym op) ∙ is))

    here : (x.0 == t && x.1 == k) ≡ true → (b : Bool) → (e.0 == t && e.1 == k) ≡ b → first ≡ cond b (option_or first last) first
    here xs true es = kept first refl (same xs es)
    here xs false es = refl

    at : (b : Bool) → (x.0 == t && x.1 == k) ≡ b → cond b first (cond (e.0 == t && e.1 == k) (option_or rest last) rest) ≡ cond (e.0 == t && e.1 == k) (option_or (cond b first rest) last) (cond b first rest)
    at false xs = refl
    at true xs = here xs (e.0 == t && e.1 == k) refl

-- what is found in a journal with one request more
pub answered_more : (s : Script) (d t k : ℕ) (asked : List (ℕ × ℕ)) (client number : ℕ)
    → look_up t k (answered s d (asked ++ (client, number) ∷ []))
    ≡ cond (client == t && number == k) (option_or (look_up t k (answered s d asked)) (option_and_then (answer_after (block_at s d) (reverse (asked_ops s asked))) (op_at s client number))) (look_up t k (answered s d asked))
answered_more s d t k asked client number =
    found_more s (block_at s d) [] t k asked (client, number)
    ∙ ap (λ past. cond (client == t && number == k) (option_or (look_up t k (answered s d asked)) (option_and_then (answer_after (block_at s d) past) (op_at s client number))) (look_up t k (answered s d asked)))
    (append-nil (reverse (asked_ops s asked)))

pub past_more : (s : Script) (asked : List (ℕ × ℕ)) (client number : ℕ) → reverse (asked_ops s (asked ++ (client, number) ∷ [])) ≡ op_at s client number ∷ reverse (asked_ops s asked)
past_more s asked client number =
    ap reverse (map-append (λ (e : ℕ × ℕ). op_at s e.0 e.1) asked ((client, number) ∷ []))
    ∙ reverse-append (asked_ops s asked) (op_at s client number ∷ [])
