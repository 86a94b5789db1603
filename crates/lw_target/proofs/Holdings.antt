-- What the channels of a client hold, and what it sends for them.
use Rattle.std.proofs.Common.{ℕ, ◌≡◌, ◌+◌, ◌≤◌, ◌<◌, Bool, true, false, cond, nat_lt, List, [], ◌∷◌, ◌++◌, map, length, get_or, take, arith, refl, sym, ap, ◌∙◌, append_assoc, set, drop}
use Rattle.std.proofs.lemmas.List.{take_more, length-take-le, append-nil, get_or_default}
use Rattle.std.proofs.lemmas.List.Edits.{map_over_more}
use Rattle.std.proofs.lemmas.Bool.{lt-ltb, le-ltb}
use Rattle.std.proofs.lemmas.List.Elements.{All-weaker, All-map, All-nil, All-cons}
use Rattle.std.proofs.lemmas.List.Sums.{sum_by-cons}
use Rattle.lw_target.specs.declared.channel.Channel.{Channel}
use Rattle.lw_target.specs.declared.acts.Outgoing.{Outgoing}
use Rattle.lw_model.specs.declared.script.Op.{Op}
use Rattle.lw_target.specs.Effects.{AllHold, held_of, gave_back, puts_of, putself_of}
use Rattle.lw_target.specs.Messages.{asked_work, weight}
use Rattle.lw_target.specs.Ops.{AllOfOps, IsOfOps}

holds_less : (k : Channel) → held_of (gave_back k) ≤ held_of k
holds_less k = at (nat_lt 0 k.references) refl
  where
    at : (b : Bool) → nat_lt 0 k.references ≡ b → 0 + (k.pending + cond b 1 0) ≤ k.references + k.pending
    at true e = grind (arith, e)
    at false e = omega arith

pub gave_back_holds : (n : ℕ) (ks : List Channel) → AllHold n ks → AllHold n (map gave_back ks)
gave_back_holds n ks all =
    All-map (λ (k : Channel). held_of k ≤ n) gave_back ks
    (All-weaker (λ (k : Channel). held_of k ≤ n) (λ (k : Channel). held_of (gave_back k) ≤ n) (λ k h. omega (arith, holds_less k, h)) ks all)

-- one channel more
pub puts_push : (thread d : ℕ) (ks : List Channel) (k : Channel)
    → puts_of thread d (ks ++ k ∷ []) ≡ puts_of thread d ks ++ cond (nat_lt 0 k.references) (putself_of thread (d + length ks) ∷ []) []
puts_push thread d [] k = ap (λ n. cond (nat_lt 0 k.references) (putself_of thread n ∷ []) []) (omega arith)
puts_push thread d (j ∷ ks) k = at (nat_lt 0 j.references)
    (puts_push thread (d + 1) ks k ∙ ap (λ n. puts_of thread (d + 1) ks ++ cond (nat_lt 0 k.references) (putself_of thread n ∷ []) []) (omega arith))
  where
    at : (b : Bool) → puts_of thread (d + 1) (ks ++ k ∷ []) ≡ puts_of thread (d + 1) ks ++ cond (nat_lt 0 k.references) (putself_of thread (d + length (j ∷ ks)) ∷ []) []
        → cond b (putself_of thread d ∷ puts_of thread (d + 1) (ks ++ k ∷ [])) (puts_of thread (d + 1) (ks ++ k ∷ []))
        ≡ cond b (putself_of thread d ∷ puts_of thread (d + 1) ks) (puts_of thread (d + 1) ks) ++ cond (nat_lt 0 k.references) (putself_of thread (d + length (j ∷ ks)) ∷ []) []
    at true e = ap (λ q. putself_of thread d ∷ q) e
    at false e = e

puts_more : (thread i : ℕ) (ks : List Channel) (k : Channel) → i < length ks → k ≡ get_or ks i k
    → puts_of thread 0 (take (i + 1) ks) ≡ puts_of thread 0 (take i ks) ++ cond (nat_lt 0 k.references) (putself_of thread i ∷ []) []
puts_more thread i ks k within is =
    ap (puts_of thread 0) (take_more ks i k within ∙ ap (λ (j : Channel). take i ks ++ j ∷ []) (sym is))
    ∙ puts_push thread 0 (take i ks) k
    ∙ ap (λ n. puts_of thread 0 (take i ks) ++ cond (nat_lt 0 k.references) (putself_of thread n ∷ []) []) (omega (arith, length-take-le i ks (omega arith)))

pub puts_here : (thread i : ℕ) (ks : List Channel) (k : Channel) (before : List Outgoing) → i < length ks → k ≡ get_or ks i k → 0 < k.references
    → (before ++ puts_of thread 0 (take i ks)) ++ putself_of thread i ∷ [] ≡ before ++ puts_of thread 0 (take (i + 1) ks)
puts_here thread i ks k before within is some =
    append_assoc before (puts_of thread 0 (take i ks)) (putself_of thread i ∷ [])
    ∙ ap (λ (b : Bool). before ++ (puts_of thread 0 (take i ks) ++ cond b (putself_of thread i ∷ []) [])) (sym (lt-ltb 0 k.references some))
    ∙ ap (λ (q : List Outgoing). before ++ q) (sym (puts_more thread i ks k within is))

pub puts_none : (thread i : ℕ) (ks : List Channel) (k : Channel) (before : List Outgoing) → i < length ks → k ≡ get_or ks i k → k.references ≤ 0
    → before ++ puts_of thread 0 (take i ks) ≡ before ++ puts_of thread 0 (take (i + 1) ks)
puts_none thread i ks k before within is none =
    ap (λ (q : List Outgoing). before ++ q)
    (sym (append-nil (puts_of thread 0 (take i ks)))
    ∙ ap (λ (b : Bool). puts_of thread 0 (take i ks) ++ cond b (putself_of thread i ∷ []) []) (sym (le-ltb 0 k.references none))
    ∙ sym (puts_more thread i ks k within is))

pub give_back_more : (xs ys : List Channel) (i : ℕ) (r d : Channel) → i < length xs → ys ≡ map gave_back (take i xs) ++ drop i xs
    → length ys ≡ length xs → r ≡ gave_back (get_or ys i d) → set ys i r ≡ map gave_back (take (i + 1) xs) ++ drop (i + 1) xs
give_back_more xs ys i r d within so same is =
    ap (λ (q : Channel). set ys i q) is
    ∙ map_over_more gave_back xs ys i (get_or ys i d) within so (get_or_default ys i d (get_or ys i d) (omega (arith, within, same)))

pub puts_work : (thread d : ℕ) (ks : List Channel) → asked_work (puts_of thread d ks) ≤ length ks
puts_work thread d [] = omega arith
puts_work thread d (k ∷ ks) = at (nat_lt 0 k.references) (puts_work thread (d + 1) ks)
  where
    at : (b : Bool) → asked_work (puts_of thread (d + 1) ks) ≤ length ks
        → asked_work (cond b (putself_of thread d ∷ puts_of thread (d + 1) ks) (puts_of thread (d + 1) ks)) ≤ length (k ∷ ks)
    at true h = omega (arith, sum_by-cons (λ (s : Outgoing). weight s.what) (putself_of thread d) (puts_of thread (d + 1) ks), h)
    at false h = omega (arith, h)

pub puts_of_ops : (ops : List Op) (thread d : ℕ) (ks : List Channel) → AllOfOps ops (puts_of thread d ks)
puts_of_ops ops thread d [] = All-nil (IsOfOps ops)
puts_of_ops ops thread d (k ∷ ks) = at (nat_lt 0 k.references) (puts_of_ops ops thread (d + 1) ks)
  where
    at : (b : Bool) → AllOfOps ops (puts_of thread (d + 1) ks) → AllOfOps ops (cond b (putself_of thread d ∷ puts_of thread (d + 1) ks) (puts_of thread (d + 1) ks))
    at true h = All-cons (IsOfOps ops) (putself_of thread d) (puts_of thread (d + 1) ks) tt h
    at false h = h
