-- Noting where the threads of rows stand, row by row.
use Rattle.std.proofs.Common.{◌≡◌, ℕ, ◌+◌, ◌<◌, ◌≤◌, List, [], ◌∷◌, ◌++◌, length, take, drop, set, get_or, All, sym, ap, subst, ◌∙◌, arith}
use Rattle.std.proofs.lemmas.List.{take_more, drop_more, take_all, get_or-set_same, get_or-set_other}
use Rattle.std.proofs.lemmas.List.Elements.{All-nil, All-push, All-weaker}
use Rattle.lw_base.specs.declared.moves.Row.{Row}
use Rattle.lw_rounds.specs.Rounds.{Ascend, AreNoted}

-- the first i rows are noted, and the threads of the others are greater
pub record NotedSoFar (i : ℕ) (stands : List ℕ) (rows : List Row) : Type 0 where
  pub least : ℕ
  pub past : All (λ (w : Row). w.thread < least) (take i rows)
  pub next : Ascend least (drop i rows)
  pub noted : AreNoted stands (take i rows)

pub noted_first : (stands : List ℕ) (rows : List Row) → Ascend 0 rows → NotedSoFar 0 stands rows
noted_first stands rows ascend = record {
  least = 0;
  past = All-nil (λ (w : Row). w.thread < 0);
  next = ascend;
  noted = All-nil (λ (w : Row). get_or stands w.thread 0 ≡ w.reactor);
}

-- one more row is noted
pub noted_more : (i : ℕ) (stands : List ℕ) (rows : List Row) (w : Row) → i < length rows → w ≡ get_or rows i w → w.thread < length stands
    → NotedSoFar i stands rows → NotedSoFar (i + 1) (set stands w.thread w.reactor) rows
noted_more i stands rows w less is within s =
    let one : drop i rows ≡ w ∷ drop (i + 1) rows = drop_more rows i w less ∙ ap (λ x. x ∷ drop (i + 1) rows) (sym is) in
    let more : take (i + 1) rows ≡ take i rows ++ w ∷ [] = take_more rows i w less ∙ ap (λ x. take i rows ++ x ∷ []) (sym is) in
    let next : (s.least ≤ w.thread) × Ascend (w.thread + 1) (drop (i + 1) rows) = subst (Ascend s.least) one s.next in
    let least = next.0 in
    let now = set stands w.thread w.reactor in
    let here : w.thread < w.thread + 1 = omega arith in
    record {
      least = w.thread + 1;
      past = subst (All (λ (v : Row). v.thread < w.thread + 1)) (sym more)
          (All-push (λ (v : Row). v.thread < w.thread + 1) (take i rows) w
          (All-weaker (λ (v : Row). v.thread < s.least) (λ (v : Row). v.thread < w.thread + 1) (λ v l. omega arith) (take i rows) s.past) here);
      next = next.1;
      noted = subst (AreNoted now) (sym more)
          (All-push (λ (v : Row). get_or now v.thread 0 ≡ v.reactor) (take i rows) w
          (λ k d l. (let v = get_or (take i rows) k d in
          let before = s.past k d l in
          get_or-set_other stands w.thread v.thread w.reactor 0 (λ same. absurd (omega arith)) ∙ s.noted k d l))
          (get_or-set_same stands w.thread w.reactor 0 within));
    }

pub noted_all : (i : ℕ) (stands : List ℕ) (rows : List Row) → length rows ≤ i → NotedSoFar i stands rows → AreNoted stands rows
noted_all i stands rows all s = subst (AreNoted stands) (take_all i rows all) s.noted
