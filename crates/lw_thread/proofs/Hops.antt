-- The hops of a thread rise.
use Rattle.std.proofs.Common.{◌≡◌, ◌+◌, ◌-◌, ◌<◌, ◌≤◌, List, [], ◌∷◌, ◌++◌, length, ap, subst, ◌∙◌, ⊎_elim, arith, Option, Some}
use Rattle.std.specs.Prelude.{slice_index_or}
use Rattle.std.proofs.lemmas.Bool.{cases_lt}
use Rattle.std.proofs.lemmas.Option.{slice_get-get_or}
use Rattle.std.proofs.lemmas.List.{length_push, get_or_append_left}
use Rattle.std.proofs.Math.Seq.{get_or-append_seam}
use Rattle.lw_base.specs.declared.moves.Hop.{Hop}
use Rattle.lw_thread.specs.Threads.{AreAscending, IsAbove, last_of}

-- where the list isn't empty, its last is the last element
last_is : (hs : List Hop) (d : Hop) → 1 ≤ length hs → last_of hs ≡ Some (slice_index_or hs (length hs - 1) d)
last_is hs d some = slice_get-get_or hs (length hs - 1) d (omega arith)

-- one more is above the last
pub ascending_more : (hs : List Hop) (h : Hop) → AreAscending hs → IsAbove h.round (last_of hs) → AreAscending (hs ++ h ∷ [])
ascending_more hs h all above k d within =
    let long = length_push hs h in
    ⊎_elim
    (λ (low : k + 1 < length hs).
    (let a = ap (λ (x : Hop). x.round) (get_or_append_left hs (h ∷ []) d k (omega arith)) in
    let b = ap (λ (x : Hop). x.round) (get_or_append_left hs (h ∷ []) d (k + 1) low) in
    let c = all k d low in
    omega arith))
    (λ (high : length hs ≤ k + 1).
    (let last : k + 1 ≡ length hs = omega arith in
    let before : length hs - 1 ≡ k = omega arith in
    let a = ap (λ (x : Hop). x.round) (get_or_append_left hs (h ∷ []) d k (omega arith)) in
    let b = ap (λ n. (slice_index_or (hs ++ h ∷ []) n d).round) last ∙ ap (λ (x : Hop). x.round) (get_or-append_seam hs h [] d) in
    let top : IsAbove h.round (Some (slice_index_or hs (length hs - 1) d)) = subst (λ (o : Option Hop). IsAbove h.round o) (last_is hs d (omega arith)) above in
    let c : (slice_index_or hs k d).round < h.round = subst (λ n. (slice_index_or hs n d).round < h.round) before top in
    omega arith))
    (cases_lt (k + 1) (length hs))

pub ascending_none : AreAscending []
ascending_none k d within = absurd (omega arith)
