-- The generator from op to op, and lists that grow by one.
use Rattle.std.proofs.Common.{◌≡◌, ℕ, zero, suc, ◌+◌, ◌*◌, ◌%◌, ◌<◌, List, [], ◌∷◌, ◌++◌, map, append_assoc, refl, sym, ap, ◌∙◌, arith}
use Rattle.std.specs.List.{range_with_len}
use Rattle.std.proofs.lemmas.List.FromFn.{map-range_with_len_more}
use Rattle.rand_pcg.specs.Lcg.{Lcg, advance, state_after}
use Rattle.rand_pcg.specs.Pcg.{pcg32, multiplier_64}
use Rattle.lw_workload.specs.Workload.{generator_at, word_at, op_at, op_drawn}

-- a jump of k behind one of n is one of both
pub jump_behind : (w m i n k s : ℕ) → state_after w m i k (state_after w m i n s) ≡ state_after w m i (n + k) s
unfolding state_after
jump_behind w m i zero k s =
    let same : k ≡ 0 + k = omega arith in
    ap (λ (j : ℕ). state_after w m i j s) same
jump_behind w m i (suc n) k s =
    let same : suc (n + k) ≡ suc n + k = omega arith in
    jump_behind w m i n k _ ∙ ap (λ (j : ℕ). state_after w m i j s) same

-- a generator behind k words more
pub advance_behind : (seed n k j : ℕ) → n + k ≡ j → advance 64 multiplier_64 k (generator_at seed n) ≡ generator_at seed j
unfolding state_after
advance_behind seed n k j same =
    let g = generator_at seed 0 in
    ap (λ (s : ℕ). record g { state = s }) (jump_behind 64 multiplier_64 g.increment n k g.state ∙ ap (λ (i : ℕ). state_after 64 multiplier_64 g.increment i g.state) same)

-- one word more
pub next_behind : (seed n : ℕ) → (pcg32 (generator_at seed n)).1 ≡ generator_at seed (n + 1)
unfolding state_after
next_behind seed n = advance_behind seed n 1 (n + 1) refl

-- the next two words tell the op of this number
pub drawn_next : (seed c n : ℕ) (words : Lcg) → c < 8 → words ≡ generator_at seed (2 * (8 * n + c))
    → op_drawn c (pcg32 words).0 (pcg32 (pcg32 words).1).0 ≡ op_at seed (8 * n + c)
drawn_next seed c n words small is =
    let client : (8 * n + c) % 8 ≡ c = omega (arith, small) in
    let second : (pcg32 (pcg32 words).1).0 ≡ word_at seed (2 * (8 * n + c) + 1) = ap (λ (g : Lcg). (pcg32 g).0) (ap (λ (g : Lcg). (pcg32 g).1) is ∙ next_behind seed _) in
    ap (λ (w : ℕ). op_drawn c w (pcg32 (pcg32 words).1).0) (ap (λ (g : Lcg). (pcg32 g).0) is)
    ∙ ap (λ (v : ℕ). op_drawn c (word_at seed (2 * (8 * n + c))) v) second
    ∙ ap (λ (d : ℕ). op_drawn d (word_at seed (2 * (8 * n + c))) (word_at seed (2 * (8 * n + c) + 1))) (sym client)

-- behind them and fourteen others stand those of the client's next op
pub words_next : (seed c n : ℕ) (words behind after : Lcg) → words ≡ generator_at seed (2 * (8 * n + c))
    → behind ≡ (pcg32 (pcg32 words).1).1 → after ≡ advance 64 multiplier_64 14 behind → after ≡ generator_at seed (2 * (8 * (n + 1) + c))
words_next seed c n words behind after is two jump =
    let one = ap (λ (g : Lcg). (pcg32 g).1) is ∙ next_behind seed _ in
    let here : behind ≡ generator_at seed (2 * (8 * n + c) + 1 + 1) = two ∙ ap (λ (g : Lcg). (pcg32 g).1) one ∙ next_behind seed _ in
    let far : 2 * (8 * n + c) + 1 + 1 + 14 ≡ 2 * (8 * (n + 1) + c) = omega arith in
    jump ∙ ap (λ (g : Lcg). advance 64 multiplier_64 14 g) here ∙ advance_behind seed _ 14 _ far

-- a list behind another grows by its next element
pub pushed : {X : Type 0} (f : ℕ → X) (before now after : List X) (n : ℕ) (x : X) → now ≡ before ++ map f (range_with_len 0 n)
    → after ≡ now ++ x ∷ [] → x ≡ f n → after ≡ before ++ map f (range_with_len 0 (n + 1))
pushed f before now after n x is then last =
    then ∙ ap (λ ys. ys ++ x ∷ []) is ∙ append_assoc before (map f (range_with_len 0 n)) (x ∷ [])
    ∙ ap (λ ys. before ++ ys) (ap (λ y. map f (range_with_len 0 n) ++ y ∷ []) last ∙ sym (map-range_with_len_more f 0 n n (omega arith)))
