-- Lists of what was sent to which messages were put, one after another.
use Rattle.std.proofs.Common.{◌≡◌, ℕ, zero, suc, ◌+◌, ◌<◌, ◌≤◌, ◌==◌, Bool, true, false, cond, List, [], ◌∷◌, ◌++◌, Vec, Global, map, length, set, slice_get, Option, Some, None, append_assoc, refl, sym, ap, subst, ◌∙◌, arith}
use Rattle.std.proofs.lemmas.Bool.{eqb-true, eq-eqb, ne_eqb}
use Rattle.std.proofs.lemmas.Bool.Decides.{nat_tests}
use Rattle.std.proofs.lemmas.List.{append-nil, map-append}
use Rattle.std.proofs.lemmas.Option.{slice_get_within}
use Rattle.lw_model.specs.Sent.{to_thread}
use Rattle.lw_model.proofs.SentLists.{to_thread-append}
use Rattle.lw_base.specs.declared.message.What.{What}
use Rattle.lw_judge_messages.specs.declared.sends.Sends.{Sends}
use Rattle.lw_judge_messages.specs.declared.tokens.Token.{Token}
use Rattle.lw_judge_messages.specs.Tokens.{what_of}
use Rattle.lw_judge_messages.specs.SendsAt.{items_at, list_at, IsSized, Adds}

-- ---- the items at a place

same_suc : (i j : ℕ) → (i == j) ≡ (suc i == suc j)
same_suc i j = grind (arith, nat_tests)

apart_first : (j : ℕ) → (0 == suc j) ≡ false
apart_first j = ne_eqb 0 (suc j) (omega arith)

apart_last : (i : ℕ) → (suc i == 0) ≡ false
apart_last i = ne_eqb (suc i) 0 (omega arith)

pub items_at-set : {X Z : Type 0} (vs : List (Vec X Z)) (i : ℕ) (v : Vec X Z) (j : ℕ) → i < length vs → items_at (set vs i v) j ≡ cond (i == j) v.items (items_at vs j)
items_at-set [] i v j less = absurd (omega (arith, less))
items_at-set (x ∷ vs) zero v zero less = refl
items_at-set (x ∷ vs) zero v (suc j) less = ap (λ b. cond b v.items (items_at vs j)) (sym (apart_first j))
items_at-set (x ∷ vs) (suc i) v zero less = ap (λ b. cond b v.items x.items) (sym (apart_last i))
items_at-set (x ∷ vs) (suc i) v (suc j) less = items_at-set vs i v j (omega (arith, less)) ∙ ap (λ b. cond b v.items (items_at vs j)) (same_suc i j)

pub items_at-push : {X Z : Type 0} (vs : List (Vec X Z)) (v : Vec X Z) (j : ℕ) → items_at (vs ++ v ∷ []) j ≡ cond (length vs == j) v.items (items_at vs j)
items_at-push [] v zero = refl
items_at-push {X} [] v (suc j) = ap (λ b. cond {A = List X} b v.items []) (sym (apart_first j))
items_at-push (x ∷ vs) v zero = ap (λ b. cond b v.items x.items) (sym (apart_last (length vs)))
items_at-push (x ∷ vs) v (suc j) = items_at-push vs v j ∙ ap (λ b. cond b v.items (items_at vs j)) (same_suc (length vs) j)

pub items_at-get : {X Z : Type 0} (vs : List (Vec X Z)) (i : ℕ) (v : Vec X Z) → slice_get vs i ≡ Some v → items_at vs i ≡ v.items
items_at-get {X} {Z} vs i v e = ap (λ (o : Option (Vec X Z)). elim o as (λ q. List X) [ None ↦ [] | Some w ↦ w.items ]) e

-- one item more in the list at a place
pub items_at-put : (vs : List (Vec What Global)) (to : ℕ) (old new : Vec What Global) (w : What) → slice_get vs to ≡ Some old → new.items ≡ old.items ++ w ∷ []
    → (u : ℕ) → items_at (set vs to new) u ≡ items_at vs u ++ cond (to == u) (w ∷ []) []
items_at-put vs to old new w found put u = items_at-set vs to new u (slice_get_within vs to old found) ∙ at (to == u) refl
  where
    at : (b : Bool) → to == u ≡ b → cond b new.items (items_at vs u) ≡ items_at vs u ++ cond b (w ∷ []) []
    at true e = put ∙ ap (λ l. l ++ w ∷ []) (sym (items_at-get vs to old found) ∙ ap (items_at vs) (eqb-true to u e))
    at false e = sym (append-nil (items_at vs u))

-- one row more of empty lists
module _ (rows : List (Vec (Vec What Global) Global)) (row : Vec (Vec What Global) Global) (n : ℕ) where
  pub sizes-push : length row.items ≡ n → ((s : ℕ) → s < length rows → length (items_at rows s) ≡ n) → (s : ℕ) → s < length rows + 1 → length (items_at (rows ++ row ∷ []) s) ≡ n
  sizes-push long each s below = ap length (items_at-push rows row s) ∙ at (length rows == s) refl
    where
      other : (k s : ℕ) → k == s ≡ false → s < k + 1 → s < k
      other k s e h = grind (arith, nat_tests)

      at : (b : Bool) → length rows == s ≡ b → length (cond b row.items (items_at rows s)) ≡ n
      at true e = long
      at false e = each s (other (length rows) s e below)

  pub empty-push : ((u : ℕ) → items_at row.items u ≡ []) → ((s u : ℕ) → items_at (items_at rows s) u ≡ []) → (s u : ℕ) → items_at (items_at (rows ++ row ∷ []) s) u ≡ []
  empty-push none each s u = ap (λ l. items_at l u) (items_at-push rows row s) ∙ at (length rows == s)
    where
      at : (b : Bool) → items_at (cond b row.items (items_at rows s)) u ≡ []
      at true = none u
      at false = each s u

-- ---- messages to a thread

to_thread-one : (u to : ℕ) (w : What) → to_thread u ((to, w) ∷ []) ≡ cond (to == u) (w ∷ []) []
to_thread-one u to w = at (to == u)
  where
    at : (b : Bool) → map (λ (p : ℕ × What). p.1) (cond b ((to, w) ∷ []) []) ≡ cond b (w ∷ []) []
    at true = refl
    at false = refl

pub cond-append : (b : Bool) (xs ys : List What) → cond b xs [] ++ cond b ys [] ≡ cond b (xs ++ ys) []
cond-append true xs ys = refl
cond-append false xs ys = refl

pub cond-nil : (b : Bool) → cond {A = List What} b [] [] ≡ []
cond-nil true = refl
cond-nil false = refl

-- ---- one change after another

pub adds_none : (n t : ℕ) (x : Sends) → IsSized n x → Adds n t [] [] x x
adds_none n t x sized = record {
  sized = sized;
  lists = λ s u below here. sym (ap (λ l. list_at x s u ++ l) (cond-nil (s == t)) ∙ append-nil (list_at x s u));
  tokens = sym (append-nil (map what_of x.tokens.items));
}

-- a thread that is none keeps nothing
pub adds_nowhere : (n t : ℕ) (ms : List (ℕ × What)) (x : Sends) → n ≤ t → IsSized n x → Adds n t ms [] x x
adds_nowhere n t ms x past sized = record {
  sized = sized;
  lists = λ s u below here. sym (ap (λ b. list_at x s u ++ cond b (to_thread u ms) []) (ne_eqb s t (omega (arith, past, below))) ∙ append-nil (list_at x s u));
  tokens = sym (append-nil (map what_of x.tokens.items));
}

pub adds_more : (n t : ℕ) (ms ms' : List (ℕ × What)) (ws ws' : List What) (x y z : Sends) → Adds n t ms ws x y → Adds n t ms' ws' y z → Adds n t (ms ++ ms') (ws ++ ws') x z
adds_more n t ms ms' ws ws' x y z first then = record {
  sized = then.sized;
  lists = λ s u below here.
      then.lists s u below here ∙ ap (λ l. l ++ cond (s == t) (to_thread u ms') []) (first.lists s u below here)
      ∙ append_assoc (list_at x s u) (cond (s == t) (to_thread u ms) []) (cond (s == t) (to_thread u ms') [])
      ∙ ap (λ l. list_at x s u ++ l) (cond-append (s == t) (to_thread u ms) (to_thread u ms') ∙ ap (λ l. cond (s == t) l []) (sym (to_thread-append u ms ms')));
  tokens = then.tokens ∙ ap (λ l. l ++ ws') first.tokens ∙ append_assoc (map what_of x.tokens.items) ws ws';
}

-- a message more in the list of one thread for another
module _ (n t to : ℕ) (w : What) (x y : Sends) (had row : List (Vec What Global)) (sized : IsSized n x) (count : length y.lists.items ≡ length x.lists.items)
    (rows : (s : ℕ) → items_at y.lists.items s ≡ cond (t == s) row (items_at x.lists.items s)) (old : items_at x.lists.items t ≡ had) (long : length row ≡ length had)
    (put : (u : ℕ) → u < length had → items_at row u ≡ items_at had u ++ cond (to == u) (w ∷ []) []) (tokens : map what_of y.tokens.items ≡ map what_of x.tokens.items) where
  size : (s : ℕ) → s < n → length (cond (t == s) row (items_at x.lists.items s)) ≡ n
  size s below = at (t == s) refl
    where
      at : (b : Bool) → t == s ≡ b → length (cond b row (items_at x.lists.items s)) ≡ n
      at true e = long ∙ ap length (sym old) ∙ ap (λ q. length (items_at x.lists.items q)) (eqb-true t s e) ∙ sized.each s below
      at false e = sized.each s below

  items : (s u : ℕ) → s < n → u < n → items_at (cond (t == s) row (items_at x.lists.items s)) u ≡ list_at x s u ++ cond (s == t) (to_thread u ((to, w) ∷ [])) []
  items s u below here = at (t == s) refl
    where
      other : (s t : ℕ) → t == s ≡ false → (s == t) ≡ false
      other s t e = grind (arith, nat_tests)

      at : (b : Bool) → t == s ≡ b → items_at (cond b row (items_at x.lists.items s)) u ≡ list_at x s u ++ cond (s == t) (to_thread u ((to, w) ∷ [])) []
      at true e =
          let same : t ≡ s = eqb-true t s e in
          let was : had ≡ items_at x.lists.items s = sym old ∙ ap (items_at x.lists.items) same in
          put u (subst (λ l. u < length l) (sym was) (subst (λ k. u < k) (sym (sized.each s below)) here))
          ∙ ap (λ l. items_at l u ++ cond (to == u) (w ∷ []) []) was
          ∙ ap (λ l. list_at x s u ++ l) (sym (ap (λ b. cond b (to_thread u ((to, w) ∷ [])) []) (eq-eqb s t (sym same)) ∙ to_thread-one u to w))
      at false e = sym (ap (λ b. list_at x s u ++ cond b (to_thread u ((to, w) ∷ [])) []) (other s t e) ∙ append-nil (list_at x s u))

  pub adds_one : Adds n t ((to, w) ∷ []) [] x y
  adds_one = record {
    sized = record { count = count ∙ sized.count; each = λ s below. ap length (rows s) ∙ size s below };
    lists = λ s u below here. ap (λ l. items_at l u) (rows s) ∙ items s u below here;
    tokens = tokens ∙ sym (append-nil (map what_of x.tokens.items));
  }

-- a token more that was started
pub adds_token : (n t : ℕ) (ms : List (ℕ × What)) (v : Token) (x y z : Sends) → Adds n t ms [] x y → z.lists ≡ y.lists → z.tokens.items ≡ y.tokens.items ++ v ∷ [] → Adds n t ms (what_of v ∷ []) x z
adds_token n t ms v x y z adds lists pushed = record {
  sized = record {
    count = ap (λ l. length l.items) lists ∙ adds.sized.count;
    each = λ s below. ap (λ l. length (items_at l.items s)) lists ∙ adds.sized.each s below;
  };
  lists = λ s u below here. ap (λ l. items_at (items_at l.items s) u) lists ∙ adds.lists s u below here;
  tokens = ap (map what_of) pushed ∙ map-append what_of y.tokens.items (v ∷ [])
      ∙ ap (λ l. l ++ what_of v ∷ []) (adds.tokens ∙ append-nil (map what_of x.tokens.items));
}
