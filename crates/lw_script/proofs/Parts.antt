-- A list of few items, by its items, and the ops of lists that have no form.
use Rattle.std.proofs.Common.{◌≡◌, ℕ, ◌≤◌, ◌<◌, ◌∙◌, sym, ap, refl, List, [], ◌∷◌, map, length, None, get_or, arith}
use Rattle.serde_json.specs.declared.value.Value.{Value}
use Rattle.serde_json.specs.View.{view}
use Rattle.lw_model.specs.ScriptShape.{op_of}

pub one-item : {X : Type 0} (xs : List X) (a : X) → 1 ≤ length xs → length xs < 2 → a ≡ get_or xs 0 a → xs ≡ a ∷ []
one-item [] a least below ea = absurd (omega arith)
one-item (x ∷ []) a least below ea = ap (λ t. t ∷ []) (sym ea)
one-item (x ∷ y ∷ zs) a least below ea = absurd (omega arith)

pub four-items : {X : Type 0} (xs : List X) (a b c d : X) → 4 ≤ length xs → length xs < 5 →
    a ≡ get_or xs 0 a → b ≡ get_or xs 1 b → c ≡ get_or xs 2 c → d ≡ get_or xs 3 d → xs ≡ a ∷ b ∷ c ∷ d ∷ []
four-items [] a b c d least below ea eb ec ed = absurd (omega arith)
four-items (x ∷ []) a b c d least below ea eb ec ed = absurd (omega arith)
four-items (x ∷ y ∷ []) a b c d least below ea eb ec ed = absurd (omega arith)
four-items (x ∷ y ∷ z ∷ []) a b c d least below ea eb ec ed = absurd (omega arith)
four-items (x ∷ y ∷ z ∷ u ∷ []) a b c d least below ea eb ec ed =
    sym (ap (λ t. t ∷ b ∷ c ∷ d ∷ []) ea ∙ ap (λ t. x ∷ t ∷ c ∷ d ∷ []) eb ∙ ap (λ t. x ∷ y ∷ t ∷ d ∷ []) ec ∙ ap (λ t. x ∷ y ∷ z ∷ t ∷ []) ed)
four-items (x ∷ y ∷ z ∷ u ∷ v ∷ ws) a b c d least below ea eb ec ed = absurd (omega arith)

pub five-items : {X : Type 0} (xs : List X) (a b c d e : X) → 5 ≤ length xs → length xs < 6 →
    a ≡ get_or xs 0 a → b ≡ get_or xs 1 b → c ≡ get_or xs 2 c → d ≡ get_or xs 3 d → e ≡ get_or xs 4 e → xs ≡ a ∷ b ∷ c ∷ d ∷ e ∷ []
five-items [] a b c d e least below ea eb ec ed ee = absurd (omega arith)
five-items (x ∷ xs) a b c d e least below ea eb ec ed ee =
    ap (λ t. x ∷ t) (four-items xs b c d e (omega arith) (omega arith) eb ec ed ee) ∙ ap (λ t. t ∷ b ∷ c ∷ d ∷ e ∷ []) (sym ea)

pub op_of-none : (names : List (List ℕ)) (vs : List Value) → length vs < 1 → op_of names (map view vs) ≡ None
op_of-none names [] below = refl
op_of-none names (v ∷ vs) below = absurd (omega arith)

pub op_of-three : (names : List (List ℕ)) (vs : List Value) → 3 ≤ length vs → length vs < 4 → op_of names (map view vs) ≡ None
op_of-three names [] least below = absurd (omega arith)
op_of-three names (a ∷ []) least below = absurd (omega arith)
op_of-three names (a ∷ b ∷ []) least below = absurd (omega arith)
op_of-three names (a ∷ b ∷ c ∷ []) least below = refl
op_of-three names (a ∷ b ∷ c ∷ d ∷ vs) least below = absurd (omega arith)

pub op_of-many : (names : List (List ℕ)) (vs : List Value) → 6 ≤ length vs → op_of names (map view vs) ≡ None
op_of-many names [] least = absurd (omega arith)
op_of-many names (a ∷ []) least = absurd (omega arith)
op_of-many names (a ∷ b ∷ []) least = absurd (omega arith)
op_of-many names (a ∷ b ∷ c ∷ []) least = absurd (omega arith)
op_of-many names (a ∷ b ∷ c ∷ d ∷ []) least = absurd (omega arith)
op_of-many names (a ∷ b ∷ c ∷ d ∷ e ∷ []) least = absurd (omega arith)
op_of-many names (a ∷ b ∷ c ∷ d ∷ e ∷ f ∷ vs) least = refl
