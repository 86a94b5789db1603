-- The requests among messages, and the replies among them, one message more.
use Rattle.std.proofs.Common.{◌≡◌, ℕ, ◌+◌, ◌<◌, List, [], ◌∷◌, ◌++◌, length, take, get_or, Option, Some, None, refl, ap, ◌∙◌}
use Rattle.std.specs.Prelude.{filter_map}
use Rattle.std.specs.List.{cons_option}
use Rattle.std.proofs.lemmas.List.{take_more, append-nil}
use Rattle.std.proofs.lemmas.List.Elements.{filter_map-append}
use Rattle.lw_base.specs.declared.message.Tag.{Tag}
use Rattle.lw_base.specs.declared.message.What.{What}
use Rattle.lw_base.specs.declared.message.What.TheVariants as what
use Rattle.lw_model.specs.Journal.{request_of}
use Rattle.lw_model.specs.Lawful.{reply_op}

-- the next item gives something
pub picked_more : {X Y : Type 0} (f : X → Option Y) (xs : List X) (i : ℕ) (d : X) (y : Y) → i < length xs → f (get_or xs i d) ≡ Some y → filter_map f (take (i + 1) xs) ≡ filter_map f (take i xs) ++ y ∷ []
picked_more f xs i d y less e =
    ap (filter_map f) (take_more xs i d less) ∙ filter_map-append f (take i xs) (get_or xs i d ∷ [])
    ∙ ap (λ l. filter_map f (take i xs) ++ l) (ap (λ o. cons_option o []) e)

-- or nothing
pub picked_same : {X Y : Type 0} (f : X → Option Y) (xs : List X) (i : ℕ) (d : X) → i < length xs → f (get_or xs i d) ≡ None → filter_map f (take (i + 1) xs) ≡ filter_map f (take i xs)
picked_same f xs i d less e =
    ap (filter_map f) (take_more xs i d less) ∙ filter_map-append f (take i xs) (get_or xs i d ∷ [])
    ∙ ap (λ l. filter_map f (take i xs) ++ l) (ap (λ o. cons_option o []) e) ∙ append-nil (filter_map f (take i xs))

pub is_request : (m : Tag) (k : ℕ) → m.what ≡ what.Request k → request_of m ≡ Some (m.sender, k)
is_request m k e = ap (λ (w : What). elim w [ what.Request j ↦ Some (m.sender, j) | _ ↦ None ]) e

pub no_request : (m : Tag) → ((k : ℕ) → m.what ≡ what.Request k → ⊥) → request_of m ≡ None
no_request m never = at m.what never
  where
    at : (w : What) → ((k : ℕ) → w ≡ what.Request k → ⊥) → ◌≡◌ {A = Option (ℕ × ℕ)} (elim w [ what.Request j ↦ Some (m.sender, j) | _ ↦ None ]) None
    at (what.Request k) never = absurd (never k refl)
    at (what.Reply k) never = refl
    at (what.PutSelf d) never = refl
    at (what.Visit o k d) never = refl
    at (what.Visited k) never = refl
    at (what.Cast o k) never = refl
    at (what.Casted k) never = refl
    at what.Done never = refl
    at what.Stop never = refl
    at (what.Arrive n t) never = refl
    at (what.Order n t to) never = refl

pub is_reply : (m : Tag) (k : ℕ) → m.what ≡ what.Reply k → reply_op m ≡ Some k
is_reply m k e = ap (λ (w : What). elim w [ what.Reply j ↦ Some j | _ ↦ None ]) e

pub no_reply : (m : Tag) → ((k : ℕ) → m.what ≡ what.Reply k → ⊥) → reply_op m ≡ None
no_reply m never = at m.what never
  where
    at : (w : What) → ((k : ℕ) → w ≡ what.Reply k → ⊥) → ◌≡◌ {A = Option ℕ} (elim w [ what.Reply j ↦ Some j | _ ↦ None ]) None
    at (what.Request k) never = refl
    at (what.Reply k) never = absurd (never k refl)
    at (what.PutSelf d) never = refl
    at (what.Visit o k d) never = refl
    at (what.Visited k) never = refl
    at (what.Cast o k) never = refl
    at (what.Casted k) never = refl
    at what.Done never = refl
    at what.Stop never = refl
    at (what.Arrive n t) never = refl
    at (what.Order n t to) never = refl
