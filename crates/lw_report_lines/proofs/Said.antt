-- What is known of what a line said: its parts.
use Rattle.std.proofs.Common.{◌≡◌, ℕ, Bool, true, false, if◌then◌else◌, List, Option, Some, None, option_map, option_and_then, refl}
use Rattle.lw_report_lines.specs.LineParts.{after}
use Rattle.lw_report_lines.specs.LineKinds.{choose}

pub some_parts : {A B : Type 0} (o : Option A) (f : A → Option B) (b : B) → option_and_then f o ≡ Some b → (a : A) × (o ≡ Some a) × (f a ≡ Some b)
some_parts (Some a) f b e = (a, refl, e)
some_parts None f b e = cc

pub map_parts : {A B : Type 0} (o : Option A) (f : A → B) (b : B) → option_map f o ≡ Some b → (a : A) × (o ≡ Some a) × (f a ≡ b)
map_parts (Some a) f b e = (a, refl, some_same e)
  where
    some_same : Some (f a) ≡ Some b → f a ≡ b
    some_same e = cc
map_parts None f b e = cc

pub if_some : {A : Type 0} (t : Bool) (x y : A) → (if t then Some x else None) ≡ Some y → (t ≡ true) × (x ≡ y)
if_some true x y e = (refl, cc)
if_some false x y e = let wrong : None ≡ Some y = e in cc

-- what holds of each choice holds of what was chosen
pub chosen : {X : Type 0} (P : X → Type 0) (text l : List ℕ) (f : List ℕ → Option X) (other : Option X) (x : X)
    → ((rest : List ℕ) → f rest ≡ Some x → P x) → (other ≡ Some x → P x) → choose text l f other ≡ Some x → P x
chosen {X = X} P text l f other x here rest e = at (after text l) e
  where
    at : (o : Option (List ℕ)) → ◌≡◌ {A = Option X} (elim o [ Some r ↦ f r | None ↦ other ]) (Some x) → P x
    at None e = rest e
    at (Some r) e = here r e
