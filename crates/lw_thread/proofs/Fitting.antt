-- Sends whose messages all fit. For whoever writes a body whose messages fit every ring of some family.
use Rattle.std.proofs.Common.{◌≡◌, ℕ, List, [], ◌∷◌, sym, subst, Option, Some}
use Rattle.std.proofs.lemmas.List.Elements.{All-nil, All-cons}
use Rattle.lw_base.specs.Letters.{FitsRing}
use Rattle.lw_thread.specs.Acts.{Post, AllFit}

module _ {M F : Type 0} (fits : ℕ → F → M → Type 0) where
  -- each message of this family fits
  all_fit : (f : F) → ((to : ℕ) (message : M) → fits to f message) → (ps : List (Post M)) → AllFit fits (Some f) ps
  all_fit f any [] = All-nil (λ (p : Post M). FitsRing fits p.to (Some f) p.what)
  all_fit f any (p ∷ ps) = All-cons (λ (p : Post M). FitsRing fits p.to (Some f) p.what) p ps (any p.to p.what) (all_fit f any ps)

  pub any_fit : (f : F) → ((to : ℕ) (message : M) → fits to f message) → (family : Option F) → family ≡ Some f → (ps : List (Post M)) → AllFit fits family ps
  any_fit f any family is ps = subst (λ (o : Option F). AllFit fits o ps) (sym is) (all_fit f any ps)
