-- Every list of notes fits.
use Rattle.std.proofs.Common.{◌≡◌, ℕ, List, Option, Some}
use Rattle.lw_thread.specs.Acts.{Post, AllFit}
use Rattle.lw_thread.proofs.Fitting.{any_fit}

module _ {M : Type 0} where
  abbrev pub fits_all : ℕ → Unit {0} → M → Type 0
  fits_all to family message = Unit {0}

  pub notes_fit : (family : Option (Unit {0})) → family ≡ Some tt → (ps : List (Post M)) → AllFit fits_all family ps
  notes_fit = any_fit fits_all tt (λ to message. tt)
