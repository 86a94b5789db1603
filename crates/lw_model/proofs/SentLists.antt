-- Messages with their receivers, one list behind another.
use Rattle.std.proofs.Common.{◌≡◌, ℕ, ◌==◌, List, ◌++◌, map, ap, ◌∙◌}
use Rattle.std.specs.Prelude.{filter}
use Rattle.std.proofs.lemmas.List.{map-append}
use Rattle.std.proofs.lemmas.List.Elements.{filter-append}
use Rattle.lw_model.specs.Sent.{to_thread}

pub to_thread-append : {X : Type 0} (t : ℕ) (ps qs : List (ℕ × X)) → to_thread t (ps ++ qs) ≡ to_thread t ps ++ to_thread t qs
to_thread-append {X} t ps qs =
    ap (map (λ (p : ℕ × X). p.1)) (filter-append (λ (p : ℕ × X). p.0 == t) ps qs)
    ∙ map-append (λ (p : ℕ × X). p.1) (filter (λ (p : ℕ × X). p.0 == t) ps) (filter (λ (p : ℕ × X). p.0 == t) qs)
