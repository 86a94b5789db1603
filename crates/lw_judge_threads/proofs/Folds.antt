-- What the steps of a thread add up to, whether they are seen forwards or from the last one back.
use Rattle.std.proofs.Common.{◌≡◌, List, [], ◌∷◌, ◌++◌, flat_map, reverse, append_assoc, sym, ap, ◌∙◌}
use Rattle.std.proofs.lemmas.List.{append-nil, reverse-append}
use Rattle.lw_model.specs.declared.step.Step.{Step}
use Rattle.lw_model.specs.OwnOrder.{with_past}
use Rattle.lw_judge_threads.specs.Folded.{folded}

folded_from : {X : Type 0} (f : List Step → Step → List X) (past xs : List Step) → folded f (reverse xs ++ past) ≡ folded f past ++ flat_map (λ p. f p.0 p.1) (with_past past xs)
folded_from f past [] = sym (append-nil (folded f past))
folded_from f past (x ∷ xs) =
    ap (folded f) past_is ∙ folded_from f (x ∷ past) xs
    ∙ append_assoc (folded f past) (f past x) (flat_map (λ p. f p.0 p.1) (with_past (x ∷ past) xs))
  where
    past_is : reverse (x ∷ xs) ++ past ≡ reverse xs ++ (x ∷ past)
    past_is = ap (λ w. w ++ past) (reverse-append (x ∷ []) xs) ∙ append_assoc (reverse xs) (x ∷ []) past

pub folded-reverse : {X : Type 0} (f : List Step → Step → List X) (xs : List Step) → folded f (reverse xs) ≡ flat_map (λ p. f p.0 p.1) (with_past [] xs)
folded-reverse f xs = ap (folded f) (sym (append-nil (reverse xs))) ∙ folded_from f [] xs
