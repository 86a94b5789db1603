-- Bytes that are lent from the first on.
use Rattle.std.proofs.Common.{rules, ◌≡◌, ◌≤◌, ℕ, List, ◌++◌, length, take, drop, arith}
use Rattle.std.proofs.lemmas.List.{same_lists, places}
use Rattle.std.proofs.lemmas.Bool.{cases_lt}
use Rattle.lw_pool.specs.Lending.{overwritten}

-- the bytes with the first of them written over, as a part of a vector leaves them
pub lent_bytes : (size : ℕ) (bytes new : List ℕ) → size ≡ length bytes
    → take size ((new ++ drop (length new) bytes) ++ drop (length (new ++ drop (length new) bytes)) bytes) ≡ overwritten bytes new
lent_bytes size bytes new long =
    same_lists _ _ (search (rules, places)) (λ k d h. grind (arith, places, cases_lt k (length new)))

-- what is written over the first bytes stands there
pub written_front : (bytes new : List ℕ) (n : ℕ) → length new ≡ n → n ≤ length bytes → take n (overwritten bytes new) ≡ new
written_front bytes new n long fits =
    same_lists _ _ (search (arith, rules, places)) (λ k d h. grind (arith, places))

-- and the bytes behind stay
pub kept_behind : (bytes new : List ℕ) (n : ℕ) → length new ≡ n → n ≤ length bytes → drop n (overwritten bytes new) ≡ drop n bytes
kept_behind bytes new n long fits =
    same_lists _ _ (search (arith, rules, places)) (λ k d h. grind (arith, places))
