-- Where a send stands among those of two lists, and that what a thread sends last is no token.
use Rattle.std.proofs.Common.{◌≡◌, ℕ, ◌==◌, Bool, true, false, cond, ◌||◌, List, [], ◌∷◌, ◌++◌, map, ◌⊎◌, Option, Some, None, option_to_list, option_map, refl, sym, ap, ◌∙◌, inl, inr}
use Rattle.std.specs.List.{list_any}
use Rattle.std.proofs.lemmas.Bool.{or_left, or_right, false≢true}
use Rattle.lw_base.proofs.Lists.{heads, tails}
use Rattle.lw_base.specs.declared.message.What.{What}
use Rattle.lw_base.specs.declared.message.What.TheVariants as what
use Rattle.lw_model.specs.declared.script.Script.{Script}
use Rattle.lw_model.specs.Threads.{owner_of, is_client, images}
use Rattle.lw_model.specs.Sent.{completion, sent_last}
use Rattle.lw_whole.specs.Letters.{Letter}
use Rattle.lw_whole.specs.Logs.{addressed}
use Rattle.lw_history.specs.GoingOn.{is_token}

pub not_nil : {X : Type 0} (front : List X) (p : X) (rest : List X) → [] ≡ front ++ p ∷ rest → ⊥
not_nil [] p rest e = absurd (cc)
not_nil (x ∷ xs) p rest e = absurd (cc)

-- in the first list, or in the second
pub record InFirst {X : Type 0} (first second made : List X) (p : X) (rest : List X) : Type 0 where
  pub behind : List X
  pub first_is : first ≡ made ++ p ∷ behind
  pub rest_is : rest ≡ behind ++ second

pub record InSecond {X : Type 0} (first second made : List X) (p : X) (rest : List X) : Type 0 where
  pub front : List X
  pub made_is : made ≡ first ++ front
  pub second_is : second ≡ front ++ p ∷ rest

pub where_it_stands : {X : Type 0} (first second made : List X) (p : X) (rest : List X) → first ++ second ≡ made ++ p ∷ rest → InFirst first second made p rest ⊎ InSecond first second made p rest
where_it_stands [] second made p rest e = inr (record { front = made; made_is = refl; second_is = e })
where_it_stands (a ∷ first) second [] p rest e = inl (record { behind = first; first_is = ap (λ x. x ∷ first) (heads e); rest_is = sym (tails e) })
where_it_stands (a ∷ first) second (m ∷ made) p rest e = elim (where_it_stands first second made p rest (tails e)) [
  | inl k ↦ inl (record { behind = k.behind; first_is = ap (λ x. x ∷ first) (heads e) ∙ ap (λ l. m ∷ l) k.first_is; rest_is = k.rest_is })
  | inr k ↦ inr (record { front = k.front; made_is = ap (λ x. x ∷ made) (sym (heads e)) ∙ ap (λ l. a ∷ l) k.made_is; second_is = k.second_is })
]

-- whether there is a token among sends
abbrev pub has_token : List (ℕ × What) → Bool
has_token now = list_any (λ q. is_token q.1) now

token_there : (front : List (ℕ × Letter)) (p : ℕ × Letter) (rest : List (ℕ × Letter)) → is_token p.1.tag.what ≡ true → has_token (addressed (front ++ p ∷ rest)) ≡ true
token_there [] p rest e = or_left (is_token p.1.tag.what) (has_token (addressed rest)) e
token_there (f ∷ front) p rest e = or_right (is_token f.1.tag.what) (has_token (addressed (front ++ p ∷ rest))) (token_there front p rest e)

pub no_token : (now front : List (ℕ × Letter)) (p : ℕ × Letter) (rest : List (ℕ × Letter)) (sent : List (ℕ × What))
    → now ≡ front ++ p ∷ rest → is_token p.1.tag.what ≡ true → addressed now ≡ sent → has_token sent ≡ false → ⊥
no_token now front p rest sent e token is none = false≢true (sym none ∙ ap has_token (sym is ∙ ap addressed e) ∙ token_there front p rest token)

pub completes_none : (w : What) → has_token (completion w) ≡ false
completes_none (what.Visit o k d) = refl
completes_none (what.Cast o k) = refl
completes_none _ = refl

pub many_are_none : {X : Type 0} (to : X → ℕ) (w : X → What) → ((x : X) → is_token (w x) ≡ false) → (xs : List X) → has_token (map (λ x. (to x, w x)) xs) ≡ false
many_are_none to w none [] = refl
many_are_none to w none (x ∷ xs) = ap (λ b. b || has_token (map (λ y. (to y, w y)) xs)) (none x) ∙ many_are_none to w none xs

pub one_is_none : {X : Type 0} (to : X → ℕ) (w : X → What) → ((x : X) → is_token (w x) ≡ false) → (o : Option X) → has_token (option_to_list (option_map (λ x. (to x, w x)) o)) ≡ false
one_is_none to w none None = refl
one_is_none to w none (Some x) = ap (λ b. b || false) (none x)

pub last_none : (s : Script) (t : ℕ) → has_token (sent_last s t) ≡ false
last_none s t = at (is_client s t) (t == 0)
  where
    at : (a b : Bool) → has_token (cond a ((0, what.Done) ∷ []) (cond b (map (λ d. (owner_of s d, what.Stop)) (images s)) [])) ≡ false
    at true b = refl
    at false true = many_are_none (owner_of s) (λ d. what.Stop) (λ d. refl) (images s)
    at false false = refl
