-- What a client sends behind its last message does not go where that went.
use Rattle.std.proofs.Common.{◌≡◌, ◌≢◌, ℕ, ◌≤◌, ◌==◌, true, false, cond, List, [], ◌∷◌, All, map, refl, sym, ap, subst, ◌∙◌, arith, inl, inr}
use Rattle.std.specs.List.{AllByRecursion}
use Rattle.std.proofs.lemmas.Bool.{eqb-false}
use Rattle.std.proofs.lemmas.List.Elements.{All-from_recursion}
use Rattle.lw_base.proofs.Lists.{heads, tails}
use Rattle.lw_base.specs.declared.message.What.{What}
use Rattle.lw_base.specs.declared.message.What.TheVariants as what
use Rattle.lw_model.specs.declared.script.Script.{Script}
use Rattle.lw_model.specs.Threads.{owner_of, is_client, images}
use Rattle.lw_model.specs.Sent.{completion, is_origin, sent_last}
use Rattle.lw_model.proofs.Growth.{all-append}
use Rattle.lw_whole.specs.Letters.{Letter, Load}
use Rattle.lw_whole.specs.Logs.{addressed}
use Rattle.lw_whole.specs.Tokens.{GoesOn}
use Rattle.lw_history.specs.Histories.{Event, ran, did, called, ended, last_of}
use Rattle.lw_history.specs.Fitting.{SparesLast, ClientFits, EachFits}

pub none_to_spare : (last now : List (ℕ × Letter)) → last ≡ [] → SparesLast last now
none_to_spare last now e = subst (λ l. SparesLast l now) (sym e) (λ k d l j f m. absurd (omega (arith, m)))

-- a client's last messages go to the app
abbrev ToApp : List (ℕ × Letter) → Type 0
ToApp now = AllByRecursion (λ q. q.0 ≡ 0) now

as_addressed : (now : List (ℕ × Letter)) (ps : List (ℕ × What)) → addressed now ≡ ps → AllByRecursion (λ p. p.0 ≡ 0) ps → ToApp now
as_addressed [] ps e h = tt
as_addressed (q ∷ now) [] e h = absurd (cc)
as_addressed (q ∷ now) (p ∷ ps) e h = (ap (λ (r : ℕ × What). r.0) (heads e) ∙ h.0, as_addressed now ps (tails e) h.1)

last_to_app : (s : Script) (t : ℕ) → is_client s t ≡ true → (h : List Event) → EachFits (ClientFits s t) h → ToApp (last_of h)
last_to_app s t is [] fits = tt
last_to_app s t is (ran x now ∷ before) fits = last_to_app s t is before fits.1
last_to_app s t is (did x now ∷ before) fits = last_to_app s t is before fits.1
last_to_app s t is (called x ∷ before) fits = last_to_app s t is before fits.1
last_to_app s t is (ended now ∷ before) fits =
    let done : sent_last s t ≡ (0, what.Done) ∷ [] = ap (λ b. cond b ((0, what.Done) ∷ []) (cond (t == 0) (map (λ d. (owner_of s d, what.Stop)) (images s)) [])) is in
    all-append (λ (q : ℕ × Letter). q.0 ≡ 0) (last_of before) now (last_to_app s t is before fits.1) (as_addressed now ((0, what.Done) ∷ []) (fits.0 ∙ done) (refl, tt))

-- a token behind the app does not go there, unless it is the app's
abbrev Elsewhere : List (ℕ × Letter) → Type 0
Elsewhere now = AllByRecursion (λ p. 1 ≤ p.0) now

home_elsewhere : (w : What) (u : ℕ) (x : Letter) → addressed ((u, x) ∷ []) ≡ completion w → is_origin w 0 ≡ false → 1 ≤ u
home_elsewhere (what.Visit o k d) u x e origin = let to : u ≡ o = ap (λ (r : ℕ × What). r.0) (heads e) in let not_app = eqb-false 0 o origin in omega (arith, to, not_app)
home_elsewhere (what.Cast o k) u x e origin = let to : u ≡ o = ap (λ (r : ℕ × What). r.0) (heads e) in let not_app = eqb-false 0 o origin in omega (arith, to, not_app)
home_elsewhere _ u x e origin = absurd (cc)

goes_elsewhere : (s : Script) (w : What) (from : ℕ) (load : Load) (now : List (ℕ × Letter)) → GoesOn s w from load now → 1 ≤ from → is_origin w 0 ≡ false → Elsewhere now
goes_elsewhere s w from load [] h less origin = tt
goes_elsewhere s w from load (p ∷ []) (inl k) less origin = (omega (arith, k.above, less), tt)
goes_elsewhere s w from load (p ∷ []) (inr k) less origin = (home_elsewhere w p.0 p.1 k.completes origin, tt)
goes_elsewhere s w from load (p ∷ q ∷ rest) h less origin = absurd h

apart : (last now : List (ℕ × Letter)) → ToApp last → Elsewhere now → SparesLast last now
apart last now h k = All-from_recursion (λ (p : ℕ × Letter). All (λ (q : ℕ × Letter). q.0 ≢ p.0) last) now (each now k)
  where
    others : (u : ℕ) → 1 ≤ u → (qs : List (ℕ × Letter)) → ToApp qs → AllByRecursion (λ (q : ℕ × Letter). q.0 ≢ u) qs
    others u less [] f = tt
    others u less (q ∷ qs) f = (λ e. absurd (omega (arith, e, f.0, less)), others u less qs f.1)

    each : (ps : List (ℕ × Letter)) → Elsewhere ps → AllByRecursion (λ (p : ℕ × Letter). All (λ (q : ℕ × Letter). q.0 ≢ p.0) last) ps
    each [] f = tt
    each (p ∷ ps) f = (All-from_recursion (λ (q : ℕ × Letter). q.0 ≢ p.0) last (others p.0 f.0 last h), each ps f.1)

pub tokens_spare_done : (s : Script) (t : ℕ) (h : List Event) (w : What) (from : ℕ) (load : Load) (now : List (ℕ × Letter)) → is_client s t ≡ true → EachFits (ClientFits s t) h
    → GoesOn s w from load now → 1 ≤ from → is_origin w 0 ≡ false → SparesLast (last_of h) now
tokens_spare_done s t h w from load now is fits goes less origin = apart (last_of h) now (last_to_app s t is h fits) (goes_elsewhere s w from load now goes less origin)
