-- The threads of a whole run, and the steps of each in own order.
use Rattle.std.proofs.Common.{ℕ, zero, suc, ◌≡◌, ◌+◌, ◌≤◌, nat_lt, nat_le, Bool, true, false, cond, ◌&&◌, List, [], ◌∷◌, ◌++◌, map, length, None, slice_get, unwrap_or, option_map, refl, sym, ap, ◌∙◌, arith}
use Rattle.std.specs.List.{AllByRecursion, list_all, enumerate_from}
use Rattle.std.proofs.lemmas.Bool.{and_parts, leb-true, true≢false}
use Rattle.lw_base.specs.declared.message.Tag.{Tag}
use Rattle.lw_base.specs.declared.message.What.TheVariants as what
use Rattle.lw_model.specs.declared.script.Script.{Script}
use Rattle.lw_model.specs.declared.record.Record.{Record}
use Rattle.lw_model.specs.declared.record.ThreadRecord.{ThreadRecord}
use Rattle.lw_base.specs.declared.ends.DeviceEnd.{DeviceEnd}
use Rattle.lw_model.specs.declared.record.Did.{Did}
use Rattle.lw_model.specs.declared.record.Called.{Called}
use Rattle.lw_model.specs.declared.record.Answer.TheVariants.{Began}
use Rattle.lw_model.specs.declared.step.Step.{Step}
use Rattle.lw_model.specs.declared.step.Step.TheVariants as step
use Rattle.lw_model.specs.Threads.{is_client, of_thread, ops_of, EachThread, EachClient}
use Rattle.lw_model.specs.OwnOrder.{own_order, in_order, put_in, at_of}
use Rattle.lw_target.specs.Ops.{is_servable}
use Rattle.lw_target.specs.WholeRun.{AppEnded, OwnerEnded, IsWholeRun}
use Rattle.lw_model.proofs.Callbacks.{put_first}

-- a record of one client on one image is made of these parts
pub record IsMadeOf (r : Record) (app client owner : ThreadRecord) (end : DeviceEnd) : Type 0 where
  pub threads : r.threads ≡ app ∷ client ∷ owner ∷ []
  pub devices : r.devices ≡ end ∷ []
  pub images : length r.script.images ≡ 1
  pub clients : length r.script.clients ≡ 1
  pub ops : list_all (is_servable 1) (ops_of r.script 1) ≡ true
  pub span : r.span ≡ None
  pub reactors : r.reactors ≡ 1
  pub small : r.home.small ≡ r.script.small
  pub large : r.home.large ≡ r.script.large
  pub whole : IsWholeRun r.script app client owner end

module _ (r : Record) (app client owner : ThreadRecord) (end : DeviceEnd) (made : IsMadeOf r app client owner end) where
  -- what holds of the app, of the client and of the owner holds of each thread
  pub each : (P : ℕ → Type 0) → P 0 → P 1 → P 2 → EachThread r P
  each P a c o zero less = a
  each P a c o (suc zero) less = c
  each P a c o (suc (suc zero)) less = o
  each P a c o (suc (suc (suc t))) less = absurd (omega (arith, less, made.images, made.clients))

  pub not_client : (t : ℕ) → is_client r.script (suc (suc t)) ≡ true → ⊥
  not_client t e = absurd (omega (arith, made.clients, leb-true (suc (suc t)) (length r.script.clients) (and_parts (nat_lt 0 (suc (suc t))) (nat_le (suc (suc t)) (length r.script.clients)) e).1))

  -- what holds of the client holds of each client
  pub each_client : (P : ℕ → Type 0) → P 1 → EachClient r P
  each_client P c zero is = absurd (true≢false (sym is))
  each_client P c (suc zero) is = c
  each_client P c (suc (suc t)) is = absurd (not_client t is)

  pub client_is : is_client r.script 1 ≡ true
  client_is = ap (λ n. nat_lt 0 1 && nat_le 1 n) made.clients

  pub owner_is_none : is_client r.script 2 ≡ false
  owner_is_none = ap (λ n. nat_lt 0 2 && nat_le 2 n) made.clients

  -- what stands under each
  pub of_app : {X : Type 0} (f : ThreadRecord → List X) → of_thread f r 0 ≡ f app
  of_app f = ap (λ (ts : List ThreadRecord). unwrap_or (option_map f (slice_get ts 0)) []) made.threads

  pub of_client : {X : Type 0} (f : ThreadRecord → List X) → of_thread f r 1 ≡ f client
  of_client f = ap (λ (ts : List ThreadRecord). unwrap_or (option_map f (slice_get ts 1)) []) made.threads

  pub of_owner : {X : Type 0} (f : ThreadRecord → List X) → of_thread f r 2 ≡ f owner
  of_owner f = ap (λ (ts : List ThreadRecord). unwrap_or (option_map f (slice_get ts 2)) []) made.threads

  pub of_none : {X : Type 0} (f : ThreadRecord → List X) (t : ℕ) → of_thread f r (suc (suc (suc t))) ≡ []
  of_none f t = ap (λ (ts : List ThreadRecord). unwrap_or (option_map f (slice_get ts (suc (suc (suc t))))) []) made.threads

-- the app's steps: it ran the `done`, unregistered the device and made its callback
abbrev pub app_steps : DeviceEnd → List Step
app_steps end = step.Ran 0 (record { sender = 1; number = 0; what = what.Done }) ∷ step.Did 0 (record { at = 1; op = 0; answer = Began end.given }) ∷ step.Called 0 (record { at = 1; device = 0 }) ∷ []

pub app_order : (app : ThreadRecord) (end : DeviceEnd) → AppEnded app end → own_order app ≡ app_steps end
app_order app end ended =
    ap (λ (xs : List Did). in_order (map (λ p. step.Did p.0 p.1) (enumerate_from 0 xs) ++ map (λ p. step.Called p.0 p.1) (enumerate_from 0 app.called) ++ map (λ p. step.Ran p.0 p.1) (enumerate_from 0 app.ran))) ended.did
    ∙ ap (λ (xs : List Called). in_order (step.Did 0 (record { at = 1; op = 0; answer = Began end.given }) ∷ map (λ p. step.Called p.0 p.1) (enumerate_from 0 xs) ++ map (λ p. step.Ran p.0 p.1) (enumerate_from 0 app.ran))) ended.called
    ∙ ap (λ (xs : List Tag). in_order (step.Did 0 (record { at = 1; op = 0; answer = Began end.given }) ∷ step.Called 0 (record { at = 1; device = 0 }) ∷ map (λ p. step.Ran p.0 p.1) (enumerate_from 0 xs))) ended.ran

-- the steps of a thread that only ran messages
abbrev pub ran_steps : ℕ → List Tag → List Step
ran_steps n ran = map (λ p. step.Ran p.0 p.1) (enumerate_from n ran)

rans_from : (n : ℕ) (ran : List Tag) (most : ℕ) → most ≤ n → AllByRecursion (λ (x : Step). most ≤ at_of x) (ran_steps n ran)
rans_from n [] most h = tt
rans_from n (m ∷ ran) most h = (h, rans_from (n + 1) ran most (omega (arith, h)))

pub rans_ordered : (n : ℕ) (ran : List Tag) → in_order (ran_steps n ran) ≡ ran_steps n ran
rans_ordered n [] = refl
rans_ordered n (m ∷ ran) = ap (put_in (step.Ran n m)) (rans_ordered (n + 1) ran) ∙ put_first (step.Ran n m) (ran_steps (n + 1) ran) (rans_from (n + 1) ran n (omega arith))

pub owner_order : (s : Script) (client owner : ThreadRecord) → OwnerEnded s client owner → own_order owner ≡ ran_steps 0 owner.ran
owner_order s client owner ended =
    ap (λ (xs : List Did). in_order (map (λ p. step.Did p.0 p.1) (enumerate_from 0 xs) ++ map (λ p. step.Called p.0 p.1) (enumerate_from 0 owner.called) ++ ran_steps 0 owner.ran)) ended.did
    ∙ ap (λ (xs : List Called). in_order (map (λ p. step.Called p.0 p.1) (enumerate_from 0 xs) ++ ran_steps 0 owner.ran)) ended.called
    ∙ rans_ordered 0 owner.ran

-- what holds of all steps in order holds of all steps
of_put_in : (P : Step → Type 0) (s : Step) (xs : List Step) → AllByRecursion P (put_in s xs) → P s × AllByRecursion P xs
of_put_in P s [] h = (h.0, tt)
of_put_in P s (x ∷ xs) h = at (nat_le (at_of s) (at_of x)) (of_put_in P s xs) h
  where
    at : (b : Bool) → (AllByRecursion P (put_in s xs) → P s × AllByRecursion P xs) → AllByRecursion P (cond b (s ∷ x ∷ xs) (x ∷ put_in s xs)) → P s × AllByRecursion P (x ∷ xs)
    at true go h = (h.0, h.1)
    at false go h = let rest = go h.1 in (rest.0, (h.0, rest.1))

pub of_in_order : (P : Step → Type 0) (ss : List Step) → AllByRecursion P (in_order ss) → AllByRecursion P ss
of_in_order P [] h = tt
of_in_order P (s ∷ ss) h = let both = of_put_in P s (in_order ss) h in (both.0, of_in_order P ss both.1)

pub of_dids : (P : Did → Type 0) (n : ℕ) (xs : List Did) → AllByRecursion (λ (s : Step). elim s [ step.Did i x ↦ P x | _ ↦ Unit {0} ]) (map (λ p. step.Did p.0 p.1) (enumerate_from n xs)) → AllByRecursion P xs
of_dids P n [] h = tt
of_dids P n (x ∷ xs) h = (h.0, of_dids P (n + 1) xs h.1)
