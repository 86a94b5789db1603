-- Messages of a kind that no step sends, or that owners alone send.
use Rattle.std.proofs.Common.{◌≡◌, ℕ, ◌+◌, Bool, true, false, List, [], ◌∷◌, map, Option, Some, None, option_map, option_to_list, refl, sym, ap, subst, ◌∙◌, inl, inr}
use Rattle.std.specs.List.{AllByRecursion}
use Rattle.std.proofs.lemmas.Bool.{false≢true}
use Rattle.lw_base.specs.declared.message.What.{What}
use Rattle.lw_base.specs.declared.message.What.TheVariants as what
use Rattle.lw_model.specs.declared.script.Script.{Script}
use Rattle.lw_model.specs.declared.script.Op.{Op}
use Rattle.lw_model.specs.declared.script.Op.TheVariants as op
use Rattle.lw_model.specs.declared.record.Answer.{Answer}
use Rattle.lw_model.specs.declared.record.Answer.TheVariants as answer
use Rattle.lw_model.specs.declared.step.Step.{Step}
use Rattle.lw_model.specs.declared.step.Step.TheVariants as step
use Rattle.lw_model.specs.Threads.{owner_of, is_client, is_owner, op_at, image_at}
use Rattle.lw_model.specs.Sent.{token_of, token_of_op, completion, referred}
use Rattle.lw_whole.specs.Letters.{Letter, Load}
use Rattle.lw_whole.specs.Logs.{Log, addressed}
use Rattle.lw_whole.specs.Tokens.{GoesOn, empty_load}
use Rattle.lw_whole.specs.Sends.{Sets, SentByDid, SentByRan, SentBy, Replies}
use Rattle.lw_whole.proofs.TokenCounts.{Either}
use Rattle.lw_whole.proofs.TokenBack.{Among, IsTo}

-- messages that no step sends but a request that an owner ran
pub record Rare (q : What → Bool) : Type 0 where
  pub request : (k : ℕ) → q (what.Request k) ≡ false
  pub putself : (d : ℕ) → q (what.PutSelf d) ≡ false
  pub visit : (o k d : ℕ) → q (what.Visit o k d) ≡ false
  pub visited : (k : ℕ) → q (what.Visited k) ≡ false
  pub cast : (o k : ℕ) → q (what.Cast o k) ≡ false
  pub casted : (k : ℕ) → q (what.Casted k) ≡ false

-- none of these passes
abbrev pub NoneOf : (What → Bool) → List (ℕ × What) → Type 0
NoneOf q ps = AllByRecursion (λ p. q p.1 ≡ false) ps

pub none_of : (q : What → Bool) (o : ℕ) (x : Letter) (now : List (ℕ × Letter)) → q x.tag.what ≡ true → NoneOf q (addressed now) → Among (IsTo o (λ y. y ≡ x)) now → ⊥
none_of q o x [] e h g = g
none_of q o x (p ∷ now) e h (inl is) = false≢true (sym h.0 ∙ ap (λ (y : Letter). q y.tag.what) is.1 ∙ e)
none_of q o x (p ∷ now) e h (inr g) = none_of q o x now e h.1 g

module _ (q : What → Bool) (rare : Rare q) where
  none_in : (ps : List (ℕ × What)) (now : List (ℕ × Letter)) → addressed now ≡ ps → NoneOf q ps → NoneOf q (addressed now)
  none_in ps now e h = subst (NoneOf q) (sym e) h

  completion_none : (w : What) → NoneOf q (completion w)
  completion_none (what.Visit o k d) = (rare.visited k, tt)
  completion_none (what.Cast o k) = (rare.casted k, tt)
  completion_none _ = tt

  token_none : (s : Script) (w : What) (from : ℕ) (load : Load) (now : List (ℕ × Letter)) → q w ≡ false → GoesOn s w from load now → NoneOf q (addressed now)
  token_none s w from load [] e h = tt
  token_none s w from load (p ∷ []) e (inl to) = (ap q to.token ∙ e, tt)
  token_none s w from load (p ∷ []) e (inr home) = none_in (completion w) (p ∷ []) home.completes (completion_none w)
  token_none s w from load (p ∷ r ∷ rest) e h = absurd h

  putselfs_none : (t : ℕ) (ds : List ℕ) → NoneOf q (map (λ d. (t, what.PutSelf d)) ds)
  putselfs_none t [] = tt
  putselfs_none t (d ∷ ds) = (rare.putself d, putselfs_none t ds)

  op_token : (t k : ℕ) (o : Option Op) (w : What) → elim o [ None ↦ None | Some x ↦ token_of_op t k x ] ≡ Some w → q w ≡ false
  op_token t k None w e = cc
  op_token t k (Some (op.Visit d)) w e = let is : what.Visit t k d ≡ w = cc in ap q (sym is) ∙ rare.visit t k d
  op_token t k (Some op.Each) w e = let is : what.Cast t k ≡ w = cc in ap q (sym is) ∙ rare.cast t k
  op_token t k (Some (op.Get d)) w e = cc
  op_token t k (Some (op.Put d)) w e = cc
  op_token t k (Some (op.Write d a b c)) w e = cc
  op_token t k (Some (op.Read d a b)) w e = cc
  op_token t k (Some (op.Flush d)) w e = cc
  op_token t k (Some (op.Wait d)) w e = cc
  op_token t k (Some (op.Unregister d)) w e = cc

  module _ (s : Script) (t : ℕ) (l : Log) where
    pub line_none : (past : List Step) (at k : ℕ) (a : Answer) (now : List (ℕ × Letter)) → SentByDid s t past (record { at = at; op = k; answer = a }) now → NoneOf q (addressed now)
    line_none past at k answer.Sent now h = none_in _ now h (one (image_at s t k))
      where
        one : (o : Option ℕ) → NoneOf q (option_to_list (option_map (λ d. (owner_of s d, what.Request k)) o))
        one None = tt
        one (Some d) = (rare.request k, tt)
    line_none past at k answer.Deferred now h = none_in _ now h (one (image_at s t k))
      where
        one : (o : Option ℕ) → NoneOf q (option_to_list (option_map (λ d. (t, what.PutSelf d)) o))
        one None = tt
        one (Some d) = (rare.putself d, tt)
    line_none past at k answer.Closed now h = none_in _ now h (putselfs_none t (referred s t past))
    line_none past at k answer.Started now h = token (token_of s t k) refl h
      where
        token : (o : Option What) → token_of s t k ≡ o → Sets s o now → NoneOf q (addressed now)
        token None e h = none_in [] now (ap addressed h) tt
        token (Some w) e h = token_none s w 0 (empty_load w) now (op_token t k (op_at s t k) w e) h
    line_none past at k _ now h = none_in [] now (ap addressed h) tt

    -- replies are the owners'
    module _ (replies : (k : ℕ) → is_owner s t ≡ true → q (what.Reply k) ≡ false) where
      ran_none : (past : List Step) (i sender number : ℕ) (v : What) (now : List (ℕ × Letter)) → SentByRan s t l past i (record { sender = sender; number = number; what = v }) now → NoneOf q (addressed now)
      ran_none past i sender number (what.Request k) now h = by (is_owner s t) refl h
        where
          by : (b : Bool) → is_owner s t ≡ b → Either b (Replies s t past (record { sender = sender; number = number; what = what.Request k }) k now) (now ≡ []) → NoneOf q (addressed now)
          by true e h = none_in _ now h.reply (replies k e, tt)
          by false e h = none_in [] now (ap addressed h) tt
      ran_none past i sender number (what.Visit o k d) now h = token_none s (what.Visit o k d) (t + 1) _ now (rare.visit o k d) h
      ran_none past i sender number (what.Cast o k) now h = token_none s (what.Cast o k) (t + 1) _ now (rare.cast o k) h
      ran_none past i sender number _ now h = none_in [] now (ap addressed h) tt

      pub step_none : (past : List Step) (x : Step) (now : List (ℕ × Letter)) → SentBy s t l past x now → NoneOf q (addressed now)
      step_none past (step.Did i x) now h = by (is_client s t) h
        where
          by : (b : Bool) → Either b (SentByDid s t past x now) (now ≡ []) → NoneOf q (addressed now)
          by true h = line_none past x.at x.op x.answer now h
          by false h = none_in [] now (ap addressed h) tt
      step_none past (step.Called i x) now h = none_in [] now (ap addressed h) tt
      step_none past (step.Ran i m) now h = ran_none past i m.sender m.number m.what now h
