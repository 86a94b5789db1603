-- What is known of a thread of two that has run and sent nothing, for calls of its body by hand.
use Rattle.std.proofs.Common.{◌≡◌, ℕ, ◌<◌, List, [], ◌∷◌, length, refl, subst, sym, Some}
use Rattle.lw_base.specs.declared.message.Tag.{Tag}
use Rattle.lw_thread.specs.Acts.{Known, ActsEnd, Post, blank}
use Rattle.lw_thread.specs.Calls.{AreOf, IsToRun, IsBack}

abbrev fresh : {L : Type 0} → Known L (Unit {0})
fresh = record { thread = 0; family = Some tt; ran = []; sent = [] ∷ [] ∷ [] }

module _ {M L : Type 0} where
  pub known_to_tick : (a : ActsEnd M) → a.threads ≡ 2 → a.ran ≡ 0 → (k : Known L (Unit {0})) × AreOf k a × (k.family ≡ Some tt)
  known_to_tick a threads ran = (fresh, record { threads = threads; ran = ran }, refl)

  pub known_to_run : (letter : M → L) (tag_of : L → Tag) (message : M) (a : ActsEnd M) → a.threads ≡ 2 → a.ran ≡ 0 → (tag_of (letter message)).sender < 2
      → (k : Known L (Unit {0})) × AreOf k a × IsToRun letter tag_of (λ (to : ℕ) (f : Unit {0}) (m : M). Unit {0}) k message × (k.family ≡ Some tt)
  known_to_run letter tag_of message a threads ran sender = (fresh, record { threads = threads; ran = ran }, record { its_ring = tt; sender = sender }, refl)

  pub known_to_return : (letter : M → L) (marked : L → ℕ → ℕ → L) (to : ℕ) (message : M) (a : ActsEnd M) → a.threads ≡ 2 → a.ran ≡ 0 → to < 2 → letter message ≡ blank marked (letter message)
      → (k : Known L (Unit {0})) × (rest : List (Post L)) × AreOf k a × IsBack letter marked (λ (to : ℕ) (f : Unit {0}) (m : M). Unit {0}) k to message × (k.family ≡ Some tt)
  known_to_return letter marked to message a threads ran within blank = (fresh, [], record { threads = threads; ran = ran }, record { its_ring = tt; in_range = within; blank = blank }, refl)
