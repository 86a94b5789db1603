-- An event under another name, and under its own again.
use Rattle.std.proofs.Common.{◌≡◌, ℕ, refl, sym, ap, subst, ◌∙◌}
use Rattle.lw_base.specs.Letters.{Names, FitsRing}
use Rattle.std.specs.Prelude.{Option, Some, None}
use Rattle.lw_thread.specs.Runs.{RunId}
use Rattle.lw_event.specs.Letters.{tag_in, with_name}
use Rattle.lw_event.specs.Events.{letter_of, named, event_fits}
use Rattle.lw_event.specs.declared.event.Event.{Event}
use Rattle.lw_event.specs.declared.event.Event.TheVariants.{Arrive, Order}

module _ {B M L F : Type 0} where
  named_names : (x : Event B M L F) (s n : ℕ) → Names (tag_in (letter_of (named x s n))) s n
  named_names (Arrive by count round id thread) s n = (refl, refl)
  named_names (Order by count round thread to) s n = (refl, refl)

  named_letter : (x : Event B M L F) (s n : ℕ) → letter_of (named x s n) ≡ with_name (letter_of x) s n
  named_letter (Arrive by count round id thread) s n = refl
  named_letter (Order by count round thread to) s n = refl

  named_back : (x : Event B M L F) (s n : ℕ) → named (named x s n) (tag_in (letter_of x)).sender (tag_in (letter_of x)).number ≡ x
  named_back (Arrive by count round id thread) s n = refl
  named_back (Order by count round thread to) s n = refl

  named_fits : (c : ℕ) (o : Option (RunId F)) (x : Event B M L F) (s n : ℕ) → FitsRing event_fits c o x → FitsRing event_fits c o (named x s n)
  named_fits c None x s n h = h
  named_fits c (Some run) (Arrive by count round id thread) s n h = h
  named_fits c (Some run) (Order by count round thread to) s n h = h

  pub names : (x y : Event B M L F) (s n : ℕ) → y ≡ named x s n → Names (tag_in (letter_of y)) s n
  names x y s n is = subst (λ z. Names (tag_in (letter_of z)) s n) (sym is) (named_names x s n)

  pub letter_is : (x y : Event B M L F) (s n : ℕ) → y ≡ named x s n → letter_of y ≡ with_name (letter_of x) s n
  letter_is x y s n is = ap letter_of is ∙ named_letter x s n

  pub still_fits : (c : ℕ) (o : Option (RunId F)) (x y : Event B M L F) (s n : ℕ) → y ≡ named x s n → FitsRing event_fits c o x → FitsRing event_fits c o y
  still_fits c o x y s n is h = subst (FitsRing event_fits c o) (sym is) (named_fits c o x s n h)

  -- it comes back under the name that it had
  pub back : (x y z w : Event B M L F) (s n a b : ℕ) → y ≡ named x s n → z ≡ y → w ≡ named z a b → a ≡ (tag_in (letter_of x)).sender → b ≡ (tag_in (letter_of x)).number → w ≡ x
  back x y z w s n a b is same again sender number = again ∙ (λ i. named ((same ∙ is) i) (sender i) (number i)) ∙ named_back x s n
