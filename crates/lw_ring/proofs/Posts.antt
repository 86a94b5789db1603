-- Each kind of step keeps the rule of the queue.
use Rattle.std.proofs.Common.{◌≡◌, ◌≢◌, ◌⊎◌, inl, inr, ℕ, zero, suc, ◌+◌, ◌<◌, ◌≤◌, true, false, true≢false, eqb, List, [], ◌∷◌, ◌++◌, map, length, set, Option, if◌then◌else◌, refl, sym, ap, ◌∙◌, subst, ⊎_elim, arith, append_assoc, length-append, length-set, get_or, All}
use Rattle.std.proofs.lemmas.List.{append-nil, map-append, length-map, nil_from_length}
use Rattle.std.proofs.lemmas.List.Elements.{All-nil, All-append}
use mathlib.Core.Option.{some, some-injective, some-ne-none}
use mathlib.Core.Logic.{dite}
use native.Mathlib.Decide.{ℕ_discrete, dec_le}
use lib.ListN.{get_elem?}
use Rattle.crossbeam_queue.specs.Fifo.{Pushes, Pops, Forks, Merges, Learns}
use Rattle.crossbeam_queue.proofs.Lists.{at_set}
use Rattle.lw_base.specs.declared.message.Tag.{Tag}
use Rattle.lw_ring.specs.declared.queue.PassView.{PassView}
use Rattle.lw_base.specs.Letters.{sent_by, list_at, FitsRing}
use Rattle.lw_ring.specs.declared.parcel.Parcel.{Parcel}
use Rattle.lw_latch.specs.RingWord.{most_sent, most_senders, above_all_sent}
use Rattle.lw_ring.specs.Queue.{contents, unpacked, fresh, spent, receiver, one_more, the_next, with_sender, with_put, with_got, Facts, FitsView, Posted, Keeps, Delivers, AllFit, Sends, Takes, Saw}
use Rattle.lw_ring.proofs.Counts.{choose_yes, choose_no, sent_by-append, sent_by-mine, sent_by-others, senders_below, All-front, All-back, below, below_at_most, below_same, counted}

off : {X : Type 0} → false ≡ true → X
off {X} e = absurd (true≢false (sym e))

at_end : {X : Type 0} (l : List X) (a b : X) (j : ℕ) → get_elem? (l ++ a ∷ []) j ≡ some b → (get_elem? l j ≡ some b) ⊎ ((j ≡ length l) × (a ≡ b))
at_end [] a b zero e = inr (refl, some-injective a b e)
at_end [] a b (suc j) e = absurd (some-ne-none b (sym e))
at_end (x ∷ xs) a b zero e = inl e
at_end (x ∷ xs) a b (suc j) e = ⊎_elim (λ l. inl l) (λ (t : (j ≡ length xs) × (a ≡ b)). inr (ap suc t.0, t.1)) (at_end xs a b j e)

past : {X : Type 0} (l : List X) (i : ℕ) (a : X) → get_elem? l i ≡ some a → i < length l
past [] i a e = absurd (some-ne-none a (sym e))
past (x ∷ xs) zero a e = omega arith
past (x ∷ xs) (suc i) a e = let r = past xs i a e in omega arith

-- f, but x at k
but : {X : Type 0} → (ℕ → X) → ℕ → X → ℕ → X
but f k x p = if eqb p k then x else f p

but_here : {X : Type 0} (f : ℕ → X) (k : ℕ) (x : X) (p : ℕ) → p ≡ k → but f k x p ≡ x
unfolding but
but_here {X} f k x p e = choose_yes p k x (f p) e

but_else : {X : Type 0} (f : ℕ → X) (k : ℕ) (x : X) (p : ℕ) → p ≢ k → but f k x p ≡ f p
unfolding but
but_else {X} f k x p n = choose_no p k x (f p) n

pub at_last : {L : Type 0} (xs : List (List L)) (y : List L) (k : ℕ) → k ≡ length xs → list_at (xs ++ y ∷ []) k ≡ y
at_last [] y zero e = refl
at_last [] y (suc k) e = absurd (omega arith)
at_last (x ∷ xs) y zero e = absurd (omega arith)
at_last (x ∷ xs) y (suc k) e = at_last xs y k (omega arith)

pub at_front : {L : Type 0} (xs : List (List L)) (y : List L) (k : ℕ) → k < length xs → list_at (xs ++ y ∷ []) k ≡ list_at xs k
at_front [] y k l = absurd (omega arith)
at_front (x ∷ xs) y zero l = refl
at_front (x ∷ xs) y (suc k) l = at_front xs y k (omega arith)

at_past : {L : Type 0} (xs : List (List L)) (k : ℕ) → length xs ≤ k → list_at xs k ≡ []
at_past [] k l = refl
at_past (x ∷ xs) zero l = absurd (omega arith)
at_past (x ∷ xs) (suc k) l = at_past xs k (omega arith)

module _ {T L F : Type 0} (letter : T → L) (tag_of : L → Tag) (fits : ℕ → F → T → Type 0) where
  abbrev V : Type 0
  V = PassView L F

  abbrev H : List T → List V → Type 0
  H = Keeps letter tag_of fits

  -- the same over parcels
  abbrev D : List (Parcel T) → List V → Type 0
  D = Delivers letter tag_of fits

  abbrev P : List T → List V → Type 0
  P = Posted letter tag_of fits

  abbrev FR : ℕ → Option F → T → Type 0
  FR = FitsRing fits

  -- where the pass is not the first one, the ring is made
  made : (items : List T) (views : List V) (i : ℕ) (v : V) → H items views → get_elem? views i ≡ some v → v.fresh ≡ false → P items views
  made items views i v (inr h) here old = h
  made items views i v (inl u) here old = absurd (only i (ap (λ l. get_elem? l i) (sym u.first) ∙ here))
    where
      only : (j : ℕ) → get_elem? (fresh {L = L} {F = F} ∷ []) j ≡ some v → ⊥
      only zero e = true≢false (ap (λ (w : V). w.fresh) (some-injective fresh v e) ∙ old)
      only (suc j) e = some-ne-none v (sym e)

  pub begins : D [] (fresh ∷ [])
  begins = inl (record { empty = refl; first = refl })

  all_set : (f : Facts L F) (views : List V) (i : ℕ) (w : V) → FitsView f i w → ((j : ℕ) (u : V) → j ≢ i → get_elem? views j ≡ some u → FitsView f j u) → (j : ℕ) (u : V) → get_elem? (set views i w) j ≡ some u → FitsView f j u
  all_set f views i w mine others j u e = ⊎_elim (λ (x : (j ≡ i) × (w ≡ u)). subst (λ (y : ℕ × V). FitsView f y.0 y.1) (λ k. (sym x.0 k, x.1 k)) mine)
      (λ (x : (j ≢ i) × (get_elem? views j ≡ some u)). others j u x.0 x.1) (at_set views i j w u e)

  all_set_but : (f : Facts L F) (views : List V) (i : ℕ) (w : V) (k : ℕ) → FitsView f i w → ((j : ℕ) (u : V) → j ≢ i → j ≢ k → get_elem? views j ≡ some u → FitsView f j u) → (j : ℕ) (u : V) → j ≢ k → get_elem? (set views i w) j ≡ some u → FitsView f j u
  all_set_but f views i w k mine others j u far e = ⊎_elim (λ (x : (j ≡ i) × (w ≡ u)). subst (λ (y : ℕ × V). FitsView f y.0 y.1) (λ k. (sym x.0 k, x.1 k)) mine)
      (λ (x : (j ≢ i) × (get_elem? views j ≡ some u)). others j u x.0 far x.1) (at_set views i j w u e)

  -- the ring is made, with no sender yet
  founded : (number : ℕ) (family : Option F) → P [] (receiver number family 0 ∷ spent ∷ [])
  founded number family = record {
    facts = record { reader = 0; pass_of = λ _. 0; sent = λ _. []; got = []; number = number; family = family };
    delivered = λ p. refl;
    short = λ p. omega arith;
    fitting = All-nil (FR number family);
    each = fit;
  }
    where
      fit : (i : ℕ) (v : V) → get_elem? (receiver number family 0 ∷ spent ∷ []) i ≡ some v → FitsView (record { reader = 0; pass_of = λ _. 0; sent = λ _. []; got = []; number = number; family = family }) i v
      fit zero v e = subst (FitsView (record { reader = 0; pass_of = λ _. 0; sent = λ _. []; got = []; number = number; family = family }) 0) (some-injective _ v e) (record {
        not_fresh = refl;
        as_sender = λ s. off s;
        as_receiver = λ _. record { its_pass = refl; alone = refl; got = refl; number = refl; family = refl; later = λ p l. (refl, refl); known = λ k l. absurd (omega arith); few = omega arith; taken_in = omega arith };
      })
      fit (suc zero) v e = subst (FitsView (record { reader = 0; pass_of = λ _. 0; sent = λ _. []; got = []; number = number; family = family }) 1) (some-injective _ v e) (record { not_fresh = refl; as_sender = λ s. off s; as_receiver = λ g. off g })
      fit (suc (suc i)) v e = absurd (some-ne-none v (sym e))

  founding : (pass : ℕ) (v : V) (number : ℕ) (family : Option F) → v ≡ fresh → Forks H pass v (receiver number family 0) spent
  founding pass v number family is items views (inr h) here = absurd (true≢false (sym (ap (λ (w : V). w.fresh) is) ∙ (h.each pass v here).not_fresh))
  founding pass v number family is items views (inl u) here = inr (subst (λ (y : List T × List V). P y.0 (set y.1 pass (receiver number family 0) ++ spent ∷ [])) (λ i. (sym u.empty i, sym u.first i)) (go pass (ap (λ l. get_elem? l pass) (sym u.first) ∙ here)))
    where
      go : (j : ℕ) → get_elem? (fresh {L = L} {F = F} ∷ []) j ≡ some v → P [] (set (fresh ∷ []) j (receiver number family 0) ++ spent ∷ [])
      go zero e = founded number family
      go (suc j) e = absurd (some-ne-none v (sym e))

  -- one more sender
  dealing : (pass : ℕ) (v : V) → v.fresh ≡ false → v.gets ≡ true → v.made < most_senders → Forks H pass v (one_more v) (the_next v)
  dealing pass v old gets room items views h0 here =
      let h = made items views pass v h0 here old in
      let f = h.facts in
      let mine = (h.each pass v here).as_receiver gets in
      let w : V = one_more v in
      let vs : List V = set views pass w in
      let g : Facts L F = record f { pass_of = but f.pass_of v.made (length vs) } in
      let pass_else = but_else f.pass_of v.made (length vs) in
      let w_fits : FitsView g pass w = record {
        not_fresh = old;
        as_sender = λ s. off (sym mine.alone ∙ s);
        as_receiver = λ _. record {
          its_pass = mine.its_pass;
          alone = mine.alone;
          got = mine.got;
          number = mine.number;
          family = mine.family;
          later = λ p l. (pass_else p (λ e. omega arith) ∙ (mine.later p (omega arith)).0, (mine.later p (omega arith)).1);
          known = λ k l. (let t = mine.taken_in in pass_else k (λ e. omega arith) ∙ (mine.known k l).0, (mine.known k l).1);
          few = omega arith;
          taken_in = (let t = mine.taken_in in omega arith);
        };
      } in
      let others : (j : ℕ) (u : V) → j ≢ pass → get_elem? views j ≡ some u → FitsView g j u = λ j u apart e. (let o = h.each j u e in record {
        not_fresh = o.not_fresh;
        as_sender = λ s. (let q = o.as_sender s in record { its_pass = pass_else u.from (λ same. q.apart (sym q.its_pass ∙ ap f.pass_of same ∙ (mine.later v.made (omega arith)).0)) ∙ q.its_pass; apart = q.apart; put = q.put; number = q.number; family = q.family });
        as_receiver = λ s. absurd (apart ((o.as_receiver s).its_pass ∙ sym mine.its_pass));
      }) in
      let next : FitsView g (length vs) (the_next v) = record {
        not_fresh = refl;
        as_sender = λ _. record {
          its_pass = but_here f.pass_of v.made (length vs) v.made refl;
          apart = (let r = past views pass v here in λ e. (let same = mine.its_pass in let long = length-set views pass w in omega arith));
          put = sym (mine.later v.made (omega arith)).1;
          number = mine.number;
          family = mine.family;
        };
        as_receiver = λ s. off s;
      } in
      inr (record {
        facts = g;
        delivered = h.delivered;
        short = h.short;
        fitting = h.fitting;
        each = λ j u e. ⊎_elim (λ was. all_set g views pass w w_fits others j u was) (λ (t : (j ≡ length vs) × (the_next v ≡ u)). subst (λ (y : ℕ × V). FitsView g y.0 y.1) (λ i. (sym t.0 i, t.1 i)) next) (at_end vs (the_next v) u j e);
      })

  -- messages go to the back
  posting : (pass : ℕ) (v : V) (xs : List T) → v.fresh ≡ false → v.sends ≡ true → All (λ x. (tag_of (letter x)).sender ≡ v.from) xs → All (FR v.number v.family) xs → length v.put + length xs ≤ most_sent
      → (items : List T) (views : List V) → H items views → get_elem? views pass ≡ some v → H (items ++ xs) (set views pass (with_put v (map letter xs)))
  posting pass v xs old sends names fit room items views h0 here =
      let h = made items views pass v h0 here old in
      let f = h.facts in
      let mine = (h.each pass v here).as_sender sends in
      let ls : List L = map letter xs in
      let w : V = with_put v ls in
      let k : ℕ = v.from in
      let more : List L = f.sent k ++ ls in
      let g : Facts L F = record f { sent = but f.sent k more } in
      let here_now : (p : ℕ) → p ≡ k → g.sent p ≡ more = but_here f.sent k more in
      let as_was : (p : ℕ) → p ≢ k → g.sent p ≡ f.sent p = but_else f.sent k more in
      let whole : List L = f.got ++ map letter items in
      let longer : (p : ℕ) → sent_by tag_of p (f.got ++ map letter (items ++ xs)) ≡ f.sent p ++ sent_by tag_of p ls = λ p.
      ap (λ ys. sent_by tag_of p (f.got ++ ys)) (map-append letter items xs) ∙ ap (sent_by tag_of p) (sym (append_assoc f.got (map letter items) ls)) ∙ sent_by-append tag_of p whole ls ∙ ap (λ ys. ys ++ sent_by tag_of p ls) (h.delivered p) in
      let fit_f : All (FR f.number f.family) xs = subst (λ (y : ℕ × Option F). All (FR y.0 y.1) xs) (λ i. (mine.number i, mine.family i)) fit in
      let size = ap length mine.put in
      inr (record {
        facts = g;
        delivered = λ p. dite (ℕ_discrete p k)
            (λ e. longer p ∙ ap (λ ys. f.sent p ++ ys) (sent_by-mine letter tag_of p xs (subst (λ q. All (λ x. (tag_of (letter x)).sender ≡ q) xs) (sym e) names)) ∙ ap (λ q. f.sent q ++ ls) e ∙ sym (here_now p e))
            (λ n. longer p ∙ ap (λ ys. f.sent p ++ ys) (sent_by-others letter tag_of p k xs n names) ∙ append-nil (f.sent p) ∙ sym (as_was p n));
        short = λ p. dite (ℕ_discrete p k)
            (λ e. subst (λ ys. length ys ≤ most_sent) (sym (here_now p e)) (let len = length-append (f.sent k) ls in let long = length-map xs letter in omega arith))
            (λ n. subst (λ ys. length ys ≤ most_sent) (sym (as_was p n)) (h.short p));
        fitting = All-append (FR f.number f.family) items xs h.fitting fit_f;
        each = all_set g views pass w (record {
          not_fresh = old;
          as_sender = λ _. record { its_pass = mine.its_pass; apart = mine.apart; put = ap (λ ys. ys ++ ls) mine.put ∙ sym (here_now k refl); number = mine.number; family = mine.family };
          as_receiver = λ s. off (sym ((h.each pass v here).as_receiver s).alone ∙ sends);
        })
            (λ j u apart e. (let o = h.each j u e in record {
              not_fresh = o.not_fresh;
              as_sender = λ s. (let q = o.as_sender s in record { its_pass = q.its_pass; apart = q.apart; put = q.put ∙ sym (as_was u.from (λ same. apart (sym q.its_pass ∙ ap f.pass_of same ∙ mine.its_pass))); number = q.number; family = q.family });
              as_receiver = λ s. (let q = o.as_receiver s in record {
                its_pass = q.its_pass;
                alone = q.alone;
                got = q.got;
                number = q.number;
                family = q.family;
                later = λ p le. ((q.later p le).0, as_was p (λ same. mine.apart (sym mine.its_pass ∙ ap f.pass_of (sym same) ∙ (q.later p le).0)) ∙ (q.later p le).1);
                known = λ p lt. ((q.known p lt).0, (q.known p lt).1 ∙ sym (as_was p (λ same. mine.apart (sym mine.its_pass ∙ ap f.pass_of (sym same) ∙ (q.known p lt).0))));
                few = q.few;
                taken_in = q.taken_in;
              });
            }));
      })

  -- messages come from the front
  taking : (pass : ℕ) (v : V) (xs : List T) → v.fresh ≡ false → v.gets ≡ true → (items : List T) (views : List V) → H (xs ++ items) views → get_elem? views pass ≡ some v
      → H items (set views pass (with_got v (map letter xs))) × AllFit letter tag_of fits v.number v.family v.made xs × (length (v.got ++ map letter xs) < above_all_sent)
  taking pass v xs old gets items views h0 here =
      let h = made (xs ++ items) views pass v h0 here old in
      let f = h.facts in
      let mine = (h.each pass v here).as_receiver gets in
      let ls : List L = map letter xs in
      let w : V = with_got v ls in
      let g : Facts L F = record f { got = f.got ++ ls } in
      let whole : List L = f.got ++ map letter (xs ++ items) in
      let split : whole ≡ (f.got ++ ls) ++ map letter items = ap (λ ys. f.got ++ ys) (map-append letter xs items) ∙ sym (append_assoc f.got ls (map letter items)) in
      let fit : All (FR f.number f.family) xs = All-front (FR f.number f.family) xs items h.fitting in
      let none : (p : ℕ) → v.made ≤ p → sent_by tag_of p ls ≡ [] = λ p le. nil_from_length (sent_by tag_of p ls)
      (let e = ap length (sym (ap (sent_by tag_of p) split) ∙ h.delivered p ∙ (mine.later p le).1) in
      let a = ap length (sent_by-append tag_of p (f.got ++ ls) (map letter items)) in
      let b = ap length (sent_by-append tag_of p f.got ls) in
      let c = length-append (sent_by tag_of p (f.got ++ ls)) (sent_by tag_of p (map letter items)) in
      let d = length-append (sent_by tag_of p f.got) (sent_by tag_of p ls) in omega arith) in
      let known : All (λ x. (tag_of (letter x)).sender < v.made) xs = senders_below letter tag_of v.made xs none in
      let size = counted tag_of v.made whole (λ p le. h.delivered p ∙ (mine.later p le).1) in
      let most = below_at_most v.made (λ p. length (sent_by tag_of p whole)) (λ p. subst (λ ys. length ys ≤ most_sent) (sym (h.delivered p)) (h.short p)) in
      let front = ap length split ∙ length-append (f.got ++ ls) (map letter items) in
      let same = ap (λ ys. length (ys ++ ls)) mine.got in
      let few = mine.few in (
        inr (record {
          facts = g;
          delivered = λ p. ap (sent_by tag_of p) (sym split) ∙ h.delivered p;
          short = h.short;
          fitting = All-back (FR f.number f.family) xs items h.fitting;
          each = all_set g views pass w (record {
            not_fresh = old;
            as_sender = λ s. off (sym mine.alone ∙ s);
            as_receiver = λ _. record { its_pass = mine.its_pass; alone = mine.alone; got = ap (λ ys. ys ++ ls) mine.got; number = mine.number; family = mine.family; later = mine.later; known = mine.known; few = mine.few; taken_in = mine.taken_in };
          })
              (λ j u apart e. (let o = h.each j u e in record {
                not_fresh = o.not_fresh;
                as_sender = λ s. (let q = o.as_sender s in record { its_pass = q.its_pass; apart = q.apart; put = q.put; number = q.number; family = q.family });
                as_receiver = λ s. absurd (apart ((o.as_receiver s).its_pass ∙ sym mine.its_pass));
              }));
        }),
        (λ k d l. (subst (λ (y : ℕ × Option F). FR y.0 y.1 (get_or xs k d)) (λ i. (sym mine.number i, sym mine.family i)) (fit k d l), known k d l)),
        omega arith,
      )

  -- the receiver takes in the next sender
  joining : (pass : ℕ) (v : V) (other : ℕ) (u : V) → v.fresh ≡ false → v.gets ≡ true → u.sends ≡ true → u.from ≡ length v.known → Merges H pass v other u (with_sender v u) spent
  joining pass v other u old gets sends next items views h0 here apart there =
      let h = made items views pass v h0 here old in
      let f = h.facts in
      let mine = (h.each pass v here).as_receiver gets in
      let w : V = with_sender v u in
      let vs : List V = set views pass w in
      let was : get_elem? views other ≡ some u = ⊎_elim (λ (x : (other ≡ pass) × (w ≡ u)). absurd (apart x.0)) (λ (x : (other ≢ pass) × (get_elem? views other ≡ some u)). x.1) (at_set views pass other w u there) in
      let theirs = (h.each other u was).as_sender sends in
      let g : Facts L F = record f { pass_of = but f.pass_of u.from f.reader } in
      let pass_here : (p : ℕ) → p ≡ u.from → g.pass_of p ≡ f.reader = but_here f.pass_of u.from f.reader in
      let pass_else : (p : ℕ) → p ≢ u.from → g.pass_of p ≡ f.pass_of p = but_else f.pass_of u.from f.reader in
      let kept : (p : ℕ) → f.pass_of p ≡ f.reader → g.pass_of p ≡ f.reader = λ p e. dite (ℕ_discrete p u.from) (pass_here p) (λ n. pass_else p n ∙ e) in
      let is_made : u.from < v.made = dite (dec_le v.made u.from) (λ le. absurd (theirs.apart (sym theirs.its_pass ∙ (mine.later u.from le).0))) (λ nle. omega arith) in
      let longer = length-append v.known (u.put ∷ []) in
      let w_fits : FitsView g pass w = record {
        not_fresh = old;
        as_sender = λ s. off (sym mine.alone ∙ s);
        as_receiver = λ _. record {
          its_pass = mine.its_pass;
          alone = mine.alone;
          got = mine.got;
          number = mine.number;
          family = mine.family;
          later = λ p le. (kept p (mine.later p le).0, (mine.later p le).1);
          known = λ k lt. dite (ℕ_discrete k (length v.known))
              (λ e. (pass_here k (e ∙ sym next), at_last v.known u.put k e ∙ theirs.put ∙ ap f.sent (next ∙ sym e)))
              (λ n. (let lt' : k < length v.known = omega arith in (kept k (mine.known k lt').0, at_front v.known u.put k lt' ∙ (mine.known k lt').1)));
          few = mine.few;
          taken_in = omega arith;
        };
      } in
      let middle : (j : ℕ) (y : V) → j ≢ other → get_elem? vs j ≡ some y → FitsView g j y = λ j y far e. all_set_but g views pass w other w_fits
      (λ i z i_apart i_far e'. (let o = h.each i z e' in record {
        not_fresh = o.not_fresh;
        as_sender = λ s. (let q = o.as_sender s in record { its_pass = pass_else z.from (λ same. i_far (sym q.its_pass ∙ ap f.pass_of same ∙ theirs.its_pass)) ∙ q.its_pass; apart = q.apart; put = q.put; number = q.number; family = q.family });
        as_receiver = λ s. absurd (i_apart ((o.as_receiver s).its_pass ∙ sym mine.its_pass));
      })) j y far e in
      inr (record {
        facts = g;
        delivered = h.delivered;
        short = h.short;
        fitting = h.fitting;
        each = all_set g vs other spent (record { not_fresh = refl; as_sender = λ s. off s; as_receiver = λ s. off s }) middle;
      })

  -- The steps on parcels.

  unpacked-push : (parcels : List (Parcel T)) (x : Parcel T) → unpacked (parcels ++ x ∷ []) ≡ unpacked parcels ++ contents x
  unpacked-push [] x = append-nil (contents x)
  unpacked-push (y ∷ ys) x = ap (λ l. contents y ++ l) (unpacked-push ys x) ∙ sym (append_assoc (contents y) (unpacked ys) (contents x))

  pub takes_in : (pass : ℕ) (v : V) (other : ℕ) (u : V) → v.fresh ≡ false → v.gets ≡ true → u.sends ≡ true → u.from ≡ length v.known → Merges D pass v other u (with_sender v u) spent
  takes_in pass v other u old gets sends next parcels views h here apart there = joining pass v other u old gets sends next (unpacked parcels) views h here apart there

  pub founds : (pass : ℕ) (v : V) (number : ℕ) (family : Option F) → v ≡ fresh → Forks D pass v (receiver number family 0) spent
  founds pass v number family is parcels views h here = founding pass v number family is (unpacked parcels) views h here

  pub deals : (pass : ℕ) (v : V) → v.fresh ≡ false → v.gets ≡ true → v.made < most_senders → Forks D pass v (one_more v) (the_next v)
  deals pass v old gets room parcels views h here = dealing pass v old gets room (unpacked parcels) views h here

  pub posts : (n pass : ℕ) (v : V) (x : Parcel T) → v.fresh ≡ false → v.sends ≡ true → All (λ y. (tag_of (letter y)).sender ≡ v.from) (contents x) → All (FR v.number v.family) (contents x) → length v.put + length (contents x) ≤ most_sent
      → Pushes D n pass v x (Sends letter v x)
  posts n pass v x old sends names fit room parcels views _ h here = (
    with_put v (map letter (contents x)),
    subst (λ ys. H ys (set views pass (with_put v (map letter (contents x))))) (sym (unpacked-push parcels x)) (posting pass v (contents x) old sends names fit room (unpacked parcels) views h here),
    refl,
  )

  pub takes : (pass : ℕ) (v : V) → v.fresh ≡ false → v.gets ≡ true → Pops D pass v (Takes letter tag_of fits v)
  takes pass v old gets x parcels views h here =
      let t = taking pass v (contents x) old gets (unpacked parcels) views h here in
      (with_got v (map letter (contents x)), t.0, record { view = refl; fitting = t.1; short = t.2 })

  pub sees : (pass : ℕ) (v : V) → Learns D pass v (Saw letter tag_of fits v)
  sees pass v items views h here = record { views = views; pass = pass; rule = h; here = here }

  -- with all senders taken in and nothing left, what was taken of each is what it sent
  pub settled : (v : V) → v.fresh ≡ false → v.gets ≡ true → length v.known ≡ v.made → Saw letter tag_of fits v [] → ((p : ℕ) → sent_by tag_of p v.got ≡ list_at v.known p) × (length v.got ≡ below v.made (λ p. length (list_at v.known p)))
  settled v old gets all saw =
      let h = made [] saw.views saw.pass v saw.rule saw.here old in
      let f = h.facts in
      let mine = (h.each saw.pass v saw.here).as_receiver gets in
      let each : (p : ℕ) → sent_by tag_of p v.got ≡ f.sent p = λ p. ap (sent_by tag_of p) (mine.got ∙ sym (append-nil f.got)) ∙ h.delivered p in
      let knows : (p : ℕ) → f.sent p ≡ list_at v.known p = λ p. dite (dec_le v.made p) (λ le. (mine.later p le).1 ∙ sym (at_past v.known p (omega arith))) (λ nle. sym (mine.known p (omega arith)).1) in
      let size = counted tag_of v.made v.got (λ p le. each p ∙ (mine.later p le).1) in
      ((λ p. each p ∙ knows p), size ∙ below_same v.made (λ p. length (list_at v.known p)) (λ p. length (sent_by tag_of p v.got)) (λ p _. ap length (each p ∙ knows p)))
