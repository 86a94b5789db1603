use Rattle.std.proofs.Common.{rules, ◌≡◌, ◌<◌, List, ◌++◌, length, map, get_or, sym, ap, ◌∙◌, subst, arith, length-append}
use Rattle.std.proofs.lemmas.List.{length-map}
use Rattle.lw_ring.specs.declared.settling.Pair.{Pair}
use Rattle.lw_ring.specs.Ends.{Receiver}
use Rattle.lw_base.specs.Letters.{sent_by, list_at, Numbered}
use Rattle.lw_ring.specs.Settling.{all_sent, whole}
use Rattle.lw_ring.proofs.Counts.{sent_by-append}
use Rattle.lw_ring.proofs.Settles.{kept, whole_at, pair_is}
use Rattle.lw_ring.proofs.settling.settle.Goals as goal

pub discount-requires-clause-enough : goal.discount-requires-clause-enough
discount-requires-clause-enough g c = λ k d l.
    let letter = g.T.Tagged.letter in
    let tag_of = g.T.Tagged.tag_of in
    let R : Type 0 = Receiver g.row.T-Letter.Denot g.row.T-Family.Denot in
    let sent : List (List g.row.T-Letter.Denot) = all_sent c.args.ends.items in
    let left = c.in_ok-recv-2.left.items in
    let is : c.as_mut_slice.result.now ≡ map whole sent = c.as_mut_slice.ensures.value ∙ c.in_ok-recv.ensures.counts in
    let size = ap length is ∙ length-map sent whole in
    let inside : k < length sent = omega arith in
    let pair = ap (λ ps. get_or ps k d) is ∙ whole_at sent k d inside in
    let run = ap (λ (p : Pair). p.run) pair in
    let known : sent_by tag_of k (c.in_ok-recv.recv.taken ++ map letter left) ≡ list_at sent k = c.in_ok-recv-2.ensures.each k ∙ ap (λ (r : R). list_at r.known k) c.in_ok-recv.ensures.recv in
    let sum = ap length (sym (sent_by-append tag_of k c.in_ok-recv.recv.taken (map letter left)) ∙ known) in
    let parts = length-append (sent_by tag_of k c.in_ok-recv.recv.taken) (sent_by tag_of k (map letter left)) in
    let view : length (sent_by tag_of k (map letter c.as_slice.result.now)) ≡ length (sent_by tag_of k (map letter left)) = ap (λ xs. length (sent_by tag_of k (map letter xs))) c.as_slice.ensures.value in
    omega arith

pub returns-clause-senders : goal.returns-clause-senders
returns-clause-senders g c =
    let sent : List (List g.row.T-Letter.Denot) = all_sent c.args.ends.items in
    let is : c.as_mut_slice.result.now ≡ map whole sent = c.as_mut_slice.ensures.value ∙ c.in_ok-recv.ensures.counts in
    let size = ap length is ∙ length-map sent whole in
    let all = length-map c.args.ends.items (λ e. e.sent) in
    let few = c.requires.all.count in
    let new = c.discount.new.counts in
    let same : length new ≡ length c.as_mut_slice.result.now = c.discount.auto.counts in
    let before = ap length c.as_mut_slice.ensures.value in
    let counts_len : c.in_ok-recv.counts.len ≡ length c.in_ok-recv.counts.items = search rules in
    let whole_row = kept new c.in_ok-recv.counts.items c.in_ok-recv.counts.len (omega arith) (omega arith) in
    let n = ap length whole_row in
    omega arith

pub returns-clause-counts : goal.returns-clause-counts
returns-clause-counts g c =
    let letter = g.T.Tagged.letter in
    let tag_of = g.T.Tagged.tag_of in
    let R : Type 0 = Receiver g.row.T-Letter.Denot g.row.T-Family.Denot in
    let sent : List (List g.row.T-Letter.Denot) = all_sent c.args.ends.items in
    let left = c.in_ok-recv-2.left.items in
    let is : c.as_mut_slice.result.now ≡ map whole sent = c.as_mut_slice.ensures.value ∙ c.in_ok-recv.ensures.counts in
    let size = ap length is ∙ length-map sent whole in
    let all = length-map c.args.ends.items (λ e. e.sent) in
    let few = c.requires.all.count in
    let new = c.discount.new.counts in
    let same : length new ≡ length c.as_mut_slice.result.now = c.discount.auto.counts in
    let before = ap length c.as_mut_slice.ensures.value in
    let counts_len : c.in_ok-recv.counts.len ≡ length c.in_ok-recv.counts.items = search rules in
    let whole_row = kept new c.in_ok-recv.counts.items c.in_ok-recv.counts.len (omega arith) (omega arith) in λ k d l.
    (let inside : k < length c.as_mut_slice.result.now = omega arith in
    let inside' : k < length sent = omega arith in
    let pair = ap (λ ps. get_or ps k d) is ∙ whole_at sent k d inside' in
    let off = c.discount.ensures k d inside in
    let taken : c.in_ok-recv.recv.taken ≡ c.args.recv.taken = ap (λ (r : R). r.taken) c.in_ok-recv.ensures.recv in
    let known : sent_by tag_of k (c.in_ok-recv.recv.taken ++ map letter left) ≡ list_at sent k = c.in_ok-recv-2.ensures.each k ∙ ap (λ (r : R). list_at r.known k) c.in_ok-recv.ensures.recv in
    let sum = ap length (sym (sent_by-append tag_of k c.in_ok-recv.recv.taken (map letter left)) ∙ known) in
    let parts = length-append (sent_by tag_of k c.in_ok-recv.recv.taken) (sent_by tag_of k (map letter left)) in
    let view : length (sent_by tag_of k (map letter c.as_slice.result.now)) ≡ length (sent_by tag_of k (map letter left)) = ap (λ xs. length (sent_by tag_of k (map letter xs))) c.as_slice.ensures.value in
    let run = ap (λ (p : Pair). p.run) pair in
    let mine = ap (λ ls. length (sent_by tag_of k ls)) taken in
    let off_run = off.1 in
    ap (λ ps. get_or ps k d) whole_row ∙ pair_is (get_or new k d) (length (list_at sent k)) (length (sent_by tag_of k c.args.recv.taken)) (length (sent_by tag_of k (map letter left))) (off.0 ∙ ap (λ (p : Pair). p.sent) pair) (omega arith))

pub returns-clause-numbered : goal.returns-clause-numbered
returns-clause-numbered g c = λ k l.
    let R : Type 0 = Receiver g.row.T-Letter.Denot g.row.T-Family.Denot in
    let sent : List (List g.row.T-Letter.Denot) = all_sent c.args.ends.items in
    let all : c.in_ok-recv.recv.known ≡ sent = ap (λ (r : R). r.known) c.in_ok-recv.ensures.recv in
    let size = length-map c.args.ends.items (λ e. e.sent) in
    let same = ap length all in
    let count = c.requires.all.count in
    subst (λ ks. Numbered g.T.Tagged.tag_of k (list_at ks k)) all (c.in_ok-recv.ensures.numbered k (omega arith))
