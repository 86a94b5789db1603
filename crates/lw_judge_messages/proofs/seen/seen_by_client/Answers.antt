use Rattle.std.proofs.Common.{◌≡◌, ◌+◌, ◌++◌, ◌<◌, ◌^◌, [], ◌∷◌, Some, length, take, get_or, slice_get, sym, ap, subst, ◌∙◌, arith}
use Rattle.std.proofs.lemmas.Option.{slice_get-get_or, slice_get_past}
use Rattle.lw_base.specs.declared.message.Tag.{Tag}
use Rattle.lw_base.specs.declared.message.What.TheVariants as what
use Rattle.lw_model.specs.declared.record.ThreadRecord.{ThreadRecord}
use Rattle.lw_model.specs.Lawful.{seen_by}
use Rattle.lw_model.specs.Same.{both, is_same_seen}
use Rattle.lw_judge_threads.specs.AgainstAt.{IsAgainst}
use Rattle.lw_judge_messages.specs.SeenLines.{tests_behind}
use Rattle.lw_judge_messages.proofs.SeenTests.{tests_behind-few, tests_behind-other, tests_behind-push, client_least, seen_below}
use Rattle.lw_judge_threads.proofs.Threads.{listed_at}
use Rattle.lw_judge_threads.proofs.Wanted.{both_none}
use Rattle.lw_judge_messages.proofs.seen.seen_by_client.Goals as goal
use Rattle.lw_judge_messages.proofs.seen.seen_by_client.Goals.{then-is_completion, in-Some, in-None, else-is_completion}

-- what is read past the end
no_tag : Tag
no_tag = record { sender = 0; number = 0; what = what.Request 0 }

pub loop-tag-preserved : goal.loop-tag-preserved
unfolding no_tag
loop-tag-preserved c = λ runners marks.
    let r = c.args.of.now in
    let t = c.args.client in
    let ran = c.as_slice-tag-items.result.now in
    let seen = c.as_slice-seen.result.now in
    let i = c.loop-tag.tag-index in
    let tag = get_or ran i no_tag in
    let tests = tests_behind r t (take i ran) seen in
    let is = c.loop-tag.invariant runners marks in
    elim c.if-is_completion.branch [
      | then-is_completion w ↦
          let few : length tests + 1 < 2 ^ 64 = omega (arith, tests_behind-few r t ran i seen, c.loop-tag-test.true) in
          let stands : w.match-get.stands ≡ both is_same_seen (seen_by r t tag) (slice_get seen w.place.result) = elim w.match-get.branch [
            | in-Some x ↦ x.stands-is ∙ x.is_result-stands.ensures runners marks
                ∙ ap (both is_same_seen (seen_by r t tag)) (ap Some (x.in-Some.ensures.lookup.1) ∙ sym (slice_get-get_or seen w.place.result x.in-Some.line.now x.in-Some.ensures.lookup.3.0))
            | in-None x ↦ x.stands-is ∙ sym (ap (both is_same_seen (seen_by r t tag)) (slice_get_past seen w.place.result x.in-None.ensures.lookup.3) ∙ both_none is_same_seen (seen_by r t tag))
          ] in
          subst (IsAgainst (tests_behind r t (take (i + 1) ran) seen)) (sym w.against-is)
          (subst (λ bs. IsAgainst bs w.want.new.self)
          (ap (λ b. tests ++ b ∷ []) (stands ∙ ap (λ n. both is_same_seen (seen_by r t tag) (slice_get seen n)) (w.place.ensures tests is))
          ∙ sym (tests_behind-push r t ran i no_tag seen c.loop-tag-test.true (sym (c.is_completion.ensures r t) ∙ w.if-is_completion.true)))
          (w.want.ensures tests few is))
      | else-is_completion w ↦
          subst (IsAgainst (tests_behind r t (take (i + 1) ran) seen)) (sym w.against-is)
          (subst (λ bs. IsAgainst bs c.loop-tag.against)
          (sym (tests_behind-other r t ran i no_tag seen c.loop-tag-test.true (sym (c.is_completion.ensures r t) ∙ w.if-is_completion.false)))
          is)
    ]

pub returns : goal.returns
returns c = λ runners marks stands.
    let r = c.args.of.now in
    let t = c.args.client in
    let l = c.args.lines.now in
    let x = c.index-as_slice-client.result in
    let ran = c.as_slice-tag-items.result.now in
    let seen = c.as_slice-seen.result.now in
    let here = c.index-as_slice-client.is ∙ ap (λ xs. get_or xs t x) c.as_slice.ensures in
    let ran_is = c.as_slice-tag-items.ensures ∙ ap (λ (y : ThreadRecord). y.ran) here ∙ sym (listed_at (λ y. y.ran) r t x c.requires) in
    let seen_is = c.as_slice-seen.ensures ∙ ap (λ (y : ThreadRecord). y.seen) here ∙ sym (listed_at (λ y. y.seen) r t x c.requires) in
    client_least r t l ran c.loop-tag.tag-index seen c.line.result stands ran_is c.loop-tag-test.false seen_is
    (c.line.ensures (tests_behind r t (take c.loop-tag.tag-index ran) seen) (c.loop-tag.invariant runners marks) (seen_below r t l seen stands seen_is))
