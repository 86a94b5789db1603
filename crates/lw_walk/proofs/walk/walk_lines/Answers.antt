use Rattle.std.specs.Prelude.{Vec}
use Rattle.std.specs.declared.alloc.Global.{Global}
use Rattle.std.proofs.Common.{ℕ, ◌≡◌, ◌∙◌, ◌++◌, [], Some, None, string_bytes, ap, sym}
use Rattle.std.specs.List.{filter_map}
use Rattle.lw_world.specs.World.{State, first_state}
use Rattle.lw_walk.specs.WalkForm.{bad_event, event_in, sizes_in}
use Rattle.lw_walk.specs.Walk.{answers, state_text}
use Rattle.lw_walk.proofs.Walks.{took, lines_few, bad_is, answer_is}
use Rattle.lw_walk.proofs.walk.walk_lines.Goals as goal

pub push_answers-requires-clause-few : goal.push_answers-requires-clause-few
push_answers-requires-clause-few c =
    let step = took sizes_in c.of-lines.result c.sizes.new.self c.in-Some.sizes c.in-Some.ensures.taken in
    lines_few c.args.bytes.now c.requires c.of-lines.result c.sizes.new.self c.in-Some.sizes c.of-lines.ensures step

pub returns-in-Some-2 : goal.returns-in-Some-2
returns-in-Some-2 c =
    let step = took sizes_in c.of-lines.result c.sizes.new.self c.in-Some.sizes c.in-Some.ensures.taken in
    let told : bad_event c.sizes.new.self.line c.sizes.new.self.lines ≡ c.in_ok-line.field-0 = c.in_ok-line.ensures.bad in
    bad_is c.args.bytes.now c.requires c.of-lines.result c.sizes.new.self c.in-Some.sizes c.of-lines.ensures step (Some c.in-Some-2.line) (told ∙ c.in-Some-2.is)

pub returns : goal.returns
returns c =
    let step = took sizes_in c.of-lines.result c.sizes.new.self c.in-Some.sizes c.in-Some.ensures.taken in
    let told : bad_event c.sizes.new.self.line c.sizes.new.self.lines ≡ c.in_ok-line.field-0 = c.in_ok-line.ensures.bad in
    let first : c.in_ok-world.world ≡ first_state c.in-Some.sizes.threads c.in-Some.sizes.reactors c.in-Some.sizes.devices = c.in_ok-world.ensures.first in
    let events = filter_map event_in c.sizes.new.self.lines in
    let empty : string_bytes c.new-out.result ≡ [] = c.new-out.ensures.bytes in
    let text : string_bytes c.push_answers.new.out ++ state_text c.push_answers.new.world ≡ string_bytes c.new-out.result ++ answers c.in_ok-world.world 1 events = c.in_ok-line.ensures.text c.in-None.is in
    let pushed : string_bytes c.push_state.new.out ≡ string_bytes c.push_answers.new.out ++ state_text c.push_answers.new.world = c.in_ok-push_state-in-None.ensures in
    let bytes : c.into_bytes.result.items ≡ string_bytes c.push_state.new.out = ap (λ (v : Vec ℕ Global). v.items) c.into_bytes.ensures.value in (
      bad_is c.args.bytes.now c.requires c.of-lines.result c.sizes.new.self c.in-Some.sizes c.of-lines.ensures step None (told ∙ c.in-None.is),
      bytes ∙ pushed ∙ text
          ∙ ap (λ b. b ++ answers c.in_ok-world.world 1 events) empty
          ∙ ap (λ (w : State). answers w 1 events) first
          ∙ sym (answer_is c.args.bytes.now c.requires c.of-lines.result c.sizes.new.self c.in-Some.sizes c.of-lines.ensures step),
    )
