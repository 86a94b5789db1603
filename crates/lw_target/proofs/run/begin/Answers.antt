use Rattle.std.proofs.Common.{◌≡◌, [], ◌∷◌, ap, ◌∙◌}
use Rattle.lw_target.specs.declared.channel.Channel.{Channel}
use Rattle.lw_target.proofs.Beginning.{kept_nothing}
use Rattle.lw_target.proofs.Starting.{starts, unused_all, of_one, is_of, block_is, new_device}
use Rattle.lw_target.proofs.run.begin.Goals as goal

pub returns-clause-order : goal.returns-clause-order
returns-clause-order g c = λ s images clients.
    let client = c.in_ok-new-2.field-0 in
    let new = c.in_ok-new-2.ensures in
    let app = c.in_ok-new.ensures in
    let posts = c.in_ok-new-4.ensures.empty in
    let devices : c.in_ok-vec.field-0.items ≡ new_device ∷ [] = c.in_ok-vec.ensures.items_if_clones_equal (λ y e. e) ∙ ap (λ d. d ∷ []) c.new-5.ensures in
    let of = is_of s c.args.size.now c.args.of images clients client new.of new.thread new.first_owner new.channels in
    let all = unused_all s client c.in_ok-new.field-0 c.in_ok-image.image c.new-4.result.image _ _ _ c.in_ok-vec.field-0.items posts.0 posts.1 posts.2 (ap (λ o. o.image) c.new-4.ensures ∙ c.image.view_is)
    (starts s client c.in_ok-new.field-0 c.in_ok-image.image c.in_ok-vec.field-0.items devices (new.follows s of) (new.sent s) new.refused (new.agree s)
    (λ k found. ap (λ (j : Channel). j.pending) (kept_nothing client 0 k new.fresh found)) new.fresh.done new.fresh.replies new.fresh.unanswered
    app.clients app.fresh.0 app.fresh.1 app.fresh.2 app.nothing.0 app.nothing.1 app.nothing.2
    (block_is s c.args.size.now c.args.of images clients c.in_ok-image.image c.in_ok-image.ensures.size.0) c.in_ok-image.ensures.zeros) in
    record {
      of = of_one s c.args.size.now c.args.of images clients c.requires.serves;
      addressed = all.addressed;
      client = all.clients;
      sent = all.sent;
      answered = all.answered;
      app = all.apps;
    }
