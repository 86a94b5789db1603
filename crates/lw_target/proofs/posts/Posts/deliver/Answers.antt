use Rattle.std.proofs.Common.{[], ◌∷◌, ap, arith, refl, ◌∙◌}
use Rattle.lw_target.specs.Messages.{waiting_work}
use Rattle.lw_target.proofs.Mails.{waiting_push}
use Rattle.lw_target.proofs.Carrying.{on_ok_all, owner_fits, asked_first}
use Rattle.lw_target.proofs.Letters.{posted_one, got_none, got_push, rest_post}
use Rattle.lw_target.proofs.posts.Posts.deliver.Goals as goal

pub returns-in_default : goal.returns-in_default
returns-in_default c =
    let post = rest_post c.args.out.to (λ e. omega (arith, e)) (λ e. omega (arith, e)) in
    on_ok_all c.push-in_default.result
    (λ waiting ran senders. record {
      app = got_none _ _ (posted_one 0 c.args.sender c.args.out 2 post);
      client = got_none _ _ (posted_one 1 c.args.sender c.args.out 2 post);
      owner = got_push _ _ _ _ waiting ran (posted_one 2 c.args.sender c.args.out 2 post);
      senders = λ s. (s.0, s.1, senders ∙ s.2);
      work = omega (arith, ap waiting_work waiting, waiting_push, asked_first (c.args.out ∷ []) [] c.args.out refl);
      fits = λ extent all one. owner_fits _ _ _ c.args.out extent waiting refl refl all one;
    })
    c.push-in_default.ensures.waiting c.push-in_default.ensures.ran c.push-in_default.ensures.senders
