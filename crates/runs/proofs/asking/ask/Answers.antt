use Rattle.std.proofs.Common.{[], ◌∷◌, ◌++◌, take, fold, sym, ap, ◌∙◌, subst}
use Rattle.std.proofs.lemmas.Slice.{pushed}
use Rattle.std.proofs.lemmas.List.Sums.{fold_more}
use Rattle.runs.specs.Replies.{replied, asked, replies}
use Rattle.runs.specs.Telling.{Tells}
use Rattle.runs.proofs.Lists.{replies_more}
use Rattle.runs.proofs.asking.ask.Goals as goal

pub loop-request-preserved : goal.loop-request-preserved
loop-request-preserved g c =
    let f = g.F.Filter in
    let own = f.settings c.args.engine.now.filter in
    let list = c.args.requests.now in
    let i = c.loop-request.request-index in
    let x = c.request-item.result in
    let is = c.request-item.is in
    let inv = c.loop-request.invariant in
    let h = c.loop-request-test.true in
    let t = c.reply-answer.ensures in record {
      settings = t.settings ∙ inv.settings;
      tells = λ start b k. subst (λ q. Tells f start q c.reply-answer.new.engine) (ap (asked (fold asked b (take i list))) is ∙ sym (fold_more asked b list i x h)) (t.tells start (fold asked b (take i list)) (inv.tells start b k));
      replies = λ start b k.
          let done = fold asked b (take i list) in
          pushed (c.reply-answer.result ∷ []) (inv.replies start b k) c.in_ok-push.was c.push.ensures.items
          ∙ ap (λ q. replies f own start b (take i list) ++ q ∷ []) (t.replied start done (inv.tells start b k) ∙ ap (λ q. replied f q start done x) inv.settings ∙ ap (replied f own start done) is)
          ∙ sym (replies_more f own start b list i x h);
    }
