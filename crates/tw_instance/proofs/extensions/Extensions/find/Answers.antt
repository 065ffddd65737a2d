use Rattle.std.proofs.Common.{Some, ap, sym, ◌∙◌}
use Rattle.tw_model.specs.Net.{path}
use Rattle.tw_instance.proofs.Finding.{is_path}
use Rattle.tw_instance.proofs.extensions.Extensions.find.Goals as goal

pub returns-clause-only : goal.returns-clause-only
returns-clause-only c net h is apart q e =
    let x = c.index.result.now in
    let at = c.in_ok-index.ensures.some net h is x c.index.ensures in
    ap Some (apart x q (is_path net x c.args.node (path net c.args.number) at) (is_path net q c.args.node (path net c.args.number) e) (at ∙ sym e))
