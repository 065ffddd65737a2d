use Rattle.std.proofs.Common.{◌∙◌, ap, subst, sym, arith}
use Rattle.tw_commands.proofs.Pieces.{IsOnTheWay, way_ends, way_goes_on}
use Rattle.tw_commands.proofs.told.ToldRunning.run_to.Goals as goal
use Rattle.tw_commands.proofs.told.ToldRunning.run_to.Goals.{in-Some+then-is_err, in_default}

pub loop-end-preserved : goal.loop-end-preserved
loop-end-preserved g c =
    let first = g.R.Running.run c.args.self.now.run in
    let way = subst (λ run. IsOnTheWay c.args.stop first (g.R.Running.run run)) (sym c.next_end.ensures.run) c.loop-end.invariant in
    let told = c.run_to.ensures in
    let within = c.in-Some.ensures.before in
    way_goes_on c.args.stop c.in-Some.end first _ (g.R.Running.run c.run_to.new.self) way (omega arith) told.case told.stop told.goes_on

pub returns-clause-goes_on : goal.returns-clause-goes_on
returns-clause-goes_on g c =
    let first = g.R.Running.run c.args.self.now.run in
    let told = c.run_to-2.ensures in
    let before = subst (λ run. IsOnTheWay c.args.stop first (g.R.Running.run run)) (sym c.next_end.ensures.run) c.loop-end.invariant in
    let way : IsOnTheWay c.args.stop first (g.R.Running.run c.match-next_end.self.run) = elim c.match-next_end.branch [
      | in-Some+then-is_err w ↦ (
          let piece = w.run_to.ensures in
          let within = w.in-Some.ensures.before in
          subst (λ told. IsOnTheWay c.args.stop first (g.R.Running.run told.run)) (sym w.self-is)
          (way_goes_on c.args.stop w.in-Some.end first _ (g.R.Running.run w.run_to.new.self) before (omega arith) piece.case piece.stop piece.goes_on))
      | in_default w ↦ subst (λ told. IsOnTheWay c.args.stop first (g.R.Running.run told.run)) (sym w.self-is) before
    ] in
    way_ends c.args.stop first (g.R.Running.run c.match-next_end.self.run) (g.R.Running.run c.run_to-2.new.self) way told.case told.stop told.goes_on
