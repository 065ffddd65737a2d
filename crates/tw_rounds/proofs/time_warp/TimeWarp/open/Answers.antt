use Rattle.tw_process.specs.Behaviour.{simulation_of}
use Rattle.tw_rounds.proofs.Ways.{opens_alone}
use Rattle.tw_rounds.proofs.time_warp.TimeWarp.open.Goals as goal

pub returns : goal.returns
returns g c =
    let sim = λ (model : g.row.M.Denot). simulation_of g.M.Event.Timed.parts g.M.Event.Ord.cmp (g.M.ProcessModel.behaviour model) in
    let model = c.args.model.now in
    opens_alone (sim model) model c.in_ok-alone.alone c.in_ok-alone.ensures.stop c.in_ok-alone.ensures.none
