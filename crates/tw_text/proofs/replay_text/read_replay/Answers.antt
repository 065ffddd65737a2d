use Rattle.tw_text.proofs.ReplayTold.{found_replay, only_replay}
use Rattle.tw_text.proofs.replay_text.read_replay.Goals as goal

pub returns-clause-found : goal.returns-clause-found
returns-clause-found c = found_replay _ c.args.text.now c.read_exactly.ensures

pub returns-clause-only : goal.returns-clause-only
returns-clause-only c = λ case list is has e. only_replay _ c.args.text.now case list is has e c.read_exactly.ensures
