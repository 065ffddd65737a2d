use Rattle.tw_text.proofs.ReplayTold.{replay_exactly}
use Rattle.tw_text.proofs.laws.replay_of_text.Goals as goal

pub returns : goal.returns
returns c = replay_exactly
