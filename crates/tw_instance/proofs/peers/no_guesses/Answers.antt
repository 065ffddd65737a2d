use Rattle.std.proofs.Common.{refl}
use Rattle.tw_instance.proofs.Guesses.{no_guesses}
use Rattle.tw_instance.proofs.peers.no_guesses.Goals as goal

pub returns : goal.returns
returns c row = no_guesses row _ _ refl refl
