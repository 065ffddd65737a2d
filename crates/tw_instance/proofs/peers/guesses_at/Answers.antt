use Rattle.std.proofs.Common.{length, map}
use Rattle.tw_instance.proofs.peers.guesses_at.Goals as goal

pub returns-then-is_crowded : goal.returns-then-is_crowded
returns-then-is_crowded c = c.no_guesses.ensures (map (λ h. h.peer) c.args.hops.now)
