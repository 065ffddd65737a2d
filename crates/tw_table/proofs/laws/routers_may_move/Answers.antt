use Rattle.tw_table.proofs.Moving.{machine_stays, ruled_moves}
use Rattle.tw_table.proofs.laws.routers_may_move.Goals as goal

pub returns-clause-ruled : goal.returns-clause-ruled
returns-clause-ruled c = λ case x shares r i j s t s2 t2 ruled first second other listed l was moved.
    ruled_moves case x shares ruled r i j s t s2 t2 first second other listed l was moved

pub returns-clause-same : goal.returns-clause-same
returns-clause-same c = λ case x shares r i j s t s2 t2 ruled first second other listed l was moved.
    machine_stays case x shares ruled r i j s t s2 t2 first second other listed l was moved
