use Rattle.tw_model.proofs.Lawful as model
use Rattle.tw_seq.proofs.laws.simulation_is_lawful.Goals as goal

pub returns-clause-lawful : goal.returns-clause-lawful
returns-clause-lawful c = model.lawful

pub returns-clause-numbered : goal.returns-clause-numbered
returns-clause-numbered c = model.numbered
